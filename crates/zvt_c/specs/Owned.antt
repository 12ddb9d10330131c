-- The memory that a handle owns.
use Rattle.std.specs.Prelude.{Option, Some, None}
use base.Fml.{Fml, ftrue}
use denote.RawPtr.{Ptr}
use Rattle.std.specs.Box.Ownership.{box_owns}
use Rattle.libc.specs.Heap.{chunk}
use Rattle.zvt_c.specs.declared.session.Session.{Session}
use Rattle.zvt_c.specs.contracts.session.Session.{the_row}

abbrev pub owned : Ptr → Option Session → Fml
owned at None = ftrue
owned at (Some x) = box_owns chunk the_row at x
