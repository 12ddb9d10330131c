-- The result of a run whose journal failed.
use Rattle.std.specs.Prelude.{Bool, true, false, Result, Ok, Err}
use Rattle.zvt_runs.specs.declared.fault.EndFault.{EndFault}
use Rattle.zvt_runs.specs.declared.fault.EndFault.TheVariants.{Book, Line, Unsuccessful}

-- If the book failed, the fault is the book's, whether the run was completed or the line was given up.
abbrev pub by_book : (failed : Bool) → Result Unit EndFault → Result Unit EndFault
by_book false result = result
by_book true (Ok done) = Err Book
by_book true (Err (Line fault)) = Err Book
by_book true (Err Unsuccessful) = Err Book
by_book true result = result
