-- What a writer holds whose lines may have labels.
use Rattle.std.specs.Prelude.{ℕ, Bool, false, true, List, Option, Some, None, Result, Ok, Err}
use Rattle.zvt_trace.specs.declared.fault.TraceFault.{TraceFault}
use Rattle.zvt_trace.specs.declared.fault.TraceFault.TheVariants.{Memory, Read, TooLong, Trace, Write}
use Rattle.zvt.specs.declared.output.Labelling.{Labelling}

-- what a writer holds is known where its lines have no label
abbrev pub known : Option Labelling → Option (List ℕ) → Option (List ℕ)
known None contents = contents
known (Some labelling) contents = None

-- ---- why a write failed

-- a write that failed since memory was refused counts as that
abbrev pub fault_explained : (out_of_memory : Bool) → TraceFault → TraceFault
fault_explained true Write = Memory
fault_explained false Write = Write
fault_explained out_of_memory Memory = Memory
fault_explained out_of_memory Read = Read
fault_explained out_of_memory TooLong = TooLong
fault_explained out_of_memory (Trace line what) = Trace line what

abbrev pub explained : {T : Type 0} → (out_of_memory : Bool) → Result T TraceFault → Result T TraceFault
explained out_of_memory (Ok answer) = Ok answer
explained out_of_memory (Err fault) = Err (fault_explained out_of_memory fault)
