-- What a relay between a till and its terminal answers.
use Rattle.std.specs.Prelude.{◌≡◌, ◌⊎◌, ◌≤◌, ◌+◌, ◌-◌, ◌^◌, ℕ, Bool, true, false, List, [], ◌∷◌, ◌++◌, Option, Result, Ok, Err}
use Rattle.std.specs.Io.KnownBytes.{Appends, Consumes, IsAtEnd}
use Rattle.zvt_io.specs.Devices.{IsPrefix}
use Rattle.zvt_trace.specs.declared.direction.Direction.{Direction}
use Rattle.zvt_trace.specs.declared.direction.Direction.TheVariants.{FromTerminal, FromTill}
use Rattle.zvt_trace.specs.declared.listener.ListenerError.{ListenerError}
use Rattle.zvt_trace.specs.declared.listener.ListenerError.TheVariants as failure
use Rattle.zvt_tap.specs.Chunks.{Chunk, IsAll, Moves, Sides, bytes_along, chunk, coming}
use Rattle.zvt_tap.specs.declared.relay.Ended.{Ended}
use Rattle.zvt_tap.specs.declared.fault.TapFault.{TapFault}
use Rattle.zvt_tap.specs.declared.fault.TapFault.TheVariants.{Memory, Read, Trace, Wait, Write}

-- ---- one chunk

-- What passing a chunk from this side answers, with what is to come of the one side and what was written to the other. `Observed`
-- says that these bytes were observed besides, `Missed` that they were to be and the line has to stop, and `Same` that nothing
-- was observed.
abbrev pub AnswersPass : Direction → (Observed : List ℕ → Type 0) → (Missed : ListenerError → List ℕ → Type 0) → (Same : Type 0) → (left rest old new : Option (List ℕ)) → Result Bool TapFault → Type 0
AnswersPass from Observed Missed Same left rest old new (Ok true) = (bytes : List ℕ) × Consumes left rest bytes × Appends old new bytes × Observed bytes
AnswersPass from Observed Missed Same left rest old new (Ok false) = Consumes left rest [] × IsAtEnd rest × (new ≡ old) × Same
AnswersPass from Observed Missed Same left rest old new (Err (Read failed)) = (failed ≡ from) × Consumes left rest [] × (new ≡ old) × Same
AnswersPass from Observed Missed Same left rest old new (Err (Write failed)) =
    (failed ≡ from) × (bytes : List ℕ) × (part : List ℕ) × IsPrefix part bytes × Consumes left rest bytes × Appends old new part × Observed bytes
AnswersPass from Observed Missed Same left rest old new (Err Trace) = (bytes : List ℕ) × Consumes left rest bytes × (new ≡ old) × Missed failure.Write bytes
AnswersPass from Observed Missed Same left rest old new (Err Memory) = (bytes : List ℕ) × Consumes left rest bytes × (new ≡ old) × Missed failure.Memory bytes
AnswersPass from Observed Missed Same left rest old new (Err Wait) = ⊥

-- The same, with both sides.
abbrev pub AnswersTurn : Direction → (Observed : List ℕ → Type 0) → (Missed : ListenerError → List ℕ → Type 0) → (Same : Type 0) → (old new : Sides) → Result Bool TapFault → Type 0
AnswersTurn from Observed Missed Same old new (Ok true) = (bytes : List ℕ) × Moves (chunk from bytes ∷ []) (chunk from bytes ∷ []) old new × Observed bytes
AnswersTurn from Observed Missed Same old new (Ok false) = Moves [] [] old new × IsAtEnd (coming from new) × Same
AnswersTurn from Observed Missed Same old new (Err (Read failed)) = (failed ≡ from) × Moves [] [] old new × Same
AnswersTurn from Observed Missed Same old new (Err (Write failed)) =
    (failed ≡ from) × (bytes : List ℕ) × (part : List ℕ) × IsPrefix part bytes × Moves (chunk from bytes ∷ []) (chunk from part ∷ []) old new × Observed bytes
AnswersTurn from Observed Missed Same old new (Err Trace) = (bytes : List ℕ) × Moves (chunk from bytes ∷ []) [] old new × Missed failure.Write bytes
AnswersTurn from Observed Missed Same old new (Err Memory) = (bytes : List ℕ) × Moves (chunk from bytes ∷ []) [] old new × Missed failure.Memory bytes
AnswersTurn from Observed Missed Same old new (Err Wait) = ⊥

-- ---- a run

-- These chunks passed in this order, and were observed.
abbrev pub Passes : (Observed : List Chunk → Type 0) → (old new : Sides) → List Chunk → Type 0
Passes Observed old new chunks = Moves chunks chunks old new × Observed chunks

-- What a relay answers. All chunks passed that were read, and at `Ok` these are all bytes of both sides. At `Write` a part of
-- the last chunk passed, which was observed whole. At `Trace` and `Memory` nothing of it passed, since it was missed: `Stopped`
-- says by what failure, after which chunks.
abbrev pub AnswersRelay : (Observed : List Chunk → Type 0) → (Stopped : ListenerError → List Chunk → Chunk → Type 0) → (old new : Sides) → Result Unit TapFault → Type 0
AnswersRelay Observed Stopped old new (Ok ended) =
    (chunks : List Chunk) × Passes Observed old new chunks × IsAll old.till (bytes_along FromTill chunks) × IsAll old.terminal (bytes_along FromTerminal chunks)
AnswersRelay Observed Stopped old new (Err (Read failed)) = (chunks : List Chunk) × Passes Observed old new chunks
AnswersRelay Observed Stopped old new (Err Wait) = (chunks : List Chunk) × Passes Observed old new chunks
AnswersRelay Observed Stopped old new (Err (Write failed)) =
    (chunks : List Chunk) × (bytes : List ℕ) × (part : List ℕ) × IsPrefix part bytes × Moves (chunks ++ chunk failed bytes ∷ []) (chunks ++ chunk failed part ∷ []) old new
    × Observed (chunks ++ chunk failed bytes ∷ [])
AnswersRelay Observed Stopped old new (Err Trace) = (chunks : List Chunk) × (last : Chunk) × Moves (chunks ++ last ∷ []) chunks old new × Stopped failure.Write chunks last
AnswersRelay Observed Stopped old new (Err Memory) = (chunks : List Chunk) × (last : Chunk) × Moves (chunks ++ last ∷ []) chunks old new × Stopped failure.Memory chunks last

-- A read failed where that is the fault, or a write, and no other.
abbrev pub CountsFaults : {X : Type 0} → (reads_before reads_after writes_before writes_after : ℕ) → Result X TapFault → Type 0
CountsFaults reads_before reads_after writes_before writes_after (Ok done) = (reads_after ≡ reads_before) × (writes_after ≡ writes_before)
CountsFaults reads_before reads_after writes_before writes_after (Err (Read failed)) = (reads_after ≡ reads_before + 1) × (writes_after ≡ writes_before)
CountsFaults reads_before reads_after writes_before writes_after (Err (Write failed)) = (reads_after ≡ reads_before) × (writes_after ≡ writes_before + 1)
CountsFaults reads_before reads_after writes_before writes_after (Err Trace) = (reads_after ≡ reads_before) × (writes_after ≡ writes_before)
CountsFaults reads_before reads_after writes_before writes_after (Err Memory) = (reads_after ≡ reads_before) × (writes_after ≡ writes_before)
CountsFaults reads_before reads_after writes_before writes_after (Err Wait) = (reads_after ≡ reads_before) × (writes_after ≡ writes_before)

-- A wait failed where that is the fault, or so often was waited, and none else.
abbrev pub Waits : (waits failures_before failures_after : ℕ) → Result Unit TapFault → Type 0
Waits waits before after (Err Wait) = (after ≡ before + 1) ⊎ (after ≡ before) × (2 ^ 64 - 1 ≤ waits)
Waits waits before after (Ok ended) = after ≡ before
Waits waits before after (Err (Read failed)) = after ≡ before
Waits waits before after (Err (Write failed)) = after ≡ before
Waits waits before after (Err Trace) = after ≡ before
Waits waits before after (Err Memory) = after ≡ before

-- the sides that have come to their end, once this one has
abbrev pub ended_after : Direction → Ended → Ended
ended_after FromTill ended = record ended { till = true }
ended_after FromTerminal ended = record ended { terminal = true }
