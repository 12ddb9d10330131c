-- The turns of a line.
use Rattle.std.specs.Prelude.{◌≡◌, ℕ, zero, suc, ◌+◌, ◌<◌, ◌≤◌, length, Bool, true, false, ◌||◌, ◌⊎◌, List, Option}
use Rattle.zvt_apdu.specs.Message.{Message}
use Rattle.zvt_stream.specs.StreamState.{StreamState}
use Rattle.zvt_stream.specs.Answered.{Answered}
use Rattle.zvt_stream.specs.LineRun.{Pumped, Broken, there_at_once, reached}
use Rattle.zvt_stream.specs.declared.line.LineFault.{LineFault}
use Rattle.zvt_stream.specs.declared.line.LineFault.TheVariants.{Read, Write, Ended, Turns, Malformed, Memory, Stopped}
use Rattle.zvt_stream.specs.declared.line.Until.{Until}

-- Both ends of a line, and whether a message was written since the start.
pub record LineState (S : Type 0) : Type 0 where
  pub stream : StreamState
  pub machine : S
  pub coming : Option (List ℕ)
  pub written : Option (List ℕ)
  pub sent : Bool

-- One turn: it read some bytes, and every message in them was heard and answered.
pub record Turned {S : Type 0} (step : S → Message → Answered → S → Type 0) (old new : LineState S) : Type 0 where
  pub sent : Bool
  pub pumped : Pumped step old.stream new.stream old.machine new.machine old.coming new.coming old.written new.written sent
  pub one_read : length pumped.read ≤ 1024
  pub some_read : 0 < length pumped.read
  pub sending : new.sent ≡ (old.sent || sent)

-- This many turns. The condition held after none of them.
abbrev pub Waited : {S : Type 0} → (S → Message → Answered → S → Type 0) → (S → Bool) → Until → ℕ → LineState S → LineState S → Type 0
Waited step resting until zero old new = old ≡ new
Waited {S} step resting until (suc n) old new = (middle : LineState S) × Waited step resting until n old middle × Turned step middle new × (reached until (resting new.machine) new.sent ≡ false)

-- The last turn was the first after which the condition held, and fewer turns than allowed came before it.
pub record Arrived {S : Type 0} (step : S → Message → Answered → S → Type 0) (resting : S → Bool) (until : Until) (turns reads : ℕ) (old new : LineState S) : Type 0 where
  pub before : ℕ
  pub middle : LineState S
  pub fewer : before < turns
  pub each_reads : reads ≡ before + 1
  pub waited : Waited step resting until before old middle
  pub last : Turned step middle new
  pub there : reached until (resting new.machine) new.sent ≡ true

-- A line as a call begins, with nothing written in it.
abbrev pub line_state : {S : Type 0} → StreamState → S → Option (List ℕ) → Option (List ℕ) → LineState S
line_state stream machine coming written = record { stream = stream; machine = machine; coming = coming; written = written; sent = false }

-- A line as a call ends, whether or not a message was written in it.
abbrev pub line_ends : {S : Type 0} → StreamState → S → Option (List ℕ) → Option (List ℕ) → Bool → LineState S
line_ends stream machine coming written sent = record { stream = stream; machine = machine; coming = coming; written = written; sent = sent }

-- The condition held after this many turns, of one read each.
abbrev pub Arrives : {S : Type 0} → (S → Message → Answered → S → Type 0) → (S → Bool) → Until → ℕ → ℕ → ℕ → LineState S → (Bool → LineState S) → Type 0
Arrives step resting until turns reads_before reads_after old new =
    (reads : ℕ) × (sent : Bool) × (reads_after ≡ reads_before + reads) × Arrived step resting until turns reads old (new sent)

-- The condition held: at once, if the machine was to come to rest and was at rest, or after some turns.
abbrev pub Ends : {S : Type 0} → (S → Message → Answered → S → Type 0) → (S → Bool) → Until → ℕ → ℕ → ℕ → LineState S → (Bool → LineState S) → Type 0
Ends step resting until turns reads_before reads_after old new =
    ((there_at_once until (resting old.machine) ≡ true) × (reads_after ≡ reads_before) × (new false ≡ old))
    ⊎ ((there_at_once until (resting old.machine) ≡ false) × Arrives step resting until turns reads_before reads_after old new)

-- A turn broke, after this many turns of one read each.
abbrev pub Broke : {S : Type 0} → (S → Message → Answered → S → Type 0) → LineFault → (turns before reads_before reads_after : ℕ) → LineState S → LineState S → Type 0
Broke step fault turns before reads_before reads_after middle new =
    (before < turns) × (reads_after ≡ reads_before + (before + 1))
    × Broken step fault middle.stream new.stream middle.machine new.machine middle.coming new.coming middle.written new.written

-- The fault came in the turn after these, or these were all turns.
abbrev pub Last : {S : Type 0} → (S → Message → Answered → S → Type 0) → LineFault → (turns before reads_before reads_after : ℕ) → LineState S → (Bool → LineState S) → Type 0
Last step Turns turns before reads_before reads_after middle new = (before ≡ turns) × (reads_after ≡ reads_before + turns) × (new middle.sent ≡ middle)
Last step Read turns before reads_before reads_after middle new = Broke step Read turns before reads_before reads_after middle (new middle.sent)
Last step Write turns before reads_before reads_after middle new = Broke step Write turns before reads_before reads_after middle (new middle.sent)
Last step (Ended have) turns before reads_before reads_after middle new = Broke step (Ended have) turns before reads_before reads_after middle (new middle.sent)
Last step (Malformed place why) turns before reads_before reads_after middle new = Broke step (Malformed place why) turns before reads_before reads_after middle (new middle.sent)
Last step Memory turns before reads_before reads_after middle new = Broke step Memory turns before reads_before reads_after middle (new middle.sent)
Last step Stopped turns before reads_before reads_after middle new = Broke step Stopped turns before reads_before reads_after middle (new middle.sent)

-- The condition held after no turn before the fault.
pub record Falters {S : Type 0} (step : S → Message → Answered → S → Type 0) (resting : S → Bool) (until : Until) (fault : LineFault) (turns reads_before reads_after : ℕ) (old : LineState S) (new : Bool → LineState S) : Type 0 where
  pub before : ℕ
  pub middle : LineState S
  pub waited : Waited step resting until before old middle
  pub last : Last step fault turns before reads_before reads_after middle new
