-- The effect of several messages on a till and its stream.
use Rattle.std.specs.Prelude.{◌≡◌, ℕ, ◌+◌, ◌-◌, ◌==◌, ◌&&◌, nat_lt, nat_le, Bool, true, false, cond, List, ◌++◌, length, take, drop, Option, Some, None}
use Rattle.zvt_c.specs.declared.session.Session.{Session}
use Rattle.zvt_c.specs.declared.numbers.ZvtStep.{ZvtStep}
use Rattle.zvt_c.specs.Feeding.{FeedsEnd}
use Rattle.zvt_c.specs.Numbers.{nothing}
use Rattle.zvt_c.specs.Statuses as statuses

-- The step so far and the step of one more message: the bytes taken and the bytes to send add up, and the first outcome
-- stays.
abbrev pub added : (so_far one : ZvtStep) → ZvtStep
added so_far one =
    record {
      taken = so_far.taken + one.taken;
      send = so_far.send + one.send;
      place = one.place;
      line = one.line;
      reason = one.reason;
      message = cond (one.message == 0) so_far.message 1;
      printed = one.printed;
      outcome = cond (so_far.outcome.kind == 0) one.outcome so_far.outcome;
    }

-- Bytes of the input are left, there is room for a reply, and no line waits to be printed.
abbrev pub goes_on : (piece buffer : ℕ) → ZvtStep → Bool
goes_on piece buffer so_far = nat_lt so_far.taken piece && (nat_le 32 (buffer - so_far.send) && (so_far.printed == 0))

-- Single feeds one after another, each of the rest of the input, into the rest of the buffer.
pub data FedSoFar (before : Session) (piece buffer line : List ℕ) : Session → List ℕ → List ℕ → ZvtStep → Type 0 where
  start : FedSoFar before piece buffer line before buffer line nothing
  further : {end after : Session} {buffer_so_far rest line_so_far line_after : List ℕ} {so_far one : ZvtStep}
      → FedSoFar before piece buffer line end buffer_so_far line_so_far so_far → goes_on (length piece) (length buffer) so_far ≡ true
      → FeedsEnd end (drop so_far.taken piece) after (drop so_far.send buffer_so_far) rest line_so_far line_after one statuses.ok
      → FedSoFar before piece buffer line after (take so_far.send buffer_so_far ++ rest) line_after (added so_far one)

-- Feeds continue for as long as possible; or the last one is refused or fails, and the steps of the others still count.
pub data FeedsAll (before : Session) (piece : List ℕ) (after : Session) (buffer_before buffer_after line_before line_after : List ℕ) (answer : ZvtStep) (status : ℕ) : Type 0 where
  ended : FedSoFar before piece buffer_before line_before after buffer_after line_after answer → goes_on (length piece) (length buffer_before) answer ≡ false → status ≡ statuses.ok
      → FeedsAll before piece after buffer_before buffer_after line_before line_after answer status
  broken : {end : Session} {buffer_so_far rest line_so_far : List ℕ} {so_far one : ZvtStep}
      → FedSoFar before piece buffer_before line_before end buffer_so_far line_so_far so_far → goes_on (length piece) (length buffer_before) so_far ≡ true
      → FeedsEnd end (drop so_far.taken piece) after (drop so_far.send buffer_so_far) rest line_so_far line_after one status → (status ≡ statuses.ok → ⊥)
      → buffer_after ≡ take so_far.send buffer_so_far ++ rest → answer ≡ added so_far one
      → FeedsAll before piece after buffer_before buffer_after line_before line_after answer status

-- A handle is fed message by message.
abbrev pub FeedsAllHandle : Option Session → (piece : List ℕ) → Option Session → (buffer_before buffer_after line_before line_after : List ℕ) → ZvtStep → (status : ℕ) → Type 0
FeedsAllHandle None piece after buffer_before buffer_after line_before line_after answer status =
    (after ≡ None) × (buffer_after ≡ buffer_before) × (line_after ≡ line_before) × (answer ≡ nothing) × (status ≡ statuses.closed)
FeedsAllHandle (Some before) piece after buffer_before buffer_after line_before line_after answer status =
    (end : Session) × (after ≡ Some end) × FeedsAll before piece end buffer_before buffer_after line_before line_after answer status
