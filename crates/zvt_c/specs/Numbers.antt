-- Outcomes and rows in numbers.
use Rattle.std.specs.Prelude.{◌≡◌, ℕ, ◌+◌, ◌*◌, Bool, cond, List, length, Option, Some, None, is_some, option_map, slice_index_or}
use Rattle.zvt_till.specs.declared.entries.Doubt.{Doubt}
use Rattle.zvt_till.specs.declared.entries.Doubt.TheVariants.{No, Unclear as UnclearReversal, TakenBack}
use Rattle.zvt_till.specs.declared.entries.Entry.{Entry}
use Rattle.zvt_till.specs.declared.outcomes.Cause.{Cause}
use Rattle.zvt_till.specs.declared.outcomes.Outcome.{Outcome}
use Rattle.zvt_till.specs.declared.outcomes.Outcome.TheVariants.{Registered, Paid, Declined, Refused, Aborted, Unclear, Reversed, DayClosed}
use Rattle.zvt_till.specs.declared.orders.Order.{Order}
use Rattle.zvt_till.specs.declared.orders.Order.TheVariants.{Register, Pay, Reverse, CloseDay, Cancel}
use Rattle.zvt_till.specs.Doubts.{unclear_reversals}
use Rattle.zvt_till.specs.Marks.{total}
use Rattle.zvt_till.specs.Numbers.{no_numbers}
use Rattle.zvt_till.specs.declared.numbers.Numbers.{Numbers}
use Rattle.zvt_till.specs.SnapshotEncoded.{cause_code}
use Rattle.zvt_settle.specs.Inside.{settling_of}
use Rattle.zvt_c.specs.declared.session.Session.{Session}
use Rattle.zvt_c.specs.declared.numbers.ZvtOutcome.{ZvtOutcome}
use Rattle.zvt_c.specs.declared.numbers.ZvtState.{ZvtState}
use Rattle.zvt_c.specs.declared.numbers.ZvtStep.{ZvtStep}
use Rattle.zvt_c.specs.declared.numbers.ZvtEntry.{ZvtEntry}

-- A receipt number, and 1 if there is one.
abbrev pub receipt_of : Option (List ℕ) → ℕ × ℕ
receipt_of None = (0, 0)
receipt_of (Some bytes) = (slice_index_or bytes 0 0 * 256 + slice_index_or bytes 1 0, 1)

abbrev pub coded : (kind code : ℕ) → ZvtOutcome
coded kind code = record { kind = kind; code = code; trace = 0; receipt = 0; has_receipt = 0 }

abbrev pub paid : (trace : ℕ) → Option (List ℕ) → ZvtOutcome
paid trace receipt = record { kind = 2; code = 0; trace = trace; receipt = (receipt_of receipt).0; has_receipt = (receipt_of receipt).1 }

abbrev pub ended : Outcome → ZvtOutcome
ended Registered = coded 1 0
ended (Paid trace receipt) = paid trace receipt
ended (Declined code) = coded 3 code
ended (Refused code) = coded 4 code
ended (Aborted code) = coded 5 code
ended (Unclear cause) = coded 6 (cause_code cause)
ended Reversed = coded 7 0
ended DayClosed = coded 8 0

-- How an order ended, if it did.
abbrev pub outcome_of : Option Outcome → ZvtOutcome
outcome_of None = coded 0 0
outcome_of (Some outcome) = ended outcome

-- A step that sends nothing.
abbrev pub silent : (taken place reason : ℕ) → ZvtOutcome → ZvtStep
silent taken place reason outcome =
    record { taken = taken; send = 0; place = place; line = 0; reason = reason; message = 0; printed = 0; outcome = outcome }

-- A step that takes, sends and ends nothing.
abbrev pub nothing : ZvtStep
nothing = silent 0 0 0 (outcome_of None)

-- Nothing but that many bytes to send.
abbrev pub only_sends : ℕ → ZvtStep
only_sends send = record { taken = 0; send = send; place = 0; line = 0; reason = 0; message = 0; printed = 0; outcome = outcome_of None }

-- The doubt about a payment's reversals, and the cause if the last one is unclear.
abbrev pub doubt_of : Doubt → ℕ × ℕ
doubt_of No = (0, 0)
doubt_of (UnclearReversal cause) = (1, cause_code cause)
doubt_of TakenBack = (2, 0)

-- A row of the book.
abbrev pub row_of : Entry → ZvtEntry
row_of entry =
    record {
      amount = entry.amount;
      trace = entry.trace;
      receipt = (receipt_of entry.receipt).0;
      has_receipt = (receipt_of entry.receipt).1;
      reversed = cond entry.reversed 1 0;
      cause = (doubt_of entry.doubt).1;
      doubt = (doubt_of entry.doubt).0;
    }

-- A trace number that the terminal named, or 0.
abbrev pub trace_of : Option ℕ → ℕ
trace_of None = 0
trace_of (Some trace) = trace

-- The numbers that the terminal named for a payment, if any.
abbrev pub numbers_of : Option Numbers → Numbers
numbers_of None = no_numbers
numbers_of (Some numbers) = numbers

-- An unclear payment, with the numbers that the terminal named for it.
abbrev pub unclear_row_of : ℕ × Cause → Numbers → ZvtEntry
unclear_row_of row heard =
    record {
      amount = row.0;
      trace = trace_of heard.trace;
      receipt = (receipt_of heard.receipt).0;
      has_receipt = (receipt_of heard.receipt).1;
      reversed = 0;
      cause = cause_code row.1;
      doubt = 0;
    }

-- The kind of the running order, or 0 if none is running.
abbrev pub kind_of_running : Option Order → ℕ
kind_of_running None = 0
kind_of_running (Some Register) = 1
kind_of_running (Some (Pay amount)) = 2
kind_of_running (Some (Reverse entry)) = 3
kind_of_running (Some CloseDay) = 4
kind_of_running (Some Cancel) = 5

-- The number of what is running: an order, an ask, or nothing.
abbrev pub running_of : (asking : Bool) → Option Order → ℕ
running_of asking order = cond asking 6 (kind_of_running order)

-- The state of a till and its stream.
pub record IsStateOf (end : Session) (state : ZvtState) : Type 0 where
  pub sum : state.total ≡ total end.till.till.state.book
  pub booked : state.booked ≡ length end.till.till.state.book
  pub unclear : state.unclear ≡ length end.till.till.state.unclear
  pub unclear_reversals : state.unclear_reversals ≡ length (unclear_reversals end.till.till.state.book)
  pub settled : state.settled ≡ length (settling_of end.till).settled
  pub held : state.held ≡ length end.stream.held
  pub running : state.running ≡ running_of (is_some end.till.asking) (option_map (λ running. running.order) end.till.till.state.running)
  pub registered : state.registered ≡ cond end.till.till.state.registered 1 0
  pub last : state.last ≡ outcome_of end.till.till.state.last_outcome
