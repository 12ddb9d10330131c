-- The effect of a caller's ask on a till, and what asks settle, in numbers.
use Rattle.std.specs.Prelude.{◌≡◌, ℕ, cond, List, [], ◌∷◌, Option, Some, None, is_some}
use Rattle.zvt_till.specs.Till.{facts_of}
use Rattle.zvt_till.specs.declared.orders.OrderRefusal.{OrderRefusal}
use Rattle.zvt_settle.specs.Askers.{AcceptsAsk, IsAskRefusedAs, KeepsAll}
use Rattle.zvt_settle.specs.Inside.{settling_of}
use Rattle.zvt_settle.specs.Settling.{Settling, new_settling}
use Rattle.zvt_settle.specs.declared.deciding.Pending.{Pending}
use Rattle.zvt_settle.specs.declared.deciding.Settlement.{Settlement}
use Rattle.zvt_settle.specs.declared.deciding.Settlement.TheVariants.{Paid, NotPaid, Reversed, NotReversed}
use Rattle.zvt_settle.specs.declared.deciding.What.{What}
use Rattle.zvt_settle.specs.declared.deciding.What.TheVariants.{Payment, Reversal}
use Rattle.zvt_c.specs.declared.asking.ZvtPending.{ZvtPending}
use Rattle.zvt_c.specs.declared.asking.ZvtSettlement.{ZvtSettlement}
use Rattle.zvt_c.specs.declared.numbers.ZvtStep.{ZvtStep}
use Rattle.zvt_c.specs.declared.session.Session.{Session}
use Rattle.zvt_c.specs.Numbers.{nothing, only_sends, receipt_of}
use Rattle.zvt_c.specs.Ordering.{status_of}
use Rattle.zvt_c.specs.Saving.{Written}
use Rattle.zvt_c.specs.Statuses as statuses

-- An ask is sent: its bytes are at the start of the buffer, the ask is running, and the answer contains only their number.
-- Or the ask is refused: nothing changes, and the answer is empty.
pub data AsksEnd (before after : Session) (buffer_before buffer_after : List ℕ) (answer : ZvtStep) (status : ℕ) : Type 0 where
  asked : (bytes : List ℕ) → AcceptsAsk bytes before.till.till (settling_of before.till) after.till.till (settling_of after.till) → after.stream ≡ before.stream → after.card ≡ before.card
      → Written bytes answer.send buffer_before buffer_after → answer ≡ only_sends answer.send → status ≡ statuses.ok → AsksEnd before after buffer_before buffer_after answer status
  refused : (why : OrderRefusal) → IsAskRefusedAs (facts_of before.till.till.state) before.till.asking why → KeepsAll before.till.till (settling_of before.till) after.till.till (settling_of after.till)
      → after.stream ≡ before.stream → after.card ≡ before.card → buffer_after ≡ buffer_before → answer ≡ nothing → status ≡ status_of why → AsksEnd before after buffer_before buffer_after answer status

-- The till of a handle asks. With a closed handle nothing changes, and the answer is empty.
abbrev pub AsksHandle : Option Session → Option Session → (buffer_before buffer_after : List ℕ) → ZvtStep → (status : ℕ) → Type 0
AsksHandle None after buffer_before buffer_after answer status = (after ≡ None) × (buffer_after ≡ buffer_before) × (answer ≡ nothing) × (status ≡ statuses.closed)
AsksHandle (Some before) after buffer_before buffer_after answer status = (end : Session) × (after ≡ Some end) × AsksEnd before end buffer_before buffer_after answer status

-- ---- what was settled, and what is pending

-- A settlement of this kind without numbers of the terminal.
abbrev pub unnumbered : (kind place : ℕ) → ZvtSettlement
unnumbered kind place = record { place = place; kind = kind; trace = 0; receipt = 0; has_receipt = 0 }

abbrev pub settlement_of : Settlement → ZvtSettlement
settlement_of (Paid row trace receipt) = record { place = row; kind = 1; trace = trace; receipt = (receipt_of receipt).0; has_receipt = (receipt_of receipt).1 }
settlement_of (NotPaid row) = unnumbered 2 row
settlement_of (Reversed entry) = unnumbered 3 entry
settlement_of (NotReversed entry) = unnumbered 4 entry

-- The kind of an unclear order, and its index.
abbrev pub what_of : What → ℕ × ℕ
what_of (Payment row amount) = (1, row)
what_of (Reversal entry) = (2, entry)

abbrev pub waiting : Option Pending → ℕ × ℕ
waiting None = (0, 0)
waiting (Some pending) = what_of pending.what

-- The unclear order that waits for an answer, and whether the terminal's last status is known.
abbrev pub pending_of : Settling → ZvtPending
pending_of settling = record { place = (waiting settling.pending).1; kind = (waiting settling.pending).0; last_known = cond (is_some settling.last) 1 0 }

-- ---- worked rows

abbrev pub AskingRows : Type 0
AskingRows =
    (settlement_of (Paid 2 17 (Some (0 ∷ 5 ∷ []))) ≡ record { place = 2; kind = 1; trace = 17; receipt = 5; has_receipt = 1 }) ×
    (settlement_of (Paid 0 17 None) ≡ record { place = 0; kind = 1; trace = 17; receipt = 0; has_receipt = 0 }) ×
    (settlement_of (NotReversed 3) ≡ record { place = 3; kind = 4; trace = 0; receipt = 0; has_receipt = 0 }) ×
    (what_of (Payment 1 500) ≡ (1, 1)) ×
    (what_of (Reversal 3) ≡ (2, 3)) ×
    (pending_of new_settling ≡ record { place = 0; kind = 0; last_known = 0 })
