-- The laws of settling, whatever the terminal says.
use Rattle.std.specs.Prelude.{◌≡◌, ℕ, false, IsTrue, nat_eq, List, ◌++◌, Option, Some, map}
use Rattle.std.specs.List.{list_any, IsDistinct}
use Rattle.zvt_till.specs.declared.entries.Entry.{Entry}
use Rattle.zvt_till.specs.declared.messages.StatusFacts.{StatusFacts}
use Rattle.zvt_till.specs.Laws.{trace_of}
use Rattle.zvt_till.specs.Outcomes.{charged}
use Rattle.zvt_till.specs.Sending.{Settings}
use Rattle.zvt_till.specs.Statuses.{approves}
use Rattle.zvt_settle.specs.declared.deciding.Pending.{Pending}
use Rattle.zvt_settle.specs.declared.deciding.Settlement.TheVariants.{Paid}
use Rattle.zvt_settle.specs.declared.deciding.What.TheVariants.{Payment}
use Rattle.zvt_settle.specs.Deciding.{decision, did_not}
use Rattle.zvt_settle.specs.Settling.{Note, Both, both_after, standing}

-- the trace numbers of the payments that count: entries of the book, and unclear payments that were settled as paid
abbrev pub counts : Both → List ℕ
counts b = map trace_of b.till.book ++ standing b.till.book b.settling.settled

-- whatever a terminal says, in whatever order, no trace number counts twice
abbrev pub CountsOnce : Type 0
CountsOnce = (settings : Settings) (notes : List Note) → IsDistinct nat_eq (counts (both_after settings notes))

-- only the answer from before an order settles that it did not happen
abbrev pub OnlyTheSame : Type 0
OnlyTheSame =
    (currency : ℕ) (book : List Entry) (used : List ℕ) (pending : Pending) (s : StatusFacts)
    → decision currency book used pending s ≡ Some (did_not pending.what) → s ≡ pending.before

-- only an approval of the amount, in the till's currency and under an unused trace number, settles a payment as paid
abbrev pub PaidIsEarned : Type 0
PaidIsEarned =
    (currency : ℕ) (book : List Entry) (used : List ℕ) (before s : StatusFacts) (row amount other trace : ℕ) (receipt : Option (List ℕ))
    → decision currency book used (record { what = Payment row amount; before = before }) s ≡ Some (Paid other trace receipt)
    → (other ≡ row) × IsTrue (approves (charged (Some currency) amount) trace s) × (list_any (λ x. nat_eq x trace) used ≡ false)
