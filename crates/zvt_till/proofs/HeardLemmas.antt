-- What messages of one kind are heard as, and what a judged log becomes by one that ends nothing.
use Rattle.std.proofs.Common.{◌≡◌, ℕ, Bool, true, false, ◌||◌, List, [], ◌∷◌, ◌++◌, Option, Some, None, refl, sym, ap, ◌∙◌, ◌⊎◌, inl, inr}
use Rattle.zvt_apdu.specs.Kinds.{kind_of}
use Rattle.zvt_apdu.specs.Message.{Message, ack, nack, registration, authorisation, reversal, end_of_day, abort_order, status, intermediate, print_line, text_block, completion, abort, other}
use Rattle.zvt_apdu.specs.declared.kinds.Kind.{Kind}
use Rattle.zvt_apdu.specs.declared.kinds.Kind.TheVariants as kind
use Rattle.zvt_till.specs.Hearing.{heard_as}
use Rattle.zvt_till.specs.Books.{Books}
use Rattle.zvt_till.specs.Judging.{IsJudged, paying}
use Rattle.zvt_till.specs.Outcomes.{note_if}
use Rattle.zvt_till.specs.Segments.{ends, force_after, in_force, is_positive, status_of}
use Rattle.zvt_till.specs.declared.happenings.Happening.{Happening}
use Rattle.zvt_till.specs.declared.happenings.Happening.TheVariants.{Heard as HeardIn}
use Rattle.zvt_till.specs.declared.log_books.OpenPayment.{OpenPayment}
use Rattle.zvt_till.specs.declared.messages.Heard.{Heard}
use Rattle.zvt_till.specs.declared.messages.Heard.TheVariants.{Positive, Passing, Completion}
use Rattle.zvt_till.proofs.BooksLemmas.{judged-rest, judged-more}
use Rattle.zvt_till.proofs.Segments.{fold-snoc}

-- what a kind of message is heard as, where that depends on the kind alone
abbrev heard_at : Kind → Heard → Heard
heard_at kind.Ack heard = Positive
heard_at kind.Nack heard = heard
heard_at kind.Registration heard = heard
heard_at kind.Authorisation heard = heard
heard_at kind.Reversal heard = heard
heard_at kind.EndOfDay heard = heard
heard_at kind.AbortOrder heard = heard
heard_at kind.Status heard = heard
heard_at kind.Intermediate heard = Passing
heard_at kind.PrintLine heard = Passing
heard_at kind.TextBlock heard = Passing
heard_at kind.Completion heard = Completion
heard_at kind.Abort heard = heard
heard_at kind.Other heard = heard

heard-at : (m : Message) → heard_as m ≡ heard_at (kind_of m) (heard_as m)
heard-at (ack payload) = refl
heard-at (nack code payload) = refl
heard-at (registration password config rest) = refl
heard-at (authorisation fields) = refl
heard-at (reversal password fields) = refl
heard-at (end_of_day password fields) = refl
heard-at (abort_order fields) = refl
heard-at (status fields) = refl
heard-at (intermediate step payload) = refl
heard-at (print_line attribute text) = refl
heard-at (text_block fields) = refl
heard-at (completion fields) = refl
heard-at (abort code payload) = refl
heard-at (other high low payload) = refl

pub heard-by-kind : (m : Message) (k : Kind) → kind_of m ≡ k → heard_as m ≡ heard_at k (heard_as m)
heard-by-kind m k is = heard-at m ∙ ap (λ x. heard_at x (heard_as m)) is

pub passing-kinds : (m : Message) (k : Kind) → k ≡ kind_of m → (k ≡ kind.Intermediate) ⊎ ((k ≡ kind.PrintLine) ⊎ (k ≡ kind.TextBlock)) → heard_as m ≡ Passing
passing-kinds m k named (inl is) = heard-by-kind m kind.Intermediate (sym named ∙ is)
passing-kinds m k named (inr (inl is)) = heard-by-kind m kind.PrintLine (sym named ∙ is)
passing-kinds m k named (inr (inr is)) = heard-by-kind m kind.TextBlock (sym named ∙ is)

-- something is heard while no payment runs
pub heard-rest : (log : List Happening) (m : Heard) (b : Books) (force : Option ℕ) (running : Option OpenPayment) → running ≡ None
    → IsJudged log b running × (force ≡ in_force log) → IsJudged (log ++ HeardIn m ∷ []) b running × (force ≡ in_force (log ++ HeardIn m ∷ []))
heard-rest log m b force None is judged = (judged-rest log (HeardIn m) b refl judged.0, judged.1 ∙ sym (fold-snoc force_after None log (HeardIn m)))
heard-rest log m b force (Some p) is judged = cc

-- something is heard that does not end the payment that runs
pub heard-more : (log : List Happening) (m : Heard) (b : Books) (force : Option ℕ) (running : Option OpenPayment) (p q : OpenPayment) → running ≡ Some p → ends p.positive (HeardIn m) ≡ false
    → q.amount ≡ p.amount → q.currency ≡ p.currency → q.positive ≡ (p.positive || is_positive (HeardIn m)) → q.statuses ≡ note_if (paying p.currency p.amount) p.statuses (status_of (HeardIn m))
    → IsJudged log b running × (force ≡ in_force log) → IsJudged (log ++ HeardIn m ∷ []) b (Some q) × (force ≡ in_force (log ++ HeardIn m ∷ []))
heard-more log m b force running p q is unended amount currency positive noted judged =
    let runs = rw is at judged.0 in
    (judged-more log (HeardIn m) b p q refl unended amount currency positive noted runs, judged.1 ∙ sym (fold-snoc force_after None log (HeardIn m)))

pub or-false : (b : Bool) → b ≡ (b || false)
or-false true = refl
or-false false = refl

pub or-true : (b : Bool) → true ≡ (b || true)
or-true true = refl
or-true false = refl

-- a positive answer
pub heard-positive : (log : List Happening) (m : Heard) (b : Books) (force : Option ℕ) (running : Option OpenPayment) (p : OpenPayment) → m ≡ Positive → running ≡ Some p
    → IsJudged log b running × (force ≡ in_force log)
    → IsJudged (log ++ HeardIn m ∷ []) b (Some (record { amount = p.amount; currency = p.currency; positive = true; statuses = p.statuses })) × (force ≡ in_force (log ++ HeardIn m ∷ []))
heard-positive log m b force running p positive is judged =
    rw positive (heard-more log Positive b force running p _ is refl refl refl (or-true p.positive) refl judged)

-- what passes leaves the books
pub heard-passing : (log : List Happening) (m : Heard) (b : Books) (force : Option ℕ) (running : Option OpenPayment) → m ≡ Passing
    → IsJudged log b running × (force ≡ in_force log) → IsJudged (log ++ HeardIn m ∷ []) b running × (force ≡ in_force (log ++ HeardIn m ∷ []))
heard-passing log m b force None passes judged = heard-rest log m b force None refl judged
heard-passing log m b force (Some p) passes judged = rw passes (heard-more log Passing b force (Some p) p p refl refl refl refl (or-false p.positive) refl judged)
