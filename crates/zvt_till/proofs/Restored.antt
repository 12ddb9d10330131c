-- The trace numbers of a book that is read row by row, and the rows that the loss of a line leaves.
use Rattle.std.proofs.Common.{◌≡◌, ℕ, zero, suc, ◌+◌, ◌<◌, Bool, false, ◌||◌, nat_eq, IfSome, List, [], ◌∷◌, length, length-append, take, get_or, Option, Some, None, slice_get, slice_set, arith, refl, sym, ap, subst, ◌∙◌, inl, inr}
use Rattle.std.proofs.lemmas.List.Folds.{list_any_more}
use Rattle.std.proofs.lemmas.Bool.{cases_lt}
use Rattle.std.proofs.Math.Bool.{or_comm}
use Rattle.std.proofs.lemmas.List.{length-set}
use Rattle.zvt_till.specs.declared.entries.Entry.{Entry}
use Rattle.zvt_till.specs.declared.happenings.Happening.TheVariants.{Lost}
use Rattle.zvt_till.specs.declared.orders.Order.{Order}
use Rattle.zvt_till.specs.declared.orders.Order.TheVariants.{Register, Pay, Reverse, CloseDay, Cancel}
use Rattle.zvt_till.specs.declared.outcomes.Cause.{Cause}
use Rattle.zvt_till.specs.declared.outcomes.Cause.TheVariants.{Line}
use Rattle.zvt_till.specs.declared.outcomes.Outcome.{Outcome}
use Rattle.zvt_till.specs.declared.outcomes.Outcome.TheVariants.{Unclear}
use Rattle.zvt_till.specs.declared.statuses.Running.{Running}
use Rattle.zvt_till.specs.Books.{Booked}
use Rattle.zvt_till.specs.Outcomes.{trace_used}
use Rattle.zvt_till.specs.Restoring.{OnceBelow, CanStand}
use Rattle.zvt_till.specs.UsedTraces.{has, AreTracesOf}
use Rattle.zvt_till.specs.Till.{TillState, entry_after, book_after, unclear_after, meet_running, meet}
use Rattle.zvt_till.specs.View.{CanEnd, CanEndRunning}
use Rattle.zvt_till.proofs.UsedTraceLemmas.{read_is}
use Rattle.zvt_till.proofs.DistinctLemmas.{once-changed}
use Rattle.zvt_till.proofs.BookStepLemmas.{same-row}

pub traces-more : (book : List Entry) (i : ℕ) (row : Entry) (used more : List ℕ) → i < length book → row ≡ get_or book i row
    → AreTracesOf used (take i book) → ((number : ℕ) → has more number ≡ (nat_eq row.trace number || has used number))
    → AreTracesOf more (take (i + 1) book)
traces-more book i row used more within is traces has_more number =
    let grown = list_any_more (λ (e : Entry). nat_eq e.trace number) book i row within in
    has_more number ∙ ap (λ (b : Bool). nat_eq row.trace number || b) (traces number)
    ∙ or_comm (nat_eq row.trace number) (trace_used number (take i book))
    ∙ ap (λ (e : Entry). trace_used number (take i book) || nat_eq e.trace number) is
    ∙ sym grown

pub once-more : (book : List Entry) (i : ℕ) (row : Entry) → i < length book → row ≡ get_or book i row
    → trace_used row.trace (take i book) ≡ false → OnceBelow i book → OnceBelow (i + 1) book
once-more book i row within is unused once k below =
    elim (cases_lt k i) [
      | inl less ↦ once k less
      | inr least ↦
          let same : i ≡ k = omega (arith, below, least) in
          subst (λ (n : ℕ). IfSome (slice_get book n) (λ r. trace_used r.trace (take n book) ≡ false)) same
          (subst (λ o. IfSome o (λ r. trace_used r.trace (take i book) ≡ false)) (sym (read_is book i row within is)) unused)
    ]

-- what the loss of its line leaves of a till

place-of : (book : List Entry) (i : ℕ) (row : Entry) → slice_get book i ≡ Some row → (i < length book) × (row ≡ get_or book i row)
place-of [] i row e = absurd cc
place-of (x ∷ book) zero row e = let same : x ≡ row = cc in (omega arith, sym same)
place-of (x ∷ book) (suc i) row e = let w = place-of book i row e in (omega (arith, w.0), w.1)

changed-stands : (book : List Entry) (unclear : List (ℕ × Cause)) (i : ℕ) (out : Outcome) (found : Option Entry) → slice_get book i ≡ found
    → CanStand book unclear → CanStand (elim found as (λ x. List Entry) [ None ↦ book | Some row ↦ slice_set book i (entry_after row out) ]) unclear
changed-stands book unclear i out None e k = k
changed-stands book unclear i out (Some row) e k =
    let w = place-of book i row e in
    let changed = entry_after row out in
    let few_booked = k.few_booked in
    record {
      few_booked = omega (arith, few_booked, length-set book i changed);
      few_unclear = k.few_unclear;
      once = once-changed book i row changed w.0 w.1 (ap (λ (b : Booked). b.trace) (same-row row out)) k.once;
    }

lost-order : (o : Order) (book : List Entry) (unclear : List (ℕ × Cause)) (spare : ℕ) → CanEnd o (length book) (length unclear) spare → CanStand book unclear
    → CanStand (book_after book o (Unclear Line)) (unclear_after unclear o (Unclear Line))
lost-order Register book unclear spare c k = k
lost-order (Pay a) book unclear spare c k =
    let less = c.2 in
    record { few_booked = k.few_booked; few_unclear = omega (arith, less, length-append unclear ((a, Line) ∷ [])); once = k.once }
lost-order (Reverse i) book unclear spare c k = changed-stands book unclear i (Unclear Line) (slice_get book i) refl k
lost-order CloseDay book unclear spare c k = k
lost-order Cancel book unclear spare c k = k

lost-by : (s : TillState) (running : Option Running) (spare : ℕ) → CanEndRunning running (length s.book) (length s.unclear) spare → CanStand s.book s.unclear
    → let after : TillState = elim running as (λ x. TillState) [ None ↦ s | Some r ↦ meet_running s r Lost ] in CanStand after.book after.unclear
lost-by s None spare c k = k
lost-by s (Some r) spare c k = lost-order r.order s.book s.unclear spare c k

pub lost-stands : (s : TillState) (spare : ℕ) → CanEndRunning s.running (length s.book) (length s.unclear) spare → CanStand s.book s.unclear → CanStand (meet s Lost).book (meet s Lost).unclear
lost-stands s spare c k = lost-by s s.running spare c k
