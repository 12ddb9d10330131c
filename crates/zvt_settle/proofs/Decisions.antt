-- What follows from a decision.
use Rattle.std.proofs.Common.{rules, ◌≡◌, IsTrue, ℕ, Bool, true, false, not, cond, ◌&&◌, ◌||◌, nat_eq, List, [], ◌∷◌, ◌++◌, Option, Some, None, map, option_map, slice_get, refl, sym, ap, subst, ◌∙◌}
use Rattle.std.specs.List.{list_any, list_all}
use Rattle.zvt_till.specs.declared.entries.Entry.{Entry}
use Rattle.zvt_till.specs.declared.messages.StatusFacts.{StatusFacts}
use Rattle.zvt_till.specs.Books.{Booked, booked_as, earned}
use Rattle.zvt_till.specs.Laws.{row_of, trace_of}
use Rattle.zvt_till.specs.Marks.{takes_back}
use Rattle.zvt_till.specs.Outcomes.{charged, trace_used}
use Rattle.zvt_till.specs.Statuses.{approves}
use Rattle.zvt_settle.specs.declared.deciding.Settlement.{Settlement}
use Rattle.zvt_settle.specs.declared.deciding.Settlement.TheVariants.{Paid, NotPaid, Reversed, NotReversed}
use Rattle.zvt_settle.specs.declared.deciding.What.{What}
use Rattle.zvt_settle.specs.declared.deciding.What.TheVariants.{Payment, Reversal}
use Rattle.zvt_settle.specs.Deciding.{same, did_not, paid_as, reversing, reverses_as, taken_back, happened}
use Rattle.zvt_settle.specs.Settling.{counts, counted, paid_traces, used_traces}
use Rattle.zvt_settle.specs.Laws.{OnlyTheSame, PaidIsEarned}
use Rattle.zvt_settle.proofs.Sameness.{same_is}

-- ---- used numbers

or-assoc : (a b c : Bool) → ((a || b) || c) ≡ (a || (b || c))
or-assoc true b c = refl
or-assoc false b c = refl

any-append : (p : ℕ → Bool) (xs ys : List ℕ) → list_any p (xs ++ ys) ≡ (list_any p xs || list_any p ys)
any-append p [] ys = refl
any-append p (x ∷ xs) ys = ap (λ b. p x || b) (any-append p xs ys) ∙ sym (or-assoc (p x) (list_any p xs) (list_any p ys))

or-false : (a : Bool) → (a || false) ≡ a
or-false true = refl
or-false false = refl

any-counted : (t : ℕ) (s : Settlement) → list_any (λ x. nat_eq x t) (counted s) ≡ counts t s
any-counted t (Paid row trace receipt) = or-false (nat_eq trace t)
any-counted t (NotPaid row) = refl
any-counted t (Reversed entry) = refl
any-counted t (NotReversed entry) = refl

any-paid : (t : ℕ) (settled : List Settlement) → list_any (λ x. nat_eq x t) (paid_traces settled) ≡ list_any (counts t) settled
any-paid t [] = refl
any-paid t (s ∷ more) =
    any-append (λ x. nat_eq x t) (counted s) (paid_traces more) ∙ ap (λ b. b || list_any (λ x. nat_eq x t) (paid_traces more)) (any-counted t s) ∙ ap (λ b. counts t s || b) (any-paid t more)

any-booked : (t : ℕ) (book : List Entry) → list_any (λ x. nat_eq x t) (map trace_of book) ≡ trace_used t book
any-booked t [] = refl
any-booked t (e ∷ book) = ap (λ b. nat_eq e.trace t || b) (any-booked t book)

pub any_used : (t : ℕ) (book : List Entry) (settled : List Settlement) → list_any (λ x. nat_eq x t) (used_traces book settled) ≡ (trace_used t book || list_any (counts t) settled)
any_used t book settled =
    any-append (λ x. nat_eq x t) (map trace_of book) (paid_traces settled) ∙ ap (λ b. b || list_any (λ x. nat_eq x t) (paid_traces settled)) (any-booked t book)
    ∙ ap (λ b. trace_used t book || b) (any-paid t settled)

-- ---- a single status of a reversal

pub takes_back_one : (currency entry : ℕ) (row : Entry) (s : StatusFacts) → takes_back (reversing currency entry) (row_of row) (s ∷ []) ≡ reverses_as currency row.amount row.trace s
takes_back_one currency entry row s = search rules

-- ---- what follows from a decision

not-paid : (row : ℕ) (o : Option Booked) → option_map (paid_as row) o ≡ Some (NotPaid row) → ⊥
not-paid row None e = absurd cc
not-paid row (Some b) e = absurd cc

not-back : (e : ℕ) (b : Bool) → ◌≡◌ {A = Option Settlement} (cond b (Some (Reversed e)) None) (Some (NotReversed e)) → ⊥
not-back e true h = absurd cc
not-back e false h = absurd cc

not-found : (currency : ℕ) (ss : List StatusFacts) (e : ℕ) (o : Option Entry) → taken_back currency ss e o ≡ Some (NotReversed e) → ⊥
not-found currency ss e None h = absurd cc
not-found currency ss e (Some row) h = not-back e (takes_back (reversing currency e) (row_of row) ss) h

never-happened : (currency : ℕ) (book : List Entry) (used : List ℕ) (w : What) (s : StatusFacts) → happened currency book used w s ≡ Some (did_not w) → ⊥
never-happened currency book used (Payment row amount) s h = not-paid row (earned (charged (Some currency) amount) used (s ∷ [])) h
never-happened currency book used (Reversal entry) s h = not-found currency (s ∷ []) entry (slice_get book entry) h

same-or-not : (currency : ℕ) (book : List Entry) (used : List ℕ) (w : What) (before s : StatusFacts) (b : Bool) → same before s ≡ b
    → cond b (Some (did_not w)) (happened currency book used w s) ≡ Some (did_not w) → s ≡ before
same-or-not currency book used w before s true e h = sym (same_is before s e)
same-or-not currency book used w before s false e h = absurd (never-happened currency book used w s h)

pub only_the_same : OnlyTheSame
only_the_same currency book used p s h = same-or-not currency book used p.what p.before s (same p.before s) refl h

abbrev row-of-paid : Option Settlement → ℕ
row-of-paid (Some (Paid row t r)) = row
row-of-paid _ = 0

abbrev trace-of-paid : Option Settlement → ℕ
trace-of-paid (Some (Paid row t r)) = t
trace-of-paid _ = 0

and-true : (b : Bool) → (b && true) ≡ true → b ≡ true
and-true true e = refl
and-true false e = absurd cc

abbrev Tells : (used : List ℕ) (currency row amount other trace : ℕ) → StatusFacts → Type 0
Tells used currency row amount other trace s =
    (other ≡ row) × IsTrue (approves (charged (Some currency) amount) trace s) × (list_any (λ x. nat_eq x trace) used ≡ false)

tells-at : (used : List ℕ) (currency row amount other trace t : ℕ) (receipt rc : Option (List ℕ)) (s : StatusFacts) (b u : Bool)
    → list_all (approves (charged (Some currency) amount) t) (s ∷ []) ≡ b → list_any (λ x. nat_eq x t) used ≡ u
    → option_map (paid_as row) (cond (b && not u) (Some (booked_as amount t rc)) None) ≡ Some (Paid other trace receipt)
    → Tells used currency row amount other trace s
tells-at used currency row amount other trace t receipt rc s false u eb eu h = absurd cc
tells-at used currency row amount other trace t receipt rc s true true eb eu h = absurd cc
tells-at used currency row amount other trace t receipt rc s true false eb eu h =
    let same_trace : t ≡ trace = ap trace-of-paid h in (
      sym (ap row-of-paid h),
      subst (λ x. IsTrue (approves (charged (Some currency) amount) x s)) same_trace (and-true (approves (charged (Some currency) amount) t s) eb),
      subst (λ x. list_any (λ y. nat_eq y x) used ≡ false) same_trace eu,
    )

tells-some : (used : List ℕ) (currency row amount other trace : ℕ) (receipt : Option (List ℕ)) (s : StatusFacts) (o : Option ℕ)
    → option_map (paid_as row) (elim o [
      | None ↦ None
      | Some t ↦ cond (list_all (approves (charged (Some currency) amount) t) (s ∷ []) && not (list_any (λ x. nat_eq x t) used)) (Some (booked_as amount t s.receipt)) None
    ]) ≡ Some (Paid other trace receipt)
    → Tells used currency row amount other trace s
tells-some used currency row amount other trace receipt s None h = absurd cc
tells-some used currency row amount other trace receipt s (Some t) h =
    tells-at used currency row amount other trace t receipt s.receipt s (list_all (approves (charged (Some currency) amount) t) (s ∷ [])) (list_any (λ x. nat_eq x t) used) refl refl h

tells-new : (used : List ℕ) (currency row amount other trace : ℕ) (receipt : Option (List ℕ)) (s : StatusFacts) (b : Bool)
    → cond b (Some (NotPaid row)) (option_map (paid_as row) (earned (charged (Some currency) amount) used (s ∷ []))) ≡ Some (Paid other trace receipt)
    → Tells used currency row amount other trace s
tells-new used currency row amount other trace receipt s true h = absurd cc
tells-new used currency row amount other trace receipt s false h = tells-some used currency row amount other trace receipt s s.trace h

pub paid_is_earned : PaidIsEarned
paid_is_earned currency book used before s row amount other trace receipt h = tells-new used currency row amount other trace receipt s (same before s) h

-- ---- for the code

pub used_then : (t : ℕ) (book : List Entry) (settled : List Settlement) → trace_used t book ≡ true → list_any (λ x. nat_eq x t) (used_traces book settled) ≡ true
used_then t book settled e = any_used t book settled ∙ ap (λ b. b || list_any (counts t) settled) e

pub used_else : (t : ℕ) (book : List Entry) (settled : List Settlement) → trace_used t book ≡ false → list_any (λ x. nat_eq x t) (used_traces book settled) ≡ list_any (counts t) settled
used_else t book settled e = any_used t book settled ∙ ap (λ b. b || list_any (counts t) settled) e
