-- What the row of an order says with one more note, and at its end.
use Rattle.std.proofs.Common.{◌≡◌, ℕ, suc, ◌+◌, ◌≤◌, ◌<◌, Bool, true, false, cond, List, [], ◌∷◌, ◌++◌, length, Option, Some, None, refl, ap, ◌∙◌, arith, length-append}
use Rattle.std.proofs.lemmas.List.{length-map, take-append-le, take_all}
use Rattle.std.specs.List.{list_any}
use Rattle.zvt_till.specs.declared.happenings.Happening.{Happening}
use Rattle.zvt_till.specs.declared.happenings.Happening.TheVariants.{Connected, Sent as SentOut, Heard as HeardIn, Malformed, Lost}
use Rattle.zvt_till.specs.declared.messages.Heard.TheVariants.{Positive, Negative, Status, Passing, Completion, Abort, Strange}
use Rattle.zvt_till.specs.Segments.{Ended, ends, end_after, end_of, is_positive}
use Rattle.zvt_report.specs.Chapters.{Noted, heeded, happenings}
use Rattle.zvt_report.specs.Day.{approval_at, first_approval}
use Rattle.zvt_report.specs.Judging.{first_of}
use Rattle.zvt_report.specs.declared.rows.Approval.{Approval}

first-more : (a : Option Approval) (rest last : Option Approval) (before : Option Approval) → rest ≡ first_of before last
    → elim a as (λ x. Option Approval) [ None ↦ rest | Some y ↦ Some y ] ≡ first_of (elim a as (λ x. Option Approval) [ None ↦ before | Some y ↦ Some y ]) last
first-more None rest last before e = e
first-more (Some y) rest last before e = refl

first-one : (a : Option Approval) → elim a as (λ x. Option Approval) [ None ↦ None | Some y ↦ Some y ] ≡ a
first-one None = refl
first-one (Some y) = refl

pub first_approval-snoc : (ns : List Noted) (n : Noted) → first_approval (ns ++ n ∷ []) ≡ first_of (first_approval ns) (approval_at n)
first_approval-snoc [] n = first-one (approval_at n)
first_approval-snoc (g ∷ ns) n = first-more (approval_at g) (first_approval (ns ++ n ∷ [])) (approval_at n) (first_approval ns) (first_approval-snoc ns n)

first-none : (a : Option Approval) → first_of a None ≡ a
first-none None = refl
first-none (Some y) = refl

-- what ends an order states no approval
ending-approves : (p : Bool) (line : ℕ) (h : Happening) → ends p h ≡ true → approval_at (record { line = line; happening = h }) ≡ None
ending-approves p line Connected e = refl
ending-approves p line (SentOut o) e = refl
ending-approves p line (HeardIn Positive) e = refl
ending-approves p line (HeardIn (Negative c)) e = refl
ending-approves p line (HeardIn (Status s)) e = absurd cc
ending-approves p line (HeardIn Passing) e = refl
ending-approves p line (HeardIn Completion) e = refl
ending-approves p line (HeardIn (Abort c)) e = refl
ending-approves p line (HeardIn Strange) e = refl
ending-approves p line Malformed e = refl
ending-approves p line Lost e = refl

pub approval-ended : (p : Bool) (ns : List Noted) (n : Noted) → ends p n.happening ≡ true → first_approval (ns ++ n ∷ []) ≡ first_approval ns
approval-ended p ns n e =
    first_approval-snoc ns n ∙ ap (first_of (first_approval ns)) (ending-approves p n.line n.happening e) ∙ first-none (first_approval ns)

-- the end lies within the answers

within-by : (b : Bool) (before hs : List Happening) (h : Happening) (e : Ended)
    → (end_after (before ++ h ∷ []) hs ≡ Some e → length e.before < length (before ++ h ∷ []) + length hs)
    → cond b (Some (record { before = before; by = h })) (end_after (before ++ h ∷ []) hs) ≡ Some e → length e.before < length before + length (h ∷ hs)
within-by true before hs h e ih q =
    let same : length before ≡ length e.before = cc in
    omega arith
within-by false before hs h e ih q = omega (arith, ih q, length-append before (h ∷ []))

within-after : (before hs : List Happening) (e : Ended) → end_after before hs ≡ Some e → length e.before < length before + length hs
within-after before [] e q = absurd cc
within-after before (h ∷ hs) e q = within-by (ends (list_any is_positive before) h) before hs h e (within-after (before ++ h ∷ []) hs e) q

pub ended-within : (ns : List Noted) (e : Ended) → end_of (happenings ns) ≡ Some e → suc (length e.before) ≤ length ns
ended-within ns e q = omega (arith, within-after [] (happenings ns) e q, length-map ns (λ (n : Noted). n.happening))

-- what is noted after the end is not heeded
pub heeded-after : (ns : List Noted) (n : Noted) (e : Ended) → end_of (happenings ns) ≡ Some e → heeded (ns ++ n ∷ []) (Some e) ≡ heeded ns (Some e)
heeded-after ns n e q = take-append-le (suc (length e.before)) ns (n ∷ []) (ended-within ns e q)

-- all is heeded up to the note that ends the order
pub heeded-all : (ns : List Noted) (n : Noted) → heeded (ns ++ n ∷ []) (Some (record { before = happenings ns; by = n.happening })) ≡ ns ++ n ∷ []
heeded-all ns n =
    take_all (suc (length (happenings ns))) (ns ++ n ∷ []) (omega (arith, length-map ns (λ (k : Noted). k.happening), length-append ns (n ∷ [])))
