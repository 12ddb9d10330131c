-- Whether the marks of a script can be played where they stand.
use Rattle.std.proofs.Common.{◌≡◌, ◌⊎◌, inl, inr, ℕ, ◌+◌, ◌-◌, ◌<◌, ◌≤◌, suc, List, Option, Some, None, length, length-drop, take, drop, get_or, sym, ◌∙◌, ap, subst, arith}
use Rattle.std.proofs.lemmas.Bool.{cases_lt}
use Rattle.std.proofs.lemmas.List.{drop-map, length-map, take-map, take_all}
use Rattle.zvt_play.specs.Naming.{AreNamed, AreNamedTo, IsFirstFault, fault_at, fault_by, fault_of}
use Rattle.zvt_play.specs.Playing.{acts_of}
use Rattle.zvt_play.specs.Script.{Act, act_of}
use Rattle.zvt_play.specs.declared.naming.NameFault.{NameFault}
use Rattle.zvt_play.specs.declared.step.ScriptStep.{ScriptStep}
use Rattle.zvt_play.proofs.PlayLemmas.{acts_left}

-- the steps after the one at that place, as a slice of them has them
after_it : (steps : List ScriptStep) (i : ℕ) → take (length steps - (i + 1)) (drop (i + 1) steps) ≡ drop (suc i) steps
after_it steps i =
    let next : i + 1 ≡ suc i = omega arith in
    take_all (length steps - (i + 1)) (drop (i + 1) steps) (omega (arith, length-drop (i + 1) steps)) ∙ ap (λ (k : ℕ). drop k steps) next

-- why the step at that place can't be played, by the slices before it and after it
abbrev pub IsFault : (steps : List ScriptStep) (i : ℕ) (step : ScriptStep) → Option NameFault → Type 0
IsFault steps i step fault = fault ≡ fault_of (acts_of (take i steps)) (act_of step.action) (acts_of (take (length steps - (i + 1)) (drop (i + 1) steps)))

pub fault_here : (steps : List ScriptStep) (i : ℕ) (step : ScriptStep) (fault : Option NameFault) → i < length steps → step ≡ get_or steps i step → IsFault steps i step fault → fault_at (acts_of steps) i ≡ fault
fault_here steps i step fault below is e =
    let f : ScriptStep → Act = λ (s : ScriptStep). act_of s.action in
    let rest = ap (fault_by (take i (acts_of steps))) (acts_left steps i step below is) in
    let before = ap (λ (b : List Act). fault_of b (act_of step.action) (drop (suc i) (acts_of steps))) (take-map f i steps) in
    let after = ap (λ (a : List Act). fault_of (acts_of (take i steps)) (act_of step.action) a) (drop-map f (suc i) steps) in
    let slice = ap (λ (a : List ScriptStep). fault_of (acts_of (take i steps)) (act_of step.action) (acts_of a)) (sym (after_it steps i)) in
    rest ∙ before ∙ after ∙ slice ∙ sym e

pub first_here : (steps : List ScriptStep) (i : ℕ) (step : ScriptStep) (why : NameFault) → i < length steps → step ≡ get_or steps i step → IsFault steps i step (Some why) → AreNamedTo (acts_of steps) i → IsFirstFault (acts_of steps) i why
first_here steps i step why below is e named =
    (omega (arith, below, length-map steps (λ (s : ScriptStep). act_of s.action)), fault_here steps i step (Some why) below is e, named)

-- none here, and none before
pub named_more : (steps : List ScriptStep) (i : ℕ) (step : ScriptStep) → i < length steps → step ≡ get_or steps i step → IsFault steps i step None → AreNamedTo (acts_of steps) i → AreNamedTo (acts_of steps) (i + 1)
named_more steps i step below is e named = λ earlier less. by earlier less (cases_lt earlier i)
  where
    by : (earlier : ℕ) → earlier < i + 1 → (earlier < i) ⊎ (i ≤ earlier) → fault_at (acts_of steps) earlier ≡ None
    by earlier less (inl before) = named earlier before
    by earlier less (inr least) =
        let same : i ≡ earlier = omega (arith, less, least) in
        subst (λ (k : ℕ). fault_at (acts_of steps) k ≡ None) same (fault_here steps i step None below is e)

-- none at all
pub all_named : (steps : List ScriptStep) (i : ℕ) → i ≡ length steps → AreNamedTo (acts_of steps) i → AreNamed (acts_of steps)
all_named steps i is named = subst (AreNamedTo (acts_of steps)) (is ∙ sym (length-map steps (λ (s : ScriptStep). act_of s.action))) named
