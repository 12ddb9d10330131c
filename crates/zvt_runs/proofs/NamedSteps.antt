-- Words and the steps that they name.
use Rattle.std.proofs.Common.{◌≡◌, ℕ, ◌+◌, ◌<◌, List, [], ◌∷◌, ◌++◌, length, map, take, get_or, Option, Some, None, refl, sym, ◌∙◌, ap, add-one, slice_get, subst, zero, suc, arith, Bor}
use Rattle.std.proofs.Math.Seq.{take-suc}
use Rattle.std.specs.String.{string_bytes}
use Rattle.zvt_runs.specs.declared.plans.Planned.{Planned}
use Rattle.zvt_runs.specs.declared.arguments.Ends.{Ends}
use Rattle.zvt_runs.specs.declared.arguments.Step.{Step}
use Rattle.zvt_runs.specs.Plans.{AddsStep, Plans, StopsAt}
use Rattle.zvt_runs.specs.Words.{step_of}

map-append : {A B : Type 0} (f : A → B) (xs : List A) (x : A) → map f (xs ++ x ∷ []) ≡ map f xs ++ f x ∷ []
map-append f [] x = refl
map-append f (y ∷ xs) x = ap (λ ys. f y ∷ ys) (map-append f xs x)

one_more : (ends : Ends) (words : List (List ℕ)) (at : ℕ) (word : List ℕ) (step : Step) (old new : List Planned)
    → at < length words → word ≡ get_or words at word → Plans ends (take at words) old → step_of ends word ≡ Some step → AddsStep word step old new → Plans ends (take (at + 1) words) new
one_more ends words at word step old new below is plans named adds =
    let grown : take (at + 1) words ≡ take at words ++ word ∷ [] = rw add-one (take-suc words at word below ∙ ap (λ w. take at words ++ w ∷ []) (sym is)) in
    rw (grown, adds.added) (record {
      same_words = map-append (λ (p : Planned). string_bytes p.word) old adds.planned ∙ ap (λ ws. ws ++ string_bytes adds.planned.word ∷ []) plans.same_words ∙ ap (λ w. take at words ++ w ∷ []) adds.its_word;
      named =
          map-append (λ (p : Planned). Some p.step) old adds.planned ∙ ap (λ ss. ss ++ Some adds.planned.step ∷ []) plans.named
          ∙ ap (λ s. map (λ w. step_of ends w) (take at words) ++ s ∷ []) (ap (λ (s : Step). Some s) adds.its_step ∙ sym named)
          ∙ sym (map-append (λ w. step_of ends w) (take at words) word);
    })

steps_of : (plan : List Planned) → List Step
steps_of plan = map (λ (p : Planned). p.step) plan

map-map : (plan : List Planned) → map (λ (s : Step). Some s) (map (λ (p : Planned). p.step) plan) ≡ map (λ (p : Planned). Some p.step) plan
map-map [] = refl
map-map (p ∷ plan) = ap (λ ss. Some p.step ∷ ss) (map-map plan)

stops : (ends : Ends) (words : List (List ℕ)) (at : ℕ) (word : List ℕ) (plan : List Planned)
    → slice_get words at ≡ Some word → Plans ends (take at words) plan → step_of ends word ≡ None → StopsAt ends words at
stops ends words at word plan there plans none = record {
  before = map (λ (p : Planned). p.step) plan;
  word = word;
  named = map-map plan ∙ plans.named;
  there = there;
  no_step = none;
}

-- ---- words under references

abbrev texts_of : List (Bor (List ℕ)) → List (List ℕ)
texts_of words = map (λ (word : Bor (List ℕ)). word.now) words

there_in : (words : List (Bor (List ℕ))) (at : ℕ) (d : Bor (List ℕ)) → at < length words → slice_get (texts_of words) at ≡ Some (get_or words at d).now
there_in [] at d below = absurd (omega arith)
there_in (word ∷ words) zero d below = refl
there_in (word ∷ words) (suc at) d below = there_in words at d (omega arith)

got_in : (words : List (Bor (List ℕ))) (at : ℕ) (d : Bor (List ℕ)) → at < length words → (get_or words at d).now ≡ get_or (texts_of words) at (get_or words at d).now
got_in [] at d below = absurd (omega arith)
got_in (word ∷ words) zero d below = refl
got_in (word ∷ words) (suc at) d below = got_in words at d (omega arith)

as_many : (words : List (Bor (List ℕ))) → length (texts_of words) ≡ length words
as_many [] = refl
as_many (word ∷ words) = ap (λ n. suc n) (as_many words)

pub stops_at : (ends : Ends) (words : List (Bor (List ℕ))) (at : ℕ) (d : Bor (List ℕ)) (plan : List Planned) (named : Option Step)
    → at < length words → Plans ends (take at (texts_of words)) plan → named ≡ step_of ends (get_or words at d).now → named ≡ None → StopsAt ends (texts_of words) at
stops_at ends words at d plan named below plans is none = stops ends (texts_of words) at (get_or words at d).now plan (there_in words at d below) plans (sym is ∙ none)

pub planned_more : (ends : Ends) (words : List (Bor (List ℕ))) (at : ℕ) (d : Bor (List ℕ)) (step : Step) (named : Option Step) (old new : List Planned)
    → at < length words → Plans ends (take at (texts_of words)) old → named ≡ step_of ends (get_or words at d).now → named ≡ Some step → AddsStep (get_or words at d).now step old new
    → Plans ends (take (at + 1) (texts_of words)) new
planned_more ends words at d step named old new below plans is some adds =
    one_more ends (texts_of words) at (get_or words at d).now step old new (subst (λ n. at < n) (sym (as_many words)) below) (got_in words at d below) plans (sym is ∙ some) adds
