-- The steps that the words of a run name.
use Rattle.std.specs.Prelude.{◌≡◌, ℕ, ◌+◌, Bool, true, false, List, [], ◌∷◌, ◌++◌, codes, map, take, Option, Some, None, Result, Ok, Err, slice_get, Vec}
use Rattle.std.specs.List.{insert, position}
use Rattle.std.specs.String.{string_bytes}
use Rattle.std.specs.Global.{Global}
use Rattle.zvt_runs.specs.declared.fault.EndFault.{EndFault}
use Rattle.zvt_runs.specs.declared.fault.EndFault.TheVariants.{BadStep, Memory}
use Rattle.zvt_runs.specs.declared.plans.Planned.{Planned}
use Rattle.zvt_runs.specs.declared.arguments.Ends.{Ends}
use Rattle.zvt_runs.specs.declared.arguments.Ends.TheVariants.{Both, Till}
use Rattle.zvt_runs.specs.declared.arguments.Step.{Step}
use Rattle.zvt_runs.specs.declared.arguments.Step.TheVariants.{Register, Settle}
use Rattle.zvt_runs.specs.Words.{step_of}

-- the default words of a run
abbrev pub default_words : Ends → List (List ℕ)
default_words Both = codes "register" ∷ codes "pay:1000" ∷ codes "decline:500:6C" ∷ codes "reverse:1" ∷ codes "close" ∷ []
default_words Till = codes "register" ∷ codes "close" ∷ []

abbrev pub words_of : Ends → List (List ℕ) → List (List ℕ)
words_of ends [] = default_words ends
words_of ends (word ∷ words) = word ∷ words

-- each word is at its index, with the step that it names
pub record Plans (ends : Ends) (words : List (List ℕ)) (plan : List Planned) : Type 0 where
  pub same_words : map (λ planned. string_bytes planned.word) plan ≡ words
  pub named : map (λ planned. Some planned.step) plan ≡ map (λ word. step_of ends word) words

-- one more step and its word
pub record AddsStep (word : List ℕ) (step : Step) (old new : List Planned) : Type 0 where
  pub planned : Planned
  pub added : new ≡ old ++ planned ∷ []
  pub its_word : string_bytes planned.word ≡ word
  pub its_step : planned.step ≡ step

abbrev pub is_registration : Step → Bool
is_registration Register = true
is_registration _ = false

abbrev pub registers : Planned → Bool
registers planned = is_registration planned.step

-- This step asks if an answer can be of use. It was inserted behind the registration at this index.
pub record SettlesBehind (place : ℕ) (plan settling : List Planned) : Type 0 where
  pub settle : Planned
  pub inserted : settling ≡ insert plan (place + 1) settle
  pub its_word : string_bytes settle.word ≡ codes "ask"
  pub its_step : settle.step ≡ Settle

-- the step is added behind the first registration, if there is one
abbrev pub SettlesAt : Option ℕ → (plan settling : List Planned) → Type 0
SettlesAt None plan settling = settling ≡ plan
SettlesAt (Some place) plan settling = SettlesBehind place plan settling

abbrev pub SettlesOnce : (plan settling : List Planned) → Type 0
SettlesOnce plan settling = SettlesAt (position registers plan) plan settling

-- the words before this one name steps, and this one names none
pub record StopsAt (ends : Ends) (words : List (List ℕ)) (at : ℕ) : Type 0 where
  pub before : List Step
  pub word : List ℕ
  pub named : map (λ step. Some step) before ≡ map (λ word. step_of ends word) (take at words)
  pub there : slice_get words at ≡ Some word
  pub no_step : step_of ends word ≡ None

abbrev pub PlansOrStops : Ends → List (List ℕ) → Result (Vec Planned Global) EndFault → Type 0
PlansOrStops ends words (Ok plan) = Plans ends words plan.items
PlansOrStops ends words (Err (BadStep at)) = StopsAt ends words at
PlansOrStops ends words (Err Memory) = Unit {0}
PlansOrStops ends words result = ⊥
