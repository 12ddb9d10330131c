-- Calls of http1 that refuse, fail or succeed.
use Rattle.std.proofs.Common.{◌≡◌, ◌⊎◌, ◌∙◌, sym, ap, refl, inl, inr, ℕ, Option, Some, None, Result, Ok, Err}
use Rattle.http1.specs.Output.{GivesOrRefuses}
use Rattle.http1.specs.declared.error.WriteError.{WriteError}
use Rattle.http1.specs.declared.error.WriteError.TheVariants.{OutOfMemory}
use Rattle.zvt_web.specs.Connection.{GivesOrMemory, first_some}

pub gives_or_memory : (r : Result (Unit {0}) WriteError) (refusal : Option WriteError) (spare len : ℕ) → GivesOrRefuses refusal spare len r → GivesOrMemory r refusal
gives_or_memory (Ok x) None spare len outcome = refl
gives_or_memory (Ok x) (Some e) spare len outcome = absurd (cc (outcome))
gives_or_memory (Err e) None spare len outcome = inl outcome.0
gives_or_memory (Err e) (Some other) spare len outcome = let same : e ≡ other = cc (outcome) in inr (ap (λ (x : WriteError). Some x) (sym same))

-- the first call was refused
pub first_fails : (e : WriteError) (first later : Option WriteError) → (e ≡ OutOfMemory) ⊎ (first ≡ Some e) → (e ≡ OutOfMemory) ⊎ (first_some first later ≡ Some e)
first_fails e first later (inl memory) = inl memory
first_fails e first later (inr refused) = inr (ap (λ (x : Option WriteError). first_some x later) refused)

-- a later one was
pub later_fails : (e : WriteError) (first later : Option WriteError) → first ≡ None → (e ≡ OutOfMemory) ⊎ (later ≡ Some e) → (e ≡ OutOfMemory) ⊎ (first_some first later ≡ Some e)
later_fails e first later none (inl memory) = inl memory
later_fails e first later none (inr refused) = inr (ap (λ (x : Option WriteError). first_some x later) none ∙ refused)
