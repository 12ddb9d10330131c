-- The size that a refused message announces.
use Rattle.std.proofs.Common.{◌≡◌, ℕ, suc, ◌-◌, nat_lt, List, [], ◌∷◌, ◌++◌, length, take, Option, None, Some, refl, ◌∙◌, ap, arith}
use Rattle.std.proofs.lemmas.Bool.{cond_both, ltb-true}
use Rattle.std.proofs.lemmas.List.{take_all}
use Rattle.zvt_trace.specs.Resuming.{IsWithin, announced, refused_size, size_by}
use Rattle.zvt_trace.specs.declared.listener.Scope.{Scope}
use Rattle.zvt_trace.specs.declared.listener.Scope.TheVariants.{OneMessage, OneSide, WholeLine}

-- a size has the byte at the place
pub size_within : (scope : Scope) (place : ℕ) (size : Option ℕ) → IsWithin (size_by scope place size) (suc place)
size_within OneSide place size = tt
size_within OneMessage place None = tt
size_within OneMessage place (Some size) =
    cond_both (nat_lt place size) (Some size) None (λ (s : Option ℕ). IsWithin s (suc place)) (λ yes. omega (arith, ltb-true place size yes)) (λ no. tt)
size_within WholeLine place size = tt
