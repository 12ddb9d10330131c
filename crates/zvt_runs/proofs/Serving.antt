-- The steps of a terminal's service.
use Rattle.std.proofs.Common.{◌≡◌, ◌≢◌, ◌⊎◌, inl, inr, ℕ, suc, ◌+◌, refl, subst, arith, Result, Ok, Err}
use Rattle.zvt_stream.specs.EndState.{EndState}
use Rattle.zvt_stream.specs.declared.line.LineFault.{LineFault}
use Rattle.zvt_stream.specs.declared.line.LineFault.TheVariants.{Ended, Turns}
use Rattle.zvt_term.specs.Extended.{ExtendedLoses}
use Rattle.zvt_term.specs.declared.extended.Extended.{Extended}
use Rattle.zvt_runs.specs.Service.{Decided, Fails, Hears, Misses, ServesUntil, Stepped, Steps, Stops}

-- one step more
pub one_more : (n : ℕ) (before now after : EndState) (old terminal new : Extended) → Steps n before old now terminal → Stepped now terminal after new (Ok tt) → Steps (n + 1) before old after new
one_more n before now after old terminal new so step =
    let next : suc n ≡ n + 1 = omega arith in
    subst (λ k. Steps k before old after new) next (now, terminal, so, step)

-- a step that fails is the last
pub breaks : (n : ℕ) (fault : LineFault) (before now after : EndState) (old terminal new : Extended) → Steps n before old now terminal → Stepped now terminal after new (Err fault)
    → ServesUntil fault before old after new
breaks n fault before now after old terminal new so step =
    record {
      steps = n;
      last_end = now;
      last = terminal;
      middle = step.0;
      stepped = so;
      stops = how step.1;
      reported = step.2;
    }
  where
    how : Misses fault now terminal after step.0 ⊎ Fails fault now terminal after step.0 → Stops n fault now terminal after step.0
    how (inl misses) = inl misses
    how (inr fails) = inr (inl fails)

-- all steps were made
pub runs_out : (n : ℕ) (before now : EndState) (old terminal new : Extended) → n ≡ 1000000 → Steps n before old now terminal → ExtendedLoses terminal new → ServesUntil Turns before old now new
runs_out n before now old terminal new all so loses =
    record {
      steps = n;
      last_end = now;
      last = terminal;
      middle = terminal;
      stepped = so;
      stops = inr (inr (all, refl, refl, refl));
      reported = loses;
    }

-- a step that decides a payment
pub decides : (before after : EndState) (old new : Extended) (result : Result Unit LineFault) → Decided before old after new result → Stepped before old after new result
decides before after old new (Ok done) h = inr h
decides before after old new (Err fault) h = (h.0, inr h.1, h.2)
