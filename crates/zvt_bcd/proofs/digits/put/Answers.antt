use Rattle.std.proofs.Common.{◌≡◌, ℕ, ◌+◌, ◌-◌, ◌<◌, length, drop, arith, subst}
use Rattle.std.proofs.lemmas.List.{length-set, drop-set}
use Rattle.std.proofs.lemmas.List.Elements.{All-cons}
use Rattle.zvt_bcd.specs.Digits.{AreDigits, IsDigitPair}
use Rattle.zvt_bcd.proofs.NumberLemmas.{none_left, one_more}
use Rattle.zvt_bcd.proofs.digits.put.Goals as goal

pub loop-at-preserved : goal.loop-at-preserved
loop-at-preserved c =
    let out = c.loop-at.out in
    let at : ℕ = c.loop-at.at - 1 in
    let within : at < length out = omega arith in
    let next : c.loop-at.at ≡ at + 1 = omega arith in
    record {
      digits = rw (drop-set out at c.packed.result within)
          (All-cons IsDigitPair _ _ c.packed.ensures.digits (subst (λ (k : ℕ). AreDigits (drop k out)) next c.loop-at.invariant.digits));
      value = rw (length-set out at c.packed.result)
          (one_more out at c.loop-at.rest c.packed.result c.args.number within c.packed.ensures.value
          (rw next at c.loop-at.invariant.value));
    }

pub returns-clause-value : goal.returns-clause-value
returns-clause-value c =
    let none : c.loop-at.at ≡ 0 = omega arith in
    let whole : length c.loop-at.out - 0 ≡ length c.args.out.now = omega arith in
    let held = rw (none, whole) at c.loop-at.invariant.value in
    none_left c.loop-at.rest _ _ _ held c.requires.fits
