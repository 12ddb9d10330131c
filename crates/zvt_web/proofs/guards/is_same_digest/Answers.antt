use Rattle.std.proofs.Common.{◌≡◌, ◌∙◌, sym, ap, arith, below_more}
use Rattle.std.proofs.lemmas.Bool.Decides.{same_from_decides, Decides-eqb, Decides-like}
use Rattle.std.specs.Str.{bytes_eq}
use Rattle.std.proofs.lemmas.Slice.Eq.{bytes_eq-Decides}
use Rattle.std.proofs.lemmas.Grind.{same_number_lists}
use Rattle.std.proofs.Common.{ℕ, ◌<◌, length, get_or}
use Rattle.zvt_web.proofs.Bits.{or-xor, or-zero_left, or-zero_right, xor-zero}
use Rattle.zvt_web.proofs.guards.is_same_digest.Goals as goal

pub loop-i-preserved : goal.loop-i-preserved
loop-i-preserved c = (
  (λ none. below_more _ _ (c.loop-i.invariant.0 (or-zero_left _ _ none)) (xor-zero _ _ (or-zero_right _ _ none))),
  λ same. or-xor c.loop-i.difference _ _ (c.loop-i.invariant.1 same) (ap (λ bytes. get_or bytes c.loop-i.i 0) same),
)

pub returns : goal.returns
returns c =
    let long : length c.args.one.now ≡ length c.args.other.now = c.told-one ∙ sym c.told-other in
    let all : (k : ℕ) → k < length c.args.one.now → k < c.loop-i.i = λ k within. omega (arith, c.told-one, within) in
    same_from_decides _ (bytes_eq c.args.one.now c.args.other.now)
    (Decides-like _ (λ none. same_number_lists c.args.one.now c.args.other.now long (λ k within. c.loop-i.invariant.0 none k (all k within))) c.loop-i.invariant.1
    (Decides-eqb c.loop-i.difference 0))
    (bytes_eq-Decides c.args.one.now c.args.other.now)
