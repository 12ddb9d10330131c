use Rattle.std.proofs.Common.{inl, refl}
use Rattle.std.proofs.lemmas.Bool.Decides.{Decides-eqb}
use Rattle.std.proofs.lemmas.Slice.Eq.{strip_prefix_is}
use Rattle.zvt_play.proofs.HearLemmas.{leaves_or_apart}
use Rattle.zvt_play.proofs.messages.left_after.Goals as goal

pub returns-in-Some : goal.returns-in-Some
returns-in-Some c =
    let whole = rw c.in-Some.is at (strip_prefix_is Decides-eqb c.args.message.now c.args.demanded.now c.strip_prefix.result c.strip_prefix.ensures.cases) in
    inl (refl, (c.in-Some.field-0.now, whole))

pub returns-in-None : goal.returns-in-None
returns-in-None c =
    let never = rw c.in-None.is at (strip_prefix_is Decides-eqb c.args.message.now c.args.demanded.now c.strip_prefix.result c.strip_prefix.ensures.cases) in
    leaves_or_apart c.args.demanded.now c.args.message.now c.strip_prefix-in-None.result never (strip_prefix_is Decides-eqb c.args.demanded.now c.args.message.now c.strip_prefix-in-None.result c.strip_prefix-in-None.ensures.cases)
