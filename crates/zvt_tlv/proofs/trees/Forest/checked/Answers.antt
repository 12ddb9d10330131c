use Rattle.zvt_tlv.proofs.CheckLemmas.{not_spelled}
use Rattle.zvt_tlv.proofs.trees.Forest.checked.Goals as goal

pub returns-in-Some-clause-exact : goal.returns-in-Some-clause-exact
returns-in-Some-clause-exact c =
    (λ h. absurd (cc (h)), λ s. absurd (not_spelled c.deref.result.now c.args.objects.items c.in-Some.fault c.deref.ensures.value c.in-Some.ensures s))
