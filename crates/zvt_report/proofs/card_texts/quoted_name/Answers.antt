use Rattle.std.proofs.Common.{arith, codes}
use Rattle.zvt_report.specs.CardTexts.{characters}
use Rattle.zvt_report.proofs.CardLemmas.{characters_slashed}
use Rattle.zvt_report.proofs.MemberLemmas.{quoted_as}
use Rattle.zvt_report.proofs.card_texts.quoted_name.Goals as goal

pub returns : goal.returns
returns c =
    quoted_as c.push-2.result c.args.text.now c.push.new.self c.characters.new.text c.push-2.new.self (characters (codes "\\x") c.args.name.now) (characters (codes "\\\\x") c.args.name.now)
    c.in_ok-push.ensures c.in_ok-characters.ensures (characters_slashed c.args.name.now (λ i. omega (arith, c.type_inv.name i))) c.push-2.ensures
