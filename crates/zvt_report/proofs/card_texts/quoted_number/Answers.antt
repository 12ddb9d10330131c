use Rattle.zvt_report.specs.CardTexts.{number_text}
use Rattle.zvt_report.proofs.CardLemmas.{number_plain}
use Rattle.zvt_report.proofs.MemberLemmas.{quoted_said}
use Rattle.zvt_report.proofs.card_texts.quoted_number.Goals as goal

pub returns : goal.returns
returns c =
    quoted_said c.push-2.result c.args.text.now c.push.new.self c.number.new.text c.push-2.new.self (number_text c.args.digits.now) c.in_ok-push.ensures c.in_ok-number.ensures
    (number_plain c.args.digits.now) c.push-2.ensures
