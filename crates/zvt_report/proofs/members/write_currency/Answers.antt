use Rattle.zvt_text.specs.MessageTexts.{four_digits}
use Rattle.zvt_json.proofs.EscapeLemmas.{four_plain}
use Rattle.zvt_report.proofs.MemberLemmas.{quoted_said}
use Rattle.zvt_report.proofs.members.write_currency.Goals as goal

pub returns : goal.returns
returns c =
    quoted_said c.push-2.result c.args.text.now c.push.new.self c.currency_digits.new.text c.push-2.new.self (four_digits c.args.currency) c.in_ok-push.ensures c.in_ok-currency_digits.ensures
    (four_plain c.args.currency) c.push-2.ensures
