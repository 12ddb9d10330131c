use Rattle.std.proofs.Common.{refl}
use Rattle.json.specs.Print.{escape}
use Rattle.zvt_report.proofs.MemberLemmas.{quoted_as}
use Rattle.zvt_report.proofs.quoting.quoted_text.Goals as goal

pub returns : goal.returns
returns c =
    quoted_as c.push-2.result c.args.text.now c.push.new.self c.write_escaped.new.text c.push-2.new.self c.args.characters.now (escape c.args.characters.now)
    c.in_ok-push.ensures c.in_ok-write_escaped.ensures refl c.push-2.ensures
