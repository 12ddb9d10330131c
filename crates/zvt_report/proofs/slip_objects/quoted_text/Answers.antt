use Rattle.std.proofs.Common.{arith}
use Rattle.zvt_text.specs.Bytes.{escaped_text}
use Rattle.zvt_report.specs.SlipObjects.{slashed}
use Rattle.zvt_report.proofs.MemberLemmas.{quoted_as}
use Rattle.zvt_report.proofs.SlipObjectLemmas.{text_slashed}
use Rattle.zvt_report.proofs.slip_objects.quoted_text.Goals as goal

pub returns : goal.returns
returns c =
    quoted_as c.push-2.result c.args.text.now c.push.new.self c.slashed.new.text c.push-2.new.self (escaped_text c.args.bytes.now) (slashed c.args.bytes.now)
    c.in_ok-push.ensures c.in_ok-slashed.ensures (text_slashed c.args.bytes.now (λ i. omega (arith, c.type_inv.bytes i))) c.push-2.ensures
