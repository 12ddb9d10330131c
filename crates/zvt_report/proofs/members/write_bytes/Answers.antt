use Rattle.std.proofs.Common.{arith}
use Rattle.hex.specs.Hex.{encode_upper}
use Rattle.zvt_json.proofs.EscapeLemmas.{escape_hex}
use Rattle.zvt_report.proofs.MemberLemmas.{quoted_said}
use Rattle.zvt_report.proofs.members.write_bytes.Goals as goal

pub returns : goal.returns
returns c =
    quoted_said c.push-2.result c.args.text.now c.push.new.self c.hexadecimal.new.text c.push-2.new.self (encode_upper c.args.bytes.now) c.in_ok-push.ensures c.in_ok-hexadecimal.ensures
    (escape_hex c.args.bytes.now (λ i. omega (arith, c.type_inv.bytes i))) c.push-2.ensures
