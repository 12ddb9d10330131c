use Rattle.std.proofs.Common.{arith, sym}
use Rattle.zvt_json.proofs.EscapeLemmas.{escape_hex}
use Rattle.zvt_json.proofs.EventLemmas.{adds_same}
use Rattle.zvt_runs.proofs.book_objects.say_digits.Goals as goal

pub returns : goal.returns
returns c = adds_same c.hexadecimal.result _ _ _ _ (sym (escape_hex c.args.bytes.now (λ i. omega (arith, c.type_inv.bytes i)))) c.hexadecimal.ensures
