use Rattle.std.proofs.Common.{arith, sym, ◌∙◌}
use Rattle.std.proofs.lemmas.Grind.{common_steps}
use Rattle.zvt_json.proofs.EscapeLemmas.{escape_one_other, escape_one_plain}
use Rattle.zvt_json.proofs.strings.one.Goals as goal

pub returns-then-is_plain : goal.returns-then-is_plain
returns-then-is_plain c = let same = escape_one_plain c.args.character (sym c.is_plain.ensures ∙ c.if-is_plain.true) in rw same (grind (arith, common_steps))

pub returns-in_err-at : goal.returns-in_err-at
returns-in_err-at c = let same = escape_one_other c.args.character (sym c.is_plain.ensures ∙ c.if-is_plain.false) (omega arith) in rw same (grind (arith, common_steps))

pub returns : goal.returns
returns c = let same = escape_one_other c.args.character (sym c.is_plain.ensures ∙ c.if-is_plain.false) (omega arith) in rw same (grind (arith, common_steps))
