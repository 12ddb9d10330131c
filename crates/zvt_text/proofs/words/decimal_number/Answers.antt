use Rattle.std.proofs.Common.{sym, ◌∙◌}
use Rattle.zvt_text.proofs.WordLemmas.{known, value_small}
use Rattle.zvt_text.proofs.words.decimal_number.Goals as goal

pub returns-then-is_number-clause-small : goal.returns-then-is_number-clause-small
returns-then-is_number-clause-small c =
    let k = known c.args.most c.args.digits.now (sym c.is_number.ensures ∙ c.if-is_number.true) in
    rw c.value.ensures (value_small c.args.most c.args.digits.now k.all k.few)
