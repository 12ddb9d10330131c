use Rattle.std.proofs.Common.{◌∷◌, [], ◌++◌, codes}
use Rattle.std.specs.Fmt.{decimal}
use Rattle.zvt_tool.proofs.Parts.{begins, ends}
use Rattle.zvt_tool.proofs.verdicts.add_plan.Goals as goal

pub returns : goal.returns
returns c =
    begins c.push.result c.args.text.now c.word.new.self c.push.new.self (codes "TAP version 13\n1..") (decimal c.args.situations ++ 10 ∷ []) c.in_ok-word.ensures
    (ends c.push.result c.word.new.self c.number.new.self c.push.new.self (decimal c.args.situations) (10 ∷ []) c.in_ok-number.ensures c.push.ensures)
