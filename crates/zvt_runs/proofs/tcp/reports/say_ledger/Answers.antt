use Rattle.std.proofs.Common.{◌∷◌, []}
use Rattle.std.specs.Fmt.{decimal}
use Rattle.std.specs.Prelude.{codes}
use Rattle.zvt_runs.proofs.Parts.{three_parts}
use Rattle.zvt_runs.proofs.tcp.reports.say_ledger.Goals as goal

pub returns : goal.returns
returns c =
    three_parts c.push.result c.args.text.now c.word.new.self c.number.new.self c.push.new.self (codes "; approvals in the ledger: ") (decimal c.args.approvals) (10 ∷ []) c.in_ok-word.ensures c.in_ok-number.ensures c.push.ensures
