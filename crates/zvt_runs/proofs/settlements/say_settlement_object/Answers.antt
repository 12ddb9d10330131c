use Rattle.std.proofs.Common.{◌≡◌, ◌++◌, List, ℕ, OnOk, codes, subst}
use Rattle.serde_json.specs.Written.{compact_text}
use Rattle.zvt_runs.specs.Settlements.{settled_value}
use Rattle.zvt_runs.proofs.Parts.{three_parts}
use Rattle.zvt_runs.proofs.SettlementLemmas.{settlement_said}
use Rattle.zvt_runs.proofs.settlements.say_settlement_object.Goals as goal

pub returns : goal.returns
returns c =
    subst (λ (said : List ℕ). OnOk c.word-2.result (c.word-2.new.self ≡ c.args.text.now ++ said)) (settlement_said c.args.settlement.now)
    (three_parts c.word-2.result c.args.text.now c.word.new.self c.say_settled.new.text c.word-2.new.self (codes "{\"settled\":") (compact_text (settled_value c.args.settlement.now)) (codes "}\n") c.in_ok-word.ensures c.in_ok-say_settled.ensures c.word-2.ensures)
