use Rattle.std.proofs.Common.{◌≡◌, ◌++◌, List, ℕ, OnOk, subst}
use Rattle.zvt_runs.proofs.SettlementLemmas.{settled_said}
use Rattle.zvt_runs.proofs.settlements.say_settled.Goals as goal

pub returns : goal.returns
returns c =
    subst (λ (said : List ℕ). OnOk c.write_settled.result (c.write_settled.new.text ≡ c.args.text.now ++ said)) (settled_said c.args.settlement.now) c.write_settled.ensures
