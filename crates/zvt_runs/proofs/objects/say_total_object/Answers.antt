use Rattle.std.proofs.Common.{◌≡◌, ◌++◌, List, ℕ, OnOk, codes, subst}
use Rattle.std.specs.Fmt.{decimal}
use Rattle.zvt_runs.proofs.Parts.{three_parts}
use Rattle.zvt_runs.proofs.ObjectLemmas.{total_said}
use Rattle.zvt_runs.proofs.objects.say_total_object.Goals as goal

pub returns : goal.returns
returns c =
    subst (λ (said : List ℕ). OnOk c.word-2.result (c.word-2.new.self ≡ c.args.text.now ++ said)) (total_said c.args.total)
    (three_parts c.word-2.result c.args.text.now c.word.new.self c.number.new.self c.word-2.new.self (codes "{\"total\":") (decimal c.args.total) (codes "}\n") c.in_ok-word.ensures c.in_ok-number.ensures c.word-2.ensures)
