use Rattle.std.proofs.Common.{◌≡◌, ◌++◌, List, ℕ, OnOk, append_assoc, codes, subst}
use Rattle.std.specs.Fmt.{decimal}
use Rattle.json.specs.Print.{escape_byte}
use Rattle.zvt_text.specs.declared.form.Form.TheVariants.{Json}
use Rattle.zvt_runs.specs.SettledSum.{total_line}
use Rattle.zvt_runs.proofs.Parts.{three_parts}
use Rattle.zvt_runs.proofs.settled_sum.say_object.Goals as goal

said : (total : ℕ) → codes "{\"settled_total\":" ++ (decimal total ++ codes "}\n") ≡ total_line Json total
unfolding escape_byte
said total = simp append_assoc

pub returns : goal.returns
returns c =
    subst (λ (said : List ℕ). OnOk c.word-2.result (c.word-2.new.self ≡ c.args.text.now ++ said)) (said c.args.total)
    (three_parts c.word-2.result c.args.text.now c.word.new.self c.number.new.self c.word-2.new.self (codes "{\"settled_total\":") (decimal c.args.total) (codes "}\n") c.in_ok-word.ensures c.in_ok-number.ensures c.word-2.ensures)
