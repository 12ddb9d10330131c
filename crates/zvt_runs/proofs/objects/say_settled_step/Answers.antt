use Rattle.std.proofs.Common.{◌≡◌, ◌∙◌, ◌++◌, List, ℕ, OnOk, ap, append_assoc, codes, subst}
use Rattle.json.specs.Print.{escape}
use Rattle.serde_json.specs.Written.{compact_text}
use Rattle.zvt_runs.specs.Settlements.{settled_value}
use Rattle.zvt_runs.proofs.Parts.{one_more, two_parts}
use Rattle.zvt_runs.proofs.ObjectLemmas.{settled_step_said}
use Rattle.zvt_runs.proofs.objects.say_settled_step.Goals as goal

nest : (a b c d e : List ℕ) → (a ++ b ++ c ++ d) ++ e ≡ a ++ (b ++ (c ++ (d ++ e)))
nest a b c d e = simp append_assoc

pub returns : goal.returns
returns c =
    let old = c.args.text.now in
    let first = codes "{\"outcome\":\"settled\",\"settled\":" in
    let value = compact_text (settled_value c.args.settlement.now) in
    let third = codes ",\"step\":\"" in
    let word = escape c.args.word.now in
    let last = codes "\"}\n" in
    let one = one_more old c.word.new.self c.say_settled.new.text first value c.in_ok-word.ensures c.in_ok-say_settled.ensures in
    let two = one_more old c.say_settled.new.text c.word-2.new.self (first ++ value) third one c.in_ok-word-2.ensures in
    let three = one_more old c.word-2.new.self c.say_escaped.new.text (first ++ value ++ third) word two (c.in_ok-say_escaped.ensures ∙ ap (λ (w : List ℕ). c.word-2.new.self ++ escape w) c.as_bytes.ensures.value) in
    subst (λ (said : List ℕ). OnOk c.word-3.result (c.word-3.new.self ≡ old ++ said)) (nest first value third word last ∙ settled_step_said c.args.word.now c.args.settlement.now)
    (two_parts c.word-3.result old c.say_escaped.new.text c.word-3.new.self (first ++ value ++ third ++ word) last three c.word-3.ensures)
