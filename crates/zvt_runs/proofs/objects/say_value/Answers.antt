use Rattle.std.proofs.Common.{◌≡◌, ◌∙◌, ◌++◌, ◌∷◌, [], List, ℕ, ap, false}
use Rattle.serde_json.specs.View.{view}
use Rattle.serde_json.specs.Written.{compact_text, has_float}
use Rattle.zvt_runs.proofs.Parts.{two_parts}
use Rattle.zvt_runs.proofs.objects.say_value.Goals as goal

pub returns : goal.returns
returns c = λ value is whole.
    let said : c.as_bytes.result.now ≡ compact_text value = c.as_bytes.ensures.value ∙ c.in_ok-line.ensures.text (ap has_float is ∙ whole) ∙ ap compact_text is in
    two_parts c.push.result c.args.text.now c.word.new.self c.push.new.self (compact_text value) (10 ∷ []) (c.in_ok-word.ensures ∙ ap (λ (l : List ℕ). c.args.text.now ++ l) said) c.push.ensures
