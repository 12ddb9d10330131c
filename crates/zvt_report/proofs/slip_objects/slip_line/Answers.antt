use Rattle.std.proofs.Common.{◌∙◌, ◌++◌, ap, List, ℕ, false, codes, append_assoc}
use Rattle.serde_json.specs.Written.{items_text}
use Rattle.zvt_report.specs.SlipObjects.{place_words, text_items}
use Rattle.zvt_report.specs.Slips.{slip_at}
use Rattle.zvt_report.proofs.SlipObjectLemmas.{slip_said}
use Rattle.zvt_report.proofs.TextLemmas.{adds_completely}
use Rattle.zvt_report.proofs.slip_objects.slip_line.Goals as goal

pub returns : goal.returns
returns c =
    let place = c.args.place.now in
    let head = place_words place.kind place.first place.last place.order in
    let items = items_text false (text_items c.args.texts.now) in
    adds_completely c.word.result c.write_texts.new.text c.word.new.self _ _
    (ap (λ (l : List ℕ). l ++ codes "}}\n") (c.in_ok-write_texts.ensures ∙ ap (λ (l : List ℕ). l ++ items) c.in_ok-place_words.ensures ∙ append_assoc c.args.text.now head items)
    ∙ append_assoc c.args.text.now (head ++ items) (codes "}}\n") ∙ ap (λ (l : List ℕ). c.args.text.now ++ l) (slip_said (slip_at place c.args.texts.now)))
    c.word.ensures
