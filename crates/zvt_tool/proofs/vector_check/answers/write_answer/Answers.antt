use Rattle.std.proofs.Common.{ℕ, List, ◌++◌, ◌∙◌, ap, append_assoc, refl, sym}
use Rattle.std.specs.Fmt.{decimal}
use Rattle.std.specs.Prelude.{codes}
use Rattle.std.specs.String.{string_bytes}
use Rattle.zvt_grammar.specs.Names.{why_name}
use Rattle.zvt_grammar.specs.declared.answer.Scan.TheVariants.{Refused}
use Rattle.zvt_tool.specs.Vectors.{answer_text}
use Rattle.zvt_tool.proofs.VectorLemmas.{on_ok}
use Rattle.zvt_tool.proofs.vector_check.answers.write_answer.Goals as goal

pub returns-in-Ok-Refused : goal.returns-in-Ok-Refused
returns-in-Ok-Refused c =
    let answers = rw c.in-Ok-Refused.field-0-is at c.in-Ok-Refused.ensures in
    let place = c.in-Ok-Refused.place in
    let why = c.in-Ok-Refused.why in
    let apart = ap (λ (t : List ℕ). string_bytes c.args.text.now ++ (codes "refused at " ++ t)) (append_assoc (decimal place) (codes ": ") (why_name why)) in
    on_ok c.write-in-Ok-Refused.result c.write-in-Ok-Refused.ensures.bytes (λ grown. (answer_text (Refused place why), record { answer = Refused place why; answers = answers; is_text = refl }, grown ∙ sym apart))
