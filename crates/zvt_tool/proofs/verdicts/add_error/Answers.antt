use Rattle.std.proofs.Common.{List, ℕ, ◌++◌, ◌∙◌, ap, codes}
use Rattle.zvt_tool.specs.Verdicts.{escaped}
use Rattle.zvt_tool.proofs.Parts.{begins, ends}
use Rattle.zvt_tool.proofs.verdicts.add_error.Goals as goal

pub returns : goal.returns
returns c =
    let r = c.word-3.result in
    let new = c.word-3.new.self in
    let named = escaped c.args.name.now in
    let told = escaped c.args.why.now in
    let closed = codes "</error></testcase>\n" in
    let error = codes "\"><error>" in
    begins r c.args.text.now c.word.new.self new (codes "  <testcase name=\"") (named ++ (error ++ (told ++ closed))) c.in_ok-word.ensures
    (begins r c.word.new.self c.add_escaped.new.text new named (error ++ (told ++ closed)) (c.in_ok-add_escaped.ensures ∙ ap (λ (l : List ℕ). c.word.new.self ++ escaped l) c.as_bytes.ensures.value)
    (begins r c.add_escaped.new.text c.word-2.new.self new error (told ++ closed) c.in_ok-word-2.ensures
    (ends r c.word-2.new.self c.add_escaped-2.new.text new told closed c.in_ok-add_escaped-2.ensures c.word-3.ensures)))
