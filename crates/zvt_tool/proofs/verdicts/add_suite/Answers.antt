use Rattle.std.proofs.Common.{ℕ, List, ◌++◌, ◌∙◌, ap, codes}
use Rattle.std.specs.Fmt.{decimal}
use Rattle.zvt_tool.proofs.Parts.{begins, ends}
use Rattle.zvt_tool.proofs.verdicts.add_suite.Goals as goal

pub returns : goal.returns
returns c =
    let r = c.word-8.result in
    let new = c.word-8.new.self in
    let closed = codes "</testsuite>\n" in
    let listed = c.args.cases.now ++ closed in
    let opened = codes "\">\n" ++ listed in
    let errors = decimal c.args.broken ++ opened in
    let breaking = codes "\" errors=\"" ++ errors in
    let failed = decimal c.args.failed ++ breaking in
    let failing = codes "\" failures=\"" ++ failed in
    let counted = decimal c.args.situations ++ failing in
    let counting = codes "\" tests=\"" ++ counted in
    begins r c.args.text.now c.word.new.self new (codes "<?xml version=\"1.0\" encoding=\"UTF-8\"?>\n<testsuite name=\"") (c.args.name.now ++ counting) c.in_ok-word.ensures
    (begins r c.word.new.self c.word-2.new.self new c.args.name.now counting (c.in_ok-word-2.ensures ∙ ap (λ (l : List ℕ). c.word.new.self ++ l) c.as_bytes.ensures.value)
    (begins r c.word-2.new.self c.word-3.new.self new (codes "\" tests=\"") counted c.in_ok-word-3.ensures
    (begins r c.word-3.new.self c.number.new.self new (decimal c.args.situations) failing c.in_ok-number.ensures
    (begins r c.number.new.self c.word-4.new.self new (codes "\" failures=\"") failed c.in_ok-word-4.ensures
    (begins r c.word-4.new.self c.number-2.new.self new (decimal c.args.failed) breaking c.in_ok-number-2.ensures
    (begins r c.number-2.new.self c.word-5.new.self new (codes "\" errors=\"") errors c.in_ok-word-5.ensures
    (begins r c.word-5.new.self c.number-3.new.self new (decimal c.args.broken) opened c.in_ok-number-3.ensures
    (begins r c.number-3.new.self c.word-6.new.self new (codes "\">\n") listed c.in_ok-word-6.ensures
    (ends r c.word-6.new.self c.word-7.new.self new c.args.cases.now closed c.in_ok-word-7.ensures c.word-8.ensures)))))))))
