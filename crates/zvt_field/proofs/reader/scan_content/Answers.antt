use Rattle.std.proofs.Common.{ℕ, List, get_or, arith, subst, sym, ap, ◌∙◌}
use Rattle.std.proofs.lemmas.Result.{MatchResult-from_err}
use Rattle.zvt_grammar.specs.Lengths.{reading_of}
use Rattle.zvt_field.proofs.Memory.{found_takes}
use Rattle.zvt_field.specs.Grammar.{Field, plain}
use Rattle.zvt_field.specs.Answers.{FieldFound}
use Rattle.zvt_field.specs.Bodies.{HasSpelling}
use Rattle.zvt_field.proofs.ContainerMoves.{found_spelling}
use Rattle.zvt_field.proofs.ContentMoves.{content_small, content_refused, content_more, content_whole}
use Rattle.zvt_field.proofs.reader.scan_content.Goals as goal

pub overflow_add-head : goal.overflow_add-head
overflow_add-head c = omega (arith, content_small (reading_of c.args.lengths) c.args.room c.args.bytes.now c.args.head c.requires.begun)

pub returns-in-Some : goal.returns-in-Some
returns-in-Some c =
    content_refused (reading_of c.args.lengths) c.args.room c.min-end.result c.in-Some.at c.args.bytes.now c.args.head c.requires.begun c.min-end.ensures (sym c.first_bad.ensures ∙ c.in-Some.is) (λ i. omega (arith, c.type_inv.bytes i))

pub returns-then-content-head : goal.returns-then-content-head
returns-then-content-head c =
    content_more (reading_of c.args.lengths) c.args.room c.min-end.result c.args.bytes.now c.args.head c.requires.begun c.min-end.ensures (sym c.first_bad.ensures ∙ c.in_default.is) c.if-content-head.true (λ i. omega (arith, c.type_inv.bytes i))

pub of-requires : goal.of-requires
of-requires c =
    subst (λ (s : List ℕ). HasSpelling (plain (get_or c.args.bytes.now 0 0) s)) (sym c.in_ok-content.ensures.items)
    (found_spelling (reading_of c.args.lengths) c.args.room c.args.bytes.now _ c.min-end.result c.requires.small
    (content_whole (reading_of c.args.lengths) c.args.room c.min-end.result c.args.bytes.now c.args.head c.requires.begun c.min-end.ensures (sym c.first_bad.ensures ∙ c.in_default.is) c.if-content-head.false (λ i. omega (arith, c.type_inv.bytes i))))

pub returns : goal.returns
returns c =
    subst (λ (f : Field). FieldFound (reading_of c.args.lengths) c.args.room c.args.bytes.now f c.min-end.result) (ap (plain (get_or c.args.bytes.now 0 0)) (sym c.in_ok-content.ensures.items) ∙ sym c.of.ensures)
    (content_whole (reading_of c.args.lengths) c.args.room c.min-end.result c.args.bytes.now c.args.head c.requires.begun c.min-end.ensures (sym c.first_bad.ensures ∙ c.in_default.is) c.if-content-head.false (λ i. omega (arith, c.type_inv.bytes i)))

pub returns-in_err-content : goal.returns-in_err-content
returns-in_err-content c =
    MatchResult-from_err c.from_residual.result _ _ c.from_residual.ensures.0
    (λ e. found_takes (reading_of c.args.lengths) c.args.room c.args.bytes.now _ c.min-end.result
    (content_whole (reading_of c.args.lengths) c.args.room c.min-end.result c.args.bytes.now c.args.head c.requires.begun c.min-end.ensures (sym c.first_bad.ensures ∙ c.in_default.is) c.if-content-head.false (λ i. omega (arith, c.type_inv.bytes i))))
