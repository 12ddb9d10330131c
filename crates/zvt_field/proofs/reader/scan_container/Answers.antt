use Rattle.std.proofs.Common.{subst, sym, ap, ◌∙◌, ◌+◌}
use Rattle.std.proofs.lemmas.Result.{MatchResult-from_err}
use Rattle.zvt_grammar.specs.Lengths.{reading_of}
use Rattle.zvt_field.proofs.Memory.{objects_take}
use Rattle.zvt_grammar.specs.declared.answer.Scan.TheVariants.{Whole}
use Rattle.zvt_field.specs.Grammar.{Field}
use Rattle.zvt_field.specs.Answers.{AnswersOne}
use Rattle.zvt_field.proofs.ContainerMoves.{one_whole, one_more, one_refused, found_spelling}
use Rattle.zvt_field.proofs.reader.scan_container.Goals as goal
use Rattle.zvt_field.proofs.reader.scan_container.Goals.{in-Whole, in-More, in-Refused}

pub of-requires : goal.of-requires
of-requires c =
    found_spelling (reading_of c.args.lengths) c.args.room c.args.bytes.now _ _ c.requires.small
    (one_whole (reading_of c.args.lengths) c.args.room c.args.bytes.now c.requires.begun c.in-Whole.objects c.in-Whole.size c.in_ok-objects.field-0 c.in-Whole.is c.in_ok-objects.ensures)

pub returns : goal.returns
returns c =
    elim c.match-branch-2.branch [
      | in-Whole w ↦ subst (AnswersOne (reading_of c.args.lengths) c.args.room c.args.bytes.now) (ap (λ (f : Field). Whole (f, w.in-Whole.size + 1)) (sym w.of.ensures) ∙ sym w.result-is)
          (one_whole (reading_of c.args.lengths) c.args.room c.args.bytes.now c.requires.begun w.in-Whole.objects w.in-Whole.size c.in_ok-objects.field-0 w.in-Whole.is c.in_ok-objects.ensures)
      | in-More w ↦ subst (AnswersOne (reading_of c.args.lengths) c.args.room c.args.bytes.now) (sym w.result-is)
          (one_more (reading_of c.args.lengths) c.args.room c.args.bytes.now c.requires.begun c.in_ok-objects.field-0 w.in-More.is c.in_ok-objects.ensures)
      | in-Refused w ↦ subst (AnswersOne (reading_of c.args.lengths) c.args.room c.args.bytes.now) (sym w.result-is)
          (one_refused (reading_of c.args.lengths) c.args.room c.args.bytes.now c.requires.begun w.in-Refused.place w.in-Refused.why c.in_ok-objects.field-0 w.in-Refused.is c.in_ok-objects.ensures)
    ]

pub returns-in_err-objects : goal.returns-in_err-objects
returns-in_err-objects c =
    MatchResult-from_err c.from_residual.result _ _ c.from_residual.ensures.0
    (λ e. objects_take (reading_of c.args.lengths) c.args.room c.args.bytes.now c.requires.begun c.in_err-objects.ensures)
