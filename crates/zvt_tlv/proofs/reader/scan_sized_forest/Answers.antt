use Rattle.std.proofs.Common.{◌+◌, arith, subst, sym}
use Rattle.std.proofs.lemmas.Result.{MatchResult-from_err}
use Rattle.zvt_grammar.specs.Lengths.{reading_of}
use Rattle.zvt_tlv.proofs.Memory.{sized_takes}
use Rattle.zvt_tlv.specs.Grammar.{Objects}
use Rattle.zvt_tlv.specs.Sized.{AnswersSized, SizedFound}
use Rattle.zvt_tlv.proofs.Spelling.{from}
use Rattle.zvt_tlv.proofs.Moves.{have_spelling}
use Rattle.zvt_tlv.proofs.SizedMoves.{left_of, whole_sized, more_objects, refused_objects}
use Rattle.zvt_tlv.proofs.reader.scan_sized_forest.Goals as goal
use Rattle.zvt_tlv.proofs.reader.scan_sized_forest.Goals.{in-Whole-2, in-More-2, in-Refused-2}

pub scan_objects-requires-clause-filled : goal.scan_objects-requires-clause-filled
scan_objects-requires-clause-filled c = (left_of (reading_of c.args.lengths) c.args.room c.args.bytes.now c.in-Whole.found.0 c.in-Whole.found.1 c.in-Whole.ensures).not_one

pub of-requires : goal.of-requires
of-requires c =
    let left = left_of (reading_of c.args.lengths) c.args.room c.args.bytes.now c.in-Whole.found.0 c.in-Whole.found.1 c.in-Whole.ensures in
    have_spelling (reading_of c.args.lengths) 1 c.in-Whole.found.1 (from c.in-Whole.found.0 c.args.bytes.now) c.in-Whole-2.objects c.in_ok-objects.field-0 (omega arith) (omega (arith, left.filled, c.requires.small)) c.in-Whole-2.is c.in_ok-objects.ensures

pub returns : goal.returns
returns c =
    elim c.match-branch-2.branch [
      | in-Whole-2 w ↦ subst (AnswersSized (reading_of c.args.lengths) c.args.room c.args.bytes.now) (sym w.result-is)
          (subst (λ (f : Objects). SizedFound (reading_of c.args.lengths) c.args.room c.args.bytes.now f (c.in-Whole.found.0 + c.in-Whole.found.1)) (sym w.of.ensures)
          (whole_sized (reading_of c.args.lengths) c.args.room c.args.bytes.now c.in-Whole.found.0 c.in-Whole.found.1 w.in-Whole-2.objects c.in_ok-objects.field-0 c.in-Whole.ensures w.in-Whole-2.is c.in_ok-objects.ensures))
      | in-More-2 w ↦ subst (AnswersSized (reading_of c.args.lengths) c.args.room c.args.bytes.now) (sym w.result-is) (more_objects (reading_of c.args.lengths) c.args.room c.args.bytes.now c.in-Whole.found.0 c.in-Whole.found.1 c.in_ok-objects.field-0 c.in-Whole.ensures w.in-More-2.is c.in_ok-objects.ensures)
      | in-Refused-2 w ↦ subst (AnswersSized (reading_of c.args.lengths) c.args.room c.args.bytes.now) (sym w.result-is) (refused_objects (reading_of c.args.lengths) c.args.room c.args.bytes.now c.in-Whole.found.0 c.in-Whole.found.1 w.in-Refused-2.place w.in-Refused-2.why c.in_ok-objects.field-0 c.in-Whole.ensures w.in-Refused-2.is c.in_ok-objects.ensures (λ i. omega (arith, c.type_inv.bytes i)))
    ]

pub returns-in_err-objects : goal.returns-in_err-objects
returns-in_err-objects c =
    MatchResult-from_err c.from_residual.result _ _ c.from_residual.ensures.0
    (λ e. sized_takes (reading_of c.args.lengths) c.args.room c.args.bytes.now c.in-Whole.found.0 c.in-Whole.found.1 c.in-Whole.ensures c.in_err-objects.ensures)
