use Rattle.std.proofs.Common.{subst, sym}
use Rattle.std.proofs.lemmas.Result.{MatchResult-from_err}
use Rattle.zvt_grammar.specs.Lengths.{reading_of}
use Rattle.zvt_grammar.specs.declared.lengths.Lengths.{Lengths}
use Rattle.zvt_field.specs.Bodies.{HaveSpelling}
use Rattle.zvt_field.proofs.ListMoves.{ReadTo, next_field, next_more, next_refused, have_size, have_spelling}
use Rattle.zvt_field.proofs.Memory.{next_takes, pushed_takes}
use Rattle.zvt_field.proofs.reader.scan_fields.Goals as goal

pub loop-taken-preserved : goal.loop-taken-preserved
loop-taken-preserved c =
    (next_field (reading_of c.args.lengths) c.args.room c.args.bytes.now c.loop-taken.list.items c.push.new.self.items c.loop-taken.taken c.in-Whole.size c.in-Whole.field c.in_ok-field.field-0 c.loop-taken.invariant c.in-Whole.is c.in_ok-field.ensures c.in_ok-push-in-Whole.ensures.items).0

pub returns-in-More : goal.returns-in-More
returns-in-More c = next_more (reading_of c.args.lengths) c.args.room c.args.bytes.now c.loop-taken.list.items c.loop-taken.taken c.in_ok-field.field-0 c.loop-taken.invariant c.in-More.is c.in_ok-field.ensures

pub returns-in-Refused : goal.returns-in-Refused
returns-in-Refused c =
    next_refused (reading_of c.args.lengths) c.args.room c.args.bytes.now c.loop-taken.list.items c.loop-taken.taken c.in-Refused.place c.in-Refused.why c.in_ok-field.field-0 c.loop-taken.invariant c.in-Refused.is c.in_ok-field.ensures

pub of-requires : goal.of-requires
of-requires c =
    have_size c.args.room c.loop-taken.taken c.args.bytes.now c.loop-taken.list.items c.requires.small
    (subst (λ (l : Lengths). ReadTo (reading_of l) c.args.room c.args.bytes.now c.loop-taken.list.items c.loop-taken.taken) c.in-Shortest.is c.loop-taken.invariant) c.loop-taken-test.false

pub list_size-size-requires : goal.list_size-size-requires
list_size-size-requires c =
    subst HaveSpelling (sym c.deref.ensures.value)
    (have_spelling (reading_of c.args.lengths) c.args.room c.loop-taken.taken c.args.bytes.now c.loop-taken.list.items c.requires.small c.loop-taken.invariant)

pub returns-in_err-field : goal.returns-in_err-field
returns-in_err-field c =
    MatchResult-from_err c.from_residual.result _ _ c.from_residual.ensures.0
    (λ e. next_takes (reading_of c.args.lengths) c.args.room c.args.bytes.now c.loop-taken.list.items c.loop-taken.taken c.loop-taken.invariant c.loop-taken-test.true c.in_err-field.ensures)

pub returns-in_err-push-in-Whole : goal.returns-in_err-push-in-Whole
returns-in_err-push-in-Whole c =
    MatchResult-from_err c.from_residual-in_err-push-in-Whole.result _ _ c.from_residual-in_err-push-in-Whole.ensures.0
    (λ e. pushed_takes (reading_of c.args.lengths) c.args.room c.args.bytes.now c.loop-taken.list.items c.loop-taken.taken c.in-Whole.size c.in-Whole.field c.in_ok-field.field-0 c.loop-taken.invariant c.loop-taken-test.true c.in-Whole.is c.in_ok-field.ensures)
