use Rattle.std.proofs.Common.{◌<◌, ◌+◌, length, arith}
use Rattle.std.proofs.lemmas.Result.{MatchResult-from_err}
use Rattle.zvt_grammar.specs.Lengths.{reading_of}
use Rattle.zvt_field.proofs.ListMoves.{next_field, have_spelling}
use Rattle.zvt_field.proofs.BegunMoves.{no_more}
use Rattle.zvt_field.proofs.Memory.{next_takes, pushed_takes}
use Rattle.zvt_field.proofs.reader.scan_begun.Goals as goal

pub returns-in_err-field : goal.returns-in_err-field
returns-in_err-field c =
    let within : c.fields.taken < length c.args.bytes.now + 2 = omega (arith, c.fields.invariant.present) in
    MatchResult-from_err c.from_residual.result _ _ c.from_residual.ensures.0
    (λ e. (next_takes (reading_of c.args.lengths) (length c.args.bytes.now + 2) c.args.bytes.now c.fields.list.items c.fields.taken c.fields.invariant within c.in_err-field.ensures).1)

pub returns-in_err-push-in-Whole : goal.returns-in_err-push-in-Whole
returns-in_err-push-in-Whole c =
    let within : c.fields.taken < length c.args.bytes.now + 2 = omega (arith, c.fields.invariant.present) in
    MatchResult-from_err c.from_residual-in_err-push-in-Whole.result _ _ c.from_residual-in_err-push-in-Whole.ensures.0
    (λ e. (pushed_takes (reading_of c.args.lengths) (length c.args.bytes.now + 2) c.args.bytes.now c.fields.list.items c.fields.taken c.in-Whole.size c.in-Whole.field c.in_ok-field.field-0 c.fields.invariant within c.in-Whole.is c.in_ok-field.ensures).1)

pub fields-preserved : goal.fields-preserved
fields-preserved c =
    (next_field (reading_of c.args.lengths) (length c.args.bytes.now + 2) c.args.bytes.now c.fields.list.items c.push.new.self.items c.fields.taken c.in-Whole.size c.in-Whole.field c.in_ok-field.field-0 c.fields.invariant c.in-Whole.is c.in_ok-field.ensures c.in_ok-push-in-Whole.ensures.items).0

pub gathered-requires : goal.gathered-requires
gathered-requires c =
    have_spelling (reading_of c.args.lengths) (length c.args.bytes.now + 2) c.fields.taken c.args.bytes.now c.fields.list.items c.requires.small c.fields.invariant

pub returns-in-More : goal.returns-in-More
returns-in-More c =
    no_more (reading_of c.args.lengths) c.fields.taken c.args.bytes.now c.fields.list.items c.gathered.result c.in_ok-field.field-0 c.fields.invariant c.in-More.is c.in_ok-field.ensures c.gathered.ensures
