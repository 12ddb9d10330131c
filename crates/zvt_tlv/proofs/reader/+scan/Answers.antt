use Rattle.std.proofs.Common.{arith, ◌<◌}
use Rattle.std.proofs.lemmas.Result.{MatchResult-from_err}
use Rattle.zvt_tlv.proofs.Memory.{inside_takes, bytes_take, next_takes, pushed_takes}
use Rattle.zvt_grammar.specs.Lengths.{reading_of}
use Rattle.zvt_tlv.proofs.Moves.{inside_requires, inside_whole, inside_more, inside_refused, bytes_whole, bytes_more, next_object, next_more, next_refused}
use Rattle.zvt_tlv.proofs.reader.+scan.Goals as goal

pub scan_object-scan_objects-requires : goal.scan_object-scan_objects-requires
scan_object-scan_objects-requires t c =
    let r = inside_requires (reading_of c.args.lengths) c.args.depth c.args.room c.args.bytes.now c.in-Whole.head c.in-Whole.ensures c.if-head.true c.requires.small in
    let deep : c.args.depth < 6 = r.2 in
    (omega arith, (r.0, (r.1, omega arith)))

pub scan_object-returns-in-Whole-2 : goal.scan_object-returns-in-Whole-2
scan_object-returns-in-Whole-2 t c =
    inside_whole (reading_of c.args.lengths) c.args.depth c.args.room c.args.bytes.now c.in-Whole.head c.of-tag.result c.in_ok-objects.field-0 c.in-Whole-2.objects c.in-Whole.ensures c.if-head.true c.of-tag.ensures c.in-Whole-2.is c.in_ok-objects.ensures

pub scan_object-returns-in-More-2 : goal.scan_object-returns-in-More-2
scan_object-returns-in-More-2 t c =
    inside_more (reading_of c.args.lengths) c.args.depth c.args.room c.args.bytes.now c.in-Whole.head c.in_ok-objects.field-0 c.in-Whole.ensures c.if-head.true c.in-More-2.is c.in_ok-objects.ensures

pub scan_object-returns-in-Refused-2 : goal.scan_object-returns-in-Refused-2
scan_object-returns-in-Refused-2 t c =
    inside_refused (reading_of c.args.lengths) c.args.depth c.args.room c.args.bytes.now c.in-Whole.head c.in_ok-objects.field-0 c.in-Refused-2.place c.in-Refused-2.why c.in-Whole.ensures c.if-head.true c.in-Refused-2.is c.in_ok-objects.ensures

pub scan_object-returns-then-content-head : goal.scan_object-returns-then-content-head
scan_object-returns-then-content-head t c =
    bytes_more (reading_of c.args.lengths) c.args.depth c.args.room c.args.bytes.now c.in-Whole.head c.in-Whole.ensures c.if-head.false c.if-content-head.true (λ i. omega (arith, c.type_inv.bytes i))

pub scan_object-returns : goal.scan_object-returns
scan_object-returns t c =
    bytes_whole (reading_of c.args.lengths) c.args.depth c.args.room c.args.bytes.now c.in-Whole.head c.of-tag.result c.in_ok-from_slice.field-0 c.in-Whole.ensures c.if-head.false c.of-tag.ensures c.if-content-head.false c.in_ok-from_slice.ensures.items (λ i. omega (arith, c.type_inv.bytes i))

pub scan_objects-loop-taken-preserved : goal.scan_objects-loop-taken-preserved
scan_objects-loop-taken-preserved t c =
    (next_object (reading_of c.args.lengths) c.args.depth c.args.room c.args.bytes.now c.loop-taken.objects.items c.push.new.self.items c.loop-taken.taken c.in-Whole.size c.in-Whole.object c.in_ok-object.field-0 c.loop-taken.invariant c.in-Whole.is c.in_ok-object.ensures c.in_ok-push-in-Whole.ensures.items).0

pub scan_objects-returns-in-More : goal.scan_objects-returns-in-More
scan_objects-returns-in-More t c =
    next_more (reading_of c.args.lengths) c.args.depth c.args.room c.args.bytes.now c.loop-taken.objects.items c.loop-taken.taken c.in_ok-object.field-0 c.loop-taken.invariant c.in-More.is c.in_ok-object.ensures

pub scan_objects-returns-in-Refused : goal.scan_objects-returns-in-Refused
scan_objects-returns-in-Refused t c =
    next_refused (reading_of c.args.lengths) c.args.depth c.args.room c.args.bytes.now c.loop-taken.objects.items c.loop-taken.taken c.in-Refused.place c.in-Refused.why c.in_ok-object.field-0 c.loop-taken.invariant c.in-Refused.is c.in_ok-object.ensures

pub scan_object-returns-in_err-objects : goal.scan_object-returns-in_err-objects
scan_object-returns-in_err-objects t c =
    MatchResult-from_err c.from_residual.result _ _ c.from_residual.ensures.0
    (λ e. inside_takes (reading_of c.args.lengths) c.args.depth c.args.room c.args.bytes.now c.in-Whole.head c.requires.some c.in-Whole.ensures c.if-head.true)

pub scan_object-returns-in_err-from_slice : goal.scan_object-returns-in_err-from_slice
scan_object-returns-in_err-from_slice t c =
    MatchResult-from_err c.from_residual-in_err-from_slice.result _ _ c.from_residual-in_err-from_slice.ensures.0
    (λ e. bytes_take (reading_of c.args.lengths) c.args.depth c.args.room c.args.bytes.now c.in-Whole.head c.requires.some c.in-Whole.ensures c.if-content-head.false)

pub scan_objects-returns-in_err-object : goal.scan_objects-returns-in_err-object
scan_objects-returns-in_err-object t c =
    MatchResult-from_err c.from_residual.result _ _ c.from_residual.ensures.0
    (λ e. next_takes (reading_of c.args.lengths) c.args.depth c.args.room c.args.bytes.now c.loop-taken.objects.items c.loop-taken.taken c.loop-taken.invariant c.in_err-object.ensures)

pub scan_objects-returns-in_err-push-in-Whole : goal.scan_objects-returns-in_err-push-in-Whole
scan_objects-returns-in_err-push-in-Whole t c =
    MatchResult-from_err c.from_residual-in_err-push-in-Whole.result _ _ c.from_residual-in_err-push-in-Whole.ensures.0
    (λ e. pushed_takes (reading_of c.args.lengths) c.args.depth c.args.room c.args.bytes.now c.loop-taken.objects.items c.loop-taken.taken c.in-Whole.size c.in-Whole.object c.in_ok-object.field-0 c.loop-taken.invariant c.in-Whole.is c.in_ok-object.ensures)
