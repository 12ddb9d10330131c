use Rattle.std.proofs.Common.{◌≡◌, ◌+◌, arith, subst}
use Rattle.zvt_grammar.specs.Lengths.{reading_of}
use Rattle.zvt_field.proofs.CountMoves.{CountTo, count_within, count_more, count_refused, count_next, count_done}
use Rattle.zvt_field.proofs.reader.scan_count.Goals as goal

pub returns-then-count-bytes : goal.returns-then-count-bytes
returns-then-count-bytes c =
    count_more (reading_of c.args.lengths) c.args.room c.args.bytes.now c.args.digits c.loop-count.number c.loop-count.count c.loop-count.invariant c.loop-count-test.true c.if-count-bytes.true

pub overflow_sub-room-in-loop-count : goal.overflow_sub-room-in-loop-count
overflow_sub-room-in-loop-count c =
    omega (arith, count_within (reading_of c.args.lengths) c.args.room c.args.bytes.now c.args.digits c.loop-count.number c.loop-count.count c.loop-count.invariant c.loop-count-test.true)

pub returns-in-Err : goal.returns-in-Err
returns-in-Err c =
    count_refused (reading_of c.args.lengths) c.args.room c.args.bytes.now c.args.digits c.loop-count.number c.loop-count.count c.in-Err.why c.loop-count.invariant c.loop-count-test.true c.if-count-bytes.false
    (omega (arith, c.type_inv.bytes c.loop-count.count)) c.in-Err.ensures

pub loop-count-preserved : goal.loop-count-preserved
loop-count-preserved c =
    count_next (reading_of c.args.lengths) c.args.room c.args.bytes.now c.args.digits c.loop-count.number c.loop-count.count c.in-Ok.longer c.loop-count.invariant c.loop-count-test.true c.if-count-bytes.false
    (omega (arith, c.type_inv.bytes c.loop-count.count)) c.in-Ok.ensures.0 c.in-Ok.ensures.1

pub returns : goal.returns
returns c =
    let ended : c.loop-count.count ≡ c.args.digits + 1 = omega arith in
    count_done (reading_of c.args.lengths) c.args.room c.args.bytes.now c.args.digits c.loop-count.number c.requires.digits
    (subst (CountTo (reading_of c.args.lengths) c.args.room c.args.bytes.now c.args.digits c.loop-count.number) ended c.loop-count.invariant)
