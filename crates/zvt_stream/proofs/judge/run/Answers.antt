use Rattle.std.proofs.Common.{◌++◌, length, take, get_or, ap, append-nil, reverse, subst, sym, ◌∙◌, arith, refl}
use Rattle.std.proofs.lemmas.List.{length-set}
use Rattle.zvt_grammar.specs.Lengths.{reading_of}
use Rattle.zvt_stream.specs.Judge.{IsMessageIn, StandsFor, state_of}
use Rattle.zvt_stream.proofs.JudgeLemmas.{begun_anew, ran_refused}
use Rattle.zvt_stream.proofs.RunLemmas.{byte_after, has_room, stands_after, written_more}
use Rattle.zvt_stream.proofs.judge.run.Goals as goal

pub bytes-init : goal.bytes-init
bytes-init c =
    let judge = state_of (reading_of c.args.lengths) c.args.goes.now c.args.levels.now in
    record {
      judge = (c.requires.0, subst (StandsFor judge) (sym (append-nil c.requires.0)) c.requires.1, c.requires.2);
      stands = λ held h. subst (StandsFor judge) (sym (append-nil held)) h;
      few = omega arith;
      count = omega arith;
      written = refl;
      size = refl;
    }

pub bytes-preserved : goal.bytes-preserved
bytes-preserved c =
    let bytes = c.args.bytes.now in
    let room = c.bytes.room in
    let k = c.bytes.taken in
    let lt = c.bytes-test.true in
    let inv = c.bytes.invariant in
    let at = inv.judge in
    let below = has_room _ at.0 bytes k (length room) lt at.1.unfinished at.2 in
    record {
      judge = (at.0, stands_after _ at.0 bytes k lt (rw c.in-Ok-Open.field-0-is at (c.in-Ok-Open.ensures.judged (at.0 ++ take k bytes) at.1)), omega (arith, at.2, length-set room k (get_or bytes k 0)));
      stands = λ held h. stands_after _ held bytes k lt (rw c.in-Ok-Open.field-0-is at (c.in-Ok-Open.ensures.judged (held ++ take k bytes) (inv.stands held h)));
      few = omega (arith, lt);
      count = omega (arith, inv.count, c.step.ensures.count);
      written = written_more bytes room k lt below inv.written;
      size = length-set room k (get_or bytes k 0) ∙ inv.size;
    }

pub bounds-room-taken : goal.bounds-room-taken
bounds-room-taken c =
    let at = c.bytes.invariant.judge in
    has_room _ at.0 c.args.bytes.now c.bytes.taken (length c.bytes.room) c.bytes-test.true at.1.unfinished at.2

pub step-requires : goal.step-requires
step-requires c = let at = c.bytes.invariant.judge in (at.0 ++ take c.bytes.taken c.args.bytes.now, at.1)

pub returns-in-Ok-Ended-clause-judged : goal.returns-in-Ok-Ended-clause-judged
returns-in-Ok-Ended-clause-judged c held h =
    let bytes = c.args.bytes.now in
    let k = c.bytes.taken in
    let lt = c.bytes-test.true in
    let q = rw c.in-Ok-Ended.field-0-is at (c.in-Ok-Ended.ensures.judged (held ++ take k bytes) (c.bytes.invariant.stands held h)) in
    (omega arith, omega (arith, lt), subst (IsMessageIn (reading_of c.args.lengths)) (byte_after held bytes k lt) q.0, begun_anew (reading_of c.args.lengths) c.beginning.result c.step.new.levels c.beginning.ensures q.1)

pub returns-in-Ok-Ended-clause-written : goal.returns-in-Ok-Ended-clause-written
returns-in-Ok-Ended-clause-written c =
    let bytes = c.args.bytes.now in
    let k = c.bytes.taken in
    let lt = c.bytes-test.true in
    let inv = c.bytes.invariant in
    let at = inv.judge in
    let below = has_room _ at.0 bytes k (length c.bytes.room) lt at.1.unfinished at.2 in
    written_more bytes c.bytes.room k lt below inv.written

pub returns-in-Ok-Ended-clause-size : goal.returns-in-Ok-Ended-clause-size
returns-in-Ok-Ended-clause-size c = length-set c.bytes.room c.bytes.taken (get_or c.args.bytes.now c.bytes.taken 0) ∙ c.bytes.invariant.size

pub returns-in-Err-clause-judged : goal.returns-in-Err-clause-judged
returns-in-Err-clause-judged c held h =
    let bytes = c.args.bytes.now in
    let k = c.bytes.taken in
    let lt = c.bytes-test.true in
    let q = c.in-Err.ensures.judged (held ++ take k bytes) (c.bytes.invariant.stands held h) in
    (lt, ran_refused (reading_of c.args.lengths) held bytes k c.in-Err.why lt q, begun_anew (reading_of c.args.lengths) c.beginning-in-Err.result _ c.beginning-in-Err.ensures (ap reverse c.clear.ensures))

pub returns-in-Err-clause-size : goal.returns-in-Err-clause-size
returns-in-Err-clause-size c = length-set c.bytes.room c.bytes.taken (get_or c.args.bytes.now c.bytes.taken 0) ∙ c.bytes.invariant.size
