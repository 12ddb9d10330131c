use Rattle.std.proofs.Common.{◌++◌, ◌<◌, ◌∙◌, [], arith, length, length-append, refl, take}
use Rattle.std.proofs.KnownBytes.{Consumes-kept, Consumes-nil, Consumes-trans}
use Rattle.std.proofs.lemmas.List.{length-take}
use Rattle.std.proofs.lemmas.Result.{err_from_is_err_and}
use Rattle.zvt_grammar.specs.Lengths.{reading_of}
use Rattle.zvt_trace.specs.Listening.{most}
use Rattle.zvt_audit.proofs.HearLemmas.{faults_hearing, hearing_endless, none_more}
use Rattle.zvt_audit.proofs.follow.hear_all.Goals as goal

pub returns-in_err-audit-clause-hears : goal.returns-in_err-audit-clause-hears
returns-in_err-audit-clause-hears g c =
    let p = err_from_is_err_and c.from_residual.result c.from_residual.ensures.1 in
    ([], Consumes-nil (g.R.Source.remaining c.args.reader.now), rw (p.1, p.2) tt)

pub loop-turn-init : goal.loop-turn-init
loop-turn-init g c = record {
  so_far = ([], Consumes-nil (g.R.Source.remaining c.args.reader.now), omega arith, c.in_ok-audit.ensures.heard);
  ready = c.in_ok-audit.ensures.ready;
  read = refl;
}

pub returns-in_err-taken-clause-hears : goal.returns-in_err-taken-clause-hears
returns-in_err-taken-clause-hears g c =
    let p = err_from_is_err_and c.from_residual-in_err-taken.result c.from_residual-in_err-taken.ensures.1 in
    let so = c.loop-turn.invariant.so_far in
    let chunk = c.in_err-taken.ensures.chunk in
    (so.0, Consumes-kept (g.R.Source.remaining c.args.reader.now) (g.R.Source.remaining c.loop-turn.reader) (g.R.Source.remaining c.read_chunk.new.reader) so.0 so.1 chunk.1, rw (p.1, p.2, chunk.0) tt)

pub returns-then-taken-eq0-clause-hears : goal.returns-then-taken-eq0-clause-hears
returns-then-taken-eq0-clause-hears g c =
    let so = c.loop-turn.invariant.so_far in
    (so.0, none_more (g.R.Source.remaining c.args.reader.now) (g.R.Source.remaining c.loop-turn.reader) (g.R.Source.remaining c.read_chunk.new.reader) so.0 c.read_chunk.new.buffer c.in_ok-taken.taken c.if-taken-eq0.true so.1 c.in_ok-taken.ensures.chunk.1, (so.3, c.in_ok-taken.ensures.chunk.2 c.if-taken-eq0.true))

pub returns-in_err-feed-clause-hears : goal.returns-in_err-feed-clause-hears
returns-in_err-feed-clause-hears g c =
    let p = err_from_is_err_and c.from_residual-in_err-feed.result c.from_residual-in_err-feed.ensures.1 in
    let so = c.loop-turn.invariant.so_far in
    (so.0 ++ (take c.in_ok-taken.taken c.read_chunk.new.buffer), Consumes-trans (g.R.Source.remaining c.args.reader.now) (g.R.Source.remaining c.loop-turn.reader) (g.R.Source.remaining c.read_chunk.new.reader) so.0 _ so.1 c.in_ok-taken.ensures.chunk.1, rw (p.1, p.2) ((faults_hearing (reading_of c.args.lengths) c.args.scope (so.0 ++ (take c.in_ok-taken.taken c.read_chunk.new.buffer)) (g.R.Source.remaining c.read_chunk.new.reader) c.in_err-feed.field-0.0 (c.in_err-feed.ensures.hears (reading_of c.args.lengths) c.args.scope so.0 so.3)).0))

pub returns-in_err-feed-clause-read : goal.returns-in_err-feed-clause-read
returns-in_err-feed-clause-read g c = λ is.
    let p = err_from_is_err_and c.from_residual-in_err-feed.result c.from_residual-in_err-feed.ensures.1 in
    let so = c.loop-turn.invariant.so_far in
    absurd ((faults_hearing (reading_of c.args.lengths) c.args.scope (so.0 ++ (take c.in_ok-taken.taken c.read_chunk.new.buffer)) (g.R.Source.remaining c.read_chunk.new.reader) c.in_err-feed.field-0.0 (c.in_err-feed.ensures.hears (reading_of c.args.lengths) c.args.scope so.0 so.3)).1 cc)

pub loop-turn-preserved : goal.loop-turn-preserved
loop-turn-preserved g c =
    let so = c.loop-turn.invariant.so_far in
    record {
      so_far = (so.0 ++ (take c.in_ok-taken.taken c.read_chunk.new.buffer), Consumes-trans (g.R.Source.remaining c.args.reader.now) (g.R.Source.remaining c.loop-turn.reader) (g.R.Source.remaining c.read_chunk.new.reader) so.0 _ so.1 c.in_ok-taken.ensures.chunk.1, omega (arith, so.2, c.in_ok-taken.ensures.chunk.0, length-append so.0 (take c.in_ok-taken.taken c.read_chunk.new.buffer), length-take c.in_ok-taken.taken c.read_chunk.new.buffer), c.in_ok-feed.ensures.hears (reading_of c.args.lengths) c.args.scope so.0 so.3);
      ready = c.in_ok-feed.ensures.ready;
      read = c.in_ok-taken.ensures.counted ∙ c.loop-turn.invariant.read;
    }

pub returns-clause-hears : goal.returns-clause-hears
returns-clause-hears g c =
    let so = c.loop-turn.invariant.so_far in
    let many : most < length so.0 = omega (arith, so.2, c.loop-turn-test.false) in
    (so.0, so.1, hearing_endless (reading_of c.args.lengths) c.args.scope so.0 c.loop-turn.audit so.3 many)
