use Rattle.std.proofs.Common.{◌++◌, ◌<◌, ◌∙◌, [], arith, length, length-append, refl, take}
use Rattle.std.proofs.KnownBytes.{Consumes-kept, Consumes-nil, Consumes-trans}
use Rattle.std.proofs.lemmas.List.{length-take}
use Rattle.std.proofs.lemmas.Result.{err_from_is_err_and}
use Rattle.zvt_grammar.specs.Lengths.{reading_of}
use Rattle.zvt_trace.specs.Listening.{most}
use Rattle.zvt_show.proofs.TurnLemmas.{end_no_read, follow_end, follow_endless, follow_failed, follow_unread, none_more, turn_no_read}
use Rattle.zvt_show.proofs.follow.follow_trace.Goals as goal

pub loop-turn-init : goal.loop-turn-init
loop-turn-init g c = record {
  so_far = ([], Consumes-nil (g.R.Source.remaining c.args.reader.now), omega arith, c.new-follower.ensures.written (g.W.Sink.written c.args.writer.now));
  following = c.new-follower.ensures.following;
  read = refl;
  write = omega arith;
}

pub returns-in_err-taken-clause-follows : goal.returns-in_err-taken-clause-follows
returns-in_err-taken-clause-follows g c =
    let p = err_from_is_err_and c.from_residual.result c.from_residual.ensures.1 in
    let so = c.loop-turn.invariant.so_far in
    let chunk = c.in_err-taken.ensures.chunk in
    (so.0, Consumes-kept (g.R.Source.remaining c.args.reader.now) (g.R.Source.remaining c.loop-turn.reader) (g.R.Source.remaining c.read_chunk.new.reader) so.0 so.1 chunk.1, rw (p.1, p.2) (follow_unread (reading_of c.args.lengths) c.args.scope c.args.style so.0 (g.R.Source.remaining c.read_chunk.new.reader) (g.W.Sink.written c.args.writer.now) _ c.in_err-taken.field-0.0 c.loop-turn.follower so.3 chunk.0))

pub returns-then-taken-eq0-clause-follows : goal.returns-then-taken-eq0-clause-follows
returns-then-taken-eq0-clause-follows g c =
    let so = c.loop-turn.invariant.so_far in
    let chunk = c.in_ok-taken.ensures.chunk in (
      so.0,
      none_more (g.R.Source.remaining c.args.reader.now) (g.R.Source.remaining c.loop-turn.reader) (g.R.Source.remaining c.read_chunk.new.reader) so.0 c.read_chunk.new.buffer c.in_ok-taken.taken c.if-taken-eq0.true so.1 chunk.1,
      follow_end (reading_of c.args.lengths) c.args.scope c.args.style so.0 _ (g.W.Sink.written c.args.writer.now) _ c.finish.result (c.finish.ensures.writes (reading_of c.args.lengths) c.args.scope c.args.style so.0 (g.W.Sink.written c.args.writer.now) so.3) (chunk.2 c.if-taken-eq0.true),
    )

pub returns-then-taken-eq0-clause-read : goal.returns-then-taken-eq0-clause-read
returns-then-taken-eq0-clause-read g c = λ is.
    let so = c.loop-turn.invariant.so_far in
    absurd (end_no_read (reading_of c.args.lengths) c.args.scope c.args.style so.0 (g.W.Sink.written c.args.writer.now) _ c.finish.result (c.finish.ensures.writes (reading_of c.args.lengths) c.args.scope c.args.style so.0 (g.W.Sink.written c.args.writer.now) so.3) is)

pub returns-then-taken-eq0-clause-write : goal.returns-then-taken-eq0-clause-write
returns-then-taken-eq0-clause-write g c = λ is.
    let so = c.loop-turn.invariant.so_far in
    omega (arith, (c.finish.ensures.counts (reading_of c.args.lengths) c.args.scope c.args.style so.0 (g.W.Sink.written c.args.writer.now) so.3).1 is, c.loop-turn.invariant.write)

pub returns-in_err-feed-clause-follows : goal.returns-in_err-feed-clause-follows
returns-in_err-feed-clause-follows g c =
    let p = err_from_is_err_and c.from_residual-in_err-feed.result c.from_residual-in_err-feed.ensures.1 in
    let so = c.loop-turn.invariant.so_far in
    let chunk = c.in_ok-taken.ensures.chunk in (
      so.0 ++ (take c.in_ok-taken.taken c.read_chunk.new.buffer),
      Consumes-trans (g.R.Source.remaining c.args.reader.now) (g.R.Source.remaining c.loop-turn.reader) (g.R.Source.remaining c.read_chunk.new.reader) so.0 _ so.1 chunk.1,
      rw (p.1, p.2) (follow_failed (reading_of c.args.lengths) c.args.scope c.args.style (so.0 ++ (take c.in_ok-taken.taken c.read_chunk.new.buffer)) (g.R.Source.remaining c.read_chunk.new.reader) (g.W.Sink.written c.args.writer.now) _ c.in_err-feed.field-0.0 (c.in_err-feed.ensures.writes (reading_of c.args.lengths) c.args.scope c.args.style so.0 (g.W.Sink.written c.args.writer.now) so.3)),
    )

pub returns-in_err-feed-clause-read : goal.returns-in_err-feed-clause-read
returns-in_err-feed-clause-read g c = λ is.
    let p = err_from_is_err_and c.from_residual-in_err-feed.result c.from_residual-in_err-feed.ensures.1 in
    let so = c.loop-turn.invariant.so_far in
    absurd (turn_no_read (reading_of c.args.lengths) c.args.scope c.args.style (so.0 ++ (take c.in_ok-taken.taken c.read_chunk.new.buffer)) (g.W.Sink.written c.args.writer.now) _ c.in_err-feed.field-0.0 (c.in_err-feed.ensures.writes (reading_of c.args.lengths) c.args.scope c.args.style so.0 (g.W.Sink.written c.args.writer.now) so.3) cc)

pub returns-in_err-feed-clause-write : goal.returns-in_err-feed-clause-write
returns-in_err-feed-clause-write g c = λ is.
    let p = err_from_is_err_and c.from_residual-in_err-feed.result c.from_residual-in_err-feed.ensures.1 in
    let so = c.loop-turn.invariant.so_far in
    omega (arith, (c.in_err-feed.ensures.counts (reading_of c.args.lengths) c.args.scope c.args.style so.0 (g.W.Sink.written c.args.writer.now) so.3).1 cc, c.loop-turn.invariant.write)

pub loop-turn-preserved : goal.loop-turn-preserved
loop-turn-preserved g c =
    let so = c.loop-turn.invariant.so_far in
    let chunk = c.in_ok-taken.ensures.chunk in
    let has = c.in_ok-feed.ensures.writes (reading_of c.args.lengths) c.args.scope c.args.style so.0 (g.W.Sink.written c.args.writer.now) so.3 in
    record {
      so_far = (so.0 ++ (take c.in_ok-taken.taken c.read_chunk.new.buffer), Consumes-trans (g.R.Source.remaining c.args.reader.now) (g.R.Source.remaining c.loop-turn.reader) (g.R.Source.remaining c.read_chunk.new.reader) so.0 _ so.1 chunk.1, omega (arith, so.2, chunk.0, length-append so.0 (take c.in_ok-taken.taken c.read_chunk.new.buffer), length-take c.in_ok-taken.taken c.read_chunk.new.buffer), has);
      following = c.in_ok-feed.ensures.following;
      read = c.in_ok-taken.ensures.counted ∙ c.loop-turn.invariant.read;
      write = omega (arith, (c.in_ok-feed.ensures.counts (reading_of c.args.lengths) c.args.scope c.args.style so.0 (g.W.Sink.written c.args.writer.now) so.3).0, c.loop-turn.invariant.write);
    }

pub returns-clause-follows : goal.returns-clause-follows
returns-clause-follows g c =
    let so = c.loop-turn.invariant.so_far in
    let many : most < length so.0 = omega (arith, so.2, c.loop-turn-test.false) in
    (so.0, so.1, follow_endless (reading_of c.args.lengths) c.args.scope c.args.style so.0 (g.R.Source.remaining c.loop-turn.reader) (g.W.Sink.written c.args.writer.now) _ c.loop-turn.follower so.3 many)
