use Rattle.std.proofs.Common.{◌≡◌, ◌≤◌, ℕ, List, length}
use Rattle.std.specs.Io.KnownBytes.{Consumes}
use Rattle.zvt_grammar.specs.Lengths.{reading_of}
use Rattle.zvt_show.specs.Followed.{HasWritten, IsFollowing}
use Rattle.zvt_show.proofs.follow.follow_trace.Given as goal

abbrev pub invariant-loop-turn : goal.invariant-loop-turn
invariant-loop-turn g l = record {
  so_far : (taken : List ℕ) × Consumes (g.R.Source.remaining l.initial.reader) (g.R.Source.remaining l.reader) taken × (l._turn ≤ length taken)
      × HasWritten (reading_of l.fn.lengths) l.fn.scope l.fn.style taken (g.W.Sink.written l.initial.writer) (g.W.Sink.written l.writer) l.follower;
  following : IsFollowing l.follower;
  read : g.R.Source.failures l.reader ≡ g.R.Source.failures l.initial.reader;
  write : g.W.Sink.failures l.initial.writer ≤ g.W.Sink.failures l.writer;
}
