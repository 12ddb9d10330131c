use Rattle.std.proofs.Common.{◌≡◌, [], take}
use Rattle.zvt_play.specs.Playing.{IsReady, Plays, acts_of, line_state}
use Rattle.zvt_play.specs.Unheard.{unheard_in}
use Rattle.zvt_play.proofs.player.play.Given as goal

abbrev pub invariant-loop-at : goal.invariant-loop-at
invariant-loop-at g l = record {
  plays : Plays l.fn.end.stream.reading (take l.at (acts_of l.steps)) (line_state [] (g.R.Source.remaining l.fn.end.reader) (g.W.Sink.written l.fn.end.writer) l.fn.end.stream.lent l.fn.names) (line_state (unheard_in l.unheard) (g.R.Source.remaining l.end.reader) (g.W.Sink.written l.end.writer) l.end.stream.lent l.names);
  ready : IsReady l.fn.end.stream.reading l.end.stream;
  reads : g.R.Source.failures l.end.reader ≡ g.R.Source.failures l.fn.end.reader;
  writes : g.W.Sink.failures l.end.writer ≡ g.W.Sink.failures l.fn.end.writer;
}
