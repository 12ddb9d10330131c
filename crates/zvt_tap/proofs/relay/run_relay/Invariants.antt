use Rattle.std.proofs.Common.{◌≡◌, ◌≤◌, ◌+◌}
use Rattle.zvt_tap.specs.Chunks.{sides}
use Rattle.zvt_tap.specs.Watching.{Records}
use Rattle.zvt_tap.proofs.RelayLemmas.{SoFar}
use Rattle.zvt_tap.proofs.relay.run_relay.Given as goal

abbrev pub invariant-loop-turn : goal.invariant-loop-turn
invariant-loop-turn g l = record {
  so_far : SoFar (Records g.K.Observer.observes g.K.Observer.misses g.V.Observer.observes g.V.Observer.misses) l.initial.log l.log
      (sides (g.R.Source.remaining l.initial.ends.till) (g.R.Source.remaining l.initial.ends.terminal) (g.W.Sink.written l.initial.ends.to_terminal) (g.W.Sink.written l.initial.ends.to_till))
      (sides (g.R.Source.remaining l.ends.till) (g.R.Source.remaining l.ends.terminal) (g.W.Sink.written l.ends.to_terminal) (g.W.Sink.written l.ends.to_till)) l.ended;
  reads : g.R.Source.failures l.ends.till + g.R.Source.failures l.ends.terminal ≡ g.R.Source.failures l.initial.ends.till + g.R.Source.failures l.initial.ends.terminal;
  writes : g.W.Sink.failures l.ends.to_terminal + g.W.Sink.failures l.ends.to_till ≡ g.W.Sink.failures l.initial.ends.to_terminal + g.W.Sink.failures l.initial.ends.to_till;
  waits : l._turn ≤ g.L.Readiness.waits l.line;
  line : g.L.Readiness.failures l.line ≡ g.L.Readiness.failures l.initial.line;
}
