use Rattle.std.proofs.Common.{◌≡◌, ◌+◌}
use Rattle.zvt_play.proofs.ListeningLemmas.{Discards}
use Rattle.zvt_play.proofs.silence.stay_silent.Given as goal

abbrev pub invariant-loop : goal.invariant-loop
invariant-loop g l = record {
  discards : Discards l.counter (g.R.Source.remaining l.initial.reader) (g.R.Source.remaining l.reader);
  failures : g.R.Source.failures l.reader ≡ g.R.Source.failures l.initial.reader;
  reads : g.R.Source.reads l.reader ≡ g.R.Source.reads l.initial.reader + l.counter;
}
