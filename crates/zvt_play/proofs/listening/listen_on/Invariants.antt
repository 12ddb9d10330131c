use Rattle.std.proofs.Common.{◌≡◌, length}
use Rattle.zvt_play.proofs.ListeningLemmas.{CameOf}
use Rattle.zvt_play.proofs.listening.listen_on.Given as goal

abbrev pub invariant-reads : goal.invariant-reads
invariant-reads g l = record {
  came : CameOf l.all l.rest (g.R.Source.remaining l.fn.reader) (g.R.Source.remaining l.reader);
  failures : g.R.Source.failures l.reader ≡ g.R.Source.failures l.fn.reader;
}

abbrev pub decreases-reads : goal.decreases-reads
decreases-reads g l = length l.rest
