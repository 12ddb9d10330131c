use Rattle.std.proofs.Common.{◌≡◌, ◌-◌, false, length}
use Rattle.zvt_stream.specs.StreamState.{IsReserved}
use Rattle.zvt_play.specs.Playing.{LeavesOrNot}
use Rattle.zvt_play.specs.Unheard.{unheard_in}
use Rattle.zvt_play.proofs.NextLemmas.{Coming}
use Rattle.zvt_play.proofs.messages.next_message.Given as goal

abbrev pub invariant-pieces : goal.invariant-pieces
invariant-pieces g l = record {
  coming : Coming (unheard_in l.fn.unheard) (g.R.Source.remaining l.fn.reader) l.stream.held (unheard_in l.unheard) (g.R.Source.remaining l.reader);
  agreed : LeavesOrNot l.demanded l.stream.held l.left;
  goes_on : l.stream.stopped ≡ false;
  reading : l.stream.reading ≡ l.fn.stream.reading;
  reserved : IsReserved l.stream;
  failures : g.R.Source.failures l.reader ≡ g.R.Source.failures l.fn.reader;
}

abbrev pub decreases-pieces : goal.decreases-pieces
decreases-pieces g l = 65540 - length l.stream.held
