use Rattle.std.proofs.Common.{◌≡◌, length}
use Rattle.zvt_play.specs.Playing.{HearsPart, IsReady}
use Rattle.zvt_play.specs.Unheard.{unheard_in}
use Rattle.zvt_play.proofs.messages.hear.Given as goal

abbrev pub invariant-messages : goal.invariant-messages
invariant-messages g l = record {
  part : HearsPart l.fn.stream.reading l.demanded (unheard_in l.fn.unheard) (g.R.Source.remaining l.fn.reader) (unheard_in l.unheard) (g.R.Source.remaining l.reader) l.wanted;
  ready : IsReady l.fn.stream.reading l.stream;
  failures : g.R.Source.failures l.reader ≡ g.R.Source.failures l.fn.reader;
}

abbrev pub decreases-messages : goal.decreases-messages
decreases-messages g l = length l.wanted
