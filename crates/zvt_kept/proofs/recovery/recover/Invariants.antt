use Rattle.std.proofs.Common.{map, take}
use Rattle.zvt_till.specs.Settings.{settings_of}
use Rattle.zvt_settle.specs.Inside.{both_of}
use Rattle.zvt_kept.specs.Reading.{kept_of}
use Rattle.zvt_kept.proofs.PastOrderLemmas.{PastSoFar}
use Rattle.zvt_kept.proofs.Recovering.{SoFar}
use Rattle.zvt_kept.proofs.Replayed.{AskedSoFar}
use Rattle.zvt_kept.proofs.RowNoteLemmas.{NotedSoFar}
use Rattle.zvt_kept.proofs.recovery.recover.Given as goal

abbrev pub invariant-loop-at : goal.invariant-loop-at
invariant-loop-at l = record {
  lived : SoFar (settings_of l.settings) l.entry-items l.at l.till.till.state;
  settles : AskedSoFar (settings_of l.settings) (map kept_of (take l.at l.entry-items)) (both_of l.till);
  noted : NotedSoFar (settings_of l.settings) (map kept_of (take l.at l.entry-items)) l.till.till.state l.notes.last l.notes.booked.items l.notes.unclear.items;
  past : PastSoFar (settings_of l.settings) (map kept_of (take l.at l.entry-items)) l.till.till.state l.orders;
}
