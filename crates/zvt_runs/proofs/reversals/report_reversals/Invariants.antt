use Rattle.std.proofs.Common.{◌≡◌, take}
use Rattle.std.specs.Io.KnownBytes.{Appends}
use Rattle.zvt_till.specs.Doubts.{unclear_reversals}
use Rattle.zvt_runs.specs.Reporting.{reversals_text}
use Rattle.zvt_runs.proofs.reversals.report_reversals.Given as goal

abbrev pub invariant-entries : goal.invariant-entries
invariant-entries g l =
    record {
      number : l.number ≡ l.entry-index;
      so_far : Appends (g.E.Sink.written l.initial.report) (g.E.Sink.written l.report) (reversals_text (unclear_reversals (take l.entry-index l.book)));
      failures : g.E.Sink.failures l.report ≡ g.E.Sink.failures l.initial.report;
    }
