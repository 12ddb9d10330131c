use Rattle.std.proofs.Common.{◌≡◌, ◌+◌}
use Rattle.zvt_stream.specs.LineReading.{reading_as}
use Rattle.zvt_runs.specs.Connecting.{given_by}
use Rattle.zvt_runs.specs.Tills.{IsOffline, ServesMany}
use Rattle.zvt_runs.proofs.tcp.terminal.serve_tills.Given as goal

abbrev pub invariant-tills : goal.invariant-tills
invariant-tills g l = record {
  served : ServesMany (reading_as l.run.line) l.gone l.first l.fn.served l.served;
  offline : IsOffline l.served.served.terminal;
  taken : given_by l.door ≡ given_by l.fn.door + l.gone;
}
