use Rattle.zvt_stream.specs.EndState.{end_state}
use Rattle.zvt_runs.specs.Service.{Steps}
use Rattle.zvt_runs.proofs.service.take_steps.Given as goal

abbrev pub invariant-steps : goal.invariant-steps
invariant-steps g l = record {
  stepped : Steps l.taken
      (end_state l.fn.end.stream (g.R.Source.remaining l.fn.end.reader) (g.W.Sink.written l.fn.end.writer) (g.R.Source.reads l.fn.end.reader) (g.R.Source.failures l.fn.end.reader) (g.W.Sink.failures l.fn.end.writer)) l.fn.served
      (end_state l.end.stream (g.R.Source.remaining l.end.reader) (g.W.Sink.written l.end.writer) (g.R.Source.reads l.end.reader) (g.R.Source.failures l.end.reader) (g.W.Sink.failures l.end.writer)) l.served;
}
