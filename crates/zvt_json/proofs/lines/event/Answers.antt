use Rattle.zvt_trace.specs.TraceEvent.{event_of}
use Rattle.zvt_json.proofs.EventLemmas.{line_said, where_added}
use Rattle.zvt_json.proofs.lines.event.Goals as goal

pub returns-clause-adds : goal.returns-clause-adds
returns-clause-adds c =
    let says = line_said c.args.line c.in_ok-size.size (event_of c.args.trace_event.now) c.in_ok-size.ensures in
    where_added c.add.result c.args.text.now _ _ (λ grown. record { one = _; says = says; grown = grown }) c.add.ensures
