use Rattle.zvt_trace.specs.TraceEvent.{event_of}
use Rattle.zvt_report.proofs.DialogueLemmas.{text_alone}
use Rattle.zvt_report.proofs.page_events.event_text.Goals as goal

pub returns : goal.returns
returns c = text_alone c.render_event.result c.args.line (event_of c.args.trace_event.now) _ _ c.clear.ensures c.render_event.ensures.adds
