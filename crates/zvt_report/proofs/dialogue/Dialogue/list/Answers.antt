use Rattle.std.proofs.Common.{◌∙◌, length, sym}
use Rattle.zvt_trace.specs.TraceEvent.{event_of, on}
use Rattle.zvt_report.proofs.DialogueLemmas.{lists_full, lists_one, lists_out}
use Rattle.zvt_report.proofs.dialogue.Dialogue.list.Goals as goal

pub returns-then-is_full : goal.returns-then-is_full
returns-then-is_full c = lists_full c.args.self.now (on c.args.line (event_of c.args.trace_event.now)) (sym c.is_full.ensures ∙ c.if-is_full.true)

pub returns-then-not-is_within : goal.returns-then-not-is_within
returns-then-not-is_within c = lists_out c.args.self.now (on c.args.line (event_of c.args.trace_event.now)) (sym c.is_within.ensures ∙ c.if-not-is_within.true)

pub returns : goal.returns
returns c =
    lists_one c.add.result c.args.self.now c.add.new.self (on c.args.line (event_of c.args.trace_event.now)) (sym c.is_full.ensures ∙ c.if-is_full.false) (sym c.is_within.ensures ∙ c.if-not-is_within.false)
    c.add.ensures
