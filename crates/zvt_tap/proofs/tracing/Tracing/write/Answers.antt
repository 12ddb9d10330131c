use Rattle.std.proofs.Common.{subst}
use Rattle.zvt_trace.specs.Lines.{piece_text}
use Rattle.zvt_trace.specs.Observing.{MissesLine, SomeMisses}
use Rattle.zvt_trace.specs.declared.listener.ListenerError.{ListenerError}
use Rattle.zvt_tap.proofs.TracedLemmas.{wrote_not, wrote_still}
use Rattle.zvt_tap.proofs.tracing.Tracing.write.Goals as goal

pub returns-then-self : goal.returns-then-self
returns-then-self g c = wrote_still g.T.Sink.written g.T.Sink.failures (piece_text c.args.from c.args.bytes.now) c.args.self.now c.if-self.true

pub returns-in-Err-Write : goal.returns-in-Err-Write
returns-in-Err-Write g c =
    wrote_not g.T.Sink.written g.T.Sink.failures c.args.from c.args.bytes.now c.args.self.now.failed c.args.self.now.required c.args.self.now.trace c.observe.new.self c.if-self.false
    (subst (λ (why : ListenerError). SomeMisses (λ a from bytes failure b. MissesLine g.T.Sink.written g.T.Sink.failures from bytes failure a.device b.device) c.args.from c.args.bytes.now why c.args.self.now.trace c.observe.new.self) c.in-Err-Write.field-0-is c.in-Err-Write.ensures)
