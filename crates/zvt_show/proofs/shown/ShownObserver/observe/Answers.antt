use Rattle.std.proofs.Common.{◌∙◌, ap, is_some, sym}
use Rattle.zvt_trace.specs.Lines.{piece_text}
use Rattle.zvt_show.proofs.BesideLemmas.{shows_still, tells_still}
use Rattle.zvt_show.proofs.shown.ShownObserver.observe.Goals as goal

pub returns-then-is_some : goal.returns-then-is_some
returns-then-is_some g c =
    let failed = ap (λ s. is_some s.fault) (sym c.self.view_is) ∙ sym c.is_some.ensures ∙ c.if-is_some.true in
    let text = piece_text c.args.from c.args.bytes.now in
    (shows_still g.W.Sink.written g.L.Listener.hears c.args.self.now text failed, tells_still g.W.Sink.written g.L.Listener.hears c.args.self.now text failed)
