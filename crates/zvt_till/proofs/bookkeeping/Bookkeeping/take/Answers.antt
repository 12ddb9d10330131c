use Rattle.std.proofs.Common.{sym, ap, ◌∙◌}
use Rattle.zvt_till.specs.Segments.{force_after}
use Rattle.zvt_till.proofs.Segments.{fold-snoc}
use Rattle.std.specs.Prelude.{None}
use Rattle.zvt_till.proofs.bookkeeping.Bookkeeping.take.Goals as goal

pub returns : goal.returns
returns c = λ log judged.
    let before = rw (← c.self.view_is) at judged in
    let happening = c.args.happening.now in
    (c.in_ok-take.ensures.judged log before.1 before.0, c.force_after-self-inside.ensures ∙ ap (λ force. force_after force happening) before.1 ∙ sym (fold-snoc force_after None log happening))
