use Rattle.zvt_play.proofs.TextLemmas.{on_ok, six}
use Rattle.zvt_play.proofs.texts.add_unread.Goals as goal

pub returns : goal.returns
returns c =
    on_ok c.add_refusal.result _ _ c.add_refusal.ensures (λ end. let all = six _ _ _ _ _ _ _ _ _ _ _ _ _ c.in_ok-word.ensures c.in_ok-hexadecimal.ensures c.in_ok-word-2.ensures c.in_ok-number.ensures c.in_ok-word-3.ensures end in all)
