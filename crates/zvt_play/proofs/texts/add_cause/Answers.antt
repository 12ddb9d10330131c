use Rattle.std.proofs.Common.{codes, ◌++◌, refl}
use Rattle.zvt_play.specs.DifferenceTexts.{closed_text, malformed_text}
use Rattle.zvt_play.proofs.TextLemmas.{added, on_ok, three, two}
use Rattle.zvt_play.proofs.texts.add_cause.Goals as goal

pub returns-in_ok-word-in-Other : goal.returns-in_ok-word-in-Other
returns-in_ok-word-in-Other c =
    rw c.in-Other.is (on_ok c.add_came.result _ _ c.add_came.ensures (λ end. (codes "but another message came\n" ++ end.0, (end.0, end.1, refl), two _ _ _ _ _ c.in_ok-word-in-Other.ensures end.2)))

pub returns-in_ok-number-in-Closed : goal.returns-in_ok-number-in-Closed
returns-in_ok-number-in-Closed c =
    rw c.in-Closed.is (added c.word-in-Closed-2.result _ _ _ c.word-in-Closed-2.ensures (λ end. (closed_text c.in-Closed.have, refl, three _ _ _ _ _ _ _ c.in_ok-word-in-Closed.ensures c.in_ok-number-in-Closed.ensures end)))

pub returns-in_ok-word-in-Malformed : goal.returns-in_ok-word-in-Malformed
returns-in_ok-word-in-Malformed c =
    rw c.in-Malformed.is (on_ok c.add_refusal.result _ _ c.add_refusal.ensures (λ end. (malformed_text c.in-Malformed.place c.in-Malformed.why, refl, two _ _ _ _ _ c.in_ok-word-in-Malformed.ensures end)))

pub returns-in-Read : goal.returns-in-Read
returns-in-Read c =
    rw c.in-Read.is (added c.word-in-Read.result _ _ _ c.word-in-Read.ensures (λ end. (codes "but nothing came: the other side timed out, or the connection failed\n", refl, end)))
