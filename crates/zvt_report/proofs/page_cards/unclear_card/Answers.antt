use Rattle.std.proofs.Common.{append_assoc}
use Rattle.zvt_report.specs.PageCards.{unclear_card}
use Rattle.zvt_report.proofs.TextLemmas.{completes}
use Rattle.zvt_report.proofs.page_cards.unclear_card.Goals as goal

pub returns : goal.returns
unfolding unclear_card
returns c =
    completes c.unclear_end.result c.amount_value.new.page c.unclear_end.new.page _ _
    (simp (c.in_ok-amount_value.ensures, c.unclear_total.ensures, c.in_ok-card_start.ensures, c.unclear_class.ensures, c.unclear_reversals-reversals.ensures, append_assoc)) c.unclear_end.ensures
