use Rattle.std.proofs.Common.{append_assoc}
use Rattle.zvt_report.specs.PageCards.{net_card}
use Rattle.zvt_report.proofs.TextLemmas.{completes}
use Rattle.zvt_report.proofs.page_cards.net_card.Goals as goal

pub returns : goal.returns
unfolding net_card
returns c =
    completes c.card_end.result c.amount_value.new.page c.card_end.new.page _ _
    (simp (c.in_ok-amount_value.ensures, c.net_total.ensures, c.in_ok-card_start.ensures, append_assoc)) c.card_end.ensures
