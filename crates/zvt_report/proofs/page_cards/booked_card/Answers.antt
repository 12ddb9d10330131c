use Rattle.std.proofs.Common.{append_assoc}
use Rattle.zvt_report.specs.PageCards.{booked_card}
use Rattle.zvt_report.proofs.TextLemmas.{completes}
use Rattle.zvt_report.proofs.page_cards.booked_card.Goals as goal

pub returns : goal.returns
unfolding booked_card
returns c =
    completes c.count_end.result c.amount_value.new.page c.count_end.new.page _ _
    (simp (c.in_ok-amount_value.ensures, c.booked_total.ensures, c.in_ok-card_start.ensures, append_assoc)) c.count_end.ensures
