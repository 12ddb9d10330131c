use Rattle.std.proofs.Common.{append_assoc}
use Rattle.zvt_report.specs.PageCards.{taken_back_card}
use Rattle.zvt_report.proofs.TextLemmas.{completes}
use Rattle.zvt_report.proofs.page_cards.taken_back_card.Goals as goal

pub returns : goal.returns
unfolding taken_back_card
returns c =
    completes c.count_end.result c.amount_value.new.page c.count_end.new.page _ _
    (simp (c.reversed_count.ensures, c.in_ok-amount_value.ensures, c.minus.ensures, c.taken_back-taken.ensures, c.in_ok-card_start.ensures, append_assoc)) c.count_end.ensures
