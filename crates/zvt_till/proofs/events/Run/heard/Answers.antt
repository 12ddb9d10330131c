use Rattle.std.proofs.Common.{sym, ◌∙◌}
use Rattle.zvt_till.proofs.Runs.{tied-answered, tied-unanswered}
use Rattle.zvt_till.proofs.events.Run.heard.Goals as goal

pub returns-in_ok-send-clause-tied : goal.returns-in_ok-send-clause-tied
returns-in_ok-send-clause-tied c =
    rw (c.in_ok-add.ensures, c.hear-answer.ensures.state)
    (tied-answered _ _ _ _ _ _ c.requires.tied c.requires.up (sym c.in-Some.is ∙ c.hear-answer.ensures.send) c.in_ok-send.ensures)

pub returns-in_default-clause-tied : goal.returns-in_default-clause-tied
returns-in_default-clause-tied c =
    rw (c.in_ok-add.ensures, c.hear-answer.ensures.state)
    (tied-unanswered _ _ _ _ c.requires.tied c.requires.up (sym c.in_default.is ∙ c.hear-answer.ensures.send))
