use Rattle.std.proofs.Common.{[], true, false, sym, ◌∙◌, subst}
use Rattle.sha2.specs.Hashers.{Holds256}
use Rattle.zvt_journal.specs.Text.{text_of}
use Rattle.zvt_kept.proofs.CheckLemmas.{line_hashed}
use Rattle.zvt_kept.proofs.check.with_line.Goals as goal
use Rattle.zvt_kept.proofs.check.with_line.Goals.{then-is_sent, else-is_sent}

pub returns : goal.returns
returns c lines holds =
    elim c.if-is_sent.branch [
      | then-is_sent w ↦ line_hashed true lines c.args.line.now c.if-is_sent.hasher _ _ (sym c.is_sent.ensures ∙ w.if-is_sent.true) (subst (λ h. Holds256 h (text_of lines)) (sym w.hasher-is) holds) c.update.ensures c.update-2.ensures
      | else-is_sent w ↦ line_hashed false lines c.args.line.now c.if-is_sent.hasher _ _ (sym c.is_sent.ensures ∙ w.if-is_sent.false) (subst (λ h. Holds256 h []) (sym w.hasher-is) w.new-hasher.ensures) c.update.ensures c.update-2.ensures
    ]
