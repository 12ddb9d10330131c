use Rattle.std.proofs.Common.{List, ◌++◌, ◌∷◌, [], sym, subst, ap, ◌∙◌}
use Rattle.std.specs.Prelude.{is_some}
use Rattle.zvt_apdu.specs.Message.{Message}
use Rattle.zvt_report.specs.Reported.{beginning}
use Rattle.zvt_report.specs.Said.{AreSaidBy}
use Rattle.zvt_report.specs.declared.rows.OrderMessage.{OrderMessage}
use Rattle.zvt_report.proofs.ReporterLemmas.{said_more}
use Rattle.zvt_report.proofs.SaidLemmas.{message_begun}
use Rattle.zvt_report.proofs.ordering.add_message.Goals as goal

pub returns-in_ok-push : goal.returns-in_ok-push
returns-in_ok-push c = λ messages said.
    let begins = ap is_some (sym c.beginning.ensures) ∙ sym c.is_some.ensures ∙ c.if-is_some.true in
    subst (λ (l : List Message). AreSaidBy (messages ++ l) c.push.new.self.items) (sym (message_begun c.args.apdu.now (beginning c.args.apdu.now) begins))
    (subst (λ (l : List OrderMessage). AreSaidBy (messages ++ c.args.apdu.now ∷ []) l) (sym c.in_ok-push.ensures.items)
    (said_more messages c.args.apdu.now c.args.messages.now.items c.in_ok-message.message said c.in_ok-message.ensures))
