use Rattle.zvt_text.proofs.RoomLemmas.{puts_same}
use Rattle.zvt_text.proofs.DetailLemmas.{registration_written, abort_written}
use Rattle.zvt_text.proofs.heads.detail.Goals as goal

pub returns-in_ok-at-in-Registration : goal.returns-in_ok-at-in-Registration
returns-in_ok-at-in-Registration c =
    puts_same c.currency-in-Registration.result _ _ _
    (registration_written c.args.options c.args.message.now _ _ c.config.result c.currency.result c.in-Registration.ensures c.config.ensures c.currency.ensures c.in_ok-at-in-Registration.ensures.1)
    c.currency-in-Registration.ensures

pub returns-in_ok-at-in-Abort : goal.returns-in_ok-at-in-Abort
returns-in_ok-at-in-Abort c =
    puts_same c.data-in-Abort.result _ _ _
    (abort_written c.args.options c.args.message.now _ _ c.code-in-Abort.result _ c.in-Abort.ensures c.code-in-Abort.ensures c.payload-in-Abort.ensures c.in_ok-at-in-Abort.ensures.1)
    c.data-in-Abort.ensures
