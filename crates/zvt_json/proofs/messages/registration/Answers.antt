use Rattle.zvt_text.specs.MessageTexts.{part_text}
use Rattle.zvt_text.proofs.RoomLemmas.{puts_more}
use Rattle.zvt_json.specs.Texts.{config_led, currency_led, fields_led}
use Rattle.zvt_json.proofs.MessageLemmas.{registration_first}
use Rattle.zvt_json.proofs.messages.registration.Goals as goal

pub returns : goal.returns
returns c =
    let same = registration_first c.args.message.now c.config.result c.currency.result c.fields.result c.requires.kind c.config.ensures c.currency.ensures c.fields.ensures in
    rw (← same)
    (puts_more c.listed.result _ _ _ _ _ (part_text config_led c.config.result) _ c.in_ok-at.ensures.1
    (puts_more c.listed.result _ _ _ _ _ (part_text currency_led c.currency.result) (part_text fields_led c.fields.result) c.in_ok-at-2.ensures.1 c.listed.ensures))
