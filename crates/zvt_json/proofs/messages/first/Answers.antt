use Rattle.std.specs.Option.{option_copied}
use Rattle.zvt_text.specs.MessageTexts.{part_text}
use Rattle.zvt_text.proofs.RoomLemmas.{puts_more}
use Rattle.zvt_json.specs.Texts.{control_led, size_led}
use Rattle.zvt_json.proofs.MessageLemmas.{other_first}
use Rattle.zvt_json.proofs.messages.first.Goals as goal

pub returns-in_ok-at-in-Other : goal.returns-in_ok-at-in-Other
returns-in_ok-at-in-Other c =
    let same = other_first c.args.message.now c.control.result _ c.in-Other.ensures c.control.ensures.value c.payload-in-Other.ensures in
    rw (← same)
    (puts_more c.data_size.result _ _ _ _ _ (control_led c.control.result) (part_text size_led (option_copied c.payload-in-Other.result)) c.in_ok-at-in-Other.ensures.1 c.data_size.ensures)
