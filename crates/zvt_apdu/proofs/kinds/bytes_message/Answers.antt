use Rattle.std.proofs.Common.{Some, sym, ap, ◌∙◌}
use Rattle.zvt_apdu.specs.Grammar.{Form}
use Rattle.zvt_apdu.proofs.KindLemmas as kinds
use Rattle.zvt_apdu.proofs.kinds.bytes_message.Goals as goal

pub returns-in-Some-Registration : goal.returns-in-Some-Registration
returns-in-Some-Registration c =
    kinds.is_registration c.args.high c.args.low c.args.first.now c.args.payload.items (sym c.form_of.ensures ∙ c.in-Some-Registration.is ∙ ap (λ (f : Form). Some f) c.in-Some-Registration.field-0-is) c.requires.laid c.requires.are_bytes
