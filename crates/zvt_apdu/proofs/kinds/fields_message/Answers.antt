use Rattle.std.proofs.Common.{Some, sym, ap, ◌∙◌}
use Rattle.std.proofs.lemmas.List.{take_rest}
use Rattle.zvt_bcd.specs.Digits.{number_of}
use Rattle.zvt_apdu.specs.Grammar.{Form}
use Rattle.zvt_apdu.proofs.KindLemmas as kinds
use Rattle.zvt_apdu.proofs.kinds.fields_message.Goals as goal

pub returns : goal.returns
returns c =
    kinds.is_registered c.args.high c.args.low c.args.first.now c.in-Some.currency c.args.fields (sym c.form_of.ensures ∙ c.in-Some-Registration.is ∙ ap (λ (f : Form). Some f) c.in-Some-Registration.field-0-is) c.requires.fields c.requires.are_bytes
    (c.in-Some.ensures.value ∙ c.number.ensures.value ∙ ap number_of (take_rest c.args.first.now 4))
