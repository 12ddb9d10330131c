use Rattle.std.proofs.Common.{sym, subst}
use Rattle.zvt_grammar.specs.Reading.{shortest}
use Rattle.zvt_apdu.specs.declared.messages.Message as declared
use Rattle.zvt_apdu.specs.Grammar.{Data}
use Rattle.zvt_apdu.specs.Messages.{message_of}
use Rattle.zvt_apdu.proofs.SizeLemmas as sizes
use Rattle.zvt_apdu.proofs.writer.data_size.Goals as goal

pub returns-in-Reversal : goal.returns-in-Reversal
returns-in-Reversal c =
    sizes.password_data c.args.message.now c.in-Reversal.password c.in-Reversal.fields c.password_size.result c.fields_size-in-Reversal.result (λ b p. subst (λ (m : declared.Message). Data shortest (message_of m) b) (sym c.in-Reversal.is) p)
    c.password_size.ensures.value c.password_size.ensures.three c.password_size.ensures.bytes c.fields_size-in-Reversal.ensures

pub returns-in-EndOfDay : goal.returns-in-EndOfDay
returns-in-EndOfDay c =
    sizes.password_data c.args.message.now c.in-EndOfDay.password c.in-EndOfDay.fields c.password_size-in-EndOfDay.result c.fields_size-in-EndOfDay.result (λ b p. subst (λ (m : declared.Message). Data shortest (message_of m) b) (sym c.in-EndOfDay.is) p)
    c.password_size-in-EndOfDay.ensures.value c.password_size-in-EndOfDay.ensures.three c.password_size-in-EndOfDay.ensures.bytes c.fields_size-in-EndOfDay.ensures

pub returns-in-Intermediate : goal.returns-in-Intermediate
returns-in-Intermediate c =
    sizes.byte_data c.args.message.now c.in-Intermediate.status c.after_byte.result c.deref-in-Intermediate.result.now c.in-Intermediate.payload.items c.deref-in-Intermediate.ensures.value (λ b p. subst (λ (m : declared.Message). Data shortest (message_of m) b) (sym c.in-Intermediate.is) p)
    c.after_byte.ensures.value c.after_byte.ensures.bytes

pub returns-in-PrintLine : goal.returns-in-PrintLine
returns-in-PrintLine c =
    sizes.byte_data c.args.message.now c.in-PrintLine.attribute c.after_byte-in-PrintLine.result c.deref-in-PrintLine.result.now c.in-PrintLine.text.items c.deref-in-PrintLine.ensures.value (λ b p. subst (λ (m : declared.Message). Data shortest (message_of m) b) (sym c.in-PrintLine.is) p)
    c.after_byte-in-PrintLine.ensures.value c.after_byte-in-PrintLine.ensures.bytes

pub returns-in-Abort : goal.returns-in-Abort
returns-in-Abort c =
    sizes.byte_data c.args.message.now c.in-Abort.code c.after_byte-in-Abort.result c.deref-in-Abort.result.now c.in-Abort.payload.items c.deref-in-Abort.ensures.value (λ b p. subst (λ (m : declared.Message). Data shortest (message_of m) b) (sym c.in-Abort.is) p)
    c.after_byte-in-Abort.ensures.value c.after_byte-in-Abort.ensures.bytes
