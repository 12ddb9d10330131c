use Rattle.std.proofs.Common.{length, subst}
use Rattle.zvt_grammar.specs.Reading.{shortest}
use Rattle.zvt_apdu.specs.declared.messages.Message as declared
use Rattle.zvt_apdu.specs.Grammar.{Data}
use Rattle.zvt_apdu.specs.Messages.{message_of}
use Rattle.zvt_apdu.proofs.Writing as writing
use Rattle.zvt_apdu.proofs.writer.write_data.Goals as goal

pub write_into-requires : goal.write_into-requires
write_into-requires c listed p =
    writing.listed_alone_fits (length c.args.out.now) c.in-Authorisation.fields c.requires.bytes listed (subst (λ (m : declared.Message). Data shortest (message_of m) c.requires.bytes) c.in-Authorisation.is c.requires.is_data) c.requires.fits p

pub write_into-requires-in-AbortOrder : goal.write_into-requires-in-AbortOrder
write_into-requires-in-AbortOrder c listed p =
    writing.listed_alone_fits (length c.args.out.now) c.in-AbortOrder.fields c.requires.bytes listed (subst (λ (m : declared.Message). Data shortest (message_of m) c.requires.bytes) c.in-AbortOrder.is c.requires.is_data) c.requires.fits p

pub write_into-requires-in-Status : goal.write_into-requires-in-Status
write_into-requires-in-Status c listed p =
    writing.listed_alone_fits (length c.args.out.now) c.in-Status.fields c.requires.bytes listed (subst (λ (m : declared.Message). Data shortest (message_of m) c.requires.bytes) c.in-Status.is c.requires.is_data) c.requires.fits p

pub write_into-requires-in-TextBlock : goal.write_into-requires-in-TextBlock
write_into-requires-in-TextBlock c listed p =
    writing.listed_alone_fits (length c.args.out.now) c.in-TextBlock.fields c.requires.bytes listed (subst (λ (m : declared.Message). Data shortest (message_of m) c.requires.bytes) c.in-TextBlock.is c.requires.is_data) c.requires.fits p

pub write_into-requires-in-Completion : goal.write_into-requires-in-Completion
write_into-requires-in-Completion c listed p =
    writing.listed_alone_fits (length c.args.out.now) c.in-Completion.fields c.requires.bytes listed (subst (λ (m : declared.Message). Data shortest (message_of m) c.requires.bytes) c.in-Completion.is c.requires.is_data) c.requires.fits p

pub put_listed-requires : goal.put_listed-requires
put_listed-requires c listed p =
    writing.listed_fits 3 (length c.args.out.now) c.in-Reversal.password c.in-Reversal.fields c.requires.bytes listed (subst (λ (m : declared.Message). Data shortest (message_of m) c.requires.bytes) c.in-Reversal.is c.requires.is_data) c.requires.fits p

pub put_listed-requires-in-EndOfDay : goal.put_listed-requires-in-EndOfDay
put_listed-requires-in-EndOfDay c listed p =
    writing.listed_fits 3 (length c.args.out.now) c.in-EndOfDay.password c.in-EndOfDay.fields c.requires.bytes listed (subst (λ (m : declared.Message). Data shortest (message_of m) c.requires.bytes) c.in-EndOfDay.is c.requires.is_data) c.requires.fits p
