use Rattle.std.proofs.Common.{sym, subst}
use Rattle.zvt_apdu.specs.declared.brief.Brief.{Brief}
use Rattle.zvt_apdu.specs.Briefs.{message_of_brief, PutsMessage}
use Rattle.zvt_apdu.proofs.BriefLemmas as brief
use Rattle.zvt_apdu.proofs.brief.put_brief.Goals as goal

pub returns-in-Ack-clause-written : goal.returns-in-Ack-clause-written
returns-in-Ack-clause-written c =
    subst (λ (b : Brief). PutsMessage (message_of_brief b) c.args.buffer.now c.put_message.new.out c.put_message.result) (sym c.in-Ack.is) (record { bytes = _; spelled = brief.ack_spelled; puts = c.put_message.ensures.written })

pub returns-in-Nack-clause-written : goal.returns-in-Nack-clause-written
returns-in-Nack-clause-written c =
    subst (λ (b : Brief). PutsMessage (message_of_brief b) c.args.buffer.now c.put_message-in-Nack.new.out c.put_message-in-Nack.result) (sym c.in-Nack.is)
    (record { bytes = _; spelled = brief.nack_spelled c.in-Nack.code c.put_message-in-Nack.ensures.control.1.0; puts = c.put_message-in-Nack.ensures.written })

pub returns-in-AbortOrder-clause-written : goal.returns-in-AbortOrder-clause-written
returns-in-AbortOrder-clause-written c =
    subst (λ (b : Brief). PutsMessage (message_of_brief b) c.args.buffer.now c.put_message-in-AbortOrder.new.out c.put_message-in-AbortOrder.result) (sym c.in-AbortOrder.is)
    (record { bytes = _; spelled = brief.abort_spelled; puts = c.put_message-in-AbortOrder.ensures.written })

pub returns-in-CloseDay-clause-written : goal.returns-in-CloseDay-clause-written
returns-in-CloseDay-clause-written c =
    subst (λ (b : Brief). PutsMessage (message_of_brief b) c.args.buffer.now c.put_with_password-in-CloseDay.new.out c.put_with_password-in-CloseDay.result) (sym c.in-CloseDay.is)
    (record { bytes = _; spelled = brief.closing_spelled c.in-CloseDay.password c.put_with_password-in-CloseDay.ensures.three c.put_with_password-in-CloseDay.ensures.bytes; puts = c.put_with_password-in-CloseDay.ensures.written })

pub returns-in-Reverse-clause-written : goal.returns-in-Reverse-clause-written
returns-in-Reverse-clause-written c =
    subst (λ (b : Brief). PutsMessage (message_of_brief b) c.args.buffer.now c.put_reversal.new.out c.put_reversal.result) (sym c.in-Reverse.is) c.put_reversal.ensures.written

pub returns-in-Register-clause-written : goal.returns-in-Register-clause-written
returns-in-Register-clause-written c =
    let put = c.put_with_password.ensures in
    let digits = c.currency_digits in
    subst (λ (b : Brief). PutsMessage (message_of_brief b) c.args.buffer.now c.put_with_password.new.out c.put_with_password.result) (sym c.in-Register.is)
    (record { bytes = _; spelled = brief.registration_by_two c.in-Register.password digits.result c.in-Register.config c.in-Register.currency put.three put.bytes put.more_bytes.0 digits.ensures.two digits.ensures.digits digits.ensures.number; puts = put.written })
