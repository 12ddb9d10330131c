use Rattle.std.proofs.Common.{arith, refl, sym, subst, [], ◌∷◌}
use Rattle.zvt_apdu.specs.Briefs.{PutsMessage}
use Rattle.zvt_term.specs.declared.messages.Report.{Report}
use Rattle.zvt_term.specs.Reports.{message_of_report}
use Rattle.zvt_term.proofs.SpellingLemmas.{put_spelled, status_data, completion_data, result_fields, nothing_listed}
use Rattle.zvt_term.proofs.writer.put_report.Goals as goal

pub returns-in-Ack-clause-written : goal.returns-in-Ack-clause-written
returns-in-Ack-clause-written c =
    subst (λ (r : Report). PutsMessage (message_of_report r) c.args.buffer.now c.put_message.new.out c.put_message.result) (sym c.in-Ack.is)
    (put_spelled _ 0x80 0x00 [] _ _ _ refl (omega arith) (refl, refl, tt, tt) c.put_message.ensures.written)

pub returns-in-Nack-clause-written : goal.returns-in-Nack-clause-written
returns-in-Nack-clause-written c =
    subst (λ (r : Report). PutsMessage (message_of_report r) c.args.buffer.now c.put_message-in-Nack.new.out c.put_message-in-Nack.result) (sym c.in-Nack.is)
    (put_spelled _ 0x84 c.in-Nack.code [] _ _ _ (refl, c.put_message-in-Nack.ensures.control.1.0) (omega arith) (refl, refl, tt, tt) c.put_message-in-Nack.ensures.written)

pub returns-in-Result-clause-written : goal.returns-in-Result-clause-written
returns-in-Result-clause-written c =
    subst (λ (r : Report). PutsMessage (message_of_report r) c.args.buffer.now c.put_message-in-Result.new.out c.put_message-in-Result.result) (sym c.in-Result.is)
    (put_spelled _ 0x04 0x0F (0x27 ∷ c.in-Result.code ∷ []) _ _ _ refl (omega arith) (status_data _ _ (result_fields c.in-Result.code [] [] c.put_message-in-Result.ensures.content.1.0 nothing_listed)) c.put_message-in-Result.ensures.written)

pub returns-in-Done-clause-written : goal.returns-in-Done-clause-written
returns-in-Done-clause-written c =
    subst (λ (r : Report). PutsMessage (message_of_report r) c.args.buffer.now c.put_message-in-Done.new.out c.put_message-in-Done.result) (sym c.in-Done.is)
    (put_spelled _ 0x06 0x0F [] _ _ _ refl (omega arith) (completion_data [] [] nothing_listed) c.put_message-in-Done.ensures.written)

pub returns-in-Aborted-clause-written : goal.returns-in-Aborted-clause-written
returns-in-Aborted-clause-written c =
    subst (λ (r : Report). PutsMessage (message_of_report r) c.args.buffer.now c.put_message-in-Aborted.new.out c.put_message-in-Aborted.result) (sym c.in-Aborted.is)
    (put_spelled _ 0x06 0x1E (c.in-Aborted.code ∷ []) _ _ _ refl (omega arith) (refl, refl, c.put_message-in-Aborted.ensures.content, tt) c.put_message-in-Aborted.ensures.written)
