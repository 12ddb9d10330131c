use Rattle.std.proofs.Common.{ℕ, Option, arith, refl, sym, subst}
use Rattle.std.specs.Prelude.{None, Some}
use Rattle.zvt_apdu.specs.Briefs.{PutsMessage}
use Rattle.zvt_term.specs.declared.messages.Report.TheVariants.{Registered}
use Rattle.zvt_term.specs.Reports.{message_of_report}
use Rattle.zvt_term.proofs.SpellingLemmas.{put_spelled, nothing_listed, registered_listed, currency_listed}
use Rattle.zvt_term.proofs.writer.put_registration.Goals as goal

pub returns-in-None-clause-written : goal.returns-in-None-clause-written
returns-in-None-clause-written c =
    subst (λ (o : Option ℕ). PutsMessage (message_of_report (Registered c.args.tid o)) c.args.out.now c.put_message.new.out c.put_message.result) (sym c.in-None.is)
    (put_spelled _ 0x06 0x0F _ _ _ _ refl (omega arith) (registered_listed c.args.tid None c.tid_digits.result _ c.tid_digits.ensures c.requires nothing_listed) c.put_message.ensures.written)

pub returns-in-Some-clause-written : goal.returns-in-Some-clause-written
returns-in-Some-clause-written c =
    subst (λ (o : Option ℕ). PutsMessage (message_of_report (Registered c.args.tid o)) c.args.out.now c.put_message-in-Some.new.out c.put_message-in-Some.result) (sym c.in-Some.is)
    (put_spelled _ 0x06 0x0F _ _ _ _ refl (omega arith)
    (registered_listed c.args.tid (Some c.in-Some.currency) c.tid_digits.result _ c.tid_digits.ensures c.requires
    (currency_listed c.in-Some.currency c.currency_digits.result c.currency_digits.ensures.spelled c.currency_digits.ensures.small)) c.put_message-in-Some.ensures.written)
