use Rattle.std.proofs.Common.{sym, subst}
use Rattle.zvt_term.specs.declared.messages.Line as printed
use Rattle.zvt_apdu.specs.Message.{print_line}
use Rattle.zvt_apdu.specs.Briefs.{PutsMessage}
use Rattle.zvt_term.specs.Reports.{text_of}
use Rattle.zvt_term.proofs.writer.put_line.Goals as goal

pub returns-in-Approved-clause-written : goal.returns-in-Approved-clause-written
returns-in-Approved-clause-written c =
    subst (λ (l : printed.Line). PutsMessage (print_line 0 (text_of l)) c.args.out.now c.put_amount.new.out c.put_amount.result) (sym c.in-Approved.is) c.put_amount.ensures.written

pub returns-in-Reversed-clause-written : goal.returns-in-Reversed-clause-written
returns-in-Reversed-clause-written c =
    subst (λ (l : printed.Line). PutsMessage (print_line 0 (text_of l)) c.args.out.now c.put_amount-in-Reversed.new.out c.put_amount-in-Reversed.result) (sym c.in-Reversed.is) c.put_amount-in-Reversed.ensures.written

pub returns-in-DayClosed-clause-written : goal.returns-in-DayClosed-clause-written
returns-in-DayClosed-clause-written c =
    subst (λ (l : printed.Line). PutsMessage (print_line 0 (text_of l)) c.args.out.now c.put_text.new.out c.put_text.result) (sym c.in-DayClosed.is) c.put_text.ensures.written
