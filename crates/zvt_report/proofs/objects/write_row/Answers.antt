use Rattle.zvt_report.proofs.TextLemmas.{completes}
use Rattle.zvt_report.proofs.objects.write_row.Goals as goal

pub returns-in-Pay : goal.returns-in-Pay
returns-in-Pay c = completes c.payment.result c.args.text.now c.payment.new.text _ _ (simp (c.in-Pay.is)) c.payment.ensures
