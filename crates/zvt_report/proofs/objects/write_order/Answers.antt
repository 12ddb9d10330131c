use Rattle.zvt_report.proofs.objects.write_order.Goals as goal

pub returns-in-Close : goal.returns-in-Close
returns-in-Close c = rw c.in-Close.is c.close.ensures
