use Rattle.zvt_runs.proofs.notes.say_row_settled.Goals as goal

pub returns-in-Paid : goal.returns-in-Paid
returns-in-Paid c = rw c.in-Paid.is c.say_counted.ensures

pub returns-in-NotPaid : goal.returns-in-NotPaid
returns-in-NotPaid c = rw c.in-NotPaid.is c.say_counted-in-NotPaid.ensures

pub returns-in-Reversed : goal.returns-in-Reversed
returns-in-Reversed c = rw c.in-Reversed.is c.say_counted-in-Reversed.ensures

pub returns-in-NotReversed : goal.returns-in-NotReversed
returns-in-NotReversed c = rw c.in-NotReversed.is c.say_counted-in-NotReversed.ensures
