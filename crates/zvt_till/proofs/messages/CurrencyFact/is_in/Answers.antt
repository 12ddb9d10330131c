use Rattle.std.proofs.Common.{rules}
use Rattle.zvt_till.proofs.messages.CurrencyFact.is_in.Goals as goal

pub returns-in-Absent : goal.returns-in-Absent
returns-in-Absent c = search rules

pub returns-in-Some : goal.returns-in-Some
returns-in-Some c = search rules
