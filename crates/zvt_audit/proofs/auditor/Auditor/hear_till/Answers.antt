use Rattle.std.proofs.Common.{sym, ◌∙◌}
use Rattle.zvt_audit.proofs.BecomeLemmas.{becomes_by_ack}
use Rattle.zvt_audit.proofs.auditor.Auditor.hear_till.Goals as goal

pub returns-in-Ack : goal.returns-in-Ack
returns-in-Ack c = becomes_by_ack c.args.self.now c.args.line c.args.apdu.now (sym c.kind.ensures ∙ c.in-Ack.is)
