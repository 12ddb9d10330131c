use Rattle.std.proofs.Common.{[], refl}
use Rattle.zvt_audit.proofs.follow.Audit.new.Goals as goal

pub returns-clause-heard : goal.returns-clause-heard
returns-clause-heard c = record {
  start = c.in_ok-auditor.auditor;
  starts = c.in_ok-auditor.ensures;
  has = record { events = []; read = c.new.ensures.read; heard = refl; reading = c.new.ensures.reading; is_scope = c.new.ensures.scope };
}
