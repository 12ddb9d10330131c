use Rattle.zvt_report.proofs.TextLemmas.{completes}
use Rattle.zvt_report.proofs.members.write_value.Goals as goal

pub returns-in-Moment : goal.returns-in-Moment
returns-in-Moment c = completes c.write_moment.result c.args.text.now c.write_moment.new.text _ _ (simp (c.in-Moment.is)) c.write_moment.ensures
