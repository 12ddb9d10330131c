use Rattle.std.proofs.Common.{◌∙◌}
use Rattle.std.proofs.Math.IntN.{+ℤ_idr}
use Rattle.zvt_runs.proofs.trace_marks.moment_at.Goals as goal

pub returns : goal.returns
returns c = (c.to_datetime.result, c.to_datetime.ensures ∙ +ℤ_idr c.args.instant.nanosecond, c.moment_shown.ensures)
