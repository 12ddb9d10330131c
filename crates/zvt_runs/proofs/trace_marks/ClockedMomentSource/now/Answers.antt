use Rattle.std.proofs.Common.{IfSome, None, Option, Some, ℤ}
use Rattle.zvt_trace.specs.declared.moment.Moment.{Moment}
use Rattle.zvt_runs.specs.TraceMarks.{ShowsAt}
use Rattle.zvt_runs.proofs.trace_marks.ClockedMomentSource.now.Goals as goal

is_shown : (nanoseconds : ℤ) (shown : Option Moment) → ShowsAt nanoseconds shown → IfSome shown (λ moment. (at : ℤ) × ShowsAt at (Some moment))
is_shown nanoseconds None shows = tt
is_shown nanoseconds (Some moment) shows = (nanoseconds, shows)

pub returns : goal.returns
returns g c = is_shown c.in_ok-ok.field-0.nanosecond c.moment_at.result c.moment_at.ensures
