-- How many whole messages each side of a trace sent.
use Rattle.std.specs.Prelude.{ℕ, ◌+◌, min}
use Rattle.zvt_trace.specs.declared.direction.Direction.TheVariants.{FromTill, FromTerminal}
use Rattle.zvt_trace.specs.TraceEvent.{TraceEvent, message, refused, unread, resumed, cut_off, lost}
use Rattle.uses.specs.declared.listen.Counts.{Counts}

-- one more, up to the greatest number of 64 bits
abbrev pub one_more : ℕ → ℕ
one_more n = min (n + 1) 18446744073709551615

abbrev pub counted : Counts → TraceEvent → Counts
counted c (message FromTill m) = record c { till = one_more c.till }
counted c (message FromTerminal m) = record c { terminal = one_more c.terminal }
counted c (refused from before byte why) = c
counted c (unread from) = c
counted c (resumed from size) = c
counted c (cut_off from bytes) = c
counted c lost = c
