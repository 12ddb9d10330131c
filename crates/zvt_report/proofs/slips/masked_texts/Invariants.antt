use Rattle.std.proofs.Common.{◌≡◌, ◌++◌, length, map}
use Rattle.zvt_report.specs.Masking.{masked}
use Rattle.zvt_report.proofs.slips.masked_texts.Given as goal

abbrev pub invariant-lines : goal.invariant-lines
invariant-lines l = l.texts.items ++ map masked (map (λ line. line.now) l.rest) ≡ map masked (map (λ line. line.now) l.lines)

abbrev pub decreases-lines : goal.decreases-lines
decreases-lines l = length l.rest
