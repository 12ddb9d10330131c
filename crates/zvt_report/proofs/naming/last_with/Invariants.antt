use Rattle.std.proofs.Common.{◌≡◌, take}
use Rattle.zvt_report.specs.Naming.{last_with}
use Rattle.zvt_report.proofs.naming.last_with.Given as goal

abbrev pub invariant-entries : goal.invariant-entries
invariant-entries l = l.found ≡ last_with l.fn.receipt 0 (take l.place l.fn.book)
