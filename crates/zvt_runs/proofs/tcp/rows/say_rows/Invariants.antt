use Rattle.std.proofs.Common.{◌≡◌, ◌++◌, take}
use Rattle.zvt_runs.specs.LedgerRows.{rows_text}
use Rattle.zvt_runs.proofs.tcp.rows.say_rows.Given as goal

abbrev pub invariant-loop-row : goal.invariant-loop-row
invariant-loop-row l = l.text ≡ l.initial.text ++ rows_text l.form l.till (take l.row-index l.rows)
