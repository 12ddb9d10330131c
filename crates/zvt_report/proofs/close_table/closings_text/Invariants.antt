use Rattle.std.proofs.Common.{◌≡◌, ◌+◌, ◌++◌, length}
use Rattle.zvt_report.specs.CloseTable as table
use Rattle.zvt_report.proofs.close_table.closings_text.Given as goal

abbrev pub invariant-rows : goal.invariant-rows
invariant-rows l = record {
  so_far : l.text ++ table.closings_from l.decimals l.closings l.rows l.place l.rest ≡ l.initial.text ++ table.closings_text l.decimals l.closings l.rows;
  left : l.place + length l.rest ≡ length l.rows;
}

abbrev pub decreases-rows : goal.decreases-rows
decreases-rows l = length l.rest
