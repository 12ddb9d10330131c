use Rattle.std.proofs.Common.{◌≡◌, ◌++◌, take}
use Rattle.zvt_report.specs.LookObjects.{looks_json}
use Rattle.zvt_report.proofs.look_objects.look_rows.Given as goal

abbrev pub invariant-loop-look : goal.invariant-loop-look
invariant-loop-look l = l.text ≡ l.initial.text ++ looks_json l.decimals l.book l.closings l.messages l.rows (take l.look-index l.looks)
