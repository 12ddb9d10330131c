use Rattle.std.proofs.Common.{◌≡◌, ◌++◌, take}
use Rattle.zvt_till.specs.Judging.{rows_value}
use Rattle.std.specs.List.{flat_map}
use Rattle.zvt_audit.specs.Json.{booked_text, rows_text, unclear_text, unfollowed_text}
use Rattle.zvt_audit.proofs.objects.write.Given as goal

abbrev pub invariant-loop-at : goal.invariant-loop-at
invariant-loop-at l = l.text ≡ l.initial.text ++ rows_text booked_text l.ends.booked.items (rows_value (take l.at l.row-items))

abbrev pub invariant-loop-at-2 : goal.invariant-loop-at-2
invariant-loop-at-2 l = l.text ≡ l.initial.text ++ rows_text unclear_text l.ends.unclear.items (take l.at l.row-items)
