use Rattle.std.proofs.Common.{◌≡◌, ◌++◌, take}
use Rattle.std.specs.List.{flat_map}
use Rattle.zvt_audit.specs.Json.{unfollowed_text}
use Rattle.zvt_audit.proofs.objects.unfollowed_rows.Given as goal

abbrev pub invariant-loop-order : goal.invariant-loop-order
invariant-loop-order l = l.text ≡ l.initial.text ++ flat_map unfollowed_text (take l.order-index l.orders)
