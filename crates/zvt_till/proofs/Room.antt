-- The room for payments: what is heard takes no more than the place that the running payment has.
use Rattle.std.proofs.Common.{ℕ, ◌+◌, ◌≤◌, Option, Some, None, arith}
use Rattle.zvt_till.specs.declared.orders.Order.{Order}
use Rattle.zvt_till.specs.declared.orders.Order.TheVariants.{Register, Pay, Reverse, CloseDay, Cancel}
use Rattle.zvt_till.specs.declared.statuses.Running.{Running}
use Rattle.zvt_till.specs.View.{TillValue, claimed_by, claimed, KeepsRoom}

order-claims-one : (o : Order) → claimed_by o ≤ 1
order-claims-one Register = omega arith
order-claims-one (Pay a) = omega arith
order-claims-one (Reverse e) = omega arith
order-claims-one CloseDay = omega arith
order-claims-one Cancel = omega arith

claims-one : (run : Option Running) → claimed run ≤ 1
claims-one None = omega arith
claims-one (Some r) = order-claims-one r.order

-- an order that leaves the places, and what is heard after it, take one place at most
pub takes-one : (old sent new : TillValue) → old.spare ≤ sent.spare → KeepsRoom sent new → old.spare ≤ new.spare + 1
takes-one old sent new room keeps = let one = claims-one sent.state.running in omega (arith, room, keeps, one)

pub keeps-twice : (old middle new : TillValue) → KeepsRoom old middle → KeepsRoom middle new → KeepsRoom old new
keeps-twice old middle new first next = omega (arith, first, next)
