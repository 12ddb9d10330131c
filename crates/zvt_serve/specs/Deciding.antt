-- What becomes of a request for an order.
use Rattle.std.specs.Prelude.{Bool, if◌then◌else◌, Option, Some, None, Result, Ok, Err}
use Rattle.zvt_till.specs.declared.orders.Order.{Order}
use Rattle.zvt_till.specs.declared.outcomes.Outcome.{Outcome}
use Rattle.zvt_serve.specs.declared.troubles.Trouble.{Trouble}
use Rattle.zvt_serve.specs.declared.troubles.Trouble.TheVariants.{Book, Busy, Interrupted, KeyReused, Stopping as IsStopping}
use Rattle.zvt_serve.specs.declared.deciding.Decision.{Decision}
use Rattle.zvt_serve.specs.declared.deciding.Decision.TheVariants.{Give, Hold, Join, Refuse, Replay}
use Rattle.zvt_serve.specs.declared.deciding.Known.{Known}
use Rattle.zvt_serve.specs.declared.deciding.Known.TheVariants.{Ended, Other, Running}
use Rattle.zvt_serve.specs.declared.deciding.Standing.{Standing}
use Rattle.zvt_serve.specs.declared.deciding.Standing.TheVariants.{Asking, Failed, Occupied, Ready, Stopping, Unregistered}

-- an order that ended like this, or is running
abbrev pub known_by : Option Outcome → Known
known_by None = Running
known_by (Some outcome) = Ended

-- what a till can do, by what is known of it
abbrev pub standing_of : (failed stopping registered occupied rests : Bool) → Standing
standing_of failed stopping registered occupied rests =
    if failed then Failed else (if stopping then Stopping else (if registered then (if occupied then Occupied else
    (if rests then Ready else Asking)) else Unregistered))

-- of a request whose key no order has
abbrev pub decided_fresh : Standing → Order → Decision
decided_fresh Failed order = Refuse Book
decided_fresh Stopping order = Refuse IsStopping
decided_fresh Unregistered order = Hold
decided_fresh Asking order = Hold
decided_fresh Occupied order = Refuse Busy
decided_fresh Ready order = Give order

abbrev pub decided_wanted : Standing → Result Order Trouble → Decision
decided_wanted standing (Err trouble) = Refuse trouble
decided_wanted standing (Ok order) = decided_fresh standing order

-- of a request whose key a running order has: once the book failed, nobody learns its end from this till
abbrev pub decided_running : Standing → Decision
decided_running Failed = Refuse Interrupted
decided_running Stopping = Join
decided_running Unregistered = Join
decided_running Asking = Join
decided_running Occupied = Join
decided_running Ready = Join

abbrev pub decided : Option Known → Standing → Result Order Trouble → Decision
decided None standing wanted = decided_wanted standing wanted
decided (Some Other) standing wanted = Refuse KeyReused
decided (Some Ended) standing wanted = Replay
decided (Some Running) standing wanted = decided_running standing
