-- What the decisions promise.
use Rattle.std.specs.Prelude.{◌≡◌, Option, Some, None, Result, Ok}
use Rattle.zvt_till.specs.declared.orders.Order.{Order}
use Rattle.zvt_serve.specs.declared.deciding.Decision.TheVariants.{Give, Replay}
use Rattle.zvt_serve.specs.declared.deciding.Known.{Known}
use Rattle.zvt_serve.specs.declared.deciding.Known.TheVariants.{Ended}
use Rattle.zvt_serve.specs.declared.deciding.Standing.{Standing}
use Rattle.zvt_serve.specs.declared.deciding.Standing.TheVariants.{Ready}
use Rattle.zvt_serve.specs.declared.troubles.Trouble.{Trouble}
use Rattle.zvt_serve.specs.Deciding.{decided}

-- An order is given only if it was asked for, no order has its key, and the till is ready.
abbrev pub GivesFresh : Type 0
GivesFresh = (known : Option Known) (standing : Standing) (wanted : Result Order Trouble) (order : Order)
    → decided known standing wanted ≡ Give order → (known ≡ None) × (standing ≡ Ready) × (wanted ≡ Ok order)

-- A request whose key names its own order, which has ended, is answered by that, whatever the till does.
abbrev pub ReplaysEnded : Type 0
ReplaysEnded = (standing : Standing) (wanted : Result Order Trouble) → decided (Some Ended) standing wanted ≡ Replay
