-- The till's knowledge of the payments that the terminal reversed.
use Rattle.std.specs.Prelude.{◌≡◌, ℕ, ◌⊎◌, Bool, true, false, ◌||◌, List, Option, Some, None, IsTrue, slice_get}
use Rattle.zvt_till.specs.declared.entries.Doubt.{Doubt}
use Rattle.zvt_till.specs.declared.entries.Doubt.TheVariants.{No, Unclear, TakenBack}
use Rattle.zvt_till.specs.declared.entries.Entry.{Entry}
use Rattle.zvt_till.specs.declared.orders.Order.TheVariants.{Reverse}
use Rattle.zvt_till.specs.declared.statuses.Running.{Running}
use Rattle.zvt_till.specs.Sending.{Settings}
use Rattle.zvt_till.specs.Till.{TillState}
use Rattle.zvt_term.specs.declared.ledger.Row.{Row}
use Rattle.zvt_term.specs.declared.world.Move.{Move}
use Rattle.zvt_term.specs.World.{world_with, FitMoves, FitSettings, IsTakenBack}
use Rattle.zvt_term.specs.Orderly.{are_orderly_with}

-- the last reversal is unclear, or the terminal reported that it had reversed the payment before
abbrev pub is_doubted : Doubt → Bool
is_doubted No = false
is_doubted (Unclear cause) = true
is_doubted TakenBack = true

-- the till knows that the payment was reversed, or that it may have been
abbrev pub is_told : Entry → Bool
is_told entry = entry.reversed || is_doubted entry.doubt

-- a reversal of the entry at this index is running
abbrev pub Reverses : ℕ → Option Running → Type 0
Reverses place None = ⊥
Reverses place (Some r) = r.order ≡ Reverse place

-- each approval that the ledger reversed is an entry of the book; the till knows of the reversal, or it is running
abbrev pub KeepsReversals : TillState → List Row → Type 0
KeepsReversals s ledger =
    (number : ℕ) → IsTakenBack ledger number
    → (place : ℕ) × (entry : Entry) × (slice_get s.book place ≡ Some entry) × (entry.trace ≡ number) × (IsTrue (is_told entry) ⊎ Reverses place s.running)

abbrev pub OrderlyWorldsKeepReversals : Type 0
OrderlyWorldsKeepReversals =
    (settings : Settings) (moves : List Move) → FitSettings settings → FitMoves moves → IsTrue (are_orderly_with settings moves)
    → KeepsReversals (world_with settings moves).till (world_with settings moves).terminal.ledger
