-- Events have exactly one log, which does not depend on where the bytes of a line were cut.
use Rattle.std.specs.Prelude.{◌≡◌, ℕ, List, ◌∷◌, ◌++◌}
use Rattle.zvt_till.specs.declared.happenings.Happening.{Happening}
use Rattle.zvt_till.specs.declared.events.Event.{Event}
use Rattle.zvt_till.specs.declared.events.Event.TheVariants.{Connected, Order as OrderEvent, Piece, Lost}
use Rattle.zvt_till.specs.Events.{IsLogOf}

-- events have one log
abbrev pub LogsAreOne : Type 0
LogsAreOne = (events : List Event) (log other : List Happening) → IsLogOf events log → IsLogOf events other → log ≡ other

-- the event brings these bytes
abbrev pub Brings : List ℕ → Event → Type 0
Brings bytes Connected = ⊥
Brings bytes (OrderEvent order) = ⊥
Brings bytes (Piece piece) = piece.items ≡ bytes
Brings bytes Lost = ⊥

-- two pieces are as good as one of all their bytes
abbrev pub CuttingsAgree : Type 0
CuttingsAgree =
    (before after : List Event) (one other whole : Event) (prefix back : List ℕ) (log : List Happening)
    → Brings prefix one → Brings back other → Brings (prefix ++ back) whole
    → IsLogOf (before ++ one ∷ other ∷ after) log → IsLogOf (before ++ whole ∷ after) log
