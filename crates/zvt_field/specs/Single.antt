-- What single fields say, found in one walk.
use Rattle.std.specs.Prelude.{◌≡◌, ℕ, not, ◌==◌, List, ◌∷◌, filter}
use Rattle.zvt_field.specs.declared.single.Single.{Single}
use Rattle.zvt_field.specs.declared.single.Slot.{Slot}
use Rattle.zvt_field.specs.declared.single.Slot.TheVariants.{Absent, Once, Many}
use Rattle.zvt_field.specs.declared.single.Slots.{Slots}
use Rattle.zvt_field.specs.Grammar.{Field}
use Rattle.zvt_field.specs.Lent.{shown}
use Rattle.zvt_field.specs.Named.{is_named, count_of, amount_of, trace_of, result_of, receipt_of, currency_of, original_of}

-- What was seen of a BMP in the fields before those that are left.
abbrev pub Saw : ℕ → List Field → Slot → (left : List Field) → Type 0
Saw bmp fields Absent left = filter (is_named bmp) fields ≡ filter (is_named bmp) left
Saw bmp fields (Once v) left = filter (is_named bmp) fields ≡ shown v ∷ filter (is_named bmp) left
Saw bmp fields Many left = (one other : Field) × (more : List Field) × (filter (is_named bmp) fields ≡ one ∷ other ∷ more)

abbrev pub Collected : List Field → Slots → (left : List Field) → Type 0
Collected fields slots left =
    Saw 0x27 fields slots.result left × Saw 0x04 fields slots.amount left × Saw 0x0B fields slots.trace left
    × Saw 0x87 fields slots.receipt left × Saw 0x37 fields slots.original left × Saw 0x49 fields slots.currency left

-- What the fields say, each where its BMP appears exactly once, and of two whether they are at all.
abbrev pub Says : List Field → Single → Type 0
Says fields single =
    (single.result ≡ result_of fields) × (single.amount ≡ amount_of fields) × (single.trace ≡ trace_of fields) × (single.receipt ≡ receipt_of fields)
    × (single.original ≡ original_of fields) × (single.has_original ≡ not (count_of 0x37 fields == 0))
    × (single.currency ≡ currency_of fields) × (single.has_currency ≡ not (count_of 0x49 fields == 0))
