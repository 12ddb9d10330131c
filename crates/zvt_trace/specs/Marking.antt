-- What a device has whose lines are marked.
use Rattle.std.specs.Prelude.{◌≡◌, ◌⊎◌, true, ℕ, List, [], ◌∷◌, ◌++◌, Option, Result}
use Rattle.zvt_io.specs.Devices.{Writes}
use Rattle.zvt_trace.specs.Marks.{is_real, mark_text}
use Rattle.zvt_trace.specs.declared.moment.Moment.{Moment}

-- a mark with its line feed, or nothing
abbrev pub MayMark : List ℕ → Type 0
MayMark mark = (mark ≡ []) ⊎ ((moment : Moment) × (is_real moment ≡ true) × (mark ≡ mark_text moment ++ 10 ∷ []))

-- the text has these bytes behind a mark, or alone
abbrev pub IsMarked : (text bytes : List ℕ) → Type 0
IsMarked text bytes = (mark : List ℕ) × MayMark mark × (text ≡ mark ++ bytes)

-- The bytes were written behind a mark, or alone. If it failed, a prefix of that was.
abbrev pub WritesMarked : {E : Type 0} → (old new : Option (List ℕ)) → Result Unit E → (bytes : List ℕ) → Type 0
WritesMarked old new result bytes = (text : List ℕ) × IsMarked text bytes × Writes old new result text
