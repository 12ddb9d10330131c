-- The bytes that a handle's till is saved in and loaded from.
use Rattle.std.specs.Prelude.{◌≡◌, ◌⊎◌, ℕ, List, length, Option, Some, None, option_map}
use Rattle.zvt_till.specs.SnapshotDecoding.{strictly}
use Rattle.zvt_till.specs.SnapshotEncoded.{saved, saved_first, HasNoDoubts, IsKept, IsSavedAs}
use Rattle.zvt_stream.specs.StreamState.{at_start}
use Rattle.zvt_till.specs.Till.{TillState, step}
use Rattle.zvt_till.specs.declared.happenings.Happening.TheVariants.{Lost}
use Rattle.zvt_settle.specs.Inside.{settling_of}
use Rattle.zvt_settle.specs.Settling.{new_settling}
use Rattle.zvt_c.specs.declared.answer.ZvtAnswer.{ZvtAnswer}
use Rattle.zvt_c.specs.declared.session.Session.{Session}
use Rattle.zvt_c.specs.Cards.{no_card}
use Rattle.zvt_c.specs.Texts.{Writes}
use Rattle.zvt_c.specs.Statuses as statuses

-- The size of the bytes, which are at the start of the buffer if they fit.
abbrev pub Written : (bytes : List ℕ) (size : ℕ) (buffer_before buffer_after : List ℕ) → Type 0
Written bytes size before after = (size ≡ length bytes) × Writes bytes before after

abbrev pub bare : ℕ → ZvtAnswer
bare status = record { size = 0; place = 0; reason = 0; status = status }

-- An answer with only a size, and the status `ok`.
abbrev pub sized : ℕ → ZvtAnswer
sized size = record { size = size; place = 0; reason = 0; status = statuses.ok }

-- The bytes of the till after losing its connection, which can be loaded; or nothing, because the handle is closed or
-- memory ran out.
abbrev pub Saves : Option Session → (buffer_before buffer_after : List ℕ) → ZvtAnswer → Type 0
Saves None before after answer = (after ≡ before) × (answer ≡ bare statuses.closed)
Saves (Some end) before after answer =
    ((answer ≡ sized answer.size) × Written (saved (step end.till.till.state Lost)) answer.size before after × IsKept (step end.till.till.state Lost)) ⊎ ((after ≡ before) × (answer ≡ bare statuses.no_memory))

-- A till that is saved in these bytes, in this layout or in the first, with nothing to settle, a stream at the start of
-- its line, and no card.
abbrev pub Loads : List ℕ → Option Session → Type 0
Loads bytes None = ⊥
Loads bytes (Some end) = IsSavedAs bytes (step end.till.till.state Lost) × (settling_of end.till ≡ new_settling) × (end.stream ≡ at_start) × (end.card ≡ no_card)

-- The handle's till has this state under the strict rules, or memory ran out.
abbrev pub IsRestored : TillState → (after : Option Session) → (status : ℕ) → Type 0
IsRestored state after status = ((status ≡ statuses.ok) × (option_map (λ end. end.till.till.state) after ≡ Some (strictly state))) ⊎ (status ≡ statuses.no_memory)

-- Bytes that a till was saved in restore that till, or memory runs out.
abbrev pub Restores : List ℕ → (after : Option Session) → (status : ℕ) → Type 0
Restores bytes after status = (state : TillState) → IsKept state → bytes ≡ saved state → IsRestored state after status

-- The same holds for bytes of the first layout, which has no doubts.
abbrev pub RestoresFirst : List ℕ → (after : Option Session) → (status : ℕ) → Type 0
RestoresFirst bytes after status = (state : TillState) → IsKept state → HasNoDoubts state → bytes ≡ saved_first state → IsRestored state after status
