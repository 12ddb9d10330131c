-- The notes of a journal's payments, as they are written.
use Rattle.std.specs.Prelude.{◌≡◌, ℕ, List, [], ◌∷◌, ◌++◌, Option, Some, None, Ok, Err, codes}
use Rattle.std.specs.List.{flat_map}
use Rattle.zvt_till.specs.Sending.{Settings}
use Rattle.zvt_till.specs.View.{TillValue}
use Rattle.zvt_kept.specs.Recovery.{Recovers}
use Rattle.zvt_kept.specs.RowNotes.{HasNotes}
use Rattle.zvt_kept.specs.declared.recovery.RecoveryError.{RecoveryError}
use Rattle.zvt_c.specs.declared.answer.ZvtAnswer.{ZvtAnswer}
use Rattle.zvt_c.specs.declared.session.Session.{Session}
use Rattle.zvt_c.specs.Records.{Records}
use Rattle.zvt_c.specs.Recovering.{refused_as}
use Rattle.zvt_c.specs.Saving.{bare}
use Rattle.zvt_c.specs.Statuses as statuses

-- the line of a payment of this kind: the kind, and the payment's note
abbrev pub note_line : (kind note : List ℕ) → List ℕ
note_line kind note = kind ++ note ++ 10 ∷ []

abbrev pub note_lines : (kind : List ℕ) → (notes : List (List ℕ)) → List ℕ
note_lines kind notes = flat_map (note_line kind) notes

-- a line for each payment of the book, and then one for each unclear payment
abbrev pub notes_text : (booked unclear : List (List ℕ)) → List ℕ
notes_text booked unclear = note_lines (codes "booked") booked ++ note_lines (codes "unclear") unclear

-- The lines belong to the till that is recovered from the text with these settings. Or there is no such till, for the
-- reason in the answer.
pub data ListsNotes (settings : Settings) (text buffer_before buffer_after : List ℕ) (answer : ZvtAnswer) : Type 0 where
  listed : (till : TillValue) (booked unclear : List (List ℕ)) → Recovers settings text (Ok till) → HasNotes settings text till.state booked unclear
      → Records (notes_text booked unclear) buffer_before buffer_after answer → ListsNotes settings text buffer_before buffer_after answer
  unlisted : (why : RecoveryError) → Recovers settings text (Err why) → buffer_after ≡ buffer_before → answer ≡ refused_as why
      → ListsNotes settings text buffer_before buffer_after answer

-- With a closed handle nothing is written.
abbrev pub ListsHandle : Option Session → (text buffer_before buffer_after : List ℕ) → ZvtAnswer → Type 0
ListsHandle None text before after answer = (after ≡ before) × (answer ≡ bare statuses.closed)
ListsHandle (Some end) text before after answer = ListsNotes end.till.till.state.settings text before after answer
