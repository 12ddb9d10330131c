-- The notes of a till's payments: each row of the book, and each unclear payment, has the note of its order.
use Rattle.std.specs.Prelude.{◌≡◌, ◌+◌, ℕ, Bool, true, false, nat_lt, if◌then◌else◌, List, [], ◌∷◌, ◌++◌, All, length, slice_get, Some}
use Rattle.zvt_till.specs.declared.happenings.Happening.{Happening}
use Rattle.zvt_till.specs.declared.happenings.Happening.TheVariants.{Connected}
use Rattle.zvt_till.specs.declared.orders.Order.TheVariants.{Register, Pay, Reverse, CloseDay, Cancel}
use Rattle.zvt_till.specs.Sending.{Settings}
use Rattle.zvt_till.specs.Till.{TillState}
use Rattle.zvt_till.specs.TillHistory.{Stands}
use Rattle.zvt_kept.specs.Records.{Kept, ordered, asked, heard, lost, kept_in}
use Rattle.zvt_kept.specs.Logs.{HappenAll}

-- the state of a till after replaying these records; its line is up before the first of them
pub record LivedThrough (settings : Settings) (kept : List Kept) (state : TillState) : Type 0 where
  pub happened : List Happening
  pub happens : HappenAll settings.currency kept happened
  pub stands : Stands settings (Connected ∷ happened) state

-- a record is the order of a payment
abbrev pub is_payment : Kept → Bool
is_payment (ordered Register note) = false
is_payment (ordered (Pay amount) note) = true
is_payment (ordered (Reverse entry) note) = false
is_payment (ordered CloseDay note) = false
is_payment (ordered Cancel note) = false
is_payment (asked note) = false
is_payment (heard message) = false
is_payment lost = false

-- the last payment that these records order has this note
pub record IsLastPayment (kept : List Kept) (note : List ℕ) : Type 0 where
  pub before : List Kept
  pub amount : ℕ
  pub after : List Kept
  pub is : kept ≡ before ++ ordered (Pay amount) note ∷ after
  pub last : All (λ one. is_payment one ≡ false) after

-- the number of rows in the book, and the number of unclear payments
abbrev pub booked_rows : TillState → ℕ
booked_rows state = length state.book

abbrev pub unclear_rows : TillState → ℕ
unclear_rows state = length state.unclear

-- This is the note of the row with this index, counted from 0. One of the records creates the row: the till of the
-- records before it has as many rows as the index says, and one more with it. The payment that was ordered last by then
-- has the note.
pub record IsNoteOf (settings : Settings) (kept : List Kept) (rows : TillState → ℕ) (index : ℕ) (note : List ℕ) : Type 0 where
  pub before : List Kept
  pub one : Kept
  pub after : List Kept
  pub is : kept ≡ before ++ one ∷ after
  pub old : TillState
  pub new : TillState
  pub lived_before : LivedThrough settings before old
  pub lived : LivedThrough settings (before ++ one ∷ []) new
  pub had : rows old ≡ index
  pub has : rows new ≡ index + 1
  pub noted : IsLastPayment (before ++ one ∷ []) note

-- each row of a till has its note
pub record AreNoted (settings : Settings) (kept : List Kept) (rows : TillState → ℕ) (state : TillState) (notes : List (List ℕ)) : Type 0 where
  pub as_many : length notes ≡ rows state
  pub each : (index : ℕ) (note : List ℕ) → slice_get notes index ≡ Some note → IsNoteOf settings kept rows index note

-- These are the notes of the till that is recovered from a text. After the records its line is lost, which may also end
-- a payment.
pub record HasNotes (settings : Settings) (text : List ℕ) (state : TillState) (booked unclear : List (List ℕ)) : Type 0 where
  pub kept : List Kept
  pub read : kept_in text ≡ Some kept
  pub in_book : AreNoted settings (kept ++ lost ∷ []) booked_rows state booked
  pub in_doubt : AreNoted settings (kept ++ lost ∷ []) unclear_rows state unclear

-- ---- what the code holds

-- the note of the payment that was ordered last, after one more record
abbrev pub payment_note : (note : List ℕ) → Kept → List ℕ
payment_note before (ordered Register note) = before
payment_note before (ordered (Pay amount) note) = note
payment_note before (ordered (Reverse entry) note) = before
payment_note before (ordered CloseDay note) = before
payment_note before (ordered Cancel note) = before
payment_note before (asked note) = before
payment_note before (heard message) = before
payment_note before lost = before

-- one more note, if there are more rows than notes
abbrev pub grown : (notes : List (List ℕ)) → (rows : ℕ) → (note : List ℕ) → List (List ℕ)
grown notes rows note = if nat_lt (length notes) rows then notes ++ note ∷ [] else notes
