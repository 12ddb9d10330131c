-- The bytes that a till is saved in.
use Rattle.std.specs.Prelude.{◌≡◌, ◌⊎◌, ℕ, ◌≤◌, cond, List, [], ◌∷◌, ◌++◌, length, Option, Some, None, flat_map}
use Rattle.std.specs.List.{All}
use Rattle.zvt_apdu.specs.Briefs.{digits}
use Rattle.zvt_till.specs.declared.entries.Doubt.{Doubt}
use Rattle.zvt_till.specs.declared.entries.Doubt.TheVariants.{No, Unclear as UnclearReversal, TakenBack}
use Rattle.zvt_till.specs.declared.entries.Entry.{Entry}
use Rattle.zvt_till.specs.declared.outcomes.Cause.{Cause}
use Rattle.zvt_till.specs.declared.outcomes.Cause.TheVariants.{NoStatus, Conflict, AmountDiffers, NoTrace, TraceUsed, AbortAfterApproval, Line, Malformed, Unfinished, WrongCurrency}
use Rattle.zvt_till.specs.declared.outcomes.Outcome.{Outcome}
use Rattle.zvt_till.specs.declared.outcomes.Outcome.TheVariants.{Registered, Paid, Declined, Refused, Aborted, Unclear, Reversed, DayClosed}
use Rattle.zvt_till.specs.Restoring.{CanStand, at_rest}
use Rattle.zvt_till.specs.Sending.{Settings}
use Rattle.zvt_till.specs.Till.{TillState, reversal_ended}
use Rattle.zvt_till.specs.declared.snapshot.layouts.Layout.{Layout}
use Rattle.zvt_till.specs.declared.snapshot.layouts.Layout.TheVariants.{First, Second}
use Rattle.zvt_till.specs.SnapshotSums.{sums_of}

-- the number of a cause, in saved bytes and for C
abbrev pub cause_code : Cause → ℕ
cause_code NoStatus = 1
cause_code Conflict = 2
cause_code AmountDiffers = 3
cause_code NoTrace = 4
cause_code TraceUsed = 5
cause_code AbortAfterApproval = 6
cause_code Line = 7
cause_code Malformed = 8
cause_code Unfinished = 9
cause_code WrongCurrency = 10

-- a receipt number after a byte that says whether there is one
abbrev pub receipt_bytes : Option (List ℕ) → List ℕ
receipt_bytes None = 0 ∷ 0 ∷ 0 ∷ []
receipt_bytes (Some receipt) = 1 ∷ receipt

-- the byte that names a layout
abbrev pub version : Layout → ℕ
version First = 0x01
version Second = 0x02

-- the number of an entry's doubt
abbrev pub doubt_code : Doubt → ℕ
doubt_code No = 0
doubt_code (UnclearReversal cause) = cause_code cause
doubt_code TakenBack = 11

-- the first layout has no doubts
abbrev pub doubt_bytes : Layout → Doubt → List ℕ
doubt_bytes First doubt = []
doubt_bytes Second doubt = doubt_code doubt ∷ []

-- the number of bytes of an entry
abbrev pub entry_size : Layout → ℕ
entry_size First = 13
entry_size Second = 14

-- the amount in six bytes of digits, the trace number in three, the mark, the receipt number, the doubt
abbrev pub entry_bytes : Layout → Entry → List ℕ
entry_bytes layout entry =
    digits 6 entry.amount ++ (digits 3 entry.trace ++ (cond entry.reversed 1 0 ∷ (receipt_bytes entry.receipt ++ doubt_bytes layout entry.doubt)))

-- 7 bytes: the amount and the cause
abbrev pub unclear_bytes : ℕ × Cause → List ℕ
unclear_bytes row = digits 6 row.0 ++ (cause_code row.1 ∷ [])

-- the row of a payment that is open when the connection is lost
abbrev pub open_rows : Option ℕ → List (ℕ × Cause)
open_rows None = []
open_rows (Some amount) = (amount, Line) ∷ []

-- the book, if a reversal of this entry is open at the loss of the connection
abbrev pub left_book : List Entry → Option ℕ → List Entry
left_book book None = book
left_book book (Some place) = reversal_ended book place (Unclear Line)

-- 8 bytes: the kind, a code, a trace number and a receipt number; a value that the kind does not have is 0
abbrev pub outcome_row : (kind code trace : ℕ) → Option (List ℕ) → List ℕ
outcome_row kind code trace receipt = kind ∷ code ∷ (digits 3 trace ++ receipt_bytes receipt)

abbrev pub outcome_bytes : Option Outcome → List ℕ
outcome_bytes None = outcome_row 0 0 0 None
outcome_bytes (Some Registered) = outcome_row 1 0 0 None
outcome_bytes (Some (Paid trace receipt)) = outcome_row 2 0 trace receipt
outcome_bytes (Some (Declined code)) = outcome_row 3 code 0 None
outcome_bytes (Some (Refused code)) = outcome_row 4 code 0 None
outcome_bytes (Some (Aborted code)) = outcome_row 5 code 0 None
outcome_bytes (Some (Unclear cause)) = outcome_row 6 (cause_code cause) 0 None
outcome_bytes (Some Reversed) = outcome_row 7 0 0 None
outcome_bytes (Some DayClosed) = outcome_row 8 0 0 None

-- ZVT and the version, and the numbers of rows: 10 bytes
abbrev pub counts_bytes : Layout → (booked unclear : ℕ) → List ℕ
counts_bytes layout booked unclear = 0x5A ∷ 0x56 ∷ 0x54 ∷ version layout ∷ (digits 3 booked ++ digits 3 unclear)

-- the currency, the last outcome, the configuration byte and the password: 14 bytes
abbrev pub settings_bytes : Settings → Option Outcome → List ℕ
settings_bytes settings last = digits 2 settings.currency ++ (outcome_bytes last ++ (settings.config ∷ settings.password))

abbrev pub header_bytes : Layout → Settings → (booked unclear : ℕ) → Option Outcome → List ℕ
header_bytes layout settings booked unclear last = counts_bytes layout booked unclear ++ settings_bytes settings last

-- the header and the rows
abbrev pub body_bytes : Layout → TillState → List ℕ
body_bytes layout s =
    header_bytes layout s.settings (length s.book) (length s.unclear) s.last_outcome
    ++ (flat_map (entry_bytes layout) s.book ++ flat_map unclear_bytes s.unclear)

-- two sums of digits after a body
abbrev pub summed : List ℕ → List ℕ
summed body = body ++ (digits 4 (sums_of body).0 ++ digits 4 (sums_of body).1)

abbrev pub saved_in : Layout → TillState → List ℕ
saved_in layout s = summed (body_bytes layout s)

-- the bytes that a till is saved in
abbrev pub saved : TillState → List ℕ
saved s = saved_in Second s

-- the bytes that a till was saved in before entries had doubts
abbrev pub saved_first : TillState → List ℕ
saved_first s = saved_in First s

abbrev pub HasNoDoubt : Entry → Type 0
HasNoDoubt entry = entry.doubt ≡ No

abbrev pub HasNoDoubts : TillState → Type 0
HasNoDoubts s = All HasNoDoubt s.book

-- in either layout; the first is only of a book without doubts
abbrev pub IsSavedAs : List ℕ → TillState → Type 0
IsSavedAs bytes s = (bytes ≡ saved s) ⊎ (HasNoDoubts s × (bytes ≡ saved_first s))

-- an amount, a trace number and a receipt number as a till has them
abbrev pub IsAmount : ℕ → Type 0
IsAmount n = (1 ≤ n) × (n ≤ 999999999999)

abbrev pub IsReceipt : Option (List ℕ) → Type 0
IsReceipt None = Unit {0}
IsReceipt (Some receipt) = length receipt ≡ 2

pub record IsEntry (entry : Entry) : Type 0 where
  pub amount : IsAmount entry.amount
  pub trace : entry.trace ≤ 999999
  pub receipt : IsReceipt entry.receipt

abbrev pub IsUnclear : ℕ × Cause → Type 0
IsUnclear row = IsAmount row.0

abbrev pub IsOutcome : Option Outcome → Type 0
IsOutcome (Some (Paid trace receipt)) = (trace ≤ 999999) × IsReceipt receipt
IsOutcome _ = Unit {0}

-- the state of a till at rest with a book that it can have
pub record IsKept (s : TillState) : Type 0 where
  pub rests : s ≡ at_rest s.settings s.book s.unclear s.last_outcome
  pub stands : CanStand s.book s.unclear
  pub entries : All IsEntry s.book
  pub rows : All IsUnclear s.unclear
  pub outcome : IsOutcome s.last_outcome
  pub currency : s.settings.currency ≤ 9999
  pub password : length s.settings.password ≡ 3
