-- The table of the payments.
use Rattle.std.specs.Prelude.{◌≡◌, ℕ, Bool, true, false, cond, List, [], ◌∷◌, ◌++◌, codes, Option, Some, None, unwrap_or, ◌==◌, refl}
use Rattle.std.specs.Fmt.{decimal, digits}
use Rattle.hex.specs.Hex.{encode_upper, encode_with}
use Rattle.zvt_text.specs.Numbers.{zero_padded}
use Rattle.zvt_text.specs.Results.{result_words}
use Rattle.zvt_till.specs.Names.{cause_name}
use Rattle.zvt_till.specs.declared.entries.Doubt.{Doubt}
use Rattle.zvt_till.specs.declared.entries.Doubt.TheVariants as doubt
use Rattle.zvt_till.specs.declared.entries.Entry.{Entry}
use Rattle.zvt_till.specs.declared.happenings.Sent.{Sent}
use Rattle.zvt_till.specs.declared.happenings.Sent.TheVariants.{Pay, CloseDay}
use Rattle.zvt_till.specs.declared.outcomes.Cause.{Cause}
use Rattle.zvt_till.specs.declared.outcomes.Cause.TheVariants.{Line}
use Rattle.zvt_till.specs.declared.outcomes.Outcome.{Outcome}
use Rattle.zvt_till.specs.declared.outcomes.Outcome.TheVariants as outcome
use Rattle.zvt_report.specs.Amounts.{amount_column}
use Rattle.zvt_report.specs.CardTexts.{card_or_dash}
use Rattle.zvt_report.specs.Columns.{left_aligned, right_aligned}
use Rattle.zvt_report.specs.Objects.{entry_at, receipt_by, trace_by}
use Rattle.zvt_report.specs.Places.{counted, no_counts, payments_in, place_after}
use Rattle.zvt_report.specs.Times.{time_column}
use Rattle.zvt_report.specs.Words.{ending_name, ending_of}
use Rattle.zvt_trace.specs.Marks.{moment}
use Rattle.zvt_trace.specs.declared.moment.Moment.{Moment}
use Rattle.zvt_report.specs.declared.cards.Card.{Card}
use Rattle.zvt_report.specs.declared.currencies.Decimals.{Decimals}
use Rattle.zvt_report.specs.declared.currencies.Decimals.TheVariants.{Zero, Two, Three}
use Rattle.zvt_report.specs.declared.places.Counts.{Counts}
use Rattle.zvt_report.specs.declared.places.Place.{Place}
use Rattle.zvt_report.specs.declared.rows.OrderRow.{OrderRow}

-- ---- columns

-- the blanks above the decimal point and the digits after it
unfoldable pub fraction_blanks : Decimals → List ℕ
fraction_blanks Zero = []
fraction_blanks Two = codes "   "
fraction_blanks Three = codes "    "

unfoldable pub trace_column : Option ℕ → List ℕ
trace_column None = codes "-       "
trace_column (Some trace) = zero_padded 6 trace ++ codes "  "

unfoldable pub receipt_column : Option (List ℕ) → List ℕ
receipt_column None = codes "-        "
receipt_column (Some receipt) = encode_upper receipt ++ codes "     "

unfoldable pub card_column : Option Card → List ℕ
card_column card = left_aligned 25 (card_or_dash card)

-- the lines of an order, with the hyphens below each other
unfoldable pub lines_column : (first last : ℕ) → List ℕ
lines_column first last = right_aligned 7 (decimal first) ++ 45 ∷ left_aligned 9 (decimal last)

-- ---- outcomes

-- a word, and what explains it
unfoldable pub explained : Outcome → List ℕ
explained outcome.Registered = []
explained (outcome.Paid trace receipt) = []
explained (outcome.Declined code) = 32 ∷ result_words code
explained (outcome.Refused code) = 32 ∷ result_words code
explained (outcome.Aborted code) = 32 ∷ result_words code
explained (outcome.Unclear cause) = 32 ∷ cause_name cause
explained outcome.Reversed = []
explained outcome.DayClosed = []

-- what became of the order, in a word, and why
unfoldable pub outcome_text : Sent → Outcome → List ℕ
outcome_text order outcome = ending_name (ending_of order outcome) ++ explained outcome

abbrev pub unclear_reversal : Cause → List ℕ
unclear_reversal cause = codes "paid, reversal unclear " ++ cause_name cause

unfoldable pub doubt_text : Doubt → List ℕ
doubt_text doubt.No = codes "paid"
doubt_text (doubt.Unclear cause) = unclear_reversal cause
doubt_text doubt.TakenBack = codes "paid, taken back before"

-- what became of a payment that was booked
unfoldable pub entry_text : (reversed : Bool) → Doubt → List ℕ
entry_text true doubt = codes "taken back"
entry_text false doubt = doubt_text doubt

-- a payment, as its entry says if it was booked
unfoldable pub payment_text : Option Entry → OrderRow → List ℕ
payment_text None row = outcome_text row.order row.outcome
payment_text (Some entry) row = entry_text entry.reversed entry.doubt

-- ---- the table

unfoldable pub payment_columns : Decimals → (number : ℕ) → Option Moment → (amount : ℕ) → (trace : Option ℕ) → (receipt : Option (List ℕ)) → List ℕ
payment_columns decimals number time amount trace receipt =
    right_aligned 4 (decimal number) ++ time_column time ++ amount_column decimals [] amount ++ codes "  " ++ trace_column trace ++ receipt_column receipt

unfoldable pub payment_row : Decimals → (number : ℕ) → Option Entry → OrderRow → (amount : ℕ) → List ℕ
payment_row decimals number entry row amount =
    payment_columns decimals number row.time amount (trace_by row.outcome row.approval) (receipt_by row.outcome row.approval) ++ card_column row.card
    ++ lines_column row.first row.last ++ payment_text entry row ++ 10 ∷ []

-- the row of an order, if it is a payment
unfoldable pub payment_line : Decimals → List Entry → Place → OrderRow → Sent → List ℕ
payment_line decimals book place row (Pay amount) = payment_row decimals (unwrap_or place.payment 0) (entry_at book place.entry) row amount
payment_line decimals book place row _ = []

abbrev pub payments_from : Decimals → List Entry → Counts → List OrderRow → List ℕ
payments_from decimals book c [] = []
payments_from decimals book c (row ∷ rows) = payment_line decimals book (place_after c row) row row.order ++ payments_from decimals book (counted c row) rows

unfoldable pub payment_heading : Decimals → List ℕ
payment_heading decimals = codes "Payments\n   #  Time          Amount" ++ fraction_blanks decimals ++ codes "  Trace   Receipt  Card                       Lines          Outcome\n"

unfoldable pub payments_text : Decimals → List Entry → List OrderRow → List ℕ
payments_text decimals book rows = cond (payments_in rows == 0) (codes "Payments: none\n") (payment_heading decimals ++ payments_from decimals book no_counts rows)

-- ---- rows worked by hand

abbrev an_entry : Entry
an_entry = record { amount = 1234; trace = 17; receipt = Some (0 ∷ 5 ∷ []); reversed = false; doubt = doubt.No }

abbrev a_card : Card
a_card = record { card_type = None; name = Some (codes "VISA"); number = Some (0x67 ∷ 0xEE ∷ 0xEE ∷ 0x12 ∷ 0x34 ∷ []) }

abbrev some_rows : List OrderRow
some_rows =
    record { order = Pay 1234; first = 12; last = 38; outcome = outcome.Paid 17 (Some (0 ∷ 5 ∷ [])); approval = None; time = Some (moment 2026 11 28 8 14 3 0); card = Some a_card }
    ∷ record { order = CloseDay; first = 60; last = 66; outcome = outcome.DayClosed; approval = None; time = None; card = None }
    ∷ record { order = Pay 3499; first = 128; last = 146; outcome = outcome.Unclear Line; approval = None; time = None; card = None }
    ∷ []

two_payments :
    payments_text Two (an_entry ∷ []) some_rows
    ≡ codes "Payments\n"
    ++ codes "   #  Time          Amount     Trace   Receipt  Card                       Lines          Outcome\n"
    ++ codes "   1  08:14:03          12.34  000017  0005     VISA ..1234                   12-38       paid\n"
    ++ codes "   2  -                 34.99  -       -        -                            128-146      unclear Line\n"
unfolding amount_column card_column card_or_dash digits doubt_text encode_with entry_text explained fraction_blanks lines_column outcome_text payment_columns payment_heading payment_line payment_row payment_text payments_text receipt_column time_column trace_column
two_payments = refl

no_payment : payments_text Two [] [] ≡ codes "Payments: none\n"
unfolding payments_text
no_payment = refl
