-- The parts of sentences about an order.
use Rattle.std.specs.Prelude.{ℕ, Bool, true, false, List, [], ◌++◌, codes, Option, Some, None, option_map}
use Rattle.std.specs.Fmt.{decimal}
use Rattle.std.specs.Option.{option_and_then}
use Rattle.hex.specs.Hex.{encode_upper}
use Rattle.zvt_text.specs.Numbers.{zero_padded}
use Rattle.zvt_text.specs.Results.{result_words}
use Rattle.zvt_till.specs.Names.{cause_words}
use Rattle.zvt_till.specs.declared.entries.Entry.{Entry}
use Rattle.zvt_till.specs.declared.happenings.Sent.{Sent}
use Rattle.zvt_till.specs.declared.happenings.Sent.TheVariants.{Register, Pay, Reverse, CloseDay, Cancel, Foreign}
use Rattle.zvt_till.specs.declared.outcomes.Outcome.{Outcome}
use Rattle.zvt_till.specs.declared.outcomes.Outcome.TheVariants.{Registered, Paid, Declined, Refused, Aborted, Unclear, Reversed, DayClosed}
use Rattle.zvt_report.specs.Amounts.{amount_text}
use Rattle.zvt_report.specs.Apart.{apart_part, card_part}
use Rattle.zvt_report.specs.Objects.{receipt_by}
use Rattle.zvt_report.specs.declared.currencies.Decimals.{Decimals}
use Rattle.zvt_report.specs.declared.rows.Approval.{Approval}
use Rattle.zvt_report.specs.declared.rows.OrderRow.{OrderRow}

-- the receipt number of a payment, or that it is one
abbrev pub payment_name : Option (List ℕ) → List ℕ
payment_name None = codes "a payment"
payment_name (Some receipt) = codes "receipt " ++ encode_upper receipt

-- a booked payment, and where its order stands
unfoldable pub payment_at : OrderRow → List ℕ
payment_at row = payment_name (receipt_by row.outcome row.approval) ++ codes " (line " ++ decimal row.first ++ codes ")"

unfoldable pub maybe_payment_at : Option OrderRow → List ℕ
maybe_payment_at None = []
maybe_payment_at (Some row) = payment_at row

-- the amount of a payment, or of the payment that a reversal takes back
abbrev pub amount_of : Option Entry → Sent → Option ℕ
amount_of entry (Register c) = None
amount_of entry (Pay amount) = Some amount
amount_of entry (Reverse e) = option_map (λ (paid : Entry). paid.amount) entry
amount_of entry CloseDay = None
amount_of entry Cancel = None
amount_of entry Foreign = None

unfoldable pub amount_or_dash : Decimals → Option ℕ → List ℕ
amount_or_dash decimals None = codes "-"
amount_or_dash decimals (Some amount) = amount_text decimals amount

abbrev pub trace_part : Option ℕ → List ℕ
trace_part None = []
trace_part (Some trace) = codes ", trace " ++ zero_padded 6 trace

abbrev pub receipt_part : Option (List ℕ) → List ℕ
receipt_part None = []
receipt_part (Some receipt) = codes ", receipt " ++ encode_upper receipt

-- where it stands, and its numbers
abbrev pub numbers_part : (line : ℕ) → Option ℕ → Option (List ℕ) → List ℕ
numbers_part line trace receipt = codes " (line " ++ decimal line ++ trace_part trace ++ receipt_part receipt ++ codes ")"

unfoldable pub approval_part : Option Approval → List ℕ
approval_part None = []
approval_part (Some a) = numbers_part a.line a.trace a.receipt

-- the receipt number of a payment to look for
abbrev pub receipt_name : Option (List ℕ) → List ℕ
receipt_name None = codes "this payment"
receipt_name (Some receipt) = codes "receipt " ++ encode_upper receipt

unfoldable pub approved_receipt : Option Approval → List ℕ
approved_receipt None = codes "this payment"
approved_receipt (Some a) = receipt_name a.receipt

abbrev pub own_receipt : Option (List ℕ) → List ℕ
own_receipt None = []
own_receipt (Some receipt) = codes " (receipt " ++ encode_upper receipt ++ codes ")"

unfoldable pub entry_part : Option Entry → List ℕ
entry_part None = []
entry_part (Some entry) = own_receipt entry.receipt

-- why an order is unclear, or with which result it was not done
unfoldable pub reason : Outcome → List ℕ
reason Registered = []
reason (Paid trace receipt) = []
reason (Declined code) = result_words code
reason (Refused code) = result_words code
reason (Aborted code) = result_words code
reason (Unclear cause) = cause_words cause
reason Reversed = []
reason DayClosed = []

unfoldable pub twice_part : Option OrderRow → List ℕ
twice_part None = []
twice_part (Some again) = codes " twice"

-- the numbers of a payment that was booked
abbrev pub paid_numbers : Outcome → Option (ℕ × Option (List ℕ))
paid_numbers (Paid trace receipt) = Some (trace, receipt)
paid_numbers _ = None

-- with one card, and how much later, as far as is known
unfoldable pub likeness : OrderRow → (again : OrderRow) → List ℕ
likeness row again = card_part row again ++ apart_part (codes "later") row again

unfoldable pub paid_again_by : Decimals → Option ℕ → OrderRow → (again : OrderRow) → Option (ℕ × Option (List ℕ)) → List ℕ
paid_again_by decimals amount row again None =
    codes " A later payment of " ++ amount_or_dash decimals amount ++ codes " (line " ++ decimal again.first ++ codes ") is unclear, too."
paid_again_by decimals amount row again (Some numbers) =
    codes " Then " ++ amount_or_dash decimals amount ++ codes " was paid again" ++ likeness row again ++ numbers_part again.first (Some numbers.0) numbers.1 ++ codes "."

-- a later payment of the same amount
unfoldable pub again_part : Decimals → Option ℕ → OrderRow → Option OrderRow → List ℕ
again_part decimals amount row None = []
again_part decimals amount row (Some again) = paid_again_by decimals amount row again (paid_numbers again.outcome)

-- the end of day with this line counts the payment
unfoldable pub counted_as_paid : Option ℕ → List ℕ
counted_as_paid None = []
counted_as_paid (Some line) = codes " The end of day (line " ++ decimal line ++ codes ") counts it as paid."

-- ---- an approval that was repeated

abbrev pub asking : (again : Bool) → List ℕ
asking true = codes ". The till then asked the terminal to repeat its last receipt (line "
asking false = codes ". The till then sent an order that moves no money (line "

unfoldable pub confirmed_by : Decimals → Option ℕ → (asked_again : Bool) → OrderRow → List ℕ
confirmed_by decimals amount asked_again row =
    asking asked_again ++ decimal row.first ++ codes "), and the answer approves " ++ amount_or_dash decimals amount ++ approval_part row.approval

unfoldable pub confirmed_part : Decimals → Option ℕ → (asked_again : Bool) → Option OrderRow → List ℕ
confirmed_part decimals amount asked_again None = []
confirmed_part decimals amount asked_again (Some row) = confirmed_by decimals amount asked_again row

-- the receipt number of an approval
abbrev pub receipt_of : Option OrderRow → Option (List ℕ)
receipt_of None = None
receipt_of (Some row) = option_and_then (λ (approval : Approval). approval.receipt) row.approval

-- if the receipt is not one of an earlier payment
abbrev pub unless_earlier : Option (List ℕ) → List ℕ
unless_earlier None = codes "If no earlier payment has this receipt"
unless_earlier (Some receipt) = codes "If no earlier payment has receipt " ++ encode_upper receipt

-- the trace number of what took an approval back
abbrev pub under_trace : Option ℕ → List ℕ
under_trace None = []
under_trace (Some trace) = codes " under trace " ++ zero_padded 6 trace

-- ---- an order beside the book

abbrev pub of_amount : Decimals → Option ℕ → List ℕ
of_amount decimals None = []
of_amount decimals (Some amount) = codes " of " ++ amount_text decimals amount

abbrev pub total_part : Bool → List ℕ
total_part true = codes " The net total does not count the payment."
total_part false = codes " The net total still counts the payment."

unfoldable pub counted_part : Option Entry → List ℕ
counted_part None = []
counted_part (Some entry) = total_part entry.reversed
