-- What to do about an order that a person should look at.
use Rattle.std.specs.Prelude.{◌≡◌, ℕ, List, [], ◌++◌, codes, Option, Some, None, refl}
use Rattle.std.specs.Fmt.{digits}
use Rattle.hex.specs.Hex.{encode_with}
use Rattle.zvt_report.specs.Differences.{shares_advice}
use Rattle.zvt_report.specs.Objects.{approved_of, receipt_by}
use Rattle.zvt_report.specs.Phrases.{amount_or_dash, approved_receipt, receipt_name, receipt_of, unless_earlier}
use Rattle.zvt_report.specs.Sentences.{asked_of, about, a_payment, a_later_one, a_repeat, by_card}
use Rattle.zvt_report.specs.declared.cases.Case.{Case}
use Rattle.zvt_report.specs.declared.cases.Case.TheVariants.{ApprovedNotCompleted, ApprovalRepeated, ApprovedThenUndone, OtherAmount, PaymentUnclear, PaidAlike, ReversalUnclear, TakenBackBefore, ReversalRefused, ReversalElsewhere, ElsewhereUnclear, OtherUnclear, CloseUnclear, CloseRefused, CloseDiffers}
use Rattle.zvt_report.specs.declared.currencies.Decimals.{Decimals}
use Rattle.zvt_report.specs.declared.currencies.Decimals.TheVariants.{Two}
use Rattle.zvt_report.specs.declared.facts.Facts.{Facts}
use Rattle.zvt_report.specs.declared.rows.Approval.{Approval}
use Rattle.zvt_report.specs.declared.rows.OrderRow.{OrderRow}

abbrev pub approved_advice : Option Approval → (again : Option OrderRow) → List ℕ
approved_advice approval None =
    codes "The customer has probably been charged. Look for " ++ approved_receipt approval ++ codes " in the terminal's journal before you charge again."
approved_advice approval (Some again) =
    codes "The customer may have paid twice. If the terminal's journal has " ++ approved_receipt approval
    ++ codes ", take it back, since the later payment covers the sale."

abbrev pub charged_words : (again : Option OrderRow) → List ℕ
charged_words None = codes ", the customer has been charged. Do not charge again."
charged_words (Some again) = codes ", the customer has been charged for it, and may have paid twice."

abbrev pub repeated_advice : (receipt : Option (List ℕ)) → (again : Option OrderRow) → List ℕ
repeated_advice receipt again = unless_earlier receipt ++ charged_words again

abbrev pub unclear_advice : Decimals → Option ℕ → (again : Option OrderRow) → List ℕ
unclear_advice decimals amount None =
    codes "Look for a payment of " ++ amount_or_dash decimals amount ++ codes " in the terminal's journal before you charge again."
unclear_advice decimals amount (Some again) =
    codes "Look in the terminal's journal for two payments of " ++ amount_or_dash decimals amount ++ codes ". The customer may have paid twice."

abbrev pub other_amount_advice : Decimals → OrderRow → List ℕ
other_amount_advice decimals row =
    codes "The customer has probably been charged " ++ amount_or_dash decimals (approved_of row) ++ codes ". If the terminal's journal has "
    ++ approved_receipt row.approval ++ codes ", add that amount to the day by hand, or take it back and charge again."

abbrev pub alike_advice : (receipt : Option (List ℕ)) → List ℕ
alike_advice receipt = codes "Were these two sales, or was one sale charged twice? If it was one, take back " ++ receipt_name receipt ++ codes "."

abbrev pub reversal_advice : List ℕ
reversal_advice =
    codes "Look for the reversal in the terminal's journal before you give money back. You can also reverse the payment again: if the terminal then answers B4, it had already taken the payment back."

-- what depends on nothing else
abbrev pub fixed_advice : Case → List ℕ
fixed_advice ApprovedNotCompleted = []
fixed_advice ApprovalRepeated = []
fixed_advice ApprovedThenUndone = codes "The customer has probably not been charged. Look for both trace numbers in the terminal's journal to be sure."
fixed_advice OtherAmount = []
fixed_advice PaymentUnclear = []
fixed_advice PaidAlike = []
fixed_advice ReversalUnclear = reversal_advice
fixed_advice TakenBackBefore = codes "Subtract the payment from the net total by hand."
fixed_advice ReversalRefused = codes "If the customer was promised the money, it has not been given back."
fixed_advice ReversalElsewhere = codes "Look for the payment in an earlier trace."
fixed_advice ElsewhereUnclear = reversal_advice
fixed_advice OtherUnclear = codes "Look for the order in the terminal's journal before you send it again."
fixed_advice CloseUnclear = codes "If the terminal printed no end-of-day receipt, start the end of day again."
fixed_advice CloseRefused = codes "Start the end of day again."
fixed_advice CloseDiffers = []

-- what to do about an order in this case
abbrev pub advice : Decimals → Facts → Case → List ℕ
advice decimals facts ApprovedNotCompleted = approved_advice facts.row.approval facts.again
advice decimals facts ApprovalRepeated = repeated_advice (receipt_of facts.confirmed) facts.again
advice decimals facts ApprovedThenUndone = fixed_advice ApprovedThenUndone
advice decimals facts OtherAmount = other_amount_advice decimals facts.row
advice decimals facts PaymentUnclear = unclear_advice decimals (asked_of facts) facts.again
advice decimals facts PaidAlike = alike_advice (receipt_by facts.row.outcome facts.row.approval)
advice decimals facts ReversalUnclear = fixed_advice ReversalUnclear
advice decimals facts TakenBackBefore = fixed_advice TakenBackBefore
advice decimals facts ReversalRefused = fixed_advice ReversalRefused
advice decimals facts ReversalElsewhere = fixed_advice ReversalElsewhere
advice decimals facts ElsewhereUnclear = fixed_advice ElsewhereUnclear
advice decimals facts OtherUnclear = fixed_advice OtherUnclear
advice decimals facts CloseUnclear = fixed_advice CloseUnclear
advice decimals facts CloseRefused = fixed_advice CloseRefused
advice decimals facts CloseDiffers = shares_advice facts.shares

-- ---- rows worked by hand

an_advice : advice Two (about a_payment (Some a_later_one)) ApprovedNotCompleted
    ≡ codes "The customer may have paid twice. If the terminal's journal has receipt 0008, take it back, since the later payment covers the sale."
unfolding approved_receipt digits encode_with
an_advice = refl

advice_of_two : advice Two (about (by_card 232 0x12) None) PaidAlike ≡ codes "Were these two sales, or was one sale charged twice? If it was one, take back receipt 0012."
unfolding digits encode_with
advice_of_two = refl

repeated_one : advice Two a_repeat ApprovalRepeated ≡ codes "If no earlier payment has receipt 0008, the customer has been charged. Do not charge again."
unfolding encode_with
repeated_one = refl
