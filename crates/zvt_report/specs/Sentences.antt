-- The sentences about an order that a person should look at: a title, what happened, and what to do.
use Rattle.std.specs.Prelude.{◌≡◌, ℕ, List, [], ◌∷◌, ◌++◌, codes, false, true, Option, Some, None, refl}
use Rattle.std.specs.Fmt.{digits}
use Rattle.std.specs.Option.{option_or}
use Rattle.hex.specs.Hex.{encode_with}
use Rattle.zvt_text.specs.Meanings.{command_name}
use Rattle.zvt_till.specs.declared.entries.Entry.{Entry}
use Rattle.zvt_till.specs.declared.happenings.Sent.TheVariants.{Foreign, Pay}
use Rattle.zvt_till.specs.declared.outcomes.Outcome.{Outcome}
use Rattle.zvt_till.specs.declared.outcomes.Outcome.TheVariants.{DayClosed, Paid, Unclear}
use Rattle.zvt_till.specs.declared.outcomes.Cause.TheVariants.{AbortAfterApproval, Line}
use Rattle.zvt_report.specs.Amounts.{amount_text}
use Rattle.zvt_report.specs.Apart.{apart_part, card_part, seconds_text}
use Rattle.zvt_report.specs.CardTexts.{card_or_dash}
use Rattle.zvt_report.specs.Differences.{distance_part, shares_part, totals_part}
use Rattle.zvt_report.specs.Objects.{approved_of}
use Rattle.zvt_report.specs.OtherTable.{money_name}
use Rattle.zvt_report.specs.Phrases.{amount_of, amount_or_dash, twice_part, approval_part, entry_part, reason, again_part, likeness, paid_again_by, counted_part, maybe_payment_at, payment_at, payment_name, confirmed_by, confirmed_part, counted_as_paid, of_amount, under_trace}
use Rattle.zvt_report.specs.declared.cases.Case.{Case}
use Rattle.zvt_report.specs.declared.cases.Case.TheVariants.{ApprovedNotCompleted, ApprovalRepeated, ApprovedThenUndone, OtherAmount, PaymentUnclear, PaidAlike, ReversalUnclear, TakenBackBefore, ReversalRefused, ReversalElsewhere, ElsewhereUnclear, OtherUnclear, CloseUnclear, CloseRefused, CloseDiffers}
use Rattle.zvt_report.specs.declared.closings.Closing.{Closing}
use Rattle.zvt_report.specs.declared.currencies.Decimals.{Decimals}
use Rattle.zvt_report.specs.declared.currencies.Decimals.TheVariants.{Two}
use Rattle.zvt_report.specs.declared.facts.Facts.{Facts}
use Rattle.zvt_report.specs.declared.facts.Shares.TheVariants.{Nothing}
use Rattle.zvt_report.specs.declared.rows.Approval.{Approval}
use Rattle.zvt_report.specs.declared.rows.OrderMessage.{OrderMessage}
use Rattle.zvt_report.specs.declared.rows.OrderRow.{OrderRow}
use Rattle.zvt_trace.specs.Marks.{moment}
use Rattle.zvt_trace.specs.declared.moment.Moment.{Moment}

-- the amount of a payment, or of the payment that a reversal takes back
abbrev pub asked_of : Facts → Option ℕ
asked_of facts = amount_of facts.entry facts.row.order

-- ---- titles

abbrev pub other_title : Decimals → OrderMessage → OrderRow → List ℕ
other_title decimals message row = codes "Order" ++ of_amount decimals (option_or message.amount (approved_of row)) ++ codes " unclear: " ++ money_name message.high message.low

abbrev pub charged_title : Decimals → (asked : Option ℕ) → (again : Option OrderRow) → List ℕ
charged_title decimals asked again = amount_or_dash decimals asked ++ codes " may have been charged" ++ twice_part again

abbrev pub undone_title : Decimals → (asked : Option ℕ) → List ℕ
undone_title decimals asked = amount_or_dash decimals asked ++ codes " approved, then taken back"

abbrev pub other_amount_title : Decimals → (asked : Option ℕ) → OrderRow → List ℕ
other_amount_title decimals asked row = amount_or_dash decimals asked ++ codes " asked for, " ++ amount_or_dash decimals (approved_of row) ++ codes " approved"

abbrev pub differs_title : Decimals → Option Closing → List ℕ
differs_title decimals closing = codes "End of day differs" ++ distance_part decimals closing

abbrev pub title : Decimals → Facts → Case → List ℕ
title decimals facts ApprovedNotCompleted = charged_title decimals (asked_of facts) facts.again
title decimals facts ApprovalRepeated = charged_title decimals (asked_of facts) facts.again
title decimals facts ApprovedThenUndone = undone_title decimals (asked_of facts)
title decimals facts OtherAmount = other_amount_title decimals (asked_of facts) facts.row
title decimals facts PaymentUnclear = codes "Payment of " ++ amount_or_dash decimals (asked_of facts) ++ codes " unclear"
title decimals facts PaidAlike = amount_or_dash decimals (asked_of facts) ++ codes " paid twice with one card"
title decimals facts ReversalUnclear = codes "Reversal of " ++ amount_or_dash decimals (asked_of facts) ++ codes " unclear"
title decimals facts TakenBackBefore = amount_or_dash decimals (asked_of facts) ++ codes " already taken back"
title decimals facts ReversalRefused = codes "Reversal of " ++ amount_or_dash decimals (asked_of facts) ++ codes " not done"
title decimals facts ReversalElsewhere = codes "Reversal of a payment that is not in this trace"
title decimals facts ElsewhereUnclear = codes "Unclear reversal of a payment that is not in this trace"
title decimals facts OtherUnclear = other_title decimals facts.message facts.row
title decimals facts CloseUnclear = codes "End of day unclear"
title decimals facts CloseRefused = codes "Day not closed"
title decimals facts CloseDiffers = differs_title decimals facts.closing

-- ---- what happened

-- what happened to a payment later: it was paid again, and an end of day counts it
abbrev pub later_part : Decimals → (asked : Option ℕ) → Facts → List ℕ
later_part decimals asked facts = again_part decimals asked facts.row facts.again ++ counted_as_paid facts.counted

abbrev pub approved_account : Decimals → (asked : Option ℕ) → Facts → List ℕ
approved_account decimals asked facts =
    codes "The terminal approved " ++ amount_or_dash decimals asked ++ approval_part facts.row.approval ++ codes ", but the payment is unclear: "
    ++ reason facts.row.outcome ++ codes "." ++ later_part decimals asked facts

abbrev pub repeated_account : Decimals → (asked : Option ℕ) → Facts → List ℕ
repeated_account decimals asked facts =
    codes "The payment of " ++ amount_or_dash decimals asked ++ codes " is unclear: " ++ reason facts.row.outcome
    ++ confirmed_part decimals asked facts.asked_again facts.confirmed ++ codes "." ++ later_part decimals asked facts

abbrev pub undone_part : Decimals → Facts → List ℕ
undone_part decimals facts = amount_or_dash decimals (approved_of facts.row) ++ approval_part facts.row.approval ++ codes ", and then took it back" ++ under_trace facts.undone_by

abbrev pub undone_account : Decimals → (asked : Option ℕ) → Facts → List ℕ
undone_account decimals asked facts =
    codes "The terminal approved " ++ undone_part decimals facts ++ codes ". The payment is unclear: " ++ reason facts.row.outcome ++ codes "." ++ later_part decimals asked facts

abbrev pub other_amount_account : Decimals → (asked : Option ℕ) → OrderRow → (again : Option OrderRow) → List ℕ
other_amount_account decimals asked row again =
    codes "The till asked for " ++ amount_or_dash decimals asked ++ codes ", but the terminal approved " ++ amount_or_dash decimals (approved_of row)
    ++ approval_part row.approval ++ codes ", perhaps with a tip. The payment is unclear: " ++ reason row.outcome ++ codes "." ++ again_part decimals asked row again

abbrev pub unclear_account : Decimals → (asked : Option ℕ) → Facts → List ℕ
unclear_account decimals asked facts =
    codes "The payment of " ++ amount_or_dash decimals asked ++ codes " is unclear: " ++ reason facts.row.outcome
    ++ codes ". The till heard no approval, but the terminal may have given one." ++ later_part decimals asked facts

-- how far a payment is apart from an earlier one
unfoldable pub apart_from : (earlier : Option OrderRow) → OrderRow → List ℕ
apart_from None row = []
apart_from (Some earlier) row = apart_part (codes "apart") earlier row

abbrev pub alike_payments : OrderRow → (earlier : Option OrderRow) → List ℕ
alike_payments row earlier = apart_from earlier row ++ codes ": " ++ maybe_payment_at earlier ++ codes " and " ++ payment_at row

abbrev pub alike_account : Decimals → (asked : Option ℕ) → OrderRow → (earlier : Option OrderRow) → List ℕ
alike_account decimals asked row earlier =
    card_or_dash row.card ++ codes " paid " ++ amount_or_dash decimals asked ++ codes " twice" ++ alike_payments row earlier ++ codes ". Both are booked."

abbrev pub reversal_account : Decimals → (asked : Option ℕ) → Option Entry → Outcome → List ℕ
reversal_account decimals asked entry outcome =
    codes "The reversal of " ++ amount_or_dash decimals asked ++ entry_part entry ++ codes " is unclear: " ++ reason outcome ++ codes "." ++ counted_part entry

abbrev pub taken_back_account : Decimals → (asked : Option ℕ) → Option Entry → List ℕ
taken_back_account decimals asked entry =
    codes "The terminal says that it had already taken back " ++ amount_or_dash decimals asked ++ entry_part entry
    ++ codes ", but this trace has no completed reversal of the payment." ++ counted_part entry

abbrev pub refused_account : Decimals → (asked : Option ℕ) → Option Entry → Outcome → List ℕ
refused_account decimals asked entry outcome =
    codes "The terminal did not take back " ++ amount_or_dash decimals asked ++ entry_part entry ++ codes ": " ++ reason outcome ++ codes "."

abbrev pub elsewhere_account : (receipt : Option (List ℕ)) → List ℕ
elsewhere_account receipt = codes "The terminal took back " ++ payment_name receipt ++ codes ". The payment is not booked in this trace, so the net total does not change."

abbrev pub elsewhere_unclear_account : (receipt : Option (List ℕ)) → Outcome → List ℕ
elsewhere_unclear_account receipt outcome =
    codes "The reversal of " ++ payment_name receipt ++ codes " is unclear: " ++ reason outcome ++ codes ". The payment is not booked in this trace, so the net total does not change."

abbrev pub other_account : Outcome → List ℕ
other_account outcome = codes "The order is unclear: " ++ reason outcome ++ codes ". No total of this report counts it."

abbrev pub close_account : (start : List ℕ) → Outcome → List ℕ
close_account start outcome = start ++ reason outcome ++ codes "."

abbrev pub differs_account : Decimals → Facts → List ℕ
differs_account decimals facts = totals_part decimals facts.closing ++ shares_part decimals facts.shares

-- what happened to an order in this case
abbrev pub account : Decimals → Facts → Case → List ℕ
account decimals facts ApprovedNotCompleted = approved_account decimals (asked_of facts) facts
account decimals facts ApprovalRepeated = repeated_account decimals (asked_of facts) facts
account decimals facts ApprovedThenUndone = undone_account decimals (asked_of facts) facts
account decimals facts OtherAmount = other_amount_account decimals (asked_of facts) facts.row facts.again
account decimals facts PaymentUnclear = unclear_account decimals (asked_of facts) facts
account decimals facts PaidAlike = alike_account decimals (asked_of facts) facts.row facts.again
account decimals facts ReversalUnclear = reversal_account decimals (asked_of facts) facts.entry facts.row.outcome
account decimals facts TakenBackBefore = taken_back_account decimals (asked_of facts) facts.entry
account decimals facts ReversalRefused = refused_account decimals (asked_of facts) facts.entry facts.row.outcome
account decimals facts ReversalElsewhere = elsewhere_account facts.message.receipt
account decimals facts ElsewhereUnclear = elsewhere_unclear_account facts.message.receipt facts.row.outcome
account decimals facts OtherUnclear = other_account facts.row.outcome
account decimals facts CloseUnclear = close_account (codes "The end of day is unclear: ") facts.row.outcome
account decimals facts CloseRefused = close_account (codes "The terminal did not close the day: ") facts.row.outcome
account decimals facts CloseDiffers = differs_account decimals facts

-- ---- rows worked by hand

abbrev an_approval : Approval
an_approval = record { line = 144; amount = 3499; trace = Some 20; receipt = Some (0 ∷ 8 ∷ []) }

abbrev pub a_payment : OrderRow
a_payment = record { order = Pay 3499; first = 128; last = 146; outcome = Unclear Line; approval = Some an_approval; time = None; card = None }

abbrev pub a_later_one : OrderRow
a_later_one = record { order = Pay 3499; first = 156; last = 182; outcome = Paid 21 (Some (0 ∷ 9 ∷ [])); approval = None; time = None; card = None }

abbrev no_message : OrderMessage
no_message = record { high = 0x06; low = 0x01; amount = None; receipt = None }

abbrev pub about : OrderRow → (again : Option OrderRow) → Facts
about row again =
    record {
      row = row;
      message = no_message;
      entry = None;
      again = again;
      confirmed = None;
      asked_again = false;
      undone_by = None;
      counted = None;
      closing = None;
      shares = Nothing;
    }

a_title : title Two (about a_payment (Some a_later_one)) ApprovedNotCompleted ≡ codes "34.99 may have been charged twice"
unfolding amount_or_dash amount_text digits twice_part
a_title = refl

an_account : account Two (record (about a_payment (Some a_later_one)) { counted = Some 346 }) ApprovedNotCompleted
    ≡ codes "The terminal approved 34.99 (line 144, trace 000020, receipt 0008), but the payment is unclear: the connection was lost."
    ++ codes " Then 34.99 was paid again (line 156, trace 000021, receipt 0009). The end of day (line 346) counts it as paid."
unfolding again_part apart_part card_part counted_as_paid likeness paid_again_by amount_or_dash amount_text approval_part digits encode_with reason
an_account = refl

abbrev pub by_card : (first low : ℕ) → OrderRow
by_card first low =
    record {
      order = Pay 650;
      first = first;
      last = first;
      outcome = Paid low (Some (0 ∷ low ∷ []));
      approval = None;
      time = None;
      card = Some (record { card_type = None; name = Some (codes "girocard"); number = Some (0xEE ∷ 0xEE ∷ 0x12 ∷ []) });
    }

paid_alike : account Two (about (by_card 232 0x12) (Some (by_card 204 0x11))) PaidAlike ≡ codes "girocard ..12 paid 6.50 twice: receipt 0011 (line 204) and receipt 0012 (line 232). Both are booked."
unfolding amount_or_dash amount_text apart_from apart_part card_or_dash digits encode_with maybe_payment_at payment_at
paid_alike = refl

-- a card pays again, five minutes later
abbrev at_minute : (minute : ℕ) → Option Moment
at_minute minute = Some (moment 2026 11 28 11 minute 0 0)

with_one_card : account Two (about (record (by_card 204 0x11) { outcome = Unclear Line; approval = Some an_approval; time = at_minute 10 }) (Some (record (by_card 232 0x12) { time = at_minute 15 }))) ApprovedNotCompleted
    ≡ codes "The terminal approved 6.50 (line 144, trace 000020, receipt 0008), but the payment is unclear: the connection was lost."
    ++ codes " Then 6.50 was paid again with the same card, 5 min later (line 232, trace 000018, receipt 0012)."
unfolding again_part apart_part card_part counted_as_paid likeness paid_again_by amount_or_dash amount_text approval_part digits encode_with reason seconds_text
with_one_card = refl

abbrev pub a_repeat : Facts
a_repeat =
    record (about (record a_payment { approval = None }) None) {
      confirmed = Some (record { order = Foreign; first = 20; last = 26; outcome = DayClosed; approval = Some an_approval; time = None; card = None });
      asked_again = true;
    }

repeated : account Two a_repeat ApprovalRepeated
    ≡ codes "The payment of 34.99 is unclear: the connection was lost. The till then asked the terminal to repeat its last receipt (line 20), and the answer approves 34.99 (line 144, trace 000020, receipt 0008)."
unfolding again_part confirmed_by confirmed_part counted_as_paid amount_or_dash amount_text approval_part digits encode_with reason
repeated = refl

abbrev a_refund : Facts
a_refund =
    record (about (record a_payment { order = Foreign; approval = None }) None) {
      message = record { high = 0x06; low = 0x31; amount = Some 500; receipt = Some (0 ∷ 9 ∷ []) };
    }

an_unclear_refund : title Two a_refund OtherUnclear ≡ codes "Order of 5.00 unclear: refund"
unfolding amount_text command_name digits money_name
an_unclear_refund = refl

of_another_trace : account Two a_refund ElsewhereUnclear ≡ codes "The reversal of receipt 0009 is unclear: the connection was lost. The payment is not booked in this trace, so the net total does not change."
unfolding encode_with reason
of_another_trace = refl

undone : account Two (record (about (record a_payment { outcome = Unclear AbortAfterApproval }) None) { undone_by = Some 21 }) ApprovedThenUndone
    ≡ codes "The terminal approved 34.99 (line 144, trace 000020, receipt 0008), and then took it back under trace 000021. The payment is unclear: it was broken off after the terminal had approved it or contradicted itself."
unfolding again_part counted_as_paid amount_or_dash amount_text approval_part digits encode_with reason
undone = refl
