-- The orders that a person should look at.
use Rattle.std.specs.Prelude.{◌≡◌, ℕ, ◌+◌, ◌==◌, Bool, true, false, not, cond, ◌&&◌, List, [], ◌∷◌, Option, Some, None, option_map, slice_get, refl}
use Rattle.std.specs.List.{cons_option, list_any, position}
use Rattle.std.specs.Option.{option_and_then}
use Rattle.zvt_till.specs.Doubts.{already_reversed}
use Rattle.zvt_till.specs.declared.entries.Doubt.TheVariants.{No}
use Rattle.zvt_till.specs.declared.entries.Entry.{Entry}
use Rattle.zvt_till.specs.declared.happenings.Sent.{Sent}
use Rattle.zvt_till.specs.declared.happenings.Sent.TheVariants.{Register, Pay, Reverse, CloseDay, Cancel, Foreign}
use Rattle.zvt_till.specs.Statuses.{is_value, names}
use Rattle.zvt_till.specs.declared.messages.Original.TheVariants.{Once}
use Rattle.zvt_till.specs.declared.outcomes.Cause.{Cause}
use Rattle.zvt_till.specs.declared.outcomes.Cause.TheVariants.{AbortAfterApproval, Line, NoStatus}
use Rattle.zvt_till.specs.declared.outcomes.Outcome.{Outcome}
use Rattle.zvt_till.specs.declared.outcomes.Outcome.TheVariants.{Registered, Paid, Declined, Refused, Aborted, Unclear, Reversed, DayClosed}
use Rattle.zvt_report.specs.Alike.{is_marked, repeated_at, repeated_payments}
use Rattle.zvt_report.specs.Differing.{differs_at}
use Rattle.zvt_report.specs.Kinds.{kind_at}
use Rattle.zvt_report.specs.declared.cases.Case.{Case}
use Rattle.zvt_report.specs.declared.cases.Case.TheVariants.{ApprovedNotCompleted, ApprovalRepeated, ApprovedThenUndone, OtherAmount, PaymentUnclear, PaidAlike, ReversalUnclear, TakenBackBefore, ReversalRefused, ReversalElsewhere, ElsewhereUnclear, OtherUnclear, CloseUnclear, CloseRefused, CloseDiffers}
use Rattle.zvt_report.specs.declared.cases.Look.{Look}
use Rattle.zvt_report.specs.declared.cases.Weight.{Weight}
use Rattle.zvt_report.specs.declared.cases.Weight.TheVariants.{Act, Check}
use Rattle.zvt_report.specs.declared.closings.Closing.{Closing}
use Rattle.zvt_report.specs.declared.explaining.Explained.TheVariants.{Nothing}
use Rattle.zvt_report.specs.declared.kinds.OrderKind.{OrderKind}
use Rattle.zvt_report.specs.declared.kinds.OrderKind.TheVariants as kind
use Rattle.zvt_report.specs.declared.rows.Approval.{Approval}
use Rattle.zvt_report.specs.declared.rows.OrderMessage.{OrderMessage}
use Rattle.zvt_report.specs.declared.rows.OrderRow.{OrderRow}
use Rattle.zvt_report.specs.declared.statements.Statement.{Statement}
use Rattle.zvt_report.specs.declared.statements.Undoing.{Undoing}

-- ---- rows among each other

abbrev pub pays_as : Sent → Outcome → (amount : ℕ) → Bool
pays_as (Pay a) (Paid trace receipt) amount = a == amount
pays_as (Pay a) (Unclear cause) amount = a == amount
pays_as _ _ amount = false

-- a payment of this amount that is booked or unclear
abbrev pub may_pay : ℕ → OrderRow → Bool
may_pay amount row = pays_as row.order row.outcome amount

-- whether a reversal with this outcome changes the mark or the doubt of its entry
abbrev pub decides_by : Outcome → Bool
decides_by Registered = false
decides_by (Paid trace receipt) = false
decides_by (Declined code) = false
decides_by (Refused code) = code == already_reversed
decides_by (Aborted code) = code == already_reversed
decides_by (Unclear cause) = true
decides_by Reversed = true
decides_by DayClosed = false

abbrev pub decides_as : Sent → Outcome → (place : ℕ) → Bool
decides_as (Register c) outcome place = false
decides_as (Pay a) outcome place = false
decides_as (Reverse e) outcome place = (e == place) && decides_by outcome
decides_as CloseDay outcome place = false
decides_as Cancel outcome place = false
decides_as Foreign outcome place = false

-- a reversal of the entry at this place that changes its mark or its doubt
abbrev pub decides : (place : ℕ) → OrderRow → Bool
decides place row = decides_as row.order row.outcome place

-- the terminal approved this amount in the order
abbrev pub approves : (amount : ℕ) → OrderRow → Bool
approves amount row = elim row.approval [ None ↦ false | Some approval ↦ approval.amount == amount ]

abbrev pub is_plain : OrderKind → Bool
is_plain kind.Payment = false
is_plain kind.Reversal = false
is_plain kind.OtherMoney = false
is_plain kind.Close = false
is_plain kind.Plain = true

-- The first order with an approval of this amount, before the next one that moves money or ends a day. The first later row has this
-- place.
abbrev pub confirmed_in : (amount : ℕ) → List OrderMessage → (place : ℕ) → (later : List OrderRow) → Option ℕ
confirmed_in amount messages place [] = None
confirmed_in amount messages place (row ∷ later) =
    cond (is_plain (kind_at messages place row)) (cond (approves amount row) (Some place) (confirmed_in amount messages (place + 1) later)) None

-- the later order in which the terminal repeated the approval of a payment
abbrev pub confirming : Sent → List OrderMessage → (place : ℕ) → (later : List OrderRow) → Option ℕ
confirming (Register c) messages place later = None
confirming (Pay a) messages place later = confirmed_in a messages place later
confirming (Reverse e) messages place later = None
confirming CloseDay messages place later = None
confirming Cancel messages place later = None
confirming Foreign messages place later = None

-- ---- one row

-- another status names the trace number of this approval as its original
abbrev pub undoes : Undoing → Approval → Bool
undoes undoing approval = elim approval.trace [ None ↦ false | Some trace ↦ names (Once undoing.original) trace && not (is_value undoing.trace trace) ]

abbrev pub is_undone : Option Approval → Option Undoing → Bool
is_undone None undoing = false
is_undone (Some approval) None = false
is_undone (Some approval) (Some undoing) = undoes undoing approval

-- it was broken off after the terminal had approved it, and the terminal took the approval back
abbrev pub was_undone : Cause → Option Approval → Option Undoing → Bool
was_undone AbortAfterApproval approval undoing = is_undone approval undoing
was_undone _ approval undoing = false

-- an unclear payment: by the first approval that the terminal stated for it, by what took it back, or by the later order that
-- repeated it
abbrev pub payment_case : (amount : ℕ) → (confirmed : Option ℕ) → (undone : Bool) → Option Approval → Case
payment_case amount confirmed true approval = ApprovedThenUndone
payment_case amount None false None = PaymentUnclear
payment_case amount (Some order) false None = ApprovalRepeated
payment_case amount confirmed false (Some approval) = cond (approval.amount == amount) ApprovedNotCompleted OtherAmount

-- a reversal that the terminal refused or aborted with this code
abbrev pub refused_case : List Entry → (place code : ℕ) → (decided : Bool) → Option Case
refused_case book place code decided =
    cond (code == already_reversed) (cond (is_marked book place) None (cond decided None (Some TakenBackBefore))) (Some ReversalRefused)

-- a reversal; a later one of the same entry may have decided what it left open
abbrev pub reversal_case : List Entry → (place : ℕ) → (decided : Bool) → Outcome → Option Case
reversal_case book place decided Registered = None
reversal_case book place decided (Paid trace receipt) = None
reversal_case book place decided (Declined code) = Some ReversalRefused
reversal_case book place decided (Refused code) = refused_case book place code decided
reversal_case book place decided (Aborted code) = refused_case book place code decided
reversal_case book place decided (Unclear cause) = cond decided None (Some ReversalUnclear)
reversal_case book place decided Reversed = None
reversal_case book place decided DayClosed = None

-- an end of day, whose total differs from the book or not
abbrev pub close_case : (differs : Bool) → Outcome → Option Case
close_case differs Registered = None
close_case differs (Paid trace receipt) = None
close_case differs (Declined code) = Some CloseRefused
close_case differs (Refused code) = Some CloseRefused
close_case differs (Aborted code) = Some CloseRefused
close_case differs (Unclear cause) = Some CloseUnclear
close_case differs Reversed = None
close_case differs DayClosed = cond differs (Some CloseDiffers) None

-- a booked payment, which repeats an earlier one or not
abbrev pub alike_case : (repeats : Option ℕ) → Option Case
alike_case None = None
alike_case (Some earlier) = Some PaidAlike

-- a payment
abbrev pub paid_case : (amount : ℕ) → (repeats confirmed : Option ℕ) → Option Undoing → Option Approval → Outcome → Option Case
paid_case amount repeats confirmed undoing approval Registered = None
paid_case amount repeats confirmed undoing approval (Paid trace receipt) = alike_case repeats
paid_case amount repeats confirmed undoing approval (Declined code) = None
paid_case amount repeats confirmed undoing approval (Refused code) = None
paid_case amount repeats confirmed undoing approval (Aborted code) = None
paid_case amount repeats confirmed undoing approval (Unclear cause) = Some (payment_case amount confirmed (was_undone cause approval undoing) approval)
paid_case amount repeats confirmed undoing approval Reversed = None
paid_case amount repeats confirmed undoing approval DayClosed = None

-- a reversal of a payment that is not in the trace
abbrev pub elsewhere_case : Outcome → Option Case
elsewhere_case Registered = None
elsewhere_case (Paid trace receipt) = None
elsewhere_case (Declined code) = None
elsewhere_case (Refused code) = None
elsewhere_case (Aborted code) = None
elsewhere_case (Unclear cause) = Some ElsewhereUnclear
elsewhere_case Reversed = None
elsewhere_case DayClosed = Some ReversalElsewhere

-- another order that moves money
abbrev pub money_case : Outcome → Option Case
money_case Registered = None
money_case (Paid trace receipt) = None
money_case (Declined code) = None
money_case (Refused code) = None
money_case (Aborted code) = None
money_case (Unclear cause) = Some OtherUnclear
money_case Reversed = None
money_case DayClosed = None

-- an order that the book does not know
abbrev pub foreign_case : OrderKind → Outcome → Option Case
foreign_case kind.Payment outcome = None
foreign_case kind.Reversal outcome = elsewhere_case outcome
foreign_case kind.OtherMoney outcome = money_case outcome
foreign_case kind.Close outcome = None
foreign_case kind.Plain outcome = None

-- Why to look at an order of this kind, in this book, before these later rows. A payment repeats an earlier one or not, and its
-- approval is repeated in a later order or taken back, or not.
abbrev pub case_as : List Entry → (differs : Bool) → (repeats confirmed : Option ℕ) → Option Undoing → OrderKind → (later : List OrderRow) → Option Approval → Outcome → Sent → Option Case
case_as book differs repeats confirmed undoing k later approval outcome (Register c) = None
case_as book differs repeats confirmed undoing k later approval outcome (Pay a) = paid_case a repeats confirmed undoing approval outcome
case_as book differs repeats confirmed undoing k later approval outcome (Reverse e) = reversal_case book e (list_any (decides e) later) outcome
case_as book differs repeats confirmed undoing k later approval outcome CloseDay = close_case differs outcome
case_as book differs repeats confirmed undoing k later approval outcome Cancel = None
case_as book differs repeats confirmed undoing k later approval outcome Foreign = foreign_case k outcome

-- the first later payment of the same amount that is booked or unclear; the first later row has this place
abbrev pub paid_again : Sent → (place : ℕ) → (later : List OrderRow) → Option ℕ
paid_again (Register c) place later = None
paid_again (Pay a) place later = option_map (λ skipped. place + skipped) (position (may_pay a) later)
paid_again (Reverse e) place later = None
paid_again CloseDay place later = None
paid_again Cancel place later = None
paid_again Foreign place later = None

-- the other payment of a case: the one before it with the same card, or the one after it
abbrev pub other_payment : Case → (repeats again : Option ℕ) → Option ℕ
other_payment ApprovedNotCompleted repeats again = again
other_payment ApprovalRepeated repeats again = again
other_payment ApprovedThenUndone repeats again = again
other_payment OtherAmount repeats again = again
other_payment PaymentUnclear repeats again = again
other_payment PaidAlike repeats again = repeats
other_payment ReversalUnclear repeats again = again
other_payment TakenBackBefore repeats again = again
other_payment ReversalRefused repeats again = again
other_payment ReversalElsewhere repeats again = again
other_payment ElsewhereUnclear repeats again = again
other_payment OtherUnclear repeats again = again
other_payment CloseUnclear repeats again = again
other_payment CloseRefused repeats again = again
other_payment CloseDiffers repeats again = again

-- the order that repeated the approval of a payment, if that is the case
abbrev pub confirmed_if : Case → (confirmed : Option ℕ) → Option ℕ
confirmed_if ApprovalRepeated confirmed = confirmed
confirmed_if _ confirmed = None

-- the trace number of what took the approval back, if that is the case
abbrev pub undone_if : Case → Option Undoing → Option ℕ
undone_if ApprovedThenUndone undoing = option_and_then (λ (u : Undoing). u.trace) undoing
undone_if _ undoing = None

-- a look in this case at the order of this place
abbrev pub look_with : (place : ℕ) → (repeats confirmed : Option ℕ) → Option Undoing → (again : Option ℕ) → Case → Look
look_with place repeats confirmed undoing again case =
    record { case = case; order = place; again = other_payment case repeats again; confirmed_by = confirmed_if case confirmed; undone_by = undone_if case undoing }

-- what the statuses of the order at this place take back
abbrev pub undoing_at : List Statement → (place : ℕ) → Option Undoing
undoing_at statements place = option_and_then (λ (statement : Statement). statement.undoing) (slice_get statements place)

abbrev pub look_at : List Entry → List (Option Closing) → List Statement → List OrderMessage → List (Option ℕ) → (place : ℕ) → OrderRow → (later : List OrderRow) → Option Look
look_at book closings statements messages repeated place row later =
    let confirmed = confirming row.order messages (place + 1) later in
    option_map (look_with place (repeated_at repeated place) confirmed (undoing_at statements place) (paid_again row.order (place + 1) later))
    (case_as book (differs_at closings place) (repeated_at repeated place) confirmed (undoing_at statements place) (kind_at messages place row) later row.approval row.outcome row.order)

abbrev pub weight_of : Case → Weight
weight_of ApprovedNotCompleted = Act
weight_of ApprovalRepeated = Act
weight_of ApprovedThenUndone = Check
weight_of OtherAmount = Act
weight_of PaymentUnclear = Check
weight_of PaidAlike = Check
weight_of ReversalUnclear = Act
weight_of TakenBackBefore = Act
weight_of ReversalRefused = Check
weight_of ReversalElsewhere = Check
weight_of ElsewhereUnclear = Act
weight_of OtherUnclear = Act
weight_of CloseUnclear = Check
weight_of CloseRefused = Check
weight_of CloseDiffers = Check

-- ---- all rows

abbrev pub looks_from : List Entry → List (Option Closing) → List Statement → List OrderMessage → List (Option ℕ) → (place : ℕ) → List OrderRow → List Look
looks_from book closings statements messages repeated place [] = []
looks_from book closings statements messages repeated place (row ∷ later) =
    cons_option (look_at book closings statements messages repeated place row later) (looks_from book closings statements messages repeated (place + 1) later)

-- in the order of the rows
abbrev pub looks : List Entry → List (Option Closing) → List Statement → List OrderMessage → List OrderRow → List Look
looks book closings statements messages rows = looks_from book closings statements messages (repeated_payments book rows) 0 rows

-- ---- rows worked by hand

abbrev a_row : Sent → Outcome → Option Approval → OrderRow
a_row order outcome approval = record { order = order; first = 1; last = 2; outcome = outcome; approval = approval; time = None; card = None }

abbrev approved : ℕ → Option Approval
approved amount = Some (record { line = 2; amount = amount; trace = Some 20; receipt = None })

abbrev looked : Case → ℕ → Option ℕ → Look
looked case order again = record { case = case; order = order; again = again; confirmed_by = None; undone_by = None }

-- paid again after a lost line, with a decline between
twice : looks [] [] [] [] (a_row (Pay 3499) (Unclear Line) (approved 3499) ∷ a_row (Pay 3499) (Declined 0x65) None ∷ a_row (Pay 3499) (Paid 21 None) (approved 3499) ∷ []) ≡ looked ApprovedNotCompleted 0 (Some 2) ∷ []
twice = refl

a_tip : looks [] [] [] [] (a_row (Pay 5000) (Unclear NoStatus) (approved 5500) ∷ a_row (Pay 500) (Unclear Line) None ∷ []) ≡ looked OtherAmount 0 None ∷ looked PaymentUnclear 1 None ∷ []
a_tip = refl

abbrev an_entry : Bool → Entry
an_entry reversed = record { amount = 500; trace = 1; receipt = None; reversed = reversed; doubt = No }

-- a second reversal decided what the first one left open
decided_later : looks (an_entry true ∷ []) [] [] [] (a_row (Reverse 0) (Unclear Line) None ∷ a_row (Reverse 0) Reversed None ∷ a_row (Reverse 0) (Aborted 0xB4) None ∷ []) ≡ []
decided_later = refl

abbrev by_card : OrderRow
by_card = record { order = Pay 500; first = 1; last = 2; outcome = Paid 1 None; approval = None; time = None; card = Some (record { card_type = None; name = None; number = Some (0x12 ∷ []) }) }

paid_alike : looks (an_entry false ∷ an_entry false ∷ []) [] [] [] (by_card ∷ by_card ∷ []) ≡ looked PaidAlike 1 (Some 0) ∷ []
paid_alike = refl

taken_back_before : looks (an_entry false ∷ []) [] [] [] (a_row (Reverse 0) (Unclear Line) None ∷ a_row (Reverse 0) (Refused 0xB4) None ∷ a_row CloseDay (Aborted 0x6C) None ∷ []) ≡ looked TakenBackBefore 1 None ∷ looked CloseRefused 2 None ∷ []
taken_back_before = refl

-- a total of 3.00 after a payment of 5.00
closed_differently : looks [] (None ∷ Some (record { stated = Some 300; totals = None; booked = 500; taken_back = 0; covered = Some 300; explained = Nothing }) ∷ []) [] [] (a_row (Pay 500) (Paid 17 None) None ∷ a_row CloseDay DayClosed None ∷ [])
    ≡ looked CloseDiffers 1 None ∷ []
closed_differently = refl

abbrev with_control : (low : ℕ) → OrderMessage
with_control low = record { high = 0x06; low = low; amount = Some 500; receipt = None }

-- a refund, a pre-authorisation that was completed, and two reversals of payments of another trace
beside_the_book :
    looks [] [] [] (with_control 0x31 ∷ with_control 0x22 ∷ with_control 0x30 ∷ with_control 0x30 ∷ with_control 0x30 ∷ [])
    (a_row Foreign (Unclear Line) None ∷ a_row Foreign DayClosed None ∷ a_row Foreign DayClosed None ∷ a_row Foreign (Unclear Line) None ∷ a_row Foreign (Aborted 0x6C) None ∷ [])
    ≡ looked OtherUnclear 0 None ∷ looked ReversalElsewhere 2 None ∷ looked ElsewhereUnclear 3 None ∷ []
beside_the_book = refl

-- the receipt is printed again, after the till had asked for the terminal's state
confirmed_later : looks [] [] [] (with_control 0x01 ∷ with_control 0x70 ∷ with_control 0x20 ∷ []) (a_row (Pay 500) (Unclear Line) None ∷ a_row Foreign DayClosed None ∷ a_row Foreign DayClosed (approved 500) ∷ [])
    ≡ record (looked ApprovalRepeated 0 None) { confirmed_by = Some 2 } ∷ []
confirmed_later = refl

-- with another amount, and after the next order that moves money
not_confirmed : looks [] [] [] (with_control 0x01 ∷ with_control 0x20 ∷ with_control 0x31 ∷ with_control 0x20 ∷ [])
    (a_row (Pay 500) (Unclear Line) None ∷ a_row Foreign DayClosed (approved 700) ∷ a_row Foreign DayClosed None ∷ a_row Foreign DayClosed (approved 500) ∷ []) ≡ looked PaymentUnclear 0 None ∷ []
not_confirmed = refl

abbrev undoing : (trace : Option ℕ) → Statement
undoing trace = record { declines = true; total = None; totals = None; card = None; undoing = Some (record { original = 0 ∷ 0 ∷ 0x20 ∷ []; trace = trace }) }

-- what was approved under trace number 20 was taken back, then not by another status, and then the line was lost
undone : looks [] [] (undoing (Some 21) ∷ undoing (Some 20) ∷ undoing (Some 21) ∷ []) []
    (a_row (Pay 500) (Unclear AbortAfterApproval) (approved 500) ∷ a_row (Pay 500) (Unclear AbortAfterApproval) (approved 500) ∷ a_row (Pay 500) (Unclear Line) (approved 500) ∷ [])
    ≡ record (looked ApprovedThenUndone 0 (Some 1)) { undone_by = Some 21 } ∷ looked ApprovedNotCompleted 1 (Some 2) ∷ looked ApprovedNotCompleted 2 None ∷ []
undone = refl
