-- The laws of the orders that a person should look at.
use Rattle.std.specs.Prelude.{◌≡◌, ℕ, ◌+◌, ◌==◌, Bool, true, false, not, cond, ◌&&◌, ◌||◌, List, [], ◌∷◌, ◌++◌, Option}
use Rattle.std.specs.List.{list_any}
use Rattle.zvt_till.specs.declared.entries.Entry.{Entry}
use Rattle.zvt_till.specs.declared.happenings.Sent.{Sent}
use Rattle.zvt_till.specs.declared.happenings.Sent.TheVariants.{Pay, Reverse}
use Rattle.zvt_till.specs.declared.outcomes.Outcome.{Outcome}
use Rattle.zvt_till.specs.declared.outcomes.Outcome.TheVariants.{Unclear}
use Rattle.zvt_report.specs.Kinds.{kind_at}
use Rattle.zvt_report.specs.Looks.{decides, looks}
use Rattle.zvt_report.specs.declared.cases.Case.{Case}
use Rattle.zvt_report.specs.declared.cases.Case.TheVariants.{ApprovedNotCompleted, ApprovalRepeated, ApprovedThenUndone, OtherAmount, PaymentUnclear, PaidAlike, ReversalUnclear, TakenBackBefore, ReversalRefused, ReversalElsewhere, ElsewhereUnclear, OtherUnclear, CloseUnclear, CloseRefused, CloseDiffers}
use Rattle.zvt_report.specs.declared.cases.Look.{Look}
use Rattle.zvt_report.specs.declared.closings.Closing.{Closing}
use Rattle.zvt_report.specs.declared.kinds.OrderKind.{OrderKind}
use Rattle.zvt_report.specs.declared.kinds.OrderKind.TheVariants as kind
use Rattle.zvt_report.specs.declared.rows.OrderMessage.{OrderMessage}
use Rattle.zvt_report.specs.declared.rows.OrderRow.{OrderRow}
use Rattle.zvt_report.specs.declared.statements.Statement.{Statement}

abbrev pub is_unclear_by : Sent → Outcome → Bool
is_unclear_by (Pay a) (Unclear cause) = true
is_unclear_by _ _ = false

-- the places of the unclear payments among these rows; the first row has this place
abbrev pub unclear_places : (place : ℕ) → List OrderRow → List ℕ
unclear_places place [] = []
unclear_places place (row ∷ later) = cond (is_unclear_by row.order row.outcome) (place ∷ []) [] ++ unclear_places (place + 1) later

abbrev pub is_of_payment : Case → Bool
is_of_payment ApprovedNotCompleted = true
is_of_payment ApprovalRepeated = true
is_of_payment ApprovedThenUndone = true
is_of_payment OtherAmount = true
is_of_payment PaymentUnclear = true
is_of_payment PaidAlike = false
is_of_payment ReversalUnclear = false
is_of_payment TakenBackBefore = false
is_of_payment ReversalRefused = false
is_of_payment ReversalElsewhere = false
is_of_payment ElsewhereUnclear = false
is_of_payment OtherUnclear = false
is_of_payment CloseUnclear = false
is_of_payment CloseRefused = false
is_of_payment CloseDiffers = false

-- the places of these looks that are about an unclear payment
abbrev pub payments_looked_at : List Look → List ℕ
payments_looked_at [] = []
payments_looked_at (look ∷ more) = cond (is_of_payment look.case) (look.order ∷ []) [] ++ payments_looked_at more

-- each unclear payment is looked at once, and no other payment is called unclear
abbrev pub EachPaymentIsLookedAt : Type 0
EachPaymentIsLookedAt = (book : List Entry) (closings : List (Option Closing)) (statements : List Statement) (messages : List OrderMessage) (rows : List OrderRow) → payments_looked_at (looks book closings statements messages rows) ≡ unclear_places 0 rows

abbrev pub is_open_by : (place : ℕ) → Sent → Outcome → Bool
is_open_by place (Reverse e) (Unclear cause) = e == place
is_open_by place _ _ = false

-- an unclear reversal of the entry at this place that no later one decides
abbrev pub is_left_open : (place : ℕ) → List OrderRow → Bool
is_left_open place [] = false
is_left_open place (row ∷ later) = (is_open_by place row.order row.outcome && not (list_any (decides place) later)) || is_left_open place later

-- the places of the rows that leave some reversal open; the first row has this place
abbrev pub open_by : Sent → Outcome → (later : List OrderRow) → Bool
open_by (Reverse e) (Unclear cause) later = not (list_any (decides e) later)
open_by _ _ later = false

abbrev pub open_places : (place : ℕ) → List OrderRow → List ℕ
open_places place [] = []
open_places place (row ∷ later) = cond (open_by row.order row.outcome later) (place ∷ []) [] ++ open_places (place + 1) later

abbrev pub is_of_reversal : Case → Bool
is_of_reversal ApprovedNotCompleted = false
is_of_reversal ApprovalRepeated = false
is_of_reversal ApprovedThenUndone = false
is_of_reversal OtherAmount = false
is_of_reversal PaymentUnclear = false
is_of_reversal PaidAlike = false
is_of_reversal ReversalUnclear = true
is_of_reversal TakenBackBefore = false
is_of_reversal ReversalRefused = false
is_of_reversal ReversalElsewhere = false
is_of_reversal ElsewhereUnclear = false
is_of_reversal OtherUnclear = false
is_of_reversal CloseUnclear = false
is_of_reversal CloseRefused = false
is_of_reversal CloseDiffers = false

-- the places of these looks that are about an unclear reversal
abbrev pub reversals_looked_at : List Look → List ℕ
reversals_looked_at [] = []
reversals_looked_at (look ∷ more) = cond (is_of_reversal look.case) (look.order ∷ []) [] ++ reversals_looked_at more

-- each reversal that was left open is looked at once, and no other is called unclear
abbrev pub EachReversalIsLookedAt : Type 0
EachReversalIsLookedAt = (book : List Entry) (closings : List (Option Closing)) (statements : List Statement) (messages : List OrderMessage) (rows : List OrderRow) → reversals_looked_at (looks book closings statements messages rows) ≡ open_places 0 rows

abbrev pub is_unclear : Outcome → Bool
is_unclear (Unclear cause) = true
is_unclear _ = false

-- an unclear order of a kind that moves money, and that the book does not follow
abbrev pub is_unclear_other : OrderKind → Outcome → Bool
is_unclear_other kind.Payment outcome = false
is_unclear_other kind.Reversal outcome = false
is_unclear_other kind.OtherMoney outcome = is_unclear outcome
is_unclear_other kind.Close outcome = false
is_unclear_other kind.Plain outcome = false

-- the places of these orders among these rows; the first row has this place
abbrev pub unclear_others : List OrderMessage → (place : ℕ) → List OrderRow → List ℕ
unclear_others messages place [] = []
unclear_others messages place (row ∷ later) = cond (is_unclear_other (kind_at messages place row) row.outcome) (place ∷ []) [] ++ unclear_others messages (place + 1) later

abbrev pub is_of_other : Case → Bool
is_of_other OtherUnclear = true
is_of_other _ = false

-- the places of these looks that are about such an order
abbrev pub others_looked_at : List Look → List ℕ
others_looked_at [] = []
others_looked_at (look ∷ more) = cond (is_of_other look.case) (look.order ∷ []) [] ++ others_looked_at more

-- each unclear order that moves money beside the book is looked at once, and no other order is called that
abbrev pub EachOtherIsLookedAt : Type 0
EachOtherIsLookedAt = (book : List Entry) (closings : List (Option Closing)) (statements : List Statement) (messages : List OrderMessage) (rows : List OrderRow) → others_looked_at (looks book closings statements messages rows) ≡ unclear_others messages 0 rows
