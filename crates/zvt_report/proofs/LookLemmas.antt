-- Which orders are looked at.
use Rattle.std.proofs.Common.{◌≡◌, ℕ, ◌+◌, ◌==◌, Bool, true, false, not, cond, List, [], ◌∷◌, ◌++◌, Option, Some, None, refl, ap₂, ◌∙◌}
use Rattle.std.specs.List.{cons_option, list_any}
use Rattle.std.specs.Option.{option_map}
use Rattle.zvt_till.specs.Doubts.{already_reversed}
use Rattle.zvt_till.specs.declared.entries.Entry.{Entry}
use Rattle.zvt_till.specs.declared.happenings.Sent.{Sent}
use Rattle.zvt_till.specs.declared.happenings.Sent.TheVariants.{Register, Pay, Reverse, CloseDay, Cancel, Foreign}
use Rattle.zvt_till.specs.declared.outcomes.Outcome.{Outcome}
use Rattle.zvt_till.specs.declared.outcomes.Outcome.TheVariants.{Registered, Paid, Declined, Refused, Aborted, Unclear, Reversed, DayClosed}
use Rattle.zvt_report.specs.Alike.{is_marked, repeated_at, repeated_payments}
use Rattle.zvt_report.specs.Differing.{differs_at}
use Rattle.zvt_report.specs.Kinds.{foreign_kind, kind_at, kind_of, message_at}
use Rattle.zvt_report.specs.Looks.{case_as, confirming, decides, foreign_case, look_with, looks_from, paid_again, payment_case, undoing_at, was_undone}
use Rattle.zvt_report.specs.LookLaws.{EachOtherIsLookedAt, EachPaymentIsLookedAt, EachReversalIsLookedAt, is_of_other, is_of_payment, is_of_reversal, is_unclear_by, is_unclear_other, open_by, open_places, others_looked_at, payments_looked_at, reversals_looked_at, unclear_others, unclear_places}
use Rattle.zvt_report.specs.declared.cases.Case.{Case}
use Rattle.zvt_report.specs.declared.cases.Case.TheVariants.{ApprovedNotCompleted, OtherAmount, ReversalRefused, ReversalUnclear, TakenBackBefore}
use Rattle.zvt_report.specs.declared.cases.Look.{Look}
use Rattle.zvt_report.specs.declared.closings.Closing.{Closing}
use Rattle.zvt_report.specs.declared.kinds.OrderKind.{OrderKind}
use Rattle.zvt_report.specs.declared.kinds.OrderKind.TheVariants as kind
use Rattle.zvt_report.specs.declared.rows.Approval.{Approval}
use Rattle.zvt_report.specs.declared.rows.OrderMessage.{OrderMessage}
use Rattle.zvt_report.specs.declared.rows.OrderRow.{OrderRow}
use Rattle.zvt_report.specs.declared.statements.Statement.{Statement}
use Rattle.zvt_report.specs.declared.statements.Undoing.{Undoing}

-- a look that passes the test, as the place that it is about
abbrev place_if : (Case → Bool) → ℕ → Option Case → List ℕ
place_if test place None = []
place_if test place (Some case) = cond (test case) (place ∷ []) []

payments-cons : (place : ℕ) (repeats confirmed : Option ℕ) (undoing : Option Undoing) (again : Option ℕ) (case : Option Case) (more : List Look)
    → payments_looked_at (cons_option (option_map (look_with place repeats confirmed undoing again) case) more) ≡ place_if is_of_payment place case ++ payments_looked_at more
payments-cons place repeats confirmed undoing again None more = refl
payments-cons place repeats confirmed undoing again (Some case) more = refl

reversals-cons : (place : ℕ) (repeats confirmed : Option ℕ) (undoing : Option Undoing) (again : Option ℕ) (case : Option Case) (more : List Look)
    → reversals_looked_at (cons_option (option_map (look_with place repeats confirmed undoing again) case) more) ≡ place_if is_of_reversal place case ++ reversals_looked_at more
reversals-cons place repeats confirmed undoing again None more = refl
reversals-cons place repeats confirmed undoing again (Some case) more = refl

others-cons : (place : ℕ) (repeats confirmed : Option ℕ) (undoing : Option Undoing) (again : Option ℕ) (case : Option Case) (more : List Look)
    → others_looked_at (cons_option (option_map (look_with place repeats confirmed undoing again) case) more) ≡ place_if is_of_other place case ++ others_looked_at more
others-cons place repeats confirmed undoing again None more = refl
others-cons place repeats confirmed undoing again (Some case) more = refl

-- ---- payments

payment-looks : (place amount : ℕ) (confirmed : Option ℕ) (undone : Bool) (approval : Option Approval) → place_if is_of_payment place (Some (payment_case amount confirmed undone approval)) ≡ place ∷ []
payment-looks place amount confirmed true approval = refl
payment-looks place amount None false None = refl
payment-looks place amount (Some order) false None = refl
payment-looks place amount confirmed false (Some approval) = by (approval.amount == amount)
  where
    by : (c : Bool) → place_if is_of_payment place (Some (cond c ApprovedNotCompleted OtherAmount)) ≡ place ∷ []
    by true = refl
    by false = refl

refused-payment : (place : ℕ) (known marked decided : Bool) → place_if is_of_payment place (cond known (cond marked None (cond decided None (Some TakenBackBefore))) (Some ReversalRefused)) ≡ []
refused-payment place true true decided = refl
refused-payment place true false true = refl
refused-payment place true false false = refl
refused-payment place false marked decided = refl

undecided-payment : (place : ℕ) (decided : Bool) → place_if is_of_payment place (cond decided None (Some ReversalUnclear)) ≡ []
undecided-payment place true = refl
undecided-payment place false = refl

foreign-payment : (place : ℕ) (k : OrderKind) (outcome : Outcome) → place_if is_of_payment place (foreign_case k outcome) ≡ []
foreign-payment place kind.Payment outcome = refl
foreign-payment place kind.Close outcome = refl
foreign-payment place kind.Plain outcome = refl
foreign-payment place kind.Reversal Registered = refl
foreign-payment place kind.Reversal (Paid t r) = refl
foreign-payment place kind.Reversal (Declined k) = refl
foreign-payment place kind.Reversal (Refused k) = refl
foreign-payment place kind.Reversal (Aborted k) = refl
foreign-payment place kind.Reversal (Unclear x) = refl
foreign-payment place kind.Reversal Reversed = refl
foreign-payment place kind.Reversal DayClosed = refl
foreign-payment place kind.OtherMoney Registered = refl
foreign-payment place kind.OtherMoney (Paid t r) = refl
foreign-payment place kind.OtherMoney (Declined k) = refl
foreign-payment place kind.OtherMoney (Refused k) = refl
foreign-payment place kind.OtherMoney (Aborted k) = refl
foreign-payment place kind.OtherMoney (Unclear x) = refl
foreign-payment place kind.OtherMoney Reversed = refl
foreign-payment place kind.OtherMoney DayClosed = refl

payment-at : (book : List Entry) (differs : Bool) (repeats confirmed : Option ℕ) (undoing : Option Undoing) (k : OrderKind) (place : ℕ) (later : List OrderRow) (approval : Option Approval) (outcome : Outcome) (order : Sent)
    → place_if is_of_payment place (case_as book differs repeats confirmed undoing k later approval outcome order) ≡ cond (is_unclear_by order outcome) (place ∷ []) []
payment-at book differs repeats confirmed undoing k place later approval outcome (Register r) = refl
payment-at book differs repeats confirmed undoing k place later approval Registered (Pay a) = refl
payment-at book differs None confirmed undoing k place later approval (Paid t r) (Pay a) = refl
payment-at book differs (Some earlier) confirmed undoing k place later approval (Paid t r) (Pay a) = refl
payment-at book differs repeats confirmed undoing k place later approval (Declined c) (Pay a) = refl
payment-at book differs repeats confirmed undoing k place later approval (Refused c) (Pay a) = refl
payment-at book differs repeats confirmed undoing k place later approval (Aborted c) (Pay a) = refl
payment-at book differs repeats confirmed undoing k place later approval (Unclear x) (Pay a) = payment-looks place a confirmed (was_undone x approval undoing) approval
payment-at book differs repeats confirmed undoing k place later approval Reversed (Pay a) = refl
payment-at book differs repeats confirmed undoing k place later approval DayClosed (Pay a) = refl
payment-at book differs repeats confirmed undoing k place later approval Registered (Reverse e) = refl
payment-at book differs repeats confirmed undoing k place later approval (Paid t r) (Reverse e) = refl
payment-at book differs repeats confirmed undoing k place later approval (Declined c) (Reverse e) = refl
payment-at book differs repeats confirmed undoing k place later approval (Refused c) (Reverse e) = refused-payment place (c == already_reversed) (is_marked book e) (list_any (decides e) later)
payment-at book differs repeats confirmed undoing k place later approval (Aborted c) (Reverse e) = refused-payment place (c == already_reversed) (is_marked book e) (list_any (decides e) later)
payment-at book differs repeats confirmed undoing k place later approval (Unclear x) (Reverse e) = undecided-payment place (list_any (decides e) later)
payment-at book differs repeats confirmed undoing k place later approval Reversed (Reverse e) = refl
payment-at book differs repeats confirmed undoing k place later approval DayClosed (Reverse e) = refl
payment-at book differs repeats confirmed undoing k place later approval Registered CloseDay = refl
payment-at book differs repeats confirmed undoing k place later approval (Paid t r) CloseDay = refl
payment-at book differs repeats confirmed undoing k place later approval (Declined c) CloseDay = refl
payment-at book differs repeats confirmed undoing k place later approval (Refused c) CloseDay = refl
payment-at book differs repeats confirmed undoing k place later approval (Aborted c) CloseDay = refl
payment-at book differs repeats confirmed undoing k place later approval (Unclear x) CloseDay = refl
payment-at book differs repeats confirmed undoing k place later approval Reversed CloseDay = refl
payment-at book true repeats confirmed undoing k place later approval DayClosed CloseDay = refl
payment-at book false repeats confirmed undoing k place later approval DayClosed CloseDay = refl
payment-at book differs repeats confirmed undoing k place later approval outcome Cancel = refl
payment-at book differs repeats confirmed undoing k place later approval outcome Foreign = foreign-payment place k outcome

payments-from : (book : List Entry) (closings : List (Option Closing)) (statements : List Statement) (messages : List OrderMessage) (repeated : List (Option ℕ)) (place : ℕ) (rows : List OrderRow) → payments_looked_at (looks_from book closings statements messages repeated place rows) ≡ unclear_places place rows
payments-from book closings statements messages repeated place [] = refl
payments-from book closings statements messages repeated place (row ∷ later) =
    let repeats = repeated_at repeated place in
    let confirmed = confirming row.order messages (place + 1) later in
    let undoing = undoing_at statements place in
    payments-cons place repeats confirmed undoing (paid_again row.order (place + 1) later)
    (case_as book (differs_at closings place) repeats confirmed undoing (kind_at messages place row) later row.approval row.outcome row.order) (looks_from book closings statements messages repeated (place + 1) later)
    ∙ ap₂ (λ x y. x ++ y) (payment-at book (differs_at closings place) repeats confirmed undoing (kind_at messages place row) place later row.approval row.outcome row.order) (payments-from book closings statements messages repeated (place + 1) later)

pub each_payment_is_looked_at : EachPaymentIsLookedAt
each_payment_is_looked_at book closings statements messages rows = payments-from book closings statements messages (repeated_payments book rows) 0 rows

-- ---- reversals

payment-no-reversal : (place amount : ℕ) (confirmed : Option ℕ) (undone : Bool) (approval : Option Approval) → place_if is_of_reversal place (Some (payment_case amount confirmed undone approval)) ≡ []
payment-no-reversal place amount confirmed true approval = refl
payment-no-reversal place amount None false None = refl
payment-no-reversal place amount (Some order) false None = refl
payment-no-reversal place amount confirmed false (Some approval) = by (approval.amount == amount)
  where
    by : (c : Bool) → place_if is_of_reversal place (Some (cond c ApprovedNotCompleted OtherAmount)) ≡ []
    by true = refl
    by false = refl

refused-reversal : (place : ℕ) (known marked decided : Bool) → place_if is_of_reversal place (cond known (cond marked None (cond decided None (Some TakenBackBefore))) (Some ReversalRefused)) ≡ []
refused-reversal place true true decided = refl
refused-reversal place true false true = refl
refused-reversal place true false false = refl
refused-reversal place false marked decided = refl

undecided-reversal : (place : ℕ) (decided : Bool) → place_if is_of_reversal place (cond decided None (Some ReversalUnclear)) ≡ cond (not decided) (place ∷ []) []
undecided-reversal place true = refl
undecided-reversal place false = refl

foreign-reversal : (place : ℕ) (k : OrderKind) (outcome : Outcome) → place_if is_of_reversal place (foreign_case k outcome) ≡ []
foreign-reversal place kind.Payment outcome = refl
foreign-reversal place kind.Close outcome = refl
foreign-reversal place kind.Plain outcome = refl
foreign-reversal place kind.Reversal Registered = refl
foreign-reversal place kind.Reversal (Paid t r) = refl
foreign-reversal place kind.Reversal (Declined k) = refl
foreign-reversal place kind.Reversal (Refused k) = refl
foreign-reversal place kind.Reversal (Aborted k) = refl
foreign-reversal place kind.Reversal (Unclear x) = refl
foreign-reversal place kind.Reversal Reversed = refl
foreign-reversal place kind.Reversal DayClosed = refl
foreign-reversal place kind.OtherMoney Registered = refl
foreign-reversal place kind.OtherMoney (Paid t r) = refl
foreign-reversal place kind.OtherMoney (Declined k) = refl
foreign-reversal place kind.OtherMoney (Refused k) = refl
foreign-reversal place kind.OtherMoney (Aborted k) = refl
foreign-reversal place kind.OtherMoney (Unclear x) = refl
foreign-reversal place kind.OtherMoney Reversed = refl
foreign-reversal place kind.OtherMoney DayClosed = refl

reversal-at : (book : List Entry) (differs : Bool) (repeats confirmed : Option ℕ) (undoing : Option Undoing) (k : OrderKind) (place : ℕ) (later : List OrderRow) (approval : Option Approval) (outcome : Outcome) (order : Sent)
    → place_if is_of_reversal place (case_as book differs repeats confirmed undoing k later approval outcome order) ≡ cond (open_by order outcome later) (place ∷ []) []
reversal-at book differs repeats confirmed undoing k place later approval outcome (Register r) = refl
reversal-at book differs repeats confirmed undoing k place later approval Registered (Pay a) = refl
reversal-at book differs None confirmed undoing k place later approval (Paid t r) (Pay a) = refl
reversal-at book differs (Some earlier) confirmed undoing k place later approval (Paid t r) (Pay a) = refl
reversal-at book differs repeats confirmed undoing k place later approval (Declined c) (Pay a) = refl
reversal-at book differs repeats confirmed undoing k place later approval (Refused c) (Pay a) = refl
reversal-at book differs repeats confirmed undoing k place later approval (Aborted c) (Pay a) = refl
reversal-at book differs repeats confirmed undoing k place later approval (Unclear x) (Pay a) = payment-no-reversal place a confirmed (was_undone x approval undoing) approval
reversal-at book differs repeats confirmed undoing k place later approval Reversed (Pay a) = refl
reversal-at book differs repeats confirmed undoing k place later approval DayClosed (Pay a) = refl
reversal-at book differs repeats confirmed undoing k place later approval Registered (Reverse e) = refl
reversal-at book differs repeats confirmed undoing k place later approval (Paid t r) (Reverse e) = refl
reversal-at book differs repeats confirmed undoing k place later approval (Declined c) (Reverse e) = refl
reversal-at book differs repeats confirmed undoing k place later approval (Refused c) (Reverse e) = refused-reversal place (c == already_reversed) (is_marked book e) (list_any (decides e) later)
reversal-at book differs repeats confirmed undoing k place later approval (Aborted c) (Reverse e) = refused-reversal place (c == already_reversed) (is_marked book e) (list_any (decides e) later)
reversal-at book differs repeats confirmed undoing k place later approval (Unclear x) (Reverse e) = undecided-reversal place (list_any (decides e) later)
reversal-at book differs repeats confirmed undoing k place later approval Reversed (Reverse e) = refl
reversal-at book differs repeats confirmed undoing k place later approval DayClosed (Reverse e) = refl
reversal-at book differs repeats confirmed undoing k place later approval Registered CloseDay = refl
reversal-at book differs repeats confirmed undoing k place later approval (Paid t r) CloseDay = refl
reversal-at book differs repeats confirmed undoing k place later approval (Declined c) CloseDay = refl
reversal-at book differs repeats confirmed undoing k place later approval (Refused c) CloseDay = refl
reversal-at book differs repeats confirmed undoing k place later approval (Aborted c) CloseDay = refl
reversal-at book differs repeats confirmed undoing k place later approval (Unclear x) CloseDay = refl
reversal-at book differs repeats confirmed undoing k place later approval Reversed CloseDay = refl
reversal-at book true repeats confirmed undoing k place later approval DayClosed CloseDay = refl
reversal-at book false repeats confirmed undoing k place later approval DayClosed CloseDay = refl
reversal-at book differs repeats confirmed undoing k place later approval outcome Cancel = refl
reversal-at book differs repeats confirmed undoing k place later approval outcome Foreign = foreign-reversal place k outcome

reversals-from : (book : List Entry) (closings : List (Option Closing)) (statements : List Statement) (messages : List OrderMessage) (repeated : List (Option ℕ)) (place : ℕ) (rows : List OrderRow) → reversals_looked_at (looks_from book closings statements messages repeated place rows) ≡ open_places place rows
reversals-from book closings statements messages repeated place [] = refl
reversals-from book closings statements messages repeated place (row ∷ later) =
    let repeats = repeated_at repeated place in
    let confirmed = confirming row.order messages (place + 1) later in
    let undoing = undoing_at statements place in
    reversals-cons place repeats confirmed undoing (paid_again row.order (place + 1) later)
    (case_as book (differs_at closings place) repeats confirmed undoing (kind_at messages place row) later row.approval row.outcome row.order) (looks_from book closings statements messages repeated (place + 1) later)
    ∙ ap₂ (λ x y. x ++ y) (reversal-at book (differs_at closings place) repeats confirmed undoing (kind_at messages place row) place later row.approval row.outcome row.order) (reversals-from book closings statements messages repeated (place + 1) later)

pub each_reversal_is_looked_at : EachReversalIsLookedAt
each_reversal_is_looked_at book closings statements messages rows = reversals-from book closings statements messages (repeated_payments book rows) 0 rows

-- ---- other orders

payment-no-other : (place amount : ℕ) (confirmed : Option ℕ) (undone : Bool) (approval : Option Approval) → place_if is_of_other place (Some (payment_case amount confirmed undone approval)) ≡ []
payment-no-other place amount confirmed true approval = refl
payment-no-other place amount None false None = refl
payment-no-other place amount (Some order) false None = refl
payment-no-other place amount confirmed false (Some approval) = by (approval.amount == amount)
  where
    by : (c : Bool) → place_if is_of_other place (Some (cond c ApprovedNotCompleted OtherAmount)) ≡ []
    by true = refl
    by false = refl

refused-other : (place : ℕ) (known marked decided : Bool) → place_if is_of_other place (cond known (cond marked None (cond decided None (Some TakenBackBefore))) (Some ReversalRefused)) ≡ []
refused-other place true true decided = refl
refused-other place true false true = refl
refused-other place true false false = refl
refused-other place false marked decided = refl

undecided-other : (place : ℕ) (decided : Bool) → place_if is_of_other place (cond decided None (Some ReversalUnclear)) ≡ []
undecided-other place true = refl
undecided-other place false = refl

foreign-other : (place : ℕ) (k : OrderKind) (outcome : Outcome) → place_if is_of_other place (foreign_case k outcome) ≡ cond (is_unclear_other k outcome) (place ∷ []) []
foreign-other place kind.Payment outcome = refl
foreign-other place kind.Close outcome = refl
foreign-other place kind.Plain outcome = refl
foreign-other place kind.Reversal Registered = refl
foreign-other place kind.Reversal (Paid t r) = refl
foreign-other place kind.Reversal (Declined c) = refl
foreign-other place kind.Reversal (Refused c) = refl
foreign-other place kind.Reversal (Aborted c) = refl
foreign-other place kind.Reversal (Unclear x) = refl
foreign-other place kind.Reversal Reversed = refl
foreign-other place kind.Reversal DayClosed = refl
foreign-other place kind.OtherMoney Registered = refl
foreign-other place kind.OtherMoney (Paid t r) = refl
foreign-other place kind.OtherMoney (Declined c) = refl
foreign-other place kind.OtherMoney (Refused c) = refl
foreign-other place kind.OtherMoney (Aborted c) = refl
foreign-other place kind.OtherMoney (Unclear x) = refl
foreign-other place kind.OtherMoney Reversed = refl
foreign-other place kind.OtherMoney DayClosed = refl

other-at : (book : List Entry) (differs : Bool) (repeats confirmed : Option ℕ) (undoing : Option Undoing) (high low place : ℕ) (later : List OrderRow) (approval : Option Approval) (outcome : Outcome) (order : Sent)
    → place_if is_of_other place (case_as book differs repeats confirmed undoing (kind_of order high low) later approval outcome order) ≡ cond (is_unclear_other (kind_of order high low) outcome) (place ∷ []) []
other-at book differs repeats confirmed undoing high low place later approval outcome (Register r) = refl
other-at book differs repeats confirmed undoing high low place later approval Registered (Pay a) = refl
other-at book differs None confirmed undoing high low place later approval (Paid t r) (Pay a) = refl
other-at book differs (Some earlier) confirmed undoing high low place later approval (Paid t r) (Pay a) = refl
other-at book differs repeats confirmed undoing high low place later approval (Declined c) (Pay a) = refl
other-at book differs repeats confirmed undoing high low place later approval (Refused c) (Pay a) = refl
other-at book differs repeats confirmed undoing high low place later approval (Aborted c) (Pay a) = refl
other-at book differs repeats confirmed undoing high low place later approval (Unclear x) (Pay a) = payment-no-other place a confirmed (was_undone x approval undoing) approval
other-at book differs repeats confirmed undoing high low place later approval Reversed (Pay a) = refl
other-at book differs repeats confirmed undoing high low place later approval DayClosed (Pay a) = refl
other-at book differs repeats confirmed undoing high low place later approval Registered (Reverse e) = refl
other-at book differs repeats confirmed undoing high low place later approval (Paid t r) (Reverse e) = refl
other-at book differs repeats confirmed undoing high low place later approval (Declined c) (Reverse e) = refl
other-at book differs repeats confirmed undoing high low place later approval (Refused c) (Reverse e) = refused-other place (c == already_reversed) (is_marked book e) (list_any (decides e) later)
other-at book differs repeats confirmed undoing high low place later approval (Aborted c) (Reverse e) = refused-other place (c == already_reversed) (is_marked book e) (list_any (decides e) later)
other-at book differs repeats confirmed undoing high low place later approval (Unclear x) (Reverse e) = undecided-other place (list_any (decides e) later)
other-at book differs repeats confirmed undoing high low place later approval Reversed (Reverse e) = refl
other-at book differs repeats confirmed undoing high low place later approval DayClosed (Reverse e) = refl
other-at book differs repeats confirmed undoing high low place later approval Registered CloseDay = refl
other-at book differs repeats confirmed undoing high low place later approval (Paid t r) CloseDay = refl
other-at book differs repeats confirmed undoing high low place later approval (Declined c) CloseDay = refl
other-at book differs repeats confirmed undoing high low place later approval (Refused c) CloseDay = refl
other-at book differs repeats confirmed undoing high low place later approval (Aborted c) CloseDay = refl
other-at book differs repeats confirmed undoing high low place later approval (Unclear x) CloseDay = refl
other-at book differs repeats confirmed undoing high low place later approval Reversed CloseDay = refl
other-at book true repeats confirmed undoing high low place later approval DayClosed CloseDay = refl
other-at book false repeats confirmed undoing high low place later approval DayClosed CloseDay = refl
other-at book differs repeats confirmed undoing high low place later approval outcome Cancel = refl
other-at book differs repeats confirmed undoing high low place later approval outcome Foreign = foreign-other place (foreign_kind high low) outcome

others-from : (book : List Entry) (closings : List (Option Closing)) (statements : List Statement) (messages : List OrderMessage) (repeated : List (Option ℕ)) (place : ℕ) (rows : List OrderRow) → others_looked_at (looks_from book closings statements messages repeated place rows) ≡ unclear_others messages place rows
others-from book closings statements messages repeated place [] = refl
others-from book closings statements messages repeated place (row ∷ later) =
    let repeats = repeated_at repeated place in
    let confirmed = confirming row.order messages (place + 1) later in
    let undoing = undoing_at statements place in
    others-cons place repeats confirmed undoing (paid_again row.order (place + 1) later)
    (case_as book (differs_at closings place) repeats confirmed undoing (kind_at messages place row) later row.approval row.outcome row.order) (looks_from book closings statements messages repeated (place + 1) later)
    ∙ ap₂ (λ x y. x ++ y) (other-at book (differs_at closings place) repeats confirmed undoing (message_at messages place).high (message_at messages place).low place later row.approval row.outcome row.order) (others-from book closings statements messages repeated (place + 1) later)

pub each_other_is_looked_at : EachOtherIsLookedAt
each_other_is_looked_at book closings statements messages rows = others-from book closings statements messages (repeated_payments book rows) 0 rows
