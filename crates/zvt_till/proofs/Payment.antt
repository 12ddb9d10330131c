-- Each outcome of a payment is the verdict on its whole segment.
use Rattle.std.proofs.Common.{◌≡◌, ℕ, Bool, true, false, not, cond, ◌&&◌, ◌||◌, ◌==◌, nat_eq, List, [], ◌∷◌, Option, Some, None, map, refl, sym, ap, ap₂, ◌∙◌, eq-eqb}
use Rattle.std.specs.List.{list_any, list_all}
use Rattle.zvt_till.specs.declared.happenings.Happening.{Happening}
use Rattle.zvt_till.specs.declared.happenings.Happening.TheVariants.{Connected, Sent as SentOut, Heard as HeardIn, Malformed, Lost}
use Rattle.zvt_till.specs.declared.orders.Order.TheVariants.{Pay as PayOrder}
use Rattle.zvt_till.specs.declared.messages.Heard.TheVariants.{Positive, Negative, Status, Passing, Completion, Abort, Strange}
use Rattle.zvt_till.specs.declared.messages.StatusFacts.{StatusFacts}
use Rattle.zvt_till.specs.declared.statuses.Statuses.TheVariants.{Good as AllGood, Declining as AllDeclining}
use Rattle.zvt_till.specs.declared.entries.Entry.{Entry}
use Rattle.zvt_till.specs.declared.outcomes.Cause.TheVariants.{Conflict, AmountDiffers, NoTrace, TraceUsed, AbortAfterApproval, WrongCurrency}
use Rattle.zvt_till.specs.declared.outcomes.Outcome.{Outcome}
use Rattle.zvt_till.specs.declared.outcomes.Outcome.TheVariants.{Registered, Paid, Declined, Refused as RefusedOutcome, Aborted, Unclear as UnclearOutcome, Reversed, DayClosed}
use Rattle.zvt_till.specs.Statuses.{is_value, is_absent, is_in_currency, approves, Charge, Payment, Class, Good, Declining, Doubtful, class_by, class_of, agrees, objection, is_declined}
use Rattle.zvt_till.specs.Books.{Booked, booked_as, Verdict, Entered, Unclear, Refused, earned, unearned, completed, broken_off, verdict_by}
use Rattle.zvt_till.specs.Outcomes.{trace_used, payment_outcome, broken_outcome, outcome_by}
use Rattle.zvt_till.proofs.Summaries.{summary, after, disagreeing, whole, summary-whole, is_nothing, all_or_find, declining_agrees}

-- the class of a status, from its five tests
abbrev undeclined_class : Bool → Bool → Bool → Option ℕ → Class
undeclined_class alone own same trace =
    cond alone (cond own (cond same (elim trace [ None ↦ Doubtful NoTrace | Some t ↦ Good (Some t) ]) (Doubtful AmountDiffers)) (Doubtful WrongCurrency)) (Doubtful Conflict)

abbrev payment_class : Option ℕ → Bool → Bool → Bool → Option ℕ → Class
payment_class None alone own same trace = Doubtful Conflict
payment_class (Some code) alone own same trace = cond (code == 0) (undeclined_class alone own same trace) (Declining code)

class-parts : (charge : Charge) (s : StatusFacts) (r : Option ℕ) → class_by r (Payment charge) s ≡ payment_class r (is_absent s.original) (is_in_currency charge.currency s.currency) (is_value s.amount charge.amount) s.trace
class-parts charge s None = refl
class-parts charge s (Some code) = refl

zero-code : (z : Bool) (code : ℕ) (alone own same : Bool) (trace : Option ℕ) (t : ℕ)
    → (z && alone && own && same && is_value trace t) ≡ agrees (Good (Some t)) (cond z (undeclined_class alone own same trace) (Declining code))
zero-code false code alone own same trace t = refl
zero-code true code false own same trace t = refl
zero-code true code true false same trace t = refl
zero-code true code true true false trace t = refl
zero-code true code true true true None t = refl
zero-code true code true true true (Some u) t = refl

approves-parts : (r : Option ℕ) (alone own same : Bool) (trace : Option ℕ) (t : ℕ)
    → (is_value r 0 && alone && own && same && is_value trace t) ≡ agrees (Good (Some t)) (payment_class r alone own same trace)
approves-parts None alone own same trace t = refl
approves-parts (Some code) alone own same trace t = zero-code (code == 0) code alone own same trace t

-- a status approves the charge under a trace exactly where its class agrees with that of a good one
pub approves-class : (charge : Charge) (t : ℕ) (s : StatusFacts) → approves charge t s ≡ agrees (Good (Some t)) (class_of (Payment charge) s)
approves-class charge t s =
    approves-parts s.result (is_absent s.original) (is_in_currency charge.currency s.currency) (is_value s.amount charge.amount) s.trace t
    ∙ ap (agrees (Good (Some t))) (sym (class-parts charge s s.result))

all_approve : (charge : Charge) (t : ℕ) (fs : List StatusFacts) → list_all (approves charge t) fs ≡ list_all (agrees (Good (Some t))) (map (class_of (Payment charge)) fs)
all_approve charge t [] = refl
all_approve charge t (f ∷ fs) = ap₂ (λ x y. x && y) (approves-class charge t f) (all_approve charge t fs)

-- what a payment earns, from the classes
abbrev entry_by : Class → Charge → Option (List ℕ) → List ℕ → List Class → Option Booked
entry_by (Good (Some t)) charge r used cs = cond (list_all (agrees (Good (Some t))) cs && not (list_any (λ x. nat_eq x t) used)) (Some (booked_as charge.amount t r)) None
entry_by (Good None) charge r used cs = None
entry_by (Declining k) charge r used cs = None
entry_by (Doubtful x) charge r used cs = None

-- the first status, by its trace and what it approves
abbrev earned_first : Charge → List ℕ → Option (List ℕ) → (ℕ → Bool) → List Class → Option ℕ → Option Booked
earned_first charge used r first cs trace =
    elim trace [
      | None ↦ None
      | Some t ↦ cond ((first t && list_all (agrees (Good (Some t))) cs) && not (list_any (λ x. nat_eq x t) used)) (Some (booked_as charge.amount t r)) None
    ]

eqb-self : (t : ℕ) → (t == t) ≡ true
eqb-self t = eq-eqb t t refl

-- with the trace that it names, the first status approves where its class is good
earned-bits : (charge : Charge) (used : List ℕ) (r : Option (List ℕ)) (cs : List Class) (result : Option ℕ) (alone own same : Bool) (trace : Option ℕ)
    → earned_first charge used r (λ t. agrees (Good (Some t)) (payment_class result alone own same trace)) cs trace
    ≡ entry_by (payment_class result alone own same trace) charge r used cs
earned-bits charge used r cs None alone own same None = refl
earned-bits charge used r cs None alone own same (Some t) = refl
earned-bits charge used r cs (Some code) alone own same trace = by_code (code == 0) alone own same trace
  where
    by_code : (z alone own same : Bool) (trace : Option ℕ)
        → earned_first charge used r (λ t. agrees (Good (Some t)) (cond z (undeclined_class alone own same trace) (Declining code))) cs trace
        ≡ entry_by (cond z (undeclined_class alone own same trace) (Declining code)) charge r used cs
    by_code false alone own same None = refl
    by_code false alone own same (Some t) = refl
    by_code true false own same None = refl
    by_code true false own same (Some t) = refl
    by_code true true false same None = refl
    by_code true true false same (Some t) = refl
    by_code true true true false None = refl
    by_code true true true false (Some t) = refl
    by_code true true true true None = refl
    by_code true true true true (Some t) = ap (λ b. cond ((b && list_all (agrees (Good (Some t))) cs) && not (list_any (λ x. nat_eq x t) used)) (Some (booked_as charge.amount t r)) None) (eqb-self t)

earned-trace : (charge : Charge) (used : List ℕ) (r : Option (List ℕ)) (f : StatusFacts) (fs : List StatusFacts) (trace : Option ℕ)
    → elim trace [
      | None ↦ None
      | Some t ↦ cond (list_all (approves charge t) (f ∷ fs) && not (list_any (λ x. nat_eq x t) used)) (Some (booked_as charge.amount t r)) None
    ] ≡ earned_first charge used r (λ t. agrees (Good (Some t)) (class_of (Payment charge) f)) (map (class_of (Payment charge)) fs) trace
earned-trace charge used r f fs None = refl
earned-trace charge used r f fs (Some t) =
    ap (λ b. cond (b && not (list_any (λ x. nat_eq x t) used)) (Some (booked_as charge.amount t r)) None)
    (all_approve charge t (f ∷ fs))

earned-class : (charge : Charge) (used : List ℕ) (f : StatusFacts) (fs : List StatusFacts)
    → earned charge used (f ∷ fs) ≡ entry_by (class_of (Payment charge) f) charge f.receipt used (map (class_of (Payment charge)) fs)
earned-class charge used f fs =
    let cs = map (class_of (Payment charge)) fs in
    earned-trace charge used f.receipt f fs f.trace
    ∙ ap (λ c. earned_first charge used f.receipt (λ t. agrees (Good (Some t)) c) cs f.trace) (class-parts charge f f.result)
    ∙ earned-bits charge used f.receipt cs f.result (is_absent f.original) (is_in_currency charge.currency f.currency) (is_value f.amount charge.amount) f.trace
    ∙ ap (λ c. entry_by c charge f.receipt used cs) (sym (class-parts charge f f.result))

-- the verdict that an outcome of a payment represents
abbrev pub verdict_of : ℕ → Outcome → Verdict
verdict_of amount Registered = Refused
verdict_of amount (Paid t r) = Entered (booked_as amount t r)
verdict_of amount (Declined k) = Refused
verdict_of amount (RefusedOutcome k) = Refused
verdict_of amount (Aborted k) = Refused
verdict_of amount (UnclearOutcome x) = Unclear x
verdict_of amount Reversed = Refused
verdict_of amount DayClosed = Refused

abbrev completed_by : Charge → List ℕ → Class → Option (List ℕ) → List Class → Verdict
completed_by charge used c r cs = elim (entry_by c charge r used cs) [ None ↦ unearned (c ∷ cs) | Some row ↦ Entered row ]

used-traces : (t : ℕ) (book : List Entry) → list_any (λ x. nat_eq x t) (map (λ row. row.trace) book) ≡ trace_used t book
used-traces t [] = refl
used-traces t (row ∷ book) = ap (λ b. nat_eq row.trace t || b) (used-traces t book)

abbrev entry_if : Bool → Charge → ℕ → Option (List ℕ) → Option Booked
entry_if b charge t r = cond b (Some (booked_as charge.amount t r)) None

abbrev entered_or : Option Booked → Verdict → Verdict
entered_or row other = elim row [ None ↦ other | Some row ↦ Entered row ]

abbrev blamed_or : Option Class → Verdict → Verdict
blamed_or x other = elim x [ None ↦ other | Some d ↦ Unclear (objection d) ]

-- all good so far, by whether the trace was used and who dissents
good_table : (charge : Charge) (t : ℕ) (r : Option (List ℕ)) (book : List Entry) (self all : Bool) (used : Bool) (x : Option Class)
    → self ≡ true → all ≡ is_nothing x → used ≡ trace_used t book
    → entered_or (entry_if (all && not used) charge t r) (blamed_or (cond (not self) (Some (Good (Some t))) x) (Unclear TraceUsed)) ≡ verdict_of charge.amount (payment_outcome book (after (AllGood (Some t) r) x))
good_table charge t r book self all used None self_is all_is used_is = rw (self_is, all_is, ← used_is) (by_use used)
  where
    by_use : (used : Bool)
        → entered_or (entry_if (true && not used) charge t r) (blamed_or (cond (not true) (Some (Good (Some t))) None) (Unclear TraceUsed)) ≡ verdict_of charge.amount (cond used (UnclearOutcome TraceUsed) (Paid t r))
    by_use true = refl
    by_use false = refl
good_table charge t r book self all used (Some c) self_is all_is used_is = rw (self_is, all_is) refl

completed-table : (charge : Charge) (book : List Entry) (c : Class) (r : Option (List ℕ)) (cs : List Class)
    → completed_by charge (map (λ row. row.trace) book) c r cs ≡ verdict_of charge.amount (payment_outcome book (whole c r cs))
completed-table charge book (Good (Some t)) r cs =
    good_table charge t r book (t == t) (list_all (agrees (Good (Some t))) cs) (list_any (λ x. nat_eq x t) (map (λ row. row.trace) book)) (disagreeing (Good (Some t)) cs)
    (eqb-self t) (all_or_find (agrees (Good (Some t))) cs) (used-traces t book)
completed-table charge book (Good None) r cs = by_dissent (disagreeing (Good None) cs)
  where
    by_dissent : (x : Option Class)
        → elim x [ None ↦ Unclear NoTrace | Some d ↦ Unclear (objection d) ] ≡ verdict_of charge.amount (payment_outcome book (after (AllGood None r) x))
    by_dissent None = refl
    by_dissent (Some d) = refl
completed-table charge book (Declining k) r cs = by_dissent (disagreeing (Declining k) cs)
  where
    by_dissent : (x : Option Class)
        → elim x [ None ↦ Refused | Some d ↦ Unclear (objection d) ] ≡ verdict_of charge.amount (payment_outcome book (after (AllDeclining k) x))
    by_dissent None = refl
    by_dissent (Some d) = refl
completed-table charge book (Doubtful x) r cs = refl

pub completed-verdict : (charge : Charge) (book : List Entry) (fs : List StatusFacts)
    → completed charge (map (λ row. row.trace) book) fs ≡ verdict_of charge.amount (payment_outcome book (summary (Some (Payment charge)) fs))
completed-verdict charge book [] = refl
completed-verdict charge book (f ∷ fs) =
    let cs = map (class_of (Payment charge)) fs in
    ap (λ x. elim x [ None ↦ unearned (class_of (Payment charge) f ∷ cs) | Some row ↦ Entered row ]) (earned-class charge (map (λ row. row.trace) book) f fs)
    ∙ completed-table charge book (class_of (Payment charge) f) f.receipt cs
    ∙ ap (λ st. verdict_of charge.amount (payment_outcome book st)) (sym (summary-whole (Payment charge) f fs))

broken-table : (amount : ℕ) (outcome : Outcome) → verdict_of amount outcome ≡ Refused → (c : Class) (r : Option (List ℕ)) (cs : List Class)
    → cond (is_declined (c ∷ cs)) Refused (Unclear AbortAfterApproval) ≡ verdict_of amount (broken_outcome (whole c r cs) outcome)
broken-table amount outcome plain (Good t) r cs = by_dissent (disagreeing (Good t) cs)
  where
    by_dissent : (x : Option Class) → Unclear AbortAfterApproval ≡ verdict_of amount (broken_outcome (after (AllGood t r) x) outcome)
    by_dissent None = refl
    by_dissent (Some d) = refl
broken-table amount outcome plain (Declining k) r cs = rw (declining_agrees k cs) (by_dissent (disagreeing (Declining k) cs))
  where
    by_dissent : (x : Option Class) → cond (is_nothing x) Refused (Unclear AbortAfterApproval) ≡ verdict_of amount (broken_outcome (after (AllDeclining k) x) outcome)
    by_dissent None = sym plain
    by_dissent (Some d) = refl
broken-table amount outcome plain (Doubtful x) r cs = refl

pub broken-verdict : (charge : Charge) (outcome : Outcome) → verdict_of charge.amount outcome ≡ Refused → (fs : List StatusFacts)
    → broken_off charge fs ≡ verdict_of charge.amount (broken_outcome (summary (Some (Payment charge)) fs) outcome)
broken-verdict charge outcome plain [] = sym plain
broken-verdict charge outcome plain (f ∷ fs) =
    broken-table charge.amount outcome plain (class_of (Payment charge) f) f.receipt (map (class_of (Payment charge)) fs)
    ∙ ap (λ st. verdict_of charge.amount (broken_outcome st outcome)) (sym (summary-whole (Payment charge) f fs))

-- what the machine makes of a payment's end is the verdict on its whole segment
pub payment-verdict : (charge : Charge) (book : List Entry) (fs : List StatusFacts) (h : Happening)
    → verdict_by charge (map (λ row. row.trace) book) fs h ≡ verdict_of charge.amount (outcome_by book (PayOrder charge.amount) (summary (Some (Payment charge)) fs) h)
payment-verdict charge book fs Connected = refl
payment-verdict charge book fs (SentOut o) = refl
payment-verdict charge book fs (HeardIn Positive) = refl
payment-verdict charge book fs (HeardIn (Negative c)) = broken-verdict charge (RefusedOutcome c) refl fs
payment-verdict charge book fs (HeardIn (Status s)) = refl
payment-verdict charge book fs (HeardIn Passing) = refl
payment-verdict charge book fs (HeardIn Completion) = completed-verdict charge book fs
payment-verdict charge book fs (HeardIn (Abort c)) = broken-verdict charge (Aborted c) refl fs
payment-verdict charge book fs (HeardIn Strange) = refl
payment-verdict charge book fs Malformed = refl
payment-verdict charge book fs Lost = refl
