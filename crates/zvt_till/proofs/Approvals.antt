-- No approval that was heard within a payment is dropped.
use Rattle.std.proofs.Common.{◌≡◌, ℕ, Bool, true, false, cond, ◌&&◌, ◌||◌, inl, inr, List, [], ◌∷◌, ◌++◌, Option, Some, None, map, refl, sym, ap, subst, ◌∙◌}
use Rattle.std.specs.List.{list_any, list_all}
use Rattle.zvt_till.specs.declared.happenings.Happening.{Happening}
use Rattle.zvt_till.specs.declared.happenings.Happening.TheVariants.{Connected, Sent as SentOut, Heard as HeardIn, Malformed, Lost}
use Rattle.zvt_till.specs.declared.orders.Order.TheVariants.{Pay as PayOrder}
use Rattle.zvt_till.specs.declared.messages.Heard.TheVariants.{Positive, Negative, Status, Passing, Completion, Abort, Strange}
use Rattle.zvt_till.specs.declared.messages.StatusFacts.{StatusFacts}
use Rattle.zvt_till.specs.declared.entries.Entry.{Entry}
use Rattle.zvt_till.specs.declared.outcomes.Cause.TheVariants.{AbortAfterApproval}
use Rattle.zvt_till.specs.declared.outcomes.Outcome.{Outcome}
use Rattle.zvt_till.specs.declared.outcomes.Outcome.TheVariants.{Registered, Paid, Declined, Refused as RefusedOutcome, Aborted, Unclear as UnclearOutcome, Reversed, DayClosed}
use Rattle.zvt_till.specs.Statuses.{approves, Charge, Demand, Payment, Class, Good, Declining, Doubtful, class_of, agrees, is_declining, is_declined, dissenter, objection}
use Rattle.zvt_till.specs.Books.{Books, Booked, booked_as, unbooked, charge_of, judge_as, Verdict, Entered, Unclear, Refused, earned, unearned, completed, broken_off, verdict_by, verdict_at, write_down, traces}
use Rattle.zvt_till.specs.Segments.{Ended, ends, is_positive, end_after, end_of, statuses}
use Rattle.zvt_till.specs.declared.entries.Doubt.TheVariants.{No}
use Rattle.zvt_till.specs.Marks.{entry_of}
use Rattle.zvt_till.specs.Outcomes.{outcome_by}
use Rattle.zvt_till.specs.Laws.{AddsPayment, NoApprovalDropped}
use Rattle.zvt_till.proofs.Summaries.{summary, declining_agrees, is_nothing, disagreeing}
use Rattle.zvt_till.proofs.Payment.{approves-class, verdict_of, payment-verdict}
use Rattle.zvt_till.proofs.Settled.{IsSettled, settled-outcome, sound-summary}

-- an approval is no decline
approved_class : (approved : Bool) (t : ℕ) (c : Class) (others declining : Bool) → approved ≡ agrees (Good (Some t)) c
    → (approved || others) ≡ true → (others ≡ true → declining ≡ false) → (is_declining c && declining) ≡ false
approved_class approved t (Good u) others declining e any rest = refl
approved_class approved t (Declining k) others declining e any rest = rest (ap (λ b. b || others) (sym e) ∙ any)
approved_class approved t (Doubtful x) others declining e any rest = refl

not-declined : (charge : Charge) (t : ℕ) (fs : List StatusFacts) → list_any (approves charge t) fs ≡ true → list_all is_declining (map (class_of (Payment charge)) fs) ≡ false
not-declined charge t [] e = absurd cc
not-declined charge t (f ∷ fs) e =
    approved_class (approves charge t f) t (class_of (Payment charge) f) (list_any (approves charge t) fs) (list_all is_declining (map (class_of (Payment charge)) fs))
    (approves-class charge t f) e (not-declined charge t fs)

unearned-refused : (cs : List Class) → unearned cs ≡ Refused → list_all is_declining cs ≡ true
unearned-refused [] e = absurd cc
unearned-refused (Good t ∷ cs) e = absurd (by_dissent (dissenter (Good t ∷ cs)) e)
  where
    by_dissent : (x : Option Class) → elim x [ None ↦ Unclear (unbooked t) | Some d ↦ Unclear (objection d) ] ≡ Refused → ⊥
    by_dissent None q = cc
    by_dissent (Some d) q = cc
unearned-refused (Declining k ∷ cs) e = declining_agrees k cs ∙ by_dissent (disagreeing (Declining k) cs) e
  where
    by_dissent : (x : Option Class) → elim x [ None ↦ Refused | Some d ↦ Unclear (objection d) ] ≡ Refused → is_nothing x ≡ true
    by_dissent None q = refl
    by_dissent (Some d) q = absurd cc
unearned-refused (Doubtful x ∷ cs) e = absurd cc

completed-refused : (charge : Charge) (used : List ℕ) (fs : List StatusFacts) → completed charge used fs ≡ Refused → list_all is_declining (map (class_of (Payment charge)) fs) ≡ true
completed-refused charge used fs e = by_entry (earned charge used fs) e
  where
    by_entry : (x : Option Booked) → elim x [ None ↦ unearned (map (class_of (Payment charge)) fs) | Some row ↦ Entered row ] ≡ Refused → list_all is_declining (map (class_of (Payment charge)) fs) ≡ true
    by_entry None q = unearned-refused (map (class_of (Payment charge)) fs) q
    by_entry (Some row) q = absurd cc

broken-refused : (charge : Charge) (fs : List StatusFacts) → broken_off charge fs ≡ Refused → list_all is_declining (map (class_of (Payment charge)) fs) ≡ true
broken-refused charge fs e = by_test (is_declined (map (class_of (Payment charge)) fs)) e
  where
    by_test : (b : Bool) → cond b Refused (Unclear AbortAfterApproval) ≡ Refused → b ≡ true
    by_test true q = refl
    by_test false q = absurd cc

verdict-refused : (charge : Charge) (used : List ℕ) (fs : List StatusFacts) (h : Happening) → verdict_by charge used fs h ≡ Refused → list_all is_declining (map (class_of (Payment charge)) fs) ≡ true
verdict-refused charge used fs Connected e = absurd cc
verdict-refused charge used fs (SentOut o) e = absurd cc
verdict-refused charge used fs (HeardIn Positive) e = absurd cc
verdict-refused charge used fs (HeardIn (Negative c)) e = broken-refused charge fs e
verdict-refused charge used fs (HeardIn (Status s)) e = absurd cc
verdict-refused charge used fs (HeardIn Passing) e = absurd cc
verdict-refused charge used fs (HeardIn Completion) e = completed-refused charge used fs e
verdict-refused charge used fs (HeardIn (Abort c)) e = broken-refused charge fs e
verdict-refused charge used fs (HeardIn Strange) e = absurd cc
verdict-refused charge used fs Malformed e = absurd cc
verdict-refused charge used fs Lost e = absurd cc

-- an end ends
ends-at : (b : Bool) (before hs : List Happening) (h : Happening) (e : Ended) → ends (list_any is_positive before) h ≡ b
    → (end_after (before ++ h ∷ []) hs ≡ Some e → ends (list_any is_positive e.before) e.by ≡ true)
    → cond b (Some (record { before = before; by = h })) (end_after (before ++ h ∷ []) hs) ≡ Some e → ends (list_any is_positive e.before) e.by ≡ true
ends-at true before hs h e q later s =
    let same : record { before = before; by = h } ≡ e = cc in
    subst (λ (x : Ended). ends (list_any is_positive x.before) x.by ≡ true) same q
ends-at false before hs h e q later s = later s

pub ends-after : (before hs : List Happening) (e : Ended) → end_after before hs ≡ Some e → ends (list_any is_positive e.before) e.by ≡ true
ends-after before [] e s = absurd cc
ends-after before (h ∷ hs) e s = ends-at (ends (list_any is_positive before) h) before hs h e refl (ends-after (before ++ h ∷ []) hs e) s

same_traces : (rows : List Booked) → map (λ row. row.trace) (map (entry_of false No) rows) ≡ traces rows
same_traces [] = refl
same_traces (row ∷ rows) = ap (λ ts. row.trace ∷ ts) (same_traces rows)

adds-by : (b : Books) (amount : ℕ) (v : Verdict) (out : Outcome) → v ≡ verdict_of amount out → IsSettled out → (v ≡ Refused → ⊥) → AddsPayment amount b (write_down b amount v)
adds-by b amount v Registered e s n = absurd (n e)
adds-by b amount v (Paid t r) e s n = inl (booked_as amount t r, refl, ap (write_down b amount) e)
adds-by b amount v (Declined k) e s n = absurd (n e)
adds-by b amount v (RefusedOutcome k) e s n = absurd (n e)
adds-by b amount v (Aborted k) e s n = absurd (n e)
adds-by b amount v (UnclearOutcome x) e s n = inr (x, s, ap (write_down b amount) e)
adds-by b amount v Reversed e s n = absurd (n e)
adds-by b amount v DayClosed e s n = absurd (n e)

pub no_approval_dropped : NoApprovalDropped
no_approval_dropped b s amount trace e paid ended approved =
    let charge : Charge = charge_of s.opening amount in
    let book : List Entry = map (entry_of false No) b.booked in
    let fs : List StatusFacts = statuses e.before in
    let d : Option Demand = Some (Payment charge) in
    let out : Outcome = outcome_by book (PayOrder amount) (summary d fs) e.by in
    let v : verdict_by charge (traces b.booked) fs e.by ≡ verdict_of amount out =
    ap (λ ts. verdict_by charge ts fs e.by) (sym (same_traces b.booked)) ∙ payment-verdict charge book fs e.by in
    let settled = settled-outcome book (PayOrder amount) (summary d fs) (list_any is_positive e.before) e.by (ends-after [] s.answers e ended) (sound-summary d fs) in
    let kept : verdict_by charge (traces b.booked) fs e.by ≡ Refused → ⊥ =
    λ q. let yes_declined = verdict-refused charge (traces b.booked) fs e.by q in let no_declined = not-declined charge trace fs approved in cc in
    subst (λ x. AddsPayment amount b (judge_as x b s.opening (end_of s.answers))) (sym paid)
    (subst (λ x. AddsPayment amount b (write_down b amount (verdict_at charge (traces b.booked) x))) (sym ended)
    (adds-by b amount (verdict_by charge (traces b.booked) fs e.by) out v settled kept))
