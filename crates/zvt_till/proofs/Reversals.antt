-- What the machine makes of the end of a reversal is what its whole segment leaves of the entry.
use Rattle.std.proofs.Common.{◌≡◌, ℕ, Bool, true, false, not, cond, ◌&&◌, ◌||◌, ◌==◌, List, [], ◌∷◌, Option, Some, None, map, refl, sym, ap, ap₂, subst, ◌∙◌, ◌⊎◌, inl, inr, eq-eqb, ne_eqb}
use Rattle.std.specs.Prelude.{IsTrue}
use Rattle.std.specs.List.{list_any}
use Rattle.std.proofs.Math.Bool.{or-false}
use Rattle.zvt_till.specs.declared.happenings.Happening.{Happening}
use Rattle.zvt_till.specs.declared.happenings.Happening.TheVariants.{Connected, Sent as SentOut, Heard as HeardIn, Malformed, Lost}
use Rattle.zvt_till.specs.declared.happenings.Sent.{Sent}
use Rattle.zvt_till.specs.declared.happenings.Sent.TheVariants.{Register, Pay, Reverse, CloseDay, Cancel, Foreign}
use Rattle.zvt_till.specs.declared.messages.Heard.TheVariants.{Positive, Negative, Status, Passing, Completion, Abort, Strange}
use Rattle.zvt_till.specs.declared.messages.StatusFacts.{StatusFacts}
use Rattle.zvt_till.specs.declared.orders.Order.TheVariants.{Reverse as ReverseOrder}
use Rattle.zvt_till.specs.declared.statuses.Statuses.{Statuses}
use Rattle.zvt_till.specs.declared.statuses.Statuses.TheVariants.{Nothing, Good as AllGood, Declining as AllDeclining, Fault}
use Rattle.zvt_till.specs.declared.entries.Doubt.{Doubt}
use Rattle.zvt_till.specs.declared.entries.Doubt.TheVariants.{No, Unclear as UnclearReversal, TakenBack}
use Rattle.zvt_till.specs.declared.entries.Entry.{Entry}
use Rattle.zvt_till.specs.declared.outcomes.Cause.{Cause}
use Rattle.zvt_till.specs.declared.outcomes.Cause.TheVariants.{NoStatus, AbortAfterApproval, Line, Malformed as MalformedCause, Unfinished}
use Rattle.zvt_till.specs.declared.outcomes.Outcome.{Outcome}
use Rattle.zvt_till.specs.declared.outcomes.Outcome.TheVariants.{Refused, Aborted}
use Rattle.zvt_till.specs.Statuses.{Demand, Class, Good, Declining, Doubtful, same_trace, class_of, objection, is_declined, is_good}
use Rattle.zvt_till.specs.Segments.{Opening, Ended, ends, is_positive, is_completion, end_of, statuses, completes}
use Rattle.zvt_till.specs.Books.{Booked, is_finished}
use Rattle.zvt_till.specs.Doubts.{already_reversed, reversing, doubt_completed, doubt_broken, doubt_by, doubt_at, doubt_as, doubt_end, doubt_after}
use Rattle.zvt_till.specs.Laws.{NoReversalDropped, DoubtsStay}
use Rattle.zvt_till.specs.Marks.{takes_back, reverses_as, reverses}
use Rattle.zvt_till.specs.Till.{told_by, entry_after}
use Rattle.zvt_till.specs.Outcomes.{reversal_outcome, broken_outcome, outcome_by}
use Rattle.zvt_till.proofs.Summaries.{summary, summary-whole, after, disagreeing, whole, is_nothing, declining_agrees, is_all_good, good-summary}
use Rattle.zvt_till.proofs.Approvals.{ends-after}
use Rattle.zvt_till.proofs.Marks.{after_end, doubt_none}
use Rattle.zvt_till.proofs.Settled.{SoundSummary, sound-summary}

-- by the summary of the statuses

abbrev completed_by : Doubt → Statuses → Doubt
completed_by before Nothing = UnclearReversal NoStatus
completed_by before (AllGood t r) = No
completed_by before (AllDeclining c) = before
completed_by before (Fault x) = UnclearReversal x

abbrev broken_by : Doubt → Statuses → ℕ → Doubt
broken_by before Nothing code = told_by code before
broken_by before (AllGood t r) code = UnclearReversal AbortAfterApproval
broken_by before (AllDeclining c) code = told_by code before
broken_by before (Fault x) code = UnclearReversal AbortAfterApproval

same-self : (t : Option ℕ) → same_trace t t ≡ true
same-self None = refl
same-self (Some t) = eq-eqb t t refl

completed-table : (before : Doubt) (c : Class) (r : Option (List ℕ)) (cs : List Class) → doubt_completed before (c ∷ cs) ≡ completed_by before (whole c r cs)
completed-table before (Good t) r cs =
    ap (λ b. elim (cond (not b) (Some (Good t)) (disagreeing (Good t) cs)) [ None ↦ No | Some d ↦ UnclearReversal (objection d) ]) (same-self t) ∙ by_dissent (disagreeing (Good t) cs)
  where
    by_dissent : (x : Option Class) → elim x [ None ↦ No | Some d ↦ UnclearReversal (objection d) ] ≡ completed_by before (after (AllGood t r) x)
    by_dissent None = refl
    by_dissent (Some d) = refl
completed-table before (Declining k) r cs = by_dissent (disagreeing (Declining k) cs)
  where
    by_dissent : (x : Option Class) → elim x [ None ↦ before | Some d ↦ UnclearReversal (objection d) ] ≡ completed_by before (after (AllDeclining k) x)
    by_dissent None = refl
    by_dissent (Some d) = refl
completed-table before (Doubtful x) r cs = refl

completed-doubt : (before : Doubt) (d : Demand) (fs : List StatusFacts) → doubt_completed before (map (class_of d) fs) ≡ completed_by before (summary (Some d) fs)
completed-doubt before d [] = refl
completed-doubt before d (f ∷ fs) =
    completed-table before (class_of d f) f.receipt (map (class_of d) fs) ∙ ap (completed_by before) (sym (summary-whole d f fs))

broken-table : (before : Doubt) (code : ℕ) (c : Class) (r : Option (List ℕ)) (cs : List Class) → doubt_broken before (c ∷ cs) code ≡ broken_by before (whole c r cs) code
broken-table before code (Good t) r cs = by_dissent (disagreeing (Good t) cs)
  where
    by_dissent : (x : Option Class) → UnclearReversal AbortAfterApproval ≡ broken_by before (after (AllGood t r) x) code
    by_dissent None = refl
    by_dissent (Some d) = refl
broken-table before code (Declining k) r cs = rw (declining_agrees k cs) (by_dissent (disagreeing (Declining k) cs))
  where
    by_dissent : (x : Option Class) → cond (is_nothing x) (told_by code before) (UnclearReversal AbortAfterApproval) ≡ broken_by before (after (AllDeclining k) x) code
    by_dissent None = refl
    by_dissent (Some d) = refl
broken-table before code (Doubtful x) r cs = refl

broken-doubt : (before : Doubt) (code : ℕ) (d : Demand) (fs : List StatusFacts) → doubt_broken before (map (class_of d) fs) code ≡ broken_by before (summary (Some d) fs) code
broken-doubt before code d [] = refl
broken-doubt before code d (f ∷ fs) =
    broken-table before code (class_of d f) f.receipt (map (class_of d) fs) ∙ ap (λ st. broken_by before st code) (sym (summary-whole d f fs))

-- the entry

abbrev with : Entry → Bool → Doubt → Entry
with x reversed doubt = record x { reversed = reversed; doubt = doubt }

or-true : (b : Bool) → true ≡ (b || true)
or-true true = refl
or-true false = refl

unmarked : (x : Entry) (d : Doubt) → with x x.reversed d ≡ with x (x.reversed || false) d
unmarked x d = ap (λ b. with x b d) (sym (or-false x.reversed))

completed-entry : (x : Entry) (st : Statuses) → entry_after x (reversal_outcome st) ≡ with x (x.reversed || is_all_good st) (completed_by x.doubt st)
completed-entry x Nothing = unmarked x (UnclearReversal NoStatus)
completed-entry x (AllGood t r) = ap (λ b. with x b No) (or-true x.reversed)
completed-entry x (AllDeclining c) = unmarked x x.doubt
completed-entry x (Fault cause) = unmarked x (UnclearReversal cause)

broken-entry : (x : Entry) (st : Statuses) (code : ℕ) (o : Outcome) → entry_after x o ≡ with x x.reversed (told_by code x.doubt)
    → entry_after x (broken_outcome st o) ≡ with x (x.reversed || false) (broken_by x.doubt st code)
broken-entry x Nothing code o plain = plain ∙ unmarked x (told_by code x.doubt)
broken-entry x (AllGood t r) code o plain = unmarked x (UnclearReversal AbortAfterApproval)
broken-entry x (AllDeclining c) code o plain = plain ∙ unmarked x (told_by code x.doubt)
broken-entry x (Fault cause) code o plain = unmarked x (UnclearReversal AbortAfterApproval)

-- what the end of a reversal makes of its entry
pub reversal-after : (book : List Entry) (e : ℕ) (opening : Opening) (row : Booked) (hs : List Happening) (h : Happening) (x : Entry)
    → entry_after x (outcome_by book (ReverseOrder e) (summary (Some (reversing opening row)) (statuses hs)) h) ≡ after_end opening row (Some (record { before = hs; by = h })) x
reversal-after book e opening row hs Connected x = unmarked x (UnclearReversal Unfinished)
reversal-after book e opening row hs (SentOut o) x = unmarked x (UnclearReversal Unfinished)
reversal-after book e opening row hs (HeardIn Positive) x = unmarked x (UnclearReversal Unfinished)
reversal-after book e opening row hs (HeardIn (Negative c)) x =
    let d = reversing opening row in
    broken-entry x (summary (Some d) (statuses hs)) c (Refused c) refl ∙ ap (λ y. with x (x.reversed || false) y) (sym (broken-doubt x.doubt c d (statuses hs)))
reversal-after book e opening row hs (HeardIn (Status s)) x = unmarked x (UnclearReversal Unfinished)
reversal-after book e opening row hs (HeardIn Passing) x = unmarked x (UnclearReversal Unfinished)
reversal-after book e opening row hs (HeardIn Completion) x =
    let d = reversing opening row in
    completed-entry x (summary (Some d) (statuses hs))
    ∙ ap₂ (λ b y. with x (x.reversed || b) y) (sym (good-summary d (statuses hs))) (sym (completed-doubt x.doubt d (statuses hs)))
reversal-after book e opening row hs (HeardIn (Abort c)) x =
    let d = reversing opening row in
    broken-entry x (summary (Some d) (statuses hs)) c (Aborted c) refl ∙ ap (λ y. with x (x.reversed || false) y) (sym (broken-doubt x.doubt c d (statuses hs)))
reversal-after book e opening row hs (HeardIn Strange) x = unmarked x (UnclearReversal Unfinished)
reversal-after book e opening row hs Malformed x = unmarked x (UnclearReversal MalformedCause)
reversal-after book e opening row hs Lost x = unmarked x (UnclearReversal Line)

-- no reversal is forgotten

abbrev is_quiet : Statuses → Bool
is_quiet Nothing = true
is_quiet (AllGood t r) = false
is_quiet (AllDeclining k) = true
is_quiet (Fault x) = false

declined-table : (c : Class) (r : Option (List ℕ)) (cs : List Class) → is_declined (c ∷ cs) ≡ is_quiet (whole c r cs)
declined-table (Good t) r cs = by_dissent (disagreeing (Good t) cs)
  where
    by_dissent : (x : Option Class) → false ≡ is_quiet (after (AllGood t r) x)
    by_dissent None = refl
    by_dissent (Some d) = refl
declined-table (Declining k) r cs = declining_agrees k cs ∙ by_dissent (disagreeing (Declining k) cs)
  where
    by_dissent : (x : Option Class) → is_nothing x ≡ is_quiet (after (AllDeclining k) x)
    by_dissent None = refl
    by_dissent (Some d) = refl
declined-table (Doubtful x) r cs = refl

declined-summary : (d : Demand) (fs : List StatusFacts) → is_declined (map (class_of d) fs) ≡ is_quiet (summary (Some d) fs)
declined-summary d [] = refl
declined-summary d (f ∷ fs) = declined-table (class_of d f) f.receipt (map (class_of d) fs) ∙ ap is_quiet (sym (summary-whole d f fs))

abbrev Settles : Doubt → Bool → Bool → Doubt → Type 0
Settles before marked quiet doubt =
    ((marked ≡ true) × (doubt ≡ No))
    ⊎ ((IsTrue quiet × ((doubt ≡ before) ⊎ (doubt ≡ TakenBack)))
    ⊎ ((cause : Cause) × IsTrue (is_finished cause) × (doubt ≡ UnclearReversal cause)))

completed-settles : (before : Doubt) (st : Statuses) → SoundSummary st → Settles before (is_all_good st) (is_quiet st) (completed_by before st)
completed-settles before Nothing s = inr (inr (NoStatus, refl, refl))
completed-settles before (AllGood t r) s = inl (refl, refl)
completed-settles before (AllDeclining c) s = inr (inl (refl, inl refl))
completed-settles before (Fault x) s = inr (inr (x, s, refl))

told-settles : (before : Doubt) (code : ℕ) → (told_by code before ≡ before) ⊎ (told_by code before ≡ TakenBack)
told-settles before code = by_code (code == already_reversed)
  where
    by_code : (b : Bool) → (cond b TakenBack before ≡ before) ⊎ (cond b TakenBack before ≡ TakenBack)
    by_code true = inr refl
    by_code false = inl refl

broken-settles : (before : Doubt) (st : Statuses) (code : ℕ) → Settles before false (is_quiet st) (broken_by before st code)
broken-settles before Nothing code = inr (inl (refl, told-settles before code))
broken-settles before (AllGood t r) code = inr (inr (AbortAfterApproval, refl, refl))
broken-settles before (AllDeclining c) code = inr (inl (refl, told-settles before code))
broken-settles before (Fault x) code = inr (inr (AbortAfterApproval, refl, refl))

broken-here : (before : Doubt) (d : Demand) (fs : List StatusFacts) (code : ℕ) → Settles before false (is_declined (map (class_of d) fs)) (doubt_broken before (map (class_of d) fs) code)
broken-here before d fs code =
    let cs = map (class_of d) fs in
    let st = summary (Some d) fs in
    subst (λ b. Settles before false b (doubt_broken before cs code)) (sym (declined-summary d fs))
    (subst (λ x. Settles before false (is_quiet st) x) (sym (broken-doubt before code d fs)) (broken-settles before st code))

settles-by : (before : Doubt) (d : Demand) (fs : List StatusFacts) (h : Happening) (p : Bool) → ends p h ≡ true
    → Settles before (is_completion h && is_good (map (class_of d) fs)) (is_declined (map (class_of d) fs)) (doubt_by before (map (class_of d) fs) h)
settles-by before d fs Connected p e = absurd cc
settles-by before d fs (SentOut o) p e = absurd cc
settles-by before d fs (HeardIn Positive) p e = absurd cc
settles-by before d fs (HeardIn (Negative c)) p e =
    broken-here before d fs c
settles-by before d fs (HeardIn (Status s)) p e = absurd cc
settles-by before d fs (HeardIn Passing) p e = absurd cc
settles-by before d fs (HeardIn Completion) p e =
    let cs = map (class_of d) fs in
    let st = summary (Some d) fs in
    subst (λ b. Settles before b (is_declined cs) (doubt_completed before cs)) (sym (good-summary d fs))
    (subst (λ b. Settles before (is_all_good st) b (doubt_completed before cs)) (sym (declined-summary d fs))
    (subst (λ x. Settles before (is_all_good st) (is_quiet st) x) (sym (completed-doubt before d fs)) (completed-settles before st (sound-summary (Some d) fs))))
settles-by before d fs (HeardIn (Abort c)) p e =
    broken-here before d fs c
settles-by before d fs (HeardIn Strange) p e = absurd cc
settles-by before d fs Malformed p e = inr (inr (MalformedCause, refl, refl))
settles-by before d fs Lost p e = inr (inr (Line, refl, refl))

pub no_reversal_dropped : NoReversalDropped
no_reversal_dropped place row before s e sent ended =
    let d = reversing s.opening row in
    let cs = map (class_of d) (statuses e.before) in
    let self : (place == place) ≡ true = eq-eqb place place refl in
    let marks : reverses place row s ≡ (is_completion e.by && is_good cs) =
    ap (λ o. reverses_as o place row s.opening (end_of s.answers)) sent ∙ ap (λ x. (place == place) && completes (takes_back s.opening row) x) ended
    ∙ ap (λ b. b && (is_completion e.by && is_good cs)) self in
    let leaves : doubt_after place row before s ≡ doubt_by before cs e.by =
    ap (λ o. doubt_as o place row before s.opening (end_of s.answers)) sent ∙ ap (λ x. cond (place == place) (doubt_at d before x) before) ended
    ∙ ap (λ b. cond b (doubt_by before cs e.by) before) self in
    subst (λ b. Settles before b (is_declined cs) (doubt_after place row before s)) (sym marks)
    (subst (λ x. Settles before (is_completion e.by && is_good cs) (is_declined cs) x) (sym leaves)
    (settles-by before d (statuses e.before) e.by (list_any is_positive e.before) (ends-after [] s.answers e ended)))

other-order : (place : ℕ) (row : Booked) (before : Doubt) (opening : Opening) (o : Sent) (end : Option Ended) → (o ≡ Reverse place → ⊥) → doubt_as o place row before opening end ≡ before
other-order place row before opening (Register c) end n = refl
other-order place row before opening (Pay a) end n = refl
other-order place row before opening (Reverse e) end n = ap (λ b. cond b (doubt_at (reversing opening row) before end) before) (ne_eqb e place (λ q. absurd (n (ap Reverse q))))
other-order place row before opening CloseDay end n = refl
other-order place row before opening Cancel end n = refl
other-order place row before opening Foreign end n = refl

pub doubts_stay : DoubtsStay
doubts_stay place row before s (inl other) = other-order place row before s.opening s.opening.order (end_of s.answers) other
doubts_stay place row before s (inr runs) = ap (doubt_end place row before s.opening) runs ∙ doubt_none place row before s.opening s.opening.order
