-- A till that settles, tied to the chapters of its log: at rest, while an order runs, and while an ask does.
use Rattle.std.proofs.Common.{◌≡◌, ℕ, Bool, true, false, cond, ◌||◌, List, [], ◌∷◌, ◌++◌, length, Option, Some, None, map, fold, slice_get, option_map, option_to_list, refl, sym, ap, ap₂, subst, ◌∙◌}
use Rattle.std.specs.List.{list_any}
use Rattle.std.proofs.lemmas.Option.{slice_get-map}
use Rattle.zvt_till.specs.declared.entries.Doubt.TheVariants.{No}
use Rattle.zvt_till.specs.declared.entries.Entry.{Entry}
use Rattle.zvt_till.specs.declared.happenings.Happening.{Happening}
use Rattle.zvt_till.specs.declared.happenings.Sent.TheVariants.{Pay, Reverse}
use Rattle.zvt_till.specs.declared.messages.StatusFacts.{StatusFacts}
use Rattle.zvt_till.specs.declared.orders.Order.{Order}
use Rattle.zvt_till.specs.declared.orders.Order.TheVariants.{Register as RegisterOrder, Pay as PayOrder, Reverse as ReverseOrder, CloseDay as CloseDayOrder, Cancel as CancelOrder}
use Rattle.zvt_till.specs.declared.outcomes.Cause.{Cause}
use Rattle.zvt_till.specs.declared.outcomes.Outcome.{Outcome}
use Rattle.zvt_till.specs.declared.statuses.Running.{Running}
use Rattle.zvt_till.specs.Books.{traces, verdict_by, settled}
use Rattle.zvt_till.specs.ByReceipt.{sole_receipt}
use Rattle.zvt_till.specs.Doubts.{reversing}
use Rattle.zvt_till.specs.Judging.{as_book}
use Rattle.zvt_till.specs.Laws.{row_of, trace_of}
use Rattle.zvt_till.specs.Marks.{entry_of}
use Rattle.zvt_till.specs.Outcomes.{charged, demand_of, note_if, outcome_by, listened}
use Rattle.zvt_till.specs.Refusals.{sent_as}
use Rattle.zvt_till.specs.Segments.{Opening, Ended, ends, is_positive, is_completion, end_of, status_of, statuses}
use Rattle.zvt_till.specs.Sending.{Settings}
use Rattle.zvt_till.specs.declared.statuses.Demand.{Demand}
use Rattle.zvt_till.specs.declared.statuses.Demand.TheVariants.{Payment, Reversal}
use Rattle.zvt_till.specs.Till.{TillState, entry_after, book_after, unclear_after, finish, meet}
use Rattle.zvt_till.proofs.LogStateLemmas.{state}
use Rattle.zvt_till.proofs.Payment.{payment-verdict}
use Rattle.zvt_till.proofs.Reversals.{reversal-after}
use Rattle.zvt_till.proofs.SegmentEndLemmas.{end-kept, end-missing, end-reached}
use Rattle.zvt_till.proofs.Segments.{list_any-snoc}
use Rattle.zvt_till.proofs.Settled.{settled-outcome, sound-summary}
use Rattle.zvt_till.proofs.Summaries.{summary, summary-snoc}
use Rattle.zvt_settle.specs.declared.deciding.Pending.{Pending}
use Rattle.zvt_settle.specs.declared.deciding.Settlement.{Settlement}
use Rattle.zvt_settle.specs.declared.deciding.What.{What}
use Rattle.zvt_settle.specs.declared.deciding.What.TheVariants.{Payment as PaymentWhat, Reversal as ReversalWhat}
use Rattle.zvt_settle.specs.declared.deciding.StatusSoFar.{StatusSoFar}
use Rattle.zvt_settle.specs.declared.deciding.StatusSoFar.TheVariants.{Nothing}
use Rattle.zvt_settle.specs.Deciding.{status_after, one_status, did_not, taken_back, happened, decision, same}
use Rattle.zvt_settle.specs.Settling.{Settling, ended, ended_as, noted, so_far_in, answer_by, answered, decided, used_traces, paid_traces, meets}
use Rattle.zvt_settle.specs.Story.{Chapter, Ordered, AskedThen, completed_with, settled_by}
use Rattle.zvt_settle.proofs.Chapters.{Sum, add_if, add_answer, hears, an_order}
use Rattle.zvt_settle.proofs.ChapterEnds.{proper, order_end, add-ended, noted-snoc, answer-said, one-of-all}
use Rattle.zvt_settle.proofs.OrderEnds.{Agree, Before, with_status, ended-asking, pay-ends, reversal-ends, register-ends, closing-ends}

-- what the order that runs needs: the till's currency in force, and an entry to reverse
abbrev pub Fit : (own : ℕ) → Option ℕ → List Entry → Order → Type 0
Fit own force book RegisterOrder = Unit {0}
Fit own force book (PayOrder a) = force ≡ Some own
Fit own force book (ReverseOrder e) = (force ≡ Some own) × (x : Entry) × (slice_get book e ≡ Some x)
Fit own force book CloseDayOrder = Unit {0}
Fit own force book CancelOrder = ⊥

-- the order that runs is the last chapter, without an end so far
pub record TieRun (settings : Settings) (sum : Sum) (chapter : Option Chapter) (book : List Entry) (loose : List (ℕ × Cause)) (s : Settling) (r : Running) : Type 0 where
  pub force : Option ℕ
  pub answers : List Happening
  pub fit : Fit settings.currency force book r.order
  pub is : chapter ≡ Some (an_order force (sent_as settings.currency r.order) answers)
  pub unended : end_of answers ≡ None
  pub positive : r.positive ≡ list_any is_positive answers
  pub noted : r.statuses ≡ summary (demand_of settings.rules (Some settings.currency) book loose r.order) (statuses answers)
  pub before : Before (sent_as settings.currency r.order) sum book loose s answers

-- the ask that runs is the last chapter, without an end so far
pub record TieAsk (sum : Sum) (chapter : Option Chapter) (book : List Entry) (loose : List (ℕ × Cause)) (s : Settling) (accepted : Bool) : Type 0 where
  pub answers : List Happening
  pub is : chapter ≡ Some (AskedThen answers)
  pub unended : end_of answers ≡ None
  pub positive : accepted ≡ list_any is_positive answers
  pub so_far : s.so_far ≡ fold status_after Nothing (statuses answers)
  pub agree : Agree sum book loose s

abbrev pub answers_in : Chapter → List Happening
answers_in (Ordered c) = c.answers
answers_in (AskedThen answers) = answers

-- the last chapter, if there is one, has ended
abbrev pub IsOver : Option Chapter → Type 0
IsOver None = Unit {0}
IsOver (Some c) = (e : Ended) × (end_of (answers_in c) ≡ Some e)

pub record TieRest (currency : ℕ) (sum : Sum) (chapter : Option Chapter) (book : List Entry) (loose : List (ℕ × Cause)) (s : Settling) : Type 0 where
  pub over : IsOver chapter
  pub agree : Agree (add_if currency sum chapter) book loose s

abbrev pub Tie : Settings → Sum → Option Chapter → List Entry → List (ℕ × Cause) → Settling → Option Running → Option Bool → Type 0
Tie settings sum chapter book loose s None None = TieRest settings.currency sum chapter book loose s
Tie settings sum chapter book loose s None (Some accepted) = TieAsk sum chapter book loose s accepted
Tie settings sum chapter book loose s (Some r) None = TieRun settings sum chapter book loose s r
Tie settings sum chapter book loose s (Some r) (Some accepted) = ⊥

abbrev pub TieAt : Sum → Option Chapter → TillState → Settling → Type 0
TieAt sum chapter t s = Tie t.settings sum chapter t.book t.unclear s t.running s.asking

-- ---- at rest

agree-as : (sum : Sum) (book : List Entry) (loose : List (ℕ × Cause)) (s t : Settling) → t.last ≡ s.last → t.pending ≡ s.pending → t.settled ≡ s.settled → Agree sum book loose s → Agree sum book loose t
agree-as sum book loose s t last pending settled a =
    record { rows = a.rows; unclear = a.unclear; last = last ∙ a.last; pending = pending ∙ a.pending; settled = settled ∙ a.settled }

abbrev ask_end : (currency : ℕ) → Sum → Option Ended → Sum
ask_end currency s end = add_answer currency s (elim end [ None ↦ true | Some e ↦ false ]) (completed_with end)

ask-ended : (currency : ℕ) (s : Sum) (hs : List Happening) (end : Option Ended) → end_of hs ≡ end → add_if currency s (Some (AskedThen hs)) ≡ ask_end currency s end
ask-ended currency s hs end e = ap (ask_end currency s) e

over-hears : (chapter : Option Chapter) (h : Happening) → IsOver chapter → IsOver (hears chapter (h ∷ []))
over-hears None h over = tt
over-hears (Some (Ordered c)) h over = (over.0, end-kept c.answers h over.0 over.1)
over-hears (Some (AskedThen answers)) h over = (over.0, end-kept answers h over.0 over.1)

over-adds : (currency : ℕ) (s : Sum) (chapter : Option Chapter) (h : Happening) → IsOver chapter → add_if currency s (hears chapter (h ∷ [])) ≡ add_if currency s chapter
over-adds currency s None h over = refl
over-adds currency s (Some (Ordered c)) h over =
    add-ended s c.opening (c.answers ++ h ∷ []) (Some over.0) (end-kept c.answers h over.0 over.1) ∙ sym (add-ended s c.opening c.answers (Some over.0) over.1)
over-adds currency s (Some (AskedThen answers)) h over =
    ask-ended currency s (answers ++ h ∷ []) (Some over.0) (end-kept answers h over.0 over.1) ∙ sym (ask-ended currency s answers (Some over.0) over.1)

rest-hears : (currency : ℕ) (sum : Sum) (chapter : Option Chapter) (book : List Entry) (loose : List (ℕ × Cause)) (s : Settling) (h : Happening)
    → TieRest currency sum chapter book loose s → TieRest currency sum (hears chapter (h ∷ [])) book loose (with_status s h)
rest-hears currency sum chapter book loose s h t =
    record {
      over = over-hears chapter h t.over;
      agree =
          subst (λ x. Agree x book loose (with_status s h)) (sym (over-adds currency sum chapter h t.over))
          (agree-as (add_if currency sum chapter) book loose s (with_status s h) refl refl refl t.agree);
    }

-- ---- while an ask runs

ask-hears : (sum : Sum) (chapter : Option Chapter) (book : List Entry) (loose : List (ℕ × Cause)) (s : Settling) (accepted : Bool) (h : Happening)
    → TieAsk sum chapter book loose s accepted → ends accepted h ≡ false
    → TieAsk sum (hears chapter (h ∷ [])) book loose (record (with_status s h) { asking = Some (accepted || is_positive h) }) (accepted || is_positive h)
ask-hears sum chapter book loose s accepted h t n =
    let on : ends (list_any is_positive t.answers) h ≡ false = subst (λ b. ends b h ≡ false) t.positive n in
    record {
      answers = t.answers ++ h ∷ [];
      is = ap (λ c. hears c (h ∷ [])) t.is;
      unended = end-missing t.answers h t.unended on;
      positive = ap (λ b. b || is_positive h) t.positive ∙ sym (list_any-snoc is_positive t.answers h);
      so_far = ap (λ x. so_far_in x (status_of h)) t.so_far ∙ sym (noted-snoc t.answers h);
      agree = agree-as sum book loose s (record (with_status s h) { asking = Some (accepted || is_positive h) }) refl refl refl t.agree;
    }

trace-rows : (book : List Entry) → map trace_of book ≡ traces (map row_of book)
trace-rows [] = refl
trace-rows (x ∷ book) = ap (λ ts. x.trace ∷ ts) (trace-rows book)

taken-alike : (currency : ℕ) (ss : List StatusFacts) (e : ℕ) (x : Option Entry) → taken_back currency ss e x ≡ taken_back currency ss e (option_map (entry_of false No) (option_map row_of x))
taken-alike currency ss e None = refl
taken-alike currency ss e (Some x) = refl

happened-alike : (currency : ℕ) (book : List Entry) (used : List ℕ) (w : What) (a : StatusFacts) → happened currency book used w a ≡ happened currency (as_book (map row_of book)) used w a
happened-alike currency book used (PaymentWhat row amount) a = refl
happened-alike currency book used (ReversalWhat e) a =
    taken-alike currency (a ∷ []) e (slice_get book e)
    ∙ ap (taken_back currency (a ∷ []) e) (sym (slice_get-map (entry_of false No) (map row_of book) e ∙ ap (option_map (entry_of false No)) (slice_get-map row_of book e)))

-- the book and its rows decide the same
decided-alike : (t : TillState) (sum : Sum) (a : StatusFacts) (p : Option Pending) → map row_of t.book ≡ sum.books.booked
    → decided t sum.settled a p ≡ settled_by t.settings.currency sum.books sum.settled p (Some a)
decided-alike t sum a None rows = refl
decided-alike t sum a (Some p) rows =
    let currency : ℕ = t.settings.currency in
    ap (λ x. cond (same p.before a) (Some (did_not p.what)) x) (happened-alike currency t.book (used_traces t.book sum.settled) p.what a)
    ∙ ap (λ ts. decision currency (as_book (map row_of t.book)) (ts ++ paid_traces sum.settled) p a) (trace-rows t.book)
    ∙ ap (λ ys. decision currency (as_book ys) (traces ys ++ paid_traces sum.settled) p a) rows

answered-agrees : (t : TillState) (sum : Sum) (loose : List (ℕ × Cause)) (s : Settling) (a : Option StatusFacts) → Agree sum t.book loose s
    → Agree (add_answer t.settings.currency sum false a) t.book loose (answered t s a)
answered-agrees t sum loose s None k = record { rows = k.rows; unclear = k.unclear; last = k.last; pending = k.pending; settled = k.settled }
answered-agrees t sum loose s (Some a) k =
    record {
      rows = k.rows;
      unclear = k.unclear;
      last = refl;
      pending = refl;
      settled =
          ap₂ (λ xs p. xs ++ option_to_list (decided t xs a p)) k.settled k.pending
          ∙ ap (λ x. sum.settled ++ option_to_list x) (decided-alike t sum a sum.pending k.rows);
    }

answered-asking : (t : TillState) (s : Settling) (a : Option StatusFacts) → (answered t s a).asking ≡ None
answered-asking t s None = refl
answered-asking t s (Some a) = refl

ask-ends : (t : TillState) (sum : Sum) (chapter : Option Chapter) (loose : List (ℕ × Cause)) (s : Settling) (accepted : Bool) (h : Happening)
    → TieAsk sum chapter t.book loose s accepted → ends accepted h ≡ true
    → TieRest t.settings.currency sum (hears chapter (h ∷ [])) t.book loose (answered t (with_status s h) (answer_by (with_status s h).so_far h))
ask-ends t sum chapter loose s accepted h k n =
    let currency : ℕ = t.settings.currency in
    let on : ends (list_any is_positive k.answers) h ≡ true = subst (λ b. ends b h ≡ true) k.positive n in
    let end : Ended = record { before = k.answers; by = h } in
    let reached : end_of (k.answers ++ h ∷ []) ≡ Some end = end-reached k.answers h k.unended on in
    let now : hears chapter (h ∷ []) ≡ Some (AskedThen (k.answers ++ h ∷ [])) = ap (λ c. hears c (h ∷ [])) k.is in
    let said : answer_by (with_status s h).so_far h ≡ completed_with (Some end) =
    answer-said s.so_far h ∙ ap (λ x. cond (is_completion h) (one_status x) None) k.so_far ∙ ap (λ x. cond (is_completion h) x None) (one-of-all (statuses k.answers)) in
    let adds : add_if currency sum (hears chapter (h ∷ [])) ≡ add_answer currency sum false (completed_with (Some end)) =
    ap (add_if currency sum) now ∙ ask-ended currency sum (k.answers ++ h ∷ []) (Some end) reached in
    record {
      over = subst IsOver (sym now) (end, reached);
      agree =
          subst (λ x. Agree x t.book loose (answered t (with_status s h) (answer_by (with_status s h).so_far h))) (sym adds)
          (subst (λ x. Agree (add_answer currency sum false (completed_with (Some end))) t.book loose (answered t (with_status s h) x)) (sym said)
          (answered-agrees t sum loose (with_status s h) (completed_with (Some end)) (agree-as sum t.book loose s (with_status s h) refl refl refl k.agree)));
    }

-- ---- while an order runs

run-hears : (settings : Settings) (sum : Sum) (chapter : Option Chapter) (book : List Entry) (loose : List (ℕ × Cause)) (s : Settling) (r : Running) (h : Happening)
    → TieRun settings sum chapter book loose s r → ends r.positive h ≡ false
    → TieRun settings sum (hears chapter (h ∷ [])) book loose (with_status s h) (listened (demand_of settings.rules (Some settings.currency) book loose r.order) r h)
run-hears settings sum chapter book loose s r h t n =
    let on : ends (list_any is_positive t.answers) h ≡ false = subst (λ b. ends b h ≡ false) t.positive n in
    let d : Option Demand = demand_of settings.rules (Some settings.currency) book loose r.order in
    let b = t.before in
    record {
      force = t.force;
      answers = t.answers ++ h ∷ [];
      fit = t.fit;
      is = ap (λ c. hears c (h ∷ [])) t.is;
      unended = end-missing t.answers h t.unended on;
      positive = ap (λ x. x || is_positive h) t.positive ∙ sym (list_any-snoc is_positive t.answers h);
      noted = ap (λ x. note_if d x (status_of h)) t.noted ∙ sym (summary-snoc d t.answers h);
      before = record {
        rows = b.rows;
        unclear = b.unclear;
        last = b.last;
        pending = b.pending;
        settled = b.settled;
        so_far = ap (λ x. so_far_in x (status_of h)) b.so_far ∙ sym (noted-snoc t.answers h);
      };
    }

abbrev opens : Option ℕ → ℕ → Order → Opening
opens force own order = record { order = sent_as own order; currency = force; sole = None }

abbrev end_by : List Happening → Happening → Option Ended
end_by hs h = Some (record { before = hs; by = h })

pay-agrees : (settings : Settings) (a : ℕ) (force : Option ℕ) (sum : Sum) (book : List Entry) (loose : List (ℕ × Cause)) (s : Settling) (hs : List Happening) (h : Happening) (p : Bool)
    → let out : Outcome = outcome_by book (PayOrder a) (summary (Some (Payment (charged (Some settings.currency) a))) (statuses hs)) h in
    Before (Pay a) sum book loose s hs → force ≡ Some settings.currency → ends p h ≡ true
    → Agree (order_end sum (opens force settings.currency (PayOrder a)) (end_by hs h)) (book_after book (PayOrder a) out) (unclear_after loose (PayOrder a) out) (ended (with_status s h) (PayOrder a) out (length loose))
pay-agrees settings a force sum book loose s hs h p b forced n =
    let own : ℕ = settings.currency in
    let d : Option Demand = Some (Payment (charged (Some own) a)) in
    let st = summary d (statuses hs) in
    let out : Outcome = outcome_by book (PayOrder a) st h in
    pay-ends a force sum book loose s hs h out b (proper book (PayOrder a) st h) (settled-outcome book (PayOrder a) st p h n (sound-summary d (statuses hs)))
    (ap (λ c. verdict_by (charged c a) (traces sum.books.booked) (statuses hs) h) forced
    ∙ ap (λ ts. verdict_by (charged (Some own) a) ts (statuses hs) h) (sym (trace-rows book ∙ ap traces b.rows))
    ∙ payment-verdict (charged (Some own) a) book (statuses hs) h)

reversal-demand : (settings : Settings) (e : ℕ) (force : Option ℕ) (book : List Entry) (loose : List (ℕ × Cause)) (x : Entry)
    → settings.rules.reversal_by_receipt ≡ false → force ≡ Some settings.currency → slice_get book e ≡ Some x
    → demand_of settings.rules (Some settings.currency) book loose (ReverseOrder e) ≡ Some (reversing (opens force settings.currency (ReverseOrder e)) (row_of x))
reversal-demand settings e force book loose x strict forced found =
    let own : ℕ = settings.currency in
    ap (option_map (λ (row : Entry). Reversal (charged (Some own) row.amount) row.trace (sole_receipt settings.rules.reversal_by_receipt book loose row))) found
    ∙ ap (λ b. Some (Reversal (charged (Some own) x.amount) x.trace (sole_receipt b book loose x))) strict
    ∙ ap (λ c. Some (Reversal (charged c x.amount) x.trace None)) (sym forced)

reversal-agrees : (settings : Settings) (e : ℕ) (force : Option ℕ) (sum : Sum) (book : List Entry) (loose : List (ℕ × Cause)) (s : Settling) (hs : List Happening) (h : Happening) (x : Entry)
    → let d : Option Demand = demand_of settings.rules (Some settings.currency) book loose (ReverseOrder e) in
    let out : Outcome = outcome_by book (ReverseOrder e) (summary d (statuses hs)) h in
    Before (Reverse e) sum book loose s hs → settings.rules.reversal_by_receipt ≡ false → force ≡ Some settings.currency → slice_get book e ≡ Some x
    → Agree (order_end sum (opens force settings.currency (ReverseOrder e)) (end_by hs h)) (book_after book (ReverseOrder e) out) (unclear_after loose (ReverseOrder e) out) (ended (with_status s h) (ReverseOrder e) out (length loose))
reversal-agrees settings e force sum book loose s hs h x b strict forced found =
    let op : Opening = opens force settings.currency (ReverseOrder e) in
    let d : Option Demand = demand_of settings.rules (Some settings.currency) book loose (ReverseOrder e) in
    let st = summary d (statuses hs) in
    let y : Entry = entry_of false No (row_of x) in
    reversal-ends e force sum book loose s hs h x (outcome_by book (ReverseOrder e) st h) b (proper book (ReverseOrder e) st h) found
    (ap (λ z. entry_after y (outcome_by book (ReverseOrder e) (summary z (statuses hs)) h)) (reversal-demand settings e force book loose x strict forced found)
    ∙ reversal-after book e op (row_of x) hs h y)

run-agrees : (settings : Settings) (order : Order) (force : Option ℕ) (sum : Sum) (book : List Entry) (loose : List (ℕ × Cause)) (s : Settling) (hs : List Happening) (h : Happening) (p : Bool)
    → let d : Option Demand = demand_of settings.rules (Some settings.currency) book loose order in
    let out : Outcome = outcome_by book order (summary d (statuses hs)) h in
    Before (sent_as settings.currency order) sum book loose s hs → settings.rules.reversal_by_receipt ≡ false → Fit settings.currency force book order → ends p h ≡ true
    → Agree (order_end sum (opens force settings.currency order) (end_by hs h)) (book_after book order out) (unclear_after loose order out) (ended (with_status s h) order out (length loose))
run-agrees settings RegisterOrder force sum book loose s hs h p b strict fit n =
    let st = summary None (statuses hs) in
    register-ends settings.currency force sum book loose s hs h (outcome_by book RegisterOrder st h) b (proper book RegisterOrder st h)
run-agrees settings (PayOrder a) force sum book loose s hs h p b strict fit n = pay-agrees settings a force sum book loose s hs h p b fit n
run-agrees settings (ReverseOrder e) force sum book loose s hs h p b strict fit n = reversal-agrees settings e force sum book loose s hs h fit.1 b strict fit.0 fit.2
run-agrees settings CloseDayOrder force sum book loose s hs h p b strict fit n =
    let st = summary (demand_of settings.rules (Some settings.currency) book loose CloseDayOrder) (statuses hs) in
    closing-ends force sum book loose s hs h (outcome_by book CloseDayOrder st h) b (proper book CloseDayOrder st h)
run-agrees settings CancelOrder force sum book loose s hs h p b strict fit n = absurd fit

run-ends : (settings : Settings) (sum : Sum) (chapter : Option Chapter) (book : List Entry) (loose : List (ℕ × Cause)) (s : Settling) (r : Running) (h : Happening)
    → let out : Outcome = outcome_by book r.order r.statuses h in
    TieRun settings sum chapter book loose s r → settings.rules.reversal_by_receipt ≡ false → ends r.positive h ≡ true
    → TieRest settings.currency sum (hears chapter (h ∷ [])) (book_after book r.order out) (unclear_after loose r.order out) (ended (with_status s h) r.order out (length loose))
run-ends settings sum chapter book loose s r h t strict n =
    let own : ℕ = settings.currency in
    let hs : List Happening = t.answers in
    let on : ends (list_any is_positive hs) h ≡ true = subst (λ b. ends b h ≡ true) t.positive n in
    let reached : end_of (hs ++ h ∷ []) ≡ end_by hs h = end-reached hs h t.unended on in
    let now : hears chapter (h ∷ []) ≡ Some (an_order t.force (sent_as own r.order) (hs ++ h ∷ [])) = ap (λ c. hears c (h ∷ [])) t.is in
    let adds : add_if own sum (hears chapter (h ∷ [])) ≡ order_end sum (opens t.force own r.order) (end_by hs h) =
    ap (add_if own sum) now ∙ add-ended sum (opens t.force own r.order) (hs ++ h ∷ []) (end_by hs h) reached in
    record {
      over = subst IsOver (sym now) (record { before = hs; by = h }, reached);
      agree =
          subst (λ x. Agree x (book_after book r.order (outcome_by book r.order r.statuses h)) (unclear_after loose r.order (outcome_by book r.order r.statuses h)) (ended (with_status s h) r.order (outcome_by book r.order r.statuses h) (length loose))) (sym adds)
          (subst (λ st. Agree (order_end sum (opens t.force own r.order) (end_by hs h)) (book_after book r.order (outcome_by book r.order st h)) (unclear_after loose r.order (outcome_by book r.order st h)) (ended (with_status s h) r.order (outcome_by book r.order st h) (length loose))) (sym t.noted)
          (run-agrees settings r.order t.force sum book loose s hs h r.positive t.before strict t.fit n));
    }

-- ---- one more happening

ask-meets : (t : TillState) (sum : Sum) (chapter : Option Chapter) (s : Settling) (accepted : Bool) (h : Happening) (b : Bool) → ends accepted h ≡ b
    → TieAsk sum chapter t.book t.unclear s accepted
    → let now : Settling = cond b (answered t (with_status s h) (answer_by (with_status s h).so_far h)) (record (with_status s h) { asking = Some (accepted || is_positive h) }) in
    Tie t.settings sum (hears chapter (h ∷ [])) t.book t.unclear now None now.asking
ask-meets t sum chapter s accepted h true e k =
    let now : Settling = answered t (with_status s h) (answer_by (with_status s h).so_far h) in
    subst (λ a. Tie t.settings sum (hears chapter (h ∷ [])) t.book t.unclear now None a) (sym (answered-asking t (with_status s h) (answer_by (with_status s h).so_far h)))
    (ask-ends t sum chapter t.unclear s accepted h k e)
ask-meets t sum chapter s accepted h false e k = ask-hears sum chapter t.book t.unclear s accepted h k e

run-meets : (t : TillState) (sum : Sum) (chapter : Option Chapter) (s : Settling) (r : Running) (h : Happening) (b : Bool) → ends r.positive h ≡ b → s.asking ≡ None
    → t.settings.rules.reversal_by_receipt ≡ false → TieRun t.settings sum chapter t.book t.unclear s r
    → let till : TillState = cond b (finish t r.order (outcome_by t.book r.order r.statuses h)) (record t { running = Some (listened (demand_of t.settings.rules (Some t.settings.currency) t.book t.unclear r.order) r h) }) in
    TieAt sum (hears chapter (h ∷ [])) till (ended_as (with_status s h) (Some r.order) (cond b (Some (outcome_by t.book r.order r.statuses h)) None) (length t.unclear))
run-meets t sum chapter s r h true e idle strict k =
    let out : Outcome = outcome_by t.book r.order r.statuses h in
    let now : Settling = ended (with_status s h) r.order out (length t.unclear) in
    subst (λ a. Tie t.settings sum (hears chapter (h ∷ [])) (book_after t.book r.order out) (unclear_after t.unclear r.order out) now None a)
    (sym (ended-asking (with_status s h) r.order out (length t.unclear) ∙ idle))
    (run-ends t.settings sum chapter t.book t.unclear s r h k strict e)
run-meets t sum chapter s r h false e idle strict k =
    subst (λ a. Tie t.settings sum (hears chapter (h ∷ [])) t.book t.unclear (with_status s h) (Some (listened (demand_of t.settings.rules (Some t.settings.currency) t.book t.unclear r.order) r h)) a)
    (sym idle) (run-hears t.settings sum chapter t.book t.unclear s r h k e)

abbrev settling : Option Bool → StatusSoFar → Option StatusFacts → Option Pending → List Settlement → Settling
settling asking so_far last pending done = record { asking = asking; so_far = so_far; last = last; pending = pending; settled = done }

meets-by : (sum : Sum) (chapter : Option Chapter) (h : Happening) (k : Settings) (up g : Bool) (run : Option Running) (es : List Entry) (u : List (ℕ × Cause)) (lo : Option Outcome)
    (asking : Option Bool) (so_far : StatusSoFar) (last : Option StatusFacts) (pending : Option Pending) (done : List Settlement)
    → k.rules.reversal_by_receipt ≡ false → Tie k sum chapter es u (settling asking so_far last pending done) run asking
    → TieAt sum (hears chapter (h ∷ [])) (meet (state k up g run es u lo) h) (meets (state k up g run es u lo) (settling asking so_far last pending done) h)
meets-by sum chapter h k up g None es u lo None so_far last pending done strict t =
    rest-hears k.currency sum chapter es u (settling None so_far last pending done) h t
meets-by sum chapter h k up g None es u lo (Some accepted) so_far last pending done strict t =
    ask-meets (state k up g None es u lo) sum chapter (settling (Some accepted) so_far last pending done) accepted h (ends accepted h) refl t
meets-by sum chapter h k up g (Some r) es u lo None so_far last pending done strict t =
    run-meets (state k up g (Some r) es u lo) sum chapter (settling None so_far last pending done) r h (ends r.positive h) refl refl strict t
meets-by sum chapter h k up g (Some r) es u lo (Some accepted) so_far last pending done strict t = absurd t

-- whatever is heard belongs to the last chapter
pub tie-meets : (sum : Sum) (chapter : Option Chapter) (h : Happening) (t : TillState) (s : Settling) → t.settings.rules.reversal_by_receipt ≡ false
    → TieAt sum chapter t s → TieAt sum (hears chapter (h ∷ [])) (meet t h) (meets t s h)
tie-meets sum chapter h t s strict k =
    meets-by sum chapter h t.settings t.line_up t.registered t.running t.book t.unclear t.last_outcome s.asking s.so_far s.last s.pending s.settled strict k
