-- How the rows of books grow by an event, and at which lines they ended.
use Rattle.std.proofs.Common.{◌≡◌, ◌⊎◌, inl, inr, ℕ, zero, suc, ◌+◌, ◌-◌, ◌<◌, ◌≤◌, Bool, true, false, cond, ◌||◌, nat_lt, List, [], ◌∷◌, ◌++◌, length, Option, Some, None, Result, Ok, Err, refl, sym, ◌∙◌, ap, ap₂, subst, arith, append_assoc, append-nil, length-append}
use Rattle.std.proofs.lemmas.Bool.Decides.{nat_tests}
use Rattle.std.proofs.lemmas.Grind.{flat_map-append}
use Rattle.std.specs.Prelude.{OnOk}
use Rattle.std.specs.List.{cons_option, flat_map, slice_get}
use Rattle.zvt_apdu.specs.Kinds.{kind_of}
use Rattle.zvt_apdu.specs.Message.{Message, ack, nack, registration, authorisation, reversal, end_of_day, abort_order, status, intermediate, print_line, text_block, completion, abort, other}
use Rattle.zvt_till.specs.Books.{Books, books, books_of, empty_books}
use Rattle.zvt_till.specs.Hearing.{heard_as}
use Rattle.zvt_till.specs.Judging.{BooksSoFar, HasJudged, IsJudged, Runs, as_book, ends_open, is_open_as, open_after, opened, paying, written}
use Rattle.zvt_till.specs.Outcomes.{note_if, outcome_by}
use Rattle.zvt_till.specs.Segments.{begun, ends, in_force, is_positive, segments, status_of}
use Rattle.zvt_till.specs.declared.happenings.Happening.{Happening}
use Rattle.zvt_till.specs.declared.happenings.Happening.TheVariants.{Connected, Heard as HeardIn, Malformed, Lost}
use Rattle.zvt_till.specs.declared.happenings.Sent.{Sent}
use Rattle.zvt_till.specs.declared.happenings.Sent.TheVariants.{Pay}
use Rattle.zvt_till.specs.declared.log_books.OpenPayment.{OpenPayment}
use Rattle.zvt_till.specs.declared.orders.Order.TheVariants.{Pay as PayOrder}
use Rattle.zvt_till.specs.declared.outcomes.Cause.TheVariants.{Unfinished}
use Rattle.zvt_till.specs.declared.outcomes.Outcome.{Outcome}
use Rattle.zvt_till.specs.declared.outcomes.Outcome.TheVariants.{Registered, Paid, Declined, Refused, Aborted, Unclear, Reversed, DayClosed}
use Rattle.zvt_till.proofs.BooksLemmas.{judged-end, judged-more, judged-order, judged-rest}
use Rattle.zvt_till.proofs.SegmentEndLemmas.{begun_by, books-snoc, seg}
use Rattle.zvt_till.proofs.Segments.{fold-snoc}
use Rattle.zvt_trace.specs.TraceEvent.{At, TraceEvent}
use Rattle.zvt_trace.specs.TraceEvent as trace_event
use Rattle.zvt_audit.specs.Audited.{Takes}
use Rattle.zvt_audit.specs.Ends.{AreEndLines, AreEndsOf, EndsAt, Lines, booked_count, can_end, unclear_count, with_end, with_ends}
use Rattle.zvt_audit.specs.Happened.{happened, happenings_of, log_of}

-- ---- the rows of a judged log

booked_size : Books → ℕ
booked_size b = length b.booked

unclear_size : Books → ℕ
unclear_size b = length b.unclear

-- the books of the log with a payment that runs
with_running : (log : List Happening) (b : Books) (p : OpenPayment) → Runs (segments log) b p → books log ≡ record { booked = b.booked; unclear = b.unclear ++ (p.amount, Unfinished) ∷ [] }
with_running log b p r =
    ap books_of r.is ∙ books-snoc r.closed (begun_by p.currency (Pay p.amount)) r.answers None r.unended
    ∙ ap (λ (c : Books). record { booked = c.booked; unclear = c.unclear ++ (p.amount, Unfinished) ∷ [] }) (sym r.earlier)

is_running : (log : List Happening) (b : Books) (p : OpenPayment) → Runs (segments log) b p → ends_open (segments log) ≡ true
is_running log b p r =
    ap ends_open r.is ∙ fold-snoc open_after false r.closed (seg (begun_by p.currency (Pay p.amount)) r.answers) ∙ ap (is_open_as (Pay p.amount)) r.unended

booked_rows : (log : List Happening) (b : Books) (run : Option OpenPayment) → IsJudged log b run → booked_count log ≡ length b.booked
booked_rows log b None r = ap (λ (c : Books). length c.booked) (sym r.all)
booked_rows log b (Some p) r = ap (λ (c : Books). length c.booked) (with_running log b p r)

less_none : (n : ℕ) → n - 0 ≡ n
less_none n = omega arith

less_one : (n : ℕ) → n + 1 - 1 ≡ n
less_one n = omega arith

unclear_rows : (log : List Happening) (b : Books) (run : Option OpenPayment) → IsJudged log b run → unclear_count log ≡ length b.unclear
unclear_rows log b None r = ap₂ (λ (n : ℕ) (runs : Bool). n - cond runs 1 0) (ap (λ (c : Books). length c.unclear) (sym r.all)) r.ended ∙ less_none (length b.unclear)
unclear_rows log b (Some p) r =
    ap₂ (λ (n : ℕ) (runs : Bool). n - cond runs 1 0) (ap (λ (c : Books). length c.unclear) (with_running log b p r) ∙ length-append b.unclear ((p.amount, Unfinished) ∷ [])) (is_running log b p r)
    ∙ less_one (length b.unclear)

-- ---- at most one row more

record Grows (b c : Books) : Type 0 where
  booked_least : length b.booked ≤ length c.booked
  booked_most : length c.booked ≤ length b.booked + 1
  unclear_least : length b.unclear ≤ length c.unclear
  unclear_most : length c.unclear ≤ length b.unclear + 1

stays : (b : Books) → Grows b b
stays b = record { booked_least = omega arith; booked_most = omega arith; unclear_least = omega arith; unclear_most = omega arith }

one_unclear : (b : Books) (amount : ℕ) (cause : Rattle.zvt_till.specs.declared.outcomes.Cause.Cause) → Grows b (record { booked = b.booked; unclear = b.unclear ++ (amount, cause) ∷ [] })
one_unclear b amount cause =
    let size = length-append b.unclear ((amount, cause) ∷ []) in
    record { booked_least = omega arith; booked_most = omega arith; unclear_least = omega (arith, size); unclear_most = omega (arith, size) }

all_written : (b : Books) (amount : ℕ) (outcome : Outcome) → Grows b (written b amount outcome)
all_written b amount Registered = stays b
all_written b amount (Paid trace receipt) =
    let size = length-append b.booked (record { amount = amount; trace = trace; receipt = receipt } ∷ []) in
    record { booked_least = omega (arith, size); booked_most = omega (arith, size); unclear_least = omega arith; unclear_most = omega arith }
all_written b amount (Declined code) = stays b
all_written b amount (Refused code) = stays b
all_written b amount (Aborted code) = stays b
all_written b amount (Unclear cause) = one_unclear b amount cause
all_written b amount Reversed = stays b
all_written b amount DayClosed = stays b

all_closed : (log : List Happening) (b : Books) (run : Option OpenPayment) → IsJudged log b run → Grows b (books log)
all_closed log b None r = subst (λ (c : Books). Grows b c) r.all (stays b)
all_closed log b (Some p) r = subst (λ (c : Books). Grows b c) (sym (with_running log b p r)) (one_unclear b p.amount Unfinished)

-- a log is judged, and so is it with one happening more
Judged : List Happening → Type 0
Judged log = (b : Books) × (run : Option OpenPayment) × IsJudged log b run

one_more : (log : List Happening) (h : Happening) (b : Books) (run : Option OpenPayment) → IsJudged log b run → (c : Books) × (next : Option OpenPayment) × IsJudged (log ++ h ∷ []) c next × Grows b c
one_more log h b run judged = by_begun (begun h) refl
  where
    by_end : (p : OpenPayment) → begun h ≡ None → Runs (segments log) b p → (over : Bool) → ends p.positive h ≡ over → (c : Books) × (next : Option OpenPayment) × IsJudged (log ++ h ∷ []) c next × Grows b c
    by_end p e r true is =
        let outcome = outcome_by (as_book b.booked) (PayOrder p.amount) p.statuses h in
        (written b p.amount outcome, None, judged-end log h b p e is r, all_written b p.amount outcome)
    by_end p e r false is =
        let q : OpenPayment = record { amount = p.amount; currency = p.currency; positive = p.positive || is_positive h; statuses = note_if (paying p.currency p.amount) p.statuses (status_of h) } in
        (b, Some q, judged-more log h b p q e is refl refl refl refl r, stays b)

    by_run : begun h ≡ None → (run : Option OpenPayment) → IsJudged log b run → (c : Books) × (next : Option OpenPayment) × IsJudged (log ++ h ∷ []) c next × Grows b c
    by_run e None r = (b, None, judged-rest log h b e r, stays b)
    by_run e (Some p) r = by_end p e r (ends p.positive h) refl

    by_begun : (o : Option Sent) → begun h ≡ o → (c : Books) × (next : Option OpenPayment) × IsJudged (log ++ h ∷ []) c next × Grows b c
    by_begun (Some o) e = (books log, opened (in_force log) o, judged-order log h o (books log) e refl, all_closed log b run judged)
    by_begun None e = by_run e run judged

IsQuiet : Happening → Type 0
IsQuiet h = (begun h ≡ None) × ((positive : Bool) → ends positive h ≡ false)

-- what neither begins nor ends an order
quiet_more : (log : List Happening) (h : Happening) (b : Books) (run : Option OpenPayment) → IsJudged log b run → IsQuiet h → (next : Option OpenPayment) × IsJudged (log ++ h ∷ []) b next
unfolding IsQuiet
quiet_more log h b None r quiet = (None, judged-rest log h b quiet.0 r)
quiet_more log h b (Some p) r quiet =
    let q : OpenPayment = record { amount = p.amount; currency = p.currency; positive = p.positive || is_positive h; statuses = note_if (paying p.currency p.amount) p.statuses (status_of h) } in
    (Some q, judged-more log h b p q quiet.0 (quiet.1 p.positive) refl refl refl refl r)

-- ---- what a count of rows does

record Counts (count : List Happening → ℕ) : Type 0 where
  least : (log : List Happening) (h : Happening) → Judged log → count log ≤ count (log ++ h ∷ [])
  most : (log : List Happening) (h : Happening) → Judged log → count (log ++ h ∷ []) ≤ count log + 1
  same : (log : List Happening) (h : Happening) → Judged log → IsQuiet h → count (log ++ h ∷ []) ≡ count log

booked_counts : Counts booked_count
unfolding Judged
booked_counts = record {
  least = λ log h judged.
      let more = one_more log h judged.0 judged.1 judged.2 in
      omega (arith, booked_rows log judged.0 judged.1 judged.2, booked_rows (log ++ h ∷ []) more.0 more.1 more.2, more.3.booked_least);
  most = λ log h judged.
      let more = one_more log h judged.0 judged.1 judged.2 in
      omega (arith, booked_rows log judged.0 judged.1 judged.2, booked_rows (log ++ h ∷ []) more.0 more.1 more.2, more.3.booked_most);
  same = λ log h judged quiet.
      let more = quiet_more log h judged.0 judged.1 judged.2 quiet in
      booked_rows (log ++ h ∷ []) judged.0 more.0 more.1 ∙ sym (booked_rows log judged.0 judged.1 judged.2);
}

unclear_counts : Counts unclear_count
unfolding Judged
unclear_counts = record {
  least = λ log h judged.
      let more = one_more log h judged.0 judged.1 judged.2 in
      subst (λ (n : ℕ). n ≤ unclear_count (log ++ h ∷ [])) (sym (unclear_rows log judged.0 judged.1 judged.2))
      (subst (λ (n : ℕ). length judged.0.unclear ≤ n) (sym (unclear_rows (log ++ h ∷ []) more.0 more.1 more.2)) more.3.unclear_least);
  most = λ log h judged.
      let more = one_more log h judged.0 judged.1 judged.2 in
      subst (λ (n : ℕ). unclear_count (log ++ h ∷ []) ≤ n + 1) (sym (unclear_rows log judged.0 judged.1 judged.2))
      (subst (λ (n : ℕ). n ≤ length judged.0.unclear + 1) (sym (unclear_rows (log ++ h ∷ []) more.0 more.1 more.2)) more.3.unclear_most);
  same = λ log h judged quiet.
      let more = quiet_more log h judged.0 judged.1 judged.2 quiet in
      unclear_rows (log ++ h ∷ []) judged.0 more.0 more.1 ∙ sym (unclear_rows log judged.0 judged.1 judged.2);
}

-- ---- events

-- the log with one event more
pub log_more : (before : List At) (event : At) → log_of (before ++ event ∷ []) ≡ log_of before ++ happenings_of event.trace_event
log_more before event =
    ap (λ (l : List Happening). Connected ∷ l)
    (flat_map-append (λ (e : At). happenings_of e.trace_event) before (event ∷ [])
    ∙ ap (λ (l : List Happening). flat_map (λ (e : At). happenings_of e.trace_event) before ++ l) (append-nil (happenings_of event.trace_event)))

record OneMore (count : List Happening → ℕ) (log happened : List Happening) : Type 0 where
  least : count log ≤ count (log ++ happened)
  most : count (log ++ happened) ≤ count log + 1

none_happened : (count : List Happening → ℕ) (log : List Happening) → OneMore count log []
none_happened count log =
    let same : count (log ++ []) ≡ count log = ap count (append-nil log) in
    record { least = omega (arith, same); most = omega (arith, same) }

one_happened : (count : List Happening → ℕ) → Counts count → (log : List Happening) → Judged log → (h : Happening) → OneMore count log (h ∷ [])
one_happened count counts log judged h = record { least = counts.least log h judged; most = counts.most log h judged }

option_happened : (count : List Happening → ℕ) → Counts count → (log : List Happening) → Judged log → (h : Option Happening) → OneMore count log (cons_option h [])
option_happened count counts log judged None = none_happened count log
option_happened count counts log judged (Some h) = one_happened count counts log judged h

lost_happened : (count : List Happening → ℕ) → Counts count → (log : List Happening) → Judged log → OneMore count log (Lost ∷ Connected ∷ [])
unfolding Judged IsQuiet
lost_happened count counts log judged =
    let more = one_more log Lost judged.0 judged.1 judged.2 in
    let same : count (log ++ Lost ∷ Connected ∷ []) ≡ count (log ++ Lost ∷ []) =
    ap count (sym (append_assoc log (Lost ∷ []) (Connected ∷ []))) ∙ counts.same (log ++ Lost ∷ []) Connected (more.0, more.1, more.2) (refl, λ positive. refl) in
    record { least = omega (arith, same, counts.least log Lost judged); most = omega (arith, same, counts.most log Lost judged) }

event_happened : (count : List Happening → ℕ) → Counts count → (log : List Happening) → Judged log → (event : TraceEvent) → OneMore count log (happenings_of event)
event_happened count counts log judged (trace_event.message from m) = option_happened count counts log judged (happened from m)
event_happened count counts log judged (trace_event.refused from before byte why) = one_happened count counts log judged Malformed
event_happened count counts log judged (trace_event.unread from) = none_happened count log
event_happened count counts log judged (trace_event.resumed from size) = none_happened count log
event_happened count counts log judged (trace_event.cut_off from bytes) = none_happened count log
event_happened count counts log judged trace_event.lost = lost_happened count counts log judged

-- ---- a count never shrinks

judged_on : (done more : List Happening) → Judged done → Judged (done ++ more)
unfolding Judged
judged_on done [] judged = subst (λ (l : List Happening). (b : Books) × (run : Option OpenPayment) × IsJudged l b run) (sym (append-nil done)) judged
judged_on done (h ∷ more) judged =
    let next = one_more done h judged.0 judged.1 judged.2 in
    subst (λ (l : List Happening). (b : Books) × (run : Option OpenPayment) × IsJudged l b run) (append_assoc done (h ∷ []) more) (judged_on (done ++ h ∷ []) more (next.0, next.1, next.2))

all_judged : (log : List Happening) → Judged log
unfolding Judged
all_judged log = judged_on [] log (empty_books, None, record { all = refl; ended = refl })

count_grows : (count : List Happening → ℕ) → Counts count → (log more : List Happening) → count log ≤ count (log ++ more)
count_grows count counts log [] =
    let same : count (log ++ []) ≡ count log = ap count (append-nil log) in
    omega (arith, same)
count_grows count counts log (h ∷ more) =
    let same : count ((log ++ h ∷ []) ++ more) ≡ count (log ++ h ∷ more) = ap count (append_assoc log (h ∷ []) more) in
    omega (arith, same, counts.least log h (all_judged log), count_grows count counts (log ++ h ∷ []) more)

events_grow : (count : List Happening → ℕ) → Counts count → (events some rest : List At) → events ≡ some ++ rest → count (log_of some) ≤ count (log_of events)
events_grow count counts events some rest cut =
    let longer : log_of events ≡ log_of some ++ flat_map (λ (e : At). happenings_of e.trace_event) rest =
    ap log_of cut ∙ ap (λ (l : List Happening). Connected ∷ l) (flat_map-append (λ (e : At). happenings_of e.trace_event) some rest) in
    let same : count (log_of events) ≡ count (log_of some ++ flat_map (λ (e : At). happenings_of e.trace_event) rest) = ap count longer in
    omega (arith, same, count_grows count counts (log_of some) (flat_map (λ (e : At). happenings_of e.trace_event) rest))

pub booked_grow : (events some rest : List At) → events ≡ some ++ rest → booked_count (log_of some) ≤ booked_count (log_of events)
booked_grow = events_grow booked_count booked_counts

pub unclear_grow : (events some rest : List At) → events ≡ some ++ rest → unclear_count (log_of some) ≤ unclear_count (log_of events)
unclear_grow = events_grow unclear_count unclear_counts

-- ---- the lines

still_ends : (count : List Happening → ℕ) (events : List At) (next : At) (row line : ℕ) → EndsAt count events row line → EndsAt count (events ++ next ∷ []) row line
still_ends count events next row line ended = record {
  before = ended.before;
  event = ended.event;
  later = ended.later ++ next ∷ [];
  is = ap (λ (l : List At). l ++ next ∷ []) ended.is ∙ append_assoc ended.before (ended.event ∷ ended.later) (next ∷ []);
  first = ended.first;
  then = ended.then;
  at_line = ended.at_line;
}

ends_kept : (count : List Happening → ℕ) (events : List At) (next : At) (lines : List ℕ) → AreEndsOf count events lines → count (log_of (events ++ next ∷ [])) ≡ count (log_of events) → AreEndsOf count (events ++ next ∷ []) lines
ends_kept count events next lines ended same =
    record { all = ended.all ∙ sym same; each = λ row line is. still_ends count events next row line (ended.each row line is) }

last_or_before : (lines : List ℕ) (last row line : ℕ) → slice_get (lines ++ last ∷ []) row ≡ Some line → (slice_get lines row ≡ Some line) ⊎ ((row ≡ length lines) × (line ≡ last))
last_or_before [] last zero line is = let same : last ≡ line = cc in inr (refl, sym same)
last_or_before [] last (suc row) line is = absurd cc
last_or_before (first ∷ lines) last zero line is = inl is
last_or_before (first ∷ lines) last (suc row) line is = by (last_or_before lines last row line is)
  where
    by : (slice_get lines row ≡ Some line) ⊎ ((row ≡ length lines) × (line ≡ last)) → (slice_get lines row ≡ Some line) ⊎ ((suc row ≡ suc (length lines)) × (line ≡ last))
    by (inl before) = inl before
    by (inr (at, same)) = inr (ap suc at, same)

ends_added : (count : List Happening → ℕ) → Counts count → (events : List At) (next : At) (lines : List ℕ) → AreEndsOf count events lines → count (log_of (events ++ next ∷ [])) ≡ length lines + 1 → AreEndsOf count (events ++ next ∷ []) (lines ++ next.line ∷ [])
ends_added count counts events next lines ended more = record {
  all = length-append lines (next.line ∷ []) ∙ sym more;
  each = λ row line is. by row line (last_or_before lines next.line row line is);
}
  where
    by : (row line : ℕ) → (slice_get lines row ≡ Some line) ⊎ ((row ≡ length lines) × (line ≡ next.line)) → EndsAt count (events ++ next ∷ []) row line
    by row line (inl is) = still_ends count events next row line (ended.each row line is)
    by row line (inr (at, same)) = record {
      before = events;
      event = next;
      later = [];
      is = refl;
      first = λ some rest cut. omega (arith, at, ended.all, events_grow count counts events some rest cut);
      then = omega (arith, at, more);
      at_line = same;
    }

one_noticed : (count : List Happening → ℕ) → Counts count → (events : List At) (next : At) (lines : List ℕ) (rows : ℕ) → OneMore count (log_of events) (happenings_of next.trace_event) → rows ≡ count (log_of (events ++ next ∷ []))
    → AreEndsOf count events lines → AreEndsOf count (events ++ next ∷ []) (with_end lines rows next.line)
one_noticed count counts events next lines rows one is ended = by (nat_lt (length lines) rows) refl
  where
    grown : count (log_of (events ++ next ∷ [])) ≡ count (log_of events ++ happenings_of next.trace_event)
    grown = ap count (log_more events next)

    by : (more : Bool) → nat_lt (length lines) rows ≡ more → AreEndsOf count (events ++ next ∷ []) (cond more (lines ++ next.line ∷ []) lines)
    by true less =
        let strict : length lines < rows = grind (arith, nat_tests, less) in
        ends_added count counts events next lines ended (omega (arith, strict, is, grown, one.most, ended.all))
    by false less =
        let none : rows ≤ length lines = grind (arith, nat_tests, less) in
        ends_kept count events next lines ended (omega (arith, none, is, grown, one.least, ended.all))

-- no payment has ended before the first event
pub none_yet : (booked unclear : List ℕ) → booked ≡ [] → unclear ≡ [] → AreEndLines [] (record { booked = booked; unclear = unclear })
none_yet booked unclear none none_unclear =
    subst (λ (l : List ℕ). AreEndLines [] (record { booked = l; unclear = unclear })) (sym none)
    (subst (λ (l : List ℕ). AreEndLines [] (record { booked = []; unclear = l })) (sym none_unclear)
    (record { booked = record { all = refl; each = λ row line is. absurd cc }; unclear = record { all = refl; each = λ row line is. absurd cc } }))

-- ---- what an auditor does

-- what holds where all went well
pub where_ok : {E P Q : Type 0} (r : Result (Unit {0}) E) → (P → Q) → OnOk r P → OnOk r Q
where_ok (Ok _) more so = more so
where_ok (Err e) more so = tt

happened_as : (event : At) (log happened : List Happening) (count : List Happening → ℕ) → happenings_of event.trace_event ≡ happened → count (log ++ happened) ≡ count log → count (log ++ happenings_of event.trace_event) ≡ count log
happened_as event log happened count is same = ap (λ (l : List Happening). count (log ++ l)) is ∙ same

pub ends_noticed : (old new : BooksSoFar) (happened : List Happening) (line : ℕ) (lines after : Lines) → Takes old new happened → after ≡ with_ends lines new line
    → (before : List At) (event : At) → happenings_of event.trace_event ≡ happened → event.line ≡ line → HasJudged (log_of before) old → AreEndLines before lines → AreEndLines (before ++ event ∷ []) after
unfolding Judged
ends_noticed old new happened line lines after takes noticed before event is at judged ended =
    let next : HasJudged (log_of (before ++ event ∷ [])) new =
    subst (λ (l : List Happening). HasJudged l new) (sym (log_more before event ∙ ap (λ (l : List Happening). log_of before ++ l) is)) (takes (log_of before) judged) in
    let sound : Judged (log_of before) = (old.books, old.running, judged.0) in
    subst (λ (l : Lines). AreEndLines (before ++ event ∷ []) l) (ap (with_ends lines new) at ∙ sym noticed)
    (record {
      booked = one_noticed booked_count booked_counts before event lines.booked (length new.books.booked) (event_happened booked_count booked_counts (log_of before) sound event.trace_event) (sym (booked_rows (log_of (before ++ event ∷ [])) new.books new.running next.0)) ended.booked;
      unclear = one_noticed unclear_count unclear_counts before event lines.unclear (length new.books.unclear) (event_happened unclear_count unclear_counts (log_of before) sound event.trace_event) (sym (unclear_rows (log_of (before ++ event ∷ [])) new.books new.running next.0)) ended.unclear;
    })

-- nothing happened
pub none_ended : (lines : Lines) (before : List At) (event : At) → happenings_of event.trace_event ≡ [] → AreEndLines before lines → AreEndLines (before ++ event ∷ []) lines
none_ended lines before event is ended =
    let log : log_of (before ++ event ∷ []) ≡ log_of before = log_more before event ∙ ap (λ (l : List Happening). log_of before ++ l) is ∙ append-nil (log_of before) in
    record {
      booked = ends_kept booked_count before event lines.booked ended.booked (ap booked_count log);
      unclear = ends_kept unclear_count before event lines.unclear ended.unclear (ap unclear_count log);
    }

quiet_kind : (m : Message) → can_end (kind_of m) ≡ false → IsQuiet (HeardIn (heard_as m))
unfolding IsQuiet
quiet_kind (ack payload) is = (refl, λ positive. refl)
quiet_kind (status fields) is = (refl, λ positive. refl)
quiet_kind (intermediate step payload) is = (refl, λ positive. refl)
quiet_kind (print_line attribute text) is = (refl, λ positive. refl)
quiet_kind (text_block fields) is = (refl, λ positive. refl)
quiet_kind (nack code payload) is = absurd cc
quiet_kind (registration password config rest) is = absurd cc
quiet_kind (authorisation fields) is = absurd cc
quiet_kind (reversal password fields) is = absurd cc
quiet_kind (end_of_day password fields) is = absurd cc
quiet_kind (abort_order fields) is = absurd cc
quiet_kind (completion fields) is = absurd cc
quiet_kind (abort code payload) is = absurd cc
quiet_kind (other high low payload) is = absurd cc

-- the terminal said what ends no payment
pub passing_ended : (m : Message) (old : BooksSoFar) (lines : Lines) → can_end (kind_of m) ≡ false
    → (before : List At) (event : At) → happenings_of event.trace_event ≡ HeardIn (heard_as m) ∷ [] → HasJudged (log_of before) old → AreEndLines before lines → AreEndLines (before ++ event ∷ []) lines
unfolding Judged
passing_ended m old lines passes before event is judged ended =
    let sound : Judged (log_of before) = (old.books, old.running, judged.0) in
    let log : log_of (before ++ event ∷ []) ≡ log_of before ++ HeardIn (heard_as m) ∷ [] = log_more before event ∙ ap (λ (l : List Happening). log_of before ++ l) is in
    record {
      booked = ends_kept booked_count before event lines.booked ended.booked (ap booked_count log ∙ booked_counts.same (log_of before) (HeardIn (heard_as m)) sound (quiet_kind m passes));
      unclear = ends_kept unclear_count before event lines.unclear ended.unclear (ap unclear_count log ∙ unclear_counts.same (log_of before) (HeardIn (heard_as m)) sound (quiet_kind m passes));
    }
