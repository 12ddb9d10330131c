-- A report has the books of the audit, and a message for each row.
use Rattle.std.proofs.Common.{◌≡◌, ℕ, ◌+◌, List, [], ◌∷◌, ◌++◌, length, Option, Some, None, map, fold, refl, sym, ap, ◌∙◌, arith, append-nil, append_assoc}
use Rattle.std.proofs.lemmas.List.{length-append, length-map}
use Rattle.zvt_apdu.specs.Message.{Message, ack, nack, registration, authorisation, reversal, end_of_day, abort_order, status, intermediate, print_line, text_block, completion, abort, other}
use Rattle.zvt_field.specs.Named.{amount_of, receipt_of}
use Rattle.zvt_till.specs.Books.{Books, empty_books, judge}
use Rattle.zvt_till.specs.Segments.{begun, force_after, segments_from, up_to_order}
use Rattle.zvt_till.specs.declared.entries.Entry.{Entry}
use Rattle.zvt_till.specs.declared.happenings.Happening.{Happening}
use Rattle.zvt_till.specs.declared.happenings.Happening.TheVariants.{Connected, Sent as SentOut, Heard as HeardIn, Malformed, Lost}
use Rattle.zvt_till.specs.declared.happenings.Sent.{Sent}
use Rattle.zvt_till.specs.declared.happenings.Sent.TheVariants.{Register, Pay, Reverse, CloseDay, Cancel, Foreign}
use Rattle.zvt_trace.specs.TraceEvent.{At, TraceEvent}
use Rattle.zvt_trace.specs.TraceEvent as trace_event
use Rattle.zvt_trace.specs.declared.direction.Direction.TheVariants.{FromTill, FromTerminal}
use Rattle.zvt_audit.specs.Happened.{happened_by, happenings_of, log_of, paid}
use Rattle.zvt_report.specs.Chapters.{Noted, Chapter, chapters, chapters_from, happenings, noted}
use Rattle.zvt_report.specs.Chapters as chapter
use Rattle.zvt_report.specs.Day.{day_of}
use Rattle.zvt_report.specs.Naming.{reversing, reversing_at, last_with}
use Rattle.zvt_report.proofs.NamingLemmas.{begins}
use Rattle.zvt_report.specs.Reported.{EachOrderHasAMessage, SameBooksAsAudit, beginning_in, beginning_lines, beginnings, happenings_with, message_if, reported, with_event}
use Rattle.zvt_report.specs.declared.rows.OrderRow.{OrderRow}
use Rattle.zvt_report.proofs.LawLemmas.{each_order_has_a_row}

-- ---- the same books

-- an order without the entry that it takes back
abbrev unnamed_order : Sent → Sent
unnamed_order (Register c) = Register c
unnamed_order (Pay a) = Pay a
unnamed_order (Reverse e) = Foreign
unnamed_order CloseDay = CloseDay
unnamed_order Cancel = Cancel
unnamed_order Foreign = Foreign

abbrev unnamed : Happening → Happening
unnamed Connected = Connected
unnamed (SentOut o) = SentOut (unnamed_order o)
unnamed (HeardIn m) = HeardIn m
unnamed Malformed = Malformed
unnamed Lost = Lost

-- the answers to an order name no entry
answers_kept : (log : List Happening) → up_to_order (map unnamed log) ≡ up_to_order log
answers_kept [] = refl
answers_kept (Connected ∷ log) = ap (λ (l : List Happening). Connected ∷ l) (answers_kept log)
answers_kept (SentOut (Register c) ∷ log) = refl
answers_kept (SentOut (Pay a) ∷ log) = refl
answers_kept (SentOut (Reverse e) ∷ log) = refl
answers_kept (SentOut CloseDay ∷ log) = refl
answers_kept (SentOut Cancel ∷ log) = ap (λ (l : List Happening). SentOut Cancel ∷ l) (answers_kept log)
answers_kept (SentOut Foreign ∷ log) = refl
answers_kept (HeardIn m ∷ log) = ap (λ (l : List Happening). HeardIn m ∷ l) (answers_kept log)
answers_kept (Malformed ∷ log) = ap (λ (l : List Happening). Malformed ∷ l) (answers_kept log)
answers_kept (Lost ∷ log) = ap (λ (l : List Happening). Lost ∷ l) (answers_kept log)

-- the books after a payment with these answers
abbrev with_payment : Books → Option ℕ → ℕ → List Happening → Books
with_payment b force a answers = judge b (record { opening = record { order = Pay a; currency = force; sole = None }; answers = answers })

-- the books don't depend on the entry that a reversal takes back
books_kept : (b : Books) (force : Option ℕ) (log : List Happening) → fold judge b (segments_from force (map unnamed log)) ≡ fold judge b (segments_from force log)
books_kept b force [] = refl
books_kept b force (Connected ∷ log) = books_kept b force log
books_kept b force (SentOut (Register c) ∷ log) = books_kept b c log
books_kept b force (SentOut (Pay a) ∷ log) =
    ap (λ (l : List Happening). fold judge (with_payment b force a l) (segments_from force (map unnamed log))) (answers_kept log)
    ∙ books_kept (with_payment b force a (up_to_order log)) force log
books_kept b force (SentOut (Reverse e) ∷ log) = books_kept b force log
books_kept b force (SentOut CloseDay ∷ log) = books_kept b force log
books_kept b force (SentOut Cancel ∷ log) = books_kept b force log
books_kept b force (SentOut Foreign ∷ log) = books_kept b force log
books_kept b force (HeardIn m ∷ log) = books_kept b force log
books_kept b force (Malformed ∷ log) = books_kept b force log
books_kept b force (Lost ∷ log) = books_kept b force log

unnamed_reversal : (book : List Entry) (receipt : Option (List ℕ)) → unnamed_order (reversing book receipt) ≡ Foreign
unnamed_reversal book None = refl
unnamed_reversal book (Some receipt) = by (last_with receipt 0 book)
  where
    by : (found : Option ℕ) → unnamed_order (reversing_at found) ≡ Foreign
    by None = refl
    by (Some place) = refl

-- an event does the same, apart from the entry that a reversal takes back
same_event : (book : List Entry) (event : TraceEvent) → map unnamed (happenings_with book event) ≡ map unnamed (happenings_of event)
same_event book (trace_event.message FromTill (ack payload)) = refl
same_event book (trace_event.message FromTill (nack code payload)) = refl
same_event book (trace_event.message FromTill (registration password config rest)) = refl
same_event book (trace_event.message FromTill (authorisation fields)) = refl
same_event book (trace_event.message FromTill (reversal password fields)) = ap (λ (o : Sent). SentOut o ∷ []) (unnamed_reversal book (receipt_of fields))
same_event book (trace_event.message FromTill (end_of_day password fields)) = refl
same_event book (trace_event.message FromTill (abort_order fields)) = refl
same_event book (trace_event.message FromTill (status fields)) = refl
same_event book (trace_event.message FromTill (intermediate step payload)) = refl
same_event book (trace_event.message FromTill (print_line attribute text)) = refl
same_event book (trace_event.message FromTill (text_block fields)) = refl
same_event book (trace_event.message FromTill (completion fields)) = refl
same_event book (trace_event.message FromTill (abort code payload)) = refl
same_event book (trace_event.message FromTill (other high low payload)) = refl
same_event book (trace_event.message FromTerminal m) = refl
same_event book (trace_event.refused from before byte why) = refl
same_event book (trace_event.unread from) = refl
same_event book (trace_event.resumed from size) = refl
same_event book (trace_event.cut_off from bytes) = refl
same_event book trace_event.lost = refl

map_append : {A B : Type 0} (f : A → B) (xs ys : List A) → map f (xs ++ ys) ≡ map f xs ++ map f ys
map_append f [] ys = refl
map_append f (x ∷ xs) ys = ap (λ l. f x ∷ l) (map_append f xs ys)

happenings_at : (line : ℕ) (happened : List Happening) → happenings (map (noted line) happened) ≡ happened
happenings_at line [] = refl
happenings_at line (h ∷ happened) = ap (λ (l : List Happening). h ∷ l) (happenings_at line happened)

abbrev unnamed_in : List Noted → List Happening
unnamed_in notes = map unnamed (happenings notes)

with_event_unnamed : (notes : List Noted) (event : At) → unnamed_in (with_event notes event) ≡ unnamed_in notes ++ map unnamed (happenings_of event.trace_event)
with_event_unnamed notes event =
    let happened = happenings_with (day_of notes).book event.trace_event in
    ap (map unnamed) (map_append (λ (n : Noted). n.happening) notes (map (noted event.line) happened) ∙ ap (λ (l : List Happening). happenings notes ++ l) (happenings_at event.line happened))
    ∙ map_append unnamed (happenings notes) happened
    ∙ ap (λ (l : List Happening). unnamed_in notes ++ l) (same_event (day_of notes).book event.trace_event)

all_unnamed : (notes : List Noted) (events : List At) → unnamed_in (fold with_event notes events) ≡ unnamed_in notes ++ map unnamed (happened_by events)
all_unnamed notes [] = sym (append-nil (unnamed_in notes))
all_unnamed notes (event ∷ events) =
    all_unnamed (with_event notes event) events
    ∙ ap (λ (l : List Happening). l ++ map unnamed (happened_by events)) (with_event_unnamed notes event)
    ∙ append_assoc (unnamed_in notes) (map unnamed (happenings_of event.trace_event)) (map unnamed (happened_by events))
    ∙ ap (λ (l : List Happening). unnamed_in notes ++ l) (sym (map_append unnamed (happenings_of event.trace_event) (happened_by events)))

pub same_books_as_audit : SameBooksAsAudit
same_books_as_audit events =
    sym (books_kept empty_books None (happenings (reported events)))
    ∙ ap (λ (l : List Happening). fold judge empty_books (segments_from None l)) (all_unnamed (noted 0 Connected ∷ []) events)
    ∙ books_kept empty_books None (log_of events)

-- ---- a message for each row

abbrev line_if : ℕ → Option Sent → List ℕ
line_if line None = []
line_if line (Some order) = line ∷ []

-- the lines at which these notes begin an order
abbrev begun_lines : List Noted → List ℕ
begun_lines [] = []
begun_lines (n ∷ notes) = line_if n.line (begun n.happening) ++ begun_lines notes

begun_append : (xs ys : List Noted) → begun_lines (xs ++ ys) ≡ begun_lines xs ++ begun_lines ys
begun_append [] ys = refl
begun_append (n ∷ xs) ys =
    ap (λ (l : List ℕ). line_if n.line (begun n.happening) ++ l) (begun_append xs ys) ∙ sym (append_assoc (line_if n.line (begun n.happening)) (begun_lines xs) (begun_lines ys))

chapters_begun : (force : Option ℕ) (notes : List Noted) → map (λ (c : Chapter). c.line) (chapters_from force notes) ≡ begun_lines notes
chapters_begun force [] = refl
chapters_begun force (n ∷ notes) = by (begun n.happening) (chapter.up_to_order notes) (chapters_from (force_after force n.happening) notes) (chapters_begun (force_after force n.happening) notes)
  where
    by : (b : Option Sent) (answers : List Noted) (later : List Chapter) → map (λ (c : Chapter). c.line) later ≡ begun_lines notes
        → map (λ (c : Chapter). c.line) (elim b as (λ x. List Chapter) [ None ↦ later | Some o ↦ record { order = o; currency = force; line = n.line; answers = answers } ∷ later ]) ≡ line_if n.line b ++ begun_lines notes
    by None answers later same = same
    by (Some o) answers later same = ap (λ (l : List ℕ). n.line ∷ l) same

begun_reversal : (line : ℕ) (book : List Entry) (receipt : Option (List ℕ)) → line_if line (begun (SentOut (reversing book receipt))) ≡ line ∷ []
begun_reversal line book receipt = ap (line_if line) (begins book receipt)

abbrev lines_at : ℕ → TraceEvent → List ℕ
lines_at line event = map (λ (m : Message). line) (beginning_in event)

-- an event has a message for the order that it begins
one_message : (book : List Entry) (line : ℕ) (event : TraceEvent) → begun_lines (map (noted line) (happenings_with book event)) ≡ lines_at line event
one_message book line (trace_event.message FromTill (ack payload)) = refl
one_message book line (trace_event.message FromTill (nack code payload)) = refl
one_message book line (trace_event.message FromTill (registration password config rest)) = refl
one_message book line (trace_event.message FromTill (authorisation fields)) = by (amount_of fields)
  where
    by : (amount : Option ℕ) → begun_lines (noted line (SentOut (paid amount)) ∷ []) ≡ map (λ (m : Message). line) (message_if (authorisation fields) (begun (SentOut (paid amount))))
    by None = refl
    by (Some amount) = refl
one_message book line (trace_event.message FromTill (reversal password fields)) = ap (λ (l : List ℕ). l ++ []) (begun_reversal line book (receipt_of fields))
one_message book line (trace_event.message FromTill (end_of_day password fields)) = refl
one_message book line (trace_event.message FromTill (abort_order fields)) = refl
one_message book line (trace_event.message FromTill (status fields)) = refl
one_message book line (trace_event.message FromTill (intermediate step payload)) = refl
one_message book line (trace_event.message FromTill (print_line attribute text)) = refl
one_message book line (trace_event.message FromTill (text_block fields)) = refl
one_message book line (trace_event.message FromTill (completion fields)) = refl
one_message book line (trace_event.message FromTill (abort code payload)) = refl
one_message book line (trace_event.message FromTill (other high low payload)) = refl
one_message book line (trace_event.message FromTerminal m) = refl
one_message book line (trace_event.refused from before byte why) = refl
one_message book line (trace_event.unread from) = refl
one_message book line (trace_event.resumed from size) = refl
one_message book line (trace_event.cut_off from bytes) = refl
one_message book line trace_event.lost = refl

begun_with : (notes : List Noted) (event : At) → begun_lines (with_event notes event) ≡ begun_lines notes ++ lines_at event.line event.trace_event
begun_with notes event =
    begun_append notes (map (noted event.line) (happenings_with (day_of notes).book event.trace_event))
    ∙ ap (λ (l : List ℕ). begun_lines notes ++ l) (one_message (day_of notes).book event.line event.trace_event)

all_begun : (notes : List Noted) (events : List At) → begun_lines (fold with_event notes events) ≡ begun_lines notes ++ beginning_lines events
all_begun notes [] = sym (append-nil (begun_lines notes))
all_begun notes (event ∷ events) =
    all_begun (with_event notes event) events
    ∙ ap (λ (l : List ℕ). l ++ beginning_lines events) (begun_with notes event)
    ∙ append_assoc (begun_lines notes) (lines_at event.line event.trace_event) (beginning_lines events)

-- each message has a line
each_has_a_line : (events : List At) → length (beginnings events) ≡ length (beginning_lines events)
each_has_a_line [] = refl
each_has_a_line (event ∷ events) =
    let later = each_has_a_line events in
    let messages : length (beginnings (event ∷ events)) ≡ length (beginning_in event.trace_event) + length (beginnings events) = length-append (beginning_in event.trace_event) (beginnings events) in
    let lines : length (beginning_lines (event ∷ events)) ≡ length (lines_at event.line event.trace_event) + length (beginning_lines events) = length-append (lines_at event.line event.trace_event) (beginning_lines events) in
    let same : length (lines_at event.line event.trace_event) ≡ length (beginning_in event.trace_event) = length-map (beginning_in event.trace_event) (λ (m : Message). event.line) in
    omega (arith, later, messages, lines, same)

pub each_order_has_a_message : EachOrderHasAMessage
each_order_has_a_message events =
    let lines : beginning_lines events ≡ map (λ (row : OrderRow). row.first) (day_of (reported events)).orders =
    sym (all_begun (noted 0 Connected ∷ []) events) ∙ sym (chapters_begun None (reported events)) ∙ sym (each_order_has_a_row (reported events)).1 in
    (each_has_a_line events ∙ ap length lines ∙ length-map (day_of (reported events)).orders (λ (row : OrderRow). row.first), lines)
