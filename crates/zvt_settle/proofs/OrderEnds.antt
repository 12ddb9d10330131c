-- What a till that settles knows after an order, by the steps and by the whole chapter.
use Rattle.std.proofs.Common.{◌≡◌, ℕ, Bool, true, false, cond, ◌&&◌, ◌==◌, List, [], ◌∷◌, ◌++◌, length, Option, Some, None, map, fold, slice_get, option_map, option_and_then, refl, sym, ap, ap₂, ◌∙◌, eq-eqb}
use Rattle.std.proofs.lemmas.List.{map_push}
use Rattle.std.proofs.lemmas.List.Elements.{filter-append}
use Rattle.std.proofs.lemmas.Option.{slice_get-map}
use Rattle.zvt_till.specs.declared.entries.Doubt.TheVariants.{No, TakenBack}
use Rattle.zvt_till.specs.declared.entries.Entry.{Entry}
use Rattle.zvt_till.specs.declared.happenings.Happening.{Happening}
use Rattle.zvt_till.specs.declared.happenings.Sent.{Sent}
use Rattle.zvt_till.specs.declared.happenings.Sent.TheVariants.{Register, Pay, Reverse, CloseDay}
use Rattle.zvt_till.specs.declared.orders.Order.{Order}
use Rattle.zvt_till.specs.declared.orders.Order.TheVariants.{Register as RegisterOrder, Pay as PayOrder, Reverse as ReverseOrder, CloseDay as CloseDayOrder}
use Rattle.zvt_till.specs.declared.outcomes.Cause.{Cause}
use Rattle.zvt_till.specs.declared.outcomes.Outcome.{Outcome}
use Rattle.zvt_till.specs.declared.outcomes.Outcome.TheVariants.{Registered, Paid, Declined, Refused as RefusedOutcome, Aborted, Unclear as UnclearOutcome, Reversed, DayClosed}
use Rattle.zvt_till.specs.Books.{Booked, booked_as, Books, charge_of, traces, verdict_by, write_down, is_finished, settled}
use Rattle.zvt_till.specs.Doubts.{already_reversed, reversing, doubt_at}
use Rattle.zvt_till.specs.Laws.{row_of}
use Rattle.zvt_till.specs.Marks.{entry_of, takes_back}
use Rattle.zvt_till.specs.Segments.{Opening, Ended, is_completion, status_of, statuses, completes}
use Rattle.zvt_till.specs.Till.{entry_after, book_after, unclear_after}
use Rattle.zvt_till.proofs.BookStepLemmas.{reversed-rows}
use Rattle.zvt_till.proofs.Marks.{after_end}
use Rattle.zvt_till.proofs.Payment.{verdict_of}
use Rattle.zvt_till.proofs.Settled.{IsSettled}
use Rattle.zvt_settle.specs.declared.deciding.StatusSoFar.TheVariants.{Nothing}
use Rattle.zvt_settle.specs.declared.deciding.What.{What}
use Rattle.zvt_settle.specs.declared.deciding.What.TheVariants.{Payment, Reversal}
use Rattle.zvt_settle.specs.Deciding.{status_after, one_status}
use Rattle.zvt_settle.specs.Settling.{Settling, opened_by, opened, pending_as, ended, so_far_in}
use Rattle.zvt_settle.specs.Story.{one_said, completed_with, Left, Known, Doubted, AsBefore, left_by_verdict, left_by_doubt, closes, registers, what_of}
use Rattle.zvt_settle.proofs.Chapters.{Sum}
use Rattle.zvt_settle.proofs.ChapterEnds.{left_of, Proper, known-completes, completion-silent, one-of-all, left_end_reversal, left_end, last_end, pending_end, order_end}

-- the till and its log agree
pub record Agree (sum : Sum) (book : List Entry) (loose : List (ℕ × Cause)) (s : Settling) : Type 0 where
  pub rows : map row_of book ≡ sum.books.booked
  pub unclear : loose ≡ settled sum.books.unclear
  pub last : s.last ≡ sum.last
  pub pending : s.pending ≡ sum.pending
  pub settled : s.settled ≡ sum.settled

-- ---- what is known after an outcome

abbrev ended_by : Settling → Order → Left → (place : ℕ) → Settling
ended_by s order Known place = record s { last = one_status s.so_far }
ended_by s order Doubted place = opened s (opened_by order place)
ended_by s order AsBefore place = s

by-left : (s : Settling) (order : Order) (out : Outcome) (place : ℕ) → ended s order out place ≡ ended_by s order (left_of out) place
by-left s order Registered place = refl
by-left s order (Paid t r) place = refl
by-left s order (Declined c) place = refl
by-left s order (RefusedOutcome c) place = refl
by-left s order (Aborted c) place = refl
by-left s order (UnclearOutcome cause) place = refl
by-left s order Reversed place = refl
by-left s order DayClosed place = refl

-- an order whose doubts can be settled
record Settleable (order : Order) (o : Sent) (place : ℕ) (b : Books) : Type 0 where
  what : What
  opens : opened_by order place ≡ Some what
  leaves : what_of o b ≡ Some what
  keeps : closes o ≡ false
  ends : registers o ≡ false

left-last : (s : Settling) (order : Order) (o : Sent) (place : ℕ) (sum : Sum) (left : Left) (end : Option Ended) → Settleable order o place sum.books → s.last ≡ sum.last
    → (left ≡ Known → one_status s.so_far ≡ completed_with end) → (ended_by s order left place).last ≡ last_end left sum.last o end
left-last s order o place sum Known end k e known = known refl
left-last s order o place sum Doubted end k e known = ap (λ w. (opened s w).last) k.opens
left-last s order o place sum AsBefore end k e known = e ∙ ap (λ b. cond b None sum.last) (sym k.keeps)

left-pending : (s : Settling) (order : Order) (o : Sent) (place : ℕ) (sum : Sum) (left : Left) → Settleable order o place sum.books → s.last ≡ sum.last → s.pending ≡ None
    → (ended_by s order left place).pending ≡ pending_end left sum.books sum.last o
left-pending s order o place sum Known k e none = none
left-pending s order o place sum Doubted k e none =
    ap (λ w. (opened s w).pending) k.opens ∙ ap (option_map (pending_as k.what)) e ∙ ap (option_and_then (λ what. option_map (pending_as what) sum.last)) (sym k.leaves)
left-pending s order o place sum AsBefore k e none = none

-- neither changes what was settled
left-settled : (s : Settling) (order : Order) (left : Left) (place : ℕ) → (ended_by s order left place).settled ≡ s.settled
left-settled s order Known place = refl
left-settled s order Doubted place = by_what (opened_by order place)
  where
    by_what : (w : Option What) → (opened s w).settled ≡ s.settled
    by_what None = refl
    by_what (Some w) = refl
left-settled s order AsBefore place = refl

left-asking : (s : Settling) (order : Order) (left : Left) (place : ℕ) → (ended_by s order left place).asking ≡ s.asking
left-asking s order Known place = refl
left-asking s order Doubted place = by_what (opened_by order place)
  where
    by_what : (w : Option What) → (opened s w).asking ≡ s.asking
    by_what None = refl
    by_what (Some w) = refl
left-asking s order AsBefore place = refl

pub ended-asking : (s : Settling) (order : Order) (out : Outcome) (place : ℕ) → (ended s order out place).asking ≡ s.asking
ended-asking s order out place = ap (λ x. x.asking) (by-left s order out place) ∙ left-asking s order (left_of out) place

pub ended-settled : (s : Settling) (order : Order) (out : Outcome) (place : ℕ) → (ended s order out place).settled ≡ s.settled
ended-settled s order out place = ap (λ x. x.settled) (by-left s order out place) ∙ left-settled s order (left_of out) place

-- what the till knows as its order ends, and the chapter up to then
pub record Before (o : Sent) (sum : Sum) (book : List Entry) (loose : List (ℕ × Cause)) (s : Settling) (hs : List Happening) : Type 0 where
  pub rows : map row_of book ≡ sum.books.booked
  pub unclear : loose ≡ settled sum.books.unclear
  pub last : s.last ≡ cond (closes o) None sum.last
  pub pending : s.pending ≡ cond (registers o) sum.pending None
  pub settled : s.settled ≡ sum.settled
  pub so_far : s.so_far ≡ fold status_after Nothing (statuses hs)

-- after one more happening
abbrev pub with_status : Settling → Happening → Settling
with_status s h = record s { so_far = so_far_in s.so_far (status_of h) }

known-said : (s : Settling) (hs : List Happening) (h : Happening) → s.so_far ≡ fold status_after Nothing (statuses hs) → is_completion h ≡ true
    → one_status (with_status s h).so_far ≡ completed_with (Some (record { before = hs; by = h }))
known-said s hs h e c =
    ap one_status (completion-silent s.so_far h c ∙ e) ∙ one-of-all (statuses hs) ∙ ap (λ b. cond b (one_said (statuses hs)) None) (sym c)

abbrev end_by : List Happening → Happening → Option Ended
end_by hs h = Some (record { before = hs; by = h })

-- after a payment or a reversal that left things so
settleable-ends : (order : Order) (o : Sent) (op : Opening) (place : ℕ) (sum : Sum) (book new : List Entry) (unclear new_unclear : List (ℕ × Cause)) (s : Settling) (hs : List Happening) (h : Happening) (out : Outcome)
    → op.order ≡ o → Settleable order o place sum.books → Before o sum book unclear s hs → Proper order h out
    → left_end op.order sum.books op (end_by hs h) ≡ left_of out
    → map row_of new ≡ (order_end sum op (end_by hs h)).books.booked → new_unclear ≡ settled (order_end sum op (end_by hs h)).books.unclear
    → Agree (order_end sum op (end_by hs h)) new new_unclear (ended (with_status s h) order out place)
settleable-ends order o op place sum book new unclear new_unclear s hs h out is k b p left rows loose =
    let now : Settling = with_status s h in
    let last : s.last ≡ sum.last = b.last ∙ ap (λ x. cond x None sum.last) k.keeps in
    let none : s.pending ≡ None = b.pending ∙ ap (λ x. cond x sum.pending None) k.ends in
    let known : left_of out ≡ Known → one_status now.so_far ≡ completed_with (end_by hs h) = λ e. known-said s hs h b.so_far (known-completes order h out p e) in
    let ends = by-left now order out place in
    record {
      rows = rows;
      unclear = loose;
      last =
          ap (λ x. x.last) ends ∙ left-last now order o place sum (left_of out) (end_by hs h) k last known
          ∙ ap₂ (λ l x. last_end l sum.last x (end_by hs h)) (sym left) (sym is);
      pending =
          ap (λ x. x.pending) ends ∙ left-pending now order o place sum (left_of out) k last none
          ∙ ap₂ (λ l x. pending_end l sum.books sum.last x) (sym left) (sym is)
          ∙ ap (λ x. cond x sum.pending (pending_end (left_end op.order sum.books op (end_by hs h)) sum.books sum.last op.order)) (sym (ap registers is ∙ k.ends));
      settled = ap (λ x. x.settled) ends ∙ left-settled now order (left_of out) place ∙ b.settled;
    }

-- ---- a payment

verdict-left : (a : ℕ) (h : Happening) (out : Outcome) → IsSettled out → Proper (PayOrder a) h out → left_by_verdict (verdict_of a out) ≡ left_of out
verdict-left a h Registered s p = refl
verdict-left a h (Paid t r) s p = refl
verdict-left a h (Declined c) s p = refl
verdict-left a h (RefusedOutcome c) s p = refl
verdict-left a h (Aborted c) s p = refl
verdict-left a h (UnclearOutcome cause) s p = ap (λ b. cond b Doubted AsBefore) s
verdict-left a h Reversed s p = absurd p.0
verdict-left a h DayClosed s p = refl

pay-rows : (b : Books) (book : List Entry) (a : ℕ) (out : Outcome) → map row_of book ≡ b.booked → map row_of (book_after book (PayOrder a) out) ≡ (write_down b a (verdict_of a out)).booked
pay-rows b book a Registered e = e
pay-rows b book a (Paid t r) e = map_push row_of book (record { amount = a; trace = t; receipt = r; reversed = false; doubt = No }) ∙ ap (λ rows. rows ++ booked_as a t r ∷ []) e
pay-rows b book a (Declined c) e = e
pay-rows b book a (RefusedOutcome c) e = e
pay-rows b book a (Aborted c) e = e
pay-rows b book a (UnclearOutcome cause) e = e
pay-rows b book a Reversed e = e
pay-rows b book a DayClosed e = e

pay-loose : (b : Books) (a : ℕ) (out : Outcome) → IsSettled out → unclear_after (settled b.unclear) (PayOrder a) out ≡ settled (write_down b a (verdict_of a out)).unclear
pay-loose b a Registered s = refl
pay-loose b a (Paid t r) s = refl
pay-loose b a (Declined c) s = refl
pay-loose b a (RefusedOutcome c) s = refl
pay-loose b a (Aborted c) s = refl
pay-loose b a (UnclearOutcome cause) s =
    ap (λ v. settled b.unclear ++ v) (sym (ap (λ x. cond x ((a, cause) ∷ []) []) s)) ∙ sym (filter-append (λ row. is_finished row.1) b.unclear ((a, cause) ∷ []))
pay-loose b a Reversed s = refl
pay-loose b a DayClosed s = refl

pub pay-ends : (a : ℕ) (force : Option ℕ) (sum : Sum) (book : List Entry) (unclear : List (ℕ × Cause)) (s : Settling) (hs : List Happening) (h : Happening) (out : Outcome)
    → let op : Opening = record { order = Pay a; currency = force; sole = None } in
    Before (Pay a) sum book unclear s hs → Proper (PayOrder a) h out → IsSettled out
    → verdict_by (charge_of op a) (traces sum.books.booked) (statuses hs) h ≡ verdict_of a out
    → Agree (order_end sum op (end_by hs h)) (book_after book (PayOrder a) out) (unclear_after unclear (PayOrder a) out) (ended (with_status s h) (PayOrder a) out (length unclear))
pay-ends a force sum book unclear s hs h out b p settles v =
    let op : Opening = record { order = Pay a; currency = force; sole = None } in
    settleable-ends (PayOrder a) (Pay a) op (length unclear) sum book (book_after book (PayOrder a) out) unclear (unclear_after unclear (PayOrder a) out) s hs h out refl
    (record {
      what = Payment (length unclear) a;
      opens = refl;
      leaves = ap (λ rows. Some (Payment (length rows) a)) (sym b.unclear);
      keeps = refl;
      ends = refl;
    })
    b p (ap left_by_verdict v ∙ verdict-left a h out settles p)
    (pay-rows sum.books book a out b.rows ∙ ap (λ x. (write_down sum.books a x).booked) (sym v))
    (ap (λ rows. unclear_after rows (PayOrder a) out) b.unclear ∙ pay-loose sum.books a out settles ∙ ap (λ x. settled (write_down sum.books a x).unclear) (sym v))

-- ---- a reversal

abbrev left_of_entry : Entry → Left
left_of_entry x = cond x.reversed Known (left_by_doubt x.doubt)

entry-left : (e : ℕ) (h : Happening) (row : Booked) (out : Outcome) → Proper (ReverseOrder e) h out → left_of_entry (entry_after (entry_of false No row) out) ≡ left_of out
entry-left e h row Registered p = refl
entry-left e h row (Paid t r) p = absurd p.0
entry-left e h row (Declined c) p = refl
entry-left e h row (RefusedOutcome c) p = by_code (c == already_reversed)
  where
    by_code : (b : Bool) → left_by_doubt (cond b TakenBack No) ≡ AsBefore
    by_code true = refl
    by_code false = refl
entry-left e h row (Aborted c) p = by_code (c == already_reversed)
  where
    by_code : (b : Bool) → left_by_doubt (cond b TakenBack No) ≡ AsBefore
    by_code true = refl
    by_code false = refl
entry-left e h row (UnclearOutcome cause) p = refl
entry-left e h row Reversed p = refl
entry-left e h row DayClosed p = refl

found-row : (book : List Entry) (rows : List Booked) (e : ℕ) (x : Entry) → map row_of book ≡ rows → slice_get book e ≡ Some x → slice_get rows e ≡ Some (row_of x)
found-row book rows e x same found = ap (λ ys. slice_get ys e) (sym same) ∙ slice_get-map row_of book e ∙ ap (option_map row_of) found

reversal-left : (e : ℕ) (force : Option ℕ) (b : Books) (row : Booked) (hs : List Happening) (h : Happening) (out : Outcome)
    → let op : Opening = record { order = Reverse e; currency = force; sole = None } in
    Proper (ReverseOrder e) h out → slice_get b.booked e ≡ Some row → entry_after (entry_of false No row) out ≡ after_end op row (end_by hs h) (entry_of false No row)
    → left_end (Reverse e) b op (end_by hs h) ≡ left_of out
reversal-left e force b row hs h out p found after =
    let op : Opening = record { order = Reverse e; currency = force; sole = None } in
    let end : Option Ended = end_by hs h in
    ap (λ o. left_end_reversal e op end o) found
    ∙ ap (λ x. cond (x && completes (takes_back op row) end) Known (left_by_doubt (cond x (doubt_at (reversing op row) No end) No))) (eq-eqb e e refl)
    ∙ ap left_of_entry (sym after)
    ∙ entry-left e h row out p

pub reversal-ends : (e : ℕ) (force : Option ℕ) (sum : Sum) (book : List Entry) (unclear : List (ℕ × Cause)) (s : Settling) (hs : List Happening) (h : Happening) (x : Entry) (out : Outcome)
    → let op : Opening = record { order = Reverse e; currency = force; sole = None } in
    Before (Reverse e) sum book unclear s hs → Proper (ReverseOrder e) h out → slice_get book e ≡ Some x
    → entry_after (entry_of false No (row_of x)) out ≡ after_end op (row_of x) (end_by hs h) (entry_of false No (row_of x))
    → Agree (order_end sum op (end_by hs h)) (book_after book (ReverseOrder e) out) (unclear_after unclear (ReverseOrder e) out) (ended (with_status s h) (ReverseOrder e) out (length unclear))
reversal-ends e force sum book unclear s hs h x out b p found after =
    let op : Opening = record { order = Reverse e; currency = force; sole = None } in
    settleable-ends (ReverseOrder e) (Reverse e) op (length unclear) sum book (book_after book (ReverseOrder e) out) unclear (unclear_after unclear (ReverseOrder e) out) s hs h out refl
    (record { what = Reversal e; opens = refl; leaves = refl; keeps = refl; ends = refl })
    b p (reversal-left e force sum.books (row_of x) hs h out p (found-row book sum.books.booked e x b.rows found) after)
    (reversed-rows book e out ∙ b.rows) b.unclear

-- ---- any other order

-- its end changes nothing
abbrev pub Plain : Order → Type 0
Plain order = ((place : ℕ) → opened_by order place ≡ None) × ((h : Happening) (out : Outcome) → Proper order h out → left_of out ≡ Known → ⊥)

plain-left : (s : Settling) (order : Order) (left : Left) (place : ℕ) → opened_by order place ≡ None → (left ≡ Known → ⊥) → ended_by s order left place ≡ s
plain-left s order Known place none other = absurd (other refl)
plain-left s order Doubted place none other = ap (opened s) none
plain-left s order AsBefore place none other = refl

pub plain-stays : (s : Settling) (order : Order) (h : Happening) (out : Outcome) (place : ℕ) → Plain order → Proper order h out → ended s order out place ≡ s
plain-stays s order h out place k p = by-left s order out place ∙ plain-left s order (left_of out) place (k.0 place) (k.1 h out p)

register-known : (h : Happening) (out : Outcome) → Proper RegisterOrder h out → left_of out ≡ Known → ⊥
register-known h Registered p e = cc
register-known h (Paid t r) p e = p.0
register-known h (Declined c) p e = cc
register-known h (RefusedOutcome c) p e = cc
register-known h (Aborted c) p e = cc
register-known h (UnclearOutcome cause) p e = cc
register-known h Reversed p e = p.0
register-known h DayClosed p e = cc

closing-known : (h : Happening) (out : Outcome) → Proper CloseDayOrder h out → left_of out ≡ Known → ⊥
closing-known h Registered p e = cc
closing-known h (Paid t r) p e = p.0
closing-known h (Declined c) p e = cc
closing-known h (RefusedOutcome c) p e = cc
closing-known h (Aborted c) p e = cc
closing-known h (UnclearOutcome cause) p e = cc
closing-known h Reversed p e = p.0
closing-known h DayClosed p e = cc

pub plain-register : Plain RegisterOrder
plain-register = ((λ place. refl), register-known)

pub plain-closing : Plain CloseDayOrder
plain-closing = ((λ place. refl), closing-known)

pub register-ends : (own : ℕ) (force : Option ℕ) (sum : Sum) (book : List Entry) (unclear : List (ℕ × Cause)) (s : Settling) (hs : List Happening) (h : Happening) (out : Outcome)
    → Before (Register (Some own)) sum book unclear s hs → Proper RegisterOrder h out
    → Agree (order_end sum (record { order = Register (Some own); currency = force; sole = None }) (end_by hs h)) (book_after book RegisterOrder out) (unclear_after unclear RegisterOrder out) (ended (with_status s h) RegisterOrder out (length unclear))
register-ends own force sum book unclear s hs h out b p =
    let stays = plain-stays (with_status s h) RegisterOrder h out (length unclear) plain-register p in
    record {
      rows = b.rows;
      unclear = b.unclear;
      last = ap (λ x. x.last) stays ∙ b.last;
      pending = ap (λ x. x.pending) stays ∙ b.pending;
      settled = ap (λ x. x.settled) stays ∙ b.settled;
    }

pub closing-ends : (force : Option ℕ) (sum : Sum) (book : List Entry) (unclear : List (ℕ × Cause)) (s : Settling) (hs : List Happening) (h : Happening) (out : Outcome)
    → Before CloseDay sum book unclear s hs → Proper CloseDayOrder h out
    → Agree (order_end sum (record { order = CloseDay; currency = force; sole = None }) (end_by hs h)) (book_after book CloseDayOrder out) (unclear_after unclear CloseDayOrder out) (ended (with_status s h) CloseDayOrder out (length unclear))
closing-ends force sum book unclear s hs h out b p =
    let stays = plain-stays (with_status s h) CloseDayOrder h out (length unclear) plain-closing p in
    record {
      rows = b.rows;
      unclear = b.unclear;
      last = ap (λ x. x.last) stays ∙ b.last;
      pending = ap (λ x. x.pending) stays ∙ b.pending;
      settled = ap (λ x. x.settled) stays ∙ b.settled;
    }
