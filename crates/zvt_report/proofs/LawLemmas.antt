-- A day has the books of its log, and a row for each order.
use Rattle.std.proofs.Common.{◌≡◌, ℕ, ◌+◌, Bool, true, false, cond, List, [], ◌∷◌, ◌++◌, Option, Some, None, map, fold, refl, sym, ap, ap₂, subst, ◌∙◌, arith, append-nil, append_assoc}
use Rattle.std.proofs.lemmas.List.{map_push}
use Rattle.std.proofs.lemmas.List.Sums.{sum_by-cons}
use Rattle.std.proofs.lemmas.Simd.{map-map}
use Rattle.zvt_till.specs.declared.entries.Doubt.TheVariants.{No}
use Rattle.zvt_till.specs.declared.entries.Entry.{Entry}
use Rattle.zvt_till.specs.declared.happenings.Happening.{Happening}
use Rattle.zvt_till.specs.declared.happenings.Sent.{Sent}
use Rattle.zvt_till.specs.declared.happenings.Sent.TheVariants.{Register, Pay, Reverse, CloseDay, Cancel, Foreign}
use Rattle.zvt_till.specs.declared.orders.Order.TheVariants.{Pay as PayOrder}
use Rattle.zvt_till.specs.declared.outcomes.Cause.{Cause}
use Rattle.zvt_till.specs.declared.outcomes.Outcome.{Outcome}
use Rattle.zvt_till.specs.declared.outcomes.Outcome.TheVariants.{Registered, Paid, Declined, Refused, Aborted, Unclear, Reversed, DayClosed}
use Rattle.zvt_till.specs.Segments.{Opening, Segment, Ended, begun, force_after, up_to_order as segment_answers, segments_from, segments, statuses}
use Rattle.zvt_till.specs.Books.{Booked, Books, booked_as, charge_of, verdict_at, verdict_by, traces, write_down, judge_as, judge, empty_books, books_of, books}
use Rattle.zvt_till.specs.Laws.{row_of}
use Rattle.zvt_till.specs.Till.{book_after, unclear_after}
use Rattle.zvt_till.specs.Marks.{standing, total}
use Rattle.zvt_till.proofs.BookStepLemmas.{reversed-rows}
use Rattle.zvt_till.proofs.Payment.{verdict_of, payment-verdict}
use Rattle.zvt_report.specs.Chapters.{Noted, Chapter, up_to_order, chapters_from, chapters, ended, happenings, segment_of}
use Rattle.zvt_report.specs.Day.{DayValue, day_after, day_in, day_of, judged_as, no_orders, outcome_at, with_row}
use Rattle.zvt_report.specs.Day as day
use Rattle.zvt_report.specs.Laws.{SameBooks, EachOrderHasARow, SumsMakeBooked, booked_by, booked_in, booked_total, taken, taken_back, unclear_by, unclear_in}
use Rattle.zvt_report.specs.declared.rows.OrderRow.{OrderRow}

-- ---- chapters are segments with lines

answers-by : (b : Option Sent) (n : Noted) (rest : List Noted) → happenings (up_to_order rest) ≡ segment_answers (happenings rest)
    → happenings (elim b as (λ x. List Noted) [ None ↦ n ∷ up_to_order rest | Some o ↦ [] ]) ≡ elim b as (λ x. List Happening) [ None ↦ n.happening ∷ segment_answers (happenings rest) | Some o ↦ [] ]
answers-by None n rest e = ap (λ x. n.happening ∷ x) e
answers-by (Some o) n rest e = refl

same-answers : (notes : List Noted) → happenings (up_to_order notes) ≡ segment_answers (happenings notes)
same-answers [] = refl
same-answers (n ∷ rest) = answers-by (begun n.happening) n rest (same-answers rest)

segments-by : (force later : Option ℕ) (line : ℕ) (b : Option Sent) (answers : List Noted) (cs : List Chapter) (hs : List Happening) (ss : List Segment)
    → happenings answers ≡ hs → map segment_of cs ≡ ss
    → map segment_of (elim b as (λ x. List Chapter) [ None ↦ cs | Some o ↦ record { order = o; currency = force; line = line; answers = answers } ∷ cs ])
    ≡ elim b as (λ x. List Segment) [ None ↦ ss | Some o ↦ record { opening = record { order = o; currency = force; sole = None }; answers = hs } ∷ ss ]
segments-by force later line None answers cs hs ss e q = q
segments-by force later line (Some o) answers cs hs ss e q = ap₂ (λ x y. record { opening = record { order = o; currency = force; sole = None }; answers = x } ∷ y) e q

same-segments-from : (force : Option ℕ) (notes : List Noted) → map segment_of (chapters_from force notes) ≡ segments_from force (happenings notes)
same-segments-from force [] = refl
same-segments-from force (n ∷ rest) =
    segments-by force (force_after force n.happening) n.line (begun n.happening) (up_to_order rest) (chapters_from (force_after force n.happening) rest)
    (segment_answers (happenings rest)) (segments_from (force_after force n.happening) (happenings rest)) (same-answers rest) (same-segments-from (force_after force n.happening) rest)

pub same-segments : (notes : List Noted) → map segment_of (chapters notes) ≡ segments (happenings notes)
same-segments notes = same-segments-from None notes

-- ---- the same books

pub record Agrees (d : DayValue) (b : Books) : Type 0 where
  pub booked : map row_of d.book ≡ b.booked
  pub unclear : d.unclear ≡ b.unclear

-- what a payment's outcome adds to the rows
paid-rows : (book : List Entry) (a : ℕ) (out : Outcome) (b : Books) → map row_of book ≡ b.booked → map row_of (book_after book (PayOrder a) out) ≡ (write_down b a (verdict_of a out)).booked
paid-rows book a Registered b e = e
paid-rows book a (Paid t r) b e = map_push row_of book (record { amount = a; trace = t; receipt = r; reversed = false; doubt = No }) ∙ ap (λ x. x ++ booked_as a t r ∷ []) e
paid-rows book a (Declined c) b e = e
paid-rows book a (Refused c) b e = e
paid-rows book a (Aborted c) b e = e
paid-rows book a (Unclear x) b e = e
paid-rows book a Reversed b e = e
paid-rows book a DayClosed b e = e

paid-unclear : (unclear : List (ℕ × Cause)) (a : ℕ) (out : Outcome) (b : Books) → unclear ≡ b.unclear → unclear_after unclear (PayOrder a) out ≡ (write_down b a (verdict_of a out)).unclear
paid-unclear unclear a Registered b e = e
paid-unclear unclear a (Paid t r) b e = e
paid-unclear unclear a (Declined c) b e = e
paid-unclear unclear a (Refused c) b e = e
paid-unclear unclear a (Aborted c) b e = e
paid-unclear unclear a (Unclear x) b e = ap (λ y. y ++ (a, x) ∷ []) e
paid-unclear unclear a Reversed b e = e
paid-unclear unclear a DayClosed b e = e

abbrev opening_of : Chapter → Opening
opening_of c = record { order = c.order; currency = c.currency; sole = None }

verdict-at : (book : List Entry) (unclear : List (ℕ × Cause)) (b : Books) (opening : Opening) (a : ℕ) (end : Option Ended) → map row_of book ≡ b.booked
    → verdict_at (charge_of opening a) (traces b.booked) end ≡ verdict_of a (outcome_at book unclear opening.currency (PayOrder a) end)
verdict-at book unclear b opening a None e = refl
verdict-at book unclear b opening a (Some x) e =
    ap (λ ts. verdict_by (charge_of opening a) ts (statuses x.before) x.by) (ap traces (sym e) ∙ map-map (λ (row : Booked). row.trace) row_of book)
    ∙ payment-verdict (charge_of opening a) book (statuses x.before) x.by

agrees-payment : (d : DayValue) (b : Books) (c : Chapter) (a : ℕ) (row : OrderRow) → row.outcome ≡ outcome_at d.book d.unclear c.currency (PayOrder a) (ended c) → Agrees d b
    → Agrees (with_row d (PayOrder a) row) (judge_as (Pay a) b (opening_of c) (ended c))
agrees-payment d b c a row is g =
    let out : Outcome = outcome_at d.book d.unclear c.currency (PayOrder a) (ended c) in
    let verdict : verdict_at (charge_of (opening_of c) a) (traces b.booked) (ended c) ≡ verdict_of a out = verdict-at d.book d.unclear b (opening_of c) a (ended c) g.booked in
    record {
      booked = ap (λ x. map row_of (book_after d.book (PayOrder a) x)) is ∙ paid-rows d.book a out b g.booked ∙ ap (λ v. (write_down b a v).booked) (sym verdict);
      unclear = ap (unclear_after d.unclear (PayOrder a)) is ∙ paid-unclear d.unclear a out b g.unclear ∙ ap (λ v. (write_down b a v).unclear) (sym verdict);
    }

agrees-as : (d : DayValue) (b : Books) (c : Chapter) (o : Sent) (row : OrderRow) → row.outcome ≡ outcome_at d.book d.unclear c.currency (judged_as o) (ended c) → Agrees d b
    → Agrees (with_row d (judged_as o) row) (judge_as o b (opening_of c) (ended c))
agrees-as d b c (Register k) row is g = record { booked = g.booked; unclear = g.unclear }
agrees-as d b c (Pay a) row is g = agrees-payment d b c a row is g
agrees-as d b c (Reverse e) row is g = record { booked = reversed-rows d.book e row.outcome ∙ g.booked; unclear = g.unclear }
agrees-as d b c CloseDay row is g = record { booked = g.booked; unclear = g.unclear }
agrees-as d b c Cancel row is g = record { booked = g.booked; unclear = g.unclear }
agrees-as d b c Foreign row is g = record { booked = g.booked; unclear = g.unclear }

agrees-all : (d : DayValue) (b : Books) (cs : List Chapter) → Agrees d b → Agrees (fold day_after d cs) (fold judge b (map segment_of cs))
agrees-all d b [] g = g
agrees-all d b (c ∷ cs) g = agrees-all (day_after d c) (judge b (segment_of c)) cs (agrees-as d b c c.order (day.row_of d.book d.unclear c) refl g)

pub same_books : SameBooks
same_books notes =
    let g : Agrees (day_of notes) (books_of (map segment_of (chapters notes))) = agrees-all no_orders empty_books (chapters notes) (record { booked = refl; unclear = refl }) in
    let same : books_of (map segment_of (chapters notes)) ≡ books (happenings notes) = ap books_of (same-segments notes) in
    (g.booked ∙ ap (λ (b : Books). b.booked) same, g.unclear ∙ ap (λ (b : Books). b.unclear) same)

-- ---- each order has a row

pub record Listed (d : DayValue) (cs : List Chapter) : Type 0 where
  pub orders : map (λ (row : OrderRow). row.order) d.orders ≡ map (λ (c : Chapter). c.order) cs
  pub lines : map (λ (row : OrderRow). row.first) d.orders ≡ map (λ (c : Chapter). c.line) cs
  pub booked : booked_in d.orders ≡ map row_of d.book
  pub unclear : unclear_in d.orders ≡ d.unclear

booked-snoc : (rows : List OrderRow) (row : OrderRow) → booked_in (rows ++ row ∷ []) ≡ booked_in rows ++ booked_by row.order row.outcome
booked-snoc [] row = append-nil (booked_by row.order row.outcome)
booked-snoc (r ∷ rows) row = ap (λ x. booked_by r.order r.outcome ++ x) (booked-snoc rows row) ∙ sym (append_assoc (booked_by r.order r.outcome) (booked_in rows) (booked_by row.order row.outcome))

unclear-snoc : (rows : List OrderRow) (row : OrderRow) → unclear_in (rows ++ row ∷ []) ≡ unclear_in rows ++ unclear_by row.order row.outcome
unclear-snoc [] row = append-nil (unclear_by row.order row.outcome)
unclear-snoc (r ∷ rows) row = ap (λ x. unclear_by r.order r.outcome ++ x) (unclear-snoc rows row) ∙ sym (append_assoc (unclear_by r.order r.outcome) (unclear_in rows) (unclear_by row.order row.outcome))

nothing-more : {A : Type 0} (xs ys : List A) → xs ≡ ys → xs ++ [] ≡ ys
nothing-more xs ys e = append-nil xs ∙ e

book-grown : (book : List Entry) (so_far : List Booked) (o : Sent) (out : Outcome) → so_far ≡ map row_of book → so_far ++ booked_by o out ≡ map row_of (book_after book (judged_as o) out)
book-grown book so_far (Register c) out e = nothing-more so_far (map row_of book) e
book-grown book so_far (Pay a) Registered e = nothing-more so_far (map row_of book) e
book-grown book so_far (Pay a) (Paid t r) e = ap (λ x. x ++ booked_as a t r ∷ []) e ∙ sym (map_push row_of book (record { amount = a; trace = t; receipt = r; reversed = false; doubt = No }))
book-grown book so_far (Pay a) (Declined c) e = nothing-more so_far (map row_of book) e
book-grown book so_far (Pay a) (Refused c) e = nothing-more so_far (map row_of book) e
book-grown book so_far (Pay a) (Aborted c) e = nothing-more so_far (map row_of book) e
book-grown book so_far (Pay a) (Unclear x) e = nothing-more so_far (map row_of book) e
book-grown book so_far (Pay a) Reversed e = nothing-more so_far (map row_of book) e
book-grown book so_far (Pay a) DayClosed e = nothing-more so_far (map row_of book) e
book-grown book so_far (Reverse i) out e = nothing-more so_far (map row_of book) e ∙ sym (reversed-rows book i out)
book-grown book so_far CloseDay out e = nothing-more so_far (map row_of book) e
book-grown book so_far Cancel out e = nothing-more so_far (map row_of book) e
book-grown book so_far Foreign out e = nothing-more so_far (map row_of book) e

unclear-grown : (unclear so_far : List (ℕ × Cause)) (o : Sent) (out : Outcome) → so_far ≡ unclear → so_far ++ unclear_by o out ≡ unclear_after unclear (judged_as o) out
unclear-grown unclear so_far (Register c) out e = nothing-more so_far unclear e
unclear-grown unclear so_far (Pay a) Registered e = nothing-more so_far unclear e
unclear-grown unclear so_far (Pay a) (Paid t r) e = nothing-more so_far unclear e
unclear-grown unclear so_far (Pay a) (Declined c) e = nothing-more so_far unclear e
unclear-grown unclear so_far (Pay a) (Refused c) e = nothing-more so_far unclear e
unclear-grown unclear so_far (Pay a) (Aborted c) e = nothing-more so_far unclear e
unclear-grown unclear so_far (Pay a) (Unclear x) e = ap (λ y. y ++ (a, x) ∷ []) e
unclear-grown unclear so_far (Pay a) Reversed e = nothing-more so_far unclear e
unclear-grown unclear so_far (Pay a) DayClosed e = nothing-more so_far unclear e
unclear-grown unclear so_far (Reverse i) out e = nothing-more so_far unclear e
unclear-grown unclear so_far CloseDay out e = nothing-more so_far unclear e
unclear-grown unclear so_far Cancel out e = nothing-more so_far unclear e
unclear-grown unclear so_far Foreign out e = nothing-more so_far unclear e

listed-more : (d : DayValue) (before : List Chapter) (c : Chapter) → Listed d before → Listed (day_after d c) (before ++ c ∷ [])
listed-more d before c g =
    let row : OrderRow = day.row_of d.book d.unclear c in
    record {
      orders = map_push (λ (r : OrderRow). r.order) d.orders row ∙ ap (λ x. x ++ c.order ∷ []) g.orders ∙ sym (map_push (λ (k : Chapter). k.order) before c);
      lines = map_push (λ (r : OrderRow). r.first) d.orders row ∙ ap (λ x. x ++ c.line ∷ []) g.lines ∙ sym (map_push (λ (k : Chapter). k.line) before c);
      booked = booked-snoc d.orders row ∙ book-grown d.book (booked_in d.orders) c.order row.outcome g.booked;
      unclear = unclear-snoc d.orders row ∙ unclear-grown d.unclear (unclear_in d.orders) c.order row.outcome g.unclear;
    }

listed-all : (d : DayValue) (before cs : List Chapter) → Listed d before → Listed (fold day_after d cs) (before ++ cs)
listed-all d before [] g = subst (λ x. Listed d x) (sym (append-nil before)) g
listed-all d before (c ∷ cs) g =
    subst (λ x. Listed (fold day_after (day_after d c) cs) x) (append_assoc before (c ∷ []) cs) (listed-all (day_after d c) (before ++ c ∷ []) cs (listed-more d before c g))

pub each_order_has_a_row : EachOrderHasARow
each_order_has_a_row notes =
    let g : Listed (day_of notes) (chapters notes) = listed-all no_orders [] (chapters notes) (record { orders = refl; lines = refl; booked = refl; unclear = refl }) in
    (g.orders, g.lines, g.booked, g.unclear)

-- ---- sums

one-sum : (b : Bool) (amount rest back sum : ℕ) → rest + back ≡ sum → (cond b 0 amount + rest) + (cond b amount 0 + back) ≡ amount + sum
one-sum true amount rest back sum e = omega arith
one-sum false amount rest back sum e = omega arith

pub sums_make_booked : SumsMakeBooked
sums_make_booked [] = refl
sums_make_booked (entry ∷ book) =
    ap₂ (λ x y. x + y) (sum_by-cons standing entry book) (sum_by-cons taken entry book)
    ∙ one-sum entry.reversed entry.amount (total book) (taken_back book) (booked_total book) (sums_make_booked book)
    ∙ sym (sum_by-cons (λ (e : Entry). e.amount) entry book)
