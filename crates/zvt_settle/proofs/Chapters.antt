-- A log note by note: the sum of its closed chapters, and the open one. Of what a log settles, and of an open ask.
use Rattle.std.proofs.Common.{◌≡◌, ℕ, Bool, false, cond, List, [], ◌∷◌, ◌++◌, Option, Some, None, fold, option_map, option_to_list, refl, sym, ap, ◌∙◌, append-nil, append_assoc}
use Rattle.zvt_till.specs.declared.happenings.Happening.{Happening}
use Rattle.zvt_till.specs.declared.happenings.Sent.{Sent}
use Rattle.zvt_till.specs.declared.happenings.Sent.TheVariants.{Register, Pay, Reverse, CloseDay, Cancel, Foreign}
use Rattle.zvt_till.specs.declared.messages.StatusFacts.{StatusFacts}
use Rattle.zvt_till.specs.Books.{Books, Verdict, Entered, Unclear, Refused, empty_books, charge_of, traces, verdict_at, write_down, judge_as, judge}
use Rattle.zvt_till.specs.Segments.{Segment, begun, force_after, end_of}
use Rattle.zvt_settle.specs.declared.deciding.Pending.{Pending}
use Rattle.zvt_settle.specs.declared.deciding.Settlement.{Settlement}
use Rattle.zvt_settle.specs.Settling.{Note, Line, Asked}
use Rattle.zvt_settle.specs.Story.{Chapter, Ordered, AskedThen, up_to_next, chapters_from, chapters, answer_of, Left, AsBefore, left_by_verdict, left_as, left_by, last_left, registers, first_answer, pending_after, settled_by, settlements_from, settlements, is_open_ask, asking_in}

-- what the chapters so far leave
pub record Sum : Type 0 where
  pub books : Books
  pub last : Option StatusFacts
  pub pending : Option Pending
  pub settled : List Settlement
  -- the last chapter is an ask without an end
  pub asks : Bool

abbrev pub no_sum : Sum
no_sum = record { books = empty_books; last = None; pending = None; settled = []; asks = false }

abbrev pub add_order : Sum → Segment → Sum
add_order s c =
    record {
      books = judge s.books c;
      last = last_left (left_by s.books c) s.last c;
      pending = cond (registers c.opening.order) s.pending (pending_after (left_by s.books c) s.books s.last c);
      settled = s.settled;
      asks = false;
    }

abbrev pub add_answer : (currency : ℕ) → Sum → Bool → Option StatusFacts → Sum
add_answer currency s unended None = record s { asks = unended }
add_answer currency s unended (Some a) =
    record { books = s.books; last = Some a; pending = None; settled = s.settled ++ option_to_list (settled_by currency s.books s.settled s.pending (Some a)); asks = unended }

-- one more chapter
abbrev pub add_chapter : (currency : ℕ) → Sum → Chapter → Sum
add_chapter currency s (Ordered c) = add_order s c
add_chapter currency s (AskedThen answers) = add_answer currency s (is_open_ask false (AskedThen answers)) (answer_of answers)

-- ---- what a log settles is what its chapters add

unanswered : (currency : ℕ) (b : Books) (so_far : List Settlement) (p : Option Pending) → settled_by currency b so_far p None ≡ None
unanswered currency b so_far None = refl
unanswered currency b so_far (Some p) = refl

-- what the chapters ahead settle of what is pending
abbrev with_pending : (currency : ℕ) → Books → List Settlement → Option Pending → Option StatusFacts → List Settlement
with_pending currency b so_far p answer = so_far ++ option_to_list (settled_by currency b so_far p answer)

abbrev settles_from : (currency : ℕ) → Sum → List Chapter → List Settlement
settles_from currency s cs = settlements_from currency s.books s.last (with_pending currency s.books s.settled s.pending (first_answer cs)) cs

no-answer : (currency : ℕ) (b : Books) (so_far : List Settlement) (p : Option Pending) → with_pending currency b so_far p None ≡ so_far
no-answer currency b so_far p = ap (λ o. so_far ++ option_to_list o) (unanswered currency b so_far p) ∙ append-nil so_far

ask-adds : (currency : ℕ) (s : Sum) (unended : Bool) (a : Option StatusFacts) (more : List Chapter)
    → settles_from currency (add_answer currency s unended a) more
    ≡ settlements_from currency s.books (elim a [ None ↦ s.last | Some x ↦ Some x ])
    (with_pending currency s.books s.settled s.pending (elim a [ None ↦ first_answer more | Some x ↦ Some x ]) ++ []) more
ask-adds currency s unended None more =
    let xs = with_pending currency s.books s.settled s.pending (first_answer more) in
    ap (λ x. settlements_from currency s.books s.last x more) (sym (append-nil xs))
ask-adds currency s unended (Some a) more = refl

-- an order that is pending has changed no rows of the book
settled-alike : (currency : ℕ) (b c : Books) (so_far : List Settlement) (p : Option Pending) (a : Option StatusFacts) → c.booked ≡ b.booked
    → settled_by currency c so_far p a ≡ settled_by currency b so_far p a
settled-alike currency b c so_far p a e = ap (λ rows. settled_by currency (record { booked = rows; unclear = c.unclear }) so_far p a) e ∙ by_pending p
  where
    by_pending : (q : Option Pending) → settled_by currency (record { booked = b.booked; unclear = c.unclear }) so_far q a ≡ settled_by currency b so_far q a
    by_pending None = refl
    by_pending (Some q) = refl

abbrev left_pending : Left → Sum → Segment → Option Pending
left_pending left s c = pending_after left s.books s.last c

pay-alike : (currency : ℕ) (s : Sum) (c : Segment) (amount : ℕ) (v : Verdict) (a : Option StatusFacts)
    → settled_by currency (write_down s.books amount v) s.settled (left_pending (left_by_verdict v) s c) a
    ≡ settled_by currency s.books s.settled (left_pending (left_by_verdict v) s c) a
pay-alike currency s c amount (Entered row) a = refl
pay-alike currency s c amount (Unclear cause) a =
    settled-alike currency s.books (write_down s.books amount (Unclear cause)) s.settled (left_pending (left_by_verdict (Unclear cause)) s c) a refl
pay-alike currency s c amount Refused a = refl

-- an order that does not register ends what was pending
order-adds : (currency : ℕ) (s : Sum) (c : Segment) (b : Books) (left : Left) (more : List Chapter)
    → settled_by currency b s.settled (left_pending left s c) (first_answer more) ≡ settled_by currency s.books s.settled (left_pending left s c) (first_answer more)
    → settlements_from currency b (last_left left s.last c) (with_pending currency b s.settled (left_pending left s c) (first_answer more)) more
    ≡ settlements_from currency b (last_left left s.last c)
    (with_pending currency s.books s.settled s.pending None
    ++ option_to_list (settled_by currency s.books (with_pending currency s.books s.settled s.pending None) (left_pending left s c) (first_answer more))) more
order-adds currency s c b left more e =
    let none = no-answer currency s.books s.settled s.pending in
    ap (λ o. settlements_from currency b (last_left left s.last c) (s.settled ++ option_to_list o) more) e
    ∙ ap (λ xs. settlements_from currency b (last_left left s.last c) (xs ++ option_to_list (settled_by currency s.books xs (left_pending left s c) (first_answer more))) more) (sym none)

abbrev OrderAdds : (currency : ℕ) → Sum → Segment → Sent → List Chapter → Type 0
OrderAdds currency s c o more =
    settlements_from currency (judge_as o s.books c.opening (end_of c.answers)) (last_left (left_as o s.books c) s.last c)
    (with_pending currency (judge_as o s.books c.opening (end_of c.answers)) s.settled (cond (registers o) s.pending (left_pending (left_as o s.books c) s c)) (first_answer more)) more
    ≡ settlements_from currency (judge_as o s.books c.opening (end_of c.answers)) (last_left (left_as o s.books c) s.last c)
    (with_pending currency s.books s.settled s.pending (cond (registers o) (first_answer more) None)
    ++ option_to_list (settled_by currency s.books (with_pending currency s.books s.settled s.pending (cond (registers o) (first_answer more) None)) (left_pending (left_as o s.books c) s c) (first_answer more))) more

by-order : (currency : ℕ) (s : Sum) (c : Segment) (o : Sent) (more : List Chapter) → OrderAdds currency s c o more
by-order currency s c (Register force) more =
    ap (λ xs. settlements_from currency s.books (last_left AsBefore s.last c) xs more) (sym (append-nil (with_pending currency s.books s.settled s.pending (first_answer more))))
by-order currency s c (Pay a) more =
    let v : Verdict = verdict_at (charge_of c.opening a) (traces s.books.booked) (end_of c.answers) in
    order-adds currency s c (write_down s.books a v) (left_by_verdict v) more (pay-alike currency s c a v (first_answer more))
by-order currency s c (Reverse e) more = order-adds currency s c s.books (left_as (Reverse e) s.books c) more refl
by-order currency s c CloseDay more = order-adds currency s c s.books AsBefore more refl
by-order currency s c Cancel more = order-adds currency s c s.books AsBefore more refl
by-order currency s c Foreign more = order-adds currency s c s.books AsBefore more refl

chapters-add : (currency : ℕ) (s : Sum) (cs : List Chapter) → (fold (add_chapter currency) s cs).settled ≡ settles_from currency s cs
chapters-add currency s [] = sym (no-answer currency s.books s.settled s.pending)
chapters-add currency s (Ordered c ∷ more) = chapters-add currency (add_order s c) more ∙ by-order currency s c c.opening.order more
chapters-add currency s (AskedThen answers ∷ more) =
    let unended : Bool = is_open_ask false (AskedThen answers) in
    chapters-add currency (add_answer currency s unended (answer_of answers)) more ∙ ask-adds currency s unended (answer_of answers) more

pub settlements-add : (currency : ℕ) (notes : List Note) → (fold (add_chapter currency) no_sum (chapters notes)).settled ≡ settlements currency notes
settlements-add currency notes = chapters-add currency no_sum (chapters notes)

-- ---- whether an ask is open

answer-asks : (currency : ℕ) (s : Sum) (unended : Bool) (a : Option StatusFacts) → (add_answer currency s unended a).asks ≡ unended
answer-asks currency s unended None = refl
answer-asks currency s unended (Some a) = refl

chapters-ask : (currency : ℕ) (s : Sum) (b : Bool) (cs : List Chapter) → s.asks ≡ b → (fold (add_chapter currency) s cs).asks ≡ fold is_open_ask b cs
chapters-ask currency s b [] e = e
chapters-ask currency s b (Ordered c ∷ more) e = chapters-ask currency (add_order s c) false more refl
chapters-ask currency s b (AskedThen answers ∷ more) e =
    let unended : Bool = is_open_ask false (AskedThen answers) in
    chapters-ask currency (add_answer currency s unended (answer_of answers)) unended more (answer-asks currency s unended (answer_of answers))

pub asks-add : (currency : ℕ) (notes : List Note) → (fold (add_chapter currency) no_sum (chapters notes)).asks ≡ asking_in notes
asks-add currency notes = chapters-ask currency no_sum false (chapters notes) refl

-- ---- note by note

-- the closed chapters, the open one, and the currency in force
pub record Walk : Type 0 where
  pub sum : Sum
  pub chapter : Option Chapter
  pub force : Option ℕ

abbrev pub more_answers : Chapter → List Happening → Chapter
more_answers (Ordered c) hs = Ordered (record { opening = c.opening; answers = c.answers ++ hs })
more_answers (AskedThen answers) hs = AskedThen (answers ++ hs)

abbrev pub add_if : (currency : ℕ) → Sum → Option Chapter → Sum
add_if currency s None = s
add_if currency s (Some c) = add_chapter currency s c

-- the sum with the open chapter as it is
abbrev pub close : (currency : ℕ) → Walk → Sum
close currency w = add_if currency w.sum w.chapter

abbrev pub hears : Option Chapter → List Happening → Option Chapter
hears chapter hs = option_map (λ c. more_answers c hs) chapter

abbrev pub begins : (currency : ℕ) → Walk → Chapter → Option ℕ → Walk
begins currency w c force = record { sum = close currency w; chapter = Some c; force = force }

abbrev pub an_order : Option ℕ → Sent → List Happening → Chapter
an_order force o hs = Ordered (record { opening = record { order = o; currency = force; sole = None }; answers = hs })

abbrev pub walk_line : (currency : ℕ) → Walk → Happening → Option Sent → Walk
walk_line currency w h None = record { sum = w.sum; chapter = hears w.chapter (h ∷ []); force = force_after w.force h }
walk_line currency w h (Some o) = begins currency w (an_order w.force o []) (force_after w.force h)

abbrev pub walk : (currency : ℕ) → Walk → Note → Walk
walk currency w (Line h) = walk_line currency w h (begun h)
walk currency w Asked = begins currency w (AskedThen []) w.force

abbrev pub set_out : Walk
set_out = record { sum = no_sum; chapter = None; force = None }

-- the sum with the answers ahead
abbrev ahead : (currency : ℕ) → Sum → Option Chapter → List Happening → Sum
ahead currency s chapter hs = add_if currency s (hears chapter hs)

nothing-more : (c : Chapter) → more_answers c [] ≡ c
nothing-more (Ordered c) = ap (λ hs. Ordered (record { opening = c.opening; answers = hs })) (append-nil c.answers)
nothing-more (AskedThen answers) = ap AskedThen (append-nil answers)

nothing-ahead : (currency : ℕ) (s : Sum) (chapter : Option Chapter) → ahead currency s chapter [] ≡ add_if currency s chapter
nothing-ahead currency s None = refl
nothing-ahead currency s (Some c) = ap (add_chapter currency s) (nothing-more c)

one-more : (c : Chapter) (h : Happening) (hs : List Happening) → more_answers c (h ∷ hs) ≡ more_answers (more_answers c (h ∷ [])) hs
one-more (Ordered c) h hs = ap (λ x. Ordered (record { opening = c.opening; answers = x })) (sym (append_assoc c.answers (h ∷ []) hs))
one-more (AskedThen answers) h hs = ap AskedThen (sym (append_assoc answers (h ∷ []) hs))

one-ahead : (currency : ℕ) (s : Sum) (chapter : Option Chapter) (h : Happening) (hs : List Happening) → ahead currency s chapter (h ∷ hs) ≡ ahead currency s (hears chapter (h ∷ [])) hs
one-ahead currency s None h hs = refl
one-ahead currency s (Some c) h hs = ap (add_chapter currency s) (one-more c h hs)

abbrev Walked : (currency : ℕ) → Walk → List Note → Type 0
Walked currency w notes =
    fold (add_chapter currency) (ahead currency w.sum w.chapter (up_to_next notes)) (chapters_from w.force notes) ≡ close currency (fold (walk currency) w notes)

walk-line : (currency : ℕ) (w : Walk) (h : Happening) (notes : List Note) (b : Option Sent)
    → ((v : Walk) → Walked currency v notes)
    → fold (add_chapter currency) (ahead currency w.sum w.chapter (elim b [ None ↦ h ∷ up_to_next notes | Some o ↦ [] ]))
    (elim b [
      | None ↦ chapters_from (force_after w.force h) notes
      | Some o ↦ Ordered (record { opening = record { order = o; currency = w.force; sole = None }; answers = up_to_next notes }) ∷ chapters_from (force_after w.force h) notes
    ])
    ≡ close currency (fold (walk currency) (walk_line currency w h b) notes)
walk-line currency w h notes None rest =
    ap (λ s. fold (add_chapter currency) s (chapters_from (force_after w.force h) notes)) (one-ahead currency w.sum w.chapter h (up_to_next notes))
    ∙ rest (walk_line currency w h None)
walk-line currency w h notes (Some o) rest =
    ap (λ s. fold (add_chapter currency) (add_chapter currency s (an_order w.force o (up_to_next notes))) (chapters_from (force_after w.force h) notes)) (nothing-ahead currency w.sum w.chapter)
    ∙ rest (walk_line currency w h (Some o))

walked : (currency : ℕ) (w : Walk) (notes : List Note) → Walked currency w notes
walked currency w [] = nothing-ahead currency w.sum w.chapter
walked currency w (Line h ∷ notes) = walk-line currency w h notes (begun h) (λ v. walked currency v notes)
walked currency w (Asked ∷ notes) =
    ap (λ s. fold (add_chapter currency) (add_chapter currency s (AskedThen (up_to_next notes))) (chapters_from w.force notes)) (nothing-ahead currency w.sum w.chapter)
    ∙ walked currency (begins currency w (AskedThen []) w.force) notes

abbrev pub walk_of : (currency : ℕ) → List Note → Walk
walk_of currency notes = fold (walk currency) set_out notes

-- what a log settles, and whether its last ask is open, by its notes
pub walk-settles : (currency : ℕ) (notes : List Note) → (close currency (walk_of currency notes)).settled ≡ settlements currency notes
walk-settles currency notes = ap (λ s. s.settled) (sym (walked currency set_out notes)) ∙ settlements-add currency notes

pub walk-asks : (currency : ℕ) (notes : List Note) → (close currency (walk_of currency notes)).asks ≡ asking_in notes
walk-asks currency notes = ap (λ s. s.asks) (sym (walked currency set_out notes)) ∙ asks-add currency notes
