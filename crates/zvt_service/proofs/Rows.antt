-- All orders but the last stay as they are, and so do the orders before a key.
use Rattle.std.specs.Prelude.{take}
use Rattle.std.specs.List.{before_first, position_or_len}
use Rattle.std.proofs.Common.{◌≡◌, ℕ, suc, ◌+◌, Bool, true, false, cond, not, List, [], ◌∷◌, ◌++◌, All, append-nil, Option, Some, None, slice_get, refl, sym, ap, subst, ◌∙◌, append_assoc, arith, true≢false}
use Rattle.std.proofs.lemmas.List.Elements.{All-head, All-tail}
use Rattle.zvt_till.specs.declared.happenings.Happening.TheVariants.{Connected}
use Rattle.zvt_till.specs.declared.orders.Order.{Order}
use Rattle.zvt_till.specs.declared.outcomes.Outcome.{Outcome}
use Rattle.zvt_till.specs.Sending.{Settings}
use Rattle.zvt_till.specs.Till.{TillState, state_after}
use Rattle.zvt_kept.specs.declared.past_orders.PastOrder.{PastOrder}
use Rattle.zvt_kept.specs.Logs.{Happens}
use Rattle.zvt_kept.specs.Notes.{is_noted_by}
use Rattle.zvt_kept.specs.PastOrders.{ArePast, IsPastOrder, StaysAs, count_starts, ended, first_noted, is_noted_as, starts, starts_at_once}
use Rattle.zvt_kept.specs.Records.{Kept, ordered}
use Rattle.zvt_kept.specs.RowNotes.{LivedThrough}
use Rattle.zvt_kept.proofs.AskLemmas.{each_once, happens_once}
use Rattle.zvt_kept.proofs.PastOrderLemmas.{count_append}
use Rattle.zvt_kept.proofs.PastOrdersStay.{past_orders_stay}
use Rattle.zvt_service.proofs.Stays.{EachStays, same_one}

-- ---- where an order starts

count_start : (one : Kept) (more : List Kept) → starts one ≡ true → count_starts (one ∷ more) ≡ 1 + count_starts more
count_start one more is = ap (λ (b : Bool). cond b (1 + count_starts more) (count_starts more)) is

count_quiet : (quiet : List Kept) → All (λ one. starts one ≡ false) quiet → count_starts quiet ≡ 0
count_quiet [] q = refl
count_quiet (one ∷ quiet) q =
    ap (λ (b : Bool). cond b (1 + count_starts quiet) (count_starts quiet)) (All-head (λ k. starts k ≡ false) one quiet q)
    ∙ count_quiet quiet (All-tail (λ k. starts k ≡ false) one quiet q)

same_head : {X : Type 0} (x y : X) (xs ys : List X) → x ∷ xs ≡ y ∷ ys → x ≡ y
same_head x y xs ys is = cc is

same_tail : {X : Type 0} (x y : X) (xs ys : List X) → x ∷ xs ≡ y ∷ ys → xs ≡ ys
same_tail x y xs ys is = cc is

-- the orders before it say where an order starts
record OneSplit (a b : List Kept) (x y : Kept) (xs bs : List Kept) : Type 0 where
  before : a ≡ b
  here : x ≡ y
  after : xs ≡ bs

one_split : (a b : List Kept) (x y : Kept) (xs bs : List Kept) → a ++ x ∷ xs ≡ b ++ y ∷ bs → starts x ≡ true → starts y ≡ true → count_starts a ≡ count_starts b → OneSplit a b x y xs bs
one_split [] [] x y xs bs is starts_x starts_y same = record { before = refl; here = same_head x y xs bs is; after = same_tail x y xs bs is }
one_split [] (z ∷ b) x y xs bs is starts_x starts_y same =
    let many = count_start z b (ap starts (sym (same_head x z xs (b ++ y ∷ bs) is)) ∙ starts_x) in
    absurd (omega (arith, same, many))
one_split (z ∷ a) [] x y xs bs is starts_x starts_y same =
    let many = count_start z a (ap starts (same_head z y (a ++ x ∷ xs) bs is) ∙ starts_y) in
    absurd (omega (arith, same, many))
one_split (z ∷ a) (w ∷ b) x y xs bs is starts_x starts_y same =
    let head = same_head z w (a ++ x ∷ xs) (b ++ y ∷ bs) is in
    let rest = one_split a b x y xs bs (same_tail z w (a ++ x ∷ xs) (b ++ y ∷ bs) is) starts_x starts_y (fewer (starts z) (starts w) (ap starts head) same) in
    record { before = ap (λ k. k ∷ a) head ∙ ap (λ l. w ∷ l) rest.before; here = rest.here; after = rest.after }
  where
    fewer : (p q : Bool) → p ≡ q → cond p (1 + count_starts a) (count_starts a) ≡ cond q (1 + count_starts b) (count_starts b) → count_starts a ≡ count_starts b
    fewer true true same more = omega (arith, more)
    fewer false false same more = more
    fewer true false same more = absurd cc
    fewer false true same more = absurd cc

-- the records between an order and the next one
quiet_same : (during quiet : List Kept) (z : Kept) (rest after : List Kept) → All (λ one. starts one ≡ false) during → All (λ one. starts one ≡ false) quiet → starts z ≡ true → starts_at_once after ≡ true
    → during ++ z ∷ rest ≡ quiet ++ after → during ≡ quiet
quiet_same [] [] z rest after q p first next is = refl
quiet_same [] (w ∷ quiet) z rest after q p first next is =
    absurd (true≢false (sym first ∙ ap starts (same_head z w rest (quiet ++ after) is) ∙ All-head (λ one. starts one ≡ false) w quiet p))
quiet_same (d ∷ during) [] z rest after q p first next is =
    absurd (true≢false (sym next ∙ ap starts_at_once (sym is) ∙ All-head (λ one. starts one ≡ false) d during q))
quiet_same (d ∷ during) (w ∷ quiet) z rest after q p first next is =
    let more = quiet_same during quiet z rest after (All-tail (λ one. starts one ≡ false) d during q) (All-tail (λ one. starts one ≡ false) w quiet p) first next (same_tail d w (during ++ z ∷ rest) (quiet ++ after) is) in
    ap (λ k. k ∷ during) (same_head d w (during ++ z ∷ rest) (quiet ++ after) is) ∙ ap (λ l. w ∷ l) more

-- ---- an order that another one follows

record HasNext (after : List Kept) : Type 0 where
  first : Kept
  rest : List Kept
  is : after ≡ first ∷ rest
  starts_it : starts first ≡ true

module _ (settings : Settings) (kept : List Kept) where
  count_of_order : (index : ℕ) (one : PastOrder) (p : IsPastOrder settings kept index one) → count_starts kept ≡ index + (1 + count_starts (p.during ++ p.after))
  count_of_order index one p =
      ap count_starts p.is ∙ count_append p.before (ordered one.order one.note ∷ (p.during ++ p.after))
      ∙ ap (λ n. count_starts p.before + n) (count_start (ordered one.order one.note) (p.during ++ p.after) p.runs)
      ∙ ap (λ n. n + (1 + count_starts (p.during ++ p.after))) p.number

  has_next : (index : ℕ) (one next : PastOrder) (p : IsPastOrder settings kept index one) → IsPastOrder settings kept (suc index) next → HasNext p.after
  has_next index one next p n = by_after p.after refl p.next
    where
      by_after : (after : List Kept) → p.after ≡ after → starts_at_once after ≡ true → HasNext p.after
      by_after [] none at_once =
          let own = count_of_order index one p in
          let other = count_of_order (suc index) next n in
          let zero : count_starts (p.during ++ p.after) ≡ 0 = ap (λ l. count_starts (p.during ++ l)) none ∙ ap count_starts (append-nil p.during) ∙ count_quiet p.during p.quiet in
          absurd (omega (arith, own, other, zero))
      by_after (first ∷ rest) is at_once = record { first = first; rest = rest; is = is; starts_it = at_once }

lived_once : (settings : Settings) (kept : List Kept) (a b : TillState) → LivedThrough settings kept a → LivedThrough settings kept b → a ≡ b
lived_once settings kept a b p q =
    p.stands.1 ∙ ap (λ l. state_after settings (Connected ∷ l)) (each_once (Happens settings.currency) (happens_once settings.currency) kept p.happened q.happened p.happens q.happens) ∙ sym q.stands.1

same_order : (a b : Order) (m n : List ℕ) → ordered a m ≡ ordered b n → a ≡ b
same_order a b m n is = cc is

same_note : (a b : Order) (m n : List ℕ) → ordered a m ≡ ordered b n → m ≡ n
same_note a b m n is = cc is

same_past : (a b : PastOrder) → a.order ≡ b.order → a.note ≡ b.note → a.outcome ≡ b.outcome → a ≡ b
same_past a b order note outcome =
    ap (λ (o : Order). record { order = o; note = a.note; outcome = a.outcome }) order
    ∙ ap (λ (n : List ℕ). record { order = b.order; note = n; outcome = a.outcome }) note
    ∙ ap (λ (o : Option Outcome). record { order = b.order; note = b.note; outcome = o }) outcome

-- an order that another one follows stays as it is
unchanged : (settings : Settings) (kept more : List Kept) (index : ℕ) (one next later : PastOrder) → IsPastOrder settings kept index one → IsPastOrder settings kept (suc index) next → IsPastOrder settings (kept ++ more) index later → later ≡ one
unchanged settings kept more index one next later p n q =
    let first = ordered one.order one.note in
    let found = has_next settings kept index one next p n in
    let all : p.before ++ first ∷ (p.during ++ (p.after ++ more)) ≡ q.before ++ ordered later.order later.note ∷ (q.during ++ q.after) =
    sym (ap (λ l. l ++ more) p.is ∙ append_assoc p.before (first ∷ (p.during ++ p.after)) more ∙ ap (λ l. p.before ++ first ∷ l) (append_assoc p.during p.after more)) ∙ q.is in
    let at = one_split p.before q.before first (ordered later.order later.note) (p.during ++ (p.after ++ more)) (q.during ++ q.after) all p.runs q.runs (p.number ∙ sym q.number) in
    let same = quiet_same p.during q.during found.first (found.rest ++ more) q.after p.quiet q.quiet found.starts_it q.next (ap (λ l. p.during ++ (l ++ more)) (sym found.is) ∙ at.after) in
    let through : q.before ++ ordered later.order later.note ∷ q.during ≡ p.before ++ first ∷ p.during =
    ap (λ l. l ++ ordered later.order later.note ∷ q.during) (sym at.before) ∙ ap (λ k. p.before ++ k ∷ q.during) (sym at.here) ∙ ap (λ l. p.before ++ first ∷ l) (sym same) in
    let states = lived_once settings (p.before ++ first ∷ p.during) p.state q.state p.lived (subst (λ k. LivedThrough settings k q.state) through q.lived) in
    same_past later one (sym (same_order one.order later.order one.note later.note at.here)) (sym (same_note one.order later.order one.note later.note at.here))
    (q.outcome ∙ ap ended (sym states) ∙ sym p.outcome)

-- each order that another one follows stays as it is
abbrev pub Fixed : List PastOrder → List PastOrder → Type 0
Fixed old new = (index : ℕ) (one next : PastOrder) → slice_get old index ≡ Some one → slice_get old (suc index) ≡ Some next → slice_get new index ≡ Some one

pub all_fixed : (settings : Settings) (kept more : List Kept) (old new : List PastOrder) → ArePast settings kept old → ArePast settings (kept ++ more) new → Fixed old new
all_fixed settings kept more old new a b index one next is then =
    let stays = past_orders_stay settings kept more old new a b index one is in
    stays.1 ∙ ap (λ (o : PastOrder). Some o) (unchanged settings kept more index one next stays.0 (a.each index one is) (a.each (suc index) next then) (b.each index stays.0 stays.1))

-- ---- the orders before a key

take_one : (n : ℕ) (x : PastOrder) (xs : List PastOrder) → take (1 + n) (x ∷ xs) ≡ x ∷ take n xs
take_one n x xs = let e : 1 + n ≡ suc n = omega arith in ap (λ k. take k (x ∷ xs)) e

pub before_same : (key : List ℕ) (old new : List PastOrder) (one : PastOrder) → EachStays old new → Fixed old new → first_noted key old ≡ Some one → before_first (is_noted_as key) new ≡ before_first (is_noted_as key) old
before_same key [] new one each fixed is = absurd cc
before_same key (x ∷ old) [] one each fixed is = let none : None ≡ Some (each 0 x refl).0 = (each 0 x refl).1 in absurd cc
before_same key (x ∷ old) (y ∷ new) one each fixed is =
    let here = each 0 x refl in
    let stays : StaysAs x y = subst (StaysAs x) (sym (same_one y here.0 here.1)) here.2 in
    by_first (is_noted_by key x.note) (is_noted_by key y.note) (ap (is_noted_by key) (sym stays.note)) is (λ more. before_same key old new one (λ index. each (suc index)) (λ index. fixed (suc index)) more)
  where
    -- another order follows, so it stays as it is
    same_here : (rest : List PastOrder) → old ≡ rest → first_noted key rest ≡ Some one → y ≡ x
    same_here [] is found = absurd cc
    same_here (z ∷ rest) is found = same_one y x (fixed 0 x z refl (ap (λ l. slice_get l 0) is))

    by_first : (p q : Bool) → p ≡ q → cond p (Some x) (first_noted key old) ≡ Some one → (first_noted key old ≡ Some one → before_first (is_noted_as key) new ≡ before_first (is_noted_as key) old)
        → take (cond (not q) (1 + position_or_len (is_noted_as key) new) 0) (y ∷ new) ≡ take (cond (not p) (1 + position_or_len (is_noted_as key) old) 0) (x ∷ old)
    by_first true true same found more = refl
    by_first false false same found more =
        take_one (position_or_len (is_noted_as key) new) y new ∙ ap (λ z. z ∷ before_first (is_noted_as key) new) (same_here old refl found) ∙ ap (λ l. x ∷ l) (more found)
        ∙ sym (take_one (position_or_len (is_noted_as key) old) x old)
    by_first true false same found more = absurd cc
    by_first false true same found more = absurd cc
