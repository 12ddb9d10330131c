-- How an order ended stays, whatever records follow.
use Rattle.std.proofs.Common.{◌≡◌, ℕ, ◌+◌, Bool, true, false, cond, List, [], ◌∷◌, ◌++◌, All, Option, Some, None, slice_get, get_or, refl, sym, ap, subst, ◌∙◌, append_assoc, arith, true≢false}
use Rattle.std.specs.Prelude.{fold}
use Rattle.std.proofs.lemmas.List.Elements.{All-head, All-tail}
use Rattle.std.proofs.lemmas.List.Sums.{fold-append}
use Rattle.std.proofs.lemmas.Option.{slice_get-get_or, slice_get_within}
use Rattle.zvt_till.specs.declared.happenings.Happening.{Happening}
use Rattle.zvt_till.specs.declared.happenings.Happening.TheVariants.{Connected, Heard as HeardIn, Lost}
use Rattle.zvt_till.specs.declared.orders.Order.{Order}
use Rattle.zvt_till.specs.declared.orders.Order.TheVariants.{Register, Pay, Reverse, CloseDay, Cancel}
use Rattle.zvt_till.specs.declared.outcomes.Outcome.{Outcome}
use Rattle.zvt_till.specs.declared.statuses.Running.{Running}
use Rattle.zvt_till.specs.Hearing.{heard_as}
use Rattle.zvt_till.specs.Sending.{Settings}
use Rattle.zvt_till.specs.Till.{TillState, meet, new_till, state_after, step}
use Rattle.zvt_till.proofs.Runs.{step-order}
use Rattle.zvt_kept.specs.declared.past_orders.PastOrder.{PastOrder}
use Rattle.zvt_kept.specs.Logs.{EachOf, Happens, HappenAll}
use Rattle.zvt_kept.specs.PastOrders.{IsPastOrder, PastOrdersStay, StaysAs, count_starts, ended, starts, starts_at_once}
use Rattle.zvt_kept.specs.Records.{Kept, ordered, asked, heard, lost}
use Rattle.zvt_kept.specs.RowNotes.{LivedThrough}
use Rattle.zvt_kept.proofs.AskLemmas.{each_once, happens_once}
use Rattle.zvt_kept.proofs.PastOrderLemmas.{count_append}

-- ---- where an order starts

count_start : (one : Kept) (more : List Kept) → starts one ≡ true → count_starts (one ∷ more) ≡ 1 + count_starts more
count_start one more is = ap (λ (b : Bool). cond b (1 + count_starts more) (count_starts more)) is

same_head : {X : Type 0} (x y : X) (xs ys : List X) → x ∷ xs ≡ y ∷ ys → x ≡ y
same_head x y xs ys is = cc is

same_tail : {X : Type 0} (x y : X) (xs ys : List X) → x ∷ xs ≡ y ∷ ys → xs ≡ ys
same_tail x y xs ys is = cc is

-- the orders before it say where an order starts
record OneSplit (a b : List Kept) (x y : Kept) (xs bs : List Kept) : Type 0 where
  before : a ≡ b
  here : x ≡ y
  after : xs ≡ bs

one_split : (a b : List Kept) (x y : Kept) (xs bs : List Kept) → a ++ x ∷ xs ≡ b ++ y ∷ bs → starts x ≡ true → starts y ≡ true → count_starts a ≡ count_starts b → OneSplit a b x y xs bs
one_split [] [] x y xs bs is starts_x starts_y same = record { before = refl; here = same_head x y xs bs is; after = same_tail x y xs bs is }
one_split [] (z ∷ b) x y xs bs is starts_x starts_y same =
    let many = count_start z b (ap starts (sym (same_head x z xs (b ++ y ∷ bs) is)) ∙ starts_x) in
    absurd (omega (arith, same, many))
one_split (z ∷ a) [] x y xs bs is starts_x starts_y same =
    let many = count_start z a (ap starts (same_head z y (a ++ x ∷ xs) bs is) ∙ starts_y) in
    absurd (omega (arith, same, many))
one_split (z ∷ a) (w ∷ b) x y xs bs is starts_x starts_y same =
    let head = same_head z w (a ++ x ∷ xs) (b ++ y ∷ bs) is in
    let rest = one_split a b x y xs bs (same_tail z w (a ++ x ∷ xs) (b ++ y ∷ bs) is) starts_x starts_y (fewer (starts z) (starts w) (ap starts head) same) in
    record { before = ap (λ k. k ∷ a) head ∙ ap (λ l. w ∷ l) rest.before; here = rest.here; after = rest.after }
  where
    fewer : (p q : Bool) → p ≡ q → cond p (1 + count_starts a) (count_starts a) ≡ cond q (1 + count_starts b) (count_starts b) → count_starts a ≡ count_starts b
    fewer true true same more = omega (arith, more)
    fewer false false same more = more
    fewer true false same more = absurd cc
    fewer false true same more = absurd cc

-- the records until the next order, as more records follow
quiet_more : (during more quiet after : List Kept) → All (λ one. starts one ≡ false) during → All (λ one. starts one ≡ false) quiet → starts_at_once after ≡ true → during ++ more ≡ quiet ++ after
    → (extra : List Kept) × (quiet ≡ during ++ extra) × All (λ one. starts one ≡ false) extra
quiet_more [] more quiet after q p next is = (quiet, refl, p)
quiet_more (z ∷ during) more [] after q p next is =
    absurd (true≢false (sym next ∙ ap starts_at_once (sym is) ∙ All-head (λ one. starts one ≡ false) z during q))
quiet_more (z ∷ during) more (w ∷ quiet) after q p next is =
    let rest = quiet_more during more quiet after (All-tail (λ one. starts one ≡ false) z during q) (All-tail (λ one. starts one ≡ false) w quiet p) next (same_tail z w (during ++ more) (quiet ++ after) is) in
    (rest.0, ap (λ k. k ∷ quiet) (sym (same_head z w (during ++ more) (quiet ++ after) is)) ∙ ap (λ l. z ∷ l) rest.1, rest.2)

-- ---- a till at rest

none_runs : (s : TillState) (outcome : Outcome) → ended s ≡ Some outcome → s.running ≡ None
none_runs s outcome is = by_running s.running refl is
  where
    by_running : (running : Option Running) → s.running ≡ running → elim running [ None ↦ s.last_outcome | Some r ↦ None ] ≡ Some outcome → s.running ≡ None
    by_running None none e = none
    by_running (Some r) some e = absurd cc

rests : (s : TillState) (h : Happening) → s.running ≡ None → meet s h ≡ s
rests s h none = rw none refl

either_same : (b : Bool) (s : TillState) → cond b s s ≡ s
either_same true s = refl
either_same false s = refl

-- a record that starts no order leaves how the last one ended
quiet_step : (currency : ℕ) (one : Kept) (happened : List Happening) (s : TillState) (outcome : Outcome) → starts one ≡ false → Happens currency one happened → ended s ≡ Some outcome → ended (fold step s happened) ≡ Some outcome
quiet_step currency (ordered Register note) happened s outcome quiet is e = absurd cc
quiet_step currency (ordered (Pay amount) note) happened s outcome quiet is e = absurd cc
quiet_step currency (ordered (Reverse entry) note) happened s outcome quiet is e = absurd cc
quiet_step currency (ordered CloseDay note) happened s outcome quiet is e = absurd cc
quiet_step currency (ordered Cancel note) happened s outcome quiet is e = ap (λ l. ended (fold step s l)) is ∙ ap ended (step-order currency s Cancel) ∙ e
quiet_step currency (asked note) happened s outcome quiet is e = ap (λ l. ended (fold step s l)) is ∙ e
quiet_step currency (heard bytes) happened s outcome quiet is e =
    let h = HeardIn (heard_as is.0) in
    ap (λ l. ended (fold step s l)) is.2 ∙ ap (λ t. ended (cond s.line_up t s)) (rests s h (none_runs s outcome e)) ∙ ap ended (either_same s.line_up s) ∙ e
quiet_step currency lost happened s outcome quiet is e = ap (λ l. ended (fold step s l)) is ∙ ap (λ t. ended t) (rests s Lost (none_runs s outcome e)) ∙ e

quiet_steps : (currency : ℕ) (quiet : List Kept) (happened : List Happening) (s : TillState) (outcome : Outcome) → All (λ one. starts one ≡ false) quiet → HappenAll currency quiet happened → ended s ≡ Some outcome → ended (fold step s happened) ≡ Some outcome
quiet_steps currency [] happened s outcome q all e = ap (λ l. ended (fold step s l)) all ∙ e
quiet_steps currency (one ∷ quiet) happened s outcome q all e =
    let first = quiet_step currency one all.0 s outcome (All-head (λ k. starts k ≡ false) one quiet q) all.2 e in
    ap (λ l. ended (fold step s l)) all.4 ∙ ap ended (fold-append step s all.0 all.1) ∙ quiet_steps currency quiet all.1 (fold step s all.0) outcome (All-tail (λ k. starts k ≡ false) one quiet q) all.3 first

-- ---- a till that has lived through more records

pub each_split : {X : Type 0} (R : Kept → List X → Type 0) (a b : List Kept) (xs : List X) → EachOf R (a ++ b) xs → (first rest : List X) × EachOf R a first × EachOf R b rest × (xs ≡ first ++ rest)
each_split R [] b xs all = ([], xs, refl, all, refl)
each_split R (one ∷ a) b xs all =
    let more = each_split R a b all.1 all.3 in
    (all.0 ++ more.0, more.1, (all.0, more.0, all.2, more.2, refl), more.3, all.4 ∙ ap (λ l. all.0 ++ l) more.4 ∙ sym (append_assoc all.0 more.0 more.1))

still_ended : (settings : Settings) (kept quiet : List Kept) (old new : TillState) (outcome : Outcome) → LivedThrough settings kept old → LivedThrough settings (kept ++ quiet) new → All (λ one. starts one ≡ false) quiet
    → ended old ≡ Some outcome → ended new ≡ Some outcome
still_ended settings kept quiet old new outcome was is q e =
    let split = each_split (Happens settings.currency) kept quiet is.happened is.happens in
    let same : split.0 ≡ was.happened = each_once (Happens settings.currency) (happens_once settings.currency) kept split.0 was.happened split.2 was.happens in
    let all : is.happened ≡ was.happened ++ split.1 = split.4 ∙ ap (λ l. l ++ split.1) same in
    let then : new ≡ fold step old split.1 =
    is.stands.1 ∙ ap (λ l. state_after settings (Connected ∷ l)) all ∙ fold-append step (new_till settings) (Connected ∷ was.happened) split.1 ∙ ap (λ s. fold step s split.1) (sym was.stands.1) in
    ap ended then ∙ quiet_steps settings.currency quiet split.1 old outcome q split.3 e

-- ---- one order in both lists

same_order : (a b : Order) (m n : List ℕ) → ordered a m ≡ ordered b n → a ≡ b
same_order a b m n is = cc is

same_note : (a b : Order) (m n : List ℕ) → ordered a m ≡ ordered b n → m ≡ n
same_note a b m n is = cc is

one_stays : (settings : Settings) (kept more : List Kept) (index : ℕ) (old new : PastOrder) → IsPastOrder settings kept index old → IsPastOrder settings (kept ++ more) index new → StaysAs old new
one_stays settings kept more index old new p q =
    let first = ordered old.order old.note in
    let all : p.before ++ first ∷ (p.during ++ (p.after ++ more)) ≡ q.before ++ ordered new.order new.note ∷ (q.during ++ q.after) =
    sym (ap (λ l. l ++ more) p.is ∙ append_assoc p.before (first ∷ (p.during ++ p.after)) more ∙ ap (λ l. p.before ++ first ∷ l) (append_assoc p.during p.after more)) ∙ q.is in
    let one = one_split p.before q.before first (ordered new.order new.note) (p.during ++ (p.after ++ more)) (q.during ++ q.after) all p.runs q.runs (p.number ∙ sym q.number) in
    let extra = quiet_more p.during (p.after ++ more) q.during q.after p.quiet q.quiet q.next one.after in
    let through : q.before ++ ordered new.order new.note ∷ q.during ≡ (p.before ++ first ∷ p.during) ++ extra.0 =
    ap (λ l. l ++ ordered new.order new.note ∷ q.during) (sym one.before) ∙ ap (λ k. p.before ++ k ∷ q.during) (sym one.here) ∙ ap (λ l. p.before ++ first ∷ l) extra.1
    ∙ sym (append_assoc p.before (first ∷ p.during) extra.0) in
    record {
      order = sym (same_order old.order new.order old.note new.note one.here);
      note = sym (same_note old.order new.order old.note new.note one.here);
      outcome = λ outcome is. q.outcome ∙ still_ended settings (p.before ++ first ∷ p.during) extra.0 p.state q.state outcome p.lived (subst (λ k. LivedThrough settings k q.state) through q.lived) extra.2 (sym p.outcome ∙ is);
    }

pub past_orders_stay : PastOrdersStay
past_orders_stay settings kept more old new p q index one is =
    let below = slice_get_within old index one is in
    let many = count_append kept more in
    let later = get_or new index one in
    let found : slice_get new index ≡ Some later = slice_get-get_or new index one (omega (arith, below, p.as_many, q.as_many, many)) in
    (later, found, one_stays settings kept more index one later (p.each index one is) (q.each index later found))
