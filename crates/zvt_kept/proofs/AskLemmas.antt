-- The notes that records stand for, and the asks among them.
use Rattle.std.proofs.Common.{◌≡◌, ℕ, Bool, true, false, cond, List, [], ◌∷◌, ◌++◌, Option, Some, None, option_map, length, refl, sym, ap, subst, ◌∙◌, append_assoc}
use Rattle.std.specs.Prelude.{fold}
use Rattle.std.proofs.lemmas.List.{append-nil}
use Rattle.zvt_apdu.proofs.ViewLemmas.{same_message}
use Rattle.zvt_till.specs.declared.happenings.Happening.{Happening}
use Rattle.zvt_till.specs.declared.happenings.Happening.TheVariants.{Connected, Sent as SentOut, Heard as HeardIn, Malformed, Lost}
use Rattle.zvt_till.specs.declared.orders.Order.{Order}
use Rattle.zvt_till.specs.declared.orders.Order.TheVariants.{Register, Pay, Reverse, CloseDay, Cancel}
use Rattle.zvt_till.specs.declared.outcomes.Outcome.{Outcome}
use Rattle.zvt_till.specs.declared.outcomes.Outcome.TheVariants.{Registered, Paid, Declined, Refused, Aborted, Unclear, Reversed, DayClosed}
use Rattle.zvt_till.specs.Hearing.{heard_as}
use Rattle.zvt_till.specs.Refusals.{order_in, sent_as}
use Rattle.zvt_till.specs.Sending.{Settings}
use Rattle.zvt_till.specs.Till.{TillState, accept, outcome_at, state_after, step}
use Rattle.zvt_settle.specs.declared.deciding.What.{What}
use Rattle.zvt_settle.specs.Settling.{Note, Line, Asked, Both, Settling, both_after, ended, ended_as, meets, met, new_both, noted, opened, opened_by, sent, sent_if, take}
use Rattle.zvt_settle.specs.Story.{lines}
use Rattle.zvt_kept.specs.Records.{Kept, ordered, asked, heard, lost}
use Rattle.zvt_kept.specs.Logs.{CanAsk, CanTakeAll, EachOf, Happens, Means, on_line}

-- ---- records one after another

module _ {X : Type 0} (R : Kept → List X → Type 0) where
  pub each_more : (kept : List Kept) (one : Kept) (xs added : List X) → EachOf R kept xs → R one added → EachOf R (kept ++ one ∷ []) (xs ++ added)
  each_more [] one xs added none h = (added, [], h, refl, ap (λ l. l ++ added) none ∙ sym (append-nil added))
  each_more (first ∷ kept) one xs added all h =
      (all.0, all.1 ++ added, all.2, each_more kept one all.1 added all.3 h, ap (λ l. l ++ added) all.4 ∙ append_assoc all.0 all.1 added)

  pub each_last : (kept : List Kept) (one : Kept) (xs : List X) → EachOf R (kept ++ one ∷ []) xs
      → (before : List X) × (added : List X) × EachOf R kept before × R one added × (xs ≡ before ++ added)
  each_last [] one xs all = ([], all.0, refl, all.2, all.4 ∙ ap (λ l. all.0 ++ l) all.3 ∙ append-nil all.0)
  each_last (first ∷ kept) one xs all =
      let more = each_last kept one all.1 all.3 in
      (all.0 ++ more.0, more.1, (all.0, more.0, all.2, more.2, refl), more.3, all.4 ∙ ap (λ l. all.0 ++ l) more.4 ∙ sym (append_assoc all.0 more.0 more.1))

  pub each_first : (a b : List Kept) (xs : List X) → EachOf R (a ++ b) xs → (first rest : List X) × EachOf R a first × (xs ≡ first ++ rest)
  each_first [] b xs all = ([], xs, refl, refl)
  each_first (one ∷ a) b xs all =
      let more = each_first a b all.1 all.3 in
      (all.0 ++ more.0, more.1, (all.0, more.0, all.2, more.2, refl), all.4 ∙ ap (λ l. all.0 ++ l) more.3 ∙ sym (append_assoc all.0 more.0 more.1))

  pub each_once : ((one : Kept) (a b : List X) → R one a → R one b → a ≡ b) → (kept : List Kept) (a b : List X) → EachOf R kept a → EachOf R kept b → a ≡ b
  each_once once [] a b p q = p ∙ sym q
  each_once once (one ∷ kept) a b p q =
      p.4 ∙ ap (λ l. l ++ p.1) (once one p.0 q.0 p.2 q.2) ∙ ap (λ l. q.0 ++ l) (each_once once kept p.1 q.1 p.3 q.3) ∙ sym q.4

-- ---- what one record stands for

pub happens_once : (currency : ℕ) (one : Kept) (a b : List Happening) → Happens currency one a → Happens currency one b → a ≡ b
happens_once currency (ordered order note) a b p q = p ∙ sym q
happens_once currency (asked note) a b p q = p ∙ sym q
happens_once currency (heard bytes) a b p q =
    let same = same_message p.0 bytes p.1 (q.0, q.1) in
    p.2 ∙ ap (λ m. HeardIn (heard_as m) ∷ []) (sym same) ∙ sym q.2
happens_once currency lost a b p q = p ∙ sym q

pub means_once : (currency : ℕ) (one : Kept) (a b : List Note) → Means currency one a → Means currency one b → a ≡ b
means_once currency (ordered order note) a b p q = p.2 ∙ ap on_line (happens_once currency (ordered order note) p.0 q.0 p.1 q.1) ∙ sym q.2
means_once currency (asked note) a b p q = p ∙ sym q
means_once currency (heard bytes) a b p q = p.2 ∙ ap on_line (happens_once currency (heard bytes) p.0 q.0 p.1 q.1) ∙ sym q.2
means_once currency lost a b p q = p.2 ∙ ap on_line (happens_once currency lost p.0 q.0 p.1 q.1) ∙ sym q.2

-- a record with an event is no ask
pub means_line : (currency : ℕ) (one : Kept) (h : Happening) (more : List Happening) (notes : List Note) → Happens currency one (h ∷ more) → Means currency one notes → notes ≡ on_line (h ∷ more)
means_line currency (ordered order note) h more notes happens m = m.2 ∙ ap on_line (happens_once currency (ordered order note) m.0 (h ∷ more) m.1 happens)
means_line currency (asked note) h more notes happens m = let none : h ∷ more ≡ [] = happens in absurd cc
means_line currency (heard bytes) h more notes happens m = m.2 ∙ ap on_line (happens_once currency (heard bytes) m.0 (h ∷ more) m.1 happens)
means_line currency lost h more notes happens m = m.2 ∙ ap on_line (happens_once currency lost m.0 (h ∷ more) m.1 happens)

-- ---- the events among notes

lines_append : (xs ys : List Note) → lines (xs ++ ys) ≡ lines xs ++ lines ys
lines_append [] ys = refl
lines_append (Line h ∷ xs) ys = ap (λ hs. h ∷ hs) (lines_append xs ys)
lines_append (Asked ∷ xs) ys = lines_append xs ys

lines_back : (happened : List Happening) → lines (on_line happened) ≡ happened
lines_back [] = refl
lines_back (h ∷ happened) = ap (λ hs. h ∷ hs) (lines_back happened)

one_lines : (currency : ℕ) (one : Kept) (notes : List Note) (happened : List Happening) → Means currency one notes → Happens currency one happened → lines notes ≡ happened
one_lines currency (ordered order note) notes happened m h = ap lines m.2 ∙ lines_back m.0 ∙ happens_once currency (ordered order note) m.0 happened m.1 h
one_lines currency (asked note) notes happened m h = ap lines m ∙ sym h
one_lines currency (heard bytes) notes happened m h = ap lines m.2 ∙ lines_back m.0 ∙ happens_once currency (heard bytes) m.0 happened m.1 h
one_lines currency lost notes happened m h = ap lines m.2 ∙ lines_back m.0 ∙ happens_once currency lost m.0 happened m.1 h

-- the events of records are the notes without the asks
pub all_lines : (currency : ℕ) (kept : List Kept) (notes : List Note) (happened : List Happening) → EachOf (Means currency) kept notes → EachOf (Happens currency) kept happened → lines notes ≡ happened
all_lines currency [] notes happened m h = ap lines m ∙ sym h
all_lines currency (one ∷ kept) notes happened m h =
    ap lines m.4 ∙ lines_append m.0 m.1 ∙ ap (λ l. l ++ lines m.1) (one_lines currency one m.0 h.0 m.2 h.2) ∙ ap (λ l. h.0 ++ l) (all_lines currency kept m.1 h.1 m.3 h.3) ∙ sym h.4

till_inside : (b : Both) (notes : List Note) → (fold take b notes).till ≡ fold step b.till (lines notes)
till_inside b [] = refl
till_inside b (Line h ∷ notes) = till_inside (take b (Line h)) notes
till_inside b (Asked ∷ notes) = till_inside (take b Asked) notes

-- the till inside has the state of the log
pub till_of_notes : (settings : Settings) (notes : List Note) (happened : List Happening) → lines notes ≡ happened → (both_after settings (Line Connected ∷ notes)).till ≡ state_after settings (Connected ∷ happened)
till_of_notes settings notes happened is = till_inside (new_both settings) (Line Connected ∷ notes) ∙ ap (λ l. state_after settings (Connected ∷ l)) is

-- ---- what can be taken

pub takes_more : (b : Both) (xs ys : List Note) → CanTakeAll b xs → CanTakeAll (fold take b xs) ys → CanTakeAll b (xs ++ ys)
takes_more b [] ys first second = second
takes_more b (n ∷ xs) ys first second = (first.0, takes_more (take b n) xs ys first.1 second)

pub takes_first : (b : Both) (xs ys : List Note) → CanTakeAll b (xs ++ ys) → CanTakeAll b xs
takes_first b [] ys all = tt
takes_first b (n ∷ xs) ys all = (all.0, takes_first (take b n) xs ys all.1)

pub takes_then : (b : Both) (xs ys : List Note) → CanTakeAll b (xs ++ ys) → CanTakeAll (fold take b xs) ys
takes_then b [] ys all = all
takes_then b (n ∷ xs) ys all = takes_then (take b n) xs ys all.1

unfoldable pub asks_none : (settings : Settings) → CanAsk settings []
asks_none settings = record { notes = []; means = refl; takes = (tt, tt) }

unfoldable pub asks_more : (settings : Settings) (kept : List Kept) (one : Kept) (a : CanAsk settings kept) (added : List Note) → Means settings.currency one added
    → CanTakeAll (both_after settings (Line Connected ∷ a.notes)) added → CanAsk settings (kept ++ one ∷ [])
asks_more settings kept one a added m c = record {
  notes = a.notes ++ added;
  means = each_more (Means settings.currency) kept one a.notes added a.means m;
  takes = takes_more (new_both settings) (Line Connected ∷ a.notes) added a.takes c;
}

pub asks_before : (settings : Settings) (kept more : List Kept) → CanAsk settings (kept ++ more) → CanAsk settings kept
asks_before settings kept more a =
    let cut = each_first (Means settings.currency) kept more a.notes a.means in
    record { notes = cut.0; means = cut.2; takes = takes_first (new_both settings) (Line Connected ∷ cut.0) cut.1 (subst (λ l. CanTakeAll (new_both settings) (Line Connected ∷ l)) cut.3 a.takes) }

-- ---- no ask begins on the line

sent_idle : (s : Settling) (order : Option Order) → s.asking ≡ None → (sent_if s order).asking ≡ None
sent_idle s None idle = idle
sent_idle s (Some Register) idle = idle
sent_idle s (Some (Pay amount)) idle = idle
sent_idle s (Some (Reverse entry)) idle = idle
sent_idle s (Some CloseDay) idle = idle
sent_idle s (Some Cancel) idle = idle

opened_idle : (s : Settling) (what : Option What) → s.asking ≡ None → (opened s what).asking ≡ None
opened_idle s None idle = idle
opened_idle s (Some what) idle = idle

ended_idle : (s : Settling) (order : Order) (outcome : Outcome) (place : ℕ) → s.asking ≡ None → (ended s order outcome place).asking ≡ None
ended_idle s order Registered place idle = idle
ended_idle s order (Paid trace receipt) place idle = idle
ended_idle s order (Declined code) place idle = idle
ended_idle s order (Refused code) place idle = idle
ended_idle s order (Aborted code) place idle = idle
ended_idle s order (Unclear cause) place idle = opened_idle s (opened_by order place) idle
ended_idle s order Reversed place idle = idle
ended_idle s order DayClosed place idle = idle

all_ended_idle : (s : Settling) (order : Option Order) (outcome : Option Outcome) (place : ℕ) → s.asking ≡ None → (ended_as s order outcome place).asking ≡ None
all_ended_idle s None outcome place idle = idle
all_ended_idle s (Some order) None place idle = idle
all_ended_idle s (Some order) (Some outcome) place idle = ended_idle s order outcome place idle

met_idle : (till : TillState) (s : Settling) (h : Happening) (asking : Option Bool) → s.asking ≡ None → asking ≡ None → (met till s asking h).asking ≡ None
met_idle till s h None idle none = all_ended_idle s (option_map (λ r. r.order) till.running) (outcome_at till h) (length till.unclear) idle
met_idle till s h (Some positive) idle none = absurd cc

either_idle : (up : Bool) (x y : Settling) → x.asking ≡ None → y.asking ≡ None → (cond up x y).asking ≡ None
either_idle true x y first second = first
either_idle false x y first second = second

-- what happens on the line begins no ask
pub line_idle : (b : Both) (h : Happening) → b.settling.asking ≡ None → (take b (Line h)).settling.asking ≡ None
line_idle b Connected idle = idle
line_idle b (SentOut o) idle = sent_idle b.settling (order_in o) idle
line_idle b (HeardIn m) idle =
    either_idle b.till.line_up (meets b.till b.settling (HeardIn m)) b.settling (met_idle b.till (noted b.settling (HeardIn m)) (HeardIn m) b.settling.asking idle idle) idle
line_idle b Malformed idle = met_idle b.till (noted b.settling Malformed) Malformed b.settling.asking idle idle
line_idle b Lost idle = met_idle b.till (noted b.settling Lost) Lost b.settling.asking idle idle

met_lost : (till : TillState) (s : Settling) (asking : Option Bool) → s.asking ≡ asking → (met till s asking Lost).asking ≡ None
met_lost till s None same = all_ended_idle s (option_map (λ r. r.order) till.running) (outcome_at till Lost) (length till.unclear) same
met_lost till s (Some positive) same = refl

-- a lost line ends the ask
pub lost_idle : (b : Both) → (take b (Line Lost)).settling.asking ≡ None
lost_idle b = met_lost b.till (noted b.settling Lost) b.settling.asking refl

-- ---- an order

pub order_is : (currency : ℕ) (b : Both) (order : Order) → take b (Line (SentOut (sent_as currency order))) ≡ record { till = accept b.till order; settling = sent b.settling order }
order_is currency b Register = refl
order_is currency b (Pay amount) = refl
order_is currency b (Reverse entry) = refl
order_is currency b CloseDay = refl
order_is currency b Cancel = refl
