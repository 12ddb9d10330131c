-- A till that settles lives through the records of a journal again.
use Rattle.std.proofs.Common.{◌≡◌, ◌⊎◌, ⊎_elim, ℕ, ◌+◌, ◌<◌, Bool, true, false, List, [], ◌∷◌, ◌++◌, length, take as first_of, map, get_or, Option, Some, None, refl, sym, ap, subst, ◌∙◌, arith, add-one}
use Rattle.std.specs.Prelude.{fold}
use Rattle.std.proofs.Math.Seq.{take-suc}
use Rattle.std.proofs.lemmas.List.{map-append, take_all}
use Rattle.std.proofs.lemmas.List.Sums.{fold-append}
use Rattle.zvt_grammar.specs.Reading.{padded}
use Rattle.zvt_grammar.specs.declared.answer.Scan.{Scan}
use Rattle.zvt_grammar.specs.declared.answer.Scan.TheVariants.{Whole}
use Rattle.zvt_apdu.specs.Message.{Message}
use Rattle.zvt_apdu.specs.Judging.{Answers}
use Rattle.zvt_till.specs.declared.happenings.Happening.TheVariants.{Connected, Sent as SentOut, Lost}
use Rattle.zvt_till.specs.declared.orders.Order.{Order}
use Rattle.zvt_till.specs.declared.orders.OrderRefusal.{OrderRefusal}
use Rattle.zvt_till.specs.declared.orders.OrderRefusal.TheVariants.{Memory}
use Rattle.zvt_till.specs.Events.{hears}
use Rattle.zvt_till.specs.Refusals.{refusal, sent_as}
use Rattle.zvt_till.specs.Sending.{Settings}
use Rattle.zvt_till.specs.Till.{TillState, accept, facts_of, new_till}
use Rattle.zvt_till.proofs.Runs.{refused-plainly}
use Rattle.zvt_till.proofs.Segments.{fold-snoc}
use Rattle.zvt_settle.specs.Settling.{Line, Asked, Both, ask_refusal, both_after, new_both, new_settling, sent, take, IsOrderRefusal}
use Rattle.zvt_kept.specs.declared.records.Entry.{Entry}
use Rattle.zvt_kept.specs.Records.{Kept, ordered, asked, heard, lost, kept_in}
use Rattle.zvt_kept.specs.Logs.{CanAsk, CanTakeAll, on_line}
use Rattle.zvt_kept.specs.Reading.{kept_of}
use Rattle.zvt_kept.specs.Recovery.{HasSettled, Relives, Replays}
use Rattle.zvt_kept.proofs.AskLemmas.{asks_more, asks_none, order_is}
use Rattle.zvt_kept.proofs.Relived.{ask_passes, line_lost, message_heard, order_refused, order_taken, whole_spells}

-- a record that no till can have
pub dies : (one : Kept) (before after : Both) → Relives false one before.till after.till → Replays false one before after
dies one before after relives settings log happened notes t happens k m c = relives settings log happened t happens k

some_not_none : {A : Type 0} (found : Option A) (a : A) → found ≡ Some a → found ≡ None → ⊥
some_not_none None a is none = absurd cc
some_not_none (Some other) a is none = absurd cc

-- ---- an order

pub order_replays : (order : Order) (note : List ℕ) (before after : Both) → refusal (facts_of before.till) order ≡ None
    → before.settling.asking ≡ None → after ≡ record { till = accept before.till order; settling = sent before.settling order } → Replays true (ordered order note) before after
order_replays order note before after none idle goes = (
  order_taken order note before.till after.till none (ap (λ b. b.till) goes),
  λ currency. let out = SentOut (sent_as currency order) in (on_line (out ∷ []), (out ∷ [], refl, refl), (idle, tt), goes ∙ sym (order_is currency before order)),
)

order_busy : (order : Order) (note : List ℕ) (before after : Both) (positive : Bool) → before.settling.asking ≡ Some positive → Replays false (ordered order note) before after
order_busy order note before after positive asks settings log happened notes t happens k m c =
    let takes = subst (CanTakeAll before) (m.2 ∙ ap on_line m.1) c in
    some_not_none before.settling.asking positive asks takes.0

pub order_turned : (order : Order) (note : List ℕ) (before after : Both) (spare : ℕ) (why : OrderRefusal) → IsOrderRefusal before.settling.asking (facts_of before.till) spare order why
    → (why ≡ Memory → ⊥) → Replays false (ordered order note) before after
order_turned order note before after spare why refused other = by_asking before.settling.asking refl refused
  where
    by_asking : (asking : Option Bool) → before.settling.asking ≡ asking → IsOrderRefusal asking (facts_of before.till) spare order why → Replays false (ordered order note) before after
    by_asking None is r = λ settings log happened notes t happens k m c.
        order_refused order note before.till after.till why (refused-plainly (facts_of before.till) spare order why r other) settings log happened t happens k
    by_asking (Some positive) is r = order_busy order note before after positive is

-- ---- an ask

pub ask_replays : (note : List ℕ) (before after : Both) → ask_refusal (facts_of before.till) before.settling.asking ≡ None → after ≡ take before Asked → Replays true (asked note) before after
ask_replays note before after none is = (subst (λ t. Relives true (asked note) before.till t) (sym (ap (λ b. b.till) is)) (ask_passes note before.till), λ currency. (Asked ∷ [], refl, (none, tt), is))

pub ask_turned : (note : List ℕ) (before after : Both) (why : OrderRefusal) → (why ≡ Memory) ⊎ (ask_refusal (facts_of before.till) before.settling.asking ≡ Some why) → (why ≡ Memory → ⊥)
    → Replays false (asked note) before after
ask_turned note before after why refused other settings log happened notes t happens k m c =
    let takes = subst (CanTakeAll before) m c in
    ⊎_elim other (λ is. some_not_none (ask_refusal (facts_of before.till) before.settling.asking) why is takes.0) refused

-- ---- a message, and a lost line

pub message_replays : (message : Message) (size : ℕ) (bytes : List ℕ) (answer : Scan (Message × ℕ)) (before after : Both) → Answers padded bytes answer → answer ≡ Whole (message, size) → size ≡ length bytes
    → after ≡ take before (Line (hears message)) → Replays true (heard bytes) before after
message_replays message size bytes answer before after a whole fits goes = (
  message_heard message size bytes answer before.till after.till a whole fits (ap (λ b. b.till) goes),
  λ currency. (on_line (hears message ∷ []), (hears message ∷ [], (message, ∣ whole_spells message size bytes fits (subst (Answers padded bytes) whole a) ∣₁, refl), refl), (tt, tt), goes),
)

pub lost_replays : (before between after : Both) → between ≡ take before (Line Lost) → after ≡ take between (Line Connected) → Replays true lost before after
lost_replays before between after went came = (
  line_lost before.till between.till after.till (ap (λ b. b.till) went) (ap (λ b. b.till) came),
  λ currency. (on_line (Lost ∷ Connected ∷ []), (Lost ∷ Connected ∷ [], refl, refl), (tt, (tt, tt)), came ∙ ap (λ b. take b (Line Connected)) went),
)

-- ---- records one after another

pub taken : (entries : List Entry) (i : ℕ) (entry : Entry) → i < length entries → entry ≡ get_or entries i entry → map kept_of (first_of (i + 1) entries) ≡ map kept_of (first_of i entries) ++ kept_of entry ∷ []
taken entries i entry below is =
    rw add-one (ap (map kept_of) (take-suc entries i entry below ∙ ap (λ y. first_of i entries ++ y ∷ []) (sym is)) ∙ map-append kept_of (first_of i entries) (entry ∷ []))

-- the till lived through these records
pub record AskedSoFar (settings : Settings) (kept : List Kept) (both : Both) : Type 0 where
  pub asks : CanAsk settings kept
  pub is : both ≡ both_after settings (Line Connected ∷ asks.notes)

pub none_asked : (settings : Settings) (entries : List Entry) (fresh : TillState) (first both : Both) → fresh ≡ new_till settings → first ≡ record { till = fresh; settling = new_settling } → both ≡ take first (Line Connected)
    → AskedSoFar settings (map kept_of (first_of 0 entries)) both
unfolding asks_none
none_asked settings entries fresh first both new made goes = record {
  asks = asks_none settings;
  is = goes ∙ ap (λ b. take b (Line Connected)) (made ∙ ap (λ (s : TillState). record { till = s; settling = new_settling }) new);
}

pub asked_more : (settings : Settings) (entries : List Entry) (i : ℕ) (entry : Entry) (before after : Both) → i < length entries → entry ≡ get_or entries i entry
    → Replays true (kept_of entry) before after → AskedSoFar settings (map kept_of (first_of i entries)) before → AskedSoFar settings (map kept_of (first_of (i + 1) entries)) after
unfolding asks_more
asked_more settings entries i entry before after below is lives a =
    let kept = map kept_of (first_of i entries) in
    let next = lives.1 settings.currency in
    let takes = subst (λ b. CanTakeAll b next.0) a.is next.2 in
    let more : AskedSoFar settings (kept ++ kept_of entry ∷ []) after = record {
      asks = asks_more settings kept (kept_of entry) a.asks next.0 next.1 takes;
      is = next.3 ∙ ap (λ b. fold take b next.0) a.is ∙ sym (fold-append take (new_both settings) (Line Connected ∷ a.asks.notes) next.0);
    } in
    subst (λ k. AskedSoFar settings k after) (sym (taken entries i entry below is)) more

pub all_asked : (settings : Settings) (entries : List Entry) (count : ℕ) (both : Both) → count ≡ length entries → AskedSoFar settings (map kept_of (first_of count entries)) both → AskedSoFar settings (map kept_of entries) both
all_asked settings entries count both all a = subst (λ es. AskedSoFar settings (map kept_of es) both) (take_all count entries (omega (arith, all))) a

-- and then the line is lost
pub settled_at_end : (settings : Settings) (text : List ℕ) (entries : List Entry) (old new : Both) → kept_in text ≡ Some (map kept_of entries) → new ≡ take old (Line Lost)
    → AskedSoFar settings (map kept_of entries) old → HasSettled settings text new
settled_at_end settings text entries old new read is a = record {
  kept = map kept_of entries;
  read = read;
  asks = a.asks;
  is = is ∙ ap (λ b. take b (Line Lost)) a.is ∙ sym (fold-snoc take (new_both settings) (Line Connected ∷ a.asks.notes) (Line Lost));
}
