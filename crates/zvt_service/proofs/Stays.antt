-- How an order ended stays.
use Rattle.std.specs.Prelude.{Ok, Err, option_map}
use Rattle.std.specs.Option.{option_or}
use Rattle.std.proofs.lemmas.List.Folds.{list_any-append}
use Rattle.std.proofs.Common.{◌≡◌, ◌⊎◌, ⊎_elim, inl, inr, ℕ, suc, Bool, true, false, cond, is_some, ◌||◌, List, [], ◌∷◌, ◌++◌, append-nil, Option, Some, None, Result, slice_get, refl, sym, ap, subst, ◌∙◌, append_assoc, true≢false}
use Rattle.zvt_till.specs.declared.happenings.Happening.TheVariants.{Lost}
use Rattle.zvt_till.specs.declared.keeper.BookFault.{BookFault}
use Rattle.zvt_till.specs.declared.keeper.BookFault.TheVariants.{NoSpace, Failed as BookFailed}
use Rattle.zvt_till.specs.declared.keeper.Untaken.{Untaken}
use Rattle.zvt_till.specs.declared.keeper.Untaken.TheVariants.{Order as Refused, Book as Unkept}
use Rattle.zvt_till.specs.declared.orders.Order.{Order}
use Rattle.zvt_till.specs.declared.orders.Outgoing.{Outgoing}
use Rattle.zvt_till.specs.Events.{hears as heard_as}
use Rattle.zvt_till.specs.Till.{TillState}
use Rattle.zvt_till.specs.View.{TillValue}
use Rattle.zvt_till.proofs.BookStepLemmas.{settings-accepted, settings-by-running}
use Rattle.zvt_apdu.specs.Message.{Message}
use Rattle.zvt_stream.specs.Answered.{Answered}
use Rattle.zvt_journal.specs.declared.device.DeviceError.{DeviceError}
use Rattle.zvt_journal.specs.Text.{recovered}
use Rattle.zvt_kept.specs.declared.past_orders.PastOrder.{PastOrder}
use Rattle.zvt_kept.specs.KeptTill.{Hears as KeptHears, KeptValue, Standing, both_in, has_failed, with_note}
use Rattle.zvt_kept.specs.Keeping.{kept_asks, kept_connects, kept_orders}
use Rattle.zvt_kept.specs.Notes.{is_noted_by}
use Rattle.zvt_kept.specs.PastOrders.{ArePast, StaysAs, first_noted}
use Rattle.zvt_kept.specs.Records.{Kept, IsRecordOf, ordered, asked, heard, lost, kept_in}
use Rattle.zvt_kept.proofs.Logged.{whole_text}
use Rattle.zvt_kept.proofs.Made.{records_are_kept}
use Rattle.zvt_kept.proofs.PastOrdersStay.{past_orders_stay}
use Rattle.zvt_kept.proofs.Steps.{asked_up, taken_up}
use Rattle.zvt_service.specs.declared.service.Ungiven.{Ungiven}
use Rattle.zvt_service.specs.declared.service.Ungiven.TheVariants.{Known, Memory, Till as TillRefused}
use Rattle.zvt_settle.specs.Settling.{Both}
use Rattle.zvt_service.specs.Books.{OrderIn, in_earlier, order_in}
use Rattle.zvt_service.specs.Service.{Asks, Gives, ServiceValue, found_by, is_known, state_of, unless_lost}
use Rattle.zvt_service.proofs.Living.{heard_settings}
use Rattle.zvt_service.proofs.Keys.{any_has, has_key, known_is, noted_any, or-right, records}
use Rattle.zvt_service.proofs.Sent.{Adds, Leaves, at_rest, moved, one_text, returned_leaves}
use Rattle.zvt_service.specs.Lives.{AnswersStay, StaysIn, Call, gives, asks, hears, loses, connects, Move, returns, ends_in, ends, IsWhole, Moves, Reopens, Returns}

-- ---- the first order with a key

abbrev pub EachStays : List PastOrder → List PastOrder → Type 0
EachStays old new = (index : ℕ) (one : PastOrder) → slice_get old index ≡ Some one → (later : PastOrder) × (slice_get new index ≡ Some later) × StaysAs one later

pub same_one : (a b : PastOrder) → Some a ≡ Some b → a ≡ b
same_one a b is = cc is

pub first_stays : (key : List ℕ) (old new : List PastOrder) (one : PastOrder) → EachStays old new → first_noted key old ≡ Some one → (later : PastOrder) × (first_noted key new ≡ Some later) × StaysAs one later
first_stays key [] new one each is = absurd cc
first_stays key (x ∷ old) [] one each is = let none : None ≡ Some (each 0 x refl).0 = (each 0 x refl).1 in absurd cc
first_stays key (x ∷ old) (y ∷ new) one each is =
    let here = each 0 x refl in
    let stays : StaysAs x y = subst (StaysAs x) (sym (same_one y here.0 here.1)) here.2 in
    by_first (is_noted_by key x.note) (is_noted_by key y.note) (ap (is_noted_by key) (sym stays.note)) stays is (λ more. first_stays key old new one (λ index. each (suc index)) more)
  where
    by_first : (p q : Bool) → p ≡ q → StaysAs x y → cond p (Some x) (first_noted key old) ≡ Some one
        → (first_noted key old ≡ Some one → (later : PastOrder) × (first_noted key new ≡ Some later) × StaysAs one later)
        → (later : PastOrder) × (cond q (Some y) (first_noted key new) ≡ Some later) × StaysAs one later
    by_first true true same stays found more = (y, refl, subst (λ o. StaysAs o y) (same_one x one found) stays)
    by_first false false same stays found more = more found
    by_first true false same stays found more = absurd cc
    by_first false true same stays found more = absurd cc

all_stay : (a b c : PastOrder) → StaysAs a b → StaysAs b c → StaysAs a c
all_stay a b c p q = record { order = q.order ∙ p.order; note = q.note ∙ p.note; outcome = λ outcome is. q.outcome outcome (p.outcome outcome is) }

pub itself : (a : PastOrder) → StaysAs a a
itself a = record { order = refl; note = refl; outcome = λ outcome is. is }

-- ---- the records after a move

-- What was lived through before a move is lived through after it: while the line is down, its loss comes next.
grown : (up now : Bool) (kept added : List Kept) → (up ≡ false → ((added ≡ []) × (now ≡ false)) ⊎ ((rest : List Kept) × (added ≡ lost ∷ rest)))
    → (more : List Kept) × ((kept ++ added) ++ unless_lost now ≡ (kept ++ unless_lost up) ++ more)
grown true now kept added down = (added ++ unless_lost now, append_assoc kept added (unless_lost now) ∙ ap (λ l. l ++ (added ++ unless_lost now)) (sym (append-nil kept)))
grown false now kept added down = ⊎_elim
    (λ none. ([], ap (λ l. (kept ++ l) ++ unless_lost now) none.0 ∙ ap (λ b. (kept ++ []) ++ unless_lost b) none.1 ∙ ap (λ l. l ++ lost ∷ []) (append-nil kept) ∙ sym (append-nil (kept ++ lost ∷ []))))
    (λ loss. (loss.0 ++ unless_lost now, ap (λ l. (kept ++ l) ++ unless_lost now) loss.1 ∙ append_assoc kept (lost ∷ loss.0) (unless_lost now) ∙ sym (append_assoc kept (lost ∷ []) (loss.0 ++ unless_lost now))))
    (down refl)

-- what was lived through after a move goes on from what was lived through before it
abbrev pub LivesOn : (before after : List Kept) → (up now : Bool) → Type 0
LivesOn before after up now = (more : List Kept) × (after ++ unless_lost now ≡ (before ++ unless_lost up) ++ more)

module _ {D : Type 0} (seen : D → List ℕ) (may_leave : D → List ℕ → Type 0) (moment : D → ℕ) (left_since : D → ℕ → List ℕ → Type 0) (faults : D → ℕ) where
  -- The text is as before, or has one record more. While the line is down, that is the record of its loss.
  pub record Grows (old new : ServiceValue D) : Type 0 where
    pub settings : (state_of new.kept).settings ≡ (state_of old.kept).settings
    pub text :
        ((recovered (seen new.kept.standing.device) ≡ recovered (seen old.kept.standing.device)) × ((state_of old.kept).line_up ≡ false → (state_of new.kept).line_up ≡ false))
        ⊎ ((one : Kept) × (added : List ℕ) × IsRecordOf one added × (recovered (seen new.kept.standing.device) ≡ recovered (seen old.kept.standing.device) ++ added) × ((state_of old.kept).line_up ≡ false → one ≡ lost))

  same_grows : (old new : ServiceValue D) → new.kept.standing ≡ old.kept.standing → Grows old new
  same_grows old new same = record {
    settings = ap (λ (s : Standing D). s.till.state.settings) same;
    text = inl (ap (λ (s : Standing D). recovered (seen s.device)) same, λ down. ap (λ (s : Standing D). s.till.state.line_up) same ∙ down);
  }

  not_both : (up : Bool) (one : Kept) → up ≡ true → up ≡ false → one ≡ lost
  not_both up one is down = absurd (true≢false (sym is ∙ down))

  order_grows : (order : Order) (note : List ℕ) (old new : ServiceValue D) (result : Result Outgoing Untaken) → has_failed new.kept ≡ false → kept_orders seen may_leave moment left_since faults (with_note old.kept note) order result new.kept → Grows old new
  order_grows order note old new (Ok outgoing) whole o = record {
    settings = ap (λ (s : TillState). s.settings) o.0.0.runs ∙ settings-accepted (state_of old.kept) (Some order);
    text = inr (ordered order note, o.0.3.added, o.0.3.is, o.0.3.adds.durable.0, not_both (state_of old.kept).line_up (ordered order note) (taken_up (state_of old.kept) order o.0.0.taken));
  }
  order_grows order note old new (Err (Refused why)) whole o = same_grows old new (ap (λ (k : KeptValue D). k.standing) o.1)
  order_grows order note old new (Err (Unkept NoSpace)) whole o = record {
    settings = ap (λ (s : TillState). s.settings) o.0.state;
    text = inl (ap recovered o.0.full.file, λ down. ap (λ (s : TillState). s.line_up) o.0.state ∙ down);
  }
  order_grows order note old new (Err (Unkept BookFailed)) whole o = absurd (true≢false (sym (ap (λ (f : Option DeviceError). is_some f) o.1) ∙ whole))

  gives_grows : (order : Order) (note : List ℕ) (old new : ServiceValue D) (result : Result Outgoing Ungiven) → has_failed new.kept ≡ false → Gives seen may_leave moment left_since faults order note old result new → Grows old new
  gives_grows order note old new (Ok outgoing) whole g = order_grows order note old new (Ok outgoing) whole g.1
  gives_grows order note old new (Err Known) whole g = same_grows old new (ap (λ (s : ServiceValue D). s.kept.standing) g.1)
  gives_grows order note old new (Err Memory) whole g = same_grows old new (ap (λ (s : ServiceValue D). s.kept.standing) g.1)
  gives_grows order note old new (Err (TillRefused why)) whole g = order_grows order note old new (Err why) whole g.1

  asks_grows : (note : List ℕ) (old new : ServiceValue D) (result : Result (List ℕ) Untaken) → has_failed new.kept ≡ false → kept_asks seen may_leave moment left_since faults (with_note old.kept note) result new.kept → Grows old new
  asks_grows note old new (Ok bytes) whole a = record {
    settings = ap (λ (t : TillValue). t.state.settings) a.0.0.accepts.inside;
    text = inr (asked note, a.0.2.added, a.0.2.is, a.0.2.adds.durable.0, not_both (state_of old.kept).line_up (asked note) (asked_up (state_of old.kept) old.kept.standing.settling.asking a.0.0.accepts.taken));
  }
  asks_grows note old new (Err (Refused why)) whole a = same_grows old new (ap (λ (k : KeptValue D). k.standing) a.1)
  asks_grows note old new (Err (Unkept NoSpace)) whole a = record {
    settings = ap (λ (t : TillValue). t.state.settings) a.0.inside;
    text = inl (ap recovered a.0.full.file, λ down. ap (λ (t : TillValue). t.state.line_up) a.0.inside ∙ down);
  }
  asks_grows note old new (Err (Unkept BookFailed)) whole a = absurd (true≢false (sym (ap (λ (f : Option DeviceError). is_some f) a.1) ∙ whole))

  hears_grows : (old new : ServiceValue D) (message : Message) (answered : Answered) → has_failed new.kept ≡ false → KeptHears seen may_leave moment left_since faults old.kept message answered new.kept → Grows old new
  hears_grows old new message answered whole h = ⊎_elim
      (λ still. same_grows old new (ap (λ (k : KeptValue D). k.standing) still.1))
      (λ more. ⊎_elim
      (λ kept. record {
        settings = ap (λ (s : TillState). s.settings) kept.1.heard.0 ∙ heard_settings (state_of old.kept) (heard_as message) (state_of old.kept).line_up;
        text = inr (heard kept.1.recorded.0, kept.1.recorded.1.added, kept.1.recorded.1.is, kept.1.recorded.1.adds.durable.0, not_both (state_of old.kept).line_up (heard kept.1.recorded.0) kept.1.up);
      })
      (λ broke. absurd (true≢false (sym (ap (λ (f : Option DeviceError). is_some f) broke.1) ∙ whole)))
      more)
      h

  connects_grows : (old new : ServiceValue D) (result : Result Unit BookFault) → has_failed old.kept ≡ false → has_failed new.kept ≡ false → kept_connects seen may_leave moment left_since faults old.kept result new.kept → Grows old new
  connects_grows old new (Ok up) was whole k = ⊎_elim
      (λ still. same_grows old new (ap (λ (v : KeptValue D). v.standing) still.1))
      (λ more. record { settings = ap (λ (s : TillState). s.settings) more.2.state; text = inr (lost, more.2.recorded.added, more.2.recorded.is, more.2.recorded.adds.durable.0, λ down. refl) })
      k
  connects_grows old new (Err NoSpace) was whole k = absurd k
  connects_grows old new (Err BookFailed) was whole k = ⊎_elim
      (λ still. absurd (true≢false (sym still.0 ∙ was)))
      (λ broke. absurd (true≢false (sym (ap (λ (f : Option DeviceError). is_some f) broke.1) ∙ whole)))
      k.1

  returned_grows : (call : Call) (old new : ServiceValue D) (sent : List (List ℕ)) → has_failed old.kept ≡ false → has_failed new.kept ≡ false → Returns seen may_leave moment left_since faults call old new sent → Grows old new
  returned_grows (gives order note) old new sent was whole r = gives_grows order note old new r.0 whole r.1
  returned_grows (asks note) old new sent was whole r = asks_so r.0 r.1
    where
      asks_so : (result : Result (List ℕ) Untaken) → Asks seen may_leave moment left_since faults note old result new → Grows old new
      asks_so (Ok bytes) a = asks_grows note old new (Ok bytes) whole a.0
      asks_so (Err why) a = asks_grows note old new (Err why) whole a.0
  returned_grows hears old new sent was whole r = ⊎_elim
      (λ still. same_grows old new (ap (λ (s : ServiceValue D). s.kept.standing) still.1))
      (λ more. hears_grows old new r.0 r.1 whole more.1)
      r.2
  returned_grows loses old new sent was whole r = ⊎_elim
      (λ still. same_grows old new (ap (λ (s : ServiceValue D). s.kept.standing) still.1))
      (λ more. record {
        settings = ap (λ (s : TillState). s.settings) more.1.0.0 ∙ settings-by-running (state_of old.kept) Lost (state_of old.kept).running;
        text = inl (ap (λ d. recovered (seen d)) more.1.1, λ down. ap (λ (s : TillState). s.line_up) more.1.0.0);
      })
      r.0
  returned_grows connects old new sent was whole r = connects_grows old new r.0 was whole r.1.0

  module _ (only_now : (device : D) (file : List ℕ) → left_since device (moment device) file → may_leave device file) where
    reopened_grows : (old by new : ServiceValue D) → (r : Reopens seen may_leave moment left_since faults old by new) → Leaves seen may_leave moment left_since faults old r.file → Grows old new
    reopened_grows old by new r leaves = record {
      settings = r.settings;
      text = ⊎_elim (λ same. inl (r.found ∙ same, λ down. r.down)) (λ more. inr (more.0, more.1, more.2, r.found ∙ more.3, more.4)) leaves;
    }

    pub moved_grows : (move : Move) (old new : ServiceValue D) (sent : List (List ℕ)) → IsWhole seen may_leave moment left_since faults old → Moves seen may_leave moment left_since faults move old new sent → Grows old new
    moved_grows (returns call) old new sent is m = returned_grows call old new sent is.whole m.1.whole m.0
    moved_grows (ends_in call) old new sent is m = reopened_grows old m.0 new m.3 (returned_leaves seen may_leave moment left_since faults only_now call old m.0 m.1 m.3.file is m.2 m.3.left)
    moved_grows ends old new sent is m = reopened_grows old old new m.0 (at_rest seen may_leave moment left_since faults only_now old old.kept.standing.device m.0.file is refl m.0.left)

    -- ---- one move

    -- what was lived through before is lived through after it
    pub lived_more : (old new : ServiceValue D) (is : IsWhole seen may_leave moment left_since faults old) (then : IsWhole seen may_leave moment left_since faults new) → Grows old new
        → LivesOn (is.served is.whole).kept (then.served then.whole).kept (state_of old.kept).line_up (state_of new.kept).line_up
    lived_more old new is then g = ⊎_elim same one_more g.text
      where
        before : List Kept
        before = (is.served is.whole).kept

        after : List Kept
        after = (then.served then.whole).kept

        by_records : (added : List Kept) → after ≡ before ++ added → ((state_of old.kept).line_up ≡ false → ((added ≡ []) × ((state_of new.kept).line_up ≡ false)) ⊎ ((rest : List Kept) × (added ≡ lost ∷ rest))) → LivesOn before after (state_of old.kept).line_up (state_of new.kept).line_up
        by_records added kept down =
            let all = grown (state_of old.kept).line_up (state_of new.kept).line_up before added down in
            (all.0, ap (λ k. k ++ unless_lost (state_of new.kept).line_up) kept ∙ all.1)

        same : (recovered (seen new.kept.standing.device) ≡ recovered (seen old.kept.standing.device)) × ((state_of old.kept).line_up ≡ false → (state_of new.kept).line_up ≡ false) → LivesOn before after (state_of old.kept).line_up (state_of new.kept).line_up
        same as_before =
            let kept : after ≡ before = one_text seen may_leave moment left_since faults only_now (recovered (seen new.kept.standing.device)) (recovered (seen old.kept.standing.device)) after before (then.served then.whole).read (is.served is.whole).read as_before.0 in
            by_records [] (kept ∙ sym (append-nil before)) (λ down. inl (refl, as_before.1 down))

        one_more : (one : Kept) × (added : List ℕ) × IsRecordOf one added × (recovered (seen new.kept.standing.device) ≡ recovered (seen old.kept.standing.device) ++ added) × ((state_of old.kept).line_up ≡ false → one ≡ lost) → LivesOn before after (state_of old.kept).line_up (state_of new.kept).line_up
        one_more found =
            let text = recovered (seen old.kept.standing.device) in
            let read : kept_in (text ++ found.1) ≡ Some (before ++ found.0 ∷ []) = records_are_kept text before found.0 found.1 (whole_text (seen old.kept.standing.device)) (is.served is.whole).read found.2 in
            let kept : after ≡ before ++ found.0 ∷ [] = one_text seen may_leave moment left_since faults only_now (recovered (seen new.kept.standing.device)) (text ++ found.1) after (before ++ found.0 ∷ []) (then.served then.whole).read read found.3 in
            by_records (found.0 ∷ []) kept (λ down. inr ([], ap (λ k. k ∷ []) (found.4 down)))

    pub one_stays : (move : Move) (old new : ServiceValue D) (sent : List (List ℕ)) → IsWhole seen may_leave moment left_since faults old → Moves seen may_leave moment left_since faults move old new sent → EachStays old.past new.past
    one_stays move old new sent is m =
        let then = (moved seen may_leave moment left_since faults only_now move old new sent is m).1 in
        let g = moved_grows move old new sent is m in
        let more = lived_more old new is then g in
        let p = is.served is.whole in
        let q = then.served then.whole in
        let settings = (state_of old.kept).settings in
        past_orders_stay settings (p.kept ++ unless_lost (state_of old.kept).line_up) more.0 old.past new.past p.are
        (subst (λ k. ArePast settings k new.past) more.1 (subst (λ s. ArePast s (q.kept ++ unless_lost (state_of new.kept).line_up) new.past) g.settings q.are))

    -- ---- the order with a key

    -- the own book still has no order with a key of an earlier book
    pub still_none : (key : List ℕ) (old new : ServiceValue D) (sent : List (List ℕ)) → Adds old new sent → is_known key old ≡ true → first_noted key old.past ≡ None → first_noted key new.past ≡ None
    still_none key old new sent a known own = none_of (first_noted key new.past) (noted_any key new.past ∙ ap (any_has key) a.is ∙ list_any-append (has_key key) (records old) a.more ∙ by_new (any_has key a.more) refl)
      where
        none_of : (found : Option PastOrder) → is_some found ≡ false → found ≡ None
        none_of None is = refl
        none_of (Some one) is = absurd (true≢false is)

        by_new : (b : Bool) → any_has key a.more ≡ b → (any_has key (records old) || any_has key a.more) ≡ false
        by_new true is = absurd (true≢false (sym known ∙ a.fresh key is))
        by_new false is = ap (λ x. x || any_has key a.more) (sym (noted_any key old.past) ∙ ap is_some own) ∙ is

    pub same_found : (a b : OrderIn) → Some a ≡ Some b → a ≡ b
    same_found a b is = cc is

    found_stays : (key : List ℕ) (old new : ServiceValue D) (sent : List (List ℕ)) (one : OrderIn) → Adds old new sent → EachStays old.past new.past → found_by key old ≡ Some one → (later : OrderIn) × (found_by key new ≡ Some later) × StaysIn one later
    found_stays key old new sent one a each found = by_own (first_noted key old.past) refl found
      where
        before : Both
        before = both_in old.kept.standing

        after : Both
        after = both_in new.kept.standing

        by_own : (own : Option PastOrder) → first_noted key old.past ≡ own → option_or (option_map (order_in key true before old.past) own) (in_earlier key old.earlier) ≡ Some one → (later : OrderIn) × (found_by key new ≡ Some later) × StaysIn one later
        by_own (Some past) own is =
            let stays = first_stays key old.past new.past past each own in
            let same = same_found (order_in key true before old.past past) one is in (
              order_in key true after new.past stays.0,
              ap (λ f. option_or (option_map (order_in key true after new.past) f) (in_earlier key new.earlier)) stays.1,
              record { past = subst (λ (o : OrderIn). StaysAs o.past stays.0) same stays.2; book = ap (λ (o : OrderIn). o.is_own) same },
            )
        by_own None own is =
            let known : is_known key old ≡ true = known_is key old ∙ ap (λ b. any_has key (records old) || b) (ap is_some is) ∙ or-right (any_has key (records old)) in
            let none = still_none key old new sent a known own in (
              one,
              ap (λ f. option_or (option_map (order_in key true after new.past) f) (in_earlier key new.earlier)) none ∙ ap (in_earlier key) a.earlier ∙ is,
              record { past = itself one.past; book = refl },
            )

    pub answers_stay : AnswersStay seen may_leave moment left_since faults
    answers_stay [] old new sent key one is lives found = (one, ap (found_by key) (sym lives.0) ∙ found, record { past = itself one.past; book = refl })
    answers_stay (move ∷ more) old new sent key one is lives found =
        let middle = lives.0 in
        let next = moved seen may_leave moment left_since faults only_now move old middle lives.1 is lives.3 in
        let first = found_stays key old middle lives.1 one next.0 (one_stays move old middle lives.1 is lives.3) found in
        let rest = answers_stay more middle new lives.2 key first.0 next.1 lives.4 first.1 in
        (rest.0, rest.1, record { past = all_stay one.past first.0.past rest.0.past first.2.past rest.2.past; book = rest.2.book ∙ first.2.book })
