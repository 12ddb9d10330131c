-- No key is sent twice.
use Rattle.std.specs.Prelude.{Ok, Err}
use Rattle.std.proofs.Common.{◌≡◌, ◌⊎◌, ⊎_elim, inl, inr, ℕ, Bool, true, false, cond, ◌||◌, ◌-◌, List, [], ◌∷◌, ◌++◌, All, append-nil, length, map, Option, Some, None, Result, slice_get, slice_set, refl, sym, ap, subst, ◌∙◌, append_assoc, true≢false}
use Rattle.std.specs.List.{AllByRecursion, IsDistinct}
use Rattle.std.specs.Str.{bytes_eq}
use Rattle.std.proofs.lemmas.List.Elements.{All-cons, All-nil}
use Rattle.std.proofs.lemmas.Map.Keys.{IsDistinct-cons}
use mathlib.Core.List.{map-append}
use Rattle.std.proofs.lemmas.Slice.Eq.{bytes_eq-Decides}
use Rattle.zvt_till.specs.declared.keeper.BookFault.TheVariants.{NoSpace, Failed as BookFailed}
use Rattle.zvt_till.specs.declared.keeper.Untaken.{Untaken}
use Rattle.zvt_till.specs.declared.keeper.Untaken.TheVariants.{Order as Refused, Book as Unkept}
use Rattle.zvt_till.specs.declared.orders.Order.{Order}
use Rattle.zvt_till.specs.declared.orders.Outgoing.{Outgoing}
use Rattle.zvt_till.specs.Till.{TillState}
use Rattle.zvt_apdu.specs.Message.{Message}
use Rattle.zvt_stream.specs.Answered.{Answered}
use Rattle.zvt_till.specs.declared.keeper.BookFault.{BookFault}
use Rattle.zvt_journal.specs.declared.device.DeviceError.{DeviceError}
use Rattle.zvt_journal.specs.Text.{recovered, IsSettled}
use Rattle.zvt_kept.specs.declared.past_orders.PastOrder.{PastOrder}
use Rattle.zvt_kept.specs.declared.recovery.Recovered.{Recovered}
use Rattle.zvt_kept.specs.KeptTill.{Connects as KeptConnects, Hears as KeptHears, KeptValue, Standing, Writes, has_failed, with_note}
use Rattle.zvt_kept.specs.Keeping.{kept_asks, kept_connects, kept_orders}
use Rattle.zvt_kept.specs.Notes.{reference_in}
use Rattle.zvt_kept.specs.PastOrders.{ended, followed, held, record_of, runs, starting, starts}
use Rattle.zvt_kept.specs.Records.{Kept, IsRecordOf, ordered, asked, heard, lost, kept_in}
use Rattle.zvt_kept.proofs.Logged.{whole_text}
use Rattle.zvt_kept.proofs.Made.{records_are_kept}
use Rattle.zvt_kept.proofs.PastOrderLemmas.{map_set, starting_one}
use Rattle.zvt_kept.proofs.Steps.{asked_up, taken_up}
use Rattle.zvt_service.specs.declared.service.Ungiven.{Ungiven}
use Rattle.zvt_service.specs.declared.service.Ungiven.TheVariants.{Known, Memory, Till as TillRefused}
use Rattle.zvt_service.specs.Service.{Asks, Gives, ServiceValue, is_held, is_known, state_of, unless_failed}
use Rattle.zvt_service.proofs.Living.{starting_while}
use Rattle.zvt_service.specs.Lives.{Call, gives, asks, hears, loses, connects, Move, returns, ends_in, ends, IsKnown, IsWhole, Lives, Moves, Reopens, Returns, SentOnce, keys_in, keys_of, one_or_none}
use Rattle.zvt_service.proofs.Keys.{IsFresh, any_has, any_last, any_more, has_key, is_earlier, keyless, known_by_record, known_is, not_known, or-only, or-right, or-split, order_fresh, own_key, records}

-- ---- what one move adds to the records

-- what the till lives through changes no record
followed_records : (past : List PastOrder) (state : TillState) → map record_of (followed past state) ≡ map record_of past
followed_records past state = by_last (slice_get past (length past - 1)) refl
  where
    by_last : (last : Option PastOrder) → slice_get past (length past - 1) ≡ last
        → map record_of (elim last [ None ↦ past | Some l ↦ slice_set past (length past - 1) (record l { outcome = ended state }) ]) ≡ map record_of past
    by_last None is = refl
    by_last (Some last) is = map_set record_of past (length past - 1) last (record last { outcome = ended state }) is refl

held_records : (past : List PastOrder) (order : Order) (note : List ℕ) → map record_of (held past (ordered order note)) ≡ map record_of past ++ cond (runs order) (ordered order note ∷ []) []
held_records past order note = by_run (runs order)
  where
    by_run : (b : Bool) → map record_of (cond b (past ++ record { order = order; note = note; outcome = None } ∷ []) past) ≡ map record_of past ++ cond b (ordered order note ∷ []) []
    by_run true = map-append record_of past _
    by_run false = sym (append-nil (map record_of past))

-- The records after a move are those before it and some more, and the earlier books are the same. No key of the new
-- records was known before. At most one key was sent, and one of the new records has it.
pub record Adds {D : Type 0} (old new : ServiceValue D) (sent : List (List ℕ)) : Type 0 where
  pub more : List Kept
  pub is : records new ≡ records old ++ more
  pub earlier : new.earlier ≡ old.earlier
  pub fresh : (key : List ℕ) → any_has key more ≡ true → is_known key old ≡ false
  pub none_or_one : (sent ≡ []) ⊎ ((key : List ℕ) × (sent ≡ key ∷ []) × (any_has key more ≡ true))

adds_none : {D : Type 0} (old new : ServiceValue D) (sent : List (List ℕ)) → records new ≡ records old → new.earlier ≡ old.earlier → sent ≡ [] → Adds old new sent
adds_none old new sent same earlier none = record { more = []; is = same ∙ sym (append-nil (records old)); earlier = earlier; fresh = λ key has. absurd cc; none_or_one = inl none }

-- a record is added if it starts an order
fresh_if : {D : Type 0} (old : ServiceValue D) (one : Kept) (b : Bool) → IsFresh old one → (key : List ℕ) → any_has key (cond b (one ∷ []) []) ≡ true → is_known key old ≡ false
fresh_if old one true fresh key has = fresh key (or-only (has_key key one) has)
fresh_if old one false fresh key has = absurd cc

-- an order that was sent
sent_key : (order : Order) (note : List ℕ) (runs_is : Bool) (found : Option (List ℕ)) → reference_in note ≡ found → (sent : List (List ℕ)) → sent ≡ cond runs_is (one_or_none found) []
    → (sent ≡ []) ⊎ ((key : List ℕ) × (sent ≡ key ∷ []) × (any_has key (cond runs_is (ordered order note ∷ []) []) ≡ true))
sent_key order note false found is sent sent_is = inl sent_is
sent_key order note true None is sent sent_is = inl sent_is
sent_key order note true (Some key) is sent sent_is = inr (key, sent_is, ap (λ b. b || false) (own_key key note is))

given_adds : {D : Type 0} (order : Order) (note : List ℕ) (old new : ServiceValue D) (sent : List (List ℕ)) → is_held note old ≡ false → new.past ≡ followed (held old.past (ordered order note)) (state_of new.kept)
    → new.earlier ≡ old.earlier → sent ≡ cond (runs order) (keys_in note) [] → Adds old new sent
given_adds order note old new sent free is earlier sent_is = record {
  more = cond (runs order) (ordered order note ∷ []) [];
  is = ap (map record_of) is ∙ followed_records (held old.past (ordered order note)) (state_of new.kept) ∙ held_records old.past order note;
  earlier = earlier;
  fresh = fresh_if old (ordered order note) (runs order) (order_fresh order note old free);
  none_or_one = sent_key order note (runs order) (reference_in note) refl sent sent_is;
}

followed_adds : {D : Type 0} (old new : ServiceValue D) (sent : List (List ℕ)) → new.past ≡ followed old.past (state_of new.kept) → new.earlier ≡ old.earlier → sent ≡ [] → Adds old new sent
followed_adds old new sent is earlier none = adds_none old new sent (ap (map record_of) is ∙ followed_records old.past (state_of new.kept)) earlier none

same_adds : {D : Type 0} (old new : ServiceValue D) (sent : List (List ℕ)) → new.past ≡ old.past → new.earlier ≡ old.earlier → sent ≡ [] → Adds old new sent
same_adds old new sent is earlier none = adds_none old new sent (ap (map record_of) is) earlier none

abbrev earlier_in : {D : Type 0} → ServiceValue D → List Recovered
earlier_in s = s.earlier

no_keys : IsDistinct bytes_eq []
unfolding IsDistinct
no_keys = tt

-- ---- the lives of a service

module _ {D : Type 0} (seen : D → List ℕ) (may_leave : D → List ℕ → Type 0) (moment : D → ℕ) (left_since : D → ℕ → List ℕ → Type 0) (faults : D → ℕ) where
  gives_adds : (order : Order) (note : List ℕ) (old new : ServiceValue D) (result : Result Outgoing Ungiven) (sent : List (List ℕ)) → Gives seen may_leave moment left_since faults order note old result new → sent ≡ keys_of order note result → Adds old new sent
  gives_adds order note old new (Ok outgoing) sent g is = given_adds order note old new sent g.0 g.2 g.3 is
  gives_adds order note old new (Err Known) sent g is = adds_none old new sent (ap records g.1) (ap earlier_in g.1) is
  gives_adds order note old new (Err Memory) sent g is = adds_none old new sent (ap records g.1) (ap earlier_in g.1) is
  gives_adds order note old new (Err (TillRefused why)) sent g is = same_adds old new sent g.2 g.3 is

  asks_adds : (note : List ℕ) (old new : ServiceValue D) (result : Result (List ℕ) Untaken) (sent : List (List ℕ)) → Asks seen may_leave moment left_since faults note old result new → sent ≡ [] → Adds old new sent
  asks_adds note old new (Ok bytes) sent a none = followed_adds old new sent a.1 a.2 none
  asks_adds note old new (Err why) sent a none = same_adds old new sent a.1 a.2 none

  unless_adds : (old new : ServiceValue D) (sent : List (List ℕ)) (failed : Bool) → new.past ≡ unless_failed failed old.past (followed old.past (state_of new.kept)) → new.earlier ≡ old.earlier → sent ≡ [] → Adds old new sent
  unless_adds old new sent true is earlier none = same_adds old new sent is earlier none
  unless_adds old new sent false is earlier none = followed_adds old new sent is earlier none

  returned_adds : (call : Call) (old new : ServiceValue D) (sent : List (List ℕ)) → Returns seen may_leave moment left_since faults call old new sent → Adds old new sent
  returned_adds (gives order note) old new sent r = gives_adds order note old new r.0 sent r.1 r.2
  returned_adds (asks note) old new sent r = asks_adds note old new r.0 sent r.1 r.2
  returned_adds hears old new sent r = ⊎_elim
      (λ still. adds_none old new sent (ap records still.1) (ap earlier_in still.1) r.3)
      (λ more. unless_adds old new sent (has_failed new.kept) more.2 more.3 r.3)
      r.2
  returned_adds loses old new sent r = ⊎_elim
      (λ still. adds_none old new sent (ap records still.1) (ap earlier_in still.1) r.1)
      (λ more. followed_adds old new sent more.2 more.3 r.1)
      r.0
  returned_adds connects old new sent r = same_adds old new sent r.1.1 r.1.2 r.2

  -- ---- what a crash leaves

  -- The file has the records of a service's journal, or one more, whose key is new. While the line is down, that is the
  -- record of its loss.
  abbrev pub Leaves : (old : ServiceValue D) (file : List ℕ) → Type 0
  Leaves old file =
      (recovered file ≡ recovered (seen old.kept.standing.device))
      ⊎ ((one : Kept) × (added : List ℕ) × IsRecordOf one added × (recovered file ≡ recovered (seen old.kept.standing.device) ++ added) × ((state_of old.kept).line_up ≡ false → one ≡ lost) × IsFresh old one)

  with_or_without : (one : Kept) (old : ServiceValue D) (new : Standing D) (result : Result Unit DeviceError) (file : List ℕ) → Writes seen may_leave moment left_since faults one old.kept.standing new result
      → ((state_of old.kept).line_up ≡ false → one ≡ lost) → IsFresh old one → left_since new.device (moment old.kept.standing.device) file → Leaves old file
  with_or_without one old new result file w down fresh left = ⊎_elim (λ same. inl same) (λ more. inr (one, w.added, w.is, more, down, fresh)) (w.adds.leaves.here file left)

  -- a line that is up is not down
  not_down : (up : Bool) (one : Kept) → up ≡ true → up ≡ false → one ≡ lost
  not_down up one is down = absurd (true≢false (sym is ∙ down))

  module _ (only_now : (device : D) (file : List ℕ) → left_since device (moment device) file → may_leave device file) where
    settled_in : (service : ServiceValue D) → IsWhole seen may_leave moment left_since faults service → IsSettled (seen service.kept.standing.device) (may_leave service.kept.standing.device) service.kept.standing.gate
    settled_in service is = is.kept.1.settled

    -- nothing was written
    pub at_rest : (service : ServiceValue D) (device : D) (file : List ℕ) → IsWhole seen may_leave moment left_since faults service → device ≡ service.kept.standing.device
        → left_since device (moment service.kept.standing.device) file → Leaves service file
    at_rest service device file is same left =
        let here = service.kept.standing.device in
        inl (ap recovered ((settled_in service is).durable file (only_now here file (subst (λ d. left_since d (moment here) file) same left))))

    order_leaves : (order : Order) (note : List ℕ) (old last : ServiceValue D) (result : Result Outgoing Untaken) (file : List ℕ) → is_held note old ≡ false → IsWhole seen may_leave moment left_since faults old
        → kept_orders seen may_leave moment left_since faults (with_note old.kept note) order result last.kept → left_since last.kept.standing.device (moment old.kept.standing.device) file → Leaves old file
    order_leaves order note old last (Ok outgoing) file free is o left = with_or_without (ordered order note) old last.kept.standing (Ok tt) file o.0.3 (not_down (state_of old.kept).line_up (ordered order note) (taken_up (state_of old.kept) order o.0.0.taken)) (order_fresh order note old free) left
    order_leaves order note old last (Err (Refused why)) file free is o left = at_rest old last.kept.standing.device file is (ap (λ (k : KeptValue D). k.standing.device) o.1) left
    order_leaves order note old last (Err (Unkept NoSpace)) file free is o left = inl (ap recovered (o.0.full.leaves.here file left))
    order_leaves order note old last (Err (Unkept BookFailed)) file free is o left = with_or_without (ordered order note) old last.kept.standing (Err o.0) file o.3 (not_down (state_of old.kept).line_up (ordered order note) (taken_up (state_of old.kept) order o.2.taken)) (order_fresh order note old free) left

    gives_leaves : (order : Order) (note : List ℕ) (old last : ServiceValue D) (result : Result Outgoing Ungiven) (file : List ℕ) → IsWhole seen may_leave moment left_since faults old → Gives seen may_leave moment left_since faults order note old result last
        → left_since last.kept.standing.device (moment old.kept.standing.device) file → Leaves old file
    gives_leaves order note old last (Ok outgoing) file is g left = order_leaves order note old last (Ok outgoing) file g.0 is g.1 left
    gives_leaves order note old last (Err Known) file is g left = at_rest old last.kept.standing.device file is (ap (λ (s : ServiceValue D). s.kept.standing.device) g.1) left
    gives_leaves order note old last (Err Memory) file is g left = at_rest old last.kept.standing.device file is (ap (λ (s : ServiceValue D). s.kept.standing.device) g.1) left
    gives_leaves order note old last (Err (TillRefused why)) file is g left = order_leaves order note old last (Err why) file g.0 is g.1 left

    asks_leaves : (note : List ℕ) (old last : ServiceValue D) (result : Result (List ℕ) Untaken) (file : List ℕ) → IsWhole seen may_leave moment left_since faults old → kept_asks seen may_leave moment left_since faults (with_note old.kept note) result last.kept
        → left_since last.kept.standing.device (moment old.kept.standing.device) file → Leaves old file
    asks_leaves note old last (Ok bytes) file is a left = with_or_without (asked note) old last.kept.standing (Ok tt) file a.0.2 (not_down (state_of old.kept).line_up (asked note) (asked_up (state_of old.kept) old.kept.standing.settling.asking a.0.0.accepts.taken)) (keyless old (asked note) (λ key. refl)) left
    asks_leaves note old last (Err (Refused why)) file is a left = at_rest old last.kept.standing.device file is (ap (λ (k : KeptValue D). k.standing.device) a.1) left
    asks_leaves note old last (Err (Unkept NoSpace)) file is a left = inl (ap recovered (a.0.full.leaves.here file left))
    asks_leaves note old last (Err (Unkept BookFailed)) file is a left = with_or_without (asked note) old last.kept.standing (Err a.0) file a.3 (not_down (state_of old.kept).line_up (asked note) (asked_up (state_of old.kept) old.kept.standing.settling.asking a.2.loses.taken)) (keyless old (asked note) (λ key. refl)) left

    hears_leaves : (old last : ServiceValue D) (message : Message) (answered : Answered) (file : List ℕ) → IsWhole seen may_leave moment left_since faults old → KeptHears seen may_leave moment left_since faults old.kept message answered last.kept
        → left_since last.kept.standing.device (moment old.kept.standing.device) file → Leaves old file
    hears_leaves old last message answered file is h left = ⊎_elim
        (λ still. at_rest old last.kept.standing.device file is (ap (λ (k : KeptValue D). k.standing.device) still.1) left)
        (λ more. ⊎_elim
        (λ kept. with_or_without (heard kept.1.recorded.0) old last.kept.standing (Ok tt) file kept.1.recorded.1 (not_down (state_of old.kept).line_up (heard kept.1.recorded.0) kept.1.up) (keyless old (heard kept.1.recorded.0) (λ key. refl)) left)
        (λ broke. with_or_without (heard broke.3.recorded.0) old last.kept.standing (Err broke.0) file broke.3.recorded.1 (not_down (state_of old.kept).line_up (heard broke.3.recorded.0) broke.3.up) (keyless old (heard broke.3.recorded.0) (λ key. refl)) left)
        more)
        h

    line_leaves : (old last : ServiceValue D) (result : Result Unit DeviceError) (file : List ℕ) → IsWhole seen may_leave moment left_since faults old → KeptConnects seen may_leave moment left_since faults old.kept last.kept result
        → left_since last.kept.standing.device (moment old.kept.standing.device) file → Leaves old file
    line_leaves old last (Ok up) file is k left = ⊎_elim
        (λ still. at_rest old last.kept.standing.device file is (ap (λ (k : KeptValue D). k.standing.device) still.1) left)
        (λ more. with_or_without lost old last.kept.standing (Ok tt) file more.2.recorded (λ down. refl) (keyless old lost (λ key. refl)) left)
        k
    line_leaves old last (Err why) file is k left = ⊎_elim
        (λ failed. absurd (true≢false (sym failed.0 ∙ is.whole)))
        (λ more. with_or_without lost old last.kept.standing (Err why) file more.7 (λ down. refl) (keyless old lost (λ key. refl)) left)
        k

    connects_leaves : (old last : ServiceValue D) (result : Result Unit BookFault) (file : List ℕ) → IsWhole seen may_leave moment left_since faults old → kept_connects seen may_leave moment left_since faults old.kept result last.kept
        → left_since last.kept.standing.device (moment old.kept.standing.device) file → Leaves old file
    connects_leaves old last (Ok up) file is k left = line_leaves old last (Ok up) file is k left
    connects_leaves old last (Err NoSpace) file is k left = absurd k
    connects_leaves old last (Err BookFailed) file is k left = line_leaves old last (Err k.0) file is k.1 left

    pub returned_leaves : (call : Call) (old last : ServiceValue D) (sent : List (List ℕ)) (file : List ℕ) → IsWhole seen may_leave moment left_since faults old → Returns seen may_leave moment left_since faults call old last sent
        → left_since last.kept.standing.device (moment old.kept.standing.device) file → Leaves old file
    returned_leaves (gives order note) old last sent file is r left = gives_leaves order note old last r.0 file is r.1 left
    returned_leaves (asks note) old last sent file is r left = asks_so r.0 r.1
      where
        asks_so : (result : Result (List ℕ) Untaken) → Asks seen may_leave moment left_since faults note old result last → Leaves old file
        asks_so (Ok bytes) a = asks_leaves note old last (Ok bytes) file is a.0 left
        asks_so (Err why) a = asks_leaves note old last (Err why) file is a.0 left
    returned_leaves hears old last sent file is r left = ⊎_elim
        (λ still. at_rest old last.kept.standing.device file is (ap (λ (s : ServiceValue D). s.kept.standing.device) still.1) left)
        (λ more. hears_leaves old last r.0 r.1 file is more.1 left)
        r.2
    returned_leaves loses old last sent file is r left = ⊎_elim
        (λ still. at_rest old last.kept.standing.device file is (ap (λ (s : ServiceValue D). s.kept.standing.device) still.1) left)
        (λ more. at_rest old last.kept.standing.device file is more.1.1 left)
        r.0
    returned_leaves connects old last sent file is r left = connects_leaves old last r.0 file is r.1.0 left

    -- ---- a service that was opened again

    records_of : (service : ServiceValue D) (is : IsWhole seen may_leave moment left_since faults service) → records service ≡ starting (is.served is.whole).kept
    records_of service is = let p = is.served is.whole in p.are.listed ∙ starting_while p.kept (state_of service.kept).line_up

    pub one_text : (a b : List ℕ) (x y : List Kept) → kept_in a ≡ Some x → kept_in b ≡ Some y → a ≡ b → x ≡ y
    one_text a b x y is_x is_y same = let both : Some x ≡ Some y = sym is_x ∙ ap kept_in same ∙ is_y in cc both

    reopened_adds : (old by new : ServiceValue D) (sent : List (List ℕ)) → IsWhole seen may_leave moment left_since faults old → (r : Reopens seen may_leave moment left_since faults old by new)
        → Leaves old r.file → sent ≡ [] → Adds old new sent
    reopened_adds old by new sent is r leaves none = ⊎_elim same one_more leaves
      where
        text_old : List ℕ
        text_old = recovered (seen old.kept.standing.device)

        text_new : List ℕ
        text_new = recovered (seen new.kept.standing.device)

        before : List Kept
        before = (is.served is.whole).kept

        after : List Kept
        after = (r.is_whole.served r.is_whole.whole).kept

        same : recovered r.file ≡ text_old → Adds old new sent
        same as_before =
            let kept : after ≡ before = one_text text_new text_old after before (r.is_whole.served r.is_whole.whole).read (is.served is.whole).read (r.found ∙ as_before) in
            adds_none old new sent (records_of new r.is_whole ∙ ap starting kept ∙ sym (records_of old is)) r.earlier none

        one_more : (one : Kept) × (added : List ℕ) × IsRecordOf one added × (recovered r.file ≡ text_old ++ added) × ((state_of old.kept).line_up ≡ false → one ≡ lost) × IsFresh old one → Adds old new sent
        one_more found =
            let read : kept_in (text_old ++ found.1) ≡ Some (before ++ found.0 ∷ []) = records_are_kept text_old before found.0 found.1 (whole_text (seen old.kept.standing.device)) (is.served is.whole).read found.2 in
            let kept : after ≡ before ++ found.0 ∷ [] = one_text text_new (text_old ++ found.1) after (before ++ found.0 ∷ []) (r.is_whole.served r.is_whole.whole).read read (r.found ∙ found.3) in
            record {
              more = cond (starts found.0) (found.0 ∷ []) [];
              is = records_of new r.is_whole ∙ ap starting kept ∙ starting_one before found.0 (starts found.0) refl ∙ ap (λ l. l ++ cond (starts found.0) (found.0 ∷ []) []) (sym (records_of old is));
              earlier = r.earlier;
              fresh = fresh_if old found.0 (starts found.0) found.5;
              none_or_one = inl none;
            }

    pub moved : (move : Move) (old new : ServiceValue D) (sent : List (List ℕ)) → IsWhole seen may_leave moment left_since faults old → Moves seen may_leave moment left_since faults move old new sent
        → Adds old new sent × IsWhole seen may_leave moment left_since faults new
    moved (returns call) old new sent is m = (returned_adds call old new sent m.0, m.1)
    moved (ends_in call) old new sent is m =
        (reopened_adds old m.0 new sent is m.3 (returned_leaves call old m.0 m.1 m.3.file is m.2 m.3.left) m.4, m.3.is_whole)
    moved ends old new sent is m = (reopened_adds old old new sent is m.0 (at_rest old old.kept.standing.device m.0.file is refl m.0.left) m.1, m.0.is_whole)

    -- ---- all moves

    record Sound (old new : ServiceValue D) (sent : List (List ℕ)) : Type 0 where
      more : List Kept
      is : records new ≡ records old ++ more
      once : IsDistinct bytes_eq sent
      known : AllByRecursion (λ key. any_has key (records new) ≡ true) sent
      fresh : AllByRecursion (λ key. is_known key old ≡ false) sent

    -- a key that is known stays known
    stays_known : (old middle : ServiceValue D) (sent : List (List ℕ)) → Adds old middle sent → (key : List ℕ) → is_known key middle ≡ false → is_known key old ≡ false
    stays_known old middle sent a key unknown = by_known (is_known key old) refl
      where
        grown : (any_has key (records old) ≡ true) ⊎ (is_earlier key old.earlier ≡ true) → is_known key middle ≡ true
        grown either = known_is key middle ∙ ⊎_elim
            (λ has. ap (λ b. b || is_earlier key middle.earlier) (ap (any_has key) a.is ∙ any_more key (records old) a.more has))
            (λ has. ap (λ b. any_has key (records middle) || b) (ap (is_earlier key) a.earlier ∙ has) ∙ or-right (any_has key (records middle)))
            either

        by_known : (b : Bool) → is_known key old ≡ b → b ≡ false
        by_known false is = refl
        by_known true is = absurd (true≢false (sym (grown (or-split (any_has key (records old)) (is_earlier key old.earlier) (sym (known_is key old) ∙ is))) ∙ unknown))

    fresher : (old middle : ServiceValue D) (sent : List (List ℕ)) (keys : List (List ℕ)) → Adds old middle sent → AllByRecursion (λ key. is_known key middle ≡ false) keys → AllByRecursion (λ key. is_known key old ≡ false) keys
    fresher old middle sent [] a fresh = tt
    fresher old middle sent (key ∷ keys) a fresh = (stays_known old middle sent a key fresh.0, fresher old middle sent keys a fresh.1)

    -- a key that was known is none of the keys that were sent later
    no_other : (middle : ServiceValue D) (key : List ℕ) (keys : List (List ℕ)) → any_has key (records middle) ≡ true → AllByRecursion (λ k. is_known k middle ≡ false) keys → AllByRecursion (λ k. bytes_eq key k ≡ false) keys
    no_other middle key [] known fresh = tt
    no_other middle key (other ∷ keys) known fresh = (by_test (bytes_eq key other) refl, no_other middle key keys known fresh.1)
      where
        by_test : (b : Bool) → bytes_eq key other ≡ b → b ≡ false
        by_test false is = refl
        by_test true is = absurd (true≢false (sym (known_by_record key middle known) ∙ ap (λ k. is_known k middle) ((bytes_eq-Decides key other).0 is) ∙ fresh.0))

    joined : (old middle new : ServiceValue D) (first rest sent : List (List ℕ)) → Adds old middle first → Sound middle new rest → sent ≡ first ++ rest → Sound old new sent
    joined old middle new first rest sent a s sent_is = ⊎_elim none one a.none_or_one
      where
        all : records new ≡ records old ++ (a.more ++ s.more)
        all = s.is ∙ ap (λ l. l ++ s.more) a.is ∙ append_assoc (records old) a.more s.more

        none : first ≡ [] → Sound old new sent
        none is = subst (Sound old new) (sym (sent_is ∙ ap (λ l. l ++ rest) is)) (record { more = a.more ++ s.more; is = all; once = s.once; known = s.known; fresh = fresher old middle first rest a s.fresh })

        one : (key : List ℕ) × (first ≡ key ∷ []) × (any_has key a.more ≡ true) → Sound old new sent
        one found =
            let key = found.0 in
            let in_middle : any_has key (records middle) ≡ true = ap (any_has key) a.is ∙ any_last key (records old) a.more found.2 in
            subst (Sound old new) (sym (sent_is ∙ ap (λ l. l ++ rest) found.1)) (record {
              more = a.more ++ s.more;
              is = all;
              once = IsDistinct-cons bytes_eq key rest (no_other middle key rest in_middle s.fresh) s.once;
              known = (ap (any_has key) s.is ∙ any_more key (records middle) s.more in_middle, s.known);
              fresh = (a.fresh key found.2, fresher old middle first rest a s.fresh);
            })

    sound : (moves : List Move) (old new : ServiceValue D) (sent : List (List ℕ)) → IsWhole seen may_leave moment left_since faults old → Lives seen may_leave moment left_since faults moves old new sent → Sound old new sent
    sound [] old new sent is lives = subst (Sound old new) (sym lives.1) (record { more = []; is = ap records (sym lives.0) ∙ sym (append-nil (records old)); once = no_keys; known = tt; fresh = tt })
    sound (move ∷ more) old new sent is lives =
        let middle = lives.0 in
        let one = moved move old middle lives.1 is lives.3 in
        joined old middle new lives.1 lives.2 sent one.0 (sound more middle new lives.2 one.1 lives.4) lives.5

    all_known : (s : ServiceValue D) (keys : List (List ℕ)) → AllByRecursion (λ key. any_has key (records s) ≡ true) keys → All (λ key. IsKnown key s) keys
    all_known s [] known = All-nil (λ key. IsKnown key s)
    all_known s (key ∷ keys) known = All-cons (λ key. IsKnown key s) key keys (known_by_record key s known.0) (all_known s keys known.1)

    all_fresh : (s : ServiceValue D) (keys : List (List ℕ)) → AllByRecursion (λ key. is_known key s ≡ false) keys → All (λ key. IsKnown key s → ⊥) keys
    all_fresh s [] fresh = All-nil (λ key. IsKnown key s → ⊥)
    all_fresh s (key ∷ keys) fresh = All-cons (λ key. IsKnown key s → ⊥) key keys (not_known key s fresh.0) (all_fresh s keys fresh.1)

    pub sent_once : SentOnce seen may_leave moment left_since faults
    sent_once moves old new sent is lives =
        let s = sound moves old new sent is lives in
        (s.once, all_known new sent s.known, all_fresh old sent s.fresh)
