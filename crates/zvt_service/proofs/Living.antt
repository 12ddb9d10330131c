-- The orders of a service after each of its calls.
use Rattle.std.specs.Prelude.{Ok, Err}
use Rattle.std.proofs.Common.{◌≡◌, ⊎_elim, ℕ, ◌+◌, Bool, true, false, cond, List, [], ◌∷◌, ◌++◌, append-nil, Option, Some, is_some, Result, true≢false, refl, sym, ap, subst, ◌∙◌, append_assoc}
use Rattle.zvt_till.proofs.Segments.{fold-snoc}
use Rattle.zvt_apdu.specs.Message.{Message}
use Rattle.zvt_stream.specs.Answered.{Answered}
use Rattle.zvt_journal.specs.declared.device.DeviceError.{DeviceError}
use Rattle.zvt_till.specs.Events.{hears}
use Rattle.zvt_till.specs.declared.happenings.Happening.{Happening}
use Rattle.zvt_till.specs.declared.happenings.Happening.TheVariants.{Connected, Heard as HeardIn, Lost}
use Rattle.zvt_till.specs.Sending.{Settings}
use Rattle.zvt_till.specs.Hearing.{heard_as}
use Rattle.zvt_till.specs.Till.{TillState, meet, new_till, step}
use Rattle.zvt_till.specs.TillHistory.{Stands}
use Rattle.zvt_till.proofs.BookStepLemmas.{settings-by-running, settings-kept}
use Rattle.zvt_till.proofs.TillHistoryLemmas.{stands-more}
use Rattle.zvt_settle.specs.Settling.{Both}
use Rattle.zvt_journal.specs.Text.{recovered}
use Rattle.zvt_kept.specs.declared.past_orders.PastOrder.{PastOrder}
use Rattle.zvt_kept.specs.KeptTill.{Hears as KeptHears, KeepsSome, KeptValue, both_in, has_failed, unless_up}
use Rattle.zvt_till.specs.declared.keeper.BookFault.{BookFault}
use Rattle.zvt_till.specs.declared.keeper.BookFault.TheVariants.{NoSpace, Failed as BookFailed}
use Rattle.zvt_kept.specs.Keeping.{kept_connects}
use Rattle.zvt_kept.specs.Logs.{HappenAll, Happens, StandsFor}
use Rattle.zvt_kept.specs.PastOrders.{ArePast, HasOrders, count_starts, followed, held, starting, starts}
use Rattle.zvt_kept.specs.Records.{Kept, IsRecordOf, ordered, asked, heard, lost, kept_in}
use Rattle.zvt_kept.specs.RowNotes.{LivedThrough}
use Rattle.zvt_kept.proofs.AskLemmas.{each_more}
use Rattle.zvt_kept.proofs.Logged.{up_stands, whole_text}
use Rattle.zvt_kept.proofs.Made.{records_are_kept}
use Rattle.zvt_kept.proofs.PastOrderLemmas.{past_more, starting_one}
use Rattle.zvt_kept.proofs.Relived.{heard_up}
use Rattle.zvt_service.specs.Service.{HasPast, IsServed, state_of, unless_lost}

-- ---- a till that has lived through the records of its journal

same_kept : (a b : List Kept) → Some a ≡ Some b → a ≡ b
same_kept a b is = cc is

-- a till whose line is up
pub lived_up : (settings : Settings) (log : List Happening) (text : List ℕ) (kept : List Kept) (state : TillState) → kept_in text ≡ Some kept → StandsFor settings text log → state.line_up ≡ true
    → Stands settings (log ++ unless_up state.line_up) state → LivedThrough settings kept state
lived_up settings log text kept state read s up stands =
    let same : s.kept ≡ kept = same_kept s.kept kept (sym s.read ∙ read) in
    subst (λ k. LivedThrough settings k state) same (record {
      happened = s.happened;
      happens = s.happens;
      stands = subst (λ l. Stands settings l state) s.begins (up_stands settings log state up stands);
    })

-- a till whose line was lost lives on when another one is up
pub lived_down : (settings : Settings) (log : List Happening) (text : List ℕ) (kept : List Kept) (state : TillState) → kept_in text ≡ Some kept → StandsFor settings text log → Stands settings (log ++ Lost ∷ []) state
    → LivedThrough settings (kept ++ lost ∷ []) (step state Connected)
lived_down settings log text kept state read s stands =
    let same : s.kept ≡ kept = same_kept s.kept kept (sym s.read ∙ read) in
    let more : Stands settings ((log ++ Lost ∷ []) ++ Connected ∷ []) (step state Connected) = stands-more settings (log ++ Lost ∷ []) state Connected stands tt in
    let all : (log ++ Lost ∷ []) ++ Connected ∷ [] ≡ Connected ∷ (s.happened ++ Lost ∷ Connected ∷ []) = append_assoc log (Lost ∷ []) (Connected ∷ []) ∙ ap (λ l. l ++ Lost ∷ Connected ∷ []) s.begins in
    subst (λ k. LivedThrough settings (k ++ lost ∷ []) (step state Connected)) same (record {
      happened = s.happened ++ Lost ∷ Connected ∷ [];
      happens = each_more (Happens settings.currency) s.kept lost s.happened (Lost ∷ Connected ∷ []) s.happens refl;
      stands = subst (λ l. Stands settings l (step state Connected)) all more;
    })

-- ---- the orders of a text

abbrev While : (up : Bool) → List Kept → List Kept
While up kept = kept ++ unless_lost up

while_up : (kept : List Kept) (up : Bool) → up ≡ true → While up kept ≡ kept
while_up kept up is = ap (λ b. While b kept) is ∙ append-nil kept

while_down : (kept : List Kept) (up : Bool) → up ≡ false → While up kept ≡ kept ++ lost ∷ []
while_down kept up is = ap (λ b. While b kept) is

-- a lost line starts no order
pub starting_while : (kept : List Kept) (up : Bool) → starting (While up kept) ≡ starting kept
starting_while kept true = ap starting (append-nil kept)
starting_while kept false = starting_one kept lost false refl ∙ append-nil (starting kept)

-- the records of a longer text
read_more : (file : List ℕ) (kept : List Kept) (one : Kept) (added text : List ℕ) → kept_in (recovered file) ≡ Some kept → IsRecordOf one added → text ≡ recovered file ++ added → kept_in text ≡ Some (kept ++ one ∷ [])
read_more file kept one added text read is more = ap kept_in more ∙ records_are_kept (recovered file) kept one added (whole_text file) read is

-- one record more, on a line that is up and stays up
pub past_recorded : (settings : Settings) (log : List Happening) (file : List ℕ) (one : Kept) (added text : List ℕ) (was is : Bool) (new : TillState) (past : List PastOrder)
    → was ≡ true → is ≡ true → new.line_up ≡ true → IsRecordOf one added → text ≡ recovered file ++ added → StandsFor settings text log → Stands settings (log ++ unless_up new.line_up) new
    → HasPast settings (recovered file) was past → HasPast settings text is (followed (held past one) new)
past_recorded settings log file one added text was is new past up stays line record_is more stands_for stands p =
    let read = read_more file p.kept one added text p.read record_is more in
    let lived = lived_up settings log text (p.kept ++ one ∷ []) new read stands_for line stands in
    let are : ArePast settings p.kept past = subst (λ k. ArePast settings k past) (while_up p.kept was up) p.are in
    record {
      kept = p.kept ++ one ∷ [];
      read = read;
      are = subst (λ k. ArePast settings k (followed (held past one) new)) (sym (while_up (p.kept ++ one ∷ []) is stays)) (past_more settings p.kept one new past lived are);
    }

-- the line is lost
pub past_lost : (settings : Settings) (log : List Happening) (text : List ℕ) (was is : Bool) (new : TillState) (past : List PastOrder) → was ≡ true → is ≡ false → StandsFor settings text log → Stands settings (log ++ Lost ∷ []) new
    → HasPast settings text was past → HasPast settings text is (followed past new)
past_lost settings log text was is new past up down stands_for stands p =
    let lived = lived_down settings log text p.kept new p.read stands_for stands in
    let are : ArePast settings p.kept past = subst (λ k. ArePast settings k past) (while_up p.kept was up) p.are in
    record {
      kept = p.kept;
      read = p.read;
      are = subst (λ k. ArePast settings k (followed past new)) (sym (while_down p.kept is down)) (past_more settings p.kept lost (step new Connected) past lived are);
    }

-- a line is up again, and its loss is recorded
pub past_connected : (settings : Settings) (file added text : List ℕ) (was is : Bool) (past : List PastOrder) → was ≡ false → is ≡ true → IsRecordOf lost added → text ≡ recovered file ++ added
    → HasPast settings (recovered file) was past → HasPast settings text is past
past_connected settings file added text was is past down up record_is more p = record {
  kept = p.kept ++ lost ∷ [];
  read = read_more file p.kept lost added text p.read record_is more;
  are = subst (λ k. ArePast settings k past) (while_down p.kept was down ∙ sym (while_up (p.kept ++ lost ∷ []) is up)) p.are;
}

-- a till that was restored from its journal
pub past_opened : (settings : Settings) (text : List ℕ) (is : Bool) (past : List PastOrder) → is ≡ false → HasOrders settings text past → HasPast settings text is past
past_opened settings text is past down o = record {
  kept = o.kept;
  read = o.read;
  are = subst (λ k. ArePast settings k past) (sym (while_down o.kept is down)) o.are;
}

-- a till of a log has the log's settings
pub own_settings : (settings : Settings) (log : List Happening) (state : TillState) → Stands settings log state → state.settings ≡ settings
own_settings settings log state stands = ap (λ s. s.settings) stands.1 ∙ settings-kept settings log

-- ---- the orders after a call

-- a record was written on a line that stays up
pub recorded_on : (old : TillState) (both : Both) (file seen : List ℕ) (may_leave : List ℕ → Type 0) (gate : ℕ) (one : Kept) (added : List ℕ) (past : List PastOrder)
    → both.till.settings ≡ old.settings → old.line_up ≡ true → both.till.line_up ≡ true → IsRecordOf one added → recovered seen ≡ recovered file ++ added → KeepsSome seen may_leave gate both
    → HasPast old.settings (recovered file) old.line_up past → HasPast both.till.settings (recovered seen) both.till.line_up (followed (held past one) both.till)
recorded_on old both file seen may_leave gate one added past same up stays is more keeps p =
    past_recorded both.till.settings keeps.0 file one added (recovered seen) old.line_up both.till.line_up both.till past up stays stays is more keeps.1.recorded keeps.1.stands
    (subst (λ s. HasPast s (recovered file) old.line_up past) (sym same) p)

-- the line was lost
pub lost_on : (old : TillState) (both : Both) (file seen : List ℕ) (may_leave : List ℕ → Type 0) (gate : ℕ) (past : List PastOrder)
    → both.till.settings ≡ old.settings → old.line_up ≡ true → both.till.line_up ≡ false → seen ≡ file → KeepsSome seen may_leave gate both
    → HasPast old.settings (recovered file) old.line_up past → HasPast both.till.settings (recovered seen) both.till.line_up (followed past both.till)
lost_on old both file seen may_leave gate past same up down as_before keeps p =
    past_lost both.till.settings keeps.0 (recovered seen) old.line_up both.till.line_up both.till past up down keeps.1.recorded
    (subst (λ l. Stands both.till.settings l both.till) (ap (λ b. keeps.0 ++ unless_up b) down) keeps.1.stands)
    (subst (λ f. HasPast both.till.settings (recovered f) old.line_up past) (sym as_before) (subst (λ s. HasPast s (recovered file) old.line_up past) (sym same) p))

-- nothing happened
pub unchanged : (old new : TillState) (file seen : List ℕ) (past : List PastOrder) → new ≡ old → seen ≡ file → HasPast old.settings (recovered file) old.line_up past → HasPast new.settings (recovered seen) new.line_up past
unchanged old new file seen past same as_before p =
    subst (λ s. HasPast s.settings (recovered seen) s.line_up past) (sym same) (subst (λ f. HasPast old.settings (recovered f) old.line_up past) (sym as_before) p)

-- a message changes no setting
pub heard_settings : (s : TillState) (h : Happening) (up : Bool) → (cond up (meet s h) s).settings ≡ s.settings
heard_settings s h true = settings-by-running s h s.running
heard_settings s h false = refl

-- ---- a new book

starts_none : (currency : ℕ) (one : Kept) → Happens currency one [] → starts one ≡ false
starts_none currency (ordered order note) h = absurd cc
starts_none currency (asked note) h = refl
starts_none currency (heard bytes) h = let none : [] ≡ HeardIn (heard_as h.0) ∷ [] = h.2 in absurd cc
starts_none currency lost h = absurd cc

no_more : (a b : List Happening) → [] ≡ a ++ b → (a ≡ []) × (b ≡ [])
no_more [] b is = (refl, sym is)
no_more (h ∷ a) b is = absurd cc

starting_none : (currency : ℕ) (kept : List Kept) → HappenAll currency kept [] → starting kept ≡ []
starting_none currency [] all = refl
starting_none currency (one ∷ kept) all =
    let none = no_more all.0 all.1 all.4 in
    ap (λ (b : Bool). cond b (one ∷ starting kept) (starting kept)) (starts_none currency one (subst (Happens currency one) none.0 all.2))
    ∙ starting_none currency kept (subst (HappenAll currency kept) none.1 all.3)

counts_none : (kept : List Kept) → starting kept ≡ [] → count_starts kept ≡ 0
counts_none [] none = refl
counts_none (one ∷ kept) none = by_start (starts one) none (counts_none kept)
  where
    by_start : (b : Bool) → cond b (one ∷ starting kept) (starting kept) ≡ [] → (starting kept ≡ [] → count_starts kept ≡ 0) → cond b (1 + count_starts kept) (count_starts kept) ≡ 0
    by_start true is more = absurd cc
    by_start false is more = more is

-- a new book has no orders
pub none_in_new : (settings : Settings) (text : List ℕ) (up : Bool) → StandsFor settings text (Connected ∷ []) → HasPast settings text up []
none_in_new settings text up s =
    let none : [] ≡ s.happened = same_rest s.begins in
    let starts : starting (s.kept ++ unless_lost up) ≡ [] = starting_while s.kept up ∙ starting_none settings.currency s.kept (subst (HappenAll settings.currency s.kept) (sym none) s.happens) in
    record {
      kept = s.kept;
      read = s.read;
      are = record { listed = sym starts; as_many = sym (counts_none (s.kept ++ unless_lost up) starts); each = λ index one found. absurd cc };
    }
  where
    same_rest : Connected ∷ [] ≡ Connected ∷ s.happened → [] ≡ s.happened
    same_rest e = cc e

-- the line of a till is down once it was lost
pub down_after : (settings : Settings) (log : List Happening) (state : TillState) → Stands settings (log ++ Lost ∷ []) state → state.line_up ≡ false
down_after settings log state stands = ap (λ s. s.line_up) (stands.1 ∙ fold-snoc step (new_till settings) log Lost)

module _ {D : Type 0} (seen : D → List ℕ) (may_leave : D → List ℕ → Type 0) (moment : D → ℕ) (left_since : D → ℕ → List ℕ → Type 0) (faults : D → ℕ) where
  -- a message was heard
  pub heard_on : (old new : KeptValue D) (message : Message) (answered : Answered) (past : List PastOrder) → (state_of old).line_up ≡ true → has_failed new ≡ false
      → KeptHears seen may_leave moment left_since faults old message answered new → KeepsSome (seen new.standing.device) (may_leave new.standing.device) new.standing.gate (both_in new.standing) → IsServed seen old past
      → HasPast (state_of new).settings (recovered (seen new.standing.device)) (state_of new).line_up (followed past (state_of new))
  heard_on old new message answered past up whole h keeps served = ⊎_elim
      (λ still. absurd (true≢false (sym up ∙ still.0)))
      (λ more. ⊎_elim
      (λ kept.
      let goes = kept.1.heard.0 in
      recorded_on (state_of old) (both_in new.standing) (seen old.standing.device) (seen new.standing.device) (may_leave new.standing.device) new.standing.gate (heard kept.1.recorded.0) kept.1.recorded.1.added past
      (ap (λ (s : TillState). s.settings) goes ∙ heard_settings (state_of old) (hears message) (state_of old).line_up) up (ap (λ (s : TillState). s.line_up) goes ∙ heard_up (state_of old) message up)
      kept.1.recorded.1.is kept.1.recorded.1.adds.durable.0 keeps (served (ap (λ (f : Option DeviceError). is_some f) (sym kept.0) ∙ whole)))
      (λ broke. absurd (true≢false (sym (ap (λ (f : Option DeviceError). is_some f) broke.1) ∙ whole)))
      more)
      h

  -- a line is up
  pub connected_on : (old new : KeptValue D) (result : Result Unit BookFault) (past : List PastOrder) → (state_of old).line_up ≡ false → has_failed new ≡ false → kept_connects seen may_leave moment left_since faults old result new
      → IsServed seen old past → HasPast (state_of new).settings (recovered (seen new.standing.device)) (state_of new).line_up past
  connected_on old new (Ok up) past down whole k served = ⊎_elim
      (λ still. absurd (true≢false (sym still.0 ∙ down)))
      (λ more.
      let line = more.2 in
      subst (λ s. HasPast s (recovered (seen new.standing.device)) (state_of new).line_up past) (sym (ap (λ (s : TillState). s.settings) line.state))
      (past_connected (state_of old).settings (seen old.standing.device) line.recorded.added (recovered (seen new.standing.device)) (state_of old).line_up (state_of new).line_up past down (ap (λ (s : TillState). s.line_up) line.state)
      line.recorded.is line.recorded.adds.durable.0 (served more.0)))
      k
  connected_on old new (Err NoSpace) past down whole k served = absurd k
  connected_on old new (Err BookFailed) past down whole k served = ⊎_elim
      (λ still. absurd (true≢false (sym still.0 ∙ ap (λ (v : KeptValue D). has_failed v) (sym still.2) ∙ whole)))
      (λ broke. absurd (true≢false (sym (ap (λ (f : Option DeviceError). is_some f) broke.1) ∙ whole)))
      k.1
