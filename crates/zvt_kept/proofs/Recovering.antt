-- A till that lives through the records of a journal again.
use Rattle.std.proofs.Common.{◌≡◌, ℕ, ◌+◌, ◌<◌, Bool, true, false, List, [], ◌∷◌, ◌++◌, length, take, drop, map, Some, None, Result, Ok, Err, refl, sym, ap, subst, ◌∙◌, append_assoc, arith, get_or, suc, add-one, drop-cons}
use Rattle.std.proofs.lemmas.Option.{same_Some}
use Rattle.std.proofs.lemmas.List.{length-map, length-take-le, map-append, take-append-drop, take_all}
use Rattle.zvt_till.specs.declared.happenings.Happening.{Happening}
use Rattle.zvt_till.specs.declared.happenings.Happening.TheVariants.{Connected, Lost}
use Rattle.zvt_till.specs.Log.{IsLog}
use Rattle.zvt_till.specs.Sending.{Settings}
use Rattle.zvt_till.specs.Till.{TillState, new_till, state_after, step}
use Rattle.zvt_till.specs.TillHistory.{Stands}
use Rattle.zvt_till.proofs.TillHistoryLemmas.{stands-more}
use Rattle.zvt_kept.specs.declared.records.Entry.{Entry}
use Rattle.zvt_kept.specs.Records.{Kept, kept_in}
use Rattle.zvt_settle.specs.Settling.{Line, Both, both_after, new_both}
use Rattle.zvt_kept.specs.Logs.{CanAsk, CanTakeAll, Happens, HappenAll, HasOpening, LogsAreOne, MeanAll, Means, StandsFor, on_line}
use Rattle.zvt_kept.specs.Reading.{kept_of}
use Rattle.zvt_kept.specs.Recovery.{HasSettled, IsFirstForeign, IsRecovered, Recovers, Relives, Replays}
use Rattle.zvt_journal.specs.Text.{recovered, IsSettled}
use Rattle.zvt_till.proofs.Segments.{fold-snoc}
use Rattle.zvt_kept.specs.KeptTill.{Keeps, Settles, both_in, unless_up}
use Rattle.zvt_kept.specs.Outliving.{IsLostTill, LogsAreRecovered, SettlingIsRecovered, TillsAreRecovered}
use Rattle.zvt_kept.specs.declared.recovery.RecoveryError.TheVariants.{Opening, Check, Line, Record, Memory}
use Rattle.zvt_till.specs.View.{TillValue}
use Rattle.zvt_kept.specs.declared.recovery.RecoveryError.{RecoveryError}
use Rattle.zvt_kept.proofs.AskLemmas.{asks_before, each_first, each_last, each_more, each_once, happens_once, means_once, takes_then}
use Rattle.zvt_kept.proofs.Logged.{lost_stands, settles_lost}
use Rattle.zvt_kept.proofs.Replayed.{AskedSoFar, taken}
use Rattle.zvt_kept.proofs.Relived.{prefix_from}

-- ---- what happened by records is one log

same_kept : (a b : List Kept) → Some a ≡ Some b → a ≡ b
same_kept a b is = same_Some a b is

none_is_some : (kept : List Kept) → None ≡ Some kept → ⊥
none_is_some kept is = absurd cc

pub logs_are_one : LogsAreOne
logs_are_one settings text a b p q =
    let kept : p.kept ≡ q.kept = same_kept p.kept q.kept (sym p.read ∙ q.read) in
    p.begins ∙ ap (λ l. Connected ∷ l) (each_once (Happens settings.currency) (happens_once settings.currency) q.kept p.happened q.happened (subst (λ k. HappenAll settings.currency k p.happened) kept p.happens) q.happens) ∙ sym q.begins

-- ---- entries one after another

-- the till lived through the first entries
pub record SoFar (settings : Settings) (entries : List Entry) (count : ℕ) (state : TillState) : Type 0 where
  pub happened : List Happening
  pub happens : HappenAll settings.currency (map kept_of (take count entries)) happened
  pub stands : Stands settings (Connected ∷ happened) state
  pub up : state.line_up ≡ true

pub none_yet : (settings : Settings) (entries : List Entry) (fresh state : TillState) → fresh ≡ new_till settings → state ≡ step fresh Connected → SoFar settings entries 0 state
none_yet settings entries fresh state new is =
    let same : state ≡ step (new_till settings) Connected = is ∙ ap (λ s. step s Connected) new in
    record { happened = []; happens = refl; stands = ((tt, tt), same); up = ap (λ s. s.line_up) same }

pub one_more : (settings : Settings) (entries : List Entry) (i : ℕ) (entry : Entry) (old new : TillState) → i < length entries → entry ≡ get_or entries i entry
    → Relives true (kept_of entry) old new → SoFar settings entries i old → SoFar settings entries (i + 1) new
one_more settings entries i entry old new below is lives s =
    let next = lives settings (Connected ∷ s.happened) s.stands s.up in
    record {
      happened = s.happened ++ next.0;
      happens = subst (λ k. HappenAll settings.currency k (s.happened ++ next.0)) (sym (taken entries i entry below is)) (each_more (Happens settings.currency) (map kept_of (take i entries)) (kept_of entry) s.happened next.0 s.happens next.1);
      stands = next.2;
      up = next.3;
    }

pub foreign : (settings : Settings) (text : List ℕ) (entries : List Entry) (i : ℕ) (entry : Entry) (both after : Both) → i < length entries → entry ≡ get_or entries i entry
    → kept_in text ≡ Some (map kept_of entries) → Replays false (kept_of entry) both after → SoFar settings entries i both.till → AskedSoFar settings (map kept_of (take i entries)) both → IsFirstForeign settings text (i + 1)
foreign settings text entries i entry both after below is read dies s a =
    let before = map kept_of (take i entries) in
    let cut : entries ≡ take i entries ++ entry ∷ drop (i + 1) entries =
    rw add-one (sym (take-append-drop i entries) ∙ ap (λ ys. take i entries ++ ys) (drop-cons entries i entry below ∙ ap (λ y. y ∷ drop (suc i) entries) (sym is))) in
    record {
      before = before;
      one = kept_of entry;
      after = map kept_of (drop (i + 1) entries);
      read = read ∙ ap (λ es. Some (map kept_of es)) cut ∙ ap Some (map-append kept_of (take i entries) (entry ∷ drop (i + 1) entries));
      number_is = omega (arith, length-map (take i entries) kept_of, length-take-le i entries (omega (arith, below)));
      good = (s.happened, s.happens, s.stands.0, a.asks);
      wrong = λ life.
          let last = each_last (Happens settings.currency) before (kept_of entry) life.0 life.1 in
          let same : life.0 ≡ s.happened ++ last.1 = last.4 ∙ ap (λ l. l ++ last.1) (each_once (Happens settings.currency) (happens_once settings.currency) before last.0 s.happened last.2 s.happens) in
          let noted = each_last (Means settings.currency) before (kept_of entry) life.3.notes life.3.means in
          let alike : noted.0 ≡ a.asks.notes = each_once (Means settings.currency) (means_once settings.currency) before noted.0 a.asks.notes noted.2 a.asks.means in
          let takes = takes_then (new_both settings) (Line Connected ∷ noted.0) noted.1 (subst (λ l. CanTakeAll (new_both settings) (Line Connected ∷ l)) noted.4 life.3.takes) in
          let here : CanTakeAll both noted.1 = subst (λ b. CanTakeAll b noted.1) (ap (λ l. both_after settings (Line Connected ∷ l)) alike ∙ sym a.is) takes in
          dies settings (Connected ∷ s.happened) last.1 noted.1 s.stands last.3 (subst (λ l. IsLog settings (Connected ∷ l)) same life.2) noted.3 here;
    }

pub at_end : (settings : Settings) (text : List ℕ) (entries : List Entry) (old new : TillState) → HasOpening settings text → kept_in text ≡ Some (map kept_of entries)
    → SoFar settings entries (length entries) old → CanAsk settings (map kept_of entries) → new ≡ step old Lost → IsRecovered settings text new
at_end settings text entries old new opened read s asks is =
    let happens : HappenAll settings.currency (map kept_of entries) s.happened = subst (λ es. HappenAll settings.currency (map kept_of es) s.happened) (take_all (length entries) entries (omega arith)) s.happens in
    record {
      log = Connected ∷ s.happened;
      recorded = record { opened = opened; kept = map kept_of entries; happened = s.happened; read = read; happens = happens; begins = refl; asks = asks };
      stands = subst (λ t. Stands settings ((Connected ∷ s.happened) ++ Lost ∷ []) t) (sym is) (stands-more settings (Connected ∷ s.happened) old Lost s.stands tt);
    }

-- ---- what is recovered of a till's log

no_foreign : (settings : Settings) (text : List ℕ) (log : List Happening) (number : ℕ) → StandsFor settings text log → IsLog settings log → IsFirstForeign settings text number → ⊥
no_foreign settings text log number s k f =
    let kept : s.kept ≡ (f.before ++ f.one ∷ []) ++ f.after = same_kept s.kept ((f.before ++ f.one ∷ []) ++ f.after) (sym s.read ∙ f.read ∙ ap Some (sym (append_assoc f.before (f.one ∷ []) f.after))) in
    let cut = each_first (Happens settings.currency) (f.before ++ f.one ∷ []) f.after s.happened (subst (λ ks. HappenAll settings.currency ks s.happened) kept s.happens) in
    let whole : log ≡ (Connected ∷ cut.0) ++ cut.1 = s.begins ∙ ap (λ l. Connected ∷ l) cut.3 in
    let asks = asks_before settings (f.before ++ f.one ∷ []) f.after (subst (CanAsk settings) kept s.asks) in
    f.wrong (cut.0, cut.2, prefix_from settings [] (Connected ∷ cut.0) cut.1 (subst (λ l. IsLog settings l) whole k), asks)

pub logs_are_recovered : LogsAreRecovered
logs_are_recovered settings text log (Ok till) s k r = r.stands.1 ∙ ap (λ l. state_after settings (l ++ Lost ∷ [])) (logs_are_one settings text r.log log r.recorded s)
logs_are_recovered settings text log (Err Opening) s k r = r s.opened
logs_are_recovered settings text log (Err (Line number)) s k r = none_is_some s.kept (sym r.0 ∙ s.read)
logs_are_recovered settings text log (Err (Check number)) s k r = none_is_some s.kept (sym r.0 ∙ s.read)
logs_are_recovered settings text log (Err (Record number)) s k r = no_foreign settings text log number s k r
logs_are_recovered settings text log (Err Memory) s k r = tt

-- ---- a till over a journal that was opened

-- the asks of records are one
settled_so : (settings : Settings) (text : List ℕ) (both : Both) → both.till.line_up ≡ false → HasSettled settings text both → Settles settings text both
settled_so settings text both down h kept notes read means =
    let same : kept ≡ h.kept = same_kept kept h.kept (sym read ∙ h.read) in
    let alike : notes ≡ h.asks.notes = each_once (Means settings.currency) (means_once settings.currency) h.kept notes h.asks.notes (subst (λ k. MeanAll settings.currency k notes) same means) h.asks.means in
    h.is ∙ ap (λ l. both_after settings ((Line Connected ∷ l) ++ Line Lost ∷ [])) (sym alike) ∙ ap (λ b. both_after settings ((Line Connected ∷ notes) ++ on_line (unless_up b))) (sym down)

pub opened_keeps : (settings : Settings) (seen text : List ℕ) (may_leave : List ℕ → Type 0) (gate : ℕ) (both : Both) → IsSettled seen may_leave gate → recovered seen ≡ text
    → (r : IsRecovered settings text both.till) → HasSettled settings text both → (log : List Happening) → StandsFor settings text log → Keeps settings log seen may_leave gate both
opened_keeps settings seen text may_leave gate both settled is r h log s =
    let state = both.till in
    let down : state.line_up ≡ false = ap (λ t. t.line_up) (r.stands.1 ∙ fold-snoc step (new_till settings) r.log Lost) in
    let same : r.log ≡ log = logs_are_one settings text r.log log r.recorded s in
    record {
      settled = settled;
      recorded = subst (λ t. StandsFor settings t log) (sym is) s;
      stands = subst (λ l. Stands settings l state) (ap (λ l. l ++ Lost ∷ []) same ∙ ap (λ b. log ++ unless_up b) (sym down)) r.stands;
      settles = subst (λ t. Settles settings t both) (sym is) (settled_so settings text both down h);
    }

-- what a till with its journal is, recovery finds
recovered_till : (settings : Settings) (text : List ℕ) (log : List Happening) (state : TillState) (up : Bool) (result : Result TillValue RecoveryError) → state.line_up ≡ up → StandsFor settings text log
    → Stands settings (log ++ unless_up up) state → Recovers settings text result → IsLostTill state result
recovered_till settings text log state up (Ok till) line s t r =
    logs_are_recovered settings text log (Ok till) s (prefix_from settings [] log (unless_up up) t.0) r ∙ sym (lost_stands settings log state up t).1
recovered_till settings text log state up (Err Opening) line s t r = logs_are_recovered settings text log (Err Opening) s (prefix_from settings [] log (unless_up up) t.0) r
recovered_till settings text log state up (Err (Line number)) line s t r = logs_are_recovered settings text log (Err (Line number)) s (prefix_from settings [] log (unless_up up) t.0) r
recovered_till settings text log state up (Err (Check number)) line s t r = logs_are_recovered settings text log (Err (Check number)) s (prefix_from settings [] log (unless_up up) t.0) r
recovered_till settings text log state up (Err (Record number)) line s t r = logs_are_recovered settings text log (Err (Record number)) s (prefix_from settings [] log (unless_up up) t.0) r
recovered_till settings text log state up (Err Memory) line s t r = tt

module _ {D : Type 0} (seen : D → List ℕ) (may_leave : D → List ℕ → Type 0) (moment : D → ℕ) (left_since : D → ℕ → List ℕ → Type 0) (faults : D → ℕ) where
  pub tills_are_recovered : TillsAreRecovered seen may_leave moment left_since faults
  tills_are_recovered settings log kept result has r =
      recovered_till settings (recovered (seen kept.standing.device)) log kept.standing.till.state kept.standing.till.state.line_up result refl has.recorded has.stands r

  -- the records have what it settled, as it stands after a lost line
  pub settling_is_recovered : SettlingIsRecovered seen may_leave moment left_since faults
  settling_is_recovered settings log kept both has h =
      let text = recovered (seen kept.standing.device) in
      h.is ∙ sym (settles_lost settings text (both_in kept.standing) has.settles h.kept h.asks.notes h.read h.asks.means)
