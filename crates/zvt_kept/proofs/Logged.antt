-- What a till and its journal keep, one record further.
use Rattle.std.proofs.Common.{◌≡◌, ⊎_elim, inl, inr, ℕ, Bool, true, false, List, [], ◌∷◌, ◌++◌, length, Option, Some, None, option_map, refl, sym, ap, ap₂, subst, ◌∙◌, append_assoc, arith}
use Rattle.std.specs.Prelude.{fold}
use Rattle.std.proofs.lemmas.Option.{same_Some}
use Rattle.std.proofs.lemmas.List.{append-nil, take_all}
use Rattle.std.proofs.lemmas.List.Sums.{fold-append}
use Rattle.zvt_grammar.specs.Reading.{padded}
use Rattle.zvt_apdu.specs.Message.{Message}
use Rattle.zvt_apdu.specs.Grammar.{Spells}
use Rattle.zvt_till.specs.declared.happenings.Happening.{Happening}
use Rattle.zvt_till.specs.declared.happenings.Happening.TheVariants.{Connected, Sent as SentOut, Lost}
use Rattle.zvt_till.specs.declared.orders.Order.{Order}
use Rattle.zvt_till.specs.Events.{hears}
use Rattle.zvt_till.specs.Refusals.{sent_as}
use Rattle.zvt_till.specs.declared.statuses.Running.{Running}
use Rattle.zvt_till.specs.Log.{CanFollow, facts_in, line_after, line_up}
use Rattle.zvt_till.specs.Sending.{Settings}
use Rattle.zvt_till.specs.Till.{TillState, facts_of, meet, meet_running, line_down, new_till, outcome_at, state_after, step}
use Rattle.zvt_till.specs.TillHistory.{Stands}
use Rattle.zvt_till.proofs.BookStepLemmas.{settings-kept}
use Rattle.zvt_till.proofs.Segments.{fold-snoc}
use Rattle.zvt_till.proofs.Steps.{steps_meet_log}
use Rattle.zvt_till.proofs.TillHistoryLemmas.{stands-more}
use Rattle.zvt_journal.specs.Text.{recovered, whole, IsWithOrWithout}
use Rattle.zvt_journal.specs.Device.{LeavesOnly}
use Rattle.zvt_journal.proofs.Lines.{recovered_whole}
use Rattle.zvt_settle.specs.Settling.{Note, Line, Asked, Both, Settling, ask_refusal, both_after, ended_as, met, new_both, noted as note_of, settles as settles_by, take}
use Rattle.zvt_kept.specs.Records.{Kept, ordered, asked, heard, lost, IsRecordOf, RecordsAreKept, kept_in}
use Rattle.zvt_kept.specs.Logs.{CanTakeAll, Happens, MeanAll, Means, StandsFor, on_line, opening_of}
use Rattle.zvt_kept.proofs.AskLemmas.{asks_more, each_last, each_more, lost_idle, means_once}
use Rattle.zvt_kept.specs.KeptTill.{HasLog, IsKept, Keeps, KeepsSome, LeavesLogs, Outlives, Settles, Standing, unless_up}

-- ---- records

-- a till can have this record after those of a text
abbrev pub CanRecord : (settings : Settings) (text : List ℕ) (log : List Happening) → Kept → StandsFor settings text log → Type 0
CanRecord settings text log one s = (notes : List Note) × Means settings.currency one notes × CanTakeAll (both_after settings (Line Connected ∷ s.asks.notes)) notes

-- while the line is up, it has the state after its records
up_settles : (settings : Settings) (both : Both) (notes : List Note) → both.till.line_up ≡ true → both ≡ both_after settings ((Line Connected ∷ notes) ++ on_line (unless_up both.till.line_up))
    → both ≡ both_after settings (Line Connected ∷ notes)
up_settles settings both notes up is = is ∙ ap (λ b. both_after settings ((Line Connected ∷ notes) ++ on_line (unless_up b))) up ∙ ap (both_after settings) (append-nil (Line Connected ∷ notes))

at_records : (settings : Settings) (log : List Happening) (seen : List ℕ) (may_leave : List ℕ → Type 0) (gate : ℕ) (both : Both) → both.till.line_up ≡ true
    → (k : Keeps settings log seen may_leave gate both) → both ≡ both_after settings (Line Connected ∷ k.recorded.asks.notes)
at_records settings log seen may_leave gate both up k =
    let s = k.recorded in
    up_settles settings both s.asks.notes up (k.settles s.kept s.asks.notes s.read s.asks.means)

pub order_can : (settings : Settings) (log : List Happening) (seen : List ℕ) (may_leave : List ℕ → Type 0) (gate : ℕ) (both : Both) (order : Order) (note : List ℕ) → both.till.line_up ≡ true → both.settling.asking ≡ None
    → (k : Keeps settings log seen may_leave gate both) → CanRecord settings (recovered seen) log (ordered order note) k.recorded
order_can settings log seen may_leave gate both order note up idle k =
    let out = SentOut (sent_as settings.currency order) in
    (on_line (out ∷ []), (out ∷ [], refl, refl), (sym (ap (λ b. b.settling.asking) (at_records settings log seen may_leave gate both up k)) ∙ idle, tt))

pub ask_can : (settings : Settings) (log : List Happening) (seen : List ℕ) (may_leave : List ℕ → Type 0) (gate : ℕ) (both : Both) (note : List ℕ) → both.till.line_up ≡ true → ask_refusal (facts_of both.till) both.settling.asking ≡ None
    → (k : Keeps settings log seen may_leave gate both) → CanRecord settings (recovered seen) log (asked note) k.recorded
ask_can settings log seen may_leave gate both note up taken k =
    (Asked ∷ [], refl, (subst (λ b. ask_refusal (facts_of b.till) b.settling.asking ≡ None) (at_records settings log seen may_leave gate both up k) taken, tt))

pub heard_can : (settings : Settings) (text : List ℕ) (log : List Happening) (message : Message) (bytes : List ℕ) → ∥ Spells padded message bytes ∥₁ → (s : StandsFor settings text log) → CanRecord settings text log (heard bytes) s
heard_can settings text log message bytes spelled s = (on_line (hears message ∷ []), (hears message ∷ [], (message, spelled, refl), refl), (tt, tt))

pub lost_can : (settings : Settings) (text : List ℕ) (log : List Happening) (s : StandsFor settings text log) → CanRecord settings text log lost s
lost_can settings text log s = (on_line (Lost ∷ Connected ∷ []), (Lost ∷ Connected ∷ [], refl, refl), (tt, (tt, tt)))

pub whole_text : (file : List ℕ) → recovered (recovered file) ≡ recovered file
whole_text file = take_all (whole 0 (recovered file)) (recovered file) (omega (arith, recovered_whole file))

module _ (records_are_kept : RecordsAreKept) where
  pub stands_more : (settings : Settings) (file : List ℕ) (log : List Happening) (one : Kept) (added : List ℕ) (happened : List Happening)
      → (s : StandsFor settings (recovered file) log) → IsRecordOf one added → Happens settings.currency one happened → CanRecord settings (recovered file) log one s → StandsFor settings (recovered file ++ added) (log ++ happened)
  stands_more settings file log one added happened s is h can = record {
    opened = (s.opened.0 ++ added, ap (λ text. text ++ added) s.opened.1 ∙ append_assoc (opening_of settings) s.opened.0 added);
    kept = s.kept ++ one ∷ [];
    happened = s.happened ++ happened;
    read = records_are_kept (recovered file) s.kept one added (whole_text file) s.read is;
    happens = each_more (Happens settings.currency) s.kept one s.happened happened s.happens h;
    begins = ap (λ l. l ++ happened) s.begins;
    asks = asks_more settings s.kept one s.asks can.0 can.1 can.2;
  }

  -- ---- what was settled

  -- one more record, after which the line is up
  settles_more : (settings : Settings) (file : List ℕ) (kept : List Kept) (one : Kept) (added : List ℕ) (meant : List Note) (new : Both) → kept_in (recovered file) ≡ Some kept → IsRecordOf one added
      → Means settings.currency one meant → new.till.line_up ≡ true
      → ((notes : List Note) → MeanAll settings.currency kept notes → new ≡ fold take (both_after settings (Line Connected ∷ notes)) meant)
      → Settles settings (recovered file ++ added) new
  settles_more settings file kept one added meant new read is m up goes all notes told means =
      let same : all ≡ kept ++ one ∷ [] = same_Some all (kept ++ one ∷ []) (sym told ∙ records_are_kept (recovered file) kept one added (whole_text file) read is) in
      let cut = each_last (Means settings.currency) kept one notes (subst (λ k. MeanAll settings.currency k notes) same means) in
      let last : cut.1 ≡ meant = means_once settings.currency one cut.1 meant cut.3 m in
      let whole : notes ≡ cut.0 ++ meant = cut.4 ∙ ap (λ l. cut.0 ++ l) last in
      let here : new ≡ both_after settings (Line Connected ∷ notes) =
      goes cut.0 cut.2 ∙ sym (fold-append take (new_both settings) (Line Connected ∷ cut.0) meant) ∙ ap (λ l. both_after settings (Line Connected ∷ l)) (sym whole) in
      here ∙ sym (ap (λ b. both_after settings ((Line Connected ∷ notes) ++ on_line (unless_up b))) up ∙ ap (both_after settings) (append-nil (Line Connected ∷ notes)))

  -- on a line that is up and stays up
  pub settles_on : (settings : Settings) (file : List ℕ) (kept : List Kept) (one : Kept) (added : List ℕ) (meant : List Note) (old new : Both) → kept_in (recovered file) ≡ Some kept → IsRecordOf one added
      → Means settings.currency one meant → old.till.line_up ≡ true → new.till.line_up ≡ true → new ≡ fold take old meant
      → Settles settings (recovered file) old → Settles settings (recovered file ++ added) new
  settles_on settings file kept one added meant old new read is m was up goes s =
      settles_more settings file kept one added meant new read is m up (λ notes means. goes ∙ ap (λ b. fold take b meant) (up_settles settings old notes was (s kept notes read means)))

  -- a new line
  pub settles_anew : (settings : Settings) (file : List ℕ) (kept : List Kept) (added : List ℕ) (old new : Both) → kept_in (recovered file) ≡ Some kept → IsRecordOf lost added
      → old.till.line_up ≡ false → new.till.line_up ≡ true → new ≡ take old (Line Connected)
      → Settles settings (recovered file) old → Settles settings (recovered file ++ added) new
  settles_anew settings file kept added old new read is was up goes s =
      settles_more settings file kept lost added (on_line (Lost ∷ Connected ∷ [])) new read is (Lost ∷ Connected ∷ [], refl, refl) up (λ notes means.
      goes ∙ ap (λ b. take b (Line Connected)) (s kept notes read means ∙ ap (λ b. both_after settings ((Line Connected ∷ notes) ++ on_line (unless_up b))) was ∙ fold-snoc take (new_both settings) (Line Connected ∷ notes) (Line Lost)))

  -- with the record or without it
  pub leaves_logs : (settings : Settings) (file : List ℕ) (log : List Happening) (one : Kept) (added : List ℕ) (happened : List Happening)
      → (s : StandsFor settings (recovered file) log) → IsRecordOf one added → Happens settings.currency one happened → CanRecord settings (recovered file) log one s
      → (left : List ℕ) → IsWithOrWithout (recovered file) added left → LeavesLogs settings log happened left
  leaves_logs settings file log one added happened s is h can left with_or_without = ⊎_elim
      (λ without. inl (subst (λ text. StandsFor settings text log) (sym without) s))
      (λ with_it. inr (subst (λ text. StandsFor settings text (log ++ happened)) (sym with_it) (stands_more settings file log one added happened s is h can)))
      with_or_without

  -- ---- a crash at any moment

  module _ {D : Type 0} (seen : D → List ℕ) (may_leave : D → List ℕ → Type 0) (moment : D → ℕ) (left_since : D → ℕ → List ℕ → Type 0) (faults : D → ℕ) where
    pub weaker : (old new : D) (P Q : List ℕ → Type 0) → LeavesOnly moment left_since old new P → ((file : List ℕ) → P file → Q file) → LeavesOnly moment left_since old new Q
    weaker old new P Q leaves so = record {
      later = leaves.later;
      each = λ t file le left. ⊎_elim inl (λ p. inr (so file p)) (leaves.each t file le left);
      here = λ file left. so file (leaves.here file left);
    }

    pub outlives : (old new : Standing D) (one : Kept) (added : List ℕ) (happened : Settings → List Happening)
        → IsRecordOf one added → ((settings : Settings) → Happens settings.currency one (happened settings))
        → ((settings : Settings) (log : List Happening) (has : HasLog seen may_leave moment left_since faults settings log old) → CanRecord settings (recovered (seen old.device)) log one has.recorded)
        → LeavesOnly moment left_since old.device new.device (IsWithOrWithout (recovered (seen old.device)) added)
        → Outlives seen may_leave moment left_since faults happened old new
    outlives old new one added happened is h can leaves settings log has =
        weaker old.device new.device (IsWithOrWithout (recovered (seen old.device)) added) (LeavesLogs settings log (happened settings)) leaves
        (λ file. leaves_logs settings (seen old.device) log one added (happened settings) has.recorded is (h settings) (can settings log has) file)

-- ---- the till

-- a till of a log has the line that the log says
pub line_is : (settings : Settings) (log : List Happening) (state : TillState) → Stands settings log state → state.line_up ≡ line_up log
line_is settings log state t = ap (λ f. f.line_up) (ap facts_of t.1 ∙ steps_meet_log settings log t.0)

pub up_stands : (settings : Settings) (log : List Happening) (state : TillState) → state.line_up ≡ true → Stands settings (log ++ unless_up state.line_up) state → Stands settings log state
up_stands settings log state up t = subst (λ l. Stands settings l state) (ap (λ b. log ++ unless_up b) up ∙ append-nil log) t

stands_up : (settings : Settings) (log : List Happening) (state : TillState) → state.line_up ≡ true → Stands settings log state → Stands settings (log ++ unless_up state.line_up) state
stands_up settings log state up t = subst (λ l. Stands settings l state) (sym (ap (λ b. log ++ unless_up b) up ∙ append-nil log)) t

-- what happens on a line that is up, and doesn't end it
pub stays_up : (settings : Settings) (log : List Happening) (state next : TillState) (h : Happening)
    → state.line_up ≡ true → (line_after true h ≡ true) → CanFollow settings (facts_in settings.rules log) h → next ≡ step state h
    → Stands settings (log ++ unless_up state.line_up) state → (next.line_up ≡ true) × Stands settings ((log ++ h ∷ []) ++ unless_up next.line_up) next
stays_up settings log state next h up stays can is t =
    let now : Stands settings log state = up_stands settings log state up t in
    let then : Stands settings (log ++ h ∷ []) next = subst (λ s. Stands settings (log ++ h ∷ []) s) (sym is) (stands-more settings log state h now can) in
    let line : next.line_up ≡ true = line_is settings (log ++ h ∷ []) next then ∙ fold-snoc line_after false log h ∙ ap (λ b. line_after b h) (sym (line_is settings log state now) ∙ up) ∙ stays in
    (line, stands_up settings (log ++ h ∷ []) next line then)

-- ---- the line

abbrev lost_by : TillState → Option Running → TillState
lost_by s None = s
lost_by s (Some r) = meet_running s r Lost

running_lost : (s : TillState) (r : Option Running) → s.running ≡ r → (lost_by s r).running ≡ None
running_lost s None none = none
running_lost s (Some r) is = refl

quiet : (s : TillState) → s.running ≡ None → meet s Lost ≡ s
quiet s none = rw none refl

-- a line that is lost twice is lost once
pub lost_twice : (s : TillState) → step (step s Lost) Lost ≡ step s Lost
lost_twice s = ap line_down (quiet (step s Lost) (running_lost s s.running refl))

pub lost_stands : (settings : Settings) (log : List Happening) (state : TillState) (up : Bool) → Stands settings (log ++ unless_up up) state → Stands settings (log ++ Lost ∷ []) (step state Lost)
lost_stands settings log state true t = stands-more settings log state Lost (subst (λ l. Stands settings l state) (append-nil log) t) tt
lost_stands settings log state false t =
    let before = state_after settings log in
    let is : state ≡ step before Lost = t.1 ∙ fold-snoc step (new_till settings) log Lost in
    subst (λ s. Stands settings (log ++ Lost ∷ []) s) (is ∙ sym (lost_twice before) ∙ ap (λ s. step s Lost) (sym is)) t

-- what a till that rests has settled stays as it is
rests_still : (t : TillState) (s : Settling) → t.running ≡ None → s.asking ≡ None → settles_by t s Lost ≡ s
rests_still t s none idle =
    ap (λ a. met t (note_of s Lost) a Lost) idle ∙ ap (λ (r : Option Running). ended_as (note_of s Lost) (option_map (λ x. x.order) r) (outcome_at t Lost) (length t.unclear)) none

-- a line that is lost twice is lost once
both_lost_twice : (b : Both) → take (take b (Line Lost)) (Line Lost) ≡ take b (Line Lost)
both_lost_twice b =
    let gone = take b (Line Lost) in
    ap₂ (λ (t : TillState) (s : Settling). record { till = t; settling = s }) (lost_twice b.till) (rests_still gone.till gone.settling (running_lost b.till b.till.running refl) (lost_idle b))

-- what a lost line leaves to settle
pub settles_lost : (settings : Settings) (text : List ℕ) (both : Both) → Settles settings text both → Settles settings text (take both (Line Lost))
settles_lost settings text both s kept notes read means = by_line both.till.line_up (s kept notes read means)
  where
    by_line : (up : Bool) → both ≡ both_after settings ((Line Connected ∷ notes) ++ on_line (unless_up up)) → take both (Line Lost) ≡ both_after settings ((Line Connected ∷ notes) ++ Line Lost ∷ [])
    by_line true is = ap (λ b. take b (Line Lost)) (is ∙ ap (both_after settings) (append-nil (Line Connected ∷ notes))) ∙ sym (fold-snoc take (new_both settings) (Line Connected ∷ notes) (Line Lost))
    by_line false is =
        let here : both ≡ take (both_after settings (Line Connected ∷ notes)) (Line Lost) = is ∙ fold-snoc take (new_both settings) (Line Connected ∷ notes) (Line Lost) in
        ap (λ b. take b (Line Lost)) here ∙ both_lost_twice (both_after settings (Line Connected ∷ notes)) ∙ sym (fold-snoc take (new_both settings) (Line Connected ∷ notes) (Line Lost))

pub keeps_lost : (settings : Settings) (log : List Happening) (seen : List ℕ) (may_leave : List ℕ → Type 0) (gate : ℕ) (both : Both)
    → Keeps settings log seen may_leave gate both → Keeps settings log seen may_leave gate (take both (Line Lost))
keeps_lost settings log seen may_leave gate both k = record {
  settled = k.settled;
  recorded = k.recorded;
  stands = lost_stands settings log both.till both.till.line_up k.stands;
  settles = settles_lost settings (recovered seen) both k.settles;
}

pub connected_stands : (settings : Settings) (log : List Happening) (state next : TillState) → state.line_up ≡ false → next ≡ step state Connected
    → Stands settings (log ++ unless_up state.line_up) state → Stands settings ((log ++ Lost ∷ Connected ∷ []) ++ unless_up next.line_up) next
connected_stands settings log state next down is t =
    let lost : Stands settings (log ++ Lost ∷ []) state = subst (λ l. Stands settings l state) (ap (λ b. log ++ unless_up b) down) t in
    let more : Stands settings ((log ++ Lost ∷ []) ++ Connected ∷ []) (step state Connected) = stands-more settings (log ++ Lost ∷ []) state Connected lost tt in
    let here : Stands settings (log ++ Lost ∷ Connected ∷ []) next = subst (λ s. Stands settings (log ++ Lost ∷ Connected ∷ []) s) (sym is) (subst (λ l. Stands settings l (step state Connected)) (append_assoc log (Lost ∷ []) (Connected ∷ [])) more) in
    stands_up settings (log ++ Lost ∷ Connected ∷ []) next (ap (λ s. s.line_up) is) here

-- ---- the settings

pub keeps_some : (settings : Settings) (log : List Happening) (seen : List ℕ) (may_leave : List ℕ → Type 0) (gate : ℕ) (both : Both)
    → Keeps settings log seen may_leave gate both → KeepsSome seen may_leave gate both
keeps_some settings log seen may_leave gate both k =
    let own : both.till.settings ≡ settings = ap (λ s. s.settings) k.stands.1 ∙ settings-kept settings (log ++ unless_up both.till.line_up) in
    (log, subst (λ x. Keeps x log seen may_leave gate both) (sym own) k)

pub kept_lost : (failed : Bool) (seen : List ℕ) (may_leave : List ℕ → Type 0) (gate : ℕ) (both next : Both) → next ≡ take both (Line Lost)
    → IsKept failed seen may_leave gate both → IsKept failed seen may_leave gate next
kept_lost true seen may_leave gate both next is k = ap (λ b. b.till.line_up) is
kept_lost false seen may_leave gate both next is k =
    keeps_some both.till.settings k.0 seen may_leave gate next (subst (λ b. Keeps both.till.settings k.0 seen may_leave gate b) (sym is) (keeps_lost both.till.settings k.0 seen may_leave gate both k.1))
