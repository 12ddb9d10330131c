-- What a crash leaves of a journal over many orders, asks and lines.
use Rattle.std.proofs.Common.{◌≡◌, ⊎_elim, inl, inr, ℕ, Bool, true, false, List, [], ◌∷◌, ◌++◌, map, Option, None, Result, Ok, Err, refl, sym, ap, subst, ◌∙◌, append_assoc}
use Rattle.std.proofs.lemmas.List.{append-nil}
use Rattle.zvt_stream.specs.EndState.{EndState}
use Rattle.zvt_stream.specs.LineRun.{Reported}
use Rattle.zvt_stream.specs.StreamState.{StreamState}
use Rattle.zvt_stream.specs.declared.line.LineFault.{LineFault}
use Rattle.zvt_stream.specs.declared.line.LineFault.TheVariants.{Read, Write, Ended, Turns, Malformed, Memory, Stopped}
use Rattle.zvt_stream.specs.declared.line.Until.TheVariants.{Rest}
use Rattle.zvt_stream.proofs.PumpLemmas.{comes_there}
use Rattle.zvt_till.specs.Line.{NotSent}
use Rattle.zvt_till.specs.View.{TillValue}
use Rattle.zvt_till.specs.declared.keeper.BookFault.TheVariants.{NoSpace, Failed as BookFailed}
use Rattle.zvt_till.specs.declared.line.RunFault.{RunFault}
use Rattle.zvt_till.specs.declared.line.RunFault.TheVariants.{Order as OrderFault, Line as LineBroke, Book as BookBroke}
use Rattle.zvt_till.proofs.Keepers.{heard-before}
use Rattle.zvt_till.specs.declared.happenings.Happening.{Happening}
use Rattle.zvt_till.specs.declared.happenings.Happening.TheVariants.{Connected, Sent as SentOut, Lost}
use Rattle.zvt_till.specs.declared.orders.Order.{Order}
use Rattle.zvt_till.specs.declared.orders.Outgoing.{Outgoing}
use Rattle.zvt_till.specs.declared.outcomes.Outcome.{Outcome}
use Rattle.zvt_till.specs.Events.{hears}
use Rattle.zvt_till.specs.Refusals.{refusal, sent_as}
use Rattle.zvt_till.specs.Sending.{Settings}
use Rattle.zvt_till.specs.Till.{TillState, facts_of, step}
use Rattle.zvt_journal.specs.Device.{LeavesOnly}
use Rattle.zvt_journal.specs.Text.{recovered}
use Rattle.zvt_journal.specs.declared.device.DeviceError.{DeviceError}
use Rattle.zvt_journal.proofs.Moments.{and_then}
use Rattle.zvt_kept.specs.Keeping.{kept_asks, kept_orders}
use Rattle.zvt_settle.specs.AskRuns.{AskComes, AskRuns, NotAsked}
use Rattle.zvt_settle.specs.Settling.{Line, ask_refusal, take}
use Rattle.zvt_kept.specs.KeptTill.{Connects, HasLog, Hears, IsKept, Keeps, KeptValue, LeavesLogs, LosesLine, Ordered, both_in, has_failed, kept_rests, with_note}
use Rattle.zvt_kept.specs.Logs.{StandsFor}
use Rattle.zvt_kept.specs.Outliving.{CallsOutlive, Did, DidAll, HappenInAll, HappensIn, IsBetween, KeptStep, asks, connects, loses, runs}
use Rattle.zvt_kept.specs.Runs.{RanKept}
use Rattle.zvt_kept.proofs.AsksOutlived.{after_answers, after_ask}
use Rattle.zvt_kept.proofs.Logged.{keeps_lost, weaker}
use Rattle.zvt_kept.proofs.Made.{records_are_kept}
use Rattle.zvt_kept.proofs.Ordered.{same_both}
use Rattle.zvt_kept.proofs.Outlived.{at_first, failed_alike, failed_by, not_both, quiet}
use Rattle.zvt_kept.proofs.RunsOutlived.{after_messages, unsent_outlives}
use Rattle.zvt_kept.proofs.Spaceless.{leaves_the_log, same_log}
use Rattle.zvt_kept.proofs.Steps.{asked_up, taken_up}

-- ---- files between two logs

-- what happened later is not there
more_later : (settings : Settings) (first happened later : List Happening) (file : List ℕ) → IsBetween settings first happened file → IsBetween settings first (happened ++ later) file
more_later settings first happened later file b = record {
  part = b.part;
  rest = b.rest ++ later;
  is_part = ap (λ l. l ++ later) b.is_part ∙ append_assoc b.part b.rest later;
  recorded = b.recorded;
}

all_before : (settings : Settings) (first happened later : List Happening) (file : List ℕ) → IsBetween settings (first ++ happened) later file → IsBetween settings first (happened ++ later) file
all_before settings first happened later file b = record {
  part = happened ++ b.part;
  rest = b.rest;
  is_part = ap (λ l. happened ++ l) b.is_part ∙ sym (append_assoc happened b.part b.rest);
  recorded = subst (λ l. StandsFor settings (recovered file) l) (append_assoc first happened b.part) b.recorded;
}

module _ {D : Type 0} (seen : D → List ℕ) (may_leave : D → List ℕ → Type 0) (moment : D → ℕ) (left_since : D → ℕ → List ℕ → Type 0) (faults : D → ℕ) where
  abbrev Loses : KeptValue D → KeptValue D → Type 0
  Loses = LosesLine seen may_leave moment left_since faults

  loses_by : (fault : LineFault) (middle new : KeptValue D) → Reported Loses Loses fault middle new → Loses middle new
  loses_by Read middle new r = r
  loses_by (Ended have) middle new r = r
  loses_by Turns middle new r = r
  loses_by (Malformed place why) middle new r = r
  loses_by Memory middle new r = r
  loses_by Write middle new r = r
  loses_by Stopped middle new r = r

  lost_log : (settings : Settings) (log : List Happening) (old new : KeptValue D) → Loses old new → HasLog seen may_leave moment left_since faults settings log old.standing → HasLog seen may_leave moment left_since faults settings log new.standing
  lost_log settings log old new l has =
      let d = old.standing.device in
      let g = old.standing.gate in
      let both = both_in new.standing in
      let lost : Keeps settings log (seen d) (may_leave d) g (take (both_in old.standing) (Line Lost)) = keeps_lost settings log (seen d) (may_leave d) g (both_in old.standing) has in
      let state : Keeps settings log (seen d) (may_leave d) g both = subst (λ b. Keeps settings log (seen d) (may_leave d) g b) (sym l.4) lost in
      let gate : Keeps settings log (seen d) (may_leave d) new.standing.gate both = subst (λ n. Keeps settings log (seen d) (may_leave d) n both) (sym l.2) state in
      subst (λ (e : D). Keeps settings log (seen e) (may_leave e) new.standing.gate both) (sym l.1) gate

  -- ---- once the journal failed

  refused_down : (order : Order) (state : TillState) → state.line_up ≡ false → refusal (facts_of state) order ≡ None → ⊥
  refused_down order state down none = not_both state.line_up (taken_up state order none) down

  -- so no order is taken
  none_taken : (order : Order) (outgoing : Outgoing) (old new : KeptValue D) → old.standing.till.state.line_up ≡ false → Ordered seen may_leave moment left_since faults order outgoing old.standing new.standing → ⊥
  none_taken order outgoing old new down o = refused_down order old.standing.till.state down o.taken

  stuck_unsent : (order : Order) (fault : RunFault) (old new : KeptValue D) (first last : Option (List ℕ)) → old.standing.till.state.line_up ≡ false
      → NotSent (kept_orders seen may_leave moment left_since faults) (LosesLine seen may_leave moment left_since faults) fault order old new first last → new ≡ old
  stuck_unsent order (OrderFault why) old new first last down n = n.0.1
  stuck_unsent order (BookBroke NoSpace) old new first last down n = absurd (refused_down order old.standing.till.state down n.0.0.taken)
  stuck_unsent order (BookBroke BookFailed) old new first last down n = absurd (refused_down order old.standing.till.state down n.0.2.taken)
  stuck_unsent order (LineBroke fault) old new first last down n = absurd (none_taken order n.1 old n.2 down n.3.0.0)

  stuck_run : (order : Order) (old new : KeptValue D) (before after : StreamState) (coming left first last : Option (List ℕ)) (turns reads_before reads_after : ℕ) (result : Result Outcome RunFault)
      → old.standing.till.state.line_up ≡ false → RanKept seen may_leave moment left_since faults order before after old new coming left first last turns reads_before reads_after result → new ≡ old
  stuck_run order old new before after coming left first last turns reads_before reads_after (Ok outcome) down ran =
      absurd (none_taken order ran.comes.sends.outgoing old ran.comes.sent_till down ran.comes.sends.ordered.0.0)
  stuck_run order old new before after coming left first last turns reads_before reads_after (Err fault) down ran = ⊎_elim
      (λ unsent. stuck_unsent order fault old new first last down unsent.0)
      (λ more. ⊎_elim
      (λ broke. absurd (none_taken order broke.2.sends.outgoing old broke.2.sent_till down broke.2.sends.ordered.0.0))
      (λ failed. absurd (none_taken order failed.2.sends.outgoing old failed.2.sent_till down failed.2.sends.ordered.0.0))
      more)
      ran

  -- nor an ask
  asked_down : (asking : Option Bool) (state : TillState) → state.line_up ≡ false → ask_refusal (facts_of state) asking ≡ None → ⊥
  asked_down asking state down none = not_both state.line_up (asked_up state asking none) down

  stuck_unasked : (fault : RunFault) (old new : KeptValue D) (first last : Option (List ℕ)) → old.standing.till.state.line_up ≡ false
      → NotAsked (kept_asks seen may_leave moment left_since faults) (LosesLine seen may_leave moment left_since faults) fault old new first last → new ≡ old
  stuck_unasked (OrderFault why) old new first last down n = n.0.1
  stuck_unasked (BookBroke NoSpace) old new first last down n = absurd (asked_down old.standing.settling.asking old.standing.till.state down n.0.0.taken)
  stuck_unasked (BookBroke BookFailed) old new first last down n = absurd (asked_down old.standing.settling.asking old.standing.till.state down n.0.2.loses.taken)
  stuck_unasked (LineBroke fault) old new first last down n = absurd (asked_down old.standing.settling.asking old.standing.till.state down n.3.0.0.accepts.taken)

  stuck_ask : (old new : KeptValue D) (before after : EndState) (turns : ℕ) (result : Result Unit RunFault) → old.standing.till.state.line_up ≡ false
      → AskRuns (kept_asks seen may_leave moment left_since faults) (Hears seen may_leave moment left_since faults) kept_rests turns Loses Loses has_failed result before after old new → new ≡ old
  stuck_ask old new before after turns (Ok done) down ran = absurd (asked_down old.standing.settling.asking old.standing.till.state down ran.0.begins.sends.asked.0.0.accepts.taken)
  stuck_ask old new before after turns (Err fault) down ran = ⊎_elim
      (λ unsent. stuck_unasked fault old new before.written after.written down unsent.0)
      (λ more. ⊎_elim
      (λ broke. absurd (asked_down old.standing.settling.asking old.standing.till.state down broke.2.begins.sends.asked.0.0.accepts.taken))
      (λ failed. absurd (asked_down old.standing.settling.asking old.standing.till.state down failed.2.begins.sends.asked.0.0.accepts.taken))
      more)
      ran

  -- a till whose journal failed leaves its file alone
  stuck : (step : KeptStep) (old new : KeptValue D) → has_failed old ≡ true → old.standing.till.state.line_up ≡ false → Did seen may_leave moment left_since faults step old new
      → (has_failed new ≡ true) × (new.standing.device ≡ old.standing.device)
  stuck (runs order) old new failed down did =
      let same = stuck_run order (with_note old did.0) new did.1 did.2 did.3 did.4 did.5 did.6 did.7 did.8 did.9 did.10 down did.11 in
      (ap (λ (k : KeptValue D). has_failed k) same ∙ failed, ap (λ (k : KeptValue D). k.standing.device) same)
  stuck asks old new failed down did =
      let same = stuck_ask (with_note old did.0) new did.1 did.2 did.3 did.4 down did.5 in
      (ap (λ (k : KeptValue D). has_failed k) same ∙ failed, ap (λ (k : KeptValue D). k.standing.device) same)
  stuck connects old new failed down did = by_result did.0 did.1
    where
      by_result : (result : Result Unit DeviceError) → Connects seen may_leave moment left_since faults old new result → (has_failed new ≡ true) × (new.standing.device ≡ old.standing.device)
      by_result (Ok done) c = ⊎_elim (λ still. absurd (not_both old.standing.till.state.line_up still.0 down)) (λ line. absurd (not_both (has_failed old) failed line.0)) c
      by_result (Err why) c = ⊎_elim (λ still. (ap (λ (k : KeptValue D). has_failed k) still.2 ∙ failed, ap (λ (k : KeptValue D). k.standing.device) still.2)) (λ broke. absurd (not_both (has_failed old) failed broke.0)) c
  stuck loses old new failed down did = (failed_alike new old did.3 ∙ failed, did.1)

  all_stuck : (steps : List KeptStep) (old new : KeptValue D) → has_failed old ≡ true → DidAll seen may_leave moment left_since faults steps old new
      → (has_failed new ≡ true) × (new.standing.device ≡ old.standing.device)
  all_stuck [] old new failed did = (ap (λ (k : KeptValue D). has_failed k) (sym did) ∙ failed, ap (λ (k : KeptValue D). k.standing.device) (sym did))
  all_stuck (step ∷ more) old new failed did =
      let S = old.standing in
      let down : S.till.state.line_up ≡ false = subst (λ b. IsKept b (seen S.device) (may_leave S.device) S.gate (both_in S)) failed did.0 in
      let one = stuck step old did.1 failed down did.2 in
      let rest = all_stuck more did.1 new one.0 did.3 in
      (rest.0, rest.1 ∙ one.1)

  module _ (only_now : (device : D) (file : List ℕ) → left_since device (moment device) file → may_leave device file) where
    -- what a call leaves, and the log after it where the journal did not fail
    pub record Outlived (settings : Settings) (log : List Happening) (step : KeptStep) (old new : KeptValue D) : Type 0 where
      pub happened : List Happening
      pub by : HappensIn settings.currency step happened
      pub leaves : LeavesOnly moment left_since old.standing.device new.standing.device (IsBetween settings log happened)
      pub then : has_failed new ≡ false → HasLog seen may_leave moment left_since faults settings (log ++ happened) new.standing

    unchanged : (settings : Settings) (log : List Happening) (step : KeptStep) (old new : KeptValue D) → HappensIn settings.currency step [] → HasLog seen may_leave moment left_since faults settings log old.standing → new ≡ old → Outlived settings log step old new
    unchanged settings log step old new none has same = record {
      happened = [];
      by = none;
      leaves = subst (λ (k : KeptValue D). LeavesOnly moment left_since old.standing.device k.standing.device (IsBetween settings log [])) (sym same) (quiet seen may_leave moment left_since faults only_now settings log [] old.standing has);
      then = λ whole. subst (λ l. HasLog seen may_leave moment left_since faults settings l new.standing) (sym (append-nil log)) (subst (λ (k : KeptValue D). HasLog seen may_leave moment left_since faults settings log k.standing) (sym same) has);
    }

    lost_after : (settings : Settings) (log : List Happening) (middle new : KeptValue D) → Loses middle new → (has_failed middle ≡ false → HasLog seen may_leave moment left_since faults settings log middle.standing) → has_failed new ≡ false → HasLog seen may_leave moment left_since faults settings log new.standing
    lost_after settings log middle new l has whole = lost_log settings log middle new l (has (sym (failed_alike new middle l.3) ∙ whole))

    -- an order that was not sent
    unsent_outlived : (settings : Settings) (log : List Happening) (order : Order) (fault : RunFault) (old new : KeptValue D) (first last : Option (List ℕ))
        → HasLog seen may_leave moment left_since faults settings log old.standing → NotSent (kept_orders seen may_leave moment left_since faults) (LosesLine seen may_leave moment left_since faults) fault order old new first last → Outlived settings log (runs order) old new
    unsent_outlived settings log order (OrderFault why) old new first last has n = unchanged settings log (runs order) old new (inl refl) has n.0.1
    unsent_outlived settings log order (BookBroke NoSpace) old new first last has n = record {
      happened = [];
      by = inl refl;
      leaves = leaves_the_log seen may_leave moment left_since faults old.standing new.standing n.0.0.full settings log [] has;
      then = λ whole. subst (λ l. HasLog seen may_leave moment left_since faults settings l new.standing) (sym (append-nil log)) (same_log seen may_leave moment left_since faults old.standing new.standing (same_both seen may_leave moment left_since faults old.standing new.standing n.0.0.state n.0.0.settling) n.0.0.full settings log has);
    }
    unsent_outlived settings log order (BookBroke BookFailed) old new first last has n = record {
      happened = SentOut (sent_as settings.currency order) ∷ [];
      by = inr ([], refl);
      leaves = unsent_outlives seen may_leave moment left_since faults only_now settings log order (BookBroke BookFailed) old new first last has n;
      then = λ whole. absurd (not_both (has_failed new) (failed_by new n.0.0 n.0.1) whole);
    }
    unsent_outlived settings log order (LineBroke fault) old new first last has n = record {
      happened = SentOut (sent_as settings.currency order) ∷ [];
      by = inr ([], refl);
      leaves = unsent_outlives seen may_leave moment left_since faults only_now settings log order (LineBroke fault) old new first last has n;
      then = lost_after settings (log ++ SentOut (sent_as settings.currency order) ∷ []) n.2 new n.4 (λ whole. n.3.0.0.logs settings log has);
    }

    run_outlived : (settings : Settings) (log : List Happening) (order : Order) (old new : KeptValue D) (before after : StreamState) (coming left first last : Option (List ℕ)) (turns reads_before reads_after : ℕ) (result : Result Outcome RunFault)
        → HasLog seen may_leave moment left_since faults settings log old.standing → RanKept seen may_leave moment left_since faults order before after old new coming left first last turns reads_before reads_after result → Outlived settings log (runs order) old new
    run_outlived settings log order old new before after coming left first last turns reads_before reads_after (Ok outcome) has ran =
        let comes = ran.comes in
        let heard = comes.pumped.course.heard in
        let all = after_messages seen may_leave moment left_since faults only_now settings log order comes.sends.outgoing old comes.sent_till new heard.messages heard.answers has comes.sends.ordered.0.0 heard.heard in
        record { happened = SentOut (sent_as settings.currency order) ∷ map hears heard.messages; by = inr (heard.messages, refl); leaves = all.0; then = all.1 }
    run_outlived settings log order old new before after coming left first last turns reads_before reads_after (Err fault) has ran = ⊎_elim
        (λ unsent. unsent_outlived settings log order fault old new first last has unsent.0)
        (λ more. ⊎_elim
        (λ broke.
        let b = broke.2 in
        let h = heard-before (Hears seen may_leave moment left_since faults) broke.0 before after b.broken.read b.broken.written b.sent_till b.middle b.broken.breaks in
        let all = after_messages seen may_leave moment left_since faults only_now settings log order b.sends.outgoing old b.sent_till b.middle h.0 h.1 has b.sends.ordered.0.0 h.2 in
        let gone = loses_by broke.0 b.middle new b.reported in
        record {
          happened = SentOut (sent_as settings.currency order) ∷ map hears h.0;
          by = inr (h.0, refl);
          leaves = subst (λ (d : D). LeavesOnly moment left_since old.standing.device d (IsBetween settings log (SentOut (sent_as settings.currency order) ∷ map hears h.0))) (sym gone.1) all.0;
          then = lost_after settings (log ++ SentOut (sent_as settings.currency order) ∷ map hears h.0) b.middle new gone all.1;
        })
        (λ failed.
        let comes = failed.2 in
        let heard = comes.pumped.course.heard in
        let all = after_messages seen may_leave moment left_since faults only_now settings log order comes.sends.outgoing old comes.sent_till new heard.messages heard.answers has comes.sends.ordered.0.0 heard.heard in
        record { happened = SentOut (sent_as settings.currency order) ∷ map hears heard.messages; by = inr (heard.messages, refl); leaves = all.0; then = all.1 })
        more)
        ran

    -- an ask that was not sent
    unasked_outlived : (settings : Settings) (log : List Happening) (fault : RunFault) (old new : KeptValue D) (first last : Option (List ℕ))
        → HasLog seen may_leave moment left_since faults settings log old.standing → NotAsked (kept_asks seen may_leave moment left_since faults) (LosesLine seen may_leave moment left_since faults) fault old new first last → Outlived settings log asks old new
    unasked_outlived settings log (OrderFault why) old new first last has n = unchanged settings log asks old new ([], refl) has n.0.1
    unasked_outlived settings log (BookBroke NoSpace) old new first last has n =
        let same = same_both seen may_leave moment left_since faults old.standing new.standing (ap (λ (t : TillValue). t.state) n.0.0.inside) n.0.0.settling in
        record {
          happened = [];
          by = ([], refl);
          leaves = leaves_the_log seen may_leave moment left_since faults old.standing new.standing n.0.0.full settings log [] has;
          then = λ whole. subst (λ l. HasLog seen may_leave moment left_since faults settings l new.standing) (sym (append-nil log)) (same_log seen may_leave moment left_since faults old.standing new.standing same n.0.0.full settings log has);
        }
    unasked_outlived settings log (BookBroke BookFailed) old new first last has n = record {
      happened = [];
      by = ([], refl);
      leaves = after_ask seen may_leave moment left_since faults settings log [] old.standing.device new.standing.device (n.0.2.outlives settings log has);
      then = λ whole. absurd (not_both (has_failed new) (failed_by new n.0.0 n.0.1) whole);
    }
    unasked_outlived settings log (LineBroke fault) old new first last has n = record {
      happened = [];
      by = ([], refl);
      leaves = subst (λ (d : D). LeavesOnly moment left_since old.standing.device d (IsBetween settings log [])) (sym n.4.1) (after_ask seen may_leave moment left_since faults settings log [] old.standing.device n.2.standing.device (n.3.0.0.outlives settings log has));
      then = lost_after settings (log ++ []) n.2 new n.4 (λ whole. n.3.0.0.logs settings log has);
    }

    -- an ask that was sent, and the messages that were heard then
    ask_heard : (settings : Settings) (log : List Happening) (turns : ℕ) (before after : EndState) (old new : KeptValue D)
        → HasLog seen may_leave moment left_since faults settings log old.standing → AskComes (kept_asks seen may_leave moment left_since faults) (Hears seen may_leave moment left_since faults) kept_rests turns before after old new → Outlived settings log asks old new
    ask_heard settings log turns before after old new has comes =
        let asked = comes.begins.sends in
        let heard = (comes_there (Hears seen may_leave moment left_since faults) kept_rests Rest turns comes.middle after comes.asking new comes.comes).1.course.heard in
        let all = after_answers seen may_leave moment left_since faults only_now settings log asked.bytes old.note old comes.asking new heard.messages heard.answers has asked.asked.0.0 heard.heard in
        record { happened = map hears heard.messages; by = (heard.messages, refl); leaves = all.0; then = all.1 }

    ask_outlived : (settings : Settings) (log : List Happening) (old new : KeptValue D) (before after : EndState) (turns : ℕ) (result : Result Unit RunFault)
        → HasLog seen may_leave moment left_since faults settings log old.standing → AskRuns (kept_asks seen may_leave moment left_since faults) (Hears seen may_leave moment left_since faults) kept_rests turns Loses Loses has_failed result before after old new → Outlived settings log asks old new
    ask_outlived settings log old new before after turns (Ok done) has ran = ask_heard settings log turns before after old new has ran.0
    ask_outlived settings log old new before after turns (Err fault) has ran = ⊎_elim
        (λ unsent. unasked_outlived settings log fault old new before.written after.written has unsent.0)
        (λ more. ⊎_elim
        (λ broke.
        let b = broke.2 in
        let up = b.gives_up in
        let short = up.falls_short.broken in
        let h = heard-before (Hears seen may_leave moment left_since faults) broke.0 b.middle.stream after.stream short.read short.written b.asking up.middle short.breaks in
        let all = after_answers seen may_leave moment left_since faults only_now settings log b.begins.sends.bytes old.note old b.asking up.middle h.0 h.1 has b.begins.sends.asked.0.0 h.2 in
        let gone = loses_by broke.0 up.middle new up.reported in
        record {
          happened = map hears h.0;
          by = (h.0, refl);
          leaves = subst (λ (d : D). LeavesOnly moment left_since old.standing.device d (IsBetween settings log (map hears h.0))) (sym gone.1) all.0;
          then = lost_after settings (log ++ map hears h.0) up.middle new gone all.1;
        })
        (λ failed. ask_heard settings log turns before after old new has failed.2)
        more)
        ran

    all_or_none : (settings : Settings) (log happened : List Happening) (file : List ℕ) → LeavesLogs settings log happened file → IsBetween settings log happened file
    all_or_none settings log happened file left = ⊎_elim
        (λ s. at_first settings log happened file s)
        (λ s. record { part = happened; rest = []; is_part = sym (append-nil happened); recorded = s })
        left

    new_line : (settings : Settings) (log : List Happening) (old new : D) → LeavesOnly moment left_since old new (LeavesLogs settings log (Lost ∷ Connected ∷ [])) → LeavesOnly moment left_since old new (IsBetween settings log (Lost ∷ Connected ∷ []))
    new_line settings log old new leaves =
        weaker records_are_kept seen may_leave moment left_since faults old new (LeavesLogs settings log (Lost ∷ Connected ∷ [])) (IsBetween settings log (Lost ∷ Connected ∷ [])) leaves (λ file. all_or_none settings log (Lost ∷ Connected ∷ []) file)

    connect_outlived : (settings : Settings) (log : List Happening) (old new : KeptValue D) (result : Result Unit DeviceError)
        → HasLog seen may_leave moment left_since faults settings log old.standing → Connects seen may_leave moment left_since faults old new result → Outlived settings log connects old new
    connect_outlived settings log old new (Ok done) has c = ⊎_elim
        (λ still. unchanged settings log connects old new (inl refl) has still.1)
        (λ line. record {
          happened = Lost ∷ Connected ∷ [];
          by = inr refl;
          leaves = new_line settings log old.standing.device new.standing.device (line.2.outlives settings log has);
          then = λ whole. line.2.logs settings log has;
        })
        c
    connect_outlived settings log old new (Err why) has c = ⊎_elim
        (λ still. unchanged settings log connects old new (inl refl) has still.2)
        (λ broke. record {
          happened = Lost ∷ Connected ∷ [];
          by = inr refl;
          leaves = new_line settings log old.standing.device new.standing.device (broke.6 settings log has);
          then = λ whole. absurd (not_both (has_failed new) (failed_by new why broke.1) whole);
        })
        c

    call_outlived : (settings : Settings) (log : List Happening) (step : KeptStep) (old new : KeptValue D) → HasLog seen may_leave moment left_since faults settings log old.standing → Did seen may_leave moment left_since faults step old new → Outlived settings log step old new
    call_outlived settings log (runs order) old new has did =
        let o = run_outlived settings log order (with_note old did.0) new did.1 did.2 did.3 did.4 did.5 did.6 did.7 did.8 did.9 did.10 has did.11 in
        record { happened = o.happened; by = o.by; leaves = o.leaves; then = o.then }
    call_outlived settings log asks old new has did =
        let o = ask_outlived settings log (with_note old did.0) new did.1 did.2 did.3 did.4 has did.5 in
        record { happened = o.happened; by = o.by; leaves = o.leaves; then = o.then }
    call_outlived settings log connects old new has did = connect_outlived settings log old new did.0 has did.1
    call_outlived settings log loses old new has did = record {
      happened = [];
      by = refl;
      leaves = subst (λ (d : D). LeavesOnly moment left_since old.standing.device d (IsBetween settings log [])) (sym did.1) (quiet seen may_leave moment left_since faults only_now settings log [] old.standing has);
      then = λ whole. subst (λ l. HasLog seen may_leave moment left_since faults settings l new.standing) (sym (append-nil log)) (lost_log settings log old new did has);
    }

    -- ---- calls one after another

    abbrev pub AllLeft : Settings → List Happening → List KeptStep → (old new : KeptValue D) → Type 0
    AllLeft settings log steps old new =
        (happened : List Happening) × HappenInAll settings.currency steps happened
        × LeavesOnly moment left_since old.standing.device new.standing.device (IsBetween settings log happened)
        × (has_failed new ≡ false → HasLog seen may_leave moment left_since faults settings (log ++ happened) new.standing)

    none_happened : (currency : ℕ) (steps : List KeptStep) → HappenInAll currency steps []
    none_happened currency [] = refl
    none_happened currency (runs order ∷ more) = ([], [], inl refl, none_happened currency more, refl)
    none_happened currency (asks ∷ more) = ([], [], ([], refl), none_happened currency more, refl)
    none_happened currency (connects ∷ more) = ([], [], inl refl, none_happened currency more, refl)
    none_happened currency (loses ∷ more) = ([], [], refl, none_happened currency more, refl)

    one_and_more : (settings : Settings) (log : List Happening) (step : KeptStep) (more : List KeptStep) (old mid new : KeptValue D) (failed : Bool) → has_failed mid ≡ failed → (one : Outlived settings log step old mid)
        → DidAll seen may_leave moment left_since faults more mid new → (has_failed mid ≡ false → AllLeft settings (log ++ one.happened) more mid new) → AllLeft settings log (step ∷ more) old new
    one_and_more settings log step more old mid new false whole one did rest =
        let r = rest whole in (
          one.happened ++ r.0,
          (one.happened, r.0, one.by, r.1, refl),
          and_then moment left_since old.standing.device mid.standing.device new.standing.device (IsBetween settings log (one.happened ++ r.0)) (IsBetween settings (log ++ one.happened) r.0)
              (weaker records_are_kept seen may_leave moment left_since faults old.standing.device mid.standing.device (IsBetween settings log one.happened) (IsBetween settings log (one.happened ++ r.0)) one.leaves (λ file. more_later settings log one.happened r.0 file))
              r.2 (λ file. all_before settings log one.happened r.0 file),
          λ unfailed. subst (λ l. HasLog seen may_leave moment left_since faults settings l new.standing) (append_assoc log one.happened r.0) (r.3 unfailed),
        )
    one_and_more settings log step more old mid new true failed one did rest =
        let end = all_stuck more mid new failed did in (
          one.happened,
          (one.happened, [], one.by, none_happened settings.currency more, sym (append-nil one.happened)),
          subst (λ (d : D). LeavesOnly moment left_since old.standing.device d (IsBetween settings log one.happened)) (sym end.1) one.leaves,
          λ unfailed. absurd (not_both (has_failed new) end.0 unfailed),
        )

    pub calls_outlive : CallsOutlive seen may_leave moment left_since faults
    calls_outlive settings log [] old new has whole did = (
      [],
      refl,
      subst (λ (k : KeptValue D). LeavesOnly moment left_since old.standing.device k.standing.device (IsBetween settings log [])) did (quiet seen may_leave moment left_since faults only_now settings log [] old.standing has),
      λ unfailed. subst (λ l. HasLog seen may_leave moment left_since faults settings l new.standing) (sym (append-nil log)) (subst (λ (k : KeptValue D). HasLog seen may_leave moment left_since faults settings log k.standing) did has),
    )
    calls_outlive settings log (step ∷ more) old new has whole did =
        let one = call_outlived settings log step old did.1 has did.2 in
        one_and_more settings log step more old did.1 new (has_failed did.1) refl one did.3 (λ unfailed. calls_outlive settings (log ++ one.happened) more did.1 new (one.then unfailed) unfailed did.3)
