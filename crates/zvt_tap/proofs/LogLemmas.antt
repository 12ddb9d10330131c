-- What the log of a line has observed, once more chunks have come.
use Rattle.std.proofs.Common.{◌≡◌, ◌⊎◌, ◌<◌, ◌&&◌, inl, inr, Bool, true, false, ℕ, List, [], ◌∷◌, ◌++◌, Option, Result, Ok, Err, append-nil, append_assoc, codes, le_refl, le_trans, lt_of_le_of_lt, lt_of_lt_of_le, refl, subst, sym}
use Rattle.zvt_grammar.specs.Reading.{Reading}
use Rattle.zvt_audit.specs.Line.{AnswersLine, hears_line}
use Rattle.zvt_trace.specs.Resuming.{side_scope}
use Rattle.zvt_audit.specs.declared.line.LineAudit.{LineAudit}
use Rattle.zvt_audit.specs.declared.line.LineBooks.{LineBooks}
use Rattle.zvt_show.specs.Beside.{Tells, Watching, showing_of}
use Rattle.zvt_show.specs.Shown.{HasShown, Shows}
use Rattle.zvt_show.specs.declared.render.Style.TheVariants.{Show}
use Rattle.zvt_text.specs.TextOptions.{safe_text}
use Rattle.zvt_trace.specs.Lines.{piece_text}
use Rattle.zvt_trace.specs.Observing.{Misses, Observes}
use Rattle.zvt_trace.specs.declared.direction.Direction.{Direction}
use Rattle.zvt_trace.specs.declared.listener.ListenerError.{ListenerError}
use Rattle.zvt_trace.specs.declared.listener.ListenerError.TheVariants.{Memory, Write}
use Rattle.zvt_tap.specs.Chunks.{Chunk, trace_text}
use Rattle.zvt_trace.specs.declared.fault.TraceFault.{TraceFault}
use Rattle.zvt_tap.specs.Heard.{AnswersHeard, HasHeard}
use Rattle.zvt_tap.specs.Log.{FoundStopped, HasObserved}
use Rattle.zvt_tap.specs.Traced.{FailsOnlyIf, GoesOn, HasTraced, Stops, TracesOn, failures_by, traced_by}
use Rattle.zvt_tap.specs.Watching.{Loses, ObservesAll, ObservesUntil, Records, Sees}
use Rattle.zvt_tap.specs.declared.tracing.Tracing.{Tracing}
use Rattle.zvt_tap.specs.declared.watched.Watched.{Watched}
use Rattle.zvt_tap.proofs.MoveLemmas.{text_one}

-- ---- how the trace fails

pub fails_not : (is : Bool) (count : ℕ) → FailsOnlyIf is is count count
fails_not is count = (le_refl count, λ e. e, λ e. inl e)

pub fails_more : (a b c : Bool) (x y z : ℕ) → FailsOnlyIf a b x y → FailsOnlyIf b c y z → FailsOnlyIf a c x z
fails_more a b c x y z (up, stays, first) (up_more, stays_more, then) = (le_trans up up_more, λ e. stays_more (stays e), λ e. by (then e))
  where
    by : (b ≡ true) ⊎ (y < z) → (a ≡ true) ⊎ (x < z)
    by (inr grown) = inr (lt_of_le_of_lt up grown)
    by (inl failed) = before (first failed)
      where
        before : (a ≡ true) ⊎ (x < y) → (a ≡ true) ⊎ (x < z)
        before (inl same) = inl same
        before (inr grown) = inr (lt_of_lt_of_le grown up_more)

-- where both hold the first does
first_holds : (a b : Bool) → (a && b) ≡ true → a ≡ true
first_holds true b is = refl
first_holds false b is = is

-- ---- the audit

pub line_heard : (r : Reading) (reads_on : Bool) (trace : List ℕ) (old new : Option (List ℕ)) (answer : Result LineBooks TraceFault) → AnswersLine r reads_on trace old new answer → AnswersHeard r reads_on trace old new answer
line_heard r reads_on trace old new (Ok found) answers = answers
line_heard r reads_on trace old new (Err fault) answers = inl answers

-- ---- a log

module _ {T O : Type 0} (written : T → Option (List ℕ)) (failures : T → ℕ) (output : O → Option (List ℕ)) where
  abbrev pub Log : Type 0
  Log = Watched (Tracing T) (Watching O LineAudit)

  abbrev pub traces : Observes (Tracing T)
  traces old from bytes new = GoesOn written failures old (piece_text from bytes) new

  abbrev pub stops : Misses (Tracing T)
  stops old from bytes why new = Stops written failures old (piece_text from bytes) why new

  abbrev pub watches : Observes (Watching O LineAudit)
  watches old from bytes new = Shows output (showing_of old) (piece_text from bytes) (showing_of new) × Tells hears_line old (piece_text from bytes) new

  abbrev pub overlooks : Misses (Watching O LineAudit)
  overlooks old from bytes why new = ⊥

  abbrev pub logs : Observes Log
  logs = Records traces stops watches overlooks

  abbrev pub loses : Misses Log
  loses = Loses traces stops watches overlooks

  abbrev pub Has : Reading → (reads_on : Bool) → List ℕ → (first_trace first_output : Option (List ℕ)) → Log → Type 0
  Has r reads_on trace first_trace first_output log = HasObserved written output r reads_on trace first_trace first_output log.recorder log.watcher

  -- no watcher overlooks a chunk
  sees : (from : Direction) (bytes : List ℕ) (old new : Watching O LineAudit) → Sees watches overlooks from bytes old new → watches old from bytes new
  sees from bytes old new (inl seen) = seen
  sees from bytes old new (inr (why, never)) = absurd never

  one_more : (r : Reading) (reads_on : Bool) (trace text : List ℕ) (first held : Option (List ℕ)) (old new : Log) → TracesOn written failures old.recorder text new.recorder → Shows output (showing_of old.watcher) text (showing_of new.watcher) → Tells hears_line old.watcher text new.watcher
      → Has r reads_on trace first held old → Has r reads_on (trace ++ text) first held new
  one_more r reads_on trace text first held old new traced shown heard has = record { traced = traced.traced trace first has.traced; shows = shown r _ _ trace held has.shows; hears = (has.hears.0, has.hears.1, heard r _ trace has.hears.0 has.hears.2) }

  one_logged : (r : Reading) (reads_on : Bool) (trace : List ℕ) (first held : Option (List ℕ)) (from : Direction) (bytes : List ℕ) (old new : Log) → logs old from bytes new → Has r reads_on trace first held old → Has r reads_on (trace ++ piece_text from bytes) first held new
  one_logged r reads_on trace first held from bytes old new (traced, seen) has =
      let watched = sees from bytes old.watcher new.watcher seen in
      one_more r reads_on trace (piece_text from bytes) first held old new traced.0 watched.0 watched.1 has

  pub all_logged : (r : Reading) (reads_on : Bool) (trace : List ℕ) (first held : Option (List ℕ)) (chunks : List Chunk) (old new : Log) → ObservesAll logs old chunks new → Has r reads_on trace first held old → Has r reads_on (trace ++ trace_text chunks) first held new
  all_logged r reads_on trace first held [] old new same has = subst (λ (log : Log). Has r reads_on (trace ++ []) first held log) (sym same) (subst (λ (t : List ℕ). Has r reads_on t first held old) (sym (append-nil trace)) has)
  all_logged r reads_on trace first held (one ∷ more) old new (middle, step, rest) has =
      subst (λ (t : List ℕ). Has r reads_on t first held new) (append_assoc trace (piece_text one.from one.bytes) (trace_text more))
      (all_logged r reads_on (trace ++ piece_text one.from one.bytes) first held more middle new rest (one_logged r reads_on trace first held one.from one.bytes old middle step has))

  -- what was found of a line that was stopped
  pub found_stopped : (r : Reading) (reads_on : Bool) (first held : Option (List ℕ)) (Found : List ℕ → Type 0) (failed : Bool) (old new : Log) → ((trace : List ℕ) → Has r reads_on trace first held new → Found (trace ++ (codes "!" ++ 10 ∷ []))) → (new.recorder.failed ≡ true → failed ≡ true)
      → Has r reads_on [] first held old → (why : ListenerError) (chunks : List Chunk) (last : Chunk) → ObservesUntil logs loses old chunks last why new → FoundStopped Found failed why chunks last
  found_stopped r reads_on first held Found failed old new finds fails has Memory chunks last (middle, all, missed) =
      let before = all_logged r reads_on [] first held chunks old middle all has in
      finds (trace_text chunks) (record {
        traced = subst (λ (t : List ℕ). HasTraced new.recorder.failed t first (traced_by written new.recorder.trace)) (append-nil (trace_text chunks)) (missed.0.traced (trace_text chunks) first before.traced);
        shows = subst (λ (w : Watching O LineAudit). HasShown output r (side_scope reads_on) (Show safe_text) (trace_text chunks) held (showing_of w)) (sym missed.1) before.shows;
        hears = subst (λ (w : Watching O LineAudit). HasHeard r reads_on (trace_text chunks) w) (sym missed.1) before.hears;
      })
  found_stopped r reads_on first held Found failed old new finds fails has Write chunks last (middle, all, missed) =
      let before = all_logged r reads_on [] first held chunks old middle all has in
      let watched = sees last.from last.bytes middle.watcher new.watcher missed.1 in
      let after = one_more r reads_on (trace_text chunks) (piece_text last.from last.bytes) first held middle new missed.0.0 watched.0 watched.1 before in
      (finds (trace_text (chunks ++ last ∷ [])) (subst (λ (t : List ℕ). Has r reads_on t first held new) (sym (text_one chunks last)) after), fails (first_holds new.recorder.failed new.recorder.required missed.0.1))

  -- ---- how it fails

  abbrev Fails : (old new : Log) → Type 0
  Fails old new = FailsOnlyIf old.recorder.failed new.recorder.failed (failures_by failures old.recorder.trace) (failures_by failures new.recorder.trace)

  fails_then : (a b c : Log) → Fails a b → Fails b c → Fails a c
  fails_then a b c one two = fails_more a.recorder.failed b.recorder.failed c.recorder.failed (failures_by failures a.recorder.trace) (failures_by failures b.recorder.trace) (failures_by failures c.recorder.trace) one two

  pub all_fails : (chunks : List Chunk) (old new : Log) → ObservesAll logs old chunks new → Fails old new
  all_fails [] old new same = subst (λ (log : Log). Fails old log) (sym same) (fails_not old.recorder.failed (failures_by failures old.recorder.trace))
  all_fails (one ∷ more) old new (middle, step, rest) = fails_then old middle new step.0.0.fails (all_fails more middle new rest)

  pub stop_fails : (why : ListenerError) (chunks : List Chunk) (last : Chunk) (old new : Log) → ObservesUntil logs loses old chunks last why new → Fails old new
  stop_fails Memory chunks last old new (middle, all, missed) = fails_then old middle new (all_fails chunks old middle all) missed.0.fails
  stop_fails Write chunks last old new (middle, all, missed) = fails_then old middle new (all_fails chunks old middle all) missed.0.0.fails
