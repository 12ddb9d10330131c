-- The text of what a walk emits.
use Rattle.std.proofs.Common.{◌≡◌, inl, inr, Bool, ℕ, ◌<◌, ◌≤◌, List, [], ◌∷◌, ◌++◌, Result, Option, Some, None, Ok, Err, refl, sym, ◌∙◌, subst, arith, append_assoc, append-nil, length}
use Rattle.std.proofs.KnownBytes.{Appends-kept, Appends-trans}
use Rattle.std.specs.Io.KnownBytes.{Appends}
use Rattle.std.specs.Prelude.{IfSome}
use Rattle.std.specs.Str.Lines.{lines}
use Rattle.zvt_grammar.specs.Reading.{Reading}
use Rattle.zvt_trace.specs.Listening.{AnswersWalk, Fails, FailsIn, Hears, HearsAll, Stops}
use Rattle.zvt_trace.specs.TraceEvent.{At}
use Rattle.zvt_trace.specs.Emitting.{BrokenTrace, PrefixOf, SideEnds, EventsSoFar, WholeTrace}
use Rattle.zvt_trace.specs.Trace.{new_line, running}
use Rattle.zvt_trace.specs.Written.{AppendsPrefix, ReadsTrace, limit}
use Rattle.zvt_stream.proofs.Beginnings.{nothing_in}
use Rattle.zvt_trace.specs.declared.direction.Direction.{Direction}
use Rattle.zvt_trace.specs.declared.direction.Direction.TheVariants.{FromTill, FromTerminal}
use Rattle.zvt_trace.specs.declared.fault.Tally.{Tally}
use Rattle.zvt_trace.specs.declared.fault.TraceLineError.{TraceLineError}
use Rattle.zvt_trace.specs.declared.fault.TraceFault.{TraceFault}
use Rattle.zvt_trace.specs.declared.fault.TraceFault.TheVariants.{Memory, Read, TooLong, Trace, Write}
use Rattle.zvt_trace.specs.declared.listener.ListenerError.{ListenerError}
use Rattle.zvt_trace.specs.declared.listener.ListenerError.TheVariants as failure
use Rattle.zvt_trace.specs.declared.listener.Scope.{Scope}
use Rattle.zvt_trace.specs.declared.listener.Scope.TheVariants.{OneSide}
use Rattle.zvt_trace.proofs.EventLemmas.{prefix_whole}
use Rattle.zvt_show.specs.Text.{RenderedTexts, Rendering, rendering_of, times_if, untimed}
use Rattle.zvt_show.specs.Written.{AnswersLinesBy, AnswersRendered, AnswersTraceBy, Extends, FailsEvent, Page, WritesEvent, all_of}
use Rattle.zvt_trace.specs.declared.moments.Timed.{Timed}
use Rattle.zvt_show.specs.declared.render.Style.{Style}
use Rattle.zvt_show.proofs.BlockLemmas.{all_written, appends_none, after_nothing, extends_more, extends_none, keeps_same, last_failed, last_written, short_of, whole_prefix}

-- ---- a prefix of what a trace emits

pub whole_so_far : {r : Reading} (scope : Scope) (lines : List (List ℕ)) (events : List At) → WholeTrace r scope lines events → EventsSoFar r scope lines events
whole_so_far scope lines events whole = prefix_whole events (record {
  done = lines;
  later = [];
  before = whole.body;
  next = whole.last;
  after = whole.after;
  cut = sym (append-nil lines);
  emit = whole.emit;
  emits = whole.ends;
  is_all = whole.is_all;
})

pub broken_so_far : {r : Reading} (scope : Scope) (lines : List (List ℕ)) (number : ℕ) (what : TraceLineError) (events : List At) → BrokenTrace r scope lines number what events → EventsSoFar r scope lines events
broken_so_far scope lines number what events broken = prefix_whole events (record {
  done = broken.done;
  later = broken.line ∷ broken.later;
  before = events;
  next = [];
  after = broken.after;
  cut = broken.cut;
  emit = broken.emit;
  emits = inl refl;
  is_all = sym (append-nil events);
})

none_begun : {r : Reading} (line : ℕ) (from : Direction) → SideEnds r line from (running []) []
none_begun {r = r} line from = ([], [], record { spelled = refl; none_whole = (nothing_in r).none_whole }, refl)

none_so_far : {r : Reading} (scope : Scope) (lines : List (List ℕ)) → EventsSoFar r scope lines []
none_so_far {r = r} scope lines = by lines
  where
    by : (lines : List (List ℕ)) → EventsSoFar r scope lines []
    by [] = prefix_whole [] (record {
      done = [];
      later = [];
      before = [];
      next = [];
      after = new_line;
      cut = refl;
      emit = (refl, refl);
      emits = record { till = []; terminal = []; till_ends = none_begun 0 FromTill; terminal_ends = none_begun 0 FromTerminal; is_all = refl };
      is_all = refl;
    })
    by (line ∷ more) = prefix_whole [] (record {
      done = [];
      later = line ∷ more;
      before = [];
      next = [];
      after = new_line;
      cut = refl;
      emit = (refl, refl);
      emits = inl refl;
      is_all = refl;
    })

pub prefix_fewer : {Emit : List At → Type 0} (events more : List At) → PrefixOf Emit (events ++ more) → PrefixOf Emit events
prefix_fewer events more prefix = record { all = prefix.all; later = more ++ prefix.later; emit = prefix.emit; is_prefix = prefix.is_prefix ∙ append_assoc events more prefix.later }

-- ---- what is written

abbrev pub writes : {S : Type 0} → (S → Page) → Hears S
writes view old event new = WritesEvent event (view old) (view new)

abbrev pub fails : {S : Type 0} → (S → Page) → Fails S
fails view old event why new = FailsEvent why (view old) (view new)

-- the text of the events comes after what was to be written
pub record Shows (rendering : Rendering) (events : List At) (old new : Page) : Type 0 where
  pub text : List ℕ
  pub says : RenderedTexts rendering events text
  pub appended : Appends (all_of old) (all_of new) text
  pub extends : Extends old.written new.written
  pub failures : new.failures ≡ old.failures

pub shown : {S : Type 0} (view : S → Page) (events : List At) (old new : S) → HearsAll (writes view) old events new → Shows (view old).rendering events (view old) (view new)
shown {S = S} view [] old new same = subst (λ (s : S). Shows (view old).rendering [] (view old) (view s)) (sym same) (record {
  text = [];
  says = refl;
  appended = appends_none (all_of (view old));
  extends = extends_none (view old).written;
  failures = refl;
})
shown view (event ∷ events) old new some =
    let first = some.1 in
    let rest = shown view events some.0 new some.2 in record {
      text = first.text ++ rest.text;
      says = (first.text, rest.text, refl, first.says, subst (λ (rendering : Rendering). RenderedTexts rendering events rest.text) first.same rest.says);
      appended = Appends-trans (all_of (view old)) (all_of (view some.0)) (all_of (view new)) first.text rest.text first.appended rest.appended;
      extends = extends_more (view old).written (view some.0).written (view new).written first.extends rest.extends;
      failures = rest.failures ∙ first.failures;
    }

-- ---- what a walk answers

-- the text is there that these events have, or a prefix of it; and no write failed before
record Wrote (r : Reading) (scope : Scope) (rendering : Rendering) (lines : List (List ℕ)) (old new : Page) : Type 0 where
  pub events : List At
  pub text : List ℕ
  pub so_far : EventsSoFar r scope lines events
  pub says : RenderedTexts rendering events text
  pub prefix : AppendsPrefix old.written (all_of new) text
  pub extends : Extends old.written new.written
  pub least : old.failures ≤ new.failures

pub started : (old : Page) (new : Option (List ℕ)) (text : List ℕ) → old.block ≡ [] → Appends (all_of old) new text → Appends old.written new text
started old new text empty appended = subst (λ (o : Option (List ℕ)). Appends o new text) (after_nothing old.written old.block empty) appended

wrote_all : {S : Type 0} {r : Reading} (scope : Scope) (view : S → Page) (lines : List (List ℕ)) (events : List At) (old new : S) → (view old).block ≡ [] → EventsSoFar r scope lines events → HearsAll (writes view) old events new → Wrote r scope (view old).rendering lines (view old) (view new)
wrote_all {r = r} scope view lines events old new empty so_far heard =
    let shows = shown view events old new heard in record {
      events = events;
      text = shows.text;
      so_far = so_far;
      says = shows.says;
      prefix = whole_prefix (view old).written (all_of (view new)) shows.text (started (view old) (all_of (view new)) shows.text empty shows.appended);
      extends = shows.extends;
      least = omega (arith, shows.failures);
    }

-- of an event that could not be written nothing is there, and perhaps less than before
wrote_less : {S : Type 0} {r : Reading} (scope : Scope) (view : S → Page) (lines : List (List ℕ)) (events : List At) (event : At) (why : ListenerError) (old middle new : S) → (view old).block ≡ [] → EventsSoFar r scope lines (events ++ event ∷ [])
    → HearsAll (writes view) old events middle → FailsEvent why (view middle) (view new) → Wrote r scope (view old).rendering lines (view old) (view new)
wrote_less {r = r} scope view lines events event failure.Memory old middle new empty so_far heard failed =
    let shows = shown view events old middle heard in record {
      events = events;
      text = shows.text;
      so_far = prefix_fewer events (event ∷ []) so_far;
      says = shows.says;
      prefix = whole_prefix (view old).written (all_of (view new)) shows.text
          (started (view old) (all_of (view new)) shows.text empty (Appends-kept (all_of (view old)) (all_of (view middle)) (all_of (view new)) shows.text shows.appended failed.0));
      extends = extends_more (view old).written (view middle).written (view new).written shows.extends failed.1;
      least = omega (arith, shows.failures, failed.2);
    }
wrote_less {r = r} scope view lines events event failure.Write old middle new empty so_far heard failed =
    let shows = shown view events old middle heard in
    let extends = extends_more (view old).written (view middle).written (view new).written shows.extends failed.1 in record {
      events = events;
      text = shows.text;
      so_far = prefix_fewer events (event ∷ []) so_far;
      says = shows.says;
      prefix = short_of (view old).written (view new).written (all_of (view middle)) (view new).block shows.text extends (started (view old) (all_of (view middle)) shows.text empty shows.appended) failed.0;
      extends = extends;
      least = omega (arith, shows.failures, failed.2);
    }

wrote_failed : {S : Type 0} (r : Reading) (scope : Scope) (view : S → Page) (lines : List (List ℕ)) (why : ListenerError) (old new : S) → (view old).block ≡ [] → FailsIn (writes view) (fails view) why (EventsSoFar r scope lines) old new → Wrote r scope (view old).rendering lines (view old) (view new)
wrote_failed {S = S} r scope view lines why old new empty failed = by failed.stops
  where
    by : Stops (fails view) why (EventsSoFar r scope lines) failed.events failed.middle new → Wrote r scope (view old).rendering lines (view old) (view new)
    by (inl (is, so_far, same)) = subst (λ (s : S). Wrote r scope (view old).rendering lines (view old) (view s)) (sym same) (wrote_all scope view lines failed.events old failed.middle empty so_far failed.heard)
    by (inr (event, so_far, left)) = wrote_less scope view lines failed.events event why old failed.middle new empty so_far failed.heard left

wrote : {S : Type 0} (r : Reading) (scope : Scope) (view : S → Page) (lines : List (List ℕ)) (answer : Result Tally TraceFault) (old new : S) → (view old).block ≡ [] → AnswersWalk r (writes view) (fails view) scope lines old new answer → Wrote r scope (view old).rendering lines (view old) (view new)
wrote r scope view lines (Ok tally) old new empty walked = wrote_all scope view lines walked.0 old new empty (whole_so_far scope lines walked.0 walked.1) walked.2
wrote r scope view lines (Err (Trace number what)) old new empty walked = wrote_all scope view lines walked.0 old new empty (broken_so_far scope lines number what walked.0 walked.1) walked.2
wrote r scope view lines (Err Memory) old new empty failed = wrote_failed r scope view lines failure.Memory old new empty failed
wrote r scope view lines (Err Write) old new empty failed = wrote_failed r scope view lines failure.Write old new empty failed
wrote r scope view lines (Err TooLong) old new empty never = absurd never
wrote r scope view lines (Err Read) old new empty never = absurd never

-- ---- the last block

-- it was written
memory_written : {S : Type 0} (r : Reading) (scope : Scope) (view : S → Page) (lines : List (List ℕ)) (old new : S) (device : Option (List ℕ)) → (view old).block ≡ [] → FailsIn (writes view) (fails view) failure.Memory (EventsSoFar r scope lines) old new
    → Appends (view new).written device (view new).block → AnswersRendered r scope (view old).rendering lines (view old).written device (Err Memory)
memory_written {S = S} r scope view lines old new device empty failed last = by failed.stops
  where
    shows : Shows (view old).rendering failed.events (view old) (view failed.middle)
    shows = shown view failed.events old failed.middle failed.heard

    all : Appends (all_of (view old)) (all_of (view new)) shows.text → EventsSoFar r scope lines failed.events → AnswersRendered r scope (view old).rendering lines (view old).written device (Err Memory)
    all appended so_far = (failed.events, shows.text, so_far, shows.says, all_written (view old).written (view new).written device (view new).block shows.text (started (view old) (all_of (view new)) shows.text empty appended) last)

    by : Stops (fails view) failure.Memory (EventsSoFar r scope lines) failed.events failed.middle new → AnswersRendered r scope (view old).rendering lines (view old).written device (Err Memory)
    by (inl (is, so_far, same)) = all (subst (λ (s : S). Appends (all_of (view old)) (all_of (view s)) shows.text) (sym same) shows.appended) so_far
    by (inr (event, so_far, left)) = all (Appends-kept (all_of (view old)) (all_of (view failed.middle)) (all_of (view new)) shows.text shows.appended left.0) (prefix_fewer failed.events (event ∷ []) so_far)

written_so : {S : Type 0} (r : Reading) (scope : Scope) (view : S → Page) (lines : List (List ℕ)) (answer : Result Tally TraceFault) (old new : S) (device : Option (List ℕ)) → (view old).block ≡ [] → AnswersWalk r (writes view) (fails view) scope lines old new answer
    → Appends (view new).written device (view new).block → AnswersRendered r scope (view old).rendering lines (view old).written device answer
written_so r scope view lines (Ok tally) old new device empty walked last =
    let shows = shown view walked.0 old new walked.2 in
    (walked.0, shows.text, walked.1, shows.says, all_written (view old).written (view new).written device (view new).block shows.text (started (view old) (all_of (view new)) shows.text empty shows.appended) last, walked.3)
written_so r scope view lines (Err (Trace number what)) old new device empty walked last =
    let shows = shown view walked.0 old new walked.2 in
    (walked.0, shows.text, walked.1, shows.says, all_written (view old).written (view new).written device (view new).block shows.text (started (view old) (all_of (view new)) shows.text empty shows.appended) last)
written_so r scope view lines (Err Memory) old new device empty failed last = memory_written r scope view lines old new device empty failed last
written_so r scope view lines (Err Write) old new device empty failed last =
    let some = wrote_failed r scope view lines failure.Write old new empty failed in
    (some.events, some.text, some.so_far, some.says, last_written (view old).written (view new).written device (view new).block some.text some.prefix last)
written_so r scope view lines (Err TooLong) old new device empty never last = absurd never
written_so r scope view lines (Err Read) old new device empty never last = absurd never

pub written : {S : Type 0} (r : Reading) (scope : Scope) (view : S → Page) (rendering : Rendering) (lines : List (List ℕ)) (answer : Result Tally TraceFault) (old new : S) (device : Option (List ℕ)) → (view old).rendering ≡ rendering → (view old).block ≡ []
    → AnswersWalk r (writes view) (fails view) scope lines old new answer → Appends (view new).written device (view new).block → AnswersRendered r scope rendering lines (view old).written device answer
written r scope view rendering lines answer old new device is empty walked last = subst (λ (s : Rendering). AnswersRendered r scope s lines (view old).written device answer) is (written_so r scope view lines answer old new device empty walked last)

-- it could not be written
pub not_written : {S : Type 0} (r : Reading) (scope : Scope) (view : S → Page) (rendering : Rendering) (lines : List (List ℕ)) (answer : Result Tally TraceFault) (old new : S) (device : Option (List ℕ)) → (view old).rendering ≡ rendering → (view old).block ≡ []
    → AnswersWalk r (writes view) (fails view) scope lines old new answer → AppendsPrefix (view new).written device (view new).block → AnswersRendered r scope rendering lines (view old).written device (Err Write)
not_written r scope view rendering lines answer old new device is empty walked last =
    let some = wrote r scope view lines answer old new empty walked in
    subst (λ (s : Rendering). AnswersRendered r scope s lines (view old).written device (Err Write)) is
    (some.events, some.text, some.so_far, some.says, last_failed (view old).written (view new).written device (view new).block some.text some.extends some.prefix last)

-- ---- failures

pub least : {S : Type 0} (r : Reading) (scope : Scope) (view : S → Page) (lines : List (List ℕ)) (answer : Result Tally TraceFault) (old new : S) → (view old).block ≡ [] → AnswersWalk r (writes view) (fails view) scope lines old new answer → (view old).failures ≤ (view new).failures
least r scope view lines answer old new empty walked = (wrote r scope view lines answer old new empty walked).least

-- the walk failed since a write did
pub write_counted : {S : Type 0} (r : Reading) (scope : Scope) (view : S → Page) (lines : List (List ℕ)) (answer : Result Tally TraceFault) (old new : S) → AnswersWalk r (writes view) (fails view) scope lines old new answer → answer ≡ Err Write → (view old).failures < (view new).failures
write_counted r scope view lines (Ok tally) old new walked e = cc
write_counted r scope view lines (Err (Trace number what)) old new walked e = cc
write_counted r scope view lines (Err Memory) old new walked e = cc
write_counted r scope view lines (Err TooLong) old new never e = absurd never
write_counted r scope view lines (Err Read) old new never e = absurd never
write_counted {S = S} r scope view lines (Err Write) old new failed e = by failed.stops
  where
    by : Stops (fails view) failure.Write (EventsSoFar r scope lines) failed.events failed.middle new → (view old).failures < (view new).failures
    by (inl (is, so_far, same)) = cc
    by (inr (event, so_far, left)) = omega (arith, (shown view failed.events old failed.middle failed.heard).failures, left.2)

-- ---- nothing was read

pub unread : (r : Reading) (scope : Scope) (rendering : Rendering) (lines : List (List ℕ)) (held : Option (List ℕ)) → AnswersRendered r scope rendering lines held held (Err Memory)
unread r scope rendering lines held = ([], [], none_so_far scope lines, refl, appends_none held)

-- the trace could not be read
pub read_failed : (r : Reading) (style : Style) (left held : Option (List ℕ)) (fault : TraceFault) → ReadsTrace left (Err fault) → IfSome left (λ trace. AnswersTraceBy r style trace held held (Err fault))
read_failed r style None held fault reads = tt
read_failed r style (Some trace) held TooLong reads = (reads, keeps_same held)
read_failed r style (Some trace) held Read reads = keeps_same held
read_failed r style (Some trace) held Memory reads = unread r OneSide (untimed style) (lines trace) held
read_failed r style (Some trace) held Write never = absurd never
read_failed r style (Some trace) held (Trace number what) never = absurd never

-- ---- a trace that is read first

pub read_answered : (r : Reading) (style : Style) (left : Option (List ℕ)) (trace slice : List ℕ) (old new : Option (List ℕ)) (answer : Result Tally TraceFault) → IfSome left (λ bytes. trace ≡ bytes) → length trace ≤ limit → slice ≡ trace
    → AnswersLinesBy r OneSide style (lines slice) old new answer → IfSome left (λ bytes. AnswersTraceBy r style bytes old new answer)
read_answered r style None trace slice old new answer read few same answers = tt
read_answered r style (Some bytes) trace slice old new answer read few same answers =
    subst (λ (b : List ℕ). AnswersTraceBy r style b old new answer) read (by answer (subst (λ (b : List ℕ). AnswersLinesBy r OneSide style (lines b) old new answer) same answers))
  where
    by : (answer : Result Tally TraceFault) → AnswersLinesBy r OneSide style (lines trace) old new answer → AnswersTraceBy r style trace old new answer
    by (Ok tally) written = (few, written)
    by (Err (Trace number what)) written = (few, written)
    by (Err Memory) written = written
    by (Err Write) written = (few, written)
    by (Err TooLong) never = absurd never
    by (Err Read) never = absurd never

-- ---- how events are written

pub rendered : (timed : Bool) (trace : List (List ℕ)) (style own : Style) (times : List Timed) → own ≡ style → times ≡ times_if timed trace → record { style = own; times = times } ≡ rendering_of style timed trace
rendered timed trace style own times same_style same_times = rw (same_style, same_times) refl
