-- What the lines of a trace emit, one after another.
use Rattle.std.proofs.Common.{◌≡◌, take, inl, inr, ℕ, ◌+◌, ◌*◌, ◌≤◌, List, [], ◌∷◌, ◌++◌, Result, Ok, Err, length, refl, sym, ◌∙◌, ap, subst, arith, append_assoc, append-nil, length-append}
use Rattle.std.proofs.lemmas.List.{length-take-le}
use Rattle.std.specs.Str.Lines.{lines}
use Rattle.zvt_grammar.specs.Lengths.{reading_of}
use Rattle.zvt_grammar.specs.Reading.{Reading}
use Rattle.zvt_grammar.specs.declared.lengths.Lengths.{Lengths}
use Rattle.zvt_trace.specs.Listening.{AnswersFrom, AnswersWalk, Fails, FailsIn, FaultsFrom, FollowBoth, HasWalked, Hears, HearsAll, HearsEnd, HearsLine, WalksFirst, WalksLine, WalksOn, counted_in, fault_of, reading_by, scope_of}
use Rattle.zvt_trace.specs.Meanings.{Begins, Meaning, bytes_of, meaning_of, piece}
use Rattle.zvt_trace.specs.TraceEvent.{At, Tallies}
use Rattle.zvt_trace.specs.Emitting.{BrokenTrace, PrefixOf, WholeTrace, LineEnds, LineSoFar, LineEmits, LinesEmit, MeaningBegins, EventsSoFar}
use Rattle.zvt_trace.specs.Trace.{Sides, new_line}
use Rattle.zvt_trace.specs.declared.walker.BothSides.{BothSides}
use Rattle.zvt_trace.specs.declared.walker.Progress.{Progress}
use Rattle.zvt_trace.specs.declared.emit.WalkOptions.{WalkOptions}
use Rattle.zvt_trace.specs.declared.fault.Tally.{Tally}
use Rattle.zvt_trace.specs.declared.fault.TraceFault.{TraceFault}
use Rattle.zvt_trace.specs.declared.fault.TraceFault.TheVariants.{Memory, Read, TooLong, Trace, Write}
use Rattle.zvt_trace.specs.declared.listener.ListenerError.{ListenerError}
use Rattle.zvt_trace.specs.declared.listener.ListenerError.TheVariants as failure
use Rattle.zvt_trace.specs.declared.listener.Scope.{Scope}
use Rattle.zvt_trace.specs.declared.direction.Direction.{Direction}
use Rattle.zvt_trace.proofs.SpelledLemmas.{no_bytes_of}
use Rattle.zvt_trace.proofs.EventLemmas.{fails_as, fails_after, prefix_after, prefix_whole, hears_append, messages_append, bad_append}

LinesEmit-push : (r : Reading) (scope : Scope) (count : ℕ) (start middle after : Sides) (done : List (List ℕ)) (line : List ℕ) (all own : List At) (meaning : Meaning)
    → LinesEmit r scope count start done all middle → meaning_of line ≡ Ok meaning → LineEmits r scope (count + length done + 1) meaning middle own after → LinesEmit r scope count start (done ++ line ∷ []) (all ++ own) after
LinesEmit-push r scope count start middle after [] line all own meaning trace_event means emits =
    let first : count + 0 + 1 ≡ count + 1 = omega arith in
    let here = subst (λ (s : Sides). LineEmits r scope (count + 0 + 1) meaning s own after) trace_event.1 emits in record {
      meaning = meaning;
      own = own;
      rest = [];
      middle = after;
      means = means;
      emits = subst (λ (n : ℕ). LineEmits r scope n meaning start own after) first here;
      others = (refl, refl);
      is_all = ap (λ (a : List At). a ++ own) trace_event.0 ∙ sym (append-nil own);
    }
LinesEmit-push r scope count start middle after (first ∷ done) line all own meaning trace_event means emits =
    let next : count + length (first ∷ done) + 1 ≡ count + 1 + length done + 1 = omega arith in record {
      meaning = trace_event.meaning;
      own = trace_event.own;
      rest = trace_event.rest ++ own;
      middle = trace_event.middle;
      means = trace_event.means;
      emits = trace_event.emits;
      others = LinesEmit-push r scope (count + 1) trace_event.middle middle after done line trace_event.rest own meaning trace_event.others means (subst (λ (n : ℕ). LineEmits r scope n meaning middle own after) next emits);
      is_all = ap (λ (a : List At). a ++ own) trace_event.is_all ∙ append_assoc trace_event.own trace_event.rest own;
    }

-- ---- the lines so far

-- of all lines those before the rest were read, and after the earlier events what they emit was heard
pub record Walked {S : Type 0} (r : Reading) (hears : Hears S) (scope : Scope) (goal : List (List ℕ)) (earlier : List At) (whole : ℕ) (rest : List ℕ) (number : ℕ) (state : BothSides) (old now : S) : Type 0 where
  pub done : List (List ℕ)
  pub all : List At
  pub sides : Sides
  pub cut : goal ≡ done ++ lines rest
  pub trace_event : LinesEmit r scope 0 new_line done (earlier ++ all) sides
  pub count : number ≡ length done
  pub heard : HearsAll hears old all now
  pub follow : FollowBoth r state sides
  pub few : counted_in (earlier ++ all) + length rest ≤ 2 * number + whole

pub none_read : {r : Reading} (scope : Scope) (progress : Progress) → FollowBoth r progress.sides new_line → progress.tally.messages ≡ 0 → progress.tally.bad ≡ 0 → progress.number ≡ 0 → HasWalked r scope [] [] progress
none_read scope progress follow messages bad number = record {
  sides = new_line;
  emit = (refl, refl);
  count = number;
  follow = follow;
  counts = record { messages = messages; bad = bad };
  few = omega arith;
}

pub none_walked : {S : Type 0} {r : Reading} (hears : Hears S) (scope : Scope) (before : List (List ℕ)) (earlier : List At) (text : List ℕ) (progress : Progress) (old : S) → HasWalked r scope before earlier progress → Walked r hears scope (before ++ lines text) earlier (progress.size + length text) text progress.number progress.sides old old
none_walked {r = r} hears scope before earlier text progress old has = record {
  done = before;
  all = [];
  sides = has.sides;
  cut = refl;
  trace_event = subst (λ (es : List At). LinesEmit r scope 0 new_line before es has.sides) (sym (append-nil earlier)) has.emit;
  count = has.count;
  heard = refl;
  follow = has.follow;
  few = omega (arith, has.few, ap counted_in (append-nil earlier));
}

pub one_walked : {S : Type 0} {r : Reading} (hears : Hears S) (fails : Fails S) (scope : Scope) (goal : List (List ℕ)) (earlier : List At) (whole : ℕ) (rest content after : List ℕ) (number : ℕ) (state next : BothSides) (old now new : S)
    → (so : Walked r hears scope goal earlier whole rest number state old now) → lines rest ≡ content ∷ lines after → length content + length after ≤ length rest
    → WalksLine r hears fails scope (number + 1) content so.sides next now new (Ok tt) → Walked r hears scope goal earlier whole after (number + 1) next old new
one_walked {r = r} hears fails scope goal earlier whole rest content after number state next old now new so first fits walks =
    let line = walks.3 in
    let here : number + 1 ≡ 0 + length so.done + 1 = omega (arith, so.count) in
    let joined = append_assoc earlier so.all line.events in
    let emits = LinesEmit-push r scope 0 new_line so.sides line.after so.done content (earlier ++ so.all) line.events walks.0 so.trace_event walks.1 (subst (λ (n : ℕ). LineEmits r scope n walks.0 so.sides line.events line.after) here line.emits) in record {
      done = so.done ++ content ∷ [];
      all = so.all ++ line.events;
      sides = line.after;
      cut = so.cut ∙ ap (λ (ls : List (List ℕ)). so.done ++ ls) first ∙ sym (append_assoc so.done (content ∷ []) (lines after));
      trace_event = subst (λ (es : List At). LinesEmit r scope 0 new_line (so.done ++ content ∷ []) es line.after) joined emits;
      count = omega (arith, so.count, length-append so.done (content ∷ []));
      heard = hears_append hears so.all line.events old now new so.heard line.heard;
      follow = line.follow;
      few = omega (arith, so.few, line.few, walks.2, fits, ap counted_in joined, messages_append (earlier ++ so.all) line.events, bad_append (earlier ++ so.all) line.events);
    }

-- no line is left
pub all_walked : {S T : Type 0} {r : Reading} (hears : Hears S) (scope : Scope) (goal : List (List ℕ)) (earlier : List At) (whole : ℕ) (rest : List ℕ) (progress : Progress) (number : ℕ) (state : BothSides) (old now : S) (own : Hears T) (x y : T) → length rest ≡ 0
    → (so : Walked r hears scope goal earlier whole rest number state old now) → progress.number ≡ number → progress.sides ≡ state → progress.size ≡ whole
    → ((all : List At) → HearsAll hears old all now → counted_in (earlier ++ all) ≤ 2 * number + whole → Tallies progress.tally (earlier ++ all) × HearsAll own x all y) → (fails : Fails T) → WalksOn r own fails scope goal earlier progress x y (Ok tt)
all_walked hears scope goal earlier whole (byte ∷ rest) progress number state old now own x y none so is_number is_state is_whole heard fails = absurd (omega (arith, none))
all_walked {r = r} hears scope goal earlier whole [] progress number state old now own x y none so is_number is_state is_whole heard fails =
    let all : goal ≡ so.done = so.cut ∙ append-nil so.done in
    let last = heard so.all so.heard (omega (arith, so.few)) in (
      so.all,
      record {
        sides = so.sides;
        emit = subst (λ (ls : List (List ℕ)). LinesEmit r scope 0 new_line ls (earlier ++ so.all) so.sides) (sym all) so.trace_event;
        count = is_number ∙ so.count ∙ ap (λ (ls : List (List ℕ)). length ls) (sym all);
        follow = subst (λ (s : BothSides). FollowBoth r s so.sides) (sym is_state) so.follow;
        counts = last.0;
        few = omega (arith, so.few, is_number, is_whole);
      },
      last.1,
    )

-- so much of the next line
next_reaches : {S : Type 0} {r : Reading} (hears : Hears S) (scope : Scope) (goal others : List (List ℕ)) (earlier : List At) (whole : ℕ) (rest content after : List ℕ) (number : ℕ) (state : BothSides) (old now : S) (events : List At)
    → (so : Walked r hears scope goal earlier whole rest number state old now) → goal ++ others ≡ so.done ++ content ∷ (lines after ++ others) → LineSoFar r scope (number + 1) content so.sides events → EventsSoFar r scope (goal ++ others) ((earlier ++ so.all) ++ events)
next_reaches hears scope goal others earlier whole rest content after number state old now events so cut (inl none) =
    prefix_whole ((earlier ++ so.all) ++ events) (record {
      done = so.done;
      later = content ∷ (lines after ++ others);
      before = earlier ++ so.all;
      next = events;
      after = so.sides;
      cut = cut;
      emit = so.trace_event;
      emits = inl none;
      is_all = refl;
    })
next_reaches {r = r} hears scope goal others earlier whole rest content after number state old now events so cut (inr (meaning, means, so_far)) =
    prefix_after (earlier ++ so.all) events so_far.emits (λ all emits. record {
      done = so.done;
      later = content ∷ (lines after ++ others);
      before = earlier ++ so.all;
      next = all;
      after = so.sides;
      cut = cut;
      emit = so.trace_event;
      emits = inr (meaning, so_far.prefix, so_far.after, means, so_far.begins, subst (λ (n : ℕ). LineEmits r scope (n + 1) so_far.prefix so.sides all so_far.after) so.count emits);
      is_all = refl;
    })

next_so_far : {S : Type 0} {r : Reading} (hears : Hears S) (fails : Fails S) (why : ListenerError) (scope : Scope) (goal others : List (List ℕ)) (earlier : List At) (whole : ℕ) (rest content after : List ℕ) (number : ℕ) (state : BothSides) (old now new : S)
    → (so : Walked r hears scope goal earlier whole rest number state old now) → goal ++ others ≡ so.done ++ content ∷ (lines after ++ others) → FailsIn hears fails why (LineSoFar r scope (number + 1) content so.sides) now new
    → FailsIn hears fails why (λ events. EventsSoFar r scope (goal ++ others) (earlier ++ events)) old new
next_so_far {r = r} hears fails why scope goal others earlier whole rest content after number state old now new so cut failed =
    fails_after hears fails why so.all old now new so.heard failed (λ events next.
    subst (λ (es : List At). EventsSoFar r scope (goal ++ others) es) (append_assoc earlier so.all events) (next_reaches hears scope goal others earlier whole rest content after number state old now events so cut next))

-- the next line could not be emitted, whatever others follow
pub failed : {S : Type 0} {r : Reading} (hears : Hears S) (fails : Fails S) (scope : Scope) (goal : List (List ℕ)) (earlier : List At) (whole : ℕ) (rest content after : List ℕ) (number : ℕ) (state next : BothSides) (fault : TraceFault) (old now new : S)
    → (so : Walked r hears scope goal earlier whole rest number state old now) → lines rest ≡ content ∷ lines after → WalksLine r hears fails scope (number + 1) content so.sides next now new (Err fault)
    → (others : List (List ℕ)) → FaultsFrom r hears fails scope (goal ++ others) earlier old new fault
failed {S = S} {r = r} hears fails scope goal earlier whole rest content after number state next fault old now new so first wrong others = by fault wrong
  where
    cut : goal ++ others ≡ so.done ++ content ∷ (lines after ++ others)
    cut = ap (λ (ls : List (List ℕ)). ls ++ others) (so.cut ∙ ap (λ (ls : List (List ℕ)). so.done ++ ls) first) ∙ append_assoc so.done (content ∷ lines after) others

    by : (fault : TraceFault) → WalksLine r hears fails scope (number + 1) content so.sides next now new (Err fault) → FaultsFrom r hears fails scope (goal ++ others) earlier old new fault
    by (Trace line what) wrong = (
      so.all,
      record {
        done = so.done;
        line = content;
        later = lines after ++ others;
        after = so.sides;
        cut = cut;
        emit = so.trace_event;
        wrong = wrong.1;
        is_number = wrong.0 ∙ ap (λ n. n + 1) so.count;
      },
      subst (λ (s : S). HearsAll hears old so.all s) (sym wrong.2) so.heard,
    )
    by Memory fault = next_so_far hears fails failure.Memory scope goal others earlier whole rest content after number state old now new so cut fault
    by Write fault = next_so_far hears fails failure.Write scope goal others earlier whole rest content after number state old now new so cut fault
    by TooLong never = absurd never
    by Read never = absurd never

-- ---- the end

-- what is cut off was heard
pub closed : {S T : Type 0} {r : Reading} (hears : Hears S) (scope : Scope) (before : List (List ℕ)) (earlier : List At) (progress : Progress) (tally : Tally) (now new : S) (own : Hears T) (x y : T)
    → (has : HasWalked r scope before earlier progress) → HearsEnd hears (LineEnds r progress.number has.sides) 2 now new
    → ((all : List At) → HearsAll hears now all new → counted_in (earlier ++ all) ≤ 2 * progress.number + progress.size + 2 → Tallies tally (earlier ++ all) × HearsAll own x all y) → (fails : Fails T) → AnswersFrom r own fails scope before earlier x y (Ok tally)
closed {r = r} hears scope before earlier progress tally now new own x y has last heard fails =
    let all = heard last.events last.heard (omega (arith, has.few, last.few, messages_append earlier last.events, bad_append earlier last.events)) in (
      last.events,
      record {
        body = earlier;
        after = has.sides;
        last = last.events;
        emit = has.emit;
        ends = subst (λ (n : ℕ). LineEnds r n has.sides last.events) has.count last.ends;
        is_all = refl;
      },
      all.1,
      all.0,
    )

-- so much of the end
end_so_far : {S : Type 0} {r : Reading} (hears : Hears S) (fails : Fails S) (why : ListenerError) (scope : Scope) (before : List (List ℕ)) (earlier : List At) (progress : Progress) (now new : S)
    → (has : HasWalked r scope before earlier progress) → FailsIn hears fails why (PrefixOf (LineEnds r progress.number has.sides)) now new → FailsIn hears fails why (λ events. EventsSoFar r scope before (earlier ++ events)) now new
end_so_far {r = r} hears fails why scope before earlier progress now new has fails_there =
    fails_as hears fails why now new fails_there (λ events prefix. prefix_after earlier events prefix (λ all ended. record {
      done = before;
      later = [];
      before = earlier;
      next = all;
      after = has.sides;
      cut = sym (append-nil before);
      emit = has.emit;
      emits = subst (λ (n : ℕ). LineEnds r n has.sides all) has.count ended;
      is_all = refl;
    }))

-- what is cut off could not be emitted
pub end_failed : {S : Type 0} {r : Reading} (hears : Hears S) (fails : Fails S) (why : ListenerError) (scope : Scope) (before : List (List ℕ)) (earlier : List At) (progress : Progress) (now new : S)
    → (has : HasWalked r scope before earlier progress) → FailsIn hears fails why (PrefixOf (LineEnds r progress.number has.sides)) now new → AnswersFrom r hears fails scope before earlier now new (Err (fault_of why))
end_failed hears fails failure.Memory scope before earlier progress now new has fault = end_so_far hears fails failure.Memory scope before earlier progress now new has fault
end_failed hears fails failure.Write scope before earlier progress now new has fault = end_so_far hears fails failure.Write scope before earlier progress now new has fault

-- ---- what was heard before

-- the answer, from before some events
pub from_before : {S : Type 0} (r : Reading) (hears : Hears S) (fails : Fails S) (scope : Scope) (lines : List (List ℕ)) (earlier own : List At) (answer : Result Tally TraceFault) (old middle new : S) → HearsAll hears old own middle
    → AnswersFrom r hears fails scope lines (earlier ++ own) middle new answer → AnswersFrom r hears fails scope lines earlier old new answer
from_before {S = S} r hears fails scope lines earlier own answer old middle new heard there = by answer there
  where
    joined : (events : List At) → (earlier ++ own) ++ events ≡ earlier ++ (own ++ events)
    joined events = append_assoc earlier own events

    so_far : (events : List At) → EventsSoFar r scope lines ((earlier ++ own) ++ events) → EventsSoFar r scope lines (earlier ++ (own ++ events))
    so_far events so = subst (λ (es : List At). EventsSoFar r scope lines es) (joined events) so

    by : (answer : Result Tally TraceFault) → AnswersFrom r hears fails scope lines (earlier ++ own) middle new answer → AnswersFrom r hears fails scope lines earlier old new answer
    by (Ok tally) done = (
      own ++ done.0,
      subst (λ (es : List At). WholeTrace r scope lines es) (joined done.0) done.1,
      hears_append hears own done.0 old middle new heard done.2,
      subst (λ (es : List At). Tallies tally es) (joined done.0) done.3,
    )
    by (Err (Trace number what)) broken = (
      own ++ broken.0,
      subst (λ (es : List At). BrokenTrace r scope lines number what es) (joined broken.0) broken.1,
      hears_append hears own broken.0 old middle new heard broken.2,
    )
    by (Err Memory) failed = fails_after hears fails failure.Memory own old middle new heard failed so_far
    by (Err Write) failed = fails_after hears fails failure.Write own old middle new heard failed so_far
    by (Err TooLong) never = absurd never
    by (Err Read) never = absurd never

-- a walk from the beginning
pub whole_walk : {S : Type 0} (r : Reading) (hears : Hears S) (fails : Fails S) (scope : Scope) (lines : List (List ℕ)) (answer : Result Tally TraceFault) (old new : S) → AnswersFrom r hears fails scope lines [] old new answer → AnswersWalk r hears fails scope lines old new answer
whole_walk r hears fails scope lines (Ok tally) old new there = there
whole_walk r hears fails scope lines (Err (Trace number what)) old new there = there
whole_walk r hears fails scope lines (Err Memory) old new there = there
whole_walk r hears fails scope lines (Err Write) old new there = there
whole_walk r hears fails scope lines (Err TooLong) old new there = there
whole_walk r hears fails scope lines (Err Read) old new there = there

-- what holds at some options holds at equal ones
pub at_options : (P : Lengths → Scope → Type 0) (a b : Lengths) (s t : Scope) → a ≡ b → s ≡ t → P a s → P b t
at_options P a b s t same_lengths same_scope p = subst (λ (x : Scope). P b x) same_scope (subst (λ (l : Lengths). P l s) same_lengths p)

-- a walk of which a line failed
pub walk_failed : {S : Type 0} (hears : Hears S) (fails : Fails S) (lengths : Lengths) (scope : Scope) (start next : Progress) (text : List ℕ) (fault : TraceFault) (old new : S) → start.options.lengths ≡ lengths → start.options.scope ≡ scope
    → HasWalked (reading_of lengths) scope [] [] start
    → ((before : List (List ℕ)) (earlier : List At) → HasWalked (reading_by start) (scope_of start) before earlier start → WalksOn (reading_by start) hears fails (scope_of start) (before ++ lines text) earlier next old new (Err fault))
    → AnswersWalk (reading_of lengths) hears fails scope (lines text) old new (Err fault)
walk_failed hears fails lengths scope start next text fault old new same_lengths same_scope has walks =
    at_options (λ l s. HasWalked (reading_of l) s [] [] start → AnswersWalk (reading_of l) hears fails s (lines text) old new (Err fault)) start.options.lengths lengths start.options.scope scope same_lengths same_scope
    (λ has. whole_walk _ hears fails _ (lines text) (Err fault) old new (subst (λ (ls : List (List ℕ)). FaultsFrom (reading_by start) hears fails (scope_of start) ls [] old new fault) (append-nil (lines text)) (walks [] [] has []))) has

-- a walk that came to the end of the trace
pub walk_ended : {S : Type 0} (hears : Hears S) (fails : Fails S) (lengths : Lengths) (scope : Scope) (start next : Progress) (text : List ℕ) (answer : Result Tally TraceFault) (old middle new : S) → start.options.lengths ≡ lengths → start.options.scope ≡ scope
    → next.options ≡ start.options → HasWalked (reading_of lengths) scope [] [] start
    → ((before : List (List ℕ)) (earlier : List At) → HasWalked (reading_by start) (scope_of start) before earlier start → WalksOn (reading_by start) hears fails (scope_of start) (before ++ lines text) earlier next old middle (Ok tt))
    → ((before : List (List ℕ)) (earlier : List At) → HasWalked (reading_by next) (scope_of next) before earlier next → AnswersFrom (reading_by next) hears fails (scope_of next) before earlier middle new answer)
    → AnswersWalk (reading_of lengths) hears fails scope (lines text) old new answer
walk_ended hears fails lengths scope start next text answer old middle new same_lengths same_scope same has walks ends =
    at_options (λ l s. HasWalked (reading_of l) s [] [] start → AnswersWalk (reading_of l) hears fails s (lines text) old new answer) start.options.lengths lengths start.options.scope scope same_lengths same_scope
    (λ has.
    let walked = walks [] [] has in
    let last = at_options (λ l s. HasWalked (reading_of l) s (lines text) walked.0 next → AnswersFrom (reading_of l) hears fails s (lines text) walked.0 middle new answer) next.options.lengths start.options.lengths next.options.scope start.options.scope
    (ap (λ (o : WalkOptions). o.lengths) same) (ap (λ (o : WalkOptions). o.scope) same) (ends (lines text) walked.0) walked.1 in
    whole_walk _ hears fails _ (lines text) answer old new (from_before _ hears fails _ (lines text) [] walked.0 answer old middle new walked.2 last)) has

-- the line could be read, and not be emitted
pub line_failed : {S : Type 0} {r : Reading} (hears : Hears S) (fails : Fails S) (why : ListenerError) (scope : Scope) (number : ℕ) (line : List ℕ) (meaning : Meaning) (sides : Sides) (state : BothSides) (old new : S) → meaning_of line ≡ Ok meaning
    → FailsIn hears fails why (MeaningBegins r scope number meaning sides) old new → WalksLine r hears fails scope number line sides state old new (Err (fault_of why))
line_failed hears fails failure.Memory scope number line meaning sides state old new means fault = fails_as hears fails failure.Memory old new fault (λ events so. inr (meaning, means, so))
line_failed hears fails failure.Write scope number line meaning sides state old new means fault = fails_as hears fails failure.Write old new fault (λ events so. inr (meaning, means, so))

-- ---- the first line of a text

-- a line in the plain form could be read, and not be emitted
pub plain_failed : {S A : Type 0} (text_of : A → List ℕ) {r : Reading} (hears : Hears S) (fails : Fails S) (why : ListenerError) (scope : Scope) (number : ℕ) (rest after buffer : List ℕ) (count : ℕ) (from : Direction) (sides : Sides) (state : BothSides) (old new : S)
    → Begins rest (λ line. (meaning_of line ≡ Ok (piece from (take count buffer))) × (count ≤ length line)) after
    → FailsIn hears fails why (MeaningBegins r scope number (piece from (take count buffer ++ bytes_of [])) sides) old new → WalksFirst text_of r hears fails scope number rest sides state old new (Err (fault_of why))
plain_failed text_of {r = r} hears fails why scope number rest after buffer count from sides state old new (line, first, says, size, shorter) wrong =
    let bytes = take count buffer in
    let all : bytes ++ bytes_of [] ≡ bytes = ap (λ (b : List ℕ). bytes ++ b) no_bytes_of ∙ append-nil bytes in
    (after, (line, first, line_failed hears fails why scope number line (piece from bytes) sides state old new says.0 (subst (λ (b : List ℕ). FailsIn hears fails why (MeaningBegins r scope number (piece from b) sides) old new) all wrong), size, shorter))

-- and it was emitted
pub plain_walked : {S A : Type 0} (text_of : A → List ℕ) {r : Reading} (hears : Hears S) (fails : Fails S) (scope : Scope) (number : ℕ) (rest : List ℕ) (after : A) (buffer : List ℕ) (count : ℕ) (from : Direction) (sides : Sides) (state : BothSides) (old new : S) → count ≤ length buffer
    → Begins rest (λ line. (meaning_of line ≡ Ok (piece from (take count buffer))) × (count ≤ length line)) (text_of after)
    → HearsLine r hears scope number (piece from (take count buffer ++ bytes_of [])) sides state old new → WalksFirst text_of r hears fails scope number rest sides state old new (Ok after)
plain_walked text_of {r = r} hears fails scope number rest after buffer count from sides state old new few (line, first, says, size, shorter) heard =
    let bytes = take count buffer in
    let all : bytes ++ bytes_of [] ≡ bytes = ap (λ (b : List ℕ). bytes ++ b) no_bytes_of ∙ append-nil bytes in
    (line, first, (piece from bytes, says.0, omega (arith, says.1, length-take-le count buffer few), subst (λ (b : List ℕ). HearsLine r hears scope number (piece from b) sides state old new) all heard), size, shorter)
