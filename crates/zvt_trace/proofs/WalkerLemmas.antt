-- What a walker has read, and what it holds.
use Rattle.std.proofs.Common.{◌≡◌, inl, inr, ℕ, ◌+◌, ◌<◌, ◌≤◌, ◌⊎◌, Bool, true, false, List, [], ◌∷◌, ◌++◌, length, Result, Ok, Err, refl, sym, ◌∙◌, ap, subst, arith, append_assoc, append-nil, length-append}
use Rattle.std.specs.Str.Lines.{lines}
use Rattle.zvt_grammar.specs.Reading.{Reading}
use Rattle.zvt_trace.specs.Chunks.{AnswersFeed, AnswersRead, FeedFaults, HasNoEnd, HasRead, IsHeldFault, IsTooLong, IsWhole, ReadTo, WholeLinesEmit}
use Rattle.zvt_trace.specs.Emitting.{BrokenTrace, EventsSoFar, LineEnds, SideEnds}
use Rattle.zvt_trace.specs.Listening.{Fails, FaultsFrom, FollowBoth, FollowsUntil, HasWalked, Hears, HearsAll, WalksOn, most}
use Rattle.zvt_trace.specs.Trace.{Side, Sides, running, skipping, stopped}
use Rattle.zvt_trace.specs.TraceEvent.{At}
use Rattle.zvt_trace.specs.Written.{limit}
use Rattle.zvt_trace.specs.declared.chunks.Walker.{Walker}
use Rattle.zvt_trace.specs.declared.direction.Direction.{Direction}
use Rattle.zvt_trace.specs.declared.direction.Direction.TheVariants.{FromTill, FromTerminal}
use Rattle.zvt_trace.specs.declared.fault.TraceFault.{TraceFault}
use Rattle.zvt_trace.specs.declared.fault.TraceFault.TheVariants.{Memory, Read, TooLong, Trace, Write}
use Rattle.zvt_trace.specs.declared.listener.ListenerError.TheVariants as failure
use Rattle.zvt_trace.specs.declared.listener.Scope.{Scope}
use Rattle.zvt_trace.specs.declared.side.SideReader.{SideReader}
use Rattle.zvt_trace.specs.declared.walker.BothSides.{BothSides}
use Rattle.zvt_trace.specs.declared.walker.Progress.{Progress}
use Rattle.zvt_trace.proofs.ChunkLemmas.{lines_append, whole_append}
use Rattle.zvt_trace.proofs.EventLemmas.{fails_after, fails_here, hears_append, prefix_whole}

-- ---- what is cut off

until_ends : (r : Reading) (rejected : Bool) (line : ℕ) (from : Direction) (reader : SideReader) (side : Side) → FollowsUntil r rejected reader side → (events : List At) × SideEnds r line from side events
until_ends r true line from reader (running bytes) follows = absurd (cc follows)
until_ends r true line from reader (skipping size left) follows = absurd (cc follows)
until_ends r true line from reader stopped follows = ([], refl)
until_ends r false line from reader (running bytes) follows = (_, ((follows.0).1, reader.stream.held, (follows.0).2, refl))
until_ends r false line from reader (skipping size left) follows = ([], refl)
until_ends r false line from reader stopped follows = ([], refl)

ends_somehow : (r : Reading) (line : ℕ) (state : BothSides) (sides : Sides) → FollowBoth r state sides → (events : List At) × LineEnds r line sides events
ends_somehow r line state sides follow =
    let till = until_ends r state.rejected line FromTill state.till sides.till follow.till in
    let terminal = until_ends r state.rejected line FromTerminal state.terminal sides.terminal follow.terminal in
    (till.0 ++ terminal.0, record { till = till.0; terminal = terminal.0; till_ends = till.1; terminal_ends = terminal.1; is_all = refl })

-- the events of the lines before others
so_far_at : (r : Reading) (scope : Scope) (all done others : List (List ℕ)) (events : List At) (progress : Progress) → HasWalked r scope done events progress → all ≡ done ++ others → EventsSoFar r scope all events
so_far_at r scope all done [] events progress has cut =
    let last = ends_somehow r (length done) progress.sides has.sides has.follow in record {
      all = events ++ last.0;
      later = last.0;
      emit = record { done = done; later = []; before = events; next = last.0; after = has.sides; cut = cut; emit = has.emit; emits = last.1; is_all = refl };
      is_prefix = refl;
    }
so_far_at r scope all done (line ∷ others) events progress has cut =
    prefix_whole events (record { done = done; later = line ∷ others; before = events; next = []; after = has.sides; cut = cut; emit = has.emit; emits = inl refl; is_all = sym (append-nil events) })

-- ---- whole lines

-- all lines of the bytes: those before a text, its own, and others
cut_lines : (r : Reading) (scope : Scope) (bytes text rest : List ℕ) (earlier : List At) (old : Progress) → (to : ReadTo r scope bytes (text ++ rest) earlier old) → IsWhole text → lines bytes ≡ (lines to.done ++ lines text) ++ lines rest
cut_lines r scope bytes text rest earlier old to whole =
    ap lines to.cut ∙ lines_append to.done (text ++ rest) to.whole ∙ ap (λ (ls : List (List ℕ)). lines to.done ++ ls) (lines_append text rest whole) ∙ sym (append_assoc (lines to.done) (lines text) (lines rest))

-- the fault of a walk over lines that others follow
pub fault_fed : {S : Type 0} (r : Reading) (hears : Hears S) (fails : Fails S) (scope : Scope) (bytes : List ℕ) (earlier : List At) (old new : S) (fault : TraceFault) → FaultsFrom r hears fails scope (lines bytes) earlier old new fault → FeedFaults r hears fails scope bytes earlier old new fault
fault_fed r hears fails scope bytes earlier old new (Trace number what) fault = fault
fault_fed r hears fails scope bytes earlier old new Memory fault = fault
fault_fed r hears fails scope bytes earlier old new Write fault = fault
fault_fed r hears fails scope bytes earlier old new TooLong never = absurd never
fault_fed r hears fails scope bytes earlier old new Read never = absurd never

-- the lines could be read
pub lines_read : {S : Type 0} (r : Reading) (hears : Hears S) (fails : Fails S) (scope : Scope) (bytes text rest : List ℕ) (earlier : List At) (old progress : Progress) (x y : S)
    → (to : ReadTo r scope bytes (text ++ rest) earlier old) → IsWhole text → progress.size ≡ old.size + length text
    → WalksOn r hears fails scope (lines to.done ++ lines text) earlier progress x y (Ok tt) → AnswersRead r hears fails scope bytes rest earlier progress x y (Ok tt)
lines_read r hears fails scope bytes text rest earlier old progress x y to whole size walked = (
  walked.0,
  record {
    done = to.done ++ text;
    whole = whole_append to.done text to.whole whole;
    walked = subst (λ (ls : List (List ℕ)). HasWalked r scope ls (earlier ++ walked.0) progress) (sym (lines_append to.done text to.whole)) walked.1;
    size = omega (arith, size, to.size, length-append to.done text);
    cut = to.cut ∙ sym (append_assoc to.done text rest);
  },
  walked.2,
)

-- a line could not be read
pub lines_failed : {S : Type 0} (r : Reading) (hears : Hears S) (fails : Fails S) (scope : Scope) (bytes text rest : List ℕ) (earlier : List At) (old progress : Progress) (fault : TraceFault) (x y : S)
    → (to : ReadTo r scope bytes (text ++ rest) earlier old) → IsWhole text
    → WalksOn r hears fails scope (lines to.done ++ lines text) earlier progress x y (Err fault) → FeedFaults r hears fails scope bytes earlier x y fault
lines_failed r hears fails scope bytes text rest earlier old progress fault x y to whole failed =
    fault_fed r hears fails scope bytes earlier x y fault (subst (λ (ls : List (List ℕ)). FaultsFrom r hears fails scope ls earlier x y fault) (sym (cut_lines r scope bytes text rest earlier old to whole)) (failed (lines rest)))

-- ---- the line that has begun

-- the rest of the bytes is held
pub rest_held : (r : Reading) (scope : Scope) (bytes rest : List ℕ) (events : List At) (walker : Walker) → ReadTo r scope bytes rest events walker.progress → HasNoEnd rest → walker.begun.items ≡ rest → HasRead r scope bytes events walker
rest_held r scope bytes rest events walker to none is = record {
  to = subst (λ (t : List ℕ). ReadTo r scope bytes t events walker.progress) (sym is) to;
  unended = subst HasNoEnd (sym is) none;
}

-- more bytes come
pub more_come : (r : Reading) (scope : Scope) (bytes chunk : List ℕ) (events : List At) (walker : Walker) → HasRead r scope bytes events walker → ReadTo r scope (bytes ++ chunk) (walker.begun.items ++ chunk) events walker.progress
more_come r scope bytes chunk events walker has = record {
  done = has.to.done;
  whole = has.to.whole;
  walked = has.to.walked;
  size = has.to.size;
  cut = ap (λ (t : List ℕ). t ++ chunk) has.to.cut ∙ append_assoc has.to.done walker.begun.items chunk;
}

-- ---- what was read so far

-- the events so far are a prefix of what the trace emits
pub read_so_far : (r : Reading) (scope : Scope) (bytes rest : List ℕ) (events : List At) (progress : Progress) → ReadTo r scope bytes rest events progress → EventsSoFar r scope (lines bytes) events
read_so_far r scope bytes rest events progress to = so_far_at r scope (lines bytes) (lines to.done) _ events progress to.walked (ap lines to.cut ∙ lines_append to.done rest to.whole)

pub whole_lines : (r : Reading) (scope : Scope) (bytes : List ℕ) (events : List At) (walker : Walker) → HasRead r scope bytes events walker → WholeLinesEmit r scope bytes events
whole_lines r scope bytes events walker has =
    record { done = has.to.done; begun = walker.begun.items; sides = has.to.walked.sides; cut = has.to.cut; whole = has.to.whole; unended = has.unended; emit = has.to.walked.emit }

-- ---- a line that can't be held

pub too_long : (r : Reading) (scope : Scope) (bytes rest line later : List ℕ) (events : List At) (progress : Progress) → ReadTo r scope bytes rest events progress → rest ≡ line ++ later
    → (HasNoEnd line × (limit ≤ length line) × (0 < length later)) ⊎ (most < length bytes) → IsTooLong r scope bytes events
too_long r scope bytes rest line later events progress to cut long = record {
  done = to.done;
  line = line;
  later = later;
  sides = to.walked.sides;
  cut = to.cut ∙ ap (λ (t : List ℕ). to.done ++ t) cut;
  whole = to.whole;
  emit = to.walked.emit;
  so_far = read_so_far r scope bytes rest events progress to;
  long = long;
}

-- the events so far were heard, and the line could not be held
pub not_held : {S : Type 0} (r : Reading) (hears : Hears S) (fails : Fails S) (scope : Scope) (bytes rest line later held : List ℕ) (events : List At) (walker : Walker) (fault : TraceFault) (x : S)
    → ReadTo r scope bytes rest events walker.progress → IsHeldFault walker held fault → rest ≡ line ++ later → (limit < length walker.begun.items + length held → HasNoEnd line × (limit ≤ length line) × (0 < length later))
    → FeedFaults r hears fails scope bytes events x x fault
not_held {S = S} r hears fails scope bytes rest line later held events walker fault x to why cut long = subst (λ (f : TraceFault). FeedFaults r hears fails scope bytes events x x f) (sym (is why)) (by why)
  where
    kind : IsHeldFault walker held fault → TraceFault
    kind (inl memory) = Memory
    kind (inr many) = TooLong

    is : (why : IsHeldFault walker held fault) → fault ≡ kind why
    is (inl memory) = memory
    is (inr many) = many.0

    by : (why : IsHeldFault walker held fault) → FeedFaults r hears fails scope bytes events x x (kind why)
    by (inl memory) =
        let none = sym (append-nil events) in
        fails_here hears fails [] x x refl (subst (λ (es : List At). EventsSoFar r scope (lines bytes) es) none (read_so_far r scope bytes rest events walker.progress to))
    by (inr many) = ([], subst (λ (es : List At). IsTooLong r scope bytes es) (sym (append-nil events)) (too_long r scope bytes rest line later events walker.progress to cut (inl (long many.1))), refl)

-- ---- after what was heard before

pub fault_before : {S : Type 0} (r : Reading) (hears : Hears S) (fails : Fails S) (scope : Scope) (bytes : List ℕ) (earlier own : List At) (x y z : S) (fault : TraceFault) → HearsAll hears x own y
    → FeedFaults r hears fails scope bytes (earlier ++ own) y z fault → FeedFaults r hears fails scope bytes earlier x z fault
fault_before {S = S} r hears fails scope bytes earlier own x y z fault heard there = by fault there
  where
    so_far : (events : List At) → EventsSoFar r scope (lines bytes) ((earlier ++ own) ++ events) → EventsSoFar r scope (lines bytes) (earlier ++ (own ++ events))
    so_far events so = subst (λ (es : List At). EventsSoFar r scope (lines bytes) es) (append_assoc earlier own events) so

    by : (fault : TraceFault) → FeedFaults r hears fails scope bytes (earlier ++ own) y z fault → FeedFaults r hears fails scope bytes earlier x z fault
    by (Trace number what) (events, broken, later) = (own ++ events, subst (λ (es : List At). BrokenTrace r scope (lines bytes) number what es) (append_assoc earlier own events) broken, hears_append hears own events x y z heard later)
    by Memory failed = fails_after hears fails failure.Memory own x y z heard failed so_far
    by Write failed = fails_after hears fails failure.Write own x y z heard failed so_far
    by TooLong (events, long, later) = (own ++ events, subst (λ (es : List At). IsTooLong r scope bytes es) (append_assoc earlier own events) long, hears_append hears own events x y z heard later)
    by Read never = absurd never

pub fed_before : {S : Type 0} (r : Reading) (hears : Hears S) (fails : Fails S) (scope : Scope) (bytes : List ℕ) (earlier own : List At) (walker : Walker) (x y z : S) (answer : Result Unit TraceFault) → HearsAll hears x own y
    → AnswersFeed r hears fails scope bytes (earlier ++ own) walker y z answer → AnswersFeed r hears fails scope bytes earlier walker x z answer
fed_before r hears fails scope bytes earlier own walker x y z (Ok fed) heard (events, has, later) =
    (own ++ events, subst (λ (es : List At). HasRead r scope bytes es walker) (append_assoc earlier own events) has, hears_append hears own events x y z heard later)
fed_before r hears fails scope bytes earlier own walker x y z (Err fault) heard there = fault_before r hears fails scope bytes earlier own x y z fault heard there
