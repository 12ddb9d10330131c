-- The events that a listener hears, and its state after them.
use Rattle.std.specs.Prelude.{◌≡◌, ◌≤◌, ◌*◌, ◌+◌, ◌^◌, ◌⊎◌, ℕ, Bool, true, false, List, [], ◌∷◌, ◌++◌, length, Result, Ok, Err}
use Rattle.zvt_grammar.specs.Reading.{Reading}
use Rattle.zvt_grammar.specs.Lengths.{reading_of}
use Rattle.zvt_trace.specs.Meanings.{Begins, Meaning, meaning_of, size_of}
use Rattle.zvt_trace.specs.TraceEvent.{At, Tallies, bad_in, messages_in}
use Rattle.zvt_trace.specs.Emitting.{BrokenTrace, PrefixOf, LineSoFar, LineEmits, LinesEmit, MeaningBegins, Passes, PieceEmits, EmitsBeside, EventsSoFar, WholeTrace}
use Rattle.zvt_trace.specs.Resuming.{side_skipping, skipping_events}
use Rattle.zvt_trace.specs.Trace.{Side, Sides, new_line, running, skipping, stopped}
use Rattle.zvt_trace.specs.Written.{Follows, ReadsBy}
use Rattle.zvt_trace.specs.declared.walker.BothSides.{BothSides}
use Rattle.zvt_trace.specs.declared.walker.Progress.{Progress}
use Rattle.zvt_trace.specs.declared.direction.Direction.{Direction}
use Rattle.zvt_trace.specs.declared.fault.Tally.{Tally}
use Rattle.zvt_trace.specs.declared.fault.TraceFault.{TraceFault}
use Rattle.zvt_trace.specs.declared.fault.TraceFault.TheVariants.{Memory, Read, TooLong, Trace, Write}
use Rattle.zvt_trace.specs.declared.listener.ListenerError.{ListenerError}
use Rattle.zvt_trace.specs.declared.listener.ListenerError.TheVariants as failure
use Rattle.zvt_trace.specs.declared.listener.Scope.{Scope}
use Rattle.zvt_trace.specs.declared.feed.Next.{Next}
use Rattle.zvt_trace.specs.declared.side.SideReader.{SideReader}

-- ---- events, one after another

-- the listener after one event, and after a failure at it
abbrev pub Hears : Type 0 → Type 1
Hears S = S → At → S → Type 0

abbrev pub Fails : Type 0 → Type 1
Fails S = S → At → ListenerError → S → Type 0

abbrev pub HearsAll : {S : Type 0} → Hears S → S → List At → S → Type 0
HearsAll hears old [] new = new ≡ old
HearsAll {S = S} hears old (event ∷ events) new = (middle : S) × hears old event middle × HearsAll hears middle events new

-- an allocation of the walk failed, and the listener does not change; or it failed at the next event
abbrev pub Stops : {S : Type 0} → Fails S → ListenerError → (So : List At → Type 0) → List At → S → S → Type 0
Stops fails why So events middle new = ((why ≡ failure.Memory) × So events × (new ≡ middle)) ⊎ ((event : At) × So (events ++ event ∷ []) × fails middle event why new)

-- these events were heard, and then it failed
pub record FailsIn {S : Type 0} (hears : Hears S) (fails : Fails S) (why : ListenerError) (So : List At → Type 0) (old new : S) : Type 0 where
  pub events : List At
  pub middle : S
  pub heard : HearsAll hears old events middle
  pub stops : Stops fails why So events middle new

-- ---- one side

abbrev pub is_stopped : Side → Bool
is_stopped (running bytes) = false
is_stopped (skipping size left) = false
is_stopped stopped = true

abbrev pub has_some : List At → Bool
has_some [] = false
has_some (event ∷ events) = true

-- the number of events that a tally counts
abbrev pub counted_in : List At → ℕ
counted_in events = messages_in events + bad_in events

-- the events of these bytes were heard, and the reader is after them
pub record HearsBytes {S : Type 0} (r : Reading) (hears : Hears S) (scope : Scope) (line : ℕ) (from : Direction) (side : Side) (bytes : List ℕ) (reader : SideReader) (any : Bool) (old new : S) : Type 0 where
  pub events : List At
  pub after : Side
  pub passes : Passes r scope line from side bytes events after
  pub heard : HearsAll hears old events new
  pub follows : Follows r reader after
  pub few : counted_in events ≤ length bytes
  pub some : any ≡ has_some events

-- a prefix of the events of a prefix of the bytes
pub record BytesBegin (r : Reading) (scope : Scope) (line : ℕ) (from : Direction) (side : Side) (bytes : List ℕ) (events : List At) : Type 0 where
  pub first : List ℕ
  pub more : List ℕ
  pub after : Side
  pub cut : bytes ≡ first ++ more
  pub emits : PrefixOf (λ all. Passes r scope line from side first all after) events

abbrev pub EmitsBytes : {S : Type 0} → Reading → Hears S → Fails S → Scope → ℕ → Direction → Side → List ℕ → SideReader → (old new : S) → Result Bool ListenerError → Type 0
EmitsBytes r hears fails scope line from side bytes reader old new (Ok any) = HearsBytes r hears scope line from side bytes reader any old new
EmitsBytes r hears fails scope line from side bytes reader old new (Err why) = FailsIn hears fails why (BytesBegin r scope line from side bytes) old new

-- the events of the first of these bytes were heard, and the rest is left
pub record HearsFirst {S : Type 0} (r : Reading) (hears : Hears S) (scope : Scope) (line : ℕ) (from : Direction) (side : Side) (bytes rest : List ℕ) (reader : SideReader) (any : Bool) (old new : S) : Type 0 where
  pub first : List ℕ
  pub cut : bytes ≡ first ++ rest
  pub heard : HearsBytes r hears scope line from side first reader any old new

abbrev pub EmitsFirst : {S : Type 0} → Reading → Hears S → Fails S → Scope → ℕ → Direction → Side → List ℕ → SideReader → (old new : S) → Result Next ListenerError → Type 0
EmitsFirst r hears fails scope line from side bytes reader old new (Ok next) = HearsFirst r hears scope line from side bytes next.rest.now reader next.any old new
EmitsFirst r hears fails scope line from side bytes reader old new (Err why) = FailsIn hears fails why (BytesBegin r scope line from side bytes) old new

-- This many bytes of a refused message are left. If none is, the event that reading resumes was heard.
abbrev pub EmitsRest : {S : Type 0} → Reading → Hears S → Fails S → ℕ → Direction → (size left : ℕ) → SideReader → (old new : S) → Result Bool ListenerError → Type 0
EmitsRest r hears fails line from size left reader old new (Ok any) =
    HearsAll hears old (skipping_events line from size left) new × Follows r reader (side_skipping size left) × (any ≡ has_some (skipping_events line from size left))
EmitsRest r hears fails line from size left reader old new (Err why) = FailsIn hears fails why (PrefixOf (λ all. all ≡ skipping_events line from size left)) old new

-- the side is not read any more
abbrev pub StaysSilent : {S : Type 0} → Hears S → (reader next : SideReader) → (old new : S) → Result Bool ListenerError → Type 0
StaysSilent hears reader next old new result = (result ≡ Ok false) × (next ≡ reader) × (new ≡ old)

-- the events of a piece were heard, and the reader is after it
pub record HearsPiece {S : Type 0} (r : Reading) (hears : Hears S) (scope : Scope) (line : ℕ) (from : Direction) (side : Side) (bytes : List ℕ) (reader : SideReader) (old new : S) : Type 0 where
  pub events : List At
  pub after : Side
  pub emits : PieceEmits r scope line from side bytes events after
  pub heard : HearsAll hears old events new
  pub follows : Follows r reader after
  pub few : counted_in events ≤ length bytes

-- a prefix of the events of a prefix of the piece
pub record PieceBegins (r : Reading) (scope : Scope) (line : ℕ) (from : Direction) (side : Side) (bytes : List ℕ) (events : List At) : Type 0 where
  pub first : List ℕ
  pub more : List ℕ
  pub after : Side
  pub cut : bytes ≡ first ++ more
  pub emits : PrefixOf (λ all. PieceEmits r scope line from side first all after) events

abbrev pub EmitsPiece : {S : Type 0} → Reading → Hears S → Fails S → Scope → ℕ → Direction → Side → List ℕ → SideReader → (old new : S) → Result Unit ListenerError → Type 0
EmitsPiece r hears fails scope line from side bytes reader old new (Ok done) = HearsPiece r hears scope line from side bytes reader old new
EmitsPiece r hears fails scope line from side bytes reader old new (Err why) = FailsIn hears fails why (PieceBegins r scope line from side bytes) old new

-- the messages that are cut off were heard, at most this many
pub record HearsEnd {S : Type 0} (hears : Hears S) (Ends : List At → Type 0) (most : ℕ) (old new : S) : Type 0 where
  pub events : List At
  pub ends : Ends events
  pub heard : HearsAll hears old events new
  pub few : counted_in events ≤ most

abbrev pub EmitsEnd : {S : Type 0} → Hears S → Fails S → (Ends : List At → Type 0) → (most : ℕ) → (old new : S) → Result Unit ListenerError → Type 0
EmitsEnd hears fails Ends most old new (Ok done) = HearsEnd hears Ends most old new
EmitsEnd hears fails Ends most old new (Err why) = FailsIn hears fails why (PrefixOf Ends) old new

-- ---- both sides

-- each reader is after the bytes of its side, until neither side is read
abbrev pub FollowsUntil : Reading → Bool → SideReader → Side → Type 0
FollowsUntil r true reader side = side ≡ stopped
FollowsUntil r false reader side = Follows r reader side

-- both readers take lengths by that reading
abbrev pub TakeBy : Reading → BothSides → Type 0
TakeBy r state = ReadsBy r state.till × ReadsBy r state.terminal

pub record FollowBoth (r : Reading) (state : BothSides) (sides : Sides) : Type 0 where
  pub till : FollowsUntil r state.rejected state.till sides.till
  pub terminal : FollowsUntil r state.rejected state.terminal sides.terminal

-- the events of a piece were heard, and what it cuts off on the other side
pub record HearsBeside {S : Type 0} (r : Reading) (hears : Hears S) (scope : Scope) (line : ℕ) (from : Direction) (side beside : Side) (bytes : List ℕ) (reader other : SideReader) (stops : Bool) (old new : S) : Type 0 where
  pub events : List At
  pub after : Side
  pub beside_after : Side
  pub emits : EmitsBeside r scope line from side beside bytes events after beside_after
  pub heard : HearsAll hears old events new
  pub follows : FollowsUntil r stops reader after
  pub follows_beside : FollowsUntil r stops other beside_after
  pub few : counted_in events ≤ length bytes + 1

-- a prefix of the events of a prefix of the piece, and of what it cuts off on the other side
pub record BesideBegins (r : Reading) (scope : Scope) (line : ℕ) (from : Direction) (side beside : Side) (bytes : List ℕ) (events : List At) : Type 0 where
  pub first : List ℕ
  pub more : List ℕ
  pub after : Side
  pub beside_after : Side
  pub cut : bytes ≡ first ++ more
  pub emits : PrefixOf (λ all. EmitsBeside r scope line from side beside first all after beside_after) events

-- ---- one line of the trace

-- the events of the line were heard, and the readers are after it
pub record HearsLine {S : Type 0} (r : Reading) (hears : Hears S) (scope : Scope) (number : ℕ) (meaning : Meaning) (sides : Sides) (state : BothSides) (old new : S) : Type 0 where
  pub events : List At
  pub after : Sides
  pub emits : LineEmits r scope number meaning sides events after
  pub heard : HearsAll hears old events new
  pub follow : FollowBoth r state after
  pub few : counted_in events ≤ size_of meaning + 2

abbrev pub EmitsLine : {S : Type 0} → Reading → Hears S → Fails S → Scope → ℕ → Meaning → Sides → BothSides → (old new : S) → Result Unit ListenerError → Type 0
EmitsLine r hears fails scope number meaning sides state old new (Ok done) = HearsLine r hears scope number meaning sides state old new
EmitsLine r hears fails scope number meaning sides state old new (Err why) = FailsIn hears fails why (MeaningBegins r scope number meaning sides) old new

-- the fault of a walk that failed
abbrev pub fault_of : ListenerError → TraceFault
fault_of failure.Memory = Memory
fault_of failure.Write = Write

-- The result of emitting the events of the line with this number.
abbrev pub WalksLine : {S : Type 0} → Reading → Hears S → Fails S → Scope → ℕ → List ℕ → Sides → BothSides → (old new : S) → Result Unit TraceFault → Type 0
WalksLine r hears fails scope number line sides state old new (Ok done) =
    (meaning : Meaning) × (meaning_of line ≡ Ok meaning) × (size_of meaning ≤ length line) × HearsLine r hears scope number meaning sides state old new
WalksLine r hears fails scope number line sides state old new (Err (Trace at_line what)) = (at_line ≡ number) × (meaning_of line ≡ Err what) × (new ≡ old)
WalksLine r hears fails scope number line sides state old new (Err Memory) = FailsIn hears fails failure.Memory (LineSoFar r scope number line sides) old new
WalksLine r hears fails scope number line sides state old new (Err Write) = FailsIn hears fails failure.Write (LineSoFar r scope number line sides) old new
WalksLine r hears fails scope number line sides state old new (Err TooLong) = ⊥
WalksLine r hears fails scope number line sides state old new (Err Read) = ⊥

-- The result of emitting the events of the first line of a text, before the rest of the text.
abbrev pub WalksFirst : {S A : Type 0} → (A → List ℕ) → Reading → Hears S → Fails S → Scope → ℕ → List ℕ → Sides → BothSides → (old new : S) → Result A TraceFault → Type 0
WalksFirst text_of r hears fails scope number text sides state old new (Ok after) = Begins text (λ line. WalksLine r hears fails scope number line sides state old new (Ok tt)) (text_of after)
WalksFirst text_of r hears fails scope number text sides state old new (Err fault) = (after : List ℕ) × Begins text (λ line. WalksLine r hears fails scope number line sides state old new (Err fault)) after

-- ---- lines, one after another

-- the maximum number of bytes of a walk: no trace in memory or on a device has as many
abbrev pub most : ℕ
most = 2 ^ 62

abbrev pub reading_by : Progress → Reading
reading_by progress = reading_of progress.options.lengths

abbrev pub scope_of : Progress → Scope
scope_of progress = progress.options.scope

-- the streams take lengths as the options say, and no line has less than a byte
pub record IsSound (progress : Progress) : Type 0 where
  pub reading : TakeBy (reading_by progress) progress.sides
  pub lines : progress.number ≤ progress.size
  pub size : progress.size ≤ most

-- these lines were read, and they emit these events
pub record HasWalked (r : Reading) (scope : Scope) (lines : List (List ℕ)) (events : List At) (progress : Progress) : Type 0 where
  pub sides : Sides
  pub emit : LinesEmit r scope 0 new_line lines events sides
  pub count : progress.number ≡ length lines
  pub follow : FollowBoth r progress.sides sides
  pub counts : Tallies progress.tally events
  pub few : counted_in events ≤ 2 * progress.number + progress.size

-- ---- the trace

-- A walk failed after these earlier events: the events of the lines before were heard, and a prefix of the next ones.
abbrev pub FaultsFrom : {S : Type 0} → Reading → Hears S → Fails S → Scope → List (List ℕ) → (earlier : List At) → (old new : S) → TraceFault → Type 0
FaultsFrom r hears fails scope lines earlier old new (Trace number what) = (events : List At) × BrokenTrace r scope lines number what (earlier ++ events) × HearsAll hears old events new
FaultsFrom r hears fails scope lines earlier old new Memory = FailsIn hears fails failure.Memory (λ events. EventsSoFar r scope lines (earlier ++ events)) old new
FaultsFrom r hears fails scope lines earlier old new Write = FailsIn hears fails failure.Write (λ events. EventsSoFar r scope lines (earlier ++ events)) old new
FaultsFrom r hears fails scope lines earlier old new TooLong = ⊥
FaultsFrom r hears fails scope lines earlier old new Read = ⊥

-- these lines were read, after some of them emitted the earlier events; or one could not be, whatever others follow them
abbrev pub WalksOn : {S : Type 0} → Reading → Hears S → Fails S → Scope → List (List ℕ) → (earlier : List At) → Progress → (old new : S) → Result Unit TraceFault → Type 0
WalksOn r hears fails scope lines earlier progress old new (Ok done) = (events : List At) × HasWalked r scope lines (earlier ++ events) progress × HearsAll hears old events new
WalksOn r hears fails scope lines earlier progress old new (Err fault) = (others : List (List ℕ)) → FaultsFrom r hears fails scope (lines ++ others) earlier old new fault

-- The result of a walk over lines that continues after these earlier events.
abbrev pub AnswersFrom : {S : Type 0} → Reading → Hears S → Fails S → Scope → List (List ℕ) → (earlier : List At) → (old new : S) → Result Tally TraceFault → Type 0
AnswersFrom r hears fails scope lines earlier old new (Ok tally) = (events : List At) × WholeTrace r scope lines (earlier ++ events) × HearsAll hears old events new × Tallies tally (earlier ++ events)
AnswersFrom r hears fails scope lines earlier old new (Err fault) = FaultsFrom r hears fails scope lines earlier old new fault

-- The result of a walk over lines, by this reading of lengths. If it fails, the events of the lines before were heard, and a prefix of the next ones.
abbrev pub AnswersWalk : {S : Type 0} → Reading → Hears S → Fails S → Scope → List (List ℕ) → (old new : S) → Result Tally TraceFault → Type 0
AnswersWalk r hears fails scope lines old new (Ok tally) = (events : List At) × WholeTrace r scope lines events × HearsAll hears old events new × Tallies tally events
AnswersWalk r hears fails scope lines old new (Err (Trace number what)) = (events : List At) × BrokenTrace r scope lines number what events × HearsAll hears old events new
AnswersWalk r hears fails scope lines old new (Err Memory) = FailsIn hears fails failure.Memory (EventsSoFar r scope lines) old new
AnswersWalk r hears fails scope lines old new (Err Write) = FailsIn hears fails failure.Write (EventsSoFar r scope lines) old new
AnswersWalk r hears fails scope lines old new (Err TooLong) = ⊥
AnswersWalk r hears fails scope lines old new (Err Read) = ⊥
