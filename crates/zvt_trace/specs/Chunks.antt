-- A trace that arrives in chunks.
use Rattle.std.specs.Prelude.{◌≡◌, ◌<◌, ◌≤◌, ◌⊎◌, ◌==◌, ◌+◌, false, ℕ, List, [], ◌∷◌, ◌++◌, length, take, drop, MatchResult, Option, Result, Ok, Err}
use Rattle.std.specs.Io.KnownBytes.{Consumes, IsAtEnd, Keeps}
use Rattle.std.specs.List.{All}
use Rattle.std.specs.Str.Lines.{lines}
use Rattle.zvt_grammar.specs.Reading.{Reading}
use Rattle.zvt_trace.specs.Emitting.{EventsSoFar, LinesEmit}
use Rattle.zvt_trace.specs.Listening.{FaultsFrom, Fails, HasWalked, Hears, HearsAll, IsSound, most, reading_by, scope_of}
use Rattle.zvt_trace.specs.Trace.{Sides, new_line}
use Rattle.zvt_trace.specs.TraceEvent.{At}
use Rattle.zvt_trace.specs.Written.{limit}
use Rattle.zvt_trace.specs.declared.chunks.Walker.{Walker}
use Rattle.zvt_trace.specs.declared.fault.TraceFault.{TraceFault}
use Rattle.zvt_trace.specs.declared.fault.TraceFault.TheVariants.{Memory, Read, TooLong, Trace, Write}
use Rattle.zvt_trace.specs.declared.listener.Scope.{Scope}
use Rattle.zvt_trace.specs.declared.walker.Progress.{Progress}

-- ---- whole lines

-- the last byte of a text that comes after this byte
abbrev pub last_after : ℕ → List ℕ → ℕ
last_after before [] = before
last_after before (byte ∷ bytes) = last_after byte bytes

-- the text is empty, or a line feed is its last byte
abbrev pub IsWhole : List ℕ → Type 0
IsWhole text = last_after 10 text ≡ 10

-- no line feed is in the text
abbrev pub HasNoEnd : List ℕ → Type 0
HasNoEnd text = All (λ byte. (byte == 10) ≡ false) text

-- a text with one line feed, at its end
abbrev pub IsEnd : List ℕ → Type 0
IsEnd text = (line : List ℕ) × HasNoEnd line × (text ≡ line ++ 10 ∷ [])

-- the first line feed of the text stands there
abbrev pub EndsFirst : List ℕ → ℕ → Type 0
EndsFirst text end = (end < length text) × IsEnd (take (end + 1) text)

-- the last line feed of the text stands there
abbrev pub EndsAt : List ℕ → ℕ → Type 0
EndsAt text last = (last < length text) × IsWhole (take (last + 1) text) × HasNoEnd (drop (last + 1) text)

-- ---- what a walker has read

-- These are the events of the complete lines of these bytes, before the rest.
pub record ReadTo (r : Reading) (scope : Scope) (bytes rest : List ℕ) (events : List At) (progress : Progress) : Type 0 where
  pub done : List ℕ
  pub whole : IsWhole done
  pub walked : HasWalked r scope (lines done) events progress
  pub size : progress.size ≤ length done
  pub cut : bytes ≡ done ++ rest

-- After chunks that spell these bytes, these are the events of all complete lines, and the walker holds the bytes after
-- those lines.
pub record HasRead (r : Reading) (scope : Scope) (bytes : List ℕ) (events : List At) (walker : Walker) : Type 0 where
  pub to : ReadTo r scope bytes walker.begun.items events walker.progress
  pub unended : HasNoEnd walker.begun.items

-- These are the events of all whole lines of the bytes.
pub record WholeLinesEmit (r : Reading) (scope : Scope) (bytes : List ℕ) (events : List At) : Type 0 where
  pub done : List ℕ
  pub begun : List ℕ
  pub sides : Sides
  pub cut : bytes ≡ done ++ begun
  pub whole : IsWhole done
  pub unended : HasNoEnd begun
  pub emit : LinesEmit r scope 0 new_line (lines done) events sides

abbrev pub walker_reading : Walker → Reading
walker_reading walker = reading_by walker.progress

abbrev pub walker_scope : Walker → Scope
walker_scope walker = scope_of walker.progress

-- the counts are small, and so is what is held
pub record IsReady (walker : Walker) : Type 0 where
  pub sound : IsSound walker.progress
  pub small : length walker.begun.items ≤ limit
  pub fits : walker.progress.size + length walker.begun.items ≤ most

-- no line is unfinished
abbrev pub IsBetweenLines : Walker → Type 0
IsBetweenLines walker = walker.begun.items ≡ []

-- why these bytes can't be held after those held already
abbrev pub IsHeldFault : Walker → List ℕ → TraceFault → Type 0
IsHeldFault walker bytes fault = (fault ≡ Memory) ⊎ ((fault ≡ TooLong) × (limit < length walker.begun.items + length bytes))

-- ---- a line that is too long

-- These are the events of the lines before one with more bytes than the limit, or before more bytes than can be counted.
pub record IsTooLong (r : Reading) (scope : Scope) (bytes : List ℕ) (events : List At) : Type 0 where
  pub done : List ℕ
  pub line : List ℕ
  pub later : List ℕ
  pub sides : Sides
  pub cut : bytes ≡ done ++ (line ++ later)
  pub whole : IsWhole done
  pub emit : LinesEmit r scope 0 new_line (lines done) events sides
  pub so_far : EventsSoFar r scope (lines bytes) events
  pub long : (HasNoEnd line × (limit ≤ length line) × (0 < length later)) ⊎ (most < length bytes)

-- ---- a chunk

-- A fault while the last of these bytes are read. The bytes before them emitted the earlier events.
abbrev pub FeedFaults : {S : Type 0} → Reading → Hears S → Fails S → Scope → (bytes : List ℕ) → (earlier : List At) → (old new : S) → TraceFault → Type 0
FeedFaults r hears fails scope bytes earlier old new (Trace number what) = FaultsFrom r hears fails scope (lines bytes) earlier old new (Trace number what)
FeedFaults r hears fails scope bytes earlier old new Memory = FaultsFrom r hears fails scope (lines bytes) earlier old new Memory
FeedFaults r hears fails scope bytes earlier old new Write = FaultsFrom r hears fails scope (lines bytes) earlier old new Write
FeedFaults r hears fails scope bytes earlier old new TooLong = (events : List At) × IsTooLong r scope bytes (earlier ++ events) × HearsAll hears old events new
FeedFaults r hears fails scope bytes earlier old new Read = ⊥

-- The result of reading complete lines, which the rest of the bytes follows.
abbrev pub AnswersRead : {S : Type 0} → Reading → Hears S → Fails S → Scope → (bytes rest : List ℕ) → (earlier : List At) → Progress → (old new : S) → Result Unit TraceFault → Type 0
AnswersRead r hears fails scope bytes rest earlier progress old new (Ok read) = (events : List At) × ReadTo r scope bytes rest (earlier ++ events) progress × HearsAll hears old events new
AnswersRead r hears fails scope bytes rest earlier progress old new (Err fault) = FeedFaults r hears fails scope bytes earlier old new fault

-- The result of feeding the last of these bytes.
abbrev pub AnswersFeed : {S : Type 0} → Reading → Hears S → Fails S → Scope → (bytes : List ℕ) → (earlier : List At) → Walker → (old new : S) → Result Unit TraceFault → Type 0
AnswersFeed r hears fails scope bytes earlier walker old new (Ok fed) = (events : List At) × HasRead r scope bytes (earlier ++ events) walker × HearsAll hears old events new
AnswersFeed r hears fails scope bytes earlier walker old new (Err fault) = FeedFaults r hears fails scope bytes earlier old new fault

-- ---- reads

-- The result of reading a chunk.
abbrev pub ReadsChunk : (left rest : Option (List ℕ)) → Result ℕ TraceFault → (buffer : List ℕ) → Type 0
ReadsChunk left rest result buffer = MatchResult result (λ n. (n ≤ length buffer) × Consumes left rest (take n buffer) × (n ≡ 0 → IsAtEnd rest)) (λ fault. (fault ≡ Read) × Keeps left rest)
