-- What the readers represent, what a failed device has, and the result of reading a trace.
use Rattle.std.specs.Prelude.{⊤, ◌≡◌, ℕ, ◌-◌, ◌<◌, ◌≤◌, ◌++◌, Bool, true, false, List, [], length, take, drop, min, Option, None, Some, IfSome, Result, Ok, Err, Vec}
use Rattle.std.specs.Global.{Global}
use Rattle.std.specs.Io.KnownBytes.{Appends, Consumes, IsAtEnd, Keeps}
use Rattle.zvt_io.specs.Devices.{IsPrefix}
use Rattle.zvt_grammar.specs.Cuts.{Cut}
use Rattle.zvt_grammar.specs.Reading.{Reading}
use Rattle.zvt_apdu.specs.Grammar.{Spells}
use Rattle.zvt_apdu.specs.Message.{Message}
use Rattle.zvt_stream.specs.LineReading.{strictly}
use Rattle.zvt_stream.specs.StreamState.{StreamState, HasRefused}
use Rattle.zvt_trace.specs.Trace.{Side, running, skipping, stopped}
use Rattle.zvt_trace.specs.declared.side.SideReader.{SideReader}
use Rattle.zvt_trace.specs.declared.side.Skipped.{Skipped}
use Rattle.zvt_trace.specs.declared.side.Skipped.TheVariants.{Everything, Nothing, Rest}
use Rattle.zvt_trace.specs.declared.fault.TraceFault.{TraceFault}
use Rattle.zvt_trace.specs.declared.fault.TraceFault.TheVariants.{Memory, Read, TooLong, Trace, Write}

-- ---- what the streams of the code represent

-- the stream holds what is left of the side's bytes after their whole messages
abbrev pub StreamFollows : Reading → StreamState → Side → Type 0
StreamFollows r state (running bytes) = (state.stopped ≡ false) × (messages : List Message) × Cut (Spells r) bytes messages state.held
StreamFollows r state (skipping size left) = HasRefused state
StreamFollows r state stopped = HasRefused state

abbrev pub Knows : SideReader → Side → Type 0
Knows reader (running bytes) = reader.skipped ≡ Nothing
Knows reader (skipping size left) = (reader.skipped ≡ Rest size left) × (0 < left)
Knows reader stopped = reader.skipped ≡ Everything

abbrev pub Follows : Reading → SideReader → Side → Type 0
Follows r reader side = StreamFollows r reader.stream side × Knows reader side

-- ---- what is skipped

-- some bytes of a refused message are left
abbrev pub HasLeft : Skipped → Type 0
HasLeft Nothing = ⊤
HasLeft (Rest size left) = 0 < left
HasLeft Everything = ⊤

-- the reader takes lengths by that reading
abbrev pub ReadsBy : Reading → SideReader → Type 0
ReadsBy r reader = (reader.stream.reading ≡ strictly r) × HasLeft reader.skipped

abbrev pub is_nothing : Skipped → Bool
is_nothing Nothing = true
is_nothing (Rest size left) = false
is_nothing Everything = false

abbrev pub is_everything : Skipped → Bool
is_everything Nothing = false
is_everything (Rest size left) = false
is_everything Everything = true

-- This many bytes of a refused message of this size have arrived.
abbrev pub skipped_by : Option ℕ → (come : ℕ) → Skipped
skipped_by None come = Everything
skipped_by (Some size) come = Rest size (size - come)

-- the reader has refused a message, and skips this many more bytes of it
abbrev pub SkipsTo : SideReader → (size left : ℕ) → Type 0
SkipsTo reader size left = HasRefused reader.stream × (reader.skipped ≡ Rest size left)

-- the bytes that are skipped, and the rest
abbrev pub Skips : Skipped → List ℕ → Skipped → List ℕ → Type 0
Skips Nothing bytes next rest = (next ≡ Nothing) × (rest ≡ [])
Skips (Rest size left) bytes next rest =
    (next ≡ Rest size (left - min left (length bytes))) × (rest ≡ drop (min left (length bytes)) bytes)
Skips Everything bytes next rest = (next ≡ Everything) × (rest ≡ [])

-- ---- what a device has that failed

-- the device has besides a prefix of the text
abbrev pub AppendsPrefix : (old new : Option (List ℕ)) → List ℕ → Type 0
AppendsPrefix old new text = (prefix : List ℕ) × IsPrefix prefix text × Appends old new prefix

-- ---- reading

-- The most bytes of a trace.
abbrev pub limit : ℕ
limit = 16777216

-- The result of one read of a trace: the number of bytes, which is 0 only at the end.
abbrev pub ReadsPiece : (capacity : ℕ) → (left rest : Option (List ℕ)) → (old new : List ℕ) → Result ℕ TraceFault → Type 0
ReadsPiece capacity left rest old new (Ok count) =
    (taken : List ℕ) × Consumes left rest taken × (new ≡ old ++ taken) × (length taken ≡ count) × (count ≤ capacity) × (count ≡ 0 → IsAtEnd rest)
ReadsPiece capacity left rest old new (Err Read) = Keeps left rest
ReadsPiece capacity left rest old new (Err Memory) = (taken : List ℕ) × Consumes left rest taken × (length taken ≤ capacity)
ReadsPiece capacity left rest old new (Err TooLong) = ⊥
ReadsPiece capacity left rest old new (Err Write) = ⊥
ReadsPiece capacity left rest old new (Err (Trace line what)) = ⊥

-- The result of reading a trace of known bytes.
abbrev pub ReadsTrace : (left : Option (List ℕ)) → Result (Vec ℕ Global) TraceFault → Type 0
ReadsTrace left (Ok trace) = IfSome left (λ bytes. trace.items ≡ bytes)
ReadsTrace left (Err TooLong) = IfSome left (λ bytes. limit < length bytes)
ReadsTrace left (Err Read) = Unit {0}
ReadsTrace left (Err Memory) = Unit {0}
ReadsTrace left (Err (Trace line what)) = ⊥
ReadsTrace left (Err Write) = ⊥
