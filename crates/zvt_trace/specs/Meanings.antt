-- The meaning of one line of a trace.
use Rattle.std.specs.Prelude.{⊤, ℕ, not, ◌≡◌, ◌<◌, ◌≤◌, ◌+◌, ◌*◌, ◌==◌, ◌&&◌, List, [], ◌∷◌, ◌++◌, length, take, slice_index, if◌then◌else◌, IsSome, None, Result, Ok, Err, unwrap_or}
use Rattle.std.specs.List.{filter}
use Rattle.std.specs.Str.Lines.{lines}
use Rattle.hex.specs.Hex.{decode_of}
use Rattle.hex.specs.declared.error.FromHexError.{FromHexError}
use Rattle.zvt_trace.specs.Spelled.{AreHex, after_bytes, spells}
use Rattle.zvt_trace.specs.declared.fault.TraceLineError.{TraceLineError}
use Rattle.zvt_trace.specs.declared.fault.TraceLineError.TheVariants.{Form, Hex}
use Rattle.zvt_trace.specs.declared.feed.Piece.{Piece}
use Rattle.zvt_trace.specs.declared.line.TraceLine.{TraceLine}
use Rattle.zvt_trace.specs.declared.line.Plain.{Plain}
use Rattle.zvt_trace.specs.declared.line.TraceLine.TheVariants as code
use Rattle.zvt_trace.specs.declared.direction.Direction.{Direction}
use Rattle.zvt_trace.specs.declared.direction.Direction.TheVariants.{FromTill, FromTerminal}

pub data Meaning : Type 0 where
  comment : Meaning
  piece : (from : Direction) → (bytes : List ℕ) → Meaning
  lost : Meaning

abbrev pub without_spaces : List ℕ → List ℕ
without_spaces = filter (λ byte. not (byte == 32))

abbrev pub piece_of : Direction → Result (List ℕ) FromHexError → Result Meaning TraceLineError
piece_of from (Ok bytes) = Ok (piece from bytes)
piece_of from (Err e) = Err Hex

-- an empty line or one with '#' is a comment, '>' and '<' start pieces in hexadecimal, '!' alone is a loss
abbrev pub meaning_of : List ℕ → Result Meaning TraceLineError
meaning_of [] = Ok comment
meaning_of (first ∷ rest) =
    if first == 35 then Ok comment
    else if first == 62 then piece_of FromTill (decode_of (without_spaces rest))
    else if first == 60 then piece_of FromTerminal (decode_of (without_spaces rest))
    else if first == 33 && length rest == 0 then Ok lost
    else Err Form

-- the text spells bytes
abbrev pub SpellsBytes : List ℕ → Type 0
SpellsBytes text = IsSome (spells (without_spaces text))

-- these bytes, or none if it spells none
abbrev pub bytes_of : List ℕ → List ℕ
bytes_of text = unwrap_or (spells (without_spaces text)) []

-- these bytes, and those that the text after them spells
abbrev pub bytes_with : (bytes undecoded : List ℕ) → List ℕ
bytes_with bytes undecoded = bytes ++ bytes_of undecoded

-- all bytes of a piece
abbrev pub bytes_in : Piece → List ℕ
bytes_in content = bytes_with content.bytes.now content.undecoded.now

-- the first digits of a text are that many pairs, and the buffer begins with their bytes
abbrev pub ReadsPairs : (text : List ℕ) (count : ℕ) (buffer : List ℕ) → Type 0
ReadsPairs text count buffer =
    AreHex (take (2 * count) text) × ((undecoded : List ℕ) → after_bytes (take count buffer) (spells (without_spaces undecoded)) ≡ spells (without_spaces (take (2 * count) text ++ undecoded)))

-- the two characters after that many pairs spell no byte
abbrev pub EndsPairs : (text : List ℕ) (count : ℕ) → Type 0
EndsPairs text count = spells (slice_index text (2 * count) ∷ slice_index text (2 * count + 1) ∷ []) ≡ None

-- the meaning that a line of the code represents
abbrev pub meant_by : TraceLine → Meaning
meant_by code.Comment = comment
meant_by (code.Piece from bytes undecoded) = piece from (bytes.now ++ bytes_of undecoded.now)
meant_by code.Lost = lost

-- the number of its bytes
abbrev pub size_of : Meaning → ℕ
size_of comment = 0
size_of (piece from bytes) = length bytes
size_of lost = 0

-- the sign of a side
abbrev pub IsSign : ℕ → Direction → Type 0
IsSign sign FromTill = sign ≡ 62
IsSign sign FromTerminal = sign ≡ 60

-- what a piece leaves to be read spells bytes
abbrev pub GoesOn : TraceLine → Type 0
GoesOn code.Comment = ⊤
GoesOn (code.Piece from bytes undecoded) = SpellsBytes undecoded.now
GoesOn code.Lost = ⊤

-- the result of reading a line: its meaning, or why it has none
abbrev pub Reads : List ℕ → Result TraceLine TraceLineError → Type 0
Reads line (Ok read) = (meaning_of line ≡ Ok (meant_by read)) × (size_of (meant_by read) ≤ length line) × GoesOn read
Reads line (Err what) = meaning_of line ≡ Err what

-- the text starts with such a line, and the rest follows it
abbrev pub Begins : (text : List ℕ) → (List ℕ → Type 0) → (rest : List ℕ) → Type 0
Begins text Says rest = (line : List ℕ) × (lines text ≡ line ∷ lines rest) × Says line × (length line + length rest ≤ length text) × (length rest < length text)

-- the text starts with a piece in the plain form, and the buffer with its bytes
abbrev pub IsPlain : (text buffer : List ℕ) → Plain → Type 0
IsPlain text buffer plain = Begins text (λ line. (meaning_of line ≡ Ok (piece plain.from (take plain.count buffer))) × (plain.count ≤ length line)) plain.after.now
