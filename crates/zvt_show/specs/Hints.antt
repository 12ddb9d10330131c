-- What is said of a line that can't be read.
use Rattle.std.specs.Prelude.{ℕ, zero, suc, ◌+◌, ◌-◌, ◌^◌, ◌%◌, ◌==◌, ◌&&◌, ◌||◌, not, nat_eq, nat_le, is_some, count_by, Bool, true, false, List, [], ◌∷◌, ◌++◌, length, position, slice_index, Option, Some, None, codes, if◌then◌else◌}
use Rattle.std.specs.Fmt.{decimal, digits, format_spec, padded_integral}
use Rattle.std.specs.List.{starts_with}
use Rattle.hex.specs.Hex.{hex_digit_value}
use Rattle.zvt_show.specs.declared.diagnostics.hint.Hint.{Hint}
use Rattle.zvt_show.specs.declared.diagnostics.hint.Hint.TheVariants.{Capture, Character, HalfByte, Mark, Unfinished}
use Rattle.zvt_show.specs.declared.diagnostics.hint.Reason.{Reason}
use Rattle.zvt_show.specs.declared.diagnostics.hint.Reason.TheVariants.{Plain, Prefix, Separator, Tab}

-- ---- the first bytes

-- of a capture: pcap in either order of bytes, pcapng, and either of them compressed by gzip
abbrev pub is_capture : List ℕ → Bool
is_capture trace =
    starts_with nat_eq trace (0xD4 ∷ 0xC3 ∷ 0xB2 ∷ 0xA1 ∷ [])
    || starts_with nat_eq trace (0xA1 ∷ 0xB2 ∷ 0xC3 ∷ 0xD4 ∷ [])
    || starts_with nat_eq trace (0x0A ∷ 0x0D ∷ 0x0D ∷ 0x0A ∷ [])
    || starts_with nat_eq trace (0x1F ∷ 0x8B ∷ [])

-- the byte order marks of UTF-8 and of UTF-16 in either order of bytes
abbrev pub is_marked : List ℕ → Bool
is_marked line = starts_with nat_eq line (0xEF ∷ 0xBB ∷ 0xBF ∷ []) || starts_with nat_eq line (0xFF ∷ 0xFE ∷ []) || starts_with nat_eq line (0xFE ∷ 0xFF ∷ [])

-- a journal, and a line of it that begins with a space, as what a crash leaves of a record
abbrev pub is_unfinished : (trace line : List ℕ) → Bool
is_unfinished trace line = starts_with nat_eq trace (codes "# zvt journal 1") && starts_with nat_eq line (32 ∷ [])

-- ---- one character

abbrev pub is_separator : ℕ → Bool
is_separator byte = byte == 58 || byte == 45

-- an x after a 0
abbrev pub is_prefix : (before byte : ℕ) → Bool
is_prefix before byte = before == 48 && (byte == 120 || byte == 88)

abbrev pub reason_of : (before byte : ℕ) → Reason
reason_of before byte = if byte == 9 then Tab else if is_prefix before byte then Prefix else if is_separator byte then Separator else Plain

abbrev pub hint_at : (column before byte : ℕ) → Option Hint
hint_at column before byte = Some (Character column byte (reason_of before byte))

-- ---- the line

-- no hexadecimal digit and no space
abbrev pub is_strange : ℕ → Bool
is_strange byte = not (is_some (hex_digit_value byte)) && not (byte == 32)

abbrev pub is_no_space : ℕ → Bool
is_no_space byte = not (byte == 32)

-- Of the text after the direction: its first character that is none of a hexadecimal text, or a byte that lacks a digit.
-- Columns are counted from 1, at the direction.
abbrev pub strange_hint : List ℕ → Option ℕ → Option Hint
strange_hint text (Some at) = hint_at (at + 2) (slice_index text (at - 1)) (slice_index text at)
strange_hint text None = if count_by is_no_space text % 2 == 0 then None else Some (HalfByte (length text + 2))

abbrev pub piece_hint : List ℕ → Option Hint
piece_hint text = strange_hint text (position is_strange text)

abbrev pub loss_hint : List ℕ → Option Hint
loss_hint [] = None
loss_hint (byte ∷ more) = hint_at 2 33 byte

abbrev pub line_hint : List ℕ → Option Hint
line_hint [] = None
line_hint (first ∷ rest) =
    if first == 35 then None
    else if first == 62 then piece_hint rest
    else if first == 60 then piece_hint rest
    else if first == 33 then loss_hint rest
    else hint_at 1 0 first

-- why the line of that trace can't be read, and nothing where it can
abbrev pub hint_of : (trace line : List ℕ) → Option Hint
hint_of trace line = if is_capture trace then Some Capture else if is_marked line then Some Mark else if is_unfinished trace line then Some Unfinished else line_hint line

-- of the line after that many others
abbrev pub hint_on : (trace : List ℕ) → ℕ → List (List ℕ) → Option Hint
hint_on trace n [] = None
hint_on trace zero (line ∷ lines) = hint_of trace line
hint_on trace (suc n) (line ∷ lines) = hint_on trace n lines

-- ---- its text

-- a printing character is as it is, and of another its code in hexadecimal
abbrev pub character_text : ℕ → List ℕ
character_text byte =
    if nat_le 0x20 byte && nat_le byte 0x7E then 39 ∷ byte ∷ 39 ∷ []
    else codes "byte " ++ padded_integral (format_spec 32 0 4 2 (2 ^ 64 - 1)) false [] (digits 16 true byte)

abbrev pub reason_text : Reason → List ℕ
reason_text Tab = codes ", a tab: put spaces between bytes"
reason_text Prefix = codes ": write bytes without '0x'"
reason_text Separator = codes ": put spaces between bytes"
reason_text Plain = []

abbrev pub hint_text : Hint → List ℕ
hint_text Capture = codes "the input is a capture, not a trace: see 'From a capture to a trace' in docs/FORMAT.md"
hint_text Mark = codes "column 1 has a byte order mark: save the trace as plain text without one"
hint_text Unfinished = codes "a crash left this of a record: 'zvt book --records FILE' writes the whole records of a journal as a trace"
hint_text (Character column byte reason) = codes "column " ++ decimal column ++ codes " is " ++ character_text byte ++ reason_text reason
hint_text (HalfByte column) = codes "column " ++ decimal column ++ codes " is the end of the line: the last byte has only one digit"
