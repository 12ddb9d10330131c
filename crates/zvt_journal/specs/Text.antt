-- What a file of lines represents. A line feed is 10.
use Rattle.std.specs.Prelude.{◌≡◌, ◌≢◌, All, ◌⊎◌, ℕ, ◌+◌, ◌<◌, List, [], ◌∷◌, ◌++◌, length, take, drop, if◌then◌else◌, ◌==◌, ◌||◌, Bool, false, Vec}
use Rattle.std.specs.declared.alloc.Global.{Global}
use Rattle.zvt_journal.specs.Device.{Only}

-- The number of bytes in the complete lines before the first empty line, if `line` bytes of the first line came before.
abbrev pub whole : ℕ → List ℕ → ℕ
whole line [] = 0
whole line (byte ∷ rest) = if byte == 10 then (if line == 0 then 0 else line + 1 + whole 0 rest) else whole (line + 1) rest

-- the file's complete lines up to the first empty one
abbrev pub recovered : List ℕ → List ℕ
recovered file = take (whole 0 file) file

-- a line: at least one byte, and none of them a line feed
pub record IsLine (line : List ℕ) : Type 0 where
  pub some : 0 < length line
  pub no_end : All (λ byte. byte ≢ 10) line

-- each line and a line feed after it
abbrev pub text_of : List (List ℕ) → List ℕ
text_of [] = []
text_of (line ∷ lines) = line ++ 10 ∷ text_of lines

-- Recovery returns the lines before a closed gate, whatever comes after it.
abbrev pub LinesAreRecovered : Type 0
LinesAreRecovered = (lines : List (List ℕ)) (rest : List ℕ) → All IsLine lines → recovered (text_of lines ++ 10 ∷ rest) ≡ text_of lines

-- And each file represents lines.
abbrev pub RecoveredIsLines : Type 0
RecoveredIsLines = (file : List ℕ) → (lines : List (List ℕ)) × All IsLine lines × (text_of lines ≡ recovered file)

-- one of the bytes with which the lines of a till's records begin: `!`, `#`, `<`, `>`
abbrev pub is_mark : ℕ → Bool
is_mark byte = byte == 33 || byte == 35 || byte == 60 || byte == 62

abbrev pub begins_marked : List ℕ → Bool
begins_marked [] = false
begins_marked (byte ∷ rest) = is_mark byte

-- Complete lines, none of them empty, and at least one. Without its first byte the text does not begin like a record,
-- so it cannot be taken for one.
pub record IsRecord (text : List ℕ) : Type 0 where
  pub lines : recovered text ≡ text
  pub some : 0 < length text
  pub unmarked : begins_marked (drop 1 text) ≡ false

-- complete lines, and then the closed gate, which reads as an empty line
abbrev pub at_rest : List ℕ → List ℕ
at_rest text = text ++ 10 ∷ []

-- the file is at rest, completely on the disk, and its gate is there
pub record IsSettled (file : List ℕ) (may_leave : List ℕ → Type 0) (gate : ℕ) : Type 0 where
  pub rest : file ≡ at_rest (recovered file)
  pub at_gate : gate ≡ length (recovered file)
  pub durable : Only file may_leave

-- the file represents the text, or for the text and one record more
abbrev pub IsWithOrWithout : List ℕ → List ℕ → List ℕ → Type 0
IsWithOrWithout text one file = (recovered file ≡ text) ⊎ (recovered file ≡ text ++ one)

-- records one after another
abbrev pub joined : List (Vec ℕ Global) → List ℕ
joined [] = []
joined (entry ∷ entries) = entry.items ++ joined entries

-- the file represents the text and a prefix of the records
abbrev pub HasFirst : List ℕ → List (Vec ℕ Global) → List ℕ → Type 0
HasFirst text entries file = (n : ℕ) × (recovered file ≡ text ++ joined (take n entries))

-- the file is one that might have been left before, or it represents the text
abbrev pub IsAsBefore : (List ℕ → Type 0) → List ℕ → List ℕ → Type 0
IsAsBefore might_leave text file = might_leave file ⊎ (recovered file ≡ text)
