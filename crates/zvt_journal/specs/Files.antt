-- The possible contents of a journal's file.
use Rattle.std.specs.Prelude.{◌≡◌, ◌⊎◌, ◌≤◌, ◌+◌, ◌-◌, ◌^◌, ℕ, List, [], ◌∷◌, length, take, drop, codes, ◌==◌, ◌&&◌, ◌||◌, ◌++◌, nat_le, replicate, Bool, true, false, if◌then◌else◌, Vec}
use Rattle.std.specs.declared.alloc.Global.{Global}
use Rattle.zvt_journal.specs.declared.file.FileDevice.{FileDevice}
use Rattle.zvt_journal.specs.Calls.{seen_after, may_leave_after}
use Rattle.zvt_journal.specs.Text.{begins_marked, recovered, whole}

-- the bytes that a read of the device's file returns
abbrev pub file_seen : FileDevice → List ℕ
file_seen device = seen_after device.calls.start device.calls.made

-- the files that a crash may leave
abbrev pub file_may_leave : FileDevice → List ℕ → Type 0
file_may_leave device = may_leave_after device.calls.start device.calls.made

-- it begins with a line that names the format
abbrev pub IsNamed : List ℕ → Type 0
IsNamed file = take 15 file ≡ codes "# zvt journal 1"

-- how the first line of a journal says that reversals go by their receipt numbers, if they do
abbrev pub rule_words : (by_receipt : Bool) → List ℕ
rule_words false = []
rule_words true = codes ", reversals by receipt"

-- the bytes that the first append writes after the gate, for a currency of this many digits, all `0`
-- here
abbrev pub opening_behind : (by_receipt : Bool) → (digits : ℕ) → List ℕ
opening_behind by_receipt digits =
    codes " zvt journal 1, currency " ++ replicate digits 48 ++ rule_words by_receipt ++ 10 ∷ 10 ∷ []

-- a byte in the place of the wanted one: it is there, or still 0
abbrev pub may_stand : ℕ → ℕ → Bool
may_stand byte wanted = byte == 0 || byte == wanted || wanted == 48 && nat_le 48 byte && nat_le byte 57

-- a prefix of these bytes, with some bytes still 0
abbrev pub is_part : List ℕ → List ℕ → Bool
is_part [] wanted = true
is_part (byte ∷ part) [] = false
is_part (byte ∷ part) (first ∷ wanted) = may_stand byte first && is_part part wanted

-- a part of an opening with this rule
abbrev pub is_ruled_part : (by_receipt : Bool) → List ℕ → Bool
is_ruled_part by_receipt part =
    is_part part (opening_behind by_receipt 1) || is_part part (opening_behind by_receipt 2) || is_part part (opening_behind by_receipt 3)
    || is_part part (opening_behind by_receipt 4)

abbrev pub is_opening_part : List ℕ → Bool
is_opening_part part = is_ruled_part false part || is_ruled_part true part

-- nothing, a gate that isn't there yet, or a closed gate and a part of an opening behind it
abbrev pub is_begun : List ℕ → Bool
is_begun [] = true
is_begun (byte ∷ rest) = if byte == 10 then is_opening_part rest else byte == 0 && length rest == 0

-- A crash leaves such a file before the first record is there.
abbrev pub IsBegun : List ℕ → Type 0
IsBegun file = is_begun file ≡ true

-- Opening accepts the file as a journal: its first complete line names the format, or it has no record yet.
abbrev pub IsKnown : List ℕ → Type 0
IsKnown file = IsNamed (recovered file) ⊎ IsBegun file

-- the file is one that might have been left before, or it is known
abbrev pub IsKnownAsBefore : (List ℕ → Type 0) → List ℕ → Type 0
IsKnownAsBefore might_leave file = might_leave file ⊎ IsKnown file

-- the first record: a line that names the format, a currency and, if reversals go by their receipt numbers, this rule
pub record IsOpening (entry : List ℕ) : Type 0 where
  pub named : IsNamed entry
  pub part : is_opening_part (drop 1 entry ++ 10 ∷ []) ≡ true

-- the record goes behind others of a journal, or it is the opening of a new one
abbrev pub GoesOn : (text entry : List ℕ) → Type 0
GoesOn text entry = IsNamed text ⊎ ((text ≡ []) × IsOpening entry)

-- the first of these records, if there is one, is the opening of a journal
abbrev pub BeginWithOpening : List (Vec ℕ Global) → Type 0
BeginWithOpening [] = Unit {0}
BeginWithOpening (entry ∷ entries) = IsOpening entry.items

-- the records go behind others of a journal, or the first of them is the opening of a new one
abbrev pub GoOn : (text : List ℕ) → List (Vec ℕ Global) → Type 0
GoOn text entries = IsNamed text ⊎ ((text ≡ []) × BeginWithOpening entries)

-- the bytes after a closed gate, or all bytes if they begin with none
abbrev pub after_gate : List ℕ → List ℕ
after_gate [] = []
after_gate (byte ∷ rest) = if byte == 10 then rest else byte ∷ rest

-- the bytes after the complete lines of a file and its closed gate
abbrev pub behind_gate : List ℕ → List ℕ
behind_gate file = after_gate (drop (whole 0 file) file)

-- no crash leaves more bytes after the complete lines
abbrev pub HasFewAfter : List ℕ → Type 0
HasFewAfter file = length file - whole 0 file ≤ 2 ^ 18 + 1

-- No crash leaves bytes there that begin like a line of a record, because an append leaves a record without its first
-- byte.
abbrev pub HasNoLineBehind : List ℕ → Type 0
HasNoLineBehind file = begins_marked (behind_gate file) ≡ false

-- the end of a file as a crash leaves it: opening cuts it
pub record IsRepairable (file : List ℕ) : Type 0 where
  pub few : HasFewAfter file
  pub no_line : HasNoLineBehind file

-- the file is one that might have been left before, or opening repairs it
abbrev pub IsRepairableAsBefore : (List ℕ → Type 0) → List ℕ → Type 0
IsRepairableAsBefore might_leave file = might_leave file ⊎ IsRepairable file

-- the number of lines that end in a text
abbrev pub lines_ended : List ℕ → ℕ
lines_ended [] = 0
lines_ended (byte ∷ rest) = if byte == 10 then lines_ended rest + 1 else lines_ended rest

abbrev pub begins_spaced : List ℕ → Bool
begins_spaced [] = false
begins_spaced (byte ∷ rest) = byte == 32

-- the text begins as the first line of a record does: with `!`, `<`, or `#` and a space
abbrev pub begins_record : List ℕ → Bool
begins_record [] = false
begins_record (byte ∷ rest) = byte == 33 || byte == 60 || byte == 35 && begins_spaced rest

-- the number of lines that begin like the first line of a record; the argument says whether the text begins a line
abbrev pub records_from : Bool → List ℕ → ℕ
records_from begins [] = 0
records_from begins (byte ∷ rest) =
    if begins && begins_record (byte ∷ rest) then records_from (byte == 10) rest + 1 else records_from (byte == 10) rest

-- the line, counted from 1, that is empty and ends the text
abbrev pub gate_line : List ℕ → ℕ
gate_line file = lines_ended (recovered file) + 1

-- the number of records after the gate
abbrev pub records_behind : List ℕ → ℕ
records_behind file = records_from true (behind_gate file)
