-- The check of a record: a line behind the record's own lines, with a digest of them. It shows that a line was changed by hand or
-- damaged. No theorem about crashes rests on it.
use Rattle.std.specs.Prelude.{◌≡◌, ◌==◌, ◌&&◌, ℕ, ◌+◌, ◌≤◌, Bool, true, false, List, [], ◌∷◌, ◌++◌, codes, cond, fold, length, take, Option, Some, None, is_some}
use Rattle.std.specs.Str.{bytes_eq}
use Rattle.std.specs.Str.Lines.{lines}
use Rattle.hex.specs.Hex.{encode_upper}
use Rattle.sha2.specs.Hashers.{Holds256}
use Rattle.sha2.specs.Sha256.{sha256}
use Rattle.sha2.specs.declared.Sha256.{Sha256}
use Rattle.zvt_journal.specs.Text.{text_of}
use Rattle.zvt_text.specs.Words.{trailing}

-- the first four bytes of the SHA-256 of a text, in hexadecimal
unfoldable pub check_of : (text : List ℕ) → List ℕ
check_of text = encode_upper (take 4 (sha256 text))

-- the beginning of a check's line
abbrev pub check_sign : List ℕ
check_sign = codes "#= "

abbrev pub check_line : (text : List ℕ) → List ℕ
check_line text = check_sign ++ check_of text ++ 10 ∷ []

-- a text with its check behind it
abbrev pub checked : (text : List ℕ) → List ℕ
checked text = text ++ check_line text

-- ---- the record that a check is of

-- a line is one of bytes that the till sent, and goes on with the record before it
abbrev pub is_sent : (line : List ℕ) → Bool
is_sent [] = false
is_sent (sign ∷ rest) = sign == 62

-- a line is a check
abbrev pub is_check : (line : List ℕ) → Bool
is_check line = is_some (trailing check_sign line)

-- the lines of a record, and one more line: a check ends the record, and a line that doesn't go on with it begins another
abbrev pub and_line : Option (List ℕ) → (recorded : List (List ℕ)) → (line : List ℕ) → List (List ℕ)
and_line (Some digits) recorded line = []
and_line None recorded line = cond (is_sent line) (recorded ++ line ∷ []) (line ∷ [])

abbrev pub then_line : (recorded : List (List ℕ)) → (line : List ℕ) → List (List ℕ)
then_line recorded line = and_line (trailing check_sign line) recorded line

-- the last record of these lines, as far as it goes
abbrev pub last_record : List (List ℕ) → List (List ℕ)
last_record before = fold then_line [] before

-- ---- right checks

abbrev pub confirms : Option (List ℕ) → (recorded : List (List ℕ)) → Bool
confirms None recorded = true
confirms (Some digits) recorded = bytes_eq digits (check_of (text_of recorded))

-- the line is not a check, or it is the check of this record
abbrev pub is_right : (recorded : List (List ℕ)) → (line : List ℕ) → Bool
is_right recorded line = confirms (trailing check_sign line) recorded

-- each of the lines is not a check, or it is the check of the record before it
abbrev pub right_after : (recorded : List (List ℕ)) → List (List ℕ) → Bool
right_after recorded [] = true
right_after recorded (line ∷ more) = is_right recorded line && right_after (then_line recorded line) more

abbrev pub are_right : List (List ℕ) → Bool
are_right all = right_after [] all

-- the line with this number, counted from 1, is the first check that does not match the record before it
pub record IsFirstWrongCheck (text : List ℕ) (number : ℕ) : Type 0 where
  pub before : List (List ℕ)
  pub line : List ℕ
  pub after : List (List ℕ)
  pub is : lines text ≡ before ++ line ∷ after
  pub good : are_right before ≡ true
  pub wrong : is_right (last_record before) line ≡ false
  pub number_is : number ≡ length before + 1

abbrev pub ChecksRecords : (text : List ℕ) → Option ℕ → Type 0
ChecksRecords text None = are_right (lines text) ≡ true
ChecksRecords text (Some number) = IsFirstWrongCheck text number

-- the lines of the text before the rest have right checks, and the last record of them is in the hasher
pub record HasChecked (text rest : List ℕ) (number : ℕ) (hasher : Sha256) : Type 0 where
  pub before : List (List ℕ)
  pub is : lines text ≡ before ++ lines rest
  pub good : are_right before ≡ true
  pub number_is : number ≡ length before
  pub holds : Holds256 hasher (text_of (last_record before))
  pub fits : number + length rest ≤ length text
