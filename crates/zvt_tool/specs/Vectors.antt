-- The meaning of a line in a file of vectors.
use Rattle.std.specs.Prelude.{◌≡◌, ◌≢◌, ℕ, ◌-◌, ◌<◌, ◌≤◌, ◌⊎◌, List, [], ◌∷◌, ◌++◌, codes, length, slice_index, IsErr, Result, Ok, Err}
use Rattle.std.specs.Fmt.{decimal}
use Rattle.std.specs.List.{All}
use Rattle.hex.specs.Hex.{decode_of}
use Rattle.zvt_grammar.specs.Names.{why_name}
use Rattle.zvt_grammar.specs.Reading.{shortest}
use Rattle.zvt_grammar.specs.declared.why.Why.{Why}
use Rattle.zvt_grammar.specs.declared.answer.Scan.{Scan}
use Rattle.zvt_grammar.specs.declared.answer.Scan.TheVariants.{Whole, More, Refused}
use Rattle.zvt_apdu.specs.Judging.{Answers}
use Rattle.zvt_apdu.specs.Message.{Message}
use Rattle.zvt_trace.specs.Meanings.{without_spaces}
use Rattle.zvt_trace.specs.declared.fault.TraceLineError.{TraceLineError}
use Rattle.zvt_trace.specs.declared.fault.TraceLineError.TheVariants.{Form, Hex}
use Rattle.zvt_tool.specs.declared.vector_check.line.VectorLine.{VectorLine}
use Rattle.zvt_tool.specs.declared.vector_check.line.VectorLine.TheVariants as code

-- ---- what a reader answers, as text

abbrev pub answer_text : Scan (Message × ℕ) → List ℕ
answer_text (Whole found) = codes "whole " ++ decimal found.1
answer_text More = codes "more"
answer_text (Refused place why) = codes "refused at " ++ decimal place ++ codes ": " ++ why_name why

-- the result of the message reader for these bytes, as text
pub record AnswersAs (bytes text : List ℕ) : Type 0 where
  pub answer : Scan (Message × ℕ)
  pub answers : Answers shortest bytes answer
  pub is_text : text ≡ answer_text answer

-- ---- texts that have the form of an answer

abbrev pub IsDigit : ℕ → Type 0
IsDigit character = (48 ≤ character) × (character ≤ 57)

-- a number in decimal digits without leading zeros
pub record IsNumber (text : List ℕ) : Type 0 where
  pub some : 0 < length text
  pub digits : All IsDigit text
  pub no_zero_first : slice_index text 0 ≡ 48 → length text ≡ 1

-- the name of a reason
abbrev pub IsReason : List ℕ → Type 0
IsReason text = (why : Why) × (text ≡ why_name why)

abbrev pub IsRefusal : List ℕ → Type 0
IsRefusal text = (place : List ℕ) × (reason : List ℕ) × IsNumber place × IsReason reason × (text ≡ place ++ codes ": " ++ reason)

abbrev pub IsClaim : List ℕ → Type 0
IsClaim text =
    (text ≡ codes "more")
    ⊎ ((size : List ℕ) × IsNumber size × (text ≡ codes "whole " ++ size))
    ⊎ ((rest : List ℕ) × IsRefusal rest × (text ≡ codes "refused at " ++ rest))

-- ---- one line

-- the text before the first '='
abbrev pub IsOther : ℕ → Type 0
IsOther character = character ≢ 61

-- text that can spell bytes: it is not empty, and neither begins nor ends with a space
pub record IsSpelling (text : List ℕ) : Type 0 where
  pub some : 0 < length text
  pub begins : slice_index text 0 ≢ 32
  pub ends : slice_index text (length text - 1) ≢ 32

-- bytes in hexadecimal and the claim about them, on both sides of the first '=' of the line
pub record IsVector (line : List ℕ) (spelled claim : List ℕ) : Type 0 where
  pub cut : line ≡ spelled ++ codes " = " ++ claim
  pub first : All IsOther spelled
  pub spells : IsSpelling spelled
  pub claims : IsClaim claim

pub data Meaning : Type 0 where
  comment : Meaning
  vector : (bytes claim : List ℕ) → Meaning

-- an empty line, or one that begins with '#'
abbrev pub IsComment : List ℕ → Type 0
IsComment [] = Unit {0}
IsComment (first ∷ rest) = first ≡ 35

-- the meaning of the line, or what is wrong with it
abbrev pub Means : List ℕ → Result Meaning TraceLineError → Type 0
Means line (Ok comment) = IsComment line
Means line (Ok (vector bytes claim)) =
    (IsComment line → ⊥) × (spelled : List ℕ) × IsVector line spelled claim × (decode_of (without_spaces spelled) ≡ Ok bytes)
Means line (Err Form) = (IsComment line → ⊥) × ((spelled claim : List ℕ) → IsVector line spelled claim → ⊥)
Means line (Err Hex) =
    (IsComment line → ⊥) × (spelled : List ℕ) × (claim : List ℕ) × IsVector line spelled claim × IsErr (decode_of (without_spaces spelled))

-- the meaning that a line of the code represents
abbrev pub meant_by : VectorLine → Meaning
meant_by code.Comment = comment
meant_by (code.Vector bytes claim) = vector bytes.items claim.now
