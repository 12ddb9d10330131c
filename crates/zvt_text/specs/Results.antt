-- The words of a result code in the text of a message.
use Rattle.std.specs.Prelude.{ℕ, List, ◌∷◌, ◌++◌, codes, Option, Some, None}
use Rattle.zvt_text.specs.Bytes.{hex_of}
use Rattle.zvt_text.specs.Meanings.{printed_of}

abbrev pub with_meaning : ℕ → Option (List ℕ) → List ℕ
with_meaning code (Some meaning) = hex_of code ++ 32 ∷ meaning
with_meaning code None = codes "code " ++ hex_of code

abbrev pub result_words : ℕ → List ℕ
result_words code = with_meaning code (printed_of code)
