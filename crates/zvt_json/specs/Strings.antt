-- JSON of bytes and numbers.
use Rattle.std.specs.Prelude.{ℕ, List, [], ◌∷◌, ◌++◌}
use Rattle.hex.specs.Hex.{encode_upper}
use Rattle.serde_json.specs.Data.{Data, number, unsigned, string}
use Rattle.serde_json.specs.Written.{compact_text}
use Rattle.zvt_text.specs.Bytes.{escaped_text}

-- two digits for each byte
abbrev pub hex_value : List ℕ → Data
hex_value bytes = string (encode_upper bytes)

abbrev pub byte_value : ℕ → Data
byte_value byte = hex_value (byte ∷ [])

-- bytes as between the quotation marks of the text for people
abbrev pub text_value : List ℕ → Data
text_value bytes = string (escaped_text bytes)

abbrev pub count_value : ℕ → Data
count_value n = number (unsigned n)

-- a value without a blank, and the end of its line
abbrev pub line_text : Data → List ℕ
line_text value = compact_text value ++ 10 ∷ []
