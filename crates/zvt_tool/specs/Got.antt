-- The output for a vector that differs from the reader's result.
use Rattle.std.specs.Prelude.{◌≡◌, ℕ, List, [], ◌∷◌, ◌++◌, codes, refl}
use Rattle.std.specs.Fmt.{decimal, digits}
use Rattle.json.specs.Print.{escape_byte}
use Rattle.serde_json.specs.Data.{Data, string, object, no_members, member}
use Rattle.zvt_json.specs.Strings.{count_value, line_text}
use Rattle.zvt_text.specs.declared.form.Form.{Form}
use Rattle.zvt_text.specs.declared.form.Form.TheVariants.{Text, Json}

-- the number of the vector's line, and the reader's result
abbrev pub got_text : (number : ℕ) → (answer : List ℕ) → List ℕ
got_text number answer = codes "line " ++ decimal number ++ codes ": got " ++ answer ++ 10 ∷ []

abbrev pub got_value : (number : ℕ) → (answer : List ℕ) → Data
got_value number answer = object (member (codes "got") (string answer) (member (codes "line") (count_value number) no_members))

-- the line in this form
abbrev pub got_in : Form → (number : ℕ) → (answer : List ℕ) → List ℕ
got_in Text number answer = got_text number answer
got_in Json number answer = line_text (got_value number answer)

another_size : got_in Text 2 (codes "whole 3") ≡ codes "line 2: got whole 3" ++ 10 ∷ []
unfolding digits
another_size = refl

another_size_json : got_in Json 2 (codes "whole 3") ≡ codes "{\"got\":\"whole 3\",\"line\":2}" ++ 10 ∷ []
unfolding digits escape_byte
another_size_json = refl

a_refusal_json : got_in Json 14 (codes "refused at 3: UnknownField") ≡ codes "{\"got\":\"refused at 3: UnknownField\",\"line\":14}" ++ 10 ∷ []
unfolding digits escape_byte
a_refusal_json = refl
