-- Labels at the beginning of lines.
use Rattle.std.specs.Prelude.{◌≡◌, false, true, ℕ, ◌==◌, List, [], ◌∷◌, ◌++◌, codes, if◌then◌else◌, refl}
use Rattle.json.specs.Print.{escape_byte}
use Rattle.serde_json.specs.Data.{string}
use Rattle.serde_json.specs.Written.{compact_text}
use Rattle.zvt_tool.specs.declared.label.Label.{Label}

-- the name of a file, a colon and a space
abbrev pub text_label : List ℕ → Label
text_label file = record { text = file ++ codes ": "; replaces = false }

-- the sign of a comment
abbrev pub comment_label : Label
comment_label = record { text = codes "# "; replaces = false }

-- the beginning of a JSON object whose first member is the name of a file
abbrev pub json_label : List ℕ → Label
json_label file = record { text = codes "{\"file\":" ++ compact_text (string file) ++ codes ","; replaces = true }

-- the beginning of a line: the label, and its first byte unless the label replaces it
abbrev pub line_head : Label → (first : ℕ) → List ℕ
line_head label first = label.text ++ (if label.replaces then [] else first ∷ [])

-- the bytes after this one, with the label at the beginning of each line
abbrev pub labelled : Label → (before : ℕ) → List ℕ → List ℕ
labelled label before [] = []
labelled label before (byte ∷ bytes) = (if before == 10 then line_head label byte else byte ∷ []) ++ labelled label byte bytes

-- two lines, the second without a line feed
two_lines : labelled (text_label (codes "a")) 10 (120 ∷ 10 ∷ 121 ∷ []) ≡ codes "a: x" ++ 10 ∷ codes "a: y"
two_lines = refl

-- the rest of a line, and an empty one
later : labelled (text_label (codes "a")) 120 (120 ∷ 10 ∷ 10 ∷ []) ≡ 120 ∷ 10 ∷ codes "a: " ++ 10 ∷ []
later = refl

object : labelled (json_label (codes "a")) 10 (codes "{\"total\":0}" ++ 10 ∷ []) ≡ codes "{\"file\":\"a\",\"total\":0}" ++ 10 ∷ []
unfolding escape_byte
object = refl
