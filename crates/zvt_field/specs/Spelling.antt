-- The shortest spelling of fields, as a function.
use Rattle.std.specs.Prelude.{ℕ, ◌+◌, ◌/◌, ◌%◌, nat_lt, Bool, true, Option, Some, None, List, [], ◌∷◌, ◌++◌, length}
use Rattle.zvt_tlv.specs.Sizes as tlv
use Rattle.zvt_field.specs.declared.shapes.Shape.{Shape}
use Rattle.zvt_field.specs.declared.shapes.Shape.TheVariants.{Fixed, Digits, Ll, Lll, Tree}
use Rattle.zvt_field.specs.Shapes.{shape_of}
use Rattle.zvt_field.specs.Judging.{count_digits}
use Rattle.zvt_field.specs.Grammar.{Field, plain, tree}

-- the digits of a length of n
abbrev pub count_bytes : Option Shape → ℕ → List ℕ
count_bytes None n = []
count_bytes (Some (Fixed m)) n = []
count_bytes (Some (Digits m)) n = []
count_bytes (Some Ll) n = (0xF0 + n / 10) ∷ (0xF0 + n % 10) ∷ []
count_bytes (Some Lll) n = (0xF0 + n / 100) ∷ (0xF0 + n / 10 % 10) ∷ (0xF0 + n % 10) ∷ []
count_bytes (Some Tree) n = []

-- whether they can spell it
abbrev pub count_holds : Option Shape → ℕ → Bool
count_holds None n = true
count_holds (Some (Fixed m)) n = true
count_holds (Some (Digits m)) n = true
count_holds (Some Ll) n = nat_lt n 100
count_holds (Some Lll) n = nat_lt n 1000
count_holds (Some Tree) n = true

abbrev pub spelling_of : Field → List ℕ
spelling_of (plain bmp content) = bmp ∷ (count_bytes (shape_of bmp) (length content) ++ content)
spelling_of (tree bmp objects) = bmp ∷ (tlv.length_bytes (tlv.size_of objects) ++ tlv.spelling objects)

abbrev pub spelling_of_all : List Field → List ℕ
spelling_of_all [] = []
spelling_of_all (field ∷ fields) = spelling_of field ++ spelling_of_all fields

-- its size
abbrev pub size_of_field : Field → ℕ
size_of_field (plain bmp content) = 1 + (count_digits (shape_of bmp) + length content)
size_of_field (tree bmp objects) = 1 + (tlv.length_size (tlv.size_of objects) + tlv.size_of objects)
