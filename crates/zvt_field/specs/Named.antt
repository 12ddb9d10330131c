-- What single fields say: each answers only where its BMP appears exactly once.
use Rattle.std.specs.Prelude.{ℕ, ◌==◌, Bool, cond, Option, Some, None, List, [], ◌∷◌, filter, count_by, option_and_then}
use Rattle.std.specs.Option.{option_map}
use Rattle.zvt_bcd.specs.Digits.{number_of}
use Rattle.zvt_field.specs.Grammar.{Field, plain, tree}
use Rattle.zvt_field.specs.Bodies.{name_of}

abbrev pub is_named : ℕ → Field → Bool
is_named bmp field = name_of field == bmp

-- how often the BMP stands
abbrev pub count_of : ℕ → List Field → ℕ
count_of bmp fields = count_by (is_named bmp) fields

-- the one of a list
abbrev pub sole : List Field → Option Field
sole [] = None
sole (field ∷ []) = Some field
sole (field ∷ other ∷ fields) = None

-- the field of that BMP
abbrev pub only_of : ℕ → List Field → Option Field
only_of bmp fields = sole (filter (is_named bmp) fields)

abbrev pub bytes_of : Field → Option (List ℕ)
bytes_of (plain bmp content) = Some content
bytes_of (tree bmp objects) = None

-- its bytes
abbrev pub content_of : ℕ → List Field → Option (List ℕ)
content_of bmp fields = option_and_then bytes_of (only_of bmp fields)

-- a number that isn't zero
abbrev pub positive : ℕ → Option ℕ
positive n = cond (n == 0) None (Some n)

abbrev pub first : List ℕ → Option ℕ
first [] = None
first (byte ∷ bytes) = Some byte

-- BMP 04: the amount, in the smallest unit of its currency
abbrev pub amount_of : List Field → Option ℕ
amount_of fields = option_and_then (λ digits. positive (number_of digits)) (content_of 0x04 fields)

-- BMP 0B: the trace number
abbrev pub trace_of : List Field → Option ℕ
trace_of fields = option_map number_of (content_of 0x0B fields)

-- BMP 27: the result code
abbrev pub result_of : List Field → Option ℕ
result_of fields = option_and_then first (content_of 0x27 fields)

-- BMP 87: the receipt number, as it was read
abbrev pub receipt_of : List Field → Option (List ℕ)
receipt_of fields = content_of 0x87 fields

-- BMP 49: the currency code
abbrev pub currency_of : List Field → Option ℕ
currency_of fields = option_map number_of (content_of 0x49 fields)

-- BMP 37: the trace number of the original payment, as it was read
abbrev pub original_of : List Field → Option (List ℕ)
original_of fields = content_of 0x37 fields
