-- Received numbers, and the names that a script gives them.
use Rattle.std.specs.Prelude.{◌≡◌, ℕ, ◌-◌, ◌&&◌, Bool, true, false, cond, nat_le, List, [], ◌∷◌, ◌++◌, length, take, replicate, slice_index_or, slice_set, Option, Some, None, option_and_then}
use Rattle.std.specs.List.{list_any}
use Rattle.std.specs.Str.{bytes_eq}
use Rattle.zvt_apdu.specs.Message.{Message}
use Rattle.zvt_apdu.specs.Views.{fields_in}
use Rattle.zvt_field.specs.Grammar.{Field}
use Rattle.zvt_field.specs.Named.{content_of}
use Rattle.zvt_play.specs.declared.numbers.NumberField.{NumberField}
use Rattle.zvt_play.specs.declared.numbers.NumberField.TheVariants.{Original, Receipt, Trace}
use Rattle.zvt_play.specs.declared.numbers.Number.{Number}
use Rattle.zvt_play.specs.declared.numbers.Number.TheVariants.{Three, Two}
use Rattle.zvt_play.specs.declared.numbers.Names.{Names}

-- ---- fields with a number

abbrev pub bmp_of : NumberField → ℕ
bmp_of Trace = 0x0B
bmp_of Original = 0x37
bmp_of Receipt = 0x87

abbrev pub size_of : NumberField → ℕ
size_of Trace = 3
size_of Original = 3
size_of Receipt = 2

abbrev pub bytes_in : Number → List ℕ
bytes_in (Two bytes) = bytes
bytes_in (Three bytes) = bytes

-- a number has two bytes, or three
abbrev pub number_by : List ℕ → Option (List ℕ)
number_by [] = None
number_by (first ∷ []) = None
number_by (first ∷ second ∷ []) = Some (first ∷ second ∷ [])
number_by (first ∷ second ∷ third ∷ []) = Some (first ∷ second ∷ third ∷ [])
number_by (first ∷ second ∷ third ∷ fourth ∷ more) = None

-- the number in this field of a message, if the field appears exactly once
abbrev pub number_of : NumberField → List Field → Option (List ℕ)
number_of field fields = option_and_then number_by (content_of (bmp_of field) fields)

abbrev pub number_in : NumberField → Option Message → Option (List ℕ)
number_in field came = option_and_then (number_of field) (option_and_then fields_in came)

-- ---- names

-- no name has a number
abbrev pub unused : Names
unused = record { numbers = replicate 256 None; next = None }

abbrev pub named : Names → (name : ℕ) → Option Number
named names name = slice_index_or names.numbers name None

abbrev pub is_number : List ℕ → Option Number → Bool
is_number bytes None = false
is_number bytes (Some number) = bytes_eq (bytes_in number) bytes

-- some name has these bytes
abbrev pub has_number : Names → List ℕ → Bool
has_number names bytes = list_any (is_number bytes) names.numbers

-- a name has this number from now on
abbrev pub bound : (name : ℕ) → Number → Names → Names
bound name number names = record { numbers = slice_set names.numbers name (Some number); next = names.next }

-- the next own line will carry the number of the name, if it has one
abbrev pub prepared : (name : ℕ) → Names → Names
prepared name names = record { numbers = names.numbers; next = named names name }

-- an own line was sent
abbrev pub used : Names → Names
used names = record { numbers = names.numbers; next = None }

-- The received message has a number in this field that no name had, and the name has it now.
abbrev pub Binds : NumberField → (name : ℕ) → Option Message → (old new : Names) → Type 0
Binds field name came old new =
    (number : Number) × (number_in field came ≡ Some (bytes_in number)) × (has_number old (bytes_in number) ≡ false) × (new ≡ bound name number old)

-- The received message has no number in this field, or one that some name has.
abbrev pub HasNoNew : NumberField → Option Message → Names → Type 0
HasNoNew field came names = (bytes : List ℕ) → number_in field came ≡ Some bytes → has_number names bytes ≡ true

-- The received message has the number of the name in this field.
abbrev pub IsNumbered : NumberField → (name : ℕ) → Option Message → Names → Type 0
IsNumbered field name came names = (number : Number) × (named names name ≡ Some number) × (number_in field came ≡ Some (bytes_in number))

-- ---- own lines

-- the longest own line that can have a name's number
abbrev pub longest_line : ℕ
longest_line = 258

-- a line whose last bytes are these
abbrev pub with_end : (bytes number : List ℕ) → List ℕ
with_end bytes number = take (length bytes - length number) bytes ++ number

-- What is sent for a line: its bytes. If a prepared name has a number, the number replaces the last bytes.
abbrev pub sent_as : Option Number → (bytes : List ℕ) → List ℕ
sent_as None bytes = bytes
sent_as (Some number) bytes = cond (nat_le (length bytes) longest_line && nat_le (length (bytes_in number)) (length bytes)) (with_end bytes (bytes_in number)) bytes
