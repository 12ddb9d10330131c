-- What a status information says that could not be read to its end.
use Rattle.std.specs.Prelude.{◌≡◌, ℕ, ◌+◌, ◌*◌, ◌==◌, ◌&&◌, min, Bool, false, cond, List, [], ◌∷◌, take, Option, Some, None, refl}
use Rattle.zvt_grammar.specs.Reading.{padded}
use Rattle.zvt_field.specs.Grammar.{Field, plain}
use Rattle.zvt_field.specs.Named.{amount_of, result_of, trace_of}
use Rattle.zvt_field.specs.Answers.{Begun, HoldsSome}
use Rattle.zvt_report.specs.declared.approvals.UnreadableApproval.{UnreadableApproval}

-- ---- the data that has come

-- The largest message has 65,535 bytes of data, and one byte holds no field: no field ends later, and the message goes on.
abbrev pub most_data : ℕ
most_data = 65533

-- after FF, a length has two bytes, the lower one first
abbrev pub long_data : List ℕ → Option (List ℕ)
long_data [] = None
long_data (low ∷ []) = None
long_data (low ∷ high ∷ content) = Some (take (min (256 * high + low) most_data) content)

abbrev pub data_after : List ℕ → Option (List ℕ)
data_after [] = None
data_after (size ∷ content) = cond (size == 0xFF) (long_data content) (Some (take size content))

-- the data of a status, as far as it has come: after 04 0F and the length
abbrev pub status_data : List ℕ → Option (List ℕ)
status_data [] = None
status_data (high ∷ []) = None
status_data (high ∷ low ∷ rest) = cond ((high == 0x04) && (low == 0x0F)) (data_after rest) None

-- ---- what its fields say

-- BMP 27 is 00
abbrev pub is_approved : Option ℕ → Bool
is_approved None = false
is_approved (Some code) = code == 0

abbrev pub said_by : List Field → Option UnreadableApproval
said_by fields = cond (is_approved (result_of fields)) (Some (record { amount = amount_of fields; trace = trace_of fields })) None

-- what the whole fields at the start of the data say
abbrev pub SaidInData : Option (List ℕ) → Option UnreadableApproval → Type 0
SaidInData None said = said ≡ None
SaidInData (Some content) said = (fields : List Field) × Begun padded content fields × (said ≡ said_by fields)

-- what the bytes of a message say, as far as it could be read
abbrev pub SaysApproved : List ℕ → Option UnreadableApproval → Type 0
SaysApproved bytes said = SaidInData (status_data bytes) said

-- to keep the fields of the data takes memory
abbrev pub HoldsFields : List ℕ → Type 0
HoldsFields bytes = (content : List ℕ) × (status_data bytes ≡ Some content) × HoldsSome padded content

-- ---- laws

-- The bytes say one thing.
abbrev pub ApprovalsAreOne : Type 0
ApprovalsAreOne = (bytes : List ℕ) (said other : Option UnreadableApproval) → SaysApproved bytes said → SaysApproved bytes other → said ≡ other

-- ---- rows worked by hand

-- nine bytes are announced, and three have come
short_length : status_data (0x04 ∷ 0x0F ∷ 0x09 ∷ 0x27 ∷ 0x00 ∷ 0xFE ∷ []) ≡ Some (0x27 ∷ 0x00 ∷ 0xFE ∷ [])
short_length = refl

-- 264 bytes are announced, and two have come
long_length : status_data (0x04 ∷ 0x0F ∷ 0xFF ∷ 0x08 ∷ 0x01 ∷ 0x27 ∷ 0x00 ∷ []) ≡ Some (0x27 ∷ 0x00 ∷ [])
long_length = refl

-- what comes after the announced bytes belongs to no status
one_byte_more : status_data (0x04 ∷ 0x0F ∷ 0x02 ∷ 0x27 ∷ 0x00 ∷ 0x06 ∷ []) ≡ Some (0x27 ∷ 0x00 ∷ [])
one_byte_more = refl

length_to_come : status_data (0x04 ∷ 0x0F ∷ []) ≡ None
length_to_come = refl

half_a_length : status_data (0x04 ∷ 0x0F ∷ 0xFF ∷ 0x08 ∷ []) ≡ None
half_a_length = refl

-- a completion
another_message : status_data (0x06 ∷ 0x0F ∷ 0x09 ∷ 0x27 ∷ 0x00 ∷ []) ≡ None
another_message = refl

-- 12,50 and trace 123 are approved
abbrev pub approved_fields : List Field
approved_fields = plain 0x04 (0 ∷ 0 ∷ 0 ∷ 0 ∷ 0x12 ∷ 0x50 ∷ []) ∷ plain 0x0B (0x00 ∷ 0x01 ∷ 0x23 ∷ []) ∷ plain 0x27 (0x00 ∷ []) ∷ []

approved : said_by approved_fields ≡ Some (record { amount = Some 1250; trace = Some 123 })
approved = refl

-- the result alone is enough
nothing_but_approved : said_by (plain 0x27 (0x00 ∷ []) ∷ []) ≡ Some (record { amount = None; trace = None })
nothing_but_approved = refl

-- result 05
declined : said_by (plain 0x27 (0x05 ∷ []) ∷ plain 0x0B (0x00 ∷ 0x01 ∷ 0x23 ∷ []) ∷ []) ≡ None
declined = refl

-- no result yet
no_result : said_by (plain 0x0B (0x00 ∷ 0x01 ∷ 0x23 ∷ []) ∷ []) ≡ None
no_result = refl
