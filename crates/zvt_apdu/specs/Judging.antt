-- Which bytes may follow in a message, and why a byte may not.
use Rattle.std.specs.Prelude.{◌≡◌, ℕ, ◌+◌, ◌*◌, ◌-◌, ◌<◌, ◌≤◌, ◌==◌, ◌&&◌, not, nat_le, Bool, true, false, cond, Option, Some, None, Result, Ok, Err, List, [], ◌∷◌, ◌++◌, length, take, drop, slice_get}
use Rattle.std.proofs.Common.{◌⊎◌}
use Rattle.zvt_bcd.specs.Digits.{AreDigits, is_digit_pair}
use Rattle.zvt_grammar.specs.declared.why.Why.{Why}
use Rattle.zvt_grammar.specs.declared.why.Why.TheVariants.{NotShortest, DoesNotFit, NotDigit}
use Rattle.zvt_grammar.specs.declared.answer.Scan.{Scan}
use Rattle.zvt_grammar.specs.declared.answer.Scan.TheVariants.{Whole, More, Refused}
use Rattle.zvt_grammar.specs.Reading.{Reading, least}
use Rattle.zvt_grammar.specs.Tests.{check}
use Rattle.zvt_tlv.specs.Judging.{Opener}
use Rattle.zvt_grammar.specs.Beginnings.{NoneWhole, Unfinished, Place}
use Rattle.zvt_field.specs.Answers as fields
use Rattle.zvt_field.specs.Judging as field
pub use Rattle.zvt_apdu.specs.declared.frame.Layout.{Layout}
pub use Rattle.zvt_apdu.specs.declared.frame.Opening.{Opening}
use Rattle.zvt_apdu.specs.Message.{Message}
use Rattle.zvt_apdu.specs.Grammar.{Form, BytesFrom, FieldsFrom, Registration, form_of, IsFrameLength, Spells}

-- What is in the data of that many bytes: bytes of any value, then digits, then fields or bytes of any value.
abbrev pub bytes_after : ℕ → Layout
bytes_after count = record { free = count; digits = 0; fields = false }

abbrev pub fields_after : ℕ → Layout
fields_after count = record { free = count; digits = 0; fields = true }

-- The layout of data of that form and of n bytes. A registration has nothing after its first four bytes, or a currency and fields.
abbrev pub layout : Option Form → (n : ℕ) → Layout
layout None n = bytes_after 0
layout (Some (BytesFrom count)) n = bytes_after count
layout (Some (FieldsFrom count)) n = fields_after count
layout (Some Registration) n = cond (nat_le n 4) (bytes_after 4) (record { free = 4; digits = 2; fields = true })

abbrev pub layout_of : (high low n : ℕ) → Layout
layout_of high low n = layout (form_of high low) n

-- How many bytes come before the fields or the free bytes.
abbrev pub head_size : Layout → ℕ
head_size l = l.free + l.digits

-- Whether data of n bytes can have that layout.
abbrev pub can_fill : Layout → (n : ℕ) → Bool
can_fill l n = nat_le (head_size l) n && not (l.fields && (n == head_size l + 1))

-- The layout of data of n bytes, or that no data of these control bytes has that size.
abbrev pub JudgesSize : (high low n : ℕ) → Result Layout Why → Type 0
JudgesSize high low n (Ok l) = (l ≡ layout_of high low n) × (can_fill (layout_of high low n) n ≡ true)
JudgesSize high low n (Err why) = (why ≡ DoesNotFit) × (can_fill (layout_of high low n) n ≡ false)

-- What part a byte plays in a message.
pub data Role : Type 0 where
  first_control : Role
  second_control : Role
  first_size : (high low : ℕ) → Role
  low_size : (high low : ℕ) → Role
  high_size : (high low size_low : ℕ) → Role
  free : Role
  digit : Role
  in_fields : (role : field.Role) → (left : ℕ) → Role

-- The bytes begin a message whose length stands: that many of its data's bytes are there.
pub record InData (r : Reading) (bytes : List ℕ) : Type 0 where
  pub high : ℕ
  pub low : ℕ
  pub size : List ℕ
  pub n : ℕ
  pub inside : List ℕ
  pub whole : bytes ≡ high ∷ low ∷ (size ++ inside)
  pub are_bytes : (high < 256) × (low < 256)
  pub is_size : IsFrameLength r n size
  pub fills : can_fill (layout_of high low n) n ≡ true
  pub short : length inside < n

abbrev pub layout_in : {r : Reading} {bytes : List ℕ} → InData r bytes → Layout
layout_in d = layout_of d.high d.low d.n

-- The fields of a message have begun.
pub record InFields (r : Reading) (openers : List Opener) (bytes : List ℕ) (role : field.Role) (left : ℕ) : Type 0 where
  pub data_begun : InData r bytes
  pub has_fields : (layout_in data_begun).fields ≡ true
  pub head : List ℕ
  pub part : List ℕ
  pub whole : data_begun.inside ≡ head ++ part
  pub sized : length head ≡ head_size (layout_in data_begun)
  pub room : ℕ
  pub filled : length head + room ≡ data_begun.n
  pub stands : field.Position r room openers part role left

-- After the bytes stands a byte of that role. The openers lead into the objects of a container.
abbrev pub Position : Reading → List Opener → List ℕ → Role → Type 0
Position r openers b first_control = (openers ≡ []) × (b ≡ [])
Position r openers b second_control = (high : ℕ) × (openers ≡ []) × (b ≡ high ∷ []) × (high < 256)
Position r openers b (first_size high low) = (openers ≡ []) × (b ≡ high ∷ low ∷ []) × (high < 256) × (low < 256)
Position r openers b (low_size high low) = (openers ≡ []) × (b ≡ high ∷ low ∷ 0xFF ∷ []) × (high < 256) × (low < 256)
Position r openers b (high_size high low size_low) =
    (openers ≡ []) × (b ≡ high ∷ low ∷ 0xFF ∷ size_low ∷ []) × (high < 256) × (low < 256) × (size_low < 256)
Position r openers b free =
    (d : InData r b) × (openers ≡ [])
    × ((length d.inside < (layout_in d).free) ⊎ ((head_size (layout_in d) ≤ length d.inside) × ((layout_in d).fields ≡ false)))
Position r openers b digit =
    (d : InData r b) × (openers ≡ []) × ((layout_in d).free ≤ length d.inside) × (length d.inside < head_size (layout_in d))
Position r openers b (in_fields role left) = InFields r openers b role left

-- The tests of a byte by its role, and the reason of the first that fails.
abbrev pub fault : Reading → Role → (byte : ℕ) → Option Why
fault r first_control x = None
fault r second_control x = None
fault r (first_size high low) x = cond (x == 0xFF) None (check (can_fill (layout_of high low x) x) DoesNotFit None)
fault r (low_size high low) x = None
fault r (high_size high low size_low) x =
    check (nat_le (least r 255) (256 * x + size_low)) NotShortest
    (check (can_fill (layout_of high low (256 * x + size_low)) (256 * x + size_low)) DoesNotFit None)
fault r free x = None
fault r digit x = check (is_digit_pair x) NotDigit None
fault r (in_fields role left) x = field.fault r role left x

-- The reason of the byte at the place, by the part that it plays there.
pub record WhyOf (r : Reading) (bytes : List ℕ) (place : ℕ) (why : Why) : Type 0 where
  pub openers : List Opener
  pub role : Role
  pub byte : ℕ
  pub stands : Position r openers (take place bytes) role
  pub is_byte : slice_get bytes place ≡ Some byte
  pub fails : fault r role byte ≡ Some why

-- A message comes first.
pub record Found (r : Reading) (bytes : List ℕ) (message : Message) (size : ℕ) : Type 0 where
  pub present : size ≤ length bytes
  pub spelled : Spells r message (take size bytes)

-- Whole with what is found; More where more is needed; else the place and the reason.
abbrev pub Answers : Reading → (bytes : List ℕ) → Scan (Message × ℕ) → Type 0
Answers r bytes (Whole found) = Found r bytes found.0 found.1
Answers r bytes More = Unfinished (Spells r) bytes
Answers r bytes (Refused place why) = NoneWhole (Spells r) bytes × Place (Spells r) bytes place × WhyOf r bytes place why

-- Control bytes and a length come first, and data of that length can follow.
pub record Opens (r : Reading) (bytes : List ℕ) (opening : Opening) : Type 0 where
  pub size : List ℕ
  pub inside : List ℕ
  pub whole : bytes ≡ opening.high ∷ opening.low ∷ (size ++ inside)
  pub are_bytes : (opening.high < 256) × (opening.low < 256)
  pub is_size : IsFrameLength r opening.size size
  pub fills : can_fill (layout_of opening.high opening.low opening.size) opening.size ≡ true
  pub starts : opening.start ≡ 2 + length size

abbrev pub AnswersOpening : Reading → (bytes : List ℕ) → Scan Opening → Type 0
AnswersOpening r bytes (Whole opening) = Opens r bytes opening
AnswersOpening r bytes More = Unfinished (Spells r) bytes
AnswersOpening r bytes (Refused place why) = NoneWhole (Spells r) bytes × Place (Spells r) bytes place × WhyOf r bytes place why

-- All of the data that comes before its fields or its free bytes is there.
pub record Headed (r : Reading) (bytes : List ℕ) (opening : Opening) (head : Layout) : Type 0 where
  pub opens : Opens r bytes opening
  pub is_layout : head ≡ layout_of opening.high opening.low opening.size
  pub there : head_size head ≤ length (drop opening.start bytes)
  pub are_digits : AreDigits (take head.digits (drop head.free (drop opening.start bytes)))

-- What is stored after the head: all of the free bytes, or fields, some of which take memory.
abbrev pub Keeps : Bool → Reading → (size : ℕ) → (head : Layout) → (content : List ℕ) → Type 0
Keeps false r size head content = size ≤ length content
Keeps true r size head content = fields.TakesMemory r (size - head_size head) (drop (head_size head) content)

-- The head of a message comes first, and what is stored after it takes memory.
pub record TakesMemory (r : Reading) (bytes : List ℕ) : Type 0 where
  pub opening : Opening
  pub head : Layout
  pub headed : Headed r bytes opening head
  pub kept : Keeps head.fields r opening.size head (drop opening.start bytes)

-- The first byte that is no pair of digits, of that many that come after others.
pub record WrongDigit (before digits : ℕ) (bytes : List ℕ) (place : ℕ) : Type 0 where
  pub trailing : before ≤ place
  pub within : place < before + digits
  pub present : place < length bytes
  pub passed : AreDigits (take (place - before) (drop before bytes))
  pub byte : ℕ
  pub is_byte : slice_get bytes place ≡ Some byte
  pub fails : is_digit_pair byte ≡ false

abbrev pub FindsDigit : (before digits : ℕ) → (bytes : List ℕ) → Option ℕ → Type 0
FindsDigit before digits bytes None = AreDigits (take digits (drop before bytes))
FindsDigit before digits bytes (Some place) = WrongDigit before digits bytes place
