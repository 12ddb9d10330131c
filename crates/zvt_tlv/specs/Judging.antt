-- Which bytes may follow in a level of objects, and why a byte may not (PA00P015, TLV container).
use Rattle.std.specs.Prelude.{◌≡◌, ℕ, ◌+◌, ◌*◌, ◌<◌, ◌≤◌, ◌==◌, ◌&&◌, not, nat_lt, nat_le, Bool, true, false, cond, Option, Some, None, List, [], ◌∷◌, ◌++◌, length, take, slice_get, suc}
use Rattle.zvt_grammar.specs.declared.why.Why.{Why}
use Rattle.zvt_grammar.specs.declared.why.Why.TheVariants.{NotShortest, DoesNotFit, LengthForm, TooDeep, TagTooLong}
use Rattle.zvt_grammar.specs.Beginnings.{Alive, Place}
use Rattle.zvt_grammar.specs.Reading.{Reading, shortest, padded, least}
use Rattle.zvt_tlv.specs.Grammar.{Objects, Spells, IsTag, IsLength, is_constructed, holds_objects, continues}
use Rattle.zvt_grammar.specs.Tests.{check, fits}

-- The bytes are a spelling of the objects in exactly that many bytes.
abbrev pub Filled : Reading → (depth room : ℕ) → Objects → List ℕ → Type 0
Filled r depth room objects bytes = Spells r depth objects bytes × (length bytes ≡ room)

-- The bytes can be completed to objects of exactly `room` bytes.
abbrev pub AliveIn : Reading → (depth room : ℕ) → List ℕ → Type 0
AliveIn r depth room bytes = Alive (Filled r depth room) bytes

-- Up to this byte the bytes can be completed so, and with it they can't.
abbrev pub PlaceIn : Reading → (depth room : ℕ) → List ℕ → ℕ → Type 0
PlaceIn r depth room bytes place = Place (Filled r depth room) bytes place × (place < room)

-- What part a byte plays in its object. The flag says whether the object is constructed.
pub data Role : Type 0 where
  first_tag : Role
  second_tag : (nests : Bool) → Role
  third_tag : (nests : Bool) → Role
  first_length : (nests : Bool) → Role
  after_81 : (nests : Bool) → Role
  high_length : (nests : Bool) → Role
  low_length : (nests : Bool) (high : ℕ) → Role
  in_content : Role

-- A whole tag of that kind, of an object that may be at that depth.
pub record Tagged (depth : ℕ) (nests : Bool) (tag : List ℕ) : Type 0 where
  pub is_tag : IsTag tag
  pub is_kind : is_constructed tag ≡ nests
  pub deep : nests ≡ true → depth < 6

-- What comes after a byte: a byte of some role, a content of some size, or nothing.
pub data Next : Type 0 where
  byte : Role → Next
  content : (nests : Bool) → (n : ℕ) → Next
  wrong : Why → Next

-- What comes after a byte of a role, where its length and its room are not looked at.
abbrev pub next : Reading → (depth : ℕ) → Role → ℕ → Next
next r d first_tag x =
    cond (holds_objects x && nat_le 6 d) (wrong TooDeep)
    (cond (continues x) (byte (second_tag (holds_objects x))) (byte (first_length (holds_objects x))))
next r d (second_tag nests) x = cond (nat_lt x 128) (byte (first_length nests)) (byte (third_tag nests))
next r d (third_tag nests) x = cond (nat_lt x 128) (byte (first_length nests)) (wrong TagTooLong)
next r d (first_length nests) x =
    cond (nat_lt x 128) (content nests x)
    (cond (x == 0x81) (byte (after_81 nests)) (cond (x == 0x82) (byte (high_length nests)) (wrong LengthForm)))
next r d (after_81 nests) x = cond (nat_le (least r 128) x) (content nests x) (wrong NotShortest)
next r d (high_length nests) x = cond (nat_le (least r 1) x) (byte (low_length nests x)) (wrong NotShortest)
next r d (low_length nests high) x = content nests (256 * high + x)
next r d in_content x = wrong LengthForm

-- The beginning of an object at that depth, before a byte of that role.
abbrev pub Begins : Reading → ℕ → Role → List ℕ → Type 0
Begins r depth first_tag b = b ≡ []
Begins r depth (second_tag nests) b =
    (x : ℕ) × (b ≡ x ∷ []) × (x < 256) × (continues x ≡ true) × (holds_objects x ≡ nests) × (nests ≡ true → depth < 6)
Begins r depth (third_tag nests) b =
    (x : ℕ) × (y : ℕ) × (b ≡ x ∷ y ∷ []) × (x < 256) × (continues x ≡ true) × (holds_objects x ≡ nests) × (nests ≡ true → depth < 6) × (128 ≤ y) × (y < 256)
Begins r depth (first_length nests) b = Tagged depth nests b
Begins r depth (after_81 nests) b = (tag : List ℕ) × (b ≡ tag ++ 0x81 ∷ []) × Tagged depth nests tag
Begins r depth (high_length nests) b = (tag : List ℕ) × (b ≡ tag ++ 0x82 ∷ []) × Tagged depth nests tag
Begins r depth (low_length nests high) b =
    (tag : List ℕ) × (b ≡ tag ++ 0x82 ∷ high ∷ []) × Tagged depth nests tag × (high < 256) × (least r 1 ≤ high)
Begins r depth in_content b =
    (tag : List ℕ) × (size : List ℕ) × (part : List ℕ) × (n : ℕ) × (b ≡ tag ++ (size ++ part)) × Tagged depth false tag × IsLength r n size × (length part < n)

-- An open level: the complete items before its opener, and the opener.
pub record Opener : Type 0 where
  pub items : Objects
  pub done : List ℕ
  pub tag : List ℕ
  pub size : List ℕ
  pub content : ℕ

-- After the bytes, in a level of `room` bytes at that depth, stands a byte of that role, itself at depth `at`,
-- and `left` bytes of its own level after it. The openers lead from the level to the byte's own.
abbrev pub Position : Reading → (depth room : ℕ) → List Opener → List ℕ → (at : ℕ) → Role → (left : ℕ) → Type 0
Position r depth room [] bytes at role left =
    (items : Objects) × (done : List ℕ) × (beginning : List ℕ) × (bytes ≡ done ++ beginning) × Spells r depth items done
    × Begins r depth role beginning × (length bytes + suc left ≡ room) × (at ≡ depth)
Position r depth room (o ∷ os) bytes at role left =
    (inside : List ℕ) × (bytes ≡ o.done ++ (o.tag ++ (o.size ++ inside))) × Spells r depth o.items o.done
    × Tagged depth true o.tag × IsLength r o.content o.size × (length inside < o.content) × Position r (suc depth) o.content os inside at role left

-- A constructed object's length of one byte can't leave room for a single byte of content.
abbrev pub avoids : Reading → Bool → ℕ → ℕ → Bool
avoids shortest true left n = not (left == n)
avoids shortest false left n = true
avoids padded nests left n = true

-- A length that is known, before its content.
abbrev pub content_fits : Bool → ℕ → ℕ → Bool
content_fits nests n left = fits n left && not (nests && (n == 1))

-- The opener of a length in that many further bytes, which is for sizes from `from` on.
abbrev pub long_form : Reading → Bool → ℕ → ℕ → ℕ → Option Why
long_form shortest nests left from bytes = check (nat_le (bytes + from) left) NotShortest None
long_form padded nests left from bytes = check (nat_le bytes left && not (nests && (left == bytes + 1))) DoesNotFit None

-- The tests of a byte by its role, and the reason of the first that fails.
abbrev pub fault : Reading → (depth : ℕ) → Role → (left byte : ℕ) → Option Why
fault r depth first_tag left x =
    check (not (holds_objects x && nat_le 6 depth)) TooDeep
    (check (cond (continues x) (nat_le 2 left) (avoids r (holds_objects x) left 2)) DoesNotFit None)
fault r depth (second_tag nests) left x =
    check (cond (nat_lt x 128) (avoids r nests left 2) (nat_le 2 left && avoids r nests left 3)) DoesNotFit None
fault r depth (third_tag nests) left x = check (nat_lt x 128) TagTooLong None
fault r depth (first_length nests) left x =
    cond (nat_lt x 128) (check (content_fits nests x left) DoesNotFit None)
    (cond (x == 0x81) (long_form r nests left 128 1)
    (cond (x == 0x82) (long_form r nests left 256 2) (Some LengthForm)))
fault r depth (after_81 nests) left x =
    check (nat_le (least r 128) x) NotShortest (check (content_fits nests x left) DoesNotFit None)
fault r depth (high_length nests) left x =
    check (nat_le (least r 1) x) NotShortest (check (nat_le (1 + 256 * x) left) DoesNotFit None)
fault r depth (low_length nests high) left x =
    check (content_fits nests (256 * high + x) left) DoesNotFit None
fault r depth in_content left x = None

-- The reason of the byte at the place, by the part that it plays there.
pub record WhyIn (r : Reading) (depth room : ℕ) (bytes : List ℕ) (place : ℕ) (why : Why) : Type 0 where
  pub openers : List Opener
  pub at : ℕ
  pub role : Role
  pub left : ℕ
  pub byte : ℕ
  pub stands : Position r depth room openers (take place bytes) at role left
  pub is_byte : slice_get bytes place ≡ Some byte
  pub fails : fault r at role left byte ≡ Some why
