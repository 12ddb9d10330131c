-- What the calls answer, in the terms of the grammar.
use Rattle.std.specs.Prelude.{◌≡◌, ◌⊎◌, ℕ, ◌<◌, ◌≤◌, Bool, true, false, Some, None, Result, Ok, Err, List, ◌++◌, length, take}
use Rattle.zvt_grammar.specs.declared.why.Why.{Why}
use Rattle.zvt_grammar.specs.declared.why.Why.TheVariants.{DoesNotFit}
use Rattle.zvt_grammar.specs.declared.answer.Scan.{Scan}
use Rattle.zvt_grammar.specs.declared.answer.Scan.TheVariants.{Whole, More, Refused}
use Rattle.zvt_tlv.specs.declared.judge.TagAt.{TagAt}
use Rattle.zvt_tlv.specs.declared.judge.TagAt.TheVariants as tag_at
use Rattle.zvt_tlv.specs.declared.judge.TagNext.{TagNext}
use Rattle.zvt_tlv.specs.declared.judge.TagNext.TheVariants as tag_next
use Rattle.zvt_tlv.specs.declared.judge.LengthAt.{LengthAt}
use Rattle.zvt_tlv.specs.declared.judge.LengthAt.TheVariants as length_at
use Rattle.zvt_tlv.specs.declared.judge.LengthNext.{LengthNext}
use Rattle.zvt_tlv.specs.declared.judge.LengthNext.TheVariants as length_next
use Rattle.zvt_tlv.specs.declared.heads.Head.{Head}
use Rattle.zvt_tlv.specs.declared.trees.Tlv.{Tlv}
use Rattle.zvt_tlv.specs.Trees.{before, objects_of}
use Rattle.zvt_grammar.specs.Reading.{Reading}
use Rattle.zvt_tlv.specs.Grammar.{Objects, none, Spells, IsTag, IsLength, is_constructed}
use Rattle.zvt_tlv.specs.Judging.{AliveIn, PlaceIn, WhyIn, Role, first_tag, second_tag, third_tag, first_length, after_81, high_length, low_length, Next, byte, content, next, Tagged, fault, content_fits}

-- The part that the next byte of a tag plays.
abbrev pub role_of_tag : TagAt → Role
role_of_tag tag_at.First = first_tag
role_of_tag (tag_at.Second constructed) = second_tag constructed
role_of_tag (tag_at.Third constructed) = third_tag constructed

abbrev pub after_tag_byte : TagNext → Next
after_tag_byte (tag_next.More at) = byte (role_of_tag at)
after_tag_byte (tag_next.Done constructed) = byte (first_length constructed)

-- The part that the next byte of a length plays.
abbrev pub role_of_length : Bool → LengthAt → Role
role_of_length nests length_at.First = first_length nests
role_of_length nests length_at.After81 = after_81 nests
role_of_length nests length_at.High82 = high_length nests
role_of_length nests (length_at.Low82 high) = low_length nests high

abbrev pub after_length_byte : Bool → LengthNext → Next
after_length_byte nests (length_next.More at) = byte (role_of_length nests at)
after_length_byte nests (length_next.Done n) = content nests n

-- A byte's tests, and what comes after it where they pass.
abbrev pub Judges : {V : Type 0} → Reading → (depth : ℕ) → Role → (left x : ℕ) → (V → Next) → Result V Why → Type 0
Judges r depth role left x to (Ok v) = (fault r depth role left x ≡ None) × (next r depth role x ≡ to v)
Judges r depth role left x to (Err why) = fault r depth role left x ≡ Some why

-- A length that is known: it is done where its content fits.
abbrev pub JudgesContent : Bool → (size left : ℕ) → Result LengthNext Why → Type 0
JudgesContent nests size left (Ok v) = (content_fits nests size left ≡ true) × (v ≡ length_next.Done size)
JudgesContent nests size left (Err why) = (content_fits nests size left ≡ false) × (why ≡ DoesNotFit)

-- Whole with what is found; More where the bytes are too few and alive; else the place and the reason.
abbrev pub Answers : {V : Type 0} → Reading → (depth room : ℕ) → (bytes : List ℕ) → (V → Type 0) → Scan V → Type 0
Answers r depth room bytes Found (Whole v) = Found v
Answers r depth room bytes Found More = (length bytes < room) × AliveIn r depth room bytes
Answers r depth room bytes Found (Refused place why) = PlaceIn r depth room bytes place × WhyIn r depth room bytes place why

-- The same for a room: Whole exactly where its first bytes spell objects of its size. No two of these hold together.
abbrev pub AnswersForest : Reading → (depth room : ℕ) → (bytes : List ℕ) → Scan Objects → Type 0
AnswersForest r depth room bytes = Answers r depth room bytes (λ f. (room ≤ length bytes) × Spells r depth f (take room bytes))

-- A tag comes first, and the bytes are alive after it.
pub record TagFound (r : Reading) (depth room : ℕ) (bytes : List ℕ) (size : ℕ) (constructed : Bool) : Type 0 where
  pub present : size ≤ length bytes
  pub tagged : Tagged depth constructed (take size bytes)
  pub alive : AliveIn r depth room (take size bytes)

-- A tag and a length come first, and the bytes are alive after them.
pub record HeadFound (r : Reading) (depth room : ℕ) (bytes : List ℕ) (head : Head) : Type 0 where
  pub tag : List ℕ
  pub size : List ℕ
  pub present : head.size ≤ length bytes
  pub whole : take head.size bytes ≡ tag ++ size
  pub tag_read : take head.tag_size bytes ≡ tag
  pub tag_size : head.tag_size ≤ head.size
  pub tagged : Tagged depth head.constructed tag
  pub is_length : IsLength r head.content size
  pub alive : AliveIn r depth room (take head.size bytes)

-- An object comes first, and the bytes are alive after it.
pub record ObjectFound (r : Reading) (depth room : ℕ) (bytes : List ℕ) (object : Tlv) (size : ℕ) : Type 0 where
  pub present : size ≤ length bytes
  pub spelled : Spells r depth (before object none) (take size bytes)
  pub alive : AliveIn r depth room (take size bytes)

-- Objects fill the room.
pub record ObjectsFound (r : Reading) (depth room : ℕ) (bytes : List ℕ) (objects : List Tlv) : Type 0 where
  pub present : room ≤ length bytes
  pub spelled : Spells r depth (objects_of objects) (take room bytes)

-- The tag and the length of an object of the room come first, and where it is primitive all of its content: to keep what
-- was read takes memory.
pub record TakesMemory (r : Reading) (room : ℕ) (bytes : List ℕ) : Type 0 where
  pub some : 0 < room
  pub tag : List ℕ
  pub size : List ℕ
  pub content : ℕ
  pub trailing : List ℕ
  pub whole : bytes ≡ tag ++ (size ++ trailing)
  pub is_tag : IsTag tag
  pub is_length : IsLength r content size
  pub kept : (is_constructed tag ≡ true) ⊎ (content ≤ length trailing)
