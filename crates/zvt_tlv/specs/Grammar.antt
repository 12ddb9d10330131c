-- The spelling of trees of objects: tag, length, content (PA00P015, TLV container).
-- Lists are whole spellings; no cursor and no count of what is left is in these definitions.
use Rattle.std.specs.Prelude.{◌≡◌, ℕ, ◌+◌, ◌*◌, ◌/◌, ◌%◌, ◌<◌, ◌≤◌, ◌==◌, Bool, true, false, List, [], ◌∷◌, ◌++◌, length, suc}
use Rattle.zvt_grammar.specs.Reading.{Reading, least, AreBytes}

-- The objects of a level, in order.
pub data Objects : Type 0 where
  none : Objects
  primitive : (tag content : List ℕ) → (rest : Objects) → Objects
  constructed : (tag : List ℕ) → (inner rest : Objects) → Objects

-- The low five bits of a tag's first byte are all ones: more bytes of the tag follow.
abbrev pub continues : ℕ → Bool
continues x = (x % 32) == 31

-- Bit 6 of a tag's first byte is set: the content is objects.
abbrev pub holds_objects : ℕ → Bool
holds_objects x = ((x / 32) % 2) == 1

-- A tag's first byte says what its content is.
abbrev pub is_constructed : List ℕ → Bool
is_constructed [] = false
is_constructed (x ∷ _) = holds_objects x

-- A tag is one byte; or two, where the first says that more follow and the second has bit 8 clear; or three, where the
-- second has bit 8 set and the third has it clear.
abbrev pub IsTag : List ℕ → Type 0
IsTag [] = ⊥
IsTag (a ∷ []) = (a < 256) × (continues a ≡ false)
IsTag (a ∷ b ∷ []) = (a < 256) × (continues a ≡ true) × (b < 128)
IsTag (a ∷ b ∷ c ∷ []) = (a < 256) × (continues a ≡ true) × (128 ≤ b) × (b < 256) × (c < 128)
IsTag (a ∷ b ∷ c ∷ d ∷ more) = ⊥

-- A length of n: that byte, below 128; 81 and a byte; 82, the high byte and the low byte. The shortest reading takes 81
-- from 128 on and 82 from 256 on, the padded one takes each form that holds n.
abbrev pub IsLength : Reading → ℕ → List ℕ → Type 0
IsLength r n [] = ⊥
IsLength r n (a ∷ []) = (n < 128) × (a ≡ n)
IsLength r n (a ∷ b ∷ []) = (a ≡ 0x81) × (least r 128 ≤ n) × (n < 256) × (b ≡ n)
IsLength r n (a ∷ high ∷ low ∷ []) = (a ≡ 0x82) × (least r 256 ≤ n) × (high < 256) × (low < 256) × (n ≡ 256 * high + low)
IsLength r n (a ∷ b ∷ c ∷ d ∷ more) = ⊥

-- An object, and what follows it in its level.
pub record Parts (r : Reading) (kind : Bool) (tag : List ℕ) (Content After : List ℕ → Type 0) (bytes : List ℕ) : Type 0 where
  pub size : List ℕ
  pub content : List ℕ
  pub after : List ℕ
  pub whole : bytes ≡ tag ++ (size ++ (content ++ after))
  pub is_tag : IsTag tag
  pub is_kind : is_constructed tag ≡ kind
  pub is_length : IsLength r (length content) size
  pub inside : Content content
  pub others : After after

-- The bytes are a spelling of the objects, which are at that depth, one after another. A primitive's content is its
-- bytes; a constructed object is at depth 5 at most, and its content is a spelling of its objects, one depth more.
abbrev pub Spells : Reading → ℕ → Objects → List ℕ → Type 0
Spells r depth none bytes = bytes ≡ []
Spells r depth (primitive tag content rest) bytes =
    Parts r false tag (λ c. (c ≡ content) × AreBytes content) (Spells r depth rest) bytes
Spells r depth (constructed tag inner rest) bytes =
    Parts r true tag (λ c. (depth < 6) × Spells r (suc depth) inner c) (Spells r depth rest) bytes
