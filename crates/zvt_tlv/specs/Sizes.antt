-- The sizes of spellings.
use Rattle.std.specs.Prelude.{◌≡◌, ℕ, ◌+◌, ◌/◌, ◌%◌, nat_lt, cond, List, [], ◌∷◌, ◌++◌, length, drop}
use Rattle.zvt_tlv.specs.Grammar.{Objects, none, primitive, constructed}

-- How many bytes the shortest length of n has.
abbrev pub length_size : ℕ → ℕ
length_size n = cond (nat_lt n 128) 1 (cond (nat_lt n 256) 2 3)

-- The size of an object of that tag, with a content of n bytes.
abbrev pub whole_size : List ℕ → ℕ → ℕ
whole_size tag n = length tag + (length_size n + n)

-- The size of the shortest spelling.
abbrev pub size_of : Objects → ℕ
size_of none = 0
size_of (primitive tag c rest) = whole_size tag (length c) + size_of rest
size_of (constructed tag inner rest) = whole_size tag (size_of inner) + size_of rest

-- The shortest length of n.
abbrev pub length_bytes : ℕ → List ℕ
length_bytes n = cond (nat_lt n 128) (n ∷ []) (cond (nat_lt n 256) (0x81 ∷ n ∷ []) (0x82 ∷ (n / 256) ∷ (n % 256) ∷ []))

-- The shortest spelling of an object of that tag, with that content.
abbrev pub whole : List ℕ → List ℕ → List ℕ
whole tag c = tag ++ (length_bytes (length c) ++ c)

-- The shortest spelling.
abbrev pub spelling : Objects → List ℕ
spelling none = []
spelling (primitive tag c rest) = whole tag c ++ spelling rest
spelling (constructed tag inner rest) = whole tag (spelling inner) ++ spelling rest

-- Bytes that are a spelling are at the start, and what was after them stays; the count is their size.
pub record Writes (Spelling : List ℕ → Type 0) (old new : List ℕ) (count : ℕ) : Type 0 where
  pub bytes : List ℕ
  pub spelled : Spelling bytes
  pub prefix : new ≡ bytes ++ drop (length bytes) old
  pub size : count ≡ length bytes

-- These bytes are at the start, and what was after them stays; the count is their size.
abbrev pub Puts : List ℕ → (old new : List ℕ) → ℕ → Type 0
Puts bytes old new count = (new ≡ bytes ++ drop (length bytes) old) × (count ≡ length bytes)
