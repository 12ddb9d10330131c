-- Facts on spellings: each size but 1 is filled.
use Rattle.std.proofs.Common.{◌≡◌, ◌≢◌, ℕ, ◌<◌, ◌≤◌, List, [], ◌∷◌, ◌++◌, length, refl, ap, arith, ◌⊎◌, suc, zero, inl, inr, ◌*◌, ◌/◌, ◌%◌}
use Rattle.std.proofs.lemmas.Bool.{cases_lt}
use Rattle.zvt_grammar.specs.Reading.{Reading, shortest}
use Rattle.zvt_tlv.specs.Grammar.{Objects, none, primitive, constructed, IsLength, Spells}
pub use Rattle.zvt_tlv.specs.UniqueDecoding.{tag_prefix, length_prefix, from, same_prefix, tag_size, length_size, parts_size, parts_some, not_single, joined, regroup, spells_joined, Shared, shared, shared_parts, after_objects, one_tree}

-- objects of a size, each of two bytes or the last of three
abbrev pub filler : ℕ → Objects
filler zero = none
filler (suc zero) = none
filler (suc (suc zero)) = primitive (7 ∷ []) [] none
filler (suc (suc (suc zero))) = primitive (7 ∷ []) (0 ∷ []) none
filler (suc (suc (suc (suc n)))) = primitive (7 ∷ []) [] (filler (suc (suc n)))

abbrev pub filling : ℕ → List ℕ
filling zero = []
filling (suc zero) = []
filling (suc (suc zero)) = 7 ∷ 0 ∷ []
filling (suc (suc (suc zero))) = 7 ∷ 1 ∷ 0 ∷ []
filling (suc (suc (suc (suc n)))) = 7 ∷ 0 ∷ filling (suc (suc n))

pub filling_size : (n : ℕ) → n ≢ 1 → length (filling n) ≡ n
filling_size zero ne = refl
filling_size (suc zero) ne = absurd (ne refl)
filling_size (suc (suc zero)) ne = refl
filling_size (suc (suc (suc zero))) ne = refl
filling_size (suc (suc (suc (suc n)))) ne = omega (arith, filling_size (suc (suc n)) (omega arith))

pub filled : (r : Reading) (d n : ℕ) → Spells r d (filler n) (filling n)
filled r d zero = refl
filled r d (suc zero) = refl
filled r d (suc (suc zero)) = record { size = 0 ∷ []; content = []; after = []; whole = refl; is_tag = (omega arith, refl); is_kind = refl; is_length = (omega arith, refl); inside = (refl, tt); others = refl }
filled r d (suc (suc (suc zero))) = record { size = 1 ∷ []; content = 0 ∷ []; after = []; whole = refl; is_tag = (omega arith, refl); is_kind = refl; is_length = (omega arith, refl); inside = (refl, (omega arith, tt)); others = refl }
filled r d (suc (suc (suc (suc n)))) = record { size = 0 ∷ []; content = []; after = filling (suc (suc n)); whole = refl; is_tag = (omega arith, refl); is_kind = refl; is_length = (omega arith, refl); inside = (refl, tt); others = filled r d (suc (suc n)) }

-- what is at a depth could be at a lesser one
pub shallower : (r : Reading) (d e : ℕ) (f : Objects) (s : List ℕ) → e ≤ d → Spells r d f s → Spells r e f s
shallower r d e none s le p = p
shallower r d e (primitive tag content rest) s le p = record {
  size = p.size;
  content = p.content;
  after = p.after;
  whole = p.whole;
  is_tag = p.is_tag;
  is_kind = p.is_kind;
  is_length = p.is_length;
  inside = p.inside;
  others = shallower r d e rest p.after le p.others;
}
shallower r d e (constructed tag inner rest) s le p = record {
  size = p.size;
  content = p.content;
  after = p.after;
  whole = p.whole;
  is_tag = p.is_tag;
  is_kind = p.is_kind;
  is_length = p.is_length;
  inside = (omega (arith, p.inside.0), shallower r (suc d) (suc e) inner p.content (omega arith) p.inside.1);
  others = shallower r d e rest p.after le p.others;
}

-- a shortest length for no more than a length says, in no more bytes
pub shorter_length : (r : Reading) (m n : ℕ) (p : List ℕ) → IsLength r m p → n ≤ m → (b : List ℕ) × IsLength shortest n b × (length b ≤ length p)
shorter_length r m n p l le = by_size (cases_lt n 128) (cases_lt n 256)
  where
    long : (p : List ℕ) → IsLength r m p → 256 ≤ n → (3 ≤ length p) × (n < 256 * 256)
    long [] l ge = absurd l
    long (a ∷ []) l ge = absurd (omega (arith, l.0))
    long (a ∷ b ∷ []) l ge = absurd (omega (arith, l.2))
    long (a ∷ b ∷ c ∷ []) l ge = (omega arith, omega (arith, l.2, l.3, l.4))
    long (a ∷ b ∷ c ∷ d ∷ more) l ge = absurd l

    middle : (p : List ℕ) → IsLength r m p → 128 ≤ n → 2 ≤ length p
    middle [] l ge = absurd l
    middle (a ∷ []) l ge = absurd (omega (arith, l.0))
    middle (a ∷ b ∷ p) l ge = omega arith

    by_size : ((n < 128) ⊎ (128 ≤ n)) → ((n < 256) ⊎ (256 ≤ n)) → (b : List ℕ) × IsLength shortest n b × (length b ≤ length p)
    by_size (inl lt) _ = (n ∷ [], (lt, refl), length_size r m p l)
    by_size (inr ge) (inl lt) = (0x81 ∷ n ∷ [], (refl, ge, lt, refl), middle p l ge)
    by_size (inr ge) (inr more) =
        let h = long p l more in
        (0x82 ∷ (n / 256) ∷ (n % 256) ∷ [], (refl, more, omega (arith, h.1), omega arith, omega arith), h.0)

-- objects with a spelling have a shortest one, in no more bytes
pub shortened : (r : Reading) (d : ℕ) (f : Objects) (s : List ℕ) → Spells r d f s → (b : List ℕ) × Spells shortest d f b × (length b ≤ length s)
shortened r d none s p = ([], refl, omega (arith, ap length p))
shortened r d (primitive tag content rest) s p =
    let more = shortened r d rest p.after p.others in
    let size = shorter_length r (length p.content) (length p.content) p.size p.is_length (omega arith) in (
      tag ++ (size.0 ++ (p.content ++ more.0)),
      record { size = size.0; content = p.content; after = more.0; whole = refl; is_tag = p.is_tag; is_kind = p.is_kind; is_length = size.1; inside = p.inside; others = more.1 },
      omega (arith, parts_size tag size.0 p.content more.0, ap length p.whole, parts_size tag p.size p.content p.after, more.2, size.2),
    )
shortened r d (constructed tag inner rest) s p =
    let more = shortened r d rest p.after p.others in
    let within = shortened r (suc d) inner p.content p.inside.1 in
    let size = shorter_length r (length p.content) (length within.0) p.size p.is_length within.2 in (
      tag ++ (size.0 ++ (within.0 ++ more.0)),
      record { size = size.0; content = within.0; after = more.0; whole = refl; is_tag = p.is_tag; is_kind = p.is_kind; is_length = size.1; inside = (p.inside.0, within.1); others = more.1 },
      omega (arith, parts_size tag size.0 within.0 more.0, ap length p.whole, parts_size tag p.size p.content p.after, more.2, size.2, within.2),
    )
