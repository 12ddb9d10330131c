-- The first byte after which no spelling can follow, the grammar aside: it is one, and more bytes leave it.
use Rattle.std.proofs.Common.{◌≡◌, ℕ, ◌+◌, ◌-◌, ◌<◌, ◌≤◌, Some, List, ◌++◌, length, take, drop, slice_get, sym, ◌∙◌, ap, subst, arith, length-append, ◌⊎◌, suc, inl, inr}
use Rattle.std.proofs.lemmas.Bool.{cases_lt}
use Rattle.std.proofs.lemmas.List.{take-append-drop, take-append-le, get_or_append_left}
use Rattle.std.proofs.lemmas.Option.{slice_get_within, slice_get-get_or, get_or_from_slice_get}
use Rattle.std.proofs.Math.Seq.{take-add}
use Rattle.zvt_grammar.specs.Beginnings.{Alive, NoneWhole, Place}
use Rattle.zvt_grammar.proofs.CutLemmas.{prefixes_alive}
use Rattle.zvt_tlv.proofs.Alive.{prefix_of}

module _ {V : Type 0} (spells : V → List ℕ → Type 0) where
  -- nothing beyond the place is alive
  pub dead_beyond : (bytes : List ℕ) (place n : ℕ) → Place spells bytes place → place < n → Alive spells (take n bytes) → ⊥
  dead_beyond bytes place n p lt a =
      let e : suc place + (n - suc place) ≡ n = omega arith in
      p.dead (prefixes_alive spells (take (suc place) bytes) (take (n - suc place) (drop (suc place) bytes))
      (subst (Alive spells) (sym (ap (λ (m : ℕ). take m bytes) e) ∙ take-add (suc place) (n - suc place) bytes) a))

  -- there is one place
  pub place_once : (bytes : List ℕ) (j k : ℕ) → Place spells bytes j → Place spells bytes k → j ≡ k
  place_once bytes j k p q = by_order (cases_lt j k) (cases_lt k j)
    where
      by_order : ((j < k) ⊎ (k ≤ j)) → ((k < j) ⊎ (j ≤ k)) → j ≡ k
      by_order (inl lt) _ = absurd (dead_beyond bytes j k p lt q.alive)
      by_order (inr ge) (inl lt) = absurd (dead_beyond bytes k j q lt p.alive)
      by_order (inr ge) (inr le) = omega arith

  -- more bytes leave it
  pub place_more : (bytes more : List ℕ) (k : ℕ) → Place spells bytes k → Place spells (bytes ++ more) k
  place_more bytes more k p = record {
    present = omega (arith, p.present, length-append bytes more);
    alive = subst (Alive spells) (sym (take-append-le k bytes more (omega (arith, p.present)))) p.alive;
    dead = λ h. p.dead (subst (Alive spells) (take-append-le (suc k) bytes more (omega (arith, p.present))) h);
  }

  -- after it nothing becomes whole
  pub none_more : (bytes more : List ℕ) (k : ℕ) → NoneWhole spells bytes → Place spells bytes k → NoneWhole spells (bytes ++ more)
  none_more bytes more k none p v prefix rest e s = by_size (cases_lt (length bytes) (length prefix))
    where
      by_size : ((length bytes < length prefix) ⊎ (length prefix ≤ length bytes)) → ⊥
      by_size (inl lt) =
          let m = prefix_of bytes more prefix rest e (omega arith) in
          p.dead (prefixes_alive spells (take (suc k) bytes) (drop (suc k) bytes)
          (subst (Alive spells) (sym (take-append-drop (suc k) bytes)) (record { value = v; rest = m.0; spelled = subst (spells v) m.1 s })))
      by_size (inr le) = let m = prefix_of prefix rest bytes more (sym e) le in none v prefix m.0 m.1 s

-- the bytes that are there stay
pub byte_more : (bytes more : List ℕ) (k x : ℕ) → slice_get bytes k ≡ Some x → slice_get (bytes ++ more) k ≡ Some x
byte_more bytes more k x e =
    let lt = slice_get_within bytes k x e in
    slice_get-get_or (bytes ++ more) k 0 (omega (arith, lt, length-append bytes more)) ∙ ap Some (get_or_append_left bytes more 0 k lt ∙ get_or_from_slice_get bytes k x 0 e)
