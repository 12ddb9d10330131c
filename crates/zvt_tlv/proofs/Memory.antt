-- Where a reader takes memory.
use Rattle.std.proofs.Common.{◌≡◌, ℕ, ◌+◌, ◌-◌, ◌<◌, ◌≤◌, true, List, [], ◌∷◌, ◌++◌, length, take, drop, refl, sym, ◌∙◌, ap, subst, append_assoc, arith, length-append, ◌⊎◌, suc, zero, inl, inr}
use Rattle.std.proofs.lemmas.List.{take_rest, length-take-le, take-append-drop}
use Rattle.zvt_grammar.specs.Reading.{Reading}
use Rattle.zvt_grammar.specs.declared.answer.Scan.{Scan}
use Rattle.zvt_grammar.specs.declared.answer.Scan.TheVariants.{Whole}
use Rattle.zvt_tlv.specs.declared.heads.Head.{Head}
use Rattle.zvt_tlv.specs.declared.trees.Tlv.{Tlv}
use Rattle.zvt_tlv.specs.Grammar.{Objects, none, primitive, constructed, is_constructed, Spells}
use Rattle.zvt_tlv.specs.Trees.{objects_of}
use Rattle.zvt_tlv.specs.Answers.{HeadFound, TakesMemory}
use Rattle.zvt_tlv.specs.Sized.{SizeFound, SizedTakesMemory}
use Rattle.zvt_tlv.proofs.Spelling.{from}
use Rattle.zvt_tlv.proofs.Levels.{ReadTo}
use Rattle.zvt_tlv.proofs.Moves.{One, next_object}

-- after a tag and a length
head_takes : (r : Reading) (d room : ℕ) (bytes : List ℕ) (head : Head) → 0 < room → (h : HeadFound r d room bytes head)
    → ((head.constructed ≡ true) ⊎ (head.content ≤ length (drop head.size bytes))) → TakesMemory r room bytes
head_takes r d room bytes head some h kept =
    let rest = drop head.size bytes in
    record {
      some = some;
      tag = h.tag;
      size = h.size;
      content = head.content;
      trailing = rest;
      whole = sym (take-append-drop head.size bytes) ∙ ap (λ (s : List ℕ). s ++ rest) h.whole ∙ append_assoc h.tag h.size rest;
      is_tag = h.tagged.is_tag;
      is_length = h.is_length;
      kept = by_kind kept;
    }
  where
    by_kind : ((head.constructed ≡ true) ⊎ (head.content ≤ length (drop head.size bytes))) → ((is_constructed h.tag ≡ true) ⊎ (head.content ≤ length (drop head.size bytes)))
    by_kind (inl e) = inl (h.tagged.is_kind ∙ e)
    by_kind (inr le) = inr le

pub inside_takes : (r : Reading) (d room : ℕ) (bytes : List ℕ) (head : Head) → 0 < room → HeadFound r d room bytes head → head.constructed ≡ true → TakesMemory r room bytes
inside_takes r d room bytes head some h e = head_takes r d room bytes head some h (inl e)

pub bytes_take : (r : Reading) (d room : ℕ) (bytes : List ℕ) (head : Head) → 0 < room → HeadFound r d room bytes head → head.content ≤ length (from head.size bytes) → TakesMemory r room bytes
bytes_take r d room bytes head some h enough =
    head_takes r d room bytes head some h (inr (subst (λ (s : List ℕ). head.content ≤ length s) (take_rest bytes head.size) enough))

-- where objects come first
spelled_takes : (r : Reading) (d room : ℕ) (f : Objects) (prefix rest bytes : List ℕ) → 0 < room → Spells r d f prefix → 0 < length prefix → bytes ≡ prefix ++ rest → TakesMemory r room bytes
spelled_takes r d room none prefix rest bytes some p lt e = absurd (omega (arith, ap length p, lt))
spelled_takes r d room (primitive tag c others) prefix rest bytes some p lt e = record {
  some = some;
  tag = tag;
  size = p.size;
  content = length p.content;
  trailing = p.content ++ (p.after ++ rest);
  whole = e ∙ ap (λ (s : List ℕ). s ++ rest) p.whole ∙ simp append_assoc;
  is_tag = p.is_tag;
  is_length = p.is_length;
  kept = inr (omega (arith, length-append p.content (p.after ++ rest)));
}
spelled_takes r d room (constructed tag inner others) prefix rest bytes some p lt e = record {
  some = some;
  tag = tag;
  size = p.size;
  content = length p.content;
  trailing = p.content ++ (p.after ++ rest);
  whole = e ∙ ap (λ (s : List ℕ). s ++ rest) p.whole ∙ simp append_assoc;
  is_tag = p.is_tag;
  is_length = p.is_length;
  kept = inl p.is_kind;
}

read_takes : (r : Reading) (d room : ℕ) (bytes : List ℕ) (ts : List Tlv) (k : ℕ) → ReadTo r d room bytes ts k → 0 < k → TakesMemory r room bytes
read_takes r d room bytes ts k i lt =
    spelled_takes r d room (objects_of ts) (take k bytes) (drop k bytes) bytes (omega (arith, lt, i.within)) i.spelled (omega (arith, lt, length-take-le k bytes i.present)) (sym (take-append-drop k bytes))

-- after objects that were read
pub next_takes : (r : Reading) (d room : ℕ) (bytes : List ℕ) (ts : List Tlv) (k : ℕ) → ReadTo r d room bytes ts k → TakesMemory r (room - k) (from k bytes) → TakesMemory r room bytes
next_takes r d room bytes ts zero i t =
    let same : room - 0 ≡ room = omega arith in
    subst (λ (s : List ℕ). TakesMemory r room s) (take_rest bytes 0) (subst (λ (n : ℕ). TakesMemory r n (from 0 bytes)) same t)
next_takes r d room bytes ts (suc k) i t = read_takes r d room bytes ts (suc k) i (omega arith)

pub pushed_takes : (r : Reading) (d room : ℕ) (bytes : List ℕ) (ts : List Tlv) (k n : ℕ) (t : Tlv) (q : Scan (Tlv × ℕ)) → ReadTo r d room bytes ts k → q ≡ Whole (t, n) → One r d (room - k) (from k bytes) q → TakesMemory r room bytes
pushed_takes r d room bytes ts k n t q i is h =
    let more = next_object r d room bytes ts (ts ++ t ∷ []) k n t q i is h refl in
    read_takes r d room bytes (ts ++ t ∷ []) (k + n) more.0 (omega (arith, more.1))

pub sized_takes : (r : Reading) (room : ℕ) (bytes : List ℕ) (size content : ℕ) → SizeFound r room bytes size content → TakesMemory r content (from size bytes) → SizedTakesMemory r bytes
sized_takes r room bytes size content h t = record {
  size = take size bytes;
  content = content;
  trailing = drop size bytes;
  whole = sym (take-append-drop size bytes);
  is_length = h.is_length;
  inside = subst (λ (s : List ℕ). TakesMemory r content s) (take_rest bytes size) t;
}
