-- Each beginning that can be completed, and is not whole, is at a position.
use Rattle.std.proofs.Common.{◌≡◌, ℕ, ◌+◌, ◌-◌, ◌<◌, ◌≤◌, Bool, true, false, List, [], ◌∷◌, ◌++◌, length, refl, sym, ◌∙◌, ap, subst, append_assoc, arith, length-append, ◌⊎◌, suc, inl, inr}
use Rattle.std.proofs.lemmas.List.{append-nil}
use Rattle.zvt_grammar.specs.Reading.{Reading}
use Rattle.zvt_tlv.specs.Grammar.{Objects, none, primitive, constructed, IsLength, Spells}
use Rattle.zvt_tlv.specs.Judging.{AliveIn, Role, first_tag, second_tag, third_tag, first_length, after_81, high_length, low_length, in_content, Tagged, Begins, Opener, Position}
use Rattle.zvt_grammar.specs.Beginnings.{Unfinished}
use Rattle.zvt_tlv.specs.Sized.{Sized, SizedIn, PositionSized}
use Rattle.zvt_tlv.proofs.Spelling.{parts_size}
use Rattle.zvt_tlv.proofs.NextByteLemmas.{least_high}
use Rattle.zvt_tlv.proofs.Levels.{position_after}

pub record Part (r : Reading) (d : ℕ) (b : List ℕ) : Type 0 where
  pub role : Role
  pub begins : Begins r d role b

tag_part : (r : Reading) (d : ℕ) (nests : Bool) (tag b : List ℕ) (y : ℕ) (m : List ℕ) → Tagged d nests tag → tag ≡ b ++ y ∷ m → Part r d b
tag_part r d nests tag [] y m t e = record { role = first_tag; begins = refl }
tag_part r d nests [] (x ∷ b) y m t e = absurd t.is_tag
tag_part r d nests (a ∷ []) (x ∷ b) y m t e = absurd (omega (arith, ap length e, length-append b (y ∷ m)))
tag_part r d nests (a ∷ c ∷ []) (x ∷ []) y m t e =
    let same : a ≡ x = cc in
    record { role = second_tag nests; begins = (a, cc (same), t.is_tag.0, t.is_tag.1, t.is_kind, t.deep) }
tag_part r d nests (a ∷ c ∷ []) (x ∷ z ∷ b) y m t e = absurd (omega (arith, ap length e, length-append b (y ∷ m)))
tag_part r d nests (a ∷ c ∷ f ∷ []) (x ∷ []) y m t e =
    let same : a ≡ x = cc in
    record { role = second_tag nests; begins = (a, cc (same), t.is_tag.0, t.is_tag.1, t.is_kind, t.deep) }
tag_part r d nests (a ∷ c ∷ f ∷ []) (x ∷ z ∷ []) y m t e =
    let same : a ≡ x = cc in let same' : c ≡ z = cc in
    record { role = third_tag nests; begins = (a, c, cc (same, same'), t.is_tag.0, t.is_tag.1, t.is_kind, t.deep, t.is_tag.2, t.is_tag.3) }
tag_part r d nests (a ∷ c ∷ f ∷ []) (x ∷ z ∷ w ∷ b) y m t e = absurd (omega (arith, ap length e, length-append b (y ∷ m)))
tag_part r d nests (a ∷ c ∷ f ∷ g ∷ more) (x ∷ b) y m t e = absurd t.is_tag

size_part : (r : Reading) (d n : ℕ) (nests : Bool) (tag size b : List ℕ) (y : ℕ) (m : List ℕ) → Tagged d nests tag → IsLength r n size → size ≡ b ++ y ∷ m → Part r d (tag ++ b)
size_part r d n nests tag size [] y m t l e = record { role = first_length nests; begins = subst (Tagged d nests) (sym (append-nil tag)) t }
size_part r d n nests tag [] (x ∷ b) y m t l e = absurd l
size_part r d n nests tag (a ∷ []) (x ∷ b) y m t l e = absurd (omega (arith, ap length e, length-append b (y ∷ m)))
size_part r d n nests tag (a ∷ c ∷ []) (x ∷ []) y m t l e =
    let same : x ≡ 0x81 = cc (l.0) in
    record { role = after_81 nests; begins = (tag, ap (λ (v : ℕ). tag ++ v ∷ []) same, t) }
size_part r d n nests tag (a ∷ c ∷ []) (x ∷ z ∷ b) y m t l e = absurd (omega (arith, ap length e, length-append b (y ∷ m)))
size_part r d n nests tag (a ∷ c ∷ f ∷ []) (x ∷ []) y m t l e =
    let same : x ≡ 0x82 = cc (l.0) in
    record { role = high_length nests; begins = (tag, ap (λ (v : ℕ). tag ++ v ∷ []) same, t) }
size_part r d n nests tag (a ∷ c ∷ f ∷ []) (x ∷ z ∷ []) y m t l e =
    let same : x ≡ 0x82 = cc (l.0) in let same' : z ≡ c = cc in
    record { role = low_length nests c; begins = (tag, ap (λ (v : List ℕ). tag ++ v) (cc (same, same')), t, l.2, least_high r c f l.3 (omega (arith, l.1, l.4))) }
size_part r d n nests tag (a ∷ c ∷ f ∷ []) (x ∷ z ∷ w ∷ b) y m t l e = absurd (omega (arith, ap length e, length-append b (y ∷ m)))
size_part r d n nests tag (a ∷ c ∷ f ∷ g ∷ more) (x ∷ b) y m t l e = absurd l

-- a position
pub record Stands (r : Reading) (d room : ℕ) (b : List ℕ) : Type 0 where
  pub openers : List Opener
  pub at : ℕ
  pub role : Role
  pub left : ℕ
  pub position : Position r d room openers b at role left

here : (r : Reading) (d room : ℕ) (b : List ℕ) → Part r d b → length b < room → Stands r d room b
here r d room b p lt = record { openers = []; at = d; role = p.role; left = room - length b - 1; position = (none, [], b, refl, refl, p.begins, omega arith, refl) }

-- where the rest of a prefix begins
pub split : (a x b y : List ℕ) → a ++ x ≡ b ++ y → (((m : List ℕ) × (z : ℕ) × (a ≡ b ++ z ∷ m)) ⊎ ((m : List ℕ) × (b ≡ a ++ m) × (x ≡ m ++ y)))
split [] x b y e = inr (b, refl, e)
split (z ∷ a) x [] y e = inl (a, z, refl)
split (z ∷ a) x (w ∷ b) y e =
    let heads : z ≡ w = cc in
    elim (split a x b y (cc)) [
      | inl p ↦ inl (p.0, p.1, cc (heads, p.2))
      | inr p ↦ inr (p.0, cc (heads, p.1), p.2)
    ]

-- the parts of an object, and a prefix of them
position_in : (r : Reading) (d : ℕ) (nests : Bool) (one : Objects) (tag size content after s b : List ℕ) (y : ℕ) (x : List ℕ) → Tagged d nests tag → IsLength r (length content) size →
    s ≡ tag ++ (size ++ (content ++ after)) → s ≡ b ++ y ∷ x → Spells r d one (tag ++ (size ++ content)) →
    ((c : List ℕ) (z : ℕ) (m : List ℕ) → content ≡ c ++ z ∷ m → b ≡ tag ++ (size ++ c) → Stands r d (length s) b) →
    ((c : List ℕ) → after ≡ c ++ y ∷ x → Stands r d (length after) c) →
    Stands r d (length s) b
position_in r d nests one tag size content after s b y x t l whole e spelled inside later =
    by_tag (split tag (size ++ (content ++ after)) b (y ∷ x) (sym whole ∙ e))
  where
    short : length b < length s
    short = omega (arith, ap length e, length-append b (y ∷ x))

    by_content : (b₂ : List ℕ) → b ≡ tag ++ (size ++ b₂) → (((m : List ℕ) × (z : ℕ) × (content ≡ b₂ ++ z ∷ m)) ⊎ ((m : List ℕ) × (b₂ ≡ content ++ m) × (after ≡ m ++ y ∷ x))) → Stands r d (length s) b
    by_content b₂ e₂ (inl p) = inside b₂ p.1 p.0 p.2 e₂
    by_content b₂ e₂ (inr p) =
        let h = later p.0 p.2 in
        let a = tag ++ (size ++ content) in
        let q = position_after r d (length after) one a h.openers p.0 h.at h.role h.left spelled h.position in
        let total : length a + length after ≡ length s = omega (arith, ap length whole, parts_size tag size content after, length-append tag (size ++ content), length-append size content) in
        let same : a ++ p.0 ≡ b = simp (append_assoc, e₂, p.1) in
        record {
          openers = q.0;
          at = h.at;
          role = h.role;
          left = h.left;
          position = subst (λ (n : ℕ). Position r d n q.0 b h.at h.role h.left) total (subst (λ (v : List ℕ). Position r d (length a + length after) q.0 v h.at h.role h.left) same q.1);
        }

    by_size : (b₁ : List ℕ) → b ≡ tag ++ b₁ → (((m : List ℕ) × (z : ℕ) × (size ≡ b₁ ++ z ∷ m)) ⊎ ((m : List ℕ) × (b₁ ≡ size ++ m) × (content ++ after ≡ m ++ y ∷ x))) → Stands r d (length s) b
    by_size b₁ e₁ (inl p) = here r d (length s) b (subst (Part r d) (sym e₁) (size_part r d (length content) nests tag size b₁ p.1 p.0 t l p.2)) short
    by_size b₁ e₁ (inr p) = by_content p.0 (e₁ ∙ ap (λ (v : List ℕ). tag ++ v) p.1) (split content after p.0 (y ∷ x) p.2)

    by_tag : (((m : List ℕ) × (z : ℕ) × (tag ≡ b ++ z ∷ m)) ⊎ ((m : List ℕ) × (b ≡ tag ++ m) × (size ++ (content ++ after) ≡ m ++ y ∷ x))) → Stands r d (length s) b
    by_tag (inl p) = here r d (length s) b (tag_part r d nests tag b p.1 p.0 t p.2) short
    by_tag (inr p) = by_size p.0 p.1 (split size (content ++ after) p.0 (y ∷ x) p.2)

-- a prefix of a spelling is at a position
pub position_exists : (r : Reading) (d : ℕ) (f : Objects) (s b : List ℕ) (y : ℕ) (x : List ℕ) → Spells r d f s → s ≡ b ++ y ∷ x → Stands r d (length s) b
position_exists r d none s b y x p e = absurd (omega (arith, ap length p, ap length e, length-append b (y ∷ x)))
position_exists r d (primitive tag c rest) s b y x p e =
    let t : Tagged d false tag = record { is_tag = p.is_tag; is_kind = p.is_kind; deep = λ e. cc } in
    position_in r d false (primitive tag c none) tag p.size p.content p.after s b y x t p.is_length p.whole e
    (record { size = p.size; content = p.content; after = []; whole = simp append-nil; is_tag = p.is_tag; is_kind = p.is_kind; is_length = p.is_length; inside = p.inside; others = refl })
    (λ c z m k q. here r d (length s) b (record { role = in_content; begins = (tag, p.size, c, length p.content, q, t, p.is_length, omega (arith, ap length k, length-append c (z ∷ m))) }) (omega (arith, ap length e, length-append b (y ∷ x))))
    (λ c k. position_exists r d rest p.after c y x p.others k)
position_exists r d (constructed tag inner rest) s b y x p e =
    let t : Tagged d true tag = record { is_tag = p.is_tag; is_kind = p.is_kind; deep = λ e. p.inside.0 } in
    position_in r d true (constructed tag inner none) tag p.size p.content p.after s b y x t p.is_length p.whole e
    (record { size = p.size; content = p.content; after = []; whole = simp append-nil; is_tag = p.is_tag; is_kind = p.is_kind; is_length = p.is_length; inside = p.inside; others = refl })
    (λ c z m k q.
    let h = position_exists r (suc d) inner p.content c z m p.inside.1 k in
    record {
      openers = record { items = none; done = []; tag = tag; size = p.size; content = length p.content } ∷ h.openers;
      at = h.at;
      role = h.role;
      left = h.left;
      position = (c, q, refl, t, p.is_length, omega (arith, ap length k, length-append c (z ∷ m)), h.position);
    })
    (λ c k. position_exists r d rest p.after c y x p.others k)

-- what is alive and not whole is at a position
pub alive_stands : (r : Reading) (d room : ℕ) (b : List ℕ) → AliveIn r d room b → length b < room → Stands r d room b
alive_stands r d room b a lt = more a.rest refl
  where
    more : (x : List ℕ) → a.rest ≡ x → Stands r d room b
    more [] e = absurd (omega (arith, a.spelled.1, length-append b a.rest, ap length e))
    more (y ∷ x) e = subst (λ (n : ℕ). Stands r d n b) a.spelled.1 (position_exists r d a.value (b ++ a.rest) b y x a.spelled.0 (ap (λ (v : List ℕ). b ++ v) e))

-- the same of a length and its objects
pub record SizedStands (r : Reading) (room : ℕ) (b : List ℕ) : Type 0 where
  pub openers : List Opener
  pub at : ℕ
  pub role : Role
  pub left : ℕ
  pub position : PositionSized r room openers b at role left

-- a prefix of a length and its objects
pub sized_prefix : (r : Reading) (room : ℕ) (f : Objects) (one b : List ℕ) (y : ℕ) (x : List ℕ) → Sized r f one → one ≡ b ++ y ∷ x → length one ≤ room → SizedStands r room b
sized_prefix r room f one b y x p e within = by_size (split p.size p.content b (y ∷ x) (sym p.whole ∙ e))
  where
    by_size : (((m : List ℕ) × (z : ℕ) × (p.size ≡ b ++ z ∷ m)) ⊎ ((m : List ℕ) × (b ≡ p.size ++ m) × (p.content ≡ m ++ y ∷ x))) → SizedStands r room b
    by_size (inl q) =
        let h = size_part r 0 (length p.content) true (0x25 ∷ []) p.size b q.1 q.0 (record { is_tag = (omega arith, refl); is_kind = refl; deep = λ e. omega arith }) p.is_length q.2 in
        record {
          openers = [];
          at = 0;
          role = h.role;
          left = room - length b - 1;
          position = (h.begins, omega (arith, within, ap length e, length-append b (y ∷ x)), refl);
        }
    by_size (inr q) =
        let h = position_exists r 1 f p.content q.0 y x p.inside q.2 in
        record {
          openers = record { items = none; done = []; tag = []; size = p.size; content = length p.content } ∷ h.openers;
          at = h.at;
          role = h.role;
          left = h.left;
          position = (q.0, q.1, p.is_length, omega (arith, ap length q.2, length-append q.0 (y ∷ x)), h.position);
        }

pub sized_stands : (r : Reading) (room : ℕ) (b : List ℕ) → Unfinished (SizedIn r room) b → SizedStands r room b
sized_stands r room b u = by_rest u.alive.rest refl
  where
    by_rest : (rest : List ℕ) → u.alive.rest ≡ rest → SizedStands r room b
    by_rest [] e = absurd (u.none_whole u.alive.value b [] (sym (append-nil b)) (subst (SizedIn r room u.alive.value) (ap (λ (v : List ℕ). b ++ v) e ∙ append-nil b) u.alive.spelled))
    by_rest (y ∷ x) e =
        sized_prefix r room u.alive.value (b ++ u.alive.rest) b y x u.alive.spelled.spelled (ap (λ (v : List ℕ). b ++ v) e) (omega (arith, u.alive.spelled.filled))
