-- Why bytes spell one list of objects: no tag and no length begins another.
use Rattle.std.proofs.Common.{◌≡◌, ◌≢◌, ℕ, Bool, true, false, ◌+◌, ◌-◌, take, drop, ◌<◌, ◌≤◌, List, [], ◌∷◌, ◌++◌, length, refl, sym, ◌∙◌, ap, subst, append_assoc, arith, length-append, suc}
use Rattle.zvt_grammar.specs.Reading.{Reading}
use Rattle.std.proofs.lemmas.List.{append-nil}
use Rattle.zvt_tlv.specs.Grammar.{Parts, Objects, none, primitive, constructed, IsTag, IsLength, Spells, is_constructed}

-- no tag begins another
pub tag_prefix : (a b x y : List ℕ) → IsTag a → IsTag b → a ++ x ≡ b ++ y → (a ≡ b) × (x ≡ y)
tag_prefix [] b x y p q e = absurd p
tag_prefix (a ∷ []) [] x y p q e = absurd q
tag_prefix (a ∷ []) (c ∷ []) x y p q e = (cc, cc)
tag_prefix (a ∷ []) (c ∷ d ∷ []) x y p q e = absurd (cc (p.1, q.1))
tag_prefix (a ∷ []) (c ∷ d ∷ f ∷ []) x y p q e = absurd (cc (p.1, q.1))
tag_prefix (a ∷ []) (c ∷ d ∷ f ∷ g ∷ h) x y p q e = absurd q
tag_prefix (a ∷ b ∷ []) [] x y p q e = absurd q
tag_prefix (a ∷ b ∷ []) (c ∷ []) x y p q e = absurd (cc (p.1, q.1))
tag_prefix (a ∷ b ∷ []) (c ∷ d ∷ []) x y p q e = (cc, cc)
tag_prefix (a ∷ b ∷ []) (c ∷ d ∷ f ∷ []) x y p q e = let same : b ≡ d = cc in absurd (omega (arith, p.2, q.2))
tag_prefix (a ∷ b ∷ []) (c ∷ d ∷ f ∷ g ∷ h) x y p q e = absurd q
tag_prefix (a ∷ b ∷ z ∷ []) [] x y p q e = absurd q
tag_prefix (a ∷ b ∷ z ∷ []) (c ∷ []) x y p q e = absurd (cc (p.1, q.1))
tag_prefix (a ∷ b ∷ z ∷ []) (c ∷ d ∷ []) x y p q e = let same : b ≡ d = cc in absurd (omega (arith, p.2, q.2))
tag_prefix (a ∷ b ∷ z ∷ []) (c ∷ d ∷ f ∷ []) x y p q e = (cc, cc)
tag_prefix (a ∷ b ∷ z ∷ []) (c ∷ d ∷ f ∷ g ∷ h) x y p q e = absurd q
tag_prefix (a ∷ b ∷ z ∷ w ∷ v) b' x y p q e = absurd p

-- no length begins another, and each says one number
pub length_prefix : (r : Reading) (m n : ℕ) (a b x y : List ℕ) → IsLength r m a → IsLength r n b → a ++ x ≡ b ++ y →
    (a ≡ b) × (m ≡ n) × (x ≡ y)
length_prefix r m n [] b x y p q e = absurd p
length_prefix r m n (a ∷ []) [] x y p q e = absurd q
length_prefix r m n (a ∷ []) (c ∷ []) x y p q e = (cc, cc (p.1, q.1), cc)
length_prefix r m n (a ∷ []) (c ∷ d ∷ []) x y p q e = let same : a ≡ c = cc in absurd (omega (arith, p.0, p.1, q.0))
length_prefix r m n (a ∷ []) (c ∷ d ∷ f ∷ []) x y p q e = let same : a ≡ c = cc in absurd (omega (arith, p.0, p.1, q.0))
length_prefix r m n (a ∷ []) (c ∷ d ∷ f ∷ g ∷ h) x y p q e = absurd q
length_prefix r m n (a ∷ b ∷ []) [] x y p q e = absurd q
length_prefix r m n (a ∷ b ∷ []) (c ∷ []) x y p q e = let same : a ≡ c = cc in absurd (omega (arith, q.0, q.1, p.0))
length_prefix r m n (a ∷ b ∷ []) (c ∷ d ∷ []) x y p q e = (cc, cc (p.3, q.3), cc)
length_prefix r m n (a ∷ b ∷ []) (c ∷ d ∷ f ∷ []) x y p q e = let same : a ≡ c = cc in absurd (omega (arith, p.0, q.0))
length_prefix r m n (a ∷ b ∷ []) (c ∷ d ∷ f ∷ g ∷ h) x y p q e = absurd q
length_prefix r m n (a ∷ b ∷ z ∷ []) [] x y p q e = absurd q
length_prefix r m n (a ∷ b ∷ z ∷ []) (c ∷ []) x y p q e = let same : a ≡ c = cc in absurd (omega (arith, q.0, q.1, p.0))
length_prefix r m n (a ∷ b ∷ z ∷ []) (c ∷ d ∷ []) x y p q e = let same : a ≡ c = cc in absurd (omega (arith, p.0, q.0))
length_prefix r m n (a ∷ b ∷ z ∷ []) (c ∷ d ∷ f ∷ []) x y p q e =
    let high : b ≡ d = cc in let low : z ≡ f = cc in (cc, omega (arith, p.4, q.4), cc)
length_prefix r m n (a ∷ b ∷ z ∷ []) (c ∷ d ∷ f ∷ g ∷ h) x y p q e = absurd q
length_prefix r m n (a ∷ b ∷ z ∷ w ∷ v) b' x y p q e = absurd p

-- the bytes from a place on, as code reads them
abbrev pub from : ℕ → List ℕ → List ℕ
from k bytes = take (length bytes - k) (drop k bytes)

-- prefixes of one length are one
pub same_prefix : (a b x y : List ℕ) → length a ≡ length b → a ++ x ≡ b ++ y → (a ≡ b) × (x ≡ y)
same_prefix [] [] x y l e = (refl, e)
same_prefix [] (b ∷ vs) x y l e = absurd (omega arith)
same_prefix (a ∷ us) [] x y l e = absurd (omega arith)
same_prefix (a ∷ us) (b ∷ vs) x y l e =
    let head : a ≡ b = cc in
    let more = same_prefix us vs x y (omega arith) (cc) in (cc (more.0), more.1)

pub tag_size : (t : List ℕ) → IsTag t → 0 < length t
tag_size [] p = absurd p
tag_size (a ∷ t) p = omega arith

pub length_size : (r : Reading) (n : ℕ) (s : List ℕ) → IsLength r n s → 0 < length s
length_size r n [] p = absurd p
length_size r n (a ∷ s) p = omega arith

-- the sizes of an object's parts
pub parts_size : (a b c d : List ℕ) → length (a ++ (b ++ (c ++ d))) ≡ length a + (length b + (length c + length d))
parts_size a b c d = simp length-append

-- an object has two bytes at least
pub parts_some : (r : Reading) (k : Bool) (tag s : List ℕ) (C A : List ℕ → Type 0) → Parts r k tag C A s → 2 ≤ length s
parts_some r k tag s C A p =
    omega (arith, ap length p.whole, parts_size tag p.size p.content p.after, tag_size tag p.is_tag, length_size r (length p.content) p.size p.is_length)

-- no objects have one byte
pub not_single : (r : Reading) (d : ℕ) (f : Objects) (s : List ℕ) → Spells r d f s → length s ≢ 1
not_single r d none s p e = absurd (omega (arith, ap length p))
not_single r d (primitive tag content rest) s p e = absurd (omega (arith, e, parts_some r false tag s _ _ p))
not_single r d (constructed tag inner rest) s p e = absurd (omega (arith, e, parts_some r true tag s _ _ p))

-- one list of objects, then another
abbrev pub joined : Objects → Objects → Objects
joined none g = g
joined (primitive tag content rest) g = primitive tag content (joined rest g)
joined (constructed tag inner rest) g = constructed tag inner (joined rest g)

pub regroup : (a b c d e : List ℕ) → (a ++ (b ++ (c ++ d))) ++ e ≡ a ++ (b ++ (c ++ (d ++ e)))
regroup a b c d e = simp append_assoc

-- an object, and more after it
parts_more : (r : Reading) (k : Bool) (tag a b : List ℕ) (C A B : List ℕ → Type 0) → (p : Parts r k tag C A a) → B (p.after ++ b) → Parts r k tag C B (a ++ b)
parts_more r k tag a b C A B p others = record {
  size = p.size;
  content = p.content;
  after = p.after ++ b;
  whole = ap (λ (x : List ℕ). x ++ b) p.whole ∙ regroup tag p.size p.content p.after b;
  is_tag = p.is_tag;
  is_kind = p.is_kind;
  is_length = p.is_length;
  inside = p.inside;
  others = others;
}

pub spells_joined : (r : Reading) (d : ℕ) (f g : Objects) (a b : List ℕ) → Spells r d f a → Spells r d g b → Spells r d (joined f g) (a ++ b)
spells_joined r d none g a b p q = let e : b ≡ a ++ b = rw p refl in subst (Spells r d g) e q
spells_joined r d (primitive tag content rest) g a b p q =
    parts_more r false tag a b _ _ (Spells r d (joined rest g)) p (spells_joined r d rest g p.after b p.others q)
spells_joined r d (constructed tag inner rest) g a b p q =
    parts_more r true tag a b _ _ (Spells r d (joined rest g)) p (spells_joined r d rest g p.after b p.others q)

-- what two beginnings of objects have in common
pub record Shared (n m : ℕ) (tag tag' size size' content content' after after' : List ℕ) : Type 0 where
  pub tags : tag ≡ tag'
  pub sizes : size ≡ size'
  pub numbers : n ≡ m
  pub contents : content ≡ content'
  pub afters : after ≡ after'

pub shared : (r : Reading) (tag tag' size size' content content' after after' : List ℕ) → IsTag tag → IsTag tag' →
    IsLength r (length content) size → IsLength r (length content') size' →
    tag ++ (size ++ (content ++ after)) ≡ tag' ++ (size' ++ (content' ++ after')) →
    Shared (length content) (length content') tag tag' size size' content content' after after'
shared r tag tag' size size' content content' after after' t t' l l' e =
    let one = tag_prefix tag tag' _ _ t t' e in
    let two = length_prefix r _ _ size size' _ _ l l' one.1 in
    let three = same_prefix content content' after after' two.1 two.2 in
    record { tags = one.0; sizes = two.0; numbers = two.1; contents = three.0; afters = three.1 }

-- the same of two objects, one after the start of the other
pub shared_parts : (r : Reading) (k k' : Bool) (tag tag' a b s : List ℕ) (C A C' A' : List ℕ → Type 0) → (p : Parts r k tag C A a) → (q : Parts r k' tag' C' A' b) → a ++ s ≡ b →
    Shared (length p.content) (length q.content) tag tag' p.size q.size p.content q.content (p.after ++ s) q.after
shared_parts r k k' tag tag' a b s C A C' A' p q e =
    shared r tag tag' p.size q.size p.content q.content (p.after ++ s) q.after p.is_tag q.is_tag p.is_length q.is_length
    (sym (regroup tag p.size p.content p.after s) ∙ ap (λ (x : List ℕ). x ++ s) (sym p.whole) ∙ e ∙ q.whole)

-- what follows the objects that come first is objects
pub after_objects : (r : Reading) (d : ℕ) (f g : Objects) (a s : List ℕ) → Spells r d f a → Spells r d g (a ++ s) →
    (h : Objects) × Spells r d h s
after_objects r d none g a s p q = (g, let e : a ++ s ≡ s = rw p refl in subst (Spells r d g) e q)
after_objects r d (primitive tag content rest) none a s p q = absurd (omega (arith, ap length q, length-append a s, parts_some r false tag a _ _ p))
after_objects r d (constructed tag inner rest) none a s p q = absurd (omega (arith, ap length q, length-append a s, parts_some r true tag a _ _ p))
after_objects r d (primitive tag content rest) (primitive tag' content' rest') a s p q =
    let e = shared_parts r false false tag tag' a (a ++ s) s _ _ _ _ p q refl in
    after_objects r d rest rest' p.after s p.others (subst (Spells r d rest') (sym e.afters) q.others)
after_objects r d (primitive tag content rest) (constructed tag' inner' rest') a s p q =
    let e = shared_parts r false true tag tag' a (a ++ s) s _ _ _ _ p q refl in
    after_objects r d rest rest' p.after s p.others (subst (Spells r d rest') (sym e.afters) q.others)
after_objects r d (constructed tag inner rest) (primitive tag' content' rest') a s p q =
    let e = shared_parts r true false tag tag' a (a ++ s) s _ _ _ _ p q refl in
    after_objects r d rest rest' p.after s p.others (subst (Spells r d rest') (sym e.afters) q.others)
after_objects r d (constructed tag inner rest) (constructed tag' inner' rest') a s p q =
    let e = shared_parts r true true tag tag' a (a ++ s) s _ _ _ _ p q refl in
    after_objects r d rest rest' p.after s p.others (subst (Spells r d rest') (sym e.afters) q.others)

-- bytes spell one list of objects at most
pub one_tree : (r : Reading) (d : ℕ) (f g : Objects) (a b : List ℕ) → a ≡ b → Spells r d f a → Spells r d g b → f ≡ g
one_tree r d none none a b same p q = refl
one_tree r d none (primitive tag content rest) a b same p q = absurd (omega (arith, ap length p, ap length same, parts_some r false tag b _ _ q))
one_tree r d none (constructed tag inner rest) a b same p q = absurd (omega (arith, ap length p, ap length same, parts_some r true tag b _ _ q))
one_tree r d (primitive tag content rest) none a b same p q = absurd (omega (arith, ap length q, ap length same, parts_some r false tag a _ _ p))
one_tree r d (constructed tag inner rest) none a b same p q = absurd (omega (arith, ap length q, ap length same, parts_some r true tag a _ _ p))
one_tree r d (primitive tag content rest) (primitive tag' content' rest') a b same p q =
    let e = shared_parts r false false tag tag' a b [] _ _ _ _ p q (append-nil a ∙ same) in
    let more = one_tree r d rest rest' p.after q.after (sym (append-nil p.after) ∙ e.afters) p.others q.others in
    let tags : tag ≡ tag' = e.tags in
    let contents : content ≡ content' = sym p.inside.0 ∙ e.contents ∙ q.inside.0 in
    cc
one_tree r d (primitive tag content rest) (constructed tag' inner' rest') a b same p q =
    let e = shared_parts r false true tag tag' a b [] _ _ _ _ p q (append-nil a ∙ same) in absurd (cc (ap is_constructed e.tags, p.is_kind, q.is_kind))
one_tree r d (constructed tag inner rest) (primitive tag' content' rest') a b same p q =
    let e = shared_parts r true false tag tag' a b [] _ _ _ _ p q (append-nil a ∙ same) in absurd (cc (ap is_constructed e.tags, p.is_kind, q.is_kind))
one_tree r d (constructed tag inner rest) (constructed tag' inner' rest') a b same p q =
    let e = shared_parts r true true tag tag' a b [] _ _ _ _ p q (append-nil a ∙ same) in
    let more = one_tree r d rest rest' p.after q.after (sym (append-nil p.after) ∙ e.afters) p.others q.others in
    let within = one_tree r (suc d) inner inner' p.content q.content e.contents p.inside.1 q.inside.1 in
    let tags : tag ≡ tag' = e.tags in
    cc
