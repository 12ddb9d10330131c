-- One write after another.
use Rattle.std.proofs.Common.{◌≡◌, ◌^◌, ℕ, Bool, true, false, ◌+◌, ◌-◌, ◌<◌, ◌≤◌, List, [], ◌∷◌, ◌++◌, length, take, drop, get_or, refl, sym, ◌∙◌, ap, subst, append_assoc, arith, length-append, length-drop, suc, ◌⊎◌, inl, inr, ◌/◌, ◌%◌}
use Rattle.std.proofs.lemmas.List.{take-append-drop, take_rest, take_at, drop_at, drop-drop, drop_all, append-nil, take_more}
use Rattle.std.proofs.lemmas.Bool.{cond-true, cond-false, lt-ltb, le-ltb, cases_lt}
use Rattle.std.specs.declared.vec.Vec.{Vec}
use Rattle.std.specs.declared.alloc.Global.{Global}
use borrow.Rule.Slice.PartMut.{put_mid}
use Rattle.zvt_tlv.specs.declared.trees.Tlv.{Tlv}
use Rattle.zvt_tlv.specs.declared.trees.Body.TheVariants.{Prim, Cons}
use Rattle.zvt_grammar.specs.Reading.{shortest}
use Rattle.zvt_tlv.specs.Grammar.{Parts, Objects, none, primitive, constructed, IsLength, Spells}
use Rattle.zvt_tlv.specs.Trees.{before, objects_of}
use Rattle.zvt_tlv.specs.Sizes.{length_size, size_of, length_bytes, whole, spelling, Puts, Writes}
use Rattle.zvt_tlv.specs.Sized.{Sized}
use Rattle.zvt_tlv.specs.Spelled.{HasSpelling}
use Rattle.zvt_tlv.proofs.Spelling.{joined, from}
use Rattle.zvt_tlv.proofs.TreeLemmas.{before_at_prim, before_at_cons, objects_joined}

abbrev pub PutAll : List ℕ → (n m : ℕ) → (old mid sub : List ℕ) → Type 0
PutAll bytes n m old mid sub = (put_mid n (length mid - n) mid sub ≡ bytes ++ drop (length bytes) old) × (n + m ≡ length bytes)

pub puts_after : (a b old mid sub : List ℕ) (n m : ℕ) → Puts a old mid n → Puts b (from n mid) sub m → PutAll (a ++ b) n m old mid sub
puts_after a b old mid sub n m p q =
    let prefix : take n mid ≡ a = ap (take n) p.0 ∙ take_at a (drop (length a) old) n (sym p.1) in
    let trailing : from n mid ≡ drop (length a) old = take_rest mid n ∙ ap (drop n) p.0 ∙ drop_at a (drop (length a) old) n (sym p.1) in
    let later : sub ≡ b ++ drop (length a + length b) old = q.0 ∙ ap (λ (s : List ℕ). b ++ drop (length b) s) trailing ∙ ap (λ (s : List ℕ). b ++ s) (drop-drop (length b) (length a) old) in
    let none : drop (length mid - n) (drop n mid) ≡ [] = drop_all (length mid - n) (drop n mid) (omega (arith, length-drop n mid)) in
    let size : length (a ++ b) ≡ length a + length b = length-append a b in (
      ap (λ (s : List ℕ). s ++ (sub ++ drop (length mid - n) (drop n mid))) prefix
          ∙ ap (λ (s : List ℕ). a ++ (sub ++ s)) none
          ∙ ap (λ (s : List ℕ). a ++ s) (append-nil sub)
          ∙ ap (λ (s : List ℕ). a ++ s) later
          ∙ sym (append_assoc a b (drop (length a + length b) old))
          ∙ ap (λ (k : ℕ). (a ++ b) ++ drop k old) (sym size),
      omega (arith, p.1, q.1, size),
    )

pub puts_prim : (t : Tlv) (v : Vec ℕ Global) (c old mid sub : List ℕ) (n m : ℕ) → t.body ≡ Prim v → c ≡ v.items → Puts (t.tag ++ length_bytes (length v.items)) old mid n →
    Puts c (from n mid) sub m → PutAll (spelling (before t none)) n m old mid sub
puts_prim t v c old mid sub n m e is p q =
    let same : (t.tag ++ length_bytes (length v.items)) ++ v.items ≡ spelling (before t none) =
    append_assoc t.tag (length_bytes (length v.items)) v.items ∙ sym (append-nil (whole t.tag v.items)) ∙ ap spelling (sym (before_at_prim t v none e)) in
    subst (λ (s : List ℕ). PutAll s n m old mid sub) same (puts_after (t.tag ++ length_bytes (length v.items)) v.items old mid sub n m p (subst (λ (s : List ℕ). Puts s (from n mid) sub m) is q))

pub length_sizes : (n : ℕ) → length (length_bytes n) ≡ length_size n
length_sizes n = by_size (cases_lt n 128) (cases_lt n 256)
  where
    by_size : ((n < 128) ⊎ (128 ≤ n)) → ((n < 256) ⊎ (256 ≤ n)) → length (length_bytes n) ≡ length_size n
    by_size (inl lt) _ = ap length (cond-true _ _ _ (lt-ltb n 128 lt)) ∙ sym (cond-true _ _ _ (lt-ltb n 128 lt))
    by_size (inr ge) (inl lt) = ap length (cond-false _ _ _ (le-ltb n 128 ge) ∙ cond-true _ _ _ (lt-ltb n 256 lt)) ∙ sym (cond-false _ _ _ (le-ltb n 128 ge) ∙ cond-true _ _ _ (lt-ltb n 256 lt))
    by_size (inr ge) (inr more) = ap length (cond-false _ _ _ (le-ltb n 128 ge) ∙ cond-false _ _ _ (le-ltb n 256 more)) ∙ sym (cond-false _ _ _ (le-ltb n 128 ge) ∙ cond-false _ _ _ (le-ltb n 256 more))

pub spelling_size : (f : Objects) → length (spelling f) ≡ size_of f
spelling_size none = refl
spelling_size (primitive tag c rest) =
    omega (arith, length-append (whole tag c) (spelling rest), length-append tag (length_bytes (length c) ++ c), length-append (length_bytes (length c)) c, length_sizes (length c), spelling_size rest)
spelling_size (constructed tag inner rest) =
    let c = spelling inner in
    let i = spelling_size inner in
    omega (arith, length-append (whole tag c) (spelling rest), length-append tag (length_bytes (length c) ++ c), length-append (length_bytes (length c)) c, length_sizes (length c), ap length_size i, i, spelling_size rest)

pub puts_cons : (t : Tlv) (v : Vec Tlv Global) (us ws : List Tlv) (size : ℕ) (old mid sub : List ℕ) (n m : ℕ) → t.body ≡ Cons v → us ≡ v.items → ws ≡ v.items → size ≡ size_of (objects_of us) → Puts (t.tag ++ length_bytes size) old mid n →
    Puts (spelling (objects_of ws)) (from n mid) sub m → PutAll (spelling (before t none)) n m old mid sub
puts_cons t v us ws size old mid sub n m e is is' sized p q =
    let c = spelling (objects_of v.items) in
    let sizes : size ≡ length c = sized ∙ ap (λ (x : List Tlv). size_of (objects_of x)) is ∙ sym (spelling_size (objects_of v.items)) in
    let same : (t.tag ++ length_bytes (length c)) ++ c ≡ spelling (before t none) =
    append_assoc t.tag (length_bytes (length c)) c ∙ sym (append-nil (whole t.tag c)) ∙ ap spelling (sym (before_at_cons t v none e)) in
    subst (λ (s : List ℕ). PutAll s n m old mid sub) same
    (puts_after (t.tag ++ length_bytes (length c)) c old mid sub n m (subst (λ (k : ℕ). Puts (t.tag ++ length_bytes k) old mid n) sizes p)
    (subst (λ (x : List Tlv). Puts (spelling (objects_of x)) (from n mid) sub m) is' q))

pub spelling_joined : (f g : Objects) → spelling (joined f g) ≡ spelling f ++ spelling g
spelling_joined none g = refl
spelling_joined (primitive tag c rest) g = ap (λ (s : List ℕ). whole tag c ++ s) (spelling_joined rest g) ∙ sym (append_assoc (whole tag c) (spelling rest) (spelling g))
spelling_joined (constructed tag inner rest) g = ap (λ (s : List ℕ). whole tag (spelling inner) ++ s) (spelling_joined rest g) ∙ sym (append_assoc (whole tag (spelling inner)) (spelling rest) (spelling g))

pub spelling_more : (ts : List Tlv) (i : ℕ) (t : Tlv) → i < length ts → t ≡ get_or ts i t → spelling (objects_of (take (i + 1) ts)) ≡ spelling (objects_of (take i ts)) ++ spelling (before t none)
spelling_more ts i t lt is =
    ap (λ (x : List Tlv). spelling (objects_of x)) (take_more ts i t lt ∙ ap (λ (x : Tlv). take i ts ++ x ∷ []) (sym is))
    ∙ ap spelling (objects_joined (take i ts) (t ∷ [])) ∙ spelling_joined (objects_of (take i ts)) (before t none)

pub puts_next : (ts : List Tlv) (i : ℕ) (t : Tlv) (old mid sub : List ℕ) (n m : ℕ) → i < length ts → t ≡ get_or ts i t → Puts (spelling (objects_of (take i ts))) old mid n →
    Puts (spelling (before t none)) (from n mid) sub m → PutAll (spelling (objects_of (take (i + 1) ts))) n m old mid sub
puts_next ts i t old mid sub n m lt is p q =
    subst (λ (s : List ℕ). PutAll s n m old mid sub) (sym (spelling_more ts i t lt is))
    (puts_after (spelling (objects_of (take i ts))) (spelling (before t none)) old mid sub n m p q)

-- an object has its place in what is left
pub size_before : (ts : List Tlv) (i : ℕ) (t : Tlv) → i < length ts → t ≡ get_or ts i t →
    length (spelling (objects_of (take i ts))) + size_of (before t none) ≤ size_of (objects_of ts)
size_before ts i t lt is =
    let whole : spelling (objects_of ts) ≡ spelling (objects_of (take (i + 1) ts)) ++ spelling (objects_of (drop (i + 1) ts)) =
    ap (λ (x : List Tlv). spelling (objects_of x)) (sym (take-append-drop (i + 1) ts)) ∙ ap spelling (objects_joined (take (i + 1) ts) (drop (i + 1) ts)) ∙ spelling_joined (objects_of (take (i + 1) ts)) (objects_of (drop (i + 1) ts)) in
    omega (
      arith,
      ap length whole,
      length-append (spelling (objects_of (take (i + 1) ts))) (spelling (objects_of (drop (i + 1) ts))),
      ap length (spelling_more ts i t lt is),
      length-append (spelling (objects_of (take i ts))) (spelling (before t none)),
      spelling_size (before t none),
      spelling_size (objects_of ts),
    )

-- what is left after a write
pub room_after : (a old mid : List ℕ) (n k : ℕ) → Puts a old mid n → length a + k ≤ length old → k ≤ length (from n mid)
room_after a old mid n k p room =
    omega (arith, p.1, ap length p.0, length-append a (drop (length a) old), length-drop (length a) old, ap length (take_rest mid n), length-drop n mid)

pub room_before : (ts : List Tlv) (i : ℕ) (t : Tlv) (old out : List ℕ) (n : ℕ) → i < length ts → t ≡ get_or ts i t → size_of (objects_of ts) ≤ length old →
    Puts (spelling (objects_of (take i ts))) old out n → size_of (before t none) ≤ length (from n out)
room_before ts i t old out n lt is room p =
    room_after (spelling (objects_of (take i ts))) old out n (size_of (before t none)) p (omega (arith, size_before ts i t lt is))

-- length_bytes is the shortest length
pub is_length : (n : ℕ) → n < 2 ^ 16 → IsLength shortest n (length_bytes n)
is_length n lt = by_size (cases_lt n 128) (cases_lt n 256)
  where
    by_size : ((n < 128) ⊎ (128 ≤ n)) → ((n < 256) ⊎ (256 ≤ n)) → IsLength shortest n (length_bytes n)
    by_size (inl less) _ = subst (IsLength shortest n) (sym (cond-true _ _ _ (lt-ltb n 128 less))) (less, refl)
    by_size (inr ge) (inl less) = subst (IsLength shortest n) (sym (cond-false _ _ _ (le-ltb n 128 ge) ∙ cond-true _ _ _ (lt-ltb n 256 less))) (refl, ge, less, refl)
    by_size (inr ge) (inr more) = subst (IsLength shortest n) (sym (cond-false _ _ _ (le-ltb n 128 ge) ∙ cond-false _ _ _ (le-ltb n 256 more))) (refl, more, omega arith, omega arith, omega arith)

-- the shortest length is that of length_bytes
pub length_spelled : (n : ℕ) (s : List ℕ) → IsLength shortest n s → s ≡ length_bytes n
length_spelled n [] l = absurd l
length_spelled n (a ∷ []) l = ap (λ (x : ℕ). x ∷ []) l.1 ∙ sym (cond-true _ _ _ (lt-ltb n 128 l.0))
length_spelled n (a ∷ b ∷ []) l =
    let e : a ∷ b ∷ [] ≡ 0x81 ∷ n ∷ [] = cc (l.0, l.3) in
    e ∙ sym (cond-false _ _ _ (le-ltb n 128 l.1) ∙ cond-true _ _ _ (lt-ltb n 256 l.2))
length_spelled n (a ∷ b ∷ c ∷ []) l =
    let ge : 128 ≤ n = omega (arith, l.1) in
    let high : b ≡ n / 256 = omega (arith, l.2, l.3, l.4) in
    let low : c ≡ n % 256 = omega (arith, l.2, l.3, l.4) in
    let e : a ∷ b ∷ c ∷ [] ≡ 0x82 ∷ (n / 256) ∷ (n % 256) ∷ [] = cc (l.0, high, low) in
    e ∙ sym (cond-false _ _ _ (le-ltb n 128 ge) ∙ cond-false _ _ _ (le-ltb n 256 l.1))
length_spelled n (a ∷ b ∷ c ∷ d ∷ s) l = absurd l

-- an object's parts, where its content and what follows it are known
whole_spelled : (k : Bool) (tag s c rest : List ℕ) (C A : List ℕ → Type 0) → (p : Parts shortest k tag C A s) → p.content ≡ c → p.after ≡ rest → s ≡ whole tag c ++ rest
whole_spelled k tag s c rest C A p contents afters =
    let size : p.size ≡ length_bytes (length c) = length_spelled (length p.content) p.size p.is_length ∙ ap (λ (v : List ℕ). length_bytes (length v)) contents in
    let together : (tag ++ (length_bytes (length c) ++ c)) ++ rest ≡ tag ++ (length_bytes (length c) ++ (c ++ rest)) = simp append_assoc in
    p.whole ∙ ap (λ (v : List ℕ). tag ++ (v ++ (p.content ++ p.after))) size ∙ ap (λ (v : List ℕ). tag ++ (length_bytes (length c) ++ (v ++ p.after))) contents
    ∙ ap (λ (v : List ℕ). tag ++ (length_bytes (length c) ++ (c ++ v))) afters ∙ sym together

-- the shortest spelling is that of spelling
pub spelled : (d : ℕ) (f : Objects) (s : List ℕ) → Spells shortest d f s → s ≡ spelling f
spelled d none s p = p
spelled d (primitive tag c rest) s p = whole_spelled false tag s c (spelling rest) _ _ p p.inside.0 (spelled d rest p.after p.others)
spelled d (constructed tag inner rest) s p = whole_spelled true tag s (spelling inner) (spelling rest) _ _ p (spelled (suc d) inner p.content p.inside.1) (spelled d rest p.after p.others)

-- the size of a spelling
pub spelled_size : (d : ℕ) (f : Objects) (s : List ℕ) → Spells shortest d f s → size_of f ≡ length s
spelled_size d f s p = sym (ap length (spelled d f s p) ∙ spelling_size f)

pub room_sized : (f g : Objects) (size : ℕ) (old mid : List ℕ) (n : ℕ) → g ≡ f → size ≡ size_of f → Puts (length_bytes size) old mid n → length_size (size_of f) + size_of f ≤ length old → size_of g ≤ length (from n mid)
room_sized f g size old mid n same sized p room =
    room_after (length_bytes size) old mid n (size_of g) p (omega (arith, length_sizes size, ap length_size sized, ap size_of same))

-- what is written is the spelling
pub writes_spelling : (f : Objects) (old new : List ℕ) (n : ℕ) → HasSpelling f → Puts (spelling f) old new n → Writes (Spells shortest 1 f) old new n
writes_spelling f old new n h p =
    record { bytes = spelling f; spelled = subst (Spells shortest 1 f) (spelled 1 f h.bytes h.spelled) h.spelled; prefix = p.0; size = p.1 }

-- and so is what is written after its length
pub writes_sized : (f g : Objects) (size : ℕ) (old mid sub : List ℕ) (n m : ℕ) → HasSpelling f → f ≡ g → size ≡ size_of f → Puts (length_bytes size) old mid n → Puts (spelling g) (from n mid) sub m →
    Writes (Sized shortest f) old (put_mid n (length mid - n) mid sub) (n + m)
writes_sized f g size old mid sub n m h same sized p q =
    let sizes : size ≡ length (spelling f) = sized ∙ sym (spelling_size f) in
    let all = puts_after (length_bytes size) (spelling f) old mid sub n m p (subst (λ (o : Objects). Puts (spelling o) (from n mid) sub m) (sym same) q) in
    let whole : spelling f ≡ h.bytes = sym (spelled 1 f h.bytes h.spelled) in
    record {
      bytes = length_bytes size ++ spelling f;
      spelled = record {
        size = length_bytes size;
        content = spelling f;
        whole = refl;
        is_length = subst (λ (k : ℕ). IsLength shortest k (length_bytes size)) sizes (is_length size (omega (arith, sizes, ap length whole, h.small)));
        inside = subst (Spells shortest 1 f) (sym whole) h.spelled;
      };
      prefix = all.0;
      size = all.1;
    }
