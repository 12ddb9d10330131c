-- The writer puts the spelling of each field after those that stand.
use Rattle.std.proofs.Common.{◌≡◌, ℕ, ◌+◌, ◌<◌, ◌≤◌, List, [], ◌∷◌, ◌++◌, length, take, drop, get_or, sym, ◌∙◌, ap, subst, arith, length-append, length-drop}
use Rattle.std.proofs.lemmas.List.{append-nil, take_more, take_rest, take_all, take-append-drop}
use Rattle.std.specs.declared.vec.Vec.{Vec}
use Rattle.std.specs.declared.alloc.Global.{Global}
use Rattle.zvt_grammar.specs.Reading.{shortest}
use Rattle.zvt_tlv.specs.Grammar.{Objects}
use Rattle.zvt_tlv.specs.Sized.{Sized}
use Rattle.zvt_tlv.specs.Sizes.{Puts, Writes, length_size, size_of}
use Rattle.zvt_tlv.proofs.Spelling.{from}
use Rattle.zvt_tlv.proofs.Writing.{PutAll, puts_after}
use Rattle.zvt_field.proofs.SizedSpelling.{sized_size, sized_spelled}
use Rattle.zvt_field.specs.declared.bodies.FieldBody.{FieldBody}
use Rattle.zvt_field.specs.declared.bodies.FieldBody.TheVariants.{Bytes, Tree}
use Rattle.zvt_field.specs.Shapes.{shape_of}
use Rattle.zvt_field.specs.Grammar.{Field, plain, tree, FieldList}
use Rattle.zvt_field.specs.Spelling.{count_bytes, spelling_of, spelling_of_all}
use Rattle.zvt_field.specs.Bodies.{field_of, name_of, HaveSpelling}
use Rattle.zvt_field.proofs.Spellings.{list_spelled, all_joined}

pub puts_plain : (f : Field) (body : FieldBody) (v : Vec ℕ Global) (bmp n k m : ℕ) (content old mid sub : List ℕ) → field_of (name_of f) body ≡ f → body ≡ Bytes v → bmp ≡ name_of f → n ≡ length v.items → content ≡ v.items →
    Puts (bmp ∷ count_bytes (shape_of bmp) n) old mid k → Puts content (from k mid) sub m → PutAll (spelling_of f) k m old mid sub
puts_plain f body v bmp n k m content old mid sub same is name long all p q =
    let e : plain (name_of f) v.items ≡ f = ap (field_of (name_of f)) (sym is) ∙ same in
    let whole : bmp ∷ (count_bytes (shape_of bmp) n ++ content) ≡ spelling_of f =
    ap (λ (b : ℕ). b ∷ (count_bytes (shape_of b) n ++ content)) name ∙ ap (λ (i : ℕ). name_of f ∷ (count_bytes (shape_of (name_of f)) i ++ content)) long
    ∙ ap (λ (s : List ℕ). name_of f ∷ (count_bytes (shape_of (name_of f)) (length v.items) ++ s)) all ∙ ap spelling_of e in
    subst (λ (s : List ℕ). PutAll s k m old mid sub) whole (puts_after (bmp ∷ count_bytes (shape_of bmp) n) content old mid sub k m p q)

pub room_tree : (f : Field) (body : FieldBody) (objects : Objects) (bmp k : ℕ) (old mid : List ℕ) → field_of (name_of f) body ≡ f → body ≡ Tree objects → length (spelling_of f) ≤ length old → Puts (bmp ∷ []) old mid k →
    length mid ≡ length old → length_size (size_of objects) + size_of objects ≤ length (from k mid)
room_tree f body objects bmp k old mid same is room p total =
    let e : tree (name_of f) objects ≡ f = ap (field_of (name_of f)) (sym is) ∙ same in
    omega (arith, room, ap (λ (x : Field). length (spelling_of x)) e, sized_size objects, p.1, total, ap length (take_rest mid k), length-drop k mid)

pub puts_tree : (f : Field) (body : FieldBody) (objects : Objects) (bmp k m : ℕ) (old mid sub : List ℕ) → field_of (name_of f) body ≡ f → body ≡ Tree objects → bmp ≡ name_of f →
    Puts (bmp ∷ []) old mid k → Writes (Sized shortest objects) (from k mid) sub m → PutAll (spelling_of f) k m old mid sub
puts_tree f body objects bmp k m old mid sub same is name p w =
    let e : tree (name_of f) objects ≡ f = ap (field_of (name_of f)) (sym is) ∙ same in
    let whole : bmp ∷ w.bytes ≡ spelling_of f = ap (λ (b : ℕ). b ∷ w.bytes) name ∙ ap (λ (s : List ℕ). name_of f ∷ s) (sized_spelled objects w.bytes w.spelled) ∙ ap spelling_of e in
    subst (λ (s : List ℕ). PutAll s k m old mid sub) whole (puts_after (bmp ∷ []) w.bytes old mid sub k m p (w.prefix, w.size))

-- one more field
pub all_more : (fs : List Field) (i : ℕ) (f : Field) → i < length fs → f ≡ get_or fs i f → spelling_of_all (take (i + 1) fs) ≡ spelling_of_all (take i fs) ++ spelling_of f
all_more fs i f lt is =
    ap spelling_of_all (take_more fs i f lt ∙ ap (λ (x : Field). take i fs ++ x ∷ []) (sym is)) ∙ all_joined (take i fs) (f ∷ []) ∙ ap (λ (s : List ℕ). spelling_of_all (take i fs) ++ s) (append-nil (spelling_of f))

pub puts_next : (fs : List Field) (i : ℕ) (f : Field) (old mid sub : List ℕ) (n m : ℕ) → i < length fs → f ≡ get_or fs i f → Puts (spelling_of_all (take i fs)) old mid n → Puts (spelling_of f) (from n mid) sub m →
    PutAll (spelling_of_all (take (i + 1) fs)) n m old mid sub
puts_next fs i f old mid sub n m lt is p q =
    subst (λ (s : List ℕ). PutAll s n m old mid sub) (sym (all_more fs i f lt is)) (puts_after (spelling_of_all (take i fs)) (spelling_of f) old mid sub n m p q)

-- has its place in what is left
pub room_next : (fs : List Field) (i : ℕ) (f : Field) (old mid : List ℕ) (n : ℕ) → i < length fs → f ≡ get_or fs i f → length (spelling_of_all fs) ≤ length old → length mid ≡ length old → Puts (spelling_of_all (take i fs)) old mid n →
    (n ≤ length mid) × (length (spelling_of f) ≤ length (from n mid))
room_next fs i f old mid n lt is room total p =
    let whole : spelling_of_all fs ≡ spelling_of_all (take (i + 1) fs) ++ spelling_of_all (drop (i + 1) fs) = ap spelling_of_all (sym (take-append-drop (i + 1) fs)) ∙ all_joined (take (i + 1) fs) (drop (i + 1) fs) in
    let size : length (spelling_of_all (take i fs)) + length (spelling_of f) ≤ length old =
    omega (arith, room, ap length whole, length-append (spelling_of_all (take (i + 1) fs)) (spelling_of_all (drop (i + 1) fs)), ap length (all_more fs i f lt is), length-append (spelling_of_all (take i fs)) (spelling_of f)) in
    (omega (arith, size, p.1, total), omega (arith, size, p.1, total, ap length (take_rest mid n), length-drop n mid))

pub room_all : (fs gs : List Field) (n : ℕ) → HaveSpelling gs → fs ≡ gs → ((bytes : List ℕ) → FieldList shortest gs bytes → length bytes ≤ n) → length (spelling_of_all fs) ≤ n
room_all fs gs n h same room =
    omega (arith, room h.bytes h.spelled, ap length (list_spelled gs h.bytes h.spelled), ap (λ (x : List Field). length (spelling_of_all x)) same)

pub puts_all : (fs gs : List Field) (i n : ℕ) (bytes old new : List ℕ) → fs ≡ gs → length fs ≤ i → Puts (spelling_of_all (take i fs)) old new n → FieldList shortest gs bytes → Puts bytes old new n
puts_all fs gs i n bytes old new same ended p s =
    let whole : spelling_of_all (take i fs) ≡ bytes = ap spelling_of_all (take_all i fs ended ∙ same) ∙ sym (list_spelled gs bytes s) in
    subst (λ (v : List ℕ). Puts v old new n) whole p
