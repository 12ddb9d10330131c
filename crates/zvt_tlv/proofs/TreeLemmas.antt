-- Facts on trees.
use Rattle.std.proofs.Common.{◌≡◌, ℕ, List, [], ◌∷◌, ◌++◌, length, refl, sym, ◌∙◌, ap, subst, arith, ◌<◌}
use Rattle.std.specs.declared.vec.Vec.{Vec}
use Rattle.std.specs.declared.alloc.Global.{Global}
use Rattle.zvt_tlv.specs.declared.trees.Tlv.{Tlv, fold_out-Tlv}
use Rattle.zvt_tlv.specs.declared.trees.Body.{Body, fold-Body, fold_out-Body, out-Body}
use Rattle.zvt_tlv.specs.declared.trees.Body.TheOpen.{Body-F}
use Rattle.zvt_tlv.specs.declared.trees.Body.TheOpen as open'
use Rattle.zvt_tlv.specs.declared.trees.Body.TheFolds.{map-Body}
use Rattle.zvt_tlv.specs.declared.trees.Body.TheVariants.{Prim, Cons, outs-Prim, outs-Cons}
use Rattle.zvt_grammar.specs.Reading.{Reading}
use Rattle.zvt_tlv.specs.Grammar.{Spells, Objects, primitive, constructed}
use Rattle.zvt_tlv.specs.Trees.{body_step, object_step, before, objects_of}
use Rattle.zvt_tlv.proofs.Spelling.{joined, parts_size, tag_size}

abbrev Put : Type 0
Put = Objects → Objects

abbrev held : Body → List ℕ → Objects → Objects
held = fold-Body (List ℕ → Objects → Objects) (Objects → Objects) body_step object_step

-- an object by its open body
abbrev shown : Body-F Body Tlv → List ℕ → Objects → Objects
shown b = body_step (map-Body Body Tlv (List ℕ → Objects → Objects) (Objects → Objects) held before b)

before_out : (t : Tlv) (rest : Objects) → before t rest ≡ shown (out-Body t.body) t.tag rest
before_out t rest =
    ap (λ (f : Objects → Objects). f rest) (fold_out-Tlv (List ℕ → Objects → Objects) (Objects → Objects) body_step object_step t)
    ∙ ap (λ (f : List ℕ → Objects → Objects). f t.tag rest) (fold_out-Body (List ℕ → Objects → Objects) (Objects → Objects) body_step object_step t.body)

pub before_prim : (tag : List ℕ) (v : Vec ℕ Global) (rest : Objects) → before (record { tag = tag; body = Prim v }) rest ≡ primitive tag v.items rest
before_prim tag v rest =
    before_out (record { tag = tag; body = Prim v }) rest ∙ ap (λ (o : Body-F Body Tlv). shown o tag rest) (outs-Prim v)

pub before_cons : (tag : List ℕ) (v : Vec Tlv Global) (rest : Objects) → before (record { tag = tag; body = Cons v }) rest ≡ constructed tag (objects_of v.items) rest
before_cons tag v rest =
    before_out (record { tag = tag; body = Cons v }) rest ∙ ap (λ (o : Body-F Body Tlv). shown o tag rest) (outs-Cons v)

shown_joined : (o : Body-F Body Tlv) (tag : List ℕ) (f g : Objects) → shown o tag (joined f g) ≡ joined (shown o tag f) g
shown_joined (open'.Prim v) tag f g = refl
shown_joined (open'.Cons v) tag f g = refl

before_joined : (t : Tlv) (f g : Objects) → before t (joined f g) ≡ joined (before t f) g
before_joined t f g =
    before_out t (joined f g) ∙ shown_joined (out-Body t.body) t.tag f g ∙ ap (λ (o : Objects). joined o g) (sym (before_out t f))

pub objects_joined : (us vs : List Tlv) → objects_of (us ++ vs) ≡ joined (objects_of us) (objects_of vs)
objects_joined [] vs = refl
objects_joined (t ∷ us) vs = ap (before t) (objects_joined us vs) ∙ before_joined t (objects_of us) (objects_of vs)

shown_some : (r : Reading) (d : ℕ) (o : Body-F Body Tlv) (tag : List ℕ) (f : Objects) (s : List ℕ) → Spells r d (shown o tag f) s → 0 < length s
shown_some r d (open'.Prim v) tag f s p = omega (arith, ap length p.whole, parts_size tag p.size p.content p.after, tag_size tag p.is_tag)
shown_some r d (open'.Cons v) tag f s p = omega (arith, ap length p.whole, parts_size tag p.size p.content p.after, tag_size tag p.is_tag)

-- an object's spelling is not empty
pub before_some : (r : Reading) (d : ℕ) (t : Tlv) (f : Objects) (s : List ℕ) → Spells r d (before t f) s → 0 < length s
before_some r d t f s p = shown_some r d (out-Body t.body) t.tag f s (subst (λ (o : Objects). Spells r d o s) (before_out t f) p)

pub before_at_prim : (t : Tlv) (v : Vec ℕ Global) (f : Objects) → t.body ≡ Prim v → before t f ≡ primitive t.tag v.items f
before_at_prim t v f e =
    before_out t f ∙ ap (λ (b : Body). shown (out-Body b) t.tag f) e ∙ ap (λ (o : Body-F Body Tlv). shown o t.tag f) (outs-Prim v)

pub before_at_cons : (t : Tlv) (v : Vec Tlv Global) (f : Objects) → t.body ≡ Cons v → before t f ≡ constructed t.tag (objects_of v.items) f
before_at_cons t v f e =
    before_out t f ∙ ap (λ (b : Body). shown (out-Body b) t.tag f) e ∙ ap (λ (o : Body-F Body Tlv). shown o t.tag f) (outs-Cons v)
