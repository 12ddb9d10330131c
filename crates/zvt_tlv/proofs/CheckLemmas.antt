-- Objects that pass the checks have a spelling.
use Rattle.std.proofs.Common.{◌≡◌, ℕ, ◌<◌, ◌^◌, Bool, true, false, List, ◌++◌, length, refl, sym, ap, not, subst, append_assoc, arith, suc}
use Rattle.std.proofs.lemmas.Bool.{and_from, and_parts, ltb-true, not-true, lt-ltb}
use Rattle.std.specs.Bool.{OnTrue}
use Rattle.zvt_tlv.specs.declared.trees.Tlv.{Tlv}
use Rattle.std.specs.declared.vec.Vec.{Vec}
use Rattle.std.specs.declared.alloc.Global.{Global}
use Rattle.zvt_tlv.specs.declared.trees.Body.TheVariants.{Prim}
use Rattle.zvt_grammar.specs.Reading.{Reading, shortest, AreBytes}
use Rattle.zvt_tlv.specs.Grammar.{Objects, none, primitive, constructed, IsTag, Spells}
use Rattle.zvt_tlv.specs.Trees.{before, objects_of}
use Rattle.zvt_tlv.specs.Sizes.{size_of, length_bytes, spelling}
use Rattle.zvt_tlv.specs.declared.trees.BadForest.{BadForest}
use Rattle.zvt_tlv.specs.declared.trees.BadForest.TheVariants.{Kind, TooDeep, TooLarge}
use Rattle.zvt_tlv.specs.Checks.{kinds_agree, is_shallow, AllParts, HasFault}
use Rattle.zvt_tlv.proofs.Writing.{spelled_size}
use Rattle.zvt_tlv.specs.Spelled.{HasSpelling}
use Rattle.zvt_tlv.proofs.TreeLemmas.{before_at_prim}
use Rattle.zvt_tlv.proofs.Writing.{is_length, spelling_size}

together : (a b c e : List ℕ) → (a ++ (b ++ c)) ++ e ≡ a ++ (b ++ (c ++ e))
together a b c e = simp append_assoc

-- what has a spelling passes the checks
pub spelled_kinds : (d : ℕ) (f : Objects) (s : List ℕ) → Spells shortest d f s → kinds_agree f ≡ true
spelled_kinds d none s p = refl
spelled_kinds d (primitive tag c rest) s p = and_from _ _ (ap not p.is_kind) (spelled_kinds d rest p.after p.others)
spelled_kinds d (constructed tag inner rest) s p =
    and_from _ _ (and_from _ _ p.is_kind (spelled_kinds (suc d) inner p.content p.inside.1)) (spelled_kinds d rest p.after p.others)

pub spelled_shallow : (r : Reading) (d : ℕ) (f : Objects) (s : List ℕ) → Spells r d f s → is_shallow d f ≡ true
spelled_shallow r d none s p = refl
spelled_shallow r d (primitive tag c rest) s p = spelled_shallow r d rest p.after p.others
spelled_shallow r d (constructed tag inner rest) s p =
    and_from _ _ (and_from _ _ (lt-ltb d 6 p.inside.0) (spelled_shallow r (suc d) inner p.content p.inside.1)) (spelled_shallow r d rest p.after p.others)

-- what has a fault has no spelling
pub no_spelling : (f : Objects) (w : BadForest) → HasFault f w → HasSpelling f → ⊥
no_spelling f Kind h s = cc (h, spelled_kinds 1 f s.bytes s.spelled)
no_spelling f TooDeep h s = cc (h.1, spelled_shallow shortest 1 f s.bytes s.spelled)
no_spelling f TooLarge h s = omega (arith, h.2, s.small, spelled_size 1 f s.bytes s.spelled)

pub not_spelled : (us ts : List Tlv) (w : BadForest) → us ≡ ts → HasFault (objects_of us) w → HasSpelling (objects_of ts) → ⊥
not_spelled us ts w e h s = no_spelling (objects_of us) w h (subst (λ (x : List Tlv). HasSpelling (objects_of x)) (sym e) s)

pub checked_spells : (d : ℕ) (f : Objects) → kinds_agree f ≡ true → is_shallow d f ≡ true → AllParts f → size_of f < 2 ^ 16 → Spells shortest d f (spelling f)
checked_spells d none k s p lt = refl
checked_spells d (primitive tag c rest) k s p lt =
    let kinds = and_parts _ _ k in
    record {
      size = length_bytes (length c);
      content = c;
      after = spelling rest;
      whole = together tag (length_bytes (length c)) c (spelling rest);
      is_tag = p.0;
      is_kind = not-true _ kinds.0;
      is_length = is_length (length c) (omega arith);
      inside = (refl, p.1);
      others = checked_spells d rest kinds.1 s p.2 (omega arith);
    }
checked_spells d (constructed tag inner rest) k s p lt =
    let kinds = and_parts _ _ k in
    let kinds' = and_parts _ _ kinds.0 in
    let depths = and_parts _ _ s in
    let depths' = and_parts _ _ depths.0 in
    let c = spelling inner in
    let n = spelling_size inner in
    record {
      size = length_bytes (length c);
      content = c;
      after = spelling rest;
      whole = together tag (length_bytes (length c)) c (spelling rest);
      is_tag = p.0;
      is_kind = kinds'.0;
      is_length = is_length (length c) (omega (arith, n));
      inside = (ltb-true d 6 depths'.0, checked_spells (suc d) inner kinds'.1 depths'.1 p.1 (omega arith));
      others = checked_spells d rest kinds.1 depths.1 p.2 (omega arith);
    }

pub checked_spelling : (f : Objects) → kinds_agree f ≡ true → is_shallow 1 f ≡ true → AllParts f → size_of f < 2 ^ 16 → HasSpelling f
checked_spelling f k s p lt = record { bytes = spelling f; spelled = checked_spells 1 f k s p lt; small = omega (arith, spelling_size f) }

pub parts_prim : (b : Bool) (t : Tlv) (v : Vec ℕ Global) → t.body ≡ Prim v → IsTag t.tag → AreBytes v.items → OnTrue b (AllParts (before t none))
parts_prim b t v e tag are = on b
  where
    on : (b : Bool) → OnTrue b (AllParts (before t none))
    on true = subst AllParts (sym (before_at_prim t v none e)) (tag, are, tt)
    on false = tt
