-- What the reader of a length and its objects takes over from the reader of the objects.
use Rattle.std.proofs.Common.{◌≡◌, ◌≢◌, ℕ, ◌+◌, ◌<◌, ◌≤◌, List, [], ◌∷◌, ◌++◌, length, take, drop, get_or, refl, sym, ◌∙◌, ap, subst, append_assoc, arith, length-append, length-drop, suc}
use Rattle.std.proofs.lemmas.List.{length-take-le, take-append-drop}
use Rattle.std.proofs.lemmas.Option.{get_or_from_slice_get}
use Rattle.std.proofs.Math.Seq.{take-suc}
use Rattle.std.specs.declared.vec.Vec.{Vec}
use Rattle.std.specs.declared.alloc.Global.{Global}
use Rattle.zvt_grammar.specs.declared.why.Why.{Why}
use Rattle.zvt_grammar.specs.declared.answer.Scan.{Scan}
use Rattle.zvt_grammar.specs.declared.answer.Scan.TheVariants.{Whole, More, Refused}
use Rattle.zvt_tlv.specs.declared.trees.Tlv.{Tlv}
use Rattle.zvt_grammar.specs.Reading.{Reading}
use Rattle.zvt_tlv.specs.Grammar.{none, IsLength}
use Rattle.zvt_tlv.specs.Judging.{AliveIn, Role, Opener, Position}
use Rattle.zvt_tlv.specs.Trees.{objects_of}
use Rattle.zvt_grammar.specs.Beginnings.{Alive, NoneWhole, Unfinished, Place}
use Rattle.zvt_tlv.specs.Sized.{SizedIn, PositionSized, WhySized, SizedFound, SizeFound}
use Rattle.zvt_tlv.proofs.Spelling.{length_prefix, not_single, from}
use Rattle.zvt_tlv.proofs.Exists.{alive_stands}
use Rattle.zvt_tlv.proofs.Levels.{byte_from, take_from}
use Rattle.zvt_tlv.proofs.Moves.{Inner, inner_at}
use Rattle.zvt_tlv.proofs.SizedLemmas.{opening}
use Rattle.zvt_tlv.proofs.SizedReading.{refused_sized, more_sized}

-- what the length leaves in the room
pub record Left (room k n : ℕ) : Type 0 where
  pub left : ℕ
  pub filled : k + (n + left) ≡ room
  pub apart : left ≢ 1
  pub not_one : n ≢ 1

pub left_of : (r : Reading) (room : ℕ) (bytes : List ℕ) (k n : ℕ) → SizeFound r room bytes k n → Left room k n
left_of r room bytes k n s =
    let a = s.alive in
    let p = a.spelled.spelled in
    let one = length_prefix r n (length p.content) (take k bytes) p.size a.rest p.content s.is_length p.is_length p.whole in
    record {
      left = a.spelled.left;
      filled = omega (arith, a.spelled.filled, length-append (take k bytes) a.rest, length-take-le k bytes s.present, one.1, ap length one.2);
      apart = a.spelled.apart;
      not_one = λ e. not_single r 1 a.value p.content p.inside (sym one.1 ∙ e);
    }

-- the objects are alive in the room where they are alive in their size
alive_sized : (r : Reading) (room : ℕ) (size c : List ℕ) (k n : ℕ) → length size ≡ k → IsLength r n size → Left room k n → AliveIn r 1 n c → Alive (SizedIn r room) (size ++ c)
alive_sized r room size c k n long l left a = record {
  value = a.value;
  rest = a.rest;
  spelled = record {
    spelled = record { size = size; content = c ++ a.rest; whole = append_assoc size c a.rest; is_length = subst (λ (m : ℕ). IsLength r m size) (sym a.spelled.1) l; inside = a.spelled.0 };
    left = left.left;
    filled = omega (arith, ap length (append_assoc size c a.rest), length-append size (c ++ a.rest), a.spelled.1, left.filled);
    apart = left.apart;
  };
}

pub whole_sized : (r : Reading) (room : ℕ) (bytes : List ℕ) (k n : ℕ) (v : Vec Tlv Global) (q : Scan (Vec Tlv Global)) → SizeFound r room bytes k n → q ≡ Whole v → Inner r 1 n (from k bytes) q →
    SizedFound r room bytes (objects_of v.items) (k + n)
whole_sized r room bytes k n v q s is h =
    let o = inner_at r 0 n k bytes q (Whole v) is h in
    let inner : length (take n (drop k bytes)) ≡ n = length-take-le n (drop k bytes) o.present in
    let left = left_of r room bytes k n s in
    let short : k + n ≤ length bytes = omega (arith, o.present, length-drop k bytes, s.present) in
    record {
      present = short;
      spelled = record {
        spelled = record { size = take k bytes; content = take n (drop k bytes); whole = take_from k n bytes; is_length = subst (λ (m : ℕ). IsLength r m (take k bytes)) (sym inner) s.is_length; inside = o.spelled };
        left = left.left;
        filled = omega (arith, length-take-le (k + n) bytes short, left.filled);
        apart = left.apart;
      };
    }

opener : List ℕ → ℕ → Opener
opener size n = record { items = none; done = []; tag = opening; size = size; content = n }

stands_inside : (r : Reading) (room : ℕ) (size c : List ℕ) (n : ℕ) (os : List Opener) (at : ℕ) (role : Role) (left : ℕ) → IsLength r n size → length c < n → Position r 1 n os c at role left →
    PositionSized r room (opener size n ∷ os) (size ++ c) at role left
unfolding opener
stands_inside r room size c n os at role left l short p = (c, refl, l, short, p)

pub more_objects : (r : Reading) (room : ℕ) (bytes : List ℕ) (k n : ℕ) (q : Scan (Vec Tlv Global)) → SizeFound r room bytes k n → q ≡ More → Inner r 1 n (from k bytes) q → Unfinished (SizedIn r room) bytes
more_objects r room bytes k n q s is h =
    let a = inner_at r 0 n k bytes q More is h in
    let st = alive_stands r 1 n (drop k bytes) a.1 a.0 in
    let p = stands_inside r room (take k bytes) (drop k bytes) n st.openers st.at st.role st.left s.is_length a.0 st.position in
    let al = alive_sized r room (take k bytes) (drop k bytes) k n (length-take-le k bytes s.present) s.is_length (left_of r room bytes k n s) a.1 in
    more_sized r room (opener (take k bytes) n ∷ st.openers) bytes st.at st.role st.left
    (subst (λ (b : List ℕ). PositionSized r room (opener (take k bytes) n ∷ st.openers) b st.at st.role st.left) (take-append-drop k bytes) p)
    (subst (Alive (SizedIn r room)) (take-append-drop k bytes) al)

pub refused_objects : (r : Reading) (room : ℕ) (bytes : List ℕ) (k n p : ℕ) (why : Why) (q : Scan (Vec Tlv Global)) → SizeFound r room bytes k n → q ≡ Refused p why → Inner r 1 n (from k bytes) q → ((i : ℕ) → get_or bytes i 0 < 256) →
    NoneWhole (SizedIn r room) bytes × Place (SizedIn r room) bytes (k + p) × WhySized r room bytes (k + p) why
refused_objects r room bytes k n p why q s is h are =
    let a = inner_at r 0 n k bytes q (Refused p why) is h in
    let place = a.0 in
    let reason = a.1 in
    let inner : length (take p (drop k bytes)) ≡ p = length-take-le p (drop k bytes) (omega (arith, place.0.present)) in
    let lt : k + p < length bytes = omega (arith, place.0.present, length-drop k bytes, s.present) in
    let stands = stands_inside r room (take k bytes) (take p (drop k bytes)) n reason.openers reason.at reason.role reason.left s.is_length (omega (arith, inner, place.1)) reason.stands in
    let al = alive_sized r room (take k bytes) (take p (drop k bytes)) k n (length-take-le k bytes s.present) s.is_length (left_of r room bytes k n s) place.0.alive in
    let at_byte = byte_from k p reason.byte bytes place.0.present reason.is_byte in
    let same : get_or bytes (k + p) 0 ≡ reason.byte = get_or_from_slice_get bytes (k + p) reason.byte 0 at_byte in
    let more : take (k + p) bytes ++ reason.byte ∷ [] ≡ take (suc (k + p)) bytes = ap (λ (x : ℕ). take (k + p) bytes ++ x ∷ []) (sym same) ∙ sym (take-suc bytes (k + p) 0 lt) in
    refused_sized r room (opener (take k bytes) n ∷ reason.openers) bytes (k + p) reason.at reason.role reason.left reason.byte why
    (subst (λ (b : List ℕ). PositionSized r room (opener (take k bytes) n ∷ reason.openers) b reason.at reason.role reason.left) (sym (take_from k p bytes)) stands)
    (subst (Alive (SizedIn r room)) (sym (take_from k p bytes)) al) lt at_byte more (omega (arith, same, are (k + p))) reason.fails
