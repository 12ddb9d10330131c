-- The steps of a reader of a length and its objects.
use Rattle.std.proofs.Common.{◌≡◌, ◌≢◌, ℕ, ◌+◌, ◌-◌, ◌<◌, ◌≤◌, true, Some, None, List, [], ◌∷◌, ◌++◌, length, take, drop, slice_get, get_or, refl, sym, ◌∙◌, ap, subst, arith, length-append, ◌⊎◌, suc, inl, inr}
use Rattle.std.proofs.lemmas.Bool.{cases_eq}
use Rattle.std.proofs.lemmas.List.{append-nil, length-take-le, take-append-drop}
use Rattle.std.proofs.lemmas.Option.{slice_get-get_or}
use Rattle.std.proofs.Math.Seq.{take-length}
use Rattle.zvt_grammar.specs.declared.why.Why.{Why}
use Rattle.zvt_grammar.specs.Reading.{Reading, shortest, padded}
use Rattle.zvt_tlv.specs.Grammar.{Objects, none, IsLength}
use Rattle.zvt_tlv.specs.Judging.{Role, Next, next, Begins, Opener, fault}
use Rattle.zvt_grammar.specs.Beginnings.{Alive, NoneWhole, Unfinished, Place}
use Rattle.zvt_tlv.specs.Sized.{SizedIn, PositionSized, WhySized, SizeFound}
use Rattle.zvt_tlv.proofs.Spelling.{tag_prefix}
use Rattle.zvt_tlv.proofs.Alive.{prefix_of}
use Rattle.zvt_tlv.proofs.Reading.{Opened, Landing, landed, room_left, one_byte}
use Rattle.zvt_tlv.proofs.SizedLemmas.{opening, sized_object, position_unfinished, open_shorter, fit_sized}

-- nothing of a length stands yet
start : (r : Reading) (room left : ℕ) (size : List ℕ) → IsLength r 0 size → length size + left ≡ room → left ≢ 1 → Alive (SizedIn r room) []
start r room left size l e ne = record {
  value = none;
  rest = size;
  spelled = record {
    spelled = record { size = size; content = []; whole = sym (append-nil size); is_length = l; inside = refl };
    left = left;
    filled = e;
    apart = ne;
  };
}

pub shortest_start : (room : ℕ) → room ≢ 0 → room ≢ 2 → Alive (SizedIn shortest room) []
shortest_start room some two = start shortest room (room - 1) (0 ∷ []) (omega arith, refl) (omega arith) (λ e. omega arith)

pub padded_start : (room : ℕ) → room ≢ 0 → Alive (SizedIn padded room) []
padded_start room some = by_room (cases_eq room 2)
  where
    by_room : ((room ≡ 2) ⊎ (room ≢ 2)) → Alive (SizedIn padded room) []
    by_room (inl two) = start padded room 0 (0x81 ∷ 0 ∷ []) (refl, omega arith, omega arith, refl) (omega arith) (λ e. omega arith)
    by_room (inr other) = start padded room (room - 1) (0 ∷ []) (omega arith, refl) (omega arith) (λ e. omega arith)

-- the next byte of a position is refused
pub refused_sized : (r : Reading) (room : ℕ) (os : List Opener) (bytes : List ℕ) (k at : ℕ) (role : Role) (left x : ℕ) (why : Why) → PositionSized r room os (take k bytes) at role left →
    Alive (SizedIn r room) (take k bytes) → k < length bytes → slice_get bytes k ≡ Some x → take k bytes ++ x ∷ [] ≡ take (suc k) bytes → x < 256 → fault r at role left x ≡ Some why →
    NoneWhole (SizedIn r room) bytes × Place (SizedIn r room) bytes k × WhySized r room bytes k why
refused_sized r room os bytes k at role left x why p a present is more lt e = (
  whole,
  record { present = present; alive = a; dead = dead },
  record { openers = os; at = at; role = role; left = left; byte = x; stands = p; is_byte = is; fails = e },
)
  where
    dead : Alive (SizedIn r room) (take (suc k) bytes) → ⊥
    dead h = (fit_sized r room os (take k bytes) at role left x p lt a).1 why e (subst (Alive (SizedIn r room)) (sym more) h)

    whole : (f : Objects) (prefix rest : List ℕ) → bytes ≡ prefix ++ rest → SizedIn r room f prefix → ⊥
    whole f prefix rest w s =
        let u = position_unfinished r room os (take k bytes) at role left p in
        let less = open_shorter r (take k bytes) u f prefix (drop k bytes) rest s.spelled (take-append-drop k bytes ∙ w) in
        let size : length (take (suc k) bytes) ≤ length prefix = omega (arith, less, length-take-le k bytes (omega arith), length-take-le (suc k) bytes (omega arith)) in
        let m = prefix_of (take (suc k) bytes) (drop (suc k) bytes) prefix rest (take-append-drop (suc k) bytes ∙ w) size in
        dead (record { value = f; rest = m.0; spelled = subst (SizedIn r room f) m.1 s })

-- a position at the end of the bytes
pub more_sized : (r : Reading) (room : ℕ) (os : List Opener) (bytes : List ℕ) (at : ℕ) (role : Role) (left : ℕ) → PositionSized r room os bytes at role left →
    Alive (SizedIn r room) bytes → Unfinished (SizedIn r room) bytes
more_sized r room os bytes at role left p a = record {
  alive = a;
  none_whole = λ f prefix rest w s.
      let less = open_shorter r bytes (position_unfinished r room os bytes at role left p) f prefix [] rest s.spelled (append-nil bytes ∙ w) in
      omega (arith, less, ap length w, length-append prefix rest);
}

-- a reader is in the length
pub record InLength (r : Reading) (room : ℕ) (role : Role) (bytes : List ℕ) (k : ℕ) : Type 0 where
  pub begins : Begins r 0 role (0x25 ∷ take k bytes)
  pub alive : Alive (SizedIn r room) (take k bytes)

pub length_room : (r : Reading) (room : ℕ) (role : Role) (bytes : List ℕ) (k : ℕ) → InLength r room role bytes k → k ≤ length bytes → k < room
length_room r room role bytes k i short =
    let lt = room_left r 0 (suc room) role (0x25 ∷ take k bytes) i.begins (omega arith) (sized_object r room (take k bytes) i.alive) in
    omega (arith, length-take-le k bytes short)

length_stands : (r : Reading) (room : ℕ) (role : Role) (bytes : List ℕ) (k : ℕ) → InLength r room role bytes k → k ≤ length bytes → PositionSized r room [] (take k bytes) 0 role (room - k - 1)
length_stands r room role bytes k i short =
    (i.begins, omega (arith, length-take-le k bytes short, length_room r room role bytes k i short), refl)

pub length_failed : (r : Reading) (room : ℕ) (role : Role) (bytes : List ℕ) (k : ℕ) (why : Why) → InLength r room role bytes k → k < length bytes → get_or bytes k 0 < 256 →
    fault r 0 role (room - k - 1) (get_or bytes k 0) ≡ Some why → NoneWhole (SizedIn r room) bytes × Place (SizedIn r room) bytes k × WhySized r room bytes k why
length_failed r room role bytes k why i lt x e =
    refused_sized r room [] bytes k 0 role (room - k - 1) (get_or bytes k 0) why (length_stands r room role bytes k i (omega arith)) i.alive lt (slice_get-get_or bytes k 0 lt) (one_byte bytes k lt) x e

pub length_passed : (r : Reading) (room : ℕ) (role : Role) (bytes : List ℕ) (k : ℕ) (nx : Next) → InLength r room role bytes k → k < length bytes → get_or bytes k 0 < 256 →
    fault r 0 role (room - k - 1) (get_or bytes k 0) ≡ None → next r 0 role (get_or bytes k 0) ≡ nx →
    Alive (SizedIn r room) (take (k + 1) bytes) × Landing r 0 nx (0x25 ∷ take (k + 1) bytes)
length_passed r room role bytes k nx i lt x e leads =
    let f = fit_sized r room [] (take k bytes) 0 role (room - k - 1) (get_or bytes k 0) (length_stands r room role bytes k i (omega arith)) x i.alive in
    let same : suc k ≡ k + 1 = omega arith in
    let more : take k bytes ++ get_or bytes k 0 ∷ [] ≡ take (k + 1) bytes = one_byte bytes k lt ∙ ap (λ (n : ℕ). take n bytes) same in (
      subst (Alive (SizedIn r room)) more (f.0 e),
      subst (λ (s : List ℕ). Landing r 0 nx (0x25 ∷ s)) more (subst (λ (n : Next). Landing r 0 n (0x25 ∷ (take k bytes ++ get_or bytes k 0 ∷ []))) leads (landed r 0 role (0x25 ∷ take k bytes) (get_or bytes k 0) i.begins x)),
    )

pub length_more : (r : Reading) (room : ℕ) (role : Role) (bytes : List ℕ) (k : ℕ) → InLength r room role bytes k → k ≡ length bytes → Unfinished (SizedIn r room) bytes
length_more r room role bytes k i all =
    let whole : take k bytes ≡ bytes = ap (λ (n : ℕ). take n bytes) all ∙ take-length bytes in
    more_sized r room [] bytes 0 role (room - k - 1) (subst (λ (s : List ℕ). PositionSized r room [] s 0 role (room - k - 1)) whole (length_stands r room role bytes k i (omega arith)))
    (subst (Alive (SizedIn r room)) whole i.alive)

-- the length that was read
pub length_found : (r : Reading) (room : ℕ) (bytes : List ℕ) (k n : ℕ) → k ≤ length bytes → Alive (SizedIn r room) (take k bytes) → Opened r 0 true n (0x25 ∷ take k bytes) → SizeFound r room bytes k n
length_found r room bytes k n short a o =
    let one = tag_prefix opening o.tag (take k bytes) o.size (omega arith, refl) o.tagged.is_tag o.whole in
    record { present = short; is_length = subst (IsLength r n) (sym one.1) o.is_length; alive = a }
