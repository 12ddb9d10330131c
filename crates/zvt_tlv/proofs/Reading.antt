-- The steps of a reader: one byte more, an object more, a level deeper.
use Rattle.std.proofs.Common.{◌≡◌, ◌≢◌, ℕ, ◌+◌, ◌-◌, ◌<◌, ◌≤◌, Bool, true, false, Some, None, List, [], ◌∷◌, ◌++◌, length, take, drop, get_or, refl, sym, ◌∙◌, ap, subst, append_assoc, arith, length-append, ◌⊎◌, suc, inl, inr}
use Rattle.std.proofs.lemmas.Bool.{cases_Bool, cases_lt, cases_eq}
use Rattle.std.proofs.Math.Seq.{take-suc, take-length, take-add}
use Rattle.zvt_tlv.specs.Answers.{TagFound, HeadFound}
use Rattle.zvt_tlv.proofs.Spelling.{filler, filling, filling_size, filled, tag_prefix, tag_size}
use Rattle.std.proofs.lemmas.List.{length-take-le, append-nil}
use Rattle.std.proofs.lemmas.Option.{slice_get-get_or}
use Rattle.zvt_grammar.specs.declared.why.Why.{Why}
use Rattle.zvt_grammar.specs.declared.why.Why.TheVariants.{NotShortest, LengthForm, TooDeep, TagTooLong}
use Rattle.zvt_grammar.specs.Reading.{Reading, least}
use Rattle.zvt_tlv.specs.Grammar.{none, Spells, IsTag, IsLength, holds_objects, continues}
use Rattle.zvt_tlv.specs.Judging.{Next, byte, content, wrong, next, AliveIn, PlaceIn, WhyIn, Role, first_tag, second_tag, third_tag, first_length, after_81, high_length, low_length, in_content, Tagged, Begins, Position, fault}
use Rattle.zvt_tlv.proofs.NextByteLemmas.{next_first_again, next_first_once, next_first_deep, next_second_last, next_second_more, next_third_last, next_third_long, next_short, next_81, next_82, next_no_length, next_after_81, next_after_81_less, next_high, next_high_less, least_both}
use Rattle.zvt_tlv.proofs.Alive.{alive_size, fit}
use Rattle.zvt_tlv.proofs.Room.{Says}
use Rattle.zvt_tlv.proofs.Unique.{Unfinished, begins_unfinished}

-- an opener
pub record Opened (r : Reading) (d : ℕ) (nests : Bool) (n : ℕ) (b : List ℕ) : Type 0 where
  pub tag : List ℕ
  pub size : List ℕ
  pub whole : b ≡ tag ++ size
  pub tagged : Tagged d nests tag
  pub is_length : IsLength r n size

-- what bytes are, by what comes after them
abbrev pub Landing : Reading → ℕ → Next → List ℕ → Type 0
Landing r d (byte role) b = Begins r d role b
Landing r d (content nests n) b = Opened r d nests n b
Landing r d (wrong w) b = Unit {0}

lands : (r : Reading) (d : ℕ) (role : Role) (x : ℕ) (nx : Next) (b : List ℕ) → next r d role x ≡ nx → Landing r d nx b → Landing r d (next r d role x) b
lands r d role x nx b e h = subst (λ (n : Next). Landing r d n b) (sym e) h

-- a byte after the beginning of an object
pub landed : (r : Reading) (d : ℕ) (role : Role) (b : List ℕ) (x : ℕ) → Begins r d role b → x < 256 → Landing r d (next r d role x) (b ++ x ∷ [])
landed r d first_tag b x e lt = by_depth (cases_Bool (holds_objects x)) (cases_lt d 6)
  where
    here : b ++ x ∷ [] ≡ x ∷ []
    here = ap (λ (a : List ℕ). a ++ x ∷ []) e

    by_kind : (holds_objects x ≡ true → d < 6) → ((continues x ≡ true) ⊎ (continues x ≡ false)) → Landing r d (next r d first_tag x) (b ++ x ∷ [])
    by_kind deep (inl more) = lands r d first_tag x (byte (second_tag (holds_objects x))) _ (next_first_again r d x deep more) (x, here, lt, more, refl, deep)
    by_kind deep (inr last) = lands r d first_tag x (byte (first_length (holds_objects x))) _ (next_first_once r d x deep last)
        (subst (Tagged d (holds_objects x)) (sym here) (record { is_tag = (lt, last); is_kind = refl; deep = deep }))

    by_depth : ((holds_objects x ≡ true) ⊎ (holds_objects x ≡ false)) → ((d < 6) ⊎ (6 ≤ d)) → Landing r d (next r d first_tag x) (b ++ x ∷ [])
    by_depth (inl is) (inl less) = by_kind (λ e. less) (cases_Bool (continues x))
    by_depth (inl is) (inr deep) = lands r d first_tag x (wrong TooDeep) _ (next_first_deep r d x is deep) tt
    by_depth (inr plain) _ = by_kind (λ e. cc) (cases_Bool (continues x))
landed r d (second_tag nests) b x (y, e, lty, more, kind, deep) lt =
    elim (cases_lt x 128) [
      | inl less ↦ lands r d (second_tag nests) x (byte (first_length nests)) _ (next_second_last r d nests x less)
          (subst (Tagged d nests) (sym here) (record { is_tag = (lty, more, less); is_kind = kind; deep = deep }))
      | inr long ↦ lands r d (second_tag nests) x (byte (third_tag nests)) _ (next_second_more r d nests x long) (y, x, here, lty, more, kind, deep, long, lt)
    ]
  where
    here : b ++ x ∷ [] ≡ y ∷ x ∷ []
    here = ap (λ (a : List ℕ). a ++ x ∷ []) e
landed r d (third_tag nests) b x (y, z, e, lty, more, kind, deep, long, ltz) lt =
    elim (cases_lt x 128) [
      | inl less ↦ lands r d (third_tag nests) x (byte (first_length nests)) _ (next_third_last r d nests x less)
          (subst (Tagged d nests) (sym here) (record { is_tag = (lty, more, long, ltz, less); is_kind = kind; deep = deep }))
      | inr long ↦ lands r d (third_tag nests) x (wrong TagTooLong) _ (next_third_long r d nests x long) tt
    ]
  where
    here : b ++ x ∷ [] ≡ y ∷ z ∷ x ∷ []
    here = ap (λ (a : List ℕ). a ++ x ∷ []) e
landed r d (first_length nests) b x p lt = by_value (cases_lt x 128) (cases_eq x 0x81) (cases_eq x 0x82)
  where
    by_value : ((x < 128) ⊎ (128 ≤ x)) → ((x ≡ 0x81) ⊎ (x ≢ 0x81)) → ((x ≡ 0x82) ⊎ (x ≢ 0x82)) → Landing r d (next r d (first_length nests) x) (b ++ x ∷ [])
    by_value (inl less) _ _ = lands r d (first_length nests) x (content nests x) _ (next_short r d nests x less)
        (record { tag = b; size = x ∷ []; whole = refl; tagged = p; is_length = (less, refl) })
    by_value (inr ge) (inl e) _ = lands r d (first_length nests) x (byte (after_81 nests)) _ (next_81 r d nests x e) (b, ap (λ (y : ℕ). b ++ y ∷ []) e, p)
    by_value (inr ge) (inr other) (inl e) = lands r d (first_length nests) x (byte (high_length nests)) _ (next_82 r d nests x e) (b, ap (λ (y : ℕ). b ++ y ∷ []) e, p)
    by_value (inr ge) (inr other) (inr nor) = lands r d (first_length nests) x (wrong LengthForm) _ (next_no_length r d nests x ge other nor) tt
landed r d (after_81 nests) b x (tag, e, p) lt =
    elim (cases_lt x (least r 128)) [
      | inl less ↦ lands r d (after_81 nests) x (wrong NotShortest) _ (next_after_81_less r d nests x less) tt
      | inr more ↦ lands r d (after_81 nests) x (content nests x) _ (next_after_81 r d nests x more)
          (record { tag = tag; size = 0x81 ∷ x ∷ []; whole = ap (λ (a : List ℕ). a ++ x ∷ []) e ∙ append_assoc tag (0x81 ∷ []) (x ∷ []); tagged = p; is_length = (refl, more, lt, refl) })
    ]
landed r d (high_length nests) b x (tag, e, p) lt =
    elim (cases_lt x (least r 1)) [
      | inl less ↦ lands r d (high_length nests) x (wrong NotShortest) _ (next_high_less r d nests x less) tt
      | inr more ↦ lands r d (high_length nests) x (byte (low_length nests x)) _ (next_high r d nests x more)
          (tag, ap (λ (a : List ℕ). a ++ x ∷ []) e ∙ append_assoc tag (0x82 ∷ []) (x ∷ []), p, lt, more)
    ]
landed r d (low_length nests high) b x (tag, e, p, lth, more) lt =
    record {
      tag = tag;
      size = 0x82 ∷ high ∷ x ∷ [];
      whole = ap (λ (a : List ℕ). a ++ x ∷ []) e ∙ append_assoc tag (0x82 ∷ high ∷ []) (x ∷ []);
      tagged = p;
      is_length = (refl, least_both r high x more, lth, lt, refl);
    }
landed r d in_content b x p lt = tt

-- in the beginning of an object there is room for a byte
pub room_left : (r : Reading) (d room : ℕ) (role : Role) (b : List ℕ) → Begins r d role b → 0 < room → AliveIn r d room b → length b < room
unfolding Unfinished
room_left r d room role b p some a = by_rest a.rest refl
  where
    by_rest : (x : List ℕ) → a.rest ≡ x → length b < room
    by_rest (y ∷ x) e = omega (arith, a.spelled.1, length-append b a.rest, ap length e)
    by_rest [] e =
        let whole : b ++ a.rest ≡ b = ap (λ (x : List ℕ). b ++ x) e ∙ append-nil b in
        let size : length b ≡ room = sym (ap length whole) ∙ a.spelled.1 in
        absurd (begins_unfinished r d role b p a.value b [] (subst (Spells r d a.value) whole a.spelled.0) (omega arith) (sym (append-nil b)))

-- a reader is in the beginning of an object
pub record InHead (r : Reading) (d room : ℕ) (role : Role) (bytes : List ℕ) (k : ℕ) : Type 0 where
  pub begins : Begins r d role (take k bytes)
  pub alive : AliveIn r d room (take k bytes)

pub head_start : (r : Reading) (d room : ℕ) (bytes : List ℕ) → room ≢ 1 → InHead r d room first_tag bytes 0
head_start r d room bytes ne = record {
  begins = refl;
  alive = record { value = filler room; rest = filling room; spelled = (filled r d room, filling_size room ne) };
}

pub head_room : (r : Reading) (d room : ℕ) (role : Role) (bytes : List ℕ) (k : ℕ) → InHead r d room role bytes k → 0 < room →
    k ≤ length bytes → k < room
head_room r d room role bytes k i some short =
    omega (arith, room_left r d room role (take k bytes) i.begins some i.alive, length-take-le k bytes short)

-- it is at a position
head_stands : (r : Reading) (d room : ℕ) (role : Role) (bytes : List ℕ) (k : ℕ) → InHead r d room role bytes k → 0 < room →
    k ≤ length bytes → Position r d room [] (take k bytes) d role (room - k - 1)
head_stands r d room role bytes k i some short =
    (none, [], take k bytes, refl, refl, i.begins, omega (arith, length-take-le k bytes short, head_room r d room role bytes k i some short), refl)

pub head_more : (r : Reading) (d room : ℕ) (role : Role) (bytes : List ℕ) (k : ℕ) → InHead r d room role bytes k → 0 < room →
    k ≡ length bytes → (length bytes < room) × AliveIn r d room bytes
head_more r d room role bytes k i some all =
    let whole : take k bytes ≡ bytes = ap (λ (n : ℕ). take n bytes) all ∙ take-length bytes in
    (omega (arith, head_room r d room role bytes k i some (omega arith)), subst (AliveIn r d room) whole i.alive)

-- the first bytes and the next one
pub one_byte : (bytes : List ℕ) (k : ℕ) → k < length bytes → take k bytes ++ get_or bytes k 0 ∷ [] ≡ take (suc k) bytes
one_byte bytes k lt = sym (take-suc bytes k 0 lt)

-- the next byte's tests
head_says : (r : Reading) (d room : ℕ) (role : Role) (bytes : List ℕ) (k : ℕ) → InHead r d room role bytes k → 0 < room →
    k < length bytes → get_or bytes k 0 < 256 → Says (fault r d role (room - k - 1) (get_or bytes k 0)) (AliveIn r d room (take (suc k) bytes))
head_says r d room role bytes k i some present lt =
    subst (λ (s : List ℕ). Says (fault r d role (room - k - 1) (get_or bytes k 0)) (AliveIn r d room s)) (one_byte bytes k present)
    (fit r [] d room (take k bytes) d role (room - k - 1) (get_or bytes k 0) (head_stands r d room role bytes k i some (omega arith)) lt i.alive)

pub head_passed : (r : Reading) (d room : ℕ) (role : Role) (bytes : List ℕ) (k : ℕ) (nx : Next) → InHead r d room role bytes k → 0 < room →
    k < length bytes → get_or bytes k 0 < 256 → fault r d role (room - k - 1) (get_or bytes k 0) ≡ None → next r d role (get_or bytes k 0) ≡ nx →
    AliveIn r d room (take (k + 1) bytes) × Landing r d nx (take (k + 1) bytes)
head_passed r d room role bytes k nx i some present lt e leads =
    let same : suc k ≡ k + 1 = omega arith in (
      subst (λ (n : ℕ). AliveIn r d room (take n bytes)) same ((head_says r d room role bytes k i some present lt).0 e),
      subst (Landing r d nx) (one_byte bytes k present ∙ ap (λ (n : ℕ). take n bytes) same)
          (subst (λ (n : Next). Landing r d n (take k bytes ++ get_or bytes k 0 ∷ [])) leads (landed r d role (take k bytes) (get_or bytes k 0) i.begins lt)),
    )

pub head_failed : (r : Reading) (d room : ℕ) (role : Role) (bytes : List ℕ) (k : ℕ) (why : Why) → InHead r d room role bytes k → 0 < room →
    k < length bytes → get_or bytes k 0 < 256 → fault r d role (room - k - 1) (get_or bytes k 0) ≡ Some why →
    PlaceIn r d room bytes k × WhyIn r d room bytes k why
head_failed r d room role bytes k why i some present lt e = (
  (
    record { present = present; alive = i.alive; dead = (head_says r d room role bytes k i some present lt).1 why e },
    head_room r d room role bytes k i some (omega arith),
  ),
  record {
    openers = [];
    at = d;
    role = role;
    left = room - k - 1;
    byte = get_or bytes k 0;
    stands = head_stands r d room role bytes k i some (omega arith);
    is_byte = slice_get-get_or bytes k 0 present;
    fails = e;
  },
)

-- the tag of an opener is the one that was read
pub same_tag : (m j : ℕ) (bytes tag size : List ℕ) → IsTag (take m bytes) → IsTag tag → m ≤ length bytes → m ≤ j → take j bytes ≡ tag ++ size → take m bytes ≡ tag
same_tag m j bytes tag size p q short le e =
    let parts : take m bytes ++ take (j - m) (drop m bytes) ≡ tag ++ size = sym (take-add m (j - m) bytes) ∙ ap (λ (n : ℕ). take n bytes) (omega arith) ∙ e in
    (tag_prefix (take m bytes) tag (take (j - m) (drop m bytes)) size p q parts).0

pub tag_room : (r : Reading) (d room m : ℕ) (bytes : List ℕ) (nests : Bool) → TagFound r d room bytes m nests → 0 < room
tag_room r d room m bytes nests t = omega (arith, tag_size (take m bytes) t.tagged.is_tag, alive_size r d room (take m bytes) t.alive)

pub opener_found : (r : Reading) (d room j : ℕ) (bytes : List ℕ) (m : ℕ) (nests : Bool) (n : ℕ) → TagFound r d room bytes m nests → m ≤ j → j ≤ length bytes →
    AliveIn r d room (take j bytes) → Opened r d nests n (take j bytes) →
    HeadFound r d room bytes (record { tag_size = m; constructed = nests; content = n; size = j })
opener_found r d room j bytes m nests n t le short a o = record {
  tag = o.tag;
  size = o.size;
  present = short;
  whole = o.whole;
  tag_size = le;
  tag_read = same_tag m j bytes o.tag o.size t.tagged.is_tag o.tagged.is_tag t.present le o.whole;
  tagged = o.tagged;
  is_length = o.is_length;
  alive = a;
}
