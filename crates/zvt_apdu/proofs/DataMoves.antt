-- The steps of the reader of a message's data.
use Rattle.std.proofs.Common.{◌≡◌, ◌≢◌, ℕ, ◌+◌, ◌-◌, ◌<◌, ◌≤◌, Bool, false, Some, None, List, [], ◌∷◌, ◌++◌, length, take, drop, get_or, slice_get, refl, sym, ◌∙◌, ap, subst, append_assoc, arith, length-append, length-drop, ◌⊎◌, suc, inl, inr}
use Rattle.std.proofs.lemmas.Bool.{cases_lt, false≢true}
use Rattle.std.proofs.lemmas.List.{length-take-le, take-append-drop, take_all, drop-drop}
use Rattle.std.proofs.lemmas.List.Elements.{All-take, All-same, All-tail, All-head}
use Rattle.std.proofs.lemmas.Option.{get_or_from_slice_get}
use Rattle.std.proofs.Math.Seq.{take-append-add, drop-append_seam, take-append_seam, take-suc, take-add}
use Rattle.zvt_bcd.specs.Digits.{AreDigits, IsDigitPair}
use Rattle.zvt_bcd.proofs.PairTests.{is_pair_test}
use Rattle.zvt_grammar.specs.declared.why.Why.TheVariants.{NotDigit}
use Rattle.zvt_grammar.specs.Beginnings.{Alive, NoneWhole, Unfinished, Place}
use Rattle.zvt_grammar.specs.Reading.{Reading, AreBytes}
use Rattle.zvt_grammar.specs.Tests.{check}
use Rattle.zvt_tlv.proofs.Spelling.{same_prefix}
use Rattle.zvt_tlv.proofs.Alive.{prefix_of}
use Rattle.zvt_tlv.proofs.Levels.{byte_from}
use Rattle.zvt_apdu.specs.Message.{Message}
use Rattle.zvt_apdu.specs.Grammar.{IsFrameLength, Spells}
use Rattle.zvt_apdu.specs.Judging.{Layout, layout_of, head_size, digit, WhyOf, Found, Opens, Headed, WrongDigit, Opening, bytes_after}
use Rattle.zvt_apdu.specs.Messages.{IsMessage, HasSpelling}
use Rattle.zvt_apdu.proofs.OwnedLemmas.{message_shortened}
use Rattle.zvt_apdu.proofs.Opened.{begun, Goes, goes, goes_alive, fills_out, alive_bytes, alive_digits, alive_free, no_digits}

pub are_bytes : (s : List ℕ) → ((i : ℕ) → get_or s i 0 < 256) → AreBytes s
are_bytes [] h = tt
are_bytes (x ∷ s) h = (h 0, are_bytes s (λ i. h (suc i)))

bytes_apart : (a b : List ℕ) → AreBytes (a ++ b) → AreBytes a × AreBytes b
bytes_apart [] b h = (tt, h)
bytes_apart (x ∷ a) b h = let more = bytes_apart a b h.1 in ((h.0, more.0), more.1)

pub take_bytes : (k : ℕ) (s : List ℕ) → AreBytes s → AreBytes (take k s)
take_bytes k s h = (bytes_apart (take k s) (drop k s) (subst AreBytes (sym (take-append-drop k s)) h)).0

pub drop_bytes : (k : ℕ) (s : List ℕ) → AreBytes s → AreBytes (drop k s)
drop_bytes k s h = (bytes_apart (take k s) (drop k s) (subst AreBytes (sym (take-append-drop k s)) h)).1

abbrev pub from : ℕ → List ℕ → List ℕ
from k bytes = take (length bytes - k) (drop k bytes)

-- what comes after the length
pub inside_is : (r : Reading) (bytes : List ℕ) (o : Opening) (p : Opens r bytes o) → drop o.start bytes ≡ p.inside
inside_is r bytes o p =
    let head = o.high ∷ o.low ∷ p.size in
    let size : o.start ≡ length head = omega (arith, p.starts) in
    ap (λ (n : ℕ). drop n bytes) size ∙ ap (drop (length head)) p.whole ∙ drop-append_seam head p.inside

pub prefix_is : (r : Reading) (bytes : List ℕ) (o : Opening) (p : Opens r bytes o) (k : ℕ) → take (o.start + k) bytes ≡ begun o.high o.low p.size (take k p.inside)
prefix_is r bytes o p k =
    let head = o.high ∷ o.low ∷ p.size in
    let size : o.start + k ≡ length head + k = omega (arith, p.starts) in
    ap (λ (n : ℕ). take n bytes) size ∙ ap (take (length head + k)) p.whole ∙ take-append-add head p.inside k

pub whole_size : (r : Reading) (bytes : List ℕ) (o : Opening) (p : Opens r bytes o) → length bytes ≡ o.start + length p.inside
whole_size r bytes o p = omega (arith, ap length p.whole, length-append p.size p.inside, p.starts)

pub inside_bytes : (r : Reading) (bytes : List ℕ) (o : Opening) (p : Opens r bytes o) → AreBytes bytes → AreBytes p.inside
inside_bytes r bytes o p h = (bytes_apart (o.high ∷ o.low ∷ p.size) p.inside (subst AreBytes p.whole h)).1

pub goes_with : (r : Reading) (bytes : List ℕ) (o : Opening) (p : Opens r bytes o) (m : Message) (b rest : List ℕ) → bytes ≡ b ++ rest → Spells r m b → Goes r o.high o.low o.size p.size p.inside b rest
goes_with r bytes o p m b rest e q = goes r m b rest o.high o.low o.size p.size p.inside q p.is_size (sym e ∙ p.whole)

pub none_whole : (r : Reading) (bytes : List ℕ) (o : Opening) (p : Opens r bytes o) → length p.inside < o.size → NoneWhole (Spells r) bytes
none_whole r bytes o p few m b rest e q =
    let g = goes_with r bytes o p m b rest e q in omega (arith, ap length g.inside_is, length-append g.content rest, g.sized)

-- the digits, before what follows
last_digits : (a : List ℕ) (x : ℕ) → AreDigits (a ++ x ∷ []) → IsDigitPair x
last_digits [] x p = All-head IsDigitPair x [] p
last_digits (y ∷ a) x p = last_digits a x (All-tail IsDigitPair y (a ++ x ∷ []) p)

pub prefix_digits : (a b : List ℕ) → AreDigits (a ++ b) → AreDigits a
prefix_digits a b p = All-same IsDigitPair a (take (length a) (a ++ b)) (sym (take-append_seam a b)) (All-take IsDigitPair (length a) (a ++ b) p)

-- a byte of the digits of what goes with a beginning is a pair of digits
pub digit_holds : (r : Reading) (high low n : ℕ) (size prefix rest f d later : List ℕ) (x : ℕ) (inside : List ℕ) → Goes r high low n size inside prefix rest → inside ≡ f ++ ((d ++ x ∷ []) ++ later) → length f ≡ (layout_of high low n).free → length d < (layout_of high low n).digits → IsDigitPair x
digit_holds r high low n size prefix rest f d later x inside g e fs ds =
    let p = g.parts in
    let whole : p.free ++ (p.digits ++ (p.tail ++ rest)) ≡ f ++ ((d ++ x ∷ []) ++ later) =
    let back : (p.free ++ (p.digits ++ p.tail)) ++ rest ≡ p.free ++ (p.digits ++ (p.tail ++ rest)) = simp append_assoc in
    sym back ∙ ap (λ (s : List ℕ). s ++ rest) (sym p.whole) ∙ g.inside_is ∙ e in
    let one = same_prefix p.free f (p.digits ++ (p.tail ++ rest)) ((d ++ x ∷ []) ++ later) (p.free_size ∙ sym fs) whole in
    let m = prefix_of (d ++ x ∷ []) later p.digits (p.tail ++ rest) (sym one.1) (omega (arith, length-append d (x ∷ []), p.digits_size, ds)) in
    last_digits d x (prefix_digits (d ++ x ∷ []) m.0 (subst AreDigits m.1 p.are_digits))

digit_at : (r : Reading) (o : Opening) (k : ℕ) (bytes : List ℕ) (p : Opens r bytes o) (l : Layout) → l ≡ layout_of o.high o.low o.size → WrongDigit l.free l.digits p.inside k → AreBytes p.inside →
    NoneWhole (Spells r) bytes × Place (Spells r) bytes (o.start + k) × WhyOf r bytes (o.start + k) NotDigit
digit_at r o k bytes p l is w are =
    let inside = p.inside in
    let f = take l.free inside in
    let d = take (k - l.free) (drop l.free inside) in
    let later = drop (suc k) inside in
    let fs : length f ≡ l.free = length-take-le l.free inside (omega (arith, w.trailing, w.present)) in
    let ds : length d ≡ k - l.free = length-take-le (k - l.free) (drop l.free inside) (omega (arith, w.present, length-drop l.free inside)) in
    let frees : length f ≡ (layout_of o.high o.low o.size).free = fs ∙ ap (λ (l : Layout). l.free) is in
    let few : length d < (layout_of o.high o.low o.size).digits = omega (arith, ds, w.within, w.trailing, ap (λ (l : Layout). l.digits) is) in
    let byte : get_or inside k 0 ≡ w.byte = get_or_from_slice_get inside k w.byte 0 w.is_byte in
    let before : take k inside ≡ f ++ d =
    let e : k ≡ l.free + (k - l.free) = omega (arith, w.trailing) in ap (λ (m : ℕ). take m inside) e ∙ take-add l.free (k - l.free) inside in
    let through : take (suc k) inside ≡ f ++ (d ++ w.byte ∷ []) =
    take-suc inside k 0 w.present ∙ ap (λ (s : List ℕ). s ++ get_or inside k 0 ∷ []) before ∙ ap (λ (x : ℕ). (f ++ d) ++ x ∷ []) byte ∙ append_assoc f d (w.byte ∷ []) in
    let whole : inside ≡ f ++ ((d ++ w.byte ∷ []) ++ later) = sym (take-append-drop (suc k) inside) ∙ ap (λ (s : List ℕ). s ++ later) through ∙ append_assoc f (d ++ w.byte ∷ []) later in
    let next : suc (o.start + k) ≡ o.start + suc k = omega arith in (
      λ m b rest e q. dead (digit_holds r o.high o.low o.size p.size b rest f d later w.byte inside (goes_with r bytes o p m b rest e q) whole frees few),
      record {
        present = omega (arith, whole_size r bytes o p, w.present);
        alive = subst (Alive (Spells r)) (ap (begun o.high o.low p.size) (sym before) ∙ sym (prefix_is r bytes o p k))
            (alive_digits r o.high o.low o.size p.size p.are_bytes p.is_size f d frees (take_bytes l.free inside are) (omega (arith, few)) w.passed p.fills);
        dead = λ a.
            let b = subst (Alive (Spells r)) (ap (λ (m : ℕ). take m bytes) next ∙ prefix_is r bytes o p (suc k) ∙ ap (begun o.high o.low p.size) through) a in
            dead (digit_holds r o.high o.low o.size p.size _ [] f d b.rest w.byte _ (goes_alive r o.high o.low o.size p.size (f ++ (d ++ w.byte ∷ [])) p.is_size b) (append_assoc f (d ++ w.byte ∷ []) b.rest) frees few);
      },
      record {
        openers = [];
        role = digit;
        byte = w.byte;
        stands = (
          record {
            high = o.high;
            low = o.low;
            size = p.size;
            n = o.size;
            inside = take k inside;
            whole = prefix_is r bytes o p k;
            are_bytes = p.are_bytes;
            is_size = p.is_size;
            fills = p.fills;
            short = omega (arith, length-take-le k inside (omega (arith, w.present)), w.within, (fills_out (layout_of o.high o.low o.size) o.size p.fills).0, ap head_size is);
          },
          refl,
          omega (arith, length-take-le k inside (omega (arith, w.present)), w.trailing, ap (λ (l : Layout). l.free) is),
          omega (arith, length-take-le k inside (omega (arith, w.present)), w.within, ap head_size is),
        );
        is_byte = byte_from o.start k w.byte bytes (omega (arith, ap length (inside_is r bytes o p), w.present)) (subst (λ (s : List ℕ). slice_get s k ≡ Some w.byte) (sym (inside_is r bytes o p)) w.is_byte);
        fails = ap (λ (b : Bool). check b NotDigit None) w.fails;
      },
    )
  where
    dead : IsDigitPair w.byte → ⊥
    dead q = false≢true (sym w.fails ∙ is_pair_test w.byte q)

pub digit_refused : (r : Reading) (bytes inside : List ℕ) (o : Opening) (l : Layout) (k : ℕ) → Opens r bytes o → l ≡ layout_of o.high o.low o.size → inside ≡ drop o.start bytes → WrongDigit l.free l.digits inside k → AreBytes bytes →
    NoneWhole (Spells r) bytes × Place (Spells r) bytes (o.start + k) × WhyOf r bytes (o.start + k) NotDigit
digit_refused r bytes inside o l k p is e w are = digit_at r o k bytes p l is (subst (λ (s : List ℕ). WrongDigit l.free l.digits s k) (e ∙ inside_is r bytes o p) w) (inside_bytes r bytes o p are)

-- too few bytes before the fields or the free bytes
head_short : (r : Reading) (bytes : List ℕ) (o : Opening) (p : Opens r bytes o) (l : Layout) → l ≡ layout_of o.high o.low o.size → AreDigits (take l.digits (drop l.free p.inside)) → length p.inside < head_size l → AreBytes p.inside → Unfinished (Spells r) bytes
head_short r bytes o p l is digits few are = record {
  alive = subst (Alive (Spells r)) (sym p.whole) (by_size (cases_lt (length p.inside) l.free));
  none_whole = none_whole r bytes o p (omega (arith, few, (fills_out (layout_of o.high o.low o.size) o.size p.fills).0, ap head_size is));
}
  where
    by_size : (length p.inside < l.free) ⊎ (l.free ≤ length p.inside) → Alive (Spells r) (begun o.high o.low p.size p.inside)
    by_size (inl lt) = alive_free r o.high o.low o.size p.size p.are_bytes p.is_size p.inside (omega (arith, lt, ap (λ (l : Layout). l.free) is)) are p.fills
    by_size (inr le) =
        let trailing = drop l.free p.inside in
        let all : take l.digits trailing ≡ trailing = take_all l.digits trailing (omega (arith, length-drop l.free p.inside, few)) in
        subst (λ (s : List ℕ). Alive (Spells r) (begun o.high o.low p.size s)) (take-append-drop l.free p.inside)
        (alive_digits r o.high o.low o.size p.size p.are_bytes p.is_size (take l.free p.inside) trailing (length-take-le l.free p.inside le ∙ ap (λ (l : Layout). l.free) is) (take_bytes l.free p.inside are)
        (omega (arith, length-drop l.free p.inside, few, ap (λ (l : Layout). l.digits) is)) (subst AreDigits all digits) p.fills)

pub head_more : (r : Reading) (bytes inside : List ℕ) (o : Opening) (l : Layout) → Opens r bytes o → l ≡ layout_of o.high o.low o.size → inside ≡ drop o.start bytes → AreDigits (take l.digits (drop l.free inside)) → length inside < head_size l → AreBytes bytes → Unfinished (Spells r) bytes
head_more r bytes inside o l p is e digits few are =
    let same : inside ≡ p.inside = e ∙ inside_is r bytes o p in
    head_short r bytes o p l is (subst (λ (s : List ℕ). AreDigits (take l.digits (drop l.free s))) same digits) (omega (arith, few, ap length same)) (inside_bytes r bytes o p are)

pub headed : (r : Reading) (bytes inside : List ℕ) (o : Opening) (l : Layout) → Opens r bytes o → l ≡ layout_of o.high o.low o.size → inside ≡ drop o.start bytes → AreDigits (take l.digits (drop l.free inside)) → head_size l ≤ length inside → Headed r bytes o l
headed r bytes inside o l p is e digits enough = record {
  opens = p;
  is_layout = is;
  there = omega (arith, enough, ap length e);
  are_digits = subst (λ (s : List ℕ). AreDigits (take l.digits (drop l.free s))) e digits;
}

-- the parts that stand
pub record Stands (r : Reading) (bytes : List ℕ) (o : Opening) (l : Layout) : Type 0 where
  pub opens : Opens r bytes o
  pub is_layout : l ≡ layout_of o.high o.low o.size
  pub there : head_size l ≤ length opens.inside
  pub free_size : length (take l.free opens.inside) ≡ (layout_of o.high o.low o.size).free
  pub digits_size : length (take l.digits (drop l.free opens.inside)) ≡ (layout_of o.high o.low o.size).digits
  pub are_digits : AreDigits (take l.digits (drop l.free opens.inside))
  pub parts : opens.inside ≡ take l.free opens.inside ++ (take l.digits (drop l.free opens.inside) ++ drop (head_size l) opens.inside)

unfoldable pub stands : (r : Reading) (bytes : List ℕ) (o : Opening) (l : Layout) → Headed r bytes o l → Stands r bytes o l
stands r bytes o l h =
    let inside = h.opens.inside in
    let same : drop o.start bytes ≡ inside = inside_is r bytes o h.opens in
    let there : head_size l ≤ length inside = omega (arith, h.there, ap length same) in
    record {
      opens = h.opens;
      is_layout = h.is_layout;
      there = there;
      free_size = length-take-le l.free inside (omega (arith, there)) ∙ ap (λ (l : Layout). l.free) h.is_layout;
      digits_size = length-take-le l.digits (drop l.free inside) (omega (arith, length-drop l.free inside, there)) ∙ ap (λ (l : Layout). l.digits) h.is_layout;
      are_digits = subst (λ (s : List ℕ). AreDigits (take l.digits (drop l.free s))) same h.are_digits;
      parts = sym (take-append-drop l.free inside) ∙ ap (λ (s : List ℕ). take l.free inside ++ s) (sym (take-append-drop l.digits (drop l.free inside)))
          ∙ ap (λ (s : List ℕ). take l.free inside ++ (take l.digits (drop l.free inside) ++ s)) (drop-drop l.digits l.free inside);
    }

-- a message whose data these bytes are
pub is_found : (r : Reading) (bytes content : List ℕ) (o : Opening) (p : Opens r bytes o) (m : Message) → IsMessage r o.high o.low content m → content ≡ take o.size p.inside → o.size ≤ length p.inside → Found r bytes m (o.start + o.size)
is_found r bytes content o p m h e enough =
    let sized : length content ≡ o.size = ap length e ∙ length-take-le o.size p.inside enough in
    record {
      present = omega (arith, whole_size r bytes o p, enough);
      spelled = record {
        control = o.high ∷ o.low ∷ [];
        size = p.size;
        content = content;
        whole = prefix_is r bytes o p o.size ∙ ap (begun o.high o.low p.size) (sym e);
        is_control = h.is_control;
        is_size = subst (λ (k : ℕ). IsFrameLength r k p.size) (sym sized) p.is_size;
        is_content = h.is_content;
      };
    }

pub found_spelling : (r : Reading) (bytes : List ℕ) (m : Message) (n : ℕ) → Found r bytes m n → HasSpelling m
found_spelling r bytes m n h = message_shortened r m (take n bytes) h.spelled

-- bytes of any value
pub bytes_more : (r : Reading) (bytes inside : List ℕ) (o : Opening) (l : Layout) → Headed r bytes o l → l.fields ≡ false → inside ≡ drop o.start bytes → length inside < o.size → AreBytes bytes → Unfinished (Spells r) bytes
bytes_more r bytes inside o l h f e few are =
    let s = stands r bytes o l h in
    let p = s.opens in
    let data_bytes = inside_bytes r bytes o p are in
    let short : length p.inside < o.size = omega (arith, few, ap length e, ap length (inside_is r bytes o p)) in
    record {
      alive = subst (Alive (Spells r)) (ap (begun o.high o.low p.size) (sym s.parts) ∙ sym p.whole)
          (alive_bytes r o.high o.low o.size p.size p.are_bytes p.is_size (take l.free p.inside) (take l.digits (drop l.free p.inside)) (drop (head_size l) p.inside) s.free_size (take_bytes l.free p.inside data_bytes) s.digits_size s.are_digits
          (ap (λ (l : Layout). l.fields) (sym s.is_layout) ∙ f) (omega (arith, length-drop (head_size l) p.inside, s.there, short, ap head_size s.is_layout)) (drop_bytes (head_size l) p.inside data_bytes));
      none_whole = none_whole r bytes o p short;
    }

-- what comes first, and the bytes after it
pub bytes_parts : (r : Reading) (bytes inside payload : List ℕ) (o : Opening) (l : Layout) → (h : Headed r bytes o l) → l.fields ≡ false → inside ≡ drop o.start bytes → o.size ≤ length inside → payload ≡ take (o.size - l.free) (drop l.free inside) →
    (take l.free inside ++ payload ≡ take o.size h.opens.inside) × (length (take l.free inside) ≡ l.free) × (length (take l.free inside) + length payload ≡ o.size)
bytes_parts r bytes inside payload o l h f e enough is =
    let same : inside ≡ h.opens.inside = e ∙ inside_is r bytes o h.opens in
    let fits = fills_out (layout_of o.high o.low o.size) o.size h.opens.fills in
    let free_fits : l.free ≤ o.size = omega (arith, fits.0, ap head_size h.is_layout) in
    let one : take l.free inside ++ payload ≡ take o.size inside =
    let total : l.free + (o.size - l.free) ≡ o.size = omega arith in
    ap (λ (s : List ℕ). take l.free inside ++ s) is ∙ sym (take-add l.free (o.size - l.free) inside) ∙ ap (λ (k : ℕ). take k inside) total in
    let prefix_size : length (take l.free inside) ≡ l.free = length-take-le l.free inside (omega (arith, enough)) in (
      one ∙ ap (take o.size) same,
      prefix_size,
      omega (arith, ap length one, length-append (take l.free inside) payload, length-take-le o.size inside enough),
    )

plain_layout : (l : Layout) → l.digits ≡ 0 → l.fields ≡ false → l ≡ bytes_after l.free
plain_layout l d f = ap (λ (k : ℕ). record { free = l.free; digits = k; fields = l.fields }) d ∙ ap (λ (b : Bool). record { free = l.free; digits = 0; fields = b }) f

pub laid : (r : Reading) (bytes inside payload : List ℕ) (o : Opening) (l : Layout) → (h : Headed r bytes o l) → l.fields ≡ false → inside ≡ drop o.start bytes → o.size ≤ length inside → payload ≡ take (o.size - l.free) (drop l.free inside) →
    layout_of o.high o.low (length (take l.free inside) + length payload) ≡ bytes_after (length (take l.free inside))
laid r bytes inside payload o l h f e enough is =
    let q = bytes_parts r bytes inside payload o l h f e enough is in
    let there : layout_of o.high o.low o.size ≡ l = sym h.is_layout in
    let digits : l.digits ≡ 0 = ap (λ (l : Layout). l.digits) h.is_layout ∙ no_digits o.high o.low o.size (ap (λ (l : Layout). l.fields) there ∙ f) in
    ap (λ (n : ℕ). layout_of o.high o.low n) q.2 ∙ there ∙ plain_layout l digits f ∙ ap bytes_after (sym q.1)

pub bytes_whole : (r : Reading) (bytes inside payload : List ℕ) (o : Opening) (l : Layout) (m : Message) → (h : Headed r bytes o l) → l.fields ≡ false → inside ≡ drop o.start bytes → o.size ≤ length inside → payload ≡ take (o.size - l.free) (drop l.free inside) →
    IsMessage r o.high o.low (take l.free inside ++ payload) m → Found r bytes m (o.start + o.size)
bytes_whole r bytes inside payload o l m h f e enough is q =
    is_found r bytes (take l.free inside ++ payload) o h.opens m q (bytes_parts r bytes inside payload o l h f e enough is).0 (omega (arith, enough, ap length e, ap length (inside_is r bytes o h.opens)))

pub payload_bytes : (r : Reading) (bytes inside payload : List ℕ) (o : Opening) (l : Layout) → (h : Headed r bytes o l) → l.fields ≡ false → inside ≡ drop o.start bytes → o.size ≤ length inside → payload ≡ take (o.size - l.free) (drop l.free inside) → AreBytes bytes →
    AreBytes (take l.free inside ++ payload)
payload_bytes r bytes inside payload o l h f e enough is are =
    subst AreBytes (sym (bytes_parts r bytes inside payload o l h f e enough is).0) (take_bytes o.size h.opens.inside (inside_bytes r bytes o h.opens are))
