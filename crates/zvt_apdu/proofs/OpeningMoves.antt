-- The steps of the reader of control bytes and a length.
use Rattle.std.proofs.Common.{◌≡◌, ℕ, ◌+◌, ◌*◌, ◌<◌, ◌≤◌, ◌==◌, Bool, true, false, None, List, [], ◌∷◌, ◌++◌, length, get_or, refl, sym, ◌∙◌, ap, subst, arith, length-append, suc}
use Rattle.std.proofs.lemmas.Bool.{false≢true, lt-leb, le-leb, cond-false, ne_eqb}
use Rattle.zvt_grammar.specs.declared.why.Why.TheVariants.{NotShortest, DoesNotFit}
use Rattle.zvt_grammar.specs.Beginnings.{Alive, NoneWhole, Unfinished, Place}
use Rattle.zvt_grammar.specs.Reading.{Reading, shortest, padded, least}
use Rattle.zvt_grammar.specs.Tests.{check}
use Rattle.zvt_grammar.proofs.CutLemmas.{prefixes_alive}
use Rattle.zvt_apdu.specs.Message.{Message}
use Rattle.zvt_apdu.specs.Grammar.{IsFrameLength, Spells}
use Rattle.zvt_apdu.specs.Judging.{Layout, layout_of, can_fill, first_size, high_size, WhyOf, Opens}
use Rattle.zvt_apdu.proofs.Frames.{frame_of}
use Rattle.zvt_apdu.proofs.Opened.{goes, parts_fill, fills_long, alive_open}

-- each byte of the list is one
abbrev pub AreSmall : List ℕ → Type 0
AreSmall bytes = (i : ℕ) → get_or bytes i 0 < 256

-- a long length is long in both readings
pub least_long : (r : Reading) (n : ℕ) → 255 ≤ n → least r 255 ≤ n
least_long shortest n le = le
least_long padded n le = omega arith

-- what begins a long length is alive
pub alive_long : (r : Reading) (high low size_low : ℕ) → high < 256 → low < 256 → size_low < 256 → Alive (Spells r) (high ∷ low ∷ 0xFF ∷ size_low ∷ 255 ∷ [])
alive_long r high low s h l lt =
    alive_open r high low (256 * 255 + s) (0xFF ∷ s ∷ 255 ∷ []) (h, l) (refl, least_long r (256 * 255 + s) (omega arith), lt, omega arith, refl) (fills_long high low (256 * 255 + s) (omega arith))

pub prefix : (r : Reading) (prefix rest : List ℕ) → Alive (Spells r) (prefix ++ rest) → Alive (Spells r) prefix
prefix r = prefixes_alive (Spells r)

-- a message has control bytes and a length
size_size : (r : Reading) (n : ℕ) (s : List ℕ) → IsFrameLength r n s → 1 ≤ length s
size_size r n [] p = absurd p
size_size r n (a ∷ s) p = omega arith

pub message_size : (r : Reading) (m : Message) (b : List ℕ) → Spells r m b → 3 ≤ length b
message_size r m b p =
    let f = frame_of r m b p in
    omega (arith, ap length f.whole, length-append f.size f.content, size_size r (length f.content) f.size f.is_size)

-- a message that begins with a long length
pub record Long (r : Reading) (bytes more : List ℕ) : Type 0 where
  pub low : ℕ
  pub high : ℕ
  pub later : List ℕ
  pub whole : more ≡ low ∷ high ∷ later
  pub enough : 5 ≤ length bytes
  pub least_size : least r 255 ≤ 256 * high + low

pub long : (r : Reading) (m : Message) (b rest : List ℕ) (high low : ℕ) (more : List ℕ) → Spells r m b → b ++ rest ≡ high ∷ low ∷ 0xFF ∷ more → Long r b more
long r m b rest high low more p e =
    let f = frame_of r m b p in
    let trailing : (f.size ++ f.content) ++ rest ≡ 0xFF ∷ more = cc (sym (ap (λ (s : List ℕ). s ++ rest) f.whole) ∙ e) in
    by_size f.content f.size f.is_size trailing (ap length f.whole)
  where
    by_size : (c s : List ℕ) → IsFrameLength r (length c) s → (s ++ c) ++ rest ≡ 0xFF ∷ more → length b ≡ suc (suc (length (s ++ c))) → Long r b more
    by_size c [] q h l = absurd q
    by_size c (a ∷ []) q h l = let same : a ≡ 0xFF = cc (h) in absurd (omega (arith, q.0, q.1, same))
    by_size c (a ∷ x ∷ []) q h l = absurd q
    by_size c (a ∷ x ∷ y ∷ []) q h l = record { low = x; high = y; later = c ++ rest; whole = cc (h); enough = omega (arith, l); least_size = omega (arith, q.1, q.4) }
    by_size c (a ∷ x ∷ y ∷ z ∷ s) q h l = absurd q

-- too few bytes
pub head_short : (r : Reading) (bytes : List ℕ) → length bytes < 3 → AreSmall bytes → Unfinished (Spells r) bytes
head_short r bytes few small = record { alive = alive bytes few small; none_whole = λ m b rest e p. omega (arith, ap length e, length-append b rest, message_size r m b p) }
  where
    alive : (b : List ℕ) → length b < 3 → AreSmall b → Alive (Spells r) b
    alive [] few small = prefix r [] (0 ∷ 0 ∷ 0xFF ∷ 0 ∷ 255 ∷ []) (alive_long r 0 0 0 (omega arith) (omega arith) (omega arith))
    alive (h ∷ []) few small = prefix r (h ∷ []) (0 ∷ 0xFF ∷ 0 ∷ 255 ∷ []) (alive_long r h 0 0 (omega (arith, small 0)) (omega arith) (omega arith))
    alive (h ∷ l ∷ []) few small = prefix r (h ∷ l ∷ []) (0xFF ∷ 0 ∷ 255 ∷ []) (alive_long r h l 0 (omega (arith, small 0)) (omega (arith, small 1)) (omega arith))
    alive (h ∷ l ∷ x ∷ b) few small = absurd (omega arith)

pub length_short : (r : Reading) (bytes : List ℕ) → 3 ≤ length bytes → length bytes < 5 → get_or bytes 2 0 ≡ 0xFF → AreSmall bytes → Unfinished (Spells r) bytes
length_short r [] some few ff small = absurd (omega arith)
length_short r (h ∷ []) some few ff small = absurd (omega arith)
length_short r (h ∷ l ∷ []) some few ff small = absurd (omega arith)
length_short r (h ∷ l ∷ x ∷ more) some few ff small = record {
  alive = alive more few small;
  none_whole = λ m b rest e p. let q = long r m b rest h l more p (sym e ∙ ap (λ (y : ℕ). h ∷ l ∷ y ∷ more) ff) in omega (arith, ap length e, length-append b rest, q.enough);
}
  where
    alive : (more : List ℕ) → length (h ∷ l ∷ x ∷ more) < 5 → AreSmall (h ∷ l ∷ x ∷ more) → Alive (Spells r) (h ∷ l ∷ x ∷ more)
    alive [] few small =
        subst (λ (y : ℕ). Alive (Spells r) (h ∷ l ∷ y ∷ [])) (sym ff) (prefix r (h ∷ l ∷ 0xFF ∷ []) (0 ∷ 255 ∷ []) (alive_long r h l 0 (omega (arith, small 0)) (omega (arith, small 1)) (omega arith)))
    alive (s ∷ []) few small =
        subst (λ (y : ℕ). Alive (Spells r) (h ∷ l ∷ y ∷ s ∷ [])) (sym ff) (prefix r (h ∷ l ∷ 0xFF ∷ s ∷ []) (255 ∷ []) (alive_long r h l s (omega (arith, small 0)) (omega (arith, small 1)) (omega (arith, small 3))))
    alive (s ∷ t ∷ more) few small = absurd (omega arith)

-- a long length that a short one would say
pub length_padded : (r : Reading) (bytes : List ℕ) → 5 ≤ length bytes → get_or bytes 2 0 ≡ 0xFF → get_or bytes 3 0 + 256 * get_or bytes 4 0 < least r 255 → AreSmall bytes →
    NoneWhole (Spells r) bytes × Place (Spells r) bytes 4 × WhyOf r bytes 4 NotShortest
length_padded r [] some ff less small = absurd (omega arith)
length_padded r (h ∷ []) some ff less small = absurd (omega arith)
length_padded r (h ∷ l ∷ []) some ff less small = absurd (omega arith)
length_padded r (h ∷ l ∷ x ∷ []) some ff less small = absurd (omega arith)
length_padded r (h ∷ l ∷ x ∷ s ∷ []) some ff less small = absurd (omega arith)
length_padded r (h ∷ l ∷ x ∷ s ∷ t ∷ more) some ff less small = (
  λ m b rest e p. dead m b rest more p (sym e),
  record {
    present = omega arith;
    alive = subst (λ (y : ℕ). Alive (Spells r) (h ∷ l ∷ y ∷ s ∷ [])) (sym ff) (prefix r (h ∷ l ∷ 0xFF ∷ s ∷ []) (255 ∷ []) (alive_long r h l s (omega (arith, small 0)) (omega (arith, small 1)) (omega (arith, small 3))));
    dead = λ a. dead a.value (h ∷ l ∷ x ∷ s ∷ t ∷ a.rest) [] (a.rest ++ []) a.spelled refl;
  },
  record {
    openers = [];
    role = high_size h l s;
    byte = t;
    stands = (refl, ap (λ (y : ℕ). h ∷ l ∷ y ∷ s ∷ []) ff, omega (arith, small 0), omega (arith, small 1), omega (arith, small 3));
    is_byte = refl;
    fails = ap (λ (b : Bool). check b NotShortest (check (can_fill (layout_of h l (256 * t + s)) (256 * t + s)) DoesNotFit None)) (lt-leb (least r 255) (256 * t + s) (let lt : s + 256 * t < least r 255 = less in omega arith));
  },
)
  where
    dead : (m : Message) (b rest later : List ℕ) → Spells r m b → b ++ rest ≡ h ∷ l ∷ x ∷ s ∷ t ∷ later → ⊥
    dead m b rest later p e =
        let q = long r m b rest h l (s ∷ t ∷ later) p (e ∙ ap (λ (y : ℕ). h ∷ l ∷ y ∷ s ∷ t ∷ later) ff) in
        let lows : s ≡ q.low = cc (q.whole) in
        let highs : t ≡ q.high = cc (q.whole) in
        omega (arith, q.least_size, lows, highs)

-- a short length that no data of these control bytes has
pub length_refused : (r : Reading) (bytes : List ℕ) (n : ℕ) → 3 ≤ length bytes → n ≡ get_or bytes 2 0 → n < 255 → can_fill (layout_of (get_or bytes 0 0) (get_or bytes 1 0) n) n ≡ false → AreSmall bytes →
    NoneWhole (Spells r) bytes × Place (Spells r) bytes 2 × WhyOf r bytes 2 DoesNotFit
length_refused r [] n some is less f small = absurd (omega arith)
length_refused r (h ∷ []) n some is less f small = absurd (omega arith)
length_refused r (h ∷ l ∷ []) n some is less f small = absurd (omega arith)
length_refused r (h ∷ l ∷ x ∷ more) n some is less f small = (
  λ m b rest w p. dead m b rest more p (sym w),
  record {
    present = omega arith;
    alive = prefix r (h ∷ l ∷ []) (0xFF ∷ 0 ∷ 255 ∷ []) (alive_long r h l 0 (omega (arith, small 0)) (omega (arith, small 1)) (omega arith));
    dead = λ a. dead a.value (h ∷ l ∷ x ∷ a.rest) [] (a.rest ++ []) a.spelled refl;
  },
  record {
    openers = [];
    role = first_size h l;
    byte = x;
    stands = (refl, refl, omega (arith, small 0), omega (arith, small 1));
    is_byte = refl;
    fails = cond-false (x == 0xFF) None (check (can_fill (layout_of h l x) x) DoesNotFit None) (ne_eqb x 0xFF (λ e. omega (arith, is, less, e)))
        ∙ ap (λ (k : ℕ). check (can_fill (layout_of h l k) k) DoesNotFit None) (sym is) ∙ ap (λ (b : Bool). check b DoesNotFit None) f;
  },
)
  where
    dead : (m : Message) (b rest later : List ℕ) → Spells r m b → b ++ rest ≡ h ∷ l ∷ x ∷ later → ⊥
    dead m b rest later p w =
        let g = goes r m b rest h l n (x ∷ []) later p (less, sym is) w in
        let fills : can_fill (layout_of h l n) n ≡ true = subst (λ (k : ℕ). can_fill (layout_of h l n) k ≡ true) g.sized (parts_fill r (layout_of h l n) g.content g.parts) in
        false≢true (sym f ∙ fills)

-- a long length that no data of these control bytes has
pub length_unfit : (r : Reading) (bytes : List ℕ) (n : ℕ) → 5 ≤ length bytes → get_or bytes 2 0 ≡ 0xFF → n ≡ get_or bytes 3 0 + 256 * get_or bytes 4 0 → least r 255 ≤ n →
    can_fill (layout_of (get_or bytes 0 0) (get_or bytes 1 0) n) n ≡ false → AreSmall bytes → NoneWhole (Spells r) bytes × Place (Spells r) bytes 4 × WhyOf r bytes 4 DoesNotFit
length_unfit r [] n some ff is le f small = absurd (omega arith)
length_unfit r (h ∷ []) n some ff is le f small = absurd (omega arith)
length_unfit r (h ∷ l ∷ []) n some ff is le f small = absurd (omega arith)
length_unfit r (h ∷ l ∷ x ∷ []) n some ff is le f small = absurd (omega arith)
length_unfit r (h ∷ l ∷ x ∷ s ∷ []) n some ff is le f small = absurd (omega arith)
length_unfit r (h ∷ l ∷ x ∷ s ∷ t ∷ more) n some ff is le f small = (
  λ m b rest e p. dead m b rest more p (sym e),
  record {
    present = omega arith;
    alive = subst (λ (y : ℕ). Alive (Spells r) (h ∷ l ∷ y ∷ s ∷ [])) (sym ff) (prefix r (h ∷ l ∷ 0xFF ∷ s ∷ []) (255 ∷ []) (alive_long r h l s (omega (arith, small 0)) (omega (arith, small 1)) (omega (arith, small 3))));
    dead = λ a. dead a.value (h ∷ l ∷ x ∷ s ∷ t ∷ a.rest) [] (a.rest ++ []) a.spelled refl;
  },
  record {
    openers = [];
    role = high_size h l s;
    byte = t;
    stands = (refl, ap (λ (y : ℕ). h ∷ l ∷ y ∷ s ∷ []) ff, omega (arith, small 0), omega (arith, small 1), omega (arith, small 3));
    is_byte = refl;
    fails = ap (λ (b : Bool). check b NotShortest (check (can_fill (layout_of h l (256 * t + s)) (256 * t + s)) DoesNotFit None)) (le-leb (least r 255) (256 * t + s) (omega (arith, le, number)))
        ∙ ap (λ (b : Bool). check b DoesNotFit None) (ap (λ (k : ℕ). can_fill (layout_of h l k) k) (sym number) ∙ f);
  },
)
  where
    number : n ≡ 256 * t + s
    number = omega (arith, is)

    dead : (m : Message) (b rest later : List ℕ) → Spells r m b → b ++ rest ≡ h ∷ l ∷ x ∷ s ∷ t ∷ later → ⊥
    dead m b rest later p w =
        let g = goes r m b rest h l n (x ∷ s ∷ t ∷ []) later p (ff, le, omega (arith, small 3), omega (arith, small 4), number) w in
        let fills : can_fill (layout_of h l n) n ≡ true = subst (λ (k : ℕ). can_fill (layout_of h l n) k ≡ true) g.sized (parts_fill r (layout_of h l n) g.content g.parts) in
        false≢true (sym f ∙ fills)

-- control bytes and a length that stand
pub opens_long : (r : Reading) (bytes : List ℕ) (n : ℕ) → 5 ≤ length bytes → get_or bytes 2 0 ≡ 0xFF → n ≡ get_or bytes 3 0 + 256 * get_or bytes 4 0 → least r 255 ≤ n →
    can_fill (layout_of (get_or bytes 0 0) (get_or bytes 1 0) n) n ≡ true → AreSmall bytes → Opens r bytes (record { high = get_or bytes 0 0; low = get_or bytes 1 0; start = 5; size = n })
opens_long r [] n some ff is le f small = absurd (omega arith)
opens_long r (h ∷ []) n some ff is le f small = absurd (omega arith)
opens_long r (h ∷ l ∷ []) n some ff is le f small = absurd (omega arith)
opens_long r (h ∷ l ∷ x ∷ []) n some ff is le f small = absurd (omega arith)
opens_long r (h ∷ l ∷ x ∷ s ∷ []) n some ff is le f small = absurd (omega arith)
opens_long r (h ∷ l ∷ x ∷ s ∷ t ∷ more) n some ff is le f small = record {
  size = x ∷ s ∷ t ∷ [];
  inside = more;
  whole = refl;
  are_bytes = (omega (arith, small 0), omega (arith, small 1));
  is_size = (ff, le, omega (arith, small 3), omega (arith, small 4), omega (arith, is));
  fills = f;
  starts = refl;
}

pub opens_short : (r : Reading) (bytes : List ℕ) (n : ℕ) → 3 ≤ length bytes → n ≡ get_or bytes 2 0 → get_or bytes 2 0 < 255 → can_fill (layout_of (get_or bytes 0 0) (get_or bytes 1 0) n) n ≡ true → AreSmall bytes →
    Opens r bytes (record { high = get_or bytes 0 0; low = get_or bytes 1 0; start = 3; size = n })
opens_short r [] n some is less f small = absurd (omega arith)
opens_short r (h ∷ []) n some is less f small = absurd (omega arith)
opens_short r (h ∷ l ∷ []) n some is less f small = absurd (omega arith)
opens_short r (h ∷ l ∷ x ∷ more) n some is less f small = record {
  size = x ∷ [];
  inside = more;
  whole = refl;
  are_bytes = (omega (arith, small 0), omega (arith, small 1));
  is_size = (omega (arith, less, is), sym is);
  fills = f;
  starts = refl;
}

-- what the test of a size answers
pub fills_known : (high low n : ℕ) (l : Layout) (found asked : Bool) → l ≡ layout_of high low n → found ≡ can_fill l n → found ≡ asked → can_fill (layout_of high low n) n ≡ asked
fills_known high low n l found asked is e h = ap (λ (l : Layout). can_fill l n) (sym is) ∙ sym e ∙ h
