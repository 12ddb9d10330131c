-- One more byte leaves a message alive exactly where its tests pass.
use Rattle.std.proofs.Common.{◌≡◌, ◌≢◌, ℕ, ◌+◌, ◌*◌, ◌<◌, ◌≤◌, nat_le, Bool, true, false, Option, Some, None, List, [], ◌∷◌, ◌++◌, length, refl, sym, ◌∙◌, ap, subst, append_assoc, arith, length-append, ◌⊎◌, inl, inr}
use Rattle.std.proofs.lemmas.List.{append-nil}
use Rattle.std.proofs.lemmas.List.Elements.{All-push}
use Rattle.std.proofs.lemmas.Bool.{cases_eq, cond-false, ne_eqb, leb-true, leb-false, false≢true}
use Rattle.zvt_bcd.specs.Digits.{AreDigits, IsDigitPair, is_digit_pair}
use Rattle.zvt_bcd.proofs.PairTests.{is_pair, is_pair_test}
use Rattle.zvt_grammar.specs.declared.why.Why.{Why}
use Rattle.zvt_grammar.specs.declared.why.Why.TheVariants.{NotShortest, DoesNotFit, NotDigit}
use Rattle.zvt_grammar.specs.Reading.{Reading, AreBytes, least}
use Rattle.zvt_grammar.specs.Tests.{check}
use Rattle.zvt_grammar.specs.Beginnings.{Alive}
use Rattle.zvt_tlv.proofs.Spelling.{same_prefix}
use Rattle.zvt_tlv.proofs.Alive.{prefix_of, bytes_prefix, bytes_joined}
use Rattle.zvt_tlv.proofs.Room.{Says}
use Rattle.zvt_tlv.specs.Judging.{Opener}
use Rattle.zvt_apdu.specs.Grammar.{IsFrameLength, Spells}
use Rattle.zvt_apdu.specs.Judging.{layout_of, head_size, can_fill, Role, first_control, second_control, first_size, low_size, high_size, free, digit, in_fields, InData, layout_in, Position, fault}
use Rattle.zvt_apdu.specs.Laws.{TestsDecide}
use Rattle.zvt_apdu.proofs.Frames.{Tail}
use Rattle.zvt_apdu.proofs.Within.{fit_fields}
use Rattle.zvt_apdu.proofs.Opened.{begun, Goes, goes_alive, parts_fill, alive_open, alive_free, alive_digits, alive_bytes}
use Rattle.zvt_apdu.proofs.OpeningMoves.{alive_long, prefix, long}
use Rattle.zvt_apdu.proofs.DataMoves.{digit_holds, prefix_digits}

always : (P : Type 0) → P → Says None P
always P p = (λ e. p, λ w e q. absurd (cc (e)))

says_check : (b : Bool) (why : Why) (P : Type 0) → (b ≡ true → P) → (b ≡ false → P → ⊥) → Says (check b why None) P
says_check true why P passes fails = (λ e. passes refl, λ w e p. absurd (cc (e)))
says_check false why P passes fails = (λ e. absurd (cc (e)), λ w e p. fails refl p)

says_two : (a b : Bool) (first second : Why) (P : Type 0) → (a ≡ true → b ≡ true → P) → (a ≡ false → P → ⊥) → (a ≡ true → b ≡ false → P → ⊥) → Says (check a first (check b second None)) P
says_two true true v w P passes one two = (λ e. passes refl refl, λ u e p. absurd (cc (e)))
says_two true false v w P passes one two = (λ e. absurd (cc (e)), λ u e p. two refl refl p)
says_two false b v w P passes one two = (λ e. absurd (cc (e)), λ u e p. one refl p)

-- what goes with a beginning has data of its size
fills_alive : (r : Reading) (high low n : ℕ) (size : List ℕ) → IsFrameLength r n size → Alive (Spells r) (begun high low size []) → can_fill (layout_of high low n) n ≡ true
fills_alive r high low n size q a =
    let g = goes_alive r high low n size [] q a in
    subst (λ (k : ℕ). can_fill (layout_of high low n) k ≡ true) g.sized (parts_fill r (layout_of high low n) g.content g.parts)

fit_first_size : (r : Reading) (h l x : ℕ) → h < 256 → l < 256 → x < 256 → Says (fault r (first_size h l) x) (Alive (Spells r) (h ∷ l ∷ x ∷ []))
fit_first_size r h l x hs ls xs = by_byte (cases_eq x 0xFF)
  where
    by_byte : (x ≡ 0xFF) ⊎ (x ≢ 0xFF) → Says (fault r (first_size h l) x) (Alive (Spells r) (h ∷ l ∷ x ∷ []))
    by_byte (inl e) =
        subst (λ (y : ℕ). Says (fault r (first_size h l) y) (Alive (Spells r) (h ∷ l ∷ y ∷ []))) (sym e) (always _ (prefix r (h ∷ l ∷ 0xFF ∷ []) (0 ∷ 255 ∷ []) (alive_long r h l 0 hs ls (omega arith))))
    by_byte (inr ne) =
        let size : IsFrameLength r x (x ∷ []) = (omega arith, refl) in
        let is : fault r (first_size h l) x ≡ check (can_fill (layout_of h l x) x) DoesNotFit None = cond-false _ _ _ (ne_eqb x 0xFF ne) in
        subst (λ (o : Option Why). Says o (Alive (Spells r) (h ∷ l ∷ x ∷ []))) (sym is)
        (says_check (can_fill (layout_of h l x) x) DoesNotFit _ (λ e. alive_open r h l x (x ∷ []) (hs, ls) size e) (λ e a. false≢true (sym e ∙ fills_alive r h l x (x ∷ []) size a)))

fit_high_size : (r : Reading) (h l s x : ℕ) → h < 256 → l < 256 → s < 256 → x < 256 → Says (fault r (high_size h l s) x) (Alive (Spells r) (h ∷ l ∷ 0xFF ∷ s ∷ x ∷ []))
fit_high_size r h l s x hs ls ss xs =
    let n = 256 * x + s in
    says_two (nat_le (least r 255) n) (can_fill (layout_of h l n) n) NotShortest DoesNotFit _
    (λ e f. alive_open r h l n (0xFF ∷ s ∷ x ∷ []) (hs, ls) (refl, leb-true (least r 255) n e, ss, xs, refl) f)
    (λ e a. too_long e a)
    (λ e f a. false≢true (sym f ∙ fills_alive r h l n (0xFF ∷ s ∷ x ∷ []) (refl, leb-true (least r 255) n e, ss, xs, refl) a))
  where
    too_long : nat_le (least r 255) (256 * x + s) ≡ false → Alive (Spells r) (h ∷ l ∷ 0xFF ∷ s ∷ x ∷ []) → ⊥
    too_long e a =
        let q = long r a.value (h ∷ l ∷ 0xFF ∷ s ∷ x ∷ a.rest) [] h l (s ∷ x ∷ (a.rest ++ [])) a.spelled refl in
        let lows : s ≡ q.low = cc (q.whole) in
        let highs : x ≡ q.high = cc (q.whole) in
        omega (arith, leb-false (least r 255) (256 * x + s) e, q.least_size, lows, highs)

-- the data so far of what is alive
more_data : (high low : ℕ) (size inside : List ℕ) (x : ℕ) (b : List ℕ) → b ≡ begun high low size inside → begun high low size (inside ++ x ∷ []) ≡ b ++ x ∷ []
more_data high low size inside x b e = sym (ap (λ (s : List ℕ). s ++ x ∷ []) e ∙ ap (λ (s : List ℕ). high ∷ low ∷ s) (append_assoc size inside (x ∷ [])))

fit_free : (r : Reading) (b : List ℕ) (x : ℕ) (d : InData r b) → x < 256 → (length d.inside < (layout_in d).free) ⊎ ((head_size (layout_in d) ≤ length d.inside) × ((layout_in d).fields ≡ false)) → Alive (Spells r) b → Alive (Spells r) (b ++ x ∷ [])
fit_free r b x d lt p a = subst (Alive (Spells r)) (more_data d.high d.low d.size d.inside x b d.whole) (by_place p)
  where
    there : Alive (Spells r) (begun d.high d.low d.size d.inside)
    there = subst (Alive (Spells r)) d.whole a

    by_place : (length d.inside < (layout_in d).free) ⊎ ((head_size (layout_in d) ≤ length d.inside) × ((layout_in d).fields ≡ false)) → Alive (Spells r) (begun d.high d.low d.size (d.inside ++ x ∷ []))
    by_place (inl few) =
        let g = goes_alive r d.high d.low d.n d.size d.inside d.is_size there in
        let q = g.parts in
        let whole : d.inside ++ there.rest ≡ q.free ++ (q.digits ++ q.tail) = sym g.inside_is ∙ append-nil g.content ∙ q.whole in
        let m = prefix_of d.inside there.rest q.free (q.digits ++ q.tail) whole (omega (arith, q.free_size, few)) in
        let are : AreBytes d.inside = bytes_prefix d.inside m.0 (subst AreBytes m.1 q.are_bytes) in
        alive_free r d.high d.low d.n d.size d.are_bytes d.is_size (d.inside ++ x ∷ []) (omega (arith, length-append d.inside (x ∷ []), few)) (bytes_joined d.inside (x ∷ []) are (lt, tt)) d.fills
    by_place (inr (le, none)) =
        let g = goes_alive r d.high d.low d.n d.size d.inside d.is_size there in
        let q = g.parts in
        let head = q.free ++ q.digits in
        let whole : head ++ q.tail ≡ d.inside ++ there.rest = append_assoc q.free q.digits q.tail ∙ sym q.whole ∙ sym (append-nil g.content) ∙ g.inside_is in
        let m = prefix_of head q.tail d.inside there.rest whole (omega (arith, length-append q.free q.digits, q.free_size, q.digits_size, le)) in
        let trailing : head ++ q.tail ≡ head ++ (m.0 ++ there.rest) = whole ∙ ap (λ (s : List ℕ). s ++ there.rest) m.1 ∙ append_assoc head m.0 there.rest in
        let tails : q.tail ≡ m.0 ++ there.rest = (same_prefix head head q.tail (m.0 ++ there.rest) refl trailing).1 in
        let are : AreBytes m.0 = bytes_prefix m.0 there.rest (subst AreBytes tails (tail_bytes (layout_in d).fields q.tail none q.tailed)) in
        let inside : d.inside ++ x ∷ [] ≡ q.free ++ (q.digits ++ (m.0 ++ x ∷ [])) =
        ap (λ (s : List ℕ). s ++ x ∷ []) m.1 ∙ append_assoc head m.0 (x ∷ []) ∙ append_assoc q.free q.digits (m.0 ++ x ∷ []) in
        subst (λ (s : List ℕ). Alive (Spells r) (begun d.high d.low d.size s)) (sym inside)
        (alive_bytes r d.high d.low d.n d.size d.are_bytes d.is_size q.free q.digits (m.0 ++ x ∷ []) q.free_size q.are_bytes q.digits_size q.are_digits none
        (omega (arith, length-append m.0 (x ∷ []), ap length m.1, length-append head m.0, length-append q.free q.digits, q.free_size, q.digits_size, d.short)) (bytes_joined m.0 (x ∷ []) are (lt, tt)))
      where
        tail_bytes : (f : Bool) (s : List ℕ) → f ≡ false → Tail r f s → AreBytes s
        tail_bytes true s e t = absurd (false≢true (sym e))
        tail_bytes false s e t = t

fit_digit : (r : Reading) (b : List ℕ) (x : ℕ) (d : InData r b) → (layout_in d).free ≤ length d.inside → length d.inside < head_size (layout_in d) → Alive (Spells r) b → Says (check (is_digit_pair x) NotDigit None) (Alive (Spells r) (b ++ x ∷ []))
fit_digit r b x d le few a =
    subst (λ (s : List ℕ). Says (check (is_digit_pair x) NotDigit None) (Alive (Spells r) s)) (more_data d.high d.low d.size d.inside x b d.whole)
    (says_check (is_digit_pair x) NotDigit _ passes fails)
  where
    there : Alive (Spells r) (begun d.high d.low d.size d.inside)
    there = subst (Alive (Spells r)) d.whole a

    g : Goes r d.high d.low d.n d.size (d.inside ++ there.rest) (begun d.high d.low d.size d.inside ++ there.rest) []
    g = goes_alive r d.high d.low d.n d.size d.inside d.is_size there

    whole : g.parts.free ++ (g.parts.digits ++ g.parts.tail) ≡ d.inside ++ there.rest
    whole = sym g.parts.whole ∙ sym (append-nil g.content) ∙ g.inside_is

    split : (m : List ℕ) × (d.inside ≡ g.parts.free ++ m)
    split = prefix_of g.parts.free (g.parts.digits ++ g.parts.tail) d.inside there.rest whole (omega (arith, g.parts.free_size, le))

    same : g.parts.digits ++ g.parts.tail ≡ split.0 ++ there.rest
    same = (same_prefix g.parts.free g.parts.free (g.parts.digits ++ g.parts.tail) (split.0 ++ there.rest) refl (whole ∙ ap (λ (s : List ℕ). s ++ there.rest) split.1 ∙ append_assoc g.parts.free split.0 there.rest)).1

    short : length split.0 < (layout_in d).digits
    short = omega (arith, ap length split.1, length-append g.parts.free split.0, g.parts.free_size, few)

    digits : AreDigits split.0
    digits =
        let m = prefix_of split.0 there.rest g.parts.digits g.parts.tail (sym same) (omega (arith, short, g.parts.digits_size)) in
        prefix_digits split.0 m.0 (subst AreDigits m.1 g.parts.are_digits)

    inside : d.inside ++ x ∷ [] ≡ g.parts.free ++ (split.0 ++ x ∷ [])
    inside = ap (λ (s : List ℕ). s ++ x ∷ []) split.1 ∙ append_assoc g.parts.free split.0 (x ∷ [])

    passes : is_digit_pair x ≡ true → Alive (Spells r) (begun d.high d.low d.size (d.inside ++ x ∷ []))
    passes e =
        subst (λ (s : List ℕ). Alive (Spells r) (begun d.high d.low d.size s)) (sym inside)
        (alive_digits r d.high d.low d.n d.size d.are_bytes d.is_size g.parts.free (split.0 ++ x ∷ []) g.parts.free_size g.parts.are_bytes (omega (arith, length-append split.0 (x ∷ []), short)) (All-push IsDigitPair split.0 x digits (is_pair x e)) d.fills)

    fails : is_digit_pair x ≡ false → Alive (Spells r) (begun d.high d.low d.size (d.inside ++ x ∷ [])) → ⊥
    fails e h =
        let k = goes_alive r d.high d.low d.n d.size (d.inside ++ x ∷ []) d.is_size h in
        let whole : (d.inside ++ x ∷ []) ++ h.rest ≡ g.parts.free ++ ((split.0 ++ x ∷ []) ++ h.rest) = ap (λ (s : List ℕ). s ++ h.rest) inside ∙ append_assoc g.parts.free (split.0 ++ x ∷ []) h.rest in
        let pair = digit_holds r d.high d.low d.n d.size _ [] g.parts.free split.0 h.rest x _ k whole g.parts.free_size short in
        false≢true (sym e ∙ is_pair_test x pair)

pub fit : (r : Reading) (os : List Opener) (b : List ℕ) (role : Role) (x : ℕ) → Alive (Spells r) b → Position r os b role → x < 256 → Says (fault r role x) (Alive (Spells r) (b ++ x ∷ []))
fit r os b first_control x a p lt =
    subst (λ (s : List ℕ). Says None (Alive (Spells r) (s ++ x ∷ []))) (sym p.1) (always _ (prefix r (x ∷ []) (0 ∷ 0xFF ∷ 0 ∷ 255 ∷ []) (alive_long r x 0 0 lt (omega arith) (omega arith))))
fit r os b second_control x a p lt =
    subst (λ (s : List ℕ). Says None (Alive (Spells r) (s ++ x ∷ []))) (sym p.2) (always _ (prefix r (p.0 ∷ x ∷ []) (0xFF ∷ 0 ∷ 255 ∷ []) (alive_long r p.0 x 0 p.3 lt (omega arith))))
fit r os b (first_size h l) x a p lt = subst (λ (s : List ℕ). Says (fault r (first_size h l) x) (Alive (Spells r) (s ++ x ∷ []))) (sym p.1) (fit_first_size r h l x p.2 p.3 lt)
fit r os b (low_size h l) x a p lt =
    subst (λ (s : List ℕ). Says None (Alive (Spells r) (s ++ x ∷ []))) (sym p.1) (always _ (prefix r (h ∷ l ∷ 0xFF ∷ x ∷ []) (255 ∷ []) (alive_long r h l x p.2 p.3 lt)))
fit r os b (high_size h l s) x a p lt = subst (λ (t : List ℕ). Says (fault r (high_size h l s) x) (Alive (Spells r) (t ++ x ∷ []))) (sym p.1) (fit_high_size r h l s x p.2 p.3 p.4 lt)
fit r os b free x a p lt = always _ (fit_free r b x p.0 lt p.2 a)
fit r os b digit x a p lt = fit_digit r b x p.0 p.2 p.3 a
fit r os b (in_fields role left) x a p lt = fit_fields r os b role left x p lt a

pub tests_decide : TestsDecide
tests_decide r os b role x u p lt =
    let f = fit r os b role x u.alive p lt in
    (f.0, λ h. passes (fault r role x) refl h (λ w e k. f.1 w e k))
  where
    passes : (o : Option Why) → fault r role x ≡ o → Alive (Spells r) (b ++ x ∷ []) → ((w : Why) → fault r role x ≡ Some w → Alive (Spells r) (b ++ x ∷ []) → ⊥) → fault r role x ≡ None
    passes None e h k = e
    passes (Some w) e h k = absurd (k w e h)
