-- Why bytes spell one message: no length begins another, and control bytes name one kind.
use Rattle.std.proofs.Common.{◌≡◌, ℕ, ◌==◌, ◌&&◌, Bool, true, false, cond, Option, Some, None, List, [], ◌∷◌, ◌++◌, length, refl, sym, ◌∙◌, ap, subst, arith, length-append}
use Rattle.std.proofs.lemmas.List.{append-nil}
use Rattle.zvt_bcd.specs.Digits.{number_of}
use Rattle.zvt_grammar.specs.Reading.{Reading}
use Rattle.zvt_tlv.proofs.Spelling.{same_prefix}
use Rattle.zvt_field.specs.Grammar.{Field}
use Rattle.zvt_field.proofs.FieldLists.{one_list}
use Rattle.zvt_apdu.specs.Message.{Message, ack, nack, registration, authorisation, reversal, end_of_day, abort_order, status, intermediate, print_line, text_block, completion, abort, other}
use Rattle.zvt_apdu.specs.Kinds.{Kind, kind_of, kinds, kind_in, kind_at}
use Rattle.zvt_apdu.specs.declared.kinds.Kind.TheVariants as kind
use Rattle.zvt_apdu.specs.Grammar.{Form, IsFrameLength, BytesFrom, table, look_up, form_of, IsControl, Free, Listed, Registered, Data, Spells}

-- no length begins another, and each says one number
pub frame_length_prefix : (r : Reading) (m n : ℕ) (a b x y : List ℕ) → IsFrameLength r m a → IsFrameLength r n b → a ++ x ≡ b ++ y → (a ≡ b) × (m ≡ n) × (x ≡ y)
frame_length_prefix r m n [] b x y p q e = absurd p
frame_length_prefix r m n (a ∷ []) [] x y p q e = absurd q
frame_length_prefix r m n (a ∷ []) (b ∷ []) x y p q e = (cc, cc (p.1, q.1), cc)
frame_length_prefix r m n (a ∷ []) (b ∷ c ∷ []) x y p q e = absurd q
frame_length_prefix r m n (a ∷ []) (b ∷ c ∷ d ∷ []) x y p q e = let same : a ≡ b = cc in absurd (omega (arith, p.0, p.1, q.0))
frame_length_prefix r m n (a ∷ []) (b ∷ c ∷ d ∷ f ∷ l) x y p q e = absurd q
frame_length_prefix r m n (a ∷ z ∷ []) b x y p q e = absurd p
frame_length_prefix r m n (a ∷ z ∷ w ∷ []) [] x y p q e = absurd q
frame_length_prefix r m n (a ∷ z ∷ w ∷ []) (b ∷ []) x y p q e = let same : a ≡ b = cc in absurd (omega (arith, q.0, q.1, p.0))
frame_length_prefix r m n (a ∷ z ∷ w ∷ []) (b ∷ c ∷ []) x y p q e = absurd q
frame_length_prefix r m n (a ∷ z ∷ w ∷ []) (b ∷ c ∷ d ∷ []) x y p q e =
    let low : z ≡ c = cc in let high : w ≡ d = cc in (cc, omega (arith, p.4, q.4), cc)
frame_length_prefix r m n (a ∷ z ∷ w ∷ []) (b ∷ c ∷ d ∷ f ∷ l) x y p q e = absurd q
frame_length_prefix r m n (a ∷ z ∷ w ∷ v ∷ u) b x y p q e = absurd p

abbrev first_of : List ℕ → ℕ
first_of [] = 0
first_of (x ∷ l) = x

abbrev last_of : List ℕ → ℕ
last_of [] = 0
last_of (x ∷ []) = x
last_of (x ∷ y ∷ l) = last_of (y ∷ l)

-- the two tables have the same control bytes
abbrev Alike : List (ℕ × ℕ × Form) → List (ℕ × ℕ × Kind) → Type 0
Alike [] [] = Unit {0}
Alike [] (k ∷ ks) = ⊥
Alike (f ∷ fs) [] = ⊥
Alike (f ∷ fs) (k ∷ ks) = (f.0 ≡ k.0) × (f.1 ≡ k.1) × Alike fs ks

test : (b : Bool) (form : Form) (fs : Option Form) (k ks : Kind) → cond b (Some form) fs ≡ None → (fs ≡ None → ks ≡ kind.Other) → cond b k ks ≡ kind.Other
test true form fs k ks e h = absurd (cc (e))
test false form fs k ks e h = h e

not_in : (high low : ℕ) (fs : List (ℕ × ℕ × Form)) (ks : List (ℕ × ℕ × Kind)) → Alike fs ks → look_up high low fs ≡ None → kind_in high low ks ≡ kind.Other
not_in high low [] [] a e = refl
not_in high low [] (k ∷ ks) a e = absurd a
not_in high low (f ∷ fs) [] a e = absurd a
not_in high low (f ∷ fs) (k ∷ ks) a e =
    let same : ((high == f.0) && (low == f.1)) ≡ ((high == k.0) && (low == k.1)) = ap (λ (x : ℕ). (high == x) && (low == f.1)) a.0 ∙ ap (λ (x : ℕ). (high == k.0) && (low == x)) a.1 in
    ap (λ (b : Bool). cond b k.2 (kind_in high low ks)) (sym same)
    ∙ test ((high == f.0) && (low == f.1)) f.2 (look_up high low fs) k.2 (kind_in high low ks) e (not_in high low fs ks a.2)

kind_other : (high low : ℕ) → form_of high low ≡ None → kind_at high low ≡ kind.Other
unfolding form_of kind_at
kind_other high low e = test' (high == 0x84) e
  where
    test' : (b : Bool) → cond b (Some (BytesFrom 0)) (look_up high low table) ≡ None → cond b kind.Nack (kind_in high low kinds) ≡ kind.Other
    test' true e = absurd (cc (e))
    test' false e = not_in high low table kinds (refl, refl, (refl, refl, (refl, refl, (refl, refl, (refl, refl, (refl, refl, (refl, refl, (refl, refl, (refl, refl, (refl, refl, (refl, refl, (refl, refl, tt)))))))))))) e

pub kind_named : (r : Reading) (m : Message) (high low : ℕ) (c : List ℕ) → c ≡ high ∷ low ∷ [] → IsControl m c → kind_of m ≡ kind_at high low
unfolding kind_at
kind_named r m high low c e h = sym (by_message m h)
  where
    at' : (h l : ℕ) (k : Kind) → c ≡ h ∷ l ∷ [] → kind_at h l ≡ k → kind_at high low ≡ k
    at' h l k w i =
        let whole : high ∷ low ∷ [] ≡ h ∷ l ∷ [] = sym e ∙ w in
        let highs : high ≡ h = cc (whole) in
        let lows : low ≡ l = cc (whole) in
        ap (λ (x : ℕ). kind_at x low) highs ∙ ap (λ (x : ℕ). kind_at h x) lows ∙ i

    by_message : (m : Message) → IsControl m c → kind_at high low ≡ kind_of m
    by_message (ack p) h = at' 0x80 0x00 kind.Ack h refl
    by_message (nack k p) h = at' 0x84 k kind.Nack h.0 refl
    by_message (registration w g s) h = at' 0x06 0x00 kind.Registration h refl
    by_message (authorisation f) h = at' 0x06 0x01 kind.Authorisation h refl
    by_message (reversal w f) h = at' 0x06 0x30 kind.Reversal h refl
    by_message (end_of_day w f) h = at' 0x06 0x50 kind.EndOfDay h refl
    by_message (abort_order f) h = at' 0x06 0xB0 kind.AbortOrder h refl
    by_message (status f) h = at' 0x04 0x0F kind.Status h refl
    by_message (intermediate s p) h = at' 0x04 0xFF kind.Intermediate h refl
    by_message (print_line s p) h = at' 0x06 0xD1 kind.PrintLine h refl
    by_message (text_block f) h = at' 0x06 0xD3 kind.TextBlock h refl
    by_message (completion f) h = at' 0x06 0x0F kind.Completion h refl
    by_message (abort s p) h = at' 0x06 0x1E kind.Abort h refl
    by_message (other a b p) h = at' a b kind.Other h.0 (kind_other a b h.3)

same_free : (k : ℕ) (f p g q a b : List ℕ) → a ≡ b → Free k f p a → Free k g q b → (f ≡ g) × (p ≡ q)
same_free k f p g q a b e x y = same_prefix f g p q (x.1 ∙ sym y.1) (sym x.0 ∙ e ∙ y.0)

same_listed : (r : Reading) (k : ℕ) (f g : List ℕ) (fs gs : List Field) (a b : List ℕ) → a ≡ b → Listed r k f fs a → Listed r k g gs b → (f ≡ g) × (fs ≡ gs)
same_listed r k f g fs gs a b e x y =
    let s = same_prefix f g x.0 y.0 (x.2 ∙ sym y.2) (sym x.1 ∙ e ∙ y.1) in
    (s.0, one_list r fs gs x.0 y.0 s.1 x.4 y.4)

-- a password and the byte after it
last_byte : (w v : List ℕ) (c d : ℕ) → w ++ c ∷ [] ≡ v ++ d ∷ [] → (w ≡ v) × (c ≡ d)
last_byte w v c d e =
    let long : length w ≡ length v = omega (arith, ap length e, length-append w (c ∷ []), length-append v (d ∷ [])) in
    let s = same_prefix w v (c ∷ []) (d ∷ []) long e in
    let rest : c ∷ [] ≡ d ∷ [] = s.1 in
    (s.0, cc (rest))

longer : (r : Reading) (w : List ℕ) (c : ℕ) (fs : List Field) (a b first : List ℕ) → a ≡ b → Free 4 first [] a → Registered r w c fs b → ⊥
longer r w c fs a b first e x y = omega (arith, ap length e, ap length x.0, ap length (append-nil first), x.1, ap length y.whole, length-append w (y.digits ++ y.listed), length-append y.digits y.listed, y.count, y.two)

one_content : (r : Reading) (m n : Message) (c a b : List ℕ) → kind_of m ≡ kind_of n → IsControl m c → IsControl n c → a ≡ b → Data r m a → Data r n b → m ≡ n
one_content r (ack p) (ack q) c a b k g h e x y = let s = (same_free 0 [] p [] q a b e x y).1 in cc (s)
one_content r (nack i p) (nack j q) c a b k g h e x y =
    let s = (same_free 0 [] p [] q a b e x y).1 in
    let w : 0x84 ∷ i ∷ [] ≡ 0x84 ∷ j ∷ [] = sym g.0 ∙ h.0 in
    let codes : i ≡ j = cc (w) in cc (s, codes)
one_content r (registration w i None) (registration v j None) c a b k g h e x y =
    let s = last_byte w v i j (same_free 4 (w ++ i ∷ []) [] (v ++ j ∷ []) [] a b e x y).0 in
    let passwords : w ≡ v = s.0 in let configs : i ≡ j = s.1 in cc (passwords, configs)
one_content r (registration w i None) (registration v j (Some t)) c a b k g h e x y = absurd (longer r (v ++ j ∷ []) t.0 t.1 a b (w ++ i ∷ []) e x y)
one_content r (registration w i (Some s)) (registration v j None) c a b k g h e x y = absurd (longer r (w ++ i ∷ []) s.0 s.1 b a (v ++ j ∷ []) (sym e) y x)
one_content r (registration w i (Some s)) (registration v j (Some t)) c a b k g h e x y =
    let one = same_prefix (w ++ i ∷ []) (v ++ j ∷ []) (x.digits ++ x.listed) (y.digits ++ y.listed) (x.count ∙ sym y.count) (sym x.whole ∙ e ∙ y.whole) in
    let two = same_prefix x.digits y.digits x.listed y.listed (x.two ∙ sym y.two) one.1 in
    let l = last_byte w v i j one.0 in
    let passwords : w ≡ v = l.0 in let configs : i ≡ j = l.1 in
    let numbers : s.0 ≡ t.0 = sym x.number ∙ ap number_of two.0 ∙ y.number in
    let lists : s.1 ≡ t.1 = one_list r s.1 t.1 x.listed y.listed two.1 x.spelled y.spelled in
    let rests : (s.0, s.1) ≡ (t.0, t.1) = ap (λ (z : ℕ). (z, s.1)) numbers ∙ ap (λ (z : List Field). (t.0, z)) lists in
    ap (λ (z : List ℕ). registration z i (Some s)) passwords ∙ ap (λ (z : ℕ). registration v z (Some s)) configs ∙ ap (λ (z : ℕ × List Field). registration v j (Some z)) rests
one_content r (authorisation f) (authorisation g') c a b k g h e x y = let s = (same_listed r 0 [] [] f g' a b e x y).1 in cc (s)
one_content r (reversal w f) (reversal v g') c a b k g h e x y = let s = same_listed r 3 w v f g' a b e x y in let s0 : w ≡ v = s.0 in let s1 : f ≡ g' = s.1 in cc (s0, s1)
one_content r (end_of_day w f) (end_of_day v g') c a b k g h e x y = let s = same_listed r 3 w v f g' a b e x y in let s0 : w ≡ v = s.0 in let s1 : f ≡ g' = s.1 in cc (s0, s1)
one_content r (abort_order f) (abort_order g') c a b k g h e x y = let s = (same_listed r 0 [] [] f g' a b e x y).1 in cc (s)
one_content r (status f) (status g') c a b k g h e x y = let s = (same_listed r 0 [] [] f g' a b e x y).1 in cc (s)
one_content r (intermediate i p) (intermediate j q) c a b k g h e x y = let s = same_free 1 (i ∷ []) p (j ∷ []) q a b e x y in let s0 : i ∷ [] ≡ j ∷ [] = s.0 in let s1 : p ≡ q = s.1 in let s2 : i ≡ j = cc (s0) in cc (s2, s1)
one_content r (print_line i p) (print_line j q) c a b k g h e x y = let s = same_free 1 (i ∷ []) p (j ∷ []) q a b e x y in let s0 : i ∷ [] ≡ j ∷ [] = s.0 in let s1 : p ≡ q = s.1 in let s2 : i ≡ j = cc (s0) in cc (s2, s1)
one_content r (text_block f) (text_block g') c a b k g h e x y = let s = (same_listed r 0 [] [] f g' a b e x y).1 in cc (s)
one_content r (completion f) (completion g') c a b k g h e x y = let s = (same_listed r 0 [] [] f g' a b e x y).1 in cc (s)
one_content r (abort i p) (abort j q) c a b k g h e x y = let s = same_free 1 (i ∷ []) p (j ∷ []) q a b e x y in let s0 : i ∷ [] ≡ j ∷ [] = s.0 in let s1 : p ≡ q = s.1 in let s2 : i ≡ j = cc (s0) in cc (s2, s1)
one_content r (other i j p) (other i' j' q) c a b k g h e x y =
    let s = (same_free 0 [] p [] q a b e x y).1 in
    let w : i ∷ j ∷ [] ≡ i' ∷ j' ∷ [] = sym g.0 ∙ h.0 in
    let highs : i ≡ i' = cc (w) in let lows : j ≡ j' = cc (w) in cc (s, highs, lows)
one_content r m n c a b k g h e x y = absurd (cc (k))

-- two bytes of control
pub two_bytes : (m : Message) (c : List ℕ) → IsControl m c → (high : ℕ) × (low : ℕ) × (c ≡ high ∷ low ∷ [])
two_bytes (ack p) c h = (0x80, 0x00, h)
two_bytes (nack k p) c h = (0x84, k, h.0)
two_bytes (registration w g s) c h = (0x06, 0x00, h)
two_bytes (authorisation f) c h = (0x06, 0x01, h)
two_bytes (reversal w f) c h = (0x06, 0x30, h)
two_bytes (end_of_day w f) c h = (0x06, 0x50, h)
two_bytes (abort_order f) c h = (0x06, 0xB0, h)
two_bytes (status f) c h = (0x04, 0x0F, h)
two_bytes (intermediate s p) c h = (0x04, 0xFF, h)
two_bytes (print_line s p) c h = (0x06, 0xD1, h)
two_bytes (text_block f) c h = (0x06, 0xD3, h)
two_bytes (completion f) c h = (0x06, 0x0F, h)
two_bytes (abort s p) c h = (0x06, 0x1E, h)
two_bytes (other a b p) c h = (a, b, h.0)

pub one_message : (r : Reading) (m n : Message) (a b : List ℕ) → a ≡ b → Spells r m a → Spells r n b → m ≡ n
one_message r m n a b same p q =
    let u = two_bytes m p.control p.is_control in
    let v = two_bytes n q.control q.is_control in
    let controls = same_prefix p.control q.control (p.size ++ p.content) (q.size ++ q.content) (ap length u.2 ∙ sym (ap length v.2)) (sym p.whole ∙ same ∙ q.whole) in
    let sizes = frame_length_prefix r (length p.content) (length q.content) p.size q.size p.content q.content p.is_size q.is_size controls.1 in
    let there : IsControl n p.control = subst (IsControl n) (sym controls.0) q.is_control in
    one_content r m n p.control p.content q.content (kind_named r m u.0 u.1 p.control u.2 p.is_control ∙ sym (kind_named r n u.0 u.1 p.control u.2 there)) p.is_control there sizes.2 p.is_content q.is_content
