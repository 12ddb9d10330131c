-- One more byte of a tag or of a length.
use Rattle.std.proofs.Common.{◌≡◌, ◌≢◌, ℕ, ◌+◌, ◌*◌, ◌-◌, ◌<◌, ◌≤◌, ◌==◌, ◌&&◌, not, nat_le, nat_lt, cond, Bool, true, false, Option, Some, None, List, [], ◌∷◌, ◌++◌, refl, sym, ◌∙◌, ap, subst, append_assoc, arith, ◌⊎◌, inl, inr}
use Rattle.std.proofs.lemmas.Bool.{leb-true, leb-false, ltb-true, ltb-false, eqb-true, eqb-false, cond-true, cond-false, and_parts, or_cases, not-true, false≢true}
use Rattle.zvt_grammar.specs.declared.why.Why.{Why}
use Rattle.zvt_grammar.specs.declared.why.Why.TheVariants.{NotShortest, DoesNotFit, LengthForm, TooDeep, TagTooLong}
use Rattle.zvt_grammar.specs.Reading.{Reading, shortest, padded, least}
use Rattle.zvt_grammar.specs.Tests.{check, fits}
use Rattle.zvt_tlv.specs.Grammar.{IsLength, holds_objects, continues}
use Rattle.zvt_tlv.specs.Judging.{Role, first_tag, second_tag, third_tag, first_length, after_81, high_length, low_length, in_content, Tagged, Begins, byte, content, wrong, next, fault, content_fits, avoids, long_form}
use Rattle.zvt_tlv.proofs.NextByteLemmas.{least_both}

pub cond_cases : {A : Type 0} (b : Bool) (x y z : A) → cond b x y ≡ z → ((b ≡ true) × (x ≡ z)) ⊎ ((b ≡ false) × (y ≡ z))
cond_cases true x y z e = inl (refl, e)
cond_cases false x y z e = inr (refl, e)

pub passed : (b : Bool) (why : Why) (others : Option Why) → check b why others ≡ None → (b ≡ true) × (others ≡ None)
passed true why others e = (refl, e)
passed false why others e = absurd (cc (e))

-- what fits leaves no single byte
pub fits_over : (m left : ℕ) → fits m left ≡ true → (over : ℕ) × (left ≡ m + over) × (over ≢ 1)
fits_over m left e = by_case (or_cases _ _ e)
  where
    by_case : ((left == m) ≡ true) ⊎ (nat_le (m + 2) left ≡ true) → (over : ℕ) × (left ≡ m + over) × (over ≢ 1)
    by_case (inl h) = let same = eqb-true left m h in (0, omega (arith, same), λ one. omega (arith, one))
    by_case (inr h) = let le = leb-true (m + 2) left h in (left - m, omega (arith, le), λ one. omega (arith, le, one))

deep : (h : Bool) (d : ℕ) → (h && nat_le 6 d) ≡ false → h ≡ true → d < 6
deep true d e t = leb-false 6 d e
deep false d e t = absurd (false≢true t)

tagged_more : (r : Reading) (d : ℕ) (nests : Bool) (role : Role) (tag : List ℕ) → first_length nests ≡ role → Tagged d nests tag → Begins r d role tag
tagged_more r d nests role tag e t = subst (λ (o : Role). Begins r d o tag) e t

-- another byte of the same tag or length
pub begins_next : (r : Reading) (d : ℕ) (role to : Role) (x : ℕ) (b : List ℕ) → x < 256 → Begins r d role b → next r d role x ≡ byte to → Begins r d to (b ++ x ∷ [])
begins_next r d first_tag to x b lt p e = by_depth (cond_cases _ _ _ _ e)
  where
    by_more : (holds_objects x ≡ true → d < 6) → ((continues x ≡ true) × (byte (second_tag (holds_objects x)) ≡ byte to)) ⊎ ((continues x ≡ false) × (byte (first_length (holds_objects x)) ≡ byte to)) → Begins r d to (b ++ x ∷ [])
    by_more h (inl (more, is)) =
        let same : second_tag (holds_objects x) ≡ to = cc (is) in
        subst (λ (s : List ℕ). Begins r d to (s ++ x ∷ [])) (sym p) (subst (λ (o : Role). Begins r d o (x ∷ [])) same (x, refl, lt, more, refl, h))
    by_more h (inr (last, is)) =
        let same : first_length (holds_objects x) ≡ to = cc (is) in
        subst (λ (s : List ℕ). Begins r d to (s ++ x ∷ [])) (sym p) (tagged_more r d (holds_objects x) to (x ∷ []) same (record { is_tag = (lt, last); is_kind = refl; deep = h }))

    by_depth : (((holds_objects x && nat_le 6 d) ≡ true) × (wrong TooDeep ≡ byte to)) ⊎ (((holds_objects x && nat_le 6 d) ≡ false) × (cond (continues x) (byte (second_tag (holds_objects x))) (byte (first_length (holds_objects x))) ≡ byte to)) → Begins r d to (b ++ x ∷ [])
    by_depth (inl (h, is)) = absurd (cc (is))
    by_depth (inr (h, is)) = by_more (deep (holds_objects x) d h) (cond_cases _ _ _ _ is)
begins_next r d (second_tag nests) to x b lt (y, w, small, more, kind, h) e = by_last (cond_cases _ _ _ _ e)
  where
    by_last : ((nat_lt x 128 ≡ true) × (byte (first_length nests) ≡ byte to)) ⊎ ((nat_lt x 128 ≡ false) × (byte (third_tag nests) ≡ byte to)) → Begins r d to (b ++ x ∷ [])
    by_last (inl (less, is)) =
        let same : first_length nests ≡ to = cc (is) in
        subst (λ (s : List ℕ). Begins r d to (s ++ x ∷ [])) (sym w) (tagged_more r d nests to (y ∷ x ∷ []) same (record { is_tag = (small, more, ltb-true x 128 less); is_kind = kind; deep = h }))
    by_last (inr (long, is)) =
        let same : third_tag nests ≡ to = cc (is) in
        subst (λ (s : List ℕ). Begins r d to (s ++ x ∷ [])) (sym w) (subst (λ (o : Role). Begins r d o (y ∷ x ∷ [])) same (y, x, refl, small, more, kind, h, ltb-false x 128 long, lt))
begins_next r d (third_tag nests) to x b lt (y, z, w, small, more, kind, h, le, most) e = by_last (cond_cases _ _ _ _ e)
  where
    by_last : ((nat_lt x 128 ≡ true) × (byte (first_length nests) ≡ byte to)) ⊎ ((nat_lt x 128 ≡ false) × (wrong TagTooLong ≡ byte to)) → Begins r d to (b ++ x ∷ [])
    by_last (inl (less, is)) =
        let same : first_length nests ≡ to = cc (is) in
        subst (λ (s : List ℕ). Begins r d to (s ++ x ∷ [])) (sym w) (tagged_more r d nests to (y ∷ z ∷ x ∷ []) same (record { is_tag = (small, more, le, most, ltb-true x 128 less); is_kind = kind; deep = h }))
    by_last (inr (long, is)) = absurd (cc (is))
begins_next r d (first_length nests) to x b lt t e = by_short (cond_cases _ _ _ _ e)
  where
    by_82 : ((x == 0x82) ≡ true) × (byte (high_length nests) ≡ byte to) ⊎ ((x == 0x82) ≡ false) × (wrong LengthForm ≡ byte to) → Begins r d to (b ++ x ∷ [])
    by_82 (inl (h, is)) =
        let same : high_length nests ≡ to = cc (is) in
        subst (λ (o : Role). Begins r d o (b ++ x ∷ [])) same (b, ap (λ (y : ℕ). b ++ y ∷ []) (eqb-true x 0x82 h), t)
    by_82 (inr (h, is)) = absurd (cc (is))

    by_81 : ((x == 0x81) ≡ true) × (byte (after_81 nests) ≡ byte to) ⊎ ((x == 0x81) ≡ false) × (cond (x == 0x82) (byte (high_length nests)) (wrong LengthForm) ≡ byte to) → Begins r d to (b ++ x ∷ [])
    by_81 (inl (h, is)) =
        let same : after_81 nests ≡ to = cc (is) in
        subst (λ (o : Role). Begins r d o (b ++ x ∷ [])) same (b, ap (λ (y : ℕ). b ++ y ∷ []) (eqb-true x 0x81 h), t)
    by_81 (inr (h, is)) = by_82 (cond_cases _ _ _ _ is)

    by_short : ((nat_lt x 128 ≡ true) × (content nests x ≡ byte to)) ⊎ ((nat_lt x 128 ≡ false) × (cond (x == 0x81) (byte (after_81 nests)) (cond (x == 0x82) (byte (high_length nests)) (wrong LengthForm)) ≡ byte to)) → Begins r d to (b ++ x ∷ [])
    by_short (inl (h, is)) = absurd (cc (is))
    by_short (inr (h, is)) = by_81 (cond_cases _ _ _ _ is)
begins_next r d (after_81 nests) to x b lt p e = by_test (cond_cases _ _ _ _ e)
  where
    by_test : ((nat_le (least r 128) x ≡ true) × (content nests x ≡ byte to)) ⊎ ((nat_le (least r 128) x ≡ false) × (wrong NotShortest ≡ byte to)) → Begins r d to (b ++ x ∷ [])
    by_test (inl (h, is)) = absurd (cc (is))
    by_test (inr (h, is)) = absurd (cc (is))
begins_next r d (high_length nests) to x b lt (tag, w, t) e = by_test (cond_cases _ _ _ _ e)
  where
    by_test : ((nat_le (least r 1) x ≡ true) × (byte (low_length nests x) ≡ byte to)) ⊎ ((nat_le (least r 1) x ≡ false) × (wrong NotShortest ≡ byte to)) → Begins r d to (b ++ x ∷ [])
    by_test (inl (h, is)) =
        let same : low_length nests x ≡ to = cc (is) in
        subst (λ (o : Role). Begins r d o (b ++ x ∷ [])) same (tag, ap (λ (s : List ℕ). s ++ x ∷ []) w ∙ append_assoc tag (0x82 ∷ []) (x ∷ []), t, lt, leb-true (least r 1) x h)
    by_test (inr (h, is)) = absurd (cc (is))
begins_next r d (low_length nests high) to x b lt p e = absurd (cc (e))
begins_next r d in_content to x b lt p e = absurd (cc (e))

-- a whole tag and a whole length
pub record Opened (r : Reading) (d : ℕ) (nests : Bool) (n : ℕ) (b : List ℕ) : Type 0 where
  pub tag : List ℕ
  pub size : List ℕ
  pub whole : b ≡ tag ++ size
  pub tagged : Tagged d nests tag
  pub is_length : IsLength r n size

-- the last byte of a length
pub begins_opened : (r : Reading) (d : ℕ) (role : Role) (nests : Bool) (n x : ℕ) (b : List ℕ) → x < 256 → Begins r d role b → next r d role x ≡ content nests n → Opened r d nests n (b ++ x ∷ [])
begins_opened r d first_tag nests n x b lt p e = by_depth (cond_cases _ _ _ _ e)
  where
    by_more : ((continues x ≡ true) × (byte (second_tag (holds_objects x)) ≡ content nests n)) ⊎ ((continues x ≡ false) × (byte (first_length (holds_objects x)) ≡ content nests n)) → Opened r d nests n (b ++ x ∷ [])
    by_more (inl (more, is)) = absurd (cc (is))
    by_more (inr (last, is)) = absurd (cc (is))

    by_depth : (((holds_objects x && nat_le 6 d) ≡ true) × (wrong TooDeep ≡ content nests n)) ⊎ (((holds_objects x && nat_le 6 d) ≡ false) × (cond (continues x) (byte (second_tag (holds_objects x))) (byte (first_length (holds_objects x))) ≡ content nests n)) → Opened r d nests n (b ++ x ∷ [])
    by_depth (inl (h, is)) = absurd (cc (is))
    by_depth (inr (h, is)) = by_more (cond_cases _ _ _ _ is)
begins_opened r d (second_tag nests') nests n x b lt p e = by_last (cond_cases _ _ _ _ e)
  where
    by_last : ((nat_lt x 128 ≡ true) × (byte (first_length nests') ≡ content nests n)) ⊎ ((nat_lt x 128 ≡ false) × (byte (third_tag nests') ≡ content nests n)) → Opened r d nests n (b ++ x ∷ [])
    by_last (inl (h, is)) = absurd (cc (is))
    by_last (inr (h, is)) = absurd (cc (is))
begins_opened r d (third_tag nests') nests n x b lt p e = by_last (cond_cases _ _ _ _ e)
  where
    by_last : ((nat_lt x 128 ≡ true) × (byte (first_length nests') ≡ content nests n)) ⊎ ((nat_lt x 128 ≡ false) × (wrong TagTooLong ≡ content nests n)) → Opened r d nests n (b ++ x ∷ [])
    by_last (inl (h, is)) = absurd (cc (is))
    by_last (inr (h, is)) = absurd (cc (is))
begins_opened r d (first_length nests') nests n x b lt t e = by_short (cond_cases _ _ _ _ e)
  where
    by_82 : ((x == 0x82) ≡ true) × (byte (high_length nests') ≡ content nests n) ⊎ ((x == 0x82) ≡ false) × (wrong LengthForm ≡ content nests n) → Opened r d nests n (b ++ x ∷ [])
    by_82 (inl (h, is)) = absurd (cc (is))
    by_82 (inr (h, is)) = absurd (cc (is))

    by_81 : ((x == 0x81) ≡ true) × (byte (after_81 nests') ≡ content nests n) ⊎ ((x == 0x81) ≡ false) × (cond (x == 0x82) (byte (high_length nests')) (wrong LengthForm) ≡ content nests n) → Opened r d nests n (b ++ x ∷ [])
    by_81 (inl (h, is)) = absurd (cc (is))
    by_81 (inr (h, is)) = by_82 (cond_cases _ _ _ _ is)

    by_short : ((nat_lt x 128 ≡ true) × (content nests' x ≡ content nests n)) ⊎ ((nat_lt x 128 ≡ false) × (cond (x == 0x81) (byte (after_81 nests')) (cond (x == 0x82) (byte (high_length nests')) (wrong LengthForm)) ≡ content nests n)) → Opened r d nests n (b ++ x ∷ [])
    by_short (inl (h, is)) =
        let kinds : nests' ≡ nests = cc (is) in
        let numbers : x ≡ n = cc (is) in
        let less = ltb-true x 128 h in
        record { tag = b; size = x ∷ []; whole = refl; tagged = subst (λ (k : Bool). Tagged d k b) kinds t; is_length = (omega (arith, less, numbers), numbers) }
    by_short (inr (h, is)) = by_81 (cond_cases _ _ _ _ is)
begins_opened r d (after_81 nests') nests n x b lt (tag, w, t) e = by_test (cond_cases _ _ _ _ e)
  where
    by_test : ((nat_le (least r 128) x ≡ true) × (content nests' x ≡ content nests n)) ⊎ ((nat_le (least r 128) x ≡ false) × (wrong NotShortest ≡ content nests n)) → Opened r d nests n (b ++ x ∷ [])
    by_test (inl (h, is)) =
        let kinds : nests' ≡ nests = cc (is) in
        let numbers : x ≡ n = cc (is) in
        let le = leb-true (least r 128) x h in
        record { tag = tag; size = 0x81 ∷ x ∷ []; whole = ap (λ (s : List ℕ). s ++ x ∷ []) w ∙ append_assoc tag (0x81 ∷ []) (x ∷ []); tagged = subst (λ (k : Bool). Tagged d k tag) kinds t; is_length = (refl, omega (arith, le, numbers), omega (arith, lt, numbers), numbers) }
    by_test (inr (h, is)) = absurd (cc (is))
begins_opened r d (high_length nests') nests n x b lt p e = by_test (cond_cases _ _ _ _ e)
  where
    by_test : ((nat_le (least r 1) x ≡ true) × (byte (low_length nests' x) ≡ content nests n)) ⊎ ((nat_le (least r 1) x ≡ false) × (wrong NotShortest ≡ content nests n)) → Opened r d nests n (b ++ x ∷ [])
    by_test (inl (h, is)) = absurd (cc (is))
    by_test (inr (h, is)) = absurd (cc (is))
begins_opened r d (low_length nests' high) nests n x b lt (tag, w, t, small, le) e =
    let kinds : nests' ≡ nests = cc (e) in
    let numbers : 256 * high + x ≡ n = cc (e) in
    let both = least_both r high x le in
    record { tag = tag; size = 0x82 ∷ high ∷ x ∷ []; whole = ap (λ (s : List ℕ). s ++ x ∷ []) w ∙ append_assoc tag (0x82 ∷ high ∷ []) (x ∷ []); tagged = subst (λ (k : Bool). Tagged d k tag) kinds t; is_length = (refl, omega (arith, both, numbers), small, lt, sym numbers) }
begins_opened r d in_content nests n x b lt p e = absurd (cc (e))

-- its content fits
pub record Fitting (nests : Bool) (n left : ℕ) : Type 0 where
  pub over : ℕ
  pub sized : left ≡ n + over
  pub apart : over ≢ 1
  pub inside : nests ≡ true → n ≢ 1

fitting : (nests : Bool) (n left : ℕ) → content_fits nests n left ≡ true → Fitting nests n left
fitting nests n left e =
    let both = and_parts (fits n left) (not (nests && (n == 1))) e in
    let o = fits_over n left both.0 in
    record { over = o.0; sized = o.1; apart = o.2; inside = λ t one. not_one nests t one (not-true _ both.1) }
  where
    not_one : (nests : Bool) → nests ≡ true → n ≡ 1 → (nests && (n == 1)) ≡ false → ⊥
    not_one true t one h = eqb-false n 1 h one
    not_one false t one h = false≢true t

pub opened_fits : (r : Reading) (d : ℕ) (role : Role) (nests : Bool) (n left x : ℕ) → next r d role x ≡ content nests n → fault r d role left x ≡ None → Fitting nests n left
opened_fits r d first_tag nests n left x e f = by_depth (cond_cases _ _ _ _ e)
  where
    by_more : ((continues x ≡ true) × (byte (second_tag (holds_objects x)) ≡ content nests n)) ⊎ ((continues x ≡ false) × (byte (first_length (holds_objects x)) ≡ content nests n)) → Fitting nests n left
    by_more (inl (more, is)) = absurd (cc (is))
    by_more (inr (last, is)) = absurd (cc (is))

    by_depth : (((holds_objects x && nat_le 6 d) ≡ true) × (wrong TooDeep ≡ content nests n)) ⊎ (((holds_objects x && nat_le 6 d) ≡ false) × (cond (continues x) (byte (second_tag (holds_objects x))) (byte (first_length (holds_objects x))) ≡ content nests n)) → Fitting nests n left
    by_depth (inl (h, is)) = absurd (cc (is))
    by_depth (inr (h, is)) = by_more (cond_cases _ _ _ _ is)
opened_fits r d (second_tag nests') nests n left x e f = by_last (cond_cases _ _ _ _ e)
  where
    by_last : ((nat_lt x 128 ≡ true) × (byte (first_length nests') ≡ content nests n)) ⊎ ((nat_lt x 128 ≡ false) × (byte (third_tag nests') ≡ content nests n)) → Fitting nests n left
    by_last (inl (h, is)) = absurd (cc (is))
    by_last (inr (h, is)) = absurd (cc (is))
opened_fits r d (third_tag nests') nests n left x e f = by_last (cond_cases _ _ _ _ e)
  where
    by_last : ((nat_lt x 128 ≡ true) × (byte (first_length nests') ≡ content nests n)) ⊎ ((nat_lt x 128 ≡ false) × (wrong TagTooLong ≡ content nests n)) → Fitting nests n left
    by_last (inl (h, is)) = absurd (cc (is))
    by_last (inr (h, is)) = absurd (cc (is))
opened_fits r d (first_length nests') nests n left x e f = by_short (cond_cases _ _ _ _ e)
  where
    by_82 : ((x == 0x82) ≡ true) × (byte (high_length nests') ≡ content nests n) ⊎ ((x == 0x82) ≡ false) × (wrong LengthForm ≡ content nests n) → Fitting nests n left
    by_82 (inl (h, is)) = absurd (cc (is))
    by_82 (inr (h, is)) = absurd (cc (is))

    by_81 : ((x == 0x81) ≡ true) × (byte (after_81 nests') ≡ content nests n) ⊎ ((x == 0x81) ≡ false) × (cond (x == 0x82) (byte (high_length nests')) (wrong LengthForm) ≡ content nests n) → Fitting nests n left
    by_81 (inl (h, is)) = absurd (cc (is))
    by_81 (inr (h, is)) = by_82 (cond_cases _ _ _ _ is)

    by_short : ((nat_lt x 128 ≡ true) × (content nests' x ≡ content nests n)) ⊎ ((nat_lt x 128 ≡ false) × (cond (x == 0x81) (byte (after_81 nests')) (cond (x == 0x82) (byte (high_length nests')) (wrong LengthForm)) ≡ content nests n)) → Fitting nests n left
    by_short (inl (h, is)) =
        let kinds : nests' ≡ nests = cc (is) in
        let numbers : x ≡ n = cc (is) in
        let tests = passed (content_fits nests' x left) DoesNotFit None (sym (cond-true _ _ _ h) ∙ f) in
        fitting nests n left (ap (λ (k : Bool). content_fits k n left) (sym kinds) ∙ ap (λ (m : ℕ). content_fits nests' m left) (sym numbers) ∙ tests.0)
    by_short (inr (h, is)) = by_81 (cond_cases _ _ _ _ is)
opened_fits r d (after_81 nests') nests n left x e f = by_test (cond_cases _ _ _ _ e)
  where
    by_test : ((nat_le (least r 128) x ≡ true) × (content nests' x ≡ content nests n)) ⊎ ((nat_le (least r 128) x ≡ false) × (wrong NotShortest ≡ content nests n)) → Fitting nests n left
    by_test (inl (h, is)) =
        let kinds : nests' ≡ nests = cc (is) in
        let numbers : x ≡ n = cc (is) in
        let tests = passed (content_fits nests' x left) DoesNotFit None ((passed (nat_le (least r 128) x) NotShortest _ f).1) in
        fitting nests n left (ap (λ (k : Bool). content_fits k n left) (sym kinds) ∙ ap (λ (m : ℕ). content_fits nests' m left) (sym numbers) ∙ tests.0)
    by_test (inr (h, is)) = absurd (cc (is))
opened_fits r d (high_length nests') nests n left x e f = by_test (cond_cases _ _ _ _ e)
  where
    by_test : ((nat_le (least r 1) x ≡ true) × (byte (low_length nests' x) ≡ content nests n)) ⊎ ((nat_le (least r 1) x ≡ false) × (wrong NotShortest ≡ content nests n)) → Fitting nests n left
    by_test (inl (h, is)) = absurd (cc (is))
    by_test (inr (h, is)) = absurd (cc (is))
opened_fits r d (low_length nests' high) nests n left x e f =
    let kinds : nests' ≡ nests = cc (e) in
    let numbers : 256 * high + x ≡ n = cc (e) in
    let tests = passed (content_fits nests' (256 * high + x) left) DoesNotFit None f in
    fitting nests n left (ap (λ (k : Bool). content_fits k n left) (sym kinds) ∙ ap (λ (m : ℕ). content_fits nests' m left) (sym numbers) ∙ tests.0)
opened_fits r d in_content nests n left x e f = absurd (cc (e))

-- a longer form has its bytes
long_left : (r : Reading) (nests : Bool) (left from bytes : ℕ) → long_form r nests left from bytes ≡ None → bytes ≤ left
long_left shortest nests left from bytes e = let le = leb-true (bytes + from) left (passed _ NotShortest None e).0 in omega (arith, le)
long_left padded nests left from bytes e = leb-true bytes left (and_parts (nat_le bytes left) (not (nests && (left == bytes + 1))) (passed _ DoesNotFit None e).0).0

-- another byte of a length is to come
pub length_goes_on : (r : Reading) (d : ℕ) (role : Role) (nests : Bool) (to : Role) (left x : ℕ) → (role ≡ first_length nests) ⊎ (role ≡ high_length nests) → next r d role x ≡ byte to → fault r d role left x ≡ None → 1 ≤ left
length_goes_on r d role nests to left x (inl is) e f = first (subst (λ (o : Role). next r d o x ≡ byte to) is e) (subst (λ (o : Role). fault r d o left x ≡ None) is f)
  where
    first : next r d (first_length nests) x ≡ byte to → fault r d (first_length nests) left x ≡ None → 1 ≤ left
    first e f = by_short (cond_cases _ _ _ _ f)
      where
        by_82 : ((x == 0x82) ≡ true) × (long_form r nests left 256 2 ≡ None) ⊎ ((x == 0x82) ≡ false) × (Some LengthForm ≡ None) → 1 ≤ left
        by_82 (inl (h, is)) = let le = long_left r nests left 256 2 is in omega (arith, le)
        by_82 (inr (h, is)) = absurd (cc (is))

        by_81 : ((x == 0x81) ≡ true) × (long_form r nests left 128 1 ≡ None) ⊎ ((x == 0x81) ≡ false) × (cond (x == 0x82) (long_form r nests left 256 2) (Some LengthForm) ≡ None) → 1 ≤ left
        by_81 (inl (h, is)) = let le = long_left r nests left 128 1 is in omega (arith, le)
        by_81 (inr (h, is)) = by_82 (cond_cases _ _ _ _ is)

        by_short : ((nat_lt x 128 ≡ true) × (check (content_fits nests x left) DoesNotFit None ≡ None)) ⊎ ((nat_lt x 128 ≡ false) × (cond (x == 0x81) (long_form r nests left 128 1) (cond (x == 0x82) (long_form r nests left 256 2) (Some LengthForm)) ≡ None)) → 1 ≤ left
        by_short (inl (h, is)) = absurd (cc (sym (cond-true _ _ _ h) ∙ e))
        by_short (inr (h, is)) = by_81 (cond_cases _ _ _ _ is)
length_goes_on r d role nests to left x (inr is) e f =
    let g : fault r d (high_length nests) left x ≡ None = subst (λ (o : Role). fault r d o left x ≡ None) is f in
    let tests = passed (nat_le (1 + 256 * x) left) DoesNotFit None (passed (nat_le (least r 1) x) NotShortest _ g).1 in
    let le = leb-true (1 + 256 * x) left tests.0 in
    omega (arith, le)

-- the byte is one of a tag
abbrev pub IsTagRole : Role → Type 0
IsTagRole first_tag = Unit {0}
IsTagRole (second_tag nests) = Unit {0}
IsTagRole (third_tag nests) = Unit {0}
IsTagRole (first_length nests) = ⊥
IsTagRole (after_81 nests) = ⊥
IsTagRole (high_length nests) = ⊥
IsTagRole (low_length nests high) = ⊥
IsTagRole in_content = ⊥

-- another byte of a tag is to come
pub tag_goes_on : (r : Reading) (d : ℕ) (role to : Role) (left x : ℕ) → ((nests : Bool) → to ≡ first_length nests → ⊥) → next r d role x ≡ byte to → fault r d role left x ≡ None → IsTagRole role → 2 ≤ left
tag_goes_on r d first_tag to left x ne e f t = by_depth (cond_cases _ _ _ _ e)
  where
    by_more : ((continues x ≡ true) × (byte (second_tag (holds_objects x)) ≡ byte to)) ⊎ ((continues x ≡ false) × (byte (first_length (holds_objects x)) ≡ byte to)) → 2 ≤ left
    by_more (inl (more, is)) =
        let tests = passed _ DoesNotFit None (passed _ TooDeep _ f).1 in
        leb-true 2 left (sym (cond-true _ _ _ more) ∙ tests.0)
    by_more (inr (last, is)) = let same : to ≡ first_length (holds_objects x) = cc (is) in absurd (ne (holds_objects x) same)

    by_depth : (((holds_objects x && nat_le 6 d) ≡ true) × (wrong TooDeep ≡ byte to)) ⊎ (((holds_objects x && nat_le 6 d) ≡ false) × (cond (continues x) (byte (second_tag (holds_objects x))) (byte (first_length (holds_objects x))) ≡ byte to)) → 2 ≤ left
    by_depth (inl (h, is)) = absurd (cc (is))
    by_depth (inr (h, is)) = by_more (cond_cases _ _ _ _ is)
tag_goes_on r d (second_tag nests) to left x ne e f t = by_last (cond_cases _ _ _ _ e)
  where
    by_last : ((nat_lt x 128 ≡ true) × (byte (first_length nests) ≡ byte to)) ⊎ ((nat_lt x 128 ≡ false) × (byte (third_tag nests) ≡ byte to)) → 2 ≤ left
    by_last (inl (h, is)) = let same : to ≡ first_length nests = cc (is) in absurd (ne nests same)
    by_last (inr (h, is)) =
        let tests = passed _ DoesNotFit None f in
        leb-true 2 left (and_parts (nat_le 2 left) (avoids r nests left 3) (sym (cond-false _ _ _ h) ∙ tests.0)).0
tag_goes_on r d (third_tag nests) to left x ne e f t = by_last (cond_cases _ _ _ _ e)
  where
    by_last : ((nat_lt x 128 ≡ true) × (byte (first_length nests) ≡ byte to)) ⊎ ((nat_lt x 128 ≡ false) × (wrong TagTooLong ≡ byte to)) → 2 ≤ left
    by_last (inl (h, is)) = let same : to ≡ first_length nests = cc (is) in absurd (ne nests same)
    by_last (inr (h, is)) = absurd (cc (is))
tag_goes_on r d (first_length nests) to left x ne e f t = absurd t
tag_goes_on r d (after_81 nests) to left x ne e f t = absurd t
tag_goes_on r d (high_length nests) to left x ne e f t = absurd t
tag_goes_on r d (low_length nests high) to left x ne e f t = absurd t
tag_goes_on r d in_content to left x ne e f t = absurd t
