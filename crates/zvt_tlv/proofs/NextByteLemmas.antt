-- What may follow the beginning of an object, byte by byte.
use Rattle.std.proofs.Common.{◌≡◌, ◌≢◌, ℕ, ◌+◌, ◌*◌, ◌<◌, ◌≤◌, ◌&&◌, nat_le, Bool, true, false, List, [], ◌∷◌, ◌++◌, length, refl, sym, ◌∙◌, ap, subst, append_assoc, arith, ◌⊎◌, suc, inl, inr}
use Rattle.std.proofs.lemmas.Bool.{cond-true, cond-false, lt-ltb, le-ltb, le-leb, lt-leb, ne_eqb, cases_Bool, cases_lt, cases_eq, and_from}
use Rattle.zvt_grammar.specs.declared.why.Why.TheVariants.{NotShortest, LengthForm, TooDeep, TagTooLong}
use Rattle.zvt_grammar.specs.Reading.{Reading, shortest, padded, AreBytes, least}
use Rattle.zvt_tlv.specs.Grammar.{Parts, Objects, none, primitive, constructed, IsLength, Spells, holds_objects, continues}
use Rattle.zvt_tlv.specs.Judging.{Role, first_tag, second_tag, third_tag, first_length, after_81, high_length, low_length, in_content, Tagged, Begins, Next, byte, content, wrong, next}

-- some objects are spelled
pub record IsForest (r : Reading) (d : ℕ) (s : List ℕ) : Type 0 where
  pub objects : Objects
  pub spelled : Spells r d objects s

abbrev pub Inside : Reading → ℕ → Bool → List ℕ → Type 0
Inside r d true c = (d < 6) × IsForest r (suc d) c
Inside r d false c = AreBytes c

-- a content of a size, then objects
pub record Closing (r : Reading) (d : ℕ) (nests : Bool) (n : ℕ) (s : List ℕ) : Type 0 where
  pub content : List ℕ
  pub after : List ℕ
  pub whole : s ≡ content ++ after
  pub size : length content ≡ n
  pub inside : Inside r d nests content
  pub others : IsForest r d after

-- what the bytes complete
abbrev pub Follows : Reading → ℕ → Next → List ℕ → Type 0
Follows r d (wrong w) s = ⊥
Follows r d (content nests n) s = Closing r d nests n s
Follows r d (byte first_tag) [] = Unit {0}
Follows r d (byte role) [] = ⊥
Follows r d (byte role) (x ∷ s) = (x < 256) × Follows r d (next r d role x) s

-- what follows a byte, where what comes after it is known
pub unstep : (r : Reading) (d : ℕ) (role : Role) (x : ℕ) (nx : Next) (s : List ℕ) → next r d role x ≡ nx →
    Follows r d (byte role) (x ∷ s) → Follows r d nx s
unstep r d role x nx s e h = subst (λ (n : Next). Follows r d n s) e h.1

-- what comes after a byte, role by role
pub next_first_again : (r : Reading) (d x : ℕ) → (holds_objects x ≡ true → d < 6) → continues x ≡ true →
    next r d first_tag x ≡ byte (second_tag (holds_objects x))
next_first_again r d x h e =
    cond-false _ _ _ (shallow d (holds_objects x) h) ∙ cond-true _ _ _ e
  where
    shallow : (d : ℕ) (b : Bool) → (b ≡ true → d < 6) → (b && nat_le 6 d) ≡ false
    shallow d true h = lt-leb 6 d (h refl)
    shallow d false h = refl

pub next_first_once : (r : Reading) (d x : ℕ) → (holds_objects x ≡ true → d < 6) → continues x ≡ false →
    next r d first_tag x ≡ byte (first_length (holds_objects x))
next_first_once r d x h e =
    cond-false _ _ _ (shallow d (holds_objects x) h) ∙ cond-false _ _ _ e
  where
    shallow : (d : ℕ) (b : Bool) → (b ≡ true → d < 6) → (b && nat_le 6 d) ≡ false
    shallow d true h = lt-leb 6 d (h refl)
    shallow d false h = refl

pub next_first_deep : (r : Reading) (d x : ℕ) → holds_objects x ≡ true → 6 ≤ d → next r d first_tag x ≡ wrong TooDeep
next_first_deep r d x h e = cond-true _ _ _ (and_from _ _ h (le-leb 6 d e))

pub next_second_last : (r : Reading) (d : ℕ) (nests : Bool) (x : ℕ) → x < 128 → next r d (second_tag nests) x ≡ byte (first_length nests)
next_second_last r d nests x h = cond-true _ _ _ (lt-ltb x 128 h)

pub next_second_more : (r : Reading) (d : ℕ) (nests : Bool) (x : ℕ) → 128 ≤ x → next r d (second_tag nests) x ≡ byte (third_tag nests)
next_second_more r d nests x h = cond-false _ _ _ (le-ltb x 128 h)

pub next_third_last : (r : Reading) (d : ℕ) (nests : Bool) (x : ℕ) → x < 128 → next r d (third_tag nests) x ≡ byte (first_length nests)
next_third_last r d nests x h = cond-true _ _ _ (lt-ltb x 128 h)

pub next_third_long : (r : Reading) (d : ℕ) (nests : Bool) (x : ℕ) → 128 ≤ x → next r d (third_tag nests) x ≡ wrong TagTooLong
next_third_long r d nests x h = cond-false _ _ _ (le-ltb x 128 h)

pub next_short : (r : Reading) (d : ℕ) (nests : Bool) (x : ℕ) → x < 128 → next r d (first_length nests) x ≡ content nests x
next_short r d nests x h = cond-true _ _ _ (lt-ltb x 128 h)

pub next_81 : (r : Reading) (d : ℕ) (nests : Bool) (x : ℕ) → x ≡ 0x81 → next r d (first_length nests) x ≡ byte (after_81 nests)
next_81 r d nests x h = rw h refl

pub next_82 : (r : Reading) (d : ℕ) (nests : Bool) (x : ℕ) → x ≡ 0x82 → next r d (first_length nests) x ≡ byte (high_length nests)
next_82 r d nests x h = rw h refl

pub next_no_length : (r : Reading) (d : ℕ) (nests : Bool) (x : ℕ) → 128 ≤ x → x ≢ 0x81 → x ≢ 0x82 → next r d (first_length nests) x ≡ wrong LengthForm
next_no_length r d nests x h g e = cond-false _ _ _ (le-ltb x 128 h) ∙ cond-false _ _ _ (ne_eqb x 0x81 g) ∙ cond-false _ _ _ (ne_eqb x 0x82 e)

pub next_after_81 : (r : Reading) (d : ℕ) (nests : Bool) (x : ℕ) → least r 128 ≤ x → next r d (after_81 nests) x ≡ content nests x
next_after_81 r d nests x h = cond-true _ _ _ (le-leb (least r 128) x h)

pub next_after_81_less : (r : Reading) (d : ℕ) (nests : Bool) (x : ℕ) → x < least r 128 → next r d (after_81 nests) x ≡ wrong NotShortest
next_after_81_less r d nests x h = cond-false _ _ _ (lt-leb (least r 128) x h)

pub next_high : (r : Reading) (d : ℕ) (nests : Bool) (x : ℕ) → least r 1 ≤ x → next r d (high_length nests) x ≡ byte (low_length nests x)
next_high r d nests x h = cond-true _ _ _ (le-leb (least r 1) x h)

pub next_high_less : (r : Reading) (d : ℕ) (nests : Bool) (x : ℕ) → x < least r 1 → next r d (high_length nests) x ≡ wrong NotShortest
next_high_less r d nests x h = cond-false _ _ _ (lt-leb (least r 1) x h)

-- a length of two bytes after 82 is for sizes from 256 on
pub least_high : (r : Reading) (high low : ℕ) → low < 256 → least r 256 ≤ 256 * high + low → least r 1 ≤ high
least_high shortest high low a b = omega arith
least_high padded high low a b = omega arith

pub least_both : (r : Reading) (high low : ℕ) → least r 1 ≤ high → least r 256 ≤ 256 * high + low
least_both shortest high low b = omega arith
least_both padded high low b = omega arith

-- the bytes lead from one state to another
abbrev pub Leads : Reading → ℕ → Next → List ℕ → Next → Type 0
Leads r d from [] to = from ≡ to
Leads r d (byte role) (x ∷ b) to = (x < 256) × Leads r d (next r d role x) b to
Leads r d (content nests n) (x ∷ b) to = ⊥
Leads r d (wrong w) (x ∷ b) to = ⊥

pub lead : (r : Reading) (d : ℕ) (role : Role) (x : ℕ) (nx to : Next) (b : List ℕ) → x < 256 → next r d role x ≡ nx → Leads r d nx b to →
    Leads r d (byte role) (x ∷ b) to
lead r d role x nx to b lt e h = (lt, subst (λ (n : Next). Leads r d n b to) (sym e) h)

pub leads_on : (r : Reading) (d : ℕ) (from mid to : Next) (a b : List ℕ) → Leads r d from a mid → Leads r d mid b to → Leads r d from (a ++ b) to
leads_on r d from mid to [] b p q = subst (λ (n : Next). Leads r d n b to) (sym p) q
leads_on r d (byte role) mid to (x ∷ a) b p q = (p.0, leads_on r d (next r d role x) mid to a b p.1 q)
leads_on r d (content nests n) mid to (x ∷ a) b p q = absurd p
leads_on r d (wrong w) mid to (x ∷ a) b p q = absurd p

-- what completes the bytes is what completes the state that they lead to
pub leads_follow : (r : Reading) (d : ℕ) (from to : Next) (b s : List ℕ) → Leads r d from b to → Follows r d to s → Follows r d from (b ++ s)
leads_follow r d from to [] s p q = subst (λ (n : Next). Follows r d n s) (sym p) q
leads_follow r d (byte role) to (x ∷ b) s p q = (p.0, leads_follow r d (next r d role x) to b s p.1 q)
leads_follow r d (content nests n) to (x ∷ b) s p q = absurd p
leads_follow r d (wrong w) to (x ∷ b) s p q = absurd p

pub follow_led : (r : Reading) (d : ℕ) (from to : Next) (b s : List ℕ) → Leads r d from b to → Follows r d from (b ++ s) → Follows r d to s
follow_led r d from to [] s p q = subst (λ (n : Next). Follows r d n s) p q
follow_led r d (byte role) to (x ∷ b) s p q = follow_led r d (next r d role x) to b s p.1 q.1
follow_led r d (content nests n) to (x ∷ b) s p q = absurd p
follow_led r d (wrong w) to (x ∷ b) s p q = absurd p

-- a length leads to its content
pub length_leads : (r : Reading) (d n : ℕ) (nests : Bool) (size : List ℕ) → IsLength r n size →
    Leads r d (byte (first_length nests)) size (content nests n)
length_leads r d n nests [] l = absurd l
length_leads r d n nests (a ∷ []) l =
    lead r d (first_length nests) a (content nests n) _ [] (omega (arith, l.0, l.1))
    (next_short r d nests a (omega (arith, l.0, l.1)) ∙ ap (content nests) l.1) refl
length_leads r d n nests (a ∷ x ∷ []) l =
    lead r d (first_length nests) a (byte (after_81 nests)) _ (x ∷ []) (omega (arith, l.0)) (next_81 r d nests a l.0)
    (lead r d (after_81 nests) x (content nests n) _ [] (omega (arith, l.2, l.3))
    (next_after_81 r d nests x (omega (arith, l.1, l.3)) ∙ ap (content nests) l.3) refl)
length_leads r d n nests (a ∷ x ∷ y ∷ []) l =
    lead r d (first_length nests) a (byte (high_length nests)) _ (x ∷ y ∷ []) (omega (arith, l.0)) (next_82 r d nests a l.0)
    (lead r d (high_length nests) x (byte (low_length nests x)) _ (y ∷ []) l.2
    (next_high r d nests x (least_high r x y l.3 (omega (arith, l.1, l.4))))
    (lead r d (low_length nests x) y (content nests n) _ [] l.3 (ap (content nests) (sym l.4)) refl))
length_leads r d n nests (a ∷ x ∷ y ∷ z ∷ more) l = absurd l

-- a tag leads to its length
pub tag_leads : (r : Reading) (d : ℕ) (nests : Bool) (tag : List ℕ) → Tagged d nests tag →
    Leads r d (byte first_tag) tag (byte (first_length nests))
tag_leads r d nests [] p = absurd p.is_tag
tag_leads r d nests (a ∷ []) p =
    lead r d first_tag a (byte (first_length nests)) _ [] p.is_tag.0
    (next_first_once r d a (λ e. p.deep (sym p.is_kind ∙ e)) p.is_tag.1 ∙ ap (λ (b : Bool). byte (first_length b)) p.is_kind) refl
tag_leads r d nests (a ∷ b ∷ []) p =
    lead r d first_tag a (byte (second_tag nests)) _ (b ∷ []) p.is_tag.0
    (next_first_again r d a (λ e. p.deep (sym p.is_kind ∙ e)) p.is_tag.1 ∙ ap (λ (b : Bool). byte (second_tag b)) p.is_kind)
    (lead r d (second_tag nests) b (byte (first_length nests)) _ [] (omega (arith, p.is_tag.2)) (next_second_last r d nests b p.is_tag.2) refl)
tag_leads r d nests (a ∷ b ∷ c ∷ []) p =
    lead r d first_tag a (byte (second_tag nests)) _ (b ∷ c ∷ []) p.is_tag.0
    (next_first_again r d a (λ e. p.deep (sym p.is_kind ∙ e)) p.is_tag.1 ∙ ap (λ (b : Bool). byte (second_tag b)) p.is_kind)
    (lead r d (second_tag nests) b (byte (third_tag nests)) _ (c ∷ []) p.is_tag.3 (next_second_more r d nests b p.is_tag.2)
    (lead r d (third_tag nests) c (byte (first_length nests)) _ [] (omega (arith, p.is_tag.4)) (next_third_last r d nests c p.is_tag.4) refl))
tag_leads r d nests (a ∷ b ∷ c ∷ e ∷ more) p = absurd p.is_tag

-- the beginning of an object leads to its role
pub begins_leads : (r : Reading) (d : ℕ) (role : Role) (b : List ℕ) → role ≢ in_content → Begins r d role b →
    Leads r d (byte first_tag) b (byte role)
begins_leads r d first_tag b ne p = subst (λ (x : List ℕ). Leads r d (byte first_tag) x (byte first_tag)) (sym p) refl
begins_leads r d (second_tag nests) b ne (x, e, lt, more, kind, deep) =
    subst (λ (x : List ℕ). Leads r d (byte first_tag) x (byte (second_tag nests))) (sym e)
    (lead r d first_tag x (byte (second_tag nests)) _ [] lt
    (next_first_again r d x (λ h. deep (sym kind ∙ h)) more ∙ ap (λ (b : Bool). byte (second_tag b)) kind) refl)
begins_leads r d (third_tag nests) b ne (x, y, e, lt, more, kind, deep, least, most) =
    subst (λ (x : List ℕ). Leads r d (byte first_tag) x (byte (third_tag nests))) (sym e)
    (lead r d first_tag x (byte (second_tag nests)) _ (y ∷ []) lt
    (next_first_again r d x (λ h. deep (sym kind ∙ h)) more ∙ ap (λ (b : Bool). byte (second_tag b)) kind)
    (lead r d (second_tag nests) y (byte (third_tag nests)) _ [] most (next_second_more r d nests y least) refl))
begins_leads r d (first_length nests) b ne p = tag_leads r d nests b p
begins_leads r d (after_81 nests) b ne (tag, e, p) =
    subst (λ (x : List ℕ). Leads r d (byte first_tag) x (byte (after_81 nests))) (sym e)
    (leads_on r d _ (byte (first_length nests)) _ tag _ (tag_leads r d nests tag p)
    (lead r d (first_length nests) 0x81 (byte (after_81 nests)) _ [] (omega arith) (next_81 r d nests 0x81 refl) refl))
begins_leads r d (high_length nests) b ne (tag, e, p) =
    subst (λ (x : List ℕ). Leads r d (byte first_tag) x (byte (high_length nests))) (sym e)
    (leads_on r d _ (byte (first_length nests)) _ tag _ (tag_leads r d nests tag p)
    (lead r d (first_length nests) 0x82 (byte (high_length nests)) _ [] (omega arith) (next_82 r d nests 0x82 refl) refl))
begins_leads r d (low_length nests high) b ne (tag, e, p, lt, least) =
    subst (λ (x : List ℕ). Leads r d (byte first_tag) x (byte (low_length nests high))) (sym e)
    (leads_on r d _ (byte (first_length nests)) _ tag _ (tag_leads r d nests tag p)
    (lead r d (first_length nests) 0x82 (byte (high_length nests)) _ (high ∷ []) (omega arith) (next_82 r d nests 0x82 refl)
    (lead r d (high_length nests) high (byte (low_length nests high)) _ [] lt (next_high r d nests high least) refl)))
begins_leads r d in_content b ne p = absurd (ne refl)

-- an opener leads to its content
pub opener_leads : (r : Reading) (d n : ℕ) (nests : Bool) (tag size : List ℕ) → Tagged d nests tag → IsLength r n size →
    Leads r d (byte first_tag) (tag ++ size) (content nests n)
opener_leads r d n nests tag size p l =
    leads_on r d _ (byte (first_length nests)) _ tag size (tag_leads r d nests tag p) (length_leads r d n nests size l)

pub opener_follows : (r : Reading) (d n : ℕ) (nests : Bool) (tag size t : List ℕ) → Tagged d nests tag → IsLength r n size → Closing r d nests n t →
    Follows r d (byte first_tag) (tag ++ (size ++ t))
opener_follows r d n nests tag size t p l c =
    rw (← append_assoc tag size t) (leads_follow r d _ (content nests n) (tag ++ size) t (opener_leads r d n nests tag size p l) c)

pub follow_opened : (r : Reading) (d n : ℕ) (nests : Bool) (tag size t : List ℕ) → Tagged d nests tag → IsLength r n size →
    Follows r d (byte first_tag) (tag ++ (size ++ t)) → Closing r d nests n t
follow_opened r d n nests tag size t p l h =
    follow_led r d _ (content nests n) (tag ++ size) t (opener_leads r d n nests tag size p l) (rw append_assoc h)

-- objects follow from the first byte of a tag on
parts_follow : (r : Reading) (d : ℕ) (k : Bool) (tag s : List ℕ) (C A : List ℕ → Type 0) → (p : Parts r k tag C A s) → (k ≡ true → d < 6) → Inside r d k p.content → IsForest r d p.after →
    Follows r d (byte first_tag) s
parts_follow r d k tag s C A p deep inside others =
    subst (Follows r d (byte first_tag)) (sym p.whole)
    (opener_follows r d (length p.content) k tag p.size (p.content ++ p.after) (record { is_tag = p.is_tag; is_kind = p.is_kind; deep = deep }) p.is_length
    (record { content = p.content; after = p.after; whole = refl; size = refl; inside = inside; others = others }))

pub forest_follows : (r : Reading) (d : ℕ) (f : Objects) (s : List ℕ) → Spells r d f s → Follows r d (byte first_tag) s
forest_follows r d none s p = subst (Follows r d (byte first_tag)) (sym p) tt
forest_follows r d (primitive tag c rest) s p =
    parts_follow r d false tag s _ _ p (λ e. cc) (subst AreBytes (sym p.inside.0) p.inside.1) (record { objects = rest; spelled = p.others })
forest_follows r d (constructed tag inner rest) s p =
    parts_follow r d true tag s _ _ p (λ e. p.inside.0) (p.inside.0, record { objects = inner; spelled = p.inside.1 }) (record { objects = rest; spelled = p.others })

-- a length comes first
pub record LengthFirst (r : Reading) (d : ℕ) (nests : Bool) (s : List ℕ) : Type 0 where
  pub n : ℕ
  pub size : List ℕ
  pub t : List ℕ
  pub whole : s ≡ size ++ t
  pub is_length : IsLength r n size
  pub closing : Closing r d nests n t

pub length_first : (r : Reading) (d : ℕ) (nests : Bool) (s : List ℕ) → Follows r d (byte (first_length nests)) s → LengthFirst r d nests s
length_first r d nests [] h = absurd h
length_first r d nests (x ∷ s) h = by_value (cases_lt x 128) (cases_eq x 0x81) (cases_eq x 0x82)
  where
    low : (high : ℕ) (s : List ℕ) → high < 256 → least r 1 ≤ high → Follows r d (byte (low_length nests high)) s → x ≡ 0x82 → LengthFirst r d nests (x ∷ high ∷ s)
    low high [] lt e h is = absurd h
    low high (y ∷ s) lt e h is = record { n = 256 * high + y; size = x ∷ high ∷ y ∷ []; t = s; whole = refl; is_length = (is, least_both r high y e, lt, h.0, refl); closing = h.1 }

    high : (s : List ℕ) → Follows r d (byte (high_length nests)) s → x ≡ 0x82 → LengthFirst r d nests (x ∷ s)
    high [] h is = absurd h
    high (y ∷ s) h is =
        elim (cases_lt y (least r 1)) [
          | inl less ↦ absurd (unstep r d (high_length nests) y (wrong NotShortest) s (next_high_less r d nests y less) h)
          | inr more ↦ low y s h.0 more (unstep r d (high_length nests) y (byte (low_length nests y)) s (next_high r d nests y more) h) is
        ]

    one : (s : List ℕ) → Follows r d (byte (after_81 nests)) s → x ≡ 0x81 → LengthFirst r d nests (x ∷ s)
    one [] h is = absurd h
    one (y ∷ s) h is =
        elim (cases_lt y (least r 128)) [
          | inl less ↦ absurd (unstep r d (after_81 nests) y (wrong NotShortest) s (next_after_81_less r d nests y less) h)
          | inr more ↦ record { n = y; size = x ∷ y ∷ []; t = s; whole = refl; is_length = (is, more, h.0, refl); closing = unstep r d (after_81 nests) y (content nests y) s (next_after_81 r d nests y more) h }
        ]

    by_value : ((x < 128) ⊎ (128 ≤ x)) → ((x ≡ 0x81) ⊎ (x ≢ 0x81)) → ((x ≡ 0x82) ⊎ (x ≢ 0x82)) → LengthFirst r d nests (x ∷ s)
    by_value (inl lt) _ _ = record { n = x; size = x ∷ []; t = s; whole = refl; is_length = (lt, refl); closing = unstep r d (first_length nests) x (content nests x) s (next_short r d nests x lt) h }
    by_value (inr ge) (inl e) _ = one s (unstep r d (first_length nests) x (byte (after_81 nests)) s (next_81 r d nests x e) h) e
    by_value (inr ge) (inr other) (inl e) = high s (unstep r d (first_length nests) x (byte (high_length nests)) s (next_82 r d nests x e) h) e
    by_value (inr ge) (inr other) (inr nor) = absurd (unstep r d (first_length nests) x (wrong LengthForm) s (next_no_length r d nests x ge other nor) h)

-- a tag comes first
pub record TagFirst (r : Reading) (d : ℕ) (s : List ℕ) : Type 0 where
  pub nests : Bool
  pub tag : List ℕ
  pub t : List ℕ
  pub whole : s ≡ tag ++ t
  pub tagged : Tagged d nests tag
  pub follows : Follows r d (byte (first_length nests)) t

pub tag_first : (r : Reading) (d : ℕ) (x : ℕ) (s : List ℕ) → Follows r d (byte first_tag) (x ∷ s) → TagFirst r d (x ∷ s)
tag_first r d x s h = by_depth (cases_Bool (holds_objects x)) (cases_lt d 6)
  where
    third : (y : ℕ) (s : List ℕ) → (holds_objects x ≡ true → d < 6) → continues x ≡ true → 128 ≤ y → y < 256 → Follows r d (byte (third_tag (holds_objects x))) s → TagFirst r d (x ∷ y ∷ s)
    third y [] deep more ge lt q = absurd q
    third y (z ∷ s) deep more ge lt q =
        elim (cases_lt z 128) [
          | inl less ↦ record {
            nests = holds_objects x;
            tag = x ∷ y ∷ z ∷ [];
            t = s;
            whole = refl;
            tagged = record { is_tag = (h.0, more, ge, lt, less); is_kind = refl; deep = deep };
            follows = unstep r d (third_tag (holds_objects x)) z (byte (first_length (holds_objects x))) s (next_third_last r d (holds_objects x) z less) q;
          }
          | inr long ↦ absurd (unstep r d (third_tag (holds_objects x)) z (wrong TagTooLong) s (next_third_long r d (holds_objects x) z long) q)
        ]

    second : (s : List ℕ) → (holds_objects x ≡ true → d < 6) → continues x ≡ true → Follows r d (byte (second_tag (holds_objects x))) s → TagFirst r d (x ∷ s)
    second [] deep more q = absurd q
    second (y ∷ s) deep more q =
        elim (cases_lt y 128) [
          | inl less ↦ record {
            nests = holds_objects x;
            tag = x ∷ y ∷ [];
            t = s;
            whole = refl;
            tagged = record { is_tag = (h.0, more, less); is_kind = refl; deep = deep };
            follows = unstep r d (second_tag (holds_objects x)) y (byte (first_length (holds_objects x))) s (next_second_last r d (holds_objects x) y less) q;
          }
          | inr long ↦ third y s deep more long q.0 (unstep r d (second_tag (holds_objects x)) y (byte (third_tag (holds_objects x))) s (next_second_more r d (holds_objects x) y long) q)
        ]

    by_kind : (holds_objects x ≡ true → d < 6) → ((continues x ≡ true) ⊎ (continues x ≡ false)) → TagFirst r d (x ∷ s)
    by_kind deep (inl more) = second s deep more (unstep r d first_tag x (byte (second_tag (holds_objects x))) s (next_first_again r d x deep more) h)
    by_kind deep (inr last) = record {
      nests = holds_objects x;
      tag = x ∷ [];
      t = s;
      whole = refl;
      tagged = record { is_tag = (h.0, last); is_kind = refl; deep = deep };
      follows = unstep r d first_tag x (byte (first_length (holds_objects x))) s (next_first_once r d x deep last) h;
    }

    by_depth : ((holds_objects x ≡ true) ⊎ (holds_objects x ≡ false)) → ((d < 6) ⊎ (6 ≤ d)) → TagFirst r d (x ∷ s)
    by_depth (inl is) (inl less) = by_kind (λ e. less) (cases_Bool (continues x))
    by_depth (inl is) (inr deep) = absurd (unstep r d first_tag x (wrong TooDeep) s (next_first_deep r d x is deep) h)
    by_depth (inr plain) _ = by_kind (λ e. cc) (cases_Bool (continues x))

-- what follows from the first byte of a tag on is objects
pub follows_forest : (r : Reading) (d : ℕ) (s : List ℕ) → Follows r d (byte first_tag) s → IsForest r d s
follows_forest r d [] h = record { objects = none; spelled = refl }
follows_forest r d (x ∷ s) h =
    let a = tag_first r d x s h in
    let b = length_first r d a.nests a.t a.follows in
    let whole : x ∷ s ≡ a.tag ++ (b.size ++ (b.closing.content ++ b.closing.after)) =
    a.whole ∙ ap (λ (t : List ℕ). a.tag ++ t) (b.whole ∙ ap (λ (t : List ℕ). b.size ++ t) b.closing.whole) in
    object a.nests a.tag b.size b.n b.closing.content b.closing.after whole a.tagged b.is_length b.closing.size b.closing.inside b.closing.others
  where
    object : (nests : Bool) (tag size : List ℕ) (n : ℕ) (c after : List ℕ) → x ∷ s ≡ tag ++ (size ++ (c ++ after)) → Tagged d nests tag → IsLength r n size → length c ≡ n → Inside r d nests c → IsForest r d after → IsForest r d (x ∷ s)
    object true tag size n c after e t l k inside f = record { objects = constructed tag inside.1.objects f.objects; spelled = record { size = size; content = c; after = after; whole = e; is_tag = t.is_tag; is_kind = t.is_kind; is_length = subst (λ (m : ℕ). IsLength r m size) (sym k) l; inside = (inside.0, inside.1.spelled); others = f.spelled } }
    object false tag size n c after e t l k inside f = record { objects = primitive tag c f.objects; spelled = record { size = size; content = c; after = after; whole = e; is_tag = t.is_tag; is_kind = t.is_kind; is_length = subst (λ (m : ℕ). IsLength r m size) (sym k) l; inside = (refl, inside); others = f.spelled } }
