-- A refusal has one place and one reason.
use Rattle.std.proofs.Common.{◌≡◌, ℕ, ◌+◌, ◌-◌, ◌<◌, ◌≤◌, ◌==◌, cond, Some, List, [], ◌∷◌, ◌++◌, length, take, drop, slice_get, refl, sym, ◌∙◌, ap, subst, arith, length-append, ◌⊎◌, suc, inl, inr}
use Rattle.std.proofs.lemmas.Bool.{cases_lt, cond-false, ne_eqb, false≢true}
use Rattle.std.proofs.Math.Seq.{take-append_seam, take-add}
use Rattle.zvt_grammar.specs.declared.why.Why.{Why}
use Rattle.zvt_grammar.specs.Reading.{Reading}
use Rattle.zvt_grammar.specs.Beginnings.{Alive, Place}
use Rattle.zvt_grammar.proofs.CutLemmas.{prefixes_alive}
use Rattle.zvt_tlv.proofs.Spelling.{same_prefix}
use Rattle.zvt_tlv.specs.Judging.{Opener}
use Rattle.zvt_field.specs.Judging as field
use Rattle.zvt_field.proofs.Positions.{why_once, stands, stands_once}
use Rattle.zvt_apdu.specs.Grammar.{IsFrameLength, Spells}
use Rattle.zvt_apdu.specs.Judging.{Layout, layout_of, head_size, Role, first_control, second_control, first_size, low_size, high_size, free, digit, in_fields, InData, layout_in, InFields, Position, fault, WhyOf}
use Rattle.zvt_apdu.specs.Laws.{PositionsAreOne, RefusalsAreOne}
use Rattle.zvt_apdu.proofs.Within.{frame_length_prefix}

-- the first place is one
module _ {V : Type 0} (spells : V → List ℕ → Type 0) where
  place_before : (j k : ℕ) (bytes : List ℕ) → Place spells bytes j → Place spells bytes k → j < k → ⊥
  place_before j k bytes p q lt =
      let e : suc j + (k - suc j) ≡ k = omega arith in
      p.dead (prefixes_alive spells (take (suc j) bytes) (take (k - suc j) (drop (suc j) bytes))
      (subst (Alive spells) (sym (ap (λ (m : ℕ). take m bytes) e) ∙ take-add (suc j) (k - suc j) bytes) q.alive))

  pub place_once : (j k : ℕ) (bytes : List ℕ) → Place spells bytes j → Place spells bytes k → j ≡ k
  place_once j k bytes p q = by_order (cases_lt j k) (cases_lt k j)
    where
      by_order : ((j < k) ⊎ (k ≤ j)) → ((k < j) ⊎ (j ≤ k)) → j ≡ k
      by_order (inl lt) _ = absurd (place_before j k bytes p q lt)
      by_order (inr ge) (inl lt) = absurd (place_before k j bytes q p lt)
      by_order (inr ge) (inr le) = omega arith

-- the part of a frame that a byte is in, by the bytes before it and by its role
abbrev stage_at : List ℕ → ℕ
stage_at [] = 0
stage_at (h ∷ []) = 1
stage_at (h ∷ l ∷ []) = 2
stage_at (h ∷ l ∷ x ∷ []) = cond (x == 0xFF) 3 5
stage_at (h ∷ l ∷ x ∷ s ∷ []) = cond (x == 0xFF) 4 5
stage_at (h ∷ l ∷ x ∷ s ∷ t ∷ b) = 5

abbrev stage_of : Role → ℕ
stage_of first_control = 0
stage_of second_control = 1
stage_of (first_size h l) = 2
stage_of (low_size h l) = 3
stage_of (high_size h l s) = 4
stage_of free = 5
stage_of digit = 5
stage_of (in_fields role left) = 5

data_stage : (r : Reading) (n h l : ℕ) (size inside : List ℕ) → IsFrameLength r n size → stage_at (h ∷ l ∷ (size ++ inside)) ≡ 5
data_stage r n h l [] inside q = absurd q
data_stage r n h l (a ∷ []) [] q = cond-false (a == 0xFF) 3 5 (ne_eqb a 0xFF (λ e. omega (arith, q.0, q.1, e)))
data_stage r n h l (a ∷ []) (s ∷ []) q = cond-false (a == 0xFF) 4 5 (ne_eqb a 0xFF (λ e. omega (arith, q.0, q.1, e)))
data_stage r n h l (a ∷ []) (s ∷ t ∷ inside) q = refl
data_stage r n h l (a ∷ b ∷ []) inside q = absurd q
data_stage r n h l (a ∷ b ∷ c ∷ []) inside q = refl
data_stage r n h l (a ∷ b ∷ c ∷ d ∷ s) inside q = absurd q

in_data : (r : Reading) (b : List ℕ) → InData r b → stage_at b ≡ 5
in_data r b d = ap stage_at d.whole ∙ data_stage r d.n d.high d.low d.size d.inside d.is_size

stages : (r : Reading) (os : List Opener) (b : List ℕ) (role : Role) → Position r os b role → stage_of role ≡ stage_at b
stages r os b first_control p = sym (ap stage_at p.1)
stages r os b second_control p = sym (ap stage_at p.2)
stages r os b (first_size h l) p = sym (ap stage_at p.1)
stages r os b (low_size h l) p = sym (ap stage_at p.1)
stages r os b (high_size h l s) p = sym (ap stage_at p.1)
stages r os b free p = sym (in_data r b p.0)
stages r os b digit p = sym (in_data r b p.0)
stages r os b (in_fields role left) p = sym (in_data r b p.data_begun)

-- the data so far is one
pub record SameData (r : Reading) (b : List ℕ) (d e : InData r b) : Type 0 where
  pub layouts : layout_in d ≡ layout_in e
  pub numbers : d.n ≡ e.n
  pub insides : d.inside ≡ e.inside

same_data : (r : Reading) (b : List ℕ) (d e : InData r b) → SameData r b d e
same_data r b d e =
    let whole : d.high ∷ d.low ∷ (d.size ++ d.inside) ≡ e.high ∷ e.low ∷ (e.size ++ e.inside) = sym d.whole ∙ e.whole in
    let highs : d.high ≡ e.high = cc (whole) in
    let lows : d.low ≡ e.low = cc (whole) in
    let one = frame_length_prefix r d.n e.n d.size e.size d.inside e.inside d.is_size e.is_size (cc (whole)) in
    record {
      layouts = ap (λ (h : ℕ). layout_of h d.low d.n) highs ∙ ap (λ (l : ℕ). layout_of e.high l d.n) lows ∙ ap (λ (n : ℕ). layout_of e.high e.low n) one.1;
      numbers = one.1;
      insides = one.2;
    }

-- the reason in fields
field_why : (r : Reading) (os : List Opener) (room left x : ℕ) (part : List ℕ) (role : field.Role) (why : Why) → field.Position r room os part role left → field.fault r role left x ≡ Some why → field.WhyIn r room (part ++ x ∷ []) (length part) why
field_why r os room left x part role why p e = record {
  openers = os;
  role = role;
  left = left;
  byte = x;
  stands = subst (λ (s : List ℕ). field.Position r room os s role left) (sym (take-append_seam part (x ∷ []))) p;
  is_byte = at part;
  fails = e;
}
  where
    at : (part : List ℕ) → slice_get (part ++ x ∷ []) (length part) ≡ Some x
    at [] = refl
    at (y ∷ part) = at part

fields_once : (r : Reading) (b : List ℕ) (os qs : List Opener) (role role' : field.Role) (left left' x : ℕ) (v w : Why) → InFields r os b role left → InFields r qs b role' left' → field.fault r role left x ≡ Some v → field.fault r role' left' x ≡ Some w → v ≡ w
fields_once r b os qs role role' left left' x v w p q e f =
    let s = same_data r b p.data_begun q.data_begun in
    let heads : length p.head ≡ length q.head = p.sized ∙ ap head_size s.layouts ∙ sym q.sized in
    let two = same_prefix p.head q.head p.part q.part heads (sym p.whole ∙ s.insides ∙ q.whole) in
    let rooms : q.room ≡ p.room = omega (arith, heads, p.filled, q.filled, s.numbers) in
    let second : field.Position r p.room qs p.part role' left' = subst (λ (n : ℕ). field.Position r n qs p.part role' left') rooms (subst (λ (s : List ℕ). field.Position r q.room qs s role' left') (sym two.1) q.stands) in
    why_once r p.room (length p.part) (p.part ++ x ∷ []) v w (field_why r os p.room left x p.part role v p.stands e) (field_why r qs p.room left' x p.part role' w second f)

digit_or_fields : (r : Reading) (b : List ℕ) (os qs : List Opener) (role : field.Role) (left : ℕ) → Position r os b digit → InFields r qs b role left → ⊥
digit_or_fields r b os qs role left p q =
    let s = same_data r b p.0 q.data_begun in
    omega (arith, p.3, ap length s.insides, ap head_size s.layouts, ap length q.whole, length-append q.head q.part, q.sized)

-- a byte's tests give one reason
reason_once : (r : Reading) (os qs : List Opener) (b : List ℕ) (role role' : Role) (x : ℕ) (v w : Why) → Position r os b role → Position r qs b role' → fault r role x ≡ Some v → fault r role' x ≡ Some w → v ≡ w
reason_once r os qs b first_control role' x v w p q e f = absurd (cc (e))
reason_once r os qs b second_control role' x v w p q e f = absurd (cc (e))
reason_once r os qs b (low_size h l) role' x v w p q e f = absurd (cc (e))
reason_once r os qs b free role' x v w p q e f = absurd (cc (e))
reason_once r os qs b (first_size h l) (first_size h' l') x v w p q e f =
    let whole : h ∷ l ∷ [] ≡ h' ∷ l' ∷ [] = sym p.1 ∙ q.1 in
    let highs : h ≡ h' = cc (whole) in
    let lows : l ≡ l' = cc (whole) in
    let same : Some v ≡ Some w = sym e ∙ ap (λ (y : ℕ). fault r (first_size y l) x) highs ∙ ap (λ (y : ℕ). fault r (first_size h' y) x) lows ∙ f in
    cc (same)
reason_once r os qs b (high_size h l s) (high_size h' l' s') x v w p q e f =
    let whole : h ∷ l ∷ 0xFF ∷ s ∷ [] ≡ h' ∷ l' ∷ 0xFF ∷ s' ∷ [] = sym p.1 ∙ q.1 in
    let highs : h ≡ h' = cc (whole) in
    let lows : l ≡ l' = cc (whole) in
    let sizes : s ≡ s' = cc (whole) in
    let same : Some v ≡ Some w = sym e ∙ ap (λ (y : ℕ). fault r (high_size y l s) x) highs ∙ ap (λ (y : ℕ). fault r (high_size h' y s) x) lows ∙ ap (λ (y : ℕ). fault r (high_size h' l' y) x) sizes ∙ f in
    cc (same)
reason_once r os qs b digit digit x v w p q e f = let same : Some v ≡ Some w = sym e ∙ f in cc (same)
reason_once r os qs b digit (in_fields role' left') x v w p q e f = absurd (digit_or_fields r b os qs role' left' p q)
reason_once r os qs b (in_fields role left) digit x v w p q e f = absurd (digit_or_fields r b qs os role left q p)
reason_once r os qs b (in_fields role left) (in_fields role' left') x v w p q e f = fields_once r b os qs role role' left left' x v w p q e f
reason_once r os qs b role first_control x v w p q e f = absurd (cc (f))
reason_once r os qs b role second_control x v w p q e f = absurd (cc (f))
reason_once r os qs b role (low_size h l) x v w p q e f = absurd (cc (f))
reason_once r os qs b role free x v w p q e f = absurd (cc (f))
reason_once r os qs b role role' x v w p q e f = absurd (omega (arith, stages r os b role p, stages r qs b role' q))

why_is_one : (r : Reading) (k : ℕ) (b : List ℕ) (v w : Why) → WhyOf r b k v → WhyOf r b k w → v ≡ w
why_is_one r k b v w p q =
    let bytes : Some p.byte ≡ Some q.byte = sym p.is_byte ∙ q.is_byte in
    let one : q.byte ≡ p.byte = cc (bytes) in
    reason_once r p.openers q.openers (take k b) p.role q.role p.byte v w p.stands q.stands p.fails (ap (fault r q.role) (sym one) ∙ q.fails)

pub refusals_are_one : RefusalsAreOne
refusals_are_one r j k b v w p q x y =
    let e = place_once (Spells r) j k b p q in
    (e, why_is_one r k b v w (subst (λ (n : ℕ). WhyOf r b n v) e x) y)

-- a position is one
free_or_digit : (r : Reading) (b : List ℕ) (os qs : List Opener) → Position r os b free → Position r qs b digit → ⊥
free_or_digit r b os qs (d, e, inl lt) q =
    let s = same_data r b d q.0 in
    omega (arith, lt, q.2, ap length s.insides, ap (λ (l : Layout). l.free) s.layouts)
free_or_digit r b os qs (d, e, inr past) q =
    let s = same_data r b d q.0 in
    omega (arith, past.0, q.3, ap length s.insides, ap head_size s.layouts)

free_or_fields : (r : Reading) (b : List ℕ) (os qs : List Opener) (role : field.Role) (left : ℕ) → Position r os b free → InFields r qs b role left → ⊥
free_or_fields r b os qs role left (d, e, inl lt) q =
    let s = same_data r b d q.data_begun in
    let long : length d.inside ≡ head_size (layout_in d) + length q.part = ap length (s.insides ∙ q.whole) ∙ length-append q.head q.part ∙ ap (λ (n : ℕ). n + length q.part) (q.sized ∙ sym (ap head_size s.layouts)) in
    omega (arith, lt, long)
free_or_fields r b os qs role left (d, e, inr past) q =
    let s = same_data r b d q.data_begun in
    absurd (false≢true (sym past.1 ∙ ap (λ (l : Layout). l.fields) s.layouts ∙ q.has_fields))

fields_stand_once : (r : Reading) (b : List ℕ) (os qs : List Opener) (role role' : field.Role) (left left' : ℕ) → InFields r os b role left → InFields r qs b role' left' → in_fields role left ≡ in_fields role' left'
fields_stand_once r b os qs role role' left left' p q =
    let s = same_data r b p.data_begun q.data_begun in
    let heads : length p.head ≡ length q.head = p.sized ∙ ap head_size s.layouts ∙ sym q.sized in
    let two = same_prefix p.head q.head p.part q.part heads (sym p.whole ∙ s.insides ∙ q.whole) in
    let rooms : q.room ≡ p.room = omega (arith, heads, p.filled, q.filled, s.numbers) in
    let second : field.Position r p.room qs p.part role' left' = subst (λ (n : ℕ). field.Position r n qs p.part role' left') rooms (subst (λ (s : List ℕ). field.Position r q.room qs s role' left') (sym two.1) q.stands) in
    let one = stands_once r p.room p.part role role' left left' (stands r p.room os p.part role left p.stands) (stands r p.room qs p.part role' left' second) in
    ap (λ (x : field.Role). in_fields x left) one.0 ∙ ap (in_fields role') one.1

role_once : (r : Reading) (os qs : List Opener) (b : List ℕ) (role role' : Role) → Position r os b role → Position r qs b role' → role ≡ role'
role_once r os qs b first_control first_control p q = refl
role_once r os qs b second_control second_control p q = refl
role_once r os qs b (first_size h l) (first_size h' l') p q =
    let whole : h ∷ l ∷ [] ≡ h' ∷ l' ∷ [] = sym p.1 ∙ q.1 in
    let highs : h ≡ h' = cc (whole) in
    let lows : l ≡ l' = cc (whole) in
    cc (highs, lows)
role_once r os qs b (low_size h l) (low_size h' l') p q =
    let whole : h ∷ l ∷ 0xFF ∷ [] ≡ h' ∷ l' ∷ 0xFF ∷ [] = sym p.1 ∙ q.1 in
    let highs : h ≡ h' = cc (whole) in
    let lows : l ≡ l' = cc (whole) in
    cc (highs, lows)
role_once r os qs b (high_size h l s) (high_size h' l' s') p q =
    let whole : h ∷ l ∷ 0xFF ∷ s ∷ [] ≡ h' ∷ l' ∷ 0xFF ∷ s' ∷ [] = sym p.1 ∙ q.1 in
    let highs : h ≡ h' = cc (whole) in
    let lows : l ≡ l' = cc (whole) in
    let sizes : s ≡ s' = cc (whole) in
    cc (highs, lows, sizes)
role_once r os qs b free free p q = refl
role_once r os qs b digit digit p q = refl
role_once r os qs b free digit p q = absurd (free_or_digit r b os qs p q)
role_once r os qs b digit free p q = absurd (free_or_digit r b qs os q p)
role_once r os qs b free (in_fields role' left') p q = absurd (free_or_fields r b os qs role' left' p q)
role_once r os qs b (in_fields role left) free p q = absurd (free_or_fields r b qs os role left q p)
role_once r os qs b digit (in_fields role' left') p q = absurd (digit_or_fields r b os qs role' left' p q)
role_once r os qs b (in_fields role left) digit p q = absurd (digit_or_fields r b qs os role left q p)
role_once r os qs b (in_fields role left) (in_fields role' left') p q = fields_stand_once r b os qs role role' left left' p q
role_once r os qs b role role' p q = absurd (omega (arith, stages r os b role p, stages r qs b role' q))

pub positions_are_one : PositionsAreOne
positions_are_one r os qs b role role' p q = role_once r os qs b role role' p q
