-- The place and the reason of a refusal are one.
use Rattle.std.proofs.Common.{◌≡◌, ◌≢◌, ℕ, ◌<◌, ◌≤◌, Bool, true, false, Some, List, [], ◌∷◌, ◌++◌, length, take, refl, sym, ◌∙◌, ap, subst, append_assoc, arith, length-append, ◌⊎◌, suc, inl, inr}
use Rattle.std.proofs.lemmas.Bool.{cases_lt}
use Rattle.std.proofs.lemmas.List.{append_cancel_left, append-nil}
use Rattle.zvt_grammar.specs.declared.why.Why.{Why}
use Rattle.zvt_grammar.specs.Reading.{Reading}
use Rattle.zvt_tlv.specs.Grammar.{Parts, Objects, none, primitive, constructed, IsTag, IsLength, Spells, is_constructed}
use Rattle.zvt_tlv.specs.Judging.{Next, byte, content, wrong, next, WhyIn, Role, first_tag, in_content, Tagged, Begins, Opener, Position, fault}
use Rattle.zvt_tlv.proofs.Spelling.{tag_prefix, length_prefix, after_objects}
use Rattle.zvt_tlv.proofs.NextByteLemmas.{Leads, begins_leads, opener_leads}
use Rattle.zvt_tlv.proofs.Alive.{prefix_of, is_content}

-- bytes lead to one state
pub leads_rest : (r : Reading) (d : ℕ) (from mid to : Next) (a c : List ℕ) → Leads r d from a mid → Leads r d from (a ++ c) to → Leads r d mid c to
leads_rest r d from mid to [] c p q = subst (λ (n : Next). Leads r d n c to) p q
leads_rest r d (byte role) mid to (x ∷ a) c p q = leads_rest r d (next r d role x) mid to a c p.1 q.1
leads_rest r d (content nests n) mid to (x ∷ a) c p q = absurd p
leads_rest r d (wrong w) mid to (x ∷ a) c p q = absurd p

no_head : (r : Reading) (d n : ℕ) (nests : Bool) (role : Role) (tag size x b : List ℕ) → Tagged d nests tag → IsLength r n size →
    b ≡ tag ++ (size ++ x) → Leads r d (byte first_tag) b (byte role) → ⊥
no_head r d n nests role tag size x b t l e h =
    ended x (leads_rest r d (byte first_tag) (content nests n) (byte role) (tag ++ size) x (opener_leads r d n nests tag size t l)
    (subst (λ (s : List ℕ). Leads r d (byte first_tag) s (byte role)) (e ∙ sym (append_assoc tag size x)) h))
  where
    ended : (x : List ℕ) → Leads r d (content nests n) x (byte role) → ⊥
    ended [] q = cc (q)
    ended (y ∷ x) q = q

-- no complete object comes first
unfoldable pub Unfinished : Reading → ℕ → List ℕ → Type 0
Unfinished r d b = (f : Objects) (m x : List ℕ) → Spells r d f m → 0 < length m → b ≡ m ++ x → ⊥

-- what a complete object at the start shows
pub record First (r : Reading) (d : ℕ) (b : List ℕ) : Type 0 where
  pub nests : Bool
  pub tag : List ℕ
  pub size : List ℕ
  pub content : List ℕ
  pub x : List ℕ
  pub whole : b ≡ tag ++ (size ++ (content ++ x))
  pub tagged : Tagged d nests tag
  pub is_length : IsLength r (length content) size

first_parts : (r : Reading) (d : ℕ) (k : Bool) (tag m x b : List ℕ) (C A : List ℕ → Type 0) → Parts r k tag C A m → (k ≡ true → d < 6) → b ≡ m ++ x → First r d b
first_parts r d k tag m x b C A p deep e = record {
  nests = k;
  tag = tag;
  size = p.size;
  content = p.content;
  x = p.after ++ x;
  whole = e ∙ ap (λ (s : List ℕ). s ++ x) p.whole ∙ simp append_assoc;
  tagged = record { is_tag = p.is_tag; is_kind = p.is_kind; deep = deep };
  is_length = p.is_length;
}

first_of : (r : Reading) (d : ℕ) (f : Objects) (m x b : List ℕ) → Spells r d f m → 0 < length m → b ≡ m ++ x → First r d b
first_of r d none m x b p some e = absurd (omega (arith, ap length p))
first_of r d (primitive tag c rest) m x b p some e = first_parts r d false tag m x b _ _ p (λ e. cc) e
first_of r d (constructed tag inner rest) m x b p some e = first_parts r d true tag m x b _ _ p (λ e. p.inside.0) e

pub opened_unfinished : (r : Reading) (d n : ℕ) (tag size part b : List ℕ) → IsTag tag → IsLength r n size → b ≡ tag ++ (size ++ part) → length part < n → Unfinished r d b
unfolding Unfinished
opened_unfinished r d n tag size part b t l e short f m x p some whole =
    let o = first_of r d f m x b p some whole in
    let one = tag_prefix tag o.tag (size ++ part) (o.size ++ (o.content ++ o.x)) t o.tagged.is_tag (sym e ∙ o.whole) in
    let two = length_prefix r n (length o.content) size o.size part (o.content ++ o.x) l o.is_length one.1 in
    omega (arith, two.1, ap length two.2, length-append o.content o.x)

pub begins_unfinished : (r : Reading) (d : ℕ) (role : Role) (b : List ℕ) → Begins r d role b → Unfinished r d b
unfolding Unfinished
begins_unfinished r d role b h f m x p some whole = by_role (is_content role)
  where
    by_role : ((role ≡ in_content) ⊎ (role ≢ in_content)) → ⊥
    by_role (inl is) =
        let c = subst (λ (k : Role). Begins r d k b) is h in
        opened_unfinished r d c.3 c.0 c.1 c.2 b c.5.is_tag c.6 c.4 c.7 f m x p some whole
    by_role (inr ne) =
        let o = first_of r d f m x b p some whole in
        no_head r d (length o.content) o.nests role o.tag o.size (o.content ++ o.x) b o.tagged o.is_length o.whole (begins_leads r d role b ne h)

-- complete objects and then an unfinished one: they part in one place
pub part_once : (r : Reading) (d : ℕ) (f g : Objects) (a b a' b' : List ℕ) → Spells r d f a → Spells r d g a' → Unfinished r d b → Unfinished r d b' →
    a ++ b ≡ a' ++ b' → (a ≡ a') × (b ≡ b')
unfolding Unfinished
part_once r d f g a b a' b' p q u v e = by_size (cases_lt (length a') (length a))
  where
    shorter : (f g : Objects) (a b a' b' : List ℕ) → Spells r d f a → Spells r d g a' → Unfinished r d b → a ++ b ≡ a' ++ b' → length a ≤ length a' → (a ≡ a') × (b ≡ b')
    shorter f g a b a' b' p q u e le =
        let m = prefix_of a b a' b' e le in
        let h = after_objects r d f g a m.0 p (subst (Spells r d g) m.1 q) in
        let same : b ≡ m.0 ++ b' = append_cancel_left a b (m.0 ++ b') (e ∙ ap (λ (s : List ℕ). s ++ b') m.1 ∙ append_assoc a m.0 b') in
        ended m.0 m.1 h.1 same
      where
        ended : (m : List ℕ) → a' ≡ a ++ m → Spells r d (after_objects r d f g a (prefix_of a b a' b' e le).0 p (subst (Spells r d g) (prefix_of a b a' b' e le).1 q)).0 m → b ≡ m ++ b' → (a ≡ a') × (b ≡ b')
        ended [] k s same = (sym (k ∙ append-nil a), same)
        ended (y ∷ m) k s same = absurd (u _ (y ∷ m) b' s (omega arith) same)

    by_size : ((length a' < length a) ⊎ (length a ≤ length a')) → (a ≡ a') × (b ≡ b')
    by_size (inl lt) = let s = shorter g f a' b' a b q p v (sym e) (omega arith) in (sym s.0, sym s.1)
    by_size (inr le) = shorter f g a b a' b' p q u e le

-- two positions after the same bytes are one
pub record SamePlace (at at' : ℕ) (role role' : Role) (left left' : ℕ) : Type 0 where
  pub ats : at ≡ at'
  pub roles : role ≡ role'
  pub lefts : left ≡ left'

one_role : (r : Reading) (d : ℕ) (role role' : Role) (b : List ℕ) → Begins r d role b → Begins r d role' b → role ≡ role'
one_role r d role role' b p q = by_role (is_content role) (is_content role')
  where
    clash : (k : Role) → k ≢ in_content → Begins r d k b → Begins r d in_content b → ⊥
    clash k ne h c = no_head r d c.3 false k c.0 c.1 c.2 b c.5 c.6 c.4 (begins_leads r d k b ne h)

    by_role : ((role ≡ in_content) ⊎ (role ≢ in_content)) → ((role' ≡ in_content) ⊎ (role' ≢ in_content)) → role ≡ role'
    by_role (inl e) (inl e') = e ∙ sym e'
    by_role (inl e) (inr ne) = absurd (clash role' ne q (subst (λ (k : Role). Begins r d k b) e p))
    by_role (inr ne) (inl e) = absurd (clash role ne p (subst (λ (k : Role). Begins r d k b) e q))
    by_role (inr ne) (inr ne') =
        let same : byte role ≡ byte role' = leads_rest r d (byte first_tag) (byte role) (byte role') b [] (begins_leads r d role b ne p)
        (subst (λ (s : List ℕ). Leads r d (byte first_tag) s (byte role')) (sym (append-nil b)) (begins_leads r d role' b ne' q)) in
        cc

not_opened : (r : Reading) (d n : ℕ) (role : Role) (tag size inside b : List ℕ) → Begins r d role b → Tagged d true tag → IsLength r n size → b ≡ tag ++ (size ++ inside) → ⊥
not_opened r d n role tag size inside b h t l e = by_role (is_content role)
  where
    by_role : ((role ≡ in_content) ⊎ (role ≢ in_content)) → ⊥
    by_role (inl is) =
        let c = subst (λ (k : Role). Begins r d k b) is h in
        let same = tag_prefix c.0 tag (c.1 ++ c.2) (size ++ inside) c.5.is_tag t.is_tag (sym c.4 ∙ e) in
        cc (ap is_constructed same.0, c.5.is_kind, t.is_kind)
    by_role (inr ne) = no_head r d n true role tag size inside b t l e (begins_leads r d role b ne h)

pub position_once : (r : Reading) (os qs : List Opener) (d room : ℕ) (b : List ℕ) (at at' : ℕ) (role role' : Role) (left left' : ℕ) →
    Position r d room os b at role left → Position r d room qs b at' role' left' → SamePlace at at' role role' left left'
position_once r [] [] d room b at at' role role' left left' (f, a, c, e, s, h, n, k) (f', a', c', e', s', h', n', k') =
    let same = part_once r d f f' a c a' c' s s' (begins_unfinished r d role c h) (begins_unfinished r d role' c' h') (sym e ∙ e') in
    record { ats = k ∙ sym k'; roles = one_role r d role role' c h (subst (Begins r d role') (sym same.1) h'); lefts = omega arith }
position_once r [] (q ∷ qs) d room b at at' role role' left left' (f, a, c, e, s, h, n, k) (inside, e', s', t, l, short, position) =
    let same = part_once r d f q.items a c q.done (q.tag ++ (q.size ++ inside)) s s' (begins_unfinished r d role c h) (opened_unfinished r d q.content q.tag q.size inside _ t.is_tag l refl short) (sym e ∙ e') in
    absurd (not_opened r d q.content role q.tag q.size inside c h t l same.1)
position_once r (q ∷ qs) [] d room b at at' role role' left left' (inside, e', s', t, l, short, position) (f, a, c, e, s, h, n, k) =
    let same = part_once r d f q.items a c q.done (q.tag ++ (q.size ++ inside)) s s' (begins_unfinished r d role' c h) (opened_unfinished r d q.content q.tag q.size inside _ t.is_tag l refl short) (sym e ∙ e') in
    absurd (not_opened r d q.content role' q.tag q.size inside c h t l same.1)
position_once r (o ∷ os) (q ∷ qs) d room b at at' role role' left left' (inside, e, s, t, l, short, position) (inside', e', s', t', l', short', position') =
    let same = part_once r d o.items q.items o.done (o.tag ++ (o.size ++ inside)) q.done (q.tag ++ (q.size ++ inside')) s s'
    (opened_unfinished r d o.content o.tag o.size inside _ t.is_tag l refl short) (opened_unfinished r d q.content q.tag q.size inside' _ t'.is_tag l' refl short') (sym e ∙ e') in
    let one = tag_prefix o.tag q.tag (o.size ++ inside) (q.size ++ inside') t.is_tag t'.is_tag same.1 in
    let two = length_prefix r o.content q.content o.size q.size inside inside' l l' one.1 in
    position_once r os qs (suc d) o.content inside at at' role role' left left' position
    (subst (λ (m : ℕ). Position r (suc d) m qs inside at' role' left') (sym two.1) (subst (λ (x : List ℕ). Position r (suc d) q.content qs x at' role' left') (sym two.2) position'))

-- one byte at one position has one reason
pub one_fault : (r : Reading) (at at' : ℕ) (role role' : Role) (left left' x x' : ℕ) (w w' : Why) → at ≡ at' → role ≡ role' → left ≡ left' → Some x ≡ Some x' →
    fault r at role left x ≡ Some w → fault r at' role' left' x' ≡ Some w' → w ≡ w'
one_fault r at at' role role' left left' x x' w w' a b c e p q =
    let one : x ≡ x' = cc in
    let faults : fault r at role left x ≡ fault r at' role' left' x' =
    ap (λ (n : ℕ). fault r n role left x) a ∙ ap (λ (n : Role). fault r at' n left x) b ∙ ap (λ (n : ℕ). fault r at' role' n x) c ∙ ap (fault r at' role' left') one in
    let whys : Some w ≡ Some w' = sym p ∙ faults ∙ q in
    cc

-- a refusal has one reason
pub why_once : (r : Reading) (d room k : ℕ) (bytes : List ℕ) (w w' : Why) → WhyIn r d room bytes k w → WhyIn r d room bytes k w' → w ≡ w'
why_once r d room k bytes w w' p q =
    let same = position_once r p.openers q.openers d room (take k bytes) p.at q.at p.role q.role p.left q.left p.stands q.stands in
    one_fault r p.at q.at p.role q.role p.left q.left p.byte q.byte w w' same.ats same.roles same.lefts (sym p.is_byte ∙ q.is_byte) p.fails q.fails
