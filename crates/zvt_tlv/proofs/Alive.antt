-- Which beginnings can be completed.
use Rattle.std.proofs.Common.{◌≡◌, ◌≢◌, ℕ, ◌+◌, ◌-◌, ◌<◌, ◌≤◌, Bool, true, false, Option, List, [], ◌∷◌, ◌++◌, length, refl, sym, ◌∙◌, ap, subst, append_assoc, arith, length-append, ◌⊎◌, suc, zero, inl, inr}
use Rattle.zvt_grammar.specs.declared.why.Why.{Why}
use Rattle.zvt_grammar.specs.Reading.{Reading, AreBytes}
use Rattle.zvt_tlv.specs.Grammar.{Objects, IsLength, Spells}
use Rattle.zvt_grammar.proofs.CutLemmas.{prefixes_alive}
use Rattle.zvt_tlv.specs.Judging.{Next, byte, content, wrong, next, Filled, AliveIn, Role, first_tag, second_tag, third_tag, first_length, after_81, high_length, low_length, in_content, Tagged, Begins, Opener, Position, fault}
use Rattle.zvt_tlv.proofs.Spelling.{not_single, filler, filling, filling_size, filled, after_objects, spells_joined, joined}
use Rattle.zvt_tlv.proofs.NextByteLemmas.{Inside, Follows, Leads, leads_on, leads_follow, follow_led, begins_leads, opener_follows, follow_opened, opener_leads, forest_follows, follows_forest}
use Rattle.zvt_tlv.proofs.Room.{Fits, Nested, Shallow, fits_before, fitting_byte, Says, says}

-- what follows fits
pub fits_of : (r : Reading) (d : ℕ) (nx : Next) (s : List ℕ) → Follows r d nx s → Fits r d nx (length s)
fits_of r d (wrong w) s h = h
fits_of r d (content nests n) s h = (sized, whole_inside nests n h.content h.size h.inside, shallow nests h.content h.inside)
  where
    sized : (length s ≡ n) ⊎ (n + 2 ≤ length s)
    sized =
        let e = ap length h.whole in
        let l = length-append h.content h.after in
        let ne = not_single r d h.others.objects h.after h.others.spelled in
        grind (arith, e, l, h.size, ne)

    whole_inside : (nests : Bool) (n : ℕ) (c : List ℕ) → length c ≡ n → Inside r d nests c → Nested nests n 1
    whole_inside true n c e i = λ one. not_single r (suc d) i.1.objects c i.1.spelled (e ∙ one)
    whole_inside false n c e i = tt

    shallow : (nests : Bool) (c : List ℕ) → Inside r d nests c → Shallow d nests
    shallow true c i = λ e. i.0
    shallow false c i = λ e. absurd (cc (e))
fits_of r d (byte first_tag) [] h = λ e. absurd (omega arith)
fits_of r d (byte (second_tag nests)) [] h = absurd h
fits_of r d (byte (third_tag nests)) [] h = absurd h
fits_of r d (byte (first_length nests)) [] h = absurd h
fits_of r d (byte (after_81 nests)) [] h = absurd h
fits_of r d (byte (high_length nests)) [] h = absurd h
fits_of r d (byte (low_length nests high)) [] h = absurd h
fits_of r d (byte in_content) [] h = absurd h
fits_of r d (byte role) (x ∷ s) h = fits_before r d role x (length s) h.0 (fits_of r d (next r d role x) s h.1)

-- bytes of some number
abbrev pub zeros : ℕ → List ℕ
zeros zero = []
zeros (suc n) = 0 ∷ zeros n

pub zeros_size : (n : ℕ) → length (zeros n) ≡ n
zeros_size zero = refl
zeros_size (suc n) = ap suc (zeros_size n)

pub zeros_bytes : (n : ℕ) → AreBytes (zeros n)
zeros_bytes zero = tt
zeros_bytes (suc n) = (omega arith, zeros_bytes n)

-- what can follow
pub record Following (r : Reading) (d : ℕ) (nx : Next) (t : ℕ) : Type 0 where
  pub s : List ℕ
  pub follows : Follows r d nx s
  pub size : length s ≡ t

-- what is left after a content that fits can be filled
pub remainder : (t n : ℕ) → (t ≡ n) ⊎ (n + 2 ≤ t) → (m : ℕ) × (t ≡ n + m) × (m ≢ 1)
remainder t n (inl e) = (0, omega arith, λ e. omega arith)
remainder t n (inr h) = (t - n, omega arith, λ e. omega arith)

-- a content and filled objects after it
pub closed : (r : Reading) (d : ℕ) (nests : Bool) (c : List ℕ) (t : ℕ) → Inside r d nests c → (t ≡ length c) ⊎ (length c + 2 ≤ t) →
    Following r d (content nests (length c)) t
closed r d nests c t inside f =
    let rest = remainder t (length c) f in
    record {
      s = c ++ filling rest.0;
      follows = record { content = c; after = filling rest.0; whole = refl; size = refl; inside = inside; others = record { objects = filler rest.0; spelled = filled r d rest.0 } };
      size = omega (arith, length-append c (filling rest.0), filling_size rest.0 rest.2, rest.1);
    }

pub following : (r : Reading) (d : ℕ) (nx : Next) (t : ℕ) → Fits r d nx t → Following r d nx t
following r d (wrong w) t f = absurd f
following r d (content true n) t f =
    let e = filling_size n f.1 in
    subst (λ (m : ℕ). Following r d (content true m) t) e
    (closed r d true (filling n) t (f.2 refl, record { objects = filler n; spelled = filled r (suc d) n })
    (subst (λ (m : ℕ). (t ≡ m) ⊎ (m + 2 ≤ t)) (sym e) f.0))
following r d (content false n) t f =
    let e = zeros_size n in
    subst (λ (m : ℕ). Following r d (content false m) t) e
    (closed r d false (zeros n) t (zeros_bytes n) (subst (λ (m : ℕ). (t ≡ m) ⊎ (m + 2 ≤ t)) (sym e) f.0))
following r d (byte first_tag) zero f = record { s = []; follows = tt; size = refl }
following r d (byte (second_tag nests)) zero f = absurd (omega (arith, f.0))
following r d (byte (third_tag nests)) zero f = absurd (omega (arith, f.0))
following r d (byte (first_length nests)) zero f = absurd (omega (arith, f.0))
following r d (byte (after_81 nests)) zero f = absurd (omega (arith, f.0))
following r d (byte (high_length nests)) zero f = absurd (omega (arith, f.0))
following r d (byte (low_length nests high)) zero f = absurd (omega (arith, f.0))
following r d (byte in_content) zero f = absurd f
following r d (byte role) (suc t) f =
    let one = fitting_byte r d role t f in
    let more = following r d one.nx t one.fits in
    record { s = one.x ∷ more.s; follows = (one.is_byte, subst (λ (n : Next). Follows r d n more.s) (sym one.leads) more.follows); size = ap suc more.size }

-- a beginning can be completed exactly where what it leads to fits
pub alive_fits : (r : Reading) (d room : ℕ) (b : List ℕ) (nx : Next) (t : ℕ) → Leads r d (byte first_tag) b nx → length b + t ≡ room →
    AliveIn r d room b → Fits r d nx t
alive_fits r d room b nx t l e a =
    let h = follow_led r d (byte first_tag) nx b a.rest l (forest_follows r d a.value (b ++ a.rest) a.spelled.0) in
    let n : length a.rest ≡ t = omega (arith, a.spelled.1, length-append b a.rest, e) in
    subst (λ (m : ℕ). Fits r d nx m) n (fits_of r d nx a.rest h)

pub fits_alive : (r : Reading) (d room : ℕ) (b : List ℕ) (nx : Next) (t : ℕ) → Leads r d (byte first_tag) b nx → length b + t ≡ room →
    Fits r d nx t → AliveIn r d room b
fits_alive r d room b nx t l e f =
    let more = following r d nx t f in
    let forest = follows_forest r d (b ++ more.s) (leads_follow r d (byte first_tag) nx b more.s l more.follows) in
    record { value = forest.objects; rest = more.s; spelled = (forest.spelled, omega (arith, length-append b more.s, more.size, e)) }

-- in one level: a byte's tests pass exactly where it leaves the bytes alive
pub fit_here : (r : Reading) (d room : ℕ) (b : List ℕ) (role : Role) (left x : ℕ) → role ≢ in_content → Begins r d role b →
    length b + suc left ≡ room → x < 256 → AliveIn r d room b → Says (fault r d role left x) (AliveIn r d room (b ++ x ∷ []))
fit_here r d room b role left x ne begins e lt a =
    let l = begins_leads r d role b ne begins in
    let on = leads_on r d (byte first_tag) (byte role) (next r d role x) b (x ∷ []) l (lt, refl) in
    let size : length (b ++ x ∷ []) + left ≡ room = omega (arith, length-append b (x ∷ []), e) in
    let s = says r d role left x lt (alive_fits r d room b (byte role) (suc left) l e a) in (
      λ is. fits_alive r d room _ _ left on size (s.0 is),
      λ w is p. s.1 w is (alive_fits r d room _ _ left on size p),
    )

-- prefixes of what is alive
pub alive_prefix : (r : Reading) (d room : ℕ) (a b : List ℕ) → AliveIn r d room (a ++ b) → AliveIn r d room a
alive_prefix r d room a b h = prefixes_alive (Filled r d room) a b h

pub alive_size : (r : Reading) (d room : ℕ) (b : List ℕ) → AliveIn r d room b → length b ≤ room
alive_size r d room b h = omega (arith, length-append b h.rest, h.spelled.1)

-- after complete objects
pub alive_joined : (r : Reading) (d room : ℕ) (f : Objects) (a b : List ℕ) → Spells r d f a → AliveIn r d room b →
    AliveIn r d (length a + room) (a ++ b)
alive_joined r d room f a b p h = record {
  value = joined f h.value;
  rest = h.rest;
  spelled = (
    subst (Spells r d (joined f h.value)) (sym (append_assoc a b h.rest)) (spells_joined r d f h.value a (b ++ h.rest) p h.spelled.0),
    omega (arith, ap length (append_assoc a b h.rest), length-append a (b ++ h.rest), h.spelled.1),
  );
}

pub alive_apart : (r : Reading) (d room : ℕ) (f : Objects) (a b : List ℕ) → Spells r d f a → AliveIn r d (length a + room) (a ++ b) →
    AliveIn r d room b
alive_apart r d room f a b p h =
    let rest = after_objects r d f h.value a (b ++ h.rest) p (subst (Spells r d h.value) (append_assoc a b h.rest) h.spelled.0) in
    record {
      value = rest.0;
      rest = h.rest;
      spelled = (rest.1, omega (arith, ap length (append_assoc a b h.rest), length-append a (b ++ h.rest), h.spelled.1));
    }

-- inside a constructed object
pub opener_fits : (r : Reading) (d n left : ℕ) (nests : Bool) (tag size b : List ℕ) → Tagged d nests tag → IsLength r n size →
    AliveIn r d (length tag + (length size + left)) (tag ++ (size ++ b)) → Fits r d (content nests n) left
opener_fits r d n left nests tag size b p l h =
    alive_fits r d (length tag + (length size + left)) (tag ++ size) (content nests n) left (opener_leads r d n nests tag size p l)
    (omega (arith, length-append tag size))
    (alive_prefix r d _ (tag ++ size) b (subst (AliveIn r d (length tag + (length size + left))) (sym (append_assoc tag size b)) h))

-- an opener and the beginning of its content, where the content can be completed and fits
pub alive_opened : (r : Reading) (d n left : ℕ) (nests : Bool) (tag size b s : List ℕ) → Tagged d nests tag → IsLength r n size →
    (left ≡ n) ⊎ (n + 2 ≤ left) → length (b ++ s) ≡ n → Inside r d nests (b ++ s) →
    AliveIn r d (length tag + (length size + left)) (tag ++ (size ++ b))
alive_opened r d n left nests tag size b s p l f e inside =
    let m = remainder left n f in
    let t = (b ++ s) ++ filling m.0 in
    let forest = follows_forest r d (tag ++ (size ++ t)) (opener_follows r d n nests tag size t p l
    (record { content = b ++ s; after = filling m.0; whole = refl; size = e; inside = inside; others = record { objects = filler m.0; spelled = filled r d m.0 } })) in
    let same : tag ++ (size ++ ((b ++ s) ++ filling m.0)) ≡ (tag ++ (size ++ b)) ++ (s ++ filling m.0) = simp append_assoc in
    record {
      value = forest.objects;
      rest = s ++ filling m.0;
      spelled = (
        subst (Spells r d forest.objects) same forest.spelled,
        omega (arith, sym (ap length same), length-append tag (size ++ t), length-append size t, length-append (b ++ s) (filling m.0), filling_size m.0 m.2, m.1, e),
      );
    }

pub alive_within : (r : Reading) (d n left : ℕ) (tag size b : List ℕ) → Tagged d true tag → IsLength r n size → Fits r d (content true n) left →
    AliveIn r (suc d) n b → AliveIn r d (length tag + (length size + left)) (tag ++ (size ++ b))
alive_within r d n left tag size b p l f h =
    alive_opened r d n left true tag size b h.rest p l f.0 h.spelled.1 (p.deep refl, record { objects = h.value; spelled = h.spelled.0 })

-- a prefix of a longer list's prefix
pub prefix_of : (a b c e : List ℕ) → a ++ b ≡ c ++ e → length a ≤ length c → (m : List ℕ) × (c ≡ a ++ m)
prefix_of [] b c e q h = (c, refl)
prefix_of (x ∷ a) b [] e q h = absurd (omega arith)
prefix_of (x ∷ a) b (y ∷ c) e q h =
    let heads : x ≡ y = cc in
    let more = prefix_of a b c e (cc) (omega arith) in
    (more.0, cc (heads, more.1))

-- what is alive after an opener begins a content
content_prefix : (r : Reading) (d n left : ℕ) (nests : Bool) (tag size b : List ℕ) → Tagged d nests tag → IsLength r n size → length b ≤ n →
    AliveIn r d (length tag + (length size + left)) (tag ++ (size ++ b)) → (m : List ℕ) × Inside r d nests (b ++ m) × (length (b ++ m) ≡ n)
content_prefix r d n left nests tag size b p l short h =
    let same : (tag ++ (size ++ b)) ++ h.rest ≡ tag ++ (size ++ (b ++ h.rest)) = simp append_assoc in
    let c = follow_opened r d n nests tag size (b ++ h.rest) p l
    (subst (Follows r d (byte first_tag)) {y = tag ++ (size ++ (b ++ h.rest))} same (forest_follows r d h.value ((tag ++ (size ++ b)) ++ h.rest) h.spelled.0)) in
    begun c.content (prefix_of b h.rest c.content c.after c.whole (omega (arith, c.size))) c.inside c.size
  where
    begun : (c : List ℕ) → ((m : List ℕ) × (c ≡ b ++ m)) → Inside r d nests c → length c ≡ n → (m : List ℕ) × Inside r d nests (b ++ m) × (length (b ++ m) ≡ n)
    begun c m inside size = (m.0, subst (Inside r d nests) m.1 inside, ap length (sym m.1) ∙ size)

pub alive_inside : (r : Reading) (d n left : ℕ) (tag size b : List ℕ) → Tagged d true tag → IsLength r n size → length b ≤ n →
    AliveIn r d (length tag + (length size + left)) (tag ++ (size ++ b)) → AliveIn r (suc d) n b
alive_inside r d n left tag size b p l short h =
    let c = content_prefix r d n left true tag size b p l short h in record { value = c.1.1.objects; rest = c.0; spelled = (c.1.1.spelled, c.2) }

-- one more byte of a primitive content
pub bytes_prefix : (a b : List ℕ) → AreBytes (a ++ b) → AreBytes a
bytes_prefix [] b h = tt
bytes_prefix (x ∷ a) b h = (h.0, bytes_prefix a b h.1)

pub bytes_joined : (a b : List ℕ) → AreBytes a → AreBytes b → AreBytes (a ++ b)
bytes_joined [] b p q = q
bytes_joined (x ∷ a) b p q = (p.0, bytes_joined a b p.1 q)

pub alive_bytes : (r : Reading) (d n left : ℕ) (tag size b : List ℕ) → Tagged d false tag → IsLength r n size → (left ≡ n) ⊎ (n + 2 ≤ left) →
    AreBytes b → length b ≤ n → AliveIn r d (length tag + (length size + left)) (tag ++ (size ++ b))
alive_bytes r d n left tag size b p l f bytes short =
    alive_opened r d n left false tag size b (zeros (n - length b)) p l f
    (omega (arith, length-append b (zeros (n - length b)), zeros_size (n - length b)))
    (bytes_joined b (zeros (n - length b)) bytes (zeros_bytes (n - length b)))

pub bytes_alive : (r : Reading) (d n left : ℕ) (tag size b : List ℕ) → Tagged d false tag → IsLength r n size → length b ≤ n →
    AliveIn r d (length tag + (length size + left)) (tag ++ (size ++ b)) → AreBytes b
bytes_alive r d n left tag size b p l short h =
    let c = content_prefix r d n left false tag size b p l short h in bytes_prefix b c.0 c.1

-- a fact that represents another
pub says_of : (o : Option Why) (P Q : Type 0) → (P → Q) → (Q → P) → Says o P → Says o Q
says_of o P Q to from h = (λ e. to (h.0 e), λ w e q. h.1 w e (from q))

pub is_content : (role : Role) → (role ≡ in_content) ⊎ (role ≢ in_content)
is_content first_tag = inr (λ e. cc)
is_content (second_tag nests) = inr (λ e. cc)
is_content (third_tag nests) = inr (λ e. cc)
is_content (first_length nests) = inr (λ e. cc)
is_content (after_81 nests) = inr (λ e. cc)
is_content (high_length nests) = inr (λ e. cc)
is_content (low_length nests high) = inr (λ e. cc)
is_content in_content = inl refl

-- a byte in a primitive content is always alive
pub fit_content : (r : Reading) (d room : ℕ) (b : List ℕ) (left x : ℕ) → Begins r d in_content b → length b + suc left ≡ room → x < 256 →
    AliveIn r d room b → AliveIn r d room (b ++ x ∷ [])
fit_content r d room b left x (tag, size, part, n, e, p, l, short) filled lt a =
    let total : length b ≡ length tag + (length size + length part) = ap length e ∙ (length-append tag (size ++ part) ∙ ap (λ (m : ℕ). length tag + m) (length-append size part)) in
    let rest = length part + suc left in
    let sized : room ≡ length tag + (length size + rest) = omega (arith, total, filled) in
    let here : AliveIn r d (length tag + (length size + rest)) (tag ++ (size ++ part)) =
    subst (λ (m : ℕ). AliveIn r d m (tag ++ (size ++ part))) sized (subst (AliveIn r d room) e a) in
    let f = opener_fits r d n rest false tag size part p l here in
    let bytes = bytes_alive r d n rest tag size part p l (omega arith) here in
    let more = alive_bytes r d n rest tag size (part ++ x ∷ []) p l f.0 (bytes_joined part (x ∷ []) bytes (lt, tt)) (omega (arith, length-append part (x ∷ []))) in
    let same : tag ++ (size ++ (part ++ x ∷ [])) ≡ b ++ x ∷ [] = simp (append_assoc, e) in
    subst (λ (m : ℕ). AliveIn r d m (b ++ x ∷ [])) (sym sized) (subst (AliveIn r d (length tag + (length size + rest))) same more)

-- at any position: a byte's tests pass exactly where it leaves the bytes alive
pub fit : (r : Reading) (os : List Opener) (d room : ℕ) (b : List ℕ) (at : ℕ) (role : Role) (left x : ℕ) → Position r d room os b at role left →
    x < 256 → AliveIn r d room b → Says (fault r at role left x) (AliveIn r d room (b ++ x ∷ []))
fit r [] d room b at role left x (items, done, beginning, e, spelled, begins, filled, same) lt a =
    let inner = length beginning + suc left in
    let sized : room ≡ length done + inner = omega (arith, ap length e, length-append done beginning, filled) in
    let here : AliveIn r d inner beginning = alive_apart r d inner items done beginning spelled
    (subst (λ (m : ℕ). AliveIn r d m (done ++ beginning)) sized (subst (AliveIn r d room) e a)) in
    let whole : done ++ (beginning ++ x ∷ []) ≡ b ++ x ∷ [] = simp (append_assoc, e) in
    let to = λ (h : AliveIn r d inner (beginning ++ x ∷ [])). subst (λ (m : ℕ). AliveIn r d m (b ++ x ∷ [])) (sym sized)
    (subst (AliveIn r d (length done + inner)) whole (alive_joined r d inner items done (beginning ++ x ∷ []) spelled h)) in
    let from = λ (h : AliveIn r d room (b ++ x ∷ [])). alive_apart r d inner items done (beginning ++ x ∷ []) spelled
    (subst (λ (m : ℕ). AliveIn r d m (done ++ (beginning ++ x ∷ []))) sized (subst (AliveIn r d room) (sym whole) h)) in
    says_of (fault r at role left x) (AliveIn r d inner (beginning ++ x ∷ [])) (AliveIn r d room (b ++ x ∷ [])) to from
    (subst (λ (k : ℕ). Says (fault r k role left x) (AliveIn r d inner (beginning ++ x ∷ []))) (sym same) (by_role (is_content role) here))
  where
    by_role : ((role ≡ in_content) ⊎ (role ≢ in_content)) → AliveIn r d (length beginning + suc left) beginning →
        Says (fault r d role left x) (AliveIn r d (length beginning + suc left) (beginning ++ x ∷ []))
    by_role (inl is) here =
        let next = fit_content r d (length beginning + suc left) beginning left x (subst (λ (k : Role). Begins r d k beginning) is begins) refl lt here in
        (λ e. next, λ w e p. cc (ap (λ (k : Role). fault r d k left x) is, e))
    by_role (inr other) here = fit_here r d (length beginning + suc left) beginning role left x other begins refl lt here
fit r (o ∷ os) d room b at role left x (inside, e, spelled, p, l, short, position) lt a =
    let k = length o.done + (length o.tag + length o.size) in
    let total : length b ≡ k + length inside = omega (arith, ap length e, length-append o.done (o.tag ++ (o.size ++ inside)), length-append o.tag (o.size ++ inside), length-append o.size inside) in
    let rest = room - k in
    let sized : room ≡ length o.done + (length o.tag + (length o.size + rest)) = omega (arith, total, alive_size r d room b a) in
    let level = length o.tag + (length o.size + rest) in
    let opened : AliveIn r d level (o.tag ++ (o.size ++ inside)) = alive_apart r d level o.items o.done (o.tag ++ (o.size ++ inside)) spelled
    (subst (λ (m : ℕ). AliveIn r d m (o.done ++ (o.tag ++ (o.size ++ inside)))) sized (subst (AliveIn r d room) e a)) in
    let f = opener_fits r d o.content rest true o.tag o.size inside p l opened in
    let within = alive_inside r d o.content rest o.tag o.size inside p l (omega arith) opened in
    let whole : o.done ++ (o.tag ++ (o.size ++ (inside ++ x ∷ []))) ≡ b ++ x ∷ [] = simp (append_assoc, e) in
    let to = λ (h : AliveIn r (suc d) o.content (inside ++ x ∷ [])). subst (λ (m : ℕ). AliveIn r d m (b ++ x ∷ [])) (sym sized)
    (subst (AliveIn r d (length o.done + level)) whole
    (alive_joined r d level o.items o.done (o.tag ++ (o.size ++ (inside ++ x ∷ []))) spelled
    (alive_within r d o.content rest o.tag o.size (inside ++ x ∷ []) p l f h))) in
    let from = λ (h : AliveIn r d room (b ++ x ∷ [])). alive_inside r d o.content rest o.tag o.size (inside ++ x ∷ []) p l (omega (arith, length-append inside (x ∷ [])))
    (alive_apart r d level o.items o.done (o.tag ++ (o.size ++ (inside ++ x ∷ []))) spelled
    (subst (λ (m : ℕ). AliveIn r d m (o.done ++ (o.tag ++ (o.size ++ (inside ++ x ∷ []))))) sized (subst (AliveIn r d room) (sym whole) h))) in
    says_of (fault r at role left x) (AliveIn r (suc d) o.content (inside ++ x ∷ [])) (AliveIn r d room (b ++ x ∷ [])) to from
    (fit r os (suc d) o.content inside at role left x position lt within)
