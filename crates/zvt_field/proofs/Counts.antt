-- Which bytes may follow in a length of digits and at a name; then at any position.
use Rattle.std.proofs.Common.{◌≡◌, ◌≢◌, ℕ, ◌+◌, ◌*◌, ◌-◌, ◌<◌, ◌≤◌, nat_le, Bool, true, false, Option, Some, None, List, [], ◌∷◌, ◌++◌, length, refl, sym, ◌∙◌, ap, subst, append_assoc, arith, length-append, ◌⊎◌, suc, zero, inl, inr}
use Rattle.std.proofs.lemmas.List.{append-nil}
use Rattle.std.proofs.lemmas.Bool.{leb-true, leb-false, and_parts, and_cases, cases_eq}
use Rattle.zvt_bcd.specs.LengthDigits.{AreLengthDigits, counted, IsCount}
use Rattle.zvt_grammar.specs.declared.why.Why.{Why}
use Rattle.zvt_grammar.specs.declared.why.Why.TheVariants.{DoesNotFit, LengthDigit}
use Rattle.zvt_grammar.specs.Reading.{Reading}
use Rattle.zvt_tlv.specs.Grammar as tlv
use Rattle.zvt_grammar.specs.Tests.{check}
use Rattle.zvt_tlv.specs.Judging.{avoids, first_tag}
use Rattle.zvt_tlv.specs.Judging as judging
use Rattle.zvt_tlv.proofs.Spelling as forest
use Rattle.zvt_tlv.proofs.Alive.{prefix_of, says_of}
use Rattle.zvt_tlv.proofs.Alive as alive
use Rattle.zvt_tlv.proofs.Room.{Says}
use Rattle.zvt_tlv.proofs.SizedLemmas.{sized_object, object_sized}
use Rattle.zvt_field.specs.declared.shapes.Shape.{Shape}
use Rattle.zvt_field.specs.declared.shapes.Shape.TheVariants.{Fixed, Digits, Ll, Lll, Tree}
use Rattle.zvt_field.specs.Shapes.{shape_of}
use Rattle.zvt_field.specs.Grammar.{Field, plain, tree, IsHead, FieldList}
use Rattle.zvt_field.specs.Judging.{AliveIn, Role, name, digit, in_content, in_container, count_digits, Begins, Here, Position, name_fault, count_fits, is_length_digit, fault}
use Rattle.zvt_field.proofs.FieldLists.{not_single, alive_joined, alive_apart}
use Rattle.zvt_field.proofs.Fit.{says_check, content_alive, fit_size, fit_content, fit_container, alive_container, container_alive}

pub alive_prefix : (r : Reading) (room : ℕ) (a b : List ℕ) → AliveIn r room (a ++ b) → AliveIn r room a
alive_prefix r room a b h = record {
  value = h.value;
  rest = b ++ h.rest;
  spelled = (subst (FieldList r h.value) (append_assoc a b h.rest) h.spelled.0, ap length (sym (append_assoc a b h.rest)) ∙ h.spelled.1);
}

-- digits, one list after another
pub digits_prefix : (a b : List ℕ) → AreLengthDigits (a ++ b) → AreLengthDigits a
digits_prefix [] b h = tt
digits_prefix (x ∷ a) b h = (h.0, h.1, digits_prefix a b h.2)

digits_after : (a b : List ℕ) → AreLengthDigits (a ++ b) → AreLengthDigits b
digits_after [] b h = h
digits_after (x ∷ a) b h = digits_after a b h.2

pub digits_joined : (a b : List ℕ) → AreLengthDigits a → AreLengthDigits b → AreLengthDigits (a ++ b)
digits_joined [] b p q = q
digits_joined (x ∷ a) b p q = (p.0, p.1, digits_joined a b p.2 q)

pub counted_joined : (v : ℕ) (a b : List ℕ) → counted v (a ++ b) ≡ counted (counted v a) b
counted_joined v [] b = refl
counted_joined v (x ∷ a) b = counted_joined (10 * v + (x - 0xF0)) a b

-- the least number that that many more digits spell
abbrev pub least_count : (more v : ℕ) → ℕ
least_count zero v = v
least_count (suc more) v = least_count more (10 * v)

least_grows : (more v w : ℕ) → v ≤ w → least_count more v ≤ least_count more w
least_grows zero v w le = le
least_grows (suc more) v w le = least_grows more (10 * v) (10 * w) (omega arith)

least_counted : (v : ℕ) (ds : List ℕ) → least_count (length ds) v ≤ counted v ds
least_counted v [] = omega arith
least_counted v (x ∷ ds) =
    omega (arith, least_grows (length ds) (10 * v) (10 * v + (x - 0xF0)) (omega arith), least_counted (10 * v + (x - 0xF0)) ds)

-- digits that spell it, and the next number
abbrev nils : ℕ → List ℕ
nils zero = []
nils (suc more) = 0xF0 ∷ nils more

nils_size : (n : ℕ) → length (nils n) ≡ n
nils_size zero = refl
nils_size (suc n) = ap suc (nils_size n)

nils_digits : (n : ℕ) → AreLengthDigits (nils n)
nils_digits zero = tt
nils_digits (suc n) = (omega arith, omega arith, nils_digits n)

nils_count : (n v : ℕ) → counted v (nils n) ≡ least_count n v
nils_count zero v = refl
nils_count (suc n) v = let e : 10 * v + (0xF0 - 0xF0) ≡ 10 * v = omega arith in ap (λ (m : ℕ). counted m (nils n)) e ∙ nils_count n (10 * v)

abbrev next : ℕ → List ℕ
next zero = 0xF1 ∷ []
next (suc more) = 0xF0 ∷ next more

next_size : (n : ℕ) → length (next n) ≡ suc n
next_size zero = refl
next_size (suc n) = ap suc (next_size n)

next_digits : (n : ℕ) → AreLengthDigits (next n)
next_digits zero = (omega arith, omega arith, tt)
next_digits (suc n) = (omega arith, omega arith, next_digits n)

next_count : (n v : ℕ) → counted v (next n) ≡ least_count (suc n) v + 1
next_count zero v = omega arith
next_count (suc n) v = let e : 10 * v + (0xF0 - 0xF0) ≡ 10 * v = omega arith in ap (λ (m : ℕ). counted m (next n)) e ∙ next_count n (10 * v)

-- a length of digits, by how many there are
pub head_count : (o : Option Shape) (k : ℕ) (digits : Bool) (n : ℕ) (size : List ℕ) → count_digits o ≡ suc k → IsHead o digits n size → IsCount (suc k) n size
head_count None k d n s e h = absurd h
head_count (Some (Fixed m)) k d n s e h = absurd (omega arith)
head_count (Some (Digits m)) k d n s e h = absurd (omega arith)
head_count (Some Ll) k d n s e h = (h.1.0 ∙ e, h.1.1, h.1.2)
head_count (Some Lll) k d n s e h = (h.1.0 ∙ e, h.1.1, h.1.2)
head_count (Some Tree) k d n s e h = absurd h

pub count_head : (o : Option Shape) (k n : ℕ) (size : List ℕ) → count_digits o ≡ suc k → IsCount (suc k) n size → IsHead o false n size
count_head None k n s e h = absurd (omega arith)
count_head (Some (Fixed m)) k n s e h = absurd (omega arith)
count_head (Some (Digits m)) k n s e h = absurd (omega arith)
count_head (Some Ll) k n s e h = (refl, (h.0 ∙ sym e, h.1, h.2))
count_head (Some Lll) k n s e h = (refl, (h.0 ∙ sym e, h.1, h.2))
count_head (Some Tree) k n s e h = absurd (omega arith)

pub no_tree : (o : Option Shape) (k : ℕ) → count_digits o ≡ suc k → o ≡ Some Tree → ⊥
no_tree o k e is = absurd (omega (arith, sym e ∙ ap count_digits is))

-- the digits of the first field's length
pub record Over (k : ℕ) (size : List ℕ) (room : ℕ) : Type 0 where
  pub more : List ℕ
  pub n : ℕ
  pub is_count : IsCount (suc k) n (size ++ more)
  pub enough : suc (suc k) + n ≤ room

pub alive_counted : (r : Reading) (bmp k : ℕ) (size : List ℕ) (room : ℕ) → count_digits (shape_of bmp) ≡ suc k → length size ≤ suc k → AliveIn r room (bmp ∷ size) → Over k size room
alive_counted r bmp k size room is short h = by_list h.value h.spelled.0
  where
    by_list : (fs : List Field) → FieldList r fs ((bmp ∷ size) ++ h.rest) → Over k size room
    by_list [] p = absurd (omega (arith, ap length p))
    by_list (tree bmp' objects ∷ fs) (one, after, whole, p, more) =
        let e : bmp ∷ (size ++ h.rest) ≡ bmp' ∷ (p.one ++ after) = whole ∙ ap (λ (s : List ℕ). s ++ after) p.whole in
        let names : bmp ≡ bmp' = cc (e) in
        absurd (no_tree (shape_of bmp) k is (ap shape_of names ∙ p.is_tree))
    by_list (plain bmp' content ∷ fs) (one, after, whole, p, more) =
        let e : bmp ∷ (size ++ h.rest) ≡ bmp' ∷ (p.size ++ (content ++ after)) =
        whole ∙ ap (λ (s : List ℕ). s ++ after) p.whole ∙ ap (λ (s : List ℕ). bmp' ∷ s) (append_assoc p.size content after) in
        let names : bmp ≡ bmp' = cc (e) in
        let count = head_count (shape_of bmp') k p.digits (length content) p.size (ap (λ (m : ℕ). count_digits (shape_of m)) (sym names) ∙ is) p.is_head in
        let m = prefix_of size h.rest p.size (content ++ after) (cc (e)) (omega (arith, count.0)) in
        record {
          more = m.0;
          n = length content;
          is_count = subst (IsCount (suc k) (length content)) m.1 count;
          enough = omega (arith, h.spelled.1, ap length e, length-append size h.rest, length-append p.size (content ++ after), length-append content after, count.0);
        }

-- a length that has begun can be completed where its least content fits
pub counted_alive : (r : Reading) (bmp k m : ℕ) (size : List ℕ) (room : ℕ) → count_digits (shape_of bmp) ≡ suc k → length size + suc m ≡ suc k → AreLengthDigits size →
    suc (suc k) + least_count (suc m) (counted 0 size) ≤ room → AliveIn r room (bmp ∷ size)
counted_alive r bmp k m size room is sized digits enough = by_size (cases_eq room (suc (suc k) + (least + 1)))
  where
    least : ℕ
    least = least_count (suc m) (counted 0 size)

    with' : (ds : List ℕ) (n over : ℕ) → length ds ≡ suc m → AreLengthDigits ds → counted (counted 0 size) ds ≡ n → suc (suc k) + (n + over) ≡ room → over ≢ 1 → AliveIn r room (bmp ∷ size)
    with' ds n over long are count total apart =
        let head = count_head (shape_of bmp) k n (size ++ ds) is (omega (arith, length-append size ds), digits_joined size ds digits are, counted_joined 0 size ds ∙ count) in
        let whole : bmp ∷ ((size ++ ds) ++ []) ≡ (bmp ∷ size) ++ ds = ap (λ (s : List ℕ). bmp ∷ s) (append-nil (size ++ ds)) in
        alive_prefix r room (bmp ∷ size) ds (subst (AliveIn r room) whole
        (content_alive r bmp n false (size ++ ds) [] room head (omega arith)
        (record { over = over; sized = omega (arith, length-append size ds); apart = apart; is_content = tt })))

    by_size : ((room ≡ suc (suc k) + (least + 1)) ⊎ (room ≢ suc (suc k) + (least + 1))) → AliveIn r room (bmp ∷ size)
    by_size (inl e) = with' (next m) (least + 1) 0 (next_size m) (next_digits m) (next_count m (counted 0 size)) (omega arith) (λ z. omega arith)
    by_size (inr ne) = with' (nils (suc m)) least (room - (suc (suc k) + least)) (nils_size (suc m)) (nils_digits (suc m)) (nils_count (suc m) (counted 0 size)) (omega (arith, enough)) (λ z. ne (omega (arith, enough)))

pub alive_least : (r : Reading) (bmp k m : ℕ) (size : List ℕ) (room : ℕ) → count_digits (shape_of bmp) ≡ suc k → length size + suc m ≡ suc k → AliveIn r room (bmp ∷ size) →
    suc (suc k) + least_count (suc m) (counted 0 size) ≤ room
alive_least r bmp k m size room is sized h =
    let c = alive_counted r bmp k size room is (omega arith) h in
    let long : length c.more ≡ suc m = omega (arith, c.is_count.0, length-append size c.more) in
    let low = least_counted (counted 0 size) c.more in
    let number : counted (counted 0 size) c.more ≡ c.n = sym (counted_joined 0 size c.more) ∙ c.is_count.2 in
    let low' : least_count (suc m) (counted 0 size) ≤ counted (counted 0 size) c.more = subst (λ (l : ℕ). least_count l (counted 0 size) ≤ counted (counted 0 size) c.more) long low in
    omega (arith, c.enough, low', number)

-- a digit of a length
pub length_digit : (x : ℕ) → is_length_digit x ≡ true → (0xF0 ≤ x) × (x ≤ 0xF9)
length_digit x e = let both = and_parts _ _ e in (leb-true 0xF0 x both.0, leb-true x 0xF9 both.1)

no_length_digit : (x : ℕ) → is_length_digit x ≡ false → (0xF0 ≤ x) → (x ≤ 0xF9) → ⊥
no_length_digit x e p q = elim (and_cases _ _ e) [ inl h ↦ (let less = leb-false 0xF0 x h in omega arith) | inr h ↦ (let less = leb-false x 0xF9 h in omega arith) ]

-- two tests, one after the other
says_both : (b c : Bool) (v w : Why) (P : Type 0) → (b ≡ false → P → ⊥) → (b ≡ true → Says (check c w None) P) → Says (check b v (check c w None)) P
says_both true c v w P fails more = more refl
says_both false c v w P fails more = (λ e. absurd (cc (e)), λ w e p. fails refl p)

pub counts_small : (o : Option Shape) → count_digits o ≤ 3
counts_small None = omega arith
counts_small (Some (Fixed n)) = omega arith
counts_small (Some (Digits n)) = omega arith
counts_small (Some Ll) = omega arith
counts_small (Some Lll) = omega arith
counts_small (Some Tree) = omega arith

pub fit_digit : (r : Reading) (bmp more before : ℕ) (size : List ℕ) (room left x : ℕ) → length size + suc more ≡ count_digits (shape_of bmp) → AreLengthDigits size → counted 0 size ≡ before →
    suc (length size) + suc left ≡ room → Says (fault r (digit more before) left x) (AliveIn r room (bmp ∷ (size ++ x ∷ [])))
fit_digit r bmp more before size room left x is digits number filled =
    says_both (is_length_digit x) (count_fits more (10 * before + (x - 0xF0)) left) LengthDigit DoesNotFit _
    (λ e h. let c = alive_counted r bmp (length size + more) (size ++ x ∷ []) room (sym is ∙ omega arith) (omega (arith, length-append size (x ∷ []))) h in
    let d = digits_after size (x ∷ []) (digits_prefix (size ++ x ∷ []) c.more c.is_count.1) in no_length_digit x e d.0 d.1)
    (λ e. by_more more is (length_digit x e))
  where
    count : counted 0 (size ++ x ∷ []) ≡ 10 * before + (x - 0xF0)
    count = counted_joined 0 size (x ∷ []) ∙ ap (λ (v : ℕ). 10 * v + (x - 0xF0)) number

    long : length (size ++ x ∷ []) ≡ suc (length size)
    long = omega (arith, length-append size (x ∷ []))

    some : (m : ℕ) → length size + suc (suc m) ≡ count_digits (shape_of bmp) → (0xF0 ≤ x) × (x ≤ 0xF9) → (power : ℕ) → least_count (suc m) (10 * before + (x - 0xF0)) ≡ power →
        Says (check (nat_le (suc m + power) left) DoesNotFit None) (AliveIn r room (bmp ∷ (size ++ x ∷ [])))
    some m is d power e =
        let k = suc (length size + m) in
        let is' : count_digits (shape_of bmp) ≡ suc k = sym is ∙ omega arith in
        let e' : least_count (suc m) (counted 0 (size ++ x ∷ [])) ≡ power = ap (least_count (suc m)) count ∙ e in
        says_check (nat_le (suc m + power) left) DoesNotFit _
        (λ t. let le = leb-true (suc m + power) left t in
        counted_alive r bmp k m (size ++ x ∷ []) room is' (omega (arith, long)) (digits_joined size (x ∷ []) digits (d.0, d.1, tt)) (omega (arith, e', filled)))
        (λ t h. let less = leb-false (suc m + power) left t in
        let low = alive_least r bmp k m (size ++ x ∷ []) room is' (omega (arith, long)) h in omega (arith, low, e', filled))

    by_more : (more : ℕ) → length size + suc more ≡ count_digits (shape_of bmp) → (0xF0 ≤ x) × (x ≤ 0xF9) →
        Says (check (count_fits more (10 * before + (x - 0xF0)) left) DoesNotFit None) (AliveIn r room (bmp ∷ (size ++ x ∷ [])))
    by_more zero is d =
        fit_size r bmp (10 * before + (x - 0xF0)) false (size ++ x ∷ []) room left
        (count_head (shape_of bmp) (length size) (10 * before + (x - 0xF0)) (size ++ x ∷ []) (sym is ∙ omega arith) (long, digits_joined size (x ∷ []) digits (d.0, d.1, tt), count))
        (omega (arith, long, filled))
    by_more (suc zero) is d = some 0 is d (10 * (10 * before + (x - 0xF0))) refl
    by_more (suc (suc zero)) is d = some 1 is d (100 * (10 * before + (x - 0xF0))) (omega arith)
    by_more (suc (suc (suc more))) is d = absurd (omega (arith, is, counts_small (shape_of bmp)))

-- the first byte of a field
unlisted : (r : Reading) (x room : ℕ) → shape_of x ≡ None → AliveIn r room (x ∷ []) → ⊥
unlisted r x room is h = by_list h.value h.spelled.0
  where
    by_list : (fs : List Field) → FieldList r fs ((x ∷ []) ++ h.rest) → ⊥
    by_list [] p = absurd (omega (arith, ap length p))
    by_list (tree bmp' objects ∷ fs) (one, after, whole, p, more) =
        let e : x ∷ h.rest ≡ bmp' ∷ (p.one ++ after) = whole ∙ ap (λ (s : List ℕ). s ++ after) p.whole in
        let names : x ≡ bmp' = cc (e) in
        cc (is, ap shape_of names, p.is_tree)
    by_list (plain bmp' content ∷ fs) (one, after, whole, p, more) =
        let e : x ∷ h.rest ≡ bmp' ∷ ((p.size ++ content) ++ after) = whole ∙ ap (λ (s : List ℕ). s ++ after) p.whole in
        let names : x ≡ bmp' = cc (e) in
        subst (λ (o : Option Shape). IsHead o p.digits (length content) p.size) (ap shape_of (sym names) ∙ is) p.is_head

-- a container that has not begun
fit_tree : (r : Reading) (x left : ℕ) → shape_of x ≡ Some Tree → suc left ≢ 1 → Says (check (avoids r true left 2) DoesNotFit None) (AliveIn r (suc left) (x ∷ []))
fit_tree r x left is ne =
    let start : judging.AliveIn r 0 (suc left) [] = record { value = forest.filler (suc left); rest = forest.filling (suc left); spelled = (forest.filled r 0 (suc left), forest.filling_size (suc left) ne) } in
    let begun = alive.fit r [] 0 (suc left) [] 0 first_tag left 0x25 (tlv.none, [], [], refl, refl, refl, omega arith, refl) (omega arith) start in
    says_of (check (avoids r true left 2) DoesNotFit None) (judging.AliveIn r 0 (suc left) (0x25 ∷ [])) (AliveIn r (suc left) (x ∷ []))
    (λ h. container_alive r x left [] is (object_sized r left [] (λ f one y z p e. omega arith) h))
    (λ h. sized_object r left [] (alive_container r x left [] is (λ f one y z p e. omega arith) h))
    begun

pub fit_name : (r : Reading) (left x : ℕ) → AliveIn r (suc left) [] → Says (fault r name left x) (AliveIn r (suc left) (x ∷ []))
fit_name r left x a = by_shape (shape_of x) refl
  where
    by_shape : (o : Option Shape) → shape_of x ≡ o → Says (name_fault r o left) (AliveIn r (suc left) (x ∷ []))
    by_shape None is = (λ e. absurd (cc (e)), λ w e h. unlisted r x (suc left) is h)
    by_shape (Some (Fixed n)) is = fit_size r x n false [] (suc left) left (subst (λ (o : Option Shape). IsHead o false n []) (sym is) (refl, refl, refl)) (omega arith)
    by_shape (Some (Digits n)) is = fit_size r x n true [] (suc left) left (subst (λ (o : Option Shape). IsHead o true n []) (sym is) (refl, refl, refl)) (omega arith)
    by_shape (Some Ll) is = says_check (nat_le 2 left) DoesNotFit _
        (λ e. let le = leb-true 2 left e in counted_alive r x 1 1 [] (suc left) (ap count_digits is) refl tt (omega arith))
        (λ e h. let less = leb-false 2 left e in let low = alive_least r x 1 1 [] (suc left) (ap count_digits is) refl h in omega arith)
    by_shape (Some Lll) is = says_check (nat_le 3 left) DoesNotFit _
        (λ e. let le = leb-true 3 left e in counted_alive r x 2 2 [] (suc left) (ap count_digits is) refl tt (omega arith))
        (λ e h. let less = leb-false 3 left e in let low = alive_least r x 2 2 [] (suc left) (ap count_digits is) refl h in omega arith)
    by_shape (Some Tree) is = fit_tree r x left is (λ e. not_single r a.value a.rest a.spelled.0 (a.spelled.1 ∙ e))

-- in one level: a byte's tests pass exactly where it leaves the bytes alive
fit_here : (r : Reading) (role : Role) (b : List ℕ) (left x : ℕ) → Begins role b → x < 256 → AliveIn r (length b + suc left) b →
    Says (fault r role left x) (AliveIn r (length b + suc left) (b ++ x ∷ []))
fit_here r name b left x e lt a =
    let size : length b + suc left ≡ suc left = omega (arith, ap length e) in
    let one : x ∷ [] ≡ b ++ x ∷ [] = ap (λ (s : List ℕ). s ++ x ∷ []) (sym e) in
    subst (λ (m : ℕ). Says (fault r name left x) (AliveIn r m (b ++ x ∷ []))) (sym size)
    (subst (λ (s : List ℕ). Says (fault r name left x) (AliveIn r (suc left) s)) one
    (fit_name r left x (subst (AliveIn r (suc left)) e (subst (λ (m : ℕ). AliveIn r m b) size a))))
fit_here r (digit more before) b left x (bmp, size, e, is, digits, number) lt a =
    let whole : bmp ∷ (size ++ x ∷ []) ≡ b ++ x ∷ [] = ap (λ (s : List ℕ). s ++ x ∷ []) (sym e) in
    subst (λ (s : List ℕ). Says (fault r (digit more before) left x) (AliveIn r (length b + suc left) s)) whole
    (fit_digit r bmp more before size (length b + suc left) left x is digits number (omega (arith, ap length e)))
fit_here r (in_content digits) b left x (bmp, size, part, n, e, head, short) lt a =
    let whole : bmp ∷ (size ++ (part ++ x ∷ [])) ≡ b ++ x ∷ [] = ap (λ (s : List ℕ). bmp ∷ s) (sym (append_assoc size part (x ∷ []))) ∙ ap (λ (s : List ℕ). s ++ x ∷ []) (sym e) in
    subst (λ (s : List ℕ). Says (fault r (in_content digits) left x) (AliveIn r (length b + suc left) s)) whole
    (fit_content r bmp n digits size part (length b + suc left) left x head short lt (subst (AliveIn r (length b + suc left)) e a))
fit_here r (in_container at role) b left x h lt a = absurd h

-- after complete fields
fit_after : (r : Reading) (room inner : ℕ) (fs : List Field) (done c b : List ℕ) (x : ℕ) (o : Option Why) → FieldList r fs done → b ≡ done ++ c → length done + inner ≡ room →
    Says o (AliveIn r inner (c ++ x ∷ [])) → Says o (AliveIn r room (b ++ x ∷ []))
fit_after r room inner fs done c b x o p e total says =
    let whole : done ++ (c ++ x ∷ []) ≡ b ++ x ∷ [] = sym (append_assoc done c (x ∷ [])) ∙ ap (λ (s : List ℕ). s ++ x ∷ []) (sym e) in
    says_of o (AliveIn r inner (c ++ x ∷ [])) (AliveIn r room (b ++ x ∷ []))
    (λ h. subst (λ (m : ℕ). AliveIn r m (b ++ x ∷ [])) total (subst (AliveIn r (length done + inner)) whole (alive_joined r inner fs done (c ++ x ∷ []) p h)))
    (λ h. alive_apart r inner fs done (c ++ x ∷ []) p (subst (λ (m : ℕ). AliveIn r m (done ++ (c ++ x ∷ []))) (sym total) (subst (AliveIn r room) (sym whole) h)))
    says

alive_after : (r : Reading) (room inner : ℕ) (fs : List Field) (done c b : List ℕ) → FieldList r fs done → b ≡ done ++ c → length done + inner ≡ room → AliveIn r room b → AliveIn r inner c
alive_after r room inner fs done c b p e total a =
    alive_apart r inner fs done c p (subst (λ (m : ℕ). AliveIn r m (done ++ c)) (sym total) (subst (AliveIn r room) e a))

fit_plain : (r : Reading) (room : ℕ) (b : List ℕ) (role : Role) (left x : ℕ) → Here r room b role left → x < 256 → AliveIn r room b → Says (fault r role left x) (AliveIn r room (b ++ x ∷ []))
fit_plain r room b role left x h lt a =
    let total : length h.done + (length h.beginning + suc left) ≡ room = omega (arith, ap length h.whole, length-append h.done h.beginning, h.filled) in
    fit_after r room (length h.beginning + suc left) h.fields h.done h.beginning b x (fault r role left x) h.spelled h.whole total
    (fit_here r role h.beginning left x h.begins lt (alive_after r room (length h.beginning + suc left) h.fields h.done h.beginning b h.spelled h.whole total a))

-- at any position: a byte's tests pass exactly where it leaves the bytes alive
pub fit : (r : Reading) (os : List judging.Opener) (room : ℕ) (b : List ℕ) (role : Role) (left x : ℕ) → Position r room os b role left → x < 256 → AliveIn r room b →
    Says (fault r role left x) (AliveIn r room (b ++ x ∷ []))
fit r os room b name left x p lt a = fit_plain r room b name left x p.1 lt a
fit r os room b (digit more before) left x p lt a = fit_plain r room b (digit more before) left x p.1 lt a
fit r os room b (in_content digits) left x p lt a = fit_plain r room b (in_content digits) left x p.1 lt a
fit r os room b (in_container at role) left x p lt a =
    fit_after r room (suc p.level) p.fields p.done (p.bmp ∷ p.inside) b x (fault r (in_container at role) left x) p.spelled p.whole p.filled
    (fit_container r p.bmp p.level os p.inside at role left x p.is_tree p.stands lt
    (alive_after r room (suc p.level) p.fields p.done (p.bmp ∷ p.inside) b p.spelled p.whole p.filled a))
