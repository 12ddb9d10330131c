-- What explains a difference, item by item.
use Rattle.std.proofs.Common.{◌≡◌, ℕ, zero, suc, ◌+◌, ◌-◌, ◌==◌, Bool, true, false, cond, List, [], ◌∷◌, ◌++◌, length, take, drop, get_or, filter, map, sum_by, ◌≤◌, refl, sym, ◌∙◌, ap, ap₂, arith}
use Rattle.std.proofs.lemmas.List.Sums.{sum_by-cons}
use Rattle.zvt_report.specs.Explaining.{added_by, adds_up, at_once, explained_with, joined, only_set, or_several, places_of, sets, taken_by, with_order}
use Rattle.zvt_report.specs.declared.explaining.Explained.{Explained}
use Rattle.zvt_report.specs.declared.explaining.Explained.TheVariants.{Nothing, Empty, One, Two, Three, Several}
use Rattle.zvt_report.specs.declared.explaining.OpenItem.{OpenItem}

-- ---- one set or several

joined_nothing : (a : Explained) → joined a Nothing ≡ a
joined_nothing Nothing = refl
joined_nothing Empty = refl
joined_nothing (One a) = refl
joined_nothing (Two a b) = refl
joined_nothing (Three a b c) = refl
joined_nothing Several = refl

several_joined : (b : Explained) → joined Several b ≡ Several
several_joined Nothing = refl
several_joined Empty = refl
several_joined (One a) = refl
several_joined (Two a b) = refl
several_joined (Three a b c) = refl
several_joined Several = refl

set_first : (s : List OpenItem) (b : Explained) → joined (places_of s) b ≡ or_several (places_of s) b
set_first [] b = refl
set_first (i ∷ []) b = refl
set_first (i ∷ j ∷ []) b = refl
set_first (i ∷ j ∷ k ∷ []) b = refl
set_first (i ∷ j ∷ k ∷ l ∷ s) b = refl

set_second : (a : Explained) (s : List OpenItem) → or_several a (places_of s) ≡ Several
set_second a [] = refl
set_second a (i ∷ []) = refl
set_second a (i ∷ j ∷ []) = refl
set_second a (i ∷ j ∷ k ∷ []) = refl
set_second a (i ∷ j ∷ k ∷ l ∷ s) = refl

only_append : (xs ys : List (List OpenItem)) → only_set (xs ++ ys) ≡ joined (only_set xs) (only_set ys)
only_append [] ys = refl
only_append (s ∷ []) [] = sym (joined_nothing (places_of s))
only_append (s ∷ []) (t ∷ []) = sym (set_first s (places_of t) ∙ set_second (places_of s) t)
only_append (s ∷ []) (t ∷ u ∷ ys) = sym (set_first s Several)
only_append (s ∷ t ∷ xs) ys = sym (several_joined (only_set ys))

one_more : (i : OpenItem) (s : List OpenItem) → places_of (i ∷ s) ≡ with_order i.order (places_of s)
one_more i [] = refl
one_more i (j ∷ []) = refl
one_more i (j ∷ k ∷ []) = refl
one_more i (j ∷ k ∷ l ∷ []) = refl
one_more i (j ∷ k ∷ l ∷ m ∷ s) = refl

only_map : (i : OpenItem) (xs : List (List OpenItem)) → only_set (map (λ (set : List OpenItem). i ∷ set) xs) ≡ with_order i.order (only_set xs)
only_map i [] = refl
only_map i (s ∷ []) = one_more i s
only_map i (s ∷ t ∷ xs) = refl

-- ---- sums

kept_if : (b : Bool) (s : List OpenItem) (xs ys all : List (List OpenItem)) → all ≡ xs ++ ys → cond b (s ∷ all) all ≡ cond b (s ∷ xs) xs ++ ys
kept_if true s xs ys all same = ap (λ (l : List (List OpenItem)). s ∷ l) same
kept_if false s xs ys all same = same

append_kept : (p : List OpenItem → Bool) (xs ys : List (List OpenItem)) → filter p (xs ++ ys) ≡ filter p xs ++ filter p ys
append_kept p [] ys = refl
append_kept p (s ∷ xs) ys = kept_if (p s) s (filter p xs) (filter p ys) (filter p (xs ++ ys)) (append_kept p xs ys)

mapped_if : (b : Bool) (i : OpenItem) (s : List OpenItem) (xs all : List (List OpenItem)) → all ≡ map (λ (set : List OpenItem). i ∷ set) xs
    → cond b ((i ∷ s) ∷ all) all ≡ map (λ (set : List OpenItem). i ∷ set) (cond b (s ∷ xs) xs)
mapped_if true i s xs all same = ap (λ (l : List (List OpenItem)). (i ∷ s) ∷ l) same
mapped_if false i s xs all same = same

map_kept : (i : OpenItem) (p q : List OpenItem → Bool) → ((s : List OpenItem) → p (i ∷ s) ≡ q s) → (xs : List (List OpenItem))
    → filter p (map (λ (set : List OpenItem). i ∷ set) xs) ≡ map (λ (set : List OpenItem). i ∷ set) (filter q xs)
map_kept i p q same [] = refl
map_kept i p q same (s ∷ xs) =
    let all = filter p (map (λ (set : List OpenItem). i ∷ set) xs) in
    ap (λ (b : Bool). cond b ((i ∷ s) ∷ all) all) (same s) ∙ mapped_if (q s) i s (filter q xs) all (map_kept i p q same xs)

add_first : (a b c : ℕ) → a + (b + c) ≡ (a + b) + c
add_first a b c = omega arith

sums_more : (booked covered : ℕ) (i : OpenItem) (s : List OpenItem) → adds_up booked covered (i ∷ s) ≡ adds_up (booked + added_by i) (covered + taken_by i) s
sums_more booked covered i s =
    ap₂ (λ (a b : ℕ). (booked + a) == (covered + b)) (sum_by-cons added_by i s) (sum_by-cons taken_by i s)
    ∙ ap₂ (λ (a b : ℕ). a == b) (add_first booked (added_by i) (sum_by added_by s)) (add_first covered (taken_by i) (sum_by taken_by s))

no_items : (booked covered : ℕ) → only_set (filter (adds_up booked covered) ([] ∷ [])) ≡ at_once booked covered
no_items booked covered = ap₂ (λ (a b : ℕ). only_set (cond (a == b) ([] ∷ []) [])) (omega arith) (omega arith) ∙ by (booked == covered)
  where
    by : (b : Bool) → only_set (cond b ([] ∷ []) []) ≡ cond b Empty Nothing
    by true = refl
    by false = refl

-- no item may be used
pub none_used : (booked covered : ℕ) (items : List OpenItem) → explained_with 0 booked covered items ≡ at_once booked covered
none_used booked covered items = no_items booked covered

-- there is no item
pub none_left : (most booked covered : ℕ) → explained_with most booked covered [] ≡ at_once booked covered
none_left zero booked covered = no_items booked covered
none_left (suc most) booked covered = no_items booked covered

step_suc : (most booked covered : ℕ) (i : OpenItem) (items : List OpenItem)
    → explained_with (suc most) booked covered (i ∷ items)
    ≡ joined (with_order i.order (explained_with most (booked + added_by i) (covered + taken_by i) items)) (explained_with (suc most) booked covered items)
step_suc most booked covered i items =
    let p = adds_up booked covered in
    let q = adds_up (booked + added_by i) (covered + taken_by i) in
    ap only_set (append_kept p (map (λ (set : List OpenItem). i ∷ set) (sets most items)) (sets (suc most) items))
    ∙ only_append (filter p (map (λ (set : List OpenItem). i ∷ set) (sets most items))) (filter p (sets (suc most) items))
    ∙ ap (λ (e : Explained). joined e (explained_with (suc most) booked covered items))
    (ap only_set (map_kept i p q (sums_more booked covered i) (sets most items)) ∙ only_map i (filter q (sets most items)))

-- with the first item, or without it
pub one_item : (most booked covered : ℕ) (i : OpenItem) (items : List OpenItem) → (most ≡ 0 → ⊥)
    → explained_with most booked covered (i ∷ items)
    ≡ joined (with_order i.order (explained_with (most - 1) (booked + added_by i) (covered + taken_by i) items)) (explained_with most booked covered items)
one_item zero booked covered i items some = absurd (some refl)
one_item (suc most) booked covered i items some =
    let same : suc most - 1 ≡ most = omega arith in
    step_suc most booked covered i items
    ∙ ap (λ (n : ℕ). joined (with_order i.order (explained_with n (booked + added_by i) (covered + taken_by i) items)) (explained_with (suc most) booked covered items)) (sym same)

whole : (items : List OpenItem) → take (length items) items ≡ items
whole [] = refl
whole (i ∷ items) = ap (λ (l : List OpenItem). i ∷ l) (whole items)

-- with the first of some items, or without it
pub any_item : (most booked covered : ℕ) (items : List OpenItem) (other : OpenItem) → 1 ≤ length items → (most ≡ 0 → ⊥)
    → explained_with most booked covered items
    ≡ joined
    (with_order (get_or items 0 other).order
    (explained_with (most - 1) (booked + added_by (get_or items 0 other)) (covered + taken_by (get_or items 0 other)) (take (length items - 1) (drop 1 items))))
    (explained_with most booked covered (take (length items - 1) (drop 1 items)))
any_item most booked covered [] other few some = absurd (omega (arith, few))
any_item most booked covered (i ∷ items) other few some =
    let size : length (i ∷ items) - 1 ≡ length items = omega arith in
    let left : take (length (i ∷ items) - 1) items ≡ items = ap (λ (n : ℕ). take n items) size ∙ whole items in
    one_item most booked covered i items some
    ∙ ap (λ (l : List OpenItem). joined (with_order i.order (explained_with (most - 1) (booked + added_by i) (covered + taken_by i) l)) (explained_with most booked covered l)) (sym left)
