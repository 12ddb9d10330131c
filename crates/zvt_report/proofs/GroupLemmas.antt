-- The groups of the totals by card: what is written of them, and their sum.
use Rattle.std.proofs.Common.{◌≡◌, ℕ, ◌+◌, Bool, true, false, cond, List, [], ◌∷◌, ◌++◌, codes, refl, sym, ◌∙◌, ap, arith, append_assoc}
use Rattle.std.specs.Fmt.{decimal}
use Rattle.std.proofs.lemmas.List.Sums.{sum_by-cons}
use Rattle.json.specs.Print.{escape, escape_byte}
use Rattle.serde_json.specs.Written.{compact_text}
use Rattle.zvt_report.specs.CardTotals.{ListedGroupsAddUp, brand_name, groups_sum, is_used, used_groups}
use Rattle.zvt_report.specs.GroupObjects.{group_value, group_words, named_words}
use Rattle.zvt_report.specs.declared.card_totals.CardBrand.{CardBrand}
use Rattle.zvt_report.specs.declared.card_totals.CardBrand.TheVariants.{Girocard, Jcb, Mastercard, AmericanExpress, Visa, Diners, Others}
use Rattle.zvt_report.specs.declared.card_totals.CardGroup.{CardGroup}

-- ---- the text

brand_plain : (brand : CardBrand) → escape (brand_name brand) ≡ brand_name brand
unfolding escape_byte
brand_plain Girocard = refl
brand_plain Jcb = refl
brand_plain Mastercard = refl
brand_plain AmericanExpress = refl
brand_plain Visa = refl
brand_plain Diners = refl
brand_plain Others = refl

parts : (n c s : List ℕ)
    → (codes "{\"card\":\"" ++ n ++ codes "\",\"count\":") ++ c ++ codes ",\"sum\":" ++ s ++ codes "}"
    ≡ codes "{\"card\":" ++ ((34 ∷ (n ++ 34 ∷ [])) ++ (codes ",\"count\":" ++ (c ++ (codes ",\"sum\":" ++ (s ++ codes "}")))))
parts n c s = simp append_assoc

pub group_said : (group : CardGroup) → group_words group ≡ compact_text (group_value group)
unfolding escape_byte named_words
group_said group =
    parts (brand_name group.brand) (decimal group.count) (decimal group.sum)
    ∙ ap (λ (l : List ℕ). codes "{\"card\":" ++ ((34 ∷ (l ++ 34 ∷ [])) ++ (codes ",\"count\":" ++ (decimal group.count ++ (codes ",\"sum\":" ++ (decimal group.sum ++ codes "}")))))) (sym (brand_plain group.brand))

-- ---- the sum

-- a group that is not listed has no sum
unlisted : (count sum : ℕ) (used : Bool) → is_used (record { brand = Girocard; count = count; sum = sum }) ≡ used → used ≡ false → sum ≡ 0
unlisted count sum used same none = grind arith

add_up : (used : Bool) (group : CardGroup) (groups : List CardGroup) → is_used group ≡ used → groups_sum (used_groups groups) ≡ groups_sum groups
    → groups_sum (cond used (group ∷ used_groups groups) (used_groups groups)) ≡ groups_sum (group ∷ groups)
add_up true group groups same later =
    sum_by-cons (λ (g : CardGroup). g.sum) group (used_groups groups) ∙ ap (λ (n : ℕ). group.sum + n) later ∙ sym (sum_by-cons (λ (g : CardGroup). g.sum) group groups)
add_up false group groups same later =
    let none : group.sum ≡ 0 = unlisted group.count group.sum false same refl in
    let added : groups_sum groups ≡ group.sum + groups_sum groups = omega (arith, none) in
    later ∙ added ∙ sym (sum_by-cons (λ (g : CardGroup). g.sum) group groups)

pub listed_groups_add_up : ListedGroupsAddUp
listed_groups_add_up [] = refl
listed_groups_add_up (group ∷ groups) = add_up (is_used group) group groups refl (listed_groups_add_up groups)
