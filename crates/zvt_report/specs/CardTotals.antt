-- The totals by card of an end of day.
use Rattle.std.specs.Prelude.{◌≡◌, ℕ, ◌+◌, ◌==◌, ◌&&◌, not, Bool, cond, nat_le, List, [], ◌∷◌, ◌++◌, Option, Some, None, codes, length, sum_by, take, drop, slice_index, replicate, refl}
use Rattle.std.specs.List.{filter, list_all}
use Rattle.std.specs.Option.{option_and_then, option_map}
use Rattle.zvt_bcd.specs.Digits.{is_digit_pair, number_of}
use Rattle.zvt_report.specs.declared.card_totals.CardBrand.{CardBrand}
use Rattle.zvt_report.specs.declared.card_totals.CardBrand.TheVariants.{Girocard, Jcb, Mastercard, AmericanExpress, Visa, Diners, Others}
use Rattle.zvt_report.specs.declared.card_totals.CardGroup.{CardGroup}
use Rattle.zvt_report.specs.declared.card_totals.CardTotals.{CardTotals}

-- the number in at most six bytes of digits
abbrev pub total_of : List ℕ → Option ℕ
total_of bytes = cond (nat_le (length bytes) 6) (cond (list_all is_digit_pair bytes) (Some (number_of bytes)) None) None

-- the content of BMP 04
abbrev pub total_in : Option (List ℕ) → Option ℕ
total_in content = option_and_then total_of content

abbrev pub brand_name : CardBrand → List ℕ
brand_name Girocard = codes "girocard"
brand_name Jcb = codes "JCB"
brand_name Mastercard = codes "Mastercard"
brand_name AmericanExpress = codes "American Express"
brand_name Visa = codes "VISA"
brand_name Diners = codes "Diners"
brand_name Others = codes "others"

-- a count of one byte at the index of a brand, and a sum of six bytes of digits after it
abbrev pub group_at : List ℕ → CardBrand × ℕ → Option CardGroup
group_at bytes place = option_map (λ (sum : ℕ). record { brand = place.0; count = slice_index bytes place.1; sum = sum }) (total_of (take 6 (drop (place.1 + 1) bytes)))

-- the groups at these places, if all can be read
abbrev pub groups_at : List ℕ → (places : List (CardBrand × ℕ)) → Option (List CardGroup)
groups_at bytes [] = Some []
groups_at bytes (place ∷ places) = option_and_then (λ (group : CardGroup). option_map (λ (groups : List CardGroup). group ∷ groups) (groups_at bytes places)) (group_at bytes place)

-- the index of each brand
abbrev pub places : List (CardBrand × ℕ)
places = (Girocard, 4) ∷ (Jcb, 11) ∷ (Mastercard, 18) ∷ (AmericanExpress, 25) ∷ (Visa, 32) ∷ (Diners, 39) ∷ (Others, 46) ∷ []

abbrev pub groups_in : List ℕ → Option (List CardGroup)
groups_in bytes = groups_at bytes places

-- the first receipt number, the last one, and the groups
abbrev pub totals_by : List ℕ → Option CardTotals
totals_by bytes =
    option_map (λ (groups : List CardGroup).
    record { first = slice_index bytes 0 ∷ slice_index bytes 1 ∷ []; last = slice_index bytes 2 ∷ slice_index bytes 3 ∷ []; groups = groups })
    (groups_in bytes)

-- the content of BMP 60, if it has 53 bytes
abbrev pub totals_in : Option (List ℕ) → Option CardTotals
totals_in None = None
totals_in (Some bytes) = cond (length bytes == 53) (totals_by bytes) None

-- ---- the groups that a report lists

-- a group has a payment or a sum
abbrev pub is_used : CardGroup → Bool
is_used group = not (group.count == 0 && group.sum == 0)

abbrev pub used_groups : List CardGroup → List CardGroup
used_groups groups = filter is_used groups

abbrev pub groups_sum : List CardGroup → ℕ
groups_sum groups = sum_by (λ (group : CardGroup). group.sum) groups

-- the groups that a report lists have the sum of all
abbrev pub ListedGroupsAddUp : Type 0
ListedGroupsAddUp = (groups : List CardGroup) → groups_sum (used_groups groups) ≡ groups_sum groups

-- ---- rows worked by hand

abbrev of_card : (count cents : ℕ) → List ℕ
of_card count cents = count ∷ 0 ∷ 0 ∷ 0 ∷ 0 ∷ 0 ∷ cents ∷ []

abbrev group : CardBrand → (count sum : ℕ) → CardGroup
group brand count sum = record { brand = brand; count = count; sum = sum }

abbrev some_groups : List CardGroup
some_groups = group Girocard 4 24 ∷ group Jcb 0 0 ∷ group Mastercard 2 90 ∷ group AmericanExpress 0 0 ∷ group Visa 3 98 ∷ group Diners 0 0 ∷ group Others 0 0 ∷ []

abbrev a_content : List ℕ
a_content = 0x00 ∷ 0x05 ∷ 0x00 ∷ 0x15 ∷ of_card 4 0x24 ++ of_card 0 0 ++ of_card 2 0x90 ++ of_card 0 0 ++ of_card 3 0x98 ++ of_card 0 0 ++ of_card 0 0

read : totals_in (Some a_content)
    ≡ Some (record { first = 0x00 ∷ 0x05 ∷ []; last = 0x00 ∷ 0x15 ∷ []; groups = some_groups })
read = refl

too_short : totals_in (Some (replicate 52 0)) ≡ None
too_short = refl

no_digits : totals_in (Some (0 ∷ 0 ∷ 0 ∷ 0 ∷ of_card 1 0x0A ++ replicate 42 0)) ≡ None
no_digits = refl

-- a group without payments is listed if it has a sum
listed : used_groups (group Jcb 0 7 ∷ some_groups) ≡ group Jcb 0 7 ∷ group Girocard 4 24 ∷ group Mastercard 2 90 ∷ group Visa 3 98 ∷ []
listed = refl
