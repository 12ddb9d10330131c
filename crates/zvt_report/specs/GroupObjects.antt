-- The totals by card of an end of day as JSON.
use Rattle.std.specs.Prelude.{◌≡◌, ℕ, cond, List, [], ◌∷◌, ◌++◌, codes, refl}
use Rattle.std.specs.Fmt.{decimal, digits}
use Rattle.json.specs.Print.{escape_byte}
use Rattle.serde_json.specs.Data.{Data, string, array, object, Items, no_items, item, no_members, member}
use Rattle.serde_json.specs.Written.{compact_text}
use Rattle.zvt_json.specs.Strings.{count_value}
use Rattle.zvt_report.specs.CardTotals.{brand_name, is_used}
use Rattle.zvt_report.specs.declared.card_totals.CardBrand.{CardBrand}
use Rattle.zvt_report.specs.declared.card_totals.CardBrand.TheVariants.{Girocard, Jcb, Visa}
use Rattle.zvt_report.specs.declared.card_totals.CardGroup.{CardGroup}

abbrev pub group_value : CardGroup → Data
group_value group =
    object (member (codes "card") (string (brand_name group.brand)) (member (codes "count") (count_value group.count) (member (codes "sum") (count_value group.sum) no_members)))

-- the groups that have a payment or a sum
abbrev pub group_items : List CardGroup → Items
group_items [] = no_items
group_items (group ∷ groups) = cond (is_used group) (item (group_value group) (group_items groups)) (group_items groups)

abbrev pub groups_value : List CardGroup → Data
groups_value groups = array (group_items groups)

-- ---- the same text, as it is written

unfoldable pub named_words : CardBrand → List ℕ
named_words brand = codes "{\"card\":\"" ++ brand_name brand ++ codes "\",\"count\":"

abbrev pub group_words : CardGroup → List ℕ
group_words group = named_words group.brand ++ decimal group.count ++ codes ",\"sum\":" ++ decimal group.sum ++ codes "}"

-- ---- rows worked by hand

two_groups : compact_text (groups_value (record { brand = Girocard; count = 4; sum = 3424 } ∷ record { brand = Jcb; count = 0; sum = 0 } ∷ record { brand = Visa; count = 0; sum = 1 } ∷ []))
    ≡ codes "[{\"card\":\"girocard\",\"count\":4,\"sum\":3424},{\"card\":\"VISA\",\"count\":0,\"sum\":1}]"
unfolding digits escape_byte
two_groups = refl

no_group : compact_text (groups_value (record { brand = Jcb; count = 0; sum = 0 } ∷ [])) ≡ codes "[]"
no_group = refl
