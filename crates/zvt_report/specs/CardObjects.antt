-- The members of the card of a payment.
use Rattle.std.specs.Prelude.{◌≡◌, ℕ, List, [], ◌∷◌, codes, Option, Some, None, option_map, refl}
use Rattle.std.specs.Option.{option_and_then}
use Rattle.zvt_report.specs.Cards.{card_number}
use Rattle.zvt_report.specs.declared.cards.Card.{Card}
use Rattle.zvt_report.specs.declared.members.Member.{Member}
use Rattle.zvt_report.specs.declared.members.Name.TheVariants as name
use Rattle.zvt_report.specs.declared.members.Value.{Value}
use Rattle.zvt_report.specs.declared.members.Value.TheVariants as value
use Rattle.zvt_report.specs.declared.members.Word.TheVariants as word

-- the name of a card, or else that of its type
abbrev pub card_value : (card_type : Option ℕ) → (name : Option (List ℕ)) → Option Value
card_value None None = None
card_value (Some card_type) None = Some (value.Word (word.CardType card_type))
card_value card_type (Some name) = Some (value.CardName name)

abbrev pub maybe_card : Option Card → Option Member
maybe_card card =
    option_map (λ (v : Value). record { name = name.Card; value = v }) (option_and_then (λ (c : Card). card_value c.card_type c.name) card)

abbrev pub maybe_card_number : Option Card → Option Member
maybe_card_number card =
    option_map (λ (number : List ℕ). record { name = name.CardNumber; value = value.CardNumber number }) (card_number card)

-- ---- rows worked by hand

by_its_name : maybe_card (Some (record { card_type = Some 5; name = Some (codes "VISA"); number = None })) ≡ Some (record { name = name.Card; value = value.CardName (codes "VISA") })
by_its_name = refl

by_its_type : maybe_card (Some (record { card_type = Some 5; name = None; number = None })) ≡ Some (record { name = name.Card; value = value.Word (word.CardType 5) })
by_its_type = refl
