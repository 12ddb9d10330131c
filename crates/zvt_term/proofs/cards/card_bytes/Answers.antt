use Rattle.std.proofs.Common.{subst, sym}
use Rattle.zvt_grammar.specs.Reading.{shortest}
use Rattle.zvt_field.specs.Grammar.{FieldList}
use Rattle.zvt_term.specs.declared.cards.Card.{Card}
use Rattle.zvt_term.specs.Dressing.{card_fields}
use Rattle.zvt_term.proofs.DressingLemmas.{girocard_listed, visa_listed}
use Rattle.zvt_term.proofs.cards.card_bytes.Goals as goal

pub returns-in-Girocard-clause-fields : goal.returns-in-Girocard-clause-fields
returns-in-Girocard-clause-fields c = subst (λ (card : Card). FieldList shortest (card_fields card) _) (sym c.in-Girocard.is) girocard_listed

pub returns-in-Visa-clause-fields : goal.returns-in-Visa-clause-fields
returns-in-Visa-clause-fields c = subst (λ (card : Card). FieldList shortest (card_fields card) _) (sym c.in-Visa.is) visa_listed
