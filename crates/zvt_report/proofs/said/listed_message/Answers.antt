use Rattle.std.proofs.Common.{Option, Some, None, List, ap₂, ℕ}
use Rattle.zvt_report.proofs.SaidLemmas.{not_whole_spells, single_spells_none, whole_found}
use Rattle.zvt_report.proofs.said.listed_message.Goals as goal

pub returns-then-listed-eq1 : goal.returns-then-listed-eq1
returns-then-listed-eq1 c = (None, single_spells_none c.args.listed.now c.if-listed-eq1.true, c.silent_message.ensures)

pub returns-in-Whole : goal.returns-in-Whole
returns-in-Whole c = (
  Some c.in-Whole.fields,
  whole_found c.args.listed.now c.in_ok-fields.field-0 c.in-Whole.fields c.in-Whole.is c.in_ok-fields.ensures,
  ap₂ (λ (amount : Option ℕ) (receipt : Option (List ℕ)). record { high = c.args.high; low = c.args.low; amount = amount; receipt = receipt }) c.amount.ensures c.receipt.ensures,
)

pub returns-in_default : goal.returns-in_default
returns-in_default c = (None, not_whole_spells c.args.listed.now c.in_ok-fields.field-0 c.in_default.not-Whole c.in_ok-fields.ensures, c.silent_message-in_default.ensures)
