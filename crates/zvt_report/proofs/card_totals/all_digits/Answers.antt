use Rattle.zvt_report.proofs.DigitLemmas.{digits_tested}
use Rattle.zvt_report.proofs.card_totals.all_digits.Goals as goal

pub returns-clause-value : goal.returns-clause-value
returns-clause-value c = digits_tested c.args.bytes.now c.is_digits.result c.is_digits.ensures

pub returns-clause-digits : goal.returns-clause-digits
returns-clause-digits c = c.is_digits.ensures.0
