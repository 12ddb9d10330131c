use Rattle.std.proofs.Common.{ap, ◌∙◌}
use Rattle.std.specs.List.{list_all}
use Rattle.zvt_bcd.specs.Digits.{is_digit_pair}
use Rattle.zvt_till.proofs.Digits.{digits-tested}
use Rattle.zvt_till.proofs.statuses.are_digits.Goals as goal

pub returns : goal.returns
returns c = digits-tested c.as_slice.result.now c.is_digits.result c.is_digits.ensures ∙ ap (list_all is_digit_pair) c.as_slice.ensures
