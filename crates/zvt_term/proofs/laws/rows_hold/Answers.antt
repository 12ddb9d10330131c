use Rattle.std.proofs.Common.{refl}
use Rattle.zvt_term.specs.Extras.{extra_at}
use Rattle.zvt_term.proofs.laws.rows_hold.Goals as goal

pub returns : goal.returns
unfolding extra_at
returns c = record { paid_orderly = refl; paid = refl; unpaid_orderly = refl; unpaid = refl; reversed_orderly = refl; reversed = refl }
