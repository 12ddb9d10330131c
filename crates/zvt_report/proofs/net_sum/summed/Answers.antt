use Rattle.std.proofs.Common.{ℕ, Bool, cond, Some, None, ap, sym, ◌∙◌}
use Rattle.zvt_report.specs.NetSum.{all_units}
use Rattle.zvt_report.specs.declared.net_sum.Net.{Net}
use Rattle.zvt_report.proofs.net_sum.summed.Goals as goal

pub returns-then-are_in : goal.returns-then-are_in
returns-then-are_in c =
    let with : ℕ → Net = λ units. record { currency = Some c.args.currency; units = units } in
    ap (λ (units : ℕ). Some (with units)) c.all_units.ensures ∙ sym (ap (λ (b : Bool). cond b (Some (with (all_units c.args.nets.now))) None) (sym c.are_in.ensures ∙ c.if-are_in.true))
