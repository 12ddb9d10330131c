use Rattle.std.proofs.Common.{◌≡◌, ◌∙◌, ℕ, Option, Some, ap, refl, subst, sym}
use Rattle.std.specs.List.{position}
use Rattle.zvt_runs.specs.Plans.{SettlesAt, registers}
use Rattle.zvt_runs.specs.declared.arguments.Step.TheVariants.{Settle}
use Rattle.zvt_runs.proofs.plans.settling_once.Goals as goal

pub returns : goal.returns
returns c =
    let found : position registers c.args.plan.items ≡ Some c.in-Some.place = sym (ap (position registers) c.as_slice.ensures.value) ∙ sym c.first_registration.ensures ∙ c.in-Some.is in
    subst (λ (o : Option ℕ). SettlesAt o c.args.plan.items c.insert.new.self.items) (sym found)
    (record { settle = record { word = c.in_ok-from_str.field-0; step = Settle }; inserted = c.in_ok-insert.ensures.items; its_word = c.in_ok-from_str.ensures.ok; its_step = refl })
