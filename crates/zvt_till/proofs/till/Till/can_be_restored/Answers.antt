use Rattle.std.proofs.Common.{subst}
use Rattle.zvt_till.specs.declared.happenings.Happening.TheVariants.{Lost}
use Rattle.zvt_till.specs.Restoring.{CanStand}
use Rattle.zvt_till.specs.Till.{meet}
use Rattle.zvt_till.specs.View.{TillValue}
use Rattle.zvt_till.proofs.Restored.{lost-stands}
use Rattle.zvt_till.proofs.till.Till.can_be_restored.Goals as goal

pub returns : goal.returns
returns c =
    let sound = c.self.invariant in
    subst (λ (t : TillValue). CanStand (meet t.state Lost).book (meet t.state Lost).unclear) c.self.view_is
    (lost-stands _ _ sound.3 (record { few_booked = sound.1; few_unclear = sound.2; once = sound.4 }))
