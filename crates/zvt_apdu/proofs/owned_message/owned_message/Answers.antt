use Rattle.std.proofs.Math.Logic.{∥∥₁_map}
use Rattle.zvt_apdu.proofs.OwnedLemmas.{fields_spelled}
use Rattle.zvt_apdu.proofs.owned_message.owned_message.Goals as goal

pub owned-requires : goal.owned-requires
owned-requires c = ∥∥₁_map c.requires (λ h. fields_spelled c.args.apdu.now c.in-Some.fields c.in-Some.ensures h)
