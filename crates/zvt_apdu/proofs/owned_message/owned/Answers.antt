use Rattle.std.proofs.Common.{sym, subst}
use Rattle.std.proofs.Math.Logic.{∥∥₁_elim}
use Rattle.zvt_apdu.specs.Messages.{HasSpelling}
use Rattle.zvt_apdu.proofs.owned_message.owned.Goals as goal

pub unreachable-requires : goal.unreachable-requires
unreachable-requires c =
    ∥∥₁_elim c.note_spelling.ensures (λ u. absurd u) (λ h. c.in_default.ensures.err.2 (subst HasSpelling (sym c.in_ok-message.ensures) h))
