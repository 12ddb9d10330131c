use Rattle.std.proofs.Common.{sym, subst}
use Rattle.std.proofs.Math.Logic.{∥∥₁_elim, ∥∥₁_map}
use Rattle.std.proofs.lemmas.Bool.{false≢true}
use Rattle.zvt_tlv.specs.Spelled.{HasSpelling}
use Rattle.zvt_tlv.proofs.OwnedLemmas.{spelled_parts}
use Rattle.zvt_tlv.proofs.owned_forest.owned.Goals as goal

pub owned_objects-requires : goal.owned_objects-requires
owned_objects-requires c = ∥∥₁_map c.requires (λ h. spelled_parts 1 c.args.objects h.bytes h.spelled)

pub unreachable-requires : goal.unreachable-requires
unreachable-requires c =
    ∥∥₁_elim c.requires (λ u. absurd u) (λ h. false≢true (c.in_default.ensures.exact.1 (subst HasSpelling (sym c.in_ok-made.ensures) h)))
