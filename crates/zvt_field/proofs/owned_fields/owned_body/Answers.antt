use Rattle.std.proofs.Math.Logic.{∥∥₁_map}
use Rattle.zvt_field.specs.Lent.{shown}
use Rattle.zvt_field.proofs.OwnedLemmas.{spelled_tree, tree_shown, bytes_shown}
use Rattle.zvt_field.proofs.owned_fields.owned_body.Goals as goal

pub owned-requires : goal.owned-requires
owned-requires c = ∥∥₁_map c.requires (λ h. spelled_tree (shown c.args.field.now) c.in-Some.objects c.in-Some.ensures h)

pub returns-in_ok-owned-in-Some : goal.returns-in_ok-owned-in-Some
returns-in_ok-owned-in-Some c = tree_shown c.args.field.now _ c.in-Some.objects c.in-Some.ensures c.in_ok-owned-in-Some.ensures

pub returns-in_ok-from_slice-in-None : goal.returns-in_ok-from_slice-in-None
returns-in_ok-from_slice-in-None c = bytes_shown c.args.field.now _ c.in-None.ensures c.in_ok-from_slice-in-None.ensures.items
