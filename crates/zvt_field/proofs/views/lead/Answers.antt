use Rattle.std.proofs.Common.{rules, ◌≡◌, Some, arith}
use Rattle.std.proofs.Math.Logic.{∥∥₁_elim, ∥∥₁_map}
use Rattle.std.specs.Coded.{le_prop}
use Rattle.zvt_field.specs.declared.shapes.Shape.TheVariants.{Ll, Lll, Tree}
use Rattle.zvt_field.proofs.ViewLemmas.{lead_two, lead_three, lead_tree}
use Rattle.std.proofs.lemmas.Grind.{common_steps}
use Rattle.zvt_field.proofs.views.lead.Goals as goal

pub bounds-bytes-0 : goal.bounds-bytes-0
bounds-bytes-0 c = ∥∥₁_elim c.requires le_prop (λ l. omega (arith, lead_two _ _ (let e : c.args.shape ≡ Some Ll = search rules in e) l))

pub bounds-bytes-1 : goal.bounds-bytes-1
bounds-bytes-1 c = ∥∥₁_elim c.requires le_prop (λ l. lead_two _ _ (let e : c.args.shape ≡ Some Ll = search rules in e) l)

pub bounds-bytes-0-in-Some-Lll : goal.bounds-bytes-0-in-Some-Lll
bounds-bytes-0-in-Some-Lll c = ∥∥₁_elim c.requires le_prop (λ l. omega (arith, lead_three _ _ (let e : c.args.shape ≡ Some Lll = search rules in e) l))

pub bounds-bytes-1-in-Some-Lll : goal.bounds-bytes-1-in-Some-Lll
bounds-bytes-1-in-Some-Lll c = ∥∥₁_elim c.requires le_prop (λ l. omega (arith, lead_three _ _ (let e : c.args.shape ≡ Some Lll = search rules in e) l))

pub bounds-bytes-2 : goal.bounds-bytes-2
bounds-bytes-2 c = ∥∥₁_elim c.requires le_prop (λ l. lead_three _ _ (let e : c.args.shape ≡ Some Lll = search rules in e) l)

pub length_first-requires : goal.length_first-requires
length_first-requires c = ∥∥₁_map c.requires (λ l. lead_tree _ _ (let e : c.args.shape ≡ Some Tree = search rules in e) l)

pub returns-in-Some-Tree : goal.returns-in-Some-Tree
returns-in-Some-Tree c = grind (arith, common_steps)
