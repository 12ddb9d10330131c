use Rattle.std.proofs.Common.{◌++◌, length, ◌∙◌}
use Rattle.std.proofs.Math.Logic.{∥∥₁_elim, ∥∥₁_map}
use Rattle.std.specs.Coded.{le_prop}
use Rattle.zvt_tlv.proofs.ViewLemmas.{cut_at, rest_at}
use Rattle.zvt_field.proofs.views.first_content.Goals as goal

pub lead-start-requires : goal.lead-start-requires
lead-start-requires c = ∥∥₁_map c.requires (λ (size, content, after, w, l). (length content, size, content ++ after, w, l))

pub slice_bounds-split_at-count : goal.slice_bounds-split_at-count
slice_bounds-split_at-count c =
    ∥∥₁_elim c.requires le_prop (λ (size, content, after, w, l). (cut_at _ _ size _ (c.lead-start.ensures (length content) size _ w l).0 w).0)

pub slice_bounds-split_at-start : goal.slice_bounds-split_at-start
slice_bounds-split_at-start c = slice_bounds-split_at-count c

pub split_at-requires : goal.split_at-requires
split_at-requires c =
    ∥∥₁_elim c.requires le_prop (λ (size, content, after, w, l).
    let m = c.lead-start.ensures (length content) size _ w l in (cut_at _ _ content after m.1 (rest_at _ _ size _ m.0 w)).0)

pub returns : goal.returns
returns c size content after w l =
    let m = c.lead-start.ensures (length content) size _ w l in
    let cut = cut_at _ _ content after m.1 (rest_at _ _ size _ m.0 w) in
    (c.split_at.ensures.front ∙ cut.1, c.split_at.ensures.back ∙ cut.2)
