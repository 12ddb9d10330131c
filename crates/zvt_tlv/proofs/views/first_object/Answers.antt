use Rattle.std.proofs.Common.{◌++◌, length, ◌∙◌}
use Rattle.std.proofs.Math.Logic.{∥∥₁_elim, ∥∥₁_map}
use Rattle.std.specs.Coded.{le_prop}
use Rattle.zvt_tlv.proofs.ViewLemmas.{cut_at, rest_at}
use Rattle.zvt_tlv.proofs.views.first_object.Goals as goal

pub tag_size-requires : goal.tag_size-requires
tag_size-requires c = ∥∥₁_map c.requires (λ (tag, size, content, after, s). (tag, size ++ (content ++ after), s.whole, s.is_tag))

pub split_at-requires : goal.split_at-requires
split_at-requires c =
    ∥∥₁_elim c.requires le_prop (λ (tag, size, content, after, s).
    (cut_at _ _ tag _ (c.tag_size.ensures.value tag _ s.whole s.is_tag) s.whole).0)

pub length_first-size-requires : goal.length_first-size-requires
length_first-size-requires c =
    ∥∥₁_map c.requires (λ (tag, size, content, after, s).
    (length content, size, content ++ after, c.split_at.ensures.back ∙ (cut_at _ _ tag _ (c.tag_size.ensures.value tag _ s.whole s.is_tag) s.whole).2, s.is_length))

pub slice_bounds-split_at-count : goal.slice_bounds-split_at-count
slice_bounds-split_at-count c =
    ∥∥₁_elim c.requires le_prop (λ (tag, size, content, after, s).
    let back = c.split_at.ensures.back ∙ (cut_at _ _ tag _ (c.tag_size.ensures.value tag _ s.whole s.is_tag) s.whole).2 in
    (cut_at _ _ size _ (c.length_first-size.ensures (length content) size _ back s.is_length).0 back).0)

pub slice_bounds-split_at-start : goal.slice_bounds-split_at-start
slice_bounds-split_at-start c = slice_bounds-split_at-count c

pub split_at-requires-2 : goal.split_at-requires-2
split_at-requires-2 c =
    ∥∥₁_elim c.requires le_prop (λ (tag, size, content, after, s).
    let back = c.split_at.ensures.back ∙ (cut_at _ _ tag _ (c.tag_size.ensures.value tag _ s.whole s.is_tag) s.whole).2 in
    let m = c.length_first-size.ensures (length content) size _ back s.is_length in
    (cut_at _ _ content after m.1 (rest_at _ _ size _ m.0 back)).0)

pub returns : goal.returns
returns c tag size content after s =
    let cut = cut_at _ _ tag _ (c.tag_size.ensures.value tag _ s.whole s.is_tag) s.whole in
    let back = c.split_at.ensures.back ∙ cut.2 in
    let m = c.length_first-size.ensures (length content) size _ back s.is_length in
    let last = cut_at _ _ content after m.1 (rest_at _ _ size _ m.0 back) in
    (c.split_at.ensures.front ∙ cut.1, c.split_at-2.ensures.front ∙ last.1, c.split_at-2.ensures.back ∙ last.2)
