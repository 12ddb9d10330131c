use Rattle.std.proofs.Common.{arith, ap, ◌∙◌}
use Rattle.std.proofs.Math.Logic.{∥∥₁_map}
use Rattle.zvt_apdu.specs.Views.{fields_in}
use Rattle.zvt_apdu.proofs.ViewLemmas.{frame_first, two_first, head_fits, fields_spelled, fields_are, no_fields}
use Rattle.zvt_apdu.proofs.views.ApduView.fields.Goals as goal

pub data-data-requires : goal.data-data-requires
data-data-requires c = ∥∥₁_map c.self.inside.spelled.1 (λ p. frame_first c.self.inside.spelled.0 c.self.inside.bytes.now p)

pub bounds-bytes-0 : goal.bounds-bytes-0
bounds-bytes-0 c = omega (arith, two_first c.self.inside.spelled.0 c.self.inside.bytes.now c.self.inside.spelled.1)

pub bounds-bytes-1 : goal.bounds-bytes-1
bounds-bytes-1 c = two_first c.self.inside.spelled.0 c.self.inside.bytes.now c.self.inside.spelled.1

pub slice_bounds-of-count : goal.slice_bounds-of-count
slice_bounds-of-count c = head_fits c.self.inside.spelled.0 c.self.inside.bytes.now _ _ c.self.inside.spelled.1 c.data-data.ensures c.layout_of-layout.ensures

pub slice_bounds-of-start : goal.slice_bounds-of-start
slice_bounds-of-start c = slice_bounds-of-count c

pub of-requires : goal.of-requires
of-requires c = fields_spelled c.self.inside.spelled.0 c.self.inside.bytes.now _ _ c.self.inside.spelled.1 c.data-data.ensures c.layout_of-layout.ensures c.if-layout.true

pub returns-then-layout : goal.returns-then-layout
returns-then-layout c =
    fields_are c.self.inside.spelled.0 c.self.inside.bytes.now _ _ c.of.result c.self.inside.spelled.1 c.data-data.ensures c.layout_of-layout.ensures c.if-layout.true c.of.ensures
    ∙ ap fields_in c.self.view_is

pub returns-else-layout : goal.returns-else-layout
returns-else-layout c =
    no_fields c.self.inside.spelled.0 c.self.inside.bytes.now _ _ c.self.inside.spelled.1 c.data-data.ensures c.layout_of-layout.ensures c.if-layout.false ∙ ap fields_in c.self.view_is
