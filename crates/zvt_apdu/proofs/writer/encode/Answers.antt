use Rattle.std.proofs.Common.{◌∙◌}
use Rattle.zvt_apdu.proofs.Encoding.{fills, has_room}
use Rattle.zvt_apdu.proofs.writer.encode.Goals as goal

pub unreachable-requires : goal.unreachable-requires
unreachable-requires c =
    has_room c.args.apdu.now _ _ c.size.result c.in_default.field-0 c.size.ensures.spelled c.size.ensures.value (c.deref_mut.ensures.len ∙ c.in_ok-resize.ensures.len) c.in_default.ensures

pub returns : goal.returns
returns c =
    fills c.args.apdu.now _ c.encode_into.new.out _ c.size.result c.in-Ok.field-0 _ c.size.ensures.spelled c.size.ensures.value
    (c.deref_mut.ensures.len ∙ c.in_ok-resize.ensures.len) c.in_ok-resize.ensures.len c.in-Ok.ensures
