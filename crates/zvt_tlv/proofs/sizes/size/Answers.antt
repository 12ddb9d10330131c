use Rattle.std.proofs.Common.{arith, ap, ◌∙◌, sym}
use Rattle.zvt_tlv.specs.Sizes.{size_of}
use Rattle.zvt_tlv.proofs.Writing.{spelled_size}
use Rattle.zvt_tlv.proofs.sizes.size.Goals as goal

pub objects_size-requires : goal.objects_size-requires
objects_size-requires c =
    let h = c.objects.ensures.spelled in
    omega (arith, ap size_of c.objects.ensures.list, spelled_size 1 c.args.forest.now h.bytes h.spelled, h.small)

pub returns-clause-value : goal.returns-clause-value
returns-clause-value c = c.objects_size.ensures ∙ ap size_of c.objects.ensures.list

pub returns-clause-spelling : goal.returns-clause-spelling
returns-clause-spelling c bytes p = sym (c.objects_size.ensures ∙ ap size_of c.objects.ensures.list ∙ spelled_size 1 c.args.forest.now bytes p)

pub returns-clause-small : goal.returns-clause-small
returns-clause-small c =
    let h = c.objects.ensures.spelled in
    omega (arith, c.objects_size.ensures, ap size_of c.objects.ensures.list, spelled_size 1 c.args.forest.now h.bytes h.spelled, h.small)
