use Rattle.zvt_field.proofs.NamedLemmas.{content_spelled}
use Rattle.zvt_field.proofs.named.content.Goals as goal

pub returns-in-Bytes-clause-spelled : goal.returns-in-Bytes-clause-spelled
returns-in-Bytes-clause-spelled c =
    content_spelled c.args.bmp c.args.fields.now c.in_ok-only.field-0.now c.body.result.now c.in-Bytes.bytes c.deref.result.now c.in_ok-only.ensures c.body.ensures.spelled c.body.ensures.body c.in-Bytes.is c.deref.ensures.value
