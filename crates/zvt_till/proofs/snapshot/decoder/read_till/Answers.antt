use Rattle.std.proofs.Common.{◌∙◌}
use Rattle.zvt_till.specs.SnapshotEncoded.{body_bytes}
use Rattle.zvt_till.proofs.SnapshotHeaders.{body-is}
use Rattle.zvt_till.proofs.snapshot.decoder.read_till.Goals as goal

pub returns-clause-value : goal.returns-clause-value
returns-clause-value c s k of is =
    c.read_body.ensures.value s k of (c.split_at.ensures.front ∙ body-is (body_bytes c.args.layout s) c.args.bytes.now is)
