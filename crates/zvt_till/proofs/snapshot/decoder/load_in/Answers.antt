use Rattle.std.proofs.Common.{◌≡◌, ◌∙◌, sym, ap, rules}
use Rattle.zvt_till.specs.declared.happenings.Happening.TheVariants.{Lost}
use Rattle.zvt_till.specs.Till.{TillState, step}
use Rattle.zvt_till.specs.SnapshotDecoding.{strictly}
use Rattle.zvt_till.specs.SnapshotEncoded.{saved_in}
use Rattle.zvt_till.proofs.SnapshotLostLine.{rest-lost}
use Rattle.zvt_till.proofs.snapshot.decoder.load_in.Goals as goal

pub returns-else-eq-clause-value : goal.returns-else-eq-clause-value
returns-else-eq-clause-value c s k of is =
    let same : c.in-Ok.till.state ≡ strictly s = c.in-Ok.ensures.value s k of is in
    let written : c.in-Ok-save_in.again.items ≡ saved_in c.args.layout (step c.in-Ok.till.state Lost) = search rules in
    let equal : c.in-Ok-save_in.again.items ≡ c.args.bytes.now =
    written ∙ ap (λ (t : TillState). saved_in c.args.layout (step t Lost)) same ∙ ap (saved_in c.args.layout) (rest-lost (strictly s) (ap strictly k.rests)) ∙ sym is in
    absurd (search (rules, equal))
