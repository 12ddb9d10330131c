use Rattle.std.proofs.Common.{◌≡◌}
use Rattle.zvt_apdu.proofs.NormalLemmas.{strict_is_padded}
use Rattle.zvt_audit.proofs.by_control.hear_bytes.Goals as goal

pub view-requires : goal.view-requires
view-requires g c = (c.requires.0, ∣ strict_is_padded c.requires.0 c.args.bytes.now c.requires.1 ∣₁)

pub hear-requires : goal.hear-requires
hear-requires g c =
    let same : c.view.result ≡ c.requires.0 = c.view.ensures c.requires.0 (strict_is_padded c.requires.0 c.args.bytes.now c.requires.1) in
    rw same c.requires.1

pub returns : goal.returns
returns g c = λ m spells.
    let same : c.view.result ≡ m = c.view.ensures m (strict_is_padded m c.args.bytes.now spells) in
    rw same at c.hear.ensures
