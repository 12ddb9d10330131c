use Rattle.std.proofs.Common.{◌≡◌, ◌↔◌, ◌++◌, ℕ, List, IsTrue, subst, ◌∙◌}
use Rattle.zvt_till.specs.Settings.{settings_of}
use Rattle.zvt_kept.specs.Logs.{opening_of}
use Rattle.zvt_kept.proofs.Kept.{text_is}
use Rattle.zvt_kept.proofs.Opened.{begins_so}
use Rattle.zvt_kept.proofs.recovery.has_opening.Goals as goal

pub returns : goal.returns
returns c =
    subst (λ (first : List ℕ). IsTrue c.is_some.result ↔ ((records : List ℕ) × (c.args.text.now ≡ first ++ records)))
    (text_is c.bytes.result.now c.new-opening.result (opening_of (settings_of c.args.settings.now)) (c.bytes.ensures ∙ c.in_ok-put_opening.ensures.written) c.new-opening.ensures)
    (begins_so (λ rest. rest.now) c.trailing.result c.bytes.result.now c.args.text.now c.is_some.result c.trailing.ensures c.is_some.ensures)
