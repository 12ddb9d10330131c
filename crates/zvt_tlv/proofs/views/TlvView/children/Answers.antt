use Rattle.std.proofs.Common.{◌≡◌, true, ap}
use Rattle.zvt_tlv.specs.Grammar.{is_constructed}
use Rattle.zvt_tlv.specs.Views.{forest_once}
use Rattle.zvt_tlv.proofs.ViewLemmas.{kind_is}
use Rattle.zvt_tlv.proofs.views.TlvView.children.Goals as goal

pub returns-in-len1-up : goal.returns-in-len1-up
returns-in-len1-up c =
    let kind : is_constructed c.args.self.now.tag.now ≡ true = kind_is _ c.in-len1-up.len_at_least c.if-first-eq1.true in
    (kind, ap (λ v. v.0) (forest_once _ (c.args.self.now.inside kind) c.result-in-len1-up-1.given.0))
