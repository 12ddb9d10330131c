use Rattle.std.proofs.Common.{◌∙◌, ap, List, String, Global, string_bytes}
use Rattle.std.specs.List.{list_any}
use Rattle.zvt_web.specs.Guards.{Guards, is_ours}
use Rattle.zvt_web.specs.Words.{same_letters}
use Rattle.zvt_web.proofs.Lists.{list_any-map}
use Rattle.zvt_web.proofs.guards.Guards.is_ours.Goals as goal

pub returns : goal.returns
returns c =
    c.any_is.ensures
    ∙ ap (λ (hosts : List (String Global)). list_any (λ ours. same_letters (string_bytes ours) c.args.host.now) hosts) c.deref.ensures.value
    ∙ list_any-map (λ ours. same_letters ours c.args.host.now) string_bytes c.self.inside.hosts.items
    ∙ ap (λ (g : Guards). is_ours g c.args.host.now) c.self.view_is
