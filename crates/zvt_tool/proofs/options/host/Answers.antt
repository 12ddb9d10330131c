use Rattle.std.proofs.Common.{◌∷◌, [], codes}
use Rattle.std.specs.Prelude.{Some}
use Rattle.clap.specs.Simple.{new_rule}
use Rattle.zvt_tool.proofs.Settings.{is_default, is_long, shows}
use Rattle.zvt_tool.proofs.options.host.Goals as goal

pub returns : goal.returns
returns c =
    let plain = new_rule (codes "host") in
    let named = record plain { long = Some (codes "host") } in
    let long = is_long c.new.result c.long.result _ plain c.long.ensures (c.new.ensures.rule, c.new.ensures.optional.1) in
    let default = is_default c.long.result c.default_value.result _ named c.default_value.ensures long in
    let said = shows c.default_value.result c.value_name.result c.help.result _ _ (record named { defaults = codes "127.0.0.1" ∷ [] }) c.value_name.ensures c.help.ensures default in
    record { rule = said.0; local = said.1 }
