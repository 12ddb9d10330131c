use Rattle.std.specs.Prelude.{Some}
use Rattle.clap.specs.Simple.{new_rule}
use Rattle.zvt_tool.proofs.Settings.{is_long, shows}
use Rattle.zvt_tool.proofs.options.value_of.Goals as goal

pub returns : goal.returns
returns c =
    let plain = new_rule c.args.name.now in
    let long = is_long c.new.result c.long.result _ plain c.long.ensures (c.new.ensures.rule, c.new.ensures.optional.1) in
    let said = shows c.long.result c.value_name.result c.help.result _ _ (record plain { long = Some c.args.name.now }) c.value_name.ensures c.help.ensures long in
    record { rule = said.0; local = said.1 }
