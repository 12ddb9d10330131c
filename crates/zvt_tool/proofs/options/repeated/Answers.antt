use Rattle.std.specs.Prelude.{Some}
use Rattle.clap.specs.Simple.{new_rule}
use Rattle.clap.specs.declared.builder.action.ArgAction.TheVariants.{Append}
use Rattle.zvt_tool.proofs.Settings.{acts, is_long, shows}
use Rattle.zvt_tool.proofs.options.repeated.Goals as goal

pub returns : goal.returns
returns c =
    let plain = new_rule c.args.name.now in
    let named = record plain { long = Some c.args.name.now } in
    let long = is_long c.new.result c.long.result _ plain c.long.ensures (c.new.ensures.rule, c.new.ensures.optional.1) in
    let appends = acts c.long.result c.action.result Append named c.action.ensures long in
    let said = shows c.action.result c.value_name.result c.help.result _ c.args.text (record named { action = Some Append }) c.value_name.ensures c.help.ensures appends in
    record { rule = said.0; local = said.1 }
