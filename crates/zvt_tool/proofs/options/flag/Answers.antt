use Rattle.std.specs.Prelude.{Some}
use Rattle.clap.specs.Simple.{new_rule}
use Rattle.clap.specs.declared.builder.action.ArgAction.TheVariants.{SetTrue}
use Rattle.zvt_tool.proofs.Settings.{acts, helps, is_long}
use Rattle.zvt_tool.proofs.options.flag.Goals as goal

pub returns : goal.returns
returns c =
    let plain = new_rule c.args.name.now in
    let named = record plain { long = Some c.args.name.now } in
    let long = is_long c.new.result c.long.result _ plain c.long.ensures (c.new.ensures.rule, c.new.ensures.optional.1) in
    let acting = acts c.long.result c.action.result SetTrue named c.action.ensures long in
    let said = helps c.action.result c.help.result c.args.text (record named { action = Some SetTrue }) c.help.ensures acting in
    record { rule = said.0; local = said.1 }
