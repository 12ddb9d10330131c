use Rattle.clap.specs.Simple.{new_rule}
use Rattle.clap.specs.declared.builder.action.ArgAction.TheVariants.{Append}
use Rattle.std.specs.Prelude.{Some}
use Rattle.zvt_tool.proofs.Settings.{acts, shows}
use Rattle.zvt_tool.proofs.options.several.Goals as goal

pub returns : goal.returns
returns c =
    let plain = new_rule c.args.name.now in
    let appends = acts c.new.result c.action.result Append plain c.action.ensures (c.new.ensures.rule, c.new.ensures.optional.1) in
    let said = shows c.action.result c.value_name.result c.help.result _ c.args.text (record plain { action = Some Append }) c.value_name.ensures c.help.ensures appends in
    record { rule = said.0; local = said.1 }
