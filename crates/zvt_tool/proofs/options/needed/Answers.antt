use Rattle.std.proofs.Common.{true}
use Rattle.std.specs.Prelude.{Some}
use Rattle.clap.specs.Simple.{new_rule}
use Rattle.zvt_tool.proofs.Settings.{is_long, is_required, shows}
use Rattle.zvt_tool.proofs.options.needed.Goals as goal

pub returns : goal.returns
returns c =
    let plain = new_rule c.args.name.now in
    let named = record plain { long = Some c.args.name.now } in
    let long = is_long c.new.result c.long.result _ plain c.long.ensures (c.new.ensures.rule, c.new.ensures.optional.1) in
    let required = is_required c.long.result c.required.result named c.required.ensures long in
    let said = shows c.required.result c.value_name.result c.help.result _ _ (record named { required = true }) c.value_name.ensures c.help.ensures required in
    record { rule = said.0; local = said.1 }
