use Rattle.std.proofs.Common.{◌∙◌, ap, pos, true}
use Rattle.std.specs.Prelude.{Some}
use Rattle.clap.specs.Simple.{new_rule}
use Rattle.clap.specs.declared.builder.value_parser.ValueParser.{ValueParser}
use Rattle.clap.specs.declared.builder.value_parser.ValueParser.TheVariants.{Signed}
use Rattle.zvt_tool.proofs.Settings.{is_long, is_required, parses, shows}
use Rattle.zvt_tool.proofs.options.needed_port.Goals as goal

pub returns : goal.returns
returns c =
    let plain = new_rule c.args.name.now in
    let named = record plain { long = Some c.args.name.now } in
    let parsed = record named { parser = Some (Signed (pos 0) (pos 65535)) } in
    let given = c.value_parser-2.ensures.given in
    let parser = given.1 ∙ ap (λ (p : ValueParser). Some p) (given.2 ∙ c.value_parser.ensures) in
    let long = is_long c.new.result c.long.result _ plain c.long.ensures (c.new.ensures.rule, c.new.ensures.optional.1) in
    let parsing = parses c.long.result c.value_parser-2.result (Signed (pos 0) (pos 65535)) named c.value_parser-2.ensures.others parser long in
    let required = is_required c.value_parser-2.result c.required.result parsed c.required.ensures parsing in
    let said = shows c.required.result c.value_name.result c.help.result _ c.args.text (record parsed { required = true }) c.value_name.ensures c.help.ensures required in
    record { rule = said.0; local = said.1 }
