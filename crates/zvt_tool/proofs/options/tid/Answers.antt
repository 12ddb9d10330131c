use Rattle.std.proofs.Common.{◌≡◌, ◌∙◌, ◌∷◌, [], ap, codes, pos}
use Rattle.std.specs.Prelude.{Some}
use Rattle.clap.specs.Simple.{new_rule}
use Rattle.clap.specs.declared.builder.value_parser.ValueParser.{ValueParser}
use Rattle.clap.specs.declared.builder.value_parser.ValueParser.TheVariants.{Signed}
use Rattle.zvt_tool.proofs.Settings.{is_default, is_long, narrowed, parses, shows}
use Rattle.zvt_tool.proofs.options.tid.Goals as goal

pub returns : goal.returns
returns c =
    let plain = new_rule (codes "tid") in
    let named = record plain { long = Some (codes "tid") } in
    let parsed = record named { parser = Some (Signed (pos 0) (pos 99999999)) } in
    let given = c.value_parser-2.ensures.given in
    let bounds = c.new-2.ensures in
    let range : c.range.result ≡ Signed (pos 0) (pos 99999999) = narrowed c.value_parser.result c.range.result _ _ 0 99999999 4294967295 c.value_parser.ensures c.range.ensures bounds.start bounds.end in
    let parser = given.1 ∙ ap (λ (p : ValueParser). Some p) (given.2 ∙ range) in
    let long = is_long c.new.result c.long.result _ plain c.long.ensures (c.new.ensures.rule, c.new.ensures.optional.1) in
    let parsing = parses c.long.result c.value_parser-2.result (Signed (pos 0) (pos 99999999)) named c.value_parser-2.ensures.others parser long in
    let default = is_default c.value_parser-2.result c.default_value.result _ parsed c.default_value.ensures parsing in
    let said = shows c.default_value.result c.value_name.result c.help.result _ _ (record parsed { defaults = codes "12345678" ∷ [] }) c.value_name.ensures c.help.ensures default in
    record { rule = said.0; local = said.1 }
