use Rattle.std.proofs.Common.{codes}
use Rattle.zvt_tool.specs.Options.{several_rule}
use Rattle.zvt_tool.proofs.Settings.{is_required}
use Rattle.zvt_tool.proofs.options.book_files.Goals as goal

pub returns : goal.returns
returns c =
    let said = is_required c.several.result c.required.result (several_rule (codes "file")) c.required.ensures (c.several.ensures.rule, c.several.ensures.local) in
    record { rule = said.0; local = said.1 }
