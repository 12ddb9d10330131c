use Rattle.std.proofs.Common.{sym, ◌∙◌, ap}
use Rattle.std.specs.Prelude.{option_and_then}
use Rattle.zvt_field.specs.Named.{bytes_of}
use Rattle.zvt_field.proofs.ViewLemmas.{plain_of}
use Rattle.zvt_report.proofs.statements.content_of.Goals as goal

pub returns-in-None : goal.returns-in-None
returns-in-None c =
    sym (plain_of _ _ c.in_ok-field.field.field (sym c.in-None.is ∙ c.tree.ensures)).1 ∙ ap (option_and_then bytes_of) c.in_ok-field.ensures
