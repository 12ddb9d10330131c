use Rattle.std.proofs.Common.{ap, option_and_then, sym, ◌∙◌}
use Rattle.zvt_field.specs.Named.{bytes_of}
use Rattle.zvt_field.proofs.ViewLemmas.{plain_of}
use Rattle.zvt_play.proofs.numbers.content.Goals as goal

pub returns-in-None : goal.returns-in-None
returns-in-None c =
    let plain = (plain_of _ _ c.in_ok-field.field.field (sym c.in-None.is ∙ c.tree.ensures)).1 in
    sym (ap (option_and_then bytes_of) (sym c.in_ok-field.ensures) ∙ plain)
