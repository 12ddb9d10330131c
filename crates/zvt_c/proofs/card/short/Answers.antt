use Rattle.std.proofs.Common.{sym, ap, ◌∙◌}
use Rattle.zvt_field.proofs.ViewLemmas.{no_plain, plain_of}
use Rattle.zvt_c.specs.Cards.{short}
use Rattle.zvt_c.proofs.card.short.Goals as goal

pub returns-in-Some-clause-content : goal.returns-in-Some-clause-content
returns-in-Some-clause-content c = sym (ap short (no_plain _ _ c.args.field.now.field c.in-Some.field-0 (sym c.in-Some.is ∙ c.tree.ensures)))

pub returns-in-None-clause-content : goal.returns-in-None-clause-content
returns-in-None-clause-content c = c.short_bytes.ensures.content ∙ sym (ap short (plain_of _ _ c.args.field.now.field (sym c.in-None.is ∙ c.tree.ensures)).1)
