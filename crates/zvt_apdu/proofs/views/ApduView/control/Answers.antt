use Rattle.std.proofs.Common.{◌∷◌, [], slice_index_or, arith, ap, subst, ◌∙◌}
use Rattle.zvt_apdu.specs.Message.{Message}
use Rattle.zvt_apdu.specs.Grammar.{IsControl}
use Rattle.zvt_apdu.specs.Views.{control_of}
use Rattle.zvt_apdu.proofs.ViewLemmas.{two_first, control_first, control_named}
use Rattle.zvt_apdu.proofs.views.ApduView.control.Goals as goal

pub bounds-self-inside-0 : goal.bounds-self-inside-0
bounds-self-inside-0 c = omega (arith, two_first c.self.inside.spelled.0 c.self.inside.bytes.now c.self.inside.spelled.1)

pub bounds-self-inside-1 : goal.bounds-self-inside-1
bounds-self-inside-1 c = two_first c.self.inside.spelled.0 c.self.inside.bytes.now c.self.inside.spelled.1

pub returns-clause-value : goal.returns-clause-value
returns-clause-value c = control_first c.self.inside.spelled.0 c.self.inside.bytes.now c.self.inside.spelled.1 ∙ ap control_of c.self.view_is

pub returns-clause-named : goal.returns-clause-named
returns-clause-named c =
    subst (λ (m : Message). ∥ IsControl m (slice_index_or c.self.inside.bytes.now 0 0 ∷ slice_index_or c.self.inside.bytes.now 1 0 ∷ []) ∥₁) c.self.view_is
    (control_named c.self.inside.spelled.0 c.self.inside.bytes.now c.self.inside.spelled.1)
