use Rattle.zvt_field.proofs.Exists as fields
use Rattle.zvt_apdu.proofs.Exists as law
use Rattle.zvt_apdu.proofs.laws.each_beginning_stands.Goals as goal

pub returns : goal.returns
returns c = law.each_stands (λ r room b a lt. let s = fields.alive_stands r room b a lt in (s.openers, s.role, s.left, s.position))
