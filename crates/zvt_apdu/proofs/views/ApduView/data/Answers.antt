use Rattle.std.proofs.Common.{subst}
use Rattle.std.proofs.Math.Logic.{∥∥₁_map}
use Rattle.zvt_grammar.specs.Reading.{padded}
use Rattle.zvt_apdu.specs.Message.{Message}
use Rattle.zvt_apdu.specs.Grammar.{Data}
use Rattle.zvt_apdu.proofs.ViewLemmas.{frame_first}
use Rattle.zvt_apdu.proofs.PartLemmas.{data_shown}
use Rattle.zvt_apdu.proofs.views.ApduView.data.Goals as goal

pub data-requires : goal.data-requires
data-requires c = ∥∥₁_map c.self.inside.spelled.1 (λ p. frame_first c.self.inside.spelled.0 c.self.inside.bytes.now p)

pub returns : goal.returns
returns c =
    subst (λ (m : Message). ∥ Data padded m c.data.result.now ∥₁) c.self.view_is (data_shown c.self.inside.spelled.0 c.self.inside.bytes.now c.data.result.now c.self.inside.spelled.1 c.data.ensures)
