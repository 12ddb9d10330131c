use Rattle.std.proofs.Math.Logic.{∥∥₁_map}
use Rattle.zvt_grammar.specs.Reading.{padded}
use Rattle.zvt_apdu.proofs.OwnedLemmas.{message_shortened}
use Rattle.zvt_apdu.proofs.owned_message.note_spelling.Goals as goal

pub returns : goal.returns
returns c = ∥∥₁_map c.bytes.ensures (λ p. message_shortened padded c.args.apdu.now _ p)
