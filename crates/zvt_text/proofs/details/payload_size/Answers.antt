use Rattle.std.proofs.Common.{◌≡◌, ℕ, ◌<◌, List, [], ◌∷◌, ◌++◌, codes, length, refl, arith}
use Rattle.std.proofs.lemmas.Grind.{common_steps}
use Rattle.zvt_text.specs.MessageTexts.{hidden_data}
use Rattle.zvt_text.specs.Secrets.{hidden_text}
use Rattle.zvt_text.proofs.RoomLemmas.{puts_more}
use Rattle.zvt_text.proofs.details.payload_size.Goals as goal

some_data : (payload : List ℕ) → 0 < length payload → codes " data " ++ hidden_text payload ≡ hidden_data payload
some_data [] some = absurd (omega arith)
some_data (byte ∷ bytes) some = refl

pub returns : goal.returns
returns c =
    let some : 0 < length c.args.payload.now = grind (arith, common_steps) in
    let same : codes " data " ++ hidden_text c.args.payload.now ≡ hidden_data c.args.payload.now = some_data c.args.payload.now some in
    rw (← same) (puts_more c.hidden.result _ _ _ _ _ (codes " data ") (hidden_text c.args.payload.now) c.in_ok-at.ensures.1 c.hidden.ensures)
