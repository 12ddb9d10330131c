-- A machine hears messages in turn, by its own step.
use Rattle.std.specs.Prelude.{◌≡◌, ℕ, Bool, List, [], ◌∷◌}
use Rattle.zvt_apdu.specs.Message.{Message}
use Rattle.zvt_stream.specs.LineReading.{LineReading, SpelledBy}
use Rattle.zvt_stream.specs.Answered.{Answered, bytes_of, any_sent}

-- Hearing the messages in turn gives these answers, one for each, and leads from old to new.
abbrev pub Hears : {S : Type 0} → (S → Message → Answered → S → Type 0) → S → List Message → List Answered → S → Type 0
Hears step old [] [] new = old ≡ new
Hears {S} step old (message ∷ messages) (answer ∷ answers) new = (middle : S) × step old message answer middle × Hears step middle messages answers new
Hears step old [] (answer ∷ answers) new = ⊥
Hears step old (message ∷ messages) [] new = ⊥

-- The messages of the bytes were heard and answered, and the rest is held.
pub record Heard {S : Type 0} (l : LineReading) (step : S → Message → Answered → S → Type 0) (bytes : List ℕ) (old : S) (rest : List ℕ) (new : S) (written : List ℕ) (sent : Bool) : Type 0 where
  pub messages : List Message
  pub answers : List Answered
  pub spelled : SpelledBy l bytes messages rest
  pub heard : Hears step old messages answers new
  pub answered : written ≡ bytes_of answers
  pub sending : sent ≡ any_sent answers
