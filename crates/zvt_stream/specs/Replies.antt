-- The outcomes of one message.
use Rattle.std.specs.Prelude.{◌≡◌, ℕ, Bool, List, [], Option, nat_lt}
use Rattle.std.specs.Io.KnownBytes.{Appends}
use Rattle.zvt_io.specs.Devices.{IsPrefix}
use Rattle.zvt_apdu.specs.Message.{Message}
use Rattle.zvt_stream.specs.Answered.{Answered}
use Rattle.zvt_stream.specs.declared.line.LineFault.{LineFault}
use Rattle.zvt_stream.specs.declared.line.LineFault.TheVariants.{Read, Write, Ended, Turns, Malformed, Memory, Stopped}

-- The message was heard and its answers were written.
pub record Replies {S : Type 0} (step : S → Message → Answered → S → Type 0) (old : S) (message : Message) (new : S) (before after : Option (List ℕ)) (sent : Bool) : Type 0 where
  pub answer : Answered
  pub heard : step old message answer new
  pub appended : Appends before after answer.bytes
  pub sending : sent ≡ nat_lt 0 answer.count

-- The message was heard, and a part of its answers was written.
pub record Interrupted {S : Type 0} (step : S → Message → Answered → S → Type 0) (old : S) (message : Message) (new : S) (before after : Option (List ℕ)) : Type 0 where
  pub answer : Answered
  pub part : List ℕ
  pub heard : step old message answer new
  pub appended : Appends before after part
  pub some_part : IsPrefix part answer.bytes

-- The message was not heard, or its answers were not written.
abbrev pub Unanswered : {S : Type 0} → (S → Message → Answered → S → Type 0) → LineFault → S → Message → S → Option (List ℕ) → Option (List ℕ) → Type 0
Unanswered step Memory old message new before after = (old ≡ new) × Appends before after []
Unanswered step Write old message new before after = Interrupted step old message new before after
Unanswered step Read old message new before after = ⊥
Unanswered step (Ended have) old message new before after = ⊥
Unanswered step Turns old message new before after = ⊥
Unanswered step (Malformed place why) old message new before after = ⊥
Unanswered step Stopped old message new before after = ⊥
