-- The text of the message that comes first.
use Rattle.std.specs.Prelude.{◌≡◌, ℕ, List, ◌++◌, length, drop, nat_le, MatchBool}
use Rattle.zvt_grammar.specs.Reading.{shortest}
use Rattle.zvt_grammar.specs.declared.answer.Scan.TheVariants.{Whole}
use Rattle.zvt_apdu.specs.Message.{Message}
use Rattle.zvt_apdu.specs.Judging as apdu
use Rattle.zvt_text.specs.MessageTexts.{said}
use Rattle.zvt_text.specs.TextOptions.{plain_text}
use Rattle.zvt_c.specs.declared.answer.ZvtAnswer.{ZvtAnswer}
use Rattle.zvt_c.specs.Answers.{answer_of, Says}
use Rattle.zvt_c.specs.Statuses as statuses

-- The text is at the start of the buffer; or nothing was written, because it does not fit.
abbrev pub Writes : (text buffer_before buffer_after : List ℕ) → Type 0
Writes text before after = MatchBool (nat_le (length text) (length before)) (after ≡ text ++ drop (length text) before) (after ≡ before)

-- The text of a complete message and its size; or no text, for the reason in the answer.
pub data Texts (bytes buffer_before buffer_after : List ℕ) (answer : ZvtAnswer) (size : ℕ) : Type 0 where
  told : (message : Message) (taken : ℕ) → apdu.Answers shortest bytes (Whole (message, taken)) → answer ≡ answer_of (Whole (message, taken))
      → size ≡ length (said plain_text message) → Writes (said plain_text message) buffer_before buffer_after → Texts bytes buffer_before buffer_after answer size
  untold : Says bytes answer → (answer.status ≡ statuses.ok → ⊥) → size ≡ 0 → buffer_after ≡ buffer_before → Texts bytes buffer_before buffer_after answer size
