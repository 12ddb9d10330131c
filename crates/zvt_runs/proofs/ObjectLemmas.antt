-- A total and an ask are written as their values, and no object of a step has a float.
use Rattle.std.proofs.Common.{◌≡◌, ◌++◌, ℕ, false, List, Option, Some, None, refl, append_assoc, codes}
use Rattle.std.specs.Fmt.{decimal}
use Rattle.json.specs.Print.{escape, escape_byte}
use Rattle.serde_json.specs.Data.{object, member}
use Rattle.serde_json.specs.Written.{compact_text, has_float}
use Rattle.zvt_json.specs.Fields.{words_of}
use Rattle.zvt_json.specs.Strings.{byte_value, line_text}
use Rattle.zvt_text.specs.Meanings.{meaning_of}
use Rattle.zvt_settle.specs.declared.deciding.Settlement.{Settlement}
use Rattle.zvt_till.specs.declared.outcomes.Outcome.{Outcome}
use Rattle.zvt_till.specs.declared.outcomes.Outcome.TheVariants.{Registered, Paid, Declined, Refused, Aborted, Unclear, Reversed, DayClosed}
use Rattle.zvt_runs.specs.Objects.{ended_so, outcome_value, settled_step, total_value}
use Rattle.zvt_runs.specs.Settlements.{settled_value}

pub total_said : (total : ℕ) → codes "{\"total\":" ++ (decimal total ++ codes "}\n") ≡ line_text (total_value total)
unfolding escape_byte
total_said total = simp append_assoc

-- ---- floats

with_words : (name word : List ℕ) (code : ℕ) (meaning : Option (List ℕ)) → has_float (object (member (codes "code") (byte_value code) (ended_so name word (words_of meaning)))) ≡ false
with_words name word code None = refl
with_words name word code (Some meaning) = refl

pub outcome_whole : (word : List ℕ) (outcome : Outcome) → has_float (outcome_value word outcome) ≡ false
outcome_whole word Registered = refl
outcome_whole word (Paid trace None) = refl
outcome_whole word (Paid trace (Some receipt)) = refl
outcome_whole word (Declined code) = with_words (codes "declined") word code (meaning_of code)
outcome_whole word (Refused code) = with_words (codes "refused") word code (meaning_of code)
outcome_whole word (Aborted code) = with_words (codes "aborted") word code (meaning_of code)
outcome_whole word (Unclear cause) = refl
outcome_whole word Reversed = refl
outcome_whole word DayClosed = refl

-- ---- an ask that settled an order

pub settled_step_said : (word : List ℕ) (settlement : Settlement)
    → codes "{\"outcome\":\"settled\",\"settled\":" ++ (compact_text (settled_value settlement) ++ (codes ",\"step\":\"" ++ (escape word ++ codes "\"}\n"))) ≡ line_text (settled_step word settlement)
unfolding escape_byte
settled_step_said word settlement = simp append_assoc
