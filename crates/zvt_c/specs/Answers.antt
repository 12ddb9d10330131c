-- The results of reading bytes, as numbers.
use Rattle.std.specs.Prelude.{◌≡◌, ℕ, List}
use Rattle.zvt_grammar.specs.declared.why.Why.{Why}
use Rattle.zvt_grammar.specs.declared.why.Why.TheVariants.{NotShortest, DoesNotFit, LengthForm, TooDeep, TagTooLong, UnknownField, NotDigit, LengthDigit}
use Rattle.zvt_grammar.specs.declared.answer.Scan.{Scan}
use Rattle.zvt_grammar.specs.declared.answer.Scan.TheVariants.{Whole, More, Refused}
use Rattle.zvt_grammar.specs.Reading.{shortest}
use Rattle.zvt_apdu.specs.Message.{Message}
use Rattle.zvt_apdu.specs.Judging as apdu
use Rattle.zvt_c.specs.declared.answer.ZvtAnswer.{ZvtAnswer}
use Rattle.zvt_c.specs.Statuses as statuses

-- The number of a reason.
abbrev pub code_of_why : Why → ℕ
code_of_why NotShortest = 1
code_of_why DoesNotFit = 2
code_of_why LengthForm = 3
code_of_why TooDeep = 4
code_of_why TagTooLong = 5
code_of_why UnknownField = 6
code_of_why NotDigit = 7
code_of_why LengthDigit = 8

-- A reader's result as numbers.
abbrev pub answer_of : Scan (Message × ℕ) → ZvtAnswer
answer_of (Whole found) = record { size = found.1; place = 0; reason = 0; status = statuses.ok }
answer_of More = record { size = 0; place = 0; reason = 0; status = statuses.more }
answer_of (Refused place why) = record { size = 0; place = place; reason = code_of_why why; status = statuses.refused }

abbrev pub out_of_memory : ZvtAnswer
out_of_memory = record { size = 0; place = 0; reason = 0; status = statuses.no_memory }

-- The answer is the grammar's result for the bytes, or memory ran out.
pub data Says (bytes : List ℕ) (answer : ZvtAnswer) : Type 0 where
  scanned : (scan : Scan (Message × ℕ)) → apdu.Answers shortest bytes scan → answer ≡ answer_of scan → Says bytes answer
  refused_memory : answer ≡ out_of_memory → Says bytes answer
