-- The names of the reasons, as every output writes them.
use Rattle.std.specs.Prelude.{ℕ, List, codes}
use Rattle.zvt_grammar.specs.declared.why.Why.{Why}
use Rattle.zvt_grammar.specs.declared.why.Why.TheVariants.{NotShortest, DoesNotFit, LengthForm, TooDeep, TagTooLong, UnknownField, NotDigit, LengthDigit}

abbrev pub why_name : Why → List ℕ
why_name NotShortest = codes "NotShortest"
why_name DoesNotFit = codes "DoesNotFit"
why_name LengthForm = codes "LengthForm"
why_name TooDeep = codes "TooDeep"
why_name TagTooLong = codes "TagTooLong"
why_name UnknownField = codes "UnknownField"
why_name NotDigit = codes "NotDigit"
why_name LengthDigit = codes "LengthDigit"
