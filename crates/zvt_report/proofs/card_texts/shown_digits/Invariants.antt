use Rattle.std.proofs.Common.{◌≡◌, ◌++◌, length}
use Rattle.zvt_report.specs.CardTexts.{shown_digits}
use Rattle.zvt_report.proofs.card_texts.shown_digits.Given as goal

abbrev pub invariant-bytes : goal.invariant-bytes
invariant-bytes l = l.text ++ shown_digits l.rest ≡ l.initial.text ++ shown_digits l.bytes

abbrev pub decreases-bytes : goal.decreases-bytes
decreases-bytes l = length l.rest
