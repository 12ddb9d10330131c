use Rattle.std.proofs.Common.{◌≡◌, ◌++◌, take}
use Rattle.zvt_report.specs.CardTexts.{number_text}
use Rattle.zvt_report.proofs.card_texts.number.Given as goal

abbrev pub invariant-loop-byte : goal.invariant-loop-byte
invariant-loop-byte l = l.text ≡ l.initial.text ++ number_text (take l.byte-index l.bytes)
