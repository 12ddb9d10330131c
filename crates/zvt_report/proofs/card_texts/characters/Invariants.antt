use Rattle.std.proofs.Common.{◌≡◌, ◌++◌, take}
use Rattle.zvt_report.specs.CardTexts.{characters}
use Rattle.zvt_report.proofs.card_texts.characters.Given as goal

abbrev pub invariant-loop-byte : goal.invariant-loop-byte
invariant-loop-byte l = l.text ≡ l.initial.text ++ characters l.slash (take l.byte-index l.bytes)
