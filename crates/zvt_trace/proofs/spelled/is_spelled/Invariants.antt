use Rattle.std.proofs.Common.{◌≡◌, None}
use Rattle.std.proofs.Common.{length}
use Rattle.zvt_trace.specs.Meanings.{SpellsBytes, without_spaces}
use Rattle.zvt_trace.specs.Spelled.{spells}
use Rattle.zvt_trace.proofs.spelled.is_spelled.Given as goal

abbrev pub invariant-text : goal.invariant-text
invariant-text l = record {
  yes : SpellsBytes l.rest → SpellsBytes l.text;
  no : spells (without_spaces l.rest) ≡ None → spells (without_spaces l.text) ≡ None;
}

abbrev pub decreases-text : goal.decreases-text
decreases-text l = length l.rest
