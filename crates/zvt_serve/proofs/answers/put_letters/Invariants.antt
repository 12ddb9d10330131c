use Rattle.std.proofs.Common.{◌≡◌, ◌++◌, length}
use Rattle.std.specs.List.{flat_map}
use Rattle.zvt_serve.specs.Answers.{key_letter}
use Rattle.zvt_serve.proofs.answers.put_letters.Given as goal

abbrev pub invariant-letters : goal.invariant-letters
invariant-letters l = l.text ++ flat_map key_letter l.rest ≡ l.initial.text ++ flat_map key_letter l.letters

abbrev pub decreases-letters : goal.decreases-letters
decreases-letters l = length l.rest
