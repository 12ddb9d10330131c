use Rattle.std.proofs.Common.{codes, [], ◌∷◌}
use Rattle.std.specs.List.{flat_map}
use Rattle.zvt_serve.specs.Answers.{key_letter}
use Rattle.zvt_serve.proofs.Parts.{three_parts}
use Rattle.zvt_serve.proofs.status.put_running_letters.Goals as goal

pub returns : goal.returns
returns c =
    three_parts c.word-2.result c.args.text.now c.word.new.self c.put_letters.new.text c.word-2.new.self (codes ",\"running_key\":\"") (flat_map key_letter c.args.key.now) (34 ∷ []) c.in_ok-word.ensures
    c.in_ok-put_letters.ensures c.word-2.ensures
