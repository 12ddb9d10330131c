use Rattle.std.specs.Prelude.{codes}
use Rattle.zvt_text.specs.Bytes.{hex_of}
use Rattle.zvt_show.proofs.TextLemmas.{adds_ok, two_parts}
use Rattle.zvt_show.proofs.diagnostics.note.put_name.Goals as goal

pub returns-in_ok-word-in-One : goal.returns-in_ok-word-in-One
returns-in_ok-word-in-One c =
    rw c.in-One.is (two_parts c.hexadecimal.result _ _ _ (codes "a message of ") (hex_of c.in-One.high) c.in_ok-word-in-One.ensures (adds_ok c.hexadecimal.result _ _ (hex_of c.in-One.high) c.hexadecimal.ensures))
