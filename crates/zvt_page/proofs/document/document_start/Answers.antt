use Rattle.std.proofs.Common.{append_assoc}
use Rattle.zvt_page.specs.Document.{document_start}
use Rattle.zvt_page.proofs.Completing.{adds_completely}
use Rattle.zvt_page.proofs.document.document_start.Goals as goal

pub returns : goal.returns
unfolding document_start
returns c =
    adds_completely c.word-4.result c.escaped.new.text c.word-4.new.self _ _
    (simp (c.in_ok-escaped.ensures, c.in_ok-word-3.ensures, c.in_ok-word-2.ensures, c.in_ok-word.ensures, c.as_bytes-4.ensures.value, c.as_bytes-3.ensures.value, c.as_bytes-2.ensures.value, c.as_bytes.ensures.value, append_assoc))
    c.word-4.ensures
