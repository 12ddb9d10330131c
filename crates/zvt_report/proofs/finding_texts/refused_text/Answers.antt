use Rattle.std.proofs.Common.{append_assoc}
use Rattle.zvt_report.proofs.TextLemmas.{adds_completely}
use Rattle.zvt_report.proofs.finding_texts.refused_text.Goals as goal

pub returns : goal.returns
returns c =
    adds_completely c.word-7.result c.word-6.new.self c.word-7.new.self _ _
    (simp (c.in_ok-word-6.ensures, c.in_ok-word-5.ensures, c.as_bytes.ensures.value, c.name.ensures, c.in_ok-word-4.ensures, c.in_ok-word-3.ensures, c.why_words.ensures, c.in_ok-word-2.ensures, c.in_ok-number.ensures, c.in_ok-word.ensures, c.goes_on.ensures, append_assoc)) c.word-7.ensures
