use Rattle.std.proofs.Common.{append_assoc}
use Rattle.zvt_serve.specs.Troubles.{trouble_body}
use Rattle.zvt_serve.proofs.Parts.{completes}
use Rattle.zvt_serve.proofs.troubles.Trouble.put_body.Goals as goal

pub returns : goal.returns
unfolding trouble_body
returns c =
    completes c.word-6.result c.put_bool.new.text c.word-6.new.self _ _
    (simp (c.in_ok-put_bool.ensures, c.in_ok-word-5.ensures, c.in_ok-word-4.ensures, c.in_ok-word-3.ensures, c.in_ok-word-2.ensures, c.in_ok-word.ensures, c.as_bytes-2.ensures.value, c.as_bytes.ensures.value, c.message.ensures, c.name.ensures, c.was_sent.ensures, append_assoc))
    c.word-6.ensures
