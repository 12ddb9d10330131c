use Rattle.std.proofs.Common.{append_assoc}
use Rattle.zvt_serve.specs.Status.{unended_part}
use Rattle.zvt_serve.proofs.Parts.{completes_ok}
use Rattle.zvt_serve.proofs.status.put_unended.Goals as goal

pub returns : goal.returns
unfolding unended_part
returns c =
    completes_ok c.put_running_key.result c.word-3.new.self c.put_running_key.new.text _ _
    (simp (c.in_ok-word-3.ensures, c.in_ok-word-2.ensures, c.in_ok-word.ensures, c.as_bytes.ensures.value, c.order_name.ensures, append_assoc))
    c.put_running_key.ensures
