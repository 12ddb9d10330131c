use Rattle.std.proofs.Common.{append_assoc}
use Rattle.zvt_web.specs.Refusals.{refusal_body}
use Rattle.zvt_web.proofs.Lists.{completes}
use Rattle.zvt_web.proofs.refusals.Refusal.put_body.Goals as goal

pub returns : goal.returns
unfolding refusal_body
returns c =
    completes c.put-5.result c.put-4.new.out.items c.put-5.new.out.items _ _
    (simp (c.in_ok-put-4.ensures, c.in_ok-put-3.ensures, c.in_ok-put-2.ensures, c.in_ok-put.ensures, c.as_bytes-2.ensures.value, c.as_bytes.ensures.value, c.message.ensures, c.name.ensures, append_assoc))
    c.put-5.ensures
