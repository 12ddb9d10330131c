use Rattle.std.proofs.Common.{append_assoc}
use Rattle.zvt_web.specs.Connection.{event_text}
use Rattle.zvt_web.proofs.Lists.{completes}
use Rattle.zvt_web.proofs.sending.put_event.Goals as goal

pub returns : goal.returns
unfolding event_text
returns c =
    completes c.put-4.result c.put_letters.new.out.items c.put-4.new.out.items _ _
    (simp (c.in_ok-put_letters.ensures, c.in_ok-put-3.ensures, c.in_ok-put-2.ensures, c.in_ok-put.ensures, c.as_bytes.ensures.value, c.in_ok-digits.ensures.ok, append_assoc))
    c.put-4.ensures
