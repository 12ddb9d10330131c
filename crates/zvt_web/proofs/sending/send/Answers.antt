use Rattle.http1.specs.Head.{pairs}
use Rattle.zvt_web.specs.Connection.{answer_refusal}
use Rattle.zvt_web.proofs.Lists.{completes}
use Rattle.zvt_web.proofs.Refusing.{first_fails}
use Rattle.zvt_web.proofs.Answering.{body_fails, end_fails, on_ok, server_of_answer, text_of_answer}
use Rattle.zvt_web.proofs.sending.send.Goals as goal

pub returns-in-Err-clause-err : goal.returns-in-Err-clause-err
unfolding answer_refusal
returns-in-Err-clause-err c = first_fails c.in-Err.error _ _ c.in-Err.ensures.outcome

pub returns-in-Err-send_body-clause-err : goal.returns-in-Err-send_body-clause-err
returns-in-Err-send_body-clause-err c =
    body_fails c.args.is_head c.args.server.now c.send_head.new.server c.args.status (pairs c.args.headers.now) c.args.body.now
    c.in_default.ensures.next c.in-Err-send_body.error c.in_default.ensures.outcome c.in-Err-send_body.ensures.outcome

pub returns-clause-text : goal.returns-clause-text
returns-clause-text c =
    completes c.send_end.result c.send_body.new.out.items c.send_end.new.out.items _ _
    (text_of_answer c.args.is_head c.args.server.now c.send_head.new.server c.send_body.new.server c.args.status (pairs c.args.headers.now) c.args.body.now
    c.in_default.ensures.next c.in_default-send_body.ensures.next c.args.out.now.items c.send_head.new.out.items c.send_body.new.out.items c.in_default.ensures.text c.in_default-send_body.ensures.text)
    c.send_end.ensures.text

pub returns-clause-next : goal.returns-clause-next
returns-clause-next c =
    on_ok _ _ c.send_end.result
    (server_of_answer c.args.is_head c.args.server.now c.send_head.new.server c.send_body.new.server c.args.status (pairs c.args.headers.now) c.args.body.now
    c.in_default.ensures.next c.in_default-send_body.ensures.next c.send_end.new.server)
    c.send_end.ensures.next

pub returns-clause-err : goal.returns-clause-err
returns-clause-err c =
    end_fails c.args.is_head c.args.server.now c.send_head.new.server c.send_body.new.server c.args.status (pairs c.args.headers.now) c.args.body.now
    c.in_default.ensures.next c.in_default-send_body.ensures.next c.send_end.result c.in_default.ensures.outcome c.in_default-send_body.ensures.outcome c.send_end.ensures.outcome
