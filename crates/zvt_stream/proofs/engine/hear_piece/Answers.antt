use Rattle.std.proofs.Common.{◌≡◌, ℕ, List, Some, arith, false, ◌||◌, refl, sym, ◌∙◌, subst}
use Rattle.std.proofs.lemmas.Result.{err_from_is_err_and}
use Rattle.zvt_io.proofs.KnownLemmas.{rest_of}
use Rattle.zvt_stream.proofs.LineRunLemmas.{Going, going_starts, going_message, going_ends, going_unanswered, not_stopped}
use Rattle.zvt_stream.proofs.LentLemmas.{feeds_shown}
use Rattle.zvt_stream.proofs.engine.hear_piece.Goals as goal

pub messages-init : goal.messages-init
messages-init g c = record { going = going_starts _ _ _ _ _; failures = refl; room = omega arith }

pub returns-in_err-sent-in-Ok-Message-clause-err :
    goal.returns-in_err-sent-in-Ok-Message-clause-err
returns-in_err-sent-in-Ok-Message-clause-err g c =
    let p = err_from_is_err_and c.from_residual.result c.from_residual.ensures.1 in
    let e = c.in_err-sent-in-Ok-Message.ensures in
    let has_message = rw c.in-Ok-Message.field-0-is at c.in-Ok-Message.ensures.fed in
    let fed = feeds_shown c.messages.stream c.feed_view.new.self _ c.in-Ok-Message.taken (Some c.message.result) c.message.result has_message c.message.ensures refl in
    rw (p.1, p.2) (going_unanswered c.message.result c.in-Ok-Message.taken _ _ _ _ c.messages.invariant.going fed e.err)

pub messages-preserved : goal.messages-preserved
messages-preserved g c =
    let reply = c.in_ok-sent-in-Ok-Message.ensures in
    let told = c.in-Ok-Message.ensures in
    let has_message = rw c.in-Ok-Message.field-0-is at told.fed in
    let fed = feeds_shown c.messages.stream c.feed_view.new.self _ c.in-Ok-Message.taken (Some c.message.result) c.message.result has_message c.message.ensures refl in
    let runs : c.messages.stream.stopped ≡ false = not_stopped c.messages.stream.stopped (λ e. let h = told.stopped e in cc) in
    let more = going_message c.message.result c.in-Ok-Message.taken _ _ _ c.in_ok-sent-in-Ok-Message.field-0 c.messages.invariant.going fed runs reply.ok in
    let P : List ℕ → Type 0 = λ r. Going g.M.Machine.hears c.args.stream.now c.args.piece.now c.feed_view.new.self r c.args.machine.now c.answer.new.machine (g.W.Sink.written c.args.writer.now) (g.W.Sink.written c.answer.new.writer) (c.messages.sent || c.in_ok-sent-in-Ok-Message.field-0) in
    record { going = subst P (sym (rest_of c.in-Ok-Message.taken c.messages.rest.now)) more; failures = reply.failures ∙ c.messages.invariant.failures; room = omega (arith, told.room, c.messages.invariant.room) }

pub returns-in-Ok-More-clause-ok : goal.returns-in-Ok-More-clause-ok
returns-in-Ok-More-clause-ok g c =
    let going = c.messages.invariant.going in
    let told = c.in-Ok-More.ensures in
    let has_message = rw c.in-Ok-More.field-0-is at told.fed in
    let runs : c.messages.stream.stopped ≡ false = not_stopped c.messages.stream.stopped (λ e. let h = told.stopped e in cc) in
    (going.written, going.appended, going_ends _ going has_message.0 runs)
