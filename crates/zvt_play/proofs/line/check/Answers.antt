use Rattle.std.proofs.Common.{◌≡◌, ◌+◌, ◌-◌, Err, List, ℕ, length, refl, sym, ap, subst}
use Rattle.zvt_io.proofs.KnownLemmas.{rest_of}
use Rattle.zvt_stream.specs.LineReading.{reading_as}
use Rattle.zvt_stream.specs.StreamState.{StreamState}
use Rattle.zvt_play.specs.Script.{AwaitSays}
use Rattle.zvt_play.specs.declared.line.ScriptLineError.{ScriptLineError}
use Rattle.zvt_play.specs.declared.line.ScriptLineError.TheVariants.{NoMessage}
use Rattle.zvt_play.proofs.CheckLemmas.{Checked, can_come, cannot_come, none_checked, one_checked}
use Rattle.zvt_play.proofs.line.check.Goals as goal

pub messages-init : goal.messages-init
messages-init c = none_checked (reading_as c.args.form) c.args.bytes.now c.reading-stream.result (ap (λ (s : StreamState). s.held) c.reading-stream.ensures) (ap (λ (s : StreamState). s.stopped) c.reading-stream.ensures) (ap (λ (s : StreamState). s.reading) c.reading-stream.ensures)

pub messages-preserved : goal.messages-preserved
messages-preserved c =
    let fed = rw c.in-Ok-Message.field-0-is at c.in-Ok-Message.ensures.fed in
    subst (λ (r : List ℕ). Checked (reading_as c.args.form) c.args.bytes.now r c.feed_view.new.self) (sym (rest_of c.in-Ok-Message.taken c.messages.rest.now)) (one_checked (reading_as c.args.form) c.args.bytes.now c.messages.rest.now c.messages.stream c.feed_view.new.self c.in-Ok-Message.taken c.messages.invariant fed)

pub returns-in-Ok-More-clause-ok : goal.returns-in-Ok-More-clause-ok
returns-in-Ok-More-clause-ok c =
    let fed = rw c.in-Ok-More.field-0-is at c.in-Ok-More.ensures.fed in
    can_come (reading_as c.args.form) c.args.bytes.now c.messages.rest.now c.messages.stream c.feed_view.new.self c.messages.invariant fed

pub returns-in-Ok-Refused-clause-wrong : goal.returns-in-Ok-Refused-clause-wrong
returns-in-Ok-Refused-clause-wrong c = λ why is.
    let fed = rw c.in-Ok-Refused.field-0-is at c.in-Ok-Refused.ensures.fed in
    let at : ℕ = length c.args.bytes.now - length c.messages.rest.now + c.in-Ok-Refused.place in
    let same : NoMessage at c.in-Ok-Refused.why ≡ why = cc (is) in
    subst (λ (e : ScriptLineError). AwaitSays (reading_as c.args.form) c.args.bytes.now (Err e)) same (cannot_come (reading_as c.args.form) c.args.bytes.now c.messages.rest.now c.messages.stream c.feed_view.new.self c.in-Ok-Refused.place at c.in-Ok-Refused.why c.messages.invariant fed refl)
