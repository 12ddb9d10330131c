use Rattle.std.proofs.Common.{ap, length, ◌∙◌}
use Rattle.zvt_settle.specs.Inside.{both_of}
use Rattle.zvt_settle.specs.Settling.{Line, take}
use Rattle.zvt_till.specs.declared.happenings.Happening.TheVariants.{Heard as HeardIn}
use Rattle.zvt_kept.specs.Records.{heard}
use Rattle.zvt_kept.proofs.Relived.{no_message, not_all}
use Rattle.zvt_kept.proofs.Replayed.{dies, message_replays}
use Rattle.zvt_kept.proofs.recovery.relive_message.Goals as goal

pub returns-in_default : goal.returns-in_default
returns-in_default c =
    let both = both_of c.args.till.now in
    dies (heard c.args.bytes.now) both both
    (no_message c.args.bytes.now c.in_ok-apdu.field-0 both.till both.till c.in_ok-apdu.ensures (λ m is. c.in_default.not-Whole (m, length c.args.bytes.now) is))

pub returns-then-size-bytes : goal.returns-then-size-bytes
returns-then-size-bytes c =
    let both = both_of c.args.till.now in
    dies (heard c.args.bytes.now) both both
    (no_message c.args.bytes.now c.in_ok-apdu.field-0 both.till both.till c.in_ok-apdu.ensures
    (not_all c.in-Whole.apdu c.in-Whole.size c.args.bytes.now c.in_ok-apdu.field-0 c.in-Whole.is c.if-size-bytes.true))

pub returns : goal.returns
returns c =
    message_replays c.in-Whole.apdu c.in-Whole.size c.args.bytes.now c.in_ok-apdu.field-0 (both_of c.args.till.now) (both_of c.hear.new.self) c.in_ok-apdu.ensures c.in-Whole.is c.if-size-bytes.false
    (c.hear.ensures.both ∙ ap (λ h. take (both_of c.args.till.now) (Line (HeardIn h))) c.heard.ensures)
