use Rattle.std.proofs.Common.{[], ◌∷◌, None, cond, refl, sym, ap, subst, ◌∙◌}
use Rattle.zvt_till.specs.declared.happenings.Happening.TheVariants.{Heard as HeardIn}
use Rattle.zvt_till.specs.Events.{hears}
use Rattle.zvt_till.specs.Hearing.{heard_as}
use Rattle.zvt_till.specs.Line.{Answers}
use Rattle.zvt_till.specs.Numbers.{numbers_after}
use Rattle.zvt_till.specs.Sending.{reply_to}
use Rattle.zvt_till.specs.Till.{step}
use Rattle.zvt_kept.specs.Records.{heard}
use Rattle.zvt_settle.specs.Settling.{Line, take}
use Rattle.zvt_kept.specs.KeptTill.{Standing, both_in, message_heard, standing_of}
use Rattle.zvt_journal.specs.Text.{recovered}
use Rattle.zvt_kept.proofs.Logged.{heard_can, outlives}
use Rattle.zvt_kept.proofs.Made.{records_are_kept}
use Rattle.zvt_kept.proofs.Steps.{heard_follows, logs_one}
use Rattle.zvt_kept.proofs.keeping.take_message.Goals as goal

pub returns-in-Ok : goal.returns-in-Ok
returns-in-Ok g c =
    let V = g.D.Device in
    let m = c.args.apdu.now in
    let state = c.args.till.now.till.state in
    let old : Standing g.row.D.Denot = standing_of c.args.till.now c.args.journal.now.device c.args.journal.now.gate in
    let new : Standing g.row.D.Denot = standing_of c.hear.new.self c.keep_heard.new.journal.device c.keep_heard.new.journal.gate in
    let kept = c.in-Ok.ensures in
    let both = c.hear.ensures.both ∙ ap (λ h. take (both_in old) (Line (HeardIn h))) c.heard_view-heard.ensures in
    let goes = c.hear.ensures.inside.0 ∙ ap (λ h. step state (HeardIn h)) c.heard_view-heard.ensures in
    let named = c.hear.ensures.inside.2 ∙ ap (λ h. numbers_after state c.args.till.now.till.numbers (HeardIn h)) c.heard_view-heard.ensures in
    let replied = ap reply_to c.heard_view-heard.ensures ∙ sym (ap (λ b. cond b (reply_to (heard_as m)) None) c.requires.up) in
    record {
      up = c.requires.up;
      heard = (goes, subst (λ o. Answers o c.answers_to-answers.result) replied c.answers_to-answers.ensures.answers, c.hear.ensures.inside.1, named, c.hear.ensures.inside.3);
      both = both;
      logs = logs_one V.seen V.may_leave V.moment V.left_since V.faults old new (heard kept.0) kept.2.added (λ settings. hears m) c.requires.up (λ settings. refl) (heard_follows state c.requires.up) (λ settings. both) kept.2.is (λ settings. (m, kept.1, refl)) (λ settings. (hears m ∷ [], (m, kept.1, refl), refl)) (λ settings log has. heard_can settings (recovered (V.seen old.device)) log m kept.0 kept.1 has.recorded) kept.2.adds.durable.0 kept.2.adds.durable.1;
      outlives = outlives records_are_kept V.seen V.may_leave V.moment V.left_since V.faults old new (heard kept.0) kept.2.added (message_heard V.seen V.may_leave V.moment V.left_since V.faults m) kept.2.is (λ settings. (m, kept.1, refl)) (λ settings log has. heard_can settings (recovered (V.seen old.device)) log m kept.0 kept.1 has.recorded) kept.2.adds.leaves;
      later = kept.2.adds.later;
      recorded = (kept.0, kept.2);
    }

pub returns-in-Err : goal.returns-in-Err
returns-in-Err g c =
    let V = g.D.Device in
    let m = c.args.apdu.now in
    let old : Standing g.row.D.Denot = standing_of c.args.till.now c.args.journal.now.device c.args.journal.now.gate in
    let new : Standing g.row.D.Denot = standing_of c.lost.new.self c.keep_heard.new.journal.device c.keep_heard.new.journal.gate in
    let kept = c.in-Err.ensures in
    record {
      cause = kept.2.adds.cause;
      stays = kept.2.adds.stays;
      up = c.requires.up;
      lost = c.lost.ensures.inside;
      both = c.lost.ensures.both;
      outlives = outlives records_are_kept V.seen V.may_leave V.moment V.left_since V.faults old new (heard kept.0) kept.2.added (message_heard V.seen V.may_leave V.moment V.left_since V.faults m) kept.2.is (λ settings. (m, kept.1, refl)) (λ settings log has. heard_can settings (recovered (V.seen old.device)) log m kept.0 kept.1 has.recorded) kept.2.adds.leaves;
      recorded = (kept.0, kept.2);
    }
