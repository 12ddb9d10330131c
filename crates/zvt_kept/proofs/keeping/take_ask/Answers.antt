use Rattle.std.proofs.Common.{◌≡◌, List, ap, ap₂, refl, subst, ◌∙◌}
use Rattle.zvt_till.specs.declared.happenings.Happening.{Happening}
use Rattle.zvt_till.specs.declared.happenings.Happening.TheVariants.{Lost}
use Rattle.zvt_till.specs.Line.{till_loses}
use Rattle.zvt_till.specs.Sending.{Settings}
use Rattle.zvt_till.specs.View.{TillValue}
use Rattle.zvt_settle.specs.Settling.{Both, Settling, asks, settles}
use Rattle.zvt_kept.specs.Records.{asked}
use Rattle.zvt_kept.specs.KeptTill.{HasLog, Standing, both_in, no_event, standing_of}
use Rattle.zvt_kept.proofs.Logged.{ask_can, outlives}
use Rattle.zvt_kept.proofs.Made.{records_are_kept}
use Rattle.zvt_kept.proofs.Reserved.{ask_noted_after, recorded_after}
use Rattle.zvt_kept.proofs.Steps.{asked_up, logs_ask}
use Rattle.zvt_kept.proofs.keeping.take_ask.Goals as goal

lost_from : (old middle new : TillValue) → middle ≡ old → till_loses middle new → till_loses old new
lost_from old middle new same lost = subst (λ (t : TillValue). till_loses t new) same lost

pub reserve-requires : goal.reserve-requires
reserve-requires g c = (c.requires (asked_up c.args.till.now.till.state c.args.till.now.asking c.in-Ok.ensures.taken)).1.settled

-- it was refused
pub returns-in-Err : goal.returns-in-Err
returns-in-Err g c = (
  c.in-Err.ensures.refused,
  ap₂ (λ (t : TillValue) (s : Settling). record { till = t; settling = s; device = c.args.journal.now.device; gate = c.args.journal.now.gate }) c.prepare_ask.ensures.inside c.prepare_ask.ensures.settling,
  refl,
)

-- there was no space
pub returns-in-Err-reserve : goal.returns-in-Err-reserve
returns-in-Err-reserve g c = (
  record {
    taken = c.in-Ok.ensures.taken;
    inside = c.prepare_ask.ensures.inside;
    settling = c.prepare_ask.ensures.settling;
    full =
        record {
          cause = c.in-Err-reserve.ensures.cause;
          file = c.reserve.ensures.seen;
          settled = c.reserve.ensures.settled;
          leaves = c.reserve.ensures.any_moment;
          stays = c.reserve.ensures.gate;
        };
  },
  refl,
)

pub returns-in-Ok-keep_ask : goal.returns-in-Ok-keep_ask
returns-in-Ok-keep_ask g c =
    let V = g.D.Device in
    let old : Standing g.row.D.Denot = standing_of c.args.till.now c.args.journal.now.device c.args.journal.now.gate in
    let new : Standing g.row.D.Denot = standing_of c.begin_ask.new.self c.keep_ask.new.journal.device c.keep_ask.new.journal.gate in
    let took = c.in-Ok.ensures in
    let up = asked_up c.args.till.now.till.state c.args.till.now.asking took.taken in
    let settling = ap (λ (b : Both). b.settling) c.begin_ask.ensures.asked ∙ ap asks c.prepare_ask.ensures.settling in
    let inside = c.begin_ask.ensures.inside ∙ c.prepare_ask.ensures.inside in
    let both = ap₂ (λ (t : TillValue) (s : Settling). record { till = t.state; settling = s }) inside settling in
    let settled = (c.requires up).1.settled in
    let can = λ (settings : Settings) (log : List Happening) (has : HasLog V.seen V.may_leave V.moment V.left_since V.faults settings log old). ask_can settings log (V.seen old.device) (V.may_leave old.device) old.gate (both_in old) c.args.note.now up took.taken has in
    let kept = recorded_after V.seen V.may_leave V.moment V.left_since V.faults old.device c.reserve.new.self.device new.device (asked c.args.note.now) old.gate c.reserve.new.self.gate new.gate _
    settled c.reserve.ensures.seen c.reserve.ensures.gate c.reserve.ensures.faults c.reserve.ensures.any_moment c.in-Ok-keep_ask.ensures.recorded in (
      record {
        accepts = record { taken = took.taken; runs = settling; inside = inside; message = took.bytes };
        logs = logs_ask V.seen V.may_leave V.moment V.left_since V.faults old new c.args.note.now kept.added up both kept.is can kept.adds.durable.0 kept.adds.durable.1;
        outlives = outlives records_are_kept V.seen V.may_leave V.moment V.left_since V.faults old new (asked c.args.note.now) kept.added (no_event V.seen V.may_leave V.moment V.left_since V.faults) kept.is (λ settings. refl) can kept.adds.leaves;
        later = kept.adds.later;
        noted = ask_noted_after V.seen old.device c.reserve.new.self.device new.device c.args.note.now c.reserve.ensures.seen c.in-Ok-keep_ask.ensures.noted;
      },
      refl,
      kept,
    )

pub returns-in-Err-keep_ask : goal.returns-in-Err-keep_ask
returns-in-Err-keep_ask g c =
    let V = g.D.Device in
    let old : Standing g.row.D.Denot = standing_of c.args.till.now c.args.journal.now.device c.args.journal.now.gate in
    let new : Standing g.row.D.Denot = standing_of c.lost.new.self c.keep_ask.new.journal.device c.keep_ask.new.journal.gate in
    let took = c.in-Ok.ensures in
    let up = asked_up c.args.till.now.till.state c.args.till.now.asking took.taken in
    let settling = ap (λ (b : Both). b.settling) c.begin_ask.ensures.asked ∙ ap asks c.prepare_ask.ensures.settling in
    let inside = c.begin_ask.ensures.inside ∙ c.prepare_ask.ensures.inside in
    let settled = (c.requires up).1.settled in
    let can = λ (settings : Settings) (log : List Happening) (has : HasLog V.seen V.may_leave V.moment V.left_since V.faults settings log old). ask_can settings log (V.seen old.device) (V.may_leave old.device) old.gate (both_in old) c.args.note.now up took.taken has in
    let kept = recorded_after V.seen V.may_leave V.moment V.left_since V.faults old.device c.reserve.new.self.device new.device (asked c.args.note.now) old.gate c.reserve.new.self.gate new.gate _
    settled c.reserve.ensures.seen c.reserve.ensures.gate c.reserve.ensures.faults c.reserve.ensures.any_moment c.in-Err-keep_ask.ensures.recorded in (
      c.in-Err-keep_ask.fault,
      refl,
      record {
        cause = kept.adds.cause;
        stays = kept.adds.stays;
        loses =
            record {
              taken = took.taken;
              ended = ap (λ (b : Both). b.settling) c.lost.ensures.both ∙ ap₂ (λ (t : TillValue) (s : Settling). settles t.state s Lost) inside settling;
              lost = lost_from c.args.till.now.till c.begin_ask.new.self.till c.lost.new.self.till inside c.lost.ensures.inside;
            };
        outlives = outlives records_are_kept V.seen V.may_leave V.moment V.left_since V.faults old new (asked c.args.note.now) kept.added (no_event V.seen V.may_leave V.moment V.left_since V.faults) kept.is (λ settings. refl) can kept.adds.leaves;
      },
      kept,
    )
