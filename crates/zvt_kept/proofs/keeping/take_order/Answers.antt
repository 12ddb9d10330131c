use Rattle.std.proofs.Common.{List, [], ◌∷◌, ◌≤◌, arith, refl, sym, ap, ◌∙◌}
use Rattle.zvt_till.specs.declared.happenings.Happening.TheVariants.{Sent as SentOut, Lost}
use Rattle.zvt_till.specs.declared.happenings.Happening.{Happening}
use Rattle.zvt_till.specs.Numbers.{numbers_begun}
use Rattle.zvt_till.specs.Sending.{Settings}
use Rattle.zvt_till.specs.Refusals.{refusal, sent_as}
use Rattle.zvt_till.specs.Till.{TillState, accept, facts_of, step}
use Rattle.zvt_till.specs.View.{TillValue}
use Rattle.zvt_till.proofs.NumbersHeard.{ordered-keeps}
use Rattle.zvt_kept.specs.Records.{ordered}
use Rattle.zvt_settle.specs.Settling.{Both, Line, sent, take}
use Rattle.zvt_kept.specs.KeptTill.{HasLog, Standing, both_in, order_sent, standing_of}
use Rattle.zvt_kept.proofs.AskLemmas.{order_is}
use Rattle.zvt_kept.proofs.Logged.{order_can, outlives}
use Rattle.zvt_kept.proofs.Made.{records_are_kept}
use Rattle.zvt_till.proofs.Room.{takes-one}
use Rattle.zvt_kept.proofs.Reserved.{noted_after, recorded_after}
use Rattle.zvt_kept.proofs.Steps.{logs_one, order_follows, taken_up}
use Rattle.zvt_kept.proofs.keeping.take_order.Goals as goal

pub reserve-requires : goal.reserve-requires
reserve-requires g c = (c.requires (taken_up c.args.till.now.till.state c.args.order c.in-Ok.ensures.taken)).1.settled

pub keep_order-requires-clause-spelled : goal.keep_order-requires-clause-spelled
keep_order-requires-clause-spelled g c = c.has_words.ensures (ap (λ (t : TillValue). refusal (facts_of t.state) c.args.order) c.till.ensures ∙ c.in-Ok.ensures.taken)

-- there was no space
pub returns-in-Err-reserve : goal.returns-in-Err-reserve
returns-in-Err-reserve g c = (
  record {
    taken = c.in-Ok.ensures.taken;
    state = c.prepare.ensures.inside.0;
    settling = ap (λ b. b.settling) c.prepare.ensures.both;
    room = c.prepare.ensures.inside.1;
    numbers = c.prepare.ensures.inside.2;
    heard = c.prepare.ensures.inside.3;
    full =
        record {
          cause = c.in-Err-reserve.ensures.cause;
          file = c.reserve.ensures.seen;
          settled = c.reserve.ensures.settled;
          leaves = c.reserve.ensures.any_moment;
          stays = c.reserve.ensures.gate;
        };
  },
  refl,
)

pub returns-in-Ok-keep_order : goal.returns-in-Ok-keep_order
returns-in-Ok-keep_order g c =
    let V = g.D.Device in
    let order = c.args.order in
    let state = c.args.till.now.till.state in
    let old : Standing g.row.D.Denot = standing_of c.args.till.now c.args.journal.now.device c.args.journal.now.gate in
    let new : Standing g.row.D.Denot = standing_of c.begin.new.self c.keep_order.new.journal.device c.keep_order.new.journal.gate in
    let took = c.in-Ok.ensures in
    let runs = c.begin.ensures.inside.0 ∙ ap (λ (s : TillState). accept s order) c.prepare.ensures.inside.0 in
    let both = c.begin.ensures.both ∙ ap (λ (b : Both). record { till = accept b.till order; settling = sent b.settling order }) c.prepare.ensures.both in
    let settled = (c.requires (taken_up state order took.taken)).1.settled in
    let can = λ (settings : Settings) (log : List Happening) (has : HasLog V.seen V.may_leave V.moment V.left_since V.faults settings log old). order_can settings log (V.seen old.device) (V.may_leave old.device) old.gate (both_in old) order c.args.note.now (taken_up state order took.taken) took.idle has in
    let kept = recorded_after V.seen V.may_leave V.moment V.left_since V.faults old.device c.reserve.new.self.device new.device (ordered order c.args.note.now) old.gate c.reserve.new.self.gate new.gate _
    settled c.reserve.ensures.seen c.reserve.ensures.gate c.reserve.ensures.faults c.reserve.ensures.any_moment c.in-Ok-keep_order.ensures.recorded in
    let noted = noted_after V.seen V.may_leave V.moment V.left_since V.faults old.device c.reserve.new.self.device new.device order c.args.note.now c.reserve.ensures.seen c.in-Ok-keep_order.ensures.noted in (
      record {
        taken = took.taken;
        message = took.message;
        runs = runs;
        idle = took.idle;
        settling = ap (λ b. b.settling) both;
        room = omega (arith, c.prepare.ensures.inside.1, c.begin.ensures.inside.1);
        numbers = c.begin.ensures.inside.2 ∙ ap (λ n. numbers_begun n order) c.prepare.ensures.inside.2;
        heard = c.begin.ensures.inside.3 ∙ c.prepare.ensures.inside.3;
        logs = logs_one V.seen V.may_leave V.moment V.left_since V.faults old new (ordered order c.args.note.now) kept.added (λ settings. SentOut (sent_as settings.currency order)) (taken_up state order took.taken) (λ settings. refl) (order_follows order state took.taken)
            (λ settings. both ∙ sym (order_is settings.currency (both_in old) order)) kept.is (λ settings. refl) (λ settings. (SentOut (sent_as settings.currency order) ∷ [], refl, refl)) can kept.adds.durable.0 kept.adds.durable.1;
        outlives = outlives records_are_kept V.seen V.may_leave V.moment V.left_since V.faults old new (ordered order c.args.note.now) kept.added (order_sent V.seen V.may_leave V.moment V.left_since V.faults order) kept.is (λ settings. refl) can kept.adds.leaves;
        later = kept.adds.later;
      },
      refl,
      noted,
      kept,
    )

pub returns-in-Err-keep_order : goal.returns-in-Err-keep_order
returns-in-Err-keep_order g c =
    let V = g.D.Device in
    let order = c.args.order in
    let state = c.args.till.now.till.state in
    let old : Standing g.row.D.Denot = standing_of c.args.till.now c.args.journal.now.device c.args.journal.now.gate in
    let new : Standing g.row.D.Denot = standing_of c.lost.new.self c.keep_order.new.journal.device c.keep_order.new.journal.gate in
    let took = c.in-Ok.ensures in
    let runs = c.begin.ensures.inside.0 ∙ ap (λ (s : TillState). accept s order) c.prepare.ensures.inside.0 in
    let room : c.args.till.now.till.spare ≤ c.begin.new.self.till.spare = omega (arith, c.prepare.ensures.inside.1, c.begin.ensures.inside.1) in
    let heard = c.begin.ensures.inside.3 ∙ c.prepare.ensures.inside.3 in
    let gone = c.lost.ensures.inside in
    let both = c.begin.ensures.both ∙ ap (λ (b : Both). record { till = accept b.till order; settling = sent b.settling order }) c.prepare.ensures.both in
    let settled = (c.requires (taken_up state order took.taken)).1.settled in
    let can = λ (settings : Settings) (log : List Happening) (has : HasLog V.seen V.may_leave V.moment V.left_since V.faults settings log old). order_can settings log (V.seen old.device) (V.may_leave old.device) old.gate (both_in old) order c.args.note.now (taken_up state order took.taken) took.idle has in
    let kept = recorded_after V.seen V.may_leave V.moment V.left_since V.faults old.device c.reserve.new.self.device new.device (ordered order c.args.note.now) old.gate c.reserve.new.self.gate new.gate _
    settled c.reserve.ensures.seen c.reserve.ensures.gate c.reserve.ensures.faults c.reserve.ensures.any_moment c.in-Err-keep_order.ensures.recorded in (
      c.in-Err-keep_order.why,
      refl,
      record {
        cause = kept.adds.cause;
        stays = kept.adds.stays;
        taken = took.taken;
        lost = gone.0 ∙ ap (λ s. step s Lost) runs;
        both = c.lost.ensures.both ∙ ap (λ b. take b (Line Lost)) both;
        room = takes-one c.args.till.now.till c.begin.new.self.till c.lost.new.self.till room gone.1;
        numbers = gone.2 ∙ c.begin.ensures.inside.2 ∙ ap (λ n. numbers_begun n order) c.prepare.ensures.inside.2;
        heard = ordered-keeps order c.args.till.now.till c.begin.new.self.till c.lost.new.self.till runs heard gone.3;
        outlives = outlives records_are_kept V.seen V.may_leave V.moment V.left_since V.faults old new (ordered order c.args.note.now) kept.added (order_sent V.seen V.may_leave V.moment V.left_since V.faults order) kept.is (λ settings. refl) can kept.adds.leaves;
      },
      kept,
    )
