use Rattle.std.proofs.Common.{ap, arith, sym, subst, map, Some, take, ◌∙◌}
use Rattle.zvt_till.specs.Settings.{settings_of}
use Rattle.zvt_till.specs.declared.happenings.Happening.TheVariants.{Connected}
use Rattle.zvt_settle.specs.Inside.{both_of}
use Rattle.zvt_settle.specs.Settling.{Both, Line, take as takes}
use Rattle.zvt_kept.specs.Reading.{kept_of}
use Rattle.zvt_till.specs.View.{TillValue}
use Rattle.zvt_kept.specs.Recovery.{Replays}
use Rattle.zvt_kept.specs.RowNotes.{booked_rows, grown, unclear_rows}
use Rattle.zvt_kept.specs.PastOrders.{followed}
use Rattle.zvt_kept.proofs.PastOrderLemmas.{PastSoFar, none_past, past_at_end, past_on}
use Rattle.zvt_kept.proofs.Recovering.{SoFar, at_end, foreign, none_yet, one_more}
use Rattle.zvt_kept.proofs.Replayed.{all_asked, asked_more, none_asked, settled_at_end}
use Rattle.zvt_kept.proofs.RowNoteLemmas.{NotedSoFar, none_noted, noted_at_end, noted_on}
use Rattle.zvt_kept.proofs.recovery.recover.Goals as goal

pub loop-at-init : goal.loop-at-init
loop-at-init c =
    let settings = settings_of c.args.settings.now in
    let entries = c.deref-entry-items.result.now in
    let lived = none_yet settings entries c.with_settings.result.state c.connected.new.self.till.state c.with_settings.ensures.state (ap (λ (b : Both). b.till) (c.connected.ensures.both ∙ ap (λ (b : Both). takes b (Line Connected)) c.new-till.ensures.both)) in
    record {
      lived = lived;
      settles = none_asked settings entries c.with_settings.result.state (both_of c.new-till.result) (both_of c.connected.new.self) c.with_settings.ensures.state c.new-till.ensures.both c.connected.ensures.both;
      noted = none_noted settings entries c.with_settings.result.state c.connected.new.self.till.state c.new-notes.result.last c.new-notes.result.booked.items c.new-notes.result.unclear.items
          c.with_settings.ensures.state (ap (λ (b : Both). b.till) (c.connected.ensures.both ∙ ap (λ (b : Both). takes b (Line Connected)) c.new-till.ensures.both)) c.new-notes.ensures.booked c.new-notes.ensures.unclear lived;
      past = none_past settings c.connected.new.self.till.state c.new-orders.result c.new-orders.ensures (record { happened = lived.happened; happens = lived.happens; stands = lived.stands });
    }

pub returns-then-not-branch-2 : goal.returns-then-not-branch-2
returns-then-not-branch-2 c =
    record {
      notes = tt;
      settling = tt;
      orders = tt;
      till = foreign (settings_of c.args.settings.now) c.args.text.now c.deref-entry-items.result.now c.loop-at.at c.entry-item.result (both_of c.loop-at.till) (both_of c.relive.new.till) c.loop-at-test.true c.entry-item.is
          (c.in-Ok.ensures ∙ ap (λ es. Some (map kept_of es)) (sym c.deref-entry-items.ensures.value))
          (subst (λ can. Replays can (kept_of c.entry-item.result) (both_of c.loop-at.till) (both_of c.relive.new.till)) c.if-not-branch-2.true c.in_ok-relive.ensures) c.loop-at.invariant.lived c.loop-at.invariant.settles;
    }

pub loop-at-preserved : goal.loop-at-preserved
loop-at-preserved c =
    let settings = settings_of c.args.settings.now in
    let entries = c.deref-entry-items.result.now in
    let both = subst (λ can. Replays can (kept_of c.entry-item.result) (both_of c.loop-at.till) (both_of c.relive.new.till)) c.if-not-branch-2.false c.in_ok-relive.ensures in
    let lives = both.0 in
    record {
      lived = one_more settings entries c.loop-at.at c.entry-item.result c.loop-at.till.till.state c.relive.new.till.till.state c.loop-at-test.true c.entry-item.is lives c.loop-at.invariant.lived;
      settles = asked_more settings entries c.loop-at.at c.entry-item.result (both_of c.loop-at.till) (both_of c.relive.new.till) c.loop-at-test.true c.entry-item.is both c.loop-at.invariant.settles;
      noted = noted_on settings entries c.loop-at.at c.entry-item.result c.loop-at.till.till.state c.relive.new.till.till.state
          c.loop-at.notes.last c.hold.new.self.last c.follow.new.self.last c.loop-at.notes.booked.items c.hold.new.self.booked.items c.follow.new.self.booked.items c.loop-at.notes.unclear.items c.hold.new.self.unclear.items c.follow.new.self.unclear.items
          c.loop-at-test.true c.entry-item.is c.hold.ensures.last (ap (λ v. v.items) c.hold.ensures.booked) (ap (λ v. v.items) c.hold.ensures.unclear)
          c.in_ok-follow.ensures.last
          (c.in_ok-follow.ensures.booked ∙ ap (λ (t : TillValue). grown c.hold.new.self.booked.items (booked_rows t.state) c.hold.new.self.last) c.till.ensures)
          (c.in_ok-follow.ensures.unclear ∙ ap (λ (t : TillValue). grown c.hold.new.self.unclear.items (unclear_rows t.state) c.hold.new.self.last) c.till.ensures) lives c.loop-at.invariant.lived.up c.loop-at.invariant.noted;
      past = past_on settings entries c.loop-at.at c.entry-item.result c.loop-at.till.till.state c.relive.new.till.till.state c.loop-at.orders c.hold-in-loop-at.new.self c.follow-in-loop-at.new.self
          c.loop-at-test.true c.entry-item.is c.in_ok-hold.ensures (c.follow-in-loop-at.ensures ∙ ap (λ (t : TillValue). followed c.hold-in-loop-at.new.self t.state) c.till-in-loop-at.ensures) lives c.loop-at.invariant.lived.up c.loop-at.invariant.past;
    }

pub returns-clause-till : goal.returns-clause-till
returns-clause-till c =
    at_end (settings_of c.args.settings.now) c.args.text.now c.deref-entry-items.result.now c.loop-at.till.till.state c.lost.new.self.till.state (c.in_ok-has_opening.ensures.0 c.if-not-branch.false)
    (c.in-Ok.ensures ∙ ap (λ es. Some (map kept_of es)) (sym c.deref-entry-items.ensures.value))
    (subst (λ n. SoFar (settings_of c.args.settings.now) c.deref-entry-items.result.now n c.loop-at.till.till.state) (omega (arith, c.loop-at-test.false, c.loop-at.auto.at-end)) c.loop-at.invariant.lived)
    (all_asked (settings_of c.args.settings.now) c.deref-entry-items.result.now c.loop-at.at (both_of c.loop-at.till) (omega (arith, c.loop-at-test.false, c.loop-at.auto.at-end)) c.loop-at.invariant.settles).asks c.lost.ensures.inside.0

pub returns-clause-settling : goal.returns-clause-settling
returns-clause-settling c =
    settled_at_end (settings_of c.args.settings.now) c.args.text.now c.deref-entry-items.result.now (both_of c.loop-at.till) (both_of c.lost.new.self)
    (c.in-Ok.ensures ∙ ap (λ es. Some (map kept_of es)) (sym c.deref-entry-items.ensures.value)) c.lost.ensures.both
    (all_asked (settings_of c.args.settings.now) c.deref-entry-items.result.now c.loop-at.at (both_of c.loop-at.till) (omega (arith, c.loop-at-test.false, c.loop-at.auto.at-end)) c.loop-at.invariant.settles)

pub returns-clause-notes : goal.returns-clause-notes
returns-clause-notes c =
    let settings = settings_of c.args.settings.now in
    let entries = c.deref-entry-items.result.now in
    noted_at_end settings c.args.text.now entries c.loop-at.till.till.state c.lost.new.self.till.state c.loop-at.notes.last c.loop-at.notes.booked.items c.follow-2.new.self.booked.items c.loop-at.notes.unclear.items c.follow-2.new.self.unclear.items
    (c.in-Ok.ensures ∙ ap (λ es. Some (map kept_of es)) (sym c.deref-entry-items.ensures.value)) c.loop-at.invariant.lived.up c.lost.ensures.inside.0
    (c.in_ok-follow-2.ensures.booked ∙ ap (λ (t : TillValue). grown c.loop-at.notes.booked.items (booked_rows t.state) c.loop-at.notes.last) c.till-2.ensures)
    (c.in_ok-follow-2.ensures.unclear ∙ ap (λ (t : TillValue). grown c.loop-at.notes.unclear.items (unclear_rows t.state) c.loop-at.notes.last) c.till-2.ensures)
    (subst (λ n. NotedSoFar settings (map kept_of (take n entries)) c.loop-at.till.till.state c.loop-at.notes.last c.loop-at.notes.booked.items c.loop-at.notes.unclear.items) (omega (arith, c.loop-at-test.false, c.loop-at.auto.at-end)) c.loop-at.invariant.noted)

pub returns-clause-orders : goal.returns-clause-orders
returns-clause-orders c =
    let settings = settings_of c.args.settings.now in
    let entries = c.deref-entry-items.result.now in
    past_at_end settings c.args.text.now entries c.loop-at.till.till.state c.lost.new.self.till.state c.loop-at.orders c.follow-3.new.self
    (c.in-Ok.ensures ∙ ap (λ es. Some (map kept_of es)) (sym c.deref-entry-items.ensures.value)) c.loop-at.invariant.lived.up c.lost.ensures.inside.0
    (c.follow-3.ensures ∙ ap (λ (t : TillValue). followed c.loop-at.orders t.state) c.till-3.ensures)
    (subst (λ n. PastSoFar settings (map kept_of (take n entries)) c.loop-at.till.till.state c.loop-at.orders) (omega (arith, c.loop-at-test.false, c.loop-at.auto.at-end)) c.loop-at.invariant.past)
