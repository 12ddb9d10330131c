use Rattle.std.proofs.Common.{◌≡◌, Bor, ℕ, List, length, arith, refl, rules}
use Rattle.std.proofs.lemmas.Result.{err_from_is_err_and}
use Rattle.zvt_trace.specs.Listening.{fault_of}
use Rattle.zvt_trace.proofs.SpelledLemmas.{no_text}
use Rattle.zvt_trace.proofs.TallyLemmas.{CountsBeside, FailsBeside, fault_beside, heard_beside}
use Rattle.zvt_trace.proofs.WalkedLemmas.{all_walked, failed, none_walked, one_walked, plain_failed, plain_walked}
use Rattle.zvt_trace.proofs.walker.Progress.read_lines.Goals as goal

pub lines-init : goal.lines-init
lines-init g c = record {
  so_far = λ before earlier has. none_walked (CountsBeside (λ b. b.now) (λ b. b.ghost_name) g.L.Listener.hears g.L.Listener.fails) _ before earlier _ c.args.self.now _ has;
  reading = c.requires.sound.reading;
  options = refl;
  size = refl;
  lines = omega (arith, c.requires.sound.lines);
}

pub lines-preserved-in_default : goal.lines-preserved-in_default
lines-preserved-in_default g c =
    let inv = c.lines.invariant in
    record {
      so_far = λ before earlier has.
          let so = inv.so_far before earlier has in
          let first = c.in_ok-rest.ensures.emits so.sides so.follow in
          one_walked (CountsBeside (λ b. b.now) (λ b. b.ghost_name) g.L.Listener.hears g.L.Listener.fails) (FailsBeside (λ b. b.now) (λ b. b.ghost_name) g.L.Listener.hears g.L.Listener.fails) _ _ earlier _ c.lines.rest.now first.0 _ c.lines.number c.lines.self.sides _ _ _ _
          so first.1 first.3 first.2;
      reading = c.in_ok-rest.ensures.reading;
      options = inv.options;
      size = inv.size;
      lines = omega (arith, inv.lines, c.in_ok-rest.ensures.less);
    }

pub feed_piece-requires-clause-spelled : goal.feed_piece-requires-clause-spelled
feed_piece-requires-clause-spelled g c = no_text

pub lines-preserved : goal.lines-preserved
lines-preserved g c =
    let inv = c.lines.invariant in
    let plain = c.in-Some.plain in
    record {
      so_far = λ before earlier has.
          let so = inv.so_far before earlier has in
          let first = plain_walked (λ (after : Bor (List ℕ)). after.now) (CountsBeside (λ b. b.now) (λ b. b.ghost_name) g.L.Listener.hears g.L.Listener.fails) (FailsBeside (λ b. b.now) (λ b. b.ghost_name) g.L.Listener.hears g.L.Listener.fails) _ _ c.lines.rest.now plain.after c.plain_piece.new.buffer plain.count plain.from so.sides c.feed_piece.new.self _ _ c.in-Some.ensures.few c.in-Some.ensures.begins
          (c.in_ok-feed_piece.ensures.emits so.sides so.follow) in
          one_walked (CountsBeside (λ b. b.now) (λ b. b.ghost_name) g.L.Listener.hears g.L.Listener.fails) (FailsBeside (λ b. b.now) (λ b. b.ghost_name) g.L.Listener.hears g.L.Listener.fails) _ _ earlier _ c.lines.rest.now first.0 _ c.lines.number c.lines.self.sides _ _ _ _
          so first.1 first.3 first.2;
      reading = c.in_ok-feed_piece.ensures.reading;
      options = inv.options;
      size = inv.size;
      lines = omega (arith, inv.lines, c.in-Some.ensures.begins.4);
    }

pub returns-in_err-feed_piece-clause-walks : goal.returns-in_err-feed_piece-clause-walks
returns-in_err-feed_piece-clause-walks g c = λ before earlier has.
    let p = err_from_is_err_and c.from_residual-in_err-feed_piece.result c.from_residual-in_err-feed_piece.ensures.1 in
    let so = c.lines.invariant.so_far before earlier has in
    let plain = c.in-Some.plain in
    let first = plain_failed (λ (after : List ℕ). after) (CountsBeside (λ b. b.now) (λ b. b.ghost_name) g.L.Listener.hears g.L.Listener.fails) (FailsBeside (λ b. b.now) (λ b. b.ghost_name) g.L.Listener.hears g.L.Listener.fails) c.in_err-feed_piece.field-0.0 _ _ c.lines.rest.now plain.after.now c.plain_piece.new.buffer plain.count plain.from so.sides c.feed_piece.new.self _ _ c.in-Some.ensures.begins
    (c.in_err-feed_piece.ensures.emits so.sides so.follow) in
    rw (p.1, p.2) (λ others. fault_beside (λ b. b.now) (λ b. b.ghost_name) g.L.Listener.hears g.L.Listener.fails _ _ _ earlier _ _ c.feed_piece.new.listener _ c.in_err-feed_piece.listener-in-Break-branch-2-1-own.given.1
    (failed (CountsBeside (λ b. b.now) (λ b. b.ghost_name) g.L.Listener.hears g.L.Listener.fails) (FailsBeside (λ b. b.now) (λ b. b.ghost_name) g.L.Listener.hears g.L.Listener.fails) _ _ earlier _ c.lines.rest.now first.1.0 first.0 c.lines.number c.lines.self.sides
    c.feed_piece.new.self (fault_of c.in_err-feed_piece.field-0.0) _ _ _ so first.1.1 first.1.2 others))

pub returns-in_err-rest-clause-walks : goal.returns-in_err-rest-clause-walks
returns-in_err-rest-clause-walks g c = λ before earlier has.
    let p = err_from_is_err_and c.from_residual.result c.from_residual.ensures.1 in
    let so = c.lines.invariant.so_far before earlier has in
    let first = c.in_err-rest.ensures.emits so.sides so.follow in
    rw (p.1, p.2) (λ others. fault_beside (λ b. b.now) (λ b. b.ghost_name) g.L.Listener.hears g.L.Listener.fails _ _ _ earlier _ _ c.emit_other.new.listener _ c.in_err-rest.listener-1-own.given.1
    (failed (CountsBeside (λ b. b.now) (λ b. b.ghost_name) g.L.Listener.hears g.L.Listener.fails) (FailsBeside (λ b. b.now) (λ b. b.ghost_name) g.L.Listener.hears g.L.Listener.fails) _ _ earlier _ c.lines.rest.now first.1.0 first.0 c.lines.number c.lines.self.sides
    c.emit_other.new.sides c.in_err-rest.field-0.0 _ _ _ so first.1.1 first.1.2 others))

pub returns-clause-walks : goal.returns-clause-walks
returns-clause-walks g c = λ before earlier has.
    let so = c.lines.invariant.so_far before earlier has in
    let none : length c.lines.rest.now ≡ 0 = search rules in
    all_walked (CountsBeside (λ b. b.now) (λ b. b.ghost_name) g.L.Listener.hears g.L.Listener.fails) _ _ earlier _ c.lines.rest.now _ c.lines.number c.lines.self.sides _ c.lines.both g.L.Listener.hears c.args.listener.now _ none so refl refl (omega (arith, c.lines.invariant.size))
    (λ all heard few. heard_beside (λ b. b.now) (λ b. b.ghost_name) g.L.Listener.hears g.L.Listener.fails earlier all _ c.lines.both _ has.counts c.listener-2-1.given.1 heard
    (omega (arith, few, c.lines.invariant.lines, c.requires.fits))) g.L.Listener.fails
