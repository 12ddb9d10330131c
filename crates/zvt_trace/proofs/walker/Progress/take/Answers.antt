use Rattle.std.proofs.Common.{[], arith, refl}
use Rattle.std.proofs.lemmas.Result.{err_from_is_err_and}
use Rattle.hex.specs.Hex.{IsBytes}
use Rattle.zvt_trace.specs.ChunkLaw.{sent, spelled_line}
use Rattle.zvt_trace.specs.Lines.{piece_text}
use Rattle.zvt_trace.proofs.TakenLemmas.{piece_first, piece_fits, piece_reads, piece_size}
use Rattle.zvt_trace.proofs.TallyLemmas.{CountsBeside, FailsBeside, fault_beside, heard_beside}
use Rattle.zvt_trace.proofs.WalkedLemmas.{all_walked, failed, none_walked, one_walked}
use Rattle.zvt_trace.proofs.walker.Progress.take.Goals as goal

pub emit_line-requires-clause-read : goal.emit_line-requires-clause-read
emit_line-requires-clause-read g c =
    let fits : IsBytes c.args.bytes.now = λ i. let f = c.type_inv.bytes i in omega arith in
    (spelled_line (sent c.args.from c.args.bytes.now), piece_reads c.args.from c.args.bytes.now fits)

pub returns-in_err-emit_line-clause-walks : goal.returns-in_err-emit_line-clause-walks
returns-in_err-emit_line-clause-walks g c = λ before earlier has.
    let p = err_from_is_err_and c.from_residual.result c.from_residual.ensures.1 in
    let fits : IsBytes c.args.bytes.now = λ i. let f = c.type_inv.bytes i in omega arith in
    let text = piece_text c.args.from c.args.bytes.now in
    let so = none_walked (CountsBeside (λ b. b.now) (λ b. b.ghost_name) g.L.Listener.hears g.L.Listener.fails) _ before earlier text c.args.self.now _ has in
    rw (p.1, p.2) (λ others. fault_beside (λ b. b.now) (λ b. b.ghost_name) g.L.Listener.hears g.L.Listener.fails _ _ _ earlier _ _ c.emit_line.new.listener _ c.in_err-emit_line.listener-1-own.given.1
    (failed (CountsBeside (λ b. b.now) (λ b. b.ghost_name) g.L.Listener.hears g.L.Listener.fails) (FailsBeside (λ b. b.now) (λ b. b.ghost_name) g.L.Listener.hears g.L.Listener.fails) _ _ earlier _ text (spelled_line (sent c.args.from c.args.bytes.now)) [] _ _ c.emit_line.new.sides c.in_err-emit_line.field-0.0 _ _ _ so
    (piece_first c.args.from c.args.bytes.now fits)
    (c.in_err-emit_line.ensures.emits (spelled_line (sent c.args.from c.args.bytes.now)) (piece_reads c.args.from c.args.bytes.now fits) so.sides so.follow) others))

pub returns-clause-walks : goal.returns-clause-walks
returns-clause-walks g c = λ before earlier has.
    let fits : IsBytes c.args.bytes.now = λ i. let f = c.type_inv.bytes i in omega arith in
    let text = piece_text c.args.from c.args.bytes.now in
    let so = none_walked (CountsBeside (λ b. b.now) (λ b. b.ghost_name) g.L.Listener.hears g.L.Listener.fails) _ before earlier text c.args.self.now _ has in
    let one = one_walked (CountsBeside (λ b. b.now) (λ b. b.ghost_name) g.L.Listener.hears g.L.Listener.fails) (FailsBeside (λ b. b.now) (λ b. b.ghost_name) g.L.Listener.hears g.L.Listener.fails) _ _ earlier _ text (spelled_line (sent c.args.from c.args.bytes.now)) [] _ _ c.emit_line.new.sides _ _ _ so
    (piece_first c.args.from c.args.bytes.now fits) (piece_fits c.args.from c.args.bytes.now)
    (c.in_ok-emit_line.ensures.emits (spelled_line (sent c.args.from c.args.bytes.now)) (piece_reads c.args.from c.args.bytes.now fits) so.sides so.follow) in
    let size = piece_size c.args.from c.args.bytes.now in
    all_walked (CountsBeside (λ b. b.now) (λ b. b.ghost_name) g.L.Listener.hears g.L.Listener.fails) _ _ earlier _ [] _ _ c.emit_line.new.sides _ c.emit_line.new.listener g.L.Listener.hears c.args.listener.now _ refl one refl refl (omega (arith, size))
    (λ all heard few. heard_beside (λ b. b.now) (λ b. b.ghost_name) g.L.Listener.hears g.L.Listener.fails earlier all _ c.emit_line.new.listener _ has.counts c.listener-2-1.given.1 heard
    (omega (arith, few, size, c.requires.sound.lines, c.requires.fits))) g.L.Listener.fails
