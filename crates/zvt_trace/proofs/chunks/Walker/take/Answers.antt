use Rattle.std.proofs.Common.{◌<◌, ◌+◌, ◌++◌, [], ℕ, List, append-nil, arith, length, refl, subst, sym}
use Rattle.zvt_trace.specs.Chunks.{IsTooLong, ReadTo, walker_reading, walker_scope}
use Rattle.zvt_trace.specs.Lines.{piece_text}
use Rattle.zvt_trace.specs.Listening.{most}
use Rattle.zvt_trace.specs.TraceEvent.{At}
use Rattle.zvt_trace.proofs.FeedLemmas.{chunk_begins, too_many}
use Rattle.zvt_trace.proofs.TakenLemmas.{all_taken, on_size, piece_size, piece_whole}
use Rattle.zvt_trace.proofs.chunks.Walker.take.Goals as goal

pub returns-then-size-clause-reads : goal.returns-then-size-clause-reads
returns-then-size-clause-reads g c = λ read earlier has.
    let text = piece_text c.args.from c.args.bytes.now in
    let many : most < c.args.self.now.progress.size + length c.args.self.now.begun.items + length text = omega (arith, piece_size c.args.from c.args.bytes.now) in
    ([], subst (λ (es : List At). IsTooLong (walker_reading c.args.self.now) (walker_scope c.args.self.now) (read ++ text) es) (sym (append-nil earlier)) (too_many _ _ read text earlier c.args.self.now has many), refl)

pub returns-clause-reads : goal.returns-clause-reads
returns-clause-reads g c = λ read earlier has.
    let text = piece_text c.args.from c.args.bytes.now in
    let to : ReadTo (walker_reading c.args.self.now) (walker_scope c.args.self.now) (read ++ text) (text ++ []) earlier c.args.self.now.progress =
    subst (λ (t : List ℕ). ReadTo (walker_reading c.args.self.now) (walker_scope c.args.self.now) (read ++ text) t earlier c.args.self.now.progress) (sym (append-nil text)) (chunk_begins _ _ read text earlier c.args.self.now has c.requires.between) in
    all_taken _ g.L.Listener.hears g.L.Listener.fails _ (read ++ text) text earlier c.args.self.now (record { progress = c.take.new.self; begun = c.args.self.now.begun }) _ _ c.take.result c.requires.between to (piece_whole c.args.from c.args.bytes.now)
    (on_size c.args.from c.args.bytes.now _ _ c.take.result c.take.ensures.size) (c.take.ensures.walks _ earlier to.walked)
