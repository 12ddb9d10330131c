use Rattle.std.proofs.Common.{◌++◌, List, ℕ, subst, sym, ap}
use Rattle.std.proofs.lemmas.Result.{err_from_is_err_and}
use Rattle.zvt_trace.specs.Chunks.{HasNoEnd, IsWhole, ReadTo, walker_reading, walker_scope}
use Rattle.zvt_trace.proofs.FeedLemmas.{held_answer, split_is}
use Rattle.zvt_trace.proofs.WalkerLemmas.{fed_before, lines_failed, lines_read}
use Rattle.zvt_trace.proofs.chunks.Walker.begin.Goals as goal

pub returns-in_err-read_lines-in-Some-clause-reads : goal.returns-in_err-read_lines-in-Some-clause-reads
returns-in_err-read_lines-in-Some-clause-reads g c = λ bytes earlier to.
    let p = err_from_is_err_and c.from_residual.result c.from_residual.ensures.1 in
    let cut = split_is _ c.args.chunk.now c.split_at.result.0.now c.split_at.result.1.now c.split_at.ensures.front c.split_at.ensures.back in
    let there = subst (λ (t : List ℕ). ReadTo (walker_reading c.args.self.now) (walker_scope c.args.self.now) bytes t earlier c.args.self.now.progress) cut to in
    let whole = subst IsWhole (sym c.split_at.ensures.front) c.in-Some.ensures.1 in
    rw (p.1, p.2) (lines_failed _ g.L.Listener.hears g.L.Listener.fails _ bytes c.split_at.result.0.now c.split_at.result.1.now earlier c.args.self.now.progress c.read_lines.new.self c.in_err-read_lines-in-Some.field-0.0 _ _ there whole
    (c.in_err-read_lines-in-Some.ensures.walks _ earlier there.walked))

pub returns-in-None-clause-reads : goal.returns-in-None-clause-reads
returns-in-None-clause-reads g c = λ bytes earlier to.
    held_answer _ g.L.Listener.hears g.L.Listener.fails _ bytes c.args.chunk.now c.args.chunk.now earlier c.args.self.now c.hold.new.self _ c.hold.result c.hold.ensures.progress c.hold.ensures.held c.hold.ensures.fault to
    (ap (λ (t : List ℕ). t ++ c.args.chunk.now) (sym c.requires.none)) c.in-None.ensures

pub returns-in_ok-read_lines-in-Some-clause-reads : goal.returns-in_ok-read_lines-in-Some-clause-reads
returns-in_ok-read_lines-in-Some-clause-reads g c = λ bytes earlier to.
    let cut = split_is _ c.args.chunk.now c.split_at.result.0.now c.split_at.result.1.now c.split_at.ensures.front c.split_at.ensures.back in
    let there = subst (λ (t : List ℕ). ReadTo (walker_reading c.args.self.now) (walker_scope c.args.self.now) bytes t earlier c.args.self.now.progress) cut to in
    let whole = subst IsWhole (sym c.split_at.ensures.front) c.in-Some.ensures.1 in
    let read = lines_read _ g.L.Listener.hears g.L.Listener.fails _ bytes c.split_at.result.0.now c.split_at.result.1.now earlier c.args.self.now.progress c.read_lines.new.self _ _ there whole c.in_ok-read_lines-in-Some.ensures.size (c.in_ok-read_lines-in-Some.ensures.walks _ earlier there.walked) in
    fed_before _ g.L.Listener.hears g.L.Listener.fails _ bytes earlier read.0 c.hold-in-Some.new.self _ _ _ c.hold-in-Some.result read.2
    (held_answer _ g.L.Listener.hears g.L.Listener.fails _ bytes c.split_at.result.1.now c.split_at.result.1.now (earlier ++ read.0) (record { progress = c.read_lines.new.self; begun = c.args.self.now.begun }) c.hold-in-Some.new.self _ c.hold-in-Some.result c.hold-in-Some.ensures.progress c.hold-in-Some.ensures.held c.hold-in-Some.ensures.fault read.1
    (ap (λ (t : List ℕ). t ++ c.split_at.result.1.now) (sym c.requires.none)) (subst HasNoEnd (sym c.split_at.ensures.back) c.in-Some.ensures.2))
