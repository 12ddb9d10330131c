use Rattle.std.proofs.Common.{◌≡◌, ◌<◌, ◌+◌, ◌++◌, ◌==◌, false, [], List, append-nil, arith, length, refl, rules, subst, sym}
use Rattle.std.proofs.lemmas.List.{nil_from_length}
use Rattle.std.proofs.lemmas.List.Elements.{All-append}
use Rattle.std.proofs.lemmas.Result.{err_from_is_err_and}
use Rattle.zvt_trace.specs.Chunks.{IsEnd, IsTooLong, walker_reading, walker_scope}
use Rattle.zvt_trace.specs.Listening.{most}
use Rattle.zvt_trace.specs.TraceEvent.{At}
use Rattle.zvt_trace.proofs.FeedLemmas.{chunk_begins, chunk_comes, fed_on, held_answer, split_is, too_many}
use Rattle.zvt_trace.proofs.WalkerLemmas.{more_come}
use Rattle.zvt_trace.proofs.chunks.Walker.feed.Goals as goal

pub returns-then-size-gt-MOST-clause-reads : goal.returns-then-size-gt-MOST-clause-reads
returns-then-size-gt-MOST-clause-reads g c = λ bytes earlier has.
    let many : most < c.args.self.now.progress.size + length c.args.self.now.begun.items + length c.args.chunk.now = omega (arith, c.if-size-gt-MOST.true, c.size.ensures) in
    ([], subst (λ (es : List At). IsTooLong (walker_reading c.args.self.now) (walker_scope c.args.self.now) (bytes ++ c.args.chunk.now) es) (sym (append-nil earlier)) (too_many _ _ bytes c.args.chunk.now earlier c.args.self.now has many), refl)

pub returns-then-is_empty-clause-reads : goal.returns-then-is_empty-clause-reads
returns-then-is_empty-clause-reads g c = λ bytes earlier has.
    let size : length c.args.self.now.begun.items ≡ 0 = search rules in
    c.begin.ensures.reads (bytes ++ c.args.chunk.now) earlier (chunk_begins _ _ bytes c.args.chunk.now earlier c.args.self.now has (nil_from_length c.args.self.now.begun.items size))

pub returns-in_err-complete-in-Some-clause-reads : goal.returns-in_err-complete-in-Some-clause-reads
returns-in_err-complete-in-Some-clause-reads g c = λ bytes earlier has.
    let p = err_from_is_err_and c.from_residual.result c.from_residual.ensures.1 in
    let cut = split_is _ c.args.chunk.now c.split_at.result.0.now c.split_at.result.1.now c.split_at.ensures.front c.split_at.ensures.back in
    rw (p.1, p.2) (c.in_err-complete-in-Some.ensures.reads (bytes ++ c.args.chunk.now) c.split_at.result.1.now earlier (chunk_comes _ _ bytes c.args.chunk.now c.split_at.result.0.now c.split_at.result.1.now earlier c.args.self.now has cut) has.unended)

pub returns-in_ok-complete-in-Some-clause-reads : goal.returns-in_ok-complete-in-Some-clause-reads
returns-in_ok-complete-in-Some-clause-reads g c = λ bytes earlier has.
    let cut = split_is _ c.args.chunk.now c.split_at.result.0.now c.split_at.result.1.now c.split_at.ensures.front c.split_at.ensures.back in
    fed_on g.L.Listener.hears g.L.Listener.fails (bytes ++ c.args.chunk.now) c.split_at.result.1.now earlier c.args.self.now c.complete.new.self c.begin-in-Some.new.self _ _ _ c.begin-in-Some.result c.in_ok-complete-in-Some.ensures.options
    (c.in_ok-complete-in-Some.ensures.reads (bytes ++ c.args.chunk.now) c.split_at.result.1.now earlier (chunk_comes _ _ bytes c.args.chunk.now c.split_at.result.0.now c.split_at.result.1.now earlier c.args.self.now has cut) has.unended)
    c.begin-in-Some.ensures.reads

pub returns-in-None-clause-reads : goal.returns-in-None-clause-reads
returns-in-None-clause-reads g c = λ bytes earlier has.
    held_answer _ g.L.Listener.hears g.L.Listener.fails _ (bytes ++ c.args.chunk.now) (c.args.self.now.begun.items ++ c.args.chunk.now) c.args.chunk.now earlier c.args.self.now c.hold.new.self _ c.hold.result c.hold.ensures.progress c.hold.ensures.held c.hold.ensures.fault
    (more_come _ _ bytes c.args.chunk.now earlier c.args.self.now has) refl (All-append (λ byte. (byte == 10) ≡ false) c.args.self.now.begun.items c.args.chunk.now has.unended c.in-None.ensures.ends)

pub complete-requires-clause-line : goal.complete-requires-clause-line
complete-requires-clause-line g c = subst IsEnd (sym c.split_at.ensures.front) c.in-Some.ensures.ends.1
