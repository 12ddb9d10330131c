use Rattle.std.proofs.Common.{◌∙◌, Ok, subst, sym}
use Rattle.std.proofs.lemmas.Result.{err_from_is_err_and}
use Rattle.zvt_trace.specs.Chunks.{AnswersRead, FeedFaults, IsWhole}
use Rattle.zvt_trace.specs.Listening.{reading_by, scope_of}
use Rattle.zvt_trace.specs.declared.walker.Progress.{Progress}
use Rattle.zvt_trace.proofs.FeedLemmas.{end_comes, end_not_held, end_whole}
use Rattle.zvt_trace.proofs.WalkerLemmas.{lines_failed, lines_read}
use Rattle.zvt_trace.proofs.chunks.Walker.complete.Goals as goal

pub returns-in_err-hold-clause-reads : goal.returns-in_err-hold-clause-reads
returns-in_err-hold-clause-reads g c = λ bytes rest earlier to none.
    let p = err_from_is_err_and c.from_residual.result c.from_residual.ensures.1 in
    rw (p.1, p.2) (end_not_held _ g.L.Listener.hears g.L.Listener.fails _ bytes c.args.end.now rest earlier c.args.self.now c.in_err-hold.field-0.0 _ to none c.requires.line c.in_err-hold.ensures.fault)

pub returns-in_err-read_lines-clause-reads : goal.returns-in_err-read_lines-clause-reads
returns-in_err-read_lines-clause-reads g c = λ bytes rest earlier to none.
    let p = err_from_is_err_and c.from_residual-in_err-read_lines.result c.from_residual-in_err-read_lines.ensures.1 in
    let is = c.as_slice.ensures.value ∙ c.in_ok-hold.ensures.held in
    let whole = subst IsWhole (sym is) (end_whole c.args.self.now.begun.items c.args.end.now c.requires.line) in
    let there = end_comes bytes c.args.self.now.begun.items c.args.end.now rest c.as_slice.result.now earlier c.args.self.now.progress c.hold.new.self.progress c.in_ok-hold.ensures.progress is to in
    rw (p.1, p.2) (subst (λ (q : Progress). FeedFaults (reading_by q) g.L.Listener.hears g.L.Listener.fails (scope_of q) bytes earlier c.args.listener.now c.read_lines.new.listener c.in_err-read_lines.field-0.0) c.in_ok-hold.ensures.progress
    (lines_failed _ g.L.Listener.hears g.L.Listener.fails _ bytes c.as_slice.result.now rest earlier c.hold.new.self.progress c.read_lines.new.self c.in_err-read_lines.field-0.0 _ _ there whole (c.in_err-read_lines.ensures.walks _ earlier there.walked)))

pub returns-clause-reads : goal.returns-clause-reads
returns-clause-reads g c = λ bytes rest earlier to none.
    let is = c.as_slice.ensures.value ∙ c.in_ok-hold.ensures.held in
    let whole = subst IsWhole (sym is) (end_whole c.args.self.now.begun.items c.args.end.now c.requires.line) in
    let there = end_comes bytes c.args.self.now.begun.items c.args.end.now rest c.as_slice.result.now earlier c.args.self.now.progress c.hold.new.self.progress c.in_ok-hold.ensures.progress is to in
    subst (λ (q : Progress). AnswersRead (reading_by q) g.L.Listener.hears g.L.Listener.fails (scope_of q) bytes rest earlier c.read_lines.new.self c.args.listener.now c.read_lines.new.listener (Ok tt)) c.in_ok-hold.ensures.progress
    (lines_read _ g.L.Listener.hears g.L.Listener.fails _ bytes c.as_slice.result.now rest earlier c.hold.new.self.progress c.read_lines.new.self _ _ there whole c.in_ok-read_lines.ensures.size (c.in_ok-read_lines.ensures.walks _ earlier there.walked))
