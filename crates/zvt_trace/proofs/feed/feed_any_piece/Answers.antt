use Rattle.std.proofs.Common.{◌≡◌, ◌∙◌, ◌||◌, sym, true}
use Rattle.std.proofs.lemmas.Bool.{or_from, or_left, or_right}
use Rattle.std.proofs.lemmas.Result.{err_from_is_err_and}
use Rattle.zvt_trace.specs.Written.{is_nothing}
use Rattle.zvt_trace.proofs.ToldLemmas.{bytes_fail, hears_piece, unread_ends}
use Rattle.zvt_trace.proofs.feed.feed_any_piece.Goals.{then-reads-via-then-reads, then-reads-via-else-reads+then-any}
use Rattle.zvt_trace.proofs.feed.feed_any_piece.Goals as goal

pub returns-in_err-any-clause-emits : goal.returns-in_err-any-clause-emits
returns-in_err-any-clause-emits g c = λ side follows.
    let p = err_from_is_err_and c.from_residual.result c.from_residual.ensures.1 in
    rw (p.1, p.2) (bytes_fail g.L.Listener.hears g.L.Listener.fails _ _ _ _ side _ _ _ (c.in_err-any.ensures.emits side follows))

pub returns-then-reads-clause-emits : goal.returns-then-reads-clause-emits
returns-then-reads-clause-emits g c = λ side follows.
    let some : (is_nothing c.args.reader.now.skipped || c.in_ok-any.any) ≡ true =
    elim c.then-reads.branch [
      | then-reads-via-then-reads w ↦ or_left _ _ (sym c.reads-reads.ensures ∙ w.if-reads.true)
      | then-reads-via-else-reads+then-any w ↦ or_right _ _ w.if-any.true
    ] in
    hears_piece g.L.Listener.hears _ _ _ side _ c.args.reader.now c.feed_parts.new.reader c.in_ok-any.any _ _ follows (c.in_ok-any.ensures.emits side follows) some

pub returns-clause-emits : goal.returns-clause-emits
returns-clause-emits g c = λ side follows.
    unread_ends g.L.Listener.hears g.L.Listener.fails _ _ _ side _ c.args.reader.now c.feed_parts.new.reader c.in_ok-any.any _ _ _ c.emit_unread.result follows (c.in_ok-any.ensures.emits side follows) (or_from _ _ (sym c.reads-reads.ensures ∙ c.if-reads.false) c.if-any.false) c.emit_unread.ensures
