use Rattle.std.proofs.Common.{◌≡◌, ◌∙◌, sym, true, rules}
use Rattle.std.proofs.lemmas.Bool.{or_left}
use Rattle.std.proofs.lemmas.Result.{err_from_is_err_and}
use Rattle.zvt_trace.specs.Written.{is_nothing}
use Rattle.zvt_trace.proofs.LentLemmas.{piece_lent}
use Rattle.zvt_trace.proofs.PassLemmas.{all_read}
use Rattle.zvt_trace.proofs.ToldLemmas.{bytes_fail, hears_piece}
use Rattle.zvt_trace.proofs.feed.feed_piece.Goals as goal

pub returns-in_err-feed_bytes-clause-emits : goal.returns-in_err-feed_bytes-clause-emits
returns-in_err-feed_bytes-clause-emits g c = λ side follows.
    let p = err_from_is_err_and c.from_residual.result c.from_residual.ensures.1 in
    rw (p.1, p.2, all_read c.args.piece.bytes.now c.args.piece.undecoded.now (search rules)) (bytes_fail g.L.Listener.hears g.L.Listener.fails _ _ _ _ side _ _ _ (c.in_err-feed_bytes.ensures.emits side follows))

pub returns-clause-emits : goal.returns-clause-emits
returns-clause-emits g c = λ side follows.
    let reads : is_nothing c.args.reader.now.skipped ≡ true = sym c.reads.ensures ∙ search rules in
    rw (all_read c.args.piece.bytes.now c.args.piece.undecoded.now (search rules))
    (hears_piece g.L.Listener.hears _ _ _ side _ c.args.reader.now c.feed_bytes.new.reader c.in_ok-feed_bytes.field-0 _ _ follows (c.in_ok-feed_bytes.ensures.emits side follows) (or_left _ _ reads))

pub returns-then-not-is_empty-clause-emits : goal.returns-then-not-is_empty-clause-emits
returns-then-not-is_empty-clause-emits g c = λ side follows.
    piece_lent (λ b. b.now) (λ b. b.ghost_name) g.L.Listener.hears g.L.Listener.fails _ _ _ _ side _ _ _ c.feed_any_piece.new.listener _ c.feed_any_piece.result c.listener-1.given.1 (c.feed_any_piece.ensures.emits side follows)
