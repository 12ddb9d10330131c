use Rattle.std.proofs.Common.{refl, take, rules}
use Rattle.std.proofs.lemmas.Bool.{false≢true}
use Rattle.std.proofs.lemmas.Result.{err_from_is_err_and}
use Rattle.zvt_trace.specs.Meanings.{bytes_of}
use Rattle.zvt_trace.proofs.LentLemmas.{bytes_lent, failed_lent}
use Rattle.zvt_trace.proofs.PassLemmas.{fails_first, first_heard, heard_all, heard_fails, heard_more, none_left}
use Rattle.zvt_trace.proofs.SpelledLemmas.{goes_on}
use Rattle.zvt_trace.proofs.feed.feed_parts.Goals as goal

pub returns-in_err-any-clause-emits : goal.returns-in_err-any-clause-emits
returns-in_err-any-clause-emits g c = λ side follows.
    let p = err_from_is_err_and c.from_residual.result c.from_residual.ensures.1 in
    rw (p.1, p.2) (fails_first g.L.Listener.hears g.L.Listener.fails _ _ _ _ side c.args.piece.bytes.now (bytes_of c.args.piece.undecoded.now) _ _ (failed_lent (λ b. b.now) (λ b. b.ghost_name) g.L.Listener.hears g.L.Listener.fails _ _ _ c.feed_bytes.new.listener _ c.listener-1.given.1 (c.in_err-any.ensures.emits side follows)))

pub chunks-init : goal.chunks-init
chunks-init g c = record {
  so_far = λ side follows. first_heard g.L.Listener.hears _ _ _ side c.args.piece.bytes.now (bytes_of c.args.piece.undecoded.now) _ _ _ _ (bytes_lent (λ b. b.now) (λ b. b.ghost_name) g.L.Listener.hears g.L.Listener.fails _ _ _ _ side _ _ _ c.feed_bytes.new.listener _ _ c.listener-1.given.1 (c.in_ok-any.ensures.emits side follows));
  spelled = c.requires.spelled;
  reading = c.in_ok-any.ensures.reading;
}

pub returns-in_default-clause-emits : goal.returns-in_default-clause-emits
returns-in_default-clause-emits g c = λ side follows. absurd (false≢true (rw c.in_default.ensures.read at c.chunks.invariant.spelled))

pub returns-in_err-later-clause-emits : goal.returns-in_err-later-clause-emits
returns-in_err-later-clause-emits g c = λ side follows.
    let p = err_from_is_err_and c.from_residual-in_err-later.result c.from_residual-in_err-later.ensures.1 in
    let on = goes_on _ c.chunks.rest.now c.in-Some.after.now c.in-Some.ensures.read c.chunks.invariant.spelled in
    let chunk = take c.in-Some.count c.read.new.buffer in
    let so = c.chunks.invariant.so_far side follows in
    rw (p.1, p.2) (heard_fails g.L.Listener.hears g.L.Listener.fails _ _ _ _ side _ (bytes_of c.chunks.rest.now) c.chunks.reader c.chunks.any _ _ _ so
    (rw on.0 (fails_first g.L.Listener.hears g.L.Listener.fails _ _ _ _ so.heard.after chunk (bytes_of c.in-Some.after.now) _ _ (c.in_err-later.ensures.emits so.heard.after so.heard.follows))))

pub chunks-preserved : goal.chunks-preserved
chunks-preserved g c =
    let on = goes_on _ c.chunks.rest.now c.in-Some.after.now c.in-Some.ensures.read c.chunks.invariant.spelled in
    let chunk = take c.in-Some.count c.read.new.buffer in
    record {
      so_far = λ side follows.
          let so = c.chunks.invariant.so_far side follows in
          heard_more g.L.Listener.hears _ _ _ side _ (bytes_of c.chunks.rest.now) (bytes_of c.in-Some.after.now) c.chunks.reader c.feed_bytes-in-chunks.new.reader c.chunks.any c.in_ok-later.later _ _ _ _ so
          (record { first = chunk; cut = on.0; heard = c.in_ok-later.ensures.emits so.heard.after so.heard.follows }) refl;
      spelled = on.1;
      reading = c.in_ok-later.ensures.reading;
    }

pub returns-clause-emits : goal.returns-clause-emits
returns-clause-emits g c = λ side follows.
    heard_all g.L.Listener.hears _ _ _ side _ (bytes_of c.chunks.rest.now) c.chunks.reader c.chunks.any _ _ (c.chunks.invariant.so_far side follows) (none_left c.chunks.rest.now (search rules))
