use Rattle.std.proofs.Common.{refl, rules}
use Rattle.std.proofs.lemmas.Result.{err_from_is_err_and}
use Rattle.zvt_trace.proofs.PassLemmas.{heard_all, heard_fails, heard_more, is_empty, none_heard}
use Rattle.zvt_trace.proofs.feed.feed_bytes.Goals as goal

pub bytes-init : goal.bytes-init
bytes-init g c = record {
  so_far = λ side follows. none_heard g.L.Listener.hears _ _ _ side c.args.bytes.now c.args.reader.now _ follows;
  reading = c.requires.reading;
}

pub returns-in_err-next-clause-emits : goal.returns-in_err-next-clause-emits
returns-in_err-next-clause-emits g c = λ side follows.
    let p = err_from_is_err_and c.from_residual.result c.from_residual.ensures.1 in
    let so = c.bytes.invariant.so_far side follows in
    rw (p.1, p.2) (heard_fails g.L.Listener.hears g.L.Listener.fails _ _ _ _ side _ c.bytes.rest.now c.bytes.reader c.bytes.any _ _ _ so (c.in_err-next.ensures.emits so.heard.after so.heard.follows))

pub bytes-preserved : goal.bytes-preserved
bytes-preserved g c = record {
  so_far = λ side follows.
      let so = c.bytes.invariant.so_far side follows in
      heard_more g.L.Listener.hears _ _ _ side _ c.bytes.rest.now c.in_ok-next.next.rest.now c.bytes.reader c.feed_next.new.reader c.bytes.any c.in_ok-next.next.any _ _ _ _ so
      (c.in_ok-next.ensures.emits so.heard.after so.heard.follows) refl;
  reading = c.in_ok-next.ensures.reading;
}

pub returns-clause-emits : goal.returns-clause-emits
returns-clause-emits g c = λ side follows.
    heard_all g.L.Listener.hears _ _ _ side _ c.bytes.rest.now c.bytes.reader c.bytes.any _ _ (c.bytes.invariant.so_far side follows) (is_empty c.bytes.rest.now (search rules))
