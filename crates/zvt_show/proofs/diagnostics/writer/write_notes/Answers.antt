use Rattle.std.proofs.lemmas.Result.{err_from_is_err_and}
use Rattle.std.specs.Str.Lines.{lines}
use Rattle.zvt_show.proofs.NoteLemmas.{answered, unwritten}
use Rattle.zvt_show.proofs.diagnostics.writer.write_notes.Goals as goal

pub returns-clause-writes : goal.returns-clause-writes
returns-clause-writes g c =
    answered _ (λ s. s) c.args.scope (lines c.args.trace.now) c.walk-answer.result _ _ _ _ _ _ _ (record {
      scope = c.new-notes.ensures.scope;
      text = c.new-notes.ensures.text;
      trailing = c.new-notes.ensures.trailing;
      messages = c.new-notes.ensures.counts.0;
      refused = c.new-notes.ensures.counts.1;
      cut_off = c.new-notes.ensures.counts.2;
    }) c.in_ok-has_memory.ensures.had c.walk-answer.ensures c.in_ok-close.ensures c.bytes.ensures c.in_ok-write_all.ensures.bytes

pub returns-in_err-write_all-clause-writes : goal.returns-in_err-write_all-clause-writes
returns-in_err-write_all-clause-writes g c =
    let p = err_from_is_err_and c.from_residual-in_err-write_all.result c.from_residual-in_err-write_all.ensures.1 in
    rw (p.1, p.2) (unwritten _ (λ s. s) c.args.scope (lines c.args.trace.now) c.walk-answer.result _ _ _ _ _ _ (record {
      scope = c.new-notes.ensures.scope;
      text = c.new-notes.ensures.text;
      trailing = c.new-notes.ensures.trailing;
      messages = c.new-notes.ensures.counts.0;
      refused = c.new-notes.ensures.counts.1;
      cut_off = c.new-notes.ensures.counts.2;
    }) c.in_ok-has_memory.ensures.had c.walk-answer.ensures c.in_ok-close.ensures c.bytes.ensures c.in_err-write_all.ensures.bytes)
