use Rattle.std.proofs.Common.{◌≡◌, ◌<◌, ◌∙◌, sym, length, get_or, rules}
use Rattle.zvt_till.proofs.Restored.{traces-more, once-more}
use Rattle.zvt_till.proofs.till.restoring.traces_of.Goals as goal

pub rows-preserved : goal.rows-preserved
rows-preserved c =
    let within : c.rows.entry-index < length c.args.book.now = search rules in
    let is : c.entry-item.result ≡ get_or c.args.book.now c.rows.entry-index c.entry-item.result = search rules in
    record {
      room = c.insert.ensures.room;
      traces = traces-more c.args.book.now c.rows.entry-index c.entry-item.result c.rows.used c.insert.new.self within is c.rows.invariant.traces c.insert.ensures.has;
      once = once-more c.args.book.now c.rows.entry-index c.entry-item.result within is
          (sym (c.rows.invariant.traces c.entry-item.result.trace) ∙ sym c.contains.ensures ∙ c.if-contains.false) c.rows.invariant.once;
    }
