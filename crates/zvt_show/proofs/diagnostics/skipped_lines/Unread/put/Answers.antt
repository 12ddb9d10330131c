use Rattle.zvt_show.specs.Notes.{last_text, unread_count}
use Rattle.zvt_show.proofs.TextLemmas.{some_unread, two_parts}
use Rattle.zvt_show.proofs.diagnostics.skipped_lines.Unread.put.Goals as goal

pub returns : goal.returns
returns c =
    rw (some_unread c.args.scope c.args.side c.args.self.now.count c.args.self.now.last c.if-self-eq0.false)
    (two_parts c.put_last.result _ _ _ (unread_count c.args.scope c.args.side c.args.self.now.count) (last_text c.args.scope c.args.self.now.last) c.in_ok-put_count.ensures c.put_last.ensures)
