use Rattle.std.proofs.Common.{refl}
use Rattle.zvt_grammar.specs.Reading.{shortest}
use Rattle.zvt_apdu.specs.Grammar.{Spells}
use Rattle.zvt_show.specs.Text.{joined}
use Rattle.zvt_show.proofs.AddLemmas.{where_added}
use Rattle.zvt_show.proofs.render.join.Goals as goal

pub returns-in-Shortest-clause-adds : goal.returns-in-Shortest-clause-adds
returns-in-Shortest-clause-adds c =
    let spells : Spells shortest c.args.apdu.now c.args.bytes.now = rw c.in-Shortest.is at c.requires in
    where_added c.line.result c.args.text.now _ (joined c.args.from c.args.bytes.now) (λ trace_event. record { one = joined c.args.from c.args.bytes.now; says = (c.args.bytes.now, spells, refl); grown = trace_event }) c.line.ensures
