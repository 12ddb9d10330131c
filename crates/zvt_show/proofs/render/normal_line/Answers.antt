use Rattle.std.proofs.Common.{refl}
use Rattle.zvt_grammar.specs.Reading.{shortest}
use Rattle.zvt_apdu.specs.Grammar.{Spells}
use Rattle.zvt_show.specs.Text.{joined}
use Rattle.zvt_show.proofs.AddLemmas.{where_added}
use Rattle.zvt_show.proofs.render.normal_line.Goals as goal

pub returns-clause-adds : goal.returns-clause-adds
returns-clause-adds c =
    let bytes = c.as_slice.result.now in
    let spells : Spells shortest c.args.apdu.now bytes = rw c.as_slice.ensures.value (rw c.in_ok-message.ensures at c.in_ok-bytes.ensures) in
    where_added c.line.result c.args.text.now _ (joined c.args.from bytes) (λ trace_event. record { one = joined c.args.from bytes; says = (bytes, spells, refl); grown = trace_event }) c.line.ensures
