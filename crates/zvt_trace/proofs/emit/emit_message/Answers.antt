use Rattle.std.proofs.Common.{◌≡◌}
use Rattle.zvt_grammar.specs.Lengths.{reading_of}
use Rattle.zvt_trace.proofs.PieceLemmas.{lent_spelling, loosened}
use Rattle.zvt_trace.proofs.emit.emit_message.Goals as goal

pub view-apdu-requires : goal.view-apdu-requires
view-apdu-requires g c = (c.requires.lent.0, ∣ loosened _ c.requires.lent.0 _ (lent_spelling c.args.stream.now.reading (reading_of c.args.options.now.lengths) c.requires.reading (λ b. b.now) c.lent_bytes.result c.in-Some.bytes _ c.requires.lent.0 c.requires.lent.1 c.lent_bytes.ensures.some c.in-Some.is) ∣₁)

pub hear-requires : goal.hear-requires
hear-requires g c =
    let spells = lent_spelling c.args.stream.now.reading (reading_of c.args.options.now.lengths) c.requires.reading (λ b. b.now) c.lent_bytes.result c.in-Some.bytes _ c.requires.lent.0 c.requires.lent.1 c.lent_bytes.ensures.some c.in-Some.is in
    let same : c.view-apdu.result ≡ c.requires.lent.0 = c.view-apdu.ensures c.requires.lent.0 (loosened _ c.requires.lent.0 _ spells) in
    rw same spells

pub returns : goal.returns
returns g c = λ message is.
    let spells = lent_spelling c.args.stream.now.reading (reading_of c.args.options.now.lengths) c.requires.reading (λ b. b.now) c.lent_bytes.result c.in-Some.bytes _ message is c.lent_bytes.ensures.some c.in-Some.is in
    let same : c.view-apdu.result ≡ message = c.view-apdu.ensures message (loosened _ message _ spells) in
    rw same at c.hear.ensures
