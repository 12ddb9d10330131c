use Rattle.std.proofs.Common.{◌≤◌, sym, subst, arith, rules}
use Rattle.std.proofs.lemmas.List.{take_rest}
use Rattle.zvt_grammar.specs.Lengths.{reading_of}
use Rattle.zvt_apdu.specs.Judging.{Layout, head_size}
use Rattle.zvt_apdu.proofs.Opened.{head_short}
use Rattle.zvt_apdu.proofs.DataMoves as moves
use Rattle.zvt_apdu.proofs.reader.scan_message.Goals as goal

pub wrong_digit-requires : goal.wrong_digit-requires
wrong_digit-requires c = subst (λ (l : Layout). head_size l ≤ 6) (sym c.layout_of-layout.ensures) (head_short _ _ c.in-Whole.opening.size)

pub returns-in-Some : goal.returns-in-Some
returns-in-Some c =
    moves.digit_refused (reading_of c.args.lengths) c.args.bytes.now _ c.in-Whole.opening c.layout_of-layout.result c.in-Some.at c.in-Whole.ensures c.layout_of-layout.ensures (take_rest c.args.bytes.now c.in-Whole.opening.start) c.in-Some.ensures (moves.are_bytes c.args.bytes.now (λ i. omega (arith, c.type_inv.bytes i)))

pub returns-then-data-layout : goal.returns-then-data-layout
returns-then-data-layout c =
    moves.head_more (reading_of c.args.lengths) c.args.bytes.now _ c.in-Whole.opening c.layout_of-layout.result c.in-Whole.ensures c.layout_of-layout.ensures (take_rest c.args.bytes.now c.in-Whole.opening.start) c.in_default.ensures c.if-data-layout.true (moves.are_bytes c.args.bytes.now (λ i. omega (arith, c.type_inv.bytes i)))

pub scan_listed-requires-clause-headed : goal.scan_listed-requires-clause-headed
scan_listed-requires-clause-headed c =
    moves.headed (reading_of c.args.lengths) c.args.bytes.now _ c.in-Whole.opening c.layout_of-layout.result c.in-Whole.ensures c.layout_of-layout.ensures (take_rest c.args.bytes.now c.in-Whole.opening.start) c.in_default.ensures c.if-data-layout.false

pub scan_bytes-requires-clause-headed : goal.scan_bytes-requires-clause-headed
scan_bytes-requires-clause-headed c =
    moves.headed (reading_of c.args.lengths) c.args.bytes.now _ c.in-Whole.opening c.layout_of-layout.result c.in-Whole.ensures c.layout_of-layout.ensures (take_rest c.args.bytes.now c.in-Whole.opening.start) c.in_default.ensures c.if-data-layout.false

pub returns-in-Refused : goal.returns-in-Refused
returns-in-Refused c = search rules
