use Rattle.std.proofs.Common.{arith, sym, subst, ◌≤◌, true, false}
use Rattle.zvt_grammar.specs.Lengths.{reading_of}
use Rattle.zvt_apdu.specs.Judging.{Layout, head_size}
use Rattle.zvt_apdu.proofs.Opened.{head_short}
use Rattle.zvt_apdu.proofs.OpeningMoves as moves
use Rattle.zvt_apdu.proofs.frame.scan_opening.Goals as goal

pub returns-in_default : goal.returns-in_default
returns-in_default c = moves.head_short (reading_of c.args.lengths) c.args.bytes.now c.in_default.len_below (λ i. omega (arith, c.type_inv.bytes i))

pub can_fill-requires : goal.can_fill-requires
can_fill-requires c = subst (λ (l : Layout). head_size l ≤ 6) (sym c.layout_of.ensures) (head_short _ _ c.from-size.result)

pub returns-then-not-can_fill : goal.returns-then-not-can_fill
returns-then-not-can_fill c =
    moves.length_refused (reading_of c.args.lengths) c.args.bytes.now c.from-size.result c.in-len3-up.len_at_least c.from-size.ensures (omega (arith, c.type_inv.bytes 2, c.if-first.false, c.from-size.ensures))
    (moves.fills_known _ _ c.from-size.result c.layout_of.result c.can_fill.result false c.layout_of.ensures c.can_fill.ensures c.if-not-can_fill.true) (λ i. omega (arith, c.type_inv.bytes i))

pub returns : goal.returns
returns c =
    moves.opens_short (reading_of c.args.lengths) c.args.bytes.now c.from-size.result c.in-len3-up.len_at_least c.from-size.ensures (omega (arith, c.type_inv.bytes 2, c.if-first.false))
    (moves.fills_known _ _ c.from-size.result c.layout_of.result c.can_fill.result true c.layout_of.ensures c.can_fill.ensures c.if-not-can_fill.false) (λ i. omega (arith, c.type_inv.bytes i))
