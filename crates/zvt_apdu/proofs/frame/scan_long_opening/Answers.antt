use Rattle.std.proofs.Common.{arith, sym, subst, ◌≤◌, true, false}
use Rattle.zvt_grammar.specs.Lengths.{reading_of}
use Rattle.zvt_apdu.specs.Judging.{Layout, head_size}
use Rattle.zvt_apdu.proofs.Opened.{head_short}
use Rattle.zvt_apdu.proofs.OpeningMoves as moves
use Rattle.zvt_apdu.proofs.frame.scan_long_opening.Goals as goal

pub returns-in_default : goal.returns-in_default
returns-in_default c = moves.length_short (reading_of c.args.lengths) c.args.bytes.now c.requires.some c.in_default.len_below c.requires.long (λ i. omega (arith, c.type_inv.bytes i))

pub returns-then-size-least : goal.returns-then-size-least
returns-then-size-least c =
    moves.length_padded (reading_of c.args.lengths) c.args.bytes.now c.in-len5-up.len_at_least c.requires.long (omega (arith, c.from.ensures, c.from-2.ensures, c.least.ensures, c.if-size-least.true)) (λ i. omega (arith, c.type_inv.bytes i))

pub can_fill-requires : goal.can_fill-requires
can_fill-requires c = subst (λ (l : Layout). head_size l ≤ 6) (sym c.layout_of.ensures) (head_short _ _ _)

pub returns-then-not-can_fill : goal.returns-then-not-can_fill
returns-then-not-can_fill c =
    moves.length_unfit (reading_of c.args.lengths) c.args.bytes.now _ c.in-len5-up.len_at_least c.requires.long (omega (arith, c.from.ensures, c.from-2.ensures)) (omega (arith, c.least.ensures, c.if-size-least.false))
    (moves.fills_known _ _ _ c.layout_of.result c.can_fill.result false c.layout_of.ensures c.can_fill.ensures c.if-not-can_fill.true) (λ i. omega (arith, c.type_inv.bytes i))

pub returns : goal.returns
returns c =
    moves.opens_long (reading_of c.args.lengths) c.args.bytes.now _ c.in-len5-up.len_at_least c.requires.long (omega (arith, c.from.ensures, c.from-2.ensures)) (omega (arith, c.least.ensures, c.if-size-least.false))
    (moves.fills_known _ _ _ c.layout_of.result c.can_fill.result true c.layout_of.ensures c.can_fill.ensures c.if-not-can_fill.false) (λ i. omega (arith, c.type_inv.bytes i))
