use Rattle.std.proofs.Common.{arith}
use Rattle.std.proofs.lemmas.List.{take_rest}
use Rattle.zvt_grammar.specs.Lengths.{reading_of}
use Rattle.zvt_apdu.proofs.DataMoves as moves
use Rattle.zvt_apdu.proofs.reader.scan_bytes.Goals as goal

pub returns-then-data-opening : goal.returns-then-data-opening
returns-then-data-opening c =
    moves.bytes_more (reading_of c.args.lengths) c.args.bytes.now _ c.args.opening.now c.args.layout.now c.requires.headed c.requires.kind (take_rest c.args.bytes.now c.args.opening.now.start) c.if-data-opening.true (moves.are_bytes c.args.bytes.now (λ i. omega (arith, c.type_inv.bytes i)))

pub bytes_message-message-requires-clause-laid : goal.bytes_message-message-requires-clause-laid
bytes_message-message-requires-clause-laid c =
    moves.laid (reading_of c.args.lengths) c.args.bytes.now _ c.in_ok-payload.payload.items c.args.opening.now c.args.layout.now c.requires.headed c.requires.kind (take_rest c.args.bytes.now c.args.opening.now.start) c.if-data-opening.false (c.in_ok-payload.ensures.items_if_clones_equal (λ x y e. e))

pub bytes_message-message-requires-clause-are_bytes : goal.bytes_message-message-requires-clause-are_bytes
bytes_message-message-requires-clause-are_bytes c =
    moves.payload_bytes (reading_of c.args.lengths) c.args.bytes.now _ c.in_ok-payload.payload.items c.args.opening.now c.args.layout.now c.requires.headed c.requires.kind (take_rest c.args.bytes.now c.args.opening.now.start) c.if-data-opening.false (c.in_ok-payload.ensures.items_if_clones_equal (λ x y e. e))
    (moves.are_bytes c.args.bytes.now (λ i. omega (arith, c.type_inv.bytes i)))

pub invariant_of-result : goal.invariant_of-result
invariant_of-result c =
    moves.found_spelling (reading_of c.args.lengths) c.args.bytes.now _ _
    (moves.bytes_whole (reading_of c.args.lengths) c.args.bytes.now _ c.in_ok-payload.payload.items c.args.opening.now c.args.layout.now _ c.requires.headed c.requires.kind (take_rest c.args.bytes.now c.args.opening.now.start) c.if-data-opening.false (c.in_ok-payload.ensures.items_if_clones_equal (λ x y e. e)) (c.bytes_message-message.ensures (reading_of c.args.lengths)))

pub returns : goal.returns
returns c =
    moves.bytes_whole (reading_of c.args.lengths) c.args.bytes.now _ c.in_ok-payload.payload.items c.args.opening.now c.args.layout.now _ c.requires.headed c.requires.kind (take_rest c.args.bytes.now c.args.opening.now.start) c.if-data-opening.false (c.in_ok-payload.ensures.items_if_clones_equal (λ x y e. e)) (c.bytes_message-message.ensures (reading_of c.args.lengths))
