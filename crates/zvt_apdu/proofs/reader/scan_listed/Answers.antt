use Rattle.std.proofs.Common.{arith}
use Rattle.std.proofs.lemmas.Grind.{common_steps}
use Rattle.std.proofs.lemmas.List.{take_rest}
use Rattle.zvt_grammar.specs.Lengths.{reading_of}
use Rattle.zvt_apdu.specs.Judging.{head_size}
use Rattle.zvt_apdu.proofs.DataMoves as moves
use Rattle.zvt_apdu.proofs.ListedMoves as listed
use Rattle.zvt_apdu.proofs.reader.scan_listed.Goals as goal

pub fields_message-message-requires-clause-fields : goal.fields_message-message-requires-clause-fields
fields_message-message-requires-clause-fields c = listed.head_fields (reading_of c.args.lengths) c.args.bytes.now _ c.args.opening.now c.args.layout.now c.requires.headed c.requires.kind (take_rest c.args.bytes.now c.args.opening.now.start)

pub fields_message-message-requires-clause-are_bytes : goal.fields_message-message-requires-clause-are_bytes
fields_message-message-requires-clause-are_bytes c =
    listed.head_bytes (reading_of c.args.lengths) c.args.bytes.now _ c.args.opening.now c.args.layout.now c.requires.headed (take_rest c.args.bytes.now c.args.opening.now.start) (moves.are_bytes c.args.bytes.now (λ i. omega (arith, c.type_inv.bytes i)))

pub invariant_of-result : goal.invariant_of-result
invariant_of-result c =
    moves.found_spelling (reading_of c.args.lengths) c.args.bytes.now _ _
    (listed.fields_whole (reading_of c.args.lengths) c.args.bytes.now (moves.from c.args.opening.now.start c.args.bytes.now) (moves.from (head_size c.args.layout.now) (moves.from c.args.opening.now.start c.args.bytes.now)) c.args.opening.now c.args.layout.now c.in_ok-fields.field-0 c.in-Whole.fields _ c.requires.headed c.requires.kind (take_rest c.args.bytes.now c.args.opening.now.start) (take_rest (moves.from c.args.opening.now.start c.args.bytes.now) (head_size c.args.layout.now)) c.in-Whole.is c.in_ok-fields.ensures (c.fields_message-message.ensures (reading_of c.args.lengths)))

pub returns-in-Whole : goal.returns-in-Whole
returns-in-Whole c =
    listed.fields_whole (reading_of c.args.lengths) c.args.bytes.now (moves.from c.args.opening.now.start c.args.bytes.now) (moves.from (head_size c.args.layout.now) (moves.from c.args.opening.now.start c.args.bytes.now)) c.args.opening.now c.args.layout.now c.in_ok-fields.field-0 c.in-Whole.fields _ c.requires.headed c.requires.kind (take_rest c.args.bytes.now c.args.opening.now.start) (take_rest (moves.from c.args.opening.now.start c.args.bytes.now) (head_size c.args.layout.now)) c.in-Whole.is c.in_ok-fields.ensures (c.fields_message-message.ensures (reading_of c.args.lengths))

pub returns-in-More : goal.returns-in-More
returns-in-More c =
    listed.fields_more (reading_of c.args.lengths) c.args.bytes.now (moves.from c.args.opening.now.start c.args.bytes.now) (moves.from (head_size c.args.layout.now) (moves.from c.args.opening.now.start c.args.bytes.now)) c.args.opening.now c.args.layout.now c.in_ok-fields.field-0 c.requires.headed c.requires.kind (take_rest c.args.bytes.now c.args.opening.now.start) (take_rest (moves.from c.args.opening.now.start c.args.bytes.now) (head_size c.args.layout.now)) c.in-More.is c.in_ok-fields.ensures (moves.are_bytes c.args.bytes.now (λ i. omega (arith, c.type_inv.bytes i)))

pub returns-in-Refused : goal.returns-in-Refused
returns-in-Refused c =
    listed.fields_refused (reading_of c.args.lengths) c.args.bytes.now (moves.from c.args.opening.now.start c.args.bytes.now) (moves.from (head_size c.args.layout.now) (moves.from c.args.opening.now.start c.args.bytes.now)) c.args.opening.now c.args.layout.now c.in_ok-fields.field-0 c.in-Refused.place c.in-Refused.why c.requires.headed c.requires.kind (take_rest c.args.bytes.now c.args.opening.now.start) (take_rest (moves.from c.args.opening.now.start c.args.bytes.now) (head_size c.args.layout.now)) c.in-Refused.is c.in_ok-fields.ensures (moves.are_bytes c.args.bytes.now (λ i. omega (arith, c.type_inv.bytes i)))

pub returns-in_err-fields : goal.returns-in_err-fields
returns-in_err-fields c = grind (arith, common_steps)

pub slice_bounds-fields_message-end : goal.slice_bounds-fields_message-end
slice_bounds-fields_message-end c = grind (arith, common_steps)
