use denote.Enum.Bare.{same_false}
use Rattle.std.proofs.Common.{rules, ◌≡◌, Err, ap, sym}
use Rattle.std.proofs.lemmas.Result.{err_from_is_err_and}
use Rattle.hex.specs.Hex.{decode_of}
use Rattle.zvt_trace.specs.contracts.direction.Direction.{the_type}
use Rattle.zvt_trace.specs.Meanings.{without_spaces}
use Rattle.zvt_stream.specs.LineReading.{reading_as}
use Rattle.zvt_play.specs.declared.line.BadLine.TheVariants.{Wrong}
use Rattle.zvt_play.proofs.CheckLemmas.{piece_awaits}
use Rattle.zvt_play.proofs.line.read_piece.Goals as goal

pub returns-in_err-check-clause-wrong : goal.returns-in_err-check-clause-wrong
returns-in_err-check-clause-wrong c = λ why is line.
    let p = err_from_is_err_and c.from_residual-in_err-check.result c.from_residual-in_err-check.ensures.1 in
    let same : c.in_err-check.field-0.0 ≡ Wrong why = cc (p.1, p.2, is) in
    let apart : c.args.role.own ≡ c.args.from → ⊥ = same_false the_type c.args.role.own c.args.from (sym c.if-eq.ensures) in
    piece_awaits (reading_as c.args.role.form) c.args.role.own c.args.from line (decode_of (without_spaces c.args.text.now)) c.as_slice.result.now c.in_ok-bytes.bytes.items (Err why) c.in_ok-bytes.ensures.ok c.as_slice.ensures.value apart (c.in_err-check.ensures.wrong why (ap Err same))

pub returns-clause-ok : goal.returns-clause-ok
returns-clause-ok c = search rules
