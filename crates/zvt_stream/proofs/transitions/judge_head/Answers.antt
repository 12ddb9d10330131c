use Rattle.std.proofs.Common.{◌≡◌, ℕ, ◌-◌, Ok, arith, subst, sym}
use Rattle.std.proofs.lemmas.Result.{err_from_is_err_and}
use Rattle.zvt_stream.specs.Moves.{Judges}
use Rattle.zvt_stream.specs.Parts.{Within}
use Rattle.zvt_stream.specs.Parts as stage
use Rattle.zvt_stream.proofs.FrameMoves.{head_refused, head_ends, head_free, head_digit}
use Rattle.zvt_stream.proofs.transitions.judge_head.Goals as goal

pub returns-in_err-judge_content_byte-clause-judges : goal.returns-in_err-judge_content_byte-clause-judges
returns-in_err-judge_content_byte-clause-judges c r depth =
    let p = err_from_is_err_and c.from_residual.result c.from_residual.ensures.1 in
    rw (p.1, p.2) (head_refused r c.args.goes.now.more c.args.levels.now.number c.args.goes.now.left depth c.args.byte _ c.in_err-judge_content_byte.ensures)

pub returns-then-goes-levels-eq1-clause-judges : goal.returns-then-goes-levels-eq1-clause-judges
returns-then-goes-levels-eq1-clause-judges c r depth = head_ends r c.args.goes.now.more c.args.levels.now.number c.args.goes.now.left depth c.args.byte c.in_ok-judge_content_byte.ensures c.if-goes-levels-eq1.true

pub returns-then-goes-gt0-clause-judges : goal.returns-then-goes-gt0-clause-judges
returns-then-goes-gt0-clause-judges c r depth = head_free r c.args.goes.now.more c.args.levels.now.number c.args.goes.now.left depth c.args.byte c.in_ok-judge_content_byte.ensures c.if-goes-levels-eq1.false c.if-goes-gt0.true

pub returns-clause-judges : goal.returns-clause-judges
returns-clause-judges c r depth =
    let zero : c.args.goes.now.more ≡ 0 = omega (arith, c.if-goes-gt0.false) in
    subst (λ (more : ℕ). Judges r (stage.Head c.args.goes.now.more c.args.levels.now.number) c.args.goes.now.left depth c.args.byte (Ok (Within (stage.Head more (c.args.levels.now.number - 1)) (c.args.goes.now.left - 1)))) (sym zero)
    (head_digit r c.args.goes.now.more c.args.levels.now.number c.args.goes.now.left depth c.args.byte c.in_ok-judge_content_byte.ensures c.if-goes-levels-eq1.false zero)
