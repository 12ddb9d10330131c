use Rattle.std.proofs.Common.{◌∙◌, ◌++◌, List, ℕ, Option, ap, refl, option_map}
use Rattle.std.proofs.lemmas.Result.{err_from_is_err_and}
use Rattle.std.specs.declared.alloc.Global.{Global}
use Rattle.std.specs.declared.vec.Vec.{Vec}
use Rattle.zvt_grammar.specs.Lengths.{reading_of}
use Rattle.zvt_report.specs.SlipWalk.{headed}
use Rattle.zvt_report.proofs.SlipLemmas.{slips_written, walk_stopped}
use Rattle.zvt_report.proofs.slips.walked_slips.Goals as goal

pub returns-in_err-walk : goal.returns-in_err-walk
returns-in_err-walk c =
    let p = err_from_is_err_and c.from_residual-in_err-walk.result c.from_residual-in_err-walk.ensures.1 in
    rw (p.1, p.2) (walk_stopped (reading_of c.args.lengths) c.args.scope c.args.trace.now c.args.form c.args.report.now c.args.looks.now c.in_err-walk.field-0.0 _ _ c.in_err-walk.ensures)

pub returns : goal.returns
returns c =
    slips_written (reading_of c.args.lengths) c.args.scope c.args.trace.now c.args.form c.args.report.now c.args.looks.now _ _ _ _ _ _ refl c.new.ensures.form
    (ap (λ (ranges : Option (Vec (ℕ × ℕ) Global)). option_map (λ v. v.items) ranges) c.new.ensures.ranges ∙ c.in_ok-ranges.ensures)
    c.new.ensures.text c.new.ensures.begun c.new.ensures.going c.in_ok-walk.ensures c.in_ok-close.ensures c.bytes.ensures (c.in_ok-headed.ensures ∙ ap (λ (t : List ℕ). t ++ headed c.args.form c.bytes.result.now) c.new-text.ensures)
