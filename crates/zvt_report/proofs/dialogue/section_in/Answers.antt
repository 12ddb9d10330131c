use Rattle.std.proofs.Common.{◌∙◌, ℕ, Option, ap, option_map, refl}
use Rattle.std.proofs.lemmas.Result.{err_from_is_err_and}
use Rattle.std.specs.declared.alloc.Global.{Global}
use Rattle.std.specs.declared.vec.Vec.{Vec}
use Rattle.zvt_grammar.specs.Lengths.{reading_of}
use Rattle.zvt_report.proofs.DialogueLemmas.{walk_stopped, walked_all}
use Rattle.zvt_report.proofs.dialogue.section_in.Goals as goal

pub returns-in_err-walk : goal.returns-in_err-walk
returns-in_err-walk c =
    let p = err_from_is_err_and c.from_residual-in_err-walk.result c.from_residual-in_err-walk.ensures.1 in
    rw (p.1, p.2) (walk_stopped (reading_of c.args.lengths) c.args.scope c.args.trace.now c.args.report.now c.args.looks.now c.in_err-walk.field-0.0 _ _ c.in_err-walk.ensures)

pub returns : goal.returns
returns c = walked_all (reading_of c.args.lengths) c.args.scope c.args.trace.now c.args.report.now c.args.looks.now _ _ _ _ c.new-dialogue.ensures.listed
    (ap (λ (ranges : Option (Vec (ℕ × ℕ) Global)). option_map (λ v. v.items) ranges) c.new-dialogue.ensures.ranges ∙ c.in_ok-ranges.ensures)
    c.in_ok-walk.ensures c.in_ok-text.ensures refl
