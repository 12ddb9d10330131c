use Rattle.std.proofs.Common.{[], ◌∷◌, ◌++◌, take, ap, sym, ◌∙◌, add-one}
use Rattle.std.proofs.Math.Seq.{take-suc}
use Rattle.zvt_till.specs.declared.happenings.Happening.{Happening}
use Rattle.zvt_till.proofs.bookkeeping.books.Goals as goal

pub loop-happening-preserved : goal.loop-happening-preserved
loop-happening-preserved c =
    let log = c.args.log.now in
    let happening = c.happening-item.result in
    let item = ap (λ (h : Happening). take c.loop-happening.happening-index log ++ h ∷ []) (sym c.happening-item.is) in
    let longer = ap (λ k. take k log) (add-one c.loop-happening.happening-index) ∙ take-suc log c.loop-happening.happening-index happening c.loop-happening-test.true ∙ item in
    record {
      judged = rw longer (c.in_ok-take.ensures (take c.loop-happening.happening-index log) c.loop-happening.invariant.judged);
    }
