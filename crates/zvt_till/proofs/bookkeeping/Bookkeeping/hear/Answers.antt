use Rattle.std.proofs.Common.{sym, ◌∙◌}
use Rattle.zvt_apdu.specs.declared.kinds.Kind.TheVariants as kind
use Rattle.zvt_till.proofs.HeardLemmas.{heard-by-kind, heard-passing, heard-positive, heard-rest, passing-kinds}
use Rattle.zvt_till.proofs.bookkeeping.Bookkeeping.hear.Goals.{in-Some, in_default-running}
use Rattle.zvt_till.proofs.bookkeeping.Bookkeeping.hear.Goals as goal

pub returns-in-Intermediate : goal.returns-in-Intermediate
returns-in-Intermediate c = λ log judged. heard-passing log _ _ _ _ (passing-kinds c.args.apdu.now _ c.kind.ensures c.in-Intermediate.is) judged

pub returns-after-self : goal.returns-after-self
returns-after-self c = λ log judged.
    let before = rw (← c.self.view_is) at judged in
    let positive = heard-by-kind c.args.apdu.now kind.Ack (sym c.kind.ensures ∙ c.in-Ack.is) in
    elim c.match-self.branch [
      | in-Some w ↦ rw w.self-inside-is (heard-positive log _ _ _ _ w.in-Some.payment positive w.in-Some.is before)
      | in_default-running w ↦ rw w.self-inside-is (heard-rest log _ _ _ _ w.in_default-running.is before)
    ]
