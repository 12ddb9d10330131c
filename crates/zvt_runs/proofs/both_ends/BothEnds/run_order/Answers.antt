use Rattle.std.proofs.Common.{refl, sym, arith, subst, ◌≡◌, ◌∙◌}
use Rattle.zvt_till.specs.View.{TillValue}
use Rattle.zvt_runs.specs.BothEnds.{ended_of, here, line_of}
use Rattle.zvt_runs.proofs.Turns.{begun, begun_not, book_fails, breaks, comes, decided, given_up, goes_on}
use Rattle.zvt_runs.proofs.both_ends.BothEnds.run_order.Goals as goal

pub returns-in-Err : goal.returns-in-Err
returns-in-Err g c =
    let seen = here g.A.LineEnd.state g.B.LineEnd.state in
    begun_not g.met.K.Keeper.follows c.args.order c.args.verdict c.in-Err.fault (seen c.args.self.now c.args.till.now) (seen (record { till = c.order.new.self; terminal = c.args.self.now.terminal; served = c.decide.new.self }) c.order.new.till) (record {
      decided = record { terminal_end = refl; served = decided c.decide.new.self c.args.self.now.served.terminal c.args.verdict c.decide.ensures.terminal c.decide.ensures.verdict };
      not_ordered = c.in-Err.ensures;
    })

pub alternations-init : goal.alternations-init
alternations-init g c =
    let seen = here g.A.LineEnd.state g.B.LineEnd.state in
    begun g.met.K.Keeper.follows c.args.order c.args.verdict (seen c.args.self.now c.args.till.now) (seen (record { till = c.order.new.self; terminal = c.args.self.now.terminal; served = c.decide.new.self }) c.order.new.till) (record {
      decided = record { terminal_end = refl; served = decided c.decide.new.self c.args.self.now.served.terminal c.args.verdict c.decide.ensures.terminal c.decide.ensures.verdict };
      ordered = c.in_default.ensures;
    })

pub returns-in-Err-alternate : goal.returns-in-Err-alternate
returns-in-Err-alternate g c =
    let seen = here g.A.LineEnd.state g.B.LineEnd.state in
    breaks g.met.K.Keeper.follows c.args.order c.args.verdict c.alternations.made c.in-Err-alternate.fault (seen c.args.self.now c.args.till.now) (seen c.alternations.self c.alternations.till) (seen c.alternate.new.self c.alternate.new.till)
    c.alternations-test.true c.alternations.invariant c.in-Err-alternate.ensures

pub returns-then-has_failed : goal.returns-then-has_failed
returns-then-has_failed g c =
    let seen = here g.A.LineEnd.state g.B.LineEnd.state in
    book_fails g.met.K.Keeper.follows c.args.order c.args.verdict c.alternations.made (seen c.args.self.now c.args.till.now) (seen c.alternations.self c.alternations.till) (seen c.alternate.new.self c.alternate.new.till)
    c.alternations-test.true c.alternations.invariant c.in_default-alternate.ensures (sym c.has_failed.ensures ∙ c.if-has_failed.true)

pub returns-in-Some : goal.returns-in-Some
returns-in-Some g c =
    let seen = here g.A.LineEnd.state g.B.LineEnd.state in
    comes g.met.K.Keeper.follows c.args.order c.args.verdict c.alternations.made c.in-Some.outcome (seen c.args.self.now c.args.till.now) (seen c.alternations.self c.alternations.till) (seen c.alternate.new.self c.alternate.new.till) c.ended.result
    c.alternations-test.true c.alternations.invariant c.in_default-alternate.ensures (sym c.has_failed.ensures ∙ c.if-has_failed.false) (subst (λ (t : TillValue). c.ended.result ≡ ended_of t) c.look.ensures c.ended.ensures) c.in-Some.is

pub alternations-preserved : goal.alternations-preserved
alternations-preserved g c =
    let seen = here g.A.LineEnd.state g.B.LineEnd.state in
    goes_on g.met.K.Keeper.follows c.args.order c.args.verdict c.alternations.made (seen c.args.self.now c.args.till.now) (seen c.alternations.self c.alternations.till) (seen c.alternate.new.self c.alternate.new.till) c.ended.result
    c.alternations.invariant c.in_default-alternate.ensures (sym c.has_failed.ensures ∙ c.if-has_failed.false) (subst (λ (t : TillValue). c.ended.result ≡ ended_of t) c.look.ensures c.ended.ensures) c.in_default-ended.is

pub returns : goal.returns
returns g c =
    let seen = here g.A.LineEnd.state g.B.LineEnd.state in
    given_up g.met.K.Keeper.follows c.args.order c.args.verdict c.alternations.made (seen c.args.self.now c.args.till.now) (seen c.alternations.self c.alternations.till) (seen c.alternations.self c.lost.new.self)
    (omega (arith, c.alternations.auto.made-end, c.alternations-test.false)) c.alternations.invariant refl c.lost.ensures
