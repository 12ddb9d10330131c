use Rattle.std.proofs.Common.{◌≡◌, ◌∙◌, Err, Ok, ap, ap₂, inr, refl, sym, true}
use Rattle.std.proofs.lemmas.Result.{err_from_is_err_and}
use Rattle.zvt_stream.specs.EndState.{end_state}
use Rattle.zvt_till.specs.View.{TillValue}
use Rattle.zvt_settle.specs.Askers.{both_as}
use Rattle.zvt_settle.specs.Inside.{both_of}
use Rattle.zvt_settle.specs.Settling.{Both, Settling}
use Rattle.zvt_runs.specs.Asking.{asked_in, before_of}
use Rattle.zvt_runs.specs.Steps.{wants_answer}
use Rattle.zvt_runs.specs.declared.asking.Asked.{Asked}
use Rattle.zvt_runs.specs.declared.asking.Before.{Before}
use Rattle.zvt_runs.specs.declared.asking.Ended.TheVariants.{Ask}
use Rattle.zvt_runs.proofs.There.{asks_there}
use Rattle.zvt_runs.proofs.till_end.make_ask.Goals as goal

pub returns : goal.returns
returns g c =
    let old = c.args.end.now in
    let reader = c.run_ask.new.reader in
    let writer = c.run_ask.new.writer in
    let before = end_state old.stream (g.R.Source.remaining old.reader) (g.W.Sink.written old.writer) (g.R.Source.reads old.reader) (g.R.Source.failures old.reader) (g.W.Sink.failures old.writer) in
    let after = end_state c.run_ask.new.stream (g.R.Source.remaining reader) (g.W.Sink.written writer) (g.R.Source.reads reader) (g.R.Source.failures reader) (g.W.Sink.failures writer) in
    let both : both_of c.settling.result.now ≡ both_as (g.K.Keeper.till c.args.till.now) (g.K.Asker.settling c.args.till.now) = ap₂ (λ (t : TillValue) (s : Settling). both_as t s) c.settling.ensures.till c.settling.ensures.settling in
    let wanted : wants_answer c.args.step.now (both_as (g.K.Keeper.till c.args.till.now) (g.K.Asker.settling c.args.till.now)) ≡ true = sym (ap (λ (b : Both). wants_answer c.args.step.now b) both) ∙ sym c.wants_answer.ensures ∙ c.if-not-wants_answer.false in
    let e = c.in_ok-run_ask.ensures in
    let ran = asks_there g.K.Keeper.orders g.K.Machine.hears g.K.Machine.is_resting g.K.Keeper.failed g.K.Keeper.till g.K.Machine.loses g.K.Machine.malforms g.K.Asker.asks g.K.Asker.settling (Ok tt) before c.args.till.now after c.run_ask.new.till e.runs e.rests tt e.reads e.reader_failures e.writer_failures in
    let came = c.asked.ensures ∙ ap₂ (λ (b : Before) (s : Settling). asked_in b s) (c.of-before.ensures ∙ ap before_of c.settling-2.ensures.settling) c.settling-3.ensures.settling in
    inr (wanted, Ok tt, ran, ap (λ (a : Asked). Ok (Ask a)) came)

pub returns-in_err-run_ask : goal.returns-in_err-run_ask
returns-in_err-run_ask g c =
    let old = c.args.end.now in
    let reader = c.run_ask.new.reader in
    let writer = c.run_ask.new.writer in
    let before = end_state old.stream (g.R.Source.remaining old.reader) (g.W.Sink.written old.writer) (g.R.Source.reads old.reader) (g.R.Source.failures old.reader) (g.W.Sink.failures old.writer) in
    let after = end_state c.run_ask.new.stream (g.R.Source.remaining reader) (g.W.Sink.written writer) (g.R.Source.reads reader) (g.R.Source.failures reader) (g.W.Sink.failures writer) in
    let both : both_of c.settling.result.now ≡ both_as (g.K.Keeper.till c.args.till.now) (g.K.Asker.settling c.args.till.now) = ap₂ (λ (t : TillValue) (s : Settling). both_as t s) c.settling.ensures.till c.settling.ensures.settling in
    let wanted : wants_answer c.args.step.now (both_as (g.K.Keeper.till c.args.till.now) (g.K.Asker.settling c.args.till.now)) ≡ true = sym (ap (λ (b : Both). wants_answer c.args.step.now b) both) ∙ sym c.wants_answer.ensures ∙ c.if-not-wants_answer.false in
    let fault = c.in_err-run_ask.field-0.0 in
    let e = c.in_err-run_ask.ensures in
    let p = err_from_is_err_and c.from_residual.result c.from_residual.ensures.1 in
    let ran = asks_there g.K.Keeper.orders g.K.Machine.hears g.K.Machine.is_resting g.K.Keeper.failed g.K.Keeper.till g.K.Machine.loses g.K.Machine.malforms g.K.Asker.asks g.K.Asker.settling (Err fault) before c.args.till.now after c.run_ask.new.till e.runs tt e.over e.reads e.reader_failures e.writer_failures in
    rw (p.1, p.2) (inr (wanted, Err fault, ran, refl))
