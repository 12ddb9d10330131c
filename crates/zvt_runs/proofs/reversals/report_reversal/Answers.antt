use Rattle.std.proofs.Common.{◌≡◌, ◌∙◌, ℕ, List, subst}
use Rattle.std.specs.Fmt.{decimal}
use Rattle.std.specs.Io.KnownBytes.{Appends}
use Rattle.std.proofs.lemmas.Result.{err_from_is_err_and}
use Rattle.zvt_till.specs.Names.{cause_name}
use Rattle.zvt_runs.proofs.Unclear.{WritesPrefix, prefix_of, trailing, writes_after}
use Rattle.zvt_runs.proofs.reversals.report_reversal.Goals as goal

pub returns-clause-bytes : goal.returns-clause-bytes
returns-clause-bytes g c =
    let digits : c.as_bytes.result.now ≡ decimal c.args.number = c.as_bytes.ensures.value ∙ c.format.ensures.text in
    let cause : c.as_bytes-2.result.now ≡ cause_name c.args.cause = c.as_bytes-2.ensures.value ∙ c.name.ensures in
    let second = subst (λ (t : List ℕ). Appends (g.E.Sink.written c.write_all.new.self) (g.E.Sink.written c.write_all-2.new.self) t) digits c.in_ok-write_all-2.ensures.bytes in
    let fourth = subst (λ (t : List ℕ). Appends (g.E.Sink.written c.write_all-3.new.self) (g.E.Sink.written c.write_all-4.new.self) t) cause c.in_ok-write_all-4.ensures.bytes in
    let r = c.write_all-5.result in
    writes_after r _ _ _ _ _ c.in_ok-write_all.ensures.bytes
    (writes_after r _ _ _ _ _ second (writes_after r _ _ _ _ _ c.in_ok-write_all-3.ensures.bytes (writes_after r _ _ _ _ _ fourth c.write_all-5.ensures.bytes)))

pub returns-in_err-write_all-clause-bytes : goal.returns-in_err-write_all-clause-bytes
returns-in_err-write_all-clause-bytes g c =
    let p = err_from_is_err_and c.from_residual.result c.from_residual.ensures.1 in
    rw p.1 (prefix_of _ _ _ _ c.in_err-write_all.ensures.bytes)

pub returns-in_err-write_all-2-clause-bytes : goal.returns-in_err-write_all-2-clause-bytes
returns-in_err-write_all-2-clause-bytes g c =
    let p = err_from_is_err_and c.from_residual-in_err-write_all-2.result c.from_residual-in_err-write_all-2.ensures.1 in
    let digits : c.as_bytes.result.now ≡ decimal c.args.number = c.as_bytes.ensures.value ∙ c.format.ensures.text in
    let second = subst (λ (t : List ℕ). WritesPrefix t (g.E.Sink.written c.write_all.new.self) (g.E.Sink.written c.write_all-2.new.self)) digits c.in_err-write_all-2.ensures.bytes in
    rw p.1 (trailing _ _ _ _ _ c.in_ok-write_all.ensures.bytes (prefix_of _ _ _ _ second))

pub returns-in_err-write_all-3-clause-bytes : goal.returns-in_err-write_all-3-clause-bytes
returns-in_err-write_all-3-clause-bytes g c =
    let p = err_from_is_err_and c.from_residual-in_err-write_all-3.result c.from_residual-in_err-write_all-3.ensures.1 in
    let digits : c.as_bytes.result.now ≡ decimal c.args.number = c.as_bytes.ensures.value ∙ c.format.ensures.text in
    let second = subst (λ (t : List ℕ). Appends (g.E.Sink.written c.write_all.new.self) (g.E.Sink.written c.write_all-2.new.self) t) digits c.in_ok-write_all-2.ensures.bytes in
    rw p.1 (trailing _ _ _ _ _ c.in_ok-write_all.ensures.bytes (trailing _ _ _ _ _ second (prefix_of _ _ _ _ c.in_err-write_all-3.ensures.bytes)))

pub returns-in_err-write_all-4-clause-bytes : goal.returns-in_err-write_all-4-clause-bytes
returns-in_err-write_all-4-clause-bytes g c =
    let p = err_from_is_err_and c.from_residual-in_err-write_all-4.result c.from_residual-in_err-write_all-4.ensures.1 in
    let digits : c.as_bytes.result.now ≡ decimal c.args.number = c.as_bytes.ensures.value ∙ c.format.ensures.text in
    let cause : c.as_bytes-2.result.now ≡ cause_name c.args.cause = c.as_bytes-2.ensures.value ∙ c.name.ensures in
    let second = subst (λ (t : List ℕ). Appends (g.E.Sink.written c.write_all.new.self) (g.E.Sink.written c.write_all-2.new.self) t) digits c.in_ok-write_all-2.ensures.bytes in
    let fourth = subst (λ (t : List ℕ). WritesPrefix t (g.E.Sink.written c.write_all-3.new.self) (g.E.Sink.written c.write_all-4.new.self)) cause c.in_err-write_all-4.ensures.bytes in
    rw p.1 (trailing _ _ _ _ _ c.in_ok-write_all.ensures.bytes (trailing _ _ _ _ _ second (trailing _ _ _ _ _ c.in_ok-write_all-3.ensures.bytes (prefix_of _ _ _ _ fourth))))
