use Rattle.std.proofs.Common.{◌<◌, ◌≤◌, ◌∙◌, arith, length, subst, sym}
use Rattle.std.proofs.Math.Logic.{∥∥₁_elim}
use Rattle.std.specs.Coded.{le_prop}
use Rattle.zvt_grammar.specs.Reading.{padded}
use Rattle.zvt_journal.specs.Text.{IsRecord}
use Rattle.zvt_stream.proofs.Beginnings.{bounds_in}
use Rattle.zvt_kept.specs.Records.{heard}
use Rattle.zvt_kept.proofs.Kept.{appended, text_is, unrecorded}
use Rattle.zvt_kept.proofs.Made.{records_are_taken}
use Rattle.zvt_kept.proofs.Short.{heard_short}
use Rattle.zvt_kept.proofs.keeping.keep_heard.Goals as goal

pub returns-in_err-put_heard : goal.returns-in_err-put_heard
returns-in_err-put_heard g c =
    let journal = c.args.journal.now in
    let bytes = c.bytes.result.now in
    let some : 0 < length bytes = ∥∥₁_elim c.bytes.ensures le_prop (λ spells. omega (arith, (bounds_in padded c.args.message.now bytes spells).0)) in (
      bytes,
      c.bytes.ensures,
      unrecorded g.D.Device.seen g.D.Device.may_leave g.D.Device.moment g.D.Device.left_since g.D.Device.faults journal.device journal.gate (heard bytes) _ c.from_residual.result c.from_residual.ensures.1
          (c.put_heard.ensures.kept some) (g.met.D.Device.only_now journal.device) c.requires.settled,
    )

pub append-requires-clause-entry : goal.append-requires-clause-entry
append-requires-clause-entry g c =
    let bytes = c.bytes.result.now in
    let some : 0 < length bytes = ∥∥₁_elim c.bytes.ensures le_prop (λ spells. omega (arith, (bounds_in padded c.args.message.now bytes spells).0)) in
    subst IsRecord (sym (text_is c.bytes-2.result.now c.new-text.result _ (c.bytes-2.ensures ∙ c.in_ok-put_heard.ensures.written) c.new-text.ensures)) (records_are_taken (heard bytes) _ (c.put_heard.ensures.kept some))

pub returns : goal.returns
returns g c =
    let old = c.args.journal.now in
    let new = c.append.new.self in
    let bytes = c.bytes.result.now in
    let few : length bytes ≤ 65540 = ∥∥₁_elim c.bytes.ensures le_prop (λ spells. (bounds_in padded c.args.message.now bytes spells).1) in
    let some : 0 < length bytes = ∥∥₁_elim c.bytes.ensures le_prop (λ spells. omega (arith, (bounds_in padded c.args.message.now bytes spells).0)) in (
      bytes,
      c.bytes.ensures,
      appended g.D.Device.seen g.D.Device.may_leave g.D.Device.moment g.D.Device.left_since g.D.Device.faults old.device new.device old.gate new.gate (heard bytes) _ c.bytes-2.result.now c.append.result
          (text_is c.bytes-2.result.now c.new-text.result _ (c.bytes-2.ensures ∙ c.in_ok-put_heard.ensures.written) c.new-text.ensures) (c.put_heard.ensures.kept some)
          (heard_short bytes c.args.answers.now few c.requires.few)
          c.append.ensures.settled c.append.ensures.acknowledged c.append.ensures.any_moment c.append.ensures.repairable c.append.ensures.faults c.append.ensures.failed c.append.ensures.full c.append.ensures.gate,
    )
