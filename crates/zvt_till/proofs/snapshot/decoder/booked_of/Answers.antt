use Rattle.std.proofs.Common.{ℕ, ◌<◌, ◌^◌, sym, ap, length, ◌∙◌, arith}
use Rattle.zvt_apdu.specs.Briefs.{digits}
use Rattle.zvt_till.proofs.SnapshotNumbers.{none-some, some-same}
use Rattle.zvt_till.proofs.snapshot.decoder.booked_of.Goals as goal

pub returns-in-Some-clause-value : goal.returns-in-Some-clause-value
returns-in-Some-clause-value c n h is =
    let fits : n < 100 ^ length c.args.bytes.now = rw c.requires (omega (arith, h)) in
    some-same _ _ (sym c.in-Some.is ∙ c.read_number.ensures.value n fits (is ∙ ap (λ (k : ℕ). digits k n) (sym c.requires)))

pub returns-in-None-clause-value : goal.returns-in-None-clause-value
returns-in-None-clause-value c n h is =
    let fits : n < 100 ^ length c.args.bytes.now = rw c.requires (omega (arith, h)) in
    absurd (none-some n (sym c.in-None.is ∙ c.read_number.ensures.value n fits (is ∙ ap (λ (k : ℕ). digits k n) (sym c.requires))))
