use Rattle.std.proofs.Common.{◌≡◌, ℕ, ◌<◌, ◌^◌, sym, ap, length, ◌∙◌, arith, rules}
use Rattle.zvt_apdu.specs.Briefs.{digits}
use Rattle.zvt_till.proofs.SnapshotNumbers.{given-value, none-some, some-same}
use Rattle.zvt_till.proofs.snapshot.decoder.read_currency.Goals as goal

pub returns-in-Some : goal.returns-in-Some
returns-in-Some c n h is =
    let fits : n < 100 ^ length c.args.bytes.now = rw c.requires (omega (arith, h)) in
    let same : c.in-Some.number ≡ n = some-same _ _ (sym c.in-Some.is ∙ c.read_number.ensures.value n fits (is ∙ ap (λ (k : ℕ). digits k n) (sym c.requires))) in
    given-value _ _ n (c.new.ensures.given.1 (omega (arith, same, h))) (search rules) same

pub returns-in-None : goal.returns-in-None
returns-in-None c n h is =
    let fits : n < 100 ^ length c.args.bytes.now = rw c.requires (omega (arith, h)) in
    absurd (none-some n (sym c.in-None.is ∙ c.read_number.ensures.value n fits (is ∙ ap (λ (k : ℕ). digits k n) (sym c.requires))))
