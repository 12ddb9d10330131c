use Rattle.std.proofs.Common.{◌≡◌, ℕ, ◌∙◌, ap₂, length, rules}
use Rattle.zvt_apdu.specs.Briefs.{digits}
use Rattle.zvt_apdu.proofs.BriefLemmas.{digits_are}
use Rattle.zvt_till.proofs.snapshot.encoder.put_number.Goals as goal

pub returns : goal.returns
returns c =
    let long : length c.put.new.out ≡ c.args.count = search rules in
    let e : c.put.new.out ≡ digits c.args.count c.args.number =
    digits_are c.put.new.out c.put.ensures.digits ∙ ap₂ (λ (k n : ℕ). digits k n) long c.put.ensures.value in
    rw (← e) (search rules)
