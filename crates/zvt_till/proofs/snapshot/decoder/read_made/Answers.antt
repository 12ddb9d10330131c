use Rattle.std.proofs.Common.{◌≡◌, ℕ, List, ◌∷◌, Option, Some, None, drop, take, sym, ap, unwrap_or, ◌∙◌, rules}
use Rattle.zvt_till.specs.declared.outcomes.Outcome.{Outcome}
use Rattle.zvt_till.specs.declared.snapshot.decoder.Made.{Made}
use Rattle.zvt_till.proofs.SnapshotHeaders.{made-outcome, made-tail, three}
use Rattle.zvt_till.proofs.SnapshotNumbers.{none-some}
use Rattle.zvt_till.proofs.snapshot.decoder.read_made.Goals as goal

abbrev some_made : List ℕ → ℕ → ℕ → Option Outcome → Option Made
some_made password config currency last = Some (record { password = password; config = config; currency = currency; last = last })

pub returns-in_err-last : goal.returns-in_err-last
returns-in_err-last c settings last good small size is =
    let none : c.read_outcome.result ≡ None = search rules in
    absurd (none-some last (sym none ∙ c.read_outcome.ensures last good (made-outcome settings last c.args.bytes.now good is)))

pub returns : goal.returns
returns c settings last good small size is =
    let found : c.read_outcome.result ≡ Some c.in_ok-last.last = search rules in
    let read : c.read_currency.result ≡ Some c.in_ok-currency.currency = search rules in
    let l : c.in_ok-last.last ≡ last =
    ap (λ (o : Option (Option Outcome)). unwrap_or o last) (sym found ∙ c.read_outcome.ensures last good (made-outcome settings last c.args.bytes.now good is)) in
    let k : c.in_ok-currency.currency ≡ settings.currency =
    ap (λ (o : Option ℕ). unwrap_or o 0) (sym read ∙ c.read_currency.ensures settings.currency small (ap (λ (s : List ℕ). take 2 s) is)) in
    let t : drop 10 c.args.bytes.now ≡ settings.config ∷ settings.password = made-tail settings last c.args.bytes.now good is in
    rw (c.requires, l, k, t) (ap (λ (p : List ℕ). some_made p settings.config settings.currency last) (three settings.password size))
