-- What a till is after its connection was lost is a state that is stored.
use Rattle.std.proofs.Common.{◌≡◌, ℕ, ◌≤◌, ◌++◌, List, length, Option, Some, None, refl, sym, ap, subst, ◌∙◌}
use Rattle.std.specs.List.{All}
use Rattle.std.proofs.lemmas.List.Elements.{All-append}
use Rattle.zvt_till.specs.declared.happenings.Happening.TheVariants.{Lost}
use Rattle.zvt_till.specs.declared.entries.Entry.{Entry}
use Rattle.zvt_till.specs.declared.outcomes.Cause.{Cause}
use Rattle.zvt_till.specs.declared.outcomes.Outcome.{Outcome}
use Rattle.zvt_till.specs.declared.statuses.Running.{Running}
use Rattle.zvt_till.specs.Restoring.{CanStand, at_rest}
use Rattle.zvt_till.specs.Sending.{Settings}
use Rattle.zvt_till.specs.Till.{TillState, meet_running, step}
use Rattle.zvt_till.specs.SnapshotEncoded.{left_book, open_rows, IsEntry, IsKept, IsOutcome, IsUnclear}

-- no order runs after a loss
lost-runs : (s : TillState) (run : Option Running) → s.running ≡ run
    → (elim run as (λ x. TillState) [ None ↦ s | Some r ↦ meet_running s r Lost ]).running ≡ None
lost-runs s None e = e
lost-runs s (Some r) e = refl

lost-rests : (s : TillState) → step s Lost ≡ at_rest (step s Lost).settings (step s Lost).book (step s Lost).unclear (step s Lost).last_outcome
lost-rests s = ap (λ (run : Option Running). record (step s Lost) { running = run }) (lost-runs s s.running refl)

-- a loss changes nothing at rest
pub rest-lost : (s : TillState) → s ≡ at_rest s.settings s.book s.unclear s.last_outcome → step s Lost ≡ s
rest-lost s e = ap (λ (t : TillState). step t Lost) e ∙ sym e

-- by what the loss makes of the till, and by the bounds of its parts
pub lost-kept : (s : TillState) (left doubted : Option ℕ) (last : Option Outcome)
    → (step s Lost).unclear ≡ s.unclear ++ open_rows left → (step s Lost).last_outcome ≡ last → (step s Lost).book ≡ left_book s.book doubted → (step s Lost).settings ≡ s.settings
    → CanStand (step s Lost).book (step s Lost).unclear → All IsEntry (left_book s.book doubted) → All IsUnclear s.unclear → All IsUnclear (open_rows left)
    → IsOutcome last → s.settings.currency ≤ 9999 → length s.settings.password ≡ 3 → IsKept (step s Lost)
lost-kept s left doubted last is_unclear is_last is_book is_settings can entries rows opened outcome currency password =
    record {
      rests = lost-rests s;
      stands = can;
      entries = subst (λ (book : List Entry). All IsEntry book) (sym is_book) entries;
      rows = subst (λ (unclear : List (ℕ × Cause)). All IsUnclear unclear) (sym is_unclear) (All-append IsUnclear s.unclear (open_rows left) rows opened);
      outcome = subst IsOutcome (sym is_last) outcome;
      currency = subst (λ (settings : Settings). settings.currency ≤ 9999) (sym is_settings) currency;
      password = subst (λ (settings : Settings). length settings.password ≡ 3) (sym is_settings) password;
    }
