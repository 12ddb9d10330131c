-- The till of a handle.
use Rattle.std.specs.Prelude.{◌≡◌, ℕ, List, Option, Some, option_map}
use Rattle.zvt_bcd.specs.Digits.{AreDigits, number_of}
use Rattle.zvt_stream.specs.StreamState.{at_start}
use Rattle.zvt_till.specs.Settings.{strict}
use Rattle.zvt_till.specs.Till.{TillState}
use Rattle.zvt_settle.specs.Inside.{both_of}
use Rattle.zvt_settle.specs.Settling.{Both, new_both}
use Rattle.zvt_c.specs.declared.session.Session.{Session}
use Rattle.zvt_c.specs.Cards.{no_card}
use Rattle.zvt_c.specs.declared.handle.ZvtTill.{ZvtTill}

-- The state of a handle's till, or none if the handle is closed.
abbrev pub state_of : ZvtTill → Option TillState
state_of handle = option_map (λ end. end.till.till.state) handle.raw_handle.held

-- The state of a handle's till and what it settles, or none if the handle is closed.
abbrev pub both_held : ZvtTill → Option Both
both_held handle = option_map (λ end. both_of end.till) handle.raw_handle.held

-- A new till with the digits of the password, this configuration byte and currency, and nothing to settle, a stream at
-- the start of its line, and no card.
abbrev pub IsNewTill : (password config currency : ℕ) → Option Session → Type 0
IsNewTill password config currency held =
    (digits : List ℕ) × AreDigits digits × (number_of digits ≡ password)
    × (option_map (λ end. both_of end.till) held ≡ Some (new_both (record { password = digits; config = config; currency = currency; rules = strict })))
    × (option_map (λ end. end.stream) held ≡ Some at_start) × (option_map (λ end. end.card) held ≡ Some no_card)
