-- The parts of a till that settles, and what happens to the till inside.
use Rattle.std.specs.Prelude.{◌≡◌, ◌≤◌}
use Rattle.zvt_till.specs.declared.happenings.Happening.TheVariants.{Connected, Heard as HeardIn}
use Rattle.zvt_till.specs.declared.messages.Heard.{Heard}
use Rattle.zvt_till.specs.declared.orders.Order.{Order}
use Rattle.zvt_till.specs.Numbers.{numbers_after, numbers_begun}
use Rattle.zvt_till.specs.Till.{accept, step}
use Rattle.zvt_till.specs.View.{KeepsHeard, KeepsRoom, TillValue}
use Rattle.zvt_settle.specs.declared.settling.SettlingTill.{SettlingTill}
use Rattle.zvt_settle.specs.Settling.{Settling, Both}

abbrev pub till_inside : SettlingTill → TillValue
till_inside t = t.till

abbrev pub settling_of : SettlingTill → Settling
settling_of t = record { asking = t.asking; so_far = t.so_far; last = t.last; pending = t.pending; settled = t.settled.items }

abbrev pub both_of : SettlingTill → Both
both_of t = record { till = t.till.state; settling = settling_of t }

-- ---- as the contracts of the till inside say

abbrev pub reserves_inside : TillValue → TillValue → Type 0
reserves_inside old new = (new.state ≡ old.state) × (old.spare ≤ new.spare) × (new.numbers ≡ old.numbers) × (new.heard ≡ old.heard)

abbrev pub begins_inside : TillValue → Order → TillValue → Type 0
begins_inside old order new = (new.state ≡ accept old.state order) × (new.spare ≡ old.spare) × (new.numbers ≡ numbers_begun old.numbers order) × (new.heard ≡ old.heard)

abbrev pub hears_inside : TillValue → Heard → TillValue → Type 0
hears_inside old heard new = (new.state ≡ step old.state (HeardIn heard)) × KeepsRoom old new × (new.numbers ≡ numbers_after old.state old.numbers (HeardIn heard)) × KeepsHeard old new

abbrev pub connects_inside : TillValue → TillValue → Type 0
connects_inside old new = (new.state ≡ step old.state Connected) × KeepsRoom old new × (new.numbers ≡ old.numbers) × (new.heard ≡ old.heard)
