-- Whether a till asks its terminal by itself.
use Rattle.std.specs.Prelude.{◌&&◌, ◌||◌, not, Bool, is_some}
use Rattle.zvt_settle.specs.Settling.{Both}

-- An answer can be of use: it may settle a pending order, or tell the terminal's last transaction. Only if that is known
-- can a later answer settle an order.
abbrev pub is_useful : Both → Bool
is_useful both = is_some both.settling.pending || not (is_some both.settling.last)

-- The till asks when it is first found registered on a line, and at no other time.
abbrev pub asks_by_itself : (was_registered : Bool) → Both → Bool
asks_by_itself was_registered both = not was_registered && both.till.registered && is_useful both
