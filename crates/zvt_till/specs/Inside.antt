-- The fields of a till, and their invariant.
use Rattle.std.specs.Prelude.{◌≡◌, ℕ, cond, ◌-◌, ◌≤◌, min, length, vec_len, vec_capacity}
use Rattle.zvt_till.specs.Refusals.{most_rows}
use Rattle.zvt_till.specs.Restoring.{OnceBelow}
use Rattle.zvt_till.specs.UsedTraces.{has_capacity, AreTracesOf}
use Rattle.zvt_till.specs.View.{TillValue, CanEndRunning}
use Rattle.zvt_till.specs.declared.till.Till.TheInside.{Inside}

-- the number of rows for which each list has room
abbrev pub rows_of : Inside → ℕ
rows_of t =
    min (vec_capacity t.book - vec_len t.book)
    (min (vec_capacity t.unclear - vec_len t.unclear) (vec_capacity t.heard - vec_len t.heard))

-- none without room for their trace numbers
abbrev pub spare_of : Inside → ℕ
spare_of t = cond (has_capacity t.used) (rows_of t) 0

abbrev pub value_of : Inside → TillValue
value_of t =
    record {
      state =
          record {
            settings = record { password = t.password; config = t.config; currency = t.currency; rules = t.rules };
            line_up = t.line_up;
            registered = t.registered;
            running = t.running;
            book = t.book.items;
            unclear = t.unclear.items;
            last_outcome = t.last_outcome;
          };
      spare = spare_of t;
      numbers = t.numbers;
      heard = t.heard.items;
    }

abbrev pub IsSound : Inside → Type 0
IsSound t =
    AreTracesOf t.used t.book.items
    × (length t.book.items ≤ most_rows)
    × (length t.unclear.items ≤ most_rows)
    × CanEndRunning t.running (length t.book.items) (length t.unclear.items) (spare_of t)
    × OnceBelow (length t.book.items) t.book.items
    × (length t.heard.items ≡ length t.unclear.items)
