-- The statuses of the calls, as `c/zvt.h` names them. 10 to 17 refuse an order.
use Rattle.std.specs.Prelude.{ℕ}

abbrev pub ok : ℕ
ok = 0

abbrev pub more : ℕ
more = 1

abbrev pub refused : ℕ
refused = 2

abbrev pub no_memory : ℕ
no_memory = 3

abbrev pub too_small : ℕ
too_small = 4

abbrev pub argument : ℕ
argument = 5

abbrev pub closed : ℕ
closed = 6

abbrev pub stopped : ℕ
stopped = 7

abbrev pub offline : ℕ
offline = 10

abbrev pub not_registered : ℕ
not_registered = 11

abbrev pub busy : ℕ
busy = 12

abbrev pub nothing_to_cancel : ℕ
nothing_to_cancel = 13

abbrev pub book_full : ℕ
book_full = 14

abbrev pub unknown_entry : ℕ
unknown_entry = 15

abbrev pub already_reversed : ℕ
already_reversed = 16

abbrev pub no_receipt : ℕ
no_receipt = 17
