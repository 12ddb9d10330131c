-- The names of orders.
use Rattle.std.specs.Prelude.{◌≡◌, ℕ, ◌==◌, cond, List, codes, Option, Some, None, refl}
use Rattle.zvt_text.specs.Meanings.{command_name}

-- a registration, or another command; payments, reversals and ends of day have objects of their own
abbrev pub order_name : (high low : ℕ) → Option (List ℕ)
order_name high low =
    cond (high == 0x06) (cond (low == 0x00) (Some (codes "registration")) (command_name high low)) (command_name high low)

-- ---- rows worked by hand

a_registration : order_name 0x06 0x00 ≡ Some (codes "registration")
a_registration = refl

a_diagnosis : order_name 0x06 0x70 ≡ Some (codes "diagnosis")
unfolding command_name
a_diagnosis = refl

of_another_class : order_name 0x05 0x00 ≡ None
unfolding command_name
of_another_class = refl
