-- What two payments of one amount have in common, and how far they are apart.
use Rattle.std.specs.Prelude.{◌≡◌, ℕ, ◌-◌, ◌/◌, ◌&&◌, nat_le, Bool, false, cond, List, [], ◌++◌, codes, Option, Some, None, refl}
use Rattle.std.specs.Fmt.{decimal, digits}
use Rattle.std.specs.Str.{bytes_eq}
use Rattle.zvt_report.specs.Alike.{seconds}
use Rattle.zvt_report.specs.Cards.{card_number}
use Rattle.zvt_report.specs.declared.rows.OrderRow.{OrderRow}
use Rattle.zvt_trace.specs.Marks.{moment}
use Rattle.zvt_trace.specs.declared.moment.Moment.{Moment}

abbrev pub same_number : Option (List ℕ) → Option (List ℕ) → Bool
same_number None b = false
same_number (Some a) None = false
same_number (Some a) (Some b) = bytes_eq a b

-- the terminal named one masked card number for both
unfoldable pub card_part : OrderRow → OrderRow → List ℕ
card_part row other = cond (same_number (card_number row.card) (card_number other.card)) (codes " with the same card") []

-- The seconds from one moment to a later one, if it is less than a day. Each month counts as 31 days, which makes the time between
-- two months longer by whole days, and never shorter.
abbrev pub seconds_to : (before after : Moment) → Option ℕ
seconds_to before after = cond (nat_le (seconds before) (seconds after) && nat_le (seconds after - seconds before) 86399) (Some (seconds after - seconds before)) None

abbrev pub apart : (before after : Option Moment) → Option ℕ
apart None after = None
apart (Some before) None = None
apart (Some before) (Some after) = seconds_to before after

-- seconds, and from two minutes on whole minutes
unfoldable pub seconds_text : ℕ → List ℕ
seconds_text n = cond (nat_le n 119) (decimal n ++ codes " s ") (decimal (n / 60) ++ codes " min ")

abbrev pub span_part : (word : List ℕ) → Option ℕ → List ℕ
span_part word None = []
span_part word (Some n) = codes ", " ++ seconds_text n ++ word

-- how far two payments are apart, if that is known
unfoldable pub apart_part : (word : List ℕ) → OrderRow → OrderRow → List ℕ
apart_part word row other = span_part word (apart row.time other.time)

-- ---- rows worked by hand

a_minute : span_part (codes "later") (apart (Some (moment 2026 11 28 11 47 3 999)) (Some (moment 2026 11 28 11 48 10 0))) ≡ codes ", 67 s later"
unfolding digits seconds_text
a_minute = refl

minutes : span_part (codes "apart") (Some 4259) ≡ codes ", 70 min apart"
unfolding digits seconds_text
minutes = refl

over_midnight : apart (Some (moment 2026 12 31 23 59 58 0)) (Some (moment 2027 1 1 0 0 3 0)) ≡ Some 5
over_midnight = refl

-- a short month
over_a_month : apart (Some (moment 2026 11 30 23 59 58 0)) (Some (moment 2026 12 1 0 0 3 0)) ≡ None
over_a_month = refl

clock_back : apart (Some (moment 2026 11 28 11 0 1 0)) (Some (moment 2026 11 28 11 0 0 0)) ≡ None
clock_back = refl
