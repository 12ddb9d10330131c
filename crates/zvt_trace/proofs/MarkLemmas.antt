-- A mark that is written is read as its moment.
use Rattle.std.proofs.Common.{◌≡◌, ℕ, ◌+◌, ◌*◌, ◌/◌, ◌%◌, ◌<◌, ◌≤◌, ◌&&◌, ◌++◌, Bool, true, false, cond, nat_lt, List, [], ◌∷◌, take, drop, Some, refl, ap, sym, subst, arith}
use Rattle.std.specs.Prelude.{◌==◌}
use Rattle.std.specs.Char.{is_ascii_digit}
use Rattle.std.specs.Int.{is_in_range}
use Rattle.std.proofs.lemmas.Bool.Decides.{nat_tests}
use Rattle.zvt_text.specs.Words.{fits}
use Rattle.zvt_trace.specs.Marks.{MarkRows, MarksReadBack, days_in_month, digit, has_form, is_real, mark_form, mark_of, mark_text, moment, moment_in, three_at, three_digits}
use Rattle.zvt_trace.specs.Moments.{MomentRows}
use Rattle.zvt_trace.specs.declared.moment.Moment.{Moment}

pub mark_rows : MarkRows
mark_rows = (refl, refl, refl, refl, refl, refl, refl, refl, refl, refl, refl, refl, refl, refl, refl, refl, refl, refl, refl, refl, refl)

pub moment_rows : MomentRows
moment_rows = (refl, refl, refl, refl, refl, refl, refl, refl, refl, refl, refl)

-- ---- what is_real says

both : (a b : Bool) → (a && b) ≡ true → (a ≡ true) × (b ≡ true)
both true b is = (refl, is)
both false b is = absurd cc

below : (n m : ℕ) → nat_lt n m ≡ true → n < m
below n m is = grind (arith, nat_tests)

up_to : (n m top : ℕ) → is_in_range n top m ≡ true → m ≤ top
up_to n m top is = grind (arith, nat_tests)

few_days : (year month : ℕ) → days_in_month year month ≤ 31
few_days year month = grind arith

record Small (m : Moment) : Type 0 where
  pub year : m.year < 10_000
  pub month : m.month ≤ 12
  pub day : m.day ≤ 31
  pub hour : m.hour < 24
  pub minute : m.minute < 60
  pub second : m.second < 60
  pub nanosecond : m.nanosecond < 1_000_000_000

small : (m : Moment) → is_real m ≡ true → Small m
small m is =
    let g = both _ (nat_lt m.nanosecond 1_000_000_000) is in
    let f = both _ (nat_lt m.second 60) g.0 in
    let e = both _ (nat_lt m.minute 60) f.0 in
    let d = both _ (nat_lt m.hour 24) e.0 in
    let b = both _ (is_in_range 1 (days_in_month m.year m.month) m.day) d.0 in
    let a = both (nat_lt m.year 10_000) (is_in_range 1 12 m.month) b.0 in
    let days : m.day ≤ days_in_month m.year m.month = up_to 1 m.day (days_in_month m.year m.month) b.1 in
    record {
      year = below m.year 10_000 a.0;
      month = up_to 1 m.month 12 a.1;
      day = omega (arith, days, few_days m.year m.month);
      hour = below m.hour 24 d.1;
      minute = below m.minute 60 e.1;
      second = below m.second 60 f.1;
      nanosecond = below m.nanosecond 1_000_000_000 g.1;
    }

-- ---- a digit that is written

is_written : (x : ℕ) → x < 10 → is_ascii_digit (48 + x) ≡ true
is_written x less = grind (arith, nat_tests)

read : (x : ℕ) → x < 10 → digit (48 + x) ≡ x
read x less = rw (is_written x less) (omega arith)

digit_fits : (x : ℕ) (form text : List ℕ) → x < 10 → fits form text ≡ true → fits (48 ∷ form) ((48 + x) ∷ text) ≡ true
digit_fits x form text less fit = rw (is_written x less) fit

-- the last two digits of a number
pub record Two (n : ℕ) : Type 0 where
  pub tens : n / 10 % 10 < 10
  pub units : n % 10 < 10
  pub value : digit (48 + n / 10 % 10) * 10 + digit (48 + n % 10) ≡ n % 100

two : (n : ℕ) → Two n
two n =
    let high : n / 10 % 10 < 10 = omega arith in
    let low : n % 10 < 10 = omega arith in
    record { tens = high; units = low; value = rw (read (n / 10 % 10) high, read (n % 10) low) (omega arith) }

-- the last three digits of a number
pub record Three (n : ℕ) : Type 0 where
  pub hundreds : n / 100 % 10 < 10
  pub tens : n / 10 % 10 < 10
  pub units : n % 10 < 10
  pub value : digit (48 + n / 100 % 10) * 100 + (digit (48 + n / 10 % 10) * 10 + digit (48 + n % 10)) ≡ n % 1_000

three : (n : ℕ) → Three n
three n =
    let high : n / 100 % 10 < 10 = omega arith in
    let middle : n / 10 % 10 < 10 = omega arith in
    let low : n % 10 < 10 = omega arith in
    record { hundreds = high; tens = middle; units = low; value = rw (read (n / 100 % 10) high, read (n / 10 % 10) middle, read (n % 10) low) (omega arith) }

pub record Parts (m : Moment) : Type 0 where
  pub century : Two (m.year / 100)
  pub year : Two (m.year % 100)
  pub month : Two m.month
  pub day : Two m.day
  pub hour : Two m.hour
  pub minute : Two m.minute
  pub second : Two m.second
  pub milli : Three (m.nanosecond / 1_000_000)
  pub micro : Three (m.nanosecond / 1_000)
  pub nano : Three m.nanosecond

parts : (m : Moment) → Parts m
parts m =
    record {
      century = two (m.year / 100);
      year = two (m.year % 100);
      month = two m.month;
      day = two m.day;
      hour = two m.hour;
      minute = two m.minute;
      second = two m.second;
      milli = three (m.nanosecond / 1_000_000);
      micro = three (m.nanosecond / 1_000);
      nano = three m.nanosecond;
    }

-- ---- the form

two_fit : (n : ℕ) (form text : List ℕ) → Two n → fits form text ≡ true → fits (48 ∷ 48 ∷ form) ((48 + n / 10 % 10) ∷ (48 + n % 10) ∷ text) ≡ true
two_fit n form text of fit = digit_fits (n / 10 % 10) (48 ∷ form) ((48 + n % 10) ∷ text) of.tens (digit_fits (n % 10) form text of.units fit)

three_fit : (n : ℕ) (form text : List ℕ) → Three n → fits form text ≡ true → fits (48 ∷ 48 ∷ 48 ∷ form) ((48 + n / 100 % 10) ∷ (48 + n / 10 % 10) ∷ (48 + n % 10) ∷ text) ≡ true
three_fit n form text of fit = digit_fits (n / 100 % 10) (48 ∷ 48 ∷ form) ((48 + n / 10 % 10) ∷ (48 + n % 10) ∷ text) of.hundreds (digit_fits (n / 10 % 10) (48 ∷ form) ((48 + n % 10) ∷ text) of.tens (digit_fits (n % 10) form text of.units fit))

-- the form of a mark and its text up to the fraction, before the rest
abbrev whole_form : List ℕ → List ℕ
whole_form form = take 22 mark_form ++ 46 ∷ form

abbrev whole : Moment → List ℕ → List ℕ
whole m rest = take 22 (mark_text m) ++ 46 ∷ rest

whole_fit : (m : Moment) (form rest : List ℕ) → Parts m → fits form rest ≡ true → fits (whole_form form) (whole m rest) ≡ true
whole_fit m form rest p fit =
    two_fit (m.year / 100) (drop 5 (whole_form form)) (drop 5 (whole m rest)) p.century
    (two_fit (m.year % 100) (drop 7 (whole_form form)) (drop 7 (whole m rest)) p.year
    (two_fit m.month (drop 10 (whole_form form)) (drop 10 (whole m rest)) p.month
    (two_fit m.day (drop 13 (whole_form form)) (drop 13 (whole m rest)) p.day
    (two_fit m.hour (drop 16 (whole_form form)) (drop 16 (whole m rest)) p.hour
    (two_fit m.minute (drop 19 (whole_form form)) (drop 19 (whole m rest)) p.minute
    (two_fit m.second (drop 22 (whole_form form)) (drop 22 (whole m rest)) p.second fit))))))

-- ---- the moment

mark_is : (line : List ℕ) (m : Moment) → has_form line ≡ true → moment_in line ≡ m → is_real m ≡ true → mark_of line ≡ Some m
mark_is line m form is real =
    let here : is_real (moment_in line) ≡ true = subst (λ (n : Moment). is_real n ≡ true) (sym is) real in
    rw (form, here) (ap Some is)

moment_is : (m : Moment) (year month day hour minute second nanosecond : ℕ) → year ≡ m.year → month ≡ m.month → day ≡ m.day → hour ≡ m.hour → minute ≡ m.minute → second ≡ m.second → nanosecond ≡ m.nanosecond
    → moment year month day hour minute second nanosecond ≡ m
moment_is m year month day hour minute second nanosecond a b c d e f g = rw (a, b, c, d, e, f, g) refl

year_is : (m : Moment) → Small m → Parts m → (digit (48 + m.year / 100 / 10 % 10) * 10 + digit (48 + m.year / 100 % 10)) * 100 + (digit (48 + m.year % 100 / 10 % 10) * 10 + digit (48 + m.year % 100 % 10)) ≡ m.year
year_is m is p = rw (p.century.value, p.year.value) (omega (arith, is.year))

-- two digits of a number below 100
below_100 : (n value : ℕ) → value ≡ n % 100 → n < 100 → value ≡ n
below_100 n value same less = omega (arith, same, less)

whole_moment : (m : Moment) (rest : List ℕ) → Small m → Parts m → three_at (whole m rest) 23 * 1_000_000 + three_at (whole m rest) 26 * 1_000 + three_at (whole m rest) 29 ≡ m.nanosecond → moment_in (whole m rest) ≡ m
whole_moment m rest is p fraction =
    moment_is m _ _ _ _ _ _ _ (year_is m is p)
    (below_100 m.month _ p.month.value (omega (arith, is.month)))
    (below_100 m.day _ p.day.value (omega (arith, is.day)))
    (below_100 m.hour _ p.hour.value (omega (arith, is.hour)))
    (below_100 m.minute _ p.minute.value (omega (arith, is.minute)))
    (below_100 m.second _ p.second.value (omega (arith, is.second))) fraction

equal : (n m : ℕ) → (n == m) ≡ true → n ≡ m
equal n m is = grind (arith, nat_tests)

short : (m : Moment) → is_real m ≡ true → Small m → Parts m → (m.nanosecond % 1_000_000 == 0) ≡ true → mark_of (whole m (three_digits (m.nanosecond / 1_000_000) ++ 90 ∷ [])) ≡ Some m
short m real small p is =
    let none : m.nanosecond % 1_000_000 ≡ 0 = equal (m.nanosecond % 1_000_000) 0 is in
    mark_is (whole m (three_digits (m.nanosecond / 1_000_000) ++ 90 ∷ [])) m
    (whole_fit m (48 ∷ 48 ∷ 48 ∷ []) (three_digits (m.nanosecond / 1_000_000)) p (three_fit (m.nanosecond / 1_000_000) [] [] p.milli refl))
    (whole_moment m (three_digits (m.nanosecond / 1_000_000) ++ 90 ∷ []) small p (rw p.milli.value (omega (arith, none, small.nanosecond))))
    real

abbrev nine : ℕ → List ℕ
nine n = three_digits (n / 1_000_000) ++ three_digits (n / 1_000) ++ three_digits n

long : (m : Moment) → is_real m ≡ true → Small m → Parts m → mark_of (whole m (nine m.nanosecond ++ 90 ∷ [])) ≡ Some m
long m real small p =
    mark_is (whole m (nine m.nanosecond ++ 90 ∷ [])) m
    (whole_fit m (48 ∷ 48 ∷ 48 ∷ 48 ∷ 48 ∷ 48 ∷ 48 ∷ 48 ∷ 48 ∷ []) (nine m.nanosecond) p
    (three_fit (m.nanosecond / 1_000_000) (48 ∷ 48 ∷ 48 ∷ 48 ∷ 48 ∷ 48 ∷ []) (three_digits (m.nanosecond / 1_000) ++ three_digits m.nanosecond) p.milli
    (three_fit (m.nanosecond / 1_000) (48 ∷ 48 ∷ 48 ∷ []) (three_digits m.nanosecond) p.micro
    (three_fit m.nanosecond [] [] p.nano refl))))
    (whole_moment m (nine m.nanosecond ++ 90 ∷ []) small p (rw (p.milli.value, p.micro.value, p.nano.value) (omega (arith, small.nanosecond))))
    real

pub marks_read_back : MarksReadBack
marks_read_back m real = by_test (m.nanosecond % 1_000_000 == 0) refl
  where
    by_test : (even : Bool) → (m.nanosecond % 1_000_000 == 0) ≡ even → mark_of (mark_text m) ≡ Some m
    by_test true is = subst (λ (b : Bool). mark_of (whole m (cond b (three_digits (m.nanosecond / 1_000_000)) (nine m.nanosecond) ++ 90 ∷ [])) ≡ Some m) (sym is) (short m real (small m real) (parts m) is)
    by_test false is = subst (λ (b : Bool). mark_of (whole m (cond b (three_digits (m.nanosecond / 1_000_000)) (nine m.nanosecond) ++ 90 ∷ [])) ≡ Some m) (sym is) (long m real (small m real) (parts m))
