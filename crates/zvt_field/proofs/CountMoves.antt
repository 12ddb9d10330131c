-- The steps of the reader of a length of digits.
use Rattle.std.proofs.Common.{◌≡◌, ℕ, ◌+◌, ◌*◌, ◌-◌, ◌<◌, ◌≤◌, Bool, true, false, Some, None, List, [], ◌∷◌, ◌++◌, length, take, get_or, refl, sym, ◌∙◌, ap, subst, arith, suc}
use Rattle.std.proofs.lemmas.List.{length-take-le}
use Rattle.std.proofs.Math.Seq.{take-suc, take-length}
use Rattle.zvt_bcd.specs.LengthDigits.{AreLengthDigits, counted}
use Rattle.zvt_grammar.specs.declared.why.Why.{Why}
use Rattle.zvt_grammar.specs.Reading.{Reading}
use Rattle.zvt_grammar.specs.Beginnings.{NoneWhole}
use Rattle.zvt_grammar.specs.Tests.{check}
use Rattle.zvt_field.specs.Shapes.{shape_of}
use Rattle.zvt_field.specs.Grammar.{FieldOf}
use Rattle.zvt_field.specs.Judging.{AliveIn, PlaceIn, WhyIn, digit, count_digits, Begins, is_length_digit, fault}
use Rattle.zvt_field.specs.Answers.{HeadFound}
use Rattle.zvt_field.proofs.Counts.{alive_least, count_head, length_digit, digits_joined, counted_joined}
use Rattle.zvt_field.proofs.HeadMoves.{failed, passed}
use Rattle.zvt_field.proofs.NoneFound.{Least, none_in, none_before, least_named}

-- that many digits of a length are read, and spell that number
pub record CountTo (r : Reading) (room : ℕ) (bytes : List ℕ) (digits number k : ℕ) : Type 0 where
  pub bmp : ℕ
  pub size : List ℕ
  pub present : k ≤ length bytes
  pub whole : take k bytes ≡ bmp ∷ size
  pub counts : count_digits (shape_of bmp) ≡ digits
  pub are : AreLengthDigits size
  pub spells : counted 0 size ≡ number
  pub alive : AliveIn r room (take k bytes)

long : (r : Reading) (room : ℕ) (bytes : List ℕ) (digits number k : ℕ) → (c : CountTo r room bytes digits number k) → suc (length c.size) ≡ k
long r room bytes digits number k c = omega (arith, ap length c.whole, length-take-le k bytes c.present)

some_digits : (digits k : ℕ) → k < suc digits → 0 < k → digits ≡ suc (digits - 1)
some_digits digits k lt some = omega arith

pub count_within : (r : Reading) (room : ℕ) (bytes : List ℕ) (digits number k : ℕ) → CountTo r room bytes digits number k → k < digits + 1 → k < room
count_within r room bytes digits number k c lt =
    let size = long r room bytes digits number k c in
    let is : count_digits (shape_of c.bmp) ≡ suc (digits - 1) = c.counts ∙ some_digits digits k (omega arith) (omega (arith, size)) in
    let low = alive_least r c.bmp (digits - 1) (digits - k) c.size room is (omega (arith, size)) (subst (AliveIn r room) c.whole c.alive) in
    omega (arith, low)

begins : (r : Reading) (room : ℕ) (bytes : List ℕ) (digits number k : ℕ) → CountTo r room bytes digits number k → k < digits + 1 → Begins (digit (digits - k) number) (take k bytes)
begins r room bytes digits number k c lt =
    (c.bmp, c.size, c.whole, (let total : length c.size + suc (digits - k) ≡ digits = omega (arith, long r room bytes digits number k c) in total ∙ sym c.counts), c.are, c.spells)

least_counted : (r : Reading) (room : ℕ) (bytes : List ℕ) (digits number k : ℕ) → CountTo r room bytes digits number k → k < digits + 1 → Least r bytes (suc digits)
least_counted r room bytes digits number k c lt =
    least_named r bytes k c.bmp digits c.size c.whole c.counts (omega (arith, long r room bytes digits number k c))

pub count_more : (r : Reading) (room : ℕ) (bytes : List ℕ) (digits number k : ℕ) → CountTo r room bytes digits number k → k < digits + 1 → length bytes ≤ k → (length bytes < room) × AliveIn r room bytes × NoneWhole (FieldOf r) bytes
count_more r room bytes digits number k c lt ended =
    let same : k ≡ length bytes = omega (arith, c.present) in (
      omega (arith, count_within r room bytes digits number k c lt),
      subst (AliveIn r room) (ap (λ (n : ℕ). take n bytes) same ∙ take-length bytes) c.alive,
      none_in r bytes (suc digits) (least_counted r room bytes digits number k c lt) (omega arith),
    )

pub count_refused : (r : Reading) (room : ℕ) (bytes : List ℕ) (digits number k : ℕ) (why : Why) → CountTo r room bytes digits number k → k < digits + 1 → k < length bytes → get_or bytes k 0 < 256 →
    fault r (digit (digits - k) number) (room - k - 1) (get_or bytes k 0) ≡ Some why → PlaceIn r room bytes k × WhyIn r room bytes k why × NoneWhole (FieldOf r) (take k bytes)
count_refused r room bytes digits number k why c lt present byte e =
    let failed = failed r room (digit (digits - k) number) bytes k why (begins r room bytes digits number k c lt) c.alive (count_within r room bytes digits number k c lt) present byte e in
    (failed.0, failed.1, none_before r bytes (suc digits) k (least_counted r room bytes digits number k c lt) (omega arith))

first_passed : (b : Bool) (w v : Why) (c : Bool) → check b w (check c v None) ≡ None → b ≡ true
first_passed true w v c e = refl
first_passed false w v c e = absurd (cc (e))

pub count_next : (r : Reading) (room : ℕ) (bytes : List ℕ) (digits number k longer : ℕ) → CountTo r room bytes digits number k → k < digits + 1 → k < length bytes → get_or bytes k 0 < 256 →
    fault r (digit (digits - k) number) (room - k - 1) (get_or bytes k 0) ≡ None → longer ≡ 10 * number + (get_or bytes k 0 - 0xF0) → CountTo r room bytes digits longer (k + 1)
count_next r room bytes digits number k longer c lt present byte e is =
    let x = get_or bytes k 0 in
    let d = length_digit x (first_passed (is_length_digit x) _ _ _ e) in
    let one : suc k ≡ k + 1 = omega arith in
    let alive = passed r room (digit (digits - k) number) bytes k (begins r room bytes digits number k c lt) c.alive (count_within r room bytes digits number k c lt) present byte e in
    record {
      bmp = c.bmp;
      size = c.size ++ x ∷ [];
      present = omega arith;
      whole = ap (λ (n : ℕ). take n bytes) (sym one) ∙ take-suc bytes k 0 present ∙ ap (λ (s : List ℕ). s ++ x ∷ []) c.whole;
      counts = c.counts;
      are = digits_joined c.size (x ∷ []) c.are (d.0, d.1, tt);
      spells = counted_joined 0 c.size (x ∷ []) ∙ ap (λ (v : ℕ). 10 * v + (x - 0xF0)) c.spells ∙ sym is;
      alive = subst (λ (n : ℕ). AliveIn r room (take n bytes)) one alive;
    }

pub count_done : (r : Reading) (room : ℕ) (bytes : List ℕ) (digits number : ℕ) → 1 ≤ digits → CountTo r room bytes digits number (digits + 1) → HeadFound r room bytes (record { start = digits + 1; size = number; digits = false })
count_done r room bytes digits number some c =
    let size = long r room bytes digits number (digits + 1) c in
    let is : digits ≡ suc (digits - 1) = omega arith in
    let total : length c.size ≡ suc (digits - 1) = omega (arith, size) in
    record {
      bmp = c.bmp;
      size = c.size;
      present = c.present;
      whole = c.whole;
      is_head = count_head (shape_of c.bmp) (digits - 1) number c.size (c.counts ∙ is) (total, c.are, c.spells);
      alive = c.alive;
    }
