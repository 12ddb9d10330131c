-- What files of lines represent.
use Rattle.std.proofs.Common.{◌≡◌, ◌≢◌, inl, inr, ℕ, zero, suc, ◌+◌, ◌≤◌, List, [], ◌∷◌, ◌++◌, length, take, refl, sym, ◌∙◌, ap, arith}
use Rattle.std.proofs.lemmas.List.{append-nil, take_all, length-take-le}
use Rattle.std.proofs.lemmas.Bool.{cases_eq}
use Rattle.std.proofs.lemmas.Bool.Decides.{nat_tests}
use Rattle.zvt_journal.specs.Text.{whole, recovered}

-- the three ways that a byte counts
pub record Empty (line byte : ℕ) (rest : List ℕ) : Type 0 where
  pub is : whole line (byte ∷ rest) ≡ 0

pub record Ends (line byte : ℕ) (rest : List ℕ) : Type 0 where
  pub is : whole line (byte ∷ rest) ≡ line + 1 + whole 0 rest

pub record Within (line byte : ℕ) (rest : List ℕ) : Type 0 where
  pub is : whole line (byte ∷ rest) ≡ whole (line + 1) rest

-- the same way, whatever comes after
pub data Way (line byte : ℕ) : Type 0 where
  empty : ((rest : List ℕ) → Empty line byte rest) → Way line byte
  ends : byte ≡ 10 → line ≢ 0 → ((rest : List ℕ) → Ends line byte rest) → Way line byte
  within : byte ≢ 10 → ((rest : List ℕ) → Within line byte rest) → Way line byte

empty_is : (line byte : ℕ) (rest : List ℕ) → byte ≡ 10 → line ≡ 0 → whole line (byte ∷ rest) ≡ 0
empty_is line byte rest lf none = grind (arith, nat_tests)

pub ends_is : (line byte : ℕ) (rest : List ℕ) → byte ≡ 10 → line ≢ 0 → whole line (byte ∷ rest) ≡ line + 1 + whole 0 rest
ends_is line byte rest lf some = grind (arith, nat_tests)

pub within_is : (line byte : ℕ) (rest : List ℕ) → byte ≢ 10 → whole line (byte ∷ rest) ≡ whole (line + 1) rest
within_is line byte rest other = grind (arith, nat_tests)

pub way : (line byte : ℕ) → Way line byte
way line byte = elim (cases_eq byte 10) [
  | inl lf ↦ elim (cases_eq line 0) [
    | inl none ↦ empty (λ rest. record { is = empty_is line byte rest lf none })
    | inr some ↦ ends lf some (λ rest. record { is = ends_is line byte rest lf some })
  ]
  | inr other ↦ within other (λ rest. record { is = within_is line byte rest other })
]

pub whole_within : (line : ℕ) (file : List ℕ) → whole line file ≤ line + length file
whole_within line [] = omega arith
whole_within line (byte ∷ rest) = elim (way line byte) [
  | empty e ↦ omega (arith, (e rest).is)
  | ends lf some e ↦ omega (arith, (e rest).is, whole_within 0 rest)
  | within other w ↦ omega (arith, (w rest).is, whole_within (line + 1) rest)
]

-- whole lines, and then whatever the rest represents
pub whole_then : (line : ℕ) (text rest : List ℕ) → whole line text ≡ line + length text → whole line (text ++ rest) ≡ line + length text + whole 0 rest
whole_then line [] rest is =
    let none : line ≡ 0 = omega (arith, is) in
    let same : whole line rest ≡ whole 0 rest = ap (λ (n : ℕ). whole n rest) none in
    omega (arith, none, same)
whole_then line (byte ∷ text) rest is = elim (way line byte) [
  | empty e ↦ absurd (omega (arith, (e text).is, is))
  | ends lf some e ↦ omega (arith, (e (text ++ rest)).is, whole_then 0 text rest (omega (arith, (e text).is, is)))
  | within other w ↦ omega (arith, (w (text ++ rest)).is, whole_then (line + 1) text rest (omega (arith, (w text).is, is)))
]

-- a line that is not ended doesn't count at all
nothing_whole : (line : ℕ) (file : List ℕ) → whole line file ≤ line → whole line file ≡ 0
nothing_whole line [] le = refl
nothing_whole line (byte ∷ rest) le = elim (way line byte) [
  | empty e ↦ (e rest).is
  | ends lf some e ↦ absurd (omega (arith, (e rest).is, le))
  | within other w ↦ (w rest).is ∙ nothing_whole (line + 1) rest (omega (arith, (w rest).is, le))
]

-- a prefix of the file that has its whole lines
pub whole_prefix : (line : ℕ) (file : List ℕ) (n : ℕ) → whole line file ≤ line + n → whole line (take n file) ≡ whole line file
whole_prefix line file zero le = sym (nothing_whole line file (omega (arith, le)))
whole_prefix line [] (suc n) le = refl
whole_prefix line (byte ∷ file) (suc n) le = elim (way line byte) [
  | empty e ↦ (e (take n file)).is ∙ sym (e file).is
  | ends lf some e ↦ omega (arith, (e (take n file)).is, (e file).is, whole_prefix 0 file n (omega (arith, (e file).is, le)))
  | within other w ↦ (w (take n file)).is ∙ whole_prefix (line + 1) file n (omega (arith, (w file).is, le)) ∙ sym (w file).is
]

pub length-recovered : (file : List ℕ) → length (recovered file) ≡ whole 0 file
length-recovered file = length-take-le (whole 0 file) file (omega (arith, whole_within 0 file))

-- what a file represents is whole lines
pub recovered_whole : (file : List ℕ) → whole 0 (recovered file) ≡ length (recovered file)
recovered_whole file = whole_prefix 0 file (whole 0 file) (omega arith) ∙ sym (length-recovered file)

-- lines that were recovered are recovered again
pub recovered_again : (file : List ℕ) → recovered (recovered file) ≡ recovered file
recovered_again file = take_all (whole 0 (recovered file)) (recovered file) (omega (arith, recovered_whole file))

-- and so is what represents itself
pub itself_whole : (text : List ℕ) → recovered text ≡ text → whole 0 text ≡ length text
itself_whole text is = sym (length-recovered text) ∙ ap length is

pub take_past : (text rest : List ℕ) (m n : ℕ) → m ≡ length text + n → take m (text ++ rest) ≡ text ++ take n rest
take_past [] rest m n is = let same : m ≡ n = omega (arith, is) in ap (λ (k : ℕ). take k rest) same
take_past (x ∷ text) rest zero n is = absurd (omega (arith, is))
take_past (x ∷ text) rest (suc m) n is = ap (λ (l : List ℕ). x ∷ l) (take_past text rest m n (omega (arith, is)))

pub recovered_then : (text rest : List ℕ) → whole 0 text ≡ length text → recovered (text ++ rest) ≡ text ++ recovered rest
recovered_then text rest is = take_past text rest (whole 0 (text ++ rest)) (whole 0 rest) (omega (arith, whole_then 0 text rest (omega (arith, is))))

-- a closed gate ends the text, whatever comes after it
pub recovered_closed : (text rest : List ℕ) → whole 0 text ≡ length text → recovered (text ++ 10 ∷ rest) ≡ text
recovered_closed text rest is = recovered_then text (10 ∷ rest) is ∙ append-nil text

short_nothing : (end : List ℕ) → length end ≤ 1 → recovered end ≡ []
short_nothing [] short = refl
short_nothing (byte ∷ []) short = elim (way 0 byte) [
  | empty e ↦ ap (λ (n : ℕ). take n (byte ∷ [])) (e []).is
  | ends lf some e ↦ ap (λ (n : ℕ). take n (byte ∷ [])) (nothing_whole 0 (byte ∷ []) (one_byte byte))
  | within other w ↦ ap (λ (n : ℕ). take n (byte ∷ [])) (w []).is
]
  where
    one_byte : (byte : ℕ) → whole 0 (byte ∷ []) ≤ 0
    one_byte byte = elim (cases_eq byte 10) [ inl lf ↦ omega (arith, empty_is 0 byte [] lf refl) | inr other ↦ omega (arith, within_is 0 byte [] other) ]
short_nothing (a ∷ b ∷ end) short = absurd (omega (arith, short))

-- nor does one byte after the text count
pub recovered_short : (text end : List ℕ) → whole 0 text ≡ length text → length end ≤ 1 → recovered (text ++ end) ≡ text
recovered_short text end is short = recovered_then text end is ∙ ap (λ (l : List ℕ). text ++ l) (short_nothing end short) ∙ append-nil text

pub append_whole : (text more : List ℕ) → whole 0 text ≡ length text → whole 0 more ≡ length more → whole 0 (text ++ more) ≡ length text + length more
append_whole text more is also = omega (arith, whole_then 0 text more (omega (arith, is)), also)

take_take : (n m : ℕ) (file : List ℕ) → n ≤ m → take n (take m file) ≡ take n file
take_take zero m file le = refl
take_take (suc n) zero file le = absurd (omega (arith, le))
take_take (suc n) (suc m) [] le = refl
take_take (suc n) (suc m) (x ∷ file) le = ap (λ (l : List ℕ). x ∷ l) (take_take n m file (omega (arith, le)))

-- a cut after the whole lines changes nothing
pub recovered_prefix : (file : List ℕ) (n : ℕ) → whole 0 file ≤ n → recovered (take n file) ≡ recovered file
recovered_prefix file n le =
    ap (λ (k : ℕ). take k (take n file)) (whole_prefix 0 file n (omega (arith, le))) ∙ take_take (whole 0 file) n file le
