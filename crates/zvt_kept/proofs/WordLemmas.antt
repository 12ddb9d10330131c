-- The words of orders are read back.
use Rattle.std.proofs.Common.{◌≡◌, ℕ, ◌+◌, ◌-◌, ◌<◌, Bool, true, false, nat_lt, List, [], ◌∷◌, ◌++◌, All, length, take, drop, Option, Some, None, option_map, refl, ap, sym, ◌∙◌, arith}
use Rattle.std.specs.Prelude.{codes, decimal, if◌then◌else◌, ◌==◌}
use Rattle.std.proofs.Math.Seq.{take-append_seam}
use Rattle.std.proofs.lemmas.Bool.Decides.{nat_tests}
use Rattle.std.proofs.lemmas.Option.{same_Some}
use Rattle.std.proofs.lemmas.List.Elements.{All-append, All-head, All-tail, All-weaker}
use Rattle.std.proofs.lemmas.List.Sums.{AllPass-from_list_all}
use Rattle.std.specs.List.{list_all}
use borrow.Author.Tests.{ltb-true}
use Rattle.zvt_till.specs.declared.orders.Order.{Order}
use Rattle.zvt_till.specs.declared.orders.Order.TheVariants.{Register, Pay, Reverse, CloseDay, Cancel}
use Rattle.zvt_kept.specs.Notes.{is_note}
use Rattle.zvt_kept.specs.Records.{Kept, ordered, asked, entry_of, plain, IsSpelledOrder, is_reserved, noted_digits, noted_words, number_of, order_words, with_number, word_size}
use Rattle.zvt_kept.proofs.NoteLemmas.{note_ends, note_plain}
use Rattle.zvt_kept.proofs.Numbers.{decimal_plain, decimal_unspaced, number_back}

-- ---- a number, and then a note

no_space : (byte : ℕ) → 32 < byte → (byte == 32) ≡ false
no_space byte above = grind (arith, nat_tests)

size_of : (word rest : List ℕ) → All (λ byte. 32 < byte) word → word_size rest ≡ 0 → word_size (word ++ rest) ≡ length word
size_of [] rest all none = none
size_of (byte ∷ word) rest all none =
    rw (no_space byte (All-head (λ byte. 32 < byte) byte word all)) (omega (arith, size_of word rest (All-tail (λ byte. 32 < byte) byte word all) none))

drop_seam : (first rest : List ℕ) → drop (length first) (first ++ rest) ≡ rest
drop_seam [] rest = refl
drop_seam (byte ∷ first) rest = drop_seam first rest

number_noted : (order : ℕ → Order) (digits note : List ℕ) (n : ℕ) → All (λ byte. 32 < byte) digits → is_note note ≡ true → number_of digits ≡ Some n → with_number order (digits ++ note) ≡ Some (ordered (order n) note)
number_noted order digits note n all noted is =
    let tail = digits ++ note in
    let size = size_of digits note all (note_ends note noted).size in
    let rest : drop (word_size tail) tail ≡ note = ap (λ k. drop k tail) size ∙ drop_seam digits note in
    let first : take (word_size tail) tail ≡ digits = ap (λ k. take k tail) size ∙ take-append_seam digits note in
    let named = λ (m : ℕ). ordered (order m) note in
    ap (λ (r : List ℕ). if is_note r then option_map (λ m. ordered (order m) r) (number_of (take (word_size tail) tail)) else None) rest
    ∙ ap (λ (b : Bool). if b then option_map named (number_of (take (word_size tail) tail)) else None) noted
    ∙ ap (λ (w : List ℕ). option_map named (number_of w)) first
    ∙ ap (option_map named) is

some_not_none : {A : Type 0} (a : A) → Some a ≡ None → ⊥
some_not_none a is = absurd cc

none_not_some : {A : Type 0} (a : A) → None ≡ Some a → ⊥
none_not_some a is = absurd cc

abbrev first_in : List ℕ → List ℕ
first_in tail = take (word_size tail) tail

abbrev rest_in : List ℕ → List ℕ
rest_in tail = drop (word_size tail) tail

abbrev some_pair : (a b : List ℕ) → Option (List ℕ × List ℕ)
some_pair a b = Some (a, b)

abbrev pair_if : Bool → (tail : List ℕ) → Option (List ℕ × List ℕ)
pair_if b tail = if b then some_pair (first_in tail) (rest_in tail) else None

abbrev order_if : Bool → (ℕ → Order) → (tail : List ℕ) → Option Kept
order_if b order tail = if b then option_map (λ (n : ℕ). ordered (order n) (rest_in tail)) (number_of (first_in tail)) else None

abbrev number_behind : (ℕ → Order) → (note : List ℕ) → Option ℕ → Option Kept
number_behind order note number = option_map (λ (n : ℕ). ordered (order n) note) number

-- an order with the number that the word is, if it is one
pub by_number : (order : ℕ → Order) (tail digits note : List ℕ) → some_pair digits note ≡ noted_digits tail → (number : Option ℕ) → number ≡ number_of digits → number_behind order note number ≡ with_number order tail
by_number order tail digits note read number is = by_test (is_note (rest_in tail)) refl
  where
    by_test : (b : Bool) → is_note (rest_in tail) ≡ b → number_behind order note number ≡ with_number order tail
    by_test true noted =
        let both = same_Some (digits, note) (first_in tail, rest_in tail) (read ∙ ap (λ (b : Bool). pair_if b tail) noted) in
        ap (number_behind order note) is
        ∙ ap (λ (p : List ℕ × List ℕ). number_behind order p.1 (number_of p.0)) both
        ∙ sym (ap (λ (b : Bool). order_if b order tail) noted)
    by_test false noted = absurd (some_not_none (digits, note) (read ∙ ap (λ (b : Bool). pair_if b tail) noted))

-- no word with a note behind it
pub no_digits : (order : ℕ → Order) (tail : List ℕ) → None ≡ noted_digits tail → None ≡ with_number order tail
no_digits order tail none = by_test (is_note (rest_in tail)) refl
  where
    by_test : (b : Bool) → is_note (rest_in tail) ≡ b → None ≡ with_number order tail
    by_test true noted = absurd (none_not_some (first_in tail, rest_in tail) (none ∙ ap (λ (b : Bool). pair_if b tail) noted))
    by_test false noted = sym (ap (λ (b : Bool). order_if b order tail) noted)

abbrev note_if : Bool → List ℕ → Option (List ℕ)
note_if b rest = if b then Some rest else None

-- the note that was read is what is behind the word
note_is : (rest note : List ℕ) → Some note ≡ note_if (is_note rest) rest → (is_note rest ≡ true) × (note ≡ rest)
note_is rest note read = by_test (is_note rest) refl
  where
    by_test : (b : Bool) → is_note rest ≡ b → (is_note rest ≡ true) × (note ≡ rest)
    by_test true noted = (noted, same_Some note rest (read ∙ ap (λ (b : Bool). note_if b rest) noted))
    by_test false noted = absurd (some_not_none note (read ∙ ap (λ (b : Bool). note_if b rest) noted))

pub digits_noted : (tail word rest note : List ℕ) (size : ℕ) → size ≡ word_size tail → word ≡ take size tail → rest ≡ drop size tail → Some note ≡ note_if (is_note rest) rest → some_pair word note ≡ noted_digits tail
digits_noted tail word rest note size size_is front back read =
    let n = note_is rest note read in
    let behind : rest ≡ rest_in tail = back ∙ ap (λ (k : ℕ). drop k tail) size_is in
    let before : word ≡ first_in tail = front ∙ ap (λ (k : ℕ). take k tail) size_is in
    ap (λ (w : List ℕ). some_pair w note) before ∙ ap (some_pair (first_in tail)) (n.1 ∙ behind) ∙ sym (ap (λ (b : Bool). pair_if b tail) (ap is_note (sym behind) ∙ n.0))

abbrev plain_if : Bool → (List ℕ → Kept) → List ℕ → Option Kept
plain_if b entry rest = if b then Some (entry rest) else None

pub plain_noted : (entry : List ℕ → Kept) (rest note : List ℕ) → Some note ≡ note_if (is_note rest) rest → Some (entry note) ≡ plain entry rest
plain_noted entry rest note read =
    let n = note_is rest note read in
    ap (λ (m : List ℕ). Some (entry m)) n.1 ∙ sym (ap (λ (b : Bool). plain_if b entry rest) n.0)

-- ---- orders

-- an order is read back from its words, with any note behind them
pub order_back : (order : Order) (note : List ℕ) → IsSpelledOrder order → is_note note ≡ true → entry_of (noted_words order note) ≡ Some (ordered order note)
order_back Register note spelled noted = ap (λ b. if b then Some (ordered Register note) else None) noted
order_back (Pay amount) note spelled noted =
    number_noted Pay (decimal amount) note amount (decimal_unspaced amount (omega (arith, spelled.1))) noted (number_back amount (omega (arith, spelled.0)) spelled.1)
order_back (Reverse entry) note spelled noted =
    let same : entry + 1 - 1 ≡ entry = omega arith in
    number_noted (λ (n : ℕ). Reverse (n - 1)) (decimal (entry + 1)) note (entry + 1) (decimal_unspaced (entry + 1) (omega (arith, spelled))) noted (number_back (entry + 1) (omega arith) (omega (arith, spelled)))
    ∙ ap (λ (n : ℕ). Some (ordered (Reverse n) note)) same
order_back CloseDay note spelled noted = ap (λ b. if b then Some (ordered CloseDay note) else None) noted
order_back Cancel note spelled noted = ap (λ b. if b then Some (ordered Cancel note) else None) noted

-- and so is an ask
pub ask_back : (note : List ℕ) → is_note note ≡ true → entry_of (codes "ask" ++ note) ≡ Some (asked note)
ask_back note noted = ap (λ b. if b then Some (asked note) else None) noted

pub ask_reserved : (note : List ℕ) → is_note note ≡ true → is_reserved (codes "ask" ++ note) ≡ true
ask_reserved note noted = rw ((note_ends note noted).ends) refl

-- an order's first word is reserved
pub order_reserved : (order : Order) (note : List ℕ) → is_note note ≡ true → is_reserved (noted_words order note) ≡ true
order_reserved Register note noted = rw ((note_ends note noted).ends) refl
order_reserved (Pay amount) note noted = refl
order_reserved (Reverse entry) note noted = refl
order_reserved CloseDay note noted = rw ((note_ends note noted).ends) refl
order_reserved Cancel note noted = rw ((note_ends note noted).ends) refl

above : (byte : ℕ) → nat_lt 31 byte ≡ true → 31 < byte
above byte is = ltb-true 31 byte is

-- each byte of a word is above 31
pub word_plain : (word : List ℕ) → list_all (λ byte. nat_lt 31 byte) word ≡ true → All (λ byte. 31 < byte) word
word_plain word is = All-weaker (λ byte. nat_lt 31 byte ≡ true) (λ byte. 31 < byte) above word (AllPass-from_list_all (λ byte. nat_lt 31 byte) word is)

pub both_plain : (a b : List ℕ) → All (λ byte. 31 < byte) a → All (λ byte. 31 < byte) b → All (λ byte. 31 < byte) (a ++ b)
both_plain a b = All-append (λ byte. 31 < byte) a b

-- and so is each of the words of an order
order_plain : (order : Order) → IsSpelledOrder order → All (λ byte. 31 < byte) (order_words order)
order_plain Register spelled = word_plain (codes "register") refl
order_plain (Pay amount) spelled = both_plain (codes "pay ") (decimal amount) (word_plain (codes "pay ") refl) (decimal_plain amount (omega (arith, spelled.1)))
order_plain (Reverse entry) spelled = both_plain (codes "reverse ") (decimal (entry + 1)) (word_plain (codes "reverse ") refl) (decimal_plain (entry + 1) (omega (arith, spelled)))
order_plain CloseDay spelled = word_plain (codes "close") refl
order_plain Cancel spelled = word_plain (codes "cancel") refl

-- and of its note
pub words_plain : (order : Order) (note : List ℕ) → IsSpelledOrder order → is_note note ≡ true → All (λ byte. 31 < byte) (noted_words order note)
words_plain order note spelled noted = both_plain (order_words order) note (order_plain order spelled) (note_plain note noted)
