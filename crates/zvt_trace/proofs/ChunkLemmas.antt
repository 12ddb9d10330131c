-- Texts of whole lines, and what follows them.
use Rattle.std.proofs.Common.{◌≡◌, inl, inr, ℕ, ◌+◌, ◌<◌, ◌⊎◌, Bool, true, false, List, [], ◌∷◌, ◌++◌, length, map, refl, sym, ◌∙◌, ap, subst, arith, suc, zero, cond, append_assoc, append-nil, length-append, length-drop}
use Rattle.std.specs.Prelude.{◌==◌, slice_index, take, drop}
use Rattle.std.specs.List.{onto_first, slice_split}
use Rattle.std.specs.Str.Lines.{lines, lines_of_parts, strip_carriage_return}
use Rattle.std.proofs.lemmas.Bool.Decides.{nat_tests}
use Rattle.std.proofs.lemmas.List.Elements.{All-from_get_or}
use Rattle.std.proofs.lemmas.List.{get_or-drop, get_or-take, length-take-le, take_more}
use Rattle.std.proofs.lemmas.List.Splits.{length-slice_split}
use Rattle.memchr.specs.Find.{NoneAfter, NoneBefore, Nowhere, Passes}
use Rattle.zvt_trace.proofs.LineLemmas.{more_parts, newline}
use Rattle.zvt_trace.specs.Chunks.{EndsAt, EndsFirst, HasNoEnd, IsWhole, last_after}

-- ---- the lines of both

onto : (yes : Bool) (x : ℕ) (a b : List (List ℕ)) → 0 < length a → cond yes ([] ∷ (a ++ b)) (onto_first x (a ++ b)) ≡ cond yes ([] ∷ a) (onto_first x a) ++ b
onto true x a b some = refl
onto false x [] b some = absurd (omega (arith, some))
onto false x (part ∷ parts) b some = refl

split_append : (xs ys : List ℕ) → slice_split newline (xs ++ 10 ∷ ys) ≡ slice_split newline xs ++ slice_split newline ys
split_append [] ys = refl
split_append (x ∷ xs) ys =
    ap (λ (s : List (List ℕ)). cond (newline x) ([] ∷ s) (onto_first x s)) (split_append xs ys)
    ∙ onto (newline x) x (slice_split newline xs) (slice_split newline ys) (rw (length-slice_split newline xs) (omega arith))

parts_append : (a b : List (List ℕ)) → 0 < length b → lines_of_parts (a ++ b) ≡ map strip_carriage_return a ++ lines_of_parts b
parts_append [] b some = refl
parts_append (part ∷ a) b some =
    more_parts part (a ++ b) (omega (arith, some, length-append a b)) ∙ ap (λ (ls : List (List ℕ)). strip_carriage_return part ∷ ls) (parts_append a b some)

ended_lines : (xs ys : List ℕ) → lines (xs ++ 10 ∷ ys) ≡ map strip_carriage_return (slice_split newline xs) ++ lines ys
ended_lines xs ys = ap lines_of_parts (split_append xs ys) ∙ parts_append (slice_split newline xs) (slice_split newline ys) (rw (length-slice_split newline ys) (omega arith))

ends : (before : ℕ) (text : List ℕ) → last_after before text ≡ 10 → (text ≡ []) ⊎ ((xs : List ℕ) × (text ≡ xs ++ 10 ∷ []))
ends before [] last = inl refl
ends before (x ∷ []) last = inr ([], ap (λ (n : ℕ). n ∷ []) last)
ends before (x ∷ y ∷ text) last = by (ends x (y ∷ text) last)
  where
    by : (y ∷ text ≡ []) ⊎ ((xs : List ℕ) × (y ∷ text ≡ xs ++ 10 ∷ [])) → (x ∷ y ∷ text ≡ []) ⊎ ((xs : List ℕ) × (x ∷ y ∷ text ≡ xs ++ 10 ∷ []))
    by (inl e) = cc
    by (inr (xs, e)) = inr (x ∷ xs, ap (λ (l : List ℕ). x ∷ l) e)

-- the lines of whole lines and of what follows them
pub lines_append : (text more : List ℕ) → IsWhole text → lines (text ++ more) ≡ lines text ++ lines more
lines_append text more whole = by (ends 10 text whole)
  where
    by : (text ≡ []) ⊎ ((xs : List ℕ) × (text ≡ xs ++ 10 ∷ [])) → lines (text ++ more) ≡ lines text ++ lines more
    by (inl none) = subst (λ (t : List ℕ). lines (t ++ more) ≡ lines t ++ lines more) (sym none) refl
    by (inr (xs, is)) =
        let longer : lines ((xs ++ 10 ∷ []) ++ more) ≡ map strip_carriage_return (slice_split newline xs) ++ lines more = ap lines (append_assoc xs (10 ∷ []) more) ∙ ended_lines xs more in
        let alone : lines (xs ++ 10 ∷ []) ≡ map strip_carriage_return (slice_split newline xs) = ended_lines xs [] ∙ append-nil (map strip_carriage_return (slice_split newline xs)) in
        subst (λ (t : List ℕ). lines (t ++ more) ≡ lines t ++ lines more) (sym is) (longer ∙ ap (λ (ls : List (List ℕ)). ls ++ lines more) (sym alone))

pub last_append : (before : ℕ) (a b : List ℕ) → last_after before (a ++ b) ≡ last_after (last_after before a) b
last_append before [] b = refl
last_append before (x ∷ a) b = last_append x a b

pub whole_append : (a b : List ℕ) → IsWhole a → IsWhole b → IsWhole (a ++ b)
whole_append a b first second = last_append 10 a b ∙ ap (λ (n : ℕ). last_after n b) first ∙ second

is_no : (b : Bool) → (b ≡ true → ⊥) → b ≡ false
is_no true never = absurd (never refl)
is_no false never = refl

pub no_end_in : (text : List ℕ) → Nowhere (Passes newline text) 0 (length text) → HasNoEnd text
no_end_in text nowhere = All-from_get_or (λ byte. (byte == 10) ≡ false) text 0 (λ k below. is_no _ (nowhere k (omega arith) below))

last_taken : (before : ℕ) (text : List ℕ) (n : ℕ) → n < length text → last_after before (take (suc n) text) ≡ slice_index text n
last_taken before [] n below = absurd (omega (arith, below))
last_taken before (byte ∷ text) zero below = refl
last_taken before (byte ∷ text) (suc n) below = last_taken byte text n (omega (arith, below))

pub ends_at : (text : List ℕ) (n : ℕ) → NoneAfter (Passes newline text) 0 (length text) n → newline (slice_index text n) ≡ true → EndsAt text n
ends_at text n none feed =
    let is : slice_index text n ≡ 10 = grind (arith, nat_tests, feed) in
    let one : n + 1 ≡ suc n = omega arith in (
      none.high,
      subst (λ k. last_after 10 (take k text) ≡ 10) (sym one) (last_taken 10 text n none.high ∙ is),
      All-from_get_or (λ byte. (byte == 10) ≡ false) (drop (n + 1) text) 0 (λ k below.
          let at : n + 1 + k < length text = omega (arith, below, length-drop (n + 1) text) in
          is_no _ (λ found. none.after (n + 1 + k) (omega arith) at (subst (λ byte. newline byte ≡ true) (get_or-drop (n + 1) text k 0) found))),
    )

pub ends_first : (text : List ℕ) (n : ℕ) → NoneBefore (Passes newline text) 0 (length text) n → newline (slice_index text n) ≡ true → EndsFirst text n
ends_first text n none feed =
    let is : slice_index text n ≡ 10 = grind (arith, nat_tests, feed) in
    let before : HasNoEnd (take n text) = All-from_get_or (λ byte. (byte == 10) ≡ false) (take n text) 0 (λ k below.
    let early : k < n = omega (arith, below, length-take-le n text) in
    is_no _ (λ found. none.before k (omega arith) early (subst (λ byte. newline byte ≡ true) (get_or-take n text k 0 early) found))) in
    (none.high, (take n text, before, take_more text n 0 none.high ∙ ap (λ (byte : ℕ). take n text ++ byte ∷ []) is))

pub last_of : (before other : ℕ) (text : List ℕ) → 0 < length text → last_after before text ≡ last_after other text
last_of before other [] some = absurd (omega (arith, some))
last_of before other (byte ∷ text) some = refl

-- a line that has begun, and its end
pub line_whole : (begun end : List ℕ) → 0 < length end → IsWhole end → IsWhole (begun ++ end)
line_whole begun end some whole = last_append 10 begun end ∙ last_of (last_after 10 begun) 10 end some ∙ whole
