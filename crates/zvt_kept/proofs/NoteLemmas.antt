-- Notes: their words, and how they are read.
use Rattle.std.proofs.Common.{◌≡◌, ◌⊎◌, ⊎_elim, inl, inr, ℕ, ◌<◌, ◌≤◌, ◌&&◌, Bool, true, false, cond, suc, nat_lt, nat_le, List, [], ◌∷◌, ◌++◌, All, length, take, drop, Option, Some, None, Result, Ok, Err, IsOk, OnOk, refl, ap, sym, subst, ◌∙◌, arith, length-append, length-take}
use Rattle.std.specs.Prelude.{codes, ◌==◌}
use Rattle.std.specs.Char.{is_ascii_digit, is_ascii_graphic}
use Rattle.std.specs.List.{list_all}
use Rattle.std.specs.Str.{bytes_eq}
use Rattle.std.proofs.Math.Seq.{take-append_seam}
use Rattle.std.proofs.lemmas.Bool.{false≢true, leb-true}
use Rattle.std.proofs.lemmas.Bool.Decides.{nat_tests}
use Rattle.std.proofs.lemmas.List.{take-append-drop}
use Rattle.std.proofs.lemmas.List.Elements.{All-append, All-cons, All-nil, All-weaker}
use Rattle.std.proofs.lemmas.List.Sums.{AllPass-from_list_all}
use Rattle.std.proofs.lemmas.Slice.Eq.{bytes_eq-Decides}
use Rattle.zvt_text.specs.Words.{fits, fits_place, is_count, trailing}
use Rattle.zvt_kept.specs.Notes.{NoteRows, ends_so, fits_if_some, is_moment, is_note, is_note_behind, is_reference, is_reference_part, moment_form, keyed, note_words, at_in, reference_in}
use Rattle.zvt_kept.specs.Records.{ends_word, word_size}

rows : NoteRows
rows = (refl, refl, refl, refl, refl, refl, refl, refl, refl, refl, refl, refl, refl, refl, refl, refl, refl, refl)

pub both : (a b : Bool) → (a && b) ≡ true → (a ≡ true) × (b ≡ true)
both true b is = (refl, is)
both false b is = absurd cc

-- ---- what begins with a word

abbrev words_in : Option (List ℕ) → List ℕ
words_in None = []
words_in (Some words) = words

pub trailing_is : (prefix text rest : List ℕ) → trailing prefix text ≡ Some rest → text ≡ prefix ++ rest
trailing_is prefix text rest is = by_test (bytes_eq (take (length prefix) text) prefix) refl
  where
    by_test : (same : Bool) → bytes_eq (take (length prefix) text) prefix ≡ same → text ≡ prefix ++ rest
    by_test true same =
        let behind : drop (length prefix) text ≡ rest = ap words_in (subst (λ (b : Bool). cond b (Some (drop (length prefix) text)) None ≡ Some rest) same is) in
        sym (take-append-drop (length prefix) text) ∙ ap (λ first. first ++ drop (length prefix) text) ((bytes_eq-Decides (take (length prefix) text) prefix).0 same) ∙ ap (λ r. prefix ++ r) behind
    by_test false other = let none : None ≡ Some rest = subst (λ (b : Bool). cond b (Some (drop (length prefix) text)) None ≡ Some rest) other is in absurd cc

-- ---- times and references

digit_plain : (byte : ℕ) → is_ascii_digit byte ≡ true → 31 < byte
digit_plain byte is = grind (arith, nat_tests)

equal : (n m : ℕ) → (n == m) ≡ true → n ≡ m
equal n m is = grind (arith, nat_tests)

place_plain : (place byte : ℕ) → 31 < place → fits_place place byte ≡ true → 31 < byte
place_plain place byte plain is = by_test (place == 48) refl
  where
    by_test : (zero : Bool) → (place == 48) ≡ zero → 31 < byte
    by_test true z = digit_plain byte (subst (λ (b : Bool). cond b (is_ascii_digit byte) (byte == place) ≡ true) z is)
    by_test false z = let same : byte ≡ place = equal byte place (subst (λ (b : Bool). cond b (is_ascii_digit byte) (byte == place) ≡ true) z is) in omega (arith, same, plain)

above : (byte : ℕ) → nat_lt 31 byte ≡ true → 31 < byte
above byte is = grind (arith, nat_tests)

record Fitting (form text : List ℕ) : Type 0 where
  pub size : length text ≡ length form
  pub plain : All (λ byte. 31 < byte) text

fitting : (form text : List ℕ) → list_all (λ byte. nat_lt 31 byte) form ≡ true → fits form text ≡ true → Fitting form text
fitting [] [] plain is = record { size = refl; plain = All-nil (λ byte. 31 < byte) }
fitting [] (byte ∷ text) plain is = absurd cc
fitting (place ∷ form) [] plain is = absurd cc
fitting (place ∷ form) (byte ∷ text) plain is =
    let first = both (nat_lt 31 place) (list_all (λ byte. nat_lt 31 byte) form) plain in
    let here = both (fits_place place byte) (fits form text) is in
    let more = fitting form text first.1 here.1 in
    record {
      size = ap suc more.size;
      plain = All-cons (λ byte. 31 < byte) byte text (place_plain place byte (above place first.0) here.0) more.plain;
    }

moment : (text : List ℕ) → is_moment text ≡ true → Fitting moment_form text
moment text is = fitting moment_form text refl is

graphic_plain : (byte : ℕ) → is_ascii_graphic byte ≡ true → 31 < byte
graphic_plain byte is = grind (arith, nat_tests)

record Referring (text : List ℕ) : Type 0 where
  pub few : length text ≤ 40
  pub plain : All (λ byte. 31 < byte) text

referring : (text : List ℕ) → is_reference text ≡ true → Referring text
referring text is =
    let parts = both (is_count 40 (length text)) (list_all is_ascii_graphic text) is in
    let counts = both (nat_lt 0 (length text)) (nat_le (length text) 40) parts.0 in
    record {
      few = leb-true (length text) 40 counts.1;
      plain = All-weaker (λ byte. is_ascii_graphic byte ≡ true) (λ byte. 31 < byte) graphic_plain text (AllPass-from_list_all is_ascii_graphic text parts.1);
    }

-- ---- the parts of a note

abbrev IsAtPart : List ℕ → Type 0
IsAtPart words = (words ≡ []) ⊎ ((text : List ℕ) × (words ≡ codes " at " ++ text) × (is_moment text ≡ true))

abbrev IsReferencePart : List ℕ → Type 0
IsReferencePart words = (words ≡ []) ⊎ ((text : List ℕ) × (words ≡ codes " ref " ++ text) × (is_reference text ≡ true))

record HasParts (words : List ℕ) : Type 0 where
  pub at : List ℕ
  pub reference : List ℕ
  pub is : words ≡ at ++ reference
  pub at_is : IsAtPart at
  pub reference_is : IsReferencePart reference

reference_part : (words : List ℕ) → is_reference_part words ≡ true → IsReferencePart words
reference_part [] is = inl refl
reference_part (byte ∷ words) is = by_rest (trailing (codes " ref ") (byte ∷ words)) refl is
  where
    by_rest : (found : Option (List ℕ)) → trailing (codes " ref ") (byte ∷ words) ≡ found → ends_so found ≡ true → IsReferencePart (byte ∷ words)
    by_rest None none is = absurd cc
    by_rest (Some text) some is = inr (text, trailing_is (codes " ref ") (byte ∷ words) text some, is)

parts : (words : List ℕ) → is_note words ≡ true → HasParts words
parts words is = by_rest (trailing (codes " at ") words) refl is
  where
    by_rest : (found : Option (List ℕ)) → trailing (codes " at ") words ≡ found → is_note_behind words found ≡ true → HasParts words
    by_rest None none is = record { at = []; reference = words; is = refl; at_is = inl refl; reference_is = reference_part words is }
    by_rest (Some rest) some is =
        let two = both (is_moment (take 20 rest)) (is_reference_part (drop 20 rest)) is in
        record {
          at = codes " at " ++ take 20 rest;
          reference = drop 20 rest;
          is = trailing_is (codes " at ") words rest some ∙ ap (λ r. codes " at " ++ r) (sym (take-append-drop 20 rest));
          at_is = inr (take 20 rest, refl, two.0);
          reference_is = reference_part (drop 20 rest) two.1;
        }

-- ---- what a note has

plain_word : (word : List ℕ) → list_all (λ byte. nat_lt 31 byte) word ≡ true → All (λ byte. 31 < byte) word
plain_word word is = All-weaker (λ byte. nat_lt 31 byte ≡ true) (λ byte. 31 < byte) above word (AllPass-from_list_all (λ byte. nat_lt 31 byte) word is)

record Has (most : ℕ) (words : List ℕ) : Type 0 where
  pub few : length words ≤ most
  pub plain : All (λ byte. 31 < byte) words

at_has : (words : List ℕ) → IsAtPart words → Has 24 words
at_has words is = ⊎_elim
    (λ none. subst (λ w. Has 24 w) (sym none) (record { few = omega arith; plain = All-nil (λ byte. 31 < byte) }))
    (λ some. let m = moment some.0 some.2 in
    subst (λ w. Has 24 w) (sym some.1) (record { few = omega (arith, m.size, length-append (codes " at ") some.0); plain = All-append (λ byte. 31 < byte) (codes " at ") some.0 (plain_word (codes " at ") refl) m.plain }))
    is

reference_has : (words : List ℕ) → IsReferencePart words → Has 45 words
reference_has words is = ⊎_elim
    (λ none. subst (λ w. Has 45 w) (sym none) (record { few = omega arith; plain = All-nil (λ byte. 31 < byte) }))
    (λ some. let r = referring some.0 some.2 in
    subst (λ w. Has 45 w) (sym some.1) (record { few = omega (arith, r.few, length-append (codes " ref ") some.0); plain = All-append (λ byte. 31 < byte) (codes " ref ") some.0 (plain_word (codes " ref ") refl) r.plain }))
    is

note_has : (words : List ℕ) → is_note words ≡ true → Has 69 words
note_has words is =
    let p = parts words is in
    let a = at_has p.at p.at_is in
    let r = reference_has p.reference p.reference_is in
    subst (λ w. Has 69 w) (sym p.is) (record { few = omega (arith, a.few, r.few, length-append p.at p.reference); plain = All-append (λ byte. 31 < byte) p.at p.reference a.plain r.plain })

pub note_few : (words : List ℕ) → is_note words ≡ true → length words ≤ 69
note_few words is = (note_has words is).few

pub note_plain : (words : List ℕ) → is_note words ≡ true → All (λ byte. 31 < byte) words
note_plain words is = (note_has words is).plain

-- a word ends before a note
pub record Ends (words : List ℕ) : Type 0 where
  pub size : word_size words ≡ 0
  pub ends : ends_word words ≡ true

pub note_ends : (words : List ℕ) → is_note words ≡ true → Ends words
note_ends words is =
    let p = parts words is in
    subst Ends (sym p.is) (⊎_elim
    (λ none. subst (λ a. Ends (a ++ p.reference)) (sym none) (⊎_elim
    (λ nothing. subst Ends (sym nothing) (record { size = refl; ends = refl }))
    (λ some. subst Ends (sym some.1) (record { size = refl; ends = refl }))
    p.reference_is))
    (λ some. subst (λ a. Ends (a ++ p.reference)) (sym some.1) (record { size = refl; ends = refl }))
    p.at_is)

-- ---- a note that is made

drop_seam : (first rest : List ℕ) → drop (length first) (first ++ rest) ≡ rest
drop_seam [] rest = refl
drop_seam (byte ∷ first) rest = drop_seam first rest

reference_made : (reference : Option (List ℕ)) → fits_if_some is_reference reference ≡ true → is_reference_part (keyed (codes " ref ") reference) ≡ true
reference_made None is = refl
reference_made (Some text) is = is

reference_alone : (reference : Option (List ℕ)) → fits_if_some is_reference reference ≡ true → is_note (keyed (codes " ref ") reference) ≡ true
reference_alone None is = refl
reference_alone (Some text) is = is

pub note_made : (at reference : Option (List ℕ)) → (fits_if_some is_moment at && fits_if_some is_reference reference) ≡ true → is_note (note_words at reference) ≡ true
note_made None reference is = reference_alone reference is
note_made (Some text) reference is =
    let two = both (is_moment text) (fits_if_some is_reference reference) is in
    let tail = keyed (codes " ref ") reference in
    let size : length text ≡ 20 = (moment text two.0).size in
    let first : take 20 (text ++ tail) ≡ text = ap (λ n. take n (text ++ tail)) (sym size) ∙ take-append_seam text tail in
    let rest : drop 20 (text ++ tail) ≡ tail = ap (λ n. drop n (text ++ tail)) (sym size) ∙ drop_seam text tail in
    ap (λ m. is_moment m && is_reference_part (drop 20 (text ++ tail))) first ∙ ap (λ r. is_moment text && is_reference_part r) rest
    ∙ ap (λ b. b && is_reference_part tail) two.0 ∙ reference_made reference two.1

-- it has room for its parts
pub record Fits (at reference : Option (List ℕ)) : Type 0 where
  pub at_few : length (keyed (codes " at ") at) ≤ 24
  pub reference_few : length (keyed (codes " ref ") reference) ≤ 45
  pub made : is_note (note_words at reference) ≡ true

at_few : (at : Option (List ℕ)) → fits_if_some is_moment at ≡ true → length (keyed (codes " at ") at) ≤ 24
at_few None is = omega arith
at_few (Some text) is = (at_has (codes " at " ++ text) (inr (text, refl, is))).few

reference_few : (reference : Option (List ℕ)) → fits_if_some is_reference reference ≡ true → length (keyed (codes " ref ") reference) ≤ 45
reference_few None is = omega arith
reference_few (Some text) is = (reference_has (codes " ref " ++ text) (inr (text, refl, is))).few

pub right_fits : (at reference : Option (List ℕ)) → (fits_if_some is_moment at && fits_if_some is_reference reference) ≡ true → Fits at reference
right_fits at reference is =
    let two = both (fits_if_some is_moment at) (fits_if_some is_reference reference) is in
    record { at_few = at_few at two.0; reference_few = reference_few reference two.1; made = note_made at reference is }

-- the words after each part was added
pub first_added : (at : Option (List ℕ)) (start one : List ℕ) → start ≡ [] → one ≡ start ++ keyed (codes " at ") at → one ≡ keyed (codes " at ") at
first_added at start one none added = added ∙ ap (λ l. l ++ keyed (codes " at ") at) none

pub both_added : (at reference : Option (List ℕ)) (start one two : List ℕ) → start ≡ [] → one ≡ start ++ keyed (codes " at ") at → two ≡ one ++ keyed (codes " ref ") reference → two ≡ note_words at reference
both_added at reference start one two none first next = next ∙ ap (λ l. l ++ keyed (codes " ref ") reference) (first_added at start one none first)

-- ---- the parts of a note

-- behind the word for the time comes a whole time
pub time_there : (words rest : List ℕ) → is_note words ≡ true → trailing (codes " at ") words ≡ Some rest → 20 ≤ length rest
time_there words rest noted is =
    let behind : is_note_behind words (Some rest) ≡ true = ap (is_note_behind words) (sym is) ∙ noted in
    let fit = moment (take 20 rest) (both (is_moment (take 20 rest)) (is_reference_part (drop 20 rest)) behind).0 in
    omega (arith, fit.size, length-take 20 rest)

-- a note that is made has the time and the reference that it is made of
pub time_back : (at reference : Option (List ℕ)) → (fits_if_some is_moment at && fits_if_some is_reference reference) ≡ true → at_in (note_words at reference) ≡ at
time_back None None is = refl
time_back None (Some text) is = refl
time_back (Some text) reference is =
    let fit = moment text (both (is_moment text) (fits_if_some is_reference reference) is).0 in
    ap (λ n. Some (take n (text ++ keyed (codes " ref ") reference))) (sym fit.size) ∙ ap (λ t. Some t) (take-append_seam text (keyed (codes " ref ") reference))

alone_back : (reference : Option (List ℕ)) → trailing (codes " ref ") (keyed (codes " ref ") reference) ≡ reference
alone_back None = refl
alone_back (Some text) = refl

pub reference_back : (at reference : Option (List ℕ)) → (fits_if_some is_moment at && fits_if_some is_reference reference) ≡ true → reference_in (note_words at reference) ≡ reference
reference_back None None is = refl
reference_back None (Some text) is = refl
reference_back (Some text) reference is =
    let fit = moment text (both (is_moment text) (fits_if_some is_reference reference) is).0 in
    let tail = keyed (codes " ref ") reference in
    ap (λ n. trailing (codes " ref ") (drop n (text ++ tail))) (sym fit.size) ∙ ap (trailing (codes " ref ")) (drop_seam text tail) ∙ alone_back reference

-- ---- a note that is read

-- words that were added to none, for which there was room
pub extended : {E : Type 0} (result : Result Unit E) (words before other : List ℕ) → IsOk result → OnOk result (words ≡ before ++ other) → before ≡ [] → words ≡ other
extended (Ok done) words before other ok is none = is ∙ ap (λ (l : List ℕ). l ++ other) none
extended (Err why) words before other ok is none = absurd (false≢true ok)
