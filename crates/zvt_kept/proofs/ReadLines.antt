-- Lines that are read one after another.
use Rattle.std.proofs.Common.{◌≡◌, ℕ, ◌+◌, ◌<◌, ◌≤◌, Bool, true, false, if◌then◌else◌, List, [], ◌∷◌, ◌++◌, length, map, Option, Some, None, IsSome, refl, ap, sym, ◌∙◌, arith, append_assoc, length-append}
use Rattle.std.proofs.lemmas.List.{append-nil}
use Rattle.std.specs.Str.Lines.{lines}
use Rattle.zvt_kept.specs.Checks.{are_right}
use Rattle.zvt_kept.specs.Records.{Kept, kept_in, last_of, meaning_behind, meanings, then_kept}
use Rattle.zvt_kept.specs.Reading.{HasRead, IsFirstWrong, kept_of}
use Rattle.zvt_kept.specs.declared.records.Entry.{Entry}

then_assoc : (a b c : Option (List Kept)) → then_kept (then_kept a b) c ≡ then_kept a (then_kept b c)
then_assoc None b c = refl
then_assoc (Some a) None c = refl
then_assoc (Some a) (Some b) None = refl
then_assoc (Some a) (Some b) (Some c) = ap (λ (l : List Kept). Some l) (append_assoc a b c)

then_first : (a : Option (List Kept)) → then_kept (Some []) a ≡ a
then_first None = refl
then_first (Some a) = refl

-- the meanings of lines, and of those after them
pub meanings_append : (last : List ℕ) (a b : List (List ℕ)) → meanings last (a ++ b) ≡ then_kept (meanings last a) (meanings (last_of last a) b)
meanings_append last [] b = sym (then_first (meanings last b))
meanings_append last (line ∷ a) b =
    ap (then_kept (meaning_behind last line)) (meanings_append line a b) ∙ sym (then_assoc (meaning_behind last line) (meanings line a) (meanings (last_of line a) b))

meanings_one : (last line : List ℕ) → meanings last (line ∷ []) ≡ meaning_behind last line
meanings_one last line = then_last (meaning_behind last line)
  where
    then_last : (a : Option (List Kept)) → then_kept a (Some []) ≡ a
    then_last None = refl
    then_last (Some a) = ap (λ (l : List Kept). Some l) (append-nil a)

-- lines whose checks are right mean what they mean
pub right_kept : (text : List ℕ) → are_right (lines text) ≡ true → kept_in text ≡ meanings [] (lines text)
right_kept text right = ap (λ (b : Bool). if b then meanings [] (lines text) else None) right

pub wrong_kept : (text : List ℕ) → are_right (lines text) ≡ false → kept_in text ≡ None
wrong_kept text wrong = ap (λ (b : Bool). if b then meanings [] (lines text) else None) wrong

-- of a text with a meaning all checks are right
pub kept_right : (text : List ℕ) (kept : List Kept) → kept_in text ≡ Some kept → (are_right (lines text) ≡ true) × (meanings [] (lines text) ≡ Some kept)
kept_right text kept is = by_checks (are_right (lines text)) refl
  where
    by_checks : (b : Bool) → are_right (lines text) ≡ b → (are_right (lines text) ≡ true) × (meanings [] (lines text) ≡ Some kept)
    by_checks true right = (right, sym (right_kept text right) ∙ is)
    by_checks false wrong = absurd (cc (sym (wrong_kept text wrong) ∙ is))

either_none : (b : Bool) (o : Option (List Kept)) → o ≡ None → (if b then o else None) ≡ None
either_none true o none = none
either_none false o none = refl

last_added : (last : List ℕ) (a : List (List ℕ)) (line : List ℕ) → line ≡ last_of last (a ++ line ∷ [])
last_added last [] line = refl
last_added last (x ∷ a) line = last_added x a line

map_push : (entries : List Entry) (one : Entry) → map kept_of entries ++ kept_of one ∷ [] ≡ map kept_of (entries ++ one ∷ [])
map_push [] one = refl
map_push (e ∷ entries) one = ap (λ (l : List Kept). kept_of e ∷ l) (map_push entries one)

-- nothing is read yet
pub none_read : (text : List ℕ) → HasRead text text [] 0 []
none_read text = record { before = []; is = refl; good = refl; last_is = refl; number_is = refl; fits = omega arith }

pub next_fits : (text rest last after : List ℕ) (number : ℕ) (entries : List Entry) → HasRead text rest last number entries → length after < length rest → number + 1 + length after ≤ length text
next_fits text rest last after number entries h less = omega (arith, h.fits)

lines_next : (text rest last line after : List ℕ) (number : ℕ) (entries : List Entry) (h : HasRead text rest last number entries) → lines rest ≡ line ∷ lines after → lines text ≡ (h.before ++ line ∷ []) ++ lines after
lines_next text rest last line after number entries h is =
    h.is ∙ ap (λ (ls : List (List ℕ)). h.before ++ ls) is ∙ sym (append_assoc h.before (line ∷ []) (lines after))

meanings_next : (before : List (List ℕ)) (last line : List ℕ) (kept more : List Kept) → meanings [] before ≡ Some kept → last ≡ last_of [] before → meaning_behind last line ≡ Some more
    → meanings [] (before ++ line ∷ []) ≡ Some (kept ++ more)
meanings_next before last line kept more good at is =
    meanings_append [] before (line ∷ []) ∙ rw (good, meanings_one (last_of [] before) line, sym (ap (λ (l : List ℕ). meaning_behind l line) at) ∙ is) refl

-- a line that means nothing
pub read_nothing : (text rest last line after : List ℕ) (number : ℕ) (entries : List Entry) → HasRead text rest last number entries → lines rest ≡ line ∷ lines after → length after < length rest → meaning_behind last line ≡ Some [] → HasRead text after line (number + 1) entries
read_nothing text rest last line after number entries h is less nothing = record {
  before = h.before ++ line ∷ [];
  is = lines_next text rest last line after number entries h is;
  good = meanings_next h.before last line (map kept_of entries) [] h.good h.last_is nothing ∙ ap (λ (l : List Kept). Some l) (append-nil (map kept_of entries));
  last_is = last_added [] h.before line;
  number_is = omega (arith, h.number_is, length-append h.before (line ∷ []));
  fits = next_fits text rest last after number entries h less;
}

-- a line that is one entry
pub read_one : (text rest last line after : List ℕ) (number : ℕ) (entries : List Entry) (one : Entry) → HasRead text rest last number entries → lines rest ≡ line ∷ lines after → length after < length rest → meaning_behind last line ≡ Some (kept_of one ∷ [])
    → HasRead text after line (number + 1) (entries ++ one ∷ [])
read_one text rest last line after number entries one h is less kept = record {
  before = h.before ++ line ∷ [];
  is = lines_next text rest last line after number entries h is;
  good = meanings_next h.before last line (map kept_of entries) (kept_of one ∷ []) h.good h.last_is kept ∙ ap (λ (l : List Kept). Some l) (map_push entries one);
  last_is = last_added [] h.before line;
  number_is = omega (arith, h.number_is, length-append h.before (line ∷ []));
  fits = next_fits text rest last after number entries h less;
}

-- all of it is read
pub all_read : (text rest last : List ℕ) (number : ℕ) (entries : List Entry) → are_right (lines text) ≡ true → HasRead text rest last number entries → length rest ≡ 0 → kept_in text ≡ Some (map kept_of entries)
all_read text [] last number entries right h none = right_kept text right ∙ ap (meanings []) (h.is ∙ append-nil h.before) ∙ h.good
all_read text (byte ∷ rest) last number entries right h none = absurd (omega arith)

some_none : (a : Option (List Kept)) → then_kept a None ≡ None
some_none None = refl
some_none (Some a) = refl

is_some_of : {A : Type 0} (o : Option A) (a : A) → o ≡ Some a → IsSome o
is_some_of o a is = rw is refl

-- a line has no meaning
pub read_wrong : (text rest last line after : List ℕ) (number : ℕ) (entries : List Entry) → HasRead text rest last number entries → lines rest ≡ line ∷ lines after → meaning_behind last line ≡ None
    → (kept_in text ≡ None) × IsFirstWrong text (number + 1)
read_wrong text rest last line after number entries h is wrong =
    let split : lines text ≡ h.before ++ line ∷ lines after = h.is ∙ ap (λ (ls : List (List ℕ)). h.before ++ ls) is in
    let here : meaning_behind (last_of [] h.before) line ≡ None = sym (ap (λ (l : List ℕ). meaning_behind l line) h.last_is) ∙ wrong in
    let none : meanings (last_of [] h.before) (line ∷ lines after) ≡ None = ap (λ (m : Option (List Kept)). then_kept m (meanings line (lines after))) here in (
      either_none (are_right (lines text)) (meanings [] (lines text)) (ap (meanings []) split ∙ meanings_append [] h.before (line ∷ lines after) ∙ ap (then_kept (meanings [] h.before)) none ∙ some_none (meanings [] h.before)),
      record {
        before = h.before;
        line = line;
        after = lines after;
        is = split;
        good = is_some_of (meanings [] h.before) (map kept_of entries) h.good;
        wrong = here;
        number_is = omega (arith, h.number_is);
      },
    )
