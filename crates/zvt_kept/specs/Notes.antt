-- Notes: the part of an order's record after the order. They do not affect a book.
use Rattle.std.specs.Prelude.{◌≡◌, ◌&&◌, true, Bool, false, ℕ, if◌then◌else◌, List, [], ◌∷◌, ◌++◌, codes, length, take, drop, Option, Some, None, option_map}
use Rattle.std.specs.Char.{is_ascii_graphic}
use Rattle.std.specs.List.{list_all}
use Rattle.std.specs.Str.{bytes_eq}
use Rattle.zvt_text.specs.Words.{fits, is_count, trailing}

-- a time to the second, in UTC; no calendar is checked
abbrev pub moment_form : List ℕ
moment_form = codes "0000-00-00T00:00:00Z"

abbrev pub is_moment : List ℕ → Bool
is_moment text = fits moment_form text

-- 1 to 40 printable ASCII characters, none of them a space
abbrev pub is_reference : List ℕ → Bool
is_reference text = is_count 40 (length text) && list_all is_ascii_graphic text

-- ---- the words of a note, after the words of its order

-- a word behind its key, if there is one
abbrev pub keyed : (key : List ℕ) → (word : Option (List ℕ)) → List ℕ
keyed key None = []
keyed key (Some word) = key ++ word

abbrev pub note_words : (at reference : Option (List ℕ)) → List ℕ
note_words at reference = keyed (codes " at ") at ++ keyed (codes " ref ") reference

abbrev pub fits_if_some : (List ℕ → Bool) → Option (List ℕ) → Bool
fits_if_some fits None = true
fits_if_some fits (Some text) = fits text

-- the note with this time and this reference, if each that is given has the right form
abbrev pub note_of : (at reference : Option (List ℕ)) → Option (List ℕ)
note_of at reference = if fits_if_some is_moment at && fits_if_some is_reference reference then Some (note_words at reference) else None

-- ---- reading

abbrev pub ends_so : Option (List ℕ) → Bool
ends_so None = false
ends_so (Some reference) = is_reference reference

-- nothing, or a reference
abbrev pub is_reference_part : List ℕ → Bool
is_reference_part [] = true
is_reference_part (byte ∷ words) = ends_so (trailing (codes " ref ") (byte ∷ words))

abbrev pub is_note_behind : (words : List ℕ) → (behind_at : Option (List ℕ)) → Bool
is_note_behind words None = is_reference_part words
is_note_behind words (Some rest) = is_moment (take 20 rest) && is_reference_part (drop 20 rest)

-- whether words are a note
abbrev pub is_note : List ℕ → Bool
is_note words = is_note_behind words (trailing (codes " at ") words)

-- ---- the parts of a note

-- the time
abbrev pub at_in : (note : List ℕ) → Option (List ℕ)
at_in note = option_map (take 20) (trailing (codes " at ") note)

abbrev pub behind_time : (note : List ℕ) → (behind_at : Option (List ℕ)) → List ℕ
behind_time note None = note
behind_time note (Some rest) = drop 20 rest

-- the reference
abbrev pub reference_in : (note : List ℕ) → Option (List ℕ)
reference_in note = trailing (codes " ref ") (behind_time note (trailing (codes " at ") note))

-- a note has this reference
abbrev pub is_noted_by : (reference note : List ℕ) → Bool
is_noted_by reference note = elim (reference_in note) [ None ↦ false | Some found ↦ bytes_eq found reference ]

-- ---- worked rows

abbrev pub NoteRows : Type 0
NoteRows =
    (is_note (codes " at 2026-11-28T09:14:03Z ref A-1009") ≡ true) ×
    (is_note (codes " at 2026-11-28T09:14:03Z") ≡ true) ×
    (is_note (codes " ref A-1009") ≡ true) ×
    (is_note [] ≡ true) ×
    (is_note (codes " ") ≡ false) ×
    (is_note (codes " ref ") ≡ false) ×
    (is_note (codes " ref two words") ≡ false) ×
    (is_note (codes " at 2026-11-28") ≡ false) ×
    (is_note (codes " ref A-1009 at 2026-11-28T09:14:03Z") ≡ false) ×
    (note_of (Some (codes "2026-11-28T09:14:03Z")) (Some (codes "A-1009")) ≡ Some (codes " at 2026-11-28T09:14:03Z ref A-1009")) ×
    (note_of (Some (codes "today")) None ≡ None) ×
    (at_in (codes " at 2026-11-28T09:14:03Z ref A-1009") ≡ Some (codes "2026-11-28T09:14:03Z")) ×
    (reference_in (codes " at 2026-11-28T09:14:03Z ref A-1009") ≡ Some (codes "A-1009")) ×
    (at_in (codes " ref A-1009") ≡ None) ×
    (reference_in (codes " at 2026-11-28T09:14:03Z") ≡ None) ×
    (is_noted_by (codes "A-1009") (codes " at 2026-11-28T09:14:03Z ref A-1009") ≡ true) ×
    (is_noted_by (codes "A-100") (codes " ref A-1009") ≡ false) ×
    (is_noted_by [] (codes " at 2026-11-28T09:14:03Z") ≡ false)
