-- Characters are read back from their spelling.
use Rattle.std.proofs.Common.{◌≡◌, ◌∙◌, ◌==◌, ◌++◌, ◌&&◌, ℕ, Bool, true, false, not, cond, List, [], ◌∷◌, Option, Some, None, inl, inr, ap, refl, sym, map, drop}
use Rattle.std.specs.List.{flat_map, list_all}
use Rattle.std.proofs.lemmas.Bool.{cases_Bool, eqb-true}
use Rattle.std.proofs.lemmas.List.Folds.{list_all-append}
use Rattle.zvt_page.specs.Html.{escaped, escaped_letter, is_control, shown, spelled}
use Rattle.zvt_page.specs.Laws.{EscapedIsHarmless, is_harmless}

-- ---- no character of markup

harmless : (c : ℕ) → is_control c ≡ false → list_all is_harmless (spelled c) ≡ true
harmless c plain = elim (cases_Bool (c == 38)) [
  | inl is ↦ rw is refl
  | inr other ↦ elim (cases_Bool (c == 60)) [
    | inl is ↦ rw (other, is) refl
    | inr no_start ↦ elim (cases_Bool (c == 62)) [
      | inl is ↦ rw (other, no_start, is) refl
      | inr no_end ↦ elim (cases_Bool (c == 34)) [
        | inl is ↦ rw (other, no_start, no_end, is) refl
        | inr no_quote ↦ elim (cases_Bool (c == 39)) [
          | inl is ↦ rw (other, no_start, no_end, no_quote, is) refl
          | inr no_mark ↦ rw (other, no_start, no_end, no_quote, no_mark, plain) (rw (no_start, no_end, no_quote, no_mark) refl)
        ]
      ]
    ]
  ]
]

no_control : (c : ℕ) → is_control (shown c) ≡ false
no_control c = elim (cases_Bool (is_control c)) [
  | inl is ↦ rw is refl
  | inr plain ↦ rw plain plain
]

all_harmless : (characters : List ℕ) → list_all is_harmless (flat_map escaped_letter characters) ≡ true
all_harmless [] = refl
all_harmless (c ∷ later) =
    list_all-append is_harmless (escaped_letter c) (flat_map escaped_letter later) ∙ (rw (harmless (shown c) (no_control c), all_harmless later) refl)

pub escaped_is_harmless : EscapedIsHarmless
unfolding escaped
escaped_is_harmless characters = all_harmless characters

-- ---- the first character

-- which entity begins with this letter
abbrev entity_letter : ℕ → ℕ
entity_letter k = cond (k == 97) 38 (cond (k == 108) 60 (cond (k == 103) 62 (cond (k == 113) 34 39)))

-- the number of its letters
abbrev entity_size : ℕ → ℕ
entity_size k = cond (k == 97) 4 (cond (k == 108) 3 (cond (k == 103) 3 (cond (k == 113) 5 4)))

abbrev in_entity : List ℕ → Option (ℕ × List ℕ)
in_entity [] = None
in_entity (k ∷ later) = Some (entity_letter k, drop (entity_size k) (k ∷ later))

abbrev pub first_of : List ℕ → Option (ℕ × List ℕ)
first_of [] = None
first_of (c ∷ later) = cond (c == 38) (in_entity later) (Some (c, later))

pub reads_first : (c : ℕ) (later : List ℕ) → first_of (spelled c ++ later) ≡ Some (c, later)
reads_first c later = elim (cases_Bool (c == 38)) [
  | inl is ↦ rw is (ap (λ (n : ℕ). Some (n, later)) (sym (eqb-true c 38 is)))
  | inr other ↦ elim (cases_Bool (c == 60)) [
    | inl is ↦ rw (other, is) (ap (λ (n : ℕ). Some (n, later)) (sym (eqb-true c 60 is)))
    | inr no_start ↦ elim (cases_Bool (c == 62)) [
      | inl is ↦ rw (other, no_start, is) (ap (λ (n : ℕ). Some (n, later)) (sym (eqb-true c 62 is)))
      | inr no_end ↦ elim (cases_Bool (c == 34)) [
        | inl is ↦ rw (other, no_start, no_end, is) (ap (λ (n : ℕ). Some (n, later)) (sym (eqb-true c 34 is)))
        | inr no_quote ↦ elim (cases_Bool (c == 39)) [
          | inl is ↦ rw (other, no_start, no_end, no_quote, is) (ap (λ (n : ℕ). Some (n, later)) (sym (eqb-true c 39 is)))
          | inr no_mark ↦ rw (other, no_start, no_end, no_quote, no_mark, other) refl
        ]
      ]
    ]
  ]
]

abbrev found_letter : Option (ℕ × List ℕ) → ℕ
found_letter None = 0
found_letter (Some p) = p.0

abbrev found_later : Option (ℕ × List ℕ) → List ℕ
found_later None = []
found_later (Some p) = p.1

pub same_first : (c d : ℕ) (x y : List ℕ) → spelled c ++ x ≡ spelled d ++ y → (c ≡ d) × (x ≡ y)
same_first c d x y same =
    let found : Some (c, x) ≡ Some (d, y) = sym (reads_first c x) ∙ ap first_of same ∙ reads_first d y in
    (ap found_letter found, ap found_later found)

pub not_empty : (c : ℕ) (x : List ℕ) → spelled c ++ x ≡ [] → ⊥
not_empty c x same =
    let found : Some (c, x) ≡ None = sym (reads_first c x) ∙ ap first_of same in
    cc (found)

-- ---- a text

abbrev pub spelled_text : List ℕ → List ℕ
spelled_text characters = flat_map spelled characters

pub as_shown : (characters : List ℕ) → escaped characters ≡ spelled_text (map shown characters)
unfolding escaped
as_shown [] = refl
as_shown (c ∷ later) = ap (λ (l : List ℕ). escaped_letter c ++ l) (as_shown later)

pub same_text : (v w : List ℕ) → spelled_text v ≡ spelled_text w → v ≡ w
same_text [] [] same = refl
same_text [] (d ∷ w) same = absurd (not_empty d (spelled_text w) (sym same))
same_text (c ∷ v) [] same = absurd (not_empty c (spelled_text v) same)
same_text (c ∷ v) (d ∷ w) same =
    let first = same_first c d (spelled_text v) (spelled_text w) same in
    ap (λ (n : ℕ). n ∷ v) first.0 ∙ ap (λ (l : List ℕ). d ∷ l) (same_text v w first.1)

-- ---- what comes before a character

abbrev pub up_to : (stops : ℕ → Bool) → List ℕ → List ℕ × List ℕ
up_to stops [] = ([], [])
up_to stops (c ∷ later) = cond (stops c) ([], c ∷ later) (c ∷ (up_to stops later).0, (up_to stops later).1)

abbrev pub goes_on : (stops : ℕ → Bool) → ℕ → Bool
goes_on stops c = not (stops c)

no_stop : (stops : ℕ → Bool) (c : ℕ) (a : List ℕ) → list_all (goes_on stops) (c ∷ a) ≡ true → stops c ≡ false
no_stop stops c a all = elim (cases_Bool (stops c)) [
  | inl is ↦ let bad : false ≡ true = ap (λ (b : Bool). not b && list_all (goes_on stops) a) (sym is) ∙ all in absurd (cc (bad))
  | inr other ↦ other
]

later_go_on : (stops : ℕ → Bool) (c : ℕ) (a : List ℕ) → list_all (goes_on stops) (c ∷ a) ≡ true → list_all (goes_on stops) a ≡ true
later_go_on stops c a all = ap (λ (b : Bool). not b && list_all (goes_on stops) a) (sym (no_stop stops c a all)) ∙ all

pub stops_there : (stops : ℕ → Bool) (a : List ℕ) (c : ℕ) (x : List ℕ) → list_all (goes_on stops) a ≡ true → stops c ≡ true → up_to stops (a ++ c ∷ x) ≡ (a, c ∷ x)
stops_there stops [] c x all stop = rw stop refl
stops_there stops (d ∷ a) c x all stop =
    let rest = stops_there stops a c x (later_go_on stops d a all) stop in
    rw (no_stop stops d a all) (ap (λ (p : List ℕ × List ℕ). (d ∷ p.0, p.1)) rest)

pub same_before : (stops : ℕ → Bool) (a b : List ℕ) (c d : ℕ) (x y : List ℕ)
    → list_all (goes_on stops) a ≡ true → list_all (goes_on stops) b ≡ true → stops c ≡ true → stops d ≡ true → a ++ c ∷ x ≡ b ++ d ∷ y
    → (a ≡ b) × (c ∷ x ≡ d ∷ y)
same_before stops a b c d x y all_a all_b stop_c stop_d same =
    let found : (a, c ∷ x) ≡ (b, d ∷ y) = sym (stops_there stops a c x all_a stop_c) ∙ ap (up_to stops) same ∙ stops_there stops b d y all_b stop_d in
    (ap (λ (p : List ℕ × List ℕ). p.0) found, ap (λ (p : List ℕ × List ℕ). p.1) found)

-- ---- quotation marks

abbrev pub is_quote : ℕ → Bool
is_quote c = c == 34

letter_goes_on : (c : ℕ) → list_all (goes_on is_quote) (spelled c) ≡ true
letter_goes_on c = elim (cases_Bool (c == 38)) [
  | inl is ↦ rw is refl
  | inr other ↦ elim (cases_Bool (c == 60)) [
    | inl is ↦ rw (other, is) refl
    | inr no_start ↦ elim (cases_Bool (c == 62)) [
      | inl is ↦ rw (other, no_start, is) refl
      | inr no_end ↦ elim (cases_Bool (c == 34)) [
        | inl is ↦ rw (other, no_start, no_end, is) refl
        | inr no_quote ↦ elim (cases_Bool (c == 39)) [
          | inl is ↦ rw (other, no_start, no_end, no_quote, is) refl
          | inr no_mark ↦ rw (other, no_start, no_end, no_quote, no_mark, no_quote) refl
        ]
      ]
    ]
  ]
]

pub text_goes_on : (v : List ℕ) → list_all (goes_on is_quote) (spelled_text v) ≡ true
text_goes_on [] = refl
text_goes_on (c ∷ later) =
    list_all-append (goes_on is_quote) (spelled c) (spelled_text later) ∙ (rw (letter_goes_on c, text_goes_on later) refl)
