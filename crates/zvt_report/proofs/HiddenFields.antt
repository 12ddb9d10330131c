-- What no report shows changes no content that it reads of a field.
use Rattle.std.proofs.Common.{◌≡◌, ℕ, ◌+◌, Bool, true, false, cond, List, [], ◌∷◌, Option, Some, None, fold, map, refl, sym, ◌∙◌, ap, ap₂, subst, arith}
use Rattle.std.specs.Prelude.{◌==◌, filter}
use Rattle.std.specs.Option.{option_and_then}
use Rattle.std.proofs.lemmas.Bool.Decides.{nat_tests}
use Rattle.zvt_field.specs.Grammar.{Field, plain, tree}
use Rattle.zvt_field.specs.Named.{bytes_of, content_of, count_of, is_named, sole}
use Rattle.zvt_report.specs.Hidden.{disclosed, disclosed_field, disclosed_fields, disclosed_in}

-- ---- fields

-- what is read of a content
abbrev View : Type 0
View = List ℕ → Option (List ℕ)

-- in a field with this BMP it is the same for what is disclosed
abbrev Keeps : ℕ → View → Type 0
Keeps bmp view = (content : List ℕ) → view (disclosed_in bmp content) ≡ view content

abbrev viewed : View → Field → Option (List ℕ)
viewed view f = option_and_then view (bytes_of f)

pub same_number : (a b : ℕ) → (a == b) ≡ true → a ≡ b
same_number a b is = grind (arith, nat_tests)

kept_bytes : (bmp : ℕ) (view : View) → Keeps bmp view → (f : Field) → is_named bmp f ≡ true → viewed view (disclosed_field f) ≡ viewed view f
kept_bytes bmp view keeps (plain own content) is = subst (λ (b : ℕ). view (disclosed_in b content) ≡ view content) (sym (same_number own bmp is)) (keeps content)
kept_bytes bmp view keeps (tree own objects) is = refl

same_name : (bmp : ℕ) (f : Field) → is_named bmp (disclosed_field f) ≡ is_named bmp f
same_name bmp (plain own content) = refl
same_name bmp (tree own objects) = refl

-- what is read of the fields with this BMP
abbrev contents : ℕ → View → List Field → List (Option (List ℕ))
contents bmp view fields = map (viewed view) (filter (is_named bmp) fields)

same_contents : (bmp : ℕ) (view : View) → Keeps bmp view → (fields : List Field) → contents bmp view (disclosed_fields fields) ≡ contents bmp view fields
same_contents bmp view keeps [] = refl
same_contents bmp view keeps (f ∷ fields) = by_test (is_named bmp f) refl (same_contents bmp view keeps fields)
  where
    by_test : (named : Bool) → is_named bmp f ≡ named → contents bmp view (disclosed_fields fields) ≡ contents bmp view fields → contents bmp view (disclosed_fields (f ∷ fields)) ≡ contents bmp view (f ∷ fields)
    by_test true is more =
        rw (same_name bmp f ∙ is, is) (ap₂ (λ (one : Option (List ℕ)) (rest : List (Option (List ℕ))). one ∷ rest) (kept_bytes bmp view keeps f is) more)
    by_test false is more = rw (same_name bmp f ∙ is, is) more

-- the only one of a list
abbrev only : List (Option (List ℕ)) → Option (List ℕ)
only [] = None
only (one ∷ []) = one
only (one ∷ two ∷ more) = None

only_sole : (view : View) (fields : List Field) → option_and_then view (option_and_then bytes_of (sole fields)) ≡ only (map (viewed view) fields)
only_sole view [] = refl
only_sole view (f ∷ []) = refl
only_sole view (f ∷ g ∷ more) = refl

pub same_view : (bmp : ℕ) (view : View) → Keeps bmp view → (fields : List Field) → option_and_then view (content_of bmp (disclosed_fields fields)) ≡ option_and_then view (content_of bmp fields)
same_view bmp view keeps fields =
    only_sole view (filter (is_named bmp) (disclosed_fields fields)) ∙ ap only (same_contents bmp view keeps fields) ∙ sym (only_sole view (filter (is_named bmp) fields))

all_of_it : (o : Option (List ℕ)) → option_and_then (λ (content : List ℕ). Some content) o ≡ o
all_of_it None = refl
all_of_it (Some content) = refl

pub same_content : (bmp : ℕ) → ((content : List ℕ) → disclosed_in bmp content ≡ content) → (fields : List Field) → content_of bmp (disclosed_fields fields) ≡ content_of bmp fields
same_content bmp keeps fields =
    sym (all_of_it (content_of bmp (disclosed_fields fields))) ∙ same_view bmp (λ (content : List ℕ). Some content) (λ content. ap Some (keeps content)) fields ∙ all_of_it (content_of bmp fields)

-- how often it stands, and that many times before
abbrev count_from : ℕ → (start : ℕ) → List Field → ℕ
count_from bmp start fields = fold (λ (count : ℕ) (f : Field). count + cond (is_named bmp f) 1 0) start fields

counted_same : (bmp start : ℕ) (fields : List Field) → count_from bmp start (disclosed_fields fields) ≡ count_from bmp start fields
counted_same bmp start [] = refl
counted_same bmp start (f ∷ fields) =
    ap (λ (named : Bool). count_from bmp (start + cond named 1 0) (disclosed_fields fields)) (same_name bmp f) ∙ counted_same bmp (start + cond (is_named bmp f) 1 0) fields

pub same_count : (bmp : ℕ) (fields : List Field) → count_of bmp (disclosed_fields fields) ≡ count_of bmp fields
same_count bmp fields = counted_same bmp 0 fields
