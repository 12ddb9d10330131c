-- The sum of the audits of several traces.
use Rattle.std.specs.Prelude.{◌≡◌, ℕ, ◌==◌, List, [], ◌∷◌, ◌++◌, codes, if◌then◌else◌, refl}
use Rattle.std.specs.Fmt.{decimal, digits}
use Rattle.serde_json.specs.Data.{Data, object, no_members, member}
use Rattle.zvt_json.specs.Strings.{count_value, line_text}
use Rattle.zvt_text.specs.declared.form.Form.{Form}
use Rattle.zvt_text.specs.declared.form.Form.TheVariants.{Text, Json}
use Rattle.zvt_audit.specs.declared.sum.Sum.{Sum}

-- the total, and of how many files, where not all could be audited
abbrev pub sum_text : Sum → List ℕ
sum_text sum =
    codes "total " ++ decimal sum.total ++ codes " in " ++ (if sum.audited == sum.files then [] else decimal sum.audited ++ codes " of ")
    ++ decimal sum.files ++ codes " files" ++ 10 ∷ []

abbrev pub sum_value : Sum → Data
sum_value sum = object (member (codes "audited") (count_value sum.audited) (member (codes "files") (count_value sum.files) (member (codes "total") (count_value sum.total) no_members)))

-- the same, as it is written
abbrev pub sum_json : Sum → List ℕ
sum_json sum = codes "{\"audited\":" ++ decimal sum.audited ++ codes ",\"files\":" ++ decimal sum.files ++ codes ",\"total\":" ++ decimal sum.total ++ (codes "}" ++ 10 ∷ [])

abbrev pub sum_in : Form → Sum → List ℕ
sum_in Text sum = sum_text sum
sum_in Json sum = line_text (sum_value sum)

all_of_them : sum_text (record { total = 3702; audited = 3; files = 3 }) ≡ codes "total 3702 in 3 files" ++ 10 ∷ []
unfolding digits
all_of_them = refl

not_all : sum_text (record { total = 2468; audited = 2; files = 3 }) ≡ codes "total 2468 in 2 of 3 files" ++ 10 ∷ []
unfolding digits
not_all = refl
