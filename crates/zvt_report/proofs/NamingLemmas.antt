-- The last entry with a receipt number.
use Rattle.std.proofs.Common.{◌≡◌, ℕ, ◌+◌, ◌<◌, Bool, true, false, cond, List, [], ◌∷◌, ◌++◌, length, Option, Some, None, refl, ap, ◌∙◌, arith}
use Rattle.zvt_till.specs.declared.entries.Entry.{Entry}
use Rattle.zvt_till.specs.Segments.{begun, force_after}
use Rattle.zvt_till.specs.declared.happenings.Happening.TheVariants.{Sent as SentOut}
use Rattle.zvt_report.specs.Laws.{IsOfEntry}
use Rattle.zvt_report.specs.Naming.{ReversalsNameEntries, has_receipt, last_with, reversing, reversing_at}

abbrev either : Option ℕ → Bool → ℕ → Option ℕ
either later here place = elim later [ None ↦ cond here (Some place) None | Some found ↦ Some found ]

more : (rest : Option ℕ) (all : Option ℕ) (last here : Bool) (place at : ℕ) → all ≡ cond last (Some at) rest
    → either all here place ≡ cond last (Some at) (either rest here place)
more rest all true here place at e = ap (λ x. either x here place) e
more rest all false here place at e = ap (λ x. either x here place) e

one : (here : Bool) (place at : ℕ) → place ≡ at → either None here place ≡ cond here (Some at) None
one true place at e = ap Some e
one false place at e = refl

-- with one more entry
pub last_with-snoc : (receipt : List ℕ) (place : ℕ) (book : List Entry) (entry : Entry)
    → last_with receipt place (book ++ entry ∷ []) ≡ cond (has_receipt receipt entry) (Some (place + length book)) (last_with receipt place book)
last_with-snoc receipt place [] entry = let here : place ≡ place + length {A = Entry} [] = omega arith in one (has_receipt receipt entry) place (place + length {A = Entry} []) here
last_with-snoc receipt place (x ∷ book) entry =
    let at : (place + 1) + length book ≡ place + length (x ∷ book) = omega arith in
    more (last_with receipt (place + 1) book) (last_with receipt (place + 1) (book ++ entry ∷ [])) (has_receipt receipt entry) (has_receipt receipt x) place (place + length (x ∷ book))
    (last_with-snoc receipt (place + 1) book entry ∙ ap (λ n. cond (has_receipt receipt entry) (Some n) (last_with receipt (place + 1) book)) at)

-- it is one of the book's
within-by : (here : Bool) (place size found : ℕ) (later : Option ℕ) → (later ≡ Some found → found < (place + 1) + size) → either later here place ≡ Some found → found < place + (size + 1)
within-by true place size found None within e =
    let same : place ≡ found = cc in
    omega arith
within-by false place size found None within e = absurd cc
within-by here place size found (Some other) within e = omega (arith, within e)

within : (receipt : List ℕ) (place : ℕ) (book : List Entry) (found : ℕ) → last_with receipt place book ≡ Some found → found < place + length book
within receipt place [] found e = absurd cc
within receipt place (x ∷ book) found e =
    let lt : found < place + (length book + 1) = within-by (has_receipt receipt x) place (length book) found (last_with receipt (place + 1) book) (within receipt (place + 1) book found) e in
    omega (arith, lt)

named : (book : List Entry) (found : Option ℕ) → ((place : ℕ) → found ≡ Some place → place < length book) → IsOfEntry book (reversing_at found)
named book None lt = tt
named book (Some place) lt = lt place refl

pub reversals_name_entries : ReversalsNameEntries
reversals_name_entries book None = tt
reversals_name_entries book (Some receipt) = named book (last_with receipt 0 book) (λ place e. omega (arith, within receipt 0 book place e))

-- it begins a chapter, and leaves the currency in force

begins-at : (found : Option ℕ) → begun (SentOut (reversing_at found)) ≡ Some (reversing_at found)
begins-at None = refl
begins-at (Some place) = refl

pub begins : (book : List Entry) (receipt : Option (List ℕ)) → begun (SentOut (reversing book receipt)) ≡ Some (reversing book receipt)
begins book None = refl
begins book (Some receipt) = begins-at (last_with receipt 0 book)

keeps-at : (found : Option ℕ) (force : Option ℕ) → force ≡ force_after force (SentOut (reversing_at found))
keeps-at None force = refl
keeps-at (Some place) force = refl

pub keeps_force : (book : List Entry) (receipt : Option (List ℕ)) (force : Option ℕ) → force ≡ force_after force (SentOut (reversing book receipt))
keeps_force book None force = refl
keeps_force book (Some receipt) force = keeps-at (last_with receipt 0 book) force
