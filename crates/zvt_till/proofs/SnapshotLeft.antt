-- The book that is left when the connection is lost while an entry of it is taken back.
use Rattle.std.proofs.Common.{◌≡◌, ℕ, zero, suc, ◌+◌, ◌<◌, List, [], ◌∷◌, ◌++◌, add-one, append_assoc, length, take, drop, get_or, Option, Some, None, refl, sym, ap, subst, ◌∙◌, slice_get, slice_set, arith}
use Rattle.std.specs.Prelude.{flat_map}
use Rattle.std.specs.List.{All}
use Rattle.std.proofs.lemmas.Grind.{flat_map-append}
use Rattle.std.proofs.lemmas.List.{length-set}
use Rattle.std.proofs.lemmas.List.Elements.{All-append, All-cons}
use Rattle.zvt_till.specs.declared.entries.Doubt.TheVariants.{Unclear as UnclearReversal}
use Rattle.zvt_till.specs.declared.entries.Entry.{Entry}
use Rattle.zvt_till.specs.declared.outcomes.Cause.TheVariants.{Line}
use Rattle.zvt_till.specs.declared.outcomes.Outcome.TheVariants.{Unclear}
use Rattle.zvt_till.specs.Till.{entry_after}
use Rattle.zvt_till.specs.declared.snapshot.layouts.Layout.{Layout}
use Rattle.zvt_till.specs.SnapshotEncoded.{entry_bytes, left_book, IsEntry}

-- the book by what is at the place
abbrev left_at : List Entry → ℕ → Option Entry → List Entry
left_at book place found = elim found as (λ x. List Entry) [ None ↦ book | Some row ↦ slice_set book place (entry_after row (Unclear Line)) ]

pub left-long : (book : List Entry) (doubted : Option ℕ) → length (left_book book doubted) ≡ length book
left-long book None = refl
left-long book (Some place) = by_found (slice_get book place) where
  by_found : (found : Option Entry) → length (left_at book place found) ≡ length book
  by_found None = refl
  by_found (Some row) = length-set book place (entry_after row (Unclear Line))

pub get-row : (book : List Entry) (i : ℕ) (x : Entry) → i < length book → x ≡ get_or book i x → slice_get book i ≡ Some x
get-row [] i x lt e = absurd (omega (arith, lt))
get-row (y ∷ book) zero x lt e = ap Some (sym e)
get-row (y ∷ book) (suc i) x lt e = get-row book i x (omega (arith, lt)) e

set-parts : (book : List Entry) (i : ℕ) (row v : Entry) → slice_get book i ≡ Some row → slice_set book i v ≡ take i book ++ (v ∷ drop (suc i) book)
set-parts [] i row v e = absurd cc
set-parts (x ∷ book) zero row v e = refl
set-parts (x ∷ book) (suc i) row v e = ap (λ (ys : List Entry). x ∷ ys) (set-parts book i row v e)

abbrev pub doubted : Entry → Entry
doubted row = record row { doubt = UnclearReversal Line }

left-inside : (book : List Entry) (place : ℕ) (row : Entry) → slice_get book place ≡ Some row
    → left_book book (Some place) ≡ take place book ++ (doubted row ∷ drop (place + 1) book)
left-inside book place row e = ap (left_at book place) e ∙ set-parts book place row (doubted row) e
    ∙ ap (λ (n : ℕ). take place book ++ (doubted row ∷ drop n book)) (sym (add-one place))

-- written in three parts
pub left-written : (layout : Layout) (book : List Entry) (place : ℕ) (row : Entry) (a b c d : List ℕ) → slice_get book place ≡ Some row
    → b ≡ a ++ flat_map (entry_bytes layout) (take place book) → c ≡ b ++ entry_bytes layout (doubted row)
    → d ≡ c ++ flat_map (entry_bytes layout) (drop (place + 1) book) → d ≡ a ++ flat_map (entry_bytes layout) (left_book book (Some place))
left-written layout book place row a b c d e is_b is_c is_d =
    let prefix = flat_map (entry_bytes layout) (take place book) in let item = entry_bytes layout (doubted row) in
    let back = flat_map (entry_bytes layout) (drop (place + 1) book) in
    let rows : flat_map (entry_bytes layout) (left_book book (Some place)) ≡ prefix ++ (item ++ back) =
    ap (flat_map (entry_bytes layout)) (left-inside book place row e) ∙ flat_map-append (entry_bytes layout) (take place book) (doubted row ∷ drop (place + 1) book) in
    is_d ∙ ap (λ (x : List ℕ). x ++ back) (is_c ∙ ap (λ (x : List ℕ). x ++ item) is_b) ∙ three a prefix item back ∙ ap (λ (x : List ℕ). a ++ x) (sym rows) where
      three : (p q r s : List ℕ) → ((p ++ q) ++ r) ++ s ≡ p ++ (q ++ (r ++ s))
      three p q r s = append_assoc (p ++ q) r s ∙ append_assoc p q (r ++ s)

pub left-fits : (book : List Entry) (place : ℕ) (row : Entry) → slice_get book place ≡ Some row → All IsEntry (take place book) → IsEntry (doubted row)
    → All IsEntry (drop (place + 1) book) → All IsEntry (left_book book (Some place))
left-fits book place row e prefix item back =
    subst (λ (rows : List Entry). All IsEntry rows) (sym (left-inside book place row e))
    (All-append IsEntry (take place book) (doubted row ∷ drop (place + 1) book) prefix (All-cons IsEntry (doubted row) (drop (place + 1) book) item back))
