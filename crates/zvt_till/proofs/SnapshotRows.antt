-- Rows of one size, read one after another.
use Rattle.std.proofs.Common.{◌≡◌, ◌==◌, Bool, true, false, cond, ℕ, suc, ◌+◌, ◌-◌, ◌<◌, ◌≤◌, List, [], ◌∷◌, ◌++◌, length, length-append, length-drop, take, drop, append_assoc, append-nil, Option, Some, None, refl, sym, ap, ap₂, ◌∙◌, arith}
use Rattle.std.specs.Prelude.{flat_map}
use Rattle.std.specs.List.{All}
use Rattle.std.proofs.Math.Seq.{take-append_seam, drop-append_seam}
use Rattle.std.proofs.lemmas.List.{take_all}
use Rattle.std.proofs.lemmas.List.Elements.{All-head, All-tail}
use Rattle.zvt_till.specs.declared.entries.Doubt.{Doubt}
use Rattle.zvt_till.specs.declared.entries.Entry.{Entry}
use Rattle.zvt_till.specs.declared.outcomes.Cause.{Cause}
use Rattle.zvt_till.specs.declared.snapshot.layouts.Layout.{Layout}
use Rattle.zvt_till.specs.declared.snapshot.layouts.Layout.TheVariants.{First, Second}
use Rattle.zvt_till.specs.SnapshotReading.{HasRowOf}
use Rattle.zvt_till.specs.SnapshotEncoded.{doubt_bytes, entry_bytes, entry_size, receipt_bytes, unclear_bytes, IsEntry, IsReceipt, IsUnclear}

pub all-trailing : {X : Type 0} (n : ℕ) (xs : List X) → take (length xs - n) (drop n xs) ≡ drop n xs
all-trailing n xs = take_all (length xs - n) (drop n xs) (omega (arith, length-drop n xs))

-- whatever rows the bytes are of, those read are first, and the rest is the others
abbrev pub IsRead : {X : Type 0} → (X → List ℕ) → (X → Type 0) → (bytes rest : List ℕ) → (read : List X) → Type 0
IsRead {X = X} f P bytes rest read =
    (all : List X) → All P all → bytes ≡ flat_map f all → (tail : List X) × (all ≡ read ++ tail) × All P tail × (rest ≡ flat_map f tail)

pub read-none : {X : Type 0} (f : X → List ℕ) (P : X → Type 0) (bytes : List ℕ) → IsRead f P bytes bytes []
read-none f P bytes all are is = (all, refl, are, is)

-- the first row of what is left
pub record FirstRow {X : Type 0} (f : X → List ℕ) (P : X → Type 0) (w : ℕ) (tail : List X) (rest : List ℕ) : Type 0 where
  pub row : X
  pub more : List X
  pub tail_is : tail ≡ row ∷ more
  pub good : P row
  pub prefix : take w rest ≡ f row
  pub back : drop w rest ≡ flat_map f more
  pub good_more : All P more

pub first : {X : Type 0} (f : X → List ℕ) (P : X → Type 0) (w : ℕ) → ((x : X) → P x → length (f x) ≡ w) → 0 < w
    → (tail : List X) (rest : List ℕ) → All P tail → rest ≡ flat_map f tail → w ≤ length rest → FirstRow f P w tail rest
first f P w long some [] rest are is within = absurd (omega (arith, some, within, ap length is))
first f P w long some (x ∷ more) rest are is within =
    let size : w ≡ length (f x) = sym (long x (All-head P x more are)) in
    record {
      row = x;
      more = more;
      tail_is = refl;
      good = All-head P x more are;
      prefix = ap₂ (λ (n : ℕ) (s : List ℕ). take n s) size is ∙ take-append_seam (f x) (flat_map f more);
      back = ap₂ (λ (n : ℕ) (s : List ℕ). drop n s) size is ∙ drop-append_seam (f x) (flat_map f more);
      good_more = All-tail P x more are;
    }

-- one row more
pub read-more : {X : Type 0} (f : X → List ℕ) (P : X → Type 0) (w : ℕ) → ((x : X) → P x → length (f x) ≡ w) → 0 < w
    → (bytes rest after : List ℕ) (read more : List X) (row : X) → w ≤ length rest → after ≡ drop w rest → more ≡ read ++ row ∷ []
    → ((x : X) → P x → take w rest ≡ f x → row ≡ x) → IsRead f P bytes rest read → IsRead f P bytes after more
read-more f P w long some bytes rest after read more row within is_after is_more reads before all are is =
    let b = before all are is in
    let h = first f P w long some b.0 rest b.2 b.3 within in
    let same : row ≡ h.row = reads h.row h.good h.prefix in
    (h.more, b.1 ∙ ap (λ t. read ++ t) (h.tail_is ∙ ap (λ x. x ∷ h.more) (sym same)) ∙ sym (append_assoc read (row ∷ []) h.more) ∙ ap (λ r. r ++ h.more) (sym is_more), h.good_more, is_after ∙ h.back)

-- no row is left
pub read-all : {X : Type 0} (f : X → List ℕ) (P : X → Type 0) (w : ℕ) → ((x : X) → P x → length (f x) ≡ w)
    → (bytes rest : List ℕ) (read : List X) → length rest < w → IsRead f P bytes rest read → (all : List X) → All P all → bytes ≡ flat_map f all → read ≡ all
read-all {X = X} f P w long bytes rest read short before all are is =
    let b = before all are is in sym (b.1 ∙ ap (λ t. read ++ t) (nothing b.0 b.2 b.3) ∙ append-nil read) where
      nothing : (tail : List X) → All P tail → rest ≡ flat_map f tail → tail ≡ []
      nothing [] p e = refl
      nothing (x ∷ more) p e =
          absurd (omega (arith, short, ap length e, length-append (f x) (flat_map f more), long x (All-head P x more p)))

pub receipt-long : (receipt : Option (List ℕ)) → IsReceipt receipt → length (receipt_bytes receipt) ≡ 3
receipt-long None p = refl
receipt-long (Some receipt) p = ap suc p

doubt-long : (layout : Layout) (doubt : Doubt) → 13 + length (doubt_bytes layout doubt) ≡ entry_size layout
doubt-long First doubt = refl
doubt-long Second doubt = refl

pub entry-long : (layout : Layout) (entry : Entry) → IsEntry entry → length (entry_bytes layout entry) ≡ entry_size layout
entry-long layout entry p =
    omega (arith, receipt-long entry.receipt p.receipt, length-append (receipt_bytes entry.receipt) (doubt_bytes layout entry.doubt), doubt-long layout entry.doubt)

pub row-long : (layout : Layout) (w : ℕ) → w ≡ entry_size layout → (entry : Entry) → HasRowOf layout entry → length (entry_bytes layout entry) ≡ w
row-long layout w e entry p = entry-long layout entry p.0 ∙ sym e

pub row-some : (layout : Layout) (w : ℕ) → w ≡ entry_size layout → 0 < w
row-some First w e = omega (arith, e)
row-some Second w e = omega (arith, e)

pub entry-receipt : (layout : Layout) (entry : Entry) (row : List ℕ) → IsEntry entry → row ≡ entry_bytes layout entry → take 3 (drop 10 row) ≡ receipt_bytes entry.receipt
entry-receipt layout entry row p is =
    ap₂ (λ (n : ℕ) (b : List ℕ). take n (drop 10 b)) (sym (receipt-long entry.receipt p.receipt)) is
    ∙ take-append_seam (receipt_bytes entry.receipt) (doubt_bytes layout entry.doubt)

pub entry-doubt : (layout : Layout) (entry : Entry) (row : List ℕ) → IsEntry entry → row ≡ entry_bytes layout entry → drop 13 row ≡ doubt_bytes layout entry.doubt
entry-doubt layout entry row p is =
    ap (drop 13) is ∙ ap (λ (n : ℕ). drop n (receipt_bytes entry.receipt ++ doubt_bytes layout entry.doubt)) (sym (receipt-long entry.receipt p.receipt))
    ∙ drop-append_seam (receipt_bytes entry.receipt) (doubt_bytes layout entry.doubt)

pub mark-is : (reversed : Bool) → (cond reversed 1 0 == 1) ≡ reversed
mark-is true = refl
mark-is false = refl

pub unclear-long : (row : ℕ × Cause) → IsUnclear row → length (unclear_bytes row) ≡ 7
unclear-long row p = refl
