-- The parts of what a till was made with.
use Rattle.std.proofs.Common.{◌≡◌, ℕ, List, [], ◌∷◌, ◌++◌, ◌+◌, ◌-◌, ◌*◌, length, length-append, min, take, drop, get_or, Option, Some, None, refl, sym, ap, ap₂, ◌∙◌, inl, inr, arith}
use Rattle.std.proofs.Math.Seq.{take-append_seam, drop-append_seam}
use Rattle.zvt_till.specs.declared.outcomes.Outcome.{Outcome}
use Rattle.zvt_till.specs.declared.outcomes.Outcome.TheVariants.{Registered, Paid, Declined, Refused, Aborted, Unclear, Reversed, DayClosed}
use Rattle.zvt_till.specs.Sending.{Settings}
use Rattle.std.specs.Prelude.{flat_map}
use Rattle.std.proofs.Math.Nat.{min-eq_left, mul-suc, mul-zero}
use Rattle.std.specs.List.{All}
use Rattle.std.proofs.lemmas.List.Elements.{All-head, All-tail}
use Rattle.zvt_till.specs.declared.entries.Entry.{Entry}
use Rattle.zvt_till.specs.Till.{TillState}
use Rattle.zvt_till.specs.declared.snapshot.layouts.Layout.{Layout}
use Rattle.zvt_till.specs.declared.snapshot.layouts.Layout.TheVariants.{First, Second}
use Rattle.zvt_till.specs.SnapshotReading.{HasDoubtOf, HasRowOf, IsOfLayout}
use Rattle.zvt_till.specs.SnapshotEncoded.{body_bytes, entry_bytes, entry_size, outcome_bytes, saved_in, settings_bytes, summed, unclear_bytes, IsEntry, IsKept, IsOutcome, IsSavedAs}
use Rattle.zvt_apdu.specs.Briefs.{digits}
use Rattle.zvt_till.specs.SnapshotSums.{sums_of}
use Rattle.zvt_till.proofs.SnapshotRows.{entry-long, receipt-long}

pub outcome-long : (outcome : Option Outcome) → IsOutcome outcome → length (outcome_bytes outcome) ≡ 8
outcome-long None p = refl
outcome-long (Some Registered) p = refl
outcome-long (Some (Paid trace receipt)) p = omega (arith, receipt-long receipt p.1)
outcome-long (Some (Declined code)) p = refl
outcome-long (Some (Refused code)) p = refl
outcome-long (Some (Aborted code)) p = refl
outcome-long (Some (Unclear cause)) p = refl
outcome-long (Some Reversed) p = refl
outcome-long (Some DayClosed) p = refl

pub made-outcome : (settings : Settings) (last : Option Outcome) (bytes : List ℕ) → IsOutcome last → bytes ≡ settings_bytes settings last
    → take 8 (drop 2 bytes) ≡ outcome_bytes last
made-outcome settings last bytes p is =
    ap₂ (λ (n : ℕ) (s : List ℕ). take n (drop 2 s)) (sym (outcome-long last p)) is ∙ take-append_seam (outcome_bytes last) (settings.config ∷ settings.password)

pub made-tail : (settings : Settings) (last : Option Outcome) (bytes : List ℕ) → IsOutcome last → bytes ≡ settings_bytes settings last
    → drop 10 bytes ≡ settings.config ∷ settings.password
made-tail settings last bytes p is =
    ap (drop 10) is ∙ ap (λ (n : ℕ). drop n (outcome_bytes last ++ (settings.config ∷ settings.password))) (sym (outcome-long last p))
    ∙ drop-append_seam (outcome_bytes last) (settings.config ∷ settings.password)

pub three : (p : List ℕ) → length p ≡ 3 → get_or (take 3 p) 0 0 ∷ get_or (take 3 p) 1 0 ∷ get_or (take 3 p) 2 0 ∷ [] ≡ p
three [] e = absurd (omega (arith, e))
three (a ∷ []) e = absurd (omega (arith, e))
three (a ∷ b ∷ []) e = absurd (omega (arith, e))
three (a ∷ b ∷ c ∷ []) e = refl
three (a ∷ b ∷ c ∷ d ∷ p) e = absurd (omega (arith, e))

settings-long : (settings : Settings) (last : Option Outcome) → IsOutcome last → length settings.password ≡ 3 → length (settings_bytes settings last) ≡ 14
settings-long settings last p size =
    omega (arith, length-append (outcome_bytes last) (settings.config ∷ settings.password), outcome-long last p, size)

abbrev rows-of : Layout → TillState → List ℕ
rows-of layout s = flat_map (entry_bytes layout) s.book ++ flat_map unclear_bytes s.unclear

pub body-made : (layout : Layout) (s : TillState) (bytes : List ℕ) → IsKept s → bytes ≡ body_bytes layout s
    → take 14 (drop 10 bytes) ≡ settings_bytes s.settings s.last_outcome
body-made layout s bytes k is =
    let made = settings_bytes s.settings s.last_outcome in
    ap₂ (λ (n : ℕ) (b : List ℕ). take n (drop 10 b)) (sym (settings-long s.settings s.last_outcome k.outcome k.password)) is ∙ take-append_seam made (rows-of layout s)

pub body-rows : (layout : Layout) (s : TillState) (bytes : List ℕ) → IsKept s → bytes ≡ body_bytes layout s
    → drop 24 bytes ≡ flat_map (entry_bytes layout) s.book ++ flat_map unclear_bytes s.unclear
body-rows layout s bytes k is =
    let made = settings_bytes s.settings s.last_outcome in
    ap (drop 24) is ∙ ap (λ (n : ℕ). drop n (made ++ rows-of layout s)) (sym (settings-long s.settings s.last_outcome k.outcome k.password))
    ∙ drop-append_seam made (rows-of layout s)

book-long : (layout : Layout) (book : List Entry) → All IsEntry book → length (flat_map (entry_bytes layout) book) ≡ entry_size layout * length book
book-long layout [] p = sym (mul-zero (entry_size layout))
book-long layout (x ∷ book) p =
    let rest : length (flat_map (entry_bytes layout) book) ≡ entry_size layout * length book = book-long layout book (All-tail IsEntry x book p) in
    let both : length (flat_map (entry_bytes layout) (x ∷ book)) ≡ entry_size layout * length book + entry_size layout =
    omega (arith, length-append (entry_bytes layout x) (flat_map (entry_bytes layout) book), entry-long layout x (All-head IsEntry x book p), rest) in
    both ∙ sym (mul-suc (entry_size layout) (length book))

-- the rows of a state that the layout holds
pub rows-held : (layout : Layout) (s : TillState) → All IsEntry s.book → IsOfLayout layout s → All (HasRowOf layout) s.book
rows-held First s p of = λ k d lt. (p k d lt, of k d lt)
rows-held Second s p of = λ k d lt. (p k d lt, tt)

-- a state whose entries the layout holds
pub of-layout : (layout : Layout) (s : TillState) (book : List Entry) → s.book ≡ book → All (λ (entry : Entry). HasDoubtOf layout entry.doubt) book → IsOfLayout layout s
of-layout First s book e held = rw e held
of-layout Second s book e held = tt

-- where the entries end, as the count of them says
pub entries-end : (layout : Layout) (s : TillState) (booked : ℕ) (rows : List ℕ) → All IsEntry s.book → booked ≡ length s.book
    → rows ≡ flat_map (entry_bytes layout) s.book ++ flat_map unclear_bytes s.unclear
    → min (entry_size layout * booked) (length rows) ≡ length (flat_map (entry_bytes layout) s.book)
entries-end layout s booked rows p n is =
    let entries = flat_map (entry_bytes layout) s.book in let others = flat_map unclear_bytes s.unclear in
    let size : entry_size layout * booked ≡ length entries = ap (λ (k : ℕ). entry_size layout * k) n ∙ sym (book-long layout s.book p) in
    min-eq_left (omega (arith, size, ap length is, length-append entries others)) ∙ size

pub entries-are : (layout : Layout) (s : TillState) (size : ℕ) (rows : List ℕ) → size ≡ length (flat_map (entry_bytes layout) s.book)
    → rows ≡ flat_map (entry_bytes layout) s.book ++ flat_map unclear_bytes s.unclear → take size rows ≡ flat_map (entry_bytes layout) s.book
entries-are layout s size rows n is =
    ap₂ (λ (k : ℕ) (r : List ℕ). take k r) n is ∙ take-append_seam (flat_map (entry_bytes layout) s.book) (flat_map unclear_bytes s.unclear)

pub others-are : (layout : Layout) (s : TillState) (size : ℕ) (rows : List ℕ) → size ≡ length (flat_map (entry_bytes layout) s.book)
    → rows ≡ flat_map (entry_bytes layout) s.book ++ flat_map unclear_bytes s.unclear → drop size rows ≡ flat_map unclear_bytes s.unclear
others-are layout s size rows n is =
    ap₂ (λ (k : ℕ) (r : List ℕ). drop k r) n is ∙ drop-append_seam (flat_map (entry_bytes layout) s.book) (flat_map unclear_bytes s.unclear)

pub summed-long : (body : List ℕ) → length (summed body) ≡ length body + 8
summed-long body = length-append body (digits 4 (sums_of body).0 ++ digits 4 (sums_of body).1)

-- the bytes before the sums
pub body-is : (body bytes : List ℕ) → bytes ≡ summed body → take (length bytes - 8) bytes ≡ body
body-is body bytes is =
    let size : length bytes - 8 ≡ length body = omega (arith, ap length is, summed-long body) in
    ap₂ (λ (n : ℕ) (b : List ℕ). take n b) size is ∙ take-append_seam body (digits 4 (sums_of body).0 ++ digits 4 (sums_of body).1)

pub saved-as : (layout : Layout) (s : TillState) (bytes : List ℕ) → bytes ≡ saved_in layout s → IsOfLayout layout s → IsSavedAs bytes s
saved-as First s bytes is of = inr (of, is)
saved-as Second s bytes is of = inl is
