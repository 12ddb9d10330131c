-- How the marks of the book change with one more segment, and with one more row.
use Rattle.std.proofs.Common.{◌≡◌, ℕ, zero, suc, ◌+◌, ◌<◌, ◌≤◌, Bool, true, false, cond, ◌&&◌, ◌||◌, ◌==◌, List, [], ◌∷◌, ◌++◌, length, Option, Some, None, map, fold, refl, sym, ap, ap₂, subst, ◌∙◌, slice_get, slice_set, arith, eq-eqb, ne_eqb, add-zero}
use Rattle.std.specs.List.{list_any}
use Rattle.std.proofs.Math.Bool.{or-false, and-false}
use Rattle.zvt_till.specs.declared.happenings.Sent.{Sent}
use Rattle.zvt_till.specs.declared.happenings.Sent.TheVariants.{Register, Pay, Reverse, CloseDay, Cancel, Foreign}
use Rattle.zvt_till.specs.declared.entries.Doubt.{Doubt}
use Rattle.zvt_till.specs.declared.entries.Doubt.TheVariants.{No}
use Rattle.zvt_till.specs.declared.entries.Entry.{Entry}
use Rattle.zvt_till.specs.Segments.{Opening, Segment, Ended, completes, end_of}
use Rattle.zvt_till.specs.Books.{Booked}
use Rattle.zvt_till.specs.Marks.{mark, entry_of, reverses, reverses_as, takes_back}
use Rattle.zvt_till.specs.Doubts.{reversing, doubt_at, doubt_as, doubt_after, doubt_of}
use Rattle.zvt_till.proofs.Segments.{list_any-snoc, fold-snoc}

-- segments that take back the same rows, and leave the same doubts, mark the same entries
pub mark_alike : (ss ts : List Segment) → ((place : ℕ) (row : Booked) → list_any (reverses place row) ss ≡ list_any (reverses place row) ts)
    → ((place : ℕ) (row : Booked) → doubt_of place row ss ≡ doubt_of place row ts)
    → (place : ℕ) (rows : List Booked) → mark ss place rows ≡ mark ts place rows
mark_alike ss ts same stays place [] = refl
mark_alike ss ts same stays place (row ∷ rows) =
    ap₂ (λ b d. entry_of b d row ∷ mark ss (place + 1) rows) (same place row) (stays place row)
    ∙ ap (λ es. entry_of (list_any (reverses place row) ts) (doubt_of place row ts) row ∷ es) (mark_alike ss ts same stays (place + 1) rows)

pub doubt-snoc : (place : ℕ) (row : Booked) (ss : List Segment) (s : Segment) → doubt_of place row (ss ++ s ∷ []) ≡ doubt_after place row (doubt_of place row ss) s
doubt-snoc place row ss s = fold-snoc (doubt_after place row) No ss s

-- a segment that has no part in a row
pub record IsIdle (s : Segment) (place : ℕ) (row : Booked) : Type 0 where
  pub unmarked : reverses place row s ≡ false
  pub stays : (before : Doubt) → doubt_after place row before s ≡ before

-- a last segment that takes nothing back
pub mark-idle : (ss : List Segment) (s : Segment) → ((place : ℕ) (row : Booked) → IsIdle s place row)
    → (place : ℕ) (rows : List Booked) → mark (ss ++ s ∷ []) place rows ≡ mark ss place rows
mark-idle ss s idle =
    mark_alike (ss ++ s ∷ []) ss
    (λ place row. list_any-snoc (reverses place row) ss s ∙ ap (λ b. list_any (reverses place row) ss || b) (idle place row).unmarked ∙ or-false (list_any (reverses place row) ss))
    (λ place row. doubt-snoc place row ss s ∙ (idle place row).stays (doubt_of place row ss))

-- a last segment for another
pub mark-last : (ss : List Segment) (s t : Segment) → ((place : ℕ) (row : Booked) → reverses place row s ≡ reverses place row t)
    → ((place : ℕ) (row : Booked) (before : Doubt) → doubt_after place row before s ≡ doubt_after place row before t)
    → (place : ℕ) (rows : List Booked) → mark (ss ++ s ∷ []) place rows ≡ mark (ss ++ t ∷ []) place rows
mark-last ss s t same stays =
    mark_alike (ss ++ s ∷ []) (ss ++ t ∷ [])
    (λ place row. list_any-snoc (reverses place row) ss s ∙ ap (λ b. list_any (reverses place row) ss || b) (same place row) ∙ sym (list_any-snoc (reverses place row) ss t))
    (λ place row. doubt-snoc place row ss s ∙ stays place row (doubt_of place row ss) ∙ sym (doubt-snoc place row ss t))

pub reverses_none : (place : ℕ) (row : Booked) (opening : Opening) (o : Sent) → reverses_as o place row opening None ≡ false
reverses_none place row opening (Register c) = refl
reverses_none place row opening (Pay a) = refl
reverses_none place row opening (Reverse e) = and-false (e == place)
reverses_none place row opening CloseDay = refl
reverses_none place row opening Cancel = refl
reverses_none place row opening Foreign = refl

if-same : (b : Bool) (d : Doubt) → cond b d d ≡ d
if-same true d = refl
if-same false d = refl

pub doubt_none : (place : ℕ) (row : Booked) (before : Doubt) (opening : Opening) (o : Sent) → doubt_as o place row before opening None ≡ before
doubt_none place row before opening (Register c) = refl
doubt_none place row before opening (Pay a) = refl
doubt_none place row before opening (Reverse e) = if-same (e == place) before
doubt_none place row before opening CloseDay = refl
doubt_none place row before opening Cancel = refl
doubt_none place row before opening Foreign = refl

-- each reversal is of a row below n
abbrev pub IsPlaced : ℕ → Sent → Type 0
IsPlaced n (Register c) = Unit {0}
IsPlaced n (Pay a) = Unit {0}
IsPlaced n (Reverse e) = e < n
IsPlaced n CloseDay = Unit {0}
IsPlaced n Cancel = Unit {0}
IsPlaced n Foreign = Unit {0}

abbrev pub Placed : ℕ → List Segment → Type 0
Placed n [] = Unit {0}
Placed n (s ∷ ss) = IsPlaced n s.opening.order × Placed n ss

pub IsPlaced-more : (n m : ℕ) → n ≤ m → (o : Sent) → IsPlaced n o → IsPlaced m o
IsPlaced-more n m le (Register c) p = tt
IsPlaced-more n m le (Pay a) p = tt
IsPlaced-more n m le (Reverse e) p = omega arith
IsPlaced-more n m le CloseDay p = tt
IsPlaced-more n m le Cancel p = tt
IsPlaced-more n m le Foreign p = tt

pub Placed-more : (n m : ℕ) → n ≤ m → (ss : List Segment) → Placed n ss → Placed m ss
Placed-more n m le [] p = tt
Placed-more n m le (s ∷ ss) p = (IsPlaced-more n m le s.opening.order p.0, Placed-more n m le ss p.1)

pub Placed-snoc : (n : ℕ) (ss : List Segment) (s : Segment) → Placed n ss → IsPlaced n s.opening.order → Placed n (ss ++ s ∷ [])
Placed-snoc n [] s p q = (q, tt)
Placed-snoc n (t ∷ ss) s p q = (p.0, Placed-snoc n ss s p.1 q)

pub Placed-prefix : (n : ℕ) (ss : List Segment) (s : Segment) → Placed n (ss ++ s ∷ []) → Placed n ss
Placed-prefix n [] s p = tt
Placed-prefix n (t ∷ ss) s p = (p.0, Placed-prefix n ss s p.1)

pub Placed-last : (n : ℕ) (ss : List Segment) (s : Segment) → Placed n (ss ++ s ∷ []) → IsPlaced n s.opening.order
Placed-last n [] s p = p.0
Placed-last n (t ∷ ss) s p = Placed-last n ss s p.1

unplaced : (n : ℕ) (row : Booked) (opening : Opening) (o : Sent) (end : Option Ended) → IsPlaced n o → reverses_as o n row opening end ≡ false
unplaced n row opening (Register c) end p = refl
unplaced n row opening (Pay a) end p = refl
unplaced n row opening (Reverse e) end p = ap (λ b. b && completes (takes_back opening row) end) (ne_eqb e n (λ q. absurd (omega arith)))
unplaced n row opening CloseDay end p = refl
unplaced n row opening Cancel end p = refl
unplaced n row opening Foreign end p = refl

pub unmarked : (n : ℕ) (row : Booked) (ss : List Segment) → Placed n ss → list_any (reverses n row) ss ≡ false
unmarked n row [] p = refl
unmarked n row (s ∷ ss) p = ap₂ (λ a b. a || b) (unplaced n row s.opening s.opening.order (end_of s.answers) p.0) (unmarked n row ss p.1)

undoubted-by : (n : ℕ) (row : Booked) (before : Doubt) (opening : Opening) (o : Sent) (end : Option Ended) → IsPlaced n o → doubt_as o n row before opening end ≡ before
undoubted-by n row before opening (Register c) end p = refl
undoubted-by n row before opening (Pay a) end p = refl
undoubted-by n row before opening (Reverse e) end p = ap (λ b. cond b (doubt_at (reversing opening row) before end) before) (ne_eqb e n (λ q. absurd (omega arith)))
undoubted-by n row before opening CloseDay end p = refl
undoubted-by n row before opening Cancel end p = refl
undoubted-by n row before opening Foreign end p = refl

undoubted-from : (n : ℕ) (row : Booked) (before : Doubt) (ss : List Segment) → Placed n ss → fold (doubt_after n row) before ss ≡ before
undoubted-from n row before [] p = refl
undoubted-from n row before (s ∷ ss) p =
    ap (λ d. fold (doubt_after n row) d ss) (undoubted-by n row before s.opening s.opening.order (end_of s.answers) p.0) ∙ undoubted-from n row before ss p.1

pub undoubted : (n : ℕ) (row : Booked) (ss : List Segment) → Placed n ss → doubt_of n row ss ≡ No
undoubted n row ss p = undoubted-from n row No ss p

-- one more row, at a place that no segment takes back
pub mark-snoc : (ss : List Segment) (place : ℕ) (rows : List Booked) (row : Booked) → Placed (place + length rows) ss
    → mark ss place (rows ++ row ∷ []) ≡ mark ss place rows ++ entry_of false No row ∷ []
mark-snoc ss place [] row p =
    let here : Placed place ss = subst (λ n. Placed n ss) (add-zero place) p in
    ap₂ (λ b d. entry_of b d row ∷ []) (unmarked place row ss here) (undoubted place row ss here)
mark-snoc ss place (r ∷ rows) row p =
    ap (λ es. entry_of (list_any (reverses place r) ss) (doubt_of place r ss) r ∷ es)
    (mark-snoc ss (place + 1) rows row (let e : place + length (r ∷ rows) ≡ (place + 1) + length rows = omega arith in subst (λ n. Placed n ss) e p))

pub mark-traces : (ss : List Segment) (place : ℕ) (rows : List Booked) → map (λ row. row.trace) (mark ss place rows) ≡ map (λ row. row.trace) rows
mark-traces ss place [] = refl
mark-traces ss place (row ∷ rows) = ap (λ ts. row.trace ∷ ts) (mark-traces ss (place + 1) rows)

pub mark-length : (ss : List Segment) (place : ℕ) (rows : List Booked) → length (mark ss place rows) ≡ length rows
mark-length ss place [] = refl
mark-length ss place (row ∷ rows) = ap suc (mark-length ss (place + 1) rows)

-- the row after an entry
pub row_at : (rows : List Booked) (i : ℕ) → i < length rows → (row : Booked) × (slice_get rows i ≡ Some row)
row_at [] i lt = absurd (omega arith)
row_at (row ∷ rows) zero lt = (row, refl)
row_at (row ∷ rows) (suc i) lt = row_at rows i (omega arith)

pub entry_at : (ss : List Segment) (place : ℕ) (rows : List Booked) (i : ℕ) (row : Booked) → slice_get rows i ≡ Some row
    → (b : Bool) × (d : Doubt) × (slice_get (mark ss place rows) i ≡ Some (entry_of b d row))
entry_at ss place [] i row e = absurd cc
entry_at ss place (r ∷ rows) zero row e =
    let q : r ≡ row = cc in
    (list_any (reverses place r) ss, doubt_of place r ss, ap (λ x. Some (entry_of (list_any (reverses place r) ss) (doubt_of place r ss) x)) q)
entry_at ss place (r ∷ rows) (suc i) row e = entry_at ss (place + 1) rows i row e

-- an entry after the end of a reversal of it
abbrev pub after_end : Opening → Booked → Option Ended → Entry → Entry
after_end opening row end x = record x { reversed = x.reversed || completes (takes_back opening row) end; doubt = doubt_at (reversing opening row) x.doubt end }

-- the entry at this place changes
abbrev pub changed_at : (Entry → Entry) → List Entry → ℕ → List Entry
changed_at f es i = elim (slice_get es i) [ None ↦ es | Some x ↦ slice_set es i (f x) ]

-- the segment is a reversal of this entry, with this end
pub record IsReversal (opening : Opening) (e : ℕ) (end : Option Ended) (s : Segment) : Type 0 where
  pub marks : (place : ℕ) (row : Booked) → reverses place row s ≡ ((e == place) && completes (takes_back opening row) end)
  pub opens : (place : ℕ) (row : Booked) (before : Doubt) → doubt_after place row before s ≡ cond (e == place) (doubt_at (reversing opening row) before end) before

changed-tail : (f : Entry → Entry) (x : Entry) (es : List Entry) (i : ℕ) → x ∷ changed_at f es i ≡ changed_at f (x ∷ es) (suc i)
changed-tail f x es i = by_entry (slice_get es i)
  where
    by_entry : (o : Option Entry) → x ∷ elim o [ None ↦ es | Some y ↦ slice_set es i (f y) ] ≡ elim o [ None ↦ x ∷ es | Some y ↦ slice_set (x ∷ es) (suc i) (f y) ]
    by_entry None = refl
    by_entry (Some y) = refl

-- of a place that it does not take back
mark-past : (opening : Opening) (e : ℕ) (end : Option Ended) (s : Segment) → IsReversal opening e end s → (ss : List Segment) (place : ℕ) (row : Booked) → (e == place) ≡ false
    → entry_of (list_any (reverses place row) (ss ++ s ∷ [])) (doubt_of place row (ss ++ s ∷ [])) row ≡ entry_of (list_any (reverses place row) ss) (doubt_of place row ss) row
mark-past opening e end s t ss place row apart =
    ap₂ (λ b d. entry_of b d row)
    (list_any-snoc (reverses place row) ss s
    ∙ ap (λ b. list_any (reverses place row) ss || b) (t.marks place row ∙ ap (λ b. b && completes (takes_back opening row) end) apart)
    ∙ or-false (list_any (reverses place row) ss))
    (doubt-snoc place row ss s ∙ t.opens place row (doubt_of place row ss) ∙ ap (λ b. cond b (doubt_at (reversing opening row) (doubt_of place row ss) end) (doubt_of place row ss)) apart)

-- of the place that it does
mark-here : (opening : Opening) (e : ℕ) (end : Option Ended) (s : Segment) → IsReversal opening e end s → (ss : List Segment) (place : ℕ) (row : Booked) → (e == place) ≡ true
    → entry_of (list_any (reverses place row) (ss ++ s ∷ [])) (doubt_of place row (ss ++ s ∷ [])) row ≡ after_end opening row end (entry_of (list_any (reverses place row) ss) (doubt_of place row ss) row)
mark-here opening e end s t ss place row here =
    ap₂ (λ b d. entry_of b d row)
    (list_any-snoc (reverses place row) ss s
    ∙ ap (λ b. list_any (reverses place row) ss || b) (t.marks place row ∙ ap (λ b. b && completes (takes_back opening row) end) here))
    (doubt-snoc place row ss s ∙ t.opens place row (doubt_of place row ss) ∙ ap (λ b. cond b (doubt_at (reversing opening row) (doubt_of place row ss) end) (doubt_of place row ss)) here)

past-mark : (opening : Opening) (e : ℕ) (end : Option Ended) (s : Segment) → IsReversal opening e end s → (ss : List Segment) (place : ℕ) (rows : List Booked) → e < place
    → mark (ss ++ s ∷ []) place rows ≡ mark ss place rows
past-mark opening e end s t ss place [] lt = refl
past-mark opening e end s t ss place (row ∷ rows) lt =
    ap₂ (λ x es. x ∷ es) (mark-past opening e end s t ss place row (ne_eqb e place (λ q. absurd (omega arith)))) (past-mark opening e end s t ss (place + 1) rows (omega arith))

pub mark-reversal : (opening : Opening) (e : ℕ) (end : Option Ended) (s : Segment) → IsReversal opening e end s
    → (ss : List Segment) (place i : ℕ) (rows : List Booked) (row : Booked) → e ≡ place + i → slice_get rows i ≡ Some row
    → mark (ss ++ s ∷ []) place rows ≡ changed_at (after_end opening row end) (mark ss place rows) i
mark-reversal opening e end s t ss place i [] row q g = absurd cc
mark-reversal opening e end s t ss place zero (r ∷ rows) row q g =
    let same : r ≡ row = cc in
    ap₂ (λ x es. x ∷ es) (mark-here opening e end s t ss place r (eq-eqb e place (omega arith))) (past-mark opening e end s t ss (place + 1) rows (omega arith))
    ∙ ap (λ (k : Booked). after_end opening k end (entry_of (list_any (reverses place r) ss) (doubt_of place r ss) r) ∷ mark ss (place + 1) rows) same
mark-reversal opening e end s t ss place (suc i) (r ∷ rows) row q g =
    ap₂ (λ x es. x ∷ es) (mark-past opening e end s t ss place r (ne_eqb e place (λ x. absurd (omega arith)))) (mark-reversal opening e end s t ss (place + 1) i rows row (omega arith) g)
    ∙ changed-tail (after_end opening row end) (entry_of (list_any (reverses place r) ss) (doubt_of place r ss) r) (mark ss (place + 1) rows) i
