-- The segments of a log with one more event, where reversals go by receipt number or do not.
use Rattle.std.proofs.Common.{◌≡◌, ℕ, Bool, true, false, List, [], ◌∷◌, ◌++◌, Option, Some, None, fold, slice_get, refl, sym, ap, ◌∙◌, ◌⊎◌, inl, inr}
use Rattle.zvt_till.specs.declared.happenings.Happening.{Happening}
use Rattle.zvt_till.specs.declared.happenings.Sent.{Sent}
use Rattle.zvt_till.specs.declared.happenings.Sent.TheVariants.{Register, Pay, Reverse, CloseDay, Cancel, Foreign}
use Rattle.zvt_till.specs.declared.entries.Entry.{Entry}
use Rattle.zvt_till.specs.declared.outcomes.Cause.{Cause}
use Rattle.zvt_till.specs.ByReceipt.{sole_at}
use Rattle.zvt_till.specs.Segments.{Segment, begun, in_force, segments}
use Rattle.zvt_till.specs.Books.{books_of, settled}
use Rattle.zvt_till.specs.Marks.{entries_of, sole_after, opened_after, add_segment, ruled}
use Rattle.zvt_till.proofs.Segments.{heard_last, grown, segments-snoc, fold-snoc, heard_last-snoc, split_last}
use Rattle.zvt_till.proofs.SegmentEndLemmas.{seg, begun_by}

abbrev pub grown_by : Bool → Option ℕ → List Segment → Happening → Option Sent → List Segment
grown_by by_receipt force ss h None = heard_last ss h
grown_by by_receipt force ss h (Some o) = add_segment by_receipt ss (seg (begun_by force o) [])

pub ruled-none : (by_receipt : Bool) → ruled by_receipt [] ≡ []
ruled-none true = refl
ruled-none false = refl

sole-none : (book : List Entry) (unclear : List (ℕ × Cause)) (row : Option Entry) → sole_at false book unclear row ≡ None
sole-none book unclear None = refl
sole-none book unclear (Some row) = refl

strictly-none : (ss : List Segment) (o : Sent) → sole_after false ss o ≡ None
strictly-none ss (Register c) = refl
strictly-none ss (Pay a) = refl
strictly-none ss (Reverse e) = sole-none (entries_of ss) (settled (books_of ss).unclear) (slice_get (entries_of ss) e)
strictly-none ss CloseDay = refl
strictly-none ss Cancel = refl
strictly-none ss Foreign = refl

-- an answer changes no order

heard-last : (closed : List Segment) (s : Segment) (h : Happening)
    → fold (add_segment true) [] (heard_last (closed ++ s ∷ []) h) ≡ heard_last (fold (add_segment true) [] (closed ++ s ∷ [])) h
heard-last closed s h =
    let last : Segment = seg s.opening (s.answers ++ h ∷ []) in
    let before : List Segment = fold (add_segment true) [] closed in
    ap (fold (add_segment true) []) (heard_last-snoc closed s h)
    ∙ fold-snoc (add_segment true) [] closed last
    ∙ sym (heard_last-snoc before (seg (opened_after true before s.opening) s.answers) h)
    ∙ ap (λ x. heard_last x h) (sym (fold-snoc (add_segment true) [] closed s))

ruled-heard : (by_receipt : Bool) (ss : List Segment) (h : Happening) → ruled by_receipt (heard_last ss h) ≡ heard_last (ruled by_receipt ss) h
ruled-heard false ss h = refl
ruled-heard true ss h = by_last (split_last ss)
  where
    by_last : (ss ≡ []) ⊎ ((closed : List Segment) × (s : Segment) × (ss ≡ closed ++ s ∷ [])) → fold (add_segment true) [] (heard_last ss h) ≡ heard_last (fold (add_segment true) [] ss) h
    by_last (inl e) = ap (λ x. fold (add_segment true) [] (heard_last x h)) e ∙ ap (λ x. heard_last (fold (add_segment true) [] x) h) (sym e)
    by_last (inr w) =
        ap (λ x. fold (add_segment true) [] (heard_last x h)) w.2
        ∙ heard-last w.0 w.1 h
        ∙ ap (λ x. heard_last (fold (add_segment true) [] x) h) (sym w.2)

ruled-begun : (by_receipt : Bool) (force : Option ℕ) (ss : List Segment) (o : Sent)
    → ruled by_receipt (ss ++ seg (begun_by force o) [] ∷ []) ≡ add_segment by_receipt (ruled by_receipt ss) (seg (begun_by force o) [])
ruled-begun true force ss o = fold-snoc (add_segment true) [] ss (seg (begun_by force o) [])
ruled-begun false force ss o = ap (λ sole. ss ++ seg (record { order = o; currency = force; sole = sole }) [] ∷ []) (sym (strictly-none ss o))

ruled-grown : (by_receipt : Bool) (force : Option ℕ) (ss : List Segment) (h : Happening) (o : Option Sent)
    → ruled by_receipt (grown force ss h o) ≡ grown_by by_receipt force (ruled by_receipt ss) h o
ruled-grown by_receipt force ss h None = ruled-heard by_receipt ss h
ruled-grown by_receipt force ss h (Some o) = ruled-begun by_receipt force ss o

pub ruled-snoc : (by_receipt : Bool) (log : List Happening) (h : Happening)
    → ruled by_receipt (segments (log ++ h ∷ [])) ≡ grown_by by_receipt (in_force log) (ruled by_receipt (segments log)) h (begun h)
ruled-snoc by_receipt log h = ap (ruled by_receipt) (segments-snoc log h) ∙ ruled-grown by_receipt (in_force log) (segments log) h (begun h)
