-- What a log is worth with one more segment, and where a segment ends with one more answer.
use Rattle.std.proofs.Common.{◌≡◌, ℕ, Bool, true, false, cond, List, [], ◌∷◌, ◌++◌, Option, Some, None, refl, sym, ap, ◌∙◌, append-nil}
use Rattle.std.specs.List.{list_any}
use Rattle.std.proofs.lemmas.List.Elements.{filter-append}
use Rattle.zvt_till.specs.declared.happenings.Happening.{Happening}
use Rattle.zvt_till.specs.declared.happenings.Happening.TheVariants.{Connected, Sent as SentOut, Heard as HeardIn, Malformed, Lost}
use Rattle.zvt_till.specs.declared.happenings.Sent.{Sent}
use Rattle.zvt_till.specs.declared.happenings.Sent.TheVariants.{Register, Pay, Reverse, CloseDay, Cancel, Foreign}
use Rattle.zvt_till.specs.declared.orders.Order.{Order}
use Rattle.zvt_till.specs.declared.outcomes.Cause.{Cause}
use Rattle.zvt_till.specs.declared.outcomes.Cause.TheVariants.{Unfinished}
use Rattle.zvt_till.specs.Segments.{Opening, Segment, Ended, ends, is_positive, end_of}
use Rattle.zvt_till.specs.Books.{Booked, Books, judge_as, judge_end, judge, empty_books, books_of, is_finished, settled}
use Rattle.zvt_till.specs.Doubts.{doubt_end}
use Rattle.zvt_till.specs.Marks.{reverses_end, mark, entries_of, opened_after}
use Rattle.zvt_till.specs.Refusals.{sent_as}
use Rattle.zvt_till.specs.Log.{is_break, awaited_by_end, awaited_after, awaited_of}
use Rattle.zvt_till.proofs.Segments.{end_grown, end_of-snoc, fold-snoc}
use Rattle.zvt_till.proofs.Marks.{IsIdle, mark-idle, mark-last, reverses_none, doubt_none}

abbrev pub seg : Opening → List Happening → Segment
seg o hs = record { opening = o; answers = hs }

-- an order sent under a currency in force
abbrev pub begun_by : Option ℕ → Sent → Opening
begun_by force o = record { order = o; currency = force; sole = None }

-- an order as a till of its own currency sends it after these segments
abbrev pub opened : Bool → List Segment → ℕ → Option ℕ → Order → Opening
opened by_receipt closed own force o = opened_after by_receipt closed (begun_by force (sent_as own o))

abbrev pub rows : List Segment → List Booked
rows ss = (books_of ss).booked

abbrev pub loose : List Segment → List (ℕ × Cause)
loose ss = settled (books_of ss).unclear

-- one more segment

pub books-snoc : (closed : List Segment) (o : Opening) (hs : List Happening) (end : Option Ended) → end_of hs ≡ end
    → books_of (closed ++ seg o hs ∷ []) ≡ judge_end (books_of closed) o end
books-snoc closed o hs end e = fold-snoc judge empty_books closed (seg o hs) ∙ ap (judge_end (books_of closed) o) e

pub entries-by : (ss : List Segment) (b : Books) → books_of ss ≡ b → entries_of ss ≡ mark ss 0 b.booked
entries-by ss b e = ap (λ x. mark ss 0 x.booked) e

-- a segment with the same end is worth the same
pub books-alike : (closed : List Segment) (o : Opening) (xs ys : List Happening) → end_of xs ≡ end_of ys
    → books_of (closed ++ seg o xs ∷ []) ≡ books_of (closed ++ seg o ys ∷ [])
books-alike closed o xs ys e = books-snoc closed o xs (end_of ys) e ∙ sym (books-snoc closed o ys (end_of ys) refl)

pub entries-alike : (closed : List Segment) (o : Opening) (xs ys : List Happening) → end_of xs ≡ end_of ys
    → entries_of (closed ++ seg o xs ∷ []) ≡ entries_of (closed ++ seg o ys ∷ [])
entries-alike closed o xs ys e =
    entries-by (closed ++ seg o xs ∷ []) (books_of (closed ++ seg o ys ∷ [])) (books-alike closed o xs ys e)
    ∙ mark-last closed (seg o xs) (seg o ys) (λ place row. ap (reverses_end place row o) e) (λ place row before. ap (doubt_end place row before o) e) 0 (rows (closed ++ seg o ys ∷ []))

-- a segment without an end is worth nothing yet
booked-unended : (b : Books) (opening : Opening) (o : Sent) → (judge_as o b opening None).booked ≡ b.booked
booked-unended b opening (Register c) = refl
booked-unended b opening (Pay a) = refl
booked-unended b opening (Reverse e) = refl
booked-unended b opening CloseDay = refl
booked-unended b opening Cancel = refl
booked-unended b opening Foreign = refl

unclear-unended : (b : Books) (opening : Opening) (o : Sent) → settled (judge_as o b opening None).unclear ≡ settled b.unclear
unclear-unended b opening (Register c) = refl
unclear-unended b opening (Pay a) = filter-append (λ row. is_finished row.1) b.unclear ((a, Unfinished) ∷ []) ∙ append-nil (settled b.unclear)
unclear-unended b opening (Reverse e) = refl
unclear-unended b opening CloseDay = refl
unclear-unended b opening Cancel = refl
unclear-unended b opening Foreign = refl

pub rows-open : (closed : List Segment) (o : Opening) (hs : List Happening) → end_of hs ≡ None → rows (closed ++ seg o hs ∷ []) ≡ rows closed
rows-open closed o hs e = ap (λ x. x.booked) (books-snoc closed o hs None e) ∙ booked-unended (books_of closed) o o.order

pub loose-open : (closed : List Segment) (o : Opening) (hs : List Happening) → end_of hs ≡ None → loose (closed ++ seg o hs ∷ []) ≡ loose closed
loose-open closed o hs e = ap (λ x. settled x.unclear) (books-snoc closed o hs None e) ∙ unclear-unended (books_of closed) o o.order

idle-open : (o : Opening) (hs : List Happening) → end_of hs ≡ None → (place : ℕ) (row : Booked) → IsIdle (seg o hs) place row
idle-open o hs e place row =
    record {
      unmarked = ap (reverses_end place row o) e ∙ reverses_none place row o o.order;
      stays = λ before. ap (doubt_end place row before o) e ∙ doubt_none place row before o o.order;
    }

pub entries-open : (closed : List Segment) (o : Opening) (hs : List Happening) → end_of hs ≡ None → entries_of (closed ++ seg o hs ∷ []) ≡ entries_of closed
entries-open closed o hs e =
    ap (λ x. mark (closed ++ seg o hs ∷ []) 0 x) (rows-open closed o hs e)
    ∙ mark-idle closed (seg o hs) (λ place row. idle-open o hs e place row) 0 (rows closed)

-- a happening that follows an ended order, or no order at all

pub end-kept : (hs : List Happening) (h : Happening) (e : Ended) → end_of hs ≡ Some e → end_of (hs ++ h ∷ []) ≡ Some e
end-kept hs h e q = end_of-snoc hs h ∙ ap (end_grown hs h) q

pub awaited-snoc : (closed : List Segment) (s : Segment) → awaited_of (closed ++ s ∷ []) ≡ awaited_by_end s (end_of s.answers)
awaited-snoc closed s = fold-snoc awaited_after None closed s

ended-by : (s : Segment) (x : Option Ended) → awaited_by_end s x ≡ None → (e : Ended) × (x ≡ Some e)
ended-by s None q = absurd cc
ended-by s (Some e) q = (e, refl)

pub has-ended : (closed : List Segment) (s : Segment) → awaited_of (closed ++ s ∷ []) ≡ None → (e : Ended) × (end_of s.answers ≡ Some e)
has-ended closed s q = ended-by s (end_of s.answers) (sym (awaited-snoc closed s) ∙ q)

pub end-missing : (hs : List Happening) (h : Happening) → end_of hs ≡ None → ends (list_any is_positive hs) h ≡ false → end_of (hs ++ h ∷ []) ≡ None
end-missing hs h e n = end_of-snoc hs h ∙ ap (end_grown hs h) e ∙ ap (λ b. cond b (Some (record { before = hs; by = h })) None) n

pub end-reached : (hs : List Happening) (h : Happening) → end_of hs ≡ None → ends (list_any is_positive hs) h ≡ true → end_of (hs ++ h ∷ []) ≡ Some (record { before = hs; by = h })
end-reached hs h e n = end_of-snoc hs h ∙ ap (end_grown hs h) e ∙ ap (λ b. cond b (Some (record { before = hs; by = h })) None) n

pub unbroken-by : (p : Bool) (h : Happening) → ends p h ≡ false → is_break h ≡ false
unbroken-by p Connected e = refl
unbroken-by p (SentOut o) e = refl
unbroken-by p (HeardIn m) e = refl
unbroken-by p Malformed e = absurd cc
unbroken-by p Lost e = absurd cc
