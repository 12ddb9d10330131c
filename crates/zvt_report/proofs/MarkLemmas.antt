-- A day has the marks and doubts of a till with its log.
use Rattle.std.proofs.Common.{◌≡◌, ℕ, ◌<◌, ◌≤◌, Bool, true, false, not, cond, ◌||◌, ◌&&◌, List, [], ◌∷◌, ◌++◌, length, Option, Some, None, map, fold, refl, sym, ap, subst, ◌∙◌, append-nil, append_assoc, slice_get}
use Rattle.std.specs.List.{list_any, list_all}
use Rattle.zvt_till.specs.declared.entries.Entry.{Entry}
use Rattle.zvt_till.specs.declared.happenings.Happening.{Happening}
use Rattle.zvt_till.specs.declared.happenings.Sent.{Sent}
use Rattle.zvt_till.specs.declared.happenings.Sent.TheVariants.{Register, Pay, Reverse, CloseDay, Cancel, Foreign}
use Rattle.zvt_till.specs.declared.outcomes.Cause.{Cause}
use Rattle.zvt_till.specs.ByReceipt.{sole_at}
use Rattle.zvt_till.specs.Segments.{Opening, Segment, Ended, ends, end_after, end_of, is_positive}
use Rattle.zvt_till.specs.Books.{Books, books_of, settled}
use Rattle.zvt_till.specs.Marks.{entries_of, opened_after}
use Rattle.zvt_till.specs.Settings.{strict}
use Rattle.zvt_till.specs.Till.{book_after}
use Rattle.zvt_till.proofs.Endings.{grows, shut-payment, shut-plain, shut-reversal}
use Rattle.zvt_till.proofs.Marks.{IsPlaced, Placed, Placed-more, Placed-snoc, IsPlaced-more, mark-length}
use Rattle.zvt_till.proofs.SegmentEndLemmas.{seg, begun_by, rows, books-snoc, end-missing, end-reached, entries-alike, entries-open}
use Rattle.zvt_report.specs.Chapters.{Chapter, chapters, happenings, segment_of}
use Rattle.zvt_report.specs.Day.{DayValue, day_after, judged_as, no_orders, outcome_at}
use Rattle.zvt_report.specs.Laws.{AreOfEntries, IsOfEntry, SameMarks, has_ended, is_reversal, reversal_ended}
use Rattle.zvt_report.proofs.LawLemmas.{same-segments}

-- ---- the end of an order, as its last answer

abbrev IsEnd : List Happening → Ended → Type 0
IsEnd hs e = (ends (list_any is_positive e.before) e.by ≡ true) × (end_of (e.before ++ e.by ∷ []) ≡ Some e)

end-here : (before : List Happening) (h : Happening) (b : Bool) (hs : List Happening) (e : Ended) → end_of before ≡ None → ends (list_any is_positive before) h ≡ b
    → (end_of (before ++ h ∷ []) ≡ None → end_after (before ++ h ∷ []) hs ≡ Some e → IsEnd hs e)
    → cond b (Some (record { before = before; by = h })) (end_after (before ++ h ∷ []) hs) ≡ Some e → IsEnd hs e
end-here before h true hs e none over later q =
    let same : record { before = before; by = h } ≡ e = cc in
    subst (λ (x : Ended). IsEnd hs x) same (over, end-reached before h none over)
end-here before h false hs e none over later q = later (end-missing before h none over) q

end-from : (before hs : List Happening) (e : Ended) → end_of before ≡ None → end_after before hs ≡ Some e → IsEnd hs e
end-from before [] e none q = absurd cc
end-from before (h ∷ hs) e none q = end-here before h (ends (list_any is_positive before) h) hs e none refl (λ none_yet r. end-from (before ++ h ∷ []) hs e none_yet r) q

end-shape : (hs : List Happening) (e : Ended) → end_of hs ≡ Some e → IsEnd hs e
end-shape hs e q = end-from [] hs e refl q

-- ---- one more order

pub record Marked (ss : List Segment) (d : DayValue) : Type 0 where
  pub book : d.book ≡ entries_of ss
  pub placed : Placed (length (rows ss)) ss

-- what the order's outcome makes of the book
abbrev book-by : (currency : Option ℕ) → List (ℕ × Cause) → Sent → Option Ended → List Entry → List Entry
book-by currency unclear o end book = book_after book (judged_as o) (outcome_at book unclear currency (judged_as o) end)

sole-none : (book : List Entry) (unclear : List (ℕ × Cause)) (row : Option Entry) → sole_at false book unclear row ≡ None
sole-none book unclear None = refl
sole-none book unclear (Some row) = refl

book-paid : (ss : List Segment) (force : Option ℕ) (a : ℕ) (hs : List Happening) (unclear : List (ℕ × Cause)) (end : Option Ended) → end_of hs ≡ end → Placed (length (rows ss)) ss
    → book-by force unclear (Pay a) end (entries_of ss) ≡ entries_of (ss ++ seg (begun_by force (Pay a)) hs ∷ [])
book-paid ss force a hs unclear None e placed = sym (entries-open ss (begun_by force (Pay a)) hs e)
book-paid ss force a hs unclear (Some k) e placed =
    let shape = end-shape hs k e in
    (shut-payment force ss a k.before k.by (list_any is_positive k.before) shape.1 shape.0 placed).book
    ∙ entries-alike ss (begun_by force (Pay a)) (k.before ++ k.by ∷ []) hs (shape.1 ∙ sym e)

book-reversed : (ss : List Segment) (force : Option ℕ) (j : ℕ) (hs : List Happening) (unclear : List (ℕ × Cause)) (end : Option Ended) → end_of hs ≡ end → j < length (rows ss) → has_ended end ≡ true
    → book-by force unclear (Reverse j) end (entries_of ss) ≡ entries_of (ss ++ seg (begun_by force (Reverse j)) hs ∷ [])
book-reversed ss force j hs unclear None e lt over = absurd cc
book-reversed ss force j hs unclear (Some k) e lt over =
    let shape = end-shape hs k e in
    let sole : opened_after false ss (begun_by force (Reverse j)) ≡ begun_by force (Reverse j) =
    ap (λ (x : Option (List ℕ)). record { order = Reverse j; currency = force; sole = x }) (sole-none (entries_of ss) (settled (books_of ss).unclear) (slice_get (entries_of ss) j)) in
    shut-reversal strict force ss j k.before k.by shape.1 lt
    ∙ ap (λ (o : Opening). entries_of (ss ++ seg o (k.before ++ k.by ∷ []) ∷ [])) sole
    ∙ entries-alike ss (begun_by force (Reverse j)) (k.before ++ k.by ∷ []) hs (shape.1 ∙ sym e)

book-more : (ss : List Segment) (force : Option ℕ) (o : Sent) (hs : List Happening) (unclear : List (ℕ × Cause)) → Placed (length (rows ss)) ss → IsPlaced (length (rows ss)) o
    → (not (is_reversal o) || has_ended (end_of hs)) ≡ true → book-by force unclear o (end_of hs) (entries_of ss) ≡ entries_of (ss ++ seg (begun_by force o) hs ∷ [])
book-more ss force (Register c) hs unclear placed here over = (shut-plain ss (begun_by force (Register c)) hs (end_of hs) refl refl (λ place row. refl) (λ place row before. refl)).book
book-more ss force (Pay a) hs unclear placed here over = book-paid ss force a hs unclear (end_of hs) refl placed
book-more ss force (Reverse j) hs unclear placed here over = book-reversed ss force j hs unclear (end_of hs) refl here over
book-more ss force CloseDay hs unclear placed here over = (shut-plain ss (begun_by force CloseDay) hs (end_of hs) refl refl (λ place row. refl) (λ place row before. refl)).book
book-more ss force Cancel hs unclear placed here over = (shut-plain ss (begun_by force Cancel) hs (end_of hs) refl refl (λ place row. refl) (λ place row before. refl)).book
book-more ss force Foreign hs unclear placed here over = (shut-plain ss (begun_by force Foreign) hs (end_of hs) refl refl (λ place row. refl) (λ place row before. refl)).book

placed-by : (ss : List Segment) (d : DayValue) (o : Sent) → d.book ≡ entries_of ss → IsOfEntry d.book o → IsPlaced (length (rows ss)) o
placed-by ss d (Register c) is p = tt
placed-by ss d (Pay a) is p = tt
placed-by ss d (Reverse e) is p =
    let same : length d.book ≡ length (rows ss) = ap (λ (x : List Entry). length x) is ∙ mark-length ss 0 (rows ss) in
    subst (λ n. e < n) same p
placed-by ss d CloseDay is p = tt
placed-by ss d Cancel is p = tt
placed-by ss d Foreign is p = tt

marked-more : (ss : List Segment) (d : DayValue) (c : Chapter) → Marked ss d → IsOfEntry d.book c.order → reversal_ended c ≡ true → Marked (ss ++ segment_of c ∷ []) (day_after d c)
marked-more ss d c m p over =
    let hs : List Happening = happenings c.answers in
    let here : IsPlaced (length (rows ss)) c.order = placed-by ss d c.order m.book p in
    let longer : length (rows ss) ≤ length (rows (ss ++ segment_of c ∷ [])) =
    subst (λ (b : Books). length (rows ss) ≤ length b.booked) (sym (books-snoc ss (begun_by c.currency c.order) hs (end_of hs) refl)) (grows (books_of ss) (begun_by c.currency c.order) c.order (end_of hs)) in
    record {
      book = ap (book-by c.currency d.unclear c.order (end_of hs)) m.book ∙ book-more ss c.currency c.order hs d.unclear m.placed here over;
      placed = Placed-snoc (length (rows (ss ++ segment_of c ∷ []))) ss (segment_of c) (Placed-more (length (rows ss)) (length (rows (ss ++ segment_of c ∷ []))) longer ss m.placed) (IsPlaced-more (length (rows ss)) (length (rows (ss ++ segment_of c ∷ []))) longer c.order here);
    }

both-true : (a b : Bool) → (a && b) ≡ true → (a ≡ true) × (b ≡ true)
both-true true b e = (refl, e)
both-true false b e = absurd cc

marked-all : (ss : List Segment) (d : DayValue) (cs : List Chapter) → Marked ss d → AreOfEntries d cs → list_all reversal_ended cs ≡ true → Marked (ss ++ map segment_of cs) (fold day_after d cs)
marked-all ss d [] m p over = subst (λ x. Marked x d) (sym (append-nil ss)) m
marked-all ss d (c ∷ cs) m p over =
    let all = both-true (reversal_ended c) (list_all reversal_ended cs) over in
    subst (λ x. Marked x (fold day_after (day_after d c) cs)) (append_assoc ss (segment_of c ∷ []) (map segment_of cs))
    (marked-all (ss ++ segment_of c ∷ []) (day_after d c) cs (marked-more ss d c m p.0 all.0) p.1 all.1)

pub same_marks : SameMarks
same_marks notes p over =
    (marked-all [] no_orders (chapters notes) (record { book = refl; placed = tt }) p over).book ∙ ap entries_of (same-segments notes)
