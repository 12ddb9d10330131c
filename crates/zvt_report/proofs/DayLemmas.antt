-- What is known of judged notes, with one more note.
use Rattle.std.proofs.Common.{◌≡◌, ℕ, true, false, ◌||◌, List, [], ◌∷◌, ◌++◌, Option, Some, None, fold, refl, sym, ap, ap₂, subst, ◌∙◌, ◌⊎◌, inl, inr}
use Rattle.std.specs.List.{list_any}
use Rattle.zvt_till.specs.declared.happenings.Sent.{Sent}
use Rattle.zvt_till.specs.declared.entries.Entry.{Entry}
use Rattle.zvt_till.specs.declared.orders.Order.{Order}
use Rattle.zvt_till.specs.declared.outcomes.Cause.{Cause}
use Rattle.zvt_till.specs.declared.outcomes.Cause.TheVariants.{Unfinished}
use Rattle.zvt_till.specs.declared.outcomes.Outcome.TheVariants.{Unclear}
use Rattle.zvt_till.specs.declared.statuses.Statuses.{Statuses}
use Rattle.zvt_till.specs.declared.statuses.Statuses.TheVariants.{Nothing}
use Rattle.zvt_till.specs.Settings.{strict}
use Rattle.zvt_till.specs.Segments.{Ended, begun, in_force, ends, end_of, is_positive, status_of, statuses}
use Rattle.zvt_till.specs.Outcomes.{demand_of, note, note_if, outcome_by}
use Rattle.zvt_till.proofs.Segments.{fold-snoc, list_any-snoc}
use Rattle.zvt_till.proofs.Summaries.{summary-snoc}
use Rattle.zvt_till.proofs.SegmentEndLemmas.{end-kept, end-missing, end-reached}
use Rattle.zvt_report.specs.Chapters.{Noted, Chapter, chapters, ended, happenings, heeded, last_line}
use Rattle.zvt_report.specs.Day.{DayValue, approval_at, day_after, day_in, day_of, first_approval, judged_as, no_orders, outcome_at, row_of, with_row}
use Rattle.zvt_report.specs.Judging.{DaySoFar, opened, first_of, goes_on, row_at, is_open, open_after, ends_open, Runs, Rests, IsJudged}
use Rattle.zvt_report.specs.declared.day.OpenOrder.{OpenOrder}
use Rattle.zvt_report.specs.declared.rows.OrderRow.{OrderRow}
use Rattle.zvt_report.proofs.ChapterLemmas.{chap, heard_last, grown, chapters-snoc, heard_last-snoc, split_last, happenings-snoc, last_line-snoc}
use Rattle.zvt_report.proofs.RowLemmas.{first_approval-snoc, approval-ended, heeded-after, heeded-all}

-- the row of a chapter, from its end and what is heeded of its answers
abbrev row_by : List Entry → List (ℕ × Cause) → Chapter → Option Ended → List Noted → OrderRow
row_by book unclear c end heard =
    record {
      order = c.order;
      first = c.line;
      last = last_line c.line heard;
      outcome = outcome_at book unclear c.currency (judged_as c.order) end;
      approval = first_approval heard;
      time = None;
      card = None;
    }

day-snoc : (closed : List Chapter) (c : Chapter) → day_in (closed ++ c ∷ []) ≡ day_after (day_in closed) c
day-snoc closed c = fold-snoc day_after no_orders closed c

-- a day with the row of one more chapter
day-with : (closed : List Chapter) (d : DayValue) (c : Chapter) (row : OrderRow) → d ≡ day_in closed → row_of d.book d.unclear c ≡ row
    → with_row d (judged_as c.order) row ≡ day_in (closed ++ c ∷ [])
day-with closed d c row is same =
    ap (with_row d (judged_as c.order)) (sym same) ∙ ap (λ (x : DayValue). day_after x c) is ∙ sym (day-snoc closed c)

-- ---- the next order is sent

-- the day with the order that runs, as it stands
abbrev pub closed_day : DayValue → Option OpenOrder → DayValue
closed_day d None = d
closed_day d (Some o) = with_row d (judged_as o.sent) (row_at o o.last (Unclear Unfinished))

unfinished : (book : List Entry) (unclear : List (ℕ × Cause)) (o : OpenOrder) (answers : List Noted) → end_of (happenings answers) ≡ None
    → o.last ≡ last_line o.first answers → o.approval ≡ first_approval answers
    → row_of book unclear (chap o.currency o.sent o.first answers) ≡ row_at o o.last (Unclear Unfinished)
unfinished book unclear o answers e last approval =
    ap (λ x. row_by book unclear (chap o.currency o.sent o.first answers) x (heeded answers x)) e
    ∙ ap₂ (λ l a. record { order = o.sent; first = o.first; last = l; outcome = Unclear Unfinished; approval = a; time = None; card = None }) (sym last) (sym approval)

pub judged-close : (cs : List Chapter) (d : DayValue) (open_order : Option OpenOrder) → IsJudged cs d open_order → closed_day d open_order ≡ day_in cs
judged-close cs d None r = r.all
judged-close cs d (Some o) r =
    day-with r.closed d (chap o.currency o.sent o.first r.answers) (row_at o o.last (Unclear Unfinished)) r.earlier (unfinished d.book d.unclear o r.answers r.unended r.last r.approval)
    ∙ ap day_in (sym r.is)

judged-order : (notes : List Noted) (n : Noted) (o : Sent) (d : DayValue) → begun n.happening ≡ Some o → d ≡ day_of notes
    → Runs (chapters (notes ++ n ∷ [])) d (opened (in_force (happenings notes)) o n.line)
judged-order notes n o d e all =
    record {
      closed = chapters notes;
      answers = [];
      is = chapters-snoc notes n ∙ ap (grown (in_force (happenings notes)) (chapters notes) n) e;
      earlier = all;
      unended = refl;
      order = refl;
      positive = refl;
      heard = refl;
      last = refl;
      approval = refl;
    }

-- the day after an order was sent
pub judged-next : (notes : List Noted) (n : Noted) (o : Sent) (new : DaySoFar) → begun n.happening ≡ Some o → new.day ≡ day_of notes
    → new.current ≡ Some (opened (in_force (happenings notes)) o n.line) → IsJudged (chapters (notes ++ n ∷ [])) new.day new.current
judged-next notes n o new e all current = subst (λ x. IsJudged (chapters (notes ++ n ∷ [])) new.day x) (sym current) (judged-order notes n o new.day e all)

-- ---- something is noted while no order runs

chapters-answer : (notes : List Noted) (n : Noted) → begun n.happening ≡ None → chapters (notes ++ n ∷ []) ≡ heard_last (chapters notes) n
chapters-answer notes n e = chapters-snoc notes n ∙ ap (grown (in_force (happenings notes)) (chapters notes) n) e

has-end : (end : Option Ended) → is_open end ≡ false → (e : Ended) × (end ≡ Some e)
has-end None q = absurd cc
has-end (Some e) q = (e, refl)

ended-stays : (c : Chapter) (n : Noted) (e : Ended) → ended c ≡ Some e → ended (chap c.currency c.order c.line (c.answers ++ n ∷ [])) ≡ Some e
ended-stays c n e q = ap end_of (happenings-snoc c.answers n) ∙ end-kept (happenings c.answers) n.happening e q

row-stays : (book : List Entry) (unclear : List (ℕ × Cause)) (c : Chapter) (n : Noted) (e : Ended) → ended c ≡ Some e
    → row_of book unclear (chap c.currency c.order c.line (c.answers ++ n ∷ [])) ≡ row_of book unclear c
row-stays book unclear c n e q =
    ap (λ x. row_by book unclear c x (heeded (c.answers ++ n ∷ []) x)) (ended-stays c n e q)
    ∙ ap (row_by book unclear c (Some e)) (heeded-after c.answers n e q)
    ∙ ap (λ x. row_by book unclear c x (heeded c.answers x)) (sym q)

rests-last : (closed : List Chapter) (c : Chapter) (n : Noted) (d : DayValue) → Rests (closed ++ c ∷ []) d
    → Rests (closed ++ chap c.currency c.order c.line (c.answers ++ n ∷ []) ∷ []) d
rests-last closed c n d r =
    let w = has-end (ended c) (sym (fold-snoc open_after false closed c) ∙ r.ended) in
    let before : DayValue = day_in closed in
    record {
      all =
          r.all ∙ day-snoc closed c
          ∙ ap (with_row before (judged_as c.order)) (sym (row-stays before.book before.unclear c n w.0 w.1))
          ∙ sym (day-snoc closed (chap c.currency c.order c.line (c.answers ++ n ∷ [])));
      ended = fold-snoc open_after false closed (chap c.currency c.order c.line (c.answers ++ n ∷ [])) ∙ ap is_open (ended-stays c n w.0 w.1);
    }

rests-heard : (cs : List Chapter) (n : Noted) (d : DayValue) → Rests cs d → Rests (heard_last cs n) d
rests-heard cs n d r = by_last (split_last cs)
  where
    by_last : (cs ≡ []) ⊎ ((closed : List Chapter) × (c : Chapter) × (cs ≡ closed ++ c ∷ [])) → Rests (heard_last cs n) d
    by_last (inl e) = subst (λ x. Rests x d → Rests (heard_last x n) d) (sym e) (λ k. k) r
    by_last (inr w) =
        subst (λ x. Rests (heard_last x n) d) (sym w.2)
        (subst (λ x. Rests x d) (sym (heard_last-snoc w.0 w.1 n))
        (rests-last w.0 w.1 n d (subst (λ x. Rests x d) w.2 r)))

pub judged-rest : (notes : List Noted) (n : Noted) (d : DayValue) → begun n.happening ≡ None → Rests (chapters notes) d → Rests (chapters (notes ++ n ∷ [])) d
judged-rest notes n d e r = subst (λ cs. Rests cs d) (sym (chapters-answer notes n e)) (rests-heard (chapters notes) n d r)

-- ---- something is noted while an order runs

chapters-running : (notes : List Noted) (n : Noted) (closed : List Chapter) (c : Chapter) → begun n.happening ≡ None
    → chapters notes ≡ closed ++ c ∷ [] → chapters (notes ++ n ∷ []) ≡ closed ++ chap c.currency c.order c.line (c.answers ++ n ∷ []) ∷ []
chapters-running notes n closed c e is = chapters-answer notes n e ∙ ap (λ cs. heard_last cs n) is ∙ heard_last-snoc closed c n

reached : (answers : List Noted) (n : Noted) → end_of (happenings answers) ≡ None → ends (list_any is_positive (happenings answers)) n.happening ≡ true
    → end_of (happenings (answers ++ n ∷ [])) ≡ Some (record { before = happenings answers; by = n.happening })
reached answers n e q = ap end_of (happenings-snoc answers n) ∙ end-reached (happenings answers) n.happening e q

finished : (d : DayValue) (o : OpenOrder) (answers : List Noted) (n : Noted) → end_of (happenings answers) ≡ None → ends (list_any is_positive (happenings answers)) n.happening ≡ true
    → o.running.order ≡ judged_as o.sent
    → o.running.statuses ≡ fold (note (demand_of strict o.currency d.book d.unclear (judged_as o.sent))) Nothing (statuses (happenings answers))
    → o.approval ≡ first_approval answers
    → row_of d.book d.unclear (chap o.currency o.sent o.first (answers ++ n ∷ [])) ≡ row_at o n.line (outcome_by d.book o.running.order o.running.statuses n.happening)
finished d o answers n e q order heard approval =
    let c : Chapter = chap o.currency o.sent o.first (answers ++ n ∷ []) in
    let end : Option Ended = Some (record { before = happenings answers; by = n.happening }) in
    ap (λ x. row_by d.book d.unclear c x (heeded (answers ++ n ∷ []) x)) (reached answers n e q)
    ∙ ap (row_by d.book d.unclear c end) (heeded-all answers n)
    ∙ ap (λ l. record { order = o.sent; first = o.first; last = l; outcome = outcome_at d.book d.unclear o.currency (judged_as o.sent) end; approval = first_approval (answers ++ n ∷ []); time = None; card = None }) (last_line-snoc o.first answers n)
    ∙ ap (λ a. record { order = o.sent; first = o.first; last = n.line; outcome = outcome_at d.book d.unclear o.currency (judged_as o.sent) end; approval = a; time = None; card = None }) (approval-ended (list_any is_positive (happenings answers)) answers n q ∙ sym approval)
    ∙ ap (λ (st : Statuses). row_at o n.line (outcome_by d.book (judged_as o.sent) st n.happening)) (sym heard)
    ∙ ap (λ (x : Order). row_at o n.line (outcome_by d.book x o.running.statuses n.happening)) (sym order)

pub judged-end : (notes : List Noted) (n : Noted) (d : DayValue) (o : OpenOrder) → begun n.happening ≡ None → ends o.running.positive n.happening ≡ true → Runs (chapters notes) d o
    → Rests (chapters (notes ++ n ∷ [])) (with_row d (judged_as o.sent) (row_at o n.line (outcome_by d.book o.running.order o.running.statuses n.happening)))
judged-end notes n d o e q r =
    let c : Chapter = chap o.currency o.sent o.first (r.answers ++ n ∷ []) in
    let over : ends (list_any is_positive (happenings r.answers)) n.happening ≡ true = ap (λ x. ends x n.happening) (sym r.positive) ∙ q in
    let is : chapters (notes ++ n ∷ []) ≡ r.closed ++ c ∷ [] = chapters-running notes n r.closed (chap o.currency o.sent o.first r.answers) e r.is in
    record {
      all =
          day-with r.closed d c (row_at o n.line (outcome_by d.book o.running.order o.running.statuses n.happening)) r.earlier
          (finished d o r.answers n r.unended over r.order r.heard r.approval)
          ∙ ap day_in (sym is);
      ended = ap ends_open is ∙ fold-snoc open_after false r.closed c ∙ ap is_open (reached r.answers n r.unended over);
    }

pub judged-more : (notes : List Noted) (n : Noted) (d : DayValue) (o : OpenOrder) → begun n.happening ≡ None → ends o.running.positive n.happening ≡ false → Runs (chapters notes) d o
    → Runs (chapters (notes ++ n ∷ [])) d (goes_on d.book d.unclear o n)
judged-more notes n d o e q r =
    record {
      closed = r.closed;
      answers = r.answers ++ n ∷ [];
      is = chapters-running notes n r.closed (chap o.currency o.sent o.first r.answers) e r.is;
      earlier = r.earlier;
      unended = ap end_of (happenings-snoc r.answers n) ∙ end-missing (happenings r.answers) n.happening r.unended (ap (λ x. ends x n.happening) (sym r.positive) ∙ q);
      order = r.order;
      positive =
          ap (λ x. x || is_positive n.happening) r.positive
          ∙ sym (list_any-snoc is_positive (happenings r.answers) n.happening)
          ∙ ap (list_any is_positive) (sym (happenings-snoc r.answers n));
      heard =
          ap (λ x. note_if (demand_of strict o.currency d.book d.unclear x) o.running.statuses (status_of n.happening)) r.order
          ∙ ap (λ st. note_if (demand_of strict o.currency d.book d.unclear (judged_as o.sent)) st (status_of n.happening)) r.heard
          ∙ sym (summary-snoc (demand_of strict o.currency d.book d.unclear (judged_as o.sent)) (happenings r.answers) n.happening)
          ∙ ap (λ hs. fold (note (demand_of strict o.currency d.book d.unclear (judged_as o.sent))) Nothing (statuses hs)) (sym (happenings-snoc r.answers n));
      last = sym (last_line-snoc o.first r.answers n);
      approval = ap (λ x. first_of x (approval_at n)) r.approval ∙ sym (first_approval-snoc r.answers n);
    }
