-- What the end of each order adds to the book and to the unclear list.
use Rattle.std.proofs.Common.{◌≡◌, ℕ, ◌<◌, ◌≤◌, Bool, true, false, cond, List, [], ◌∷◌, ◌++◌, length, Option, Some, None, slice_set, slice_get, refl, sym, ap, subst, ◌∙◌, arith, zero-add, length-append, option_map, le_refl}
use Rattle.std.proofs.lemmas.List.Elements.{filter-append}
use Rattle.zvt_till.specs.declared.happenings.Happening.{Happening}
use Rattle.zvt_till.specs.declared.happenings.Sent.{Sent}
use Rattle.zvt_till.specs.declared.happenings.Sent.TheVariants.{Register, Pay, Reverse, CloseDay, Cancel, Foreign}
use Rattle.zvt_till.specs.declared.orders.Order.{Order}
use Rattle.zvt_till.specs.declared.orders.Order.TheVariants.{Register as RegisterOrder, Pay as PayOrder, Reverse as ReverseOrder, CloseDay as CloseDayOrder, Cancel as CancelOrder}
use Rattle.zvt_till.specs.declared.statuses.Statuses.{Statuses}
use Rattle.zvt_till.specs.declared.entries.Doubt.{Doubt}
use Rattle.zvt_till.specs.declared.entries.Entry.{Entry}
use Rattle.zvt_till.specs.declared.outcomes.Cause.{Cause}
use Rattle.zvt_till.specs.declared.outcomes.Outcome.{Outcome}
use Rattle.zvt_till.specs.declared.outcomes.Outcome.TheVariants.{Registered, Paid, Declined, Refused as RefusedOutcome, Aborted, Unclear as UnclearOutcome, Reversed, DayClosed}
use Rattle.zvt_till.specs.Statuses.{Charge, Demand, Payment, Reversal}
use Rattle.zvt_till.specs.ByReceipt.{sole_receipt, sole_at}
use Rattle.zvt_till.specs.Segments.{Opening, Segment, Ended, ends, statuses, end_of}
use Rattle.zvt_till.specs.Books.{Booked, booked_as, charge_of, Verdict, Entered, Unclear, Refused, verdict_by, verdict_at, Books, traces, write_down, judge_as, judge_end, books_of, is_finished, settled}
use Rattle.zvt_till.specs.Doubts.{doubt_end}
use Rattle.zvt_till.specs.Marks.{reverses_end, mark, entries_of, opened_after}
use Rattle.zvt_till.specs.Till.{entry_after, book_after, unclear_after}
use Rattle.zvt_till.specs.Outcomes.{demand_of, outcome_by}
use Rattle.zvt_till.specs.Refusals.{sent_as}
use Rattle.zvt_till.specs.declared.settings.Rules.{Rules}
use Rattle.zvt_till.proofs.Summaries.{summary}
use Rattle.zvt_till.proofs.Payment.{verdict_of, payment-verdict}
use Rattle.zvt_till.proofs.Marks.{mark-idle, IsPlaced, Placed, mark-snoc, mark-traces, row_at, entry_at, after_end, changed_at, mark-reversal}
use Rattle.zvt_till.proofs.Reversals.{reversal-after}
use Rattle.zvt_till.proofs.Settled.{IsSettled, sound-summary, settled-outcome}
use Rattle.zvt_till.proofs.SegmentEndLemmas.{seg, opened, begun_by, rows, loose, books-snoc, entries-by}

entries-shut : (closed : List Segment) (o : Opening) (hs : List Happening) (end : Option Ended) → end_of hs ≡ end
    → entries_of (closed ++ seg o hs ∷ []) ≡ mark (closed ++ seg o hs ∷ []) 0 (judge_end (books_of closed) o end).booked
entries-shut closed o hs end e = entries-by (closed ++ seg o hs ∷ []) (judge_end (books_of closed) o end) (books-snoc closed o hs end e)

pay-rows : (closed : List Segment) (a : ℕ) (out : Outcome) → Placed (length (rows closed)) closed
    → book_after (entries_of closed) (PayOrder a) out ≡ mark closed 0 (write_down (books_of closed) a (verdict_of a out)).booked
pay-rows closed a Registered p = refl
pay-rows closed a (Paid t r) p =
    sym (mark-snoc closed 0 (rows closed) (booked_as a t r) (subst (λ n. Placed n closed) (sym (zero-add (length (rows closed)))) p))
pay-rows closed a (Declined k) p = refl
pay-rows closed a (RefusedOutcome k) p = refl
pay-rows closed a (Aborted k) p = refl
pay-rows closed a (UnclearOutcome x) p = refl
pay-rows closed a Reversed p = refl
pay-rows closed a DayClosed p = refl

pay-loose : (b : Books) (a : ℕ) (out : Outcome) → IsSettled out
    → unclear_after (settled b.unclear) (PayOrder a) out ≡ settled (write_down b a (verdict_of a out)).unclear
pay-loose b a Registered s = refl
pay-loose b a (Paid t r) s = refl
pay-loose b a (Declined k) s = refl
pay-loose b a (RefusedOutcome k) s = refl
pay-loose b a (Aborted k) s = refl
pay-loose b a (UnclearOutcome x) s =
    ap (λ v. settled b.unclear ++ v) (sym (ap (λ t. cond t ((a, x) ∷ []) []) s))
    ∙ sym (filter-append (λ row. is_finished row.1) b.unclear ((a, x) ∷ []))
pay-loose b a Reversed s = refl
pay-loose b a DayClosed s = refl

verdict-here : (closed : List Segment) (charge : Charge) (hs : List Happening) (h : Happening)
    → verdict_at charge (traces (rows closed)) (Some (record { before = hs; by = h }))
    ≡ verdict_of charge.amount (outcome_by (entries_of closed) (PayOrder charge.amount) (summary (Some (Payment charge)) (statuses hs)) h)
verdict-here closed charge hs h =
    ap (λ ts. verdict_by charge ts (statuses hs) h) (sym (mark-traces closed 0 (rows closed)))
    ∙ payment-verdict charge (entries_of closed) (statuses hs) h

-- the book and the unclear list after a payment's end
pub record Shut (ss : List Segment) (the_book : List Entry) (the_unclear : List (ℕ × Cause)) : Type 0 where
  pub book : the_book ≡ entries_of ss
  pub unclear : the_unclear ≡ settled (books_of ss).unclear

pub shut-payment : (force : Option ℕ) (closed : List Segment) (a : ℕ) (hs : List Happening) (h : Happening) (p : Bool)
    → end_of (hs ++ h ∷ []) ≡ Some (record { before = hs; by = h }) → ends p h ≡ true → Placed (length (rows closed)) closed
    → let out : Outcome = outcome_by (entries_of closed) (PayOrder a) (summary (Some (Payment (charge_of (begun_by force (Pay a)) a))) (statuses hs)) h in
    Shut (closed ++ seg (begun_by force (Pay a)) (hs ++ h ∷ []) ∷ []) (book_after (entries_of closed) (PayOrder a) out) (unclear_after (loose closed) (PayOrder a) out)
shut-payment force closed a hs h p e n placed =
    let o : Opening = begun_by force (Pay a) in
    let d : Option Demand = Some (Payment (charge_of o a)) in
    let out : Outcome = outcome_by (entries_of closed) (PayOrder a) (summary d (statuses hs)) h in
    let s : Segment = seg o (hs ++ h ∷ []) in
    let ended : Option Ended = Some (record { before = hs; by = h }) in
    let v : verdict_at (charge_of o a) (traces (rows closed)) ended ≡ verdict_of a out = verdict-here closed (charge_of o a) hs h in
    record {
      book =
          pay-rows closed a out placed
          ∙ ap (λ x. mark closed 0 (write_down (books_of closed) a x).booked) (sym v)
          ∙ sym (mark-idle closed s (λ place row. record { unmarked = refl; stays = λ before. refl }) 0 (judge_end (books_of closed) o ended).booked)
          ∙ sym (entries-shut closed o (hs ++ h ∷ []) ended e);
      unclear =
          pay-loose (books_of closed) a out (settled-outcome (entries_of closed) (PayOrder a) (summary d (statuses hs)) p h n (sound-summary d (statuses hs)))
          ∙ ap (λ x. settled (write_down (books_of closed) a x).unclear) (sym v)
          ∙ ap (λ x. settled x.unclear) (sym (books-snoc closed o (hs ++ h ∷ []) ended e));
    }

-- an order that books nothing and takes nothing back
pub shut-plain : (closed : List Segment) (o : Opening) (hs : List Happening) (end : Option Ended) → end_of hs ≡ end
    → judge_end (books_of closed) o end ≡ books_of closed → ((place : ℕ) (row : Booked) → reverses_end place row o end ≡ false) → ((place : ℕ) (row : Booked) (before : Doubt) → doubt_end place row before o end ≡ before)
    → Shut (closed ++ seg o hs ∷ []) (entries_of closed) (loose closed)
shut-plain closed o hs end e worth idle stays =
    record {
      book =
          sym (mark-idle closed (seg o hs) (λ place row. record { unmarked = ap (reverses_end place row o) e ∙ idle place row; stays = λ before. ap (doubt_end place row before o) e ∙ stays place row before }) 0 (rows closed))
          ∙ ap (λ x. mark (closed ++ seg o hs ∷ []) 0 x.booked) (sym worth)
          ∙ sym (entries-shut closed o hs end e);
      unclear = ap (λ x. settled x.unclear) (sym (books-snoc closed o hs end e ∙ worth));
    }

-- a reversal changes its entry
changed-alike : (f g : Entry → Entry) → ((x : Entry) → f x ≡ g x) → (es : List Entry) (i : ℕ) → changed_at f es i ≡ changed_at g es i
changed-alike f g same es i = by_entry (slice_get es i)
  where
    by_entry : (o : Option Entry) → elim o as (λ x. List Entry) [ None ↦ es | Some x ↦ slice_set es i (f x) ] ≡ elim o as (λ x. List Entry) [ None ↦ es | Some x ↦ slice_set es i (g x) ]
    by_entry None = refl
    by_entry (Some x) = ap (λ y. slice_set es i y) (same x)

pub shut-reversal : (rules : Rules) (force : Option ℕ) (closed : List Segment) (e : ℕ) (hs : List Happening) (h : Happening)
    → end_of (hs ++ h ∷ []) ≡ Some (record { before = hs; by = h }) → e < length (rows closed)
    → let st : Statuses = summary (demand_of rules force (entries_of closed) (loose closed) (ReverseOrder e)) (statuses hs) in
    let o : Opening = opened_after rules.reversal_by_receipt closed (begun_by force (Reverse e)) in
    book_after (entries_of closed) (ReverseOrder e) (outcome_by (entries_of closed) (ReverseOrder e) st h) ≡ entries_of (closed ++ seg o (hs ++ h ∷ []) ∷ [])
shut-reversal rules force closed e hs h q lt =
    let b : Bool = rules.reversal_by_receipt in
    let o : Opening = opened_after b closed (begun_by force (Reverse e)) in
    let w = row_at (rows closed) e lt in
    let row = w.0 in
    let at = entry_at closed 0 (rows closed) e row w.1 in
    let d : Demand = Reversal (charge_of o row.amount) row.trace o.sole in
    let ended : Option Ended = Some (record { before = hs; by = h }) in
    let s : Segment = seg o (hs ++ h ∷ []) in
    let es : List Entry = entries_of closed in
    let u : List (ℕ × Cause) = loose closed in
    let demand : demand_of rules force es u (ReverseOrder e) ≡ Some d =
    ap (option_map (λ y. Reversal (charge_of o y.amount) y.trace (sole_receipt b es u y))) at.2
    ∙ ap (λ (x : Option (List ℕ)). Some (Reversal (charge_of o row.amount) row.trace x)) (sym (ap (sole_at b es u) at.2)) in
    let out : Outcome = outcome_by es (ReverseOrder e) (summary (Some d) (statuses hs)) h in
    ap (λ x. book_after es (ReverseOrder e) (outcome_by es (ReverseOrder e) (summary x (statuses hs)) h)) demand
    ∙ changed-alike (λ x. entry_after x out) (after_end o row ended) (λ x. reversal-after es e o row hs h x) es e
    ∙ sym (mark-reversal o e ended s (record { marks = λ place r. ap (reverses_end place r o) q; opens = λ place r before. ap (doubt_end place r before o) q }) closed 0 e (rows closed) row (sym (zero-add e)) w.1)
    ∙ sym (entries-shut closed o (hs ++ h ∷ []) ended q)

pub shut : (rules : Rules) (own : ℕ) (force : Option ℕ) (order : Order) (closed : List Segment) (hs : List Happening) (h : Happening) (p : Bool)
    → end_of (hs ++ h ∷ []) ≡ Some (record { before = hs; by = h }) → ends p h ≡ true
    → Placed (length (rows closed)) closed → IsPlaced (length (rows closed)) (sent_as own order)
    → let es : List Entry = entries_of closed in
    let out : Outcome = outcome_by es order (summary (demand_of rules force es (loose closed) order) (statuses hs)) h in
    Shut (closed ++ seg (opened rules.reversal_by_receipt closed own force order) (hs ++ h ∷ []) ∷ []) (book_after es order out) (unclear_after (loose closed) order out)
shut rules own force RegisterOrder closed hs h p e n placed here = shut-plain closed (begun_by force (Register (Some own))) (hs ++ h ∷ []) (Some (record { before = hs; by = h })) e refl (λ place row. refl) (λ place row before. refl)
shut rules own force (PayOrder a) closed hs h p e n placed here = shut-payment force closed a hs h p e n placed
shut rules own force (ReverseOrder k) closed hs h p e n placed here =
    record {
      book = shut-reversal rules force closed k hs h e here;
      unclear = ap (λ x. settled x.unclear) (sym (books-snoc closed (opened_after rules.reversal_by_receipt closed (begun_by force (Reverse k))) (hs ++ h ∷ []) (Some (record { before = hs; by = h })) e));
    }
shut rules own force CloseDayOrder closed hs h p e n placed here = shut-plain closed (begun_by force CloseDay) (hs ++ h ∷ []) (Some (record { before = hs; by = h })) e refl (λ place row. refl) (λ place row before. refl)
shut rules own force CancelOrder closed hs h p e n placed here = shut-plain closed (begun_by force Cancel) (hs ++ h ∷ []) (Some (record { before = hs; by = h })) e refl (λ place row. refl) (λ place row before. refl)

grows-by : (b : Books) (a : ℕ) (v : Verdict) → length b.booked ≤ length (write_down b a v).booked
grows-by b a (Entered row) = omega (arith, length-append b.booked (row ∷ []))
grows-by b a (Unclear x) = le_refl (length b.booked)
grows-by b a Refused = le_refl (length b.booked)

pub grows : (b : Books) (opening : Opening) (o : Sent) (end : Option Ended) → length b.booked ≤ length (judge_as o b opening end).booked
grows b opening (Register c) end = le_refl (length b.booked)
grows b opening (Pay a) end = grows-by b a (verdict_at (charge_of opening a) (traces b.booked) end)
grows b opening (Reverse e) end = le_refl (length b.booked)
grows b opening CloseDay end = le_refl (length b.booked)
grows b opening Cancel end = le_refl (length b.booked)
grows b opening Foreign end = le_refl (length b.booked)
