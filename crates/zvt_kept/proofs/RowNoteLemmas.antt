-- The notes of rows, as a till lives through its records again.
use Rattle.std.proofs.Common.{◌≡◌, ◌⊎◌, ⊎_elim, inl, inr, ℕ, zero, suc, ◌+◌, ◌<◌, Bool, true, false, cond, nat_lt, List, [], ◌∷◌, ◌++◌, length, map, take, Option, Some, None, slice_get, slice_set, refl, sym, ap, subst, ◌∙◌, append_assoc, length-append, arith}
use Rattle.std.specs.Prelude.{fold, get_or}
use borrow.Author.Tests.{ltb-true}
use Rattle.std.proofs.lemmas.Bool.{lt-ltb}
use Rattle.std.proofs.lemmas.List.{length-set, take_all}
use Rattle.std.proofs.lemmas.List.Elements.{All-append, All-cons, All-nil}
use Rattle.std.proofs.lemmas.List.Sums.{fold-append}
use Rattle.zvt_till.specs.declared.entries.Entry.{Entry as Row}
use Rattle.zvt_till.specs.declared.happenings.Happening.{Happening}
use Rattle.zvt_till.specs.declared.happenings.Happening.TheVariants.{Connected, Heard as HeardIn, Lost}
use Rattle.zvt_till.specs.declared.orders.Order.{Order}
use Rattle.zvt_till.specs.declared.orders.Order.TheVariants.{Register, Pay, Reverse, CloseDay, Cancel}
use Rattle.zvt_till.specs.declared.outcomes.Cause.{Cause}
use Rattle.zvt_till.specs.declared.outcomes.Outcome.{Outcome}
use Rattle.zvt_till.specs.declared.outcomes.Outcome.TheVariants.{Registered, Paid, Declined, Refused, Aborted, Unclear, Reversed, DayClosed}
use Rattle.zvt_till.specs.declared.statuses.Running.{Running}
use Rattle.zvt_till.specs.Hearing.{heard_as}
use Rattle.zvt_till.specs.Outcomes.{demand_of, listened, outcome_by}
use Rattle.zvt_till.specs.Segments.{ends}
use Rattle.zvt_till.specs.Sending.{Settings}
use Rattle.zvt_till.specs.Till.{TillState, accept, book_after, entry_after, finish, heard_step, meet, meet_running, new_till, reversal_ended, state_after, step, unclear_after}
use Rattle.zvt_till.proofs.Runs.{step-order}
use Rattle.zvt_kept.specs.declared.records.Entry.{Entry}
use Rattle.zvt_kept.specs.Records.{Kept, ordered, asked, heard, lost, kept_in}
use Rattle.zvt_kept.specs.Logs.{Happens}
use Rattle.zvt_kept.specs.Reading.{kept_of}
use Rattle.zvt_kept.specs.Recovery.{Relives}
use Rattle.zvt_kept.specs.RowNotes.{AreNoted, HasNotes, IsLastPayment, IsNoteOf, LivedThrough, booked_rows, grown, is_payment, payment_note, unclear_rows}
use Rattle.zvt_kept.proofs.Recovering.{SoFar}
use Rattle.zvt_kept.proofs.Replayed.{taken}
use Rattle.zvt_kept.proofs.Relived.{line_lost}
use Rattle.zvt_kept.proofs.AskLemmas.{each_more}

-- ---- what a step does to the rows of a till

abbrev pays : Order → Bool
pays order = is_payment (ordered order [])

-- the running order is a payment
abbrev pub PayRuns : Option Running → Type 0
PayRuns None = ⊥
PayRuns (Some r) = pays r.order ≡ true

-- as many rows as before, or one more that the running payment made
abbrev Grows : Option Running → (before after : ℕ) → Type 0
Grows running before after = (after ≡ before) ⊎ ((after ≡ before + 1) × PayRuns running)

record Grew (old new : TillState) : Type 0 where
  pub in_book : Grows old.running (booked_rows old) (booked_rows new)
  pub in_doubt : Grows old.running (unclear_rows old) (unclear_rows new)
  pub runs : PayRuns new.running → PayRuns old.running

grew_not : (s : TillState) → Grew s s
grew_not s = record { in_book = inl refl; in_doubt = inl refl; runs = λ p. p }

reversal_rows : (book : List Row) (outcome : Outcome) (e : ℕ) → length (reversal_ended book e outcome) ≡ length book
reversal_rows book outcome e = by_row (slice_get book e)
  where
    by_row : (found : Option Row) → length {A = Row} (elim found [ None ↦ book | Some row ↦ slice_set book e (entry_after row outcome) ]) ≡ length book
    by_row None = refl
    by_row (Some row) = length-set book e (entry_after row outcome)

rows_booked : (book : List Row) (order : Order) (outcome : Outcome) → (length (book_after book order outcome) ≡ length book) ⊎ ((length (book_after book order outcome) ≡ length book + 1) × (pays order ≡ true))
rows_booked book Register outcome = inl refl
rows_booked book (Pay amount) Registered = inl refl
rows_booked book (Pay amount) (Paid trace receipt) = inr (length-append book _, refl)
rows_booked book (Pay amount) (Declined code) = inl refl
rows_booked book (Pay amount) (Refused code) = inl refl
rows_booked book (Pay amount) (Aborted code) = inl refl
rows_booked book (Pay amount) (Unclear cause) = inl refl
rows_booked book (Pay amount) Reversed = inl refl
rows_booked book (Pay amount) DayClosed = inl refl
rows_booked book (Reverse e) outcome = inl (reversal_rows book outcome e)
rows_booked book CloseDay outcome = inl refl
rows_booked book Cancel outcome = inl refl

rows_unclear : (rows : List (ℕ × Cause)) (order : Order) (outcome : Outcome) → (length (unclear_after rows order outcome) ≡ length rows) ⊎ ((length (unclear_after rows order outcome) ≡ length rows + 1) × (pays order ≡ true))
rows_unclear rows Register outcome = inl refl
rows_unclear rows (Pay amount) Registered = inl refl
rows_unclear rows (Pay amount) (Paid trace receipt) = inl refl
rows_unclear rows (Pay amount) (Declined code) = inl refl
rows_unclear rows (Pay amount) (Refused code) = inl refl
rows_unclear rows (Pay amount) (Aborted code) = inl refl
rows_unclear rows (Pay amount) (Unclear cause) = inr (length-append rows _, refl)
rows_unclear rows (Pay amount) Reversed = inl refl
rows_unclear rows (Pay amount) DayClosed = inl refl
rows_unclear rows (Reverse e) outcome = inl refl
rows_unclear rows CloseDay outcome = inl refl
rows_unclear rows Cancel outcome = inl refl

by_payment : (running : Option Running) (r : Running) (before after : ℕ) → running ≡ Some r → (after ≡ before) ⊎ ((after ≡ before + 1) × (pays r.order ≡ true)) → Grows running before after
by_payment running r before after is rows = ⊎_elim (λ same. inl same) (λ more. inr (more.0, subst PayRuns (sym is) more.1)) rows

grew_by_end : (s : TillState) (r : Running) (outcome : Outcome) → s.running ≡ Some r → Grew s (finish s r.order outcome)
grew_by_end s r outcome is = record {
  in_book = by_payment s.running r (length s.book) (length (book_after s.book r.order outcome)) is (rows_booked s.book r.order outcome);
  in_doubt = by_payment s.running r (length s.unclear) (length (unclear_after s.unclear r.order outcome)) is (rows_unclear s.unclear r.order outcome);
  runs = λ p. absurd p;
}

grew_by_meeting : (s : TillState) (h : Happening) → Grew s (meet s h)
grew_by_meeting s h = by_running s.running refl
  where
    by_ends : (r : Running) → s.running ≡ Some r → (b : Bool) → Grew s (cond b (finish s r.order (outcome_by s.book r.order r.statuses h)) (record s { running = Some (listened (demand_of s.settings.rules (Some s.settings.currency) s.book s.unclear r.order) r h) }))
    by_ends r is true = grew_by_end s r (outcome_by s.book r.order r.statuses h) is
    by_ends r is false = record { in_book = inl refl; in_doubt = inl refl; runs = λ p. subst PayRuns (sym is) p }

    by_running : (running : Option Running) → s.running ≡ running → Grew s (elim running [ None ↦ s | Some r ↦ meet_running s r h ])
    by_running None none = grew_not s
    by_running (Some r) is = by_ends r is (ends r.positive h)

grew_by_message : (s : TillState) (h : Happening) (up : Bool) → Grew s (cond up (meet s h) s)
grew_by_message s h true = grew_by_meeting s h
grew_by_message s h false = grew_not s

grew_by_loss : (s : TillState) → Grew s (step (step s Lost) Connected)
grew_by_loss s = let met = grew_by_meeting s Lost in record { in_book = met.in_book; in_doubt = met.in_doubt; runs = met.runs }

-- ---- what one record does to the rows of a till

record GrewBy (one : Kept) (old new : TillState) : Type 0 where
  pub in_book : Grows old.running (booked_rows old) (booked_rows new)
  pub in_doubt : Grows old.running (unclear_rows old) (unclear_rows new)
  pub runs : PayRuns new.running → PayRuns old.running ⊎ (is_payment one ≡ true)

by_any : (one : Kept) (old new : TillState) → Grew old new → GrewBy one old new
by_any one old new g = record { in_book = g.in_book; in_doubt = g.in_doubt; runs = λ p. inl (g.runs p) }

grew_by_order : (order : Order) (note : List ℕ) (s : TillState) → GrewBy (ordered order note) s (accept s order)
grew_by_order Register note s = record { in_book = inl refl; in_doubt = inl refl; runs = λ p. absurd cc }
grew_by_order (Pay amount) note s = record { in_book = inl refl; in_doubt = inl refl; runs = λ p. inr refl }
grew_by_order (Reverse e) note s = record { in_book = inl refl; in_doubt = inl refl; runs = λ p. absurd cc }
grew_by_order CloseDay note s = record { in_book = inl refl; in_doubt = inl refl; runs = λ p. absurd cc }
grew_by_order Cancel note s = by_any (ordered Cancel note) s s (grew_not s)

grew_by : (currency : ℕ) (one : Kept) (happened : List Happening) (s : TillState) → Happens currency one happened → GrewBy one s (fold step s happened)
grew_by currency (ordered order note) happened s is =
    subst (λ t. GrewBy (ordered order note) s t) (sym (ap (fold step s) is ∙ step-order currency s order)) (grew_by_order order note s)
grew_by currency (asked note) happened s is = subst (λ l. GrewBy (asked note) s (fold step s l)) (sym is) (by_any (asked note) s s (grew_not s))
grew_by currency (heard bytes) happened s is =
    subst (λ l. GrewBy (heard bytes) s (fold step s l)) (sym is.2) (by_any (heard bytes) s (heard_step s (heard_as is.0)) (grew_by_message s (HeardIn (heard_as is.0)) s.line_up))
grew_by currency lost happened s is =
    subst (λ l. GrewBy lost s (fold step s l)) (sym is) (by_any lost s (step (step s Lost) Connected) (grew_by_loss s))

-- ---- the last payment

this_payment : (kept : List Kept) (last : List ℕ) (one : Kept) → is_payment one ≡ true → IsLastPayment (kept ++ one ∷ []) (payment_note last one)
this_payment kept last (ordered Register note) is = absurd cc
this_payment kept last (ordered (Pay amount) note) is = record { before = kept; amount = amount; after = []; is = refl; last = All-nil (λ one. is_payment one ≡ false) }
this_payment kept last (ordered (Reverse e) note) is = absurd cc
this_payment kept last (ordered CloseDay note) is = absurd cc
this_payment kept last (ordered Cancel note) is = absurd cc
this_payment kept last (asked note) is = absurd cc
this_payment kept last (heard message) is = absurd cc
this_payment kept last lost is = absurd cc

same_note : (last : List ℕ) (one : Kept) → is_payment one ≡ false → payment_note last one ≡ last
same_note last (ordered Register note) is = refl
same_note last (ordered (Pay amount) note) is = absurd cc
same_note last (ordered (Reverse e) note) is = refl
same_note last (ordered CloseDay note) is = refl
same_note last (ordered Cancel note) is = refl
same_note last (asked note) is = refl
same_note last (heard message) is = refl
same_note last lost is = refl

earlier_payment : (kept : List Kept) (last : List ℕ) (one : Kept) → is_payment one ≡ false → IsLastPayment kept last → IsLastPayment (kept ++ one ∷ []) (payment_note last one)
earlier_payment kept last one not p =
    subst (IsLastPayment (kept ++ one ∷ [])) (sym (same_note last one not)) (record {
      before = p.before;
      amount = p.amount;
      after = p.after ++ one ∷ [];
      is = ap (λ l. l ++ one ∷ []) p.is ∙ append_assoc p.before (ordered (Pay p.amount) last ∷ p.after) (one ∷ []);
      last = All-append (λ k. is_payment k ≡ false) p.after (one ∷ []) p.last (All-cons (λ k. is_payment k ≡ false) one [] not (All-nil (λ k. is_payment k ≡ false)));
    })

one_payment : (kept : List Kept) (last : List ℕ) (one : Kept) → IsLastPayment kept last → IsLastPayment (kept ++ one ∷ []) (payment_note last one)
one_payment kept last one p = by_test (is_payment one) refl
  where
    by_test : (b : Bool) → is_payment one ≡ b → IsLastPayment (kept ++ one ∷ []) (payment_note last one)
    by_test true is = this_payment kept last one is
    by_test false is = earlier_payment kept last one is p

-- ---- rows and their notes

get_last : {X : Type 0} (xs : List X) (x : X) (i : ℕ) (y : X) → slice_get (xs ++ x ∷ []) i ≡ Some y → (slice_get xs i ≡ Some y) ⊎ ((i ≡ length xs) × (y ≡ x))
get_last [] x zero y is = let same : Some x ≡ Some y = is in inr (refl, cc same)
get_last [] x (suc i) y is = absurd cc
get_last (first ∷ xs) x zero y is = inl is
get_last (first ∷ xs) x (suc i) y is = ⊎_elim (λ here. inl here) (λ end. inr (ap suc end.0, end.1)) (get_last xs x i y is)

of_more : (settings : Settings) (kept : List Kept) (one : Kept) (rows : TillState → ℕ) (index : ℕ) (note : List ℕ) → IsNoteOf settings kept rows index note → IsNoteOf settings (kept ++ one ∷ []) rows index note
of_more settings kept one rows index note n = record {
  before = n.before;
  one = n.one;
  after = n.after ++ one ∷ [];
  is = ap (λ l. l ++ one ∷ []) n.is ∙ append_assoc n.before (n.one ∷ n.after) (one ∷ []);
  old = n.old;
  new = n.new;
  lived_before = n.lived_before;
  lived = n.lived;
  had = n.had;
  has = n.has;
  noted = n.noted;
}

not_grown : (notes : List (List ℕ)) (rows : ℕ) (note : List ℕ) → length notes ≡ rows → grown notes rows note ≡ notes
not_grown notes rows note same = by_test (nat_lt (length notes) rows) refl
  where
    by_test : (b : Bool) → nat_lt (length notes) rows ≡ b → grown notes rows note ≡ notes
    by_test true is = absurd (omega (arith, same, ltb-true (length notes) rows is))
    by_test false is = ap (λ (b : Bool). cond b (notes ++ note ∷ []) notes) is

is_grown : (notes : List (List ℕ)) (rows : ℕ) (note : List ℕ) → rows ≡ length notes + 1 → grown notes rows note ≡ notes ++ note ∷ []
is_grown notes rows note more = ap (λ (b : Bool). cond b (notes ++ note ∷ []) notes) (lt-ltb (length notes) rows (omega (arith, more)))

noted_rows : (settings : Settings) (kept : List Kept) (one : Kept) (rows : TillState → ℕ) (old new : TillState) (notes : List (List ℕ)) (note : List ℕ)
    → Grows old.running (rows old) (rows new) → LivedThrough settings kept old → LivedThrough settings (kept ++ one ∷ []) new → (PayRuns old.running → IsLastPayment (kept ++ one ∷ []) note)
    → AreNoted settings kept rows old notes → AreNoted settings (kept ++ one ∷ []) rows new (grown notes (rows new) note)
noted_rows settings kept one rows old new notes note grows before after paid are = ⊎_elim as_before one_more grows
  where
    as_before : rows new ≡ rows old → AreNoted settings (kept ++ one ∷ []) rows new (grown notes (rows new) note)
    as_before same =
        subst (AreNoted settings (kept ++ one ∷ []) rows new) (sym (not_grown notes (rows new) note (are.as_many ∙ sym same))) (record {
          as_many = are.as_many ∙ sym same;
          each = λ index n is. of_more settings kept one rows index n (are.each index n is);
        })

    one_more : (rows new ≡ rows old + 1) × PayRuns old.running → AreNoted settings (kept ++ one ∷ []) rows new (grown notes (rows new) note)
    one_more more =
        subst (AreNoted settings (kept ++ one ∷ []) rows new) (sym (is_grown notes (rows new) note (omega (arith, more.0, are.as_many)))) (record {
          as_many = omega (arith, more.0, are.as_many, length-append notes (note ∷ []));
          each = λ index n is. ⊎_elim
              (λ here. of_more settings kept one rows index n (are.each index n here))
              (λ end. record {
                before = kept;
                one = one;
                after = [];
                is = refl;
                old = old;
                new = new;
                lived_before = before;
                lived = after;
                had = omega (arith, end.0, are.as_many);
                has = omega (arith, end.0, are.as_many, more.0);
                noted = subst (IsLastPayment (kept ++ one ∷ [])) (sym end.1) (paid more.1);
              })
              (get_last notes note index n is);
        })

-- ---- a till that lives through its records

-- the notes of the rows so far, and of the payment that runs
pub record NotedSoFar (settings : Settings) (kept : List Kept) (state : TillState) (last : List ℕ) (booked unclear : List (List ℕ)) : Type 0 where
  pub lived : LivedThrough settings kept state
  pub in_book : AreNoted settings kept booked_rows state booked
  pub in_doubt : AreNoted settings kept unclear_rows state unclear
  pub awaits : PayRuns state.running → IsLastPayment kept last

noted_more : (settings : Settings) (kept : List Kept) (one : Kept) (happened : List Happening) (old new : TillState) (last : List ℕ) (booked unclear : List (List ℕ))
    → Happens settings.currency one happened → new ≡ fold step old happened → LivedThrough settings (kept ++ one ∷ []) new → NotedSoFar settings kept old last booked unclear
    → NotedSoFar settings (kept ++ one ∷ []) new (payment_note last one) (grown booked (booked_rows new) (payment_note last one)) (grown unclear (unclear_rows new) (payment_note last one))
noted_more settings kept one happened old new last booked unclear happens is lived s =
    let g : GrewBy one old new = subst (GrewBy one old) (sym is) (grew_by settings.currency one happened old happens) in
    let paid : PayRuns old.running → IsLastPayment (kept ++ one ∷ []) (payment_note last one) = λ runs. one_payment kept last one (s.awaits runs) in
    record {
      lived = lived;
      in_book = noted_rows settings kept one booked_rows old new booked (payment_note last one) g.in_book s.lived lived paid s.in_book;
      in_doubt = noted_rows settings kept one unclear_rows old new unclear (payment_note last one) g.in_doubt s.lived lived paid s.in_doubt;
      awaits = λ runs. ⊎_elim paid (λ this. this_payment kept last one this) (g.runs runs);
    }

no_note : (settings : Settings) (kept : List Kept) (rows : TillState → ℕ) (state : TillState) → rows state ≡ 0 → AreNoted settings kept rows state []
no_note settings kept rows state none = record { as_many = sym none; each = λ index note is. absurd cc }

pub none_noted : (settings : Settings) (entries : List Entry) (fresh state : TillState) (last : List ℕ) (booked unclear : List (List ℕ)) → fresh ≡ new_till settings → state ≡ step fresh Connected → booked ≡ [] → unclear ≡ [] → SoFar settings entries 0 state
    → NotedSoFar settings (map kept_of (take 0 entries)) state last booked unclear
none_noted settings entries fresh state last booked unclear new is no_booked no_unclear s =
    let same : state ≡ step (new_till settings) Connected = is ∙ ap (λ t. step t Connected) new in
    record {
      lived = record { happened = s.happened; happens = s.happens; stands = s.stands };
      in_book = subst (AreNoted settings [] booked_rows state) (sym no_booked) (no_note settings [] booked_rows state (ap booked_rows same));
      in_doubt = subst (AreNoted settings [] unclear_rows state) (sym no_unclear) (no_note settings [] unclear_rows state (ap unclear_rows same));
      awaits = λ runs. absurd (subst PayRuns (ap (λ t. t.running) same) runs);
    }

went : (settings : Settings) (log happened : List Happening) (old new : TillState) → old ≡ state_after settings log → new ≡ state_after settings (log ++ happened) → new ≡ fold step old happened
went settings log happened old new before after = after ∙ fold-append step (new_till settings) log happened ∙ ap (λ s. fold step s happened) (sym before)

-- one record more
noted_by : (settings : Settings) (kept : List Kept) (one : Kept) (old new : TillState) (last : List ℕ) (booked unclear : List (List ℕ)) → Relives true one old new → old.line_up ≡ true → NotedSoFar settings kept old last booked unclear
    → NotedSoFar settings (kept ++ one ∷ []) new (payment_note last one) (grown booked (booked_rows new) (payment_note last one)) (grown unclear (unclear_rows new) (payment_note last one))
noted_by settings kept one old new last booked unclear lives up n =
    let so_far = n.lived.happened in
    let next = lives settings (Connected ∷ so_far) n.lived.stands up in
    let lived : LivedThrough settings (kept ++ one ∷ []) new = record { happened = so_far ++ next.0; happens = each_more (Happens settings.currency) kept one so_far next.0 n.lived.happens next.1; stands = next.2 } in
    noted_more settings kept one next.0 old new last booked unclear next.1 (went settings (Connected ∷ so_far) next.0 old new n.lived.stands.1 next.2.1) lived n

-- one entry more, whose note was held, and whose rows were followed
pub noted_on : (settings : Settings) (entries : List Entry) (i : ℕ) (entry : Entry) (old new : TillState) (last held next : List ℕ) (booked booked_held booked_next unclear unclear_held unclear_next : List (List ℕ)) → i < length entries → entry ≡ get_or entries i entry
    → held ≡ payment_note last (kept_of entry) → booked_held ≡ booked → unclear_held ≡ unclear
    → next ≡ held → booked_next ≡ grown booked_held (booked_rows new) held → unclear_next ≡ grown unclear_held (unclear_rows new) held
    → Relives true (kept_of entry) old new → old.line_up ≡ true → NotedSoFar settings (map kept_of (take i entries)) old last booked unclear
    → NotedSoFar settings (map kept_of (take (i + 1) entries)) new next booked_next unclear_next
noted_on settings entries i entry old new last held next booked booked_held booked_next unclear unclear_held unclear_next below is held_is booked_same unclear_same next_is booked_is unclear_is lives up n =
    let kept = map kept_of (take i entries) in
    let note = payment_note last (kept_of entry) in
    let more = noted_by settings kept (kept_of entry) old new last booked unclear lives up n in
    let all = kept ++ kept_of entry ∷ [] in
    let in_book : booked_next ≡ grown booked (booked_rows new) note = booked_is ∙ ap (λ b. grown b (booked_rows new) held) booked_same ∙ ap (grown booked (booked_rows new)) held_is in
    let in_doubt : unclear_next ≡ grown unclear (unclear_rows new) note = unclear_is ∙ ap (λ u. grown u (unclear_rows new) held) unclear_same ∙ ap (grown unclear (unclear_rows new)) held_is in
    let with_last = subst (λ a. NotedSoFar settings all new a (grown booked (booked_rows new) note) (grown unclear (unclear_rows new) note)) (sym (next_is ∙ held_is)) more in
    let with_booked = subst (λ b. NotedSoFar settings all new next b (grown unclear (unclear_rows new) note)) (sym in_book) with_last in
    let with_unclear = subst (λ u. NotedSoFar settings all new next booked_next u) (sym in_doubt) with_booked in
    subst (λ k. NotedSoFar settings k new next booked_next unclear_next) (sym (taken entries i entry below is)) with_unclear

of_same_rows : (settings : Settings) (kept : List Kept) (rows : TillState → ℕ) (old new : TillState) (notes : List (List ℕ)) → rows new ≡ rows old → AreNoted settings kept rows old notes → AreNoted settings kept rows new notes
of_same_rows settings kept rows old new notes same are = record { as_many = are.as_many ∙ sym same; each = are.each }

-- and then the line is lost
pub noted_at_end : (settings : Settings) (text : List ℕ) (entries : List Entry) (old new : TillState) (last : List ℕ) (booked booked_next unclear unclear_next : List (List ℕ)) → kept_in text ≡ Some (map kept_of entries) → old.line_up ≡ true
    → new ≡ step old Lost → booked_next ≡ grown booked (booked_rows new) last → unclear_next ≡ grown unclear (unclear_rows new) last
    → NotedSoFar settings (map kept_of (take (length entries) entries)) old last booked unclear → HasNotes settings text new booked_next unclear_next
noted_at_end settings text entries old new last booked booked_next unclear unclear_next read up is booked_is unclear_is n =
    let kept = map kept_of entries in
    let after = step (step old Lost) Connected in
    let all : NotedSoFar settings kept old last booked unclear = subst (λ es. NotedSoFar settings (map kept_of es) old last booked unclear) (take_all (length entries) entries (omega arith)) n in
    let more = noted_by settings kept lost old after last booked unclear (line_lost old (step old Lost) after refl refl) up all in
    let same_booked : booked_rows new ≡ booked_rows after = ap booked_rows is in
    let same_unclear : unclear_rows new ≡ unclear_rows after = ap unclear_rows is in
    record {
      kept = kept;
      read = read;
      in_book = subst (AreNoted settings (kept ++ lost ∷ []) booked_rows new) (sym (booked_is ∙ ap (λ m. grown booked m last) same_booked)) (of_same_rows settings (kept ++ lost ∷ []) booked_rows after new (grown booked (booked_rows after) last) same_booked more.in_book);
      in_doubt = subst (AreNoted settings (kept ++ lost ∷ []) unclear_rows new) (sym (unclear_is ∙ ap (λ m. grown unclear m last) same_unclear)) (of_same_rows settings (kept ++ lost ∷ []) unclear_rows after new (grown unclear (unclear_rows after) last) same_unclear more.in_doubt);
    }
