-- A payment that ended as paid is in the till's book.
use Rattle.std.proofs.Common.{◌≡◌, ◌⊎◌, ⊎_elim, inl, inr, ℕ, Bool, true, false, cond, List, [], ◌∷◌, ◌++◌, All, map, Option, Some, None, refl, sym, ap, subst, ◌∙◌, append_assoc}
use Rattle.std.specs.Prelude.{fold}
use Rattle.std.proofs.lemmas.List.{map_push}
use Rattle.std.proofs.lemmas.List.Elements.{All-head, All-tail}
use Rattle.std.proofs.lemmas.List.Sums.{fold-append}
use Rattle.zvt_till.specs.declared.entries.Doubt.TheVariants.{No}
use Rattle.zvt_till.specs.declared.happenings.Happening.{Happening}
use Rattle.zvt_till.specs.declared.happenings.Happening.TheVariants.{Connected, Heard as HeardIn, Lost}
use Rattle.zvt_till.specs.declared.orders.Order.{Order}
use Rattle.zvt_till.specs.declared.orders.Order.TheVariants.{Register, Pay, Reverse, CloseDay, Cancel}
use Rattle.zvt_till.specs.declared.outcomes.Outcome.{Outcome}
use Rattle.zvt_till.specs.declared.outcomes.Outcome.TheVariants.{Paid}
use Rattle.zvt_till.specs.declared.statuses.Running.{Running}
use Rattle.zvt_till.specs.Books.{Booked, booked_as}
use Rattle.zvt_till.specs.Hearing.{heard_as}
use Rattle.zvt_till.specs.Laws.{row_of}
use Rattle.zvt_till.specs.Outcomes.{demand_of, listened, outcome_by}
use Rattle.zvt_till.specs.Segments.{ends}
use Rattle.zvt_till.specs.Sending.{Settings}
use Rattle.zvt_till.specs.Till.{TillState, accept, book_after, finish, meet, meet_running, new_till, state_after, step}
use Rattle.zvt_till.proofs.BookStepLemmas.{entries_stay}
use Rattle.zvt_till.proofs.Runs.{step-order}
use Rattle.zvt_kept.specs.Logs.{Happens, HappenAll}
use Rattle.zvt_kept.specs.PastOrders.{PaidAreBooked, ended, starts}
use Rattle.zvt_kept.specs.Records.{Kept, ordered, asked, heard, lost}
use Rattle.zvt_kept.specs.RowNotes.{LivedThrough}
use Rattle.zvt_kept.proofs.AskLemmas.{each_once, happens_once}
use Rattle.zvt_kept.proofs.PastOrdersStay.{each_split}

module _ (amount trace : ℕ) (receipt : Option (List ℕ)) where
  -- the book has a row with this amount and these numbers
  abbrev pub IsBooked : TillState → Type 0
  IsBooked s = (before after : List Booked) × (map row_of s.book ≡ before ++ booked_as amount trace receipt ∷ after)

  -- The payment is running, or it has ended, and is booked if it ended as paid.
  abbrev IsPaying : TillState → Type 0
  IsPaying s = ((r : Running) × (s.running ≡ Some r) × (r.order ≡ Pay amount)) ⊎ ((s.running ≡ None) × (s.last_outcome ≡ Some (Paid trace receipt) → IsBooked s))

  same_outcome : (a b : Outcome) → Some a ≡ Some b → a ≡ b
  same_outcome a b is = cc is

  finished : (s : TillState) (order : Order) (outcome : Outcome) → order ≡ Pay amount → IsPaying (finish s order outcome)
  finished s order outcome is = inr (
    refl,
    λ paid. (
      map row_of s.book,
      [],
      ap (λ o. map row_of (book_after s.book o outcome)) is ∙ ap (λ o. map row_of (book_after s.book (Pay amount) o)) (same_outcome outcome (Paid trace receipt) paid)
          ∙ map_push row_of s.book (record { amount = amount; trace = trace; receipt = receipt; reversed = false; doubt = No }),
    ),
  )

  met : (s : TillState) (h : Happening) → IsPaying s → IsPaying (meet s h)
  met s h p = ⊎_elim runs rests p
    where
      by_end : (r : Running) (b : Bool) → r.order ≡ Pay amount → IsPaying (cond b (finish s r.order (outcome_by s.book r.order r.statuses h)) (record s { running = Some (listened (demand_of s.settings.rules (Some s.settings.currency) s.book s.unclear r.order) r h) }))
      by_end r true is = finished s r.order (outcome_by s.book r.order r.statuses h) is
      by_end r false is = inl (listened (demand_of s.settings.rules (Some s.settings.currency) s.book s.unclear r.order) r h, refl, is)

      runs : (r : Running) × (s.running ≡ Some r) × (r.order ≡ Pay amount) → IsPaying (meet s h)
      runs found = subst (λ (run : Option Running). IsPaying (elim run [ None ↦ s | Some r ↦ meet_running s r h ])) (sym found.1) (by_end found.0 (ends found.0.positive h) found.2)

      rests : (s.running ≡ None) × (s.last_outcome ≡ Some (Paid trace receipt) → IsBooked s) → IsPaying (meet s h)
      rests rested = subst (λ (run : Option Running). IsPaying (elim run [ None ↦ s | Some r ↦ meet_running s r h ])) (sym rested.0) (inr rested)

  by_line : (s : TillState) (h : Happening) (up : Bool) → IsPaying s → IsPaying (cond up (meet s h) s)
  by_line s h true p = met s h p
  by_line s h false p = p

  lost_on : (s : TillState) → IsPaying s → IsPaying (step (step s Lost) Connected)
  lost_on s p = ⊎_elim (λ runs. inl (runs.0, runs.1, runs.2)) (λ rests. inr (rests.0, λ paid. rests.1 paid)) (met s Lost p)

  -- a record that starts no order
  quiet_on : (currency : ℕ) (one : Kept) (happened : List Happening) (s : TillState) → starts one ≡ false → Happens currency one happened → IsPaying s → IsPaying (fold step s happened)
  quiet_on currency (ordered Register note) happened s quiet is p = absurd cc
  quiet_on currency (ordered (Pay a) note) happened s quiet is p = absurd cc
  quiet_on currency (ordered (Reverse entry) note) happened s quiet is p = absurd cc
  quiet_on currency (ordered CloseDay note) happened s quiet is p = absurd cc
  quiet_on currency (ordered Cancel note) happened s quiet is p = subst IsPaying (sym (ap (fold step s) is ∙ step-order currency s Cancel)) p
  quiet_on currency (asked note) happened s quiet is p = subst (λ l. IsPaying (fold step s l)) (sym is) p
  quiet_on currency (heard bytes) happened s quiet is p = subst (λ l. IsPaying (fold step s l)) (sym is.2) (by_line s (HeardIn (heard_as is.0)) s.line_up p)
  quiet_on currency lost happened s quiet is p = subst (λ l. IsPaying (fold step s l)) (sym is) (lost_on s p)

  all_quiet : (currency : ℕ) (quiet : List Kept) (happened : List Happening) (s : TillState) → All (λ one. starts one ≡ false) quiet → HappenAll currency quiet happened → IsPaying s → IsPaying (fold step s happened)
  all_quiet currency [] happened s q all p = subst (λ l. IsPaying (fold step s l)) (sym all) p
  all_quiet currency (one ∷ quiet) happened s q all p =
      let first = quiet_on currency one all.0 s (All-head (λ k. starts k ≡ false) one quiet q) all.2 p in
      subst IsPaying (sym (ap (fold step s) all.4 ∙ fold-append step s all.0 all.1)) (all_quiet currency quiet all.1 (fold step s all.0) (All-tail (λ k. starts k ≡ false) one quiet q) all.3 first)

  -- the state once a payment has started and gone on
  paying_after : (settings : Settings) (before during : List Kept) (note : List ℕ) (state : TillState) → All (λ one. starts one ≡ false) during → LivedThrough settings (before ++ ordered (Pay amount) note ∷ during) state → IsPaying state
  paying_after settings before during note state quiet lived =
      let split = each_split (Happens settings.currency) before (ordered (Pay amount) note ∷ during) lived.happened lived.happens in
      let first = state_after settings (Connected ∷ split.0) in
      let rest = split.3 in
      let begun = accept first (Pay amount) in
      let then : state ≡ fold step begun rest.1 =
      lived.stands.1 ∙ ap (λ l. state_after settings (Connected ∷ l)) split.4 ∙ fold-append step (new_till settings) (Connected ∷ split.0) split.1
      ∙ ap (fold step first) rest.4 ∙ fold-append step first rest.0 rest.1 ∙ ap (λ s. fold step s rest.1) (ap (fold step first) rest.2 ∙ step-order settings.currency first (Pay amount)) in
      subst IsPaying (sym then) (all_quiet settings.currency during rest.1 begun quiet rest.3 (inl (record { order = Pay amount; positive = false; statuses = _ }, refl, refl)))

  is_paid : (s : TillState) → IsPaying s → ended s ≡ Some (Paid trace receipt) → IsBooked s
  is_paid s p e = ⊎_elim runs rests p
    where
      runs : (r : Running) × (s.running ≡ Some r) × (r.order ≡ Pay amount) → IsBooked s
      runs found = let none : None ≡ Some (Paid trace receipt) = sym (ap (λ (run : Option Running). elim run [ None ↦ s.last_outcome | Some r ↦ None ]) found.1) ∙ e in absurd cc

      rests : (s.running ≡ None) × (s.last_outcome ≡ Some (Paid trace receipt) → IsBooked s) → IsBooked s
      rests rested = rested.1 (sym (ap (λ (run : Option Running). elim run [ None ↦ s.last_outcome | Some r ↦ None ]) rested.0) ∙ e)

  -- a row stays, whatever follows
  still_booked : (settings : Settings) (kept more : List Kept) (old new : TillState) → LivedThrough settings kept old → LivedThrough settings (kept ++ more) new → IsBooked old → IsBooked new
  still_booked settings kept more old new was is booked =
      let split = each_split (Happens settings.currency) kept more is.happened is.happens in
      let same : split.0 ≡ was.happened = each_once (Happens settings.currency) (happens_once settings.currency) kept split.0 was.happened split.2 was.happens in
      let all : Connected ∷ is.happened ≡ (Connected ∷ was.happened) ++ split.1 = ap (λ l. Connected ∷ l) (split.4 ∙ ap (λ l. l ++ split.1) same) in
      let grows = entries_stay settings (Connected ∷ was.happened) split.1 in (
        booked.0,
        booked.1 ++ grows.0,
        ap (λ (s : TillState). map row_of s.book) (is.stands.1 ∙ ap (state_after settings) all) ∙ grows.1 ∙ ap (λ (s : TillState). map row_of s.book ++ grows.0) (sym was.stands.1)
            ∙ ap (λ l. l ++ grows.0) booked.2 ∙ append_assoc booked.0 (booked_as amount trace receipt ∷ booked.1) grows.0,
      )

pub paid_are_booked : PaidAreBooked
paid_are_booked settings kept state past lived are index one is amount trace receipt pays paid =
    let p = are.each index one is in
    let first = ordered one.order one.note in
    let through : LivedThrough settings (p.before ++ ordered (Pay amount) one.note ∷ p.during) p.state = subst (λ o. LivedThrough settings (p.before ++ ordered o one.note ∷ p.during) p.state) pays p.lived in
    let booked = is_paid amount trace receipt p.state (paying_after amount trace receipt settings p.before p.during one.note p.state p.quiet through) (sym p.outcome ∙ paid) in
    still_booked amount trace receipt settings (p.before ++ first ∷ p.during) p.after p.state state p.lived
    (subst (λ k. LivedThrough settings k state) (p.is ∙ sym (append_assoc p.before (first ∷ p.during) p.after)) lived) booked
