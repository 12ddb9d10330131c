-- What a till that settles has settled is what its log settles: each kind of note, and the induction.
use Rattle.std.proofs.Common.{◌≡◌, ℕ, Bool, true, false, cond, ◌||◌, List, [], ◌∷◌, ◌++◌, length, Option, Some, None, fold, slice_get, option_map, refl, sym, ap, subst, ◌∙◌, ◌⊎◌, inl, inr, append-nil, append_assoc}
use Rattle.std.proofs.Math.Bool.{or-false}
use Rattle.zvt_till.specs.declared.entries.Entry.{Entry}
use Rattle.zvt_till.specs.declared.happenings.Happening.{Happening}
use Rattle.zvt_till.specs.declared.happenings.Happening.TheVariants.{Connected, Sent as SentOut, Heard as HeardIn, Malformed, Lost}
use Rattle.zvt_till.specs.declared.happenings.Sent.TheVariants.{Register, Pay, Reverse, CloseDay, Cancel, Foreign}
use Rattle.zvt_till.specs.declared.orders.Order.{Order}
use Rattle.zvt_till.specs.declared.orders.Order.TheVariants.{Register as RegisterOrder, Pay as PayOrder, Reverse as ReverseOrder, CloseDay as CloseDayOrder}
use Rattle.zvt_till.specs.declared.orders.OrderRefusal.{OrderRefusal}
use Rattle.zvt_till.specs.declared.orders.OrderRefusal.TheVariants.{Offline, NotRegistered}
use Rattle.zvt_till.specs.declared.outcomes.Cause.{Cause}
use Rattle.zvt_till.specs.declared.statuses.Running.{Running}
use Rattle.zvt_till.specs.Log.{CanFollow, IsLog, facts_in}
use Rattle.zvt_till.specs.Refusals.{Facts, sent_as, line_refusal, busy_refusal, row_refusal, asked_refusal, or_else}
use Rattle.zvt_till.specs.Segments.{ends, is_positive, end_of}
use Rattle.zvt_till.specs.Sending.{Settings}
use Rattle.zvt_till.specs.Till.{TillState, fresh, meet_running, meet, step, state_after, awaited_by, facts_of}
use Rattle.zvt_till.proofs.BookStepLemmas.{settings-by-running, settings-kept}
use Rattle.zvt_till.proofs.LogStateLemmas.{quiet-connected, quiet-cancel, meet-quiet}
use Rattle.zvt_till.proofs.Runs.{is_log-snoc}
use Rattle.zvt_till.proofs.Segments.{fold-snoc}
use Rattle.zvt_till.proofs.Steps.{steps_meet_log}
use Rattle.zvt_settle.specs.declared.deciding.StatusSoFar.TheVariants.{Nothing}
use Rattle.zvt_settle.specs.Settling.{Note, Line, Asked, Settling, Both, sent, ended_as, answer_by, answered, unasked, met, meets, asks, take, new_both, both_after}
use Rattle.zvt_settle.specs.Story.{Chapter, AskedThen, completed_with, closes, registers, asking_in, lines, CanNote, CanSend, IsStoryFrom, SettlingMeetsLog}
use Rattle.zvt_settle.proofs.Chapters.{Sum, Walk, add_if, add_answer, close, hears, an_order, walk, set_out, walk_of, walk-settles, walk-asks}
use Rattle.zvt_settle.proofs.OrderEnds.{Agree}
use Rattle.zvt_settle.proofs.StoryTies.{Fit, TieRun, TieRest, Tie, TieAt, tie-meets}

-- the currency in force is the till's own, or it has not registered yet
abbrev Forced : ℕ → Option ℕ → (registered : Bool) → Option Running → Type 0
Forced own force registered run = (force ≡ Some own) ⊎ ((registered ≡ false) × (run ≡ None))

record Inv (w : Walk) (b : Both) : Type 0 where
  forced : Forced b.till.settings.currency w.force b.till.registered b.till.running
  tie : TieAt w.sum w.chapter b.till b.settling

-- ---- happenings that belong to the last chapter

idle-meets : (t : TillState) (h : Happening) → t.running ≡ None → meet t h ≡ t
idle-meets t h e = ap (λ run. elim run as (λ x. TillState) [ None ↦ t | Some r ↦ meet_running t r h ]) e

met-forced : (t : TillState) (h : Happening) (force : Option ℕ) → Forced t.settings.currency force t.registered t.running → Forced (meet t h).settings.currency force (meet t h).registered (meet t h).running
met-forced t h force (inl e) = inl (e ∙ ap (λ (k : Settings). Some k.currency) (sym (settings-by-running t h t.running)))
met-forced t h force (inr e) = subst (λ (x : TillState). Forced x.settings.currency force x.registered x.running) (sym (idle-meets t h e.1)) (inr e)

down-forced : (own : ℕ) (force : Option ℕ) (g : Bool) (run : Option Running) → Forced own force g run → Forced own force false run
down-forced own force g run (inl e) = inl e
down-forced own force g run (inr e) = inr (refl, e.1)

unasked-quiet : (s : Settling) (run : Option Running) (place : ℕ) → ended_as s (option_map (λ r. r.order) run) (elim run [ None ↦ None | Some r ↦ None ]) place ≡ s
unasked-quiet s None place = refl
unasked-quiet s (Some r) place = refl

met-quiet : (t : TillState) (s : Settling) (h : Happening) (asking : Option Bool) → s.asking ≡ asking → is_positive h ≡ false → ((p : Bool) → ends p h ≡ false)
    → unasked t s h ≡ s → met t s asking h ≡ s
met-quiet t s h None e positive never idle = idle
met-quiet t s h (Some accepted) e positive never idle =
    ap (λ b. cond b (answered t s (answer_by s.so_far h)) (record s { asking = Some (accepted || is_positive h) })) (never accepted)
    ∙ ap (λ b. record s { asking = Some (accepted || b) }) positive
    ∙ ap (λ a. record s { asking = a }) (ap Some (or-false accepted) ∙ sym e)

connected-meets : (t : TillState) (s : Settling) → meets t s Connected ≡ s
connected-meets t s = met-quiet t s Connected s.asking refl refl (λ p. refl) (unasked-quiet s t.running (length t.unclear))

cancel-meets : (t : TillState) (s : Settling) → meets t s (SentOut Cancel) ≡ s
cancel-meets t s = met-quiet t s (SentOut Cancel) s.asking refl refl (λ p. refl) (unasked-quiet s t.running (length t.unclear))

quiet-ties : (sum : Sum) (chapter : Option Chapter) (h : Happening) (t : TillState) (s : Settling) → meet t h ≡ t → meets t s h ≡ s → t.settings.rules.reversal_by_receipt ≡ false
    → TieAt sum chapter t s → TieAt sum (hears chapter (h ∷ [])) t s
quiet-ties sum chapter h t s same stays strict k =
    subst (λ x. TieAt sum (hears chapter (h ∷ [])) x s) same
    (subst (λ x. TieAt sum (hears chapter (h ∷ [])) (meet t h) x) stays (tie-meets sum chapter h t s strict k))

-- ---- orders and asks

-- where neither an order nor an ask runs
at-rest : (settings : Settings) (sum : Sum) (chapter : Option Chapter) (book : List Entry) (loose : List (ℕ × Cause)) (s : Settling) (run : Option Running) (asking : Option Bool)
    → run ≡ None → asking ≡ None → Tie settings sum chapter book loose s run asking → TieRest settings.currency sum chapter book loose s
at-rest settings sum chapter book loose s None None r a k = k
at-rest settings sum chapter book loose s None (Some accepted) r a k = absurd cc
at-rest settings sum chapter book loose s (Some x) asking r a k = absurd cc

rests : (w : Walk) (b : Both) → Inv w b → b.till.running ≡ None → b.settling.asking ≡ None → TieRest b.till.settings.currency w.sum w.chapter b.till.book b.till.unclear b.settling
rests w b i r a = at-rest b.till.settings w.sum w.chapter b.till.book b.till.unclear b.settling b.till.running b.settling.asking r a i.tie

runs : (settings : Settings) (sum : Sum) (force : Option ℕ) (book : List Entry) (loose : List (ℕ × Cause)) (s : Settling) (o : Order)
    → Fit settings.currency force book o → Agree sum book loose s
    → (sent s o).last ≡ cond (closes (sent_as settings.currency o)) None s.last
    → (sent s o).pending ≡ cond (registers (sent_as settings.currency o)) s.pending None
    → (sent s o).settled ≡ s.settled → (sent s o).so_far ≡ Nothing
    → TieRun settings sum (Some (an_order force (sent_as settings.currency o) [])) book loose (sent s o) (fresh o)
runs settings sum force book loose s o fit a last pending settled so_far =
    record {
      force = force;
      answers = [];
      fit = fit;
      is = refl;
      unended = refl;
      positive = refl;
      noted = refl;
      before = record {
        rows = a.rows;
        unclear = a.unclear;
        last = last ∙ ap (λ x. cond (closes (sent_as settings.currency o)) None x) a.last;
        pending = pending ∙ ap (λ x. cond (registers (sent_as settings.currency o)) x None) a.pending;
        settled = settled ∙ a.settled;
        so_far = so_far;
      };
    }

-- who sends an order that needs a registration is registered, and idle
idle-line : (up g : Bool) (own : ℕ) (run : Option Running) (asked : Option OrderRefusal)
    → or_else (cond up (cond g (busy_refusal (option_map (awaited_by own) run)) (Some NotRegistered)) (Some Offline)) asked ≡ None → (g ≡ true) × (run ≡ None)
idle-line true true own None asked e = (refl, refl)
idle-line true true own (Some r) asked e = absurd cc
idle-line true false own run asked e = absurd cc
idle-line false g own run asked e = absurd cc

free-line : (up : Bool) (own : ℕ) (run : Option Running) (asked : Option OrderRefusal)
    → or_else (cond up (busy_refusal (option_map (awaited_by own) run)) (Some Offline)) asked ≡ None → run ≡ None
free-line true own None asked e = refl
free-line true own (Some r) asked e = absurd cc
free-line false own run asked e = absurd cc

own-force : (own : ℕ) (force : Option ℕ) (g : Bool) (run : Option Running) → Forced own force g run → g ≡ true → force ≡ Some own
own-force own force g run (inl e) q = e
own-force own force g run (inr e) q = let no = e.0 in absurd cc

known-row : (row : Option Entry) → row_refusal row ≡ None → (x : Entry) × (row ≡ Some x)
known-row None e = absurd cc
known-row (Some x) e = (x, refl)

or_else-none : (first next : Option OrderRefusal) → or_else first next ≡ None → next ≡ None
or_else-none None next e = e
or_else-none (Some why) next e = absurd cc

idle-order : (b : Both) (asked : Option OrderRefusal)
    → or_else (cond b.till.line_up (cond b.till.registered (busy_refusal (option_map (awaited_by b.till.settings.currency) b.till.running)) (Some NotRegistered)) (Some Offline)) asked ≡ None
    → (b.till.registered ≡ true) × (b.till.running ≡ None)
idle-order b asked e = idle-line b.till.line_up b.till.registered b.till.settings.currency b.till.running asked e

order-ties : (k : Settings) (sum : Sum) (chapter : Option Chapter) (book : List Entry) (loose : List (ℕ × Cause)) (s : Settling) (r : Running) → s.asking ≡ None
    → TieRun k sum chapter book loose s r → Tie k sum chapter book loose s (Some r) s.asking
order-ties k sum chapter book loose s r idle t = subst (λ a. Tie k sum chapter book loose s (Some r) a) (sym idle) t

-- what a note needs, by the state
abbrev Free : Happening → Option Bool → Type 0
Free Connected asking = Unit {0}
Free (SentOut o) asking = asking ≡ None
Free (HeardIn m) asking = Unit {0}
Free Malformed asking = Unit {0}
Free Lost asking = Unit {0}

abbrev CanTake : Both → Note → Type 0
CanTake b (Line h) = CanFollow b.till.settings (facts_of b.till) h × Free h b.settling.asking
CanTake b Asked = (line_refusal (facts_of b.till) CloseDayOrder ≡ None) × (b.settling.asking ≡ None)

registering : (w : Walk) (b : Both) → Inv w b → b.till.running ≡ None → b.settling.asking ≡ None
    → Inv (walk b.till.settings.currency w (Line (SentOut (Register (Some b.till.settings.currency))))) (take b (Line (SentOut (Register (Some b.till.settings.currency)))))
registering w b i r a =
    let k : Settings = b.till.settings in
    let rest = rests w b i r a in
    record {
      forced = inl refl;
      tie =
          order-ties k (close k.currency w) (Some (an_order w.force (Register (Some k.currency)) [])) b.till.book b.till.unclear (sent b.settling RegisterOrder) (fresh RegisterOrder) a
          (runs k (close k.currency w) w.force b.till.book b.till.unclear b.settling RegisterOrder tt rest.agree refl refl refl refl);
    }

take-line : (w : Walk) (b : Both) (h : Happening) → b.till.settings.rules.reversal_by_receipt ≡ false → Inv w b → CanTake b (Line h)
    → Inv (walk b.till.settings.currency w (Line h)) (take b (Line h))
take-line w b Connected strict i k =
    record { forced = i.forced; tie = quiet-ties w.sum w.chapter Connected b.till b.settling (meet-quiet Connected b.till quiet-connected) (connected-meets b.till b.settling) strict i.tie }
take-line w b (SentOut (Register c)) strict i k =
    let own : Register (Some b.till.settings.currency) ≡ Register c = sym k.0.0 in
    subst (λ o. Inv (walk b.till.settings.currency w (Line (SentOut o))) (take b (Line (SentOut o)))) own
    (registering w b i (free-line b.till.line_up b.till.settings.currency b.till.running None k.0.1) k.1)
take-line w b (SentOut (Pay a)) strict i k =
    let settings : Settings = b.till.settings in
    let idle = idle-order b (asked_refusal (facts_of b.till) (PayOrder a)) k.0.1 in
    let force : w.force ≡ Some settings.currency = own-force settings.currency w.force b.till.registered b.till.running i.forced idle.0 in
    let rest = rests w b i idle.1 k.1 in
    record {
      forced = inl force;
      tie =
          order-ties settings (close settings.currency w) (Some (an_order w.force (Pay a) [])) b.till.book b.till.unclear (sent b.settling (PayOrder a)) (fresh (PayOrder a)) k.1
          (runs settings (close settings.currency w) w.force b.till.book b.till.unclear b.settling (PayOrder a) force rest.agree refl refl refl refl);
    }
take-line w b (SentOut (Reverse e)) strict i k =
    let settings : Settings = b.till.settings in
    let f : Facts = facts_of b.till in
    let idle = idle-order b (asked_refusal f (ReverseOrder e)) k.0.1 in
    let force : w.force ≡ Some settings.currency = own-force settings.currency w.force b.till.registered b.till.running i.forced idle.0 in
    let row = known-row (slice_get b.till.book e) (or_else-none (line_refusal f (ReverseOrder e)) (row_refusal (slice_get b.till.book e)) k.0.1) in
    let rest = rests w b i idle.1 k.1 in
    record {
      forced = inl force;
      tie =
          order-ties settings (close settings.currency w) (Some (an_order w.force (Reverse e) [])) b.till.book b.till.unclear (sent b.settling (ReverseOrder e)) (fresh (ReverseOrder e)) k.1
          (runs settings (close settings.currency w) w.force b.till.book b.till.unclear b.settling (ReverseOrder e) (force, row.0, row.1) rest.agree refl refl refl refl);
    }
take-line w b (SentOut CloseDay) strict i k =
    let settings : Settings = b.till.settings in
    let idle = idle-order b None k.0.1 in
    let rest = rests w b i idle.1 k.1 in
    record {
      forced = inl (own-force settings.currency w.force b.till.registered b.till.running i.forced idle.0);
      tie =
          order-ties settings (close settings.currency w) (Some (an_order w.force CloseDay [])) b.till.book b.till.unclear (sent b.settling CloseDayOrder) (fresh CloseDayOrder) k.1
          (runs settings (close settings.currency w) w.force b.till.book b.till.unclear b.settling CloseDayOrder tt rest.agree refl refl refl refl);
    }
take-line w b (SentOut Cancel) strict i k =
    record { forced = i.forced; tie = quiet-ties w.sum w.chapter (SentOut Cancel) b.till b.settling (meet-quiet (SentOut Cancel) b.till quiet-cancel) (cancel-meets b.till b.settling) strict i.tie }
take-line w b (SentOut Foreign) strict i k = absurd k.0
take-line w b (HeardIn m) strict i k =
    let h : Happening = HeardIn m in
    let one : Inv (walk b.till.settings.currency w (Line h)) (record { till = meet b.till h; settling = meets b.till b.settling h }) =
    record { forced = met-forced b.till h w.force i.forced; tie = tie-meets w.sum w.chapter h b.till b.settling strict i.tie } in
    subst (λ up. Inv (walk b.till.settings.currency w (Line h)) (record { till = cond up (meet b.till h) b.till; settling = cond up (meets b.till b.settling h) b.settling })) (sym k.0) one
take-line w b Malformed strict i k =
    record {
      forced = down-forced (meet b.till Malformed).settings.currency w.force (meet b.till Malformed).registered (meet b.till Malformed).running (met-forced b.till Malformed w.force i.forced);
      tie = tie-meets w.sum w.chapter Malformed b.till b.settling strict i.tie;
    }
take-line w b Lost strict i k =
    record {
      forced = down-forced (meet b.till Lost).settings.currency w.force (meet b.till Lost).registered (meet b.till Lost).running (met-forced b.till Lost w.force i.forced);
      tie = tie-meets w.sum w.chapter Lost b.till b.settling strict i.tie;
    }

take-ask : (w : Walk) (b : Both) → Inv w b → CanTake b Asked → Inv (walk b.till.settings.currency w Asked) (take b Asked)
take-ask w b i k =
    let settings : Settings = b.till.settings in
    let idle = idle-order b None (or_else-of (line_refusal (facts_of b.till) CloseDayOrder) k.0) in
    let rest = rests w b i idle.1 k.1 in
    let a = rest.agree in
    record {
      forced = i.forced;
      tie =
          subst (λ run. Tie settings (close settings.currency w) (Some (AskedThen [])) b.till.book b.till.unclear (asks b.settling) run (Some false)) (sym idle.1)
          (record {
            answers = [];
            is = refl;
            unended = refl;
            positive = refl;
            so_far = refl;
            agree = record { rows = a.rows; unclear = a.unclear; last = a.last; pending = a.pending; settled = a.settled };
          });
    }
  where
    or_else-of : (first : Option OrderRefusal) → first ≡ None → or_else first None ≡ None
    or_else-of None e = refl
    or_else-of (Some why) e = absurd cc

take-note : (w : Walk) (b : Both) (n : Note) → b.till.settings.rules.reversal_by_receipt ≡ false → Inv w b → CanTake b n → Inv (walk b.till.settings.currency w n) (take b n)
take-note w b (Line h) strict i k = take-line w b h strict i k
take-note w b Asked strict i k = take-ask w b i k

-- ---- what the log says of the state

open-ask : (currency : ℕ) (s : Sum) (answers : List Happening) → end_of answers ≡ None → add_if currency s (Some (AskedThen answers)) ≡ add_answer currency s true None
open-ask currency s answers e = ap (λ end. add_answer currency s (elim end [ None ↦ true | Some x ↦ false ]) (completed_with end)) e

asks-open : (w : Walk) (b : Both) (k : Settings) (run : Option Running) (asking : Option Bool) → Tie k w.sum w.chapter b.till.book b.till.unclear b.settling run asking
    → (close k.currency w).asks ≡ false → asking ≡ None
asks-open w b k run None t e = refl
asks-open w b k None (Some accepted) t e =
    let yes : (close k.currency w).asks ≡ true = ap (λ c. (add_if k.currency w.sum c).asks) t.is ∙ ap (λ s. s.asks) (open-ask k.currency w.sum t.answers t.unended) in
    let no : true ≡ false = sym yes ∙ e in absurd cc
asks-open w b k (Some r) (Some accepted) t e = absurd t

settled-by : (w : Walk) (b : Both) (k : Settings) (run : Option Running) (asking : Option Bool) → Tie k w.sum w.chapter b.till.book b.till.unclear b.settling run asking
    → b.settling.settled ≡ (close k.currency w).settled
settled-by w b k None None t = t.agree.settled
settled-by w b k None (Some accepted) t =
    t.agree.settled ∙ sym (ap (λ c. (add_if k.currency w.sum c).settled) t.is ∙ ap (λ s. s.settled) (open-ask k.currency w.sum t.answers t.unended))
settled-by w b k (Some r) None t = t.before.settled ∙ sym (ap (λ c. (add_if k.currency w.sum c).settled) t.is)
settled-by w b k (Some r) (Some accepted) t = absurd t

free-note : (settings : Settings) (past : List Note) (b : Both) (h : Happening) → (asking_in past ≡ false → b.settling.asking ≡ None) → CanSend past h → Free h b.settling.asking
free-note settings past b Connected idle k = tt
free-note settings past b (SentOut o) idle k = idle k
free-note settings past b (HeardIn m) idle k = tt
free-note settings past b Malformed idle k = tt
free-note settings past b Lost idle k = tt

lines-append : (xs ys : List Note) → lines (xs ++ ys) ≡ lines xs ++ lines ys
lines-append [] ys = refl
lines-append (Line h ∷ xs) ys = ap (λ hs. h ∷ hs) (lines-append xs ys)
lines-append (Asked ∷ xs) ys = lines-append xs ys

till-inside : (b : Both) (notes : List Note) → (fold take b notes).till ≡ fold step b.till (lines notes)
till-inside b [] = refl
till-inside b (Line h ∷ notes) = till-inside (take b (Line h)) notes
till-inside b (Asked ∷ notes) = till-inside (take b Asked) notes

-- what a log has to say of the state after it
record Reached (settings : Settings) (past : List Note) : Type 0 where
  allowed : IsLog settings (lines past)
  inv : Inv (walk_of settings.currency past) (both_after settings past)

till-after : (settings : Settings) (past : List Note) → (both_after settings past).till ≡ state_after settings (lines past)
till-after settings past = till-inside (new_both settings) past

settings-after : (settings : Settings) (past : List Note) → (both_after settings past).till.settings ≡ settings
settings-after settings past = ap (λ t. t.settings) (till-after settings past) ∙ settings-kept settings (lines past)

facts-after : (settings : Settings) (past : List Note) → IsLog settings (lines past) → facts_of (both_after settings past).till ≡ facts_in settings.rules (lines past)
facts-after settings past k = ap facts_of (till-after settings past) ∙ steps_meet_log settings (lines past) k

idle-after : (settings : Settings) (past : List Note) → Reached settings past → asking_in past ≡ false → (both_after settings past).settling.asking ≡ None
idle-after settings past r e =
    let b : Both = both_after settings past in
    let w : Walk = walk_of settings.currency past in
    let closed : (close b.till.settings.currency w).asks ≡ false = ap (λ (k : Settings). (close k.currency w).asks) (settings-after settings past) ∙ walk-asks settings.currency past ∙ e in
    asks-open w b b.till.settings b.till.running b.settling.asking r.inv.tie closed

can-take : (settings : Settings) (past : List Note) (n : Note) → Reached settings past → CanNote settings past n → CanTake (both_after settings past) n
can-take settings past (Line h) r k = (
  subst (λ (f : Facts). CanFollow (both_after settings past).till.settings f h) (sym (facts-after settings past r.allowed))
      (subst (λ (x : Settings). CanFollow x (facts_in settings.rules (lines past)) h) (sym (settings-after settings past)) k.0),
  free-note settings past (both_after settings past) h (idle-after settings past r) k.1,
)
can-take settings past Asked r k = (ap (λ f. line_refusal f CloseDayOrder) (facts-after settings past r.allowed) ∙ k.0, idle-after settings past r k.1)

still-allowed : (settings : Settings) (past : List Note) (n : Note) → IsLog settings (lines past) → CanNote settings past n → IsLog settings (lines (past ++ n ∷ []))
still-allowed settings past (Line h) a k = subst (IsLog settings) (sym (lines-append past (Line h ∷ []))) (is_log-snoc settings [] (lines past) h a k.0)
still-allowed settings past Asked a k = subst (IsLog settings) (sym (lines-append past (Asked ∷ []) ∙ append-nil (lines past))) a

reach : (settings : Settings) (past : List Note) (n : Note) → settings.rules.reversal_by_receipt ≡ false → Reached settings past → CanNote settings past n → Reached settings (past ++ n ∷ [])
reach settings past n strict r k =
    let b : Both = both_after settings past in
    let same : b.till.settings ≡ settings = settings-after settings past in
    let step : Inv (walk b.till.settings.currency (walk_of settings.currency past) n) (take b n) =
    take-note (walk_of settings.currency past) b n (ap (λ (x : Settings). x.rules.reversal_by_receipt) same ∙ strict) r.inv (can-take settings past n r k) in
    record {
      allowed = still-allowed settings past n r.allowed k;
      inv =
          subst (λ w. Inv w (both_after settings (past ++ n ∷ []))) (sym (fold-snoc (walk settings.currency) set_out past n))
          (subst (λ x. Inv (walk settings.currency (walk_of settings.currency past) n) x) (sym (fold-snoc take (new_both settings) past n))
          (subst (λ (x : Settings). Inv (walk x.currency (walk_of settings.currency past) n) (take b n)) same step));
    }

reach-all : (settings : Settings) (past more : List Note) → settings.rules.reversal_by_receipt ≡ false → Reached settings past → IsStoryFrom settings past more → Reached settings (past ++ more)
reach-all settings past [] strict r k = subst (Reached settings) (sym (append-nil past)) r
reach-all settings past (n ∷ more) strict r k =
    subst (Reached settings) (append_assoc past (n ∷ []) more) (reach-all settings (past ++ n ∷ []) more strict (reach settings past n strict r k.0) k.1)

at-first : (settings : Settings) → Reached settings []
at-first settings =
    record {
      allowed = tt;
      inv = record { forced = inr (refl, refl); tie = record { over = tt; agree = record { rows = refl; unclear = refl; last = refl; pending = refl; settled = refl } } };
    }

pub settling_meets_log : SettlingMeetsLog
settling_meets_log settings notes strict k =
    let b : Both = both_after settings notes in
    let w : Walk = walk_of settings.currency notes in
    let r = reach-all settings [] notes strict (at-first settings) k in
    settled-by w b b.till.settings b.till.running b.settling.asking r.inv.tie
    ∙ ap (λ (x : Settings). (close x.currency w).settled) (settings-after settings notes)
    ∙ walk-settles settings.currency notes
