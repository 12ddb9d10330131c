-- The state that the steps reach is what the log says: each kind of step, and the induction.
use Rattle.std.proofs.Common.{◌≡◌, ℕ, ◌<◌, Bool, true, false, cond, List, [], ◌∷◌, ◌++◌, length, Option, Some, None, fold, refl, sym, ap, ap₂, subst, ◌∙◌, ◌⊎◌, inl, inr, arith, append-nil, append_assoc, slice_get, option_map}
use Rattle.std.proofs.lemmas.Option.{slice_get_within}
use Rattle.zvt_till.specs.declared.happenings.Happening.{Happening}
use Rattle.zvt_till.specs.declared.happenings.Happening.TheVariants.{Connected, Sent as SentOut, Heard as HeardIn, Malformed, Lost}
use Rattle.zvt_till.specs.declared.happenings.Sent.TheVariants.{Register, Pay, Reverse, CloseDay, Cancel, Foreign}
use Rattle.zvt_till.specs.declared.orders.Order.{Order}
use Rattle.zvt_till.specs.declared.orders.Order.TheVariants.{Register as RegisterOrder, Pay as PayOrder, Reverse as ReverseOrder, CloseDay as CloseDayOrder}
use Rattle.zvt_till.specs.declared.orders.OrderRefusal.{OrderRefusal}
use Rattle.zvt_till.specs.declared.orders.OrderRefusal.TheVariants.{Offline, NotRegistered}
use Rattle.zvt_till.specs.declared.statuses.Running.{Running}
use Rattle.zvt_till.specs.declared.entries.Entry.{Entry}
use Rattle.zvt_till.specs.declared.outcomes.Cause.{Cause}
use Rattle.zvt_till.specs.declared.outcomes.Outcome.{Outcome}
use Rattle.zvt_till.specs.Segments.{Opening, Segment, begun, force_by, force_after, in_force, segments, ends}
use Rattle.zvt_till.specs.Marks.{entries_of, opened_after, add_segment, ruled}
use Rattle.zvt_till.specs.Till.{TillState, new_till, finish, meet, fresh, step, state_after, awaited_by, facts_of}
use Rattle.zvt_till.specs.Outcomes.{demand_of, outcome_by, listened}
use Rattle.zvt_till.specs.Refusals.{sent_as, Awaited, Facts, refusal, busy_refusal, idle_refusal, line_refusal, asked_refusal, row_refusal, or_else}
use Rattle.zvt_till.specs.Sending.{Settings}
use Rattle.zvt_till.specs.Log.{line_after, line_up, registered_by, registered_of, awaited_by_end, awaited_of, facts_in_segments, facts_in, CanFollow, IsLogFrom, IsLog, StepsMeetLog}
use Rattle.zvt_till.specs.declared.settings.Rules.{Rules}
use Rattle.zvt_till.proofs.Segments.{heard_last, fold-snoc}
use Rattle.zvt_till.proofs.Ruled.{grown_by, ruled-none, ruled-snoc}
use Rattle.zvt_till.proofs.Marks.{IsPlaced, Placed, Placed-snoc, mark-length}
use Rattle.zvt_till.proofs.SegmentEndLemmas.{seg, opened, begun_by, rows, rows-open, loose-open, entries-open, awaited-snoc}
use Rattle.zvt_till.proofs.LogStateLemmas.{TiedTo, Core, CoreAt, state, core-meet, core-quiet, quiet-connected, quiet-cancel}
use Rattle.zvt_till.proofs.Registrations.{registered-snoc, registered-break, registered-meet, registered-quiet, Unregistered, unregistered, unregistered-heard}
use Rattle.zvt_till.proofs.BookStepLemmas.{settings-by-running, settings-step}

line-met-running : (s : TillState) (r : Running) (h : Happening) (b : Bool)
    → (cond b (finish s r.order (outcome_by s.book r.order r.statuses h)) (record s { running = Some (listened (demand_of s.settings.rules (Some s.settings.currency) s.book s.unclear r.order) r h) })).line_up ≡ s.line_up
line-met-running s r h true = refl
line-met-running s r h false = refl

line-met-by : (h : Happening) (k : Settings) (up g : Bool) (run : Option Running) (es : List Entry) (u : List (ℕ × Cause)) (last : Option Outcome)
    → (meet (state k up g run es u last) h).line_up ≡ up
line-met-by h k up g None es u last = refl
line-met-by h k up g (Some r) es u last = line-met-running (state k up g (Some r) es u last) r h (ends r.positive h)

line-met : (s : TillState) (h : Happening) → (meet s h).line_up ≡ s.line_up
line-met s h = line-met-by h s.settings s.line_up s.registered s.running s.book s.unclear s.last_outcome

-- one more happening

-- the currency in force is the till's own, once it has sent a registration
abbrev Forced : ℕ → Option ℕ → List Segment → Type 0
Forced own force ss = (force ≡ Some own) ⊎ Unregistered ss

pub record Inv (up : Bool) (force : Option ℕ) (ss : List Segment) (s : TillState) : Type 0 where
  pub line : s.line_up ≡ up
  pub registered : s.registered ≡ registered_of ss
  pub core : CoreAt ss s
  pub forced : Forced s.settings.currency force ss

forced-heard : (own : ℕ) (force : Option ℕ) (ss : List Segment) (h : Happening) → Forced own force ss → Forced own force (heard_last ss h)
forced-heard own force ss h (inl e) = inl e
forced-heard own force ss h (inr u) = inr (unregistered-heard ss h u)

forced-met : (force : Option ℕ) (ss : List Segment) (s : TillState) (h : Happening) → Forced s.settings.currency force ss → Forced (meet s h).settings.currency force (heard_last ss h)
forced-met force ss s h f =
    subst (λ (k : Settings). Forced k.currency force (heard_last ss h)) (sym (settings-by-running s h s.running)) (forced-heard s.settings.currency force ss h f)

-- who is registered is registered under the till's own currency
in-force : (own : ℕ) (force : Option ℕ) (ss : List Segment) → Forced own force ss → registered_of ss ≡ true → force ≡ Some own
in-force own force ss (inl e) g = e
in-force own force ss (inr u) g = let none = unregistered ss u in absurd cc

needs-registration : (up g : Bool) (busy asked : Option OrderRefusal) → or_else (cond up (cond g busy (Some NotRegistered)) (Some Offline)) asked ≡ None → g ≡ true
needs-registration true true busy asked e = refl
needs-registration true false busy asked e = absurd cc
needs-registration false g busy asked e = absurd cc

-- under which an order is sent that needs a registration
forced-by : (up : Bool) (force : Option ℕ) (ss : List Segment) (s : TillState) (asked : Option OrderRefusal) → Inv up force ss s
    → or_else (cond up (idle_refusal (facts_in_segments up ss)) (Some Offline)) asked ≡ None → force ≡ Some s.settings.currency
forced-by up force ss s asked i e =
    in-force s.settings.currency force ss i.forced (needs-registration up (registered_of ss) (busy_refusal (awaited_of ss)) asked e)

-- an order that begins a segment

core-order : (force : Option ℕ) (ss : List Segment) (s : TillState) (o : Order) → CoreAt ss s → IsPlaced (length (rows ss)) (sent_as s.settings.currency o)
    → ((book : List Entry) (unclear : List (ℕ × Cause)) → demand_of s.settings.rules (Some s.settings.currency) book unclear o ≡ demand_of s.settings.rules force book unclear o)
    → Core s.settings.rules s.settings.currency (ss ++ seg (opened s.settings.rules.reversal_by_receipt ss s.settings.currency force o) [] ∷ []) s.book s.unclear (Some (fresh o))
core-order force ss s o c here forced =
    let opening : Opening = opened s.settings.rules.reversal_by_receipt ss s.settings.currency force o in
    record {
      book = c.book ∙ sym (entries-open ss opening [] refl);
      unclear = c.unclear ∙ sym (loose-open ss opening [] refl);
      placed =
          subst (λ n. Placed n (ss ++ seg opening [] ∷ [])) (ap (λ x. length x) (sym (rows-open ss opening [] refl)))
          (Placed-snoc (length (rows ss)) ss (seg opening []) c.placed here);
      tied = record { closed = ss; answers = []; force = force; forced = forced; is = refl; unended = refl; unbroken = refl; positive = refl; statuses = refl };
    }

registered-order : (ss : List Segment) (o : Opening) → registered_of (ss ++ seg o [] ∷ []) ≡ registered_by (registered_of ss) o None
registered-order ss o = registered-snoc ss o [] None false refl refl

-- a row that nothing refuses to take back is in the book
known-row : (row : Option Entry) → row_refusal row ≡ None → (x : Entry) × (row ≡ Some x)
known-row None e = absurd cc
known-row (Some x) e = (x, refl)

or_else-none : (first next : Option OrderRefusal) → or_else first next ≡ None → next ≡ None
or_else-none None next e = e
or_else-none (Some why) next e = absurd cc

placed-reversal : (up : Bool) (ss : List Segment) (e : ℕ) → refusal (facts_in_segments up ss) (ReverseOrder e) ≡ None → e < length (rows ss)
placed-reversal up ss e q =
    let f = facts_in_segments up ss in
    let w = known-row (slice_get (entries_of ss) e) (or_else-none (line_refusal f (ReverseOrder e)) (row_refusal (slice_get (entries_of ss) e)) q) in
    let lt : e < length (entries_of ss) = slice_get_within (entries_of ss) e w.0 w.1 in
    omega (arith, mark-length ss 0 (rows ss))

same-demand : (rules : Rules) (own : ℕ) (force : Option ℕ) (o : Order) → force ≡ Some own → (book : List Entry) (unclear : List (ℕ × Cause)) → demand_of rules (Some own) book unclear o ≡ demand_of rules force book unclear o
same-demand rules own force o e book unclear = ap (λ c. demand_of rules c book unclear o) (sym e)

-- a registration brings its currency into force
registers : (up : Bool) (force : Option ℕ) (ss : List Segment) (s : TillState) → Inv up force ss s
    → Inv up (Some s.settings.currency) (ss ++ seg (opened s.settings.rules.reversal_by_receipt ss s.settings.currency force RegisterOrder) [] ∷ []) (step s (SentOut (Register (Some s.settings.currency))))
registers up force ss s i =
    record {
      line = i.line;
      registered = sym (registered-order ss (opened s.settings.rules.reversal_by_receipt ss s.settings.currency force RegisterOrder));
      core = core-order force ss s RegisterOrder i.core tt (λ book unclear. refl);
      forced = inl refl;
    }

grow : (up : Bool) (force : Option ℕ) (ss : List Segment) (s : TillState) (h : Happening) → Inv up force ss s → CanFollow s.settings (facts_in_segments up ss) h
    → Inv (line_after up h) (force_after force h) (grown_by s.settings.rules.reversal_by_receipt force ss h (begun h)) (step s h)
grow up force ss s Connected i k =
    record {
      line = refl;
      registered = registered-quiet ss Connected s quiet-connected refl i.registered i.core.tied;
      core = core-quiet ss Connected s quiet-connected i.core;
      forced = forced-heard s.settings.currency force ss Connected i.forced;
    }
grow up force ss s (SentOut (Register c)) i k =
    let own : Register (Some s.settings.currency) ≡ Register c = sym k.0 in
    subst (λ o. Inv up (force_by force o) (add_segment s.settings.rules.reversal_by_receipt ss (seg (begun_by force o) [])) (step s (SentOut o))) own (registers up force ss s i)
grow up force ss s (SentOut (Pay a)) i k =
    let e = forced-by up force ss s (asked_refusal (facts_in_segments up ss) (PayOrder a)) i k.1 in
    record {
      line = i.line;
      registered = i.registered ∙ sym (registered-order ss (begun_by force (Pay a)));
      core = core-order force ss s (PayOrder a) i.core tt (same-demand s.settings.rules s.settings.currency force (PayOrder a) e);
      forced = inl e;
    }
grow up force ss s (SentOut (Reverse n)) i k =
    let e = forced-by up force ss s (asked_refusal (facts_in_segments up ss) (ReverseOrder n)) i k.1 in
    record {
      line = i.line;
      registered = i.registered ∙ sym (registered-order ss (opened_after s.settings.rules.reversal_by_receipt ss (begun_by force (Reverse n))));
      core = core-order force ss s (ReverseOrder n) i.core (placed-reversal up ss n k.1) (same-demand s.settings.rules s.settings.currency force (ReverseOrder n) e);
      forced = inl e;
    }
grow up force ss s (SentOut CloseDay) i k =
    record {
      line = i.line;
      registered = i.registered ∙ sym (registered-order ss (begun_by force CloseDay));
      core = core-order force ss s CloseDayOrder i.core tt (λ book unclear. refl);
      forced = inl (forced-by up force ss s None i k.1);
    }
grow up force ss s (SentOut Cancel) i k =
    record {
      line = i.line;
      registered = registered-quiet ss (SentOut Cancel) s quiet-cancel refl i.registered i.core.tied;
      core = core-quiet ss (SentOut Cancel) s quiet-cancel i.core;
      forced = forced-heard s.settings.currency force ss (SentOut Cancel) i.forced;
    }
grow up force ss s (SentOut Foreign) i k = absurd k
grow up force ss s (HeardIn m) i k =
    let met : Inv up force (heard_last ss (HeardIn m)) (meet s (HeardIn m)) =
    record {
      line = line-met s (HeardIn m) ∙ i.line;
      registered = registered-meet ss (HeardIn m) s refl i.registered i.core.tied;
      core = core-meet ss (HeardIn m) s i.core;
      forced = forced-met force ss s (HeardIn m) i.forced;
    } in
    subst (λ b. Inv up force (heard_last ss (HeardIn m)) (cond b (meet s (HeardIn m)) s)) (sym (i.line ∙ k)) met
grow up force ss s Malformed i k =
    record { line = refl; registered = sym (registered-break ss Malformed refl); core = core-meet ss Malformed s i.core; forced = forced-met force ss s Malformed i.forced }
grow up force ss s Lost i k =
    record { line = refl; registered = sym (registered-break ss Lost refl); core = core-meet ss Lost s i.core; forced = forced-met force ss s Lost i.forced }

-- the whole log

abbrev InvOf : Settings → List Happening → TillState → Type 0
InvOf settings log s = Inv (line_up log) (in_force log) (ruled settings.rules.reversal_by_receipt (segments log)) s

inv-after : (settings : Settings) (log more : List Happening) (s : TillState) → s.settings ≡ settings → InvOf settings log s → IsLogFrom settings log more → InvOf settings (log ++ more) (fold step s more)
inv-after settings log [] s e i k = subst (λ x. InvOf settings x s) (sym (append-nil log)) i
inv-after settings log (h ∷ more) s e i k =
    let by_receipt : Bool = settings.rules.reversal_by_receipt in
    let ss : List Segment = ruled by_receipt (segments log) in
    let can : CanFollow s.settings (facts_in settings.rules log) h = subst (λ x. CanFollow x (facts_in settings.rules log) h) (sym e) k.0 in
    let grew : Inv (line_after (line_up log) h) (force_after (in_force log) h) (grown_by by_receipt (in_force log) ss h (begun h)) (step s h) =
    subst (λ (x : Settings). Inv (line_after (line_up log) h) (force_after (in_force log) h) (grown_by x.rules.reversal_by_receipt (in_force log) ss h (begun h)) (step s h)) e
    (grow (line_up log) (in_force log) ss s h i can) in
    let one : InvOf settings (log ++ h ∷ []) (step s h) =
    subst (λ b. Inv b (in_force (log ++ h ∷ [])) (ruled by_receipt (segments (log ++ h ∷ []))) (step s h)) (sym (fold-snoc line_after false log h))
    (subst (λ c. Inv (line_after (line_up log) h) c (ruled by_receipt (segments (log ++ h ∷ []))) (step s h)) (sym (fold-snoc force_after None log h))
    (subst (λ x. Inv (line_after (line_up log) h) (force_after (in_force log) h) x (step s h)) (sym (ruled-snoc by_receipt log h)) grew)) in
    subst (λ x. InvOf settings x (fold step (step s h) more)) (append_assoc log (h ∷ []) more)
    (inv-after settings (log ++ h ∷ []) more (step s h) (settings-step s h ∙ e) one k.1)

inv-new : (settings : Settings) → InvOf settings [] (new_till settings)
inv-new settings =
    subst (λ ss. Inv false None ss (new_till settings)) (sym (ruled-none settings.rules.reversal_by_receipt))
    (record { line = refl; registered = refl; core = record { book = refl; unclear = refl; placed = tt; tied = refl }; forced = inr tt })

inv-log : (settings : Settings) (log : List Happening) → IsLog settings log → InvOf settings log (state_after settings log)
inv-log settings log k = inv-after settings [] log (new_till settings) refl (inv-new settings) k

-- what the till awaits

awaited-tied : (rules : Rules) (own : ℕ) (ss : List Segment) (book : List Entry) (unclear : List (ℕ × Cause)) (run : Option Running) → TiedTo rules own ss book unclear run → option_map (awaited_by own) run ≡ awaited_of ss
awaited-tied rules own ss book unclear None t = sym t
awaited-tied rules own ss book unclear (Some r) t =
    let last = seg (opened rules.reversal_by_receipt t.closed own t.force r.order) t.answers in
    ap (λ p. Some (record { order = sent_as own r.order; positive = p })) t.positive
    ∙ sym (ap awaited_of t.is ∙ awaited-snoc t.closed last ∙ ap (awaited_by_end last) t.unended)

abbrev pub facts_by : Bool → Bool → Option Awaited → List Entry → List (ℕ × Cause) → Facts
facts_by up g awaited book unclear = record { line_up = up; registered = g; awaited = awaited; book = book; unclear = unclear }

facts-tied : (up : Bool) (force : Option ℕ) (ss : List Segment) (s : TillState) → Inv up force ss s → facts_of s ≡ facts_in_segments up ss
facts-tied up force ss s i =
    ap₂ (λ a b. facts_by a b (option_map (awaited_by s.settings.currency) s.running) s.book s.unclear) i.line i.registered
    ∙ ap₂ (λ a b. facts_by up (registered_of ss) a b s.unclear) (awaited-tied s.settings.rules s.settings.currency ss s.book s.unclear s.running i.core.tied) i.core.book
    ∙ ap (λ u. facts_by up (registered_of ss) (awaited_of ss) (entries_of ss) u) i.core.unclear

pub steps_meet_log : StepsMeetLog
steps_meet_log settings log k = facts-tied (line_up log) (in_force log) (ruled settings.rules.reversal_by_receipt (segments log)) (state_after settings log) (inv-log settings log k)
