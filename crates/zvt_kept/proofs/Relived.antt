-- A till that lives through one record again.
use Rattle.std.proofs.Common.{◌≡◌, ℕ, Bool, true, false, cond, List, [], ◌∷◌, ◌++◌, length, Option, Some, None, refl, sym, ap, subst, ◌∙◌, append_assoc, arith}
use mathlib.Core.HLevel.{⊥_prop}
use Rattle.std.proofs.Math.Logic.{∥∥₁_elim}
use Rattle.std.proofs.lemmas.List.{append-nil, take_all}
use Rattle.zvt_grammar.specs.Reading.{padded}
use Rattle.zvt_grammar.specs.declared.answer.Scan.{Scan}
use Rattle.zvt_grammar.specs.declared.answer.Scan.TheVariants.{Whole, More, Refused}
use Rattle.zvt_apdu.specs.Message.{Message}
use Rattle.zvt_apdu.specs.Grammar.{Spells}
use Rattle.zvt_apdu.specs.Judging.{Answers, Found}
use Rattle.zvt_apdu.proofs.LawLemmas.{spellings_are_read}
use Rattle.zvt_till.specs.declared.happenings.Happening.{Happening}
use Rattle.zvt_till.specs.declared.happenings.Happening.TheVariants.{Connected, Sent as SentOut, Lost}
use Rattle.zvt_till.specs.declared.orders.Order.{Order}
use Rattle.zvt_till.specs.declared.orders.Order.TheVariants.{Register, Pay, Reverse, CloseDay, Cancel}
use Rattle.zvt_till.specs.declared.orders.OrderRefusal.{OrderRefusal}
use Rattle.zvt_till.specs.Events.{hears}
use Rattle.zvt_till.specs.Log.{CanFollow, IsLog, IsLogFrom, facts_in}
use Rattle.zvt_till.specs.Refusals.{Facts, refusal, sent_as}
use Rattle.zvt_till.specs.declared.statuses.Running.{Running}
use Rattle.zvt_till.specs.Outcomes.{demand_of, listened, outcome_by}
use Rattle.zvt_till.specs.Segments.{ends}
use Rattle.zvt_till.specs.Sending.{Settings}
use Rattle.zvt_till.specs.Till.{TillState, accept, facts_of, finish, meet, step}
use Rattle.zvt_till.specs.TillHistory.{Stands}
use Rattle.zvt_till.proofs.Runs.{step-order}
use Rattle.zvt_till.proofs.Steps.{steps_meet_log}
use Rattle.zvt_till.proofs.TillHistoryLemmas.{stands-more}
use Rattle.zvt_kept.specs.Records.{ordered, asked, heard, lost}
use Rattle.zvt_kept.specs.Recovery.{Relives}
use Rattle.zvt_kept.proofs.Steps.{heard_follows, order_follows}

-- ---- logs

last_follows : (settings : Settings) (past log : List Happening) (h : Happening) → IsLogFrom settings past (log ++ h ∷ []) → CanFollow settings (facts_in settings.rules (past ++ log)) h
last_follows settings past [] h k = subst (λ l. CanFollow settings (facts_in settings.rules l) h) (sym (append-nil past)) k.0
last_follows settings past (g ∷ log) h k = subst (λ l. CanFollow settings (facts_in settings.rules l) h) (append_assoc past (g ∷ []) log) (last_follows settings (past ++ g ∷ []) log h k.1)

pub prefix_from : (settings : Settings) (past log more : List Happening) → IsLogFrom settings past (log ++ more) → IsLogFrom settings past log
prefix_from settings past [] more k = tt
prefix_from settings past (g ∷ log) more k = (k.0, prefix_from settings (past ++ g ∷ []) log more k.1)

-- ---- an order

not_refused : (settings : Settings) (f : Facts) (order : Order) → CanFollow settings f (SentOut (sent_as settings.currency order)) → refusal f order ≡ None
not_refused settings f Register c = c.1
not_refused settings f (Pay amount) c = c.1
not_refused settings f (Reverse entry) c = c.1
not_refused settings f CloseDay c = c.1
not_refused settings f Cancel c = c.1

some_is_none : (why : OrderRefusal) (found : Option OrderRefusal) → found ≡ Some why → found ≡ None → ⊥
some_is_none why None is none = absurd cc
some_is_none why (Some other) is none = absurd cc

pub order_refused : (order : Order) (note : List ℕ) (old new : TillState) (why : OrderRefusal) → refusal (facts_of old) order ≡ Some why → Relives false (ordered order note) old new
order_refused order note old new why is settings log happened t happens k =
    let sent : IsLog settings (log ++ SentOut (sent_as settings.currency order) ∷ []) = subst (λ l. IsLog settings (log ++ l)) happens k in
    let none : refusal (facts_in settings.rules log) order ≡ None = not_refused settings (facts_in settings.rules log) order (last_follows settings [] log (SentOut (sent_as settings.currency order)) sent) in
    some_is_none why (refusal (facts_in settings.rules log) order) (ap (λ f. refusal f order) (sym (ap facts_of t.1 ∙ steps_meet_log settings log t.0)) ∙ is) none

pub order_taken : (order : Order) (note : List ℕ) (old new : TillState) → refusal (facts_of old) order ≡ None → new ≡ accept old order → Relives true (ordered order note) old new
order_taken order note old new none is settings log t up =
    let sent = SentOut (sent_as settings.currency order) in
    let more = stands-more settings log old sent t (order_follows order old none settings log t) in
    (sent ∷ [], refl, subst (λ s. Stands settings (log ++ sent ∷ []) s) (step-order settings.currency old order ∙ sym is) more, ap (λ s. s.line_up) is ∙ stays order)
  where
    stays : (order : Order) → (accept old order).line_up ≡ true
    stays Register = up
    stays (Pay amount) = up
    stays (Reverse entry) = up
    stays CloseDay = up
    stays Cancel = up

-- ---- an ask

pub ask_passes : (note : List ℕ) (state : TillState) → Relives true (asked note) state state
ask_passes note state settings log t up = ([], refl, subst (λ l. Stands settings l state) (sym (append-nil log)) t, up)

-- ---- a message

either_line : (b : Bool) (x y : TillState) (up : Bool) → x.line_up ≡ up → y.line_up ≡ up → (cond b x y).line_up ≡ up
either_line true x y up p q = p
either_line false x y up p q = q

-- what is heard leaves the line as it is
running_line : (s : TillState) (running : Option Running) (h : Happening) → s.running ≡ running → (meet s h).line_up ≡ s.line_up
running_line s None h none = rw none refl
running_line s (Some r) h is =
    rw is (either_line (ends r.positive h) (finish s r.order (outcome_by s.book r.order r.statuses h)) (record s { running = Some (listened (demand_of s.settings.rules (Some s.settings.currency) s.book s.unclear r.order) r h) }) s.line_up refl refl)

if_up : (up : Bool) (x y : TillState) → up ≡ true → cond up x y ≡ x
if_up true x y is = refl
if_up false x y is = absurd cc

pub heard_up : (s : TillState) (message : Message) → s.line_up ≡ true → (step s (hears message)).line_up ≡ true
heard_up s message up = ap (λ t. t.line_up) (if_up s.line_up (meet s (hears message)) s up) ∙ running_line s s.running (hears message) refl ∙ up

pub whole_spells : (message : Message) (size : ℕ) (bytes : List ℕ) → size ≡ length bytes → Found padded bytes message size → Spells padded message bytes
whole_spells message size bytes is found = subst (Spells padded message) (take_all size bytes (omega (arith, is))) found.spelled

pub message_heard : (message : Message) (size : ℕ) (bytes : List ℕ) (answer : Scan (Message × ℕ)) (old new : TillState) → Answers padded bytes answer → answer ≡ Whole (message, size) → size ≡ length bytes
    → new ≡ step old (hears message) → Relives true (heard bytes) old new
message_heard message size bytes answer old new a whole fits is settings log t up = (
  hears message ∷ [],
  (message, ∣ whole_spells message size bytes fits (subst (Answers padded bytes) whole a) ∣₁, refl),
  subst (λ s. Stands settings (log ++ hears message ∷ []) s) (sym is) (stands-more settings log old (hears message) t (heard_follows old up settings log t)),
  ap (λ s. s.line_up) is ∙ heard_up old message up,
)

-- ---- a lost line

pub line_lost : (old middle new : TillState) → middle ≡ step old Lost → new ≡ step middle Connected → Relives true lost old new
line_lost old middle new gone back settings log t up =
    let down : Stands settings (log ++ Lost ∷ []) (step old Lost) = stands-more settings log old Lost t tt in
    let again : Stands settings ((log ++ Lost ∷ []) ++ Connected ∷ []) (step (step old Lost) Connected) = stands-more settings (log ++ Lost ∷ []) (step old Lost) Connected down tt in
    let same : new ≡ step (step old Lost) Connected = back ∙ ap (λ s. step s Connected) gone in
    (Lost ∷ Connected ∷ [], refl, subst (λ s. Stands settings (log ++ Lost ∷ Connected ∷ []) s) (sym same) (subst (λ l. Stands settings l (step (step old Lost) Connected)) (append_assoc log (Lost ∷ []) (Connected ∷ [])) again), ap (λ s. s.line_up) same)

-- ---- bytes that are no message

not_whole : (bytes : List ℕ) (answer : Scan (Message × ℕ)) → Answers padded bytes answer → ((m : Message) → answer ≡ Whole (m, length bytes) → ⊥) → (m : Message) → Spells padded m bytes → ⊥
not_whole bytes answer a other m spelled =
    other m (spellings_are_read padded m bytes [] answer spelled (subst (λ b. Answers padded b answer) (sym (append-nil bytes)) a))

pub no_message : (bytes : List ℕ) (answer : Scan (Message × ℕ)) (old new : TillState) → Answers padded bytes answer → ((m : Message) → answer ≡ Whole (m, length bytes) → ⊥) → Relives false (heard bytes) old new
no_message bytes answer old new a other settings log happened t happens k =
    ∥∥₁_elim happens.1 ⊥_prop (λ spelled. not_whole bytes answer a other happens.0 spelled)

abbrev size_in : Scan (Message × ℕ) → ℕ
size_in (Whole found) = found.1
size_in More = 0
size_in (Refused place why) = 0

pub not_all : (message : Message) (size : ℕ) (bytes : List ℕ) (answer : Scan (Message × ℕ)) → answer ≡ Whole (message, size) → (size ≡ length bytes → ⊥) → (m : Message) → answer ≡ Whole (m, length bytes) → ⊥
not_all message size bytes answer is other m whole = other (ap size_in (sym is ∙ whole))
