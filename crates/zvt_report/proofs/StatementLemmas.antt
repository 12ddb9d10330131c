-- What a hearing becomes by an event, and what was stated after all events.
use Rattle.std.proofs.Common.{◌≡◌, ℕ, Bool, true, false, cond, ◌||◌, List, [], ◌∷◌, ◌++◌, Option, Some, None, IfSome, fold, map, refl, sym, ◌∙◌, ap, ap₂, append_assoc}
use Rattle.std.specs.List.{cons_option, list_any}
use Rattle.std.specs.Option.{option_or}
use Rattle.std.specs.Prelude.{is_some}
use Rattle.zvt_stream.specs.declared.head.Head.{Head}
use Rattle.zvt_grammar.specs.declared.why.Why.{Why}
use Rattle.zvt_field.specs.Grammar.{Field}
use Rattle.zvt_apdu.specs.Message.{Message}
use Rattle.zvt_till.specs.Hearing.{heard_as}
use Rattle.zvt_till.specs.Segments.{ends, is_positive}
use Rattle.zvt_till.specs.declared.happenings.Happening.TheVariants.{Heard as HeardIn}
use Rattle.zvt_trace.specs.TraceEvent.{At, on}
use Rattle.zvt_trace.specs.TraceEvent as trace_event
use Rattle.zvt_trace.specs.declared.direction.Direction.{Direction}
use Rattle.zvt_trace.specs.declared.direction.Direction.TheVariants.{FromTill, FromTerminal}
use Rattle.zvt_report.specs.Reported.{beginning}
use Rattle.zvt_report.specs.Statements.{Begins, Ends, States, accepts, after_status, answered, attends, attention, begins, card_by, closed_by, declines_by, ends_by, first_card, first_undoing, heard_statuses, latest, no_statement, opened, stated, stated_by, stated_with, statements_of, stating, statuses_in, total_by, totals_of, undoing_by}
use Rattle.zvt_report.specs.declared.cards.Card.{Card}
use Rattle.zvt_report.specs.declared.statements.Attention.{Attention}
use Rattle.zvt_report.specs.declared.statements.Hearing.{Hearing}
use Rattle.zvt_report.specs.declared.statements.Statement.{Statement}
use Rattle.zvt_report.specs.declared.statements.Undoing.{Undoing}

-- ---- one status after another

or_false : (b : Bool) → (b || false) ≡ b
or_false true = refl
or_false false = refl

or_assoc : (a b c : Bool) → ((a || b) || c) ≡ (a || (b || c))
or_assoc true b c = refl
or_assoc false b c = refl

or_first : {A : Type 0} (a b c : Option A) → option_or (option_or a b) c ≡ option_or a (option_or b c)
or_first None b c = refl
or_first (Some given) b c = refl

or_none : {A : Type 0} (a : Option A) → option_or a None ≡ a
or_none None = refl
or_none (Some given) = refl

-- what statuses say after earlier ones
abbrev said_after : Statement → (declines : Bool) → (heard : List (List Field)) → Option Card → Option Undoing → Statement
said_after s declines heard card undoing = record { declines = declines; total = latest s.total total_by heard; totals = latest s.totals totals_of heard; card = card; undoing = undoing }

after_all : (s : Statement) (heard : List (List Field))
    → fold after_status s heard ≡ said_after s (s.declines || list_any declines_by heard) heard (option_or s.card (first_card heard)) (option_or s.undoing (first_undoing heard))
after_all s [] =
    ap₂ (λ (d : Bool) (c : Option Card). said_after s d [] c s.undoing) (sym (or_false s.declines)) (sym (or_none s.card))
    ∙ ap (said_after s (s.declines || false) [] (option_or s.card None)) (sym (or_none s.undoing))
after_all s (f ∷ heard) =
    let next = after_status s f in
    after_all next heard
    ∙ ap₂ (λ (d : Bool) (c : Option Card). said_after next d heard c (option_or (option_or s.undoing (undoing_by f)) (first_undoing heard)))
    (or_assoc s.declines (declines_by f) (list_any declines_by heard)) (or_first s.card (card_by f) (first_card heard))
    ∙ ap (said_after next (s.declines || (declines_by f || list_any declines_by heard)) heard (option_or s.card (option_or (card_by f) (first_card heard))))
    (or_first s.undoing (undoing_by f) (first_undoing heard))

all_stated_by : (heard : List (List Field)) → fold after_status no_statement heard ≡ stated_by heard
all_stated_by heard = after_all no_statement heard

-- ---- one event

-- same order begins
none_begins : (event : At) (later : List At) → begins event.trace_event ≡ false → statements_of (event ∷ later) ≡ statements_of later
none_begins event later same = ap (λ (b : Bool). map stated_by (cond b (heard_statuses false later ∷ answered later) (answered later))) same

ended_opens : (c : Option Attention) (event : At) (later : List At) → begins event.trace_event ≡ false → IfSome c (λ a. ends_by a.accepted event.trace_event ≡ true)
    → closed_by c ++ statements_of later ≡ opened c (event ∷ later)
ended_opens None event later same over = sym (none_begins event later same)
ended_opens (Some a) event later same over =
    let heard = heard_statuses (a.accepted || accepts event.trace_event) later in
    ap₂ (λ (s : Statement) (l : List Statement). s ∷ l)
    (sym (ap₂ (λ (b e : Bool). fold after_status a.statement (cond b [] (cond e [] (statuses_in event.trace_event ++ heard)))) same over))
    (sym (none_begins event later same))

-- the running order ends
pub end_states : (old new : Hearing) (event : At) → begins event.trace_event ≡ false → IfSome old.current (λ a. ends_by a.accepted event.trace_event ≡ true) → Ends old new → States old event new
end_states old new event same over ended = λ later.
    ap₂ (λ (l : List Statement) (c : Option Attention). l ++ opened c later) ended.0 ended.1
    ∙ append_assoc old.statements.items (closed_by old.current) (statements_of later)
    ∙ ap (λ (l : List Statement). old.statements.items ++ l) (ended_opens old.current event later same over)

passing : (c : Option Attention) (event : At) (later : List At) → begins event.trace_event ≡ false → ((a : Bool) → ends_by a event.trace_event ≡ false) → accepts event.trace_event ≡ false
    → statuses_in event.trace_event ≡ [] → opened c later ≡ opened c (event ∷ later)
passing None event later same over accepts_none says_none = sym (none_begins event later same)
passing (Some a) event later same over accepts_none says_none =
    ap₂ (λ (s : Statement) (l : List Statement). s ∷ l)
    (ap (λ (b : Bool). fold after_status a.statement (heard_statuses b later)) (sym (or_false a.accepted) ∙ sym (ap (λ (x : Bool). a.accepted || x) accepts_none))
    ∙ sym (ap (λ (l : List (List Field)). fold after_status a.statement (l ++ heard_statuses (a.accepted || accepts event.trace_event) later)) says_none)
    ∙ sym (ap₂ (λ (b e : Bool). fold after_status a.statement (cond b [] (cond e [] (statuses_in event.trace_event ++ heard_statuses (a.accepted || accepts event.trace_event) later)))) same (over a.accepted)))
    (sym (none_begins event later same))

-- an event that says nothing
pub pass_states : (old : Hearing) (event : At) → begins event.trace_event ≡ false → ((a : Bool) → ends_by a event.trace_event ≡ false) → accepts event.trace_event ≡ false → statuses_in event.trace_event ≡ []
    → States old event old
pass_states old event same over accepts_none says_none = λ later. ap (λ (l : List Statement). old.statements.items ++ l) (passing old.current event later same over accepts_none says_none)

begun_alone : (line : ℕ) (m : Message) (later : List At) → is_some (beginning m) ≡ true → opened (Some attention) later ≡ statements_of (on line (trace_event.message FromTill m) ∷ later)
begun_alone line m later is =
    ap (λ (s : Statement). s ∷ statements_of later) (all_stated_by (heard_statuses false later))
    ∙ sym (ap (λ (b : Bool). map stated_by (cond b (heard_statuses false later ∷ answered later) (answered later))) is)

begun_opens : (c : Option Attention) (line : ℕ) (m : Message) (later : List At) → is_some (beginning m) ≡ true
    → closed_by c ++ opened (Some attention) later ≡ opened c (on line (trace_event.message FromTill m) ∷ later)
begun_opens None line m later is = begun_alone line m later is
begun_opens (Some a) line m later is =
    ap₂ (λ (s : Statement) (l : List Statement). s ∷ l)
    (sym (ap (λ (b : Bool). fold after_status a.statement (cond b [] (heard_statuses (a.accepted || false) later))) is))
    (begun_alone line m later is)

begin_states : (old new : Hearing) (line : ℕ) (m : Message) → is_some (beginning m) ≡ true → Begins true old new → States old (on line (trace_event.message FromTill m)) new
begin_states old new line m is begun = λ later.
    ap₂ (λ (l : List Statement) (c : Option Attention). l ++ opened c later) begun.0 begun.1
    ∙ append_assoc old.statements.items (closed_by old.current) (opened (Some attention) later)
    ∙ ap (λ (l : List Statement). old.statements.items ++ l) (begun_opens old.current line m later is)

same_states : (old new : Hearing) (event : At) → new ≡ old → States old event old → States old event new
same_states old new event same states = λ later. ap (λ (h : Hearing). stated h later) same ∙ states later

-- a message of the till
pub till_states : (begun : Bool) (old new : Hearing) (line : ℕ) (m : Message) → begun ≡ is_some (beginning m) → Begins begun old new → States old (on line (trace_event.message FromTill m)) new
till_states true old new line m is begun = begin_states old new line m (sym is) begun
till_states false old new line m is kept =
    same_states old new (on line (trace_event.message FromTill m)) kept (pass_states old (on line (trace_event.message FromTill m)) (sym is) (λ a. refl) refl refl)

stated_more : (s : Statement) (fields : Option (List Field)) (more : List (List Field)) → fold after_status (stated_with s fields) more ≡ fold after_status s (cons_option fields [] ++ more)
stated_more s None more = refl
stated_more s (Some fields) more = refl

answer_opens : (a : Attention) (line : ℕ) (m : Message) (later : List At) → ends a.accepted (HeardIn (heard_as m)) ≡ false
    → opened (Some (attends a (heard_as m) m)) later ≡ opened (Some a) (on line (trace_event.message FromTerminal m) ∷ later)
answer_opens a line m later goes_on =
    let heard = heard_statuses (a.accepted || is_positive (HeardIn (heard_as m))) later in
    ap (λ (s : Statement). s ∷ statements_of later)
    (stated_more a.statement (stating m) heard ∙ sym (ap (λ (e : Bool). fold after_status a.statement (cond e [] (cons_option (stating m) [] ++ heard))) goes_on))

-- a message of the terminal that does not end the order
pub answer_states : (old new : Hearing) (a : Attention) (line : ℕ) (m : Message) → old.current ≡ Some a → ends a.accepted (HeardIn (heard_as m)) ≡ false
    → new.statements.items ≡ old.statements.items → new.current ≡ Some (attends a (heard_as m) m) → States old (on line (trace_event.message FromTerminal m)) new
answer_states old new a line m runs goes_on same after = λ later.
    ap₂ (λ (l : List Statement) (c : Option Attention). l ++ opened c later) same after
    ∙ ap (λ (l : List Statement). old.statements.items ++ l) (answer_opens a line m later goes_on)
    ∙ sym (ap (λ (c : Option Attention). old.statements.items ++ opened c (on line (trace_event.message FromTerminal m) ∷ later)) runs)

-- same order runs
pub unheard_states : (old : Hearing) (line : ℕ) (m : Message) → old.current ≡ None → States old (on line (trace_event.message FromTerminal m)) old
unheard_states old line m none = λ later.
    ap (λ (c : Option Attention). old.statements.items ++ opened c later) none
    ∙ sym (ap (λ (c : Option Attention). old.statements.items ++ opened c (on line (trace_event.message FromTerminal m) ∷ later)) none)

if_current : (c : Option Attention) (a : Attention) (e : Bool → Bool) → c ≡ Some a → e a.accepted ≡ true → IfSome c (λ b. e b.accepted ≡ true)
if_current None a e is ends = tt
if_current (Some b) a e is ends = cc

-- a message of the terminal that ends the order
pub last_states : (old new : Hearing) (a : Attention) (line : ℕ) (m : Message) → old.current ≡ Some a → ends a.accepted (HeardIn (heard_as m)) ≡ true → Ends old new
    → States old (on line (trace_event.message FromTerminal m)) new
last_states old new a line m runs is ended =
    end_states old new (on line (trace_event.message FromTerminal m)) refl (if_current old.current a (λ b. ends b (HeardIn (heard_as m))) runs is) ended

any_ends : (c : Option Attention) → IfSome c (λ (a : Attention). true ≡ true)
any_ends None = tt
any_ends (Some a) = refl

-- bytes that are no message
pub refused_states : (old new : Hearing) (line : ℕ) (from : Direction) (before : List ℕ) (byte : ℕ) (why : Why) → Ends old new → States old (on line (trace_event.refused from before byte why)) new
refused_states old new line from before byte why ended = end_states old new (on line (trace_event.refused from before byte why)) refl (any_ends old.current) ended

-- the connection is lost
pub lost_states : (old new : Hearing) (line : ℕ) → Ends old new → States old (on line trace_event.lost) new
lost_states old new line ended = end_states old new (on line trace_event.lost) refl (any_ends old.current) ended

-- ---- all events

-- nothing is stated at first
pub starts_stated : (h : Hearing) (events : List At) → h.statements.items ≡ [] → h.current ≡ None → stated h events ≡ statements_of events
starts_stated h events none rests = ap₂ (λ (l : List Statement) (c : Option Attention). l ++ opened c events) none rests
