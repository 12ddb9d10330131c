-- Each act keeps what holds of a till that settles and of its terminal, and settles only what the ledger says.
use Rattle.std.proofs.Common.{◌≡◌, ℕ, ◌+◌, ◌<◌, inl, Bool, true, false, cond, ◌&&◌, List, [], ◌∷◌, ◌++◌, length, drop, Option, Some, None, map, slice_get, refl, sym, ap, subst, ◌∙◌, append-nil, length-append, arith}
use Rattle.std.proofs.Math.Seq.{drop-length}
use Rattle.zvt_till.specs.declared.happenings.Happening.TheVariants.{Connected, Heard as HeardIn, Lost as LostLine}
use Rattle.zvt_till.specs.declared.messages.Heard.{Heard}
use Rattle.zvt_till.specs.declared.orders.Order.{Order}
use Rattle.zvt_till.specs.declared.orders.Order.TheVariants.{Register, Pay, Reverse, CloseDay, Cancel}
use Rattle.zvt_till.specs.declared.orders.OrderRefusal.{OrderRefusal}
use Rattle.zvt_till.specs.declared.orders.OrderRefusal.TheVariants.{Busy, Offline}
use Rattle.zvt_till.specs.Laws.{row_of}
use Rattle.zvt_till.specs.Refusals.{Facts, refusal, line_refusal, session_refusal}
use Rattle.zvt_till.specs.declared.entries.Entry.{Entry}
use Rattle.zvt_till.specs.Sending.{Settings, message_of}
use Rattle.zvt_till.specs.Till.{TillState, accept, step, facts_of}
use Rattle.zvt_till.proofs.BookStepLemmas.{settings-accepted, settings-step}
use Rattle.zvt_term.specs.declared.extras.Extra.TheVariants.{RepeatReceipt}
use Rattle.zvt_term.specs.declared.ledger.Row.{Row}
use Rattle.zvt_term.specs.declared.turns.Phase.{Phase}
use Rattle.zvt_term.specs.declared.turns.Verdict.{Verdict}
use Rattle.zvt_term.specs.declared.world.Move.TheVariants.{Connect, TillLost, TerminalLost}
use Rattle.zvt_term.specs.Orderly.{Line, line_after}
use Rattle.zvt_term.specs.Terminal.{TerminalState}
use Rattle.zvt_term.proofs.Accounting.{and-left, and-right, next-of, offline}
use Rattle.zvt_term.proofs.Accounts.{words}
use Rattle.zvt_term.proofs.Answering.{script_of}
use Rattle.zvt_term.proofs.Facts.{heard_of, answer_to}
use Rattle.zvt_term.proofs.Talking.{line_up-heard}
use Rattle.zvt_term.specs.AskedWorld.{looked}
use Rattle.zvt_term.specs.Ledgers.{AreOfRows}
use Rattle.zvt_settle.specs.Settling.{Settling, paid_traces, sent, asks, ask_refusal, settles}
use Rattle.zvt_term.proofs.AskedMeans.{Word, Plain, Beyond, Meant, words_out, after_on, said_on, orders_meant, refuses_meant, asks_meant, terminal_meant, till_meant, move_meant}
use Rattle.zvt_term.proofs.AskedFits.{on-sound}
use Rattle.zvt_term.proofs.AskStands.{Ready, Settles}
use Rattle.zvt_term.proofs.LedgerRows.{all-named}
use Rattle.zvt_term.proofs.LineStands.{till-hears, till-loses}
use Rattle.zvt_term.proofs.PrefixStands.{stands-first}
use Rattle.zvt_term.proofs.SendingStands.{till-sends, sent-settled, till-asks, down-loses}
use Rattle.zvt_term.proofs.Standing.{KnownBy, Fresh, AllIn, requests, Lost, Settled, Hangs, Down, Stage, StageAt, Stands, asked_on, rest_on, Holds}
use Rattle.zvt_term.proofs.TerminalStands.{terminal-hears}
use Rattle.zvt_term.proofs.TalkStands.{on-fresh, on-keeps, own-at, own-more, order-own, answer-own, no-requests, requests-more, said-more}

-- what an act does
pub record Acts (own : ℕ) (w v : Meant) (c : Line) : Type 0 where
  pub holds : Holds own v c
  pub settles : Settles v.till v.before v.terminal.ledger w.settling.settled v.settling.settled w.settling.pending

-- ---- connections

-- what is on the way when both ends lost the line never arrives
connected : (own : ℕ) (before now : List Row) (asked : List Word) (t : TillState) (s : Settling) → Down own before now asked t s → KnownBy own (map row_of t.book) t.unclear before now s
connected own before now asked t s k = by_lost k.lost
  where
    by_lost : Lost own (map row_of t.book) t.unclear before now asked s → KnownBy own (map row_of t.book) t.unclear before now s
    by_lost (Settled known words) = known
    by_lost (Hangs m e h) =
        record {
          last = λ f q. let none : None ≡ Some f = sym h.last ∙ q in absurd cc;
          waits = λ p q. let w = h.waits p q in record { last = w.0; what = w.1; grew = inl h.same; fresh = w.3 };
        }

connect-stage : (own : ℕ) (before now : List Row) (asked : List Word) (t : TillState) (s : Settling) → Down own before now asked t s
    → StageAt own before now [] (step t Connected) s []
connect-stage own before now asked t s k =
    subst (λ run. Stage own (map row_of t.book) t.unclear before now [] s run s.asking []) (sym k.running)
    (subst (λ a. Stage own (map row_of t.book) t.unclear before now [] s None a []) (sym k.asking)
    (record { known = connected own before now asked t s k; no_request = refl; no_word = refl }))

pub down-of : (down : Bool) (own : ℕ) (before now : List Row) (asked : List Word) (t : TillState) (s : Settling) (rest : List Heard) → down ≡ true → Stands down own before now asked t s rest → Down own before now asked t s
down-of true own before now asked t s rest e k = k
down-of false own before now asked t s rest e k = absurd cc

pub connects : (own : ℕ) (w : Meant) (c : Line) → (c.till_lost && c.terminal_lost) ≡ true → Holds own w c
    → Acts own w (move_meant w Connect) (line_after (length w.from_till) (length w.from_terminal) c Connect)
connects own w c e i =
    let down = down-of c.till_lost own w.before w.terminal.ledger (asked_on w c) w.till w.settling (rest_on w c) (and-left c.till_lost c.terminal_lost e) i.stands in
    let silent = i.silent (and-right c.till_lost c.terminal_lost e) in
    let nothing : words (script_of w.terminal.phase) ≡ [] = ap (λ (p : Phase). words (script_of p)) silent in
    let no_asked : requests (drop (length w.from_till) w.from_till) ≡ [] = ap requests (drop-length w.from_till) in
    let no_rest : words (drop (length w.from_terminal) w.from_terminal) ++ words (script_of w.terminal.phase) ≡ [] =
    ap (λ x. words x ++ words (script_of w.terminal.phase)) (drop-length w.from_terminal) ∙ nothing in
    record {
      holds = record {
        till_sent = omega arith;
        terminal_sent = omega arith;
        silent = λ q. absurd cc;
        currency = i.currency;
        keeps = i.keeps;
        sent = i.sent;
        sound = i.sound;
        fresh = i.fresh;
        stands = (
          refl,
          subst (λ x. StageAt own w.before w.terminal.ledger x (step w.till Connected) w.settling (words (drop (length w.from_terminal) w.from_terminal) ++ words (script_of w.terminal.phase))) (sym no_asked)
              (subst (λ x. StageAt own w.before w.terminal.ledger [] (step w.till Connected) w.settling x) (sym no_rest)
              (connect-stage own w.before w.terminal.ledger (asked_on w c) w.till w.settling down)),
        );
      };
      settles = inl refl;
    }

-- ---- deliveries

pub terminal-reached : (own : ℕ) (w : Meant) (c : Line) (v : Verdict) → c.to_terminal < length w.from_till → c.terminal_lost ≡ false → Holds own w c
    → Acts own w (terminal_meant w v (slice_get w.from_till c.to_terminal)) (record c { to_terminal = c.to_terminal + 1 })
terminal-reached own w c v lt up i =
    let next = next-of w.from_till c.to_terminal lt in
    let m : Word = next.message in
    let s : TerminalState = w.terminal in
    let reports = said_on s m v in
    let said : List Heard = map heard_of reports in
    let q = drop (c.to_terminal + 1) w.from_till in
    let heard = words (drop c.to_till w.from_terminal) in
    let longer : length (w.from_terminal ++ said) ≡ length w.from_terminal + length said = length-append w.from_terminal said in
    let terminal_sent = i.terminal_sent in
    let named = all-named own s.ledger (map row_of w.till.book) i.sound.2 i.sound.1 i.fresh.books in
    let before : Stands c.till_lost own w.before s.ledger (requests (m ∷ q)) w.till w.settling (rest_on w c) =
    subst (λ x. Stands c.till_lost own w.before s.ledger (requests x) w.till w.settling (rest_on w c)) next.waiting i.stands in
    let now = terminal-hears c.till_lost own w.before s m v q w.till w.settling heard (record { keeps = i.keeps; named = named }) before in
    let here : Acts own w (terminal_meant w v (Some m)) (record c { to_terminal = c.to_terminal + 1 }) =
    record {
      holds = record {
        till_sent = omega arith;
        terminal_sent = omega (arith, longer, terminal_sent);
        silent = λ e. absurd cc;
        currency = i.currency;
        keeps = on-keeps own s m v i.keeps (own-at own w.from_till c.to_terminal m i.sent next.is_next);
        sent = i.sent;
        sound = on-sound s m v i.sound;
        fresh = on-fresh own s m v (map row_of w.till.book) (paid_traces w.settling.settled) i.fresh;
        stands =
            subst (λ x. Stands c.till_lost own w.before (after_on s m v).ledger (requests q) w.till w.settling x)
            (sym (said-more c.to_till w.from_terminal said (words (script_of (after_on s m v).phase)) i.terminal_sent)) now;
      };
      settles = inl refl;
    } in
    subst (λ o. Acts own w (terminal_meant w v o) (record c { to_terminal = c.to_terminal + 1 })) (sym next.is_next) here

pub up-of : (down : Bool) (own : ℕ) (before now : List Row) (asked : List Word) (t : TillState) (s : Settling) (rest : List Heard) → down ≡ false → Stands down own before now asked t s rest
    → (t.line_up ≡ true) × StageAt own before now asked t s rest
up-of true own before now asked t s rest e k = absurd cc
up-of false own before now asked t s rest e k = k

stands-up : (down : Bool) (own : ℕ) (before now : List Row) (asked : List Word) (t : TillState) (s : Settling) (rest : List Heard) → down ≡ false → t.line_up ≡ true → StageAt own before now asked t s rest
    → Stands down own before now asked t s rest
stands-up true own before now asked t s rest e up k = absurd cc
stands-up false own before now asked t s rest e up k = (up, k)

pub till-reached : (own : ℕ) (w : Meant) (c : Line) → c.to_till < length w.from_terminal → c.till_lost ≡ false → Holds own w c
    → Acts own w (till_meant w (slice_get w.from_terminal c.to_till)) (record c { to_till = c.to_till + 1 })
till-reached own w c lt up i =
    let next = next-of w.from_terminal c.to_till lt in
    let m : Heard = next.message in
    let q = drop (c.to_till + 1) w.from_terminal in
    let coming = words (script_of w.terminal.phase) in
    let more = map Plain (answer_to w.till.line_up m) in
    let longer : length (w.from_till ++ more) ≡ length w.from_till + length more = length-append w.from_till more in
    let till_sent = i.till_sent in
    let t : TillState = w.till in
    let l : List Row = w.terminal.ledger in
    let before : Stands c.till_lost own w.before l (asked_on w c) t w.settling (words (m ∷ q) ++ coming) =
    subst (λ x. Stands c.till_lost own w.before l (asked_on w c) t w.settling (words x ++ coming)) next.waiting i.stands in
    let stage = up-of c.till_lost own w.before l (asked_on w c) t w.settling (words (m ∷ q) ++ coming) up before in
    let ready : Ready own l t w.settling = record { currency = i.currency; numbered = i.sound.2; few = i.sound.1; all = i.fresh.books; paid = i.fresh.paid } in
    let told = till-hears own w.before l (asked_on w c) t w.settling m q coming ready stage.0 stage.1 in
    let same : requests (drop c.to_terminal (w.from_till ++ more)) ≡ asked_on w c =
    requests-more c.to_terminal w.from_till more i.till_sent ∙ ap (λ x. asked_on w c ++ x) (no-requests t.line_up m) ∙ append-nil (asked_on w c) in
    let here : Acts own w (till_meant w (Some m)) (record c { to_till = c.to_till + 1 }) =
    record {
      holds = record {
        till_sent = omega (arith, longer, till_sent);
        terminal_sent = omega arith;
        silent = i.silent;
        currency = ap (λ (k : Settings). k.currency) (settings-step t (HeardIn m)) ∙ i.currency;
        keeps = i.keeps;
        sent = own-more own w.from_till more i.sent (answer-own own t.line_up m);
        sound = i.sound;
        fresh = record { books = told.met.books; paid = told.paid };
        stands =
            subst (λ x. Stands c.till_lost own w.before l x (step t (HeardIn m)) (settles t w.settling (HeardIn m)) (words q ++ coming)) (sym same)
            (stands-up c.till_lost own w.before l (asked_on w c) (step t (HeardIn m)) (settles t w.settling (HeardIn m)) (words q ++ coming) up (line_up-heard t m ∙ stage.0) told.met.stage);
      };
      settles = told.settles;
    } in
    subst (λ o. Acts own w (till_meant w o) (record c { to_till = c.to_till + 1 })) (sym next.is_next) here

-- ---- lost lines

lost-stands : (down : Bool) (own : ℕ) (before now : List Row) (asked : List Word) (t : TillState) (s : Settling) (rest : List Heard) → AllIn own now (map row_of t.book) → Stands down own before now asked t s rest
    → Down own before now asked (step t LostLine) (settles t s LostLine) × AllIn own now (map row_of (step t LostLine).book) × ((settles t s LostLine).settled ≡ s.settled)
lost-stands true own before now asked t s rest all k = let d = down-loses own before now asked t s k in (d.0, subst (AllIn own now) (sym d.1) all, d.2)
lost-stands false own before now asked t s rest all k = let d = till-loses own before now asked t s rest all k.1 in (d.down, d.all, d.settled)

pub till-lost : (own : ℕ) (w : Meant) (c : Line) → Holds own w c → Acts own w (move_meant w TillLost) (record c { till_lost = true })
till-lost own w c i =
    let d = lost-stands c.till_lost own w.before w.terminal.ledger (asked_on w c) w.till w.settling (rest_on w c) i.fresh.books i.stands in
    record {
      holds = record {
        till_sent = i.till_sent;
        terminal_sent = i.terminal_sent;
        silent = i.silent;
        currency = ap (λ (k : Settings). k.currency) (settings-step w.till LostLine) ∙ i.currency;
        keeps = i.keeps;
        sent = i.sent;
        sound = i.sound;
        fresh = record { books = d.1; paid = subst (λ xs. AreOfRows (paid_traces xs) w.terminal.ledger) (sym d.2) i.fresh.paid };
        stands = d.0;
      };
      settles = inl d.2;
    }

pub terminal-lost : (own : ℕ) (w : Meant) (c : Line) → Holds own w c → Acts own w (move_meant w TerminalLost) (record c { terminal_lost = true })
terminal-lost own w c i =
    let said = words (drop c.to_till w.from_terminal) in
    record {
      holds = record {
        till_sent = i.till_sent;
        terminal_sent = i.terminal_sent;
        silent = λ q. refl;
        currency = i.currency;
        keeps = λ e. absurd cc;
        sent = i.sent;
        sound = i.sound;
        fresh = i.fresh;
        stands =
            subst (λ x. Stands c.till_lost own w.before w.terminal.ledger (asked_on w c) w.till w.settling x) (sym (append-nil said))
            (stands-first c.till_lost own w.before w.terminal.ledger (asked_on w c) w.till w.settling said (words (script_of w.terminal.phase)) i.stands);
      };
      settles = inl refl;
    }

-- ---- orders and asks

accept-up : (t : TillState) (o : Order) → (accept t o).line_up ≡ t.line_up
accept-up t Register = refl
accept-up t (Pay a) = refl
accept-up t (Reverse i) = refl
accept-up t CloseDay = refl
accept-up t Cancel = refl

accept-book : (t : TillState) (o : Order) → (accept t o).book ≡ t.book
accept-book t Register = refl
accept-book t (Pay a) = refl
accept-book t (Reverse i) = refl
accept-book t CloseDay = refl
accept-book t Cancel = refl

accept-settings : (t : TillState) (o : Order) → (accept t o).settings ≡ t.settings
accept-settings t o = settings-accepted t (Some o)

abbrev pub refuses_by : Facts → Option Bool → Order → Option OrderRefusal
refuses_by f asking o = elim asking [ None ↦ refusal f o | Some positive ↦ Some Busy ]

pub no-refusal : (f : Facts) (asking : Option Bool) (o : Order) → refuses_by f asking o ≡ None → (asking ≡ None) × (refusal f o ≡ None)
no-refusal f None o e = (refl, e)
no-refusal f (Some positive) o e = absurd cc

order-stands : (down : Bool) (own : ℕ) (before now : List Row) (asked : List Word) (t : TillState) (s : Settling) (o : Order) (rest : List Heard)
    → t.settings.currency ≡ own → s.asking ≡ None → Fresh own now (map row_of t.book) (paid_traces s.settled) → refusal (facts_of t) o ≡ None
    → Stands down own before now asked t s rest → Stands down own (looked before now o) now (asked ++ requests (words_out (message_of t.settings t.book o))) (accept t o) (sent s o) rest
order-stands true own before now asked t s o rest currency idle fresh e k = absurd (offline (facts_of t) o k.line e)
order-stands false own before now asked t s o rest currency idle fresh e (up, k) = (accept-up t o ∙ up, till-sends own before now asked t s o rest currency up idle fresh e k)

pub orders-hold : (own : ℕ) (w : Meant) (c : Line) (o : Order) (why : Option OrderRefusal) → refuses_meant w o ≡ why → Holds own w c → Acts own w (orders_meant w o why) c
orders-hold own w c o (Some why) e i = record { holds = i; settles = inl refl }
orders-hold own w c o None e i =
    let free = no-refusal (facts_of w.till) w.settling.asking o e in
    let more = words_out (message_of w.till.settings w.till.book o) in
    let longer : length (w.from_till ++ more) ≡ length w.from_till + length more = length-append w.from_till more in
    let till_sent = i.till_sent in
    let l : List Row = w.terminal.ledger in
    record {
      holds = record {
        till_sent = omega (arith, longer, till_sent);
        terminal_sent = i.terminal_sent;
        silent = i.silent;
        currency = ap (λ (k : Settings). k.currency) (accept-settings w.till o) ∙ i.currency;
        keeps = i.keeps;
        sent = own-more own w.from_till more i.sent (order-own own w.till.settings w.till.book o i.currency);
        sound = i.sound;
        fresh = record {
          books = subst (λ (b : List Entry). AllIn own l (map row_of b)) (sym (accept-book w.till o)) i.fresh.books;
          paid = subst (λ xs. AreOfRows (paid_traces xs) l) (sym (sent-settled w.settling o)) i.fresh.paid;
        };
        stands =
            subst (λ x. Stands c.till_lost own (looked w.before l o) l x (accept w.till o) (sent w.settling o) (rest_on w c)) (sym (requests-more c.to_terminal w.from_till more i.till_sent))
            (order-stands c.till_lost own w.before l (asked_on w c) w.till w.settling o (rest_on w c) i.currency free.0 i.fresh free.1 i.stands);
      };
      settles = inl (sent-settled w.settling o);
    }

pub no-ask-refusal : (f : Facts) (asking : Option Bool) → ask_refusal f asking ≡ None → (asking ≡ None) × (line_refusal f CloseDay ≡ None)
no-ask-refusal f None e = (refl, e)
no-ask-refusal f (Some positive) e = absurd cc

pub off-line : (f : Facts) → f.line_up ≡ false → line_refusal f CloseDay ≡ None → ⊥
off-line f e r = by_line f.line_up e r
  where
    by_line : (b : Bool) → b ≡ false → cond b (session_refusal f CloseDay) (Some Offline) ≡ None → ⊥
    by_line true q s = cc
    by_line false q s = cc

ask-stands : (down : Bool) (own : ℕ) (before now : List Row) (asked : List Word) (t : TillState) (s : Settling) (rest : List Heard)
    → s.asking ≡ None → line_refusal (facts_of t) CloseDay ≡ None → Stands down own before now asked t s rest → Stands down own before now (asked ++ Beyond RepeatReceipt ∷ []) t (asks s) rest
ask-stands true own before now asked t s rest idle e k = absurd (off-line (facts_of t) k.line e)
ask-stands false own before now asked t s rest idle e (up, k) = (up, till-asks own before now asked t s rest idle e k)

pub asks-hold : (own : ℕ) (w : Meant) (c : Line) (why : Option OrderRefusal) → ask_refusal (facts_of w.till) w.settling.asking ≡ why → Holds own w c → Acts own w (asks_meant w why) c
asks-hold own w c (Some why) e i = record { holds = i; settles = inl refl }
asks-hold own w c None e i =
    let free = no-ask-refusal (facts_of w.till) w.settling.asking e in
    let more : List Word = Beyond RepeatReceipt ∷ [] in
    let longer : length (w.from_till ++ more) ≡ length w.from_till + length more = length-append w.from_till more in
    let till_sent = i.till_sent in
    record {
      holds = record {
        till_sent = omega (arith, longer, till_sent);
        terminal_sent = i.terminal_sent;
        silent = i.silent;
        currency = i.currency;
        keeps = i.keeps;
        sent = own-more own w.from_till more i.sent (refl, tt);
        sound = i.sound;
        fresh = i.fresh;
        stands =
            subst (λ x. Stands c.till_lost own w.before w.terminal.ledger x w.till (asks w.settling) (rest_on w c)) (sym (requests-more c.to_terminal w.from_till more i.till_sent))
            (ask-stands c.till_lost own w.before w.terminal.ledger (asked_on w c) w.till w.settling (rest_on w c) free.0 free.1 i.stands);
      };
      settles = inl refl;
    }
