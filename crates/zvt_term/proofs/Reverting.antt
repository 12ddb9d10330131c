-- What the terminal takes back the till will be told of.
use Rattle.std.proofs.Common.{◌≡◌, ℕ, zero, suc, ◌≤◌, ◌⊎◌, inl, inr, Bool, true, false, cond, ◌==◌, List, [], ◌∷◌, ◌++◌, Option, Some, None, refl, sym, subst, ◌∙◌, append-nil, slice_get, eqb-true, option_to_list, arith}
use Rattle.std.specs.List.{find, list_all}
use Rattle.zvt_apdu.specs.Briefs.{digits}
use Rattle.zvt_bcd.specs.Digits.{is_digit_pair, number_of}
use Rattle.zvt_till.specs.declared.entries.Entry.{Entry}
use Rattle.zvt_till.specs.declared.messages.CurrencyFact.{CurrencyFact}
use Rattle.zvt_till.specs.declared.messages.Heard.{Heard}
use Rattle.zvt_till.specs.declared.statuses.Class.TheVariants.{Good, Doubtful}
use Rattle.zvt_till.specs.declared.statuses.Demand.{Demand}
use Rattle.zvt_till.specs.declared.statuses.Demand.TheVariants.{Payment, Reversal as ReversalDemand, Closing}
use Rattle.zvt_till.specs.declared.statuses.Running.{Running}
use Rattle.zvt_till.specs.declared.outcomes.Cause.TheVariants.{AmountDiffers, NoTrace, WrongCurrency}
use Rattle.zvt_till.specs.Statuses.{is_by_receipt, is_in_currency, is_value, names, spells, class_of}
use Rattle.zvt_till.specs.Till.{TillState}
use Rattle.zvt_term.specs.declared.messages.Asked.{Asked}
use Rattle.zvt_term.specs.declared.messages.Asked.TheVariants.{Registration, Authorisation, Reversal, EndOfDay, AbortOrder, Answer, Unknown}
use Rattle.zvt_term.specs.declared.ledger.Row.{Row}
use Rattle.zvt_term.specs.declared.turns.Verdict.{Verdict}
use Rattle.zvt_term.specs.declared.turns.Verdict.TheVariants.{Approve, Decline}
use Rattle.zvt_term.specs.declared.turns.Phase.{Phase}
use Rattle.zvt_term.specs.declared.turns.Phase.TheVariants.{Idle, Printing, Completing, Aborting, Ending}
use Rattle.zvt_term.specs.declared.turns.Turn.{Turn}
use Rattle.zvt_term.specs.Ledger.{is_approval, approval_by, is_approval_named, is_taken_back}
use Rattle.zvt_term.specs.Returned.{Reverses}
use Rattle.zvt_term.specs.Terminal.{TerminalState, has_capacity, next_number, is_idle, is_ready, aborts, refuses, registers, takes_currency, decides, authorises, reverses_found, reverses, closes, goes_on, turn_of}
use Rattle.zvt_term.specs.World.{IsTakenBack, AllMatch}
use Rattle.zvt_term.proofs.DigitLemmas.{number_of-digits}
use Rattle.zvt_term.proofs.TurnLemmas.{AllShort, taken_back}
use Rattle.zvt_term.proofs.Facts.{reversal_status}
use Rattle.zvt_term.proofs.Matching.{match-at}
use Rattle.zvt_term.proofs.Accounts.{orders_in, words, Asking, TakenUp, Dialogue}
use Rattle.zvt_term.proofs.Talking.{nothing-first}
use Rattle.zvt_term.proofs.Answering.{script_of, speech, ledger_after, IsDeclining, claimed-note, answer-says}
use Rattle.zvt_term.proofs.Accounting.{and-right, Standing}
use Rattle.zvt_term.proofs.Returning.{Known, known-same, WillTell, Awaits, AsksFor, AllAsk, Returns}

-- the row that a turn writes

last-row : (l : List Row) (row x : Row) (k : ℕ) → slice_get (l ++ row ∷ []) k ≡ Some x → (slice_get l k ≡ Some x) ⊎ (row ≡ x)
last-row [] row x zero e = inr cc
last-row [] row x (suc k) e = absurd cc
last-row (y ∷ l) row x zero e = inl e
last-row (y ∷ l) row x (suc k) e = last-row l row x k e

-- what was taken back after a row more was so before, or the row takes it back
taken-before : (l : List Row) (o : Option Row) (n : ℕ) → IsTakenBack (l ++ option_to_list o) n → IsTakenBack l n ⊎ ((row : Row) × (o ≡ Some row) × (row.reverses ≡ Some n))
taken-before l None n w = inl (subst (λ (x : List Row). IsTakenBack x n) (append-nil l) w)
taken-before l (Some row) n (k, x, e, q) = by_place (last-row l row x k e)
  where
    by_place : (slice_get l k ≡ Some x) ⊎ (row ≡ x) → IsTakenBack l n ⊎ ((y : Row) × (Some row ≡ Some y) × (y.reverses ≡ Some n))
    by_place (inl f) = inl (k, x, f, q)
    by_place (inr same) = inr (row, refl, subst (λ (y : Row). y.reverses ≡ Some n) (sym same) q)

-- a status of a reversal that was made declines no order
reversal-undeclined : (d : Demand) (amount n original : ℕ) (c : Option ℕ) → IsDeclining (class_of d (reversal_status amount n original c)) → ⊥
reversal-undeclined (Payment charge) amount n original c k = k
reversal-undeclined (ReversalDemand charge trace sole) amount n original c k =
    let f = reversal_status amount n original c in
    by_tests (is_in_currency charge.currency f.currency) (is_value f.amount charge.amount) (names f.original trace) (is_by_receipt sole f.original f.receipt) k
  where
    by_tests : (own same named other : Bool) → IsDeclining (cond own (cond same (cond named (Good None) (cond other (Good None) (Doubtful NoTrace))) (Doubtful AmountDiffers)) (Doubtful WrongCurrency)) → ⊥
    by_tests true true true other k = k
    by_tests true true false true k = k
    by_tests true true false false k = k
    by_tests true false named other k = k
    by_tests false same named other k = k
reversal-undeclined (Closing by_completion) amount n original c k = k

-- the number of the approval that a turn takes back, by the receipt number that was asked for, and what it says then
record TakesBack (l : List Row) (receipt : Option (List ℕ)) (turn : Turn) (n : ℕ) : Type 0 where
  named : List ℕ
  asked : receipt ≡ Some named
  row : Row
  found : approval_by named l ≡ Some row
  number : row.number ≡ n
  tells : (r : Running) → WillTell r.statuses (speech turn)

abbrev Reverts : TerminalState → Option (List ℕ) → Turn → Type 0
Reverts s receipt turn = (row : Row) (n : ℕ) → turn.row ≡ Some row → row.reverses ≡ Some n → TakesBack s.ledger receipt turn n

either-reverts : (s : TerminalState) (receipt : Option (List ℕ)) (c : Bool) (x y : Turn) → Reverts s receipt x → Reverts s receipt y → Reverts s receipt (cond c x y)
either-reverts s receipt true x y h k = h
either-reverts s receipt false x y h k = k

taken_back-reverts : (s : TerminalState) (named : List ℕ) (old : Row) → approval_by named s.ledger ≡ Some old → Reverts s (Some named) (taken_back s old)
taken_back-reverts s named old e row n is q =
    let made : (taken_back s old).row ≡ Some row = is in
    let number : Some old.number ≡ Some n = subst (λ (o : Option Row). elim o as (λ x. Option ℕ) [ None ↦ None | Some r ↦ r.reverses ] ≡ Some n) (sym made) q in
    let f = reversal_status old.amount (next_number s) old.number s.currency in
    record {
      named = named;
      asked = refl;
      row = old;
      found = e;
      number = cc;
      tells = λ r d. (claimed-note r.statuses (class_of d f) f.receipt (reversal-undeclined d old.amount (next_number s) old.number s.currency), tt);
    }

reverses-reverts : (s : TerminalState) (receipt : Option (List ℕ)) → Reverts s receipt (reverses s receipt)
reverses-reverts s None = λ row n is q. absurd cc
reverses-reverts s (Some named) = by_row (approval_by named s.ledger) refl
  where
    by_row : (o : Option Row) → approval_by named s.ledger ≡ o → Reverts s (Some named) (reverses_found s o)
    by_row None e = λ row n is q. absurd cc
    by_row (Some old) e =
        let rest : Reverts s (Some named) (cond (has_capacity s) (taken_back s old) (aborts s 255)) =
        either-reverts s (Some named) (has_capacity s) (taken_back s old) (aborts s 255) (taken_back-reverts s named old e) (λ row n is q. absurd cc) in
        either-reverts s (Some named) (is_taken_back old.number s.ledger) (aborts s 180) (cond (has_capacity s) (taken_back s old) (aborts s 255)) (λ row n is q. absurd cc) rest

reversal-reverts : (s : TerminalState) (receipt : Option (List ℕ)) (v : Verdict) → Reverts s receipt (turn_of s (Reversal receipt) v)
reversal-reverts s receipt v = either-reverts s receipt (is_ready s) (reverses s receipt) (refuses s 131) (reverses-reverts s receipt) (λ row n is q. absurd cc)

-- no other message takes back

abbrev TakesNone : Turn → Type 0
TakesNone turn = (row : Row) (n : ℕ) → turn.row ≡ Some row → row.reverses ≡ Some n → ⊥

either-none : (c : Bool) (x y : Turn) → TakesNone x → TakesNone y → TakesNone (cond c x y)
either-none true x y h k = h
either-none false x y h k = k

decides-none : (s : TerminalState) (a : ℕ) (v : Verdict) → TakesNone (decides s a v)
decides-none s a Approve row n is q =
    let none : None ≡ Some n = subst (λ (o : Option Row). elim o as (λ x. Option ℕ) [ None ↦ None | Some r ↦ r.reverses ] ≡ Some n) (sym is) q in
    cc
decides-none s a (Decline code) row n is q = cc

authorises-none : (s : TerminalState) (o : Option ℕ) (named : CurrencyFact) (v : Verdict) → TakesNone (authorises s o named v)
authorises-none s None named v = λ row n is q. cc
authorises-none s (Some a) named v =
    either-none (has_capacity s) (cond (takes_currency s.currency named) (decides s a v) (refuses s 111)) (refuses s 255)
    (either-none (takes_currency s.currency named) (decides s a v) (refuses s 111) (decides-none s a v) (λ row n is q. cc)) (λ row n is q. cc)

goes_on-none : (s : TerminalState) (phase : Phase) → TakesNone (goes_on s phase)
goes_on-none s Idle row n is q = cc
goes_on-none s (Printing line) row n is q = cc
goes_on-none s Completing row n is q = cc
goes_on-none s (Aborting code) row n is q = cc
goes_on-none s Ending row n is q = cc

-- the entry whose receipt number was named

short-at : (rows : List Row) (k : ℕ) (row : Row) → AllShort rows → slice_get rows k ≡ Some row → row.number ≤ 9999
short-at [] k row h e = absurd cc
short-at (x ∷ rows) zero row h e = let same : x ≡ row = cc in subst (λ (r : Row). r.number ≤ 9999) same h.0
short-at (x ∷ rows) (suc k) row h e = short-at rows k row h.1 e

found-true : (test : Row → Bool) (rows : List Row) (row : Row) → find test rows ≡ Some row → test row ≡ true
found-true test [] row e = absurd cc
found-true test (first ∷ rows) row e = by_test (test first) refl (found-true test rows row) e
  where
    by_test : (b : Bool) → test first ≡ b → (find test rows ≡ Some row → test row ≡ true) → cond b (Some first) (find test rows) ≡ Some row → test row ≡ true
    by_test true is later q = let same : first ≡ row = cc in subst (λ (r : Row). test r ≡ true) same is
    by_test false is later q = later q

-- home: the currency of the till
module _ (home : ℕ) where
  -- the approval found by the digits of a number of the book has that number
  named-number : (l : List Row) (book : List Entry) (Else : ℕ → Type 0) (n : ℕ) (row : Row) → AllShort l → AllMatch home l book → Known book Else n → approval_by (digits 2 n) l ≡ Some row → row.number ≡ n
  named-number l book Else n row short m (place, (entry, e, t, told)) found =
      let approved = ((match-at home) l book place entry m e).approved in
      let few : n ≤ 9999 = subst (λ (x : ℕ). x ≤ 9999) t (short-at l approved.0 (record { number = entry.trace; amount = entry.amount; currency = Some home; reverses = None }) short approved.1) in
      let spelled : spells (digits 2 n) row.number ≡ true = and-right (is_approval row) (spells (digits 2 n) row.number) (found-true (is_approval_named (digits 2 n)) l row found) in
      let same : number_of (digits 2 n) ≡ row.number = eqb-true (number_of (digits 2 n)) row.number (and-right (list_all is_digit_pair (digits 2 n)) (number_of (digits 2 n) == row.number) spelled) in
      sym same ∙ number_of-digits 2 n (omega arith)

  -- the terminal hears the next message

  asked-alone : (b : Bool) (l : List Row) (m : Asked) (q : List Asked) (s : TillState) (rest : List Heard) (place : ℕ) → Standing b l (m ∷ q) s rest → Reverses place s.running → (q ≡ []) × (rest ≡ [])
  asked-alone true l m q s rest place k p = absurd (subst (λ run. Reverses place run) k.resting p)
  asked-alone false l m q s rest place (up, k) p = by_running s.running k.dialogue
    where
      by_running : (run : Option Running) → Dialogue l (m ∷ q) s.book s.unclear run rest → (q ≡ []) × (rest ≡ [])
      by_running None (e, f) = absurd cc
      by_running (Some r) (Asking m0 e f g) = (cc, g)
      by_running (Some r) (TakenUp e f g) = absurd cc

  -- nothing is taken up while an order is on its way
  awaits-on : (s : TerminalState) (m : Asked) (v : Verdict) (q : List Asked) (said : List Heard) (place : ℕ) (run : Option Running)
      → Awaits place (orders_in (m ∷ q)) run (said ++ words (script_of s.phase)) → Awaits place (orders_in q) run (said ++ speech (turn_of s m v))
  awaits-on s m v q said place None p = p
  awaits-on s AbortOrder v q said place (Some r) p = p
  awaits-on s Answer v q said place (Some r) (o, e, w) = (o, e, subst (λ x. WillTell r.statuses (said ++ x)) (sym (answer-says s v)) w)
  awaits-on s m v q said place (Some r) (o, e, w) = absurd cc

  asks-on : (m : Asked) (q : List Asked) (book : List Entry) (run : Option Running) → AllAsk book run (orders_in (m ∷ q)) → AllAsk book run (orders_in q)
  asks-on AbortOrder q book run k = k
  asks-on Answer q book run k = k
  asks-on m q book run k = k.1

  told-of : (turn : Turn) (said : List Heard) (q : List Asked) (place : ℕ) (run : Option Running) → q ≡ [] → said ≡ [] → ((r : Running) → WillTell r.statuses (speech turn)) → Reverses place run
      → Awaits place q run (said ++ speech turn)
  told-of turn said q place None e f k p = p
  told-of turn said q place (Some r) e f k p = (p, e, subst (λ x. WillTell r.statuses (x ++ speech turn)) (sym f) (k r))

  -- a reversal that the terminal makes is of the entry that was asked for
  reverted-known : (b : Bool) (s : TerminalState) (receipt : Option (List ℕ)) (v : Verdict) (q : List Asked) (till : TillState) (said : List Heard) (row : Row) (n : ℕ) → AllShort s.ledger → AllMatch home s.ledger till.book
      → Standing b s.ledger (Reversal receipt ∷ orders_in q) till (said ++ words (script_of s.phase)) → AsksFor till.book till.running (Reversal receipt)
      → (turn_of s (Reversal receipt) v).row ≡ Some row → row.reverses ≡ Some n
      → Known till.book (λ place. Awaits place (orders_in q) till.running (said ++ speech (turn_of s (Reversal receipt) v))) n
  reverted-known b s receipt v q till said row n short m k (number, named, known) is rev =
      let turn = turn_of s (Reversal receipt) v in
      let t = reversal-reverts s receipt v row n is rev in
      let spelled : t.named ≡ digits 2 number = cc in
      let found = subst (λ x. approval_by x s.ledger ≡ Some t.row) spelled t.found in
      let same : number ≡ n = sym (named-number s.ledger till.book (λ place. Reverses place till.running) number t.row short m known found) ∙ t.number in
      known-same till.book (λ place. Reverses place till.running) (λ place. Awaits place (orders_in q) till.running (said ++ speech turn))
      (λ place p. let w = asked-alone b s.ledger (Reversal receipt) (orders_in q) till (said ++ words (script_of s.phase)) place k p in
      told-of turn said (orders_in q) place till.running w.0 (nothing-first said (words (script_of s.phase)) w.1) t.tells p)
      n (subst (λ x. Known till.book (λ place. Reverses place till.running) x) same known)

  -- a row that a turn adds
  added-known : (b : Bool) (s : TerminalState) (m : Asked) (v : Verdict) (q : List Asked) (till : TillState) (said : List Heard) (row : Row) (n : ℕ) → AllShort s.ledger → AllMatch home s.ledger till.book
      → Standing b s.ledger (orders_in (m ∷ q)) till (said ++ words (script_of s.phase)) → AllAsk till.book till.running (orders_in (m ∷ q)) → (turn_of s m v).row ≡ Some row → row.reverses ≡ Some n
      → Known till.book (λ place. Awaits place (orders_in q) till.running (said ++ speech (turn_of s m v))) n
  added-known b s (Reversal receipt) v q till said row n short m k a is rev = reverted-known b s receipt v q till said row n short m k a.0 is rev
  added-known b s (Registration currency) v q till said row n short m k a is rev =
      absurd (either-none (is_idle s.phase) (registers s currency) (refuses s 131) (λ x j f g. cc) (λ x j f g. cc) row n is rev)
  added-known b s (Authorisation o named) v q till said row n short m k a is rev =
      absurd (either-none (is_ready s) (authorises s o named v) (refuses s 131) (authorises-none s o named v) (λ x j f g. cc) row n is rev)
  added-known b s EndOfDay v q till said row n short m k a is rev = absurd (either-none (is_ready s) (closes s) (refuses s 131) (λ x j f g. cc) (λ x j f g. cc) row n is rev)
  added-known b s AbortOrder v q till said row n short m k a is rev = absurd cc
  added-known b s Answer v q till said row n short m k a is rev = absurd (goes_on-none s s.phase row n is rev)
  added-known b s Unknown v q till said row n short m k a is rev = absurd cc

  pub terminal-hears-returns : (b : Bool) (s : TerminalState) (m : Asked) (v : Verdict) (q : List Asked) (till : TillState) (said : List Heard) → AllShort s.ledger → AllMatch home s.ledger till.book
      → Standing b s.ledger (orders_in (m ∷ q)) till (said ++ words (script_of s.phase)) → Returns s.ledger (orders_in (m ∷ q)) till (said ++ words (script_of s.phase))
      → Returns (ledger_after s (turn_of s m v)) (orders_in q) till (said ++ speech (turn_of s m v))
  terminal-hears-returns b s m v q till said short matching k r =
      record {
        asks = asks-on m q till.book till.running r.asks;
        taken = λ n w. by_row n (taken-before s.ledger (turn_of s m v).row n w);
      }
    where
      by_row : (n : ℕ) → IsTakenBack s.ledger n ⊎ ((row : Row) × ((turn_of s m v).row ≡ Some row) × (row.reverses ≡ Some n))
          → Known till.book (λ place. Awaits place (orders_in q) till.running (said ++ speech (turn_of s m v))) n
      by_row n (inl before) =
          known-same till.book (λ place. Awaits place (orders_in (m ∷ q)) till.running (said ++ words (script_of s.phase)))
          (λ place. Awaits place (orders_in q) till.running (said ++ speech (turn_of s m v)))
          (λ place p. awaits-on s m v q said place till.running p) n (r.taken n before)
      by_row n (inr (row, is, rev)) = added-known b s m v q till said row n short matching k r.asks is rev
