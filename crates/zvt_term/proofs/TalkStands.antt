-- What any message of the till keeps: the rows of the ledger, and the currency that the terminal stored. For the proof that
-- settlements agree with the ledger.
use Rattle.std.proofs.Common.{◌≡◌, ℕ, zero, suc, ◌≤◌, Bool, true, false, List, [], ◌∷◌, ◌++◌, length, drop, Option, Some, None, map, slice_get, option_map, option_to_list, refl, sym, ap, subst, ◌∙◌, append_assoc, length-append, arith}
use Rattle.std.proofs.lemmas.List.{drop-append-le}
use Rattle.std.proofs.lemmas.List.Elements.{filter-append}
use Rattle.zvt_apdu.specs.declared.brief.Brief.TheVariants.{Reverse as ReverseBrief}
use Rattle.zvt_till.specs.declared.messages.Heard.{Heard}
use Rattle.zvt_till.specs.declared.messages.Heard.TheVariants.{Positive, Negative, Status, Passing, Completion, Abort, Strange}
use Rattle.zvt_till.specs.declared.orders.Order.{Order}
use Rattle.zvt_till.specs.declared.orders.Order.TheVariants.{Register, Pay, Reverse, CloseDay, Cancel}
use Rattle.zvt_till.specs.declared.entries.Entry.{Entry}
use Rattle.zvt_till.specs.Sending.{Settings, message_of, receipt_at, outgoing}
use Rattle.zvt_till.specs.Books.{Booked}
use Rattle.zvt_term.specs.declared.ledger.Row.{Row}
use Rattle.zvt_term.specs.declared.messages.Asked.TheVariants.{Registration, Authorisation, Reversal as ReversalAsked, EndOfDay, AbortOrder, Answer, Unknown}
use Rattle.zvt_term.specs.declared.messages.Report.{Report}
use Rattle.zvt_term.specs.declared.turns.Phase.{Phase}
use Rattle.zvt_term.specs.declared.turns.Phase.TheVariants.{Idle, Printing, Completing, Aborting, Ending}
use Rattle.zvt_term.specs.declared.turns.Verdict.{Verdict}
use Rattle.zvt_term.specs.Extended.{extra_turn}
use Rattle.zvt_term.specs.Terminal.{TerminalState, is_ready, authorises, reverses, refuses, goes_on, turn_of, after}
use Rattle.zvt_term.proofs.Accounts.{is_word, words}
use Rattle.zvt_term.proofs.Facts.{answer_to}
use Rattle.zvt_term.proofs.Matching.{slice_get-prefix}
use Rattle.zvt_term.specs.AskedWorld.{payment_row}
use Rattle.zvt_settle.specs.Settling.{sent}
use Rattle.zvt_term.proofs.AskedMeans.{Word, Plain, Beyond, words_out, after_on}
use Rattle.zvt_term.proofs.Standing.{Fresh, is_request, requests, OwnWord, AllOwn}
use Rattle.zvt_term.proofs.TurnCases.{either, payment-cases, reversal-cases, registration-cases, closing-cases, repeat-cases}

-- ---- ledgers that grow

pub fresh-more : (own : ℕ) (l more : List Row) (rows : List Booked) (traces : List ℕ) → Fresh own l rows traces → Fresh own (l ++ more) rows traces
fresh-more own l more rows traces k =
    record {
      books = λ i b e. let w = k.books i b e in (w.0, slice_get-prefix l more w.0 (payment_row b.trace b.amount own) w.1, w.2);
      paid = λ t e. let n = k.paid t e in omega (arith, n, length-append l more);
    }

pub on-fresh : (own : ℕ) (s : TerminalState) (m : Word) (v : Verdict) (rows : List Booked) (traces : List ℕ) → Fresh own s.ledger rows traces → Fresh own (after_on s m v).ledger rows traces
on-fresh own s (Plain m) v rows traces k = fresh-more own s.ledger (option_to_list (turn_of s m v).row) rows traces k
on-fresh own s (Beyond x) v rows traces k = fresh-more own s.ledger (option_to_list (extra_turn s None x).row) rows traces k

-- ---- the currency that the terminal keeps

abbrev pub Keeps : (own : ℕ) → TerminalState → Type 0
Keeps own s = s.registered ≡ true → s.currency ≡ Some own

abbrev KeepsOn : (own : ℕ) → TerminalState → List Report → Type 0
KeepsOn own s said = Keeps own s

pub on-keeps : (own : ℕ) (s : TerminalState) (m : Word) (v : Verdict) → Keeps own s → OwnWord own m → Keeps own (after_on s m v)
on-keeps own s (Plain (Registration currency)) v k f = registration-cases (KeepsOn own) s currency v k (λ e. f)
on-keeps own s (Plain (Authorisation None named)) v k f = either (λ turn. Keeps own (after s turn)) (is_ready s) (authorises s None named v) (refuses s 131) (λ ready. k) k
on-keeps own s (Plain (Authorisation (Some a) named)) v k f = payment-cases (KeepsOn own) s a named v (λ code e. k) (λ ready. k) (λ code. k)
on-keeps own s (Plain (ReversalAsked None)) v k f = either (λ turn. Keeps own (after s turn)) (is_ready s) (reverses s None) (refuses s 131) (λ ready. k) k
on-keeps own s (Plain (ReversalAsked (Some receipt))) v k f = reversal-cases (KeepsOn own) s receipt v (λ code e. k) (λ code. k) (λ row ready e. k)
on-keeps own s (Plain EndOfDay) v k f = closing-cases (KeepsOn own) s v k k
on-keeps own s (Plain AbortOrder) v k f = k
on-keeps own s (Plain Answer) v k f = by_phase s.phase
  where
    by_phase : (phase : Phase) → Keeps own (after s (goes_on s phase))
    by_phase Idle = k
    by_phase (Printing line) = k
    by_phase Completing = k
    by_phase (Aborting code) = k
    by_phase Ending = k
on-keeps own s (Plain Unknown) v k f = k
on-keeps own s (Beyond x) v k f = subst (λ y. Keeps own (after s (extra_turn s None y))) (sym f) (repeat-cases (KeepsOn own) s k k (λ row e. k))

pub own-at : (own : ℕ) (ms : List Word) (k : ℕ) (m : Word) → AllOwn own ms → slice_get ms k ≡ Some m → OwnWord own m
own-at own [] k m h e = absurd cc
own-at own (n ∷ ms) zero m h e = let q : n ≡ m = cc in subst (OwnWord own) q h.0
own-at own (n ∷ ms) (suc k) m h e = own-at own ms k m h.1 e

pub own-more : (own : ℕ) (ms ns : List Word) → AllOwn own ms → AllOwn own ns → AllOwn own (ms ++ ns)
own-more own [] ns h k = k
own-more own (m ∷ ms) ns h k = (h.0, own-more own ms ns h.1 k)

pub order-own : (own : ℕ) (k : Settings) (book : List Entry) (o : Order) → k.currency ≡ own → AllOwn own (words_out (message_of k book o))
order-own own k book Register e = (ap Some e, tt)
order-own own k book (Pay a) e = (tt, tt)
order-own own k book (Reverse i) e = by_receipt (receipt_at (slice_get book i))
  where
    by_receipt : (r : Option (List ℕ)) → AllOwn own (words_out (option_map (λ x. outgoing (ReverseBrief k.password x)) r))
    by_receipt None = tt
    by_receipt (Some x) = (tt, tt)
order-own own k book CloseDay e = (tt, tt)
order-own own k book Cancel e = (tt, tt)

pub answer-own : (own : ℕ) (up : Bool) (m : Heard) → AllOwn own (map Plain (answer_to up m))
answer-own own false m = tt
answer-own own true Positive = tt
answer-own own true (Negative c) = tt
answer-own own true (Status f) = (tt, tt)
answer-own own true Passing = (tt, tt)
answer-own own true Completion = (tt, tt)
answer-own own true (Abort c) = (tt, tt)
answer-own own true Strange = (tt, tt)

pub no-requests : (up : Bool) (m : Heard) → requests (map Plain (answer_to up m)) ≡ []
no-requests false m = refl
no-requests true Positive = refl
no-requests true (Negative c) = refl
no-requests true (Status f) = refl
no-requests true Passing = refl
no-requests true Completion = refl
no-requests true (Abort c) = refl
no-requests true Strange = refl

-- ---- lists of messages

pub requests-more : (k : ℕ) (sent more : List Word) → k ≤ length sent → requests (drop k (sent ++ more)) ≡ requests (drop k sent) ++ requests more
requests-more k sent more le = ap requests (drop-append-le k sent more le) ∙ filter-append is_request (drop k sent) more

pub said-more : (k : ℕ) (sent more : List Heard) (rest : List Heard) → k ≤ length sent → words (drop k (sent ++ more)) ++ rest ≡ words (drop k sent) ++ (words more ++ rest)
said-more k sent more rest le =
    ap (λ x. words x ++ rest) (drop-append-le k sent more le) ∙ ap (λ x. x ++ rest) (filter-append is_word (drop k sent) more) ∙ append_assoc (words (drop k sent)) (words more) rest
