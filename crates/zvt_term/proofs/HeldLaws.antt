-- A payment that is held is answered as one without a delay, and changes no row before its delay is over.
use Rattle.std.proofs.Common.{◌≡◌, ◌∙◌, ℕ, ◌+◌, ◌++◌, ◌∷◌, ◌&&◌, ◌||◌, Bool, true, false, cond, is_some, nat_lt, List, [], Option, Some, None, drop, length, ap, refl, sym, subst, length-append}
use Rattle.zvt_apdu.specs.Message.{Message, ack}
use Rattle.zvt_grammar.proofs.CutLemmas.{spelled_append, spelled_more}
use Rattle.zvt_stream.specs.Answered.{Answered}
use Rattle.zvt_stream.specs.Apdus.{Spells}
use Rattle.zvt_term.specs.declared.messages.Asked.{Asked}
use Rattle.zvt_term.specs.declared.messages.Asked.TheVariants.{Registration, Authorisation, Reversal, EndOfDay, AbortOrder, Answer, Unknown}
use Rattle.zvt_term.specs.declared.messages.Report.{Report}
use Rattle.zvt_term.specs.declared.messages.Report.TheVariants.{Ack, Nack, Registered, Approved, Result, TakenBack, Line, Done, Aborted}
use Rattle.zvt_term.specs.declared.messages.Response.{Response}
use Rattle.zvt_term.specs.declared.messages.Response.TheVariants.{Nothing, One, Two}
use Rattle.zvt_term.specs.declared.extras.Extra.{Extra}
use Rattle.zvt_term.specs.declared.extras.Extras.{Extras}
use Rattle.zvt_term.specs.declared.refunds.Refunded.{Refunded}
use Rattle.zvt_term.specs.declared.served.Served.{Served}
use Rattle.zvt_term.specs.declared.extended.Extended.{Extended}
use Rattle.zvt_term.specs.Asking.{asked_as}
use Rattle.zvt_term.specs.Dressing.{SaysAll, is_ack, is_delayed, message_by, messages_by, please_wait, said_by, said_later}
use Rattle.zvt_term.specs.Extended.{HeldIsAnswered, HeldKeepsLedger, Holds, asked_turn, elapses_while, heard_extra, hears_by, hears_or_releases, hears_while, holds_or_hears, is_accepted, is_answer, is_held, undelayed}
use Rattle.zvt_term.specs.Reports.{message_of_report}
use Rattle.zvt_term.specs.Terminal.{TerminalState}
use Rattle.zvt_term.proofs.ExtraLemmas.{same_ledger, window_ledger}

-- ---- the ledger

true_or_none : (held : Option Asked) → held ≡ None → is_some held ≡ true → ⊥
true_or_none None e h = absurd cc
true_or_none (Some payment) e h = absurd cc

same_rows : (old new : Extended) → new.served ≡ old.served → new.served.terminal.ledger ≡ old.served.terminal.ledger
same_rows old new e = ap (λ (s : Served). s.terminal.ledger) e

begins_keeps : (old new : Extended) (message : Message) (answers : Answered) → is_some new.held ≡ true → (b : Bool) → hears_or_releases b old message answers new
    → new.served.terminal.ledger ≡ old.served.terminal.ledger
begins_keeps old new message answers holds true h = same_rows old new h.served
begins_keeps old new message answers holds false h = by_extra (heard_extra old.extras message) h
  where
    by_held : (b : Bool) → holds_or_hears b old (asked_as message) answers new → new.served.terminal.ledger ≡ old.served.terminal.ledger
    by_held true h = same_rows old new h.served
    by_held false h = absurd (true_or_none new.held h.made.held holds)

    by_extra : (extra : Option Extra) → hears_by extra old message answers new → new.served.terminal.ledger ≡ old.served.terminal.ledger
    by_extra None h = by_held (is_held old.extras (asked_as message) (asked_turn old (asked_as message)).reply) h
    by_extra (Some extra) h = ap (λ (t : TerminalState). t.ledger) h.made.terminal ∙ same_ledger old.served.terminal old.refund extra

pub held_keeps_ledger : HeldKeepsLedger
held_keeps_ledger old new message answers holds h = by_held old.held holds h
  where
    by_held : (held : Option Asked) → (is_some held || is_some new.held) ≡ true → hears_while held old message answers new → new.served.terminal.ledger ≡ old.served.terminal.ledger
    by_held None holds h = begins_keeps old new message answers holds (old.waits && is_answer (asked_as message)) h
    by_held (Some payment) holds h = ap (λ (t : TerminalState). t.ledger) h.made.terminal ∙ window_ledger old.served.terminal (asked_as message)

-- ---- the messages

abbrev pub both_of : Answered → Answered → Answered
both_of first later = record { bytes = first.bytes ++ later.bytes; count = first.count + later.count }

-- what two answers say together
says_both : (ms ns : List Message) (first later : Answered) → SaysAll ms first → SaysAll ns later
    → SaysAll (ms ++ ns) (both_of first later)
says_both ms ns first later m n =
    record {
      spelled = spelled_append Spells ms ns (first.bytes ++ later.bytes) later.bytes [] (spelled_more Spells ms first.bytes [] later.bytes m.spelled) n.spelled;
      counted = ap (λ (k : ℕ). k + later.count) m.counted ∙ ap (λ (k : ℕ). length ms + k) n.counted ∙ sym (length-append ms ns);
    }

acknowledged_said : (tid : ℕ) (extras : Extras) (second : Report) → said_by tid extras (Two Ack second) ≡ ack [] ∷ said_later tid extras (Two Ack second)
acknowledged_said tid extras second = by_test (is_delayed extras (Two Ack second))
  where
    by_test : (b : Bool) → cond b please_wait (messages_by tid extras (Two Ack second)) ≡ ack [] ∷ drop 1 (cond b please_wait (messages_by tid extras (Two Ack second)))
    by_test true = refl
    by_test false = refl

-- a reply that accepts an order begins with an acknowledgement
accepted_said : (tid : ℕ) (extras : Extras) (reply : Response) → is_accepted reply ≡ true → said_by tid extras reply ≡ ack [] ∷ said_later tid extras reply
accepted_said tid extras Nothing e = absurd cc
accepted_said tid extras (One report) e = absurd cc
accepted_said tid extras (Two Ack second) e = acknowledged_said tid extras second
accepted_said tid extras (Two (Nack code) second) e = absurd cc
accepted_said own extras (Two (Registered tid currency) second) e = absurd cc
accepted_said tid extras (Two (Approved amount number currency) second) e = absurd cc
accepted_said tid extras (Two (Result code) second) e = absurd cc
accepted_said tid extras (Two (TakenBack amount number original currency) second) e = absurd cc
accepted_said tid extras (Two (Line line) second) e = absurd cc
accepted_said tid extras (Two Done second) e = absurd cc
accepted_said tid extras (Two (Aborted code) second) e = absurd cc

-- the delay changes no message
abbrev pub at_once : Extras → Extras
at_once extras = record extras { delay = 0 }

same_message : (tid : ℕ) (extras : Extras) (report : Report) → message_by tid (at_once extras) report ≡ message_by tid extras report
same_message tid extras Ack = refl
same_message tid extras (Nack code) = refl
same_message own extras (Registered tid currency) = refl
same_message tid extras (Approved amount number currency) = refl
same_message tid extras (Result code) = refl
same_message tid extras (TakenBack amount number original currency) = refl
same_message tid extras (Line line) = refl
same_message tid extras Done = refl
same_message tid extras (Aborted code) = refl

same_delayed : (extras : Extras) (reply : Response) → is_delayed (at_once extras) reply ≡ is_delayed extras reply
same_delayed extras Nothing = refl
same_delayed extras (One report) = refl
same_delayed extras (Two first second) = refl

same_said : (tid : ℕ) (extras : Extras) (reply : Response) → said_by tid (at_once extras) reply ≡ said_by tid extras reply
same_said tid extras Nothing = refl
same_said tid extras (One report) = ap (λ (m : Message). m ∷ []) (same_message tid extras report)
same_said tid extras (Two first second) =
    ap (λ (m : Message). cond (is_delayed extras (Two first second)) please_wait (message_of_report first ∷ cond (is_ack first) m (message_of_report second) ∷ []))
    (same_message tid extras second)

-- ---- held, and then answered

and_right : (a b : Bool) → (a && b) ≡ true → b ≡ true
and_right true b e = e
and_right false b e = absurd cc

held_accepted : (extras : Extras) (asked : Asked) (reply : Response) → is_held extras asked reply ≡ true → is_accepted reply ≡ true
held_accepted extras (Authorisation amount named) reply e = and_right (nat_lt 0 extras.delay) (is_accepted reply) e
held_accepted extras (Registration currency) reply e = absurd cc
held_accepted extras (Reversal receipt) reply e = absurd cc
held_accepted extras EndOfDay reply e = absurd cc
held_accepted extras AbortOrder reply e = absurd cc
held_accepted extras Answer reply e = absurd cc
held_accepted extras Unknown reply e = absurd cc

prompt : (extras : Extras) (asked : Asked) (reply : Response) → is_held (at_once extras) asked reply ≡ false
prompt extras (Registration currency) reply = refl
prompt extras (Authorisation amount named) reply = refl
prompt extras (Reversal receipt) reply = refl
prompt extras EndOfDay reply = refl
prompt extras AbortOrder reply = refl
prompt extras Answer reply = refl
prompt extras Unknown reply = refl

-- a terminal that holds a payment is otherwise as before
holding : (old middle : Extended) (payment : Asked) (answers : Answered) → Holds old payment answers middle → middle ≡ record old { held = Some payment }
holding old middle payment answers h =
    ap (λ (s : Served). record middle { served = s }) h.served
    ∙ ap (λ (x : Extras). record middle { served = old.served; extras = x }) h.extras
    ∙ ap (λ (r : Option Refunded). record middle { served = old.served; extras = old.extras; refund = r }) h.refund
    ∙ ap (λ (w : Bool). record middle { served = old.served; extras = old.extras; refund = old.refund; waits = w }) h.waits
    ∙ ap (λ (p : Option Asked). record old { held = p }) h.held

elapsed : (old new : Extended) (asked : Asked) (first later : Answered) → is_accepted (asked_turn old asked).reply ≡ true → SaysAll (ack [] ∷ []) first
    → elapses_while (Some asked) (record old { held = Some asked }) later new
    → holds_or_hears false (undelayed old) asked (both_of first later) (undelayed new)
elapsed old new asked first later accepted acknowledged e =
    let tid : ℕ = old.served.terminal.tid in
    let reply : Response = (asked_turn old asked).reply in
    let says : SaysAll (ack [] ∷ said_later tid old.extras reply) (both_of first later) = says_both (ack [] ∷ []) (said_later tid old.extras reply) first later acknowledged e.1 in
    let all : said_by tid (at_once old.extras) reply ≡ ack [] ∷ said_later tid old.extras reply = same_said tid old.extras reply ∙ accepted_said tid old.extras reply accepted in
    record {
      made =
          record {
            terminal = e.0.terminal;
            refund = e.0.refund;
            waits = e.0.waits ∙ ap (λ (b : Bool). old.waits || b) (sym (same_delayed old.extras reply));
            held = e.0.held;
            verdict = e.0.verdict;
            extras = ap (λ (x : Extras). at_once x) e.0.extras;
          };
      says = subst (λ (ms : List Message). SaysAll ms (both_of first later)) (sym all) says;
    }

pub held_is_answered : HeldIsAnswered
held_is_answered old middle new message first later free h holds e =
    subst (λ (held : Option Asked). hears_while held (undelayed old) message (both_of first later) (undelayed new)) (sym free)
    (by_answer (old.waits && is_answer (asked_as message)) (subst (λ (held : Option Asked). hears_while held old message first middle) free h))
  where
    unfree : middle.held ≡ None → ⊥
    unfree is = true_or_none middle.held is holds

    by_held : (b : Bool) → is_held old.extras (asked_as message) (asked_turn old (asked_as message)).reply ≡ b → holds_or_hears b old (asked_as message) first middle
        → holds_or_hears (is_held (at_once old.extras) (asked_as message) (asked_turn old (asked_as message)).reply) (undelayed old) (asked_as message) (both_of first later) (undelayed new)
    by_held true is h =
        let same : middle ≡ record old { held = Some (asked_as message) } = holding old middle (asked_as message) first h in
        let later_is : elapses_while (Some (asked_as message)) (record old { held = Some (asked_as message) }) later new = subst (λ (m : Extended). elapses_while m.held m later new) same e in
        subst (λ (b : Bool). holds_or_hears b (undelayed old) (asked_as message) (both_of first later) (undelayed new)) (sym (prompt old.extras (asked_as message) (asked_turn old (asked_as message)).reply))
        (elapsed old new (asked_as message) first later (held_accepted old.extras (asked_as message) (asked_turn old (asked_as message)).reply is) h.says later_is)
    by_held false is h = absurd (unfree h.made.held)

    by_extra : (extra : Option Extra) → hears_by extra old message first middle → hears_by extra (undelayed old) message (both_of first later) (undelayed new)
    by_extra None h = by_held (is_held old.extras (asked_as message) (asked_turn old (asked_as message)).reply) refl h
    by_extra (Some extra) h = absurd (unfree h.made.held)

    by_answer : (b : Bool) → hears_or_releases b old message first middle → hears_or_releases b (undelayed old) message (both_of first later) (undelayed new)
    by_answer true h = absurd (unfree (h.held ∙ free))
    by_answer false h = by_extra (heard_extra old.extras message) h
