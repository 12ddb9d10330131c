-- The status that a terminal withholds is the status that is due.
use Rattle.std.proofs.Common.{◌≡◌, ◌∙◌, ◌&&◌, ◌||◌, Bool, true, false, cond, is_some, nat_lt, List, [], ◌∷◌, Option, Some, None, ap, refl, sym, subst}
use Rattle.std.specs.Option.{option_or}
use Rattle.zvt_apdu.specs.Message.{Message}
use Rattle.zvt_stream.specs.Answered.{Answered}
use Rattle.zvt_term.specs.declared.messages.Asked.{Asked}
use Rattle.zvt_term.specs.declared.messages.Asked.TheVariants.{Registration, Authorisation, Reversal, EndOfDay, AbortOrder, Answer, Unknown}
use Rattle.zvt_term.specs.declared.messages.Report.{Report}
use Rattle.zvt_term.specs.declared.messages.Report.TheVariants.{Ack, Aborted}
use Rattle.zvt_term.specs.declared.messages.Response.{Response}
use Rattle.zvt_term.specs.declared.messages.Response.TheVariants.{Nothing, One, Two}
use Rattle.zvt_term.specs.declared.ledger.Row.{Row}
use Rattle.zvt_term.specs.declared.turns.Turn.{Turn}
use Rattle.zvt_term.specs.declared.extras.Extra.{Extra}
use Rattle.zvt_term.specs.declared.extras.Extras.{Extras}
use Rattle.zvt_term.specs.declared.refunds.Refunded.{Refunded}
use Rattle.zvt_term.specs.declared.extended.Extended.{Extended}
use Rattle.zvt_term.specs.declared.served.Served.{Served}
use Rattle.zvt_term.specs.Asking.{asked_as}
use Rattle.zvt_term.specs.Dressing.{is_delayed}
use Rattle.zvt_term.specs.Extended.{ExtendedLoses, MakesTurn, Releases, asked_turn, elapses_while, extended_elapses, extended_hears, extra_turn, heard_extra, held_after, hears_by, hears_or_releases, hears_while, holds_or_hears, is_accepted, is_answer, is_held, new_extended, refund_by, status_due, window_turn}
use Rattle.zvt_term.specs.Terminal.{TerminalState, after, authorises, is_idle, stays, when}
use Rattle.zvt_term.specs.Withheld.{Event, Heard, Elapsed, Lost, Lives, WithheldIsDue, turn_by, withheld_after, withheld_by, withheld_later, withheld_then, withheld_while}
use Rattle.zvt_term.proofs.Owing.{IsOwed, IsWithin, Owes, Stays, aborts_owes, extra_owes, extra_stays, neither, not_ready, profile_owes, profile_stays, refuses_owes, silent}

-- ---- any event

-- while a payment is held, nothing is withheld
abbrev pub IsFree : Option Asked → Option Report → Type 0
IsFree held withheld = (payment : Asked) → held ≡ Some payment → withheld ≡ None

unheld_free : (held : Option Asked) (withheld : Option Report) → held ≡ None → IsFree held withheld
unheld_free held withheld e payment is = absurd cc

pub record Keeps (terminal : Extended) (withheld : Option Report) : Type 0 where
  pub within : IsWithin terminal.refund terminal.served.terminal.ledger
  pub waits : terminal.waits ≡ is_some withheld
  pub owed : IsOwed terminal.served.terminal terminal.refund withheld
  pub free : IsFree terminal.held withheld

delayed_some : (b : Bool) (report : Report) → b ≡ is_some (cond b (Some report) None)
delayed_some true report = refl
delayed_some false report = refl

-- a status is delayed exactly where one is withheld
withheld_some : (extras : Extras) (reply : Response) → is_delayed extras reply ≡ is_some (withheld_by extras reply)
withheld_some extras Nothing = refl
withheld_some extras (One report) = refl
withheld_some extras (Two first second) = delayed_some (is_delayed extras (Two first second)) second

or_none : (o : Option Report) → o ≡ option_or o None
or_none None = refl
or_none (Some report) = refl

-- a terminal that withholds nothing makes a turn
first_withheld : (old new : Extended) (turn : Turn) (refunded : Option Refunded) (held : Option Asked) → MakesTurn old turn refunded held new → Keeps old None
    → Owes old.served.terminal old.refund refunded turn → IsFree held (withheld_by old.extras turn.reply) → Keeps new (withheld_then old None turn.reply)
first_withheld old new turn refunded held h k o free =
    let s = old.served.terminal in
    let withheld : Option Report = withheld_by old.extras turn.reply in
    let waits : new.waits ≡ is_some withheld = h.waits ∙ ap (λ (b : Bool). b || is_delayed old.extras turn.reply) k.waits ∙ withheld_some old.extras turn.reply in
    let owed : IsOwed new.served.terminal new.refund withheld =
    subst (λ (t : TerminalState). IsOwed t new.refund withheld) (sym h.terminal)
    (subst (λ (r : Option Refunded). IsOwed (after s turn) r withheld) (sym h.refund) (o.owed old.extras)) in
    let within : IsWithin new.refund new.served.terminal.ledger =
    subst (λ (t : TerminalState). IsWithin new.refund t.ledger) (sym h.terminal) (subst (λ (r : Option Refunded). IsWithin r (after s turn).ledger) (sym h.refund) o.within) in
    let frees : IsFree new.held withheld = subst (λ (p : Option Asked). IsFree p withheld) (sym h.held) free in
    subst (λ (w : Option Report). Keeps new w) (or_none withheld) (record { within = within; waits = waits; owed = owed; free = frees })

-- a terminal that withholds a status makes a turn
still_withheld : (old new : Extended) (turn : Turn) (refunded : Option Refunded) (report : Report) → MakesTurn old turn refunded None new → Keeps old (Some report)
    → Stays old.served.terminal refunded turn → Keeps new (withheld_then old (Some report) turn.reply)
still_withheld old new turn refunded report h k o =
    let same : new.served.terminal ≡ old.served.terminal = h.terminal ∙ o.same in
    let refund : new.refund ≡ old.refund = h.refund ∙ ap (λ (r : Option Refunded). option_or r old.refund) o.none in
    let waits : new.waits ≡ true = h.waits ∙ ap (λ (b : Bool). b || is_delayed old.extras turn.reply) k.waits in
    let owed : IsOwed new.served.terminal new.refund (Some report) =
    subst (λ (t : TerminalState). IsOwed t new.refund (Some report)) (sym same) (subst (λ (r : Option Refunded). IsOwed old.served.terminal r (Some report)) (sym refund) k.owed) in
    let within : IsWithin new.refund new.served.terminal.ledger =
    subst (λ (t : TerminalState). IsWithin new.refund t.ledger) (sym same) (subst (λ (r : Option Refunded). IsWithin r old.served.terminal.ledger) (sym refund) k.within) in
    subst (λ (w : Option Report). Keeps new (option_or w (Some report))) (sym (o.quiet old.extras))
    (record { within = within; waits = waits; owed = owed; free = unheld_free new.held (Some report) h.held })

none_free : (held : Option Asked) → IsFree held None
none_free held payment is = refl

-- a terminal whose ledger and refunds stay, and that withholds nothing
quiet_keeps : (old new : Extended) (withheld : Option Report) → Keeps old withheld → new.served.terminal.ledger ≡ old.served.terminal.ledger → new.refund ≡ old.refund → new.waits ≡ false
    → Keeps new None
quiet_keeps old new withheld k ledger refund waits =
    record {
      within =
          subst (λ (rows : List Row). IsWithin new.refund rows) (sym ledger)
          (subst (λ (r : Option Refunded). IsWithin r old.served.terminal.ledger) (sym refund) k.within);
      waits = waits;
      owed = tt;
      free = none_free new.held;
    }

-- ---- payments that are held

-- while an order runs, no payment is held
runs_unheld : (terminal : Extended) (asked : Asked) → is_idle terminal.served.terminal.phase ≡ false → is_held terminal.extras asked (asked_turn terminal asked).reply ≡ false
runs_unheld terminal (Registration currency) e = refl
runs_unheld terminal (Authorisation amount named) e =
    let s : TerminalState = terminal.served.terminal in
    subst (λ (b : Bool). (nat_lt 0 terminal.extras.delay && is_accepted (when b s (authorises s amount named terminal.served.verdict)).reply) ≡ false) (sym (not_ready s e))
    (neither (nat_lt 0 terminal.extras.delay))
runs_unheld terminal (Reversal receipt) e = refl
runs_unheld terminal EndOfDay e = refl
runs_unheld terminal AbortOrder e = refl
runs_unheld terminal Answer e = refl
runs_unheld terminal Unknown e = refl

window_owes : (s : TerminalState) (last : Option Refunded) (asked : Asked) → IsWithin last s.ledger → Owes s last None (window_turn s asked)
window_owes s last (Registration currency) h = refuses_owes s last 131 h
window_owes s last (Authorisation amount named) h = refuses_owes s last 131 h
window_owes s last (Reversal receipt) h = refuses_owes s last 131 h
window_owes s last EndOfDay h = refuses_owes s last 131 h
window_owes s last AbortOrder h = aborts_owes s last 108 h
window_owes s last Answer h = refuses_owes s last 131 h
window_owes s last Unknown h = refuses_owes s last 131 h

window_quiet : (s : TerminalState) (extras : Extras) (asked : Asked) → withheld_by extras (window_turn s asked).reply ≡ None
window_quiet s extras (Registration currency) = refl
window_quiet s extras (Authorisation amount named) = refl
window_quiet s extras (Reversal receipt) = refl
window_quiet s extras EndOfDay = refl
window_quiet s extras AbortOrder = silent extras Ack (Aborted 108) refl
window_quiet s extras Answer = refl
window_quiet s extras Unknown = refl

window_keeps : (old new : Extended) (asked : Asked) (held : Option Asked) → Keeps old None → MakesTurn old (window_turn old.served.terminal asked) None held new
    → Keeps new (withheld_then old None (window_turn old.served.terminal asked).reply)
window_keeps old new asked held k h =
    first_withheld old new (window_turn old.served.terminal asked) None held h k (window_owes old.served.terminal old.refund asked k.within)
    (λ payment is. window_quiet old.served.terminal old.extras asked)

elapses_keeps : (old new : Extended) (asked : Asked) → Keeps old None → MakesTurn old (asked_turn old asked) None None new → Keeps new (withheld_then old None (asked_turn old asked).reply)
elapses_keeps old new asked k h =
    first_withheld old new (asked_turn old asked) None None h k (profile_owes old.extras.receipts old.served.terminal old.refund asked old.served.verdict k.within)
    (unheld_free None (withheld_by old.extras (asked_turn old asked).reply) refl)

-- ---- messages

-- a message of the profile, while nothing is withheld
asked_keeps : (old new : Extended) (message : Message) (answers : Answered) (b : Bool) → Keeps old None → holds_or_hears b old (asked_as message) answers new
    → Keeps new (withheld_then old None (cond b (stays old.served.terminal (One Ack)) (asked_turn old (asked_as message))).reply)
asked_keeps old new message answers true k h =
    quiet_keeps old new None k (ap (λ (s : Served). s.terminal.ledger) h.served) h.refund (h.waits ∙ k.waits)
asked_keeps old new message answers false k h = elapses_keeps old new (asked_as message) k h.made

hears_keeps : (old new : Extended) (message : Message) (answers : Answered) (withheld : Option Report) (extra : Option Extra) → (old.waits && is_answer (asked_as message)) ≡ false
    → Keeps old withheld → hears_by extra old message answers new → Keeps new (withheld_then old withheld (turn_by extra old message).reply)
hears_keeps old new message answers None None unanswered k h =
    asked_keeps old new message answers (is_held old.extras (asked_as message) (asked_turn old (asked_as message)).reply) k h
hears_keeps old new message answers None (Some extra) unanswered k h =
    first_withheld old new _ (refund_by old.served.terminal old.refund extra) None h.made k (extra_owes old.served.terminal old.refund extra k.within)
    (unheld_free None (withheld_by old.extras (extra_turn old.served.terminal old.refund extra).reply) refl)
hears_keeps old new message answers (Some report) None unanswered k h =
    let asked : Asked = asked_as message in
    let not_answer : is_answer asked ≡ false = ap (λ (b : Bool). b && is_answer asked) (sym k.waits) ∙ unanswered in
    let unheld : is_held old.extras asked (asked_turn old asked).reply ≡ false = runs_unheld old asked k.owed.0 in
    let heard : holds_or_hears false old asked answers new = subst (λ (b : Bool). holds_or_hears b old asked answers new) unheld h in
    subst (λ (b : Bool). Keeps new (withheld_then old (Some report) (cond b (stays old.served.terminal (One Ack)) (asked_turn old asked)).reply)) (sym unheld)
    (still_withheld old new (asked_turn old asked) None report heard.made k (profile_stays old.extras.receipts old.served.terminal asked old.served.verdict k.owed.0 not_answer))
hears_keeps old new message answers (Some report) (Some extra) unanswered k h =
    still_withheld old new _ (refund_by old.served.terminal old.refund extra) report h.made k (extra_stays old.served.terminal old.refund extra k.owed.0)

releases_keeps : (old new : Extended) (answers : Answered) (withheld : Option Report) → Keeps old withheld → Releases old answers new → Keeps new None
releases_keeps old new answers withheld k h = quiet_keeps old new withheld k (ap (λ (s : Served). s.terminal.ledger) h.served) h.refund h.waits

loses_keeps : (old new : Extended) (withheld : Option Report) → Keeps old withheld → ExtendedLoses old new → Keeps new None
loses_keeps old new withheld k h = quiet_keeps old new withheld k (ap (λ (t : TerminalState). t.ledger) h.served.0) h.refund h.waits

message_keeps : (old new : Extended) (message : Message) (answers : Answered) (withheld : Option Report) → Keeps old withheld → extended_hears old message answers new
    → Keeps new (withheld_after old withheld message)
message_keeps old new message answers withheld k h = by_held old.held refl h
  where
    by_test : (b : Bool) → (old.waits && is_answer (asked_as message)) ≡ b → hears_or_releases b old message answers new
        → Keeps new (cond b None (withheld_then old withheld (turn_by (heard_extra old.extras message) old message).reply))
    by_test true e released = releases_keeps old new answers withheld k released
    by_test false e heard = hears_keeps old new message answers withheld (heard_extra old.extras message) e k heard

    by_held : (held : Option Asked) → old.held ≡ held → hears_while held old message answers new → Keeps new (withheld_while held old withheld message)
    by_held None e h = by_test (old.waits && is_answer (asked_as message)) refl h
    by_held (Some payment) e h =
        let none : withheld ≡ None = k.free payment e in
        subst (λ (w : Option Report). Keeps new (withheld_then old w (window_turn old.served.terminal (asked_as message)).reply)) (sym none)
        (window_keeps old new (asked_as message) (held_after payment (asked_as message)) (subst (λ (w : Option Report). Keeps old w) none k) h.made)

elapse_keeps : (old new : Extended) (answers : Answered) (withheld : Option Report) → Keeps old withheld → extended_elapses old answers new → Keeps new (withheld_later old.held old withheld)
elapse_keeps old new answers withheld k h = by_held old.held refl h
  where
    by_held : (held : Option Asked) → old.held ≡ held → elapses_while held old answers new → Keeps new (withheld_later held old withheld)
    by_held None e h = subst (λ (t : Extended). Keeps t withheld) (sym h.0) k
    by_held (Some payment) e h =
        let none : withheld ≡ None = k.free payment e in
        subst (λ (w : Option Report). Keeps new (withheld_then old w (asked_turn old payment).reply)) (sym none)
        (elapses_keeps old new payment (subst (λ (w : Option Report). Keeps old w) none k) h.0)

lives_keeps : (events : List Event) (before withheld : Option Report) (old new : Extended) → Keeps old before → Lives events before old withheld new → Keeps new withheld
lives_keeps [] before withheld old new k h = subst (λ (t : Extended). Keeps t withheld) (sym h.1) (subst (λ (w : Option Report). Keeps old w) (sym h.0) k)
lives_keeps (Lost ∷ events) before withheld old new k h = lives_keeps events None withheld h.0 new (loses_keeps old h.0 before k h.1) h.2
lives_keeps (Elapsed ∷ events) before withheld old new k h =
    lives_keeps events (withheld_later old.held old before) withheld h.0 new (elapse_keeps old h.0 h.1 before k h.2) h.3
lives_keeps (Heard message ∷ events) before withheld old new k h =
    lives_keeps events (withheld_after old before message) withheld h.0 new (message_keeps old h.0 message h.1 before k h.2) h.3

due_of : (terminal : Extended) (withheld : Option Report) (report : Report) → IsOwed terminal.served.terminal terminal.refund withheld → withheld ≡ Some report
    → status_due terminal.served.terminal terminal.refund ≡ Some report
due_of terminal withheld report owed e = let is : IsOwed terminal.served.terminal terminal.refund (Some report) = subst (λ (w : Option Report). IsOwed terminal.served.terminal terminal.refund w) e owed in is.1

pub withheld_is_due : WithheldIsDue
withheld_is_due tid verdict extras events withheld terminal h =
    let k = lives_keeps events None withheld (new_extended tid verdict extras) terminal (record { within = tt; waits = refl; owed = tt; free = none_free None }) h in
    (k.waits, λ report e. due_of terminal withheld report k.owed e)
