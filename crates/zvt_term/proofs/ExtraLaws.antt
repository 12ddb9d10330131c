-- The laws of orders beyond the profile.
use Rattle.std.proofs.Common.{◌≡◌, ℕ, ◌∙◌, ◌++◌, ◌∷◌, ◌&&◌, ◌||◌, Bool, true, false, cond, List, [], Option, Some, None, length, map, ap, refl, sym, subst, append-nil}
use Rattle.std.proofs.lemmas.List.{length-map}
use Rattle.zvt_apdu.specs.Message.{Message, ack, nack, registration, authorisation, reversal, end_of_day, abort_order, status, intermediate, print_line, text_block, completion, abort, other}
use Rattle.zvt_stream.specs.Answered.{Answered}
use Rattle.zvt_stream.specs.Apdus.{Spelled}
use Rattle.zvt_term.specs.declared.messages.Asked.{Asked}
use Rattle.zvt_term.specs.declared.messages.Asked.TheVariants.{Registration, Authorisation, Reversal, EndOfDay, AbortOrder, Answer, Unknown}
use Rattle.zvt_term.specs.declared.messages.Report.{Report}
use Rattle.zvt_term.specs.declared.messages.Report.TheVariants.{Ack, Nack, Registered, Approved, Result, TakenBack, Line, Done, Aborted}
use Rattle.zvt_term.specs.declared.messages.Response.{Response}
use Rattle.zvt_term.specs.declared.messages.Response.TheVariants.{Nothing, One, Two}
use Rattle.zvt_term.specs.declared.ledger.Row.{Row}
use Rattle.zvt_term.specs.declared.turns.Phase.{Phase}
use Rattle.zvt_term.specs.declared.turns.Turn.{Turn}
use Rattle.zvt_term.specs.declared.turns.Verdict.{Verdict}
use Rattle.zvt_term.specs.declared.extras.Extra.{Extra}
use Rattle.zvt_term.specs.declared.extras.Extra.TheVariants.{RepeatReceipt}
use Rattle.zvt_term.specs.declared.extras.Extras.{Extras}
use Rattle.zvt_term.specs.declared.extras.Receipts.TheVariants.{Lines}
use Rattle.zvt_term.specs.declared.extended.Extended.{Extended}
use Rattle.zvt_term.specs.Asking.{asked_as}
use Rattle.zvt_term.specs.Dressing.{SaysAll, is_ack, is_delayed, message_by, said_by}
use Rattle.zvt_term.specs.Extended.{ExtrasKeepLedger, HearsTurn, PlainIsServed, RepeatsChangeNothing, asked_turn, extended_hears, extra_turn, heard_extra, hears_by, hears_or_releases, hears_while, holds_or_hears, is_answer, is_held, last_report, profile_turn, refund_by, repeats, window_turn}
use Rattle.zvt_term.specs.Extras.{extra_of, no_extras}
use Rattle.zvt_term.specs.Reports.{message_of_report}
use Rattle.zvt_term.specs.Steps.{Says}
use Rattle.zvt_term.specs.Terminal.{TerminalState, after, is_ready, reports_of, turn_of, when}
use Rattle.zvt_term.proofs.ExtraLemmas.{same_ledger, window_ledger}

-- ---- without extras

plain_turn : (s : TerminalState) (asked : Asked) (v : Verdict) → profile_turn Lines s asked v ≡ turn_of s asked v
plain_turn s (Registration currency) v = refl
plain_turn s (Authorisation amount named) v = refl
plain_turn s (Reversal receipt) v = refl
plain_turn s EndOfDay v = refl
plain_turn s AbortOrder v = refl
plain_turn s Answer v = refl
plain_turn s Unknown v = refl

plain_message : (tid : ℕ) (report : Report) → message_by tid no_extras report ≡ message_of_report report
plain_message tid Ack = refl
plain_message tid (Nack code) = refl
plain_message own (Registered tid currency) = refl
plain_message tid (Approved amount number currency) = refl
plain_message tid (Result code) = refl
plain_message tid (TakenBack amount number original currency) = refl
plain_message tid (Line line) = refl
plain_message tid Done = refl
plain_message tid (Aborted code) = refl

either_way : (b : Bool) (m n : Message) → m ≡ n → cond b m n ≡ n
either_way true m n e = e
either_way false m n e = refl

plain_said : (tid : ℕ) (reply : Response) → said_by tid no_extras reply ≡ map message_of_report (reports_of reply)
plain_said tid Nothing = refl
plain_said tid (One report) = ap (λ (m : Message). m ∷ []) (plain_message tid report)
plain_said tid (Two first second) = ap (λ (m : Message). message_of_report first ∷ m ∷ []) (either_way (is_ack first) (message_by tid no_extras second) (message_of_report second) (plain_message tid second))

plain_prompt : (reply : Response) → is_delayed no_extras reply ≡ false
plain_prompt Nothing = refl
plain_prompt (One report) = refl
plain_prompt (Two first second) = refl

says_reports : (tid : ℕ) (reply : Response) (answers : Answered) → SaysAll (said_by tid no_extras reply) answers → Says (reports_of reply) answers
says_reports tid reply answers h =
    record {
      spelled = subst (λ (ms : List Message). Spelled answers.bytes ms []) (plain_said tid reply) h.spelled;
      counted = h.counted ∙ ap length (plain_said tid reply) ∙ length-map (reports_of reply) message_of_report;
    }

plain_prompts : (asked : Asked) (reply : Response) → is_held no_extras asked reply ≡ false
plain_prompts (Registration currency) reply = refl
plain_prompts (Authorisation amount named) reply = refl
plain_prompts (Reversal receipt) reply = refl
plain_prompts EndOfDay reply = refl
plain_prompts AbortOrder reply = refl
plain_prompts Answer reply = refl
plain_prompts Unknown reply = refl

plain_hears : (old new : Extended) (message : Message) (answers : Answered) → old.extras ≡ no_extras → old.waits ≡ false → old.held ≡ None → extended_hears old message answers new
    → HearsTurn old (profile_turn old.extras.receipts old.served.terminal (asked_as message) old.served.verdict) None None answers new
plain_hears old new message answers none quiet free h =
    let asked : Asked = asked_as message in
    let reply : Response = (asked_turn old asked).reply in
    let unheld : is_held old.extras asked reply ≡ false = ap (λ (e : Extras). is_held e asked reply) none ∙ plain_prompts asked reply in
    let begun : hears_or_releases (old.waits && is_answer asked) old message answers new = subst (λ (p : Option Asked). hears_while p old message answers new) free h in
    subst (λ (b : Bool). holds_or_hears b old asked answers new) unheld
    (subst (λ (e : Extras). hears_by (heard_extra e message) old message answers new) none
    (subst (λ (b : Bool). hears_or_releases (b && is_answer asked) old message answers new) quiet begun))

pub plain_is_served : PlainIsServed
plain_is_served old new message answers none quiet free h =
    let t = plain_hears old new message answers none quiet free h in
    let s : TerminalState = old.served.terminal in
    let turn : Turn = profile_turn old.extras.receipts s (asked_as message) old.served.verdict in
    let same : turn ≡ turn_of s (asked_as message) old.served.verdict =
    ap (λ (e : Extras). profile_turn e.receipts s (asked_as message) old.served.verdict) none ∙ plain_turn s (asked_as message) old.served.verdict in
    let says : SaysAll (said_by s.tid no_extras turn.reply) answers = subst (λ (e : Extras). SaysAll (said_by s.tid e turn.reply) answers) none t.says in
    let waits : new.waits ≡ (false || is_delayed no_extras turn.reply) =
    t.made.waits ∙ ap (λ (b : Bool). b || is_delayed old.extras turn.reply) quiet ∙ ap (λ (e : Extras). is_delayed e turn.reply) none in (
      (
        record {
          state = t.made.terminal ∙ ap (λ (u : Turn). after s u) same;
          says = says_reports s.tid (turn_of s (asked_as message) old.served.verdict).reply answers (subst (λ (u : Turn). SaysAll (said_by s.tid no_extras u.reply) answers) same says);
        },
        t.made.verdict,
      ),
      t.made.extras ∙ none,
      waits ∙ plain_prompt turn.reply,
      t.made.held,
    )

-- ---- orders beyond the profile

no_answer : (b : Bool) (message : Message) (extra : Extra) → cond b (extra_of message) None ≡ Some extra → is_answer (asked_as message) ≡ false
no_answer true (ack payload) extra e = absurd cc
no_answer false (ack payload) extra e = absurd cc
no_answer true (nack code payload) extra e = absurd cc
no_answer false (nack code payload) extra e = absurd cc
no_answer b (registration password config rest) extra e = refl
no_answer b (authorisation fields) extra e = refl
no_answer b (reversal password fields) extra e = refl
no_answer b (end_of_day password fields) extra e = refl
no_answer b (abort_order fields) extra e = refl
no_answer b (status fields) extra e = refl
no_answer b (intermediate step payload) extra e = refl
no_answer b (print_line attribute text) extra e = refl
no_answer b (text_block fields) extra e = refl
no_answer b (completion fields) extra e = refl
no_answer b (abort code payload) extra e = refl
no_answer b (other high low payload) extra e = refl

neither : (b : Bool) → (b && false) ≡ false
neither true = refl
neither false = refl

extra_hears : (old new : Extended) (extra : Extra) (message : Message) (answers : Answered) → heard_extra old.extras message ≡ Some extra → hears_while None old message answers new
    → HearsTurn old (extra_turn old.served.terminal old.refund extra) (refund_by old.served.terminal old.refund extra) None answers new
extra_hears old new extra message answers is h =
    let turns : (old.waits && is_answer (asked_as message)) ≡ false =
    ap (λ (b : Bool). old.waits && b) (no_answer old.extras.extended message extra is) ∙ neither old.waits in
    subst (λ (o : Option Extra). hears_by o old message answers new) is (subst (λ (b : Bool). hears_or_releases b old message answers new) turns h)

pub extras_keep_ledger : ExtrasKeepLedger
extras_keep_ledger old new extra message answers is h = by_held old.held h
  where
    by_held : (held : Option Asked) → hears_while held old message answers new → new.served.terminal.ledger ≡ old.served.terminal.ledger
    by_held None h = ap (λ (t : TerminalState). t.ledger) (extra_hears old new extra message answers is h).made.terminal ∙ same_ledger old.served.terminal old.refund extra
    by_held (Some payment) h = ap (λ (t : TerminalState). t.ledger) h.made.terminal ∙ window_ledger old.served.terminal (asked_as message)

same_rows : (s : TerminalState) (p : Phase) → record s { phase = p; ledger = s.ledger ++ [] } ≡ record s { phase = p }
same_rows s p = ap (λ (l : List Row). record s { phase = p; ledger = l }) (append-nil s.ledger)

repeats_stay : (s : TerminalState) (ready : Bool) (report : Option Report) → after s (when ready s (repeats s report)) ≡ record s { phase = (when ready s (repeats s report)).phase }
repeats_stay s true None = same_rows s _
repeats_stay s true (Some report) = same_rows s _
repeats_stay s false report = same_rows s _

window_stays : (s : TerminalState) (asked : Asked) → after s (window_turn s asked) ≡ record s { phase = (window_turn s asked).phase }
window_stays s (Registration currency) = same_rows s _
window_stays s (Authorisation amount named) = same_rows s _
window_stays s (Reversal receipt) = same_rows s _
window_stays s EndOfDay = same_rows s _
window_stays s AbortOrder = same_rows s _
window_stays s Answer = same_rows s _
window_stays s Unknown = same_rows s _

pub repeats_change_nothing : RepeatsChangeNothing
repeats_change_nothing old new message answers is h = by_held old.held h
  where
    alone : (turn : Turn) → after old.served.terminal turn ≡ record old.served.terminal { phase = turn.phase } → new.served.terminal ≡ after old.served.terminal turn → new.served.terminal ≡ record old.served.terminal { phase = new.served.terminal.phase }
    alone turn stay e = e ∙ (stay ∙ ap (λ (p : Phase). record old.served.terminal { phase = p }) (sym (ap (λ (u : TerminalState). u.phase) e)))

    by_held : (held : Option Asked) → hears_while held old message answers new → (new.served.terminal ≡ record old.served.terminal { phase = new.served.terminal.phase }) × (new.refund ≡ old.refund)
    by_held None h =
        let t = (extra_hears old new RepeatReceipt message answers is h).made in
        (alone (extra_turn old.served.terminal old.refund RepeatReceipt) (repeats_stay old.served.terminal (is_ready old.served.terminal) (last_report old.served.terminal.ledger old.refund)) t.terminal, t.refund)
    by_held (Some payment) h = (alone (window_turn old.served.terminal (asked_as message)) (window_stays old.served.terminal (asked_as message)) h.made.terminal, h.made.refund)
