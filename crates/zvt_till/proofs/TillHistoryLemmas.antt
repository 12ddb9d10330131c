-- What orders on a line do to the log of the till that has it.
use Rattle.std.proofs.Common.{◌≡◌, ℕ, Bool, true, false, cond, List, [], ◌∷◌, ◌++◌, Option, Some, None, map, refl, sym, ap, subst, ◌∙◌, append_assoc, append-nil}
use Rattle.zvt_apdu.specs.Message.{Message}
use Rattle.zvt_stream.specs.LineReading.{SpelledBy}
use Rattle.zvt_stream.specs.StreamState.{StreamState}
use Rattle.zvt_stream.specs.Answered.{Answered}
use Rattle.zvt_stream.specs.Hearing.{Hears}
use Rattle.zvt_stream.specs.LineRun.{Breaks, Reported}
use Rattle.zvt_stream.specs.declared.line.LineFault.{LineFault}
use Rattle.zvt_stream.specs.declared.line.LineFault.TheVariants as faults
use Rattle.zvt_till.specs.declared.happenings.Happening.{Happening}
use Rattle.zvt_till.specs.declared.happenings.Happening.TheVariants.{Sent as SentOut}
use Rattle.zvt_till.specs.declared.orders.Order.{Order}
use Rattle.zvt_till.specs.declared.orders.OrderRefusal.{OrderRefusal}
use Rattle.zvt_till.specs.declared.orders.OrderRefusal.TheVariants.{Offline}
use Rattle.zvt_till.specs.Refusals.{refusal, session_refusal, asked_refusal, or_else, sent_as}
use Rattle.zvt_till.specs.Sending.{Settings}
use Rattle.zvt_till.specs.Till.{TillState, new_till, step, facts_of}
use Rattle.zvt_till.specs.View.{TillValue}
use Rattle.zvt_till.specs.Log.{CanFollow, facts_in, line_after, line_up}
use Rattle.zvt_till.specs.Events.{hears}
use Rattle.zvt_till.specs.Line.{till_hears, till_loses, till_malforms}
use Rattle.zvt_till.specs.Keeping.{SendsAlone}
use Rattle.zvt_till.specs.TillHistory.{Stands, RunsAreLogged, reported_as, FaultsAreLogged}
use Rattle.zvt_till.proofs.Segments.{fold-snoc}
use Rattle.zvt_till.proofs.Steps.{steps_meet_log}
use Rattle.zvt_till.proofs.Runs.{is_log-snoc, follows-order, step-order}
use Rattle.zvt_till.proofs.Lines.{up-heard}

pub stands-more : (settings : Settings) (log : List Happening) (s : TillState) (h : Happening) → Stands settings log s → CanFollow settings (facts_in settings.rules log) h → Stands settings (log ++ h ∷ []) (step s h)
stands-more settings log s h t c = (is_log-snoc settings [] log h t.0 c, ap (λ x. step x h) t.1 ∙ sym (fold-snoc step (new_till settings) log h))

offline : (up : Bool) (next asked : Option OrderRefusal) → or_else (cond up next (Some Offline)) asked ≡ None → up ≡ true
offline true next asked e = refl
offline false next asked e = absurd cc

-- a till with an order that was sent
stands-order : (settings : Settings) (log : List Happening) (o : Order) (old new : TillValue) (first last : Option (List ℕ)) → Stands settings log old.state → SendsAlone o old new first last
    → Stands settings (log ++ SentOut (sent_as settings.currency o) ∷ []) new.state × (line_up (log ++ SentOut (sent_as settings.currency o) ∷ []) ≡ true)
stands-order settings log o old new first last t sent =
    let facts : facts_of old.state ≡ facts_in settings.rules log = ap facts_of t.1 ∙ steps_meet_log settings log t.0 in
    let none : refusal (facts_in settings.rules log) o ≡ None = ap (λ f. refusal f o) (sym facts) ∙ sent.ordered.taken in
    let more = stands-more settings log old.state (SentOut (sent_as settings.currency o)) t (follows-order settings (facts_in settings.rules log) o none) in
    let f = facts_in settings.rules log in
    let up : line_up log ≡ true = offline f.line_up (session_refusal f o) (asked_refusal f o) none in
    (subst (λ s. Stands settings (log ++ SentOut (sent_as settings.currency o) ∷ []) s) (step-order settings.currency old.state o ∙ sym sent.ordered.runs) more, fold-snoc line_after false log (SentOut (sent_as settings.currency o)) ∙ up)

-- and then hears messages
stands-heard : (settings : Settings) (log : List Happening) (old new : TillValue) (messages : List Message) (answers : List Answered) → Stands settings log old.state → line_up log ≡ true → Hears till_hears old messages answers new
    → Stands settings (log ++ map hears messages) new.state × (line_up (log ++ map hears messages) ≡ true)
stands-heard settings log old new [] [] t up h =
    subst (λ l. Stands settings l new.state × (line_up l ≡ true)) (sym (append-nil log)) (subst (λ (v : TillValue). Stands settings log v.state) h t, up)
stands-heard settings log old new (m ∷ messages) (a ∷ answers) t up h =
    let one = stands-more settings log old.state (hears m) t up in
    let more = stands-heard settings (log ++ hears m ∷ []) h.0 new messages answers (subst (λ s. Stands settings (log ++ hears m ∷ []) s) (sym h.1.0) one) (up-heard log m up) h.2 in
    subst (λ l. Stands settings l new.state × (line_up l ≡ true)) (append_assoc log (hears m ∷ []) (map hears messages)) more
stands-heard settings log old new [] (a ∷ answers) t up h = absurd h
stands-heard settings log old new (m ∷ messages) [] t up h = absurd h

-- an order and the messages after it
after-order : (settings : Settings) (log : List Happening) (o : Order) (old sent new : TillValue) (first last : Option (List ℕ)) (messages : List Message) (answers : List Answered) → Stands settings log old.state → SendsAlone o old sent first last → Hears till_hears sent messages answers new
    → Stands settings (log ++ SentOut (sent_as settings.currency o) ∷ map hears messages) new.state × (line_up (log ++ SentOut (sent_as settings.currency o) ∷ map hears messages) ≡ true)
after-order settings log o old sent new first last messages answers t s h =
    let order = stands-order settings log o old sent first last t s in
    subst (λ l. Stands settings l new.state × (line_up l ≡ true)) (append_assoc log (SentOut (sent_as settings.currency o) ∷ []) (map hears messages))
    (stands-heard settings (log ++ SentOut (sent_as settings.currency o) ∷ []) sent new messages answers order.0 order.1 h)

pub runs_are_logged : RunsAreLogged
runs_are_logged settings log order outcome before after old new coming left first last turns reads_before reads_after t r =
    let heard = r.comes.pumped.course.heard in
    (after-order settings log order old r.comes.sent_till new first r.comes.between heard.messages heard.answers t r.comes.sends heard.heard).0

-- the messages that were heard before a fault
record Before (before : StreamState) (read : List ℕ) (old new : TillValue) : Type 0 where
  messages : List Message
  answers : List Answered
  rest : List ℕ
  spelled : SpelledBy before.reading (before.held ++ read) messages rest
  heard : Hears till_hears old messages answers new

heard-before : (fault : LineFault) (before after : StreamState) (read written : List ℕ) (old new : TillValue) → Breaks till_hears fault before read after old new written → Before before read old new
heard-before faults.Read before after read written old new b = record { messages = _; answers = _; rest = _; spelled = b.1.heard.spelled; heard = b.1.heard.heard }
heard-before (faults.Ended have) before after read written old new b = record { messages = _; answers = _; rest = _; spelled = b.1.heard.spelled; heard = b.1.heard.heard }
heard-before faults.Turns before after read written old new b = record { messages = _; answers = _; rest = _; spelled = b.1.heard.spelled; heard = b.1.heard.heard }
heard-before (faults.Malformed place why) before after read written old new b = record { messages = _; answers = _; rest = _; spelled = b.2.spelled; heard = b.2.heard }
heard-before faults.Memory before after read written old new b = record { messages = _; answers = _; rest = _; spelled = b.2.spelled; heard = b.2.heard }
heard-before faults.Write before after read written old new b = record { messages = _; answers = _; rest = _; spelled = b.spelled; heard = b.heard }
heard-before faults.Stopped before after read written old new b = record { messages = []; answers = []; rest = _; spelled = refl; heard = b.1 }

reported-step : (fault : LineFault) (old new : TillValue) → Reported till_loses till_malforms fault old new → new.state ≡ step old.state (reported_as fault)
reported-step faults.Read old new t = t.0
reported-step (faults.Ended have) old new t = t.0
reported-step faults.Turns old new t = t.0
reported-step (faults.Malformed place why) old new t = t.0
reported-step faults.Memory old new t = t.0
reported-step faults.Write old new t = t.0
reported-step faults.Stopped old new t = t.0

can-be-reported : (settings : Settings) (fault : LineFault) (log : List Happening) → line_up log ≡ true → CanFollow settings (facts_in settings.rules log) (reported_as fault)
can-be-reported settings faults.Read log up = tt
can-be-reported settings (faults.Ended have) log up = tt
can-be-reported settings faults.Turns log up = tt
can-be-reported settings (faults.Malformed place why) log up = up
can-be-reported settings faults.Memory log up = tt
can-be-reported settings faults.Write log up = tt
can-be-reported settings faults.Stopped log up = up

pub faults_are_logged : FaultsAreLogged
faults_are_logged settings log fault order before after old new coming left first last turns reads_before reads_after t b =
    let heard = heard-before fault before after b.broken.read b.broken.written b.sent_till b.middle b.broken.breaks in
    let here = log ++ SentOut (sent_as settings.currency order) ∷ map hears heard.messages in
    let stands = after-order settings log order old b.sent_till b.middle first b.between heard.messages heard.answers t b.sends heard.heard in
    let stands_after = stands-more settings here b.middle.state (reported_as fault) stands.0 (can-be-reported settings fault here stands.1) in
    let whole = append_assoc log (SentOut (sent_as settings.currency order) ∷ map hears heard.messages) (reported_as fault ∷ []) in
    (heard.messages, heard.rest, heard.spelled, subst (λ l. Stands settings l new.state) whole (subst (λ s. Stands settings (here ++ reported_as fault ∷ []) s) (sym (reported-step fault b.middle new b.reported)) stands_after))
