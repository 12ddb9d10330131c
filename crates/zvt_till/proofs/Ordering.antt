-- What orders one after another do to the log of the till that takes them, however each went.
use Rattle.std.proofs.Common.{◌≡◌, ℕ, List, [], ◌∷◌, ◌++◌, Option, map, refl, sym, ap, subst, ◌∙◌, append_assoc, append-nil, inl, inr}
use Rattle.std.specs.Prelude.{Result, Ok, Err}
use Rattle.zvt_apdu.specs.Message.{Message}
use Rattle.zvt_stream.specs.StreamState.{StreamState}
use Rattle.zvt_stream.specs.declared.line.LineFault.{LineFault}
use Rattle.zvt_stream.specs.declared.line.LineFault.TheVariants as faults
use Rattle.zvt_till.specs.declared.happenings.Happening.{Happening}
use Rattle.zvt_till.specs.declared.happenings.Happening.TheVariants.{Connected, Sent as SentOut, Heard as HeardIn, Malformed, Lost}
use Rattle.zvt_till.specs.declared.happenings.Sent.{Sent}
use Rattle.zvt_till.specs.declared.line.RunFault.{RunFault}
use Rattle.zvt_till.specs.declared.line.RunFault.TheVariants.{Order as OrderFault, Line, Book as BookBroke}
use Rattle.zvt_till.specs.declared.orders.Order.{Order}
use Rattle.zvt_till.specs.declared.outcomes.Outcome.{Outcome}
use Rattle.zvt_till.specs.Refusals.{refusal, sent_as}
use Rattle.zvt_till.specs.Sending.{Settings}
use Rattle.zvt_till.specs.Till.{TillState, step, facts_of}
use Rattle.zvt_till.specs.View.{TillValue}
use Rattle.zvt_till.specs.Log.{facts_in}
use Rattle.zvt_till.specs.Events.{hears}
use Rattle.zvt_till.specs.Keeping.{FailsAlone}
use Rattle.zvt_till.specs.TillHistory.{Stands, reported_as, UnsentAreLogged, Takes, Readies, TakesAll, sent_by, sent_by_all, sent_in, OrdersAreLogged}
use Rattle.zvt_till.proofs.Steps.{steps_meet_log}
use Rattle.zvt_till.proofs.Runs.{follows-order, step-order}
use Rattle.zvt_till.proofs.TillHistoryLemmas.{stands-more, runs_are_logged, faults_are_logged}

pub unsent_are_logged : UnsentAreLogged
unsent_are_logged settings log fault order old new first last t n =
    let facts : facts_of old.state ≡ facts_in settings.rules log = ap facts_of t.1 ∙ steps_meet_log settings log t.0 in
    let sent = stands-more settings log old.state (SentOut (sent_as settings.currency order)) t (follows-order settings (facts_in settings.rules log) order (ap (λ f. refusal f order) (sym facts) ∙ n.3.taken)) in
    let lost = stands-more settings (log ++ SentOut (sent_as settings.currency order) ∷ []) (step old.state (SentOut (sent_as settings.currency order))) Lost sent tt in
    let same : step (step old.state (SentOut (sent_as settings.currency order))) Lost ≡ new.state = ap (λ s. step s Lost) (step-order settings.currency old.state order ∙ sym n.3.runs) ∙ sym n.4.0 in
    subst (λ l. Stands settings l new.state) (append_assoc log (SentOut (sent_as settings.currency order) ∷ []) (Lost ∷ []))
    (subst (λ s. Stands settings ((log ++ SentOut (sent_as settings.currency order) ∷ []) ++ Lost ∷ []) s) same lost)

-- messages bring no orders
sent-heard : (messages : List Message) (more : List Happening) → sent_in (map hears messages ++ more) ≡ sent_in more
sent-heard [] more = refl
sent-heard (m ∷ messages) more = sent-heard messages more

sent-reported : (fault : LineFault) → sent_in (reported_as fault ∷ []) ≡ []
sent-reported faults.Read = refl
sent-reported (faults.Ended have) = refl
sent-reported faults.Turns = refl
sent-reported (faults.Malformed place why) = refl
sent-reported faults.Memory = refl
sent-reported faults.Write = refl
sent-reported faults.Stopped = refl

sent-append : (prefix back : List Happening) → sent_in (prefix ++ back) ≡ sent_in prefix ++ sent_in back
sent-append [] back = refl
sent-append (Connected ∷ prefix) back = sent-append prefix back
sent-append (SentOut order ∷ prefix) back = ap (λ x. order ∷ x) (sent-append prefix back)
sent-append (HeardIn m ∷ prefix) back = sent-append prefix back
sent-append (Malformed ∷ prefix) back = sent-append prefix back
sent-append (Lost ∷ prefix) back = sent-append prefix back

-- what happens next to a till, and the orders in it
record Adds (settings : Settings) (log : List Happening) (state : TillState) (orders : List Sent) : Type 0 where
  added : List Happening
  stands : Stands settings (log ++ added) state
  sent : sent_in added ≡ orders

adds-nothing : (settings : Settings) (log : List Happening) (old new : TillState) → new ≡ old → Stands settings log old → Adds settings log new []
adds-nothing settings log old new e t = record { added = []; stands = subst (λ l. Stands settings l new) (sym (append-nil log)) (subst (λ s. Stands settings log s) (sym e) t); sent = refl }

readied : (settings : Settings) (log : List Happening) (old new : TillValue) → Stands settings log old.state → Readies old new → Adds settings log new.state []
readied settings log old new t (inl e) = adds-nothing settings log old.state new.state (ap (λ (v : TillValue). v.state) e) t
readied settings log old new t (inr e) =
    record { added = Connected ∷ []; stands = subst (λ s. Stands settings (log ++ Connected ∷ []) s) (sym e) (stands-more settings log old.state Connected t tt); sent = refl }

failed : (settings : Settings) (log : List Happening) (fault : RunFault) (order : Order) (before after : StreamState) (old new : TillValue) (coming left first last : Option (List ℕ)) (turns reads_before reads_after : ℕ)
    → Stands settings log old.state → FailsAlone fault order before after old new coming left first last turns reads_before reads_after → Adds settings log new.state (sent_by settings.currency order (Err fault))
failed settings log (OrderFault why) order before after old new coming left first last turns reads_before reads_after t (inl n) =
    adds-nothing settings log old.state new.state (ap (λ (v : TillValue). v.state) n.0.0.1) t
failed settings log (Line fault) order before after old new coming left first last turns reads_before reads_after t (inl n) =
    record { added = SentOut (sent_as settings.currency order) ∷ Lost ∷ []; stands = unsent_are_logged settings log fault order old new first last t n.0; sent = refl }
failed settings log fault order before after old new coming left first last turns reads_before reads_after t (inr (inl (broken, e, b))) =
    let l = faults_are_logged settings log broken order before after old new coming left first last turns reads_before reads_after t b in
    subst (λ f. Adds settings log new.state (sent_by settings.currency order (Err f))) (sym e)
    (record {
      added = SentOut (sent_as settings.currency order) ∷ (map hears l.0 ++ reported_as broken ∷ []);
      stands = l.3;
      sent = ap (λ x. sent_as settings.currency order ∷ x) (sent-heard l.0 (reported_as broken ∷ []) ∙ sent-reported broken);
    })
failed settings log (BookBroke why) order before after old new coming left first last turns reads_before reads_after t (inl n) = absurd n.0.0
failed settings log fault order before after old new coming left first last turns reads_before reads_after t (inr (inr book)) = absurd (cc)

took : (settings : Settings) (log : List Happening) (order : Order) (answer : Result Outcome RunFault) (old new : TillValue) → Stands settings log old.state → Takes order answer old new
    → Adds settings log new.state (sent_by settings.currency order answer)
took settings log order (Ok outcome) old new t k =
    let messages = k.went.comes.pumped.course.heard.messages in
    record {
      added = SentOut (sent_as settings.currency order) ∷ map hears messages;
      stands = runs_are_logged settings log order outcome k.before k.after old new k.coming k.left k.first k.last k.turns k.reads_before k.reads_after t k.went;
      sent = ap (λ x. sent_as settings.currency order ∷ x) (ap sent_in (sym (append-nil (map hears messages))) ∙ sent-heard messages []);
    }
took settings log order (Err fault) old new t k =
    failed settings log fault order k.before k.after old new k.coming k.left k.first k.last k.turns k.reads_before k.reads_after t k.went

joined : (settings : Settings) (log : List Happening) (state : TillState) (prefix : List Happening) (first rest : List Sent)
    → sent_in prefix ≡ first → Adds settings (log ++ prefix) state rest → Adds settings log state (first ++ rest)
joined settings log state prefix first rest e a =
    record {
      added = prefix ++ a.added;
      stands = subst (λ l. Stands settings l state) (append_assoc log prefix a.added) a.stands;
      sent = sent-append prefix a.added ∙ ap (λ x. x ++ sent_in a.added) e ∙ ap (λ x. first ++ x) a.sent;
    }

took-all : (settings : Settings) (log : List Happening) (taken : List (Order × Result Outcome RunFault)) (old new : TillValue) → Stands settings log old.state → TakesAll old taken new
    → Adds settings log new.state (sent_by_all settings.currency taken)
took-all settings log [] old new t e = adds-nothing settings log old.state new.state (ap (λ (v : TillValue). v.state) (sym e)) t
took-all settings log (taken ∷ more) old new t (ready, next, r, k, rest) =
    let a = readied settings log old ready t r in
    let b = took settings (log ++ a.added) taken.0 taken.1 ready next a.stands k in
    let c = took-all settings ((log ++ a.added) ++ b.added) more next new b.stands rest in
    joined settings log new.state a.added [] (sent_by_all settings.currency (taken ∷ more)) a.sent (joined settings (log ++ a.added) new.state b.added (sent_by settings.currency taken.0 taken.1) (sent_by_all settings.currency more) b.sent c)

pub orders_are_logged : OrdersAreLogged
orders_are_logged settings log taken old new t k =
    let a = took-all settings log taken old new t k in
    (a.added, a.stands, ap facts_of a.stands.1 ∙ steps_meet_log settings (log ++ a.added) a.stands.0, a.sent)
