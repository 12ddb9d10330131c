-- A run keeps its log, its till and what it sent together.
use Rattle.std.proofs.Common.{◌≡◌, ℕ, true, cond, List, [], ◌∷◌, ◌++◌, length, take, drop, Option, Some, None, map, refl, sym, ap, subst, ◌∙◌, append_assoc, append-nil, option_to_list}
use Rattle.std.proofs.lemmas.List.{map-append}
use Rattle.std.proofs.Math.Seq.{take-append_seam}
use Rattle.zvt_apdu.specs.Message.{Message}
use Rattle.zvt_apdu.specs.Briefs.{PutsMessage}
use Rattle.zvt_stream.specs.Apdus.{Spelled}
use Rattle.zvt_till.specs.declared.happenings.Happening.{Happening}
use Rattle.zvt_till.specs.declared.happenings.Happening.TheVariants.{Sent as SentOut, Heard as HeardIn}
use Rattle.zvt_till.specs.declared.orders.Order.{Order}
use Rattle.zvt_till.specs.declared.orders.Order.TheVariants.{Register, Pay, Reverse, CloseDay, Cancel}
use Rattle.zvt_till.specs.declared.orders.OrderRefusal.{OrderRefusal}
use Rattle.zvt_till.specs.declared.orders.OrderRefusal.TheVariants.{Offline, NotRegistered, Busy, NothingToCancel, BookFull, UnknownEntry, AlreadyReversed, NoReceipt, Memory}
use Rattle.zvt_till.specs.declared.orders.Outgoing.{Outgoing}
use Rattle.zvt_till.specs.declared.messages.Heard.{Heard}
use Rattle.zvt_till.specs.Refusals.{Facts, refusal, sent_as}
use Rattle.zvt_till.specs.Sending.{Settings, message_of, reply_to}
use Rattle.zvt_till.specs.Marks.{entries}
use Rattle.zvt_till.specs.Till.{TillState, new_till, step, accept, facts_of}
use Rattle.zvt_till.specs.View.{IsRefusedAs}
use Rattle.zvt_till.specs.Settings.{strict}
use Rattle.zvt_till.specs.Log.{CanFollow, IsLogFrom, facts_in, line_up}
use Rattle.zvt_till.specs.Events.{run_settings, sends, sent_from, message_out, sent_over, IsTied, log_after_order}
use Rattle.zvt_stream.proofs.Beginnings.{spelled_more, spelled_append}
use Rattle.zvt_till.proofs.Segments.{fold-snoc}
use Rattle.zvt_till.proofs.Steps.{steps_meet_log}
use Rattle.zvt_till.proofs.BookStepLemmas.{settings-kept}

pub is_log-snoc : (settings : Settings) (past log : List Happening) (h : Happening) → IsLogFrom settings past log → CanFollow settings (facts_in settings.rules (past ++ log)) h → IsLogFrom settings past (log ++ h ∷ [])
is_log-snoc settings past [] h k c = (subst (λ x. CanFollow settings (facts_in settings.rules x) h) (append-nil past) c, tt)
is_log-snoc settings past (g ∷ log) h k c = (k.0, is_log-snoc settings (past ++ g ∷ []) log h k.1 (subst (λ x. CanFollow settings (facts_in settings.rules x) h) (sym (append_assoc past (g ∷ []) log)) c))

sent-snoc : (past log : List Happening) (h : Happening) → sent_from past (log ++ h ∷ []) ≡ sent_from past log ++ sends (past ++ log) h
sent-snoc past [] h = append-nil (sends past h) ∙ ap (λ x. sends x h) (sym (append-nil past))
sent-snoc past (g ∷ log) h =
    ap (λ x. sends past g ++ x) (sent-snoc (past ++ g ∷ []) log h)
    ∙ sym (append_assoc (sends past g) (sent_from (past ++ g ∷ []) log) (sends ((past ++ g ∷ []) ++ log) h))
    ∙ ap (λ x. (sends past g ++ sent_from (past ++ g ∷ []) log) ++ sends x h) (append_assoc past (g ∷ []) log)

over-snoc : (log : List Happening) (h : Happening) → sent_over (log ++ h ∷ []) ≡ sent_over log ++ map message_out (sends log h)
over-snoc log h = ap (map message_out) (sent-snoc [] log h) ∙ map-append message_out (sent_from [] log) (sends log h)

pub tied-new : IsTied [] (new_till run_settings) []
tied-new = record { allowed = tt; reached = refl; spelled = refl }

pub tied-more : (log : List Happening) (s : TillState) (before after : List ℕ) (h : Happening) → IsTied log s before → CanFollow run_settings (facts_in strict log) h
    → Spelled after (sent_over log ++ map message_out (sends log h)) [] → IsTied (log ++ h ∷ []) (step s h) after
tied-more log s before after h t c more =
    record {
      allowed = is_log-snoc run_settings [] log h t.allowed c;
      reached = ap (λ x. step x h) t.reached ∙ sym (fold-snoc step (new_till run_settings) log h);
      spelled = subst (λ ms. Spelled after ms []) (sym (over-snoc log h)) more;
    }

-- where nothing is sent
pub tied-silent : (log : List Happening) (s : TillState) (sent : List ℕ) (h : Happening) → IsTied log s sent → CanFollow run_settings (facts_in strict log) h → sends log h ≡ []
    → IsTied (log ++ h ∷ []) (step s h) sent
tied-silent log s sent h t c none =
    tied-more log s sent sent h t c (subst (λ (os : List Outgoing). Spelled sent (sent_over log ++ map message_out os) []) (sym none) (subst (λ ms. Spelled sent ms []) (sym (append-nil (sent_over log))) t.spelled))

pub tied-facts : (log : List Happening) (s : TillState) (sent : List ℕ) → IsTied log s sent → facts_of s ≡ facts_in strict log
tied-facts log s sent t = ap facts_of t.reached ∙ steps_meet_log run_settings log t.allowed

pub tied-line : (log : List Happening) (s : TillState) (sent : List ℕ) → IsTied log s sent → s.line_up ≡ line_up log
tied-line log s sent t = ap (λ f. f.line_up) (tied-facts log s sent t)

tied-book : (log : List Happening) (s : TillState) (sent : List ℕ) → IsTied log s sent → s.book ≡ entries strict log
tied-book log s sent t = ap (λ f. f.book) (tied-facts log s sent t)

pub tied-settings : (log : List Happening) (s : TillState) (sent : List ℕ) → IsTied log s sent → s.settings ≡ run_settings
tied-settings log s sent t = ap (λ x. x.settings) t.reached ∙ settings-kept run_settings log

pub follows-order : (settings : Settings) (f : Facts) (o : Order) → refusal f o ≡ None → CanFollow settings f (SentOut (sent_as settings.currency o))
follows-order settings f Register e = (refl, e)
follows-order settings f (Pay a) e = (refl, e)
follows-order settings f (Reverse k) e = (refl, e)
follows-order settings f CloseDay e = (refl, e)
follows-order settings f Cancel e = (refl, e)

pub step-order : (own : ℕ) (s : TillState) (o : Order) → step s (SentOut (sent_as own o)) ≡ accept s o
step-order own s Register = refl
step-order own s (Pay a) = refl
step-order own s (Reverse k) = refl
step-order own s CloseDay = refl
step-order own s Cancel = refl

sends-order : (log : List Happening) (o : Order) → sends log (SentOut (sent_as run_settings.currency o)) ≡ option_to_list (message_of run_settings (entries strict log) o)
sends-order log Register = refl
sends-order log (Pay a) = refl
sends-order log (Reverse k) = refl
sends-order log CloseDay = refl
sends-order log Cancel = refl

no-refusal : (log : List Happening) (s : TillState) (sent : List ℕ) (o : Order) (r : Option OrderRefusal) → IsTied log s sent → refusal (facts_of s) o ≡ r → refusal (facts_in strict log) o ≡ r
no-refusal log s sent o r t e = ap (λ f. refusal f o) (sym (tied-facts log s sent t)) ∙ e

-- an accepted order
pub tied-order : (log : List Happening) (s : TillState) (before after : List ℕ) (o : Order) (out : Outgoing) → IsTied log s before → refusal (facts_of s) o ≡ None → message_of s.settings s.book o ≡ Some out
    → ((ms : List Message) → Spelled before ms [] → Spelled after (ms ++ message_out out ∷ []) []) → IsTied (log ++ SentOut (sent_as run_settings.currency o) ∷ []) (accept s o) after
tied-order log s before after o out t e sent more =
    let same : message_of run_settings (entries strict log) o ≡ Some out =
    ap (λ k. message_of k (entries strict log) o) (sym (tied-settings log s before t)) ∙ ap (λ b. message_of s.settings b o) (sym (tied-book log s before t)) ∙ sent in
    let goes : sends log (SentOut (sent_as run_settings.currency o)) ≡ out ∷ [] = sends-order log o ∙ ap option_to_list same in
    let spelled : Spelled after (sent_over log ++ map message_out (sends log (SentOut (sent_as run_settings.currency o)))) [] =
    subst (λ (os : List Outgoing). Spelled after (sent_over log ++ map message_out os) []) (sym goes) (more (sent_over log) t.spelled) in
    subst (λ x. IsTied (log ++ SentOut (sent_as run_settings.currency o) ∷ []) x after) (step-order run_settings.currency s o)
    (tied-more log s before after (SentOut (sent_as run_settings.currency o)) t (follows-order run_settings (facts_in strict log) o (no-refusal log s before o None t e)) spelled)

pub log-order : (log : List Happening) (s : TillState) (sent : List ℕ) (o : Order) → IsTied log s sent → refusal (facts_of s) o ≡ None
    → log ++ SentOut (sent_as run_settings.currency o) ∷ [] ≡ log_after_order log o (refusal (facts_in strict log) o)
log-order log s sent o t e = ap (log_after_order log o) (sym (no-refusal log s sent o None t e))

pub log-refused : (log : List Happening) (s : TillState) (sent : List ℕ) (o : Order) (why : OrderRefusal) → IsTied log s sent → refusal (facts_of s) o ≡ Some why
    → log ≡ log_after_order log o (refusal (facts_in strict log) o)
log-refused log s sent o why t e = ap (log_after_order log o) (sym (no-refusal log s sent o (Some why) t e))

-- a refusal other than out of memory
pub refused-plainly : (f : Facts) (spare : ℕ) (o : Order) (why : OrderRefusal) → IsRefusedAs f spare o why → (why ≡ Memory → ⊥) → refusal f o ≡ Some why
refused-plainly f spare Register why r n = r
refused-plainly f spare (Pay a) Offline r n = r
refused-plainly f spare (Pay a) NotRegistered r n = r
refused-plainly f spare (Pay a) Busy r n = r
refused-plainly f spare (Pay a) NothingToCancel r n = r
refused-plainly f spare (Pay a) BookFull r n = r
refused-plainly f spare (Pay a) UnknownEntry r n = r
refused-plainly f spare (Pay a) AlreadyReversed r n = r
refused-plainly f spare (Pay a) NoReceipt r n = r
refused-plainly f spare (Pay a) Memory r n = absurd (n refl)
refused-plainly f spare (Reverse e) why r n = r
refused-plainly f spare CloseDay why r n = r
refused-plainly f spare Cancel why r n = r

reply-up : (log : List Happening) (s : TillState) (sent : List ℕ) (m : Heard) → IsTied log s sent → line_up log ≡ true → cond s.line_up (reply_to m) None ≡ reply_to m
reply-up log s sent m t up = ap (λ b. cond b (reply_to m) None) (tied-line log s sent t ∙ up)

-- a message without an answer
pub tied-unanswered : (log : List Happening) (s : TillState) (sent : List ℕ) (m : Heard) → IsTied log s sent → line_up log ≡ true → None ≡ cond s.line_up (reply_to m) None
    → IsTied (log ++ HeardIn m ∷ []) (step s (HeardIn m)) sent
tied-unanswered log s sent m t up e = tied-silent log s sent (HeardIn m) t up (ap option_to_list (sym (e ∙ reply-up log s sent m t up)))

-- a message with its answer
pub tied-answered : (log : List Happening) (s : TillState) (before after : List ℕ) (m : Heard) (out : Outgoing) → IsTied log s before → line_up log ≡ true → Some out ≡ cond s.line_up (reply_to m) None
    → ((ms : List Message) → Spelled before ms [] → Spelled after (ms ++ message_out out ∷ []) []) → IsTied (log ++ HeardIn m ∷ []) (step s (HeardIn m)) after
tied-answered log s before after m out t up e more =
    let goes : sends log (HeardIn m) ≡ out ∷ [] = ap option_to_list (sym (e ∙ reply-up log s before m t up)) in
    tied-more log s before after (HeardIn m) t up (subst (λ (os : List Outgoing). Spelled after (sent_over log ++ map message_out os) []) (sym goes) (more (sent_over log) t.spelled))

-- one message more
pub sent-more : (m : Message) (old new sent after : List ℕ) (count : ℕ) → PutsMessage m old new count → after ≡ sent ++ take count new → (ms : List Message) → Spelled sent ms [] → Spelled after (ms ++ m ∷ []) []
sent-more m old new sent after count p e ms s =
    let prefix : take count new ≡ p.bytes = ap (λ (t : List ℕ). take count t) p.puts.0 ∙ ap (λ (k : ℕ). take k (p.bytes ++ drop (length p.bytes) old)) p.puts.1 ∙ take-append_seam p.bytes (drop (length p.bytes) old) in
    let whole : Spelled (sent ++ p.bytes) (ms ++ m ∷ []) [] = spelled_append ms (m ∷ []) (sent ++ p.bytes) p.bytes [] (spelled_more ms sent [] p.bytes s) (p.bytes, [], sym (append-nil p.bytes), p.spelled, refl) in
    subst (λ (t : List ℕ). Spelled t (ms ++ m ∷ []) []) (sym (e ∙ ap (λ (t : List ℕ). sent ++ t) prefix)) whole
