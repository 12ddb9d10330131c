-- What a crash leaves of a journal while a till runs an order.
use Rattle.std.proofs.Common.{◌≡◌, ⊎_elim, ℕ, true, false, List, [], ◌∷◌, ◌++◌, map, Option, Ok, Err, sym, ap, subst, ◌∙◌, append_assoc}
use Rattle.zvt_apdu.specs.Message.{Message}
use Rattle.zvt_stream.specs.Answered.{Answered}
use Rattle.zvt_stream.specs.Hearing.{Hears as HearsAll}
use Rattle.zvt_stream.specs.LineRun.{Reported}
use Rattle.zvt_stream.specs.declared.line.LineFault.{LineFault}
use Rattle.zvt_stream.specs.declared.line.LineFault.TheVariants.{Read, Write, Ended, Turns, Malformed, Memory, Stopped}
use Rattle.zvt_till.specs.declared.happenings.Happening.{Happening}
use Rattle.zvt_till.specs.declared.happenings.Happening.TheVariants.{Sent as SentOut}
use Rattle.zvt_till.specs.declared.orders.Order.{Order}
use Rattle.zvt_till.specs.declared.orders.Order.TheVariants.{Register, Pay, Reverse, CloseDay, Cancel}
use Rattle.zvt_till.specs.declared.orders.Outgoing.{Outgoing}
use Rattle.zvt_till.specs.Events.{hears}
use Rattle.zvt_till.specs.Line.{NotSent}
use Rattle.zvt_till.specs.declared.keeper.BookFault.TheVariants.{NoSpace, Failed as BookFailed}
use Rattle.zvt_till.specs.declared.line.RunFault.{RunFault}
use Rattle.zvt_till.specs.declared.line.RunFault.TheVariants.{Order as OrderFault, Line as LineBroke, Book as BookBroke}
use Rattle.zvt_till.proofs.Keepers.{heard-before}
use Rattle.zvt_till.specs.Refusals.{sent_as}
use Rattle.zvt_till.specs.Sending.{Settings}
use Rattle.zvt_till.specs.Till.{TillState, accept}
use Rattle.zvt_journal.specs.Device.{LeavesOnly}
use Rattle.zvt_journal.proofs.Moments.{and_then}
use Rattle.zvt_kept.specs.Keeping.{kept_orders}
use Rattle.zvt_kept.specs.KeptTill.{HasLog, Hears, KeptValue, LeavesLogs, LosesLine, Ordered, has_failed}
use Rattle.zvt_kept.specs.Outliving.{IsBetween, RunsOutlive}
use Rattle.zvt_kept.proofs.Logged.{weaker}
use Rattle.zvt_kept.proofs.Made.{records_are_kept}
use Rattle.zvt_kept.proofs.Outlived.{hearings_outlive, one_earlier, quiet, with_one}
use Rattle.zvt_kept.proofs.Spaceless.{leaves_the_log}
use Rattle.zvt_kept.proofs.Steps.{taken_up}

pub accept_up : (s : TillState) (order : Order) → s.line_up ≡ true → (accept s order).line_up ≡ true
accept_up s Register up = up
accept_up s (Pay amount) up = up
accept_up s (Reverse entry) up = up
accept_up s CloseDay up = up
accept_up s Cancel up = up

module _ {D : Type 0} (seen : D → List ℕ) (may_leave : D → List ℕ → Type 0) (moment : D → ℕ) (left_since : D → ℕ → List ℕ → Type 0) (faults : D → ℕ) where
  same_device : (fault : LineFault) (middle new : KeptValue D) → Reported (LosesLine seen may_leave moment left_since faults) (LosesLine seen may_leave moment left_since faults) fault middle new → new.standing.device ≡ middle.standing.device
  same_device Read middle new r = r.1
  same_device (Ended have) middle new r = r.1
  same_device Turns middle new r = r.1
  same_device (Malformed place why) middle new r = r.1
  same_device Memory middle new r = r.1
  same_device Write middle new r = r.1
  same_device Stopped middle new r = r.1

  module _ (only_now : (device : D) (file : List ℕ) → left_since device (moment device) file → may_leave device file) where
    abbrev pub Left : Settings → List Happening → Order → (old new : D) → List Message → Type 0
    Left settings log order old new messages = LeavesOnly moment left_since old new (IsBetween settings log (SentOut (sent_as settings.currency order) ∷ map hears messages))

    pub after_order : (settings : Settings) (log : List Happening) (order : Order) (old new : D) (messages : List Message)
        → LeavesOnly moment left_since old new (LeavesLogs settings log (SentOut (sent_as settings.currency order) ∷ [])) → Left settings log order old new messages
    after_order settings log order old new messages leaves =
        weaker records_are_kept seen may_leave moment left_since faults old new (LeavesLogs settings log (SentOut (sent_as settings.currency order) ∷ [])) (IsBetween settings log (SentOut (sent_as settings.currency order) ∷ map hears messages)) leaves
        (λ file. with_one settings log (SentOut (sent_as settings.currency order)) (map hears messages) file)

    -- an order that was not sent
    pub unsent_outlives : (settings : Settings) (log : List Happening) (order : Order) (fault : RunFault) (old new : KeptValue D) (first last : Option (List ℕ))
        → HasLog seen may_leave moment left_since faults settings log old.standing → NotSent (kept_orders seen may_leave moment left_since faults) (LosesLine seen may_leave moment left_since faults) fault order old new first last → Left settings log order old.standing.device new.standing.device []
    unsent_outlives settings log order (OrderFault why) old new first last has n =
        subst (λ (k : KeptValue D). Left settings log order old.standing.device k.standing.device []) (sym n.0.1) (quiet seen may_leave moment left_since faults only_now settings log (SentOut (sent_as settings.currency order) ∷ []) old.standing has)
    unsent_outlives settings log order (BookBroke NoSpace) old new first last has n = leaves_the_log seen may_leave moment left_since faults old.standing new.standing n.0.0.full settings log (SentOut (sent_as settings.currency order) ∷ []) has
    unsent_outlives settings log order (BookBroke BookFailed) old new first last has n = after_order settings log order old.standing.device new.standing.device [] (n.0.2.outlives settings log has)
    unsent_outlives settings log order (LineBroke fault) old new first last has n =
        subst (λ (d : D). Left settings log order old.standing.device d []) (sym n.4.1) (after_order settings log order old.standing.device n.2.standing.device [] (n.3.0.0.outlives settings log has))

    -- an order is taken, and then messages are heard
    pub after_messages : (settings : Settings) (log : List Happening) (order : Order) (outgoing : Outgoing) (old sent new : KeptValue D) (messages : List Message) (answers : List Answered)
        → HasLog seen may_leave moment left_since faults settings log old.standing → Ordered seen may_leave moment left_since faults order outgoing old.standing sent.standing
        → HearsAll (Hears seen may_leave moment left_since faults) sent messages answers new
        → Left settings log order old.standing.device new.standing.device messages × (has_failed new ≡ false → HasLog seen may_leave moment left_since faults settings (log ++ SentOut (sent_as settings.currency order) ∷ map hears messages) new.standing)
    after_messages settings log order outgoing old sent new messages answers has o h =
        let s = SentOut (sent_as settings.currency order) in
        let up = ap (λ t. t.line_up) o.runs ∙ accept_up old.standing.till.state order (taken_up old.standing.till.state order o.taken) in
        let rest = hearings_outlive seen may_leave moment left_since faults only_now settings (log ++ s ∷ []) sent new messages answers (o.logs settings log has) up h in (
          and_then moment left_since old.standing.device sent.standing.device new.standing.device (IsBetween settings log (s ∷ map hears messages)) (IsBetween settings (log ++ s ∷ []) (map hears messages))
              (after_order settings log order old.standing.device sent.standing.device messages (o.outlives settings log has)) rest.0 (λ file. one_earlier settings log s (map hears messages) file),
          λ whole. subst (λ l. HasLog seen may_leave moment left_since faults settings l new.standing) (append_assoc log (s ∷ []) (map hears messages)) (rest.1 whole),
        )

    pub runs_outlive : RunsOutlive seen may_leave moment left_since faults
    runs_outlive settings log order before after old new coming left first last turns reads_before reads_after (Ok outcome) has ran =
        let comes = ran.comes in
        let heard = comes.pumped.course.heard in
        (heard.messages, (after_messages settings log order comes.sends.outgoing old comes.sent_till new heard.messages heard.answers has comes.sends.ordered.0.0 heard.heard).0)
    runs_outlive settings log order before after old new coming left first last turns reads_before reads_after (Err fault) has ran = ⊎_elim
        (λ unsent. ([], unsent_outlives settings log order fault old new first last has unsent.0))
        (λ more. ⊎_elim
        (λ broke.
        let b = broke.2 in
        let h = heard-before (Hears seen may_leave moment left_since faults) broke.0 before after b.broken.read b.broken.written b.sent_till b.middle b.broken.breaks in
        (h.0, subst (λ (d : D). Left settings log order old.standing.device d h.0) (sym (same_device broke.0 b.middle new b.reported)) (after_messages settings log order b.sends.outgoing old b.sent_till b.middle h.0 h.1 has b.sends.ordered.0.0 h.2).0))
        (λ failed.
        let comes = failed.2 in
        let heard = comes.pumped.course.heard in
        (heard.messages, (after_messages settings log order comes.sends.outgoing old comes.sent_till new heard.messages heard.answers has comes.sends.ordered.0.0 heard.heard).0))
        more)
        ran
