-- Once a till that asks has lost its line, neither an order nor an ask is running.
use Rattle.std.proofs.Common.{◌≡◌, ⊎_elim, ℕ, Bool, true, false, cond, List, Option, Some, None, refl, sym, ap, ap₂, subst, ◌∙◌, option_map}
use Rattle.std.specs.Prelude.{◌&&◌, Result, Ok, length}
use Rattle.zvt_apdu.specs.Message.{Message}
use Rattle.zvt_stream.specs.Answered.{Answered}
use Rattle.zvt_stream.specs.Hearing.{Hears}
use Rattle.zvt_stream.specs.LineRun.{Reported}
use Rattle.zvt_stream.specs.declared.line.LineFault.{LineFault}
use Rattle.zvt_stream.specs.declared.line.LineFault.TheVariants as faults
use Rattle.zvt_till.specs.declared.happenings.Happening.TheVariants.{Heard as HeardIn, Malformed, Lost}
use Rattle.zvt_till.specs.declared.keeper.BookFault.TheVariants.{NoSpace, Failed}
use Rattle.zvt_till.specs.declared.keeper.Untaken.{Untaken}
use Rattle.zvt_till.specs.declared.line.RunFault.{RunFault}
use Rattle.zvt_till.specs.declared.line.RunFault.TheVariants.{Order as OrderFault, Line as LineBroke, Book as BookBroke}
use Rattle.zvt_till.specs.declared.messages.Heard.{Heard}
use Rattle.zvt_till.specs.declared.orders.Order.{Order}
use Rattle.zvt_till.specs.declared.outcomes.Outcome.{Outcome}
use Rattle.zvt_till.specs.declared.statuses.Running.{Running}
use Rattle.zvt_till.specs.Hearing.{heard_as}
use Rattle.zvt_till.specs.Line.{is_idle}
use Rattle.zvt_till.specs.Till.{TillState, meet, meet_running, outcome_at}
use Rattle.zvt_till.specs.View.{TillValue}
use Rattle.zvt_till.proofs.Keepers.{by-hearings}
use Rattle.zvt_settle.specs.AskRuns.{IsSilent, IsSilentAfter, NotAsked, Rests}
use Rattle.zvt_settle.specs.Askers.{IsAsker, both_as, both_rest}
use Rattle.zvt_settle.specs.OnLine.{asks_nothing}
use Rattle.zvt_settle.specs.Settling.{Both, Line, Settling, asks, ended_as, meets, met, noted, take}
use Rattle.zvt_settle.proofs.OrderEnds.{ended-asking}

-- ---- the states

ended-as-asking : (s : Settling) (order : Option Order) (out : Option Outcome) (place : ℕ) → (ended_as s order out place).asking ≡ s.asking
ended-as-asking s None out place = refl
ended-as-asking s (Some order) None place = refl
ended-as-asking s (Some order) (Some out) place = ended-asking s order out place

met-lost : (t : TillState) (s : Settling) (asking : Option Bool) → s.asking ≡ asking → (met t s asking Lost).asking ≡ None
met-lost t s None e = ended-as-asking s (option_map (λ r. r.order) t.running) (outcome_at t Lost) (length t.unclear) ∙ e
met-lost t s (Some positive) e = refl

met-malformed : (t : TillState) (s : Settling) (asking : Option Bool) → s.asking ≡ asking → (met t s asking Malformed).asking ≡ None
met-malformed t s None e = ended-as-asking s (option_map (λ r. r.order) t.running) (outcome_at t Malformed) (length t.unclear) ∙ e
met-malformed t s (Some positive) e = refl

idle-lost : (s : TillState) (run : Option Running) → s.running ≡ run → (elim run as (λ x. TillState) [ None ↦ s | Some r ↦ meet_running s r Lost ]).running ≡ None
idle-lost s None e = e
idle-lost s (Some r) e = refl

idle-malformed : (s : TillState) (run : Option Running) → s.running ≡ run → (elim run as (λ x. TillState) [ None ↦ s | Some r ↦ meet_running s r Malformed ]).running ≡ None
idle-malformed s None e = e
idle-malformed s (Some r) e = refl

pub lost-silent : (b : Both) → IsSilent (take b (Line Lost))
lost-silent b = (record { order = idle-lost b.till b.till.running refl; ask = met-lost b.till (noted b.settling Lost) b.settling.asking refl }, refl)

pub malformed-silent : (b : Both) → IsSilent (take b (Line Malformed))
malformed-silent b = (record { order = idle-malformed b.till b.till.running refl; ask = met-malformed b.till (noted b.settling Malformed) b.settling.asking refl }, refl)

heard-silent : (b : Both) (m : Heard) → IsSilent b → IsSilent (take b (Line (HeardIn m)))
heard-silent b m silent =
    let same : take b (Line (HeardIn m)) ≡ b =
    ap (λ (up : Bool). record { till = cond up (meet b.till (HeardIn m)) b.till; settling = cond up (meets b.till b.settling (HeardIn m)) b.settling }) silent.1 in
    subst IsSilent (sym same) silent

by-rest : (run : Option Running) (asking : Option Bool) → (is_idle run && asks_nothing asking) ≡ true → (run ≡ None) × (asking ≡ None)
by-rest None None is = (refl, refl)
by-rest None (Some positive) is = absurd cc
by-rest (Some r) asking is = absurd cc

rests : (b : Both) → both_rest b ≡ true → Rests b
rests b is = let none = by-rest b.till.running b.settling.asking is in record { order = none.0; ask = none.1 }

-- ---- whoever asks

module _ {K : Type 0} {asked : K → Result (List ℕ) Untaken → K → Type 0} {hears : K → Message → Answered → K → Type 0} {loses malforms : K → K → Type 0} {is_resting : K → Bool}
    {till : K → TillValue} {settling : K → Settling} {failed : K → Bool} (is_asker : IsAsker asked hears loses malforms is_resting till settling failed) where
  abbrev both : K → Both
  both k = both_as (till k) (settling k)

  -- once the book failed, nothing is running
  abbrev pub Stays : K → Type 0
  Stays k = failed k ≡ true → IsSilent (both k)

  one-stays : (old : K) (m : Message) (a : Answered) (new : K) → hears old m a new → Stays old → Stays new
  one-stays old m a new h stays = ⊎_elim
      (λ same. λ is. subst IsSilent (sym same.0) (stays (sym same.1 ∙ is)))
      (λ more. ⊎_elim
      (λ heard. λ is. subst IsSilent (sym heard.0) (heard-silent (both old) (heard_as m) (stays (sym heard.1 ∙ is))))
      (λ lost. λ is. subst IsSilent (sym lost) (lost-silent (both old)))
      more)
      (is_asker.hears_as old m a new h)

  pub hearings-stay : (old new : K) (messages : List Message) (answers : List Answered) → Hears hears old messages answers new → Stays old → Stays new
  hearings-stay old new messages answers h stays = by-hearings hears Stays one-stays old new messages answers h stays

  loses-silent : (old new : K) → loses old new → IsSilent (both new)
  loses-silent old new l = subst IsSilent (sym (is_asker.loses_as old new l)) (lost-silent (both old))

  malforms-silent : (old new : K) → malforms old new → IsSilent (both new)
  malforms-silent old new l = ⊎_elim (λ lost. subst IsSilent (sym lost) (lost-silent (both old))) (λ broke. subst IsSilent (sym broke) (malformed-silent (both old))) (is_asker.malforms_as old new l)

  pub reported-silent : (fault : LineFault) (old new : K) → Reported loses malforms fault old new → IsSilent (both new)
  reported-silent faults.Read old new r = loses-silent old new r
  reported-silent (faults.Ended have) old new r = loses-silent old new r
  reported-silent faults.Turns old new r = loses-silent old new r
  reported-silent (faults.Malformed place why) old new r = malforms-silent old new r
  reported-silent faults.Memory old new r = loses-silent old new r
  reported-silent faults.Write old new r = loses-silent old new r
  reported-silent faults.Stopped old new r = malforms-silent old new r

  pub unsent-silent : (fault : RunFault) (old new : K) (first last : Option (List ℕ)) → NotAsked asked loses fault old new first last → IsSilentAfter fault (both new)
  unsent-silent (OrderFault why) old new first last n = tt
  unsent-silent (BookBroke NoSpace) old new first last n = tt
  unsent-silent (BookBroke Failed) old new first last n =
      let lost = (is_asker.fails old new n.0).0 in
      let begun : Both = record { till = (till old).state; settling = asks (settling old) } in
      let is : both new ≡ take begun (Line Lost) = ap₂ (λ (t : TillState) (s : Settling). record { till = t; settling = s }) lost.lost.0 lost.ended in
      subst IsSilent (sym is) (lost-silent begun)
  unsent-silent (LineBroke fault) old new first last n = loses-silent n.2 new n.4

  pub taken-stays : (old : K) (bytes : List ℕ) (new : K) → asked old (Ok bytes) new → Stays new
  taken-stays old bytes new taken = λ is. absurd (never (failed new) is (is_asker.accepts old bytes new taken).1)
    where
      never : (b : Bool) → b ≡ true → b ≡ false → ⊥
      never true is isnt = absurd cc
      never false is isnt = absurd cc

  pub resting-rests : (k : K) → is_resting k ≡ true → Rests (both k)
  resting-rests k is = rests (both k) (sym (is_asker.rests_as k) ∙ is)
