-- What is known of every till that orders are run with: of its state, its places and its line.
use Rattle.std.proofs.Common.{◌≡◌, ◌⊎◌, ⊎_elim, inl, inr, ℕ, Bool, true, false, cond, List, [], ◌∷◌, Option, Ok, sym, ap, subst, ◌∙◌, arith}
use Rattle.std.specs.Prelude.{◌+◌, ◌≤◌, Result}
use Rattle.zvt_apdu.specs.Message.{Message}
use Rattle.zvt_stream.specs.Answered.{Answered}
use Rattle.zvt_stream.specs.StreamState.{StreamState}
use Rattle.zvt_stream.specs.Hearing.{Hears}
use Rattle.zvt_stream.specs.LineRun.{Breaks, Reported}
use Rattle.zvt_stream.specs.declared.line.LineFault.{LineFault}
use Rattle.zvt_stream.specs.declared.line.LineFault.TheVariants as faults
use Rattle.zvt_till.specs.declared.happenings.Happening.TheVariants.{Heard as HeardIn}
use Rattle.zvt_till.specs.declared.keeper.BookFault.TheVariants.{NoSpace, Failed}
use Rattle.zvt_till.specs.declared.keeper.Untaken.{Untaken}
use Rattle.zvt_till.specs.declared.line.RunFault.{RunFault}
use Rattle.zvt_till.specs.declared.line.RunFault.TheVariants.{Order as OrderFault, Line, Book as BookBroke}
use Rattle.zvt_till.specs.declared.orders.Order.{Order}
use Rattle.zvt_till.specs.declared.orders.Outgoing.{Outgoing}
use Rattle.zvt_till.specs.Hearing.{heard_as}
use Rattle.zvt_till.specs.Keeping.{Follows}
use Rattle.zvt_till.specs.Line.{IsEnded, IsOver, NotSent, till_loses, till_malforms}
use Rattle.zvt_till.specs.Till.{meet}
use Rattle.zvt_till.specs.View.{KeepsRoom, TillValue}
use Rattle.zvt_till.proofs.Accepted.{IsKnown, known-accepted, known-heard, known-taken, lost-over, malformed-over}
use Rattle.zvt_till.proofs.Room.{keeps-twice, takes-one}

-- what each hearing keeps, all keep
pub by-hearings : {S : Type 0} (step : S → Message → Answered → S → Type 0) (P : S → Type 0) → ((old : S) (m : Message) (a : Answered) (new : S) → step old m a new → P old → P new)
    → (old new : S) (messages : List Message) (answers : List Answered) → Hears step old messages answers new → P old → P new
by-hearings step P one old new [] [] h p = subst P h p
by-hearings step P one old new (m ∷ messages) (a ∷ answers) h p = by-hearings step P one h.0 new messages answers h.2 (one old m a h.0 h.1 p)
by-hearings step P one old new [] (a ∷ answers) h p = absurd h
by-hearings step P one old new (m ∷ messages) [] h p = absurd h

-- what was heard before a line broke
pub heard-before : {S : Type 0} (step : S → Message → Answered → S → Type 0) (fault : LineFault) (before after : StreamState) (read written : List ℕ) (old new : S)
    → Breaks step fault before read after old new written → (messages : List Message) × (answers : List Answered) × Hears step old messages answers new
heard-before step faults.Read before after read written old new b = (b.1.heard.messages, b.1.heard.answers, b.1.heard.heard)
heard-before step (faults.Ended have) before after read written old new b = (b.1.heard.messages, b.1.heard.answers, b.1.heard.heard)
heard-before step faults.Turns before after read written old new b = (b.1.heard.messages, b.1.heard.answers, b.1.heard.heard)
heard-before step (faults.Malformed place why) before after read written old new b = (b.2.messages, b.2.answers, b.2.heard)
heard-before step faults.Memory before after read written old new b = (b.2.messages, b.2.answers, b.2.heard)
heard-before step faults.Write before after read written old new b = (_, _, b.heard)
heard-before step faults.Stopped before after read written old new b = ([], [], b.1)

both : (b : Bool) → b ≡ true → b ≡ false → ⊥
both true is isnt = absurd (cc)
both false is isnt = absurd (cc)

module _ {K : Type 0} {orders : K → Order → Result Outgoing Untaken → K → Type 0} {hears : K → Message → Answered → K → Type 0} {loses malforms : K → K → Type 0} {is_resting : K → Bool}
    {till : K → TillValue} {failed : K → Bool} (follows : Follows orders hears loses malforms is_resting till failed) where
  one-known : (old : K) (m : Message) (a : Answered) (new : K) → hears old m a new → IsKnown (till old).state → IsKnown (till new).state
  one-known old m a new h k = ⊎_elim
      (λ same. subst (λ (t : TillValue). IsKnown t.state) (sym same.0) k)
      (λ more. ⊎_elim (λ heard. subst IsKnown (sym heard.0.0) (known-heard (till old).state (heard_as m) k)) (λ lost. λ none. (lost-over (till old).state (till new).state lost.0 k).2) more)
      (follows.hears_as old m a new h)

  -- hearing keeps it known what became of an order
  pub hearings-known : (old new : K) (messages : List Message) (answers : List Answered) → Hears hears old messages answers new → IsKnown (till old).state → IsKnown (till new).state
  hearings-known old new messages answers h k = by-hearings hears (λ keeper. IsKnown (till keeper).state) one-known old new messages answers h k

  one-keeps : (first old : K) (m : Message) (a : Answered) (new : K) → hears old m a new → KeepsRoom (till first) (till old) → KeepsRoom (till first) (till new)
  one-keeps first old m a new h k = ⊎_elim
      (λ same. subst (λ (t : TillValue). KeepsRoom (till first) t) (sym same.0) k)
      (λ more. ⊎_elim (λ heard. keeps-twice (till first) (till old) (till new) k heard.0.2) (λ lost. keeps-twice (till first) (till old) (till new) k lost.1) more)
      (follows.hears_as old m a new h)

  -- and the places for payments
  pub hearings-keep : (old new : K) (messages : List Message) (answers : List Answered) → Hears hears old messages answers new → KeepsRoom (till old) (till new)
  hearings-keep old new messages answers h = by-hearings hears (λ keeper. KeepsRoom (till old) (till keeper)) (one-keeps old) old new messages answers h (omega arith)

  -- it is known what became of an order, and once the book failed, no order runs and the line is down
  abbrev pub Stays : K → Type 0
  Stays keeper = IsKnown (till keeper).state × (failed keeper ≡ true → IsEnded (till keeper).state)

  one-stays : (old : K) (m : Message) (a : Answered) (new : K) → hears old m a new → Stays old → Stays new
  one-stays old m a new h p = (
    one-known old m a new h p.0,
    ⊎_elim
        (λ same. λ is. subst (λ (t : TillValue). IsEnded t.state) (sym same.0) (p.1 (sym same.1 ∙ is)))
        (λ more. ⊎_elim
        (λ heard. λ is.
        let ended = p.1 (sym heard.1 ∙ is) in
        let s = (till old).state in
        subst IsEnded (sym (heard.0.0 ∙ ap (λ up. cond up (meet s (HeardIn (heard_as m))) s) ended.1)) ended)
        (λ lost. λ is. lost-over (till old).state (till new).state lost.0 p.0)
        more)
        (follows.hears_as old m a new h),
  )

  pub hearings-stay : (old new : K) (messages : List Message) (answers : List Answered) → Hears hears old messages answers new → Stays old → Stays new
  hearings-stay old new messages answers h p = by-hearings hears Stays one-stays old new messages answers h p

  -- what a report of a fault does to the till
  pub reported-as : (fault : LineFault) (old new : K) → Reported loses malforms fault old new → till_loses (till old) (till new) ⊎ till_malforms (till old) (till new)
  reported-as faults.Read old new r = inl (follows.loses_as old new r)
  reported-as (faults.Ended have) old new r = inl (follows.loses_as old new r)
  reported-as faults.Turns old new r = inl (follows.loses_as old new r)
  reported-as (faults.Malformed place why) old new r = follows.malforms_as old new r
  reported-as faults.Memory old new r = inl (follows.loses_as old new r)
  reported-as faults.Write old new r = inl (follows.loses_as old new r)
  reported-as faults.Stopped old new r = follows.malforms_as old new r

  pub reported-ended : (fault : LineFault) (old new : K) → Reported loses malforms fault old new → IsKnown (till old).state → IsEnded (till new).state
  reported-ended fault old new r k = ⊎_elim (λ lost. lost-over (till old).state (till new).state lost.0 k) (λ broke. malformed-over (till old).state (till new).state broke.0 k) (reported-as fault old new r)

  pub reported-keeps : (fault : LineFault) (old new : K) → Reported loses malforms fault old new → KeepsRoom (till old) (till new)
  reported-keeps fault old new r = ⊎_elim (λ lost. lost.1) (λ broke. broke.1) (reported-as fault old new r)

  -- an order that was taken
  pub taken-known : (old : K) (order : Order) (outgoing : Outgoing) (new : K) → orders old order (Ok outgoing) new → IsKnown (till new).state
  taken-known old order outgoing new taken = known-taken order outgoing (till old) (till new) (follows.accepts old order outgoing new taken).0

  pub taken-keeps : (old : K) (order : Order) (outgoing : Outgoing) (sent new : K) → orders old order (Ok outgoing) sent → KeepsRoom (till sent) (till new) → (till old).spare ≤ (till new).spare + 1
  taken-keeps old order outgoing sent new taken keeps = takes-one (till old) (till sent) (till new) (follows.accepts old order outgoing sent taken).0.room keeps

  -- an order that was not sent
  pub unsent-keeps : (fault : RunFault) (order : Order) (old new : K) (first last : Option (List ℕ)) → NotSent orders loses fault order old new first last → (till old).spare ≤ (till new).spare + 1
  unsent-keeps (OrderFault why) order old new first last n =
      let same = (follows.refuses old order why new n.0).1 in
      subst (λ (keeper : K). (till old).spare ≤ (till keeper).spare + 1) (sym same) (omega arith)
  unsent-keeps (BookBroke NoSpace) order old new first last n = let room = (follows.has_no_space old order new n.0).0.room in omega (arith, room)
  unsent-keeps (BookBroke Failed) order old new first last n = (follows.fails old order new n.0).0.room
  unsent-keeps (Line fault) order old new first last n = taken-keeps old order n.1 n.2 new n.3 (follows.loses_as n.2 new n.4).1

  pub unsent-over : (fault : RunFault) (order : Order) (old new : K) (first last : Option (List ℕ)) → NotSent orders loses fault order old new first last → IsOver fault (till new).state
  unsent-over (OrderFault why) order old new first last n = tt
  unsent-over (BookBroke NoSpace) order old new first last n = tt
  unsent-over (BookBroke Failed) order old new first last n =
      let lost = (follows.fails old order new n.0).0 in
      lost-over _ (till new).state lost.lost (known-accepted (till old).state order lost.taken)
  unsent-over (Line fault) order old new first last n = lost-over (till n.2).state (till new).state (follows.loses_as n.2 new n.4).0 (taken-known old order n.1 n.2 n.3)

  pub taken-stays : (old : K) (order : Order) (outgoing : Outgoing) (new : K) → orders old order (Ok outgoing) new → Stays new
  taken-stays old order outgoing new taken = (taken-known old order outgoing new taken, λ is. absurd (both (failed new) is (follows.accepts old order outgoing new taken).1))
