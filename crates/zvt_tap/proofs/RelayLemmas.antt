-- Turns of a relay, one after another.
use Rattle.std.proofs.Common.{◌≡◌, Bool, true, false, List, [], ◌∷◌, ◌++◌, Option, ℕ, Result, Ok, Err, refl, subst, sym}
use Rattle.std.specs.Io.KnownBytes.{Consumes}
use Rattle.zvt_trace.specs.Observing.{Misses, Observes}
use Rattle.zvt_trace.specs.declared.direction.Direction.{Direction}
use Rattle.zvt_trace.specs.declared.direction.Direction.TheVariants.{FromTerminal, FromTill}
use Rattle.zvt_trace.specs.declared.listener.ListenerError.{ListenerError}
use Rattle.zvt_tap.specs.Chunks.{Chunk, IsAll, Moves, Sides, bytes_along, chunk}
use Rattle.zvt_tap.specs.Relay.{AnswersRelay, AnswersTurn, ended_after}
use Rattle.zvt_tap.specs.Watching.{ObservesAll, ObservesUntil}
use Rattle.zvt_tap.specs.declared.fault.TapFault.{TapFault}
use Rattle.zvt_tap.specs.declared.fault.TapFault.TheVariants.{Memory, Read, Trace, Wait, Write}
use Rattle.zvt_tap.specs.declared.relay.Ended.{Ended}
use Rattle.zvt_tap.proofs.MoveLemmas.{all_read, all_stays, bytes_more, moves_last, moves_more, moves_none, moves_nothing}

-- ---- turns one after another

observes_more : {S : Type 0} (observes : Observes S) (a b c : S) (xs ys : List Chunk) → ObservesAll observes a xs b → ObservesAll observes b ys c → ObservesAll observes a (xs ++ ys) c
observes_more {S = S} observes a b c [] ys same more = subst (λ (s : S). ObservesAll observes s ys c) same more
observes_more observes a b c (one ∷ xs) ys (middle, first, rest) more = (middle, first, observes_more observes middle b c xs ys rest more)

-- one chunk more was observed
observes_one : {S : Type 0} (observes : Observes S) (a b c : S) (xs : List Chunk) (one : Chunk) → ObservesAll observes a xs b → observes b one.from one.bytes c → ObservesAll observes a (xs ++ one ∷ []) c
observes_one observes a b c xs one all step = observes_more observes a b c xs (one ∷ []) all (c, step, refl)

-- These chunks passed so far, and were observed. Of a side that has come to its end all bytes have passed.
pub record SoFar {S : Type 0} (observes : Observes S) (first now : S) (old new : Sides) (ended : Ended) : Type 0 where
  pub chunks : List Chunk
  pub moved : Moves chunks chunks old new
  pub observed : ObservesAll observes first chunks now
  pub till : ended.till ≡ true → IsAll old.till (bytes_along FromTill chunks)
  pub terminal : ended.terminal ≡ true → IsAll old.terminal (bytes_along FromTerminal chunks)

-- what a turn answers
abbrev pub TurnOf : {S : Type 0} → Observes S → Misses S → Direction → (now next : S) → (old new : Sides) → Result Bool TapFault → Type 0
TurnOf observes misses from now next old new answer = AnswersTurn from (λ bytes. observes now from bytes next) (λ why bytes. misses now from bytes why next) (next ≡ now) old new answer

-- what a relay answers
abbrev pub RelayOf : {S : Type 0} → Observes S → Misses S → (first now : S) → (old new : Sides) → Result Unit TapFault → Type 0
RelayOf observes misses first now old new answer = AnswersRelay (λ chunks. ObservesAll observes first chunks now) (λ why chunks last. ObservesUntil observes misses first chunks last why now) old new answer

-- all bytes that had come from this side still are all
stays_all : (from : Direction) (a b : Option (List ℕ)) (chunks : List Chunk) (one : Chunk) → Consumes a b (bytes_along from (chunks ++ one ∷ [])) → IsAll a (bytes_along from chunks) → IsAll a (bytes_along from (chunks ++ one ∷ []))
stays_all from a b chunks one consumed all =
    subst (λ (s : List ℕ). IsAll a s) (sym (bytes_more from chunks (one ∷ []))) (all_stays a b (bytes_along from chunks) (bytes_along from (one ∷ [])) all (subst (λ (s : List ℕ). Consumes a b s) (bytes_more from chunks (one ∷ [])) consumed))

pub turn_passed : {S : Type 0} (observes : Observes S) (misses : Misses S) (from : Direction) (first now next : S) (old middle new : Sides) (ended : Ended) (went : Bool) → went ≡ true
    → SoFar observes first now old middle ended → TurnOf observes misses from now next middle new (Ok went) → SoFar observes first next old new ended
turn_passed observes misses from first now next old middle new ended false is so answers = absurd (no is)
  where
    no : false ≡ true → ⊥
    no e = cc
turn_passed observes misses from first now next old middle new ended true is so (bytes, moved, observed) =
    let whole = moves_more so.chunks so.chunks (chunk from bytes ∷ []) (chunk from bytes ∷ []) old middle new so.moved moved in record {
      chunks = so.chunks ++ chunk from bytes ∷ [];
      moved = whole;
      observed = observes_one observes first now next so.chunks (chunk from bytes) so.observed observed;
      till = λ is. stays_all FromTill old.till new.till so.chunks (chunk from bytes) whole.till (so.till is);
      terminal = λ is. stays_all FromTerminal old.terminal new.terminal so.chunks (chunk from bytes) whole.terminal (so.terminal is);
    }

side_ended : {S : Type 0} (observes : Observes S) (misses : Misses S) (from : Direction) (first now next : S) (old middle new : Sides) (ended : Ended)
    → SoFar observes first now old middle ended → TurnOf observes misses from now next middle new (Ok false) → SoFar observes first next old new (ended_after from ended)
side_ended {S = S} observes misses FromTill first now next old middle new ended so (moved, at_end, same) =
    let whole = moves_nothing so.chunks so.chunks old middle new so.moved moved in record {
      chunks = so.chunks;
      moved = whole;
      observed = subst (λ (s : S). ObservesAll observes first so.chunks s) (sym same) so.observed;
      till = λ is. all_read old.till new.till (bytes_along FromTill so.chunks) whole.till at_end;
      terminal = so.terminal;
    }
side_ended {S = S} observes misses FromTerminal first now next old middle new ended so (moved, at_end, same) =
    let whole = moves_nothing so.chunks so.chunks old middle new so.moved moved in record {
      chunks = so.chunks;
      moved = whole;
      observed = subst (λ (s : S). ObservesAll observes first so.chunks s) (sym same) so.observed;
      till = so.till;
      terminal = λ is. all_read old.terminal new.terminal (bytes_along FromTerminal so.chunks) whole.terminal at_end;
    }

pub turn_ended : {S : Type 0} (observes : Observes S) (misses : Misses S) (from : Direction) (first now next : S) (old middle new : Sides) (ended after : Ended) (went : Bool) → went ≡ false → after ≡ ended_after from ended
    → SoFar observes first now old middle ended → TurnOf observes misses from now next middle new (Ok went) → SoFar observes first next old new after
turn_ended observes misses from first now next old middle new ended after false is same so answers =
    subst (λ (e : Ended). SoFar observes first next old new e) (sym same) (side_ended observes misses from first now next old middle new ended so answers)
turn_ended observes misses from first now next old middle new ended after true is same so answers = absurd (no is)
  where
    no : true ≡ false → ⊥
    no e = cc

pub turn_failed : {S : Type 0} (observes : Observes S) (misses : Misses S) (from : Direction) (first now next : S) (old middle new : Sides) (ended : Ended) (fault : TapFault)
    → SoFar observes first now old middle ended → TurnOf observes misses from now next middle new (Err fault) → RelayOf observes misses first next old new (Err fault)
turn_failed {S = S} observes misses from first now next old middle new ended (Read failed) so (is, moved, same) =
    (so.chunks, (moves_nothing so.chunks so.chunks old middle new so.moved moved, subst (λ (s : S). ObservesAll observes first so.chunks s) (sym same) so.observed))
turn_failed observes misses from first now next old middle new ended (Write failed) so (is, bytes, part, prefix, moved, observed) = (
  so.chunks,
  bytes,
  part,
  prefix,
  subst (λ (w : Direction). Moves (so.chunks ++ chunk w bytes ∷ []) (so.chunks ++ chunk w part ∷ []) old new) (sym is) (moves_more so.chunks so.chunks (chunk from bytes ∷ []) (chunk from part ∷ []) old middle new so.moved moved),
  subst (λ (w : Direction). ObservesAll observes first (so.chunks ++ chunk w bytes ∷ []) next) (sym is) (observes_one observes first now next so.chunks (chunk from bytes) so.observed observed),
)
turn_failed observes misses from first now next old middle new ended Trace so (bytes, moved, missed) =
    (so.chunks, chunk from bytes, moves_last so.chunks so.chunks (chunk from bytes ∷ []) old middle new so.moved moved, (now, so.observed, missed))
turn_failed observes misses from first now next old middle new ended Memory so (bytes, moved, missed) =
    (so.chunks, chunk from bytes, moves_last so.chunks so.chunks (chunk from bytes ∷ []) old middle new so.moved moved, (now, so.observed, missed))
turn_failed observes misses from first now next old middle new ended Wait so never = absurd never

pub both_ended : {S : Type 0} (observes : Observes S) (misses : Misses S) (first now : S) (old new : Sides) (ended : Ended) → ended.till ≡ true → ended.terminal ≡ true
    → SoFar observes first now old new ended → RelayOf observes misses first now old new (Ok tt)
both_ended observes misses first now old new ended till terminal so = (so.chunks, (so.moved, so.observed), so.till till, so.terminal terminal)

pub none_waits : {S : Type 0} (observes : Observes S) (misses : Misses S) (first now : S) (old new : Sides) (ended : Ended) → SoFar observes first now old new ended
    → RelayOf observes misses first now old new (Err Wait)
none_waits observes misses first now old new ended so = (so.chunks, (so.moved, so.observed))

pub not_begun : {S : Type 0} (observes : Observes S) (first : S) (both : Sides) → SoFar observes first first both both (record { till = false; terminal = false })
not_begun observes first both = record { chunks = []; moved = moves_none both; observed = refl; till = λ is. absurd (no is); terminal = λ is. absurd (no is) }
  where
    no : false ≡ true → ⊥
    no e = cc

-- ---- a line

-- what follows from what was observed
pub by_observed : (Observed Found : List Chunk → Type 0) (Missed Stopped : ListenerError → List Chunk → Chunk → Type 0) (old new : Sides) (answer : Result Unit TapFault) → ((chunks : List Chunk) → Observed chunks → Found chunks)
    → ((why : ListenerError) (chunks : List Chunk) (last : Chunk) → Missed why chunks last → Stopped why chunks last) → AnswersRelay Observed Missed old new answer → AnswersRelay Found Stopped old new answer
by_observed Observed Found Missed Stopped old new (Ok ended) finds stops (chunks, (moved, observed), till, terminal) = (chunks, (moved, finds chunks observed), till, terminal)
by_observed Observed Found Missed Stopped old new (Err (Read failed)) finds stops (chunks, (moved, observed)) = (chunks, (moved, finds chunks observed))
by_observed Observed Found Missed Stopped old new (Err Wait) finds stops (chunks, (moved, observed)) = (chunks, (moved, finds chunks observed))
by_observed Observed Found Missed Stopped old new (Err (Write failed)) finds stops (chunks, bytes, part, prefix, moved, observed) = (chunks, bytes, part, prefix, moved, finds (chunks ++ chunk failed bytes ∷ []) observed)
by_observed Observed Found Missed Stopped old new (Err Trace) finds stops (chunks, last, moved, missed) = (chunks, last, moved, stops _ chunks last missed)
by_observed Observed Found Missed Stopped old new (Err Memory) finds stops (chunks, last, moved, missed) = (chunks, last, moved, stops _ chunks last missed)

-- what follows in each case
pub always : (P : Type 0) (old new : Sides) (answer : Result Unit TapFault) → AnswersRelay (λ chunks. P) (λ why chunks last. P) old new answer → P
always P old new (Ok ended) (chunks, (moved, p), till, terminal) = p
always P old new (Err (Read failed)) (chunks, (moved, p)) = p
always P old new (Err Wait) (chunks, (moved, p)) = p
always P old new (Err (Write failed)) (chunks, bytes, part, prefix, moved, p) = p
always P old new (Err Trace) (chunks, last, moved, p) = p
always P old new (Err Memory) (chunks, last, moved, p) = p
