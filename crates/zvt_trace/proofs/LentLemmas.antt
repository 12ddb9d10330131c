-- What a listener that is lent hears, its own listener hears.
use Rattle.std.proofs.Common.{◌≡◌, subst, sym, ℕ, Bool, List, Result, Ok, Err}
use Rattle.zvt_grammar.specs.Reading.{Reading}
use Rattle.zvt_trace.specs.Listening.{EmitsLine, EmitsPiece, Fails, FailsIn, Hears, HearsAll, HearsBytes, HearsLine}
use Rattle.zvt_trace.specs.Meanings.{Meaning}
use Rattle.zvt_trace.specs.Trace.{Side, Sides}
use Rattle.zvt_trace.specs.TraceEvent.{At}
use Rattle.zvt_trace.specs.declared.direction.Direction.{Direction}
use Rattle.zvt_trace.specs.declared.listener.ListenerError.{ListenerError}
use Rattle.zvt_trace.specs.declared.listener.Scope.{Scope}
use Rattle.zvt_trace.specs.declared.side.SideReader.{SideReader}
use Rattle.zvt_trace.specs.declared.walker.BothSides.{BothSides}
use Rattle.zvt_trace.proofs.KeptLemmas.{Keeps, SaysLess, failed_as, failed_kept, heard_as, part_kept}
use Rattle.zvt_trace.proofs.TallyLemmas.{LentFails, LentHears}

module _ {L M : Type 0} (now : M → L) (name : M → ℕ) (hears : Hears L) (fails : Fails L) where
  lent : SaysLess now (LentHears now name hears fails) hears (LentFails now name hears fails) fails
  lent = record { by_event = λ old event new h. h.0; by_failure = λ old event why new h. h.0 }

  same : Keeps name (LentHears now name hears fails) (LentFails now name hears fails)
  same = record { by_event = λ old event new h. h.1; by_failure = λ old event why new h. h.1 }

  all_lent : (events : List At) (old new : M) (y : L) → (name old ≡ name new → y ≡ now new) → HearsAll (LentHears now name hears fails) old events new → HearsAll hears (now old) events y
  all_lent events old new y is heard =
      let kept : name old ≡ name new = sym (part_kept name (LentHears now name hears fails) (LentFails now name hears fails) same events old new heard) in
      subst (λ (l : L). HearsAll hears (now old) events l) (sym (is kept)) (heard_as now (LentHears now name hears fails) hears lent.by_event events old new heard)

  pub failed_lent : (why : ListenerError) (So : List At → Type 0) (old new : M) (y : L) → (name old ≡ name new → y ≡ now new) → FailsIn (LentHears now name hears fails) (LentFails now name hears fails) why So old new → FailsIn hears fails why So (now old) y
  failed_lent why So old new y is failed =
      let kept : name old ≡ name new = sym (failed_kept name (LentHears now name hears fails) (LentFails now name hears fails) same why So old new failed) in
      subst (λ (l : L). FailsIn hears fails why So (now old) l) (sym (is kept)) (failed_as now (LentHears now name hears fails) hears (LentFails now name hears fails) fails lent why So old new failed)

  pub piece_lent : (r : Reading) (scope : Scope) (line : ℕ) (from : Direction) (side : Side) (bytes : List ℕ) (reader : SideReader) (old new : M) (y : L) (answer : Result Unit ListenerError) → (name old ≡ name new → y ≡ now new)
      → EmitsPiece r (LentHears now name hears fails) (LentFails now name hears fails) scope line from side bytes reader old new answer → EmitsPiece r hears fails scope line from side bytes reader (now old) y answer
  piece_lent r scope line from side bytes reader old new y (Ok done) is heard = record {
    events = heard.events;
    after = heard.after;
    emits = heard.emits;
    heard = all_lent heard.events old new y is heard.heard;
    follows = heard.follows;
    few = heard.few;
  }
  piece_lent r scope line from side bytes reader old new y (Err why) is failed = failed_lent why _ old new y is failed

  pub bytes_lent : (r : Reading) (scope : Scope) (line : ℕ) (from : Direction) (side : Side) (bytes : List ℕ) (reader : SideReader) (old new : M) (y : L) (any : Bool) → (name old ≡ name new → y ≡ now new)
      → HearsBytes r (LentHears now name hears fails) scope line from side bytes reader any old new → HearsBytes r hears scope line from side bytes reader any (now old) y
  bytes_lent r scope line from side bytes reader old new y any is heard = record {
    events = heard.events;
    after = heard.after;
    passes = heard.passes;
    heard = all_lent heard.events old new y is heard.heard;
    follows = heard.follows;
    few = heard.few;
    some = heard.some;
  }

  pub heard_line : (r : Reading) (scope : Scope) (number : ℕ) (meaning : Meaning) (sides : Sides) (state : BothSides) (old new : M) (y : L) → (name old ≡ name new → y ≡ now new)
      → HearsLine r (LentHears now name hears fails) scope number meaning sides state old new → HearsLine r hears scope number meaning sides state (now old) y
  heard_line r scope number meaning sides state old new y is heard = record {
    events = heard.events;
    after = heard.after;
    emits = heard.emits;
    heard = all_lent heard.events old new y is heard.heard;
    follow = heard.follow;
    few = heard.few;
  }
