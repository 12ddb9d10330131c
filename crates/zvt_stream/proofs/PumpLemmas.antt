-- The turns of a call, one after another, and what follows from a whole call.
use Rattle.std.proofs.Common.{◌≡◌, inl, inr, ℕ, ◌+◌, ◌<◌, ◌≤◌, length, Bool, true, false, ◌||◌, List, Option, Result, Ok, Err, refl, sym, ap, ap₂, ◌∙◌, subst, arith}
use Rattle.std.specs.Prelude.{IfErr, IfOk, IsOk, MatchResult, OnOk}
use Rattle.std.specs.Io.KnownBytes.{Appends, Consumes}
use Rattle.zvt_apdu.specs.Message.{Message}
use Rattle.zvt_stream.specs.LineReading.{UnfinishedBy}
use Rattle.zvt_stream.specs.Answered.{Answered}
use Rattle.zvt_stream.specs.EndState.{EndState, NoneFails, OneFails}
use Rattle.zvt_stream.specs.LineRun.{Breaks, Broken, Course, EndsAt, IsPieceFault, Pumped, Reported, failed_reads, failed_writes, reached, there_at_once}
use Rattle.zvt_stream.specs.Pumping.{Comes, FallsShort, GetsThere, MakesTurn, MakesTurns, Pumps, TurnBroken, TurnMade, line_after, line_before}
use Rattle.zvt_stream.specs.Turns.{Ends, Falters, Last, LineState, Turned, Waited}
use Rattle.zvt_stream.specs.declared.line.LineFault.{LineFault}
use Rattle.zvt_stream.specs.declared.line.LineFault.TheVariants as faults
use Rattle.zvt_stream.specs.declared.line.Until.{Until}
use Rattle.zvt_stream.proofs.LineRunLemmas.{broken_more, pumped_more, pumped_starts}
use Rattle.zvt_stream.proofs.TurnLemmas.{falters, reached_at_once, waited_more}

-- ---- what happened to reads and writes

none_twice : (old now new : EndState) → NoneFails old now → NoneFails now new → NoneFails old new
none_twice old now new a b = record { reads = b.reads ∙ a.reads; writes = b.writes ∙ a.writes }

none_then_one : (fault : LineFault) (old now new : EndState) → NoneFails old now → OneFails fault now new → OneFails fault old new
none_then_one fault old now new a b = record {
  reads = b.reads ∙ ap (λ n. n + failed_reads fault) a.reads;
  writes = b.writes ∙ ap (λ n. n + failed_writes fault) a.writes;
}

-- a fault over what was read is neither the end of the line nor a failed read
piece_fault : (fault : LineFault) (left : Option (List ℕ)) → IsPieceFault fault → EndsAt fault left × (failed_reads fault ≡ 0) × (fault ≡ faults.Turns → ⊥)
piece_fault faults.Read left p = absurd p
piece_fault faults.Write left p = (tt, refl, λ e. cc)
piece_fault (faults.Ended have) left p = absurd p
piece_fault faults.Turns left p = absurd p
piece_fault (faults.Malformed place why) left p = (tt, refl, λ e. cc)
piece_fault faults.Memory left p = (tt, refl, λ e. cc)
piece_fault faults.Stopped left p = (tt, refl, λ e. cc)

-- ---- one turn

-- what was read was heard, or the line broke over it
pub made_turn : {S : Type 0} (step : S → Message → Answered → S → Type 0) (before after : EndState) (old new : S) (piece : List ℕ) (result : Result Bool LineFault)
    → Consumes before.coming after.coming piece → length piece ≤ 1024 → 0 < length piece → after.reads ≡ before.reads + 1 → after.failed_reads ≡ before.failed_reads
    → IfOk result (λ sent. (written : List ℕ) × Appends before.written after.written written × Course step before.stream piece after.stream old new written sent)
    → IfErr result (λ fault. (written : List ℕ) × Appends before.written after.written written × Breaks step fault before.stream piece after.stream old new written)
    → IfErr result (λ fault. IsPieceFault fault)
    → MatchResult result (λ _. after.failed_writes ≡ before.failed_writes) (λ fault. after.failed_writes ≡ before.failed_writes + failed_writes fault)
    → MakesTurn step before old after new result
made_turn step before after old new piece (Ok sent) consumed few some reads failed ok err kinds failures = record {
  pumped = record { read = piece; written = ok.0; consumed = consumed; appended = ok.1; course = ok.2 };
  one_read = few;
  some_read = some;
  reads = reads;
  none_fails = record { reads = failed; writes = failures };
}
made_turn step before after old new piece (Err fault) consumed few some reads failed ok err kinds failures =
    let p = piece_fault fault after.coming kinds in
    record {
      broken = record { read = piece; written = err.0; consumed = consumed; appended = err.1; breaks = err.2; ended = p.0 };
      kinds = p.2;
      reads = reads;
      one_fails = record { reads = omega (arith, failed, p.1); writes = failures };
    }

-- ---- turn after turn

module _ {S : Type 0} (hears : S → Message → Answered → S → Type 0) (resting : S → Bool) (until : Until) (turns : ℕ) where
  -- So many turns were made, and the condition held after none of them.
  pub record UnderWay (made : ℕ) (sent : Bool) (before : EndState) (old : S) (now : EndState) (new : S) : Type 0 where
    pub pumped : Pumped hears before.stream now.stream old new before.coming now.coming before.written now.written sent
    pub waited : Waited hears resting until made (line_before before old) (line_after now new sent)
    pub reads : now.reads ≡ before.reads + made
    pub none_fails : NoneFails before now

  pub starts : (before : EndState) (old : S) → UnfinishedBy before.stream.reading before.stream.held → UnderWay 0 false before old before old
  starts before old u = record { pumped = pumped_starts hears before.stream old before.coming before.written u; waited = refl; reads = omega arith; none_fails = record { reads = refl; writes = refl } }

  one_more : (a b : Bool) (now after : EndState) (middle new : S) → TurnMade hears b now middle after new → Turned hears (line_after now middle a) (line_after after new (a || b))
  one_more a b now after middle new t = record { sent = b; pumped = t.pumped; one_read = t.one_read; some_read = t.some_read; sending = refl }

  pub goes_on : (made : ℕ) (a b : Bool) (before now after : EndState) (old middle new : S) → UnderWay made a before old now middle → TurnMade hears b now middle after new → reached until (resting new) (a || b) ≡ false
      → UnderWay (made + 1) (a || b) before old after new
  goes_on made a b before now after old middle new w t not_there = record {
    pumped = pumped_more w.pumped t.pumped;
    waited = waited_more hears resting until made (line_before before old) (line_after now middle a) (line_after after new (a || b)) w.waited (one_more a b now after middle new t) not_there;
    reads = omega (arith, t.reads, w.reads);
    none_fails = none_twice before now after w.none_fails t.none_fails;
  }

  pub gets_there : (made : ℕ) (a b : Bool) (before now after : EndState) (old middle new : S) → made < turns → UnderWay made a before old now middle → TurnMade hears b now middle after new → reached until (resting new) (a || b) ≡ true
      → GetsThere hears resting until turns before old after new
  gets_there made a b before now after old middle new fewer w t there = record {
    sent = a || b;
    pumped = pumped_more w.pumped t.pumped;
    there = there;
    arrives = (
      made + 1,
      a || b,
      omega (arith, t.reads, w.reads),
      record { before = made; middle = line_after now middle a; fewer = fewer; each_reads = refl; waited = w.waited; last = one_more a b now after middle new t; there = there },
    );
    none_fails = none_twice before now after w.none_fails t.none_fails;
  }

  pub falls_short : (made : ℕ) (a : Bool) (fault : LineFault) (before now after : EndState) (old middle new : S) → made < turns → UnderWay made a before old now middle → TurnBroken hears fault now middle after new
      → FallsShort hears resting until turns fault before old after new
  falls_short made a fault before now after old middle new fewer w t = record {
    broken = broken_more w.pumped t.broken;
    falters = falters hears resting until fault turns made before.reads after.reads (line_before before old) (line_after now middle a) (line_after after new) t.kinds w.waited (fewer, omega (arith, t.reads, w.reads), t.broken);
    one_fails = none_then_one fault before now after w.none_fails t.one_fails;
  }

  -- all turns were made
  pub runs_out : (made : ℕ) (sent : Bool) (before now : EndState) (old new : S) → made ≡ turns → UnderWay made sent before old now new → FallsShort hears resting until turns faults.Turns before old now new
  runs_out made sent before now old new all w = record {
    broken = record { read = w.pumped.read; written = w.pumped.written; consumed = w.pumped.consumed; appended = w.pumped.appended; breaks = (sent, w.pumped.course); ended = tt };
    falters = record { before = made; middle = line_after now new sent; waited = w.waited; last = (all, omega (arith, w.reads, all), refl) };
    one_fails = record { reads = omega (arith, w.none_fails.reads); writes = omega (arith, w.none_fails.writes) };
  }

  -- ---- what follows from the turns

  within : (fault : LineFault) (made before after : ℕ) (middle : LineState S) (new : Bool → LineState S) → Last hears fault turns made before after middle new → after ≤ before + turns
  within faults.Read made before after middle new l = omega (arith, l.0, l.1)
  within faults.Write made before after middle new l = omega (arith, l.0, l.1)
  within (faults.Ended have) made before after middle new l = omega (arith, l.0, l.1)
  within faults.Turns made before after middle new l = omega (arith, l.1)
  within (faults.Malformed place why) made before after middle new l = omega (arith, l.0, l.1)
  within faults.Memory made before after middle new l = omega (arith, l.0, l.1)
  within faults.Stopped made before after middle new l = omega (arith, l.0, l.1)

  -- at most one read a turn
  pub turns_read : (before after : EndState) (old new : S) (result : Result Unit LineFault) → MakesTurns hears resting until turns before old after new result → after.reads ≤ before.reads + turns
  turns_read before after old new (Ok done) m = let a = m.arrives in omega (arith, a.2, a.3.each_reads, a.3.fewer)
  turns_read before after old new (Err fault) m = within fault m.falters.before before.reads after.reads m.falters.middle (line_after after new) m.falters.last

  -- ---- what follows from a whole call

  never_both : (b : Bool) → b ≡ true → b ≡ false → ⊥
  never_both true is isnt = absurd (cc)
  never_both false is isnt = absurd (cc)

  -- all that was read was heard and answered, and the condition holds
  pub comes_there : (before after : EndState) (old new : S) → Comes hears resting until turns before old after new
      → (sent : Bool) × Pumped hears before.stream after.stream old new before.coming after.coming before.written after.written sent × (reached until (resting new) sent ≡ true)
  comes_there before after old new (inl stays) =
      let P : EndState → S → Type 0 = λ end machine. (sent : Bool) × Pumped hears before.stream end.stream old machine before.coming end.coming before.written end.written sent × (reached until (resting machine) sent ≡ true) in
      subst (λ end. P end new) (sym stays.same_end) (subst (P before) (sym stays.same_machine)
      (false, pumped_starts hears before.stream old before.coming before.written stays.unfinished, reached_at_once until (resting old) (resting old) refl stays.at_once))
  comes_there before after old new (inr gets) = (gets.1.sent, gets.1.pumped, gets.1.there)

  -- the turns after which it does, if any
  pub comes_first : (before after : EndState) (old new : S) → Comes hears resting until turns before old after new
      → Ends hears resting until turns before.reads after.reads (line_before before old) (line_after after new)
  comes_first before after old new (inl stays) = inl (stays.at_once, ap (λ end. end.reads) stays.same_end, ap₂ (λ end machine. line_after end machine false) stays.same_end stays.same_machine)
  comes_first before after old new (inr gets) = inr (gets.0, gets.1.arrives)

  pub comes_whole : (before after : EndState) (old new : S) → Comes hears resting until turns before old after new → NoneFails before after
  comes_whole before after old new (inl stays) = record { reads = ap (λ end. end.failed_reads) stays.same_end; writes = ap (λ end. end.failed_writes) stays.same_end }
  comes_whole before after old new (inr gets) = gets.1.none_fails

  pub comes_read : (before after : EndState) (old new : S) → Comes hears resting until turns before old after new → after.reads ≤ before.reads + turns
  comes_read before after old new (inl stays) = let same = ap (λ (end : EndState). end.reads) stays.same_end in omega (arith, same)
  comes_read before after old new (inr gets) = turns_read before after old new (Ok tt) gets.1

  module _ (loses malforms : S → S → Type 0) where
    abbrev Call : (before after : EndState) → (old new : S) → Result Unit LineFault → Type 0
    Call before after old new result = Pumps hears resting until turns loses malforms before old after new result

    pub pump_ok : (before after : EndState) (old new : S) (result : Result Unit LineFault) → Call before after old new result
        → OnOk result ((sent : Bool) × Pumped hears before.stream after.stream old new before.coming after.coming before.written after.written sent × (reached until (resting new) sent ≡ true))
    pump_ok before after old new (Ok done) p = comes_there before after old new p
    pump_ok before after old new (Err fault) p = tt

    pub pump_err : (before after : EndState) (old new : S) (result : Result Unit LineFault) → Call before after old new result
        → IfErr result (λ fault. (middle : S) × Broken hears fault before.stream after.stream old middle before.coming after.coming before.written after.written
        × Falters hears resting until fault turns before.reads after.reads (line_before before old) (line_after after middle) × Reported loses malforms fault middle new)
    pump_err before after old new (Ok done) p = tt
    pump_err before after old new (Err fault) p = (p.middle, p.falls_short.broken, p.falls_short.falters, p.reported)

    pub pump_at_once : (before after : EndState) (old new : S) (result : Result Unit LineFault) → Call before after old new result → there_at_once until (resting old) ≡ true → IsOk result × (after.reads ≡ before.reads)
    pump_at_once before after old new (Ok done) (inl stays) is = (refl, ap (λ end. end.reads) stays.same_end)
    pump_at_once before after old new (Ok done) (inr gets) is = absurd (never_both (there_at_once until (resting old)) is gets.0)
    pump_at_once before after old new (Err fault) p is = absurd (never_both (there_at_once until (resting old)) is p.not_at_once)

    pub pump_reads : (before after : EndState) (old new : S) (result : Result Unit LineFault) → Call before after old new result → after.reads ≤ before.reads + turns
    pump_reads before after old new (Ok done) p = comes_read before after old new p
    pump_reads before after old new (Err fault) p = turns_read before after old p.middle (Err fault) p.falls_short

    pub pump_first : (before after : EndState) (old new : S) (result : Result Unit LineFault) → Call before after old new result
        → OnOk result (Ends hears resting until turns before.reads after.reads (line_before before old) (line_after after new))
    pump_first before after old new (Ok done) p = comes_first before after old new p
    pump_first before after old new (Err fault) p = tt

    pub pump_read_failures : (before after : EndState) (old new : S) (result : Result Unit LineFault) → Call before after old new result
        → MatchResult result (λ _. after.failed_reads ≡ before.failed_reads) (λ fault. after.failed_reads ≡ before.failed_reads + failed_reads fault)
    pump_read_failures before after old new (Ok done) p = (comes_whole before after old new p).reads
    pump_read_failures before after old new (Err fault) p = p.falls_short.one_fails.reads

    pub pump_write_failures : (before after : EndState) (old new : S) (result : Result Unit LineFault) → Call before after old new result
        → MatchResult result (λ _. after.failed_writes ≡ before.failed_writes) (λ fault. after.failed_writes ≡ before.failed_writes + failed_writes fault)
    pump_write_failures before after old new (Ok done) p = (comes_whole before after old new p).writes
    pump_write_failures before after old new (Err fault) p = p.falls_short.one_fails.writes
