-- Both ends of a line, turn after turn.
use Rattle.std.proofs.Common.{◌≡◌, ℕ, ◌+◌, ◌<◌, Bool, true, false, cond, Option, Some, None, ap₂, refl, sym, ◌∙◌, subst, add-one, inl, inr}
use Rattle.std.specs.Prelude.{Result}
use Rattle.zvt_apdu.specs.Message.{Message}
use Rattle.zvt_stream.specs.Answered.{Answered}
use Rattle.zvt_stream.specs.declared.line.LineFault.{LineFault}
use Rattle.zvt_stream.specs.declared.line.LineFault.TheVariants as faults
use Rattle.zvt_till.specs.Keeping.{Follows}
use Rattle.zvt_till.specs.Line.{IsEnded, till_rests}
use Rattle.zvt_till.specs.View.{TillValue}
use Rattle.zvt_till.specs.declared.keeper.BookFault.TheVariants.{Failed}
use Rattle.zvt_till.specs.declared.keeper.Untaken.{Untaken}
use Rattle.zvt_till.specs.declared.line.RunFault.{RunFault}
use Rattle.zvt_till.specs.declared.line.RunFault.TheVariants.{Line as LineBroke, Book as BookBroke}
use Rattle.zvt_till.specs.declared.orders.Order.{Order}
use Rattle.zvt_till.specs.declared.orders.Outgoing.{Outgoing}
use Rattle.zvt_till.specs.declared.outcomes.Outcome.{Outcome}
use Rattle.zvt_till.proofs.Accepted.{IsKnown, lost-over, rests-known}
use Rattle.zvt_till.proofs.Keepers.{heard-before, hearings-stay, reported-ended, taken-stays, unsent-over}
use Rattle.zvt_term.specs.Terminal.{TerminalState}
use Rattle.zvt_term.specs.declared.served.Served.{Served}
use Rattle.zvt_term.specs.declared.turns.Verdict.{Verdict}
use Rattle.zvt_runs.specs.BothEnds.{Alternates, Begins, BeginsNot, BreaksOff, Comes, Fails, Line, Underway, ended_of}
use Rattle.zvt_runs.specs.LineEnd.{Turn}
use Rattle.zvt_runs.specs.Runs.{Standing}

-- a terminal with its verdict
pub decided : (served : Served) (terminal : TerminalState) (verdict : Verdict) → served.terminal ≡ terminal → served.verdict ≡ verdict → served ≡ record { terminal = terminal; verdict = verdict }
decided served terminal verdict e f = ap₂ (λ (t : TerminalState) (v : Verdict). record { terminal = t; verdict = v }) e f

busy : (rests : Bool) (last : Option Outcome) → cond rests last None ≡ None → (rests ≡ true → last ≡ None → ⊥) → rests ≡ false
busy true last e never = absurd (never refl e)
busy false last e never = refl

idle : (rests : Bool) (last : Option Outcome) (outcome : Outcome) → cond rests last None ≡ Some outcome → (rests ≡ true) × (last ≡ Some outcome)
idle true last outcome e = (refl, e)
idle false last outcome e = absurd (cc)

module _ {K : Type 0} {orders : K → Order → Result Outgoing Untaken → K → Type 0} {hears : K → Message → Answered → K → Type 0} {is_resting failed : K → Bool} {till : K → TillValue} {loses malforms : K → K → Type 0}
    (follows : Follows orders hears loses malforms is_resting till failed) where
  -- ---- it stays known what became of the order

  -- it is known, and once the book failed no order runs
  abbrev pub Known : K → Type 0
  Known keeper = IsKnown (till keeper).state × (failed keeper ≡ true → IsEnded (till keeper).state)

  known_turn : (old new : Standing Line K) → Turn hears is_resting old.line.till_end old.till new.line.till_end new.till → Known old.till → Known new.till
  known_turn old new (inl stays) k = let never = stays.at_once in absurd (cc)
  known_turn old new (inr gets) k = hearings-stay follows old.till new.till _ _ gets.1.pumped.course.heard.heard k

  known_after : (old new : Standing Line K) → Alternates orders hears is_resting failed till loses malforms old new → Known old.till → Known new.till
  known_after old new a k = known_turn old new a.till_turn k

  known_begun : (order : Order) (verdict : Verdict) (old new : Standing Line K) → Begins orders hears is_resting failed till loses malforms order verdict old new → Known new.till
  known_begun order verdict old new b = taken-stays follows old.till order b.ordered.sends.outgoing new.till b.ordered.sends.ordered

  over_lost : (old new : K) → loses old new → Known old → IsEnded (till new).state
  over_lost old new lost k = lost-over (till old).state (till new).state (follows.loses_as old new lost).0 k.0

  over_broken : (fault : LineFault) (old new : Standing Line K) → BreaksOff orders hears is_resting failed till loses malforms fault old new → Known old.till → IsEnded (till new.till).state
  over_broken fault old new (inl terminal) k = over_lost old.till new.till terminal.2 k
  over_broken fault old new (inr turn) k =
      let b = turn.1 in
      let broken = b.falls_short.broken in
      let heard = heard-before hears fault _ _ broken.read broken.written old.till b.middle broken.breaks in
      reported-ended follows fault b.middle new.till b.reported (hearings-stay follows old.till b.middle heard.0 heard.1 heard.2 k).0

  -- ---- an order

  -- that many alternations were made, and it is known what became of the order where none runs
  pub record Going (order : Order) (verdict : Verdict) (count : ℕ) (old now : Standing Line K) : Type 0 where
    pub underway : Underway orders hears is_resting failed till loses malforms order verdict count old now
    pub known : Known now.till

  pub begun : (order : Order) (verdict : Verdict) (old sent : Standing Line K) → Begins orders hears is_resting failed till loses malforms order verdict old sent → Going order verdict 0 old sent
  begun order verdict old sent b = record {
    underway = record { sent = sent; begins = b; alternations = refl };
    known = known_begun order verdict old sent b;
  }

  pub begun_not : (order : Order) (verdict : Verdict) (fault : RunFault) (old new : Standing Line K) → BeginsNot orders hears is_resting failed till loses malforms order verdict fault old new → Fails orders hears is_resting failed till loses malforms order verdict fault old new
  begun_not order verdict fault old new b = record {
    fails = inl b;
    over = unsent-over follows fault order old.till new.till _ _ b.not_ordered.not_sent;
  }

  pub goes_on : (order : Order) (verdict : Verdict) (count : ℕ) (old now new : Standing Line K) (ended : Option Outcome) → Going order verdict count old now → Alternates orders hears is_resting failed till loses malforms now new
      → failed new.till ≡ false → ended ≡ ended_of (till new.till) → ended ≡ None → Going order verdict (count + 1) old new
  goes_on order verdict count old now new ended going a whole is none =
      let known = known_after now new a going.known in
      rw add-one (record {
        underway = record {
          sent = going.underway.sent;
          begins = going.underway.begins;
          alternations = (now, going.underway.alternations, a, whole, busy (till_rests (till new.till)) (till new.till).state.last_outcome (sym is ∙ none) (λ rests unknown. rests-known (till new.till).state rests known.0 unknown));
        };
        known = known;
      })

  pub comes : (order : Order) (verdict : Verdict) (count : ℕ) (outcome : Outcome) (old now new : Standing Line K) (ended : Option Outcome) → count < 1000 → Going order verdict count old now → Alternates orders hears is_resting failed till loses malforms now new
      → failed new.till ≡ false → ended ≡ ended_of (till new.till) → ended ≡ Some outcome → Comes orders hears is_resting failed till loses malforms order verdict outcome old new
  comes order verdict count outcome old now new ended fewer going a whole is some =
      let came = idle (till_rests (till new.till)) (till new.till).state.last_outcome outcome (sym is ∙ some) in
      record {
        at_last = record { count = count; middle = now; fewer = fewer; underway = going.underway; last = a };
        whole = whole;
        rests = came.0;
        came = came.1;
      }

  pub breaks : (order : Order) (verdict : Verdict) (count : ℕ) (fault : LineFault) (old now new : Standing Line K) → count < 1000 → Going order verdict count old now → BreaksOff orders hears is_resting failed till loses malforms fault now new
      → Fails orders hears is_resting failed till loses malforms order verdict (LineBroke fault) old new
  breaks order verdict count fault old now new fewer going b = record {
    fails = inr (inl (record { count = count; middle = now; broken = fault; fewer = fewer; underway = going.underway; last = b; is = refl }));
    over = over_broken fault now new b going.known;
  }

  pub book_fails : (order : Order) (verdict : Verdict) (count : ℕ) (old now new : Standing Line K) → count < 1000 → Going order verdict count old now → Alternates orders hears is_resting failed till loses malforms now new → failed new.till ≡ true
      → Fails orders hears is_resting failed till loses malforms order verdict (BookBroke Failed) old new
  book_fails order verdict count old now new fewer going a is = record {
    fails = inr (inr (inl (record {
      at_last = record { count = count; middle = now; fewer = fewer; underway = going.underway; last = a };
      has_failed = is;
      is = refl;
    })));
    over = (known_after now new a going.known).1 is;
  }

  pub given_up : (order : Order) (verdict : Verdict) (count : ℕ) (old now new : Standing Line K) → count ≡ 1000 → Going order verdict count old now → new.line ≡ now.line → loses now.till new.till
      → Fails orders hears is_resting failed till loses malforms order verdict (LineBroke faults.Turns) old new
  given_up order verdict count old now new all going line lost = record {
    fails = inr (inr (inr (record {
      middle = now;
      underway = subst (λ n. Underway orders hears is_resting failed till loses malforms order verdict n old now) all going.underway;
      same_line = line;
      loses_line = lost;
      is = refl;
    })));
    over = over_lost now.till new.till lost going.known;
  }
