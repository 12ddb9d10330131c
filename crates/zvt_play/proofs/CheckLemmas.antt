-- Which bytes the other side can send.
use Rattle.std.proofs.Common.{◌≡◌, ℕ, ◌+◌, ◌-◌, List, [], ◌∷◌, ◌++◌, length, take, drop, false, Option, Result, Ok, Err, refl, sym, ◌∙◌, ap, subst, arith, append_assoc, length-append, inr}
use Rattle.std.proofs.lemmas.List.{take-append-drop}
use Rattle.zvt_grammar.specs.declared.why.Why.{Why}
use Rattle.zvt_grammar.proofs.CutLemmas.{spelled_push}
use Rattle.zvt_apdu.specs.Message.{Message}
use Rattle.zvt_stream.specs.LineReading.{IsRefusedBy, LineReading, Reads, SpelledBy, UnfinishedBy}
use Rattle.zvt_stream.specs.Feeds.{Lends}
use Rattle.zvt_stream.specs.StreamState.{StreamState}
use Rattle.zvt_stream.specs.declared.stream.FedView.TheVariants as view
use Rattle.hex.specs.declared.error.FromHexError.{FromHexError}
use Rattle.zvt_trace.specs.Meanings.{piece_of}
use Rattle.zvt_trace.specs.declared.direction.Direction.{Direction}
use Rattle.zvt_trace.specs.declared.direction.Direction.TheVariants.{FromTill, FromTerminal}
use Rattle.zvt_play.specs.Script.{Act, AwaitSays, CanCome, PieceSays, SaysBy}
use Rattle.zvt_play.specs.declared.line.ScriptLineError.{ScriptLineError}
use Rattle.zvt_play.specs.declared.line.ScriptLineError.TheVariants as error

-- the bytes before the rest are whole messages, and a stream that holds nothing reads on
pub record Checked (r : LineReading) (bytes rest : List ℕ) (stream : StreamState) : Type 0 where
  pub messages : List Message
  pub before : List ℕ
  pub whole : bytes ≡ before ++ rest
  pub spelled : SpelledBy r bytes messages rest
  pub holds : stream.held ≡ []
  pub goes_on : stream.stopped ≡ false
  pub reading : stream.reading ≡ r

pub none_checked : (r : LineReading) (bytes : List ℕ) (stream : StreamState) → stream.held ≡ [] → stream.stopped ≡ false → stream.reading ≡ r → Checked r bytes bytes stream
none_checked r bytes stream holds goes_on reading = record { messages = []; before = []; whole = refl; spelled = refl; holds = holds; goes_on = goes_on; reading = reading }

-- with nothing held the bytes are those of the piece
by_reading : (r : LineReading) (old : StreamState) (P : LineReading → List ℕ → Type 0) (more : List ℕ) → old.reading ≡ r → old.held ≡ [] → P old.reading (old.held ++ more) → P r more
by_reading r old P more reading holds p = subst (λ (s : LineReading). P s more) reading (subst (λ (h : List ℕ). P old.reading (h ++ more)) holds p)

pub one_checked : (r : LineReading) (bytes rest : List ℕ) (old new : StreamState) (taken : ℕ) → Checked r bytes rest old → Lends old rest (view.Message taken) new → Checked r bytes (drop taken rest) new
one_checked r bytes rest old new taken c f = record {
  messages = c.messages ++ f.0 ∷ [];
  before = c.before ++ take taken rest;
  whole = c.whole ∙ ap (λ (b : List ℕ). c.before ++ b) (sym (take-append-drop taken rest)) ∙ sym (append_assoc c.before (take taken rest) (drop taken rest));
  spelled = spelled_push (Reads r) c.messages f.0 bytes (take taken rest) (drop taken rest) rest c.spelled (sym (take-append-drop taken rest)) (by_reading r old (λ (s : LineReading) (b : List ℕ). Reads s f.0 b) (take taken rest) c.reading c.holds f.1.2);
  holds = f.1.3.0;
  goes_on = f.1.3.1;
  reading = f.1.4 ∙ c.reading;
}

pub can_come : (r : LineReading) (bytes rest : List ℕ) (old new : StreamState) → Checked r bytes rest old → Lends old rest view.More new → CanCome r bytes
can_come r bytes rest old new c f =
    let unfinished : UnfinishedBy r rest = by_reading r old UnfinishedBy rest c.reading c.holds f.0.0 in
    record { messages = c.messages; rest = rest; cut = record { spelled = c.spelled; none_whole = unfinished.none_whole }; alive = unfinished.alive }

pub cannot_come : (r : LineReading) (bytes rest : List ℕ) (old new : StreamState) (place at : ℕ) (why : Why) → Checked r bytes rest old → Lends old rest (view.Refused place why) new → at ≡ length bytes - length rest + place → AwaitSays r bytes (Err (error.NoMessage at why))
cannot_come r bytes rest old new place at why c f is =
    inr (
      at,
      why,
      record {
        messages = c.messages;
        before = c.before;
        rest = rest;
        place = place;
        whole = c.whole;
        spelled = c.spelled;
        refused = by_reading r old (λ (s : LineReading) (b : List ℕ). IsRefusedBy s b place why) rest c.reading c.holds f.0.0;
        is_at = omega (arith, is, ap length c.whole, length-append c.before rest);
      },
      refl,
    )

-- a piece of the other side
pub piece_awaits : (r : LineReading) (own from : Direction) (line : List ℕ) (decoded : Result (List ℕ) FromHexError) (bytes items : List ℕ) (answer : Result (Option Act) ScriptLineError) → decoded ≡ Ok items → bytes ≡ items → (own ≡ from → ⊥) → AwaitSays r bytes answer → SaysBy r own line (piece_of from decoded) answer
piece_awaits r own from line decoded bytes items answer is same apart says =
    subst (λ (d : Result (List ℕ) FromHexError). SaysBy r own line (piece_of from d) answer) (sym is) (by_side own from (subst (λ (b : List ℕ). AwaitSays r b answer) same says) apart)
  where
    by_side : (own from : Direction) → AwaitSays r items answer → (own ≡ from → ⊥) → PieceSays r own from items answer
    by_side FromTill FromTill s apart = absurd (apart refl)
    by_side FromTill FromTerminal s apart = s
    by_side FromTerminal FromTill s apart = s
    by_side FromTerminal FromTerminal s apart = absurd (apart refl)
