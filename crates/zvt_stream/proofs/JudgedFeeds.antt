-- What a run of the judge over a piece says of the stream.
use Rattle.std.proofs.Common.{◌≡◌, ℕ, suc, Bool, ◌+◌, ◌<◌, ◌≤◌, List, [], ◌++◌, length, take, drop, refl, sym, ◌∙◌, ap, subst, arith, append_assoc}
use Rattle.std.proofs.lemmas.List.{length-take-le, take-append-drop}
use Rattle.zvt_grammar.specs.declared.why.Why.{Why}
use Rattle.zvt_grammar.specs.Reading.{Reading}
use Rattle.zvt_stream.specs.Apdus.{UnfinishedIn, IsRefusedIn}
use Rattle.zvt_stream.specs.LineReading.{LineReading}
use Rattle.zvt_stream.specs.StreamState.{IsSound}
use Rattle.zvt_stream.specs.Judge.{JudgeState, start, StandsFor, Ran}
use Rattle.zvt_stream.specs.declared.judge.DecodeRun.TheVariants.{Refused}
use Rattle.zvt_stream.proofs.Beginnings.{few_in}
use Rattle.zvt_stream.proofs.FeedLemmas.{sound_empty, fed_refused}
use Rattle.zvt_stream.proofs.JudgeLemmas.{begun_anew_stands}

-- a stream that holds nothing, with a new judge
pub fresh : (l : LineReading) (r : Reading) (judge : JudgeState) (held : List ℕ) (stopped : Bool) → judge ≡ start r → held ≡ [] → IsSound l held stopped × StandsFor judge held
fresh l r judge held stopped e f = (sound_empty l held stopped f, subst (λ (h : List ℕ). StandsFor judge h) (sym f) (subst (λ (j : JudgeState). StandsFor j []) (sym e) (begun_anew_stands r)))

-- the place of a refusal is within the longest message
pub place_few : (r : Reading) (b : List ℕ) (place : ℕ) (why : Why) → IsRefusedIn r b place why → place < 65540
place_few r b place why f = omega (arith, few_in r (take place b) begun, length-take-le place b (omega (arith, f.1.present)))
  where
    begun : UnfinishedIn r (take place b)
    begun = record {
      alive = f.1.alive;
      none_whole = λ m prefix rest e s. f.0 m prefix (rest ++ drop place b) (sym (take-append-drop place b) ∙ ap (λ (l : List ℕ). l ++ drop place b) e ∙ append_assoc prefix rest (drop place b)) s;
    }

-- a refusal in a prefix of the piece
pub ran_out : (r : Reading) (judge : JudgeState) (held piece : List ℕ) (at : ℕ) (why : Why) → UnfinishedIn r held → Ran r held piece (Refused at why) judge → IsRefusedIn r (held ++ piece) (length held + at) why × (length held ≤ length held + at)
ran_out r judge held piece at why u f = fed_refused r held piece (held ++ take (suc at) piece) (suc at) (length held + at) why u.alive refl f.1
