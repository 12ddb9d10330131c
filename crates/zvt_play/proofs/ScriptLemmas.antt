-- Lines that are read one after another.
use Rattle.std.proofs.Common.{◌≡◌, ℕ, ◌+◌, ◌<◌, ◌≤◌, List, [], ◌∷◌, ◌++◌, length, Option, Some, None, Ok, Err, refl, ap, sym, ◌∙◌, subst, arith, append_assoc, append-nil, length-append}
use Rattle.std.proofs.lemmas.List.{map-append}
use Rattle.std.specs.Str.Lines.{lines}
use Rattle.zvt_stream.specs.LineReading.{LineReading}
use Rattle.zvt_trace.specs.declared.direction.Direction.{Direction}
use Rattle.zvt_play.specs.Script.{Act, IsFirstWrong, LineSays, LinesSay, StepAt, act_of, some_step, step_at, steps_at}
use Rattle.zvt_play.specs.declared.line.ScriptLineError.{ScriptLineError}
use Rattle.zvt_play.specs.declared.step.ScriptStep.{ScriptStep}

-- the lines of the text before the rest: their steps, and how many they are
pub record HasRead (r : LineReading) (own : Direction) (text rest : List ℕ) (number : ℕ) (steps : List ScriptStep) : Type 0 where
  pub before : List (List ℕ)
  pub is : lines text ≡ before ++ lines rest
  pub good : LinesSay r own 0 before (steps_at steps)
  pub number_is : number ≡ length before
  pub fits : number + length rest ≤ length text

-- one more line
push : (r : LineReading) (own : Direction) (n : ℕ) (before : List (List ℕ)) (steps : List StepAt) (line : List ℕ) (said : Option Act) (m : ℕ) → m ≡ n + length before + 1 → LinesSay r own n before steps → LineSays r own line (Ok said)
    → LinesSay r own n (before ++ line ∷ []) (steps ++ some_step m said)
push r own n [] steps line said m is good says =
    let same : m ≡ n + 1 = omega (arith, is) in
    (said, [], says, refl, ap (λ (s : List StepAt). s ++ some_step m said) good ∙ ap (λ (k : ℕ). some_step k said) same ∙ sym (append-nil (some_step (n + 1) said)))
push r own n (first ∷ later) steps line said m is good says = (
  good.0,
  good.1 ++ some_step m said,
  good.2,
  push r own (n + 1) later good.1 line said m (omega (arith, is)) good.3 says,
  ap (λ (s : List StepAt). s ++ some_step m said) good.4 ∙ append_assoc (some_step (n + 1) good.0) good.1 (some_step m said),
)

-- nothing is read yet
pub none_read : (r : LineReading) (own : Direction) (text : List ℕ) → HasRead r own text text 0 []
none_read r own text = record { before = []; is = refl; good = refl; number_is = refl; fits = omega arith }

lines_next : (r : LineReading) (own : Direction) (text rest line after : List ℕ) (number : ℕ) (steps : List ScriptStep) (h : HasRead r own text rest number steps) → lines rest ≡ line ∷ lines after → lines text ≡ (h.before ++ line ∷ []) ++ lines after
lines_next r own text rest line after number steps h is =
    h.is ∙ ap (λ (ls : List (List ℕ)). h.before ++ ls) is ∙ sym (append_assoc h.before (line ∷ []) (lines after))

-- a line that has no step
pub read_nothing : (r : LineReading) (own : Direction) (text rest line after : List ℕ) (number : ℕ) (steps : List ScriptStep) → HasRead r own text rest number steps → lines rest ≡ line ∷ lines after → length after < length rest → LineSays r own line (Ok None) → HasRead r own text after (number + 1) steps
read_nothing r own text rest line after number steps h is less says = record {
  before = h.before ++ line ∷ [];
  is = lines_next r own text rest line after number steps h is;
  good = subst (LinesSay r own 0 (h.before ++ line ∷ [])) (append-nil (steps_at steps)) (push r own 0 h.before (steps_at steps) line None (length h.before + 1) (omega arith) h.good says);
  number_is = omega (arith, h.number_is, length-append h.before (line ∷ []));
  fits = omega (arith, h.fits);
}

-- a line that has one
pub read_one : (r : LineReading) (own : Direction) (text rest line after : List ℕ) (number : ℕ) (steps : List ScriptStep) (step : ScriptStep) → HasRead r own text rest number steps → lines rest ≡ line ∷ lines after → length after < length rest → LineSays r own line (Ok (Some (act_of step.action))) → step.line ≡ number + 1
    → HasRead r own text after (number + 1) (steps ++ step ∷ [])
read_one r own text rest line after number steps step h is less says place = record {
  before = h.before ++ line ∷ [];
  is = lines_next r own text rest line after number steps h is;
  good = subst (LinesSay r own 0 (h.before ++ line ∷ [])) (sym (map-append step_at steps (step ∷ []))) (push r own 0 h.before (steps_at steps) line (Some (act_of step.action)) step.line (omega (arith, place, h.number_is)) h.good says);
  number_is = omega (arith, h.number_is, length-append h.before (line ∷ []));
  fits = omega (arith, h.fits);
}

-- all of it is read
pub all_read : (r : LineReading) (own : Direction) (text rest : List ℕ) (number : ℕ) (steps : List ScriptStep) → HasRead r own text rest number steps → length rest ≡ 0 → LinesSay r own 0 (lines text) (steps_at steps)
all_read r own text [] number steps h none = subst (λ (ls : List (List ℕ)). LinesSay r own 0 ls (steps_at steps)) (sym (h.is ∙ append-nil h.before)) h.good
all_read r own text (byte ∷ rest) number steps h none = absurd (omega arith)

-- a line can't be played
pub read_wrong : (r : LineReading) (own : Direction) (text rest line after : List ℕ) (number : ℕ) (steps : List ScriptStep) (why : ScriptLineError) → HasRead r own text rest number steps → lines rest ≡ line ∷ lines after → LineSays r own line (Err why) → IsFirstWrong r own (lines text) (number + 1) why
read_wrong r own text rest line after number steps why h is says = record {
  done = h.before;
  line = line;
  later = lines after;
  steps = steps_at steps;
  cut = h.is ∙ ap (λ (ls : List (List ℕ)). h.before ++ ls) is;
  good = h.good;
  wrong = says;
  is_number = omega (arith, h.number_is);
}
