-- What the functions of a walker answer.
use Rattle.std.proofs.Common.{◌≡◌, take, drop, length-drop, inr, ℕ, ◌+◌, ◌-◌, ◌<◌, ◌≤◌, false, List, [], ◌∷◌, ◌++◌, length, Result, Ok, Err, refl, sym, ◌∙◌, ap, subst, arith, append_assoc, append-nil, length-append}
use Rattle.std.specs.Prelude.{◌==◌, IfErr, OnOk}
use Rattle.std.proofs.lemmas.List.Elements.{All-append, All-nil, All-take}
use Rattle.std.proofs.lemmas.List.{length-take-le, take-append-drop}
use Rattle.std.specs.Str.Lines.{lines}
use Rattle.zvt_grammar.specs.Lengths.{reading_of}
use Rattle.zvt_grammar.specs.Reading.{Reading}
use Rattle.zvt_trace.specs.Chunks.{AnswersFeed, AnswersRead, FeedFaults, HasNoEnd, HasRead, IsEnd, IsHeldFault, IsTooLong, IsWhole, ReadTo, walker_reading, walker_scope}
use Rattle.zvt_trace.specs.Listening.{AnswersFrom, Fails, FaultsFrom, HasWalked, Hears, WalksOn, most, reading_by, scope_of}
use Rattle.zvt_trace.specs.TraceEvent.{At}
use Rattle.zvt_trace.specs.Written.{limit}
use Rattle.zvt_trace.specs.declared.chunks.Walker.{Walker}
use Rattle.zvt_trace.specs.declared.fault.Tally.{Tally}
use Rattle.zvt_trace.specs.declared.fault.TraceFault.{TraceFault}
use Rattle.zvt_trace.specs.declared.listener.Scope.{Scope}
use Rattle.zvt_trace.specs.declared.walker.Progress.{Progress}
use Rattle.zvt_trace.specs.declared.emit.WalkOptions.{WalkOptions}
use Rattle.zvt_trace.proofs.ChunkLemmas.{last_append, line_whole, lines_append}
use Rattle.zvt_trace.proofs.WalkedLemmas.{at_options, from_before}
use Rattle.zvt_trace.proofs.WalkerLemmas.{fed_before, more_come, not_held, rest_held, too_long}

-- ---- the answers of the walker's functions

-- the last bytes were held or not
pub held_answer : {S : Type 0} (r : Reading) (hears : Hears S) (fails : Fails S) (scope : Scope) (bytes rest chunk : List ℕ) (events : List At) (old walker : Walker) (x : S) (answer : Result Unit TraceFault) → walker.progress ≡ old.progress
    → OnOk answer (walker.begun.items ≡ old.begun.items ++ chunk) → IfErr answer (IsHeldFault old chunk) → ReadTo r scope bytes rest events old.progress → rest ≡ old.begun.items ++ chunk → HasNoEnd rest
    → AnswersFeed r hears fails scope bytes events walker x x answer
held_answer r hears fails scope bytes rest chunk events old walker x (Ok held) same grown fault to is none =
    ([], subst (λ (es : List At). HasRead r scope bytes es walker) (sym (append-nil events)) (rest_held r scope bytes rest events walker (subst (λ (e : Progress). ReadTo r scope bytes rest events e) (sym same) to) none (grown ∙ sym is)), refl)
held_answer r hears fails scope bytes rest chunk events old walker x (Err why) same grown fault to is none =
    not_held r hears fails scope bytes rest (take limit rest) (drop limit rest) chunk events old why x to fault (sym (take-append-drop limit rest)) (λ many.
    let size : length rest ≡ length old.begun.items + length chunk = ap (λ (t : List ℕ). length t) is ∙ length-append old.begun.items chunk in
    let least : limit ≤ length rest = omega (arith, size, many) in
    (All-take (λ byte. (byte == 10) ≡ false) limit rest none, omega (arith, length-take-le limit rest, least), omega (arith, length-drop limit rest, size, many)))

-- the end of the line could not be held
pub end_not_held : {S : Type 0} (r : Reading) (hears : Hears S) (fails : Fails S) (scope : Scope) (bytes end rest : List ℕ) (events : List At) (walker : Walker) (fault : TraceFault) (x : S) → ReadTo r scope bytes (walker.begun.items ++ (end ++ rest)) events walker.progress
    → HasNoEnd walker.begun.items → IsEnd end → IsHeldFault walker end fault → FeedFaults r hears fails scope bytes events x x fault
end_not_held r hears fails scope bytes end rest events walker fault x to none (line, no_end, is) why =
    let begun = walker.begun.items in
    let cut : begun ++ (end ++ rest) ≡ (begun ++ line) ++ 10 ∷ rest = ap (λ (e : List ℕ). begun ++ (e ++ rest)) is ∙ ap (λ (t : List ℕ). begun ++ t) (append_assoc line (10 ∷ []) rest) ∙ sym (append_assoc begun line (10 ∷ rest)) in
    not_held r hears fails scope bytes (begun ++ (end ++ rest)) (begun ++ line) (10 ∷ rest) end events walker fault x to why cut (λ many.
    (All-append (λ byte. (byte == 10) ≡ false) begun line none no_end, omega (arith, many, length-append begun line, ap (λ (e : List ℕ). length e) is, length-append line (10 ∷ [])), omega arith))

-- the whole lines, and the last one
all_lines : (r : Reading) (scope : Scope) (bytes : List ℕ) (earlier : List At) (walker : Walker) → (has : HasRead r scope bytes earlier walker) → lines bytes ≡ lines has.to.done ++ lines walker.begun.items
all_lines r scope bytes earlier walker has = ap lines has.to.cut ∙ lines_append has.to.done walker.begun.items has.to.whole

-- a fault of the last line
pub finish_failed : {S : Type 0} (r : Reading) (hears : Hears S) (fails : Fails S) (scope : Scope) (bytes : List ℕ) (earlier : List At) (walker : Walker) (next : Progress) (fault : TraceFault) (x y : S) → (has : HasRead r scope bytes earlier walker)
    → WalksOn r hears fails scope (lines has.to.done ++ lines walker.begun.items) earlier next x y (Err fault) → FaultsFrom r hears fails scope (lines bytes) earlier x y fault
finish_failed r hears fails scope bytes earlier walker next fault x y has failed =
    subst (λ (ls : List (List ℕ)). FaultsFrom r hears fails scope ls earlier x y fault) (append-nil (lines has.to.done ++ lines walker.begun.items) ∙ sym (all_lines r scope bytes earlier walker has)) (failed [])

-- the last line was read, and then what is cut off
pub finished : {S : Type 0} (hears : Hears S) (fails : Fails S) (bytes : List ℕ) (earlier : List At) (walker : Walker) (next : Progress) (answer : Result Tally TraceFault) (x y z : S) → next.options ≡ walker.progress.options
    → (has : HasRead (walker_reading walker) (walker_scope walker) bytes earlier walker) → WalksOn (walker_reading walker) hears fails (walker_scope walker) (lines has.to.done ++ lines walker.begun.items) earlier next x y (Ok tt)
    → ((before : List (List ℕ)) (events : List At) → HasWalked (reading_by next) (scope_of next) before events next → AnswersFrom (reading_by next) hears fails (scope_of next) before events y z answer)
    → AnswersFrom (walker_reading walker) hears fails (walker_scope walker) (lines bytes) earlier x z answer
finished hears fails bytes earlier walker next answer x y z same has walked ends =
    let done = lines has.to.done ++ lines walker.begun.items in
    let last = at_options (λ l s. HasWalked (reading_of l) s done (earlier ++ walked.0) next → AnswersFrom (reading_of l) hears fails s done (earlier ++ walked.0) y z answer) next.options.lengths walker.progress.options.lengths next.options.scope walker.progress.options.scope
    (ap (λ (o : WalkOptions). o.lengths) same) (ap (λ (o : WalkOptions). o.scope) same) (ends done (earlier ++ walked.0)) walked.1 in
    subst (λ (ls : List (List ℕ)). AnswersFrom (walker_reading walker) hears fails (walker_scope walker) ls earlier x z answer) (sym (all_lines _ _ bytes earlier walker has))
    (from_before _ hears fails _ done earlier walked.0 answer x y z walked.2 last)

-- feeding goes on
pub fed_on : {S : Type 0} (hears : Hears S) (fails : Fails S) (bytes rest : List ℕ) (earlier : List At) (old middle new : Walker) (x y z : S) (answer : Result Unit TraceFault) → middle.progress.options ≡ old.progress.options
    → AnswersRead (walker_reading old) hears fails (walker_scope old) bytes rest earlier middle.progress x y (Ok tt)
    → ((bytes : List ℕ) (earlier : List At) → ReadTo (walker_reading middle) (walker_scope middle) bytes rest earlier middle.progress → AnswersFeed (walker_reading middle) hears fails (walker_scope middle) bytes earlier new y z answer)
    → AnswersFeed (walker_reading old) hears fails (walker_scope old) bytes earlier new x z answer
fed_on hears fails bytes rest earlier old middle new x y z answer same (own, to, heard) feeds =
    fed_before _ hears fails _ bytes earlier own new x y z answer heard
    (at_options (λ l s. ReadTo (reading_of l) s bytes rest (earlier ++ own) middle.progress → AnswersFeed (reading_of l) hears fails s bytes (earlier ++ own) new y z answer) middle.progress.options.lengths old.progress.options.lengths middle.progress.options.scope old.progress.options.scope
    (ap (λ (o : WalkOptions). o.lengths) same) (ap (λ (o : WalkOptions). o.scope) same) (feeds bytes (earlier ++ own)) to)

-- a walker that has read nothing
pub nothing_read : (r : Reading) (scope : Scope) (walker : Walker) → HasWalked r scope [] [] walker.progress → walker.progress.size ≡ 0 → walker.begun.items ≡ [] → HasRead r scope [] [] walker
nothing_read r scope walker walked size none = record {
  to = record { done = []; whole = refl; walked = walked; size = omega (arith, size); cut = sym none };
  unended = subst HasNoEnd (sym none) (All-nil (λ byte. (byte == 10) ≡ false));
}

-- so many bytes can't be counted
pub too_many : (r : Reading) (scope : Scope) (bytes chunk : List ℕ) (events : List At) (walker : Walker) → HasRead r scope bytes events walker → most < walker.progress.size + length walker.begun.items + length chunk → IsTooLong r scope (bytes ++ chunk) events
too_many r scope bytes chunk events walker has many =
    let to = more_come r scope bytes chunk events walker has in
    let all : most < length (bytes ++ chunk) = omega (arith, many, has.to.size, length-append bytes chunk, ap (λ (t : List ℕ). length t) has.to.cut, length-append has.to.done walker.begun.items) in
    too_long r scope (bytes ++ chunk) (walker.begun.items ++ chunk) (walker.begun.items ++ chunk) [] events walker.progress to (sym (append-nil (walker.begun.items ++ chunk))) (inr all)

pub split_is : (n : ℕ) (all front back : List ℕ) → front ≡ take n all → back ≡ drop n all → all ≡ front ++ back
split_is n all front back first second = sym (take-append-drop n all) ∙ ap (λ (t : List ℕ). t ++ drop n all) (sym first) ∙ ap (λ (t : List ℕ). front ++ t) (sym second)

-- the line that had begun comes with its end
pub end_comes : (bytes begun end rest text : List ℕ) (earlier : List At) (old middle : Progress) → middle ≡ old → text ≡ begun ++ end
    → ReadTo (reading_by old) (scope_of old) bytes (begun ++ (end ++ rest)) earlier old → ReadTo (reading_by middle) (scope_of middle) bytes (text ++ rest) earlier middle
end_comes bytes begun end rest text earlier old middle same is to =
    let cut : begun ++ (end ++ rest) ≡ text ++ rest = sym (append_assoc begun end rest) ∙ ap (λ (t : List ℕ). t ++ rest) (sym is) in
    subst (λ (p : Progress). ReadTo (reading_by p) (scope_of p) bytes (text ++ rest) earlier p) (sym same) (subst (λ (t : List ℕ). ReadTo (reading_by old) (scope_of old) bytes t earlier old) cut to)

-- a line that had begun is whole with its end
pub end_whole : (begun end : List ℕ) → IsEnd end → IsWhole (begun ++ end)
end_whole begun end (line, none, is) =
    let whole : IsWhole (line ++ 10 ∷ []) = last_append 10 line (10 ∷ []) in
    line_whole begun end (omega (arith, ap (λ (e : List ℕ). length e) is, length-append line (10 ∷ []))) (subst IsWhole (sym is) whole)

-- a chunk and its first line
pub chunk_comes : (r : Reading) (scope : Scope) (bytes chunk line rest : List ℕ) (events : List At) (walker : Walker) → HasRead r scope bytes events walker → chunk ≡ line ++ rest → ReadTo r scope (bytes ++ chunk) (walker.begun.items ++ (line ++ rest)) events walker.progress
chunk_comes r scope bytes chunk line rest events walker has cut = subst (λ (t : List ℕ). ReadTo r scope (bytes ++ chunk) (walker.begun.items ++ t) events walker.progress) cut (more_come r scope bytes chunk events walker has)

-- where no line has begun
pub chunk_begins : (r : Reading) (scope : Scope) (bytes chunk : List ℕ) (events : List At) (walker : Walker) → HasRead r scope bytes events walker → walker.begun.items ≡ [] → ReadTo r scope (bytes ++ chunk) chunk events walker.progress
chunk_begins r scope bytes chunk events walker has none = subst (λ (t : List ℕ). ReadTo r scope (bytes ++ chunk) (t ++ chunk) events walker.progress) none (more_come r scope bytes chunk events walker has)
