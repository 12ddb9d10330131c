-- Steps made one after another.
use Rattle.std.proofs.Common.{◌≡◌, ◌&&◌, ◌||◌, Bool, true, false, ℕ, ◌+◌, ◌<◌, List, [], ◌∷◌, ◌++◌, length, take, drop, Option, Some, None, Result, Ok, Err, refl, sym, ◌∙◌, ap, subst, get_or, suc, add-one, drop-cons, inl, inr}
use Rattle.std.proofs.Math.Seq.{take-suc}
use Rattle.std.proofs.lemmas.List.{take-append-drop, flat_map_more}
use Rattle.std.proofs.lemmas.Option.{same_Some}
use Rattle.std.specs.Io.KnownBytes.{Appends}
use Rattle.std.specs.String.{string_bytes}
use Rattle.zvt_io.specs.Devices.{IsPrefix}
use Rattle.zvt_runs.specs.declared.plans.StepOptions.{StepOptions}
use Rattle.zvt_stream.proofs.HearingLemmas.{appends_none}
use Rattle.std.proofs.KnownBytes.{Appends-trans}
use Rattle.zvt_till.proofs.Segments.{list_any-snoc}
use Rattle.zvt_till.specs.Marks.{total}
use Rattle.zvt_till.specs.View.{TillValue}
use Rattle.zvt_till.specs.declared.line.RunFault.{RunFault}
use Rattle.zvt_till.specs.declared.line.RunFault.TheVariants.{Order, Line, Book as BookBroke}
use Rattle.zvt_runs.specs.declared.asking.Ended.{Ended}
use Rattle.zvt_runs.specs.declared.fault.EndFault.{EndFault}
use Rattle.zvt_runs.specs.declared.fault.EndFault.TheVariants.{BadStep, Book, Line as LineBroke, Memory, Net, Silent, Trace, Unsuccessful, Write}
use Rattle.zvt_runs.specs.declared.plans.Planned.{Planned}
use Rattle.zvt_runs.specs.Made.{Made, fell_short, made_line, made_lines, some_short, stop_of}
use Rattle.zvt_runs.specs.Notes.{made_note, notes_text}
use Rattle.zvt_runs.specs.Objects.{total_line}
use Rattle.zvt_runs.specs.Runs.{Answers, AnswersText, BreaksIn, GoesOn, IsMissing, Law, MakesAll, MakesTo, Ran, Standing, StepLaw, WritesPart, made_of, noting}
use Rattle.zvt_runs.specs.Words.{IsNoteOf}

-- a till that was given the note of its step's word made the step
pub noted_by : {L T : Type 0} (noted : T → List ℕ → T) (makes : StepLaw L T) (line : L) (till ready : T) (planned : Planned) (result : Result Ended RunFault) (left : L) (new : T) (word : List ℕ)
    → word ≡ string_bytes planned.word → (note : List ℕ) × IsNoteOf word note × (ready ≡ noted till note) → makes line ready planned.step result left new → noting noted makes line till planned result left new
noted_by {T = T} noted makes line till ready planned result left new word is n made =
    (n.0, subst (λ (w : List ℕ). IsNoteOf w n.0) is n.1, subst (λ (t : T). makes line t planned.step result left new) n.2 made)

-- one step more
makes_one_more : {L T : Type 0} (seen : T → TillValue) (makes : Law L T) (plan : List Planned) (planned : Planned) (result : Result Ended RunFault) (before middle after : Standing L T) (all : List Made)
    → MakesAll seen makes plan before middle all → makes middle.line middle.till planned result after.line after.till → GoesOn result
    → MakesAll seen makes (plan ++ planned ∷ []) before after (all ++ made_of seen planned result after.till ∷ [])
makes_one_more {L} {T} seen makes [] planned result before middle after all made one goes = (
  result,
  after,
  [],
  subst (λ (s : Standing L T). makes s.line s.till planned result after.line after.till) made.0 one,
  goes,
  (refl, refl),
  ap (λ (ms : List Made). ms ++ made_of seen planned result after.till ∷ []) made.1,
)
makes_one_more seen makes (first ∷ plan) planned result before middle after all made one goes = (
  made.0,
  made.1,
  made.2 ++ made_of seen planned result after.till ∷ [],
  made.3,
  made.4,
  makes_one_more seen makes plan planned result made.1 middle after made.2 made.5 one goes,
  ap (λ (ms : List Made). ms ++ made_of seen planned result after.till ∷ []) made.6,
)

-- the lines and the notes of the steps with one more, and whether one fell short

pub lines_more : (options : StepOptions) (all : List Made) (made : Made) → made_lines options.form all ++ made_line options.form made ≡ made_lines options.form (all ++ made ∷ [])
lines_more options all made = flat_map_more (made_line options.form) [] all made

pub notes_more : (all : List Made) (made : Made) → notes_text all ++ made_note made ≡ notes_text (all ++ made ∷ [])
notes_more all made = flat_map_more made_note [] all made

short_more : (all : List Made) (made : Made) → some_short (all ++ made ∷ []) ≡ (some_short all || fell_short made.planned.step made.result)
short_more all made = list_any-snoc (λ (m : Made). fell_short m.planned.step m.result) all made

-- the steps so far
pub record SoFar {L T : Type 0} (seen : T → TillValue) (makes : Law L T) (options : StepOptions) (Noted : List ℕ → Type 0) (done : List Planned) (short : Bool) (before now : Standing L T) (old new : Option (List ℕ)) : Type 0 where
  pub all : List Made
  pub made : MakesAll seen makes done before now all
  pub appended : Appends old new (made_lines options.form all)
  pub fell : short ≡ some_short all
  pub noted : Noted (notes_text all)

-- ... and one more, of whose line something was written
pub record Then {L T : Type 0} (seen : T → TillValue) (makes : Law L T) (options : StepOptions) (Noted : List ℕ → Type 0) (done : List Planned) (planned : Planned) (result : Result Ended RunFault) (before after : Standing L T) (old now : Option (List ℕ)) (short : Bool) : Type 0 where
  pub middle : Standing L T
  pub earlier : List Made
  pub all : MakesAll seen makes done before middle earlier
  pub made : makes middle.line middle.till planned result after.line after.till
  pub appended : Appends old now (made_lines options.form earlier)
  pub fell : short ≡ some_short earlier
  pub noted : Noted (notes_text (earlier ++ made_of seen planned result after.till ∷ []))

cut_at : {A : Type 0} (xs : List A) (i : ℕ) (x : A) → i < length xs → x ≡ get_or xs i x → xs ≡ take i xs ++ x ∷ drop (i + 1) xs
cut_at xs i x below is = rw add-one (sym (take-append-drop i xs) ∙ ap (λ (ys : List _). take i xs ++ ys) (drop-cons xs i x below ∙ ap (λ y. y ∷ drop (suc i) xs) (sym is)))

pub taken : {A : Type 0} (xs : List A) (i : ℕ) (x : A) → i < length xs → x ≡ get_or xs i x → take (i + 1) xs ≡ take i xs ++ x ∷ []
taken xs i x below is = rw add-one (take-suc xs i x below ∙ ap (λ y. take i xs ++ y ∷ []) (sym is))

-- a step was made and its note reported
pub then : {L T : Type 0} (seen : T → TillValue) (makes : Law L T) (options : StepOptions) (Noted Now : List ℕ → Type 0) (done : List Planned) (planned : Planned) (result : Result Ended RunFault) (short : Bool) (before middle after : Standing L T) (old now : Option (List ℕ))
    → SoFar seen makes options Noted done short before middle old now → makes middle.line middle.till planned result after.line after.till
    → ((text : List ℕ) → Noted text → Now (text ++ made_note (made_of seen planned result after.till)))
    → Then seen makes options Now done planned result before after old now short
then seen makes options Noted Now done planned result short before middle after old now so one note = record {
  middle = middle;
  earlier = so.all;
  all = so.made;
  made = one;
  appended = so.appended;
  fell = so.fell;
  noted = subst Now (notes_more so.all (made_of seen planned result after.till)) (note (notes_text so.all) so.noted);
}

-- what was reported of the steps so far, seen as something else
pub as_told : {L T : Type 0} (seen : T → TillValue) (makes : Law L T) (options : StepOptions) (Noted Told : List ℕ → Type 0) (done : List Planned) (short : Bool) (before now : Standing L T) (old new : Option (List ℕ))
    → ((text : List ℕ) → Noted text → Told text) → SoFar seen makes options Noted done short before now old new → SoFar seen makes options Told done short before now old new
as_told seen makes options Noted Told done short before now old new told so = record { all = so.all; made = so.made; appended = so.appended; fell = so.fell; noted = told (notes_text so.all) so.noted }

-- its line was written, and the run goes on
pub one_more : {L T : Type 0} (seen : T → TillValue) (makes : Law L T) (options : StepOptions) (Noted : List ℕ → Type 0) (plan : List Planned) (i : ℕ) (planned : Planned) (result : Result Ended RunFault) (short next : Bool) (before after : Standing L T) (old now new : Option (List ℕ))
    → i < length plan → planned ≡ get_or plan i planned → GoesOn result → next ≡ (short || fell_short planned.step result) → Then seen makes options Noted (take i plan) planned result before after old now short
    → Appends now new (made_line options.form (made_of seen planned result after.till))
    → SoFar seen makes options Noted (take (i + 1) plan) next before after old new
one_more {L} {T} seen makes options Noted plan i planned result short next before after old now new below is goes fell so line =
    let e : take (i + 1) plan ≡ take i plan ++ planned ∷ [] = taken plan i planned below is in
    let m = made_of seen planned result after.till in
    rw e (record {
      all = so.earlier ++ m ∷ [];
      made = makes_one_more seen makes (take i plan) planned result before so.middle after so.earlier so.all so.made goes;
      appended = subst (λ t. Appends old new t) (lines_more options so.earlier m) (Appends-trans old now new (made_lines options.form so.earlier) (made_line options.form m) so.appended line);
      fell = fell ∙ ap (λ (b : Bool). b || fell_short planned.step result) so.fell ∙ sym (short_more so.earlier m);
      noted = so.noted;
    })

-- the step that stopped the run
breaks_in : {L T : Type 0} (seen : T → TillValue) (makes : Law L T) (options : StepOptions) (Noted : List ℕ → Type 0) (plan : List Planned) (i : ℕ) (planned : Planned) (result : Result Ended RunFault) (fault : EndFault) (short : Bool) (before after : Standing L T) (old now : Option (List ℕ))
    → i < length plan → planned ≡ get_or plan i planned → stop_of result ≡ Some fault → (so : Then seen makes options Noted (take i plan) planned result before after old now short)
    → BreaksIn seen makes plan fault before after (so.earlier ++ made_of seen planned result after.till ∷ [])
breaks_in {L} {T} seen makes options Noted plan i planned result fault short before after old now below is some so = record {
  done = take i plan;
  planned = planned;
  later = drop (i + 1) plan;
  middle = so.middle;
  earlier = so.earlier;
  cut = cut_at plan i planned below is;
  made = so.all;
  result = result;
  breaks = so.made;
  stops = some;
  whole = refl;
}

-- a run that was stopped answers why
stopped : {L T : Type 0} (seen : T → TillValue) (makes : Law L T) (options : StepOptions) (Noted : List ℕ → Type 0) (plan : List Planned) (before after : Standing L T) (old new : Option (List ℕ)) (result : Result Ended RunFault) (fault : EndFault)
    → stop_of result ≡ Some fault → Ran seen makes options Noted plan (Some fault) before after old new → Answers seen makes options Noted plan before after old new (Err fault)
stopped seen makes options Noted plan before after old new (Ok outcome) fault some run = absurd (cc)
stopped seen makes options Noted plan before after old new (Err (Order why)) fault some run = absurd (cc)
stopped seen makes options Noted plan before after old new (Err (Line broken)) fault some run =
    let is : LineBroke broken ≡ fault = same_Some (LineBroke broken) fault some in
    subst (λ (f : EndFault). Answers seen makes options Noted plan before after old new (Err f)) is (subst (λ (f : EndFault). Ran seen makes options Noted plan (Some f) before after old new) (sym is) run)
stopped seen makes options Noted plan before after old new (Err (BookBroke why)) fault some run =
    let is : Book ≡ fault = same_Some Book fault some in
    subst (λ (f : EndFault). Answers seen makes options Noted plan before after old new (Err f)) is (subst (λ (f : EndFault). Ran seen makes options Noted plan (Some f) before after old new) (sym is) run)

pub broke : {L T : Type 0} (seen : T → TillValue) (makes : Law L T) (options : StepOptions) (Noted : List ℕ → Type 0) (plan : List Planned) (i : ℕ) (planned : Planned) (result : Result Ended RunFault) (fault : EndFault) (short : Bool) (before after : Standing L T) (old now next new : Option (List ℕ))
    → i < length plan → planned ≡ get_or plan i planned → stop_of result ≡ Some fault → Then seen makes options Noted (take i plan) planned result before after old now short
    → Appends now next (made_line options.form (made_of seen planned result after.till))
    → Appends next new (total_line options.form (total (seen after.till).state.book)) → Answers seen makes options Noted plan before after old new (Err fault)
broke seen makes options Noted plan i planned result fault short before after old now next new below is some so line trailing =
    let m = made_of seen planned result after.till in
    stopped seen makes options Noted plan before after old new result fault some (record {
      all = so.earlier ++ m ∷ [];
      made = breaks_in seen makes options Noted plan i planned result fault short before after old now below is some so;
      appended = Appends-trans old next new (made_lines options.form (so.earlier ++ m ∷ [])) (total_line options.form (total (seen after.till).state.book))
          (subst (λ t. Appends old next t) (lines_more options so.earlier m) (Appends-trans old now next (made_lines options.form so.earlier) (made_line options.form m) so.appended line)) trailing;
      noted = so.noted;
    })

-- ---- where a text could not be written whole

pub nothing_written : (text : List ℕ) (held : Option (List ℕ)) → WritesPart IsMissing text held held
nothing_written text held = ([], refl, appends_none held)

-- the line of a step
pub line_stops : {L T : Type 0} (seen : T → TillValue) (makes : Law L T) (options : StepOptions) (Noted : List ℕ → Type 0) (plan : List Planned) (i : ℕ) (planned : Planned) (result : Result Ended RunFault) (short : Bool) (before after : Standing L T) (old now new : Option (List ℕ))
    → i < length plan → planned ≡ get_or plan i planned → Then seen makes options Noted (take i plan) planned result before after old now short
    → WritesPart IsPrefix (made_line options.form (made_of seen planned result after.till)) now new → Answers seen makes options Noted plan before after old new (Err Write)
line_stops seen makes options Noted plan i planned result short before after old now new below is so partly = inl (record {
  done = take i plan;
  planned = planned;
  later = drop (i + 1) plan;
  middle = so.middle;
  result = result;
  earlier = so.earlier;
  between = now;
  cut = cut_at plan i planned below is;
  all = so.all;
  made = so.made;
  appended = so.appended;
  partly = partly;
  noted = so.noted;
})

-- neither the line nor the note of a step
pub runs_out : {L T : Type 0} (seen : T → TillValue) (makes : Law L T) (options : StepOptions) (Noted : List ℕ → Type 0) (plan : List Planned) (i : ℕ) (planned : Planned) (result : Result Ended RunFault) (short : Bool) (before middle after : Standing L T) (old now : Option (List ℕ))
    → i < length plan → planned ≡ get_or plan i planned → SoFar seen makes options Noted (take i plan) short before middle old now
    → makes middle.line middle.till planned result after.line after.till → Answers seen makes options Noted plan before after old now (Err Memory)
runs_out seen makes options Noted plan i planned result short before middle after old now below is so made = inl (record {
  done = take i plan;
  planned = planned;
  later = drop (i + 1) plan;
  middle = middle;
  result = result;
  earlier = so.all;
  cut = cut_at plan i planned below is;
  all = so.made;
  made = made;
  appended = so.appended;
  noted = so.noted;
})

-- the total
stops_in_total : {L T : Type 0} (seen : T → TillValue) (makes : Law L T) (options : StepOptions) (Noted : List ℕ → Type 0) (plan : List Planned) (broken : Option EndFault) (all : List Made) (before after : Standing L T) (old now new : Option (List ℕ)) (fault : EndFault)
    → MakesTo seen makes plan broken before after all → Appends old now (made_lines options.form all) → Noted (notes_text all)
    → AnswersText (total_line options.form (total (seen after.till).state.book)) now new (Err fault) → Answers seen makes options Noted plan before after old new (Err fault)
stops_in_total seen makes options Noted plan broken all before after old now new Write made appended noted text = inr (record { broken = broken; all = all; between = now; made = made; appended = appended; partly = text; noted = noted })
stops_in_total seen makes options Noted plan broken all before after old now new Memory made appended noted text = inr (record { broken = broken; all = all; between = now; made = made; appended = appended; partly = text; noted = noted })
stops_in_total seen makes options Noted plan broken all before after old now new (LineBroke fault) made appended noted text = absurd text
stops_in_total seen makes options Noted plan broken all before after old now new (BadStep at) made appended noted text = absurd text
stops_in_total seen makes options Noted plan broken all before after old now new (Net why) made appended noted text = absurd text
stops_in_total seen makes options Noted plan broken all before after old now new (Silent seconds) made appended noted text = absurd text
stops_in_total seen makes options Noted plan broken all before after old now new Trace made appended noted text = absurd text
stops_in_total seen makes options Noted plan broken all before after old now new Book made appended noted text = absurd text
stops_in_total seen makes options Noted plan broken all before after old now new Unsuccessful made appended noted text = absurd text

pub broken_total_stops : {L T : Type 0} (seen : T → TillValue) (makes : Law L T) (options : StepOptions) (Noted : List ℕ → Type 0) (plan : List Planned) (i : ℕ) (planned : Planned) (result : Result Ended RunFault) (fault : EndFault) (short : Bool) (before after : Standing L T) (old now next new : Option (List ℕ)) (stop : EndFault)
    → i < length plan → planned ≡ get_or plan i planned → stop_of result ≡ Some fault → Then seen makes options Noted (take i plan) planned result before after old now short
    → Appends now next (made_line options.form (made_of seen planned result after.till))
    → AnswersText (total_line options.form (total (seen after.till).state.book)) next new (Err stop) → Answers seen makes options Noted plan before after old new (Err stop)
broken_total_stops seen makes options Noted plan i planned result fault short before after old now next new stop below is some so line text =
    let m = made_of seen planned result after.till in
    stops_in_total seen makes options Noted plan (Some fault) (so.earlier ++ m ∷ []) before after old next new stop (breaks_in seen makes options Noted plan i planned result fault short before after old now below is some so)
    (subst (λ t. Appends old next t) (lines_more options so.earlier m) (Appends-trans old now next (made_lines options.form so.earlier) (made_line options.form m) so.appended line)) so.noted text

-- all steps were made, and the total follows their lines
pub ran_through : {L T : Type 0} (seen : T → TillValue) (makes : Law L T) (options : StepOptions) (Noted : List ℕ → Type 0) (plan : List Planned) (short : Bool) (before after : Standing L T) (old now new : Option (List ℕ))
    → SoFar seen makes options Noted plan short before after old now → Appends now new (total_line options.form (total (seen after.till).state.book)) → Ran seen makes options Noted plan None before after old new
ran_through seen makes options Noted plan short before after old now new so text = record {
  all = so.all;
  made = so.made;
  appended = Appends-trans old now new (made_lines options.form so.all) (total_line options.form (total (seen after.till).state.book)) so.appended text;
  noted = so.noted;
}

-- no step fell short, or that is not checked
pub ended : {L T : Type 0} (seen : T → TillValue) (makes : Law L T) (options : StepOptions) (Noted : List ℕ → Type 0) (plan : List Planned) (short : Bool) (before after : Standing L T) (old now new : Option (List ℕ))
    → SoFar seen makes options Noted plan short before after old now → AnswersText (total_line options.form (total (seen after.till).state.book)) now new (Ok tt) → (options.check && short) ≡ false
    → Answers seen makes options Noted plan before after old new (Ok tt)
unfolding ran_through
ended seen makes options Noted plan short before after old now new so text fine =
    (ran_through seen makes options Noted plan short before after old now new so text, subst (λ (b : Bool). (options.check && b) ≡ false) so.fell fine)

-- a step fell short, which is checked
pub unsuccessful : {L T : Type 0} (seen : T → TillValue) (makes : Law L T) (options : StepOptions) (Noted : List ℕ → Type 0) (plan : List Planned) (short : Bool) (before after : Standing L T) (old now new : Option (List ℕ))
    → SoFar seen makes options Noted plan short before after old now → AnswersText (total_line options.form (total (seen after.till).state.book)) now new (Ok tt) → options.check ≡ true → short ≡ true
    → Answers seen makes options Noted plan before after old new (Err Unsuccessful)
unfolding ran_through
unsuccessful seen makes options Noted plan short before after old now new so text checked fell =
    (ran_through seen makes options Noted plan short before after old now new so text, checked, sym so.fell ∙ fell)

-- the total could not be written whole
pub total_stops : {L T : Type 0} (seen : T → TillValue) (makes : Law L T) (options : StepOptions) (Noted : List ℕ → Type 0) (plan : List Planned) (short : Bool) (before after : Standing L T) (old now new : Option (List ℕ)) (fault : EndFault)
    → SoFar seen makes options Noted plan short before after old now → AnswersText (total_line options.form (total (seen after.till).state.book)) now new (Err fault) → Answers seen makes options Noted plan before after old new (Err fault)
total_stops seen makes options Noted plan short before after old now new fault so text = stops_in_total seen makes options Noted plan None so.all before after old now new fault so.made so.appended so.noted text

pub no_check : (a b : Bool) → a ≡ false → (a && b) ≡ false
no_check a b none = rw none refl

pub not_short : (a b : Bool) → b ≡ false → (a && b) ≡ false
not_short false b none = refl
not_short true b none = none
