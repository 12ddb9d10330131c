-- Vectors that are right, and those that the reader answers otherwise.
use Rattle.std.proofs.Common.{◌≡◌, ◌≢◌, ℕ, List, true, false, Option, Some, None, Result, Ok, Err, IfOk, OnOk, [], ◌∷◌, ◌++◌, refl, sym, ◌∙◌, subst, append-nil, append_assoc, inl, inr}
use Rattle.std.proofs.lemmas.Bool.{false≢true}
use Rattle.std.proofs.lemmas.Slice.Eq.{bytes_eq-Decides}
use Rattle.std.specs.Fmt.{decimal}
use Rattle.std.specs.Prelude.{codes}
use Rattle.std.specs.Str.{bytes_eq}
use Rattle.std.specs.Io.KnownBytes.{Appends}
use Rattle.zvt_trace.specs.Written.{AppendsPrefix}
use Rattle.zvt_trace.specs.declared.fault.Tally.{Tally}
use Rattle.zvt_trace.specs.declared.fault.TraceFault.TheVariants.{Write}
use Rattle.zvt_text.specs.declared.form.Form.{Form}
use Rattle.zvt_tool.specs.Checked.{ChecksVector, Part}
use Rattle.zvt_tool.specs.Got.{got_in, got_text}
use Rattle.zvt_tool.specs.Vectors.{AnswersAs}

-- what holds of a value holds of another clause on it
pub on_ok : {T E : Type 0} {P Q : Type 0} (r : Result T E) → OnOk r P → (P → Q) → OnOk r Q
on_ok (Ok x) p f = f p
on_ok (Err e) p f = p

pub if_ok : {T E : Type 0} {P Q : T → Type 0} (r : Result T E) → ((x : T) → P x → Q x) → IfOk r P → IfOk r Q
if_ok (Ok x) f p = f x p
if_ok (Err e) f p = p

appends_none : (held : Option (List ℕ)) → Appends held held []
appends_none None = tt
appends_none (Some bytes) = sym (append-nil bytes)

pub same : (answer claim : List ℕ) → bytes_eq answer claim ≡ true → claim ≡ answer
same answer claim is = sym ((bytes_eq-Decides answer claim).0 is)

pub other : (answer claim : List ℕ) → bytes_eq answer claim ≡ false → claim ≢ answer
other answer claim is e = false≢true (sym is ∙ (bytes_eq-Decides answer claim).1 (sym e))

-- a vector that is right
pub right : (form : Form) (number : ℕ) (bytes claim answer : List ℕ) (held : Option (List ℕ)) (tally : Tally) → AnswersAs bytes answer → claim ≡ answer → tally.messages ≡ 1 → tally.bad ≡ 0
    → ChecksVector form number bytes claim held held (Ok tally)
right form number bytes claim answer held tally answers is messages bad =
    (record { text = []; messages = 1; bad = 0 }, (answer, answers, inl (is, refl)), appends_none held, record { messages = messages; bad = bad })

abbrev got : (form : Form) (number : ℕ) (answer : List ℕ) → Part
got form number answer = record { text = got_in form number answer; messages = 1; bad = 1 }

-- one that is not
pub wrong : (form : Form) (number : ℕ) (bytes claim answer text : List ℕ) (old new : Option (List ℕ)) (tally : Tally) → AnswersAs bytes answer → claim ≢ answer → text ≡ got_in form number answer
    → Appends old new text → tally.messages ≡ 1 → tally.bad ≡ 1 → ChecksVector form number bytes claim old new (Ok tally)
wrong form number bytes claim answer text old new tally answers is said appended messages bad =
    (got form number answer, (answer, answers, inr (is, refl)), subst (Appends old new) said appended, record { messages = messages; bad = bad })

pub unwritten : (form : Form) (number : ℕ) (bytes claim answer text : List ℕ) (old new : Option (List ℕ)) → AnswersAs bytes answer → claim ≢ answer → text ≡ got_in form number answer
    → AppendsPrefix old new text → ChecksVector form number bytes claim old new (Err Write)
unwritten form number bytes claim answer text old new answers is said appended =
    (got form number answer, (answer, answers, inr (is, refl)), subst (AppendsPrefix old new) said appended)

-- the line of text, as its parts are written
pub same_line : (number : ℕ) (answer : List ℕ) → codes "line " ++ (decimal number ++ (codes ": got " ++ (answer ++ 10 ∷ []))) ≡ got_text number answer
same_line number answer = simp append_assoc
