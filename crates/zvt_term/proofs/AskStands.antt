-- What stays true as the till hears a message while it asks or rests, and what an answer settles. For the proof that
-- settlements agree with the ledger.
use Rattle.std.proofs.Common.{◌≡◌, ℕ, ◌≤◌, ◌⊎◌, inl, inr, Bool, true, false, not, cond, ◌||◌, nat_eq, List, [], ◌∷◌, ◌++◌, length, Option, Some, None, map, option_to_list, refl, sym, ap, subst, ◌∙◌, append-nil, append_assoc}
use Rattle.std.specs.List.{list_any}
use Rattle.std.proofs.lemmas.List.Folds.{list_any-append}
use Rattle.zvt_till.specs.declared.happenings.Happening.{Happening}
use Rattle.zvt_till.specs.declared.happenings.Happening.TheVariants.{Heard as HeardIn}
use Rattle.zvt_till.specs.declared.messages.Heard.{Heard}
use Rattle.zvt_till.specs.declared.messages.Heard.TheVariants.{Positive, Negative, Status, Passing, Completion, Abort, Strange}
use Rattle.zvt_till.specs.declared.messages.StatusFacts.{StatusFacts}
use Rattle.zvt_till.specs.Laws.{row_of}
use Rattle.zvt_till.specs.Segments.{ends, is_positive}
use Rattle.zvt_till.specs.Till.{TillState}
use Rattle.zvt_term.specs.declared.extras.Extra.TheVariants.{RepeatReceipt}
use Rattle.zvt_term.specs.declared.ledger.Row.{Row}
use Rattle.zvt_term.specs.Ledger.{NumberedFrom}
use Rattle.zvt_term.proofs.Accounts.{words}
use Rattle.zvt_settle.specs.declared.deciding.Pending.{Pending}
use Rattle.zvt_settle.specs.declared.deciding.Settlement.{Settlement}
use Rattle.zvt_settle.specs.declared.deciding.StatusSoFar.{StatusSoFar}
use Rattle.zvt_settle.specs.declared.deciding.StatusSoFar.TheVariants.{Nothing, One, Mixed}
use Rattle.zvt_settle.specs.Deciding.{status_after, one_status}
use Rattle.zvt_term.specs.Ledgers.{AreOfRows}
use Rattle.zvt_settle.specs.Settling.{Settling, counted, paid_traces, answer_by, decided, answered, asked, met}
use Rattle.zvt_term.proofs.AnswerDecides.{SoIn, IsFor, answer-decides}
use Rattle.zvt_term.proofs.AskedMeans.{Word, Beyond}
use Rattle.zvt_term.proofs.HearingStands.{Met}
use Rattle.zvt_settle.proofs.OrderEnds.{with_status}
use Rattle.zvt_term.proofs.Standing.{IsLast, Waits, KnownBy, Goes, Repeats, Answers, Asking, Stage, AllIn}

-- what an answer settled, if it settled anything
abbrev pub Settles : TillState → (before now : List Row) → (old new : List Settlement) → Option Pending → Type 0
Settles t before now old new pending = (new ≡ old) ⊎ ((x : Settlement) × (new ≡ old ++ x ∷ []) × SoIn t before now x × (p : Pending) × (pending ≡ Some p) × IsFor p.what x)

-- after a message
pub record Told (own : ℕ) (before now : List Row) (requests : List Word) (rest : List Heard) (t u : TillState) (s v : Settling) : Type 0 where
  pub met : Met own before now requests rest u v
  pub paid : AreOfRows (paid_traces v.settled) now
  pub settles : Settles u before now s.settled v.settled s.pending
  -- what is pending then, if no order ran
  pub pends : t.running ≡ None → ((v.pending ≡ s.pending) × (v.settled ≡ s.settled)) ⊎ (v.pending ≡ None)

-- ---- the answer

abbrev Deciding : TillState → Settling → StatusFacts → Option Pending → List Settlement
Deciding t s f pending = s.settled ++ option_to_list (decided t s.settled f pending)

paid-append : (xs ys : List Settlement) → paid_traces (xs ++ ys) ≡ paid_traces xs ++ paid_traces ys
paid-append [] ys = refl
paid-append (x ∷ xs) ys = ap (λ ts. counted x ++ ts) (paid-append xs ys) ∙ sym (append_assoc (counted x) (paid_traces xs) (paid_traces ys))

both-rows : (xs ys : List ℕ) (ledger : List Row) → AreOfRows xs ledger → AreOfRows ys ledger → AreOfRows (xs ++ ys) ledger
both-rows xs ys ledger h k t e = by_part (list_any (λ x. nat_eq x t) xs) refl (sym (list_any-append (λ x. nat_eq x t) xs ys) ∙ e)
  where
    by_part : (b : Bool) → list_any (λ x. nat_eq x t) xs ≡ b → (b || list_any (λ x. nat_eq x t) ys) ≡ true → t ≤ length ledger
    by_part true is q = h t is
    by_part false is q = k t q

record Decided (t : TillState) (before now : List Row) (old new : List Settlement) (pending : Option Pending) : Type 0 where
  paid : AreOfRows (paid_traces new) now
  settles : Settles t before now old new pending

decided-by : (t : TillState) (before now : List Row) (s : Settling) (f : StatusFacts) (pending : Option Pending) → NumberedFrom 1 now → length now ≤ 9999
    → ((p : Pending) → pending ≡ Some p → Waits t.settings.currency (map row_of t.book) t.unclear (paid_traces s.settled) before now p) → IsLast now f → AreOfRows (paid_traces s.settled) now
    → Decided t before now s.settled (Deciding t s f pending) pending
decided-by t before now s f None numbered few waits last paid =
    let same : s.settled ++ [] ≡ s.settled = append-nil s.settled in
    record { paid = subst (λ xs. AreOfRows (paid_traces xs) now) (sym same) paid; settles = inl same }
decided-by t before now s f (Some p) numbered few waits last paid =
    let d = answer-decides t s before now p f numbered few (waits p refl) last in
    let grew : Deciding t s f (Some p) ≡ s.settled ++ d.settlement ∷ [] = ap (λ o. s.settled ++ option_to_list o) d.is in
    let counts : paid_traces (s.settled ++ d.settlement ∷ []) ≡ paid_traces s.settled ++ counted d.settlement =
    paid-append s.settled (d.settlement ∷ []) ∙ ap (λ ts. paid_traces s.settled ++ ts) (append-nil (counted d.settlement)) in
    record {
      paid =
          subst (λ xs. AreOfRows (paid_traces xs) now) (sym grew)
          (subst (λ ts. AreOfRows ts now) (sym counts) (both-rows (paid_traces s.settled) (counted d.settlement) now paid d.paid));
      settles = inr (d.settlement, grew, d.so, p, refl, d.of_what);
    }

-- ---- while an ask runs

abbrev pub AskMet : (own : ℕ) → (before now : List Row) → List Word → List Heard → TillState → Settling → Bool → Happening → Type 0
AskMet own before now requests rest t s accepted h =
    let v : Settling = asked t (with_status s h) accepted h in Told own before now requests rest t t s v

-- the ask goes on
ask-on : (own : ℕ) (before now : List Row) (requests : List Word) (rest : List Heard) (t : TillState) (s : Settling) (accepted : Bool) (h : Happening)
    → t.running ≡ None → ends accepted h ≡ false → AllIn own now (map row_of t.book) → AreOfRows (paid_traces s.settled) now
    → KnownBy own (map row_of t.book) t.unclear before now s
    → ((requests ≡ Beyond RepeatReceipt ∷ []) × (rest ≡ []) × ((with_status s h).so_far ≡ Nothing)) ⊎ ((requests ≡ []) × Answers now (with_status s h).so_far rest)
    → AskMet own before now requests rest t s accepted h
ask-on own before now requests rest t s accepted h idle e all paid known stage =
    subst (λ b. Told own before now requests rest t t s (cond b (answered t (with_status s h) (answer_by (with_status s h).so_far h)) (record (with_status s h) { asking = Some (accepted || is_positive h) }))) (sym e)
    (record {
      met = record {
        stage =
            subst (λ run. Stage own (map row_of t.book) t.unclear before now requests (record (with_status s h) { asking = Some (accepted || is_positive h) }) run (Some (accepted || is_positive h)) rest) (sym idle)
            (record { known = known; words = stage });
        books = all;
      };
      paid = paid;
      settles = inl refl;
      pends = λ r. inl (refl, refl);
    })

-- the ask ends
ask-ends : (own : ℕ) (before now : List Row) (t : TillState) (s : Settling) (accepted : Bool) (h : Happening) (requests : List Word) (rest : List Heard) (a : Option StatusFacts)
    → t.running ≡ None → ends accepted h ≡ true → requests ≡ [] → rest ≡ [] → answer_by (with_status s h).so_far h ≡ a
    → Told own before now requests rest t t s (answered t (with_status s h) a) → AskMet own before now requests rest t s accepted h
ask-ends own before now t s accepted h requests rest a idle e none empty is k =
    subst (λ b. Told own before now requests rest t t s (cond b (answered t (with_status s h) (answer_by (with_status s h).so_far h)) (record (with_status s h) { asking = Some (accepted || is_positive h) }))) (sym e)
    (subst (λ o. Told own before now requests rest t t s (answered t (with_status s h) o)) (sym is) k)

-- without an answer
unanswered : (own : ℕ) (before now : List Row) (t : TillState) (s : Settling) (h : Happening) (requests : List Word) (rest : List Heard)
    → t.running ≡ None → requests ≡ [] → rest ≡ [] → AllIn own now (map row_of t.book) → AreOfRows (paid_traces s.settled) now → KnownBy own (map row_of t.book) t.unclear before now s
    → Told own before now requests rest t t s (answered t (with_status s h) None)
unanswered own before now t s h requests rest idle none empty all paid known =
    record {
      met = record {
        stage =
            subst (λ run. Stage own (map row_of t.book) t.unclear before now requests (answered t (with_status s h) None) run None rest) (sym idle)
            (record { known = known; no_request = none; no_word = empty });
        books = all;
      };
      paid = paid;
      settles = inl refl;
      pends = λ r. inl (refl, refl);
    }

-- the status of the last row
answers : (own : ℕ) (before now : List Row) (t : TillState) (s : Settling) (h : Happening) (requests : List Word) (rest : List Heard) (f : StatusFacts)
    → t.settings.currency ≡ own → t.running ≡ None → requests ≡ [] → rest ≡ [] → NumberedFrom 1 now → length now ≤ 9999 → AllIn own now (map row_of t.book) → AreOfRows (paid_traces s.settled) now
    → KnownBy own (map row_of t.book) t.unclear before now s → IsLast now f
    → Told own before now requests rest t t s (answered t (with_status s h) (Some f))
answers own before now t s h requests rest f currency idle none empty numbered few all paid known last =
    let v : Settling = answered t (with_status s h) (Some f) in
    let d = decided-by t before now s f s.pending numbered few
    (λ p e. subst (λ c. Waits c (map row_of t.book) t.unclear (paid_traces s.settled) before now p) (sym currency) (known.waits p e)) last paid in
    record {
      met = record {
        stage =
            subst (λ run. Stage own (map row_of t.book) t.unclear before now requests v run None rest) (sym idle)
            (record {
              known = record {
                last = λ g e. let same : f ≡ g = cc in subst (IsLast now) same last;
                waits = λ p e. absurd cc;
              };
              no_request = none;
              no_word = empty;
            });
        books = all;
      };
      paid = d.paid;
      settles = d.settles;
      pends = λ r. inr refl;
    }

-- what the ask that runs needs
record Runs (own : ℕ) (before now : List Row) (requests : List Word) (t : TillState) (s : Settling) : Type 0 where
  currency : t.settings.currency ≡ own
  idle : t.running ≡ None
  numbered : NumberedFrom 1 now
  few : length now ≤ 9999
  all : AllIn own now (map row_of t.book)
  paid : AreOfRows (paid_traces s.settled) now
  known : KnownBy own (map row_of t.book) t.unclear before now s
  none : requests ≡ []

-- no status so far
fresh-word : (own : ℕ) (before now : List Row) (requests : List Word) (tail : List Heard) (t : TillState) (s : Settling) (accepted : Bool) (m : Heard)
    → Runs own before now requests t s → s.so_far ≡ Nothing → Repeats now (m ∷ tail) → AskMet own before now requests tail t s accepted (HeardIn m)
fresh-word own before now requests tail t s accepted (Negative c) k empty d = by_end (not accepted) refl
  where
    by_end : (b : Bool) → ends accepted (HeardIn (Negative c)) ≡ b → AskMet own before now requests tail t s accepted (HeardIn (Negative c))
    by_end true e = ask-ends own before now t s accepted (HeardIn (Negative c)) requests tail None k.idle e k.none d refl (unanswered own before now t s (HeardIn (Negative c)) requests tail k.idle k.none d k.all k.paid k.known)
    by_end false e =
        ask-on own before now requests tail t s accepted (HeardIn (Negative c)) k.idle e k.all k.paid k.known
        (inr (k.none, subst (λ x. Answers now x tail) (sym empty) (subst (Repeats now) (sym d) tt)))
fresh-word own before now requests tail t s accepted (Status f) k empty d =
    ask-on own before now requests tail t s accepted (HeardIn (Status f)) k.idle refl k.all k.paid k.known
    (inr (k.none, subst (λ x. Answers now (status_after x f) tail) (sym empty) d))
fresh-word own before now requests tail t s accepted (Abort c) k empty d =
    ask-ends own before now t s accepted (HeardIn (Abort c)) requests tail None k.idle refl k.none d refl (unanswered own before now t s (HeardIn (Abort c)) requests tail k.idle k.none d k.all k.paid k.known)
fresh-word own before now requests tail t s accepted Positive k empty d = absurd d
fresh-word own before now requests tail t s accepted Passing k empty d = absurd d
fresh-word own before now requests tail t s accepted Completion k empty d = absurd d
fresh-word own before now requests tail t s accepted Strange k empty d = absurd d

-- after the status of the last row
told-word : (own : ℕ) (before now : List Row) (requests : List Word) (tail : List Heard) (t : TillState) (s : Settling) (accepted : Bool) (m : Heard) (f : StatusFacts)
    → Runs own before now requests t s → s.so_far ≡ One f → IsLast now f → Goes (m ∷ tail) → AskMet own before now requests tail t s accepted (HeardIn m)
told-word own before now requests tail t s accepted Passing f k one last d =
    ask-on own before now requests tail t s accepted (HeardIn Passing) k.idle refl k.all k.paid k.known (inr (k.none, subst (λ x. Answers now x tail) (sym one) (last, d)))
told-word own before now requests tail t s accepted Completion f k one last d =
    let numbered_status : one_status (One f) ≡ Some f = ap (λ g. one_status (One g)) last.tells ∙ ap Some (sym last.tells) in
    ask-ends own before now t s accepted (HeardIn Completion) requests tail (Some f) k.idle refl k.none d (ap one_status one ∙ numbered_status)
    (answers own before now t s (HeardIn Completion) requests tail f k.currency k.idle k.none d k.numbered k.few k.all k.paid k.known last)
told-word own before now requests tail t s accepted m f k one last d = absurd d

ask-word : (own : ℕ) (before now : List Row) (requests : List Word) (tail : List Heard) (t : TillState) (s : Settling) (accepted : Bool) (m : Heard) (so_far : StatusSoFar)
    → Runs own before now requests t s → s.so_far ≡ so_far → Answers now so_far (m ∷ tail) → AskMet own before now requests tail t s accepted (HeardIn m)
ask-word own before now requests tail t s accepted m Nothing k e d = fresh-word own before now requests tail t s accepted m k e d
ask-word own before now requests tail t s accepted m (One f) k e d = told-word own before now requests tail t s accepted m f k e d.0 d.1
ask-word own before now requests tail t s accepted m Mixed k e d = absurd d

-- what both ends need, whatever runs
pub record Ready (own : ℕ) (now : List Row) (t : TillState) (s : Settling) : Type 0 where
  pub currency : t.settings.currency ≡ own
  pub numbered : NumberedFrom 1 now
  pub few : length now ≤ 9999
  pub all : AllIn own now (map row_of t.book)
  pub paid : AreOfRows (paid_traces s.settled) now

runs-of : (own : ℕ) (before now : List Row) (requests : List Word) (rest : List Heard) (t : TillState) (s : Settling) → Ready own now t s → t.running ≡ None → Asking own (map row_of t.book) t.unclear before now requests s rest → requests ≡ []
    → Runs own before now requests t s
runs-of own before now requests rest t s r idle k none =
    record { currency = r.currency; idle = idle; numbered = r.numbered; few = r.few; all = r.all; paid = r.paid; known = k.known; none = none }

pub asking-hears : (own : ℕ) (before now : List Row) (requests : List Word) (t : TillState) (s : Settling) (accepted : Bool) (m : Heard) (q coming : List Heard)
    → Ready own now t s → t.running ≡ None → Asking own (map row_of t.book) t.unclear before now requests s (words (m ∷ q) ++ coming)
    → AskMet own before now requests (words q ++ coming) t s accepted (HeardIn m)
asking-hears own before now requests t s accepted Positive q coming r idle k =
    ask-on own before now requests (words q ++ coming) t s accepted (HeardIn Positive) idle refl r.all r.paid k.known k.words
asking-hears own before now requests t s accepted m q coming r idle k = by_words k.words
  where
    by_words : ((requests ≡ Beyond RepeatReceipt ∷ []) × (words (m ∷ q) ++ coming ≡ []) × (s.so_far ≡ Nothing)) ⊎ ((requests ≡ []) × Answers now s.so_far (words (m ∷ q) ++ coming))
        → AskMet own before now requests (words q ++ coming) t s accepted (HeardIn m)
    by_words (inl w) = let gone = w.1 in absurd cc
    by_words (inr w) =
        ask-word own before now requests (words q ++ coming) t s accepted m s.so_far (runs-of own before now requests (words (m ∷ q) ++ coming) t s r idle k w.0) refl w.1
