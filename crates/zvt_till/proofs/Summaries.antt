-- The running summary of statuses says what the whole list of them says.
use Rattle.std.proofs.Common.{◌≡◌, ℕ, Bool, true, false, not, cond, ◌&&◌, List, [], ◌∷◌, ◌++◌, Option, Some, None, map, fold, refl, sym, ap, ◌∙◌, append-nil, filter_map}
use Rattle.std.specs.List.{list_all, find}
use Rattle.std.proofs.lemmas.List.Elements.{filter_map-append}
use Rattle.zvt_till.specs.declared.happenings.Happening.{Happening}
use Rattle.zvt_till.specs.declared.messages.StatusFacts.{StatusFacts}
use Rattle.zvt_till.specs.declared.statuses.Statuses.{Statuses}
use Rattle.zvt_till.specs.declared.statuses.Statuses.TheVariants.{Nothing, Good as AllGood, Declining as AllDeclining, Fault}
use Rattle.zvt_till.specs.declared.outcomes.Cause.{Cause}
use Rattle.zvt_till.specs.declared.outcomes.Cause.TheVariants.{Conflict}
use Rattle.zvt_till.specs.Statuses.{same_trace, Demand, Class, Good, Declining, Doubtful, class_of, agrees, objection, is_declining, is_good}
use Rattle.zvt_till.specs.Segments.{statuses, status_of}
use Rattle.zvt_till.specs.Outcomes.{note, note_if, note_class}
use Rattle.zvt_till.proofs.Segments.{fold-snoc}

abbrev pub summary : Option Demand → List StatusFacts → Statuses
summary d fs = fold (note d) Nothing fs

summary-option : (d : Option Demand) (fs : List StatusFacts) (o : Option StatusFacts)
    → summary d (fs ++ filter_map (λ x. x) (o ∷ [])) ≡ note_if d (summary d fs) o
summary-option d fs None = ap (summary d) (append-nil fs)
summary-option d fs (Some s) = fold-snoc (note d) Nothing fs s

pub summary-snoc : (d : Option Demand) (hs : List Happening) (h : Happening)
    → summary d (statuses (hs ++ h ∷ [])) ≡ note_if d (summary d (statuses hs)) (status_of h)
summary-snoc d hs h = ap (summary d) (filter_map-append status_of hs (h ∷ [])) ∙ summary-option d (statuses hs) (status_of h)

-- what becomes of a summary at the first status that does not agree
abbrev pub after : Statuses → Option Class → Statuses
after st None = st
after st (Some c) = Fault (objection c)

abbrev pub disagreeing : Class → List Class → Option Class
disagreeing c cs = find (λ d. not (agrees c d)) cs

fault-step : (d : Demand) (cause : Cause) (fs : List StatusFacts) → fold (note (Some d)) (Fault cause) fs ≡ Fault cause
    → (c : Class) (q : Option (List ℕ)) → fold (note (Some d)) (note_class (Fault cause) c q) fs ≡ Fault cause
fault-step d cause fs ih (Good t) q = ih
fault-step d cause fs ih (Declining k) q = ih
fault-step d cause fs ih (Doubtful x) q = ih

fault-stays : (d : Demand) (cause : Cause) (fs : List StatusFacts) → fold (note (Some d)) (Fault cause) fs ≡ Fault cause
fault-stays d cause [] = refl
fault-stays d cause (f ∷ fs) = fault-step d cause fs (fault-stays d cause fs) (class_of d f) f.receipt

same_trace-step : (d : Demand) (t : Option ℕ) (r : Option (List ℕ)) (fs : List StatusFacts) (cs : List Class)
    → fold (note (Some d)) (AllGood t r) fs ≡ after (AllGood t r) (disagreeing (Good t) cs)
    → (b : Bool) (u : Option ℕ)
    → fold (note (Some d)) (cond b (AllGood t r) (Fault Conflict)) fs ≡ after (AllGood t r) (cond (not b) (Some (Good u)) (disagreeing (Good t) cs))
same_trace-step d t r fs cs ih true u = ih
same_trace-step d t r fs cs ih false u = fault-stays d Conflict fs

good-step : (d : Demand) (t : Option ℕ) (r : Option (List ℕ)) (fs : List StatusFacts) (cs : List Class)
    → fold (note (Some d)) (AllGood t r) fs ≡ after (AllGood t r) (disagreeing (Good t) cs)
    → (c : Class) (q : Option (List ℕ)) → fold (note (Some d)) (note_class (AllGood t r) c q) fs ≡ after (AllGood t r) (disagreeing (Good t) (c ∷ cs))
good-step d t r fs cs ih (Good u) q = same_trace-step d t r fs cs ih (same_trace u t) u
good-step d t r fs cs ih (Declining k) q = fault-stays d Conflict fs
good-step d t r fs cs ih (Doubtful x) q = fault-stays d x fs

good-rest : (d : Demand) (t : Option ℕ) (r : Option (List ℕ)) (fs : List StatusFacts)
    → fold (note (Some d)) (AllGood t r) fs ≡ after (AllGood t r) (disagreeing (Good t) (map (class_of d) fs))
good-rest d t r [] = refl
good-rest d t r (f ∷ fs) = good-step d t r fs (map (class_of d) fs) (good-rest d t r fs) (class_of d f) f.receipt

declining-step : (d : Demand) (k : ℕ) (fs : List StatusFacts) (cs : List Class)
    → fold (note (Some d)) (AllDeclining k) fs ≡ after (AllDeclining k) (disagreeing (Declining k) cs)
    → (c : Class) (q : Option (List ℕ)) → fold (note (Some d)) (note_class (AllDeclining k) c q) fs ≡ after (AllDeclining k) (disagreeing (Declining k) (c ∷ cs))
declining-step d k fs cs ih (Good u) q = fault-stays d Conflict fs
declining-step d k fs cs ih (Declining j) q = ih
declining-step d k fs cs ih (Doubtful x) q = fault-stays d x fs

declining-rest : (d : Demand) (k : ℕ) (fs : List StatusFacts)
    → fold (note (Some d)) (AllDeclining k) fs ≡ after (AllDeclining k) (disagreeing (Declining k) (map (class_of d) fs))
declining-rest d k [] = refl
declining-rest d k (f ∷ fs) = declining-step d k fs (map (class_of d) fs) (declining-rest d k fs) (class_of d f) f.receipt

-- the summary, from the classes of the whole list
abbrev pub whole : Class → Option (List ℕ) → List Class → Statuses
whole (Good t) r cs = after (AllGood t r) (disagreeing (Good t) cs)
whole (Declining k) r cs = after (AllDeclining k) (disagreeing (Declining k) cs)
whole (Doubtful x) r cs = Fault x

whole-first : (d : Demand) (c : Class) (r : Option (List ℕ)) (fs : List StatusFacts)
    → fold (note (Some d)) (note_class Nothing c r) fs ≡ whole c r (map (class_of d) fs)
whole-first d (Good t) r fs = good-rest d t r fs
whole-first d (Declining k) r fs = declining-rest d k fs
whole-first d (Doubtful x) r fs = fault-stays d x fs

pub summary-whole : (d : Demand) (f : StatusFacts) (fs : List StatusFacts)
    → summary (Some d) (f ∷ fs) ≡ whole (class_of d f) f.receipt (map (class_of d) fs)
summary-whole d f fs = whole-first d (class_of d f) f.receipt fs

abbrev pub is_nothing : {X : Type 0} → Option X → Bool
is_nothing None = true
is_nothing (Some x) = false

pub all_or_find : {X : Type 0} (p : X → Bool) (xs : List X) → list_all p xs ≡ is_nothing (find (λ x. not (p x)) xs)
all_or_find p [] = refl
all_or_find p (x ∷ xs) = one (p x) (all_or_find p xs)
  where
    one : (b : Bool) → list_all p xs ≡ is_nothing (find (λ y. not (p y)) xs) → (b && list_all p xs) ≡ is_nothing (cond (not b) (Some x) (find (λ y. not (p y)) xs))
    one true e = e
    one false e = refl

pub declining_agrees : (k : ℕ) (cs : List Class) → list_all is_declining cs ≡ is_nothing (disagreeing (Declining k) cs)
declining_agrees k [] = refl
declining_agrees k (c ∷ cs) = one c (declining_agrees k cs)
  where
    one : (c : Class) → list_all is_declining cs ≡ is_nothing (disagreeing (Declining k) cs) → (is_declining c && list_all is_declining cs) ≡ is_nothing (disagreeing (Declining k) (c ∷ cs))
    one (Good t) e = refl
    one (Declining j) e = e
    one (Doubtful x) e = refl

-- a reversal's statuses are good as a whole exactly where the summary says so
abbrev pub is_all_good : Statuses → Bool
is_all_good Nothing = false
is_all_good (AllGood t r) = true
is_all_good (AllDeclining k) = false
is_all_good (Fault x) = false

good-table : (c : Class) (r : Option (List ℕ)) (cs : List Class) → is_good (c ∷ cs) ≡ is_all_good (whole c r cs)
good-table (Good t) r cs = all_or_find (agrees (Good t)) cs ∙ by_dissent (disagreeing (Good t) cs)
  where
    by_dissent : (x : Option Class) → is_nothing x ≡ is_all_good (after (AllGood t r) x)
    by_dissent None = refl
    by_dissent (Some d) = refl
good-table (Declining k) r cs = by_dissent (disagreeing (Declining k) cs)
  where
    by_dissent : (x : Option Class) → false ≡ is_all_good (after (AllDeclining k) x)
    by_dissent None = refl
    by_dissent (Some d) = refl
good-table (Doubtful x) r cs = refl

pub good-summary : (d : Demand) (fs : List StatusFacts) → is_good (map (class_of d) fs) ≡ is_all_good (summary (Some d) fs)
good-summary d [] = refl
good-summary d (f ∷ fs) = good-table (class_of d f) f.receipt (map (class_of d) fs) ∙ ap is_all_good (sym (summary-whole d f fs))
