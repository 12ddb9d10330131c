-- The steps of the reader of the whole fields at the start of bytes.
use Rattle.std.proofs.Common.{◌≡◌, ◌≢◌, ◌⊎◌, ℕ, ◌+◌, ◌-◌, ◌<◌, ◌≤◌, List, [], ◌∷◌, ◌++◌, length, take, drop, refl, sym, ◌∙◌, ap, subst, append_assoc, arith, length-append, length-drop, suc, inl, inr}
use Rattle.std.proofs.lemmas.List.{take-append-drop, take-append-le}
use Rattle.std.proofs.lemmas.Bool.{cases_lt}
use Rattle.std.proofs.Math.Seq.{take-append-add}
use Rattle.zvt_grammar.specs.declared.why.Why.{Why}
use Rattle.zvt_grammar.specs.declared.answer.Scan.{Scan}
use Rattle.zvt_grammar.specs.declared.answer.Scan.TheVariants.{More, Refused}
use Rattle.zvt_grammar.specs.Reading.{Reading}
use Rattle.zvt_grammar.specs.Beginnings.{NoneWhole}
use Rattle.zvt_grammar.specs.Cuts.{Spelled}
use Rattle.zvt_field.specs.Grammar.{Field, FieldOf, FieldList}
use Rattle.zvt_field.specs.Judging.{PlaceIn}
use Rattle.zvt_field.specs.Answers.{AnswersOne, Begun}
use Rattle.zvt_field.proofs.FieldLists.{filler, filling, filling_size, filled}
use Rattle.zvt_field.proofs.ListMoves.{ReadTo, one_at, from}

-- fields in the first bytes are fields before the rest
spelled : (r : Reading) (fs : List Field) (a rest : List ℕ) → FieldList r fs a → Spelled (FieldOf r) (a ++ rest) fs rest
spelled r [] a rest p = ap (λ (s : List ℕ). s ++ rest) p
spelled r (f ∷ fs) a rest (one, after, whole, p, more) =
    (one, after ++ rest, ap (λ (s : List ℕ). s ++ rest) whole ∙ append_assoc one after rest, p, spelled r fs after rest more)

stopped : (r : Reading) (room k : ℕ) (bytes : List ℕ) (fs : List Field) → ReadTo r room bytes fs k → NoneWhole (FieldOf r) (drop k bytes) → Begun r bytes fs
stopped r room k bytes fs i none = (
  drop k bytes,
  record {
    spelled = subst (λ (b : List ℕ). Spelled (FieldOf r) b fs (drop k bytes)) (take-append-drop k bytes) (spelled r fs (take k bytes) (drop k bytes) i.spelled);
    none_whole = none;
  },
)

stopped_more : (r : Reading) (room k : ℕ) (bytes : List ℕ) (fs : List Field) (q : Scan (Field × ℕ)) → ReadTo r room bytes fs k → q ≡ More → AnswersOne r (room - k) (from k bytes) q → Begun r bytes fs
stopped_more r room k bytes fs q i is h = stopped r room k bytes fs i (one_at r (room - k) k bytes q More is h).2

-- a whole field in a room with two more bytes goes beyond no dead byte
none_dead : (r : Reading) (room place : ℕ) (bytes : List ℕ) → length bytes + 2 ≤ room → PlaceIn r room bytes place → NoneWhole (FieldOf r) (take place bytes) → NoneWhole (FieldOf r) bytes
none_dead r room place bytes wide dead none f prefix rest e p = by_place (cases_lt place (length prefix))
  where
    by_place : (place < length prefix) ⊎ (length prefix ≤ place) → ⊥
    by_place (inr le) =
        let long : place ≡ length prefix + (place - length prefix) = omega arith in
        let before : take place bytes ≡ prefix ++ take (place - length prefix) rest = ap (λ (n : ℕ). take n bytes) long ∙ ap (take (length prefix + (place - length prefix))) e ∙ take-append-add prefix rest (place - length prefix) in
        none f prefix (take (place - length prefix) rest) before p
    by_place (inl lt) =
        let left : ℕ = room - length prefix in
        let two : left ≢ 1 = λ one. omega (arith, ap length e, length-append prefix rest) in
        let begins : take (suc place) bytes ≡ take (suc place) prefix = ap (take (suc place)) e ∙ take-append-le (suc place) prefix rest lt in
        let whole : take (suc place) bytes ++ (drop (suc place) prefix ++ filling left) ≡ prefix ++ filling left =
        ap (λ (s : List ℕ). s ++ (drop (suc place) prefix ++ filling left)) begins ∙ sym (append_assoc (take (suc place) prefix) (drop (suc place) prefix) (filling left)) ∙ ap (λ (s : List ℕ). s ++ filling left) (take-append-drop (suc place) prefix) in
        dead.0.dead (record {
          value = f ∷ filler left;
          rest = drop (suc place) prefix ++ filling left;
          spelled = (
            subst (FieldList r (f ∷ filler left)) (sym whole) (prefix, filling left, refl, p, filled r left),
            omega (arith, ap length whole, length-append prefix (filling left), filling_size left two, ap length e, length-append prefix rest),
          );
        })

stopped_refused : (r : Reading) (room k place : ℕ) (bytes : List ℕ) (fs : List Field) (why : Why) (q : Scan (Field × ℕ)) → length bytes + 2 ≡ room → ReadTo r room bytes fs k → q ≡ Refused place why →
    AnswersOne r (room - k) (from k bytes) q → Begun r bytes fs
stopped_refused r room k place bytes fs why q wide i is h =
    let a = one_at r (room - k) k bytes q (Refused place why) is h in
    stopped r room k bytes fs i (none_dead r (room - k) place (drop k bytes) (omega (arith, length-drop k bytes, i.present)) a.0 a.2)

-- the reader stops
pub no_more : (r : Reading) (k : ℕ) (bytes : List ℕ) (fs gs : List Field) (q : Scan (Field × ℕ)) → ReadTo r (length bytes + 2) bytes fs k → (q ≡ More) ⊎ ((place : ℕ) × (why : Why) × (q ≡ Refused place why)) →
    AnswersOne r (length bytes + 2 - k) (from k bytes) q → gs ≡ fs → Begun r bytes gs
no_more r k bytes fs gs q i (inl more) h e = subst (Begun r bytes) (sym e) (stopped_more r (length bytes + 2) k bytes fs q i more h)
no_more r k bytes fs gs q i (inr (place, why, is)) h e = subst (Begun r bytes) (sym e) (stopped_refused r (length bytes + 2) k place bytes fs why q refl i is h)
