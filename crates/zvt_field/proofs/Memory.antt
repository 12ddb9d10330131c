-- Where the reader takes memory.
use Rattle.std.proofs.Common.{◌≡◌, ℕ, ◌+◌, ◌-◌, ◌<◌, List, [], ◌∷◌, ◌++◌, length, take, drop, refl, sym, ◌∙◌, ap, subst, append_assoc, arith, suc, zero, inl, inr}
use Rattle.std.proofs.lemmas.List.{take_rest, length-take-le, take-append-drop}
use Rattle.zvt_grammar.specs.Reading.{Reading}
use Rattle.zvt_grammar.specs.declared.answer.Scan.{Scan}
use Rattle.zvt_grammar.specs.declared.answer.Scan.TheVariants.{Whole}
use Rattle.zvt_tlv.proofs.Spelling.{from}
use Rattle.zvt_tlv.specs.Sized.{SizedTakesMemory}
use Rattle.zvt_field.specs.Grammar.{Field, FieldList}
use Rattle.zvt_field.specs.Answers.{AnswersOne, FieldFound, InContainer, HoldsSome, TakesMemory}
use Rattle.zvt_field.proofs.ListMoves.{ReadTo, next_field}

-- a field was found
pub found_takes : (r : Reading) (room : ℕ) (bytes : List ℕ) (field : Field) (size : ℕ) → FieldFound r room bytes field size → HoldsSome r bytes
found_takes r room bytes field size f = inl (field, take size bytes, drop size bytes, sym (take-append-drop size bytes), f.spelled)

-- objects of a container
pub objects_take : (r : Reading) (room : ℕ) (bytes : List ℕ) → InContainer r room bytes → SizedTakesMemory r (from 1 bytes) → HoldsSome r bytes
objects_take r room bytes i t =
    let inside : from 1 bytes ≡ i.inside = take_rest bytes 1 ∙ ap (λ (s : List ℕ). drop 1 s) i.whole in
    inr (i.bmp, i.inside, i.whole, i.is_tree, subst (SizedTakesMemory r) inside t)

-- fields that were read
listed_take : (r : Reading) (fs : List Field) (prefix rest bytes : List ℕ) → FieldList r fs prefix → 0 < length prefix → bytes ≡ prefix ++ rest → HoldsSome r bytes
listed_take r [] prefix rest bytes p lt e = absurd (omega (arith, ap length p, lt))
listed_take r (f ∷ fs) prefix rest bytes p lt e = inl (f, p.0, p.1 ++ rest, e ∙ ap (λ (s : List ℕ). s ++ rest) p.2 ∙ append_assoc p.0 p.1 rest, p.3)

read_takes : (r : Reading) (room : ℕ) (bytes : List ℕ) (fs : List Field) (k : ℕ) → ReadTo r room bytes fs k → 0 < k → HoldsSome r bytes
read_takes r room bytes fs k i lt = listed_take r fs (take k bytes) (drop k bytes) bytes i.spelled (omega (arith, lt, length-take-le k bytes i.present)) (sym (take-append-drop k bytes))

pub next_takes : (r : Reading) (room : ℕ) (bytes : List ℕ) (fs : List Field) (k : ℕ) → ReadTo r room bytes fs k → k < room → HoldsSome r (from k bytes) → TakesMemory r room bytes
next_takes r room bytes fs zero i lt t = (lt, subst (HoldsSome r) (take_rest bytes 0) t)
next_takes r room bytes fs (suc k) i lt t = (omega (arith, lt), read_takes r room bytes fs (suc k) i (omega arith))

pub pushed_takes : (r : Reading) (room : ℕ) (bytes : List ℕ) (fs : List Field) (k n : ℕ) (f : Field) (q : Scan (Field × ℕ)) → ReadTo r room bytes fs k → k < room → q ≡ Whole (f, n) → AnswersOne r (room - k) (from k bytes) q → TakesMemory r room bytes
pushed_takes r room bytes fs k n f q i lt is h =
    let more = next_field r room bytes fs (fs ++ f ∷ []) k n f q i is h refl in
    (omega (arith, lt), read_takes r room bytes (fs ++ f ∷ []) (k + n) more.0 (omega (arith, more.1)))
