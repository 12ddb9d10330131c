-- The members of a look are written one after another.
use Rattle.std.proofs.Common.{◌≡◌, ℕ, Bool, true, false, List, [], ◌∷◌, ◌++◌, map, Option, Some, None, Result, Ok, Err, codes, refl, sym, ◌∙◌, ap, append_assoc}
use Rattle.std.specs.Prelude.{OnOk}
use Rattle.std.specs.declared.alloc.AllocError.{AllocError}
use Rattle.serde_json.specs.Data.{Data, Members, member}
use Rattle.serde_json.specs.Written.{comma_if, compact_text, members_text}
use Rattle.zvt_json.specs.Strings.{line_text}
use Rattle.zvt_report.specs.LookObjects.{Told, look_value, more_of, more_text, of_member, told, told_text}
use Rattle.zvt_report.specs.Members.{name_text}
use Rattle.zvt_report.specs.declared.members.Member.{Member}
use Rattle.zvt_report.specs.declared.members.Name.{Name}
use Rattle.zvt_report.specs.declared.members.Object.TheVariants as object_of
use Rattle.zvt_report.proofs.MemberLemmas.{name_plain, named, object_plain, wrapped}

-- a member, and what comes after it
pub told_first : (later : Bool) (n : Name) (d : Data) (rest : Members) → told_text later n d ++ members_text true rest ≡ members_text later (member (name_text n) d rest)
unfolding told_text
told_first later n d rest =
    named later (name_text n) (compact_text d) (members_text true rest)
    ∙ ap (λ (l : List ℕ). comma_if later ++ ((34 ∷ (l ++ 34 ∷ [])) ++ 58 ∷ (compact_text d ++ members_text true rest))) (sym (name_plain n))

-- members after others, and what comes after them
pub told_then : (ts us : List Told) → more_text ts ++ members_text true (told us) ≡ members_text true (told (ts ++ us))
told_then [] us = refl
told_then (None ∷ ts) us = told_then ts us
told_then (Some t ∷ ts) us =
    append_assoc (told_text true t.0 t.1) (more_text ts) (members_text true (told us)) ∙ ap (λ (l : List ℕ). told_text true t.0 t.1 ++ l) (told_then ts us)
    ∙ told_first true t.0 t.1 (told (ts ++ us))

pub told_last : (ts : List Told) → more_text ts ++ 125 ∷ [] ≡ members_text true (told ts)
told_last [] = refl
told_last (None ∷ ts) = told_last ts
told_last (Some t ∷ ts) =
    append_assoc (told_text true t.0 t.1) (more_text ts) (125 ∷ []) ∙ ap (λ (l : List ℕ). told_text true t.0 t.1 ++ l) (told_last ts) ∙ told_first true t.0 t.1 (told ts)

-- three members with others after each
pub three_told : (k m n : Name) (c d e : Data) (ts us vs : List Told)
    → told_text false k c ++ (more_text ts ++ (told_text true m d ++ (more_text us ++ (told_text true n e ++ (more_text vs ++ 125 ∷ [])))))
    ≡ members_text false (told (Some (k, c) ∷ (ts ++ (Some (m, d) ∷ (us ++ (Some (n, e) ∷ vs))))))
three_told k m n c d e ts us vs =
    let last : told_text true n e ++ (more_text vs ++ 125 ∷ []) ≡ members_text true (told (Some (n, e) ∷ vs)) =
    ap (λ (l : List ℕ). told_text true n e ++ l) (told_last vs) ∙ told_first true n e (told vs) in
    let second : told_text true m d ++ (more_text us ++ (told_text true n e ++ (more_text vs ++ 125 ∷ []))) ≡ members_text true (told (Some (m, d) ∷ (us ++ (Some (n, e) ∷ vs)))) =
    ap (λ (l : List ℕ). told_text true m d ++ (more_text us ++ l)) last ∙ ap (λ (l : List ℕ). told_text true m d ++ l) (told_then us (Some (n, e) ∷ vs))
    ∙ told_first true m d (told (us ++ (Some (n, e) ∷ vs))) in
    ap (λ (l : List ℕ). told_text false k c ++ (more_text ts ++ l)) second ∙ ap (λ (l : List ℕ). told_text false k c ++ l) (told_then ts (Some (m, d) ∷ (us ++ (Some (n, e) ∷ vs))))
    ∙ told_first false k c (told (ts ++ (Some (m, d) ∷ (us ++ (Some (n, e) ∷ vs)))))

-- the members of a look
pub three_told_of : (k m n : Name) (c d e : Data) (ms us vs : List (Option Member))
    → told_text false k c ++ (more_of ms ++ (told_text true m d ++ (more_of us ++ (told_text true n e ++ (more_of vs ++ 125 ∷ [])))))
    ≡ members_text false (told (Some (k, c) ∷ (map of_member ms ++ (Some (m, d) ∷ (map of_member us ++ (Some (n, e) ∷ map of_member vs))))))
unfolding more_of
three_told_of k m n c d e ms us vs = three_told k m n c d e (map of_member ms) (map of_member us) (map of_member vs)

-- the object around the members
pub look_said : (ts : List Told) → codes "{\"look\":{" ++ members_text false (told ts) ++ codes "}\n" ≡ line_text (look_value ts)
look_said ts =
    wrapped (codes "look") (members_text false (told ts))
    ∙ ap (λ (l : List ℕ). (123 ∷ ((34 ∷ (l ++ 34 ∷ [])) ++ 58 ∷ ((123 ∷ members_text false (told ts)) ++ 125 ∷ []))) ++ 10 ∷ []) (sym (object_plain object_of.Look))

-- members are written that are the same
pub more_same : (r : Result (Unit {0}) AllocError) (old new : List ℕ) (written meant : List (Option Member))
    → written ≡ meant → OnOk r (new ≡ old ++ more_of written) → OnOk r (new ≡ old ++ more_of meant)
more_same (Ok done) old new written meant same adds = adds ∙ ap (λ (l : List (Option Member)). old ++ more_of l) same
more_same (Err refused) old new written meant same adds = tt

-- seven parts one after another
pub seven_parts : (old t₁ t₂ t₃ t₄ t₅ t₆ p₁ p₂ p₃ p₄ p₅ p₆ p₇ : List ℕ)
    → t₁ ≡ old ++ p₁ → t₂ ≡ t₁ ++ p₂ → t₃ ≡ t₂ ++ p₃ → t₄ ≡ t₃ ++ p₄ → t₅ ≡ t₄ ++ p₅ → t₆ ≡ t₅ ++ p₆
    → t₆ ++ p₇ ≡ old ++ (p₁ ++ (p₂ ++ (p₃ ++ (p₄ ++ (p₅ ++ (p₆ ++ p₇))))))
seven_parts old t₁ t₂ t₃ t₄ t₅ t₆ p₁ p₂ p₃ p₄ p₅ p₆ p₇ first second third fourth fifth sixth = simp (sixth, fifth, fourth, third, second, first, append_assoc)
