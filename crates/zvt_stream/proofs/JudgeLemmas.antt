-- The levels that a complete item leaves, and what a byte says of the bytes before it and of itself.
use Rattle.std.proofs.Common.{◌≡◌, ◌≢◌, ℕ, ◌+◌, ◌-◌, ◌<◌, ◌≤◌, Some, None, Result, Ok, Err, List, [], ◌∷◌, ◌++◌, length, reverse, take, get_or, slice_get, refl, sym, ◌∙◌, ap, subst, append_assoc, arith, length-append, ◌⊎◌, inl, inr, suc, zero}
use Rattle.std.proofs.lemmas.Bool.{cases_lt}
use Rattle.std.proofs.lemmas.List.{append-nil, reverse-append, length-reverse, length-take-le}
use Rattle.std.proofs.Math.Seq.{take-append_seam, take-suc}
use Rattle.zvt_grammar.specs.declared.why.Why.{Why}
use Rattle.zvt_grammar.specs.Reading.{AreBytes, Reading}
use Rattle.zvt_tlv.specs.declared.judge.TagAt.TheVariants.{First}
use Rattle.zvt_tlv.proofs.Alive.{prefix_of}
use Rattle.zvt_apdu.specs.Grammar.{Spells}
use Rattle.zvt_tlv.specs.Judging.{Opener}
use Rattle.zvt_apdu.specs.Judging.{Position, Role, fault}
use Rattle.zvt_apdu.proofs.Fit.{fit}
use Rattle.zvt_stream.specs.Apdus.{AliveIn, NoneWholeIn, UnfinishedIn, IsRefusedIn}
use Rattle.zvt_stream.specs.Parts.{At}
use Rattle.zvt_stream.specs.Parts as stage
use Rattle.arrayvec.specs.ArrayVec.{ArrayVec}
use Rattle.zvt_stream.specs.declared.transitions.Goes.{Goes}
use Rattle.zvt_stream.specs.declared.transitions.Levels.{Levels}
use Rattle.zvt_stream.specs.declared.transitions.Part.{Part}
use Rattle.zvt_stream.specs.declared.transitions.Part.TheVariants as part
use Rattle.zvt_stream.specs.declared.transitions.Transition.{Transition}
use Rattle.zvt_stream.specs.declared.judge.DecodeRun.{DecodeRun}
use Rattle.zvt_stream.specs.declared.judge.DecodeRun.TheVariants as run
use Rattle.zvt_stream.specs.declared.judge.Judged.{Judged}
use Rattle.zvt_stream.specs.declared.judge.Judged.TheVariants.{Open, Ended}
use Rattle.zvt_stream.specs.DecoderState.{IsFull, depth_of, Level, Between, Where, role_of}
use Rattle.zvt_stream.specs.Moves.{Judges, Keeps, Leads, at_in, at_part, leads_to, move_of, opens, outer_of}
use Rattle.zvt_stream.specs.declared.head.Head.{Head}
use Rattle.zvt_stream.specs.declared.head.Head.TheVariants.{Empty, One, Two}
use Rattle.zvt_stream.specs.Head.{head_of}
use Rattle.zvt_stream.specs.Judge.{unfilled, beginning, Advances, Follows, IsJudge, IsMessageIn, JudgeState, Ran, Settles, StandsFor, HasLevelsIn, head_at, start, state_of}
use Rattle.zvt_stream.proofs.Beginnings.{nothing_in}
use Rattle.zvt_stream.proofs.HeadLemmas.{HasBoth, IsAfter, has_both, head_stays}
use Rattle.zvt_stream.proofs.LevelLemmas.{filled_level}
use Rattle.zvt_stream.proofs.DecoderStateLemmas.{stood, position_none, full_message}

-- the list of levels, innermost first
pub pushed : (items : List ℕ) (k : ℕ) → reverse (items ++ k ∷ []) ≡ k ∷ reverse items
pushed items k = reverse-append items (k ∷ [])

positive : (n m : ℕ) → suc n ≡ m → 0 < m
positive n m e = omega (arith, e)

-- a level with bytes to come
pub settled : (r : Reading) (left : ℕ) (outer b : List ℕ) (l : ℕ) (ks : List ℕ) → Between r left outer b → unfilled left outer ≡ Some (l, ks) → Between r l ks b × (0 < l)
settled r zero [] b l ks h e = absurd (cc (e))
settled r zero (k ∷ outer) b l ks h e = settled r k outer b l ks (filled_level r k outer b h) e
settled r (suc left) outer b l ks h e =
    let both : (suc left, outer) ≡ (l, ks) = cc (e) in
    let lefts : suc left ≡ l = ap (λ (p : ℕ × List ℕ). p.0) both in
    let outers : outer ≡ ks = ap (λ (p : ℕ × List ℕ). p.1) both in
    (subst (λ (o : List ℕ). Between r l o b) outers (subst (λ (n : ℕ). Between r n outer b) lefts h), positive left l lefts)

-- no level has
pub ended : (r : Reading) (left : ℕ) (outer b : List ℕ) → Between r left outer b → unfilled left outer ≡ None → IsFull r b
ended r zero [] b h e = h.1
ended r zero (k ∷ outer) b h e = ended r k outer b (filled_level r k outer b h) e
ended r (suc left) outer b h e = absurd (cc (e))

-- where it goes on
pub goes_on_fields : (r : Reading) (left : ℕ) (outer b : List ℕ) → Between r left outer b → 0 < left → length outer ≡ 1 → Where r stage.Name left outer b
goes_on_fields r left [] b h some e = absurd (omega (arith, e))
goes_on_fields r left (k ∷ []) b (z, ne, a) some e = (ap (λ (n : ℕ). n ∷ []) z, omega (arith, ne, some), a)
goes_on_fields r left (k ∷ j ∷ ks) b h some e = absurd (omega (arith, e))

pub goes_on_objects : (r : Reading) (left : ℕ) (outer b : List ℕ) → Between r left outer b → 0 < left → length outer ≢ 1 → Where r (stage.Tag First) left outer b
goes_on_objects r left [] b h some ne = absurd (omega (arith, h.0, some))
goes_on_objects r left (k ∷ []) b h some ne = absurd (ne refl)
goes_on_objects r left (k ∷ j ∷ ks) b (apart, a) some ne = (tt, omega (arith, apart, some), a)

-- how many levels there are
level_depth : (r : Reading) (outer b : List ℕ) (room : ℕ) (part : List ℕ) → Level r b outer room part → length outer ≤ 7
level_depth r [] b room part l = absurd l
level_depth r (k ∷ []) b room part l = omega arith
level_depth r (k ∷ j ∷ []) b room part l = omega arith
level_depth r (k ∷ j ∷ i ∷ ks) b room part l = let d = l.tagged.deep refl in let n = depth_length (j ∷ i ∷ ks) in omega (arith, d, n)
  where
    depth_length : (ks : List ℕ) → length ks ≤ suc (depth_of ks)
    depth_length [] = omega arith
    depth_length (k ∷ []) = omega arith
    depth_length (k ∷ j ∷ ks) = omega (arith, depth_length (j ∷ ks))

pub between_depth : (r : Reading) (left : ℕ) (outer b : List ℕ) → Between r left outer b → length outer ≤ 7
between_depth r left [] b h = omega arith
between_depth r left (k ∷ []) b h = omega arith
between_depth r left (k ∷ j ∷ ks) b h = level_depth r (k ∷ j ∷ ks) b h.1.room h.1.part h.1.level

pub depth_is : (outer : List ℕ) → length outer - 1 ≡ depth_of outer
depth_is [] = omega arith
depth_is (k ∷ []) = omega arith
depth_is (k ∷ j ∷ ks) = omega (arith, depth_is (j ∷ ks))

-- a byte whose tests pass leaves the bytes alive
pub passes : (r : Reading) (at : At) (left x : ℕ) (outer b : List ℕ) → x < 256 → AliveIn r b → Where r at left outer b → fault r (role_of at left (depth_of outer)) x ≡ None → AliveIn r (b ++ x ∷ [])
passes r at left x outer b lt a h e =
    let p = stood r at left outer b h in
    (fit r p.0 b (role_of at left (depth_of outer)) x a p.1 lt).0 e

pub unfinished : (r : Reading) (at : At) (left : ℕ) (outer b : List ℕ) → AliveIn r b → Where r at left outer b → UnfinishedIn r b
unfinished r at left outer b a h =
    let p = stood r at left outer b h in
    record { alive = a; none_whole = position_none r p.0 b at left (depth_of outer) p.1 }

pub whole : (r : Reading) (b : List ℕ) → AliveIn r b → IsFull r b → IsMessageIn r b
whole r b a f = full_message r b a f

-- a byte that fails is refused
pub refuses_at : (r : Reading) (os : List Opener) (role : Role) (b : List ℕ) (x : ℕ) (why : Why) → x < 256 → UnfinishedIn r b → Position r os b role → fault r role x ≡ Some why → IsRefusedIn r (b ++ x ∷ []) (length b) why
refuses_at r os role b x why lt u p e =
    let dead : AliveIn r (b ++ x ∷ []) → ⊥ = (fit r os b role x u.alive p lt).1 why e in (
      none_whole dead,
      record {
        present = omega (arith, length-append b (x ∷ []));
        alive = subst (AliveIn r) (sym (take-append_seam b (x ∷ []))) u.alive;
        dead = λ a. dead (subst (AliveIn r) (all b) a);
      },
      record {
        openers = os;
        role = role;
        byte = x;
        stands = subst (λ (s : List ℕ). Position r os s role) (sym (take-append_seam b (x ∷ []))) p;
        is_byte = last b;
        fails = e;
      },
    )
  where
    all : (b : List ℕ) → take (suc (length b)) (b ++ x ∷ []) ≡ b ++ x ∷ []
    all [] = refl
    all (y ∷ b) = ap (λ (s : List ℕ). y ∷ s) (all b)

    last : (b : List ℕ) → slice_get (b ++ x ∷ []) (length b) ≡ Some x
    last [] = refl
    last (y ∷ b) = last b

    none_whole : (AliveIn r (b ++ x ∷ []) → ⊥) → NoneWholeIn r (b ++ x ∷ [])
    none_whole dead m prefix rest w s = by_size (cases_lt (length b) (length prefix))
      where
        empty : (t : List ℕ) → length t ≡ 0 → t ≡ []
        empty [] e = refl
        empty (y ∷ t) e = absurd (omega (arith, e))

        by_size : (length b < length prefix) ⊎ (length prefix ≤ length b) → ⊥
        by_size (inl longer) =
            let none_left : rest ≡ [] = empty rest (omega (arith, longer, ap length w, length-append b (x ∷ []), length-append prefix rest)) in
            let same : prefix ≡ b ++ x ∷ [] = sym (w ∙ ap (λ (t : List ℕ). prefix ++ t) none_left ∙ append-nil prefix) in
            dead (record { value = m; rest = []; spelled = subst (Spells r m) (same ∙ sym (append-nil (b ++ x ∷ []))) s })
        by_size (inr within) =
            let t = prefix_of prefix rest b (x ∷ []) (sym w) within in
            u.none_whole m prefix t.0 t.1 s

-- the same by what the judge keeps
pub refuses : (r : Reading) (at : At) (left x : ℕ) (outer b : List ℕ) (why : Why) → x < 256 → UnfinishedIn r b → Where r at left outer b → fault r (role_of at left (depth_of outer)) x ≡ Some why → IsRefusedIn r (b ++ x ∷ []) (length b) why
refuses r at left x outer b why lt u h e =
    let p = stood r at left outer b h in
    refuses_at r p.0 (role_of at left (depth_of outer)) b x why lt u p.1 e

-- a judge where nothing has begun
pub begun_anew_stands : (r : Reading) → StandsFor (start r) []
begun_anew_stands r = record { unfinished = nothing_in r; stands = (refl, refl); prefix = refl }

pub begun_anew : (r : Reading) (goes : Goes) (levels : Levels) → goes ≡ beginning → outer_of levels ≡ [] → state_of r goes levels ≡ start r
begun_anew r goes levels e f = rw (e, f) refl

pub start_stands : (r : Reading) (goes : Goes) (levels : Levels) → goes ≡ beginning → outer_of levels ≡ [] → StandsFor (state_of r goes levels) []
start_stands r goes levels e f = subst (λ (w : JudgeState). StandsFor w []) (sym (begun_anew r goes levels e f)) (begun_anew_stands r)

-- a judge after one control byte, and after both
pub one_stands : (r : Reading) (x : ℕ) (levels : Levels) → levels.high ≡ x → outer_of levels ≡ [] → x < 256 → StandsFor (state_of r (record { part = part.SecondControl; more = 0; left = 1 }) levels) (x ∷ [])
one_stands r x levels is none lt =
    let alive = passes r stage.FirstControl 1 x [] [] lt (nothing_in r).alive (refl, refl) refl in
    let stands : Where r (stage.SecondControl x) 1 [] (x ∷ []) = (refl, refl, lt) in
    rw (is, none) (record { unfinished = unfinished r (stage.SecondControl x) 1 [] (x ∷ []) alive stands; stands = stands; prefix = refl })

pub two_stand : (r : Reading) (x y : ℕ) (levels : Levels) → levels.high ≡ x → levels.low ≡ y → outer_of levels ≡ [] → x < 256 → y < 256 → StandsFor (state_of r (record { part = part.FirstSize; more = 0; left = 1 }) levels) (x ∷ y ∷ [])
two_stand r x y levels is also none lt less =
    let first = passes r stage.FirstControl 1 x [] [] lt (nothing_in r).alive (refl, refl) refl in
    let one : Where r (stage.SecondControl x) 1 [] (x ∷ []) = (refl, refl, lt) in
    let alive = passes r (stage.SecondControl x) 1 y [] (x ∷ []) less first one refl in
    let stands : Where r (stage.FirstSize x y) 1 [] (x ∷ y ∷ []) = (refl, refl, lt, less) in
    rw (is, also, none) (record { unfinished = unfinished r (stage.FirstSize x y) 1 [] (x ∷ y ∷ []) alive stands; stands = stands; prefix = refl })

pub after_one : (r : Reading) (x : ℕ) (levels : Levels) (bytes : List ℕ) → levels.high ≡ x → outer_of levels ≡ [] → AreBytes bytes → One x ≡ head_of bytes → StandsFor (state_of r (record { part = part.SecondControl; more = 0; left = 1 }) levels) (take 2 bytes)
after_one r x levels [] is none are e = absurd (cc (e))
after_one r x levels (a ∷ []) is none are e = let same : x ≡ a = cc (e) in one_stands r a levels (is ∙ same) none are.0
after_one r x levels (a ∷ b ∷ more) is none are e = absurd (cc (e))

pub after_two : (r : Reading) (x y : ℕ) (levels : Levels) (bytes : List ℕ) → levels.high ≡ x → levels.low ≡ y → outer_of levels ≡ [] → AreBytes bytes → Two x y ≡ head_of bytes → StandsFor (state_of r (record { part = part.FirstSize; more = 0; left = 1 }) levels) (take 2 bytes)
after_two r x y levels [] is also none are e = absurd (cc (e))
after_two r x y levels (a ∷ []) is also none are e = absurd (cc (e))
after_two r x y levels (a ∷ b ∷ more) is also none are e =
    let high : x ≡ a = cc (e) in
    let low : y ≡ b = cc (e) in
    two_stand r a b levels (is ∙ high) (also ∙ low) none are.0 are.1.0

pub after_none : (r : Reading) (judge : JudgeState) (bytes : List ℕ) → judge ≡ start r → Empty ≡ head_of bytes → StandsFor judge (take 2 bytes)
after_none r judge [] is e = subst (λ (j : JudgeState). StandsFor j []) (sym is) (begun_anew_stands r)
after_none r judge (a ∷ []) is e = absurd (cc (e))
after_none r judge (a ∷ b ∷ more) is e = absurd (cc (e))

-- a judge after an answer represents some bytes
pub ran_judge : (r : Reading) (held more : List ℕ) (ran : DecodeRun) (new : JudgeState) → Ran r held more ran new → IsJudge new
ran_judge r held more run.Open new (s, same) = (held ++ more, s)
ran_judge r held more (run.Ended taken) new (some, few, message, is) = subst IsJudge (sym is) ([], begun_anew_stands r)
ran_judge r held more (run.Refused at why) new (few, refused, is) = subst IsJudge (sym is) ([], begun_anew_stands r)

-- the control bytes of a judge after both
later_head : (goes : Goes) (levels : Levels) → IsAfter (at_in goes levels) → head_at goes.part levels ≡ Two levels.high levels.low
later_head goes levels after = by_part goes.part after
  where
    by_part : (p : Part) → IsAfter (at_part p goes.more levels) → head_at p levels ≡ Two levels.high levels.low
    by_part part.FirstControl after = absurd after
    by_part part.SecondControl after = absurd after
    by_part part.FirstSize after = refl
    by_part part.LowSize after = refl
    by_part part.HighSize after = refl
    by_part part.Payload after = refl
    by_part part.Head after = refl
    by_part part.Name after = refl
    by_part part.Digit after = refl
    by_part part.Content after = refl
    by_part part.Digits after = refl
    by_part part.Container after = refl
    by_part part.Tag after = refl
    by_part part.Length after = refl
    by_part part.Object after = refl

-- after both control bytes and one more byte
goes_after : (r : Reading) (at : At) (left x : ℕ) (outer b : List ℕ) → HasBoth b → Where r at left outer (b ++ x ∷ []) → IsAfter at
goes_after r stage.FirstControl left x outer b both h = absurd (longer both h.1)
  where
    longer : HasBoth b → b ++ x ∷ [] ≡ [] → ⊥
    longer (high, low, rest, e) w = let n = ap length e in let m = ap length w in absurd (omega (arith, n, m, length-append b (x ∷ [])))
goes_after r (stage.SecondControl k) left x outer b both h = absurd (longer both h.1)
  where
    longer : HasBoth b → b ++ x ∷ [] ≡ k ∷ [] → ⊥
    longer (high, low, rest, e) w = let n = ap length e in let m = ap length w in absurd (omega (arith, n, m, length-append b (x ∷ [])))
goes_after r (stage.FirstSize high low) left x outer b both h = tt
goes_after r (stage.LowSize high low) left x outer b both h = tt
goes_after r (stage.HighSize high low s) left x outer b both h = tt
goes_after r stage.Payload left x outer b both h = tt
goes_after r (stage.Head free digits) left x outer b both h = tt
goes_after r stage.Name left x outer b both h = tt
goes_after r (stage.Digit more before) left x outer b both h = tt
goes_after r (stage.Content digits more) left x outer b both h = tt
goes_after r (stage.Container at) left x outer b both h = tt
goes_after r (stage.Tag at) left x outer b both h = tt
goes_after r (stage.Length nests at) left x outer b both h = tt
goes_after r (stage.Object more) left x outer b both h = tt

-- what a judge of that part says of its next byte
at_byte : (r : Reading) (at : At) (goes : Goes) (levels : Levels) (b : List ℕ) → at_in goes levels ≡ at → StandsFor (state_of r goes levels) b → Where r at goes.left (outer_of levels) b
at_byte r at goes levels b is s = subst (λ (a : At). Where r a goes.left (outer_of levels) b) is s.stands

-- there is room for one more level
pub opens_room : (r : Reading) (at : At) (depth x : ℕ) (goes new : Goes) (levels after : Levels) (moved : Result Transition Why) → at_in goes levels ≡ at → depth ≡ depth_of (outer_of levels) → Judges r at goes.left depth x (leads_to moved new after) → Keeps levels after
    → IsJudge (state_of r goes levels) → (trailing : ℕ) → moved ≡ Ok (opens trailing) → length after.outer.items < 7
opens_room r at depth x goes new levels after moved is deep judges keeps s trailing opening =
    let there = judges (outer_of levels) s.0 deep (at_byte r at goes levels s.0 is s.1) in
    let opened = rw opening at there in
    let few = between_depth r new.left (trailing ∷ outer_of levels) (s.0 ++ x ∷ []) opened.1 in
    let same = ap (λ (o : ArrayVec ℕ). length o.items) keeps.2 in
    omega (arith, few, same, length-reverse levels.outer.items)

-- what a judge becomes by a byte after both control bytes
pub advances : (r : Reading) (at : At) (depth x : ℕ) (goes new last : Goes) (levels after final : Levels) (moved : Result Transition Why) (result : Result Judged Why) (b : List ℕ) → x < 256 → at_in goes levels ≡ at → IsAfter at → depth ≡ depth_of (outer_of levels)
    → Judges r at goes.left depth x (leads_to moved new after) → Keeps levels after → Follows r moved new after result last final (b ++ x ∷ []) → StandsFor (state_of r goes levels) b → Advances r b x result (state_of r last final)
advances r at depth x goes new last levels after final (Ok moved) (Ok judged) b lt is later deep judges keeps follows s = by_answer judged settles
  where
    there : Where r at goes.left (outer_of levels) b
    there = at_byte r at goes levels b is s

    led : (fault r (role_of at goes.left (depth_of (outer_of levels))) x ≡ None) × Leads r (move_of moved new after) (outer_of levels) (b ++ x ∷ [])
    led = judges (outer_of levels) b deep there

    alive : AliveIn r (b ++ x ∷ [])
    alive = passes r at goes.left x (outer_of levels) b lt s.unfinished.alive there led.0

    same : outer_of after ≡ outer_of levels
    same = ap (λ (o : ArrayVec ℕ). reverse o.items) keeps.2

    settles : Settles r after last final (b ++ x ∷ []) judged
    settles = follows (subst (λ (o : List ℕ). Leads r (move_of moved new after) o (b ++ x ∷ [])) (sym same) led.1)

    by_answer : (j : Judged) → Settles r after last final (b ++ x ∷ []) j → Advances r b x (Ok j) (state_of r last final)
    by_answer Open h =
        let heads : head_at last.part final ≡ Two final.high final.low = later_head last final (goes_after r (at_in last final) last.left x (outer_of final) b (has_both r at goes.left (outer_of levels) b later there) h.0) in
        let before : head_at goes.part levels ≡ Two levels.high levels.low = later_head goes levels (subst IsAfter (sym is) later) in
        let bytes : Two final.high final.low ≡ Two levels.high levels.low = rw (h.1, h.2, keeps.0, keeps.1) refl in
        record {
          unfinished = unfinished r (at_in last final) last.left (outer_of final) (b ++ x ∷ []) alive h.0;
          stands = h.0;
          prefix = heads ∙ bytes ∙ sym before ∙ s.prefix ∙ head_stays r at goes.left x (outer_of levels) b later there;
        }
    by_answer Ended h = (whole r (b ++ x ∷ []) alive h.0, h.1)
advances r at depth x goes new last levels after final (Ok moved) (Err why) b lt is later deep judges keeps follows s = absurd follows
advances r at depth x goes new last levels after final (Err why) result b lt is later deep judges keeps follows s =
    let there : Where r at goes.left (outer_of levels) b = at_byte r at goes levels b is s in
    rw follows (refuses r at goes.left x (outer_of levels) b why lt s.unfinished there (judges (outer_of levels) b deep there))

-- after the first control byte, and after the second
pub first_control : (r : Reading) (x : ℕ) (goes : Goes) (levels new : Levels) (b : List ℕ) → goes.part ≡ part.FirstControl → new ≡ record { high = x; low = levels.low; number = levels.number; tag = levels.tag; length = levels.length; nests = levels.nests; outer = levels.outer } → x < 256 → StandsFor (state_of r goes levels) b
    → StandsFor (state_of r (record { part = part.SecondControl; more = goes.more; left = goes.left }) new) (b ++ x ∷ [])
first_control r x goes levels new b is now lt s =
    let none : (outer_of levels ≡ []) × (b ≡ []) = subst (λ (p : Part). Where r (at_part p goes.more levels) goes.left (outer_of levels) b) is s.stands in
    let alive = passes r stage.FirstControl goes.left x (outer_of levels) b lt s.unfinished.alive none refl in
    let stands : Where r (stage.SecondControl x) goes.left (outer_of levels) (b ++ x ∷ []) = (none.0, ap (λ (t : List ℕ). t ++ x ∷ []) none.1, lt) in
    rw now (record { unfinished = unfinished r (stage.SecondControl x) goes.left (outer_of levels) (b ++ x ∷ []) alive stands; stands = stands; prefix = ap (λ (t : List ℕ). head_of (t ++ x ∷ [])) (sym none.1) })

pub second_control : (r : Reading) (x : ℕ) (goes : Goes) (levels new : Levels) (b : List ℕ) → goes.part ≡ part.SecondControl → new ≡ record { high = levels.high; low = x; number = levels.number; tag = levels.tag; length = levels.length; nests = levels.nests; outer = levels.outer } → x < 256 → StandsFor (state_of r goes levels) b
    → StandsFor (state_of r (record { part = part.FirstSize; more = goes.more; left = goes.left }) new) (b ++ x ∷ [])
second_control r x goes levels new b is now lt s =
    let one : (outer_of levels ≡ []) × (b ≡ levels.high ∷ []) × (levels.high < 256) = subst (λ (p : Part). Where r (at_part p goes.more levels) goes.left (outer_of levels) b) is s.stands in
    let alive = passes r (stage.SecondControl levels.high) goes.left x (outer_of levels) b lt s.unfinished.alive one refl in
    let stands : Where r (stage.FirstSize levels.high x) goes.left (outer_of levels) (b ++ x ∷ []) = (one.0, ap (λ (t : List ℕ). t ++ x ∷ []) one.1, one.2, lt) in
    rw now (record { unfinished = unfinished r (stage.FirstSize levels.high x) goes.left (outer_of levels) (b ++ x ∷ []) alive stands; stands = stands; prefix = ap (λ (t : List ℕ). head_of (t ++ x ∷ [])) (sym one.1) })

-- a byte of a piece that is refused
pub ran_refused : (r : Reading) (held bytes : List ℕ) (taken : ℕ) (why : Why) → taken < length bytes → IsRefusedIn r ((held ++ take taken bytes) ++ get_or bytes taken 0 ∷ []) (length (held ++ take taken bytes)) why → IsRefusedIn r (held ++ take (suc taken) bytes) (length held + taken) why
ran_refused r held bytes taken why lt e =
    let same : (held ++ take taken bytes) ++ get_or bytes taken 0 ∷ [] ≡ held ++ take (suc taken) bytes = append_assoc held (take taken bytes) (get_or bytes taken 0 ∷ []) ∙ ap (λ (s : List ℕ). held ++ s) (sym (take-suc bytes taken 0 lt)) in
    let long : length (held ++ take taken bytes) ≡ length held + taken = omega (arith, length-append held (take taken bytes), length-take-le taken bytes (omega (arith, lt))) in
    subst (λ (s : List ℕ). IsRefusedIn r s (length held + taken) why) same (subst (λ (n : ℕ). IsRefusedIn r ((held ++ take taken bytes) ++ get_or bytes taken 0 ∷ []) n why) long e)

-- how many levels are open
pub levels_are : (r : Reading) (at : At) (left n : ℕ) (outer b : List ℕ) (head : Head) → n ≡ suc (length outer) → StandsFor (record { reading = r; at = at; left = left; outer = outer; head = head }) b → HasLevelsIn r b n
levels_are r at left n outer b head e s =
    let p = stood r at left outer b s.stands in
    (p.0, role_of at left (depth_of outer), p.1, e ∙ sym p.2)
