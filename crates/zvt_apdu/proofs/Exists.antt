-- What is alive and holds no message is at a position.
use Rattle.std.proofs.Common.{◌≡◌, ℕ, ◌+◌, ◌<◌, ◌≤◌, Bool, true, false, List, [], ◌∷◌, ◌++◌, length, refl, sym, ◌∙◌, ap, subst, append_assoc, arith, length-append, ◌⊎◌, inl, inr}
use Rattle.std.proofs.lemmas.List.{append-nil}
use Rattle.std.proofs.lemmas.Bool.{cases_lt, cases_Bool, false≢true}
use Rattle.zvt_grammar.specs.Reading.{Reading}
use Rattle.zvt_grammar.specs.Beginnings.{Unfinished}
use Rattle.zvt_tlv.proofs.Spelling.{same_prefix}
use Rattle.zvt_tlv.proofs.Alive.{prefix_of}
use Rattle.zvt_tlv.specs.Judging.{Opener}
use Rattle.zvt_field.specs.Grammar.{Field, FieldList}
use Rattle.zvt_field.specs.Judging as field
use Rattle.zvt_apdu.specs.Grammar.{IsFrameLength, Spells}
use Rattle.zvt_apdu.specs.Judging.{layout_of, head_size, Role, first_control, second_control, first_size, low_size, high_size, free, digit, in_fields, InData, layout_in, Position}
use Rattle.zvt_apdu.specs.Laws.{EachBeginningStands}
use Rattle.zvt_apdu.proofs.Frames.{Tail, Parts, Frame, frame_of}
use Rattle.zvt_apdu.proofs.Opened.{begun, parts_fill}

-- the same of fields in a room
abbrev pub FieldsStand : Type 0
FieldsStand = (r : Reading) (room : ℕ) (b : List ℕ) → field.AliveIn r room b → length b < room → (os : List Opener) × (role : field.Role) × (left : ℕ) × field.Position r room os b role left

abbrev Stands : Reading → List ℕ → Type 0
Stands r b = (os : List Opener) × (role : Role) × Position r os b role

-- something is missing
some_rest : (r : Reading) (b : List ℕ) (u : Unfinished (Spells r) b) → 0 < length u.alive.rest
some_rest r b u = by_rest u.alive.rest u.alive.spelled
  where
    by_rest : (rest : List ℕ) → Spells r u.alive.value (b ++ rest) → 0 < length rest
    by_rest [] p = absurd (u.none_whole u.alive.value b [] (sym (append-nil b)) (subst (Spells r u.alive.value) (append-nil b) p))
    by_rest (x ∷ rest) p = omega arith

-- in the data
in_data : FieldsStand → (r : Reading) (b rest : List ℕ) (d : InData r b) → Parts r (layout_of d.high d.low d.n) (d.inside ++ rest) → length (d.inside ++ rest) ≡ d.n → Stands r b
in_data fields r b rest d p sized = by_free (cases_lt (length d.inside) (layout_in d).free)
  where
    by_kind : (head_size (layout_in d) ≤ length d.inside) → ((layout_in d).fields ≡ true) ⊎ ((layout_in d).fields ≡ false) → Stands r b
    by_kind le (inr none) = ([], free, (d, refl, inr (le, none)))
    by_kind le (inl some) =
        let head = p.free ++ p.digits in
        let long : length head ≡ head_size (layout_in d) = omega (arith, length-append p.free p.digits, p.free_size, p.digits_size) in
        let whole : head ++ p.tail ≡ d.inside ++ rest = append_assoc p.free p.digits p.tail ∙ sym p.whole in
        let m = prefix_of head p.tail d.inside rest whole (omega (arith, long, le)) in
        let tails : p.tail ≡ m.0 ++ rest = (same_prefix head head p.tail (m.0 ++ rest) refl (whole ∙ ap (λ (s : List ℕ). s ++ rest) m.1 ∙ append_assoc head m.0 rest)).1 in
        let t = listed (layout_in d).fields p.tail some p.tailed in
        let room = length p.tail in
        let total : length head + room ≡ d.n = omega (arith, sized, ap length whole, length-append head p.tail) in
        let alive : field.AliveIn r room m.0 = record { value = t.0; rest = rest; spelled = (subst (FieldList r t.0) tails t.1, ap length (sym tails)) } in
        let few : length m.0 < room = omega (arith, d.short, ap length m.1, length-append head m.0, total) in
        let s = fields r room m.0 alive few in
        (s.0, in_fields s.1 s.2, record { data_begun = d; has_fields = some; head = head; part = m.0; whole = m.1; sized = long; room = room; filled = total; stands = s.3 })
      where
        listed : (f : Bool) (s : List ℕ) → f ≡ true → Tail r f s → (fs : List Field) × FieldList r fs s
        listed true s e t = t
        listed false s e t = absurd (false≢true e)

    by_head : (layout_in d).free ≤ length d.inside → (length d.inside < head_size (layout_in d)) ⊎ (head_size (layout_in d) ≤ length d.inside) → Stands r b
    by_head le (inl lt) = ([], digit, (d, refl, le, lt))
    by_head le (inr ge) = by_kind ge (cases_Bool (layout_in d).fields)

    by_free : (length d.inside < (layout_in d).free) ⊎ ((layout_in d).free ≤ length d.inside) → Stands r b
    by_free (inl lt) = ([], free, (d, refl, inl lt))
    by_free (inr le) = by_head le (cases_lt (length d.inside) (head_size (layout_in d)))

pub each_stands : FieldsStand → EachBeginningStands
each_stands fields r b u = by_bytes b refl (frame_of r u.alive.value (b ++ u.alive.rest) u.alive.spelled) (some_rest r b u)
  where
    rest : List ℕ
    rest = u.alive.rest

    -- after a length
    trailing : (h l : ℕ) (size inside : List ℕ) (f : Frame r (b ++ rest)) → b ≡ begun h l size inside → h ≡ f.high → l ≡ f.low → size ≡ f.size → f.content ≡ inside ++ rest → 0 < length rest → Stands r b
    trailing h l size inside f whole hs ls ss content some =
        let n = length (inside ++ rest) in
        let numbers : length f.content ≡ n = ap length content in
        let parts : Parts r (layout_of h l n) (inside ++ rest) =
        subst (λ (k : ℕ). Parts r (layout_of k l n) (inside ++ rest)) (sym hs)
        (subst (λ (k : ℕ). Parts r (layout_of f.high k n) (inside ++ rest)) (sym ls)
        (subst (λ (s : List ℕ). Parts r (layout_of f.high f.low (length s)) s) content f.parts)) in
        let d : InData r b = record {
          high = h;
          low = l;
          size = size;
          n = n;
          inside = inside;
          whole = whole;
          are_bytes = (omega (arith, hs, f.are_bytes.0), omega (arith, ls, f.are_bytes.1));
          is_size = subst (λ (s : List ℕ). IsFrameLength r n s) (sym ss) (subst (λ (k : ℕ). IsFrameLength r k f.size) numbers f.is_size);
          fills = parts_fill r (layout_of h l n) (inside ++ rest) parts;
          short = omega (arith, length-append inside rest, some);
        } in
        in_data fields r b rest d parts refl

    by_size : (h l x : ℕ) (more : List ℕ) (f : Frame r (b ++ rest)) → b ≡ h ∷ l ∷ x ∷ more → h ≡ f.high → l ≡ f.low → 0 < length rest → (s : List ℕ) → s ≡ f.size → x ∷ (more ++ rest) ≡ s ++ f.content → IsFrameLength r (length f.content) s → Stands r b
    by_size h l x more f whole hs ls some [] ss e q = absurd q
    by_size h l x more f whole hs ls some (a ∷ []) ss e q =
        let same : x ≡ a = cc (e) in
        trailing h l (x ∷ []) more f whole hs ls (ap (λ (y : ℕ). y ∷ []) same ∙ ss) (cc (e)) some
    by_size h l x more f whole hs ls some (a ∷ c ∷ []) ss e q = absurd q
    by_size h l x [] f whole hs ls some (a ∷ c ∷ t ∷ []) ss e q =
        let same : x ≡ 0xFF = cc (e, q.0) in
        ([], low_size h l, (refl, whole ∙ ap (λ (y : ℕ). h ∷ l ∷ y ∷ []) same, omega (arith, hs, f.are_bytes.0), omega (arith, ls, f.are_bytes.1)))
    by_size h l x (s ∷ []) f whole hs ls some (a ∷ c ∷ t ∷ []) ss e q =
        let same : x ≡ 0xFF = cc (e, q.0) in
        let low : s ≡ c = cc (e) in
        ([], high_size h l s, (refl, whole ∙ ap (λ (y : ℕ). h ∷ l ∷ y ∷ s ∷ []) same, omega (arith, hs, f.are_bytes.0), omega (arith, ls, f.are_bytes.1), omega (arith, low, q.2)))
    by_size h l x (s ∷ v ∷ more) f whole hs ls some (a ∷ c ∷ t ∷ []) ss e q =
        let one : x ≡ a = cc (e) in
        let two : s ≡ c = cc (e) in
        let three : v ≡ t = cc (e) in
        trailing h l (x ∷ s ∷ v ∷ []) more f whole hs ls (cc (one, two, three) ∙ ss) (cc (e)) some
    by_size h l x more f whole hs ls some (a ∷ c ∷ t ∷ y ∷ s) ss e q = absurd q

    by_bytes : (s : List ℕ) → b ≡ s → Frame r (b ++ rest) → 0 < length rest → Stands r b
    by_bytes [] e f some = ([], first_control, (refl, e))
    by_bytes (h ∷ []) e f some =
        let whole : h ∷ rest ≡ f.high ∷ f.low ∷ (f.size ++ f.content) = ap (λ (s : List ℕ). s ++ rest) (sym e) ∙ f.whole in
        let high : h ≡ f.high = cc (whole) in
        ([], second_control, (h, refl, e, omega (arith, high, f.are_bytes.0)))
    by_bytes (h ∷ l ∷ []) e f some =
        let whole : h ∷ l ∷ rest ≡ f.high ∷ f.low ∷ (f.size ++ f.content) = ap (λ (s : List ℕ). s ++ rest) (sym e) ∙ f.whole in
        let high : h ≡ f.high = cc (whole) in
        let low : l ≡ f.low = cc (whole) in
        ([], first_size h l, (refl, e, omega (arith, high, f.are_bytes.0), omega (arith, low, f.are_bytes.1)))
    by_bytes (h ∷ l ∷ x ∷ more) e f some =
        let whole : h ∷ l ∷ x ∷ (more ++ rest) ≡ f.high ∷ f.low ∷ (f.size ++ f.content) = ap (λ (s : List ℕ). s ++ rest) (sym e) ∙ f.whole in
        by_size h l x more f e (cc (whole)) (cc (whole)) some f.size refl (cc (whole)) f.is_size
