-- The bytes before the fields, and data without fields.
use Rattle.std.proofs.Common.{◌≡◌, ◌≢◌, ℕ, ◌+◌, ◌*◌, ◌-◌, ◌<◌, ◌≤◌, ◌==◌, Bool, true, false, Option, Some, None, Result, Ok, Err, List, [], ◌∷◌, ◌++◌, length, refl, sym, ◌∙◌, ap, subst, arith, length-append, suc, zero}
use Rattle.std.proofs.lemmas.Bool.{cond-false, ne_eqb, le-leb, false≢true}
use Rattle.std.proofs.lemmas.List.{append-nil}
use Rattle.zvt_grammar.specs.declared.why.Why.{Why}
use Rattle.zvt_grammar.specs.declared.why.Why.TheVariants.{DoesNotFit, NotShortest}
use Rattle.zvt_grammar.specs.Reading.{Reading, shortest, least}
use Rattle.zvt_grammar.specs.Tests.{check}
use Rattle.zvt_field.specs.Judging as field
use Rattle.zvt_apdu.specs.declared.frame.Layout.{Layout}
use Rattle.zvt_apdu.specs.Grammar.{IsFrameLength}
use Rattle.zvt_apdu.specs.Judging.{layout_of, head_size, can_fill, first_size, high_size, fault}
use Rattle.zvt_apdu.proofs.Opened.{fills_out}
use Rattle.zvt_stream.specs.Parts as stage
use Rattle.zvt_stream.specs.Parts.{Move}
use Rattle.zvt_stream.specs.Parts.{Within, Ends, Opens}
use Rattle.zvt_stream.specs.DecoderState.{Begun, layout_in, Between, role_of}
use Rattle.zvt_stream.specs.Moves.{Leads, Judges, BeginsData}
use Rattle.zvt_stream.proofs.LevelLemmas.{begun_more}

-- fields begin
abbrev fields_begin : (r : Reading) (n left : ℕ) (head b : List ℕ) → (h : Begun r n head b) → (layout_in h).fields ≡ true → length head ≡ head_size (layout_in h) → length head + left ≡ n → Between r left (0 ∷ []) b
fields_begin r n left head b h some sized filled = (
  refl,
  (λ one. (fills_out (layout_in h) n h.fills).1 some (omega (arith, one, filled, sized))),
  record {
    room = left;
    part = [];
    level = record {
      n = n;
      head = head;
      begun = record { high = h.high; low = h.low; size = h.size; whole = h.whole ∙ ap (λ (s : List ℕ). h.high ∷ h.low ∷ (h.size ++ s)) (sym (append-nil head)); are_bytes = h.are_bytes; is_size = h.is_size; fills = h.fills };
      has_fields = some;
      sized = sized;
      filled = filled;
    };
    fields = [];
    done = [];
    beginning = [];
    whole = refl;
    spelled = refl;
    begins = refl;
    filled = omega arith;
  },
)

-- data begins
module _ (r : Reading) (high low n : ℕ) (l : Layout) (e : l ≡ layout_of high low n) (fills : can_fill (layout_of high low n) n ≡ true) where
  abbrev begun : (size b : List ℕ) → (high < 256) × (low < 256) → IsFrameLength r n size → b ≡ high ∷ low ∷ (size ++ []) → Begun r n [] b
  begun size b small q w = record { high = high; low = low; size = size; whole = w; are_bytes = small; is_size = q; fills = fills }

  pub data_payload : n ≢ 0 → l.fields ≡ false → BeginsData r high low n (Ok (Within stage.Payload n))
  data_payload nz f = (fills, λ size b small q w. (refl, omega (arith, nz), record { n = n; inside = []; begun = begun size b small q w; no_fields = ap (λ (k : Layout). k.fields) (sym e) ∙ f; filled = omega arith }))

  pub data_fields : l.fields ≡ true → l.free + l.digits ≡ 0 → BeginsData r high low n (Ok (Opens 0 n))
  data_fields f z = (fills, λ size b small q w. fields_begin r n n [] b (begun size b small q w) (ap (λ (k : Layout). k.fields) (sym e) ∙ f) (sym (ap head_size (sym e) ∙ z)) (omega arith))

  pub data_head : l.fields ≡ true → l.free + l.digits ≢ 0 → BeginsData r high low n (Ok (Within (stage.Head l.free l.digits) n))
  data_head f nz = (
    fills,
    λ size b small q w. (
      refl,
      omega (arith, nz),
      (let le = (fills_out (layout_of high low n) n fills).0 in omega (arith, le, ap head_size e)),
      record {
        n = n;
        inside = [];
        begun = begun size b small q w;
        has_fields = ap (λ (k : Layout). k.fields) (sym e) ∙ f;
        filled = omega arith;
        sized = (let same : l.free + l.digits ≡ head_size (layout_of high low n) = ap head_size e in omega (arith, same));
        free_first = λ h. ap (λ (k : Layout). k.digits) e;
        digits_last = (let same : l.digits ≡ (layout_of high low n).digits = ap (λ (k : Layout). k.digits) e in omega (arith, same));
      },
    ),
  )

leads_at : (r : Reading) (move : Move) (outer b : List ℕ) → outer ≡ [] → Leads r move [] b → Leads r move outer b
leads_at r move outer b e h = subst (λ (o : List ℕ). Leads r move o b) (sym e) h

pub size_short : (r : Reading) (high low left depth x n : ℕ) (result : Result Move Why) → n ≡ x → x < 256 → x ≢ 0xFF → BeginsData r high low n result → Judges r (stage.FirstSize high low) left depth x result
size_short r high low left depth x n result is lt ne h = by_number (subst (λ (m : ℕ). BeginsData r high low m result) is h)
  where
    tests : fault r (first_size high low) x ≡ check (can_fill (layout_of high low x) x) DoesNotFit None
    tests = cond-false _ _ _ (ne_eqb x 0xFF ne)

    by_number : BeginsData r high low x result → Judges r (stage.FirstSize high low) left depth x result
    by_number h = by_result result h
      where
        by_result : (result : Result Move Why) → BeginsData r high low x result → Judges r (stage.FirstSize high low) left depth x result
        by_result (Ok move) (fills, f) outer b d (o, w, hs, ls) =
            (tests ∙ ap (λ (t : Bool). check t DoesNotFit None) fills, leads_at r move outer (b ++ x ∷ []) o (f (x ∷ []) (b ++ x ∷ []) (hs, ls) (omega (arith, lt, ne), refl) (ap (λ (s : List ℕ). s ++ x ∷ []) w)))
        by_result (Err why) (same, fails) outer b d p = tests ∙ ap (λ (t : Bool). check t DoesNotFit None) fails ∙ ap (λ (y : Why). Some y) (sym same)

pub size_high : (r : Reading) (high low size_low left depth x n : ℕ) (result : Result Move Why) → n ≡ 256 * x + size_low → x < 256 → least r 255 ≤ n → BeginsData r high low n result → Judges r (stage.HighSize high low size_low) left depth x result
size_high r high low s left depth x n result is lt le h = by_result result (subst (λ (m : ℕ). BeginsData r high low m result) is h)
  where
    long : least r 255 ≤ 256 * x + s
    long = omega (arith, is, le)

    tests : fault r (high_size high low s) x ≡ check (can_fill (layout_of high low (256 * x + s)) (256 * x + s)) DoesNotFit None
    tests = ap (λ (t : Bool). check t NotShortest (check (can_fill (layout_of high low (256 * x + s)) (256 * x + s)) DoesNotFit None)) (le-leb (least r 255) (256 * x + s) long)

    by_result : (result : Result Move Why) → BeginsData r high low (256 * x + s) result → Judges r (stage.HighSize high low s) left depth x result
    by_result (Ok move) (fills, f) outer b d (o, w, hs, ls, ss) =
        (tests ∙ ap (λ (t : Bool). check t DoesNotFit None) fills, leads_at r move outer (b ++ x ∷ []) o (f (0xFF ∷ s ∷ x ∷ []) (b ++ x ∷ []) (hs, ls) (refl, long, ss, lt, refl) (ap (λ (t : List ℕ). t ++ x ∷ []) w)))
    by_result (Err why) (same, fails) outer b d p = tests ∙ ap (λ (t : Bool). check t DoesNotFit None) fails ∙ ap (λ (y : Why). Some y) (sym same)

-- data without fields
pub payload_within : (r : Reading) (left depth x : ℕ) → left ≢ 1 → Judges r stage.Payload left depth x (Ok (Within stage.Payload (left - 1)))
payload_within r left depth x ne outer b d (o, some, a) =
    (refl, (o, omega (arith, some, ne), record { n = a.n; inside = a.inside ++ x ∷ []; begun = begun_more r a.n a.inside b x a.begun; no_fields = a.no_fields; filled = omega (arith, length-append a.inside (x ∷ []), a.filled, some) }))

pub payload_ends : (r : Reading) (left depth x : ℕ) → left ≡ 1 → Judges r stage.Payload left depth x (Ok (Ends 0))
payload_ends r left depth x one outer b d (o, some, a) =
    (refl, subst (λ (k : List ℕ). Between r 0 k (b ++ x ∷ [])) (sym o) (refl, record { n = a.n; inside = a.inside ++ x ∷ []; begun = begun_more r a.n a.inside b x a.begun; full = omega (arith, length-append a.inside (x ∷ []), a.filled, one) }))

-- before the fields
abbrev pub Tested : (free x : ℕ) → Option Why → Type 0
Tested free x answer = (l : ℕ) → field.fault shortest (field.in_content (free == 0)) l x ≡ answer

head_tested : (r : Reading) (free digits left depth x : ℕ) (answer : Option Why) → Tested free x answer → fault r (role_of (stage.Head free digits) left depth) x ≡ answer
head_tested r zero digits left depth x answer h = h 0
head_tested r (suc free) digits left depth x answer h = free_byte (suc free == 0) (ne_eqb (suc free) 0 (λ e. omega (arith, e))) (h 0)
  where
    free_byte : (t : Bool) → t ≡ false → field.fault shortest (field.in_content t) 0 x ≡ answer → None ≡ answer
    free_byte false e h = h
    free_byte true e h = absurd (false≢true (sym e))

pub head_refused : (r : Reading) (free digits left depth x : ℕ) (why : Why) → Tested free x (Some why) → Judges r (stage.Head free digits) left depth x (Err why)
head_refused r free digits left depth x why h outer b d p = head_tested r free digits left _ x (Some why) h

pub head_ends : (r : Reading) (free digits left depth x : ℕ) → Tested free x None → free + digits ≡ 1 → Judges r (stage.Head free digits) left depth x (Ok (Opens 0 (left - 1)))
head_ends r free digits left depth x h one outer b d (o, some, le, a) = (
  head_tested r free digits left _ x None h,
  subst (λ (k : List ℕ). Between r (left - 1) (0 ∷ k) (b ++ x ∷ [])) (sym o)
      (fields_begin r a.n (left - 1) (a.inside ++ x ∷ []) (b ++ x ∷ []) (begun_more r a.n a.inside b x a.begun) a.has_fields
      (omega (arith, length-append a.inside (x ∷ []), a.sized, one)) (omega (arith, length-append a.inside (x ∷ []), a.filled, le, one))),
)

pub head_free : (r : Reading) (free digits left depth x : ℕ) → Tested free x None → free + digits ≢ 1 → 0 < free → Judges r (stage.Head free digits) left depth x (Ok (Within (stage.Head (free - 1) digits) (left - 1)))
head_free r free digits left depth x h ne pos outer b d (o, some, le, a) = (
  head_tested r free digits left _ x None h,
  (
    o,
    omega (arith, some, ne, pos),
    omega (arith, le, pos),
    record {
      n = a.n;
      inside = a.inside ++ x ∷ [];
      begun = begun_more r a.n a.inside b x a.begun;
      has_fields = a.has_fields;
      filled = omega (arith, length-append a.inside (x ∷ []), a.filled, le, pos);
      sized = omega (arith, length-append a.inside (x ∷ []), a.sized, pos);
      free_first = λ k. a.free_first pos;
      digits_last = a.digits_last;
    },
  ),
)

pub head_digit : (r : Reading) (free digits left depth x : ℕ) → Tested free x None → free + digits ≢ 1 → free ≡ 0 → Judges r (stage.Head free digits) left depth x (Ok (Within (stage.Head 0 (digits - 1)) (left - 1)))
head_digit r free digits left depth x h ne z outer b d (o, some, le, a) = (
  head_tested r free digits left _ x None h,
  (
    o,
    omega (arith, some, ne, z),
    omega (arith, le, z, some),
    record {
      n = a.n;
      inside = a.inside ++ x ∷ [];
      begun = begun_more r a.n a.inside b x a.begun;
      has_fields = a.has_fields;
      filled = omega (arith, length-append a.inside (x ∷ []), a.filled, le, some);
      sized = omega (arith, length-append a.inside (x ∷ []), a.sized, z, some);
      free_first = λ k. absurd (omega (arith, k));
      digits_last = omega (arith, a.digits_last);
    },
  ),
)
