-- A frame ends where its own length says.
use Rattle.std.proofs.Common.{◌≡◌, ◌⊎◌, inl, inr, ℕ, ◌+◌, ◌-◌, ◌<◌, ◌≤◌, suc, Bool, cond, List, [], ◌∷◌, ◌++◌, length, refl, sym, ◌∙◌, ap, subst, arith, length-append, append_assoc}
use Rattle.std.proofs.lemmas.Bool.{cases_lt, ne_eqb}
use Rattle.std.proofs.lemmas.List.{append-nil}
use Rattle.zvt_grammar.specs.Reading.{AreBytes, padded}
use Rattle.zvt_tlv.proofs.Alive.{prefix_of}
use Rattle.zvt_apdu.specs.Grammar.{IsFrameLength}
use Rattle.zvt_stream.specs.OpenReading.{IsFramed}
use Rattle.zvt_stream.specs.Passing.{NoFrame, missing, missing_after_FF}
use Rattle.zvt_stream.proofs.OpenLemmas.{Opens, framed, opens, short}

-- a short length, and a long one
short_missing : (h l s : ℕ) (content : List ℕ) → s < 255 → missing (h ∷ l ∷ s ∷ content) ≡ s - length content
short_missing h l s content lt = ap (λ (b : Bool). cond b (missing_after_FF content) (s - length content)) (ne_eqb s 255 (λ e. omega (arith, e, lt)))

long_missing : (h l s : ℕ) (content : List ℕ) → s ≡ 255 → missing (h ∷ l ∷ s ∷ content) ≡ missing_after_FF content
long_missing h l s content e = rw e refl

-- what a frame that begins with bytes has besides them
record Sized (h l : ℕ) (b size content : List ℕ) : Type 0 where
  least : length b ≤ length size + length content → length b + missing (h ∷ l ∷ b) ≤ length size + length content
  most : missing (h ∷ l ∷ b) ≡ 0 → length size + length content ≤ length b

sized : (b size content later x : List ℕ) → size ++ (content ++ later) ≡ b ++ x → IsFrameLength padded (length content) size → (h l : ℕ) → Sized h l b size content
sized b [] content later x e is h l = absurd is
sized [] (a ∷ s) content later x e is h l = record { least = λ le. omega arith; most = λ none. absurd (omega (arith, none)) }
sized (s ∷ b) (a ∷ []) content later x e is h l =
    let same : a ≡ s = cc (e) in
    let m = short_missing h l s b (omega (arith, same, is.0)) in
    record { least = λ le. omega (arith, le, m, same, is.0, is.1); most = λ none. omega (arith, none, m, same, is.0, is.1) }
sized (s ∷ b) (a ∷ c ∷ []) content later x e is h l = absurd is
sized (s ∷ []) (a ∷ low ∷ high ∷ []) content later x e is h l =
    let same : a ≡ s = cc (e) in
    let m = long_missing h l s [] (sym same ∙ is.0) in
    record { least = λ le. omega (arith, le, m); most = λ none. absurd (omega (arith, none, m)) }
sized (s ∷ k ∷ []) (a ∷ low ∷ high ∷ []) content later x e is h l =
    let same : a ≡ s = cc (e) in
    let m = long_missing h l s (k ∷ []) (sym same ∙ is.0) in
    record { least = λ le. omega (arith, le, m); most = λ none. absurd (omega (arith, none, m)) }
sized (s ∷ k ∷ j ∷ b) (a ∷ low ∷ high ∷ []) content later x e is h l =
    let same : a ≡ s = cc (e) in
    let lows : low ≡ k = cc (e) in
    let highs : high ≡ j = cc (e) in
    let m = long_missing h l s (k ∷ j ∷ b) (sym same ∙ is.0) in
    record { least = λ le. omega (arith, le, m, lows, highs, is.4); most = λ none. omega (arith, none, m, lows, highs, is.4) }
sized b (a ∷ c ∷ d ∷ g ∷ more) content later x e is h l = absurd is

record Bounds (b c : List ℕ) : Type 0 where
  least : length b ≤ length c → length b + missing b ≤ length c
  most : missing b ≡ 0 → length c ≤ length b

bounds : (b c later x : List ℕ) → IsFramed c → c ++ later ≡ b ++ x → Bounds b c
bounds b c later x (high, low, f) e = by_bytes b e
  where
    whole : (b : List ℕ) → c ++ later ≡ b ++ x → high ∷ low ∷ (f.size ++ (f.content ++ later)) ≡ b ++ x
    whole b e = sym (ap (λ (s : List ℕ). high ∷ low ∷ s) (append_assoc f.size f.content later)) ∙ sym (ap (λ (s : List ℕ). s ++ later) f.whole) ∙ e

    all : length c ≡ suc (suc (length f.size + length f.content))
    all = ap length f.whole ∙ ap (λ (n : ℕ). suc (suc n)) (length-append f.size f.content)

    some : (s : List ℕ) → IsFrameLength padded (length f.content) s → 0 < length s
    some [] i = absurd i
    some (a ∷ s) i = omega arith

    by_bytes : (b : List ℕ) → c ++ later ≡ b ++ x → Bounds b c
    by_bytes [] e = record { least = λ le. omega (arith, all, some f.size f.is_size); most = λ none. absurd (omega (arith, none)) }
    by_bytes (h ∷ []) e = record { least = λ le. omega (arith, all, some f.size f.is_size); most = λ none. absurd (omega (arith, none)) }
    by_bytes (h ∷ l ∷ b) e =
        let same : f.size ++ (f.content ++ later) ≡ b ++ x = cc (whole (h ∷ l ∷ b) e) in
        let here = sized b f.size f.content later x same f.is_size h l in
        record { least = λ le. omega (arith, all, le, here.least (omega (arith, all, le))); most = λ none. omega (arith, all, here.most none) }

-- a frame that bytes begin with is all of them
abbrev pub AtMost : List ℕ → Type 0
AtMost bytes = (prefix rest : List ℕ) → bytes ≡ prefix ++ rest → IsFramed prefix → rest ≡ []

pub none_at_most : (b : List ℕ) → NoFrame b → AtMost b
none_at_most b none prefix rest e f = absurd (none prefix rest e f)

empty : (t : List ℕ) → length t ≡ 0 → t ≡ []
empty [] e = refl
empty (y ∷ t) e = absurd (omega (arith, e))

-- as many bytes more as are missing
pub more_at_most : (b x : List ℕ) → AtMost b → length x ≤ missing b → 0 < length x → AtMost (b ++ x)
more_at_most b x most few some prefix rest e f = by_size (cases_lt (length prefix) (length b))
  where
    by_size : (length prefix < length b) ⊎ (length b ≤ length prefix) → rest ≡ []
    by_size (inl lt) =
        let t = prefix_of prefix rest b x (sym e) (omega (arith, lt)) in
        let none = most prefix t.0 t.1 f in
        absurd (omega (arith, lt, ap length t.1, length-append prefix t.0, ap length none))
    by_size (inr le) = empty rest (omega (arith, few, (bounds b prefix rest x f (sym e)).least le, ap length e, length-append prefix rest, length-append b x))

-- where nothing is missing the frame is whole
pub framed_now : (b : List ℕ) → AtMost b → AreBytes b → missing b ≡ 0 → IsFramed b
framed_now b most are none = by_opening (opens b are)
  where
    by_opening : Opens b → IsFramed b
    by_opening (framed prefix later e f) = subst IsFramed (sym (e ∙ ap (λ (s : List ℕ). prefix ++ s) (most prefix later e f) ∙ append-nil prefix)) f
    by_opening (short more some ready f) = absurd (omega (arith, some, (bounds b (b ++ more) [] more f (append-nil (b ++ more))).most none, length-append b more))

-- where some byte is missing there is none yet
pub none_framed : (b : List ℕ) → AtMost b → 0 < missing b → NoFrame b
none_framed b most some prefix rest e f =
    let whole : prefix ≡ b = sym (e ∙ ap (λ (s : List ℕ). prefix ++ s) (most prefix rest e f) ∙ append-nil prefix) in
    omega (arith, some, (bounds b prefix rest [] f (sym e ∙ sym (append-nil b))).least (omega (arith, ap length whole)), ap length whole)
