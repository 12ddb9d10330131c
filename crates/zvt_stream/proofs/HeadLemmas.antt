-- The control bytes stay after the second byte of a message.
use Rattle.std.proofs.Common.{◌≡◌, ℕ, List, [], ◌∷◌, ◌++◌, refl, sym, subst}
use Rattle.zvt_grammar.specs.Reading.{Reading}
use Rattle.zvt_stream.specs.Head.{head_of}
use Rattle.zvt_stream.specs.DecoderState.{Fields, Level, Where}
use Rattle.zvt_stream.specs.Parts.{At}
use Rattle.zvt_stream.specs.Parts as stage

-- both control bytes have come
abbrev pub HasBoth : List ℕ → Type 0
HasBoth b = (high : ℕ) × (low : ℕ) × (rest : List ℕ) × (b ≡ high ∷ low ∷ rest)

of_fields : (r : Reading) (room : ℕ) (part b : List ℕ) → Fields r room part b → HasBoth b
of_fields r room part b f = (f.begun.high, f.begun.low, f.begun.size ++ (f.head ++ part), f.begun.whole)

of_level : (r : Reading) (outer b : List ℕ) (room : ℕ) (part : List ℕ) → Level r b outer room part → HasBoth b
of_level r [] b room part l = absurd l
of_level r (k ∷ []) b room part l = of_fields r room part b l.1
of_level r (k ∷ j ∷ []) b room part l = of_fields r l.around l.part b l.outer.1
of_level r (k ∷ j ∷ i ∷ ks) b room part l = of_level r (j ∷ i ∷ ks) b l.around l.part l.outer

-- the part of a byte after both
abbrev pub IsAfter : At → Type 0
IsAfter stage.FirstControl = ⊥
IsAfter (stage.SecondControl high) = ⊥
IsAfter (stage.FirstSize high low) = Unit {0}
IsAfter (stage.LowSize high low) = Unit {0}
IsAfter (stage.HighSize high low s) = Unit {0}
IsAfter stage.Payload = Unit {0}
IsAfter (stage.Head free digits) = Unit {0}
IsAfter stage.Name = Unit {0}
IsAfter (stage.Digit more before) = Unit {0}
IsAfter (stage.Content digits more) = Unit {0}
IsAfter (stage.Container at) = Unit {0}
IsAfter (stage.Tag at) = Unit {0}
IsAfter (stage.Length nests at) = Unit {0}
IsAfter (stage.Object more) = Unit {0}

pub has_both : (r : Reading) (at : At) (left : ℕ) (outer b : List ℕ) → IsAfter at → Where r at left outer b → HasBoth b
has_both r stage.FirstControl left outer b p h = absurd p
has_both r (stage.SecondControl high) left outer b p h = absurd p
has_both r (stage.FirstSize high low) left outer b p h = (high, low, [], h.1)
has_both r (stage.LowSize high low) left outer b p h = (high, low, 0xFF ∷ [], h.1)
has_both r (stage.HighSize high low s) left outer b p h = (high, low, 0xFF ∷ s ∷ [], h.1)
has_both r stage.Payload left outer b p h = (h.2.begun.high, h.2.begun.low, h.2.begun.size ++ h.2.inside, h.2.begun.whole)
has_both r (stage.Head free digits) left outer b p h = (h.3.begun.high, h.3.begun.low, h.3.begun.size ++ h.3.inside, h.3.begun.whole)
has_both r stage.Name left outer b p h = of_fields r h.2.room h.2.part b h.2.level
has_both r (stage.Digit more before) left outer b p h = of_fields r h.2.room h.2.part b h.2.level
has_both r (stage.Content digits more) left outer b p h = of_fields r h.2.room h.2.part b h.2.level
has_both r (stage.Container at) left outer b p h = of_fields r h.2.room h.2.part b h.2.level
has_both r (stage.Tag at) left outer b p h = of_level r outer b h.2.room h.2.part h.2.level
has_both r (stage.Length nests at) left outer b p h = of_level r outer b h.2.room h.2.part h.2.level
has_both r (stage.Object more) left outer b p h = of_level r outer b h.2.room h.2.part h.2.level

pub head_stays : (r : Reading) (at : At) (left x : ℕ) (outer b : List ℕ) → IsAfter at → Where r at left outer b → head_of b ≡ head_of (b ++ x ∷ [])
head_stays r at left x outer b p h =
    let both = has_both r at left outer b p h in
    subst (λ (s : List ℕ). head_of s ≡ head_of (s ++ x ∷ [])) (sym both.3) refl
