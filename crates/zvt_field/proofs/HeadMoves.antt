-- The steps of the reader of one field whose content is bytes.
use Rattle.std.proofs.Common.{◌≡◌, ◌≢◌, ℕ, ◌-◌, ◌<◌, Some, None, List, [], ◌∷◌, ◌++◌, length, take, get_or, refl, sym, ◌∙◌, ap, subst, arith, ◌⊎◌, suc, inl, inr}
use Rattle.std.proofs.lemmas.List.{length-take-le}
use Rattle.std.proofs.lemmas.Option.{slice_get-get_or}
use Rattle.std.proofs.Math.Seq.{take-suc}
use Rattle.zvt_grammar.specs.declared.why.Why.{Why}
use Rattle.zvt_grammar.specs.Reading.{Reading}
use Rattle.zvt_field.specs.declared.shapes.Shape.{Shape}
use Rattle.zvt_field.specs.declared.shapes.Shape.TheVariants.{Fixed, Digits}
use Rattle.zvt_field.specs.Shapes.{shape_of}
use Rattle.zvt_field.specs.Judging.{AliveIn, PlaceIn, WhyIn, Role, name, digit, in_content, in_container, Begins, Here, Position, fault}
use Rattle.zvt_field.proofs.FieldLists.{IsSane, sane, filler, filling, filling_size, filled}
use Rattle.zvt_field.proofs.Counts.{fit}

pub sane_shape : (bmp : ℕ) (s : Shape) → shape_of bmp ≡ Some s → IsSane (Some s)
sane_shape bmp s e = subst IsSane e (sane bmp)

plain_here : (r : Reading) (room : ℕ) (b : List ℕ) (role : Role) → Begins role b → length b < room → Here r room b role (room - length b - 1)
plain_here r room b role p lt = record { fields = []; done = []; beginning = b; whole = refl; spelled = refl; begins = p; filled = omega arith }

-- the beginning of a first field whose content is bytes
pub position_here : (r : Reading) (room : ℕ) (b : List ℕ) (role : Role) → Begins role b → length b < room → Position r room [] b role (room - length b - 1)
position_here r room b name p lt = (refl, plain_here r room b name p lt)
position_here r room b (digit more before) p lt = (refl, plain_here r room b (digit more before) p lt)
position_here r room b (in_content digits) p lt = (refl, plain_here r room b (in_content digits) p lt)
position_here r room b (in_container at role) p lt = absurd p

-- the byte at a place is refused, or leaves the bytes alive
pub failed : (r : Reading) (room : ℕ) (role : Role) (bytes : List ℕ) (k : ℕ) (why : Why) → Begins role (take k bytes) → AliveIn r room (take k bytes) → k < room → k < length bytes → get_or bytes k 0 < 256 →
    fault r role (room - k - 1) (get_or bytes k 0) ≡ Some why → PlaceIn r room bytes k × WhyIn r room bytes k why
failed r room role bytes k why p a within present lt e =
    let size : length (take k bytes) ≡ k = length-take-le k bytes (omega arith) in
    let stands = position_here r room (take k bytes) role p (omega arith) in
    let more : take k bytes ++ get_or bytes k 0 ∷ [] ≡ take (suc k) bytes = sym (take-suc bytes k 0 present) in
    let f = fit r [] room (take k bytes) role (room - length (take k bytes) - 1) (get_or bytes k 0) stands lt a in
    let e' = ap (λ (n : ℕ). fault r role (room - n - 1) (get_or bytes k 0)) size ∙ e in (
      (record { present = present; alive = a; dead = λ h. f.1 why e' (subst (AliveIn r room) (sym more) h) }, within),
      record { openers = []; role = role; left = room - length (take k bytes) - 1; byte = get_or bytes k 0; stands = stands; is_byte = slice_get-get_or bytes k 0 present; fails = e' },
    )

pub passed : (r : Reading) (room : ℕ) (role : Role) (bytes : List ℕ) (k : ℕ) → Begins role (take k bytes) → AliveIn r room (take k bytes) → k < room → k < length bytes → get_or bytes k 0 < 256 →
    fault r role (room - k - 1) (get_or bytes k 0) ≡ None → AliveIn r room (take (suc k) bytes)
passed r room role bytes k p a within present lt e =
    let size : length (take k bytes) ≡ k = length-take-le k bytes (omega arith) in
    let stands = position_here r room (take k bytes) role p (omega arith) in
    let more : take k bytes ++ get_or bytes k 0 ∷ [] ≡ take (suc k) bytes = sym (take-suc bytes k 0 present) in
    let f = fit r [] room (take k bytes) role (room - length (take k bytes) - 1) (get_or bytes k 0) stands lt a in
    subst (AliveIn r room) more (f.0 (ap (λ (n : ℕ). fault r role (room - n - 1) (get_or bytes k 0)) size ∙ e))

pub nothing_yet : (r : Reading) (room : ℕ) → room ≢ 1 → AliveIn r room []
nothing_yet r room ne = record { value = filler room; rest = filling room; spelled = (filled r room, filling_size room ne) }

pub small_size : (bmp n : ℕ) (s : Shape) → shape_of bmp ≡ Some s → (s ≡ Fixed n) ⊎ (s ≡ Digits n) → n < 65536
small_size bmp n s e (inl f) = let h = sane_shape bmp (Fixed n) (e ∙ ap (λ (x : Shape). Some x) f) in omega (arith, h.1)
small_size bmp n s e (inr f) = let h = sane_shape bmp (Digits n) (e ∙ ap (λ (x : Shape). Some x) f) in omega (arith, h.1)
