-- Bytes that are read one piece after another.
use Rattle.std.proofs.Common.{◌≡◌, ℕ, ◌+◌, ◌<◌, ◌≤◌, List, [], ◌++◌, length, Option, Some, None, Ok, Err, sym, ◌∙◌, ap, subst, arith, append_assoc, append-nil, length-append}
use Rattle.std.specs.Prelude.{IfSome}
use Rattle.std.specs.Io.KnownBytes.{Consumes, IsAtEnd, Keeps}
use Rattle.zvt_trace.specs.Written.{ReadsPiece}
use Rattle.zvt_trace.specs.declared.fault.TraceFault.{TraceFault}
use Rattle.zvt_trace.specs.declared.fault.TraceFault.TheVariants.{Memory, Read, TooLong, Trace, Write}

consumes_more : (a b c : Option (List ℕ)) (x y : List ℕ) → Consumes a b x → Consumes b c y → Consumes a c (x ++ y)
consumes_more None b c x y p q = tt
consumes_more (Some xs) None c x y p q = absurd p
consumes_more (Some xs) (Some ys) None x y p q = absurd q
consumes_more (Some xs) (Some ys) (Some zs) x y p q = p ∙ ap (λ s. x ++ s) q ∙ sym (append_assoc x y zs)

consumes_none : (a b : Option (List ℕ)) → Keeps a b → Consumes a b []
consumes_none None b k = tt
consumes_none (Some xs) None k = absurd k
consumes_none (Some xs) (Some ys) k = sym k

-- one more piece
pub record Grown (start after : Option (List ℕ)) (old new : List ℕ) (count : ℕ) : Type 0 where
  pub consumed : Consumes start after new
  pub longer : length new ≡ length old + count

pub one_more : (capacity count : ℕ) (start before after : Option (List ℕ)) (old new : List ℕ) → Consumes start before old
    → ReadsPiece capacity before after old new (Ok count) → Grown start after old new count
one_more capacity count start before after old new so r = record {
  consumed = subst (λ b. Consumes start after b) (sym r.2) (consumes_more start before after old r.0 so r.1);
  longer = omega (arith, ap length r.2, length-append old r.0, r.3);
}

-- a read that failed, after that many bytes
pub broken : (capacity most : ℕ) (fault : TraceFault) (start before after : Option (List ℕ)) (old new : List ℕ) → Consumes start before old
    → ReadsPiece capacity before after old new (Err fault) → length old + capacity ≤ most → (taken : List ℕ) × (length taken ≤ most) × Consumes start after taken
broken capacity most Read start before after old new so k h =
    (old ++ [], omega (arith, length-append old []), consumes_more start before after old [] so (consumes_none before after k))
broken capacity most Memory start before after old new so m h =
    (old ++ m.0, omega (arith, length-append old m.0, m.2), consumes_more start before after old m.0 so m.1)
broken capacity most TooLong start before after old new so m h = absurd m
broken capacity most Write start before after old new so m h = absurd m
broken capacity most (Trace line what) start before after old new so m h = absurd m

-- no more than there is
pub at_least : (limit : ℕ) (start after : Option (List ℕ)) (taken : List ℕ) → Consumes start after taken → limit < length taken → IfSome start (λ bytes. limit < length bytes)
at_least limit None after taken c h = tt
at_least limit (Some xs) None taken c h = absurd c
at_least limit (Some xs) (Some ys) taken c h = omega (arith, ap length c, length-append taken ys)

-- the whole
pub all_of : (start after : Option (List ℕ)) (taken : List ℕ) → Consumes start after taken → IsAtEnd after → IfSome start (λ bytes. taken ≡ bytes)
all_of None after taken c e = tt
all_of (Some xs) None taken c e = absurd c
all_of (Some xs) (Some ys) taken c e = sym (c ∙ ap (λ s. taken ++ s) e ∙ append-nil taken)
