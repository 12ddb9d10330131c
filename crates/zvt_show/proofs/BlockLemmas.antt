-- Text that goes out in blocks.
use Rattle.std.proofs.Common.{◌≡◌, ℕ, List, refl, [], ◌++◌, Option, Some, None, sym, ◌∙◌, ap, subst, append_assoc, append-nil}
use Rattle.std.proofs.KnownBytes.{Appends-trans}
use Rattle.std.proofs.lemmas.List.{append_cancel_left}
use Rattle.zvt_io.specs.Devices.{IsPrefix}
use Rattle.std.specs.Io.KnownBytes.{Appends, Keeps}
use Rattle.zvt_trace.specs.Written.{AppendsPrefix}
use Rattle.zvt_show.specs.Written.{Extends, IsShortOf, after}

-- an empty block
pub after_nothing : (held : Option (List ℕ)) (block : List ℕ) → block ≡ [] → after held block ≡ held
after_nothing None block none = refl
after_nothing (Some bytes) block none = rw none (ap (λ b. Some b) (append-nil bytes))

-- the last block is written, and the device has all
pub all_written : (first held next : Option (List ℕ)) (block all : List ℕ) → Appends first (after held block) all → Appends held next block → Appends first next all
all_written None held next block all so written = tt
all_written (Some x) None next block all so written = absurd so
all_written (Some x) (Some y) None block all so written = absurd written
all_written (Some x) (Some y) (Some z) block all so written = written ∙ so

-- ---- what a device has that failed

pub appends_none : (held : Option (List ℕ)) → Appends held held []
appends_none None = tt
appends_none (Some bytes) = sym (append-nil bytes)

pub extends_none : (held : Option (List ℕ)) → Extends held held
extends_none held = ([], appends_none held)

pub extends_more : (a b c : Option (List ℕ)) → Extends a b → Extends b c → Extends a c
extends_more a b c first second = (first.0 ++ second.0, Appends-trans a b c first.0 second.0 first.1 second.1)

-- a prefix of a prefix
pub prefix_more : (a b c : List ℕ) → IsPrefix a b → IsPrefix b c → IsPrefix a c
prefix_more a b c first second = (first.0 ++ second.0, second.1 ∙ ap (λ (l : List ℕ). l ++ second.0) first.1 ∙ append_assoc a first.0 second.0)

-- some prefix of the block was written
pub wrote_prefix : (held next : Option (List ℕ)) (block : List ℕ) → AppendsPrefix held next block → IsShortOf (after held block) next
wrote_prefix None next block wrote = tt
wrote_prefix (Some bytes) None block wrote = absurd wrote.2
wrote_prefix (Some bytes) (Some now) block wrote =
    (wrote.1.0, ap (λ (l : List ℕ). bytes ++ l) wrote.1.1 ∙ sym (append_assoc bytes wrote.0 wrote.1.0) ∙ ap (λ (l : List ℕ). l ++ wrote.1.0) (sym wrote.2))

-- a block that could not be written is given up
pub given_up : (held next : Option (List ℕ)) (block left : List ℕ) → AppendsPrefix held next block → left ≡ [] → IsShortOf (after held block) (after next left)
given_up held next block left wrote none = subst (λ (o : Option (List ℕ)). IsShortOf (after held block) o) (sym (after_nothing next left none)) (wrote_prefix held next block wrote)

-- the device has what it had and a prefix of the text, where it has a prefix of all
pub short_of : (first device whole : Option (List ℕ)) (block all : List ℕ) → Extends first device → Appends first whole all → IsShortOf whole (after device block) → AppendsPrefix first (after device block) all
short_of None device whole block all kept grown short = ([], (all, refl), tt)
short_of (Some x) None whole block all kept grown short = absurd kept.1
short_of (Some x) (Some y) None block all kept grown short = absurd grown
short_of (Some x) (Some y) (Some z) block all kept grown short =
    let prefix = kept.0 ++ block in
    let is : y ++ block ≡ x ++ prefix = ap (λ (l : List ℕ). l ++ block) kept.1 ∙ append_assoc x kept.0 block in
    let split : x ++ all ≡ x ++ (prefix ++ short.0) = sym grown ∙ short.1 ∙ ap (λ (l : List ℕ). l ++ short.0) is ∙ append_assoc x prefix short.0 in
    (prefix, (short.0, append_cancel_left x all (prefix ++ short.0) split), is)

-- the last block could not be written
pub last_failed : (first held next : Option (List ℕ)) (block all : List ℕ) → Extends first held → AppendsPrefix first (after held block) all → AppendsPrefix held next block → AppendsPrefix first next all
last_failed first held next block all kept so wrote =
    let whole = given_up held next block [] wrote refl in
    let extended = extends_more first held next kept (wrote.0, wrote.2) in
    let part = subst (λ (o : Option (List ℕ)). AppendsPrefix first o so.0) (after_nothing next [] refl) (short_of first next (after held block) [] so.0 extended so.2 whole) in
    (part.0, prefix_more part.0 so.0 all part.1 so.1, part.2)

-- all of a text is a prefix of it
pub whole_prefix : (old new : Option (List ℕ)) (text : List ℕ) → Appends old new text → AppendsPrefix old new text
whole_prefix old new text wrote = (text, ([], sym (append-nil text)), wrote)

-- the last block was written after a failure
pub last_written : (first held next : Option (List ℕ)) (block all : List ℕ) → AppendsPrefix first (after held block) all → Appends held next block → AppendsPrefix first next all
last_written first held next block all so written = (so.0, so.1, all_written first held next block so.0 so.2 written)

pub keeps_same : (held : Option (List ℕ)) → Keeps held held
keeps_same None = tt
keeps_same (Some bytes) = refl
