-- The keys of a service's books.
use Rattle.std.specs.Prelude.{option_map}
use Rattle.std.specs.Option.{option_or}
use Rattle.std.proofs.Common.{◌≡◌, ◌⊎◌, inl, inr, ℕ, Bool, true, false, cond, ◌||◌, List, [], ◌∷◌, ◌++◌, map, Option, Some, None, is_some, refl, sym, ap, subst, ◌∙◌, true≢false}
use Rattle.std.specs.List.{list_any}
use Rattle.std.specs.Str.{bytes_eq}
use Rattle.std.proofs.lemmas.List.Folds.{list_any-append}
use Rattle.std.proofs.lemmas.Slice.Eq.{bytes_eq-Decides}
use Rattle.zvt_till.specs.declared.orders.Order.{Order}
use Rattle.zvt_kept.specs.declared.past_orders.PastOrder.{PastOrder}
use Rattle.zvt_kept.specs.declared.recovery.Recovered.{Recovered}
use Rattle.zvt_kept.specs.KeptTill.{both_in}
use Rattle.zvt_kept.specs.Notes.{is_noted_by, reference_in}
use Rattle.zvt_kept.specs.PastOrders.{first_noted, record_of}
use Rattle.zvt_kept.specs.Records.{Kept, ordered, asked, heard, lost}
use Rattle.zvt_service.specs.Books.{in_earlier, order_in}
use Rattle.zvt_service.specs.Lives.{IsKnown}
use Rattle.zvt_service.specs.Service.{ServiceValue, is_any_known, is_held, is_known}

-- ---- keys of records

-- a record has this key
abbrev pub has_key : (key : List ℕ) → Kept → Bool
has_key key (ordered order note) = is_noted_by key note
has_key key (asked note) = false
has_key key (heard message) = false
has_key key lost = false

abbrev pub any_has : (key : List ℕ) → List Kept → Bool
any_has key kept = list_any (has_key key) kept

-- the records of a service's orders
abbrev pub records : {D : Type 0} → ServiceValue D → List Kept
records s = map record_of s.past

pub or-right : (a : Bool) → (a || true) ≡ true
or-right true = refl
or-right false = refl

pub or-split : (a b : Bool) → (a || b) ≡ true → (a ≡ true) ⊎ (b ≡ true)
or-split true b is = inl refl
or-split false b is = inr is

pub or-only : (a : Bool) → (a || false) ≡ true → a ≡ true
or-only true is = refl
or-only false is = absurd cc

pub any_more : (key : List ℕ) (kept more : List Kept) → any_has key kept ≡ true → any_has key (kept ++ more) ≡ true
any_more key kept more is = list_any-append (has_key key) kept more ∙ ap (λ b. b || any_has key more) is

pub any_last : (key : List ℕ) (kept more : List Kept) → any_has key more ≡ true → any_has key (kept ++ more) ≡ true
any_last key kept more is = list_any-append (has_key key) kept more ∙ ap (λ b. any_has key kept || b) is ∙ or-right (any_has key kept)

-- an order of a book has a key exactly if a record of the book has it
pub noted_any : (key : List ℕ) (past : List PastOrder) → is_some (first_noted key past) ≡ any_has key (map record_of past)
noted_any key [] = refl
noted_any key (one ∷ past) = by_first (is_noted_by key one.note) (noted_any key past)
  where
    by_first : (b : Bool) → is_some (first_noted key past) ≡ any_has key (map record_of past) → is_some (cond b (Some one) (first_noted key past)) ≡ (b || any_has key (map record_of past))
    by_first true more = refl
    by_first false more = more

-- an order of a book of an earlier day has this key
abbrev pub is_earlier : (key : List ℕ) → List Recovered → Bool
is_earlier key earlier = is_some (in_earlier key earlier)

-- a key is known exactly if a record of the service's own book has it, or an earlier book
pub known_is : {D : Type 0} (key : List ℕ) (s : ServiceValue D) → is_known key s ≡ (any_has key (records s) || is_earlier key s.earlier)
known_is key s = either (first_noted key s.past) ∙ ap (λ b. b || is_earlier key s.earlier) (noted_any key s.past)
  where
    either : (found : Option PastOrder) → is_some (option_or (option_map (order_in key true (both_in s.kept.standing) s.past) found) (in_earlier key s.earlier)) ≡ (is_some found || is_earlier key s.earlier)
    either None = refl
    either (Some one) = refl

pub known_by_record : {D : Type 0} (key : List ℕ) (s : ServiceValue D) → any_has key (records s) ≡ true → is_known key s ≡ true
known_by_record key s has = known_is key s ∙ ap (λ b. b || is_earlier key s.earlier) has

pub not_known : {D : Type 0} (key : List ℕ) (s : ServiceValue D) → is_known key s ≡ false → IsKnown key s → ⊥
not_known key s unknown known = true≢false (sym known ∙ unknown)

same_bytes : (key : List ℕ) → bytes_eq key key ≡ true
same_bytes key = (bytes_eq-Decides key key).1 refl

pub own_key : (key note : List ℕ) → reference_in note ≡ Some key → is_noted_by key note ≡ true
own_key key note is = ap (λ found. elim found [ None ↦ false | Some x ↦ bytes_eq x key ]) is ∙ same_bytes key

-- ---- new keys

-- no order of some book has the key of this record
abbrev pub IsFresh : {D : Type 0} → ServiceValue D → Kept → Type 0
IsFresh old one = (key : List ℕ) → has_key key one ≡ true → is_known key old ≡ false

pub keyless : {D : Type 0} (old : ServiceValue D) (one : Kept) → ((key : List ℕ) → has_key key one ≡ false) → IsFresh old one
keyless old one none key has = absurd (true≢false (sym has ∙ none key))

pub order_fresh : {D : Type 0} (order : Order) (note : List ℕ) (old : ServiceValue D) → is_held note old ≡ false → IsFresh old (ordered order note)
order_fresh order note old free key has = by_reference (reference_in note) free has
  where
    by_reference : (found : Option (List ℕ)) → is_any_known found old ≡ false → elim found [ None ↦ false | Some x ↦ bytes_eq x key ] ≡ true → is_known key old ≡ false
    by_reference None held noted = absurd cc
    by_reference (Some x) held noted = subst (λ k. is_known k old ≡ false) ((bytes_eq-Decides x key).0 noted) held
