-- The values that the kit's crate `serde_json` reads back from their text.
use Rattle.std.specs.Prelude.{ℕ, ◌^◌, ◌&&◌, Bool, true, false, nat_lt, List}
use Rattle.std.specs.Ordering.{nat_cmp, match_ordering}
use Rattle.std.specs.Cmp.Lexicographic.{slice_cmp}
use Rattle.serde_json.specs.Data.{Num, unsigned, negative, float, Data, null, boolean, number, string, array, object, Items, no_items, item, Members, no_members, member}

abbrev pub number_fits : Num → Bool
number_fits (unsigned n) = nat_lt n (2 ^ 64)
number_fits (negative z) = false
number_fits (float x) = false

-- each number has no sign and fits 64 bits
abbrev mutual
  pub fits : Data → Bool
  fits null = true
  fits (boolean b) = true
  fits (number n) = number_fits n
  fits (string s) = true
  fits (array ds) = items_fit ds
  fits (object ms) = members_fit ms

  pub items_fit : Items → Bool
  items_fit no_items = true
  items_fit (item d ds) = fits d && items_fit ds

  pub members_fit : Members → Bool
  members_fit no_members = true
  members_fit (member k d ms) = fits d && members_fit ms

-- the members, and one more after them
abbrev pub and_then : Members → Members → Members
and_then no_members later = later
and_then (member k d ms) later = member k d (and_then ms later)

-- whether the name comes after the names of the members
abbrev pub comes_after : List ℕ → Members → Bool
comes_after k no_members = true
comes_after k (member l d ms) = match_ordering (slice_cmp nat_cmp k l) false false (comes_after k ms)

-- the members of each object come in the order of their names
abbrev mutual
  pub ordered : Data → Bool
  ordered null = true
  ordered (boolean b) = true
  ordered (number n) = true
  ordered (string s) = true
  ordered (array ds) = items_ordered ds
  ordered (object ms) = members_ordered ms no_members

  pub items_ordered : Items → Bool
  items_ordered no_items = true
  items_ordered (item d ds) = ordered d && items_ordered ds

  -- the same after the members before
  pub members_ordered : Members → Members → Bool
  members_ordered no_members before = true
  members_ordered (member k d ms) before = comes_after k before && (ordered d && members_ordered ms (and_then before (member k d no_members)))
