-- A value whose numbers fit and whose names are in order is read back from its text.
use Rattle.std.proofs.Common.{◌≡◌, ℕ, suc, ◌^◌, ◌≤◌, ◌&&◌, Bool, true, false, max, Some, Option, List, [], ◌∷◌, ◌++◌, refl, sym, ◌∙◌, ap, arith, append-nil}
use Rattle.std.specs.Prelude.{option_map, option_and_then}
use Rattle.std.specs.Ordering.{nat_cmp, match_ordering}
use Rattle.std.specs.Cmp.Lexicographic.{slice_cmp}
use Rattle.std.specs.declared.cmp.Ordering.{Ordering}
use Rattle.std.specs.declared.cmp.Ordering.TheVariants.{Less, Equal, Greater}
use Rattle.std.proofs.lemmas.Bool.{and_parts, ltb-true}
use Rattle.json.specs.Json as json
use Rattle.json.specs.Lex.{tokens}
use Rattle.json.specs.Print.{ArePrintable}
use Rattle.json.specs.Token.{Token}
use Rattle.json.specs.Tree as tree
use Rattle.json.proofs.Printed.Decimals.{IsNumber-decimal}
use Rattle.json.proofs.Printed.Tokens.{tokens-print}
use Rattle.json.proofs.Printed.Trees.{value-json_tokens}
use Rattle.serde_json.specs.Data.{unsigned, negative, float, Data, null, boolean, number, string, array, object, Items, no_items, item, Members, no_members, member, put, depth, items_depth, members_depth}
use Rattle.serde_json.specs.Read.{of_json, of_items, of_members, max_depth, read}
use Rattle.serde_json.specs.Written.{compact_text, outline, items_outline, members_outline}
use Rattle.serde_json.proofs.Numbers.{number_of-decimal}
use Rattle.serde_json.proofs.Texts.{print-outline}
use Rattle.zvt_json.specs.Reading.{and_then, comes_after, fits, items_fit, items_ordered, members_fit, members_ordered, ordered}

-- ---- tokens

printable_more : (a b : List Token) → ArePrintable a → ArePrintable b → ArePrintable (a ++ b)
unfolding ArePrintable
printable_more [] b p q = q
printable_more (t ∷ ts) b p q = (p.0, printable_more ts b p.1 q)

mutual
  unfolding ArePrintable

  printable : (d : Data) → fits d ≡ true → ArePrintable (tree.json_tokens (outline d))
  printable null h = (tt, tt)
  printable (boolean b) h = (tt, tt)
  printable (number (unsigned n)) h = (IsNumber-decimal n (ltb-true n (2 ^ 64) h), tt)
  printable (number (negative z)) h = absurd (cc (h))
  printable (number (float x)) h = absurd (cc (h))
  printable (string s) h = (tt, tt)
  printable (array ds) h = (tt, items_printable ds h)
  printable (object ms) h = (tt, members_printable ms h)

  items_printable : (ds : Items) → items_fit ds ≡ true → ArePrintable (tree.items_tokens (items_outline ds))
  items_printable no_items h = (tt, tt)
  items_printable (item d ds) h =
      let p = and_parts (fits d) (items_fit ds) h in
      printable_more (tree.json_tokens (outline d)) (tree.items_tokens (items_outline ds)) (printable d p.0) (items_printable ds p.1)

  members_printable : (ms : Members) → members_fit ms ≡ true → ArePrintable (tree.members_tokens (members_outline ms))
  members_printable no_members h = (tt, tt)
  members_printable (member k d ms) h =
      let p = and_parts (fits d) (members_fit ms) h in
      (tt, printable_more (tree.json_tokens (outline d)) (tree.members_tokens (members_outline ms)) (printable d p.0) (members_printable ms p.1))

-- ---- depth

mutual
  same_depth : (d : Data) → tree.depth (outline d) ≡ depth d
  same_depth null = refl
  same_depth (boolean b) = refl
  same_depth (number n) = refl
  same_depth (string s) = refl
  same_depth (array ds) = ap (λ (n : ℕ). suc n) (same_items ds)
  same_depth (object ms) = ap (λ (n : ℕ). suc n) (same_members ms)

  same_items : (ds : Items) → tree.items_depth (items_outline ds) ≡ items_depth ds
  same_items no_items = refl
  same_items (item d ds) = ap (λ (n : ℕ). max n (tree.items_depth (items_outline ds))) (same_depth d) ∙ ap (λ (n : ℕ). max (depth d) n) (same_items ds)

  same_members : (ms : Members) → tree.members_depth (members_outline ms) ≡ members_depth ms
  same_members no_members = refl
  same_members (member k d ms) = ap (λ (n : ℕ). max n (tree.members_depth (members_outline ms))) (same_depth d) ∙ ap (λ (n : ℕ). max (depth d) n) (same_members ms)

-- ---- names

greater : (o : Ordering) (t : Bool) → match_ordering o false false t ≡ true → (o ≡ Greater) × (t ≡ true)
greater Less t h = absurd (cc (h))
greater Equal t h = absurd (cc (h))
greater Greater t h = (refl, h)

put_last : (k : List ℕ) (d : Data) (ms : Members) → comes_after k ms ≡ true → put k d ms ≡ and_then ms (member k d no_members)
put_last k d no_members h = refl
put_last k d (member l e ms) h =
    let g = greater (slice_cmp nat_cmp k l) (comes_after k ms) h in
    ap (λ (o : Ordering). match_ordering o (member k d (member l e ms)) (member l d ms) (member l e (put k d ms))) g.0 ∙ ap (λ (more : Members). member l e more) (put_last k d ms g.1)

after_more : (a : Members) (k : List ℕ) (d : Data) (b : Members) → and_then (and_then a (member k d no_members)) b ≡ and_then a (member k d b)
after_more no_members k d b = refl
after_more (member l e a) k d b = ap (λ (more : Members). member l e more) (after_more a k d b)

after_none : (ms : Members) → and_then ms no_members ≡ ms
after_none no_members = refl
after_none (member k d ms) = ap (λ (more : Members). member k d more) (after_none ms)

-- ---- values

mutual
  value_read : (d : Data) → fits d ≡ true → ordered d ≡ true → of_json (outline d) ≡ Some d
  value_read null h o = refl
  value_read (boolean b) h o = refl
  value_read (number (unsigned n)) h o = ap (option_map number) (number_of-decimal n (ltb-true n (2 ^ 64) h))
  value_read (number (negative z)) h o = absurd (cc (h))
  value_read (number (float x)) h o = absurd (cc (h))
  value_read (string s) h o = refl
  value_read (array ds) h o = ap (option_map array) (items_read ds h o)
  value_read (object ms) h o = ap (option_map object) (members_read ms no_members h o)

  items_read : (ds : Items) → items_fit ds ≡ true → items_ordered ds ≡ true → of_items (items_outline ds) ≡ Some ds
  items_read no_items h o = refl
  items_read (item d ds) h o =
      let p = and_parts (fits d) (items_fit ds) h in
      let q = and_parts (ordered d) (items_ordered ds) o in
      ap (option_and_then (λ one. option_map (item one) (of_items (items_outline ds)))) (value_read d p.0 q.0) ∙ ap (option_map (item d)) (items_read ds p.1 q.1)

  members_read : (ms found : Members) → members_fit ms ≡ true → members_ordered ms found ≡ true → of_members (members_outline ms) found ≡ Some (and_then found ms)
  members_read no_members found h o = ap Some (sym (after_none found))
  members_read (member k d ms) found h o =
      let p = and_parts (fits d) (members_fit ms) h in
      let q = and_parts (comes_after k found) (ordered d && members_ordered ms (and_then found (member k d no_members))) o in
      let r = and_parts (ordered d) (members_ordered ms (and_then found (member k d no_members))) q.1 in
      ap (option_and_then (λ one. of_members (members_outline ms) (put k one found))) (value_read d p.0 r.0)
      ∙ ap (λ (so : Members). of_members (members_outline ms) so) (put_last k d found q.0)
      ∙ members_read ms (and_then found (member k d no_members)) p.1 r.1
      ∙ ap Some (after_more found k d ms)

-- ---- texts

abbrev whole : Option (json.Json × List Token) → Option Data
whole o = option_and_then of_json (option_and_then (λ p. json.if_last p.0 p.1) o)

pub reads_back : (d : Data) → fits d ≡ true → ordered d ≡ true → depth d ≤ max_depth → read (compact_text d) ≡ Some d
reads_back d h o shallow =
    let ts = tree.json_tokens (outline d) in
    let same : tokens (compact_text d) ≡ ts = ap tokens (sym (print-outline d)) ∙ tokens-print ts (printable d h) in
    ap whole (ap (json.value max_depth) (same ∙ sym (append-nil ts)) ∙ value-json_tokens (outline d) max_depth [] (omega (arith, same_depth d, shallow))) ∙ value_read d h o
