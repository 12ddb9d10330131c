-- What is written for a terminal with extras is a spelling of its messages.
use Rattle.std.proofs.Common.{◌≡◌, ◌∙◌, ◌+◌, ◌-◌, ◌<◌, ◌≤◌, ℕ, Option, Some, List, [], ◌∷◌, ◌++◌, length, drop, take, codes, false, ap, refl, sym, subst, arith, length-append, length-drop, append_assoc, append-nil}
use Rattle.std.proofs.Math.Seq.{take-append_seam}
use Rattle.std.proofs.lemmas.List.{take_all}
use Rattle.zvt_bcd.specs.LengthDigits.{IsCount}
use Rattle.zvt_grammar.specs.Reading.{AreBytes, shortest}
use Rattle.zvt_tlv.specs.Grammar as objects
use Rattle.zvt_tlv.specs.Grammar.{none, primitive, constructed}
use Rattle.zvt_tlv.specs.Sizes.{Puts}
use Rattle.zvt_field.specs.Grammar.{Field, plain, tree, FieldOf, FieldList, IsHead}
use Rattle.zvt_field.specs.Shapes.{shape_of}
use Rattle.zvt_field.specs.declared.shapes.Shape.{Shape}
use Rattle.zvt_field.specs.declared.shapes.Shape.TheVariants.{Fixed, Ll, Lll, Tree}
use Rattle.zvt_field.proofs.FieldLists.{list_joined}
use Rattle.zvt_apdu.specs.Message.{Message, status, print_line, intermediate}
use Rattle.zvt_apdu.specs.Grammar.{Data, IsFrameLength, Spells}
use Rattle.zvt_apdu.specs.Briefs.{PutsMessage}
use Rattle.zvt_term.specs.declared.cards.Card.{Card}
use Rattle.zvt_term.specs.declared.cards.Card.TheVariants.{Girocard, Visa}
use Rattle.zvt_apdu.specs.Briefs.{digits}
use Rattle.zvt_term.specs.Dressing.{authorised_fields, block, card_fields, fields_at}
use Rattle.zvt_term.proofs.SpellingLemmas.{fixed_field, four_more, terminal_listed}

-- ---- cards

ll_field : (bmp : ℕ) (size content : List ℕ) → shape_of bmp ≡ Some Ll → IsCount 2 (length content) size → AreBytes content → FieldOf shortest (plain bmp content) (bmp ∷ (size ++ content))
ll_field bmp size content shape count are =
    record {
      digits = false;
      size = size;
      whole = refl;
      is_head = subst (λ (o : Option Shape). IsHead o false (length content) size) (sym shape) (refl, count);
      is_content = are;
    }

pan_shape : shape_of 0x22 ≡ Some Ll
unfolding shape_of
pan_shape = refl

payment_shape : shape_of 0x19 ≡ Some (Fixed 1)
unfolding shape_of
payment_shape = refl

type_shape : shape_of 0x8A ≡ Some (Fixed 1)
unfolding shape_of
type_shape = refl

name_shape : shape_of 0x8B ≡ Some Ll
unfolding shape_of
name_shape = refl

container_shape : shape_of 0x06 ≡ Some Tree
unfolding shape_of
container_shape = refl

network_shape : shape_of 0x8C ≡ Some (Fixed 1)
unfolding shape_of
network_shape = refl

expiry_shape : shape_of 0x0E ≡ Some (Fixed 2)
unfolding shape_of
expiry_shape = refl

sequence_shape : shape_of 0x17 ≡ Some (Fixed 2)
unfolding shape_of
sequence_shape = refl

-- eight digits, two types and a name, before other fields
card_listed : (pan name size tail : List ℕ) (more : List Field) (payment kind : ℕ) → length pan ≡ 8 → AreBytes pan → payment < 256 → kind < 256 → IsCount 2 (length name) size → AreBytes name
    → FieldList shortest more tail
    → FieldList shortest (plain 0x22 pan ∷ plain 0x19 (payment ∷ []) ∷ plain 0x8A (kind ∷ []) ∷ plain 0x8B name ∷ more) (0x22 ∷ 0xF0 ∷ 0xF8 ∷ (pan ++ 0x19 ∷ payment ∷ 0x8A ∷ kind ∷ 0x8B ∷ (size ++ (name ++ tail))))
card_listed pan name size tail more payment kind eight digits p k count letters rest =
    let after = 0x8B ∷ (size ++ (name ++ tail)) in
    let named : FieldList shortest (plain 0x8B name ∷ more) after =
    (0x8B ∷ (size ++ name), tail, sym (ap (λ (l : List ℕ). 0x8B ∷ l) (append_assoc size name tail)), ll_field 0x8B size name name_shape count letters, rest) in
    let typed : FieldList shortest (plain 0x8A (kind ∷ []) ∷ plain 0x8B name ∷ more) (0x8A ∷ kind ∷ after) =
    (0x8A ∷ kind ∷ [], after, refl, fixed_field 0x8A 1 (kind ∷ []) type_shape refl (k, tt), named) in
    let paid : FieldList shortest (plain 0x19 (payment ∷ []) ∷ plain 0x8A (kind ∷ []) ∷ plain 0x8B name ∷ more) (0x19 ∷ payment ∷ 0x8A ∷ kind ∷ after) =
    (0x19 ∷ payment ∷ [], 0x8A ∷ kind ∷ after, refl, fixed_field 0x19 1 (payment ∷ []) payment_shape refl (p, tt), typed) in
    let eights : IsCount 2 (length pan) (0xF0 ∷ 0xF8 ∷ []) = (refl, (omega arith, omega arith, (omega arith, omega arith, tt)), sym eight) in
    (0x22 ∷ 0xF0 ∷ 0xF8 ∷ pan, 0x19 ∷ payment ∷ 0x8A ∷ kind ∷ after, refl, ll_field 0x22 (0xF0 ∷ 0xF8 ∷ []) pan pan_shape eights digits, paid)

contract_shape : shape_of 0x2A ≡ Some (Fixed 15)
unfolding shape_of
contract_shape = refl

attribute_shape : shape_of 0x3B ≡ Some (Fixed 8)
unfolding shape_of
attribute_shape = refl

text_shape : shape_of 0x3C ≡ Some Lll
unfolding shape_of
text_shape = refl

-- the container of an application of at most 16 bytes
abbrev application_bytes : (kind : ℕ) → (application : List ℕ) → List ℕ
application_bytes kind application =
    0x06 ∷ (length application + 10) ∷ 0x41 ∷ 1 ∷ kind ∷ 0x45 ∷ 1 ∷ 0 ∷ 0x60 ∷ (length application + 2) ∷ 0x43 ∷ length application ∷ application

container_listed : (kind : ℕ) (application : List ℕ) → kind < 256 → AreBytes application → length application ≤ 16
    → FieldOf shortest (tree 0x06 (primitive (0x41 ∷ []) (kind ∷ []) (primitive (0x45 ∷ []) (0 ∷ []) (constructed (0x60 ∷ []) (primitive (0x43 ∷ []) application none) none)))) (application_bytes kind application)
container_listed kind application small are few =
    let named : List ℕ = 0x43 ∷ length application ∷ application in
    let applied : List ℕ = 0x60 ∷ (length application + 2) ∷ named in
    let limited : List ℕ = 0x45 ∷ 1 ∷ 0 ∷ applied in
    let ids : objects.Spells shortest 2 (primitive (0x43 ∷ []) application none) named =
    record {
      size = length application ∷ [];
      content = application;
      after = [];
      whole = ap (λ (s : List ℕ). 0x43 ∷ length application ∷ s) (sym (append-nil application));
      is_tag = (omega arith, refl);
      is_kind = refl;
      is_length = (omega (arith, few), refl);
      inside = (refl, are);
      others = refl;
    } in
    let applications : objects.Spells shortest 1 (constructed (0x60 ∷ []) (primitive (0x43 ∷ []) application none) none) applied =
    record {
      size = (length application + 2) ∷ [];
      content = named;
      after = [];
      whole = ap (λ (s : List ℕ). 0x60 ∷ (length application + 2) ∷ s) (sym (append-nil named));
      is_tag = (omega arith, refl);
      is_kind = refl;
      is_length = (omega (arith, few), omega arith);
      inside = (omega arith, ids);
      others = refl;
    } in
    let parameters : objects.Spells shortest 1 (primitive (0x45 ∷ []) (0 ∷ []) (constructed (0x60 ∷ []) (primitive (0x43 ∷ []) application none) none)) limited =
    record {
      size = 1 ∷ [];
      content = 0 ∷ [];
      after = applied;
      whole = refl;
      is_tag = (omega arith, refl);
      is_kind = refl;
      is_length = (omega arith, refl);
      inside = (refl, (omega arith, tt));
      others = applications;
    } in
    record {
      one = (length application + 10) ∷ 0x41 ∷ 1 ∷ kind ∷ limited;
      whole = refl;
      is_tree = container_shape;
      sized =
          record {
            size = (length application + 10) ∷ [];
            content = 0x41 ∷ 1 ∷ kind ∷ limited;
            whole = refl;
            is_length = (omega (arith, few), omega arith);
            inside =
                record {
                  size = 1 ∷ [];
                  content = kind ∷ [];
                  after = limited;
                  whole = refl;
                  is_tag = (omega arith, refl);
                  is_kind = refl;
                  is_length = (omega arith, refl);
                  inside = (refl, (small, tt));
                  others = parameters;
                };
          };
    }

lll_field : (bmp : ℕ) (size content : List ℕ) → shape_of bmp ≡ Some Lll → IsCount 3 (length content) size → AreBytes content → FieldOf shortest (plain bmp content) (bmp ∷ (size ++ content))
lll_field bmp size content shape count are =
    record {
      digits = false;
      size = size;
      whole = refl;
      is_head = subst (λ (o : Option Shape). IsHead o false (length content) size) (sym shape) (refl, count);
      is_content = are;
    }

-- the fields of any card at the end
abbrev authorised_bytes : (kind : ℕ) → (application : List ℕ) → List ℕ
authorised_bytes kind application =
    0x2A ∷ 0x31 ∷ 0x32 ∷ 0x33 ∷ 0x34 ∷ 0x35 ∷ 0x36 ∷ 0x37 ∷ 0x38 ∷ 0x39 ∷ 0x30 ∷ 0x31 ∷ 0x32 ∷ 0x33 ∷ 0x34 ∷ 0x35
    ∷ 0x3B ∷ 0x31 ∷ 0x32 ∷ 0x33 ∷ 0x34 ∷ 0x35 ∷ 0x36 ∷ 0x00 ∷ 0x00
    ∷ 0x3C ∷ 0xF0 ∷ 0xF0 ∷ 0xF8 ∷ 0x41 ∷ 0x50 ∷ 0x50 ∷ 0x52 ∷ 0x4F ∷ 0x56 ∷ 0x45 ∷ 0x44
    ∷ application_bytes kind application

authorised_listed : (kind : ℕ) (application : List ℕ) → kind < 256 → AreBytes application → length application ≤ 16 → FieldList shortest (authorised_fields kind application) (authorised_bytes kind application)
authorised_listed kind application small are few =
    let container : List ℕ = application_bytes kind application in
    let contained : FieldList shortest (tree 0x06 (primitive (0x41 ∷ []) (kind ∷ []) (primitive (0x45 ∷ []) (0 ∷ []) (constructed (0x60 ∷ []) (primitive (0x43 ∷ []) application none) none))) ∷ []) container =
    (container, [], sym (append-nil container), container_listed kind application small are few, refl) in
    let texted : FieldList shortest (plain 0x3C (codes "APPROVED") ∷ tree 0x06 (primitive (0x41 ∷ []) (kind ∷ []) (primitive (0x45 ∷ []) (0 ∷ []) (constructed (0x60 ∷ []) (primitive (0x43 ∷ []) application none) none))) ∷ []) (0x3C ∷ 0xF0 ∷ 0xF0 ∷ 0xF8 ∷ (codes "APPROVED" ++ container)) = (
      0x3C ∷ 0xF0 ∷ 0xF0 ∷ 0xF8 ∷ codes "APPROVED",
      container,
      refl,
      lll_field 0x3C (0xF0 ∷ 0xF0 ∷ 0xF8 ∷ []) (codes "APPROVED") text_shape (refl, (omega arith, omega arith, (omega arith, omega arith, (omega arith, omega arith, tt))), refl)
          (omega arith, (omega arith, (omega arith, (omega arith, (omega arith, (omega arith, (omega arith, (omega arith, tt)))))))),
      contained,
    ) in
    let attributed : FieldList shortest (plain 0x3B (codes "123456" ++ 0 ∷ 0 ∷ []) ∷ plain 0x3C (codes "APPROVED") ∷ tree 0x06 (primitive (0x41 ∷ []) (kind ∷ []) (primitive (0x45 ∷ []) (0 ∷ []) (constructed (0x60 ∷ []) (primitive (0x43 ∷ []) application none) none))) ∷ []) (0x3B ∷ (codes "123456" ++ 0 ∷ 0 ∷ 0x3C ∷ 0xF0 ∷ 0xF0 ∷ 0xF8 ∷ (codes "APPROVED" ++ container))) = (
      0x3B ∷ (codes "123456" ++ 0 ∷ 0 ∷ []),
      0x3C ∷ 0xF0 ∷ 0xF0 ∷ 0xF8 ∷ (codes "APPROVED" ++ container),
      refl,
      fixed_field 0x3B 8 (codes "123456" ++ 0 ∷ 0 ∷ []) attribute_shape refl
          (omega arith, (omega arith, (omega arith, (omega arith, (omega arith, (omega arith, (omega arith, (omega arith, tt)))))))),
      texted,
    ) in (
      0x2A ∷ codes "123456789012345",
      0x3B ∷ (codes "123456" ++ 0 ∷ 0 ∷ 0x3C ∷ 0xF0 ∷ 0xF0 ∷ 0xF8 ∷ (codes "APPROVED" ++ container)),
      refl,
      fixed_field 0x2A 15 (codes "123456789012345") contract_shape refl
          (omega arith, (omega arith, (omega arith, (omega arith, (omega arith, (omega arith, (omega arith, (omega arith, (omega arith, (omega arith, (omega arith, (omega arith, (omega arith, (omega arith, (omega arith, tt))))))))))))))),
      attributed,
    )

network_listed : (more : List Field) (tail : List ℕ) → FieldList shortest more tail → FieldList shortest (plain 0x8C (0x01 ∷ []) ∷ more) (0x8C ∷ 0x01 ∷ tail)
network_listed more tail rest = (0x8C ∷ 0x01 ∷ [], tail, refl, fixed_field 0x8C 1 (0x01 ∷ []) network_shape refl (omega arith, tt), rest)

dated_listed : (more : List Field) (tail : List ℕ) → FieldList shortest more tail
    → FieldList shortest (plain 0x0E (0x28 ∷ 0x12 ∷ []) ∷ plain 0x17 (0x00 ∷ 0x01 ∷ []) ∷ more) (0x0E ∷ 0x28 ∷ 0x12 ∷ 0x17 ∷ 0x00 ∷ 0x01 ∷ tail)
dated_listed more tail rest =
    let counted : FieldList shortest (plain 0x17 (0x00 ∷ 0x01 ∷ []) ∷ more) (0x17 ∷ 0x00 ∷ 0x01 ∷ tail) =
    (0x17 ∷ 0x00 ∷ 0x01 ∷ [], tail, refl, fixed_field 0x17 2 (0x00 ∷ 0x01 ∷ []) sequence_shape refl (omega arith, (omega arith, tt)), rest) in
    (0x0E ∷ 0x28 ∷ 0x12 ∷ [], 0x17 ∷ 0x00 ∷ 0x01 ∷ tail, refl, fixed_field 0x0E 2 (0x28 ∷ 0x12 ∷ []) expiry_shape refl (omega arith, (omega arith, tt)), counted)

pub girocard_listed : FieldList shortest (card_fields Girocard)
    (0x22 ∷ 0xF0 ∷ 0xF8 ∷ 0x67 ∷ 0x26 ∷ 0xEE ∷ 0xEE ∷ 0xEE ∷ 0xEE ∷ 0x12 ∷ 0x34 ∷ 0x19 ∷ 0x70 ∷ 0x8A ∷ 0x05 ∷ 0x8B ∷ 0xF0 ∷ 0xF9 ∷ 103 ∷ 105 ∷ 114 ∷ 111 ∷ 99 ∷ 97 ∷ 114 ∷ 100 ∷ 0 ∷ 0x8C ∷ 0x01
    ∷ authorised_bytes 0x05 (0xA0 ∷ 0x00 ∷ 0x00 ∷ 0x03 ∷ 0x59 ∷ 0x10 ∷ 0x10 ∷ 0x02 ∷ 0x80 ∷ 0x01 ∷ []))
girocard_listed =
    let app : List ℕ = 0xA0 ∷ 0x00 ∷ 0x00 ∷ 0x03 ∷ 0x59 ∷ 0x10 ∷ 0x10 ∷ 0x02 ∷ 0x80 ∷ 0x01 ∷ [] in
    card_listed (0x67 ∷ 0x26 ∷ 0xEE ∷ 0xEE ∷ 0xEE ∷ 0xEE ∷ 0x12 ∷ 0x34 ∷ []) (codes "girocard" ++ 0 ∷ []) (0xF0 ∷ 0xF9 ∷ []) (0x8C ∷ 0x01 ∷ authorised_bytes 0x05 app) (plain 0x8C (0x01 ∷ []) ∷ authorised_fields 0x05 app) 0x70 0x05 refl
    (omega arith, (omega arith, (omega arith, (omega arith, (omega arith, (omega arith, (omega arith, (omega arith, tt))))))))
    (omega arith) (omega arith)
    (refl, (omega arith, omega arith, (omega arith, omega arith, tt)), refl)
    (omega arith, (omega arith, (omega arith, (omega arith, (omega arith, (omega arith, (omega arith, (omega arith, (omega arith, tt)))))))))
    (network_listed (authorised_fields 0x05 app) (authorised_bytes 0x05 app) (authorised_listed 0x05 app (omega arith)
    (omega arith, (omega arith, (omega arith, (omega arith, (omega arith, (omega arith, (omega arith, (omega arith, (omega arith, (omega arith, tt)))))))))) (omega arith)))

pub visa_listed : FieldList shortest (card_fields Visa)
    (0x22 ∷ 0xF0 ∷ 0xF8 ∷ 0x40 ∷ 0x00 ∷ 0xEE ∷ 0xEE ∷ 0xEE ∷ 0xEE ∷ 0x00 ∷ 0x02 ∷ 0x19 ∷ 0x60 ∷ 0x8A ∷ 0x0A ∷ 0x8B ∷ 0xF0 ∷ 0xF5 ∷ 86 ∷ 105 ∷ 115 ∷ 97 ∷ 0 ∷ 0x0E ∷ 0x28 ∷ 0x12 ∷ 0x17 ∷ 0x00 ∷ 0x01
    ∷ authorised_bytes 0x0A (0xA0 ∷ 0x00 ∷ 0x00 ∷ 0x00 ∷ 0x03 ∷ 0x10 ∷ 0x10 ∷ []))
visa_listed =
    let app : List ℕ = 0xA0 ∷ 0x00 ∷ 0x00 ∷ 0x00 ∷ 0x03 ∷ 0x10 ∷ 0x10 ∷ [] in
    card_listed (0x40 ∷ 0x00 ∷ 0xEE ∷ 0xEE ∷ 0xEE ∷ 0xEE ∷ 0x00 ∷ 0x02 ∷ []) (codes "Visa" ++ 0 ∷ []) (0xF0 ∷ 0xF5 ∷ []) (0x0E ∷ 0x28 ∷ 0x12 ∷ 0x17 ∷ 0x00 ∷ 0x01 ∷ authorised_bytes 0x0A app) (plain 0x0E (0x28 ∷ 0x12 ∷ []) ∷ plain 0x17 (0x00 ∷ 0x01 ∷ []) ∷ authorised_fields 0x0A app) 0x60 0x0A refl
    (omega arith, (omega arith, (omega arith, (omega arith, (omega arith, (omega arith, (omega arith, (omega arith, tt))))))))
    (omega arith) (omega arith)
    (refl, (omega arith, omega arith, (omega arith, omega arith, tt)), refl)
    (omega arith, (omega arith, (omega arith, (omega arith, (omega arith, tt)))))
    (dated_listed (authorised_fields 0x0A app) (authorised_bytes 0x0A app) (authorised_listed 0x0A app (omega arith)
    (omega arith, (omega arith, (omega arith, (omega arith, (omega arith, (omega arith, (omega arith, tt))))))) (omega arith)))

-- the number of the terminal, and then the fields of the card
pub numbered_listed : (tid : ℕ) (card : Card) (four more : List ℕ) → four ≡ digits 4 tid → tid ≤ 99999999 → FieldList shortest (card_fields card) more
    → FieldList shortest (fields_at tid card) (0x29 ∷ four_more four more)
numbered_listed tid card four more is few listed = terminal_listed tid four more (card_fields card) is few listed

-- ---- messages with a length of one byte

pub record Framed (m : Message) (control bytes : List ℕ) : Type 0 where
  pub content : List ℕ
  pub whole : bytes ≡ control ++ length content ∷ content
  pub is_content : Data shortest m content

framed : (m : Message) (bytes : List ℕ) (h : Spells shortest m bytes) → length bytes ≤ 32 → Framed m h.control bytes
framed m bytes h few = by_size h.size h.whole h.is_size
  where
    by_size : (size : List ℕ) → bytes ≡ h.control ++ (size ++ h.content) → IsFrameLength shortest (length h.content) size → Framed m h.control bytes
    by_size [] whole f = absurd f
    by_size (a ∷ []) whole f = record { content = h.content; whole = subst (λ (n : ℕ). bytes ≡ h.control ++ n ∷ h.content) f.1 whole; is_content = h.is_content }
    by_size (a ∷ b ∷ []) whole f = absurd f
    by_size (a ∷ low ∷ high ∷ []) whole f = absurd (omega (arith, f.1, few, ap length whole, length-append h.control (a ∷ low ∷ high ∷ h.content)))
    by_size (a ∷ b ∷ c ∷ d ∷ more) whole f = absurd f

-- the fields of a status
abbrev pub status_part : Message → List Field
status_part (status fields) = fields
status_part m = []

-- what follows the first bytes, as it is cut out
pub cut_after : (n : ℕ) (s : List ℕ) → take (length s - n) (drop n s) ≡ drop n s
cut_after n s = take_all (length s - n) (drop n s) (omega (arith, length-drop n s))

pub status_framed : (fields : List Field) (bytes : List ℕ) → Spells shortest (status fields) bytes → length bytes ≤ 32 → Framed (status fields) (0x04 ∷ 0x0F ∷ []) bytes
status_framed fields bytes h few = subst (λ (c : List ℕ). Framed (status fields) c bytes) h.is_control (framed (status fields) bytes h few)

pub line_framed : (text bytes : List ℕ) → Spells shortest (print_line 0 text) bytes → length bytes ≤ 32 → Framed (print_line 0 text) (0x06 ∷ 0xD1 ∷ []) bytes
line_framed text bytes h few = subst (λ (c : List ℕ). Framed (print_line 0 text) c bytes) h.is_control (framed (print_line 0 text) bytes h few)

-- a status and more fields
pub carded_spelled : (fields after : List Field) (content more : List ℕ) → Data shortest (status fields) content → FieldList shortest after more → length content + length more ≤ 200
    → Spells shortest (status (fields ++ after)) (0x04 ∷ 0x0F ∷ length (content ++ more) ∷ (content ++ more))
carded_spelled fields after content more f listed few =
    record {
      control = 0x04 ∷ 0x0F ∷ [];
      size = length (content ++ more) ∷ [];
      content = content ++ more;
      whole = refl;
      is_control = refl;
      is_size = (omega (arith, length-append content more), refl);
      is_content = (
        content ++ more,
        refl,
        refl,
        tt,
        list_joined shortest fields after content more (subst (λ (s : List ℕ). FieldList shortest fields s) (sym f.1) f.4) listed,
      );
    }

-- the text of a print line
pub text_of_line : (text content : List ℕ) → Data shortest (print_line 0 text) content → content ≡ 0 ∷ text
text_of_line text content f = f.0

-- a text block
pub block_spelled : (text : List ℕ) → AreBytes text → length text ≤ 100
    → Spells shortest (block text) (0x06 ∷ 0xD3 ∷ (length text + 6) ∷ 0x06 ∷ (length text + 4) ∷ 0x25 ∷ (length text + 2) ∷ 0x07 ∷ length text ∷ text)
block_spelled text are few =
    let line : List ℕ = 0x07 ∷ length text ∷ text in
    let content : List ℕ = 0x06 ∷ (length text + 4) ∷ 0x25 ∷ (length text + 2) ∷ line in
    let lines : objects.Spells shortest 2 (primitive (0x07 ∷ []) text none) line =
    record {
      size = length text ∷ [];
      content = text;
      after = [];
      whole = ap (λ (s : List ℕ). 0x07 ∷ length text ∷ s) (sym (append-nil text));
      is_tag = (omega arith, refl);
      is_kind = refl;
      is_length = (omega (arith, few), refl);
      inside = (refl, are);
      others = refl;
    } in
    let texts : objects.Spells shortest 1 (constructed (0x25 ∷ []) (primitive (0x07 ∷ []) text none) none) (0x25 ∷ (length text + 2) ∷ line) =
    record {
      size = (length text + 2) ∷ [];
      content = line;
      after = [];
      whole = ap (λ (s : List ℕ). 0x25 ∷ (length text + 2) ∷ s) (sym (append-nil line));
      is_tag = (omega arith, refl);
      is_kind = refl;
      is_length = (omega (arith, few), omega arith);
      inside = (omega arith, lines);
      others = refl;
    } in
    let container : FieldOf shortest (tree 0x06 (constructed (0x25 ∷ []) (primitive (0x07 ∷ []) text none) none)) content =
    record {
      one = (length text + 4) ∷ 0x25 ∷ (length text + 2) ∷ line;
      whole = refl;
      is_tree = container_shape;
      sized =
          record {
            size = (length text + 4) ∷ [];
            content = 0x25 ∷ (length text + 2) ∷ line;
            whole = refl;
            is_length = (omega (arith, few), omega arith);
            inside = texts;
          };
    } in
    let listed : FieldList shortest (tree 0x06 (constructed (0x25 ∷ []) (primitive (0x07 ∷ []) text none) none) ∷ []) content =
    (content, [], sym (append-nil content), container, refl) in
    record {
      control = 0x06 ∷ 0xD3 ∷ [];
      size = (length text + 6) ∷ [];
      content = content;
      whole = refl;
      is_control = refl;
      is_size = (omega (arith, few), omega arith);
      is_content = (content, refl, refl, tt, listed);
    }

-- an intermediate status
pub wait_spelled : Spells shortest (intermediate 14 []) (0x04 ∷ 0xFF ∷ 0x01 ∷ 0x0E ∷ [])
wait_spelled =
    record {
      control = 0x04 ∷ 0xFF ∷ [];
      size = 1 ∷ [];
      content = 0x0E ∷ [];
      whole = refl;
      is_control = refl;
      is_size = (omega arith, refl);
      is_content = (refl, refl, (omega arith, tt), tt);
    }

-- ---- buffers

-- what is written at the start of a buffer is the spelling
pub written : (m : Message) (old new : List ℕ) (count : ℕ) → PutsMessage m old new count → Spells shortest m (take count new)
written m old new count p =
    let same : take count new ≡ p.bytes =
    ap (λ (s : List ℕ). take count s) p.puts.0 ∙ ap (λ (k : ℕ). take k (p.bytes ++ drop (length p.bytes) old)) p.puts.1 ∙ take-append_seam p.bytes (drop (length p.bytes) old) in
    subst (λ (s : List ℕ). Spells shortest m s) (sym same) p.spelled

-- and stays one in another buffer
pub copied : (m : Message) (bytes old new : List ℕ) (count : ℕ) → Spells shortest m bytes → Puts bytes old new count → PutsMessage m old new count
copied m bytes old new count h puts = record { bytes = bytes; spelled = h; puts = puts }
