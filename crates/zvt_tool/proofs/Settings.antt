-- What the settings of an option make of its rule.
use Rattle.std.proofs.Common.{◌≡◌, ◌∙◌, ◌∷◌, [], ap, pos, subst, Bor, List, ℕ, ℤ, Some, false, true}
use Rattle.clap.specs.Values.{NarrowsTo}
use Rattle.clap.specs.Walk.{Rule, rule_of}
use Rattle.clap.specs.declared.builder.action.ArgAction.{ArgAction}
use Rattle.clap.specs.declared.builder.arg.Arg.{Arg}
use Rattle.clap.specs.declared.builder.texts.Texts.TheVariants.{One}
use Rattle.clap.specs.declared.builder.value_parser.ValueParser.{ValueParser}
use Rattle.clap.specs.declared.builder.value_parser.ValueParser.TheVariants.{Signed}

-- an option of this rule, for its command alone
abbrev pub Has : Arg → Rule → Type 0
Has a rule = (rule_of a ≡ rule) × (a.global ≡ false)

-- a setting that makes the rule of `a` that of `b`
set : (f : Rule → Rule) (a b : Arg) (rule : Rule) → rule_of b ≡ f (rule_of a) → b.global ≡ a.global → Has a rule → Has b (f rule)
set f a b rule e same has = (e ∙ ap f has.0, same ∙ has.1)

pub acts : (a b : Arg) (action : ArgAction) (rule : Rule) → b ≡ record a { action = Some action } → Has a rule
    → Has b (record rule { action = Some action })
acts a b action rule e = set (λ (r : Rule). record r { action = Some action }) a b rule (ap rule_of e) (ap (λ (x : Arg). x.global) e)

pub is_long : (a b : Arg) (name : Bor (List ℕ)) (rule : Rule) → b ≡ record a { long = Some name } → Has a rule
    → Has b (record rule { long = Some name.now })
is_long a b name rule e = set (λ (r : Rule). record r { long = Some name.now }) a b rule (ap rule_of e) (ap (λ (x : Arg). x.global) e)

pub is_required : (a b : Arg) (rule : Rule) → b ≡ record a { required = true } → Has a rule → Has b (record rule { required = true })
is_required a b rule e = set (λ (r : Rule). record r { required = true }) a b rule (ap rule_of e) (ap (λ (x : Arg). x.global) e)

pub parses : (a b : Arg) (parser : ValueParser) (rule : Rule) → b ≡ record a { value_parser = b.value_parser }
    → b.value_parser ≡ Some parser → Has a rule → Has b (record rule { parser = Some parser })
parses a b parser rule e is has =
    let kept = set (λ (r : Rule). record r { parser = b.value_parser }) a b rule (ap rule_of e) (ap (λ (x : Arg). x.global) e) has in
    (kept.0 ∙ ap (λ p. record rule { parser = p }) is, kept.1)

pub is_default : (a b : Arg) (text : Bor (List ℕ)) (rule : Rule) → b ≡ record a { default_vals = One text } → Has a rule
    → Has b (record rule { defaults = text.now ∷ [] })
is_default a b text rule e = set (λ (r : Rule). record r { defaults = text.now ∷ [] }) a b rule (ap rule_of e) (ap (λ (x : Arg). x.global) e)

-- one value, whose name and help say nothing to the rule
pub shows : (a b c : Arg) (name help : Bor (List ℕ)) (rule : Rule) → b ≡ record a { val_names = One name }
    → c ≡ record b { help = Some help } → Has a rule → Has c (record rule { value_names = 1 })
shows a b c name help rule e f has =
    let named = set (λ (r : Rule). record r { value_names = 1 }) a b rule (ap rule_of e) (ap (λ (x : Arg). x.global) e) has in
    set (λ (r : Rule). r) b c (record rule { value_names = 1 }) (ap rule_of f) (ap (λ (x : Arg). x.global) f) named

-- a help text says nothing to the rule
pub helps : (a b : Arg) (help : Bor (List ℕ)) (rule : Rule) → b ≡ record a { help = Some help } → Has a rule → Has b rule
helps a b help rule e = set (λ (r : Rule). r) a b rule (ap rule_of e) (ap (λ (x : Arg). x.global) e)

-- a parser of 32 bits, narrowed to this range
pub narrowed : (p r : ValueParser) (least most : ℤ) (low high n : ℕ) → p ≡ Signed (pos 0) (pos n) → NarrowsTo p (Some least) (Some most) r
    → least ≡ pos low → most ≡ pos high → NarrowsTo (Signed (pos 0) (pos n)) (Some (pos low)) (Some (pos high)) r
narrowed p r least most low high n is narrows from to =
    subst (λ (m : ℤ). NarrowsTo (Signed (pos 0) (pos n)) (Some (pos low)) (Some m) r) to
    (subst (λ (l : ℤ). NarrowsTo (Signed (pos 0) (pos n)) (Some l) (Some most) r) from
    (subst (λ (q : ValueParser). NarrowsTo q (Some least) (Some most) r) is narrows))
