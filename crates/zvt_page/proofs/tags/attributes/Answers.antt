use Rattle.std.proofs.Common.{◌∙◌, ◌++◌, ℕ, List, ap, append_assoc, option_map}
use Rattle.zvt_page.specs.Html.{attributes_text, class_of, other_of}
use Rattle.zvt_page.proofs.Completing.{completes, one_by_one}
use Rattle.zvt_page.proofs.tags.attributes.Goals as goal

pub returns : goal.returns
returns c =
    completes c.other_attribute.result c.class_attribute.new.text c.other_attribute.new.text _ _
    (ap (λ (t : List ℕ). t ++ attributes_text (other_of (option_map (λ a. (a.0, a.1.now)) c.args.other))) c.in_ok-class_attribute.ensures
    ∙ append_assoc c.args.text.now (attributes_text (class_of c.args.class.now)) (attributes_text (other_of (option_map (λ a. (a.0, a.1.now)) c.args.other)))
    ∙ ap (λ (t : List ℕ). c.args.text.now ++ t) (one_by_one c.args.class.now (option_map (λ a. (a.0, a.1.now)) c.args.other)))
    c.other_attribute.ensures
