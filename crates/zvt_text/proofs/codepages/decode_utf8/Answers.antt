use Rattle.std.proofs.Common.{List, ℕ, ◌++◌, ◌∙◌, ap, append-nil, flat_map, refl, subst, sym, take, rules}
use Rattle.std.proofs.lemmas.Str.{IsUtf8-past_char}
use Rattle.zvt_text.specs.Codepages.{decoded_character}
use Rattle.zvt_text.specs.Writing.{Puts}
use Rattle.zvt_text.proofs.CodepageLemmas.{decoded_so_far, is_decoded, no_chars, not_utf8}
use Rattle.zvt_text.proofs.RoomLemmas.{prefix_full}
use Rattle.zvt_text.proofs.codepages.decode_utf8.Goals as goal

pub returns-in_default : goal.returns-in_default
returns-in_default c =
    subst (λ (said : List ℕ). Puts c.escape_all.result c.args.at c.args.buffer.now c.escape_all.new.buffer said) (sym (not_utf8 c.args.quotes c.args.bytes.now c.in_default.ensures.cases.0)) c.escape_all.ensures

pub returns-in_err-end : goal.returns-in_err-end
returns-in_err-end c =
    let all = decoded_so_far c.args.quotes _ _ _ _ _ c.in-Some.character c.loop-character.invariant.utf8 c.in-Some.ensures.steps.0 c.loop-character.invariant.written refl in
    let full = prefix_full _ _ _ _ (all ∙ ap (λ (said : List ℕ). take c.args.at c.args.buffer.now ++ said) (sym (is_decoded c.args.quotes c.args.bytes.now c.in-Ok.ensures.cases.1))) c.in_err-end.ensures in
    search (rules, full)

pub loop-character-preserved : goal.loop-character-preserved
loop-character-preserved c = record {
  inside = c.in_ok-end.ensures.0;
  utf8 = IsUtf8-past_char _ _ c.in-Some.character c.loop-character.invariant.utf8 c.in-Some.ensures.steps.0;
  written =
      decoded_so_far c.args.quotes _ _ _ _ _ c.in-Some.character c.loop-character.invariant.utf8 c.in-Some.ensures.steps.0 c.loop-character.invariant.written c.in_ok-end.ensures.1;
}

pub returns : goal.returns
returns c =
    let none = ap (flat_map (decoded_character c.args.quotes)) (no_chars c.loop-character.character-iterator.rest.now c.in-None.ensures.steps.0.0) in (
      c.loop-character.invariant.inside,
      sym (append-nil _) ∙ ap (λ (l : List ℕ). take c.loop-character.end c.loop-character.buffer ++ l) (sym none) ∙ c.loop-character.invariant.written
          ∙ ap (λ (said : List ℕ). take c.args.at c.args.buffer.now ++ said) (sym (is_decoded c.args.quotes c.args.bytes.now c.in-Ok.ensures.cases.1)),
    )
