use Rattle.std.proofs.Common.{◌≡◌, ◌≤◌, ◌++◌, flat_map, length, take}
use Rattle.std.specs.Str.{IsUtf8, chars}
use Rattle.zvt_text.specs.Codepages.{decoded_character}
use Rattle.zvt_text.proofs.codepages.decode_utf8.Given as goal

abbrev pub invariant-loop-character : goal.invariant-loop-character
invariant-loop-character l = record {
  inside : l.end ≤ length l.buffer;
  utf8 : IsUtf8 l.character-iterator.rest.now;
  written : take l.end l.buffer ++ flat_map (decoded_character l.quotes) (chars l.character-iterator.rest.now) ≡ take l.at l.initial.buffer ++ flat_map (decoded_character l.quotes) (chars l.bytes);
}
