-- The reading that a caller asks for.
use Rattle.zvt_grammar.specs.Reading.{Reading, shortest, padded}
use Rattle.zvt_grammar.specs.declared.lengths.Lengths.{Lengths}
use Rattle.zvt_grammar.specs.declared.lengths.Lengths.TheVariants.{Shortest, Padded}

abbrev pub reading_of : Lengths → Reading
reading_of Shortest = shortest
reading_of Padded = padded
