-- The names of settlements, as every output writes them, and their meanings.
use Rattle.std.specs.Prelude.{ℕ, List, codes}
use Rattle.zvt_settle.specs.declared.deciding.Settlement.{Settlement}
use Rattle.zvt_settle.specs.declared.deciding.Settlement.TheVariants.{Paid, NotPaid, Reversed, NotReversed}

abbrev pub settlement_name : Settlement → List ℕ
settlement_name (Paid row trace receipt) = codes "Paid"
settlement_name (NotPaid row) = codes "NotPaid"
settlement_name (Reversed entry) = codes "Reversed"
settlement_name (NotReversed entry) = codes "NotReversed"

abbrev pub settlement_words : Settlement → List ℕ
settlement_words (Paid row trace receipt) = codes "the terminal took the payment"
settlement_words (NotPaid row) = codes "the terminal did not take the payment"
settlement_words (Reversed entry) = codes "the terminal reversed the payment"
settlement_words (NotReversed entry) = codes "the terminal did not reverse the payment"
