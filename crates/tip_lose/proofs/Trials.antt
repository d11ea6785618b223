-- Stripes of words that are compared.
use Rattle.std.proofs.Common.{◌≡◌, Bool, List, eqb, ap}
use lib.Pointwise.{pointwise}
use Rattle.std.specs.Bool.{Decides}
use Rattle.std.proofs.lemmas.Bool.{eqb-true, eq-eqb}
use Rattle.std.proofs.lemmas.Slice.Eq.{slice_eq-Decides}
use Rattle.tip_element.specs.Laws.{Exactly}
use Rattle.tip_element.specs.Words.{word}
use Rattle.tip_element.specs.declared.word.Word.{Word}

-- words are equal where their numbers are
word_decides : (a b : Word) → Decides (eqb a.0 b.0) (a ≡ b)
word_decides a b = (λ e. ap word (eqb-true a.0 b.0 e), λ e. eq-eqb a.0 b.0 (ap (λ w. w.0) e))

-- and runs of words where each pair of them is
pub same_words : (r : Bool) (xs ys : List Word) → r ≡ pointwise (λ a b. eqb a.0 b.0) xs ys → Exactly r (xs ≡ ys)
same_words r xs ys e = let same = slice_eq-Decides word_decides xs ys r e in record { sound = same.0; whole = same.1 }
