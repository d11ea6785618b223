-- What comes of a trial of loss.
use Rattle.std.specs.Prelude.{◌≡◌, ℕ, ◌+◌, List, length, Ok, Err, Result}
use Rattle.tip_code.specs.Encoding.{Encodes}
use Rattle.tip_code.specs.Geometry.{cells_in}
use Rattle.tip_code.specs.Stops.{First}
use Rattle.tip_code.specs.Stripe.{stripe_of}
use Rattle.tip_code.specs.declared.stop.Stop.{Stop}
use Rattle.tip_element.specs.Words.{word, no_word, word_join}
use Rattle.tip_element.specs.declared.word.Word.{Word}
use Rattle.tip_lose.specs.declared.trial.Failure.{Failure}
use Rattle.tip_lose.specs.declared.trial.Failure.TheVariants as failure

-- The cells are those of the encoded stripe whose places hold 1, 2, 3 and so on.
pub record CountedStripe (p : ℕ) (cells : List Word) : Type 0 where
  pub sized : length cells ≡ cells_in p
  pub encodes : Encodes no_word word_join p (λ n. word (n + 1)) (stripe_of no_word p cells)

-- A trial that may meet the stops `fits` is refused with the first that fits, and made where none does, unless memory runs out.
abbrev pub StoppedWithRoom : {A : Type 0} → (Stop → Type 0) → Result A Failure → Type 0
StoppedWithRoom fits (Ok a) = (t : Stop) → fits t → ⊥
StoppedWithRoom fits (Err (failure.Stopped s)) = First fits s
StoppedWithRoom fits (Err (failure.NoRoom e)) = Unit
