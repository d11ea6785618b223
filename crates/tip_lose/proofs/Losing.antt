-- A stripe that lost columns, and what solving makes of it.
use Rattle.std.proofs.Common.{◌≡◌, ℕ, ◌+◌, ◌-◌, ◌/◌, ◌%◌, ◌<◌, ◌≤◌, true, List, length, get_or, take, ◌++◌, Some, ◌∙◌, subst, arith, mul_comm}
use Rattle.std.proofs.lemmas.Nat.{mul-le, div_below, mod_below, div-add-mod'}
use Rattle.std.proofs.lemmas.List.{take_at, ext_get_or}
use Rattle.tip_code.specs.Encoding.{Encodes}
use Rattle.tip_code.specs.Geometry.{prime_of, cells_in, places_in}
use Rattle.tip_code.specs.Primes.{listed}
use Rattle.tip_code.specs.Stops.{First}
use Rattle.tip_code.specs.Stripe.{stripe_of}
use Rattle.tip_code.specs.declared.geometry.Geometry.{Geometry}
use Rattle.tip_code.specs.declared.stop.Stop.{Stop}
use Rattle.tip_code.proofs.Numbers.{numbering}
use Rattle.tip_code.proofs.Sizes.{valid, facts}
use Rattle.tip_element.specs.Words.{word, no_word, word_join}
use Rattle.tip_element.specs.declared.word.Word.{Word}
use Rattle.tip_columns.specs.declared.Columns.{Columns}
use Rattle.tip_columns.specs.Sets.{in_set}
use Rattle.tip_solve.specs.Solving.{Agree, Solved, SolveStop, work_in}
use Rattle.tip_solve.specs.Solving as solving
use Rattle.tip_lose.specs.Choosing.{ChoiceStop, no_column, too_many}
use Rattle.tip_lose.specs.Trying.{CountedStripe}

-- The encoding of values that count from 1 is the counted stripe. (A buffer that a Vec lends ends up at the front of what it had.)
pub counted_is : (p n : ℕ) (values cells rest : List Word) → listed p ≡ true → n ≡ cells_in p → length cells ≡ n → ((k : ℕ) → k < places_in p → get_or values k no_word ≡ word (k + 1)) → Encodes no_word word_join p (λ k. get_or values k no_word) (stripe_of no_word p cells) → CountedStripe p (take n (cells ++ rest))
counted_is p n values cells rest t e l h w =
    rw (take_at cells rest n l) record {
      sized = l ∙ e;
      encodes = record { encoded = w.encoded; places = λ k r c at. w.places k r c at ∙ h k ((numbering p t).below k r c at) };
    }

-- stripe buffers that hold the same at each cell are the same
same_cells : (p : ℕ) (xs ys : List Word) → 3 ≤ p → length xs ≡ cells_in p → length ys ≡ cells_in p → ((r c : ℕ) → r < p - 1 → c ≤ p → stripe_of no_word p xs r c ≡ stripe_of no_word p ys r c) → xs ≡ ys
same_cells p xs ys low lx ly h = ext_get_or no_word xs ys (omega arith) (λ k l.
    let rows = p - 1 in
    let low-row : k % rows < p - 1 = mod_below k rows (omega arith) in
    let in-table : k / rows < p + 1 = div_below k rows (p + 1) (omega arith) (omega (arith, mul_comm rows (p + 1))) in
    subst (λ (n : ℕ). get_or xs n no_word ≡ get_or ys n no_word) (div-add-mod' k rows) (h (k % rows) (k / rows) low-row (omega arith)))

-- the prime of a geometry is one of the ten
pub prime_listed : (g : Geometry) → listed (prime_of g) ≡ true
prime_listed g = valid g

-- a stripe has fewer than a thousand places
pub places_few : (g : Geometry) → places_in (prime_of g) ≤ 870
places_few g = mul-le (prime_of g - 1) (prime_of g - 2) 30 29 (omega (arith, (facts g).high)) (omega (arith, (facts g).high))

-- solving gives the counted stripe back
pub back : (p : ℕ) (lost : Columns) (zs xs ys : List Word) → CountedStripe p zs → Agree p (in_set lost) (stripe_of no_word p xs) (stripe_of no_word p zs) → Solved no_word word_join p (in_set lost) (stripe_of no_word p xs) (stripe_of no_word p ys) → length ys ≡ length zs → 3 ≤ p → ys ≡ zs
back p lost zs xs ys z agree s l low = same_cells p ys zs low (omega (arith, z.sized)) z.sized (s.whole (stripe_of no_word p zs) z.encodes.encoded agree)

-- where the buffers are long enough, only the choice may be refused
module _ (p cells room least : ℕ) (lost : Columns) (long : cells ≡ cells_in p) (enough : least ≤ room) where
  choice_only : (s : Stop) → SolveStop p cells room least lost s → ChoiceStop p (Some lost) s
  choice_only s f = grind (arith, no_column, too_many, f)

  solve_stop : listed p ≡ true → (s : Stop) → ChoiceStop p (Some lost) s → SolveStop p cells room least lost s
  solve_stop prime s f = grind (arith, solving.no_column, solving.too_many, f, prime)

  pub choice_none : listed p ≡ true → ((s : Stop) → SolveStop p cells room least lost s → ⊥) → (s : Stop) → ChoiceStop p (Some lost) s → ⊥
  choice_none prime none s f = none s (solve_stop prime s f)

  pub choice_first : listed p ≡ true → (s : Stop) → First (SolveStop p cells room least lost) s → First (ChoiceStop p (Some lost)) s
  choice_first prime s f = record { this = choice_only s f.this; lower = λ t l g. f.lower t l (solve_stop prime t g) }
