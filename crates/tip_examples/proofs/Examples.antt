-- The examples, computed: every encoding is the one that `encoding` computes.
use Rattle.std.proofs.Common.{◌≡◌, ℕ, ◌+◌, ◌-◌, ◌<◌, ◌≤◌, Bool, true, ◌&&◌, ◌||◌, eqb, List, [], ◌∷◌, get_or, Ok, sym, refl, ap, ◌∙◌, arith, lit<, lit≤}
use Rattle.std.proofs.lemmas.Bool.{eqb-true}
use Rattle.std.proofs.lemmas.Bool.Decides.{nat_tests}
use Rattle.tip_code.specs.Encoding.{Encoded, Encodes, encoding}
use Rattle.tip_code.specs.Places.{place_number}
use Rattle.tip_code.specs.Primes.{listed}
use Rattle.tip_code.specs.Stripe.{data_cell}
use Rattle.tip_element.specs.Words.{word, no_word, word_join, word_laws}
use Rattle.tip_element.specs.declared.word.Word.{Word}
use Rattle.tip_element.proofs.Joins.{right}
use Rattle.tip_code.proofs.Encodings.{one_encoding}
use Rattle.tip_code.proofs.Numbers.{place_first}
use Rattle.tip_code.proofs.Sizes.{size_prime, size_stripes, size_none}
use Rattle.tip_code.proofs.Tables.{all_below, all_at}
use Rattle.tip_code.specs.declared.stop.Stop.TheVariants as stop
use Rattle.tip_solve.specs.Solving.{too_short}
use Rattle.tip_solve.proofs.Stopping.{first_stop, stopped_few}
use Rattle.tip_examples.specs.Worked.{holding, EncodingOf, Rows, one_to_twelve, place_four_cleared, Worked}

-- what the cells of an encoding of f at p are, where the test of their numbers passes
module _ (p : ℕ) (t : listed p ≡ true) (f : ℕ → Word) where
  abbrev computed : (ℕ → ℕ → ℕ) → Bool
  computed expected =
      all_below (p - 1) (λ r. all_below (p + 1) (λ c. eqb (encoding no_word word_join p f r c).0 (expected r c)))

  pub cells_are : (expected : ℕ → ℕ → ℕ) → computed expected ≡ true → (X : ℕ → ℕ → Word) → Encodes no_word word_join p f X → (r c : ℕ) → r < p - 1 → c ≤ p → X r c ≡ word (expected r c)
  cells_are expected test X x r c h l =
      let one = one_encoding no_word word_join p t in
      one.only f X (encoding no_word word_join p f) x (one.exists f) r c h l
      ∙ ap word (eqb-true _ _ (all_at (p + 1) _ (all_at (p - 1) _ test r h) c (omega arith)))

abbrev first_rows : List (List ℕ)
first_rows = (1 ∷ 12 ∷ 2 ∷ 3 ∷ 8 ∷ 0 ∷ []) ∷ (4 ∷ 5 ∷ 1 ∷ 7 ∷ 6 ∷ 7 ∷ []) ∷ (7 ∷ 8 ∷ 2 ∷ 0 ∷ 9 ∷ 6 ∷ []) ∷ (10 ∷ 1 ∷ 11 ∷ 12 ∷ 1 ∷ 13 ∷ []) ∷ []

abbrev cleared_rows : List (List ℕ)
cleared_rows = (1 ∷ 12 ∷ 2 ∷ 3 ∷ 13 ∷ 0 ∷ []) ∷ (4 ∷ 0 ∷ 1 ∷ 7 ∷ 6 ∷ 2 ∷ []) ∷ (7 ∷ 8 ∷ 2 ∷ 5 ∷ 9 ∷ 6 ∷ []) ∷ (10 ∷ 1 ∷ 11 ∷ 12 ∷ 1 ∷ 13 ∷ []) ∷ []

abbrev at : List (List ℕ) → ℕ → ℕ → ℕ
at rows r c = get_or (get_or rows r []) c 0

counting_is : (X : ℕ → ℕ → Word) → EncodingOf 5 one_to_twelve X → Rows X first_rows
unfolding encoding data_cell place_number
counting_is X x = cells_are 5 refl (holding one_to_twelve) (at first_rows) refl X x

cleared_is : (X : ℕ → ℕ → Word) → EncodingOf 5 place_four_cleared X → Rows X cleared_rows
unfolding encoding data_cell place_number
cleared_is X x = cells_are 5 refl (holding place_four_cleared) (at cleared_rows) refl X x

-- cell (r, c) is one that a write to place 4 changes, or it is the same in both tables
abbrev written_or_same : ℕ → ℕ → Bool
written_or_same r c =
    (eqb r 1 && eqb c 1) || ((eqb r 1 && eqb c 5) || ((eqb r 2 && eqb c 3) || ((eqb r 0 && eqb c 4) || eqb (at cleared_rows r c) (at first_rows r c))))

rest_same : all_below 4 (λ r. all_below 6 (written_or_same r)) ≡ true
rest_same = refl

kept_is : (X Y : ℕ → ℕ → Word) → EncodingOf 5 one_to_twelve X → EncodingOf 5 place_four_cleared Y → (r c : ℕ) → r < 4 → c ≤ 5 → ((r ≡ 1) × (c ≡ 1) → ⊥) → ((r ≡ 1) × (c ≡ 5) → ⊥) → ((r ≡ 2) × (c ≡ 3) → ⊥) → ((r ≡ 0) × (c ≡ 4) → ⊥) → Y r c ≡ X r c
kept_is X Y x y r c h l own row diagonal antidiagonal =
    let test = all_at 6 (written_or_same r) (all_at 4 (λ j. all_below 6 (written_or_same j)) rest_same r h) c (omega arith) in
    let same : at cleared_rows r c ≡ at first_rows r c = grind (arith, nat_tests, test) in
    cleared_is Y y r c h l ∙ ap word same ∙ sym (counting_is X x r c h l)

ones_are : (X : ℕ → ℕ → Word) → Encodes no_word word_join 5 (λ _. word 0xff) X → (r c : ℕ) → r < 4 → c ≤ 5 → X r c ≡ word 0xff
unfolding encoding data_cell place_number
ones_are X x = cells_are 5 refl (λ _. word 0xff) (λ _ _. 0xff) refl X x

smallest_is : (X : ℕ → ℕ → Word) → EncodingOf 3 (1 ∷ 2 ∷ []) X → (c : ℕ) → c ≤ 3 → (X 0 c ≡ word 1) × (X 1 c ≡ word 2)
unfolding encoding data_cell place_number
smallest_is X x c l =
    let is = cells_are 3 refl (holding (1 ∷ 2 ∷ [])) (λ r _. r + 1) refl X x in
    (is 0 c (lit< tt) l, is 1 c (lit< tt) l)

parity_is : (X : ℕ → ℕ → Word) → Encoded no_word word_join 5 X → X 0 4 ≡ word_join (word_join (X 0 0) (X 1 1)) (X 3 3)
unfolding data_cell
parity_is X x =
    let none_right : (y : Word) → word_join y no_word ≡ y = right word_laws in
    x.antidiagonal 0 (lit< tt) ∙ none_right _ ∙ ap (λ y. word_join y (X 3 3)) (none_right (word_join (X 0 0) (X 1 1)))

pub worked : Worked
unfolding data_cell place_number
worked = record {
  place_four = record { holds = refl; numbered = refl };
  place_eleven = record { holds = refl; numbered = refl };
  place_twelve = place_first 5 12 refl;
  concerned = record { holds = refl; by_row = refl; by_diagonal = refl; by_antidiagonal = refl };
  parity = parity_is;
  counting = counting_is;
  cleared = λ X x. let is = cleared_is X x in (is 1 5 (lit< tt) (lit≤ tt), is 2 3 (lit< tt) (lit≤ tt), is 0 4 (lit< tt) (lit≤ tt));
  kept = kept_is;
  ones = ones_are;
  smallest = smallest_is;
  nine = λ n. size_prime 9 n refl;
  most = size_none 5 4096 refl refl;
  too_many = size_stripes 5 4097 refl refl;
  work_short = λ lost. first_stop 5 24 143 144 lost stop.Work (too_short (lit< tt)) (λ _. refl) (λ l. omega arith) (λ l. absurd (omega arith)) (λ l. omega arith);
  work_enough = λ lost within few. stopped_few 5 24 144 144 lost (Unit {0}) (Unit {0}) (Ok tt) (record { sized = refl; enough = lit≤ tt; columns = within }) (few, tt);
}
