-- Worked examples, in the definitions that the contracts of the code use. The prime is 5 unless another is named.
use Rattle.std.specs.Prelude.{◌≡◌, ℕ, ◌<◌, ◌≤◌, true, List, [], ◌∷◌, map, slice_index, slice_index_or}
use Rattle.tip_code.specs.Encoding.{Encoded, Encodes}
use Rattle.tip_code.specs.Geometry.{SizeStop}
use Rattle.tip_code.specs.Places.{Place, PlaceStop}
use Rattle.tip_code.specs.Stops.{First}
use Rattle.tip_code.specs.Stripe.{cell, Concerned}
use Rattle.tip_columns.specs.Sets.{in_set, size}
use Rattle.tip_columns.specs.declared.Columns.{Columns}
use Rattle.tip_element.specs.Words.{word, no_word, word_join}
use Rattle.tip_solve.specs.Solving.{work_in, SolveStop}
use Rattle.tip_code.specs.declared.stop.Stop.{Stop}
use Rattle.tip_code.specs.declared.stop.Stop.TheVariants as stop
use Rattle.tip_element.specs.declared.word.Word.{Word}

-- The places hold these numbers, as words.
abbrev pub holding : List ℕ → ℕ → Word
holding xs n = slice_index_or (map word xs) n no_word

-- X is the encoding of these numbers at p.
abbrev pub EncodingOf : ℕ → List ℕ → (ℕ → ℕ → Word) → Type 0
EncodingOf p xs X = Encodes no_word word_join p (holding xs) X

-- The four rows of a stripe at 5 are these.
abbrev pub Rows : (ℕ → ℕ → Word) → List (List ℕ) → Type 0
Rows X rows = (r c : ℕ) → r < 4 → c ≤ 5 → X r c ≡ word (slice_index (slice_index_or rows r []) c)

abbrev pub one_to_twelve : List ℕ
one_to_twelve = 1 ∷ 2 ∷ 3 ∷ 4 ∷ 5 ∷ 6 ∷ 7 ∷ 8 ∷ 9 ∷ 10 ∷ 11 ∷ 12 ∷ []

-- The same with 0 at place 4.
abbrev pub place_four_cleared : List ℕ
place_four_cleared = 1 ∷ 2 ∷ 3 ∷ 4 ∷ 0 ∷ 6 ∷ 7 ∷ 8 ∷ 9 ∷ 10 ∷ 11 ∷ 12 ∷ []

pub record Worked : Type 0 where
  -- place 4 is (1, 1), place 11 is (3, 3), and place 12 is stop 11
  pub place_four : Place 5 4 1 1
  pub place_eleven : Place 5 11 3 3
  pub place_twelve : First (PlaceStop 5 12) stop.Place
  -- a write to (1, 4) concerns (1, 5), (0, 1) and (2, 2)
  pub concerned : Concerned 5 1 4 (cell 1 5) (cell 0 1) (cell 2 2)
  -- parity (0, 4) joins (0, 0), (1, 1) and (3, 3)
  pub parity : (X : ℕ → ℕ → Word) → Encoded no_word word_join 5 X → X 0 4 ≡ word_join (word_join (X 0 0) (X 1 1)) (X 3 3)
  -- places that hold 1 to 12
  pub counting : (X : ℕ → ℕ → Word) → EncodingOf 5 one_to_twelve X → Rows X ((1 ∷ 12 ∷ 2 ∷ 3 ∷ 8 ∷ 0 ∷ []) ∷ (4 ∷ 5 ∷ 1 ∷ 7 ∷ 6 ∷ 7 ∷ []) ∷ (7 ∷ 8 ∷ 2 ∷ 0 ∷ 9 ∷ 6 ∷ []) ∷ (10 ∷ 1 ∷ 11 ∷ 12 ∷ 1 ∷ 13 ∷ []) ∷ [])
  -- place 4 then set to 0 makes (1, 5) 2, (2, 3) 5 and (0, 4) 13
  pub cleared : (X : ℕ → ℕ → Word) → EncodingOf 5 place_four_cleared X → (X 1 5 ≡ word 2) × (X 2 3 ≡ word 5) × (X 0 4 ≡ word 13)
  -- and no other cell but its own changes
  pub kept : (X Y : ℕ → ℕ → Word) → EncodingOf 5 one_to_twelve X → EncodingOf 5 place_four_cleared Y → (r c : ℕ) → r < 4 → c ≤ 5 → ((r ≡ 1) × (c ≡ 1) → ⊥) → ((r ≡ 1) × (c ≡ 5) → ⊥) → ((r ≡ 2) × (c ≡ 3) → ⊥) → ((r ≡ 0) × (c ≡ 4) → ⊥) → Y r c ≡ X r c
  -- all places 0xff make all cells 0xff
  pub ones : (X : ℕ → ℕ → Word) → Encodes no_word word_join 5 (λ _. word 0xff) X → (r c : ℕ) → r < 4 → c ≤ 5 → X r c ≡ word 0xff
  -- at 3 the places 1, 2 make every column 1, 2
  pub smallest : (X : ℕ → ℕ → Word) → EncodingOf 3 (1 ∷ 2 ∷ []) X → (c : ℕ) → c ≤ 3 → (X 0 c ≡ word 1) × (X 1 c ≡ word 2)
  -- 9 is no prime of the code: stop 1
  pub nine : (n : ℕ) → First (SizeStop 9 n) stop.Prime
  -- 4096 stripes pass, and 4097 are stop 2
  pub most : (t : Stop) → SizeStop 5 4096 t → ⊥
  pub too_many : First (SizeStop 5 4097) stop.Stripes
  -- a work buffer of 143 elements is stop 9, and 144 pass with any three columns
  pub work_short : (lost : Columns) → First (SolveStop 5 24 143 (work_in 5) lost) stop.Work
  pub work_enough : (lost : Columns) → ((c : ℕ) → in_set lost c ≡ true → c ≤ 5) → size lost ≤ 3 → (t : Stop) → SolveStop 5 24 144 (work_in 5) lost t → ⊥
