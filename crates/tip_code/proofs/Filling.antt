-- Filling a stripe buffer cell by cell: the places, then the parities of each direction.
use Rattle.std.proofs.Common.{◌≡◌, ℕ, ◌+◌, ◌-◌, ◌*◌, ◌<◌, ◌≤◌, true, List, ◌++◌, length, get_or, set, sym, ap, ◌∙◌, ⊎_elim, arith, get_or-set_other, get_or-set_same}
use Rattle.std.proofs.Math.ListN.{get_or-append}
use Rattle.std.proofs.lemmas.Bool.{cases_eq}
use Rattle.std.proofs.lemmas.List.{get_or-append-add}
use Rattle.tip_code.specs.Encoding.{line_join, Encodes}
use Rattle.tip_code.specs.Geometry.{cells_in}
use Rattle.tip_code.specs.Places.{Place}
use Rattle.tip_code.specs.Primes.{listed, PrimeFacts}
use Rattle.tip_code.specs.Joining.{Filled}
use Rattle.tip_code.specs.Stripe.{cell_index, stripe_of, data_cell, parity_column}
use Rattle.tip_code.specs.declared.chain.Direction.{Direction}
use Rattle.tip_code.specs.declared.chain.Direction.TheVariants.{Row, Diagonal, Antidiagonal}
use Rattle.tip_code.proofs.Cells.{data_facts, index_apart, index_within, index_before}
use Rattle.tip_code.proofs.Data.{line_same}
use Rattle.tip_code.proofs.Tables.{prime_facts}

-- a parity stands in a column of the stripe
pub parity_column_le : (p : ℕ) (d : Direction) (i : ℕ) → i < p - 1 → parity_column p d i ≤ p
parity_column_le p d i h = grind (arith, h)

-- and holds no data
pub parity_no_data : (p : ℕ) (d : Direction) (r c : ℕ) → data_cell p r c ≡ true → c ≡ parity_column p d r → ⊥
parity_no_data p d r c t e = grind (arith, data_facts p r c t, e)

module _ {E : Type 0} (none : E) (p : ℕ) (xs : List E) (v : E) where
  -- one cell is set
  pub set_here : (r c : ℕ) → length xs ≡ cells_in p → r < p - 1 → c ≤ p
      → stripe_of none p (set xs (cell_index p r c) v) r c ≡ v
  set_here r c len h l = get_or-set_same xs (cell_index p r c) v none (omega (arith, index_within p r c h l))

  -- and no other
  pub set_other : (r c s d : ℕ) → r < p - 1 → s < p - 1 → (r ≡ s → c ≡ d → ⊥)
      → stripe_of none p (set xs (cell_index p s d) v) r c ≡ stripe_of none p xs r c
  set_other r c s d h k apart =
      get_or-set_other xs (cell_index p s d) (cell_index p r c) v none
      (λ e. let both = index_apart p r c s d h k e in apart both.0 both.1)

-- Y is X with the joins that X has in column p copied into the parity cells of direction d, in the lines below n.
pub record Copied {E : Type 0} (p : ℕ) (d : Direction) (n : ℕ) (X Y : ℕ → ℕ → E) : Type 0 where
  pub set : (i : ℕ) → i < n → Y i (parity_column p d i) ≡ X i p
  pub kept : (r c : ℕ) → r < p - 1 → c ≤ p → (r < n → c ≡ parity_column p d r → ⊥) → Y r c ≡ X r c

-- a stripe buffer in two parts, of which the second is column p
module _ {E : Type 0} (none : E) (p : ℕ) (xs ys : List E) (len : length xs ≡ p * (p - 1)) where
  pub in_first : (r c : ℕ) → r < p - 1 → c < p → stripe_of none p (xs ++ ys) r c ≡ stripe_of none p xs r c
  in_first r c h l = get_or-append xs ys none (cell_index p r c) (omega (arith, index_before p r c h l))

  pub in_last : (i : ℕ) → stripe_of none p (xs ++ ys) i p ≡ get_or ys i none
  in_last i = ap (λ n. get_or (xs ++ ys) (n + i) none) (sym len) ∙ get_or-append-add xs ys i none

module _ {E : Type 0} (none : E) (join : E → E → E) (p : ℕ) (d : Direction) where
  -- one parity more
  pub copied_more : (i : ℕ) (X : ℕ → ℕ → E) (xs : List E) (v : E) → length xs ≡ cells_in p → i < p - 1
      → v ≡ stripe_of none p xs i p → Copied p d i X (stripe_of none p xs)
      → Copied p d (i + 1) X (stripe_of none p (set xs (cell_index p i (parity_column p d i)) v))
  copied_more i X xs v len h is before =
      let column = parity_column p d i in
      let low = parity_column_le p d i h in
      record {
        set = λ j l. ⊎_elim
            (λ (e : j ≡ i). ap (λ k. stripe_of none p (set xs (cell_index p i column) v) k (parity_column p d k)) e
            ∙ set_here none p xs v i column len h low ∙ is
            ∙ before.kept i p h (omega arith) (λ m _. omega (arith, m)) ∙ ap (λ k. X k p) (sym e))
            (λ (e : j ≡ i → ⊥).
            set_other none p xs v j (parity_column p d j) i column (omega arith) h (λ same _. e same)
            ∙ before.set j (omega arith))
            (cases_eq j i);
        kept = λ r c k l out.
            set_other none p xs v r c i column k h (λ same e. out (omega arith) (e ∙ ap (parity_column p d) (sym same)))
            ∙ before.kept r c k l (λ m e. out (omega arith) e);
      }

  -- the joins of the lines put into column p, and copied from there
  pub filled_by : (xs ys zs : List E) (Y : ℕ → ℕ → E) → length xs ≡ p * (p - 1)
      → ((i : ℕ) → i < p - 1 → get_or ys i none ≡ line_join none join p (stripe_of none p xs) d i)
      → Copied p d (p - 1) (stripe_of none p (xs ++ ys)) Y → Filled none join p d (stripe_of none p (xs ++ zs)) Y
  filled_by xs ys zs Y len joins copied = record {
    set = λ i h. copied.set i h ∙ in_last none p xs ys len i ∙ joins i h
        ∙ line_same none join p (stripe_of none p xs) (stripe_of none p (xs ++ zs)) d i
        (λ r c x. let f = data_facts p r c x in sym (in_first none p xs zs len r c f.row f.column));
    kept = λ r c h l out. copied.kept r c h (omega arith) (λ _. out)
        ∙ in_first none p xs ys len r c h l ∙ sym (in_first none p xs zs len r c h l);
  }

module _ {E : Type 0} (none : E) (join : E → E → E) (p : ℕ) (t : listed p ≡ true) where
  -- the places, then the diagonals, the antidiagonals and the rows: the stripe is encoded
  pub all_filled : (f : ℕ → E) (W X Y Z : ℕ → ℕ → E) → ((n r c : ℕ) → Place p n r c → W r c ≡ f n)
      → Filled none join p Diagonal W X → Filled none join p Antidiagonal X Y → Filled none join p Row Y Z
      → Encodes none join p f Z
  all_filled f W X Y Z placed diagonals antidiagonals rows =
      record {
        encoded = record {
          row = λ i h. rows.set i h ∙ line_same none join p Y Z Row i (λ r c x. sym (stays Y Z Row rows r c x));
          diagonal = λ i h. rows.kept i (i + 1) h (omega arith) (omega arith)
              ∙ antidiagonals.kept i (i + 1) h (omega arith) (omega (arith, facts.odd))
              ∙ diagonals.set i h ∙ line_same none join p W Z Diagonal i (λ r c x. sym (whole r c x));
          antidiagonal = λ i h. rows.kept i (p - 1 - i) h (omega (arith, facts.low)) (omega (arith, facts.low))
              ∙ antidiagonals.set i h
              ∙ line_same none join p X Z Antidiagonal i
              (λ r c x. sym (stays Y Z Row rows r c x ∙ stays X Y Antidiagonal antidiagonals r c x));
        };
        places = λ n r c at. whole r c at.holds ∙ placed n r c at;
      }
    where
      facts : PrimeFacts p
      facts = prime_facts p t

      -- what a filling leaves
      stays : (A B : ℕ → ℕ → E) (d : Direction) → Filled none join p d A B
          → (r c : ℕ) → data_cell p r c ≡ true → B r c ≡ A r c
      stays A B d fill r c x =
          let f = data_facts p r c x in
          fill.kept r c f.row f.column (parity_no_data p d r c x)

      whole : (r c : ℕ) → data_cell p r c ≡ true → Z r c ≡ W r c
      whole r c x =
          stays Y Z Row rows r c x ∙ stays X Y Antidiagonal antidiagonals r c x ∙ stays W X Diagonal diagonals r c x
