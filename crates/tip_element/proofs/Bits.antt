-- The bits of a number, and how many of them are set.
use Rattle.std.proofs.Common.{◌≡◌, ℕ, zero, suc, ◌+◌, ◌/◌, ◌^◌, ◌<◌, ◌≤◌, Bool, true, false, cond, eqb, sym, refl, ap, ◌∙◌, ap₂, ⊎_elim, add-zero, add-suc, add-one, one-add, arith}
use lib.Bits.{bit_xor}
use lib.Count.{ones, ones_step}
use Rattle.std.specs.Int.{bit_at}
use Rattle.std.proofs.lemmas.Nat.{ones-le, shr_below}
use Rattle.std.proofs.lemmas.Nat.Bits.{bit_at_lowest, bit_at-suc, bit_at-zero, bit_at-lt, bit_at_xor, bit_at-pow_same, bit_at-pow_other, bit_at_above, same_from_bits_below}
use Rattle.std.proofs.lemmas.Bool.{cases_eq, eq-eqb, ne_eqb}
use Rattle.std.proofs.lemmas.Bool.Decides.{nat_tests}
use Rattle.tip_element.specs.Counts.{count_below}
use Rattle.tip_element.specs.Traces.{bit, one_of}

-- A digit, by its bit.
digit : (x n : ℕ) → bit_at x n ≡ cond (bit x n) 1 0
digit x n = grind (arith, nat_tests, bit_at-lt x n)

-- A bit of an exclusive or is set where just one of the two bits is.
pub bit_of_xor : (x y n : ℕ) → bit (bit_xor x y) n ≡ one_of (bit x n) (bit y n)
bit_of_xor x y n = grind (arith, nat_tests, bit_at_xor x y n, bit_at-lt x n, bit_at-lt y n)

-- A number of k bits has no bit set from k on.
pub bit_above : (k x n : ℕ) → x < 2 ^ k → k ≤ n → bit x n ≡ false
bit_above k x n h l = ap (λ z. eqb z 1) (bit_at_above x k n h l)

-- Zero has no bit set.
pub bit_zero : (n : ℕ) → bit 0 n ≡ false
bit_zero n = ap (λ z. eqb z 1) (bit_at-zero n)

-- Half of a number has its bits one place lower, for inductions over the bits.
bit_half : (x n : ℕ) → bit x (1 + n) ≡ bit (x / 2) n
bit_half x n = ap (bit x) (one-add n) ∙ ap (λ z. eqb z 1) (bit_at-suc x n)

-- The power 2 ^ k has bit k set, and no other.
pub bit_power : (k n : ℕ) → bit (2 ^ k) n ≡ eqb n k
bit_power k n =
    ⊎_elim (λ (e : n ≡ k). ap (bit (2 ^ k)) e ∙ ap (λ z. eqb z 1) (bit_at-pow_same k) ∙ sym (eq-eqb n k e))
    (λ (e : n ≡ k → ⊥). ap (λ z. eqb z 1) (bit_at-pow_other k n e) ∙ sym (ne_eqb n k e))
    (cases_eq n k)

-- The step of a count as a sum, so that `omega` can add.
count_more : (b : Bool) (n : ℕ) → cond b (suc n) n ≡ n + cond b 1 0
count_more true n = omega arith
count_more false n = omega arith

-- Tests that agree below n have the same count.
pub count_same : (n : ℕ) (f g : ℕ → Bool) → ((i : ℕ) → i < n → f i ≡ g i) → count_below n f ≡ count_below n g
count_same zero f g e = refl
count_same (suc n) f g e = rw (count_same n f g (λ i h. e i (omega arith)), e n (omega arith))

-- The numbers below m + n are those below m, and then n more.
pub count_split : (m n : ℕ) (f : ℕ → Bool) → count_below (m + n) f ≡ count_below m f + count_below n (λ i. f (m + i))
count_split m zero f = ap (λ k. count_below k f) (add-zero m) ∙ sym (add-zero (count_below m f))
count_split m (suc n) f =
    ap (λ k. count_below k f) (add-suc m n) ∙ count_more (f (m + n)) (count_below (m + n) f)
    ∙ omega (arith, count_split m n f, count_more (f (m + n)) (count_below n (λ i. f (m + i))))

-- Numbers from m on that fail the test add nothing to a count.
pub count_short : (m n : ℕ) (f : ℕ → Bool) → m ≤ n → ((i : ℕ) → m ≤ i → f i ≡ false) → count_below n f ≡ count_below m f
count_short m zero f h off = let e : zero ≡ m = omega arith in ap (λ k. count_below k f) e
count_short m (suc n) f h off =
    ⊎_elim (λ (e : suc n ≡ m). ap (λ k. count_below k f) e)
    (λ (e : suc n ≡ m → ⊥). rw (off n (omega arith)) (count_short m n f (omega arith) off))
    (cases_eq (suc n) m)

-- No more are counted than there are.
pub count_most : (n : ℕ) (f : ℕ → Bool) → count_below n f ≤ n
count_most zero f = omega arith
count_most (suc n) f = step (f n) (count_below n f) (count_most n f)
  where
    step : (b : Bool) (k : ℕ) → k ≤ n → cond b (suc k) k ≤ suc n
    step true k h = omega arith
    step false k h = omega arith

-- Numbers of k bits with the same bits are equal.
pub bits_same : (k x y : ℕ) → x < 2 ^ k → y < 2 ^ k → ((n : ℕ) → n < k → bit x n ≡ bit y n) → x ≡ y
bits_same k x y h l e =
    same_from_bits_below k x y h l (λ n b. digit x n ∙ ap (λ s. cond s 1 0) (e n b) ∙ sym (digit y n))

-- The set bits of a number of k bits, counted one by one.
pub ones_bits : (k x : ℕ) → x < 2 ^ k → ones x ≡ count_below k (bit x)
ones_bits zero x h = omega (arith, ones-le 0 x h)
ones_bits (suc k) x h =
    let rest = ones_bits k (x / 2) (shr_below x k 1 (rw add-one h)) ∙ count_same k (bit (x / 2)) (λ i. bit x (1 + i)) (λ i _. sym (bit_half x i)) in
    ones_step x ∙ ap₂ (λ a b. a + b) (sym (bit_at_lowest x) ∙ digit x 0) rest ∙ sym (count_split 1 k (bit x)) ∙ ap (λ j. count_below j (bit x)) (one-add k)
