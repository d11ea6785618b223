-- Tests over ranges and over the table of primes: antt computes the test, these lemmas turn it into a fact at each entry.
use Rattle.std.proofs.Common.{◌≡◌, ℕ, zero, suc, pred, ◌*◌, ◌%◌, ◌<◌, Bool, true, false, not, ◌&&◌, ◌||◌, eqb, leb, List, [], ◌∷◌, length, get_or, slice_index, refl, ⊎_elim, not-suc-le-zero, arith}
use Rattle.std.specs.Bool.{Decides}
use Rattle.std.specs.List.{Contains, list_all}
use Rattle.std.proofs.lemmas.Bool.{or_cases, or_from, ne_eqb, not-true, both_ways, eqb-true, leb-true}
use Rattle.std.proofs.lemmas.Bool.Decides.{Decides-eqb, Decides-by_or, Decides-below_and, Decides-below_or}
use Rattle.std.proofs.lemmas.List.Elements.{All-contains, Decides-contains}
use Rattle.std.proofs.lemmas.List.Sums.{AllPass-from_list_all}
use Rattle.tip_code.specs.Primes.{primes, among, listed, PrimeFacts}

-- the test passes at each number below n
abbrev pub all_below : ℕ → (ℕ → Bool) → Bool
all_below zero f = true
all_below (suc n) f = f n && all_below n f

-- at some number below n
abbrev pub any_below : ℕ → (ℕ → Bool) → Bool
any_below zero f = false
any_below (suc n) f = f n || any_below n f

-- a test decides that it passes
passes : (b : Bool) → Decides b (b ≡ true)
passes b = (λ e. e, λ e. e)

pub all_at : (n : ℕ) (f : ℕ → Bool) → all_below n f ≡ true → (i : ℕ) → i < n → f i ≡ true
all_at n f = (Decides-below_and f _ (λ m. all_below m f) (λ k. passes (f k)) refl (λ m. refl) n).0

pub any_at : (n : ℕ) (f : ℕ → Bool) → any_below n f ≡ true → (k : ℕ) × (k < n) × (f k ≡ true)
any_at n f = (Decides-below_or f _ (λ m. any_below m f) (λ k. passes (f k)) refl (λ m. refl) n).0

-- where one test passes, another does
pub implied : (a b : Bool) → (not a || b) ≡ true → a ≡ true → b ≡ true
implied a b t e = ⊎_elim (λ n. absurd (both_ways a (not-true a n) e)) (λ q. q) (or_cases (not a) b t)

-- a listed number stands in the table
stands : (p : ℕ) → listed p ≡ true → Contains primes p
stands p h =
    let by = Decides-by_or (λ q. eqb q p) (λ q. q ≡ p) (among p) (λ q. Decides-eqb q p) refl (λ q qs. refl) primes in
    (Decides-contains primes p (listed p) by).0 h

-- a test that passes over the whole table passes at each prime
pub prime_at : (f : ℕ → Bool) → list_all f primes ≡ true → (p : ℕ) → listed p ≡ true → f p ≡ true
prime_at f t p h = All-contains (λ q. f q ≡ true) primes p (AllPass-from_list_all f primes t) (stands p h)

-- a number that no entry of the table is, is not listed
pub among_none : (p : ℕ) (xs : List ℕ) → ((k : ℕ) → k < length xs → get_or xs k 0 ≡ p → ⊥) → among p xs ≡ false
among_none p [] h = refl
among_none p (x ∷ xs) h =
    or_from (eqb x p) (among p xs) (ne_eqb x p (h 0 (omega arith))) (among_none p xs (λ k l. h (suc k) (omega arith)))

-- an entry of the table is listed
pub listed_at : (k : ℕ) → k < 10 → listed (slice_index primes k) ≡ true
listed_at = all_at 10 (λ k. listed (slice_index primes k)) refl

-- each step u from 1 to p - 1, each residue i: some multiple of u is i
abbrev reaches : ℕ → Bool
reaches p = all_below (pred p) (λ u. all_below p (λ i. any_below p (λ k. eqb (k * suc u % p) i)))

reach_table : list_all reaches primes ≡ true
reach_table = refl

reach : (p : ℕ) → listed p ≡ true → (u i : ℕ) → 0 < u → u < p → i < p → (k : ℕ) × (k < p) × (k * u % p ≡ i)
reach p t zero i h l b = absurd (not-suc-le-zero h)
reach p t (suc u) i h l b =
    let inner = all_at (pred p) _ (prime_at reaches reach_table p t) u (omega arith) in
    let r = any_at p (λ k. eqb (k * suc u % p) i) (all_at p _ inner i b) in
    (r.0, r.1, eqb-true _ _ r.2)

pub prime_facts : (p : ℕ) → listed p ≡ true → PrimeFacts p
prime_facts p t = record {
  low = leb-true 3 p (prime_at (λ q. leb 3 q) refl p t);
  high = leb-true p 31 (prime_at (λ q. leb q 31) refl p t);
  odd = eqb-true (p % 2) 1 (prime_at (λ q. eqb (q % 2) 1) refl p t);
  reach = reach p t;
}
