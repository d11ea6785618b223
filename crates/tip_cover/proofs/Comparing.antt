-- The comparison of all chains: when a parity is right, and how many are.
use Rattle.std.proofs.Common.{◌≡◌, ℕ, zero, suc, ◌+◌, length, filter, cond, [], ◌∷◌, ◌++◌, nat_lt, ◌&&◌, Option, Some, None, MatchOption, zero-add, add-one, ◌<◌, ◌≤◌, Bool, true, false, List, sym, refl, ap, ◌∙◌, ⊎_elim, arith}
use Rattle.std.proofs.lemmas.Bool.{cases_lt, lt-ltb}
use Rattle.std.proofs.lemmas.Bool.Decides.{nat_tests}
use Rattle.std.proofs.lemmas.List.{map-id, length-append}
use Rattle.std.proofs.lemmas.List.FromFn.{filter_of_map_range_with_len_more}
use Rattle.std.specs.List.{range_with_len}
use Rattle.tip_code.specs.Geometry.{places_in}
use Rattle.tip_code.specs.Primes.{listed}
use Rattle.tip_code.specs.Stripe.{chains_in, Numbered}
use Rattle.tip_code.specs.declared.chain.Direction.{Direction}
use Rattle.tip_code.proofs.Numbers.{numbering}
use Rattle.tip_element.specs.Counts.{count_below}
use Rattle.tip_element.specs.Laws.{Exactly}
use Rattle.tip_element.specs.Traces.{has, members, Alike}
use Rattle.tip_element.specs.declared.trace.Trace.{Trace}
use Rattle.tip_cover.specs.Cover.{Cover, Found, Right, Compared}
use Rattle.tip_cover.specs.declared.Finding.{Finding}
use Rattle.tip_cover.proofs.Tracing.{traced, counted}

-- a parity covers one set of places
cover_same : (p : ℕ) → listed p ≡ true → (d : Direction) (i : ℕ) (t u : Trace) (m n : ℕ) → Cover p d i t m → Cover p d i u n → Alike t u
cover_same p l d i t u m n a b k =
    ⊎_elim (λ low. let (r, c, at) = (numbering p l).found k low in a.each k r c at ∙ sym (b.each k r c at))
    (λ high. a.others k high ∙ sym (b.others k high)) (cases_lt k (places_in p))

-- a number is that of one chain
numbered_same : (p : ℕ) (d e : Direction) (i j n : ℕ) → Numbered p d i n → Numbered p e j n → (d ≡ e) × (i ≡ j)
numbered_same p d e i j n a b = grind (arith, a, b)

-- a chain that has a number is one of all
chain_there : (p n : ℕ) (d : Direction) (i : ℕ) → Numbered p d i n → n < chains_in p
chain_there p n d i at = grind (arith, at)

module _ (p : ℕ) (l : listed p ≡ true) (few : p ≤ 11) (cells : List Trace) where
  -- the test of a finding is the test of its chain
  pub found_right : (n : ℕ) (f : Finding) (b : Bool) → Found p cells n f → Exactly b (Alike f.found f.expected × (members f.found ≡ f.places)) → Exactly b (Right p cells n)
  found_right n f b found exactly = record {
    sound = λ e d i at.
        let same = numbered_same p d f.chain.direction i f.chain.line n at found.chain in
        rw (same.0, same.1) (λ t m cover k.
        sym (ap (λ s. has s k) found.found) ∙ (exactly.sound e).0 k
        ∙ cover_same p l f.chain.direction f.chain.line f.expected t f.places m found.cover cover k);
    whole = λ right.
        let alike : Alike f.found f.expected = λ k. ap (λ s. has s k) found.found ∙ right f.chain.direction f.chain.line found.chain f.expected f.places found.cover k in
        exactly.whole (alike, counted p few f.chain.direction f.chain.line f.found f.expected f.places alike found.cover);
  }

-- all of the numbers below n
count_all : (n : ℕ) → count_below n (λ _. true) ≡ n
count_all zero = refl
count_all (suc n) = ap suc (count_all n)

-- the stripe has the chain that was looked for, and its parity is right
pub looked_right : (p : ℕ) → listed p ≡ true → p ≤ 11 → (cells : List Trace) (n : ℕ) (o : Option Finding) (b : Bool) → MatchOption o (chains_in p ≤ n) (λ f. Found p cells n f) → MatchOption o (b ≡ false) (λ f. Exactly b (Alike f.found f.expected × (members f.found ≡ f.places))) → Exactly b ((n < chains_in p) × Right p cells n)
looked_right p l few cells n None b none off = record { sound = λ e. cc; whole = λ all. absurd (omega (arith, all.0, none)) }
looked_right p l few cells n (Some f) b found exactly =
    let right = found_right p l few cells n f b found exactly in
    record { sound = λ e. (chain_there p n f.chain.direction f.chain.line found.chain, right.sound e); whole = λ all. right.whole all.1 }

-- the test of a number below n that has P, from that of P alone
bounded_test : (k n : ℕ) (a b : Bool) (P : Type 0) → Exactly a ((k < n) × P) → (k < n → Exactly b P) → a ≡ (nat_lt k n && b)
bounded_test k n a b P whole part = grind (arith, nat_tests, whole.sound, whole.whole, part)

-- how many numbers below n are in the list of those that pass g, a test that agrees with f there
counted_listed : (n : ℕ) (f g : ℕ → Bool) → ((k : ℕ) → k < n → g k ≡ f k) → length (filter g (range_with_len 0 n)) ≡ count_below n f
counted_listed zero f g e = refl
counted_listed (suc n) f g e =
    let more : filter g (range_with_len 0 (n + 1)) ≡ filter g (range_with_len 0 n) ++ cond (g n) (n ∷ []) [] = simp map-id at (filter_of_map_range_with_len_more g (λ (k : ℕ). k) 0 n n (zero-add n)) in
    ap (λ j. length (filter g (range_with_len 0 j))) (sym (add-one n))
    ∙ grind (arith, counted_listed n f g (λ k h. e k (omega arith)), e n (omega arith), more, length-append)

-- the chains that are right, counted in a list, are a comparison
pub compared_all : (p : ℕ) → listed p ≡ true → (cells : List Trace) (n : ℕ) → ((test : ℕ → Bool) → ((k : ℕ) (b : Bool) → Exactly b ((k < chains_in p) × Right p cells k) → b ≡ test k) → n ≡ length (filter test (range_with_len 0 (chains_in p)))) → Compared p cells (chains_in p) n
compared_all p l cells n listed-right = record {
  all = refl;
  right = right;
  encoded = λ g own is.
      right (λ _. true) (λ k h. record { sound = λ _ d i at. traced p l d i at.line g own _ is; whole = λ _. refl })
      ∙ count_all (chains_in p);
}
  where
    right : (f : ℕ → Bool) → ((k : ℕ) → k < chains_in p → Exactly (f k) (Right p cells k)) → n ≡ count_below (chains_in p) f
    right f e =
        listed-right (λ k. nat_lt k (chains_in p) && f k) (λ k b s. bounded_test k _ b (f k) _ s (e k))
        ∙ counted_listed (chains_in p) f (λ k. nat_lt k (chains_in p) && f k) (λ k h. ap (λ b. b && f k) (lt-ltb k (chains_in p) h))
