-- The columns of a stripe whose strips pass a test, one after another, and how many strips are out.
use Rattle.std.proofs.Common.{◌≡◌, ℕ, ◌+◌, ◌≤◌, Bool, true, false, ◌||◌, ◌&&◌, ◌==◌, nat_le, sym, ◌∙◌, arith}
use Rattle.std.proofs.lemmas.Bool.Decides.{nat_tests}
use Rattle.tip_element.proofs.Bits.{count_same, count_short, count_most}
use Rattle.tip_columns.specs.Sets.{in_set, size}
use Rattle.tip_columns.specs.declared.Columns.{Columns}
use Rattle.tip_shelf.specs.Meaning.{Strip, Meaning}
use Rattle.tip_shelf.specs.Calls.{Same, is_out}
use Rattle.tip_shelf.proofs.Strips.{same_refl, same-then}
use Rattle.tip_gather.specs.Gathering.{Picked, outs}

module _ {E : Type 0} {test : Strip E → Bool} where
  pub picked_none : (v : Meaning E) (i : ℕ) (s : Columns) → ((c : ℕ) → in_set s c ≡ false) → Picked test v v i 0 s
  picked_none v i s empty = record { same = same_refl v; columns = λ c. empty c ∙ grind (arith, nat_tests) }

  module _ {v u w : Meaning E} {i n : ℕ} {s : Columns} (old : Picked test v u i n s) (same : Same u w) where
    -- a column that passes
    pub picked_more : {t r : Columns} {b : Bool} → b ≡ test (u.strip i n) → b ≡ true → t ≡ r → ((c : ℕ) → in_set r c ≡ (c == n || in_set s c)) → Picked test v w i (n + 1) t
    picked_more {t} {r} {b} told o is with_it = rw is record {
      same = same-then old.same same;
      columns = λ c. let told' : test (u.strip i n) ≡ true = sym told ∙ o in grind (arith, nat_tests, with_it c, old.columns c, told', old.same.strip i n);
    }

    -- a column that does not
    pub picked_skip : {t : Columns} {b : Bool} → b ≡ test (u.strip i n) → b ≡ false → t ≡ s → Picked test v w i (n + 1) t
    picked_skip {t} {b} told o is = rw is record {
      same = same-then old.same same;
      columns = λ c. let told' : test (u.strip i n) ≡ false = sym told ∙ o in grind (arith, nat_tests, old.columns c, told', old.same.strip i n);
    }

module _ {E : Type 0} (v : Meaning E) (i : ℕ) (s : Columns) (low : v.prime ≤ 31) where
  -- a set of the columns that are out has as many columns as strips are out
  pub outs_counted : ((c : ℕ) → in_set s c ≡ (nat_le c v.prime && is_out (v.strip i c))) → size s ≡ outs v i
  unfolding size
  outs_counted columns =
      count_short (v.prime + 1) 64 (in_set s) (omega arith) (λ c l. columns c ∙ grind (arith, nat_tests, l))
      ∙ count_same (v.prime + 1) (in_set s) (λ c. is_out (v.strip i c)) (λ c l. columns c ∙ grind (arith, nat_tests, l))

  pub picked_outs : {w : Meaning E} → Picked is_out v w i (v.prime + 1) s → size s ≡ outs v i
  picked_outs h = outs_counted (λ c. h.columns c ∙ grind (arith, nat_tests))

pub outs_most : {E : Type 0} (v : Meaning E) (i : ℕ) → v.prime ≤ 31 → outs v i ≤ 32
outs_most v i low = omega (arith, count_most (v.prime + 1) (λ c. is_out (v.strip i c)), low)
