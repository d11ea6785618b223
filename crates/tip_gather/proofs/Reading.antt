-- Strips read row by row and column by column.
use Rattle.std.proofs.Common.{◌≡◌, ℕ, ◌+◌, ◌-◌, ◌*◌, ◌<◌, ◌≤◌, Bool, true, List, length, Some, Ok, Err, slice_get, slice_set, refl, sym, subst, ◌∙◌, ⊎_elim, arith}
use Rattle.std.proofs.lemmas.Bool.{cases_eq, cases_lt}
use Rattle.std.proofs.lemmas.Bool.Decides.{nat_tests}
use Rattle.std.proofs.lemmas.Option.{get_or_from_slice_get}
use Rattle.tip_code.specs.Geometry.{cells_in}
use Rattle.tip_code.specs.Stripe.{cell_index, stripe_of}
use Rattle.tip_code.proofs.Filling.{set_here, set_other}
use Rattle.tip_shelf.specs.Meaning.{held, Meaning, Within, Sound}
use Rattle.tip_shelf.specs.Calls.{Same, is_out, InRange, Got}
use Rattle.tip_shelf.specs.declared.shelf.Out.{Out}
use Rattle.tip_shelf.proofs.Strips.{same_refl}
use Rattle.tip_columns.specs.declared.Columns.{Columns}
use Rattle.tip_shelf.proofs.Faring.{fared_same, fared-then, fares_held, out_not_held, got_fared, got_element, got_none}
use Rattle.tip_gather.specs.Gathering.{StripRead, StripsRead, Picked, Gathered}

module _ {E : Type 0} (none : E) where
  pub rows_none : (v : Meaning E) (i c : ℕ) (xs : List E) → StripRead none v v i c 0 xs xs
  rows_none v i c xs = record {
    fared = fared_same (same_refl v);
    rows = λ es h r l. absurd (omega arith);
    others = λ r d l ne. refl;
  }

  -- where the shelf of u is reached from that of v, which has the strip
  module _ {v u : Meaning E} {i c n : ℕ} {xs ys : List E} (there : Within v i c) (row : n < v.prime - 1) (old : StripRead none v u i c n xs ys) where
    range : InRange u i c n
    range = record {
      within = record { stripe = omega (arith, there.stripe, old.fared.kept.stripes); column = omega (arith, there.column, old.fared.kept.prime) };
      row = omega (arith, row, old.fared.kept.prime);
    }

    pub rows_more : {w : Meaning E} {zs : List E} {e : E} {rows : ℕ} → rows ≡ v.prime - 1 → length ys ≡ cells_in v.prime → Got u w i c n (Ok e) → zs ≡ slice_set ys (c * rows + n) e → StripRead none v w i c (n + 1) xs zs
    rows_more {w} {zs} {e} {rows} same sized h put = rw (put, same) record {
      fared = fared-then old.fared (got_fared range h);
      rows = λ es is r l.
          ⊎_elim
          (λ (same : r ≡ n).
          let item : slice_get es n ≡ Some e = got_element _ _ _ n e (h.act.here range) h.reads es is in
          let copied : stripe_of none v.prime (slice_set ys (cell_index v.prime n c) e) n c ≡ e = set_here none v.prime ys e n c sized row there.column in
          rw same (copied ∙ sym (get_or_from_slice_get es n e none item)))
          (λ (apart : r ≡ n → ⊥).
          set_other none v.prime ys e r c n c (omega arith) row (λ same _. apart same)
          ∙ old.rows es (fares_held ((got_fared range h).strips i c) is) r (omega arith))
          (cases_eq r n);
      others = λ r d l ne. set_other none v.prime ys e r d n c l row (λ _ same. ne same) ∙ old.others r d l ne;
    }

    -- the strip is out at this row
    pub rows_out : {w : Meaning E} {o : Out} → Got u w i c n (Err o) → StripRead none v w i c (v.prime - 1) xs ys
    rows_out {w} {o} h = record {
      fared = fared-then old.fared (got_fared range h);
      rows = λ es is. absurd (got_none _ _ _ o (h.act.here range) es is);
      others = old.others;
    }

  pub columns_none : (v : Meaning E) (i : ℕ) (xs : List E) → StripsRead none v v i 0 xs
  columns_none v i xs = record { fared = fared_same (same_refl v); columns = λ c l. absurd (omega arith) }

  module _ {v u w : Meaning E} {i n : ℕ} {xs : List E} (old : StripsRead none v u i n xs) where
    -- a column that was read
    pub columns_more : {ys : List E} → StripRead none u w i n (u.prime - 1) xs ys → StripsRead none v w i (n + 1) ys
    columns_more {ys} h = record {
      fared = fared-then old.fared h.fared;
      columns = λ c l es is r low.
          ⊎_elim
          (λ (same : c ≡ n).
          let e : w.strip i n ≡ held es = subst (λ k. w.strip i k ≡ held es) same is in
          rw (same, sym old.fared.kept.prime) (h.rows es e r (omega (arith, low, old.fared.kept.prime))))
          (λ (apart : c ≡ n → ⊥).
          rw (sym old.fared.kept.prime) (h.others r c (omega (arith, low, old.fared.kept.prime)) apart)
          ∙ old.columns c (omega arith) es (fares_held (h.fared.strips i c) is) r low)
          (cases_eq c n);
    }

    -- a column that is out
    pub columns_skip : {b : Bool} → Same u w → b ≡ is_out (u.strip i n) → b ≡ true → StripsRead none v w i (n + 1) xs
    columns_skip {b} same told o = record {
      fared = fared-then old.fared (fared_same same);
      columns = λ c l es is r low.
          ⊎_elim
          (λ (e : c ≡ n). absurd (out_not_held (u.strip i n) es (sym told ∙ o) (sym (same.strip i n) ∙ subst (λ k. w.strip i k ≡ held es) e is)))
          (λ (apart : c ≡ n → ⊥). old.columns c (omega arith) es (sym (same.strip i c) ∙ is) r low)
          (cases_eq c n);
    }

module _ {E : Type 0} where
  -- all columns read, and then those that are out asked for
  pub all_gathered : (none : E) {v u w : Meaning E} {i : ℕ} {s : Columns} {xs : List E} → Sound w → StripsRead none v u i (v.prime + 1) xs → Picked is_out u w i (u.prime + 1) s → Gathered none v w i s xs
  all_gathered none {v} {u} {w} {i} {s} {xs} sound read out = record {
    fared = fared-then read.fared (fared_same out.same);
    columns = λ c. grind (arith, nat_tests, out.columns c, out.same.strip i c, read.fared.kept.prime);
    read = λ c es is r low. read.columns c (inside c es is) es (sym (out.same.strip i c) ∙ is) r low;
  }
    where
      inside : (c : ℕ) (es : List E) → w.strip i c ≡ held es → c < v.prime + 1
      inside c es is =
          ⊎_elim (λ (l : c < v.prime + 1). l)
          (λ (past : v.prime + 1 ≤ c).
          let gone = sound.outside i c (λ within. omega (arith, within.column, past, out.same.kept.prime, read.fared.kept.prime)) in
          absurd (grind (arith, gone, is)))
          (cases_lt c (v.prime + 1))
