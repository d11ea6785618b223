-- A sweep over the stripes changes the status bytes of one column, stripe by stripe.
use Rattle.std.proofs.Common.{◌≡◌, ℕ, ◌+◌, ◌*◌, ◌<◌, ◌≤◌, List, length, slice_index_or, slice_set, refl, ap, ◌∙◌, arith}
use borrow.Author.Count.{below_more}
use Rattle.std.proofs.lemmas.List.{get_or-set_same, get_or-set_other}
use Rattle.std.proofs.lemmas.Grind.{common_steps}
use Rattle.tip_store.specs.Layout.{strip_number, Swept}
use Rattle.tip_store.specs.Status.{moved}
use Rattle.tip_store.specs.declared.status.Event.{Event}
use Rattle.tip_store.proofs.Numbers.{number_one, part_one}

module _ (p w d : ℕ) (e : Event) (xs : List ℕ) where
  pub swept_none : Swept p 0 w d e xs xs
  swept_none = record { size = refl; there = λ i h k. absurd (omega arith); elsewhere = λ k out. refl }

  -- where the status byte of the device's strip in stripe i stands
  abbrev start : ℕ → ℕ
  start i = strip_number p i d * w

  -- what ys has there is what the event made of it
  abbrev There : List ℕ → ℕ → Type 0
  There ys i = start i < length xs → slice_index_or ys (start i) 0 ≡ moved e (slice_index_or xs (start i) 0)

  start_one : (i j : ℕ) → 1 ≤ w → d ≤ p → start i ≡ start j → i ≡ j
  start_one i j low h same = let one = number_one p i d j d h h (part_one _ _ w low same) in one.0

  pub swept_more : (i : ℕ) (ys : List ℕ) → 1 ≤ w → d ≤ p → Swept p i w d e xs ys → Swept p (i + 1) w d e xs (slice_set ys (start i) (moved e (slice_index_or ys (start i) 0)))
  swept_more i ys low h done =
      let fresh : slice_index_or ys (start i) 0 ≡ slice_index_or xs (start i) 0 = done.elsewhere (start i) (λ j less same. absurd (omega (arith, start_one i j low h same))) in
      let zs : List ℕ = slice_set ys (start i) (moved e (slice_index_or ys (start i) 0)) in
      record {
        size = grind (arith, common_steps, done.size);
        there = below_more (There zs) i (λ j less inside. get_or-set_other ys (start i) (start j) _ 0 (λ same. absurd (omega (arith, start_one j i low h same))) ∙ done.there j less inside)
            (λ inside. get_or-set_same ys (start i) _ 0 (omega (arith, inside, done.size)) ∙ ap (moved e) fresh);
        elsewhere = λ k out. get_or-set_other ys (start i) k _ 0 (out i (omega arith)) ∙ done.elsewhere k (λ j less. out j (omega arith));
      }
