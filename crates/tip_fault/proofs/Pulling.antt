-- Devices pulled one after the other.
use Rattle.std.proofs.Common.{◌≡◌, ℕ, ◌+◌, ◌<◌, List, [], ◌∷◌, ◌++◌, length, get_or, take, map, sym, subst, ap, ◌∙◌, arith}
use Rattle.std.proofs.lemmas.Bool.Decides.{nat_tests}
use Rattle.std.proofs.lemmas.List.{map-append, take_more}
use Rattle.std.proofs.lemmas.List.Elements.{filter-append}
use Rattle.tip_fault.specs.Faults.{pulls_for}
use Rattle.tip_fault.specs.Plans.{devices_for}
use Rattle.tip_fault.specs.declared.losses.Loss.{Loss}
use Rattle.tip_shelf.specs.Performing.{ShelfCall, pull_call, Series}
use Rattle.tip_shelf.proofs.Series.{series_none, series_one, series_then}

devices_for_one : (n : ℕ) (l : Loss) → l.access ≡ n → devices_for n (l ∷ []) ≡ l.device ∷ []
devices_for_one n l e = grind (arith, nat_tests)

devices_for_other : (n : ℕ) (l : Loss) → (l.access ≡ n → ⊥) → devices_for n (l ∷ []) ≡ []
devices_for_other n l e = grind (arith, nat_tests)

module _ {S E : Type 0} (performs : S → ShelfCall E → S → Type 0) (n : ℕ) where
  pulls_for-append : (ls ks : List Loss) → pulls_for {E = E} n (ls ++ ks) ≡ pulls_for n ls ++ pulls_for n ks
  pulls_for-append ls ks = simp (filter-append, map-append)

  -- one planned loss, for this access or for another
  pub pulls_one :
      (l : Loss) (s t : S) →
      l.access ≡ n →
      performs s (pull_call l.device) t →
      Series performs s (pulls_for n (l ∷ [])) t
  pulls_one l s t e h =
      subst (λ ds. Series performs s (map pull_call ds) t) (sym (devices_for_one n l e))
      (series_one performs s (pull_call l.device) t h)

  pub pulls_none : (l : Loss) (s : S) → (l.access ≡ n → ⊥) → Series performs s (pulls_for n (l ∷ [])) s
  pulls_none l s e =
      subst (λ ds. Series performs s (map pull_call ds) s) (sym (devices_for_other n l e)) (series_none performs s)

  -- the losses of a plan up to one, and then this one
  pub pulls_more :
      (ls : List Loss) (k : ℕ) (d : Loss) (s m t : S) →
      k < length ls →
      Series performs s (pulls_for n (take k ls)) m →
      Series performs m (pulls_for n (get_or ls k d ∷ [])) t →
      Series performs s (pulls_for n (take (k + 1) ls)) t
  pulls_more ls k d s m t within h g =
      let e : pulls_for n (take (k + 1) ls) ≡ pulls_for n (take k ls) ++ pulls_for n (get_or ls k d ∷ []) =
      ap (pulls_for n) (take_more ls k d within) ∙ pulls_for-append (take k ls) (get_or ls k d ∷ []) in
      subst (λ ks. Series performs s ks t) (sym e)
      (series_then performs (pulls_for n (take k ls)) (pulls_for n (get_or ls k d ∷ [])) s m t h g)
