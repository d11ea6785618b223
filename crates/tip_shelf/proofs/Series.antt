-- Calls one after another, and how many.
use Rattle.std.proofs.Common.{ℕ, ◌+◌, ◌≤◌, List, [], ◌∷◌, ◌++◌, length-append, refl, subst, arith}
use Rattle.std.proofs.lemmas.List.Elements.{All-nil, All-cons, All-append, All-weaker}
use Rattle.tip_shelf.specs.Performing.{ShelfCall, Series, AtMost}

module _ {S E : Type 0} (performs : S → ShelfCall E → S → Type 0) where
  pub series_none : (s : S) → Series performs s [] s
  unfolding Series
  series_none s = refl

  pub series_one : (s : S) (k : ShelfCall E) (t : S) → performs s k t → Series performs s (k ∷ []) t
  unfolding Series
  series_one s k t h = (t, h, refl)

  pub series_then :
      (ks ls : List (ShelfCall E)) (s t u : S) →
      Series performs s ks t →
      Series performs t ls u →
      Series performs s (ks ++ ls) u
  unfolding Series
  series_then [] ls s t u h g = subst (λ x. Series performs x ls u) h g
  series_then (k ∷ ks) ls s t u h g = (h.0, h.1, series_then ks ls h.0 t u h.2 g)

  module _ (Kind : ShelfCall E → Type 0) where
    pub at_most_none : (s : S) (n : ℕ) → AtMost n Kind performs s s
    at_most_none s n = record {
      calls = [];
      few = omega arith;
      each = All-nil Kind;
      series = series_none s;
    }

    pub at_most_one : (s : S) (k : ShelfCall E) (t : S) → Kind k → performs s k t → AtMost 1 Kind performs s t
    at_most_one s k t of h = record {
      calls = k ∷ [];
      few = omega arith;
      each = All-cons Kind k [] of (All-nil Kind);
      series = series_one s k t h;
    }

module _ {S E : Type 0} {performs : S → ShelfCall E → S → Type 0} {Kind : ShelfCall E → Type 0} where
  pub at_most_then :
      {s t u : S} {m n : ℕ} (most : ℕ) →
      AtMost m Kind performs s t →
      AtMost n Kind performs t u →
      m + n ≤ most →
      AtMost most Kind performs s u
  at_most_then {s} {t} {u} most h g low = record {
    calls = h.calls ++ g.calls;
    few = omega (arith, length-append h.calls g.calls, h.few, g.few);
    each = All-append Kind h.calls g.calls h.each g.each;
    series = series_then performs h.calls g.calls s t u h.series g.series;
  }

  pub at_most_more : {s t : S} {n most : ℕ} → AtMost n Kind performs s t → n ≤ most → AtMost most Kind performs s t
  at_most_more h low = record { calls = h.calls; few = omega (arith, h.few, low); each = h.each; series = h.series }

-- calls of one kind are calls of a wider one
module _ {S E : Type 0} {performs : S → ShelfCall E → S → Type 0} (Kind Wider : ShelfCall E → Type 0) where
  pub at_most_of :
      {s t : S} {n : ℕ} →
      ((k : ShelfCall E) → Kind k → Wider k) →
      AtMost n Kind performs s t →
      AtMost n Wider performs s t
  at_most_of wider h = record {
    calls = h.calls;
    few = h.few;
    each = All-weaker Kind Wider wider h.calls h.each;
    series = h.series;
  }
