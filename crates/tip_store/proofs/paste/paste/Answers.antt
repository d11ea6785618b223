use Rattle.std.proofs.Common.{rules, arith, ◌≡◌, ℕ, ◌+◌, ◌-◌, ◌<◌, ◌≤◌, ◌⊎◌, inl, inr}
use Rattle.std.proofs.lemmas.List.{places}
use Rattle.std.proofs.lemmas.Bool.{cases_order}
use Rattle.tip_store.proofs.paste.paste.Goals as goal

-- an index that is none of the n from a on is below or above them
around : (k a n : ℕ) → ((r : ℕ) → r < n → k ≡ a + r → ⊥) → (k < a) ⊎ (a + n ≤ k)
around k a n out = let apart : k - a < n → k ≡ a + (k - a) → ⊥ = out (k - a) in elim (cases_order k a) [ inl e ↦ inr (grind (arith, e, apart)) | inr (inl l) ↦ inl l | inr (inr l) ↦ inr (grind (arith, l, apart)) ]

pub returns-then-elements-buffer-clause-within : goal.returns-then-elements-buffer-clause-within
returns-then-elements-buffer-clause-within g c fits none = record {
  size = search (rules, places);
  there = λ r h. search (rules, places);
  elsewhere = λ k out. elim (around k _ _ out) [ inl h ↦ search (rules, places) | inr h ↦ search (rules, places) ];
}
