-- What becomes of strips in one call and in several, and calls that have to say out.
use Rattle.std.proofs.Common.{◌≡◌, ℕ, Bool, true, Option, Some, None, Ok, Err, refl, sym, ◌∙◌, arith, rules}
use Rattle.tip_shelf.specs.Meaning.{Strip, Meaning}
use Rattle.tip_shelf.specs.Calls.{Kept, Same, Fares, stays, drops, Turns, Acted}
use Rattle.tip_shelf.specs.declared.shelf.Out.{Out}

module _ {E : Type 0} where
  pub kept_refl : (v : Meaning E) → Kept v v
  kept_refl v = record { prime = refl; stripes = refl; device = λ i c. refl; steady = refl }

  pub kept-then : {u v w : Meaning E} → Kept u v → Kept v w → Kept u w
  kept-then h k = record {
    prime = k.prime ∙ h.prime;
    stripes = k.stripes ∙ h.stripes;
    device = λ i c. k.device i c ∙ h.device i c;
    steady = k.steady ∙ h.steady;
  }

  pub same_refl : (v : Meaning E) → Same v v
  same_refl v = record { kept = kept_refl v; strip = λ i c. refl }

  pub same-then : {u v w : Meaning E} → Same u v → Same v w → Same u w
  same-then h k = record { kept = kept-then h.kept k.kept; strip = λ i c. k.strip i c ∙ h.strip i c }

  pub fares-then : {s t : Bool} {a b c : Strip E} → t ≡ s → Fares s a b → Fares t b c → Fares s a c
  fares-then e (stays p) (stays q) = stays (q ∙ p)
  fares-then e (drops f p) (stays q) = drops f (q ∙ p)
  fares-then e (stays p) (drops f q) = drops (sym e ∙ f) q
  fares-then e (drops g p) (drops f q) = drops g q

  -- on a steady shelf a strip stays
  pub fares_steady : {s : Bool} {a b : Strip E} → s ≡ true → Fares s a b → b ≡ a
  fares_steady e (stays p) = p
  fares_steady e (drops f p) = absurd (grind arith)

  -- a call that says out and changes nothing, since it has to say out, or is out of its range
  pub acted_out : {A Range : Type 0} {v w : Meaning E} {i c : ℕ} {to : Strip E → Option (Strip E)} (o : Out) → Same v w → (Range → to (v.strip i c) ≡ None) → Acted {A = A} v w Range i c to (Err o)
  acted_out {A} {Range} {v} {w} {i} {c} {to} o same none = record {
    kept = same.kept;
    here = λ r. turns (to (v.strip i c)) (none r);
    others = λ j d ne. stays (same.strip j d);
    beyond = λ out. (search rules, same);
  }
    where
      turns : (t : Option (Strip E)) → t ≡ None → Turns {A = A} v.steady (v.strip i c) (w.strip i c) t (Err o)
      turns None e = stays (same.strip i c)
      turns (Some s) e = absurd (grind arith)

  -- a call that was done, and changed its own strip alone
  pub acted_done : {A Range : Type 0} {v w : Meaning E} {i c : ℕ} {to : Strip E → Option (Strip E)} (a : A) → Kept v w → Range → to (v.strip i c) ≡ Some (w.strip i c) → ((j d : ℕ) → (j ≡ i → d ≡ c → ⊥) → w.strip j d ≡ v.strip j d) → Acted v w Range i c to (Ok a)
  acted_done {A} {Range} {v} {w} {i} {c} {to} a kept here done others = record {
    kept = kept;
    here = λ r. turns (to (v.strip i c)) done;
    others = λ j d ne. stays (others j d ne);
    beyond = λ out. absurd (out here);
  }
    where
      turns : (t : Option (Strip E)) → t ≡ Some (w.strip i c) → Turns v.steady (v.strip i c) (w.strip i c) t (Ok a)
      turns None e = absurd (grind arith)
      turns (Some s) e = grind arith
