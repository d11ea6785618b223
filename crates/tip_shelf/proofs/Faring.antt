-- What several calls leave of a shelf that is only read, and what one get does.
use Rattle.std.proofs.Common.{◌≡◌, ℕ, Bool, true, false, Some, Result, Ok, Err, slice_get, List, refl, sym, ap, ◌∙◌, ⊎_elim, arith}
use Rattle.std.proofs.lemmas.Bool.{cases_eq}
use Rattle.tip_shelf.specs.Meaning.{Strip, held, blank, absent, Meaning}
use Rattle.tip_shelf.specs.Calls.{Same, Fared, is_out, is_held, Fares, stays, drops, Turns, got, InRange, Reads, Got}
use Rattle.tip_shelf.specs.declared.shelf.Out.{Out}
use Rattle.tip_shelf.proofs.Strips.{kept-then, fares-then, fares_steady}

module _ {E : Type 0} where
  pub fared_same : {v w : Meaning E} → Same v w → Fared v w
  fared_same h = record { kept = h.kept; strips = λ i c. stays (h.strip i c) }

  pub fared-then : {u v w : Meaning E} → Fared u v → Fared v w → Fared u w
  fared-then h k = record { kept = kept-then h.kept k.kept; strips = λ i c. fares-then h.kept.steady (h.strips i c) (k.strips i c) }

  -- a steady shelf that is only read is unchanged
  pub fared_steady : {v w : Meaning E} → v.steady ≡ true → Fared v w → Same v w
  fared_steady steady h = record { kept = h.kept; strip = λ i c. fares_steady steady (h.strips i c) }

  -- a strip that is held was held before, with the same elements
  pub fares_held : {s : Bool} {a b : Strip E} {es : List E} → Fares s a b → b ≡ held es → a ≡ held es
  fares_held (stays p) e = sym p ∙ e
  fares_held (drops f p) e = absurd (grind (arith, p, e))

  -- a strip that is out is not held
  pub out_not_held : (s : Strip E) (es : List E) → is_out s ≡ true → s ≡ held es → ⊥
  out_not_held s es o e = grind (arith, o, e)

  -- what a get does to the strip that it is for
  turns_fares : {s : Bool} {A : Type 0} (a b : Strip E) (o : Result A Out) → Turns s a b (got a) o → Fares s a b
  turns_fares (held es) b (Ok e) t = stays t
  turns_fares (held es) b (Err o) t = drops t.0 t.1
  turns_fares blank b (Ok e) t = absurd t
  turns_fares blank b (Err o) t = t
  turns_fares absent b (Ok e) t = absurd t
  turns_fares absent b (Err o) t = t

  -- in a get no strip does more than drop
  pub got_fared : {v w : Meaning E} {i c r : ℕ} {o : Result E Out} → InRange v i c r → Got v w i c r o → Fared v w
  got_fared {v} {w} {i} {c} {r} {o} range h = record { kept = h.act.kept; strips = each }
    where
      here : Fares v.steady (v.strip i c) (w.strip i c)
      here = turns_fares _ _ o (h.act.here range)

      each : (j d : ℕ) → Fares v.steady (v.strip j d) (w.strip j d)
      each j d =
          ⊎_elim
          (λ (e : j ≡ i). ⊎_elim
          (λ (f : d ≡ c). rw (e, f) here)
          (λ (f : d ≡ c → ⊥). h.act.others j d (λ _ same. f same)) (cases_eq d c))
          (λ (e : j ≡ i → ⊥). h.act.others j d (λ same _. e same)) (cases_eq j i)

  -- a strip that is out stays out
  pub fares_out : {s : Bool} {a b : Strip E} → Fares s a b → is_out a ≡ true → is_out b ≡ true
  fares_out (stays e) o = ap is_out e ∙ o
  fares_out (drops f e) o = ap is_out e

  -- a strip is out where it is not held
  pub out_or_held : (s : Strip E) → is_out s ≡ true → is_held s ≡ true → ⊥
  out_or_held (held es) o h = cc
  out_or_held blank o h = cc
  out_or_held absent o h = cc

  out_unless_held : (s : Strip E) → ((es : List E) → s ≡ held es → ⊥) → is_out s ≡ true
  out_unless_held (held es) h = absurd (h es refl)
  out_unless_held blank h = refl
  out_unless_held absent h = refl

  pub held_unless_out : (s : Strip E) → is_out s ≡ false → (es : List E) × (s ≡ held es)
  held_unless_out (held es) h = (es, refl)
  held_unless_out blank h = absurd (cc)
  held_unless_out absent h = absurd (cc)

  -- a strip from which an element was got is held
  pub got_is_held : (s : Bool) (a b : Strip E) (e : E) → Turns s a b (got a) (Ok e) → (es : List E) × (b ≡ held es)
  got_is_held s (held es) b e t = (es, t)
  got_is_held s blank b e t = absurd t
  got_is_held s absent b e t = absurd t

  -- a strip from which an element was got is held, and has it
  pub got_element : (s : Bool) (a b : Strip E) (r : ℕ) (e : E) → Turns s a b (got a) (Ok e) → Reads a r (Ok e) → (es : List E) → b ≡ held es → slice_get es r ≡ Some e
  got_element s (held fs) b r e t read es h = let same : es ≡ fs = grind (arith, t, h) in rw same read
  got_element s blank b r e t read es h = absurd t
  got_element s absent b r e t read es h = absurd t

  -- a strip from which none was got is not held
  pub got_none : (s : Bool) (a b : Strip E) (o : Out) → Turns {A = E} s a b (got a) (Err o) → (es : List E) → b ≡ held es → ⊥
  got_none s (held fs) b o t es h = grind (arith, t.1, h)
  got_none s blank b o t es h = let a = fares_held t h in grind (arith, a)
  got_none s absent b o t es h = let a = fares_held t h in grind (arith, a)

  -- a strip that gave none is out
  pub got_out : {v w : Meaning E} {i r c : ℕ} {o : Out} → InRange v i c r → Got {E = E} v w i c r (Err o) → is_out (w.strip i c) ≡ true
  got_out {v} {w} {i} {r} {c} {o} range h = out_unless_held (w.strip i c) (λ es is. got_none v.steady (v.strip i c) (w.strip i c) o (h.act.here range) es is)
