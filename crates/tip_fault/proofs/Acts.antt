-- Accesses, from the calls of the shelf below: v is what that means before an access, u after the pulls, and w after the call.
use Rattle.std.proofs.Common.{◌≡◌, ℕ, Bool, true, false, List, [], ◌∷◌, Option, Some, None, Result, Ok, Err, leb, eqb, map, refl, ap, sym, subst, arith}
use Rattle.std.proofs.lemmas.Bool.Decides.{nat_tests}
use Rattle.tip_fault.specs.Faults.{unsteady}
use Rattle.tip_fault.proofs.Unsteady.{fares_unsteady, kept_unsteady, within_unsteady, within_steady, turns_unsteady}
use Rattle.tip_shelf.proofs.Strips.{kept_refl, kept-then, same_refl, fares-then, acted_out}
use Rattle.tip_shelf.specs.Calls.{Kept, Fares, stays, drops, Turns, Acted, InRange, Loads, Reads, got, put, erased, restored, Got, Put, Erased, Restored}
use Rattle.tip_shelf.specs.Performing.{ShelfCall, pull_call, Performed, Series}
use Rattle.tip_shelf.specs.Meaning.{Strip, held, blank, absent, Meaning, Within}
use Rattle.tip_shelf.specs.Service.{Pulled}
use Rattle.tip_shelf.specs.declared.shelf.Out.{Out}

module _ {E : Type 0} where
  within_kept : {v w : Meaning E} {i c : ℕ} → Kept v w → Within v i c → Within w i c
  within_kept k h = record { stripe = omega (arith, k.stripes, h.stripe); column = omega (arith, k.prime, h.column) }

  -- what pulls leave of a shelf
  pub record Lost (v u : Meaning E) : Type 0 where
    pub kept : Kept v u
    pub strip : (i c : ℕ) → Fares false (v.strip i c) (u.strip i c)

  lost_pulled : {v u : Meaning E} {d : ℕ} → Pulled v u d → Lost v u
  lost_pulled {v} {u} {d} h = record { kept = h.kept; strip = λ i c. by i c (eqb (v.device i c) d) (leb d v.prime) refl refl }
    where
      by : (i c : ℕ) → (s t : Bool) → eqb (v.device i c) d ≡ s → leb d v.prime ≡ t → Fares false (v.strip i c) (u.strip i c)
      by i c true true e f = drops refl (h.gone (grind (arith, nat_tests)) i c (grind (arith, nat_tests)))
      by i c true false e f = stays ((h.beyond (grind (arith, nat_tests))).strip i c)
      by i c false t e f = fares_unsteady (h.others i c (grind (arith, nat_tests)))

  lost-then : {v m u : Meaning E} → Lost v m → Lost m u → Lost v u
  lost-then h k = record { kept = kept-then h.kept k.kept; strip = λ i c. fares-then refl (h.strip i c) (k.strip i c) }

  lost_refl : {v u : Meaning E} → u ≡ v → Lost v u
  lost_refl {v} {u} e = subst (λ x. Lost v x) (sym e) (record { kept = kept_refl v; strip = λ i c. stays refl })

  -- what pulls one after another leave
  pub lost_pulls :
      {S : Type 0} (meaning : S → Meaning E) (performs : S → ShelfCall E → S → Type 0) (ds : List ℕ) (s t : S) →
      Series (Performed meaning performs) s (map pull_call ds) t →
      Lost (meaning s) (meaning t)
  unfolding Series
  lost_pulls meaning performs [] s t h = lost_refl (ap meaning h)
  lost_pulls meaning performs (d ∷ ds) s t h =
      lost-then (lost_pulled h.1.act) (lost_pulls meaning performs ds h.0 t h.2)

  -- a call for a strip that dropped has to say out, and the strip stays absent
  turns_dropped : {A : Type 0} (s : Bool) (b : Strip E) (t : Option (Strip E)) (r : Result A Out) → t ≡ None → Turns s absent b t r → (b ≡ absent) × ((x : A) → r ≡ Ok x → ⊥)
  turns_dropped s b None (Ok x) e h = absurd h
  turns_dropped s b None (Err o) e h = (dropped h, λ x f. grind arith)
    where
      dropped : Fares s absent b → b ≡ absent
      dropped (stays p) = p
      dropped (drops f p) = p
  turns_dropped s b (Some t) r e h = absurd (grind arith)

  turns_lost : {A : Type 0} (a b : Strip E) (t : Option (Strip E)) (r : Result A Out) → b ≡ absent → ((x : A) → r ≡ Ok x → ⊥) → Turns false a b t r
  turns_lost a b t (Ok x) e not = absurd (not x refl)
  turns_lost a b None (Err o) e not = drops refl e
  turns_lost a b (Some t) (Err o) e not = (refl, e)

  -- a call that is in range, after the pulls
  acted_lost : {A Range Above : Type 0} (v u w : Meaning E) (i c : ℕ) (to : Strip E → Option (Strip E)) (r : Result A Out) → to absent ≡ None → Lost v u → Range → Above → Acted u w Range i c to r → Acted (unsteady v) (unsteady w) Above i c to r
  acted_lost v u w i c to r out lost range above a = record {
    kept = kept_unsteady (kept-then lost.kept a.kept);
    here = λ _. here (u.strip i c) (lost.strip i c) (a.here range);
    others = λ j d ne. fares-then refl (lost.strip j d) (fares_unsteady (a.others j d ne));
    beyond = λ far. absurd (far above);
  }
    where
      here : (b : Strip E) → Fares false (v.strip i c) b → Turns u.steady b (w.strip i c) (to b) r → Turns false (v.strip i c) (w.strip i c) (to (v.strip i c)) r
      here b (stays e) h = turns_unsteady u.steady (v.strip i c) (w.strip i c) (to (v.strip i c)) r (subst (λ x. Turns u.steady x (w.strip i c) (to x) r) e h)
      here b (drops f e) h =
          let k = turns_dropped u.steady (w.strip i c) (to absent) r out (subst (λ x. Turns u.steady x (w.strip i c) (to x) r) e h) in
          turns_lost (v.strip i c) (w.strip i c) (to (v.strip i c)) r k.0 k.1

  -- nothing is read of a strip that dropped
  reads_lost : (s : Bool) (a b x : Strip E) (r : ℕ) (o : Result E Out) → Fares false a b → Turns s b x (got b) o → Reads b r o → Reads a r o
  reads_lost s a b x r o (stays e) h k = subst (λ z. Reads z r o) e k
  reads_lost s a b x r o (drops f e) h k = unread a o (turns_dropped s x None o refl (subst (λ z. Turns s z x (got z) o) e h)).1
    where
      unread : (a : Strip E) (o : Result E Out) → ((y : E) → o ≡ Ok y → ⊥) → Reads a r o
      unread (held es) (Ok y) not = absurd (not y refl)
      unread (held es) (Err z) not = tt
      unread blank o not = tt
      unread absent o not = tt

  module _ {v u : Meaning E} (lost : Lost v u) where
    cell_above : {i c r : ℕ} → InRange v i c r → InRange (unsteady v) i c r
    cell_above h = record { within = within_unsteady h.within; row = h.row }

    cell_below : {i c r : ℕ} → InRange v i c r → InRange u i c r
    cell_below h = record { within = within_kept lost.kept h.within; row = omega (arith, lost.kept.prime, h.row) }

  module _ {v u w : Meaning E} (lost : Lost v u) where
    pub got_lost : (i c r : ℕ) (o : Result E Out) → InRange v i c r → Got u w i c r o → Got (unsteady v) (unsteady w) i c r o
    got_lost i c r o h a = record {
      act = acted_lost v u w i c got o refl lost (cell_below lost h) (cell_above {u = u} lost h) a.act;
      reads =
          reads_lost u.steady (v.strip i c) (u.strip i c) (w.strip i c) r o
          (lost.strip i c)
          (a.act.here (cell_below lost h))
          a.reads;
    }

    pub put_lost : {A : Type 0} (i c r : ℕ) (e : E) (o : Result A Out) → InRange v i c r → Put u w i c r e o → Put (unsteady v) (unsteady w) i c r e o
    put_lost i c r e o h a =
        acted_lost v u w i c (put r e) o refl lost (cell_below lost h) (cell_above {u = u} lost h) a

    pub erased_lost : {A : Type 0} (i c : ℕ) (o : Result A Out) → Within v i c → Erased u w i c o → Erased (unsteady v) (unsteady w) i c o
    erased_lost i c o h a = acted_lost v u w i c erased o refl lost (within_kept lost.kept h) (within_unsteady h) a

    pub restored_lost : {A : Type 0} (i c : ℕ) (es : List E) (o : Result A Out) → Loads v i c es → Restored u w i c es o → Restored (unsteady v) (unsteady w) i c es o
    restored_lost i c es o h a = acted_lost v u w i c (restored es) o refl lost (record { within = within_kept lost.kept h.within; sized = omega (arith, lost.kept.prime, h.sized) }) (record { within = within_unsteady h.within; sized = h.sized }) a

  -- a call that is out of range
  module _ (v : Meaning E) (i c : ℕ) (o : Out) where
    pub got_beyond : (r : ℕ) → (InRange v i c r → ⊥) → Got (unsteady v) (unsteady v) i c r (Err o)
    got_beyond r far = record {
      act = acted_out o (same_refl (unsteady v)) (λ h. absurd (far (record { within = within_steady h.within; row = h.row })));
      reads = unread (v.strip i c);
    }
      where
        unread : (a : Strip E) → Reads a r (Err o)
        unread (held es) = tt
        unread blank = tt
        unread absent = tt

    pub put_beyond : {A : Type 0} (r : ℕ) (e : E) → (InRange v i c r → ⊥) → Put {A = A} (unsteady v) (unsteady v) i c r e (Err o)
    put_beyond r e far = acted_out o (same_refl (unsteady v)) (λ h. absurd (far (record { within = within_steady h.within; row = h.row })))

    pub erased_beyond : {A : Type 0} → (Within v i c → ⊥) → Erased {A = A} (unsteady v) (unsteady v) i c (Err o)
    erased_beyond far = acted_out o (same_refl (unsteady v)) (λ h. absurd (far (within_steady h)))

    pub restored_beyond : {A : Type 0} (es : List E) → (Loads v i c es → ⊥) → Restored {A = A} (unsteady v) (unsteady v) i c es (Err o)
    restored_beyond es far = acted_out o (same_refl (unsteady v)) (λ h. absurd (far (record { within = within_steady h.within; sized = h.sized })))
