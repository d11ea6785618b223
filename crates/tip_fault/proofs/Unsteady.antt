-- A meaning that is no longer said to be steady, and calls of the shelf below that are no accesses.
use Rattle.std.proofs.Common.{ℕ, Bool, false, Option, Some, None, Result, Ok, Err, refl}
use Rattle.tip_fault.specs.Faults.{unsteady}
use Rattle.tip_shelf.specs.Calls.{Shaped, Kept, Same, Fares, stays, drops, Told, Turns}
use Rattle.tip_shelf.specs.Meaning.{Strip, held, blank, absent, Meaning, Within}
use Rattle.tip_shelf.specs.Service.{Pulled, Renews, Fitted}
use Rattle.tip_shelf.specs.declared.shelf.Out.{Out}
use Rattle.tip_shelf.specs.declared.shelf.State.{State}
use Rattle.tip_code.specs.declared.geometry.Geometry.{Geometry}

module _ {E : Type 0} where
  -- what is not to change under a steady shelf may drop under one that is not
  pub fares_unsteady : {s : Bool} {a b : Strip E} → Fares s a b → Fares false a b
  fares_unsteady (stays e) = stays e
  fares_unsteady (drops f e) = drops refl e

  pub kept_unsteady : {v w : Meaning E} → Kept v w → Kept (unsteady v) (unsteady w)
  kept_unsteady k = record { prime = k.prime; stripes = k.stripes; device = k.device; steady = refl }

  pub same_unsteady : {v w : Meaning E} → Same v w → Same (unsteady v) (unsteady w)
  same_unsteady h = record { kept = kept_unsteady h.kept; strip = h.strip }

  pub within_unsteady : {v : Meaning E} {i c : ℕ} → Within v i c → Within (unsteady v) i c
  within_unsteady h = record { stripe = h.stripe; column = h.column }

  pub within_steady : {v : Meaning E} {i c : ℕ} → Within (unsteady v) i c → Within v i c
  within_steady h = record { stripe = h.stripe; column = h.column }

  pub turns_unsteady : {A : Type 0} (s : Bool) (a b : Strip E) (t : Option (Strip E)) (r : Result A Out) → Turns s a b t r → Turns false a b t r
  turns_unsteady s a b None (Ok x) h = h
  turns_unsteady s a b None (Err e) h = fares_unsteady h
  turns_unsteady s a b (Some t) (Ok x) h = h
  turns_unsteady s a b (Some t) (Err e) h = (refl, h.1)

  -- a call that is no access
  pub shaped_unsteady : (v : Meaning E) (g : Geometry) → Shaped v g → Shaped (unsteady v) g
  shaped_unsteady v g h = record { prime = h.prime; stripes = h.stripes }

  module _ (v w : Meaning E) where
    pub told_unsteady : (i c : ℕ) (r : State) → Told v w i c r → Told (unsteady v) (unsteady w) i c r
    told_unsteady i c r h = record { same = same_unsteady h.same; told = h.told }

    pub pulled_unsteady : (d : ℕ) → Pulled v w d → Pulled (unsteady v) (unsteady w) d
    pulled_unsteady d h = record {
      kept = kept_unsteady h.kept;
      gone = h.gone;
      others = λ i c ne. fares_unsteady (h.others i c ne);
      beyond = λ far. same_unsteady (h.beyond far);
    }

    renews_unsteady : (s : Bool) (a b : Strip E) → Renews s a b → Renews false a b
    renews_unsteady s (held es) b h = fares_unsteady h
    renews_unsteady s blank b h = fares_unsteady h
    renews_unsteady s absent b h = h

    pub fitted_unsteady : (d : ℕ) (answer : Bool) → Fitted v w d answer → Fitted (unsteady v) (unsteady w) d answer
    fitted_unsteady d answer h = record {
      kept = kept_unsteady h.kept;
      fits = λ y i c at e. renews_unsteady v.steady (v.strip i c) (w.strip i c) (h.fits y i c (within_steady at) e);
      refuses = λ n i c. fares_unsteady (h.refuses n i c);
      others = λ i c ne. fares_unsteady (h.others i c ne);
      beyond = λ far. let k = h.beyond far in (k.0, same_unsteady k.1);
    }
