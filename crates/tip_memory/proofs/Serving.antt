-- What pulling and fitting are over the buffers of a memory shelf.
use Rattle.std.proofs.Common.{◌≡◌, ℕ, Bool, ◌&&◌, nat_le, refl, arith}
use Rattle.std.proofs.lemmas.Bool.Decides.{nat_tests}
use Rattle.tip_code.specs.Geometry.{prime_of, stripes_of}
use Rattle.tip_shelf.specs.Service.{Pulled, Fitted}
use Rattle.tip_store.specs.Store.{Store}
use Rattle.tip_store.specs.declared.status.Event.{Event}
use Rattle.tip_store.specs.declared.status.Event.TheVariants.{Pull, Fit}
use Rattle.tip_store.proofs.Sweeps.{Served, served_length, served_pulls, served_fits}
use Rattle.tip_memory.specs.Memory.{memory_of, store_of, fits_of}
use Rattle.tip_memory.specs.Writing.{Serves}
use Rattle.tip_memory.specs.declared.MemoryShelf.{MemoryShelf}

module _ {E : Type 0} (none : E) (s t : MemoryShelf E) (d : ℕ) where
  abbrev p : ℕ
  p = prime_of s.geometry.now

  abbrev n : ℕ
  n = stripes_of s.geometry.now

  abbrev before : Store E
  before = store_of none p s.cells.now s.statuses.now

  abbrev later : Store E
  later = store_of none p s.cells.now t.statuses.now

  served : (e : Event) → Serves s t d e → Served p n 1 d before.cell later.cell s.statuses.now t.statuses.now (fits_of s) e
  served e serves = record {
    low = omega arith;
    size = λ fit. grind (arith, nat_tests, fit);
    swept = serves.statuses;
    cells = λ _ k r h l. refl;
    unfit = λ no. record { bytes = serves.unfit no; store = rw (serves.unfit no) refl };
    beyond = λ less. record { bytes = serves.beyond less; store = rw (serves.beyond less) refl };
  }

  pub memory_pulled : Serves s t d Pull → t.geometry.now ≡ s.geometry.now → Pulled (memory_of none s) (memory_of none t) d
  memory_pulled serves same = rw (same, serves.cells, served_length p n 1 d _ _ s.statuses.now t.statuses.now (fits_of s) Pull (served Pull serves)) (served_pulls p n 1 d before.cell before.cell s.statuses.now t.statuses.now (fits_of s) (served Pull serves))

  pub memory_fitted : (answer : Bool) → Serves s t d Fit → t.geometry.now ≡ s.geometry.now → answer ≡ (fits_of s && nat_le d p) → Fitted (memory_of none s) (memory_of none t) d answer
  memory_fitted answer serves same e = rw (e, same, serves.cells, served_length p n 1 d _ _ s.statuses.now t.statuses.now (fits_of s) Fit (served Fit serves)) (served_fits p n 1 d before.cell before.cell s.statuses.now t.statuses.now (fits_of s) (served Fit serves))
