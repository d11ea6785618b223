-- What the calls of a memory shelf are, from what they leave in its buffers.
use Rattle.std.proofs.Common.{◌≡◌, ℕ, ◌+◌, ◌-◌, ◌*◌, ◌<◌, ◌≤◌, Bool, true, List, length, Ok, slice_index_or, slice_set, refl, sym, ap, subst, ◌∙◌, arith}
use Rattle.std.proofs.lemmas.Bool.Decides.{nat_tests}
use Rattle.std.proofs.lemmas.List.{length-set, get_or-set_same, get_or-set_other, get_or_default}
use Rattle.std.proofs.lemmas.Nat.{same_from_place}
use Rattle.tip_code.specs.Geometry.{prime_of, stripes_of}
use Rattle.tip_shelf.specs.Calls.{Got, Put, Erased, Restored}
use Rattle.tip_shelf.specs.declared.shelf.State.TheVariants.{Blank, Absent}
use Rattle.tip_store.specs.Layout.{strips_in, strip_number, Spotted}
use Rattle.tip_store.specs.declared.layout.Spot.{Spot}
use Rattle.tip_store.specs.declared.status.Event.{Event}
use Rattle.tip_store.specs.Status.{state_for, moved}
use Rattle.tip_store.specs.Store.{Store}
use Rattle.tip_store.specs.declared.status.Event.TheVariants.{Erase, Restore}
use Rattle.tip_store.proofs.Storing.{store_got, store_put}
use Rattle.tip_store.proofs.Marking.{marked, event_erased, event_restored}
use Rattle.tip_store.proofs.Numbers.{part_within}
use Rattle.tip_memory.specs.Memory.{memory, memory_of, store_of, fits_of, cell_at, CellAt, cells_of}
use Rattle.tip_store.specs.Pasting.{Pasted}
use Rattle.tip_memory.specs.declared.MemoryShelf.{MemoryShelf}

module _ {E : Type 0} (none : E) (s : MemoryShelf E) (i c : ℕ) where
  abbrev p : ℕ
  p = prime_of s.geometry.now

  abbrev n : ℕ
  n = stripes_of s.geometry.now

  -- the number of the strip
  abbrev k : ℕ
  k = strip_number p i c

  abbrev store : Store E
  store = store_of none p s.cells.now s.statuses.now

  abbrev fits : Bool
  fits = fits_of s

  -- the cells of two strips, or of two rows, stand at different indices
  cell_one : (m q r : ℕ) → q < p - 1 → r < p - 1 → cell_at p m q ≡ cell_at p k r → (m ≡ k) × (q ≡ r)
  cell_one m q r h l e = same_from_place m q k r (p - 1) h l e

  pub memory_got : (r j : ℕ) (d : E) → CellAt s i c r j → Got (memory_of none s) (memory_of none s) i c r (Ok (slice_index_or s.cells.now j d))
  memory_got r j d h =
      let same : store.cell k r ≡ slice_index_or s.cells.now j d = ap (λ x. slice_index_or s.cells.now x none) (sym h.index) ∙ get_or_default s.cells.now j none d h.within in
      subst (λ x. Got (memory_of none s) (memory_of none s) i c r (Ok x)) same (store_got p n fits i c k h.fits h.has.0 h.has.1 refl store r h.row h.held)

  pub memory_put : {A : Type 0} (a : A) (r j : ℕ) (e : E) (xs : List E) → CellAt s i c r j → xs ≡ slice_set s.cells.now j e → Put (memory_of none s) (memory none s.geometry.now xs s.statuses.now) i c r e (Ok a)
  memory_put a r j e xs h set = rw (set, length-set s.cells.now j e) (store_put p n fits i c k h.fits h.has.0 h.has.1 refl store (store_of none p (slice_set s.cells.now j e) s.statuses.now) a r e h.row h.held refl
      (rw (h.index) (get_or-set_same s.cells.now (cell_at p k r) e none (omega (arith, h.index, h.within))))
      (λ q l apart. get_or-set_other s.cells.now j (cell_at p k q) e none (λ same. let one = cell_one k q r l h.row (same ∙ h.index) in apart one.1))
      (λ m l apart. record { status = refl; cell = λ q u. get_or-set_other s.cells.now j (cell_at p m q) e none (λ same. let one = cell_one m q r u h.row (same ∙ h.index) in apart one.0) }))

  -- the strip at a spot of the status bytes
  module _ (spot : Spot) (at : Spotted p n 1 i c spot) (fit : fits ≡ true) where
    size : length s.statuses.now ≡ strips_in p n * 1
    size = grind (arith, nat_tests, fit)

    -- its cells are among those of the buffer
    pub strip_within : spot.number * (p - 1) + (p - 1) ≤ length s.cells.now
    strip_within = let within : spot.number * (p - 1) + (p - 1) ≤ cells_of p n = part_within spot.number (p - 1) (strips_in p n) at.below in grind (arith, nat_tests, fit, within)

    -- and begin at the cell of its first row
    pub first_cell : spot.number * (p - 1) ≡ cell_at p k 0
    first_cell = omega (arith, ap (λ m. m * (p - 1)) at.number)

    -- the status bytes after an event
    abbrev pub after_event : Event → List ℕ
    after_event e = marked p n 1 i c s.statuses.now spot at e

    pub memory_erased : {A : Type 0} (a : A) (ys : List ℕ) → (state_for (slice_index_or s.statuses.now spot.status 0) ≡ Absent → ⊥) → ys ≡ after_event Erase → Erased (memory_of none s) (memory none s.geometry.now s.cells.now ys) i c (Ok a)
    memory_erased a ys is e = rw (e, length-set s.statuses.now spot.status (moved Erase (slice_index_or s.statuses.now spot.status 0))) (event_erased p n 1 i c s.statuses.now spot at fits store.cell store.cell fit (omega arith) size (λ m r apart l. refl) a is)

    pub memory_restored : {A : Type 0} (a : A) (es xs : List E) (ys : List ℕ) → length es ≡ p - 1 → state_for (slice_index_or s.statuses.now spot.status 0) ≡ Blank → Pasted none (spot.number * (p - 1)) es s.cells.now xs → ys ≡ after_event Restore → Restored (memory_of none s) (memory none s.geometry.now xs ys) i c es (Ok a)
    memory_restored a es xs ys len is paste e = rw (e, length-set s.statuses.now spot.status (moved Restore (slice_index_or s.statuses.now spot.status 0)), paste.size) (event_restored p n 1 i c s.statuses.now spot at fits store.cell (store_of none p xs s.statuses.now).cell fit (omega arith) size
        (λ m q apart u. paste.elsewhere (cell_at p m q) (λ r v same. let one = cell_one m q r u (omega (arith, v, len)) (same ∙ ap (λ x. cell_at p x r) at.number) in apart one.0))
        a (after_event Restore) es none len is (λ m. refl)
        (λ r m. ap (λ x. slice_index_or xs (cell_at p x r) none) (sym at.number) ∙ paste.there r (omega (arith, m, len))))
