-- What pulling and fitting are over the bytes of an image shelf.
use Rattle.std.proofs.Common.{◌≡◌, ℕ, ◌+◌, ◌-◌, ◌*◌, ◌<◌, Bool, List, ◌&&◌, nat_le, refl, arith}
use Rattle.std.proofs.lemmas.Bool.Decides.{nat_tests}
use Rattle.std.proofs.lemmas.Nat.{same_from_place}
use Rattle.tip_code.specs.Geometry.{prime_of, stripes_of}
use Rattle.tip_element.specs.declared.word.Word.{Word}
use Rattle.tip_shelf.specs.Service.{Pulled, Fitted}
use Rattle.tip_store.specs.Layout.{strip_number, Swept}
use Rattle.tip_store.specs.Store.{Store}
use Rattle.tip_store.specs.declared.status.Event.{Event}
use Rattle.tip_store.specs.declared.status.Event.TheVariants.{Pull, Fit}
use Rattle.tip_store.proofs.Sweeps.{Served, served_length, served_pulls, served_fits}
use Rattle.tip_image.specs.Image.{width, image_of, store_of, fits_of, word_from, word_at}
use Rattle.tip_image.specs.Writing.{Serves}
use Rattle.tip_image.specs.declared.ImageShelf.{ImageShelf}
use Rattle.tip_image.proofs.Calling.{word_stays}

-- a sweep writes no byte of a word
words_swept : (p n d : ℕ) (e : Event) (xs ys : List ℕ) → Swept p n (width p) d e xs ys → (k r : ℕ) → r < p - 1 → word_from ys (word_at p k r) ≡ word_from xs (word_at p k r)
words_swept p n d e xs ys swept k r h = word_stays p k r xs ys h (λ o low l. swept.elsewhere (k * width p + o) (λ i m same. let one = same_from_place k o (strip_number p i d) 0 (width p) l (omega arith) (omega (arith, same)) in absurd (omega (arith, low, one.1))))

module _ (s t : ImageShelf) (d : ℕ) where
  abbrev p : ℕ
  p = prime_of s.geometry.now

  abbrev n : ℕ
  n = stripes_of s.geometry.now

  abbrev before : Store Word
  before = store_of p s.bytes.now

  abbrev later : Store Word
  later = store_of p t.bytes.now

  served : (e : Event) → Serves s t d e → Served p n (width p) d before.cell later.cell s.bytes.now t.bytes.now (fits_of s) e
  served e serves = record {
    low = omega arith;
    size = λ fit. grind (arith, nat_tests, fit);
    swept = serves.swept;
    cells = λ swept k r h l. words_swept p n d e s.bytes.now t.bytes.now swept k r l;
    unfit = λ no. record { bytes = serves.unfit no; store = rw (serves.unfit no) refl };
    beyond = λ less. record { bytes = serves.beyond less; store = rw (serves.beyond less) refl };
  }

  pub image_pulled : Serves s t d Pull → t.geometry.now ≡ s.geometry.now → Pulled (image_of s) (image_of t) d
  image_pulled serves same = rw (same, served_length p n (width p) d _ _ s.bytes.now t.bytes.now (fits_of s) Pull (served Pull serves)) (served_pulls p n (width p) d before.cell later.cell s.bytes.now t.bytes.now (fits_of s) (served Pull serves))

  pub image_fitted : (answer : Bool) → Serves s t d Fit → t.geometry.now ≡ s.geometry.now → answer ≡ (fits_of s && nat_le d p) → Fitted (image_of s) (image_of t) d answer
  image_fitted answer serves same e = rw (e, same, served_length p n (width p) d _ _ s.bytes.now t.bytes.now (fits_of s) Fit (served Fit serves)) (served_fits p n (width p) d before.cell later.cell s.bytes.now t.bytes.now (fits_of s) (served Fit serves))
