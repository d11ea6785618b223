-- What the calls of an image shelf are, from what they leave in its bytes.
use Rattle.std.proofs.Common.{◌≡◌, ◌≢◌, ℕ, ◌+◌, ◌-◌, ◌*◌, ◌^◌, ◌<◌, ◌≤◌, Bool, true, List, length, Ok, slice_index_or, refl, sym, ap, subst, ◌∙◌, arith}
use Rattle.std.specs.Int.{w64, from_be_bytes}
use Rattle.std.proofs.lemmas.Bool.Decides.{nat_tests}
use Rattle.std.proofs.lemmas.List.{length-set}
use Rattle.std.proofs.lemmas.List.FromFn.{get_or-map-range_with_len, fill_by_all}
use Rattle.std.proofs.lemmas.Nat.{same_from_place, from_be_bytes-to_be_bytes_8}
use Rattle.tip_code.specs.Geometry.{prime_of, stripes_of}
use Rattle.tip_element.specs.Words.{word, no_word}
use Rattle.tip_element.specs.declared.word.Word.{Word}
use Rattle.tip_shelf.specs.Calls.{Got, Put, Erased, Restored}
use Rattle.tip_shelf.specs.declared.shelf.State.TheVariants.{Blank, Absent}
use Rattle.tip_store.specs.Layout.{strips_in, strip_number, status_in, Spotted}
use Rattle.tip_store.specs.Pasting.{Pasted}
use Rattle.tip_store.specs.Status.{state_for, moved}
use Rattle.tip_store.specs.Store.{Store}
use Rattle.tip_store.specs.declared.layout.Spot.{Spot}
use Rattle.tip_store.specs.declared.status.Event.{Event}
use Rattle.tip_store.specs.declared.status.Event.TheVariants.{Erase, Restore}
use Rattle.tip_store.proofs.Marking.{place, marked, unmarked, event_erased, event_restored}
use Rattle.tip_store.proofs.Storing.{store_got, store_put}
use Rattle.tip_image.specs.Image.{width, image, image_of, store_of, fits_of, eight, word_from, word_at, WordAt}
use Rattle.tip_image.specs.Writing.{bytes_of, Worded}
use Rattle.tip_image.specs.declared.ImageShelf.{ImageShelf}

-- the eight bytes from an index on are those of a list that has each of them
pub eight_is : (ys es : List ℕ) (a : ℕ) → length es ≡ 8 → ((j : ℕ) → j < 8 → slice_index_or ys (a + j) 0 ≡ slice_index_or es j 0) → eight ys a ≡ es
eight_is ys es a len same = sym (fill_by_all (λ j. slice_index_or ys (a + j) 0) es 8 0 len (λ j h. sym (same j h)))

-- a word is read back from its bytes
pub word_back : (ys : List ℕ) (a : ℕ) (e : Word) → e.0 < 2 ^ 64 → ((j : ℕ) → j < 8 → slice_index_or ys (a + j) 0 ≡ slice_index_or (bytes_of e) j 0) → word_from ys a ≡ e
word_back ys a e small same = ap word (ap (from_be_bytes w64) (eight_is ys (bytes_of e) a refl same) ∙ from_be_bytes-to_be_bytes_8 e.0 small)

-- it stays where each of its bytes does
word_alike : (xs ys : List ℕ) (a : ℕ) → ((j : ℕ) → j < 8 → slice_index_or ys (a + j) 0 ≡ slice_index_or xs (a + j) 0) → word_from ys a ≡ word_from xs a
word_alike xs ys a same = ap word (ap (from_be_bytes w64) (eight_is ys (eight xs a) a refl (λ j h. same j h ∙ sym (get_or-map-range_with_len (λ i. slice_index_or xs (a + i) 0) 0 8 j j 0 h (omega arith)))))

-- and so where the bytes of its strip do, but for the status byte
pub word_stays : (p m r : ℕ) (xs ys : List ℕ) → r < p - 1 → ((o : ℕ) → 1 ≤ o → o < width p → slice_index_or ys (m * width p + o) 0 ≡ slice_index_or xs (m * width p + o) 0) → word_from ys (word_at p m r) ≡ word_from xs (word_at p m r)
word_stays p m r xs ys h same = word_alike xs ys (word_at p m r) (λ j l. subst (λ x. slice_index_or ys x 0 ≡ slice_index_or xs x 0) (omega arith) (same (1 + 8 * r + j) (omega arith) (omega (arith, h, l))))

module _ (s : ImageShelf) (i c : ℕ) where
  abbrev p : ℕ
  p = prime_of s.geometry.now

  abbrev n : ℕ
  n = stripes_of s.geometry.now

  abbrev w : ℕ
  w = width p

  -- the number of the strip
  abbrev k : ℕ
  k = strip_number p i c

  abbrev store : Store Word
  store = store_of p s.bytes.now

  abbrev fits : Bool
  fits = fits_of s

  -- two bytes of the image are the same if strip and offset are
  byte_one : (m o q : ℕ) → o < w → q < w → m * w + o ≡ k * w + q → (m ≡ k) × (o ≡ q)
  byte_one m o q h l e = same_from_place m o k q w h l e

  pub image_got : (r j : ℕ) → WordAt s i c r j → Got (image_of s) (image_of s) i c r (Ok (word_from s.bytes.now j))
  image_got r j h = rw (h.index) (store_got p n fits i c k h.fits h.has.0 h.has.1 refl store r h.row h.held)

  pub image_put : {A : Type 0} (a : A) (r j : ℕ) (e : Word) (ys : List ℕ) → WordAt s i c r j → e.0 < 2 ^ 64 → Pasted 0 j (bytes_of e) s.bytes.now ys → Put (image_of s) (image s.geometry.now ys) i c r e (Ok a)
  image_put a r j e ys h small pasted = rw (pasted.size) (store_put p n fits i c k h.fits h.has.0 h.has.1 refl store (store_of p ys) a r e h.row h.held (status k)
      (word_back ys (word_at p k r) e small here.there)
      (λ q l apart. word_alike s.bytes.now ys (word_at p k q) (λ o u. here.elsewhere (word_at p k q + o) (λ v x same. let one = byte_one k (1 + 8 * q + o) (1 + 8 * r + v) (omega (arith, l, u)) (omega (arith, h.row, x)) (omega (arith, same)) in apart (omega (arith, one.1, u, x)))))
      (λ m l apart. record {
        status = status m;
        cell = λ q u. word_stays p m q s.bytes.now ys u (λ o low v. here.elsewhere (m * w + o) (λ x y same. let one = byte_one m o (1 + 8 * r + x) v (omega (arith, h.row, y)) (omega (arith, same)) in apart one.0));
      }))
    where
      here : Pasted 0 (word_at p k r) (bytes_of e) s.bytes.now ys
      here = subst (λ x. Pasted 0 x (bytes_of e) s.bytes.now ys) h.index pasted

      status : (m : ℕ) → status_in w ys m ≡ status_in w s.bytes.now m
      status m = here.elsewhere (m * w) (λ v x same. let one = byte_one m 0 (1 + 8 * r + v) (omega arith) (omega (arith, h.row, x)) (omega (arith, same)) in absurd (omega (arith, one.1)))

  -- the strip at a spot of the image
  module _ (spot : Spot) (at : Spotted p n w i c spot) (fit : fits ≡ true) where
    size : length s.bytes.now ≡ strips_in p n * w
    size = grind (arith, nat_tests, fit)

    -- the image after an event
    abbrev pub after_event : Event → List ℕ
    after_event e = marked p n w i c s.bytes.now spot at e

    -- the words of the other strips stay after it
    words_stay : (e : Event) (m q : ℕ) → m ≢ k → q < p - 1 → word_from (after_event e) (word_at p m q) ≡ word_from s.bytes.now (word_at p m q)
    words_stay e m q apart u = word_stays p m q s.bytes.now (after_event e) u (λ o low v. unmarked p n w i c s.bytes.now spot at e m o v (λ same. low))

    pub image_erased : {A : Type 0} (a : A) (ys : List ℕ) → (state_for (slice_index_or s.bytes.now spot.status 0) ≡ Absent → ⊥) → ys ≡ after_event Erase → Erased (image_of s) (image s.geometry.now ys) i c (Ok a)
    image_erased a ys is e = rw (e, length-set s.bytes.now spot.status (moved Erase (slice_index_or s.bytes.now spot.status 0))) (event_erased p n w i c s.bytes.now spot at fits store.cell (store_of p (after_event Erase)).cell fit (omega arith) size (words_stay Erase) a is)

    pub image_restored : {A : Type 0} (a : A) (ws : List Word) (xs ys : List ℕ) → length ws ≡ p - 1 → ((r : ℕ) → r < length ws → (slice_index_or ws r no_word).0 < 2 ^ 64) → state_for (slice_index_or s.bytes.now spot.status 0) ≡ Blank → xs ≡ after_event Restore → Worded (spot.status + 1) ws xs ys → Restored (image_of s) (image s.geometry.now ys) i c ws (Ok a)
    image_restored a ws xs ys len small is e worded = rw (written.size, length-set s.bytes.now spot.status (moved Restore (slice_index_or s.bytes.now spot.status 0))) (event_restored p n w i c s.bytes.now spot at fits store.cell (store_of p ys).cell fit (omega arith) size
        (λ m q apart u. word_stays p m q (after_event Restore) ys u (λ o low v. keeps m o v (λ same. absurd (apart same))) ∙ words_stay Restore m q apart u)
        a ys ws no_word len is
        (λ m. subst (λ x. slice_index_or ys x 0 ≡ slice_index_or (after_event Restore) x 0) (omega arith) (keeps m 0 (omega arith) (λ same. refl)))
        (λ r m. word_back ys (word_at p k r) (slice_index_or ws r no_word) (small r (omega (arith, m, len))) (λ j u. subst (λ x. slice_index_or ys x 0 ≡ slice_index_or (bytes_of (slice_index_or ws r no_word)) j 0) (omega (arith, starts)) (written.there r j (omega (arith, m, len)) u))))
      where
        written : Worded (spot.status + 1) ws (after_event Restore) ys
        written = subst (λ zs. Worded (spot.status + 1) ws zs ys) e worded

        starts : spot.status ≡ k * w
        starts = place p n w i c s.bytes.now spot at

        -- words are written behind the status byte of this strip alone
        keeps : (m o : ℕ) → o < w → (m ≡ k → o ≡ 0) → slice_index_or ys (m * w + o) 0 ≡ slice_index_or (after_event Restore) (m * w + o) 0
        keeps m o h first = written.elsewhere (m * w + o) (λ r j u v same. let one = byte_one m o (1 + 8 * r + j) h (omega (arith, u, v, len)) (omega (arith, same, starts)) in let zero = first one.0 in omega (arith, zero, one.1))
