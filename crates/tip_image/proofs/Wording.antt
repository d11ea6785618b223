-- Words that are written one after another.
use Rattle.std.proofs.Common.{◌≡◌, ℕ, ◌+◌, ◌*◌, ◌<◌, List, length, slice_index_or, refl, ap, ◌∙◌, arith}
use borrow.Author.Count.{below_more}
use Rattle.tip_element.specs.Words.{no_word}
use Rattle.tip_element.specs.declared.word.Word.{Word}
use Rattle.tip_store.specs.Pasting.{Pasted}
use Rattle.tip_image.specs.Writing.{bytes_of, Worded}

-- ys is xs with the first n of the words written from index a on
pub record Begun (a n : ℕ) (ws : List Word) (xs ys : List ℕ) : Type 0 where
  pub size : length ys ≡ length xs
  pub there : (r j : ℕ) → r < n → j < 8 → slice_index_or ys (a + 8 * r + j) 0 ≡ slice_index_or (bytes_of (slice_index_or ws r no_word)) j 0
  pub elsewhere : (k : ℕ) → ((r j : ℕ) → r < n → j < 8 → k ≡ a + 8 * r + j → ⊥) → slice_index_or ys k 0 ≡ slice_index_or xs k 0

module _ (a : ℕ) (ws : List Word) (xs : List ℕ) where
  pub begun_none : Begun a 0 ws xs xs
  begun_none = record { size = refl; there = λ r j h. absurd (omega arith); elsewhere = λ k out. refl }

  -- the bytes of word r stand where they belong
  abbrev There : List ℕ → ℕ → Type 0
  There zs r = (j : ℕ) → j < 8 → slice_index_or zs (a + 8 * r + j) 0 ≡ slice_index_or (bytes_of (slice_index_or ws r no_word)) j 0

  pub begun_more : (n : ℕ) (e : Word) (ys zs : List ℕ) → e ≡ slice_index_or ws n no_word → Begun a n ws xs ys → Pasted 0 (a + 8 * n) (bytes_of e) ys zs → Begun a (n + 1) ws xs zs
  begun_more n e ys zs is done pasted = record {
    size = pasted.size ∙ done.size;
    there = λ r j less. below_more (There zs) n (λ q l o u. pasted.elsewhere (a + 8 * q + o) (λ v x same. omega (arith, same, l, u, x)) ∙ done.there q o l u) (λ o u. pasted.there o u ∙ ap (λ x. slice_index_or (bytes_of x) o 0) is) r less j;
    elsewhere = λ k out. pasted.elsewhere k (λ v x same. out n v (omega arith) x same) ∙ done.elsewhere k (λ r j l u. out r j (omega arith) u);
  }

  pub begun_all : (ys : List ℕ) → Begun a (length ws) ws xs ys → Worded a ws xs ys
  begun_all ys done = record { size = done.size; there = done.there; elsewhere = done.elsewhere }
