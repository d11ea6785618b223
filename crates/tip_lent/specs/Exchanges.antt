-- Exchanges of an element for another.
use Rattle.std.specs.Prelude.{◌≡◌, ℕ, List, Result}
use Rattle.tip_element.specs.declared.word.Word.{Word}
use Rattle.tip_image.specs.Image.{width, eight, word_at}
use Rattle.tip_image.specs.Writing.{bytes_of}
use Rattle.tip_shelf.specs.Meaning.{Meaning}
use Rattle.tip_shelf.specs.Calls.{Acted, InRange, Reads, put}
use Rattle.tip_shelf.specs.declared.shelf.Out.{Out}
use Rattle.tip_store.specs.Layout.{strip_number, status_in}

-- The element e was put, and the old one at its row is the answer o: v is the meaning of the shelf before, and w after.
pub record Exchanged {E : Type 0} (v w : Meaning E) (i c r : ℕ) (e : E) (o : Result E Out) : Type 0 where
  pub act : Acted v w (InRange v i c r) i c (put r e) o
  pub reads : Reads (v.strip i c) r o

-- The bytes of an image hold the word e at stripe i, column c and row r: the status byte of the strip says that it is held, and the eight
-- bytes of that row are those of e.
pub record Holds (p : ℕ) (bytes : List ℕ) (i c r : ℕ) (e : Word) : Type 0 where
  pub status : status_in (width p) bytes (strip_number p i c) ≡ 2
  pub word : eight bytes (word_at p (strip_number p i c) r) ≡ bytes_of e
