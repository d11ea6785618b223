use Rattle.std.proofs.Common.{ℕ, ◌^◌, ◌<◌, slice_index_or}
use Rattle.tip_element.specs.Words.{no_word}
use Rattle.tip_image.proofs.Wording.{Begun}
use Rattle.tip_image.proofs.words.write_words.Given as goal

abbrev pub invariant-loop-row : goal.invariant-loop-row
invariant-loop-row l = record {
  written : Begun l.start l.row l.words l.initial.bytes l.bytes;
  small : (r : ℕ) → r < l.row → (slice_index_or l.words r no_word).0 < 2 ^ 64;
}
