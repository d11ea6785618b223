use Rattle.std.proofs.Common.{arith, subst, length, ◌≡◌, ◌<◌, ◌^◌, slice_index_or, refl}
use borrow.Author.Count.{below_more}
use Rattle.tip_element.specs.Words.{no_word}
use Rattle.tip_image.proofs.Wording.{Begun, begun_more, begun_all}
use Rattle.tip_image.proofs.words.write_words.Goals as goal

pub loop-row-preserved : goal.loop-row-preserved
loop-row-preserved c = record {
  written = begun_more c.args.start c.args.words.now c.args.bytes.now c.loop-row.row _ c.loop-row.bytes c.write_word.new.bytes refl c.loop-row.invariant.written c.write_word.ensures.written;
  small = below_more (λ r. (slice_index_or c.args.words.now r no_word).0 < 2 ^ 64) c.loop-row.row c.loop-row.invariant.small c.write_word.ensures.small;
}

pub returns-clause-written : goal.returns-clause-written
returns-clause-written c =
    let all : c.loop-row.row ≡ length c.args.words.now = omega arith in
    begun_all c.args.start c.args.words.now c.args.bytes.now c.loop-row.bytes (subst (λ n. Begun c.args.start n c.args.words.now c.args.bytes.now c.loop-row.bytes) all c.loop-row.invariant.written)
