use Rattle.std.proofs.Common.{rules}
use Rattle.tip_lose.proofs.Asking.{gathered_more, numbers_more, all_read}
use Rattle.tip_lose.proofs.request.columns.Goals as goal

pub loop-before-preserved : goal.loop-before-preserved
loop-before-preserved c = record {
  numbers = numbers_more c.args.words.now c.loop-before.before c.in_ok-column.column c.index-words-before.result (search rules) (search rules) (search rules) c.loop-before.invariant.numbers;
  gathered = gathered_more c.args.words.now c.loop-before.before c.in_ok-column.column c.index-words-before.result _ _ (search rules) (search rules) (search rules) c.loop-before.invariant.gathered c.with-all.ensures;
}

pub returns : goal.returns
returns c = all_read _ _ _ (search rules) c.loop-before.invariant.numbers c.loop-before.invariant.gathered
