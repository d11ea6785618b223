-- Where the words differ, the sets differ.
use Rattle.std.proofs.Common.{arith}
use Rattle.std.proofs.lemmas.Bool.Decides.{nat_tests}
use Rattle.tip_element.proofs.Sets.{trace_same}
use Rattle.tip_cover.proofs.Finding.agrees.Goals as goal

pub returns-else-eq : goal.returns-else-eq
returns-else-eq c =
    let f = c.args.self in
    record {
      sound = λ e. cc;
      whole = λ both.
          let same = trace_same f.found f.expected (omega arith) (omega arith) (omega arith) (omega arith) both.0 in
          grind (arith, nat_tests, same);
    }
