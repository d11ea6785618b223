-- Words: 64 bits, joined by exclusive or.
use Rattle.std.proofs.Common.{ap}
use Rattle.std.specs.Prelude.{ℕ, bit_xor, refl}
use Rattle.std.specs.Int.Bits.{xor_assoc, xor_self}
use Rattle.std.proofs.lemmas.Nat.{xor_comm}
use Rattle.tip_element.specs.Laws.{Laws}
use Rattle.tip_element.specs.declared.word.Word.{Word}

abbrev pub word : ℕ → Word
word n = record { 0 = n }

abbrev pub no_word : Word
no_word = word 0

abbrev pub word_join : Word → Word → Word
word_join x y = word (bit_xor x.0 y.0)

pub word_laws : Laws no_word word_join
word_laws = record {
  assoc = λ x y z. ap word (xor_assoc x.0 y.0 z.0);
  comm = λ x y. ap word (xor_comm x.0 y.0);
  neutral = λ x. refl;
  cancel = λ x. ap word (xor_self x.0);
}
