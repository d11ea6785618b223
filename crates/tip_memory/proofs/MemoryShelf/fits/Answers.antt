use Rattle.std.proofs.Common.{◌≤◌, ◌+◌, ◌*◌, arith}
use Rattle.std.proofs.lemmas.Nat.{mul-le}
use Rattle.tip_code.proofs.Sizes.{facts}
use Rattle.tip_code.specs.Geometry.{prime_of, stripes_of}
use Rattle.tip_memory.proofs.MemoryShelf.fits.Goals as goal

pub overflow_mul-strips : goal.overflow_mul-strips
overflow_mul-strips g c =
    let l = c.layout-layout.result in
    let p = prime_of l.geometry in
    let strips : (p + 1) * stripes_of l.geometry ≤ 131072 = mul-le (p + 1) (stripes_of l.geometry) 32 4096 (omega (arith, l.high)) (omega arith) in
    let rows : c.rows.result ≤ 30 = omega (arith, (facts c.args.self.now.geometry.now).high, c.rows.ensures) in
    omega (arith, mul-le c.strips.result c.rows.result 131072 30 (omega (arith, c.strips.ensures, strips)) rows)
