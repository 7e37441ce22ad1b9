use Rattle.std.proofs.Common.{◌≡◌, ◌≤◌, ℕ, List, length, take, subst, sym, arith, rules}
use Rattle.c65_ppfile.specs.Finding.{BeginsAt, IsPiece}
use Rattle.c65_ppfile.proofs.Finding.{begins_at}
use Rattle.c65_ppfile.proofs.files.begin.Goals as goal

few : (size count long : ℕ) → count ≡ size → count ≤ long → long ≡ 4096 → size ≤ 4096
few size count long a b c = omega (arith, a, b, c)

pub returns-in-Ok-from_slice-clause-opens : goal.returns-in-Ok-from_slice-clause-opens
returns-in-Ok-from_slice-clause-opens g c =
    let front = take c.in-Ok.count c.read.new.into in
    let long : length c.read.new.into ≡ 4096 = search rules in
    let short : IsPiece front = few (length front) c.in-Ok.count (length c.read.new.into) c.in-Ok.ensures.bound.1 c.in-Ok.ensures.bound.0 long in (
      subst (λ (xs : List ℕ). BeginsAt (g.F.Files.contents c.args.files.now) c.args.path.now xs) (sym c.in-Ok-from_slice.ensures.items) (begins_at (g.F.Files.contents c.args.files.now) c.args.path.now c.read.new.into c.in-Ok.count c.in-Ok.ensures.bytes),
      subst (λ (xs : List ℕ). IsPiece xs) (sym c.in-Ok-from_slice.ensures.items) short,
    )
