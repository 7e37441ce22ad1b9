use Rattle.std.proofs.Common.{subst, sym}
use Rattle.c65_ctype.specs.declared.types.TagTable.{TagTable}
use Rattle.c65_ctype.specs.Views.{types_of}
use Rattle.c65_ctype.specs.Tables.{IsLaid, IsTable}
use Rattle.c65_ctype.proofs.TableLaws.{laid_at}
use Rattle.c65_ctype.proofs.table.Types.+size.Goals as goal

pub returns-in-Some-clause-small : goal.returns-in-Some-clause-small
returns-in-Some-clause-small t c =
    let stands = subst (λ (x : TagTable). IsTable (types_of x)) c.self.view_is c.self.invariant in
    subst IsLaid (sym c.in-Some.ensures) (laid_at (types_of c.args.self.now) c.in-Struct.tag stands)
