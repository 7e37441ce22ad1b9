-- The main function of a scoped program gives a number.
use Rattle.std.proofs.Common.{◌≡◌, true, Option, refl, subst}
use Rattle.std.specs.Prelude.{IsTrue}
use Rattle.c65_ints.specs.declared.types.IntType.TheVariants.{Int}
use Rattle.c65_ctype.specs.Trees.{Ty, int, QTy, qual, type_in}
use Rattle.c65_csem.specs.Places.{plain_of}
use Rattle.c65_csem.specs.Trees.{FuncTy}
use Rattle.c65_csem.specs.Typed.{result_of}
use Rattle.c65_meaning.specs.Program.{ProgramTy}
use Rattle.c65_csem_names.specs.Programs.{is_int, Starts, IsScopedProgram}
use Rattle.c65_meaning_law.proofs.Stacks.{arithmetic, kind_passed}
use Rattle.c65_meaning_law.proofs.Whole.{MainGivesNumber}

int_kind : (t : Ty) → IsTrue (is_int t) → kind_passed t ≡ arithmetic true
int_kind (int Int) h = refl
int_kind _ h = absurd (cc)

plain_kind : (q : QTy) → IsTrue (is_int (type_in q)) → kind_passed (type_in (plain_of q)) ≡ arithmetic true
plain_kind (qual t c v) h = int_kind t h

pub main_gives_number : (p : ProgramTy) → IsScopedProgram p.unit p.main → MainGivesNumber p
main_gives_number p s g e = plain_kind (result_of g.ty) (subst (λ (o : Option FuncTy). Starts p.unit o) e s.start).1
