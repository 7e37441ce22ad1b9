-- The value that a function gives.
use Rattle.std.proofs.Common.{◌≡◌, ◌∙◌, false, refl, sym, ap, Ok, Err}
use Rattle.std.specs.Prelude.{Result, if◌then◌else◌}
use Rattle.c65_base.specs.declared.code.Code.TheVariants.{ReturnValue}
use Rattle.c65_base.specs.declared.refusal.Pos.{Pos}
use Rattle.c65_base.specs.Answers.{Fault, at, ◌>>=◌}
use Rattle.c65_ctype.specs.Trees.{Ty, TypesTy}
use Rattle.c65_csem.specs.Trees.{Typed}
use Rattle.c65_fold.specs.Folded.{folded}
use Rattle.c65_elab_convert.specs.Structures.{packed_of}
use Rattle.c65_elab_convert.specs.Changes.{assigned_of}
use Rattle.c65_elab_scope.specs.Scopes.{ScopeTy}
use Rattle.c65_tree.specs.Trees.{ExprTree}
use Rattle.c65_elab.specs.Typing.{typed}
use Rattle.c65_elab.proofs.Walks.{then_ok}
use Rattle.c65_init.specs.Values.{is_void, given_as, given_by}

abbrev folded_in : ScopeTy → Typed → Result (Typed × ScopeTy) Fault
folded_in u e = Ok (folded (packed_of e), u)

not_void : (t : Ty) (p : Pos) (x : Typed) (u : ScopeTy) → is_void t ≡ false → given_as t p (x, u) ≡ (assigned_of u.unit.types p t x >>= folded_in u)
not_void t p x u some = ap (λ b. if b then Err (at ReturnValue p) else (assigned_of u.unit.types p t x >>= folded_in u)) some

pub gift_given : (t : Ty) (e : ExprTree) (p : Pos) (s u : ScopeTy) (x v : Typed) (types : TypesTy) → is_void t ≡ false → typed e s ≡ Ok (x, u) → types ≡ u.unit.types → assigned_of types p t x ≡ Ok v → given_by t e p s ≡ Ok (folded (packed_of v), u)
gift_given t e p s u x v types some done same given =
    then_ok (typed e s) (x, u) (given_as t p) (Ok (folded (packed_of v), u)) done
    (not_void t p x u some ∙ then_ok (assigned_of u.unit.types p t x) v (folded_in u) (Ok (folded (packed_of v), u)) (ap (λ (w : TypesTy). assigned_of w p t x) (sym same) ∙ given) refl)
