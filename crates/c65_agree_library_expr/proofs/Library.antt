-- The lines that call a function of the library, which count what they pass where it takes further arguments.
use Rattle.std.proofs.Common.{◌≡◌, ℕ, suc, ◌+◌, ◌≤◌, Bool, true, false, List, length, refl, sym, ap, ◌∙◌, subst, arith}
use Rattle.std.specs.Prelude.{not, Some, slice_get}
use Rattle.c65_base.specs.declared.library.Library.{Library}
use Rattle.c65_base.specs.declared.library.Library.TheVariants.{Putchar, Getchar, Puts, Exit, Memcpy, Memset, Strcmp, Strcpy, Strlen, Printf}
use Rattle.c65_ctype.specs.Trees.{Ty, QTy, type_in}
use Rattle.c65_csem.specs.Library.{takes_more}
use Rattle.c65_csem.specs.Trees.{Nodes, FuncTy}
use Rattle.c65_meaning.specs.Store.{Value}
use Rattle.c65_meaning.specs.Items.{Item}
use Rattle.c65_meaning.specs.State.{Scene}
use Rattle.c65_mach.specs.declared.rows.Op.TheVariants.{Ldy}
use Rattle.c65_code.specs.LineState.{State}
use Rattle.c65_code.specs.Placement.{IsPlacement}
use Rattle.c65_code.specs.Comes.{Seen}
use Rattle.c65_genwide.specs.Lines.{value}
use Rattle.c65_genexpr.specs.declared.arguments.Passed.{Passed}
use Rattle.c65_genexpr.specs.Arguments.{is_fast, is_counted, passed_of}
use Rattle.c65_genexpr.specs.Calls.{count_code}
use Rattle.c65_agree_store.specs.Stands.{Placing, Banks}
use Rattle.c65_agree_state.specs.World.{World, unit_in, Active, lines_of, place_in, HasAt, HasTurns}
use Rattle.c65_agree_state.specs.Exprs.{Ready}
use Rattle.c65_agree_library.specs.Calls.{IsLibraryCall}
use Rattle.c65_agree_library_call.specs.Laws.{HasFixed}
use Rattle.c65_agree_argument.specs.Arguments.{Argument, AreArguments, waiting_bytes, AreThere, IsOver}
use Rattle.c65_agree_invoke.specs.Nodes.{sizes_of}
use Rattle.c65_agree_library_expr.specs.Callees.{named_by, AreNamed, FitsLibrary, IsLibraryFunction}
use Rattle.c65_agree_invoke.proofs.Counts.{stacked_wait, wait_most}
use Rattle.c65_agree_library_expr.proofs.Calling.{Behind, Goes, fixed_goes, printf_goes}

is_fixed : (l : Library) → takes_more l ≡ false → HasFixed l
is_fixed Putchar e = tt
is_fixed Getchar e = tt
is_fixed Puts e = tt
is_fixed Exit e = tt
is_fixed Memcpy e = tt
is_fixed Memset e = tt
is_fixed Strcmp e = tt
is_fixed Strcpy e = tt
is_fixed Strlen e = tt
is_fixed Printf e = cc

is_printf : (l : Library) → takes_more l ≡ true → l ≡ Printf
is_printf Putchar e = cc
is_printf Getchar e = cc
is_printf Puts e = cc
is_printf Exit e = cc
is_printf Memcpy e = cc
is_printf Memset e = cc
is_printf Strcmp e = cc
is_printf Strcpy e = cc
is_printf Strlen e = cc
is_printf Printf e = refl

module _ (g : World) (a : Active) (placed : IsPlacement g.code g.place) (i : ℕ) (l : Library) (function : FuncTy) (is : IsLibraryFunction g i l function) (t : QTy) (callee : Ty) (es : Nodes) (few : sizes_of a.frame es ≤ 250) (fits : FitsLibrary (unit_in g) a.frame l (type_in t) callee es)
    (pushed count j w : ℕ) (k : List Item) (vs : List Value) (xs : List Argument) (c : Scene) (q : Placing) (b : Banks) (u : State) (c1 : Scene) (q1 : Placing) (b1 : Banks) (u1 : State) (seen : Seen) (args : AreArguments a.frame es xs) (p : ℕ) (turns : HasTurns g c1.turns (place_in g a p) seen) where
  abbrev what : Bool → Passed
  what fast = passed_of a.frame fast es

  abbrev at : Bool → Bool → ℕ
  at fast counted = p + length (count_code counted (what fast))

  abbrev IsBehind : ℕ → Type 0
  IsBehind m = Behind g a placed i l function is t callee es fits.result pushed count j w k vs xs c q b u c1 q1 b1 u1 seen args m

  abbrev DoesGo : ℕ → Type 0
  DoesGo m = Goes g a placed i l function is t callee es fits.result pushed count j w k vs xs c q b u c1 q1 b1 u1 seen args m

  by : (fast counted more : Bool) → fast ≡ not more → counted ≡ more → takes_more l ≡ more → AreNamed (unit_in g) a.frame more (named_by l) es
      → HasAt (lines_of g a) p (count_code counted (what fast)) → IsLibraryCall g a l (at fast counted) u1 → IsOver g a (count + waiting_bytes fast xs) c q b u c1 q1 b1 u1 → Ready g a (pushed + count + waiting_bytes fast xs) 0 c1 q1 b1 u1
      → AreThere fast q1 u1 xs → IsBehind (suc (at fast counted)) → DoesGo p
  by true true more e f m named has call over ready there behind = let clash : false ≡ true = sym (ap not (sym f)) ∙ sym e in cc
  by true false true e f m named has call over ready there behind = cc
  by true false false e f m named has call over ready there behind =
      let same : p + 0 ≡ p = omega arith in
      fixed_goes g a placed i l function is t callee es fits.result pushed count j w k vs xs c q b u c1 q1 b1 u1 seen args (is_fixed l m) named p (subst (λ z. IsLibraryCall g a l z u1) same call) over ready there turns (subst (λ z. IsBehind (suc z)) same behind)
  by false counted false e f m named has call over ready there behind = cc
  by false false true e f m named has call over ready there behind = cc
  by false true true e f m named has call over ready there behind =
      let same : p + 1 ≡ suc p = omega arith in
      let is_it : l ≡ Printf = is_printf l m in
      let wait : (what false).stacked ≡ waiting_bytes false xs = stacked_wait a.frame false es xs few args in
      printf_goes g a placed i l function is t callee es fits.result pushed count j w k vs xs c q b u c1 q1 b1 u1 seen args is_it (subst (λ m. AreNamed (unit_in g) a.frame true m es) (ap named_by is_it) named) p
      (subst (λ m. slice_get (lines_of g a) p ≡ Some (value Ldy m)) wait has.0) (omega (arith, few, wait_most a.frame false es xs args)) (subst (λ f. IsLibraryCall g a f (suc p) u1) is_it (subst (λ z. IsLibraryCall g a l z u1) same call))
      over ready there turns (subst (λ z. IsBehind (suc z)) same behind)

  -- The step goes on from the first of these lines.
  pub library_goes : HasAt (lines_of g a) p (count_code (is_counted callee) (what (is_fast callee))) → IsLibraryCall g a l (at (is_fast callee) (is_counted callee)) u1 → IsOver g a (count + waiting_bytes (is_fast callee) xs) c q b u c1 q1 b1 u1
      → Ready g a (pushed + count + waiting_bytes (is_fast callee) xs) 0 c1 q1 b1 u1 → AreThere (is_fast callee) q1 u1 xs → IsBehind (suc (at (is_fast callee) (is_counted callee))) → DoesGo p
  library_goes has call over ready there behind = by (is_fast callee) (is_counted callee) (takes_more l) fits.fast fits.counted refl fits.taken has call over ready there behind
