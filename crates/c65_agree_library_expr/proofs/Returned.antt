-- Behind a call of a function of the library.
use Rattle.std.proofs.Common.{◌≡◌, ℕ, ◌+◌, ◌<◌, ◌≤◌, refl, sym, ◌∙◌, subst, arith}
use Rattle.c65_base.specs.declared.library.Library.{Library}
use Rattle.c65_base.specs.declared.library.Library.TheVariants.{Putchar, Getchar, Puts, Exit, Memcpy, Memset, Strcmp, Strcpy, Strlen, Printf}
use Rattle.c65_ints.specs.declared.types.IntType.TheVariants.{Int, UInt}
use Rattle.c65_ctype.specs.Trees.{Ty, int, pointer, QTy, TypesTy, type_in}
use Rattle.c65_ctype.specs.Sizes.{size_of}
use Rattle.c65_meaning.specs.Store.{Value, Whole, Null, Place, Opaque, Cells, NoValue, Shape, Number, Field, Pointer, Area}
use Rattle.c65_meaning.specs.Fits.{Fits}
use Rattle.c65_meaning.specs.Shapes.{shape_of}
use Rattle.c65_meaning.specs.State.{Scene}
use Rattle.c65_code.specs.declared.routine.Width.TheVariants.{Ax}
use Rattle.c65_code.specs.LineState.{State, Same, sp_of, ax_of}
use Rattle.c65_code.specs.declared.parts.Part.{Part}
use Rattle.c65_code.specs.declared.parts.Part.TheVariants.{A, X, Y, Zp, N, V, Z, C}
use Rattle.c65_code.specs.Moves.{common_of}
use Rattle.c65_code.specs.Placement.{IsPlacement}
use Rattle.c65_genexpr.specs.Types.{outcome_of}
use Rattle.c65_genexpr.specs.Calls.{result_code}
use Rattle.c65_agree_store.specs.Stands.{At, Placing, Banks, ValueIs, IsFree}
use Rattle.c65_agree_state.specs.World.{World, unit_in, Active}
use Rattle.c65_agree_state.specs.Exprs.{Valued, MayFit, ResultIs, width_in}
use Rattle.c65_agree_put.specs.Laws.{IsScalar}
use Rattle.c65_agree_put.specs.Puts.{AreTaken}
use Rattle.c65_agree_put.proofs.Fits.{may_fit}
use Rattle.c65_agree_library.specs.Calls.{Gives, IsServed}
use Rattle.c65_agree_argument.specs.Arguments.{IsOver}
use Rattle.c65_agree_invoke.specs.Nodes.{gives_in}
use Rattle.c65_agree_invoke.specs.Targets.{IsReturned}
use Rattle.c65_agree_invoke.proofs.Results.{scalars_come_back}
use Rattle.c65_agree_library_expr.specs.Callees.{IsResultOf}

-- ---- what waited is taken off

over_taken : (g : World) (a : Active) (pushed needs count wait : ℕ) (c c1 c2 : Scene) (q q1 : Placing) (b b1 : Banks) (t u x : State) → IsOver g a (count + wait) c q b t c1 q1 b1 u → AreTaken g a pushed needs wait c1 q1 b1 u c2 b1 x → IsOver g a count c q b t c2 q1 b1 x
over_taken g a pushed needs count wait c c1 c2 q q1 b b1 t u x o h = record {
  joins = h.ready.joins;
  sp = omega (arith, o.sp, h.sp);
  frames = h.frames ∙ o.frames;
  next = omega (arith, o.next, h.next);
  bounds = λ d lt. h.bounds d ∙ o.bounds d lt;
  grows = o.grows;
  kept = bytes;
  banks = λ d i lt. h.banks d i lt ∙ o.banks d i lt;
  own_bank = λ i le. h.own_bank i le ∙ o.own_bank i le;
  none_pushed = h.ready.none_pushed;
}
  where
    bytes : (n : ℕ) → sp_of t ≤ n → IsFree c.store q (At n) → (x.mem n ≡ t.mem n) × IsFree c2.store q1 (At n)
    bytes n le f =
        let one = o.kept n le f in
        let two = h.kept n (omega (arith, le, o.sp)) one.1 in
        (two.0 ∙ one.0, two.1)

-- ---- the result

-- a value of a scalar type stands in AX
pub record IsHeldResult (types : TypesTy) (w : Placing) (t : Ty) (v : Value) (u : State) : Type 0 where
  pub scalar : IsScalar (shape_of types t)
  pub fits : MayFit Valued (shape_of types t) v
  pub value : ResultIs Valued w (width_in (shape_of types t)) v u

word_result : (w : Placing) (f : Shape) (v : Value) (u : State) → width_in f ≡ Ax → Fits f v → IsScalar f → ValueIs w 65536 v (ax_of u) → ResultIs Valued w (width_in f) v u
word_result w f (Whole z) u same fits s is = subst (λ x. ResultIs Valued w x (Whole z) u) (sym same) is
word_result w f Null u same fits s is = subst (λ x. ResultIs Valued w x Null u) (sym same) is
word_result w f (Place b o) u same fits s is = subst (λ x. ResultIs Valued w x (Place b o) u) (sym same) is
word_result w f Opaque u same fits s is = tt
word_result w f NoValue u same fits s is = tt
word_result w (Number kind) (Cells xs) u same fits s is = absurd fits
word_result w (Pointer size) (Cells xs) u same fits s is = absurd fits
word_result w (Field kind low width) (Cells xs) u same fits s is = absurd s
word_result w (Area size) (Cells xs) u same fits s is = absurd s

held_as : (types : TypesTy) (w : Placing) (t s : Ty) (v : Value) (u : State) → t ≡ s → IsHeldResult types w s v u → IsHeldResult types w t v u
held_as types w t s v u e h = subst (λ x. IsHeldResult types w x v u) (sym e) h

int_held : (types : TypesTy) (w : Placing) (v : Value) (u : State) → Fits (Number Int) v → ValueIs w 65536 v (ax_of u) → IsHeldResult types w (int Int) v u
int_held types w v u fits is = record { scalar = tt; fits = may_fit (Number Int) v tt fits; value = word_result w (Number Int) v u refl fits tt is }

count_held : (types : TypesTy) (w : Placing) (v : Value) (u : State) → Fits (Number UInt) v → ValueIs w 65536 v (ax_of u) → IsHeldResult types w (int UInt) v u
count_held types w v u fits is = record { scalar = tt; fits = may_fit (Number UInt) v tt fits; value = word_result w (Number UInt) v u refl fits tt is }

place_held : (types : TypesTy) (w : Placing) (q : QTy) (v : Value) (u : State) → ((size : ℕ) → Fits (Pointer size) v) → ValueIs w 65536 v (ax_of u) → IsHeldResult types w (pointer q) v u
place_held types w q v u fits is =
    let size : ℕ = size_of types (type_in q) in
    record { scalar = tt; fits = may_fit (Pointer size) v tt (fits size); value = word_result w (Pointer size) v u refl (fits size) tt is }

pub result_held : (l : Library) (types : TypesTy) (w : Placing) (t : Ty) (v : Value) (u : State) → (l ≡ Exit → ⊥) → IsResultOf l t → Gives l v → ValueIs w 65536 v (ax_of u) → IsHeldResult types w t v u
result_held Putchar types w t v u on r fits is = held_as types w t (int Int) v u r (int_held types w v u fits is)
result_held Getchar types w t v u on r fits is = held_as types w t (int Int) v u r (int_held types w v u fits is)
result_held Puts types w t v u on r fits is = held_as types w t (int Int) v u r (int_held types w v u fits is)
result_held Exit types w t v u on r fits is = absurd (on refl)
result_held Memcpy types w t v u on r fits is = held_as types w t (pointer r.0) v u r.1 (place_held types w r.0 v u fits is)
result_held Memset types w t v u on r fits is = held_as types w t (pointer r.0) v u r.1 (place_held types w r.0 v u fits is)
result_held Strcmp types w t v u on r fits is = held_as types w t (int Int) v u r (int_held types w v u fits is)
result_held Strcpy types w t v u on r fits is = held_as types w t (pointer r.0) v u r.1 (place_held types w r.0 v u fits is)
result_held Strlen types w t v u on r fits is = held_as types w t (int UInt) v u r (count_held types w v u fits is)
result_held Printf types w t v u on r fits is = held_as types w t (int Int) v u r (int_held types w v u fits is)

-- ---- behind the call

same_self : (part : Part) (t : State) → Same part t t
same_self A t = refl
same_self X t = refl
same_self Y t = refl
same_self (Zp i) t = refl
same_self N t = refl
same_self V t = refl
same_self Z t = refl
same_self C t = refl

-- what its lines bring to the primary register is there already
pub returned : (g : World) (a : Active) (l : Library) (t : QTy) → IsPlacement g.code g.place → (l ≡ Exit → ⊥) → IsResultOf l (type_in t)
    → (pushed count wait : ℕ) (c c1 c2 : Scene) (q q1 : Placing) (b b1 : Banks) (u u1 x : State) (r : Value)
    → IsOver g a (count + wait) c q b u c1 q1 b1 u1 → IsServed g a l (pushed + count) 0 wait c1 q1 b1 u1 r c2 x
    → IsReturned g a pushed count (shape_of (unit_in g).types (type_in t)) (result_code (outcome_of a.frame (type_in t))) c q b u r c2 q1 b1 x
returned g a l t placed on result pushed count wait c c1 c2 q q1 b b1 u u1 x r over served =
    let held : IsHeldResult (unit_in g).types q1 (type_in t) r x = result_held l (unit_in g).types q1 (type_in t) r x on result served.gives served.value in
    record {
      over = over_taken g a (pushed + count) 0 count wait c c1 c2 q q1 b b1 u u1 x over served.taken;
      ready = served.taken.ready;
      fits = held.fits;
      common = common_of (gives_in a.frame t) (gives_in a.frame t);
      comes = scalars_come_back g a t (gives_in a.frame t) placed held.scalar refl;
      last = x;
      value = held.value;
      given = λ part primary there. same_self part x;
    }
