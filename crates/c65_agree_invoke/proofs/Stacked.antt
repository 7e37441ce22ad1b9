-- A pointer that waits below the arguments of its call, and what waits above it.
use Rattle.std.proofs.Common.{◌≡◌, ℕ, ◌+◌, inl, inr, Bool, true, false, List, [], ◌∷◌, sym, ap, ◌∙◌, subst, arith}
use Rattle.c65_csem.specs.Trees.{Typed}
use Rattle.c65_csem_need.specs.Needs.{need}
use Rattle.c65_meaning.specs.Store.{Shape, Pointer, cell_of}
use Rattle.c65_meaning.specs.Items.{plan}
use Rattle.c65_code.specs.declared.parts.Part.{Part}
use Rattle.c65_code.specs.declared.parts.Part.TheVariants.{A, X, Y, Zp, N, V, Z, C}
use Rattle.c65_code.specs.LineState.{Bytes, State, Same, sp_of, eax_of, IsBytes}
use Rattle.c65_genexpr.specs.declared.wanted.Wanted.TheVariants as wanted
use Rattle.c65_genexpr.specs.Code.{expr_code}
use Rattle.c65_agree_store.specs.Laws.{byte_of}
use Rattle.c65_agree_store.specs.Stands.{Placing, CellIs}
use Rattle.c65_agree_state.specs.World.{World, unit_in, Active}
use Rattle.c65_agree_state.specs.Exprs.{Yield, Valued, yield_of, Does, shape_in, ExpressionDoes}
use Rattle.c65_agree_frame.specs.Ends.{IsPrimary}
use Rattle.c65_agree_argument.specs.Arguments.{Argument, LieAt, is_last, waiting_bytes, IsThere, AreThere}

-- ---- what waits

-- where the arguments that wait stay, with what is in the primary register, they are there
there_by : (last : Bool) (w : Placing) (t u : State) (at here : ℕ) (x : Argument) → at ≡ here → u.mem ≡ t.mem → eax_of u ≡ eax_of t → IsThere last w t at x → IsThere last w u here x
there_by true w t u at here x same mem value h = λ i lt. subst (λ n. CellIs w (cell_of x.value i) (byte_of i n)) (sym value) (h i lt)
there_by false w t u at here x same mem value h = subst (λ n. LieAt w u.mem n x.bytes x.value) same (λ o less. subst (λ (m : Bytes). CellIs w (cell_of x.value o) (m (at + o))) (sym mem) (h o less))

pub there_moves : (fast : Bool) (w : Placing) (t u : State) (xs : List Argument) → sp_of u ≡ sp_of t → u.mem ≡ t.mem → eax_of u ≡ eax_of t → AreThere fast w t xs → AreThere fast w u xs
there_moves fast w t u [] sp mem value h = tt
there_moves fast w t u (x ∷ xs) sp mem value h =
    let here : sp_of t + waiting_bytes fast xs ≡ sp_of u + waiting_bytes fast xs = omega (arith, sp) in
    (there_by (is_last fast xs) w t u (sp_of t + waiting_bytes fast xs) (sp_of u + waiting_bytes fast xs) x here mem value h.0, there_moves fast w t u xs sp mem value h.1)

-- what of the primary register is given behind a call is so where sp is raised
pub primary_stays : (u x : State) → IsBytes u → IsBytes x → eax_of x ≡ eax_of u → (part : Part) → IsPrimary part → Same part u x
primary_stays u x b d e A p = omega (arith, b.a, d.a, b.x, d.x, b.zp 2, d.zp 2, b.zp 3, d.zp 3, e)
primary_stays u x b d e X p = omega (arith, b.a, d.a, b.x, d.x, b.zp 2, d.zp 2, b.zp 3, d.zp 3, e)
primary_stays u x b d e (Zp i) (inl same) = let low : u.zp 2 ≡ x.zp 2 = omega (arith, b.a, d.a, b.x, d.x, b.zp 2, d.zp 2, b.zp 3, d.zp 3, e) in ap u.zp same ∙ (low ∙ sym (ap x.zp same))
primary_stays u x b d e (Zp i) (inr same) = let high : u.zp 3 ≡ x.zp 3 = omega (arith, b.a, d.a, b.x, d.x, b.zp 2, d.zp 2, b.zp 3, d.zp 3, e) in ap u.zp same ∙ (high ∙ sym (ap x.zp same))
primary_stays u x b d e Y p = absurd p
primary_stays u x b d e N p = absurd p
primary_stays u x b d e V p = absurd p
primary_stays u x b d e Z p = absurd p
primary_stays u x b d e C p = absurd p

pub same_then : (part : Part) (t u x : State) → Same part t u → Same part u x → Same part t x
same_then A t u x h k = h ∙ k
same_then X t u x h k = h ∙ k
same_then Y t u x h k = h ∙ k
same_then (Zp i) t u x h k = h ∙ k
same_then N t u x h k = h ∙ k
same_then V t u x h k = h ∙ k
same_then Z t u x h k = h ∙ k
same_then C t u x h k = h ∙ k

-- ---- the pointer

-- the lines of a pointer to a function
pub pointer_does : (g : World) (a : Active) (size : ℕ) (f : Typed) (pushed fresh : ℕ) → yield_of (unit_in g) f ≡ Valued → shape_in g a f ≡ Pointer size → ExpressionDoes g a f → Does g a Valued (Pointer size) (plan (unit_in g) f) (need f) pushed (expr_code a.frame pushed fresh wanted.Value f)
pointer_does g a size f pushed fresh valued shape does =
    subst (λ (s : Shape). Does g a Valued s (plan (unit_in g) f) (need f) pushed (expr_code a.frame pushed fresh wanted.Value f)) shape
    (subst (λ (y : Yield). Does g a y (shape_in g a f) (plan (unit_in g) f) (need f) pushed (expr_code a.frame pushed fresh wanted.Value f)) valued (does pushed fresh))
