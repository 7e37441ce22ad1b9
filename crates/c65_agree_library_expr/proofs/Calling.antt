-- The step of a call of a function of the library, whose arguments are there.
use Rattle.std.proofs.Common.{◌≡◌, ℕ, suc, ◌+◌, ◌<◌, ◌≤◌, ◌⊎◌, inl, inr, true, false, List, [], ◌∷◌, length, take, refl, sym, ap, ◌∙◌, subst, arith}
use Rattle.std.specs.Prelude.{Some, slice_get}
use Rattle.c65_base.specs.declared.library.Library.{Library}
use Rattle.c65_base.specs.declared.library.Library.TheVariants.{Putchar, Getchar, Puts, Exit, Memcpy, Memset, Strcmp, Strcpy, Strlen, Printf}
use Rattle.c65_ctype.specs.Trees.{Ty, QTy, type_in}
use Rattle.c65_csem.specs.Trees.{Nodes, FuncTy}
use Rattle.c65_meaning.specs.Store.{Cell, Value, Place, Shape}
use Rattle.c65_meaning.specs.Shapes.{shape_of, types_of}
use Rattle.c65_meaning.specs.Items.{Item, Invoke}
use Rattle.c65_meaning.specs.Calls.{named_count}
use Rattle.c65_meaning.specs.State.{Scene, Running}
use Rattle.c65_meaning.specs.Library.{effect_of}
use Rattle.c65_meaning.specs.Step.{taken, served, provided, cells_behind}
use Rattle.c65_mach.specs.declared.rows.Op.TheVariants.{Ldy}
use Rattle.c65_code.specs.declared.line.Line.{Line}
use Rattle.c65_code.specs.LineState.{State}
use Rattle.c65_code.specs.Placement.{IsPlacement}
use Rattle.c65_code.specs.Steady.{IsCalm}
use Rattle.c65_code.specs.Comes.{Seen}
use Rattle.c65_genwide.specs.Lines.{value}
use Rattle.c65_genexpr.specs.Types.{outcome_of}
use Rattle.c65_genexpr.specs.Calls.{result_code}
use Rattle.c65_agree_store.specs.Stands.{Placing, Banks}
use Rattle.c65_agree_state.specs.World.{World, unit_in, setting_in, Active, lines_of, place_in, HasTurns}
use Rattle.c65_agree_state.specs.Follows.{Follows}
use Rattle.c65_agree_state.specs.Exprs.{Ready}
use Rattle.c65_agree_state.proofs.Followed.{follows_weaken, steps_earn, ready_is_calm}
use Rattle.c65_agree_rows.proofs.Quiet.{nothing_follows}
use Rattle.c65_agree_library.specs.Calls.{IsLibraryCall, ArePassed, waiting_from, IsServed}
use Rattle.c65_agree_library.proofs.Exit.{exit_ends}
use Rattle.c65_agree_library_print.specs.Laws.{AreGiven}
use Rattle.c65_agree_library_call.specs.Laws.{HasFixed}
use Rattle.c65_agree_library_call.proofs.Called.{provided_or_not, library_calls_are_followed, printf_calls_are_followed}
use Rattle.c65_agree_argument.specs.Arguments.{Argument, AreArguments, waiting_bytes, AreThere, piled, IsOver}
use Rattle.c65_agree_argument.specs.Passed.{values_of}
use Rattle.c65_agree_invoke.specs.Targets.{IsReturned}
use Rattle.c65_agree_invoke.proofs.Taken.{values_are_taken}
use Rattle.c65_agree_library_expr.specs.Callees.{named_by, AreNamed, IsResultOf, IsLibraryFunction}
use Rattle.c65_agree_library_expr.proofs.Words.{AreWords}
use Rattle.c65_agree_library_expr.proofs.Refused.{Fails, words_or_none}
use Rattle.c65_agree_library_expr.proofs.Passed.{AreAll, all_named, as_many_wait, are_passed, AreFormatted, formatted}
use Rattle.c65_agree_library_expr.proofs.Returned.{returned}

-- a function of the library names three arguments at most
few_named : (l : Library) → named_by l ≤ 3
few_named Putchar = omega arith
few_named Getchar = omega arith
few_named Puts = omega arith
few_named Exit = omega arith
few_named Memcpy = omega arith
few_named Memset = omega arith
few_named Strcmp = omega arith
few_named Strcpy = omega arith
few_named Strlen = omega arith
few_named Printf = omega arith

module _ (g : World) (a : Active) (placed : IsPlacement g.code g.place) (i : ℕ) (l : Library) (function : FuncTy) (is : IsLibraryFunction g i l function) (t : QTy) (callee : Ty) (es : Nodes) (result : IsResultOf l (type_in t))
    (pushed count j w : ℕ) (k : List Item) (vs : List Value) (xs : List Argument) (c : Scene) (q : Placing) (b : Banks) (u : State) (c1 : Scene) (q1 : Placing) (b1 : Banks) (u1 : State) (seen : Seen) (args : AreArguments a.frame es xs) where
  abbrev shape : Shape
  shape = shape_of (unit_in g).types (type_in t)

  abbrev after : List Line
  after = result_code (outcome_of a.frame (type_in t))

  abbrev pub Behind : ℕ → Type 0
  Behind at = (o : ℕ) (r : Value) (c2 : Scene) (q2 : Placing) (b2 : Banks) (u2 : State) (later : Seen) → o < j → IsReturned g a pushed count shape after c q b u r c2 q2 b2 u2 → HasTurns g c2.turns (place_in g a at) later
      → Follows g o (w + 3112) (Running k (r ∷ vs) c2) (place_in g a at) u2 later

  abbrev work : List Item
  work = Invoke callee (types_of es) ∷ k

  abbrev pile : List Value
  pile = piled xs (Place i 0 ∷ vs)

  abbrev pub Goes : ℕ → Type 0
  Goes p = Follows g j (w + 2000) (Running work pile c1) (place_in g a p) u1 seen

  -- what the function is given
  abbrev n : ℕ
  n = named_count function.ty

  abbrev given : List Value
  given = take n (values_of xs)

  abbrev rest : List Cell
  rest = cells_behind (unit_in g) n (types_of es) (values_of xs)

  takes : taken (types_of es) [] pile ≡ Some (values_of xs, Place i 0 ∷ vs)
  takes = values_are_taken a.frame es xs (Place i 0 ∷ vs) args

  -- where the function has no meaning
  fails_go : (wait p : ℕ) → Ready g a wait 0 c1 q1 b1 u1 → HasTurns g c1.turns (place_in g a p) seen → Fails (effect_of c1 l given rest) → Goes p
  fails_go wait p ready turns fails =
      let calm : IsCalm (setting_in g) u1 = (ready_is_calm g a wait 0 c1 q1 b1 u1 ready).calm in
      provided_or_not g l callee (types_of es) function k (values_of xs) pile vs c1 i j (w + 2000) (place_in g a p) u1 seen takes is.is_function is.no_body is.library calm ready.joins.output ready.joins.ended (omega (arith, turns)) (λ step.
      steps_earn g j (w + 2000) (Invoke callee (types_of es)) k pile c1 (place_in g a p) u1 seen calm ready.joins.output ready.joins.ended (omega (arith, turns)) (λ m lt.
      subst (λ z. Follows g m (w + 2000 + 4000) z (place_in g a p) u1 seen) (sym (step ∙ ap (λ r. served l given rest k vs c1 r) fails.1)) (nothing_follows g fails.0 m (w + 2000 + 4000) (place_in g a p) u1 seen)))

  -- ---- functions that take no further arguments

  module _ (fixed : HasFixed l) (named : AreNamed (unit_in g) a.frame false (named_by l) es) (p : ℕ) (call : IsLibraryCall g a l p u1) (over : IsOver g a (count + waiting_bytes true xs) c q b u c1 q1 b1 u1)
      (ready : Ready g a (pushed + count + waiting_bytes true xs) 0 c1 q1 b1 u1) (there : AreThere true q1 u1 xs) (turns : HasTurns g c1.turns (place_in g a p) seen) where
    all : AreAll (named_by l) xs
    all = all_named (unit_in g) a.frame (named_by l) es xs named args

    same : given ≡ values_of xs
    same = ap (λ m. take m (values_of xs)) is.names ∙ all.named

    waits : waiting_bytes true xs ≡ waiting_from given
    waits = as_many_wait xs all.bytes ∙ ap waiting_from (sym same)

    ready_given : Ready g a (pushed + count + waiting_from given) 0 c1 q1 b1 u1
    ready_given = subst (λ m. Ready g a (pushed + count + m) 0 c1 q1 b1 u1) waits ready

    passed : AreWords given → ArePassed q1 given u1
    passed words = subst (λ ws. ArePassed q1 ws u1) (sym same) (are_passed q1 u1 xs all.bytes (omega (arith, all.count, few_named l)) (subst AreWords same words) ready.joins.bytes there)

    ends_go : l ≡ Exit → AreWords given → Goes p
    ends_go e words =
        let calm : IsCalm (setting_in g) u1 = (ready_is_calm g a (pushed + count + waiting_bytes true xs) 0 c1 q1 b1 u1 ready).calm in
        provided_or_not g l callee (types_of es) function k (values_of xs) pile vs c1 i j (w + 2000) (place_in g a p) u1 seen takes is.is_function is.no_body is.library calm ready.joins.output ready.joins.ended (omega (arith, turns)) (λ step.
        exit_ends g a (pushed + count) 0 c1 q1 b1 u1 j (w + 2000) p (Invoke callee (types_of es)) k given pile vs rest seen placed (subst (λ f. IsLibraryCall g a f p u1) e call) ready_given (passed words) turns (step ∙ ap (λ f. provided f given rest k vs c1) e))

    words_go : (l ≡ Exit → ⊥) → AreWords given → Behind (suc p) → Goes p
    words_go on words behind =
        library_calls_are_followed l fixed g a (pushed + count) 0 c1 q1 b1 u1 j (w + 2000) p i callee (types_of es) function k (values_of xs) pile vs seen placed call takes is.is_function is.no_body is.library ready_given (passed words) turns (λ o r c2 x later lt served turns2.
        follows_weaken g o (w + 3112) (w + 2000 + 2600) (Running k (r ∷ vs) c2) (place_in g a (suc p)) x later (omega arith)
        (behind o r c2 q1 b1 x later lt (returned g a l t placed on result pushed count (waiting_from given) c c1 c2 q q1 b b1 u u1 x r (subst (λ m. IsOver g a (count + m) c q b u c1 q1 b1 u1) waits over) served) turns2))

    pub fixed_goes : Behind (suc p) → Goes p
    fixed_goes behind = go (words_or_none c1 l given rest)
      where
        is_exit : (f : Library) → (f ≡ Exit) ⊎ (f ≡ Exit → ⊥)
        is_exit Exit = inl refl
        is_exit Putchar = inr (λ e. cc)
        is_exit Getchar = inr (λ e. cc)
        is_exit Puts = inr (λ e. cc)
        is_exit Memcpy = inr (λ e. cc)
        is_exit Memset = inr (λ e. cc)
        is_exit Strcmp = inr (λ e. cc)
        is_exit Strcpy = inr (λ e. cc)
        is_exit Strlen = inr (λ e. cc)
        is_exit Printf = inr (λ e. cc)

        by : AreWords given → (l ≡ Exit) ⊎ (l ≡ Exit → ⊥) → Goes p
        by words (inl e) = ends_go e words
        by words (inr on) = words_go on words behind

        go : AreWords given ⊎ Fails (effect_of c1 l given rest) → Goes p
        go (inl words) = by words (is_exit l)
        go (inr fails) = fails_go (pushed + count + waiting_bytes true xs) p ready turns fails

  -- ---- `printf`, behind the line that counts its arguments

  module _ (is_printf : l ≡ Printf) (named : AreNamed (unit_in g) a.frame true 1 es) (p : ℕ) (counts : slice_get (lines_of g a) p ≡ Some (value Ldy (waiting_bytes false xs))) (few : waiting_bytes false xs < 256) (call : IsLibraryCall g a Printf (suc p) u1)
      (over : IsOver g a (count + waiting_bytes false xs) c q b u c1 q1 b1 u1) (ready : Ready g a (pushed + count + waiting_bytes false xs) 0 c1 q1 b1 u1) (there : AreThere false q1 u1 xs) (turns : HasTurns g c1.turns (place_in g a p) seen) where
    one : n ≡ 1
    one = is.names ∙ ap named_by is_printf

    text : AreFormatted (unit_in g) q1 u1 (types_of es) (values_of xs) (waiting_bytes false xs)
    text = formatted (unit_in g) a.frame q1 u1 es xs named args there

    same_rest : rest ≡ cells_behind (unit_in g) 1 (types_of es) (values_of xs)
    same_rest = ap (λ m. cells_behind (unit_in g) m (types_of es) (values_of xs)) one

    format_named : given ≡ text.format ∷ []
    format_named = ap (λ m. take m (values_of xs)) one ∙ text.named

    waits_so : waiting_bytes false xs ≡ length rest + 2
    waits_so = sym text.count ∙ ap (λ r. length r + 2) (sym same_rest)

    text_given : AreWords given → AreGiven q1 text.format rest u1
    text_given words = subst (λ r. AreGiven q1 text.format r u1) (sym same_rest) (text.given (subst AreWords format_named words) ready.joins.bytes)

    text_goes : AreWords given → Behind (suc (suc p)) → Goes p
    text_goes words behind =
        let still : IsOver g a (count + (length rest + 2)) c q b u c1 q1 b1 u1 = subst (λ m. IsOver g a (count + m) c q b u c1 q1 b1 u1) waits_so over in
        follows_weaken g j (1 + (w + 1999)) (w + 2000) (Running work pile c1) (place_in g a p) u1 seen (omega arith)
        (printf_calls_are_followed g a (pushed + count) 0 c1 q1 b1 u1 j (w + 1999) p i callee (types_of es) function k (values_of xs) pile vs text.format seen placed
        (subst (λ m. slice_get (lines_of g a) p ≡ Some (value Ldy m)) waits_so counts) call (omega (arith, waits_so, few)) takes is.is_function is.no_body (is.library ∙ ap Some is_printf) format_named
        (subst (λ m. Ready g a (pushed + count + m) 0 c1 q1 b1 u1) waits_so ready) (text_given words) turns (λ o r c2 x later lt served turns2.
        follows_weaken g o (w + 3112) (w + 1999 + 2600) (Running k (r ∷ vs) c2) (place_in g a (suc (suc p))) x later (omega arith)
        (behind o r c2 q1 b1 x later lt (returned g a l t placed (λ e. no_exit is_printf e) result pushed count (length rest + 2) c c1 c2 q q1 b b1 u u1 x r still (subst (λ f. IsServed g a f (pushed + count) 0 (length rest + 2) c1 q1 b1 u1 r c2 x) (sym is_printf) served)) turns2)))
      where
        no_exit : {f : Library} → f ≡ Printf → f ≡ Exit → ⊥
        no_exit e h = let clash : Printf ≡ Exit = sym e ∙ h in cc

    pub printf_goes : Behind (suc (suc p)) → Goes p
    printf_goes behind = go (words_or_none c1 l given rest)
      where
        go : AreWords given ⊎ Fails (effect_of c1 l given rest) → Goes p
        go (inl words) = text_goes words behind
        go (inr fails) = fails_go (pushed + count + waiting_bytes false xs) p ready turns fails
