-- `-` and `~` on a number (C90 6.3.3.3).
use Rattle.std.proofs.Common.{◌≡◌, ℕ, ◌<◌, ◌≤◌, [], ◌∷◌, ℤ, true, false, refl, sym, ap, ◌∙◌, subst, arith}
use Rattle.std.specs.Prelude.{Ok}
use Rattle.c65_base.specs.declared.operators.UnaryOp.{UnaryOp}
use Rattle.c65_base.specs.declared.operators.UnaryOp.TheVariants as ops
use Rattle.c65_ints.specs.declared.types.IntType.{IntType}
use Rattle.c65_csem.specs.Places.{is_promoted}
use Rattle.c65_meaning.specs.Integers.{negated_of, complement_of}
use Rattle.c65_meaning.specs.Store as values
use Rattle.c65_meaning.specs.Store.{Store, Value, Whole, Null, Opaque, Cells, NoValue, Number}
use Rattle.c65_meaning.specs.Items.{Apply1}
use Rattle.c65_meaning.specs.Operators.{unary}
use Rattle.c65_meaning.specs.Fits.{Fits, unary_shape}
use Rattle.c65_meaning.specs.State.{Scene}
use Rattle.c65_meaning.proofs.Fitting.{unary_operators_fit}
use Rattle.c65_code.specs.declared.routine.Routine.TheVariants as routines
use Rattle.c65_code.specs.declared.routine.UnaryRoutine.{UnaryRoutine}
use Rattle.c65_code.specs.declared.routine.UnaryRoutine.TheVariants.{Neg, Compl}
use Rattle.c65_code.specs.declared.routine.Width.{Width}
use Rattle.c65_code.specs.declared.routine.Width.TheVariants.{Ax, Eax}
use Rattle.c65_code.specs.LineState.{State}
use Rattle.c65_code.specs.Numbers.{words_of, unary_result, unary_width}
use Rattle.c65_code.specs.Placement.{IsPlacement}
use Rattle.c65_code.specs.Rows.{row_of, row_by, giving, costing, primary_of}
use Rattle.c65_code.specs.Weights.{row_cost}
use Rattle.c65_genwide.specs.Lines.{call}
use Rattle.c65_genwide.specs.Wide.{width_of}
use Rattle.c65_genexpr.specs.Operands.{unary_code}
use Rattle.c65_agree_store.specs.Stands.{Placing, Banks}
use Rattle.c65_agree_numbers.specs.Words.{word_of}
use Rattle.c65_agree_numbers.proofs.Operators.{opposites_are_on_words}
use Rattle.c65_agree_numbers.proofs.Residues.{word_below}
use Rattle.c65_agree_state.specs.World.{World, Active}
use Rattle.c65_agree_state.specs.Exprs.{Ready, Valued, MayFit, ResultIs}
use Rattle.c65_agree_rows.specs.Laws.{IsKeptWith}
use Rattle.c65_agree_rows.proofs.Families.{opposites_run}
use Rattle.c65_agree_frame.specs.Leads.{Leads}
use Rattle.c65_agree_frame.proofs.Leads.{leads_as}
use Rattle.c65_agree_load.proofs.Kept.{runs_lead}
use Rattle.c65_agree_put.proofs.Fits.{may_fit}
use Rattle.c65_agree_operate.specs.Manners.{Manner}
use Rattle.c65_agree_operate.specs.Laws.{IsOpposite, OppositesDo}
use Rattle.c65_agree_operate.proofs.Manners.{left_scene}
use Rattle.c65_agree_operate.proofs.Behind.{IsGiven, then_does}
use Rattle.c65_agree_operate.proofs.Given.{narrowed_same}

-- the routine of one of the two
abbrev routine_of : UnaryOp → UnaryRoutine
routine_of ops.Neg = Neg
routine_of _ = Compl

abbrev number_of : UnaryOp → IntType → ℤ → ℤ
number_of ops.Neg t z = negated_of t z
number_of _ t z = complement_of t z

record IsOpposed (op : UnaryOp) (t : IntType) (v x : Value) : Type 0 where
  z : ℤ
  from : v ≡ Whole z
  to : x ≡ Whole (number_of op t z)

is_opposed : (s : Store) (op : UnaryOp) (t : IntType) (v x : Value) → IsOpposite op → unary s op (Number t) v ≡ Ok x → IsOpposed op t v x
is_opposed s ops.Neg t (Whole z) x o e = record { z = z; from = refl; to = cc }
is_opposed s ops.Neg t Null x o e = absurd (cc)
is_opposed s ops.Neg t (values.Place b p) x o e = absurd (cc)
is_opposed s ops.Neg t Opaque x o e = absurd (cc)
is_opposed s ops.Neg t (Cells xs) x o e = absurd (cc)
is_opposed s ops.Neg t NoValue x o e = absurd (cc)
is_opposed s ops.BitNot t (Whole z) x o e = record { z = z; from = refl; to = cc }
is_opposed s ops.BitNot t Null x o e = absurd (cc)
is_opposed s ops.BitNot t (values.Place b p) x o e = absurd (cc)
is_opposed s ops.BitNot t Opaque x o e = absurd (cc)
is_opposed s ops.BitNot t (Cells xs) x o e = absurd (cc)
is_opposed s ops.BitNot t NoValue x o e = absurd (cc)
is_opposed s _ t v x o e = absurd o

one_routine : (op : UnaryOp) (width : Width) → IsOpposite op → unary_code op width ≡ call (routines.Unary (routine_of op) width) ∷ []
one_routine ops.Neg width o = refl
one_routine ops.BitNot width o = refl
one_routine _ width o = absurd o

own_width : (op : UnaryOp) (width : Width) → unary_width (routine_of op) width ≡ width
own_width ops.Neg width = refl
own_width _ width = refl

own_word : (op : UnaryOp) (t : IntType) (z : ℤ) → is_promoted t ≡ true → unary_result (routine_of op) (width_of t) (word_of t z) ≡ word_of t (number_of op t z)
own_word ops.Neg t z p = sym (narrowed_same t (unary_result Neg (width_of t) (word_of t z)) p) ∙ (opposites_are_on_words t z).0
own_word _ t z p = sym (narrowed_same t (unary_result Compl (width_of t) (word_of t z)) p) ∙ (opposites_are_on_words t z).1

same_shape : (op : UnaryOp) (t : IntType) (x : Value) → IsOpposite op → Fits (unary_shape op (Number t)) x → MayFit Valued (Number t) x
same_shape ops.Neg t x o h = may_fit (Number t) x tt h
same_shape ops.BitNot t x o h = may_fit (Number t) x tt h
same_shape _ t x o h = absurd o

module _ (g : World) (a : Active) (m : Manner) (op : UnaryOp) (t : IntType) (pushed needs : ℕ) (placed : IsPlacement g.code g.place) (heavy : m.light ≡ false) (opposite : IsOpposite op) (promoted : is_promoted t ≡ true) (c : Scene) (w : Placing) (b : Banks) (u : State) (v x : Value)
    (ready : Ready g a pushed needs c w b u) (result : ResultIs Valued w (width_of t) v u) (e : unary c.store op (Number t) v ≡ Ok x) where
  h : IsOpposed op t v x
  h = is_opposed c.store op t v x opposite e

  is : primary_of (width_of t) u ≡ word_of t h.z
  is = subst (λ y. ResultIs Valued w (width_of t) y u) h.from result

  gives : unary_result (routine_of op) (width_of t) (primary_of (width_of t) u) ≡ word_of t (number_of op t h.z)
  gives = ap (unary_result (routine_of op) (width_of t)) is ∙ own_word op t h.z promoted

  small : unary_result (routine_of op) (width_of t) (primary_of (width_of t) u) < words_of (unary_width (routine_of op) (width_of t))
  small = subst (λ n. n < words_of (unary_width (routine_of op) (width_of t))) (sym gives) (subst (λ width. word_of t (number_of op t h.z) < words_of width) (sym (own_width op (width_of t))) (word_below (width_of t) (number_of op t h.z)))

  given : (y : State) → IsKeptWith g a c w b u (λ z. primary_of (unary_width (routine_of op) (width_of t)) z ≡ unary_result (routine_of op) (width_of t) (primary_of (width_of t) u)) y → IsGiven g a m (Number t) c w b u x y
  given y k =
      let word : primary_of (width_of t) y ≡ word_of t (number_of op t h.z) = subst (λ width. primary_of width y ≡ word_of t (number_of op t h.z)) (own_width op (width_of t)) (k.result ∙ gives) in
      record { kept = k.kept; result = subst (λ z. ResultIs Valued w (width_of t) z y) (sym h.to) word; left = left_scene m c u y heavy }

  pub opposite_leads : Leads g a (unary_code op (width_of t)) 2560 u (IsGiven g a m (Number t) c w b u x)
  opposite_leads =
      subst (λ ls. Leads g a ls 2560 u (IsGiven g a m (Number t) c w b u x)) (sym (one_routine op (width_of t) opposite))
      (leads_as g a (call (routines.Unary (routine_of op) (width_of t)) ∷ []) 256 2560 u (IsKeptWith g a c w b u (λ z. primary_of (unary_width (routine_of op) (width_of t)) z ≡ unary_result (routine_of op) (width_of t) (primary_of (width_of t) u))) (IsGiven g a m (Number t) c w b u x) (omega arith) (λ y k. given y k)
      (runs_lead g a pushed needs c w b u (routines.Unary (routine_of op) (width_of t)) (IsKeptWith g a c w b u (λ z. primary_of (unary_width (routine_of op) (width_of t)) z ≡ unary_result (routine_of op) (width_of t) (primary_of (width_of t) u))) (cost (routine_of op) (width_of t)) ready (opposites_run g a pushed needs c w b u (routine_of op) (width_of t) placed ready small)))
    where
      cost : (r : UnaryRoutine) (width : Width) → row_cost (row_of (routines.Unary r width) u) ≤ 256
      cost r width = go (unary_width r width)
        where
          go : (to : Width) → (giving to (unary_result r width (primary_of width u)) (costing 256 (row_by (routines.Unary r width) u))).cost ≤ 256
          go Ax = omega arith
          go Eax = omega arith

pub opposites_do : OppositesDo
opposites_do g a m op t needs pushed work lines placed heavy few opposite promoted does =
    then_does g a m Valued (Number t) (Number t) work needs pushed lines (unary_code op (width_of t)) (Apply1 op (Number t)) few (λ s v. unary s op (Number t) v) (λ k vs c v. refl)
    (λ s v x fit e. same_shape op t x opposite (unary_operators_fit s op (Number t) v x e))
    (λ c w b u v x ready result fit e. opposite_leads g a m op t pushed needs placed heavy opposite promoted c w b u v x ready result e) does
