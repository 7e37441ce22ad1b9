-- The place behind the further arguments.
use Rattle.std.proofs.Common.{◌≡◌, ℕ, ◌+◌, ◌-◌, ◌%◌, ◌<◌, ◌∷◌, ◌++◌, Option, Some, None, length, refl, sym, ap, ◌∙◌, subst, arith}
use Rattle.c65_ctype.specs.Trees.{Ty, type_in}
use Rattle.c65_ctype.specs.Trees as types
use Rattle.c65_csem.specs.Trees.{node, rest}
use Rattle.c65_meaning.specs.Why.{Unfit}
use Rattle.c65_meaning.specs.Store.{Block, Place, Pointer, size_in_store, block_size}
use Rattle.c65_meaning.specs.Items.{Reach}
use Rattle.c65_meaning.specs.Shapes.{shape_of}
use Rattle.c65_meaning.specs.State.{Scene, Running, rest_in}
use Rattle.c65_meaning.specs.Step.{end_of, go_on}
use Rattle.c65_code.specs.declared.routine.Width.TheVariants.{Ax}
use Rattle.c65_code.specs.LineState.{State}
use Rattle.c65_code.specs.Placement.{IsPlacement, stack_end}
use Rattle.c65_genframe.specs.Frames.{saved_bytes}
use Rattle.c65_genexpr.specs.Types.{kind_of}
use Rattle.c65_genexpr.specs.Places.{rest_code}
use Rattle.c65_genexpr.specs.Wanted.{value_test_code}
use Rattle.c65_genwide.specs.Wide.{width_of}
use Rattle.c65_agree_store.specs.Stands.{Placing, Banks}
use Rattle.c65_agree_state.specs.World.{World, unit_in, Active, place_in}
use Rattle.c65_agree_state.specs.Joins.{IsRest}
use Rattle.c65_agree_state.specs.Follows.{Follows}
use Rattle.c65_agree_state.specs.Exprs.{Ready, Valued, Does, Tests, ExpressionDoes, TestDoes}
use Rattle.c65_agree_state.proofs.Followed.{follows_weaken, steps_earn, ready_is_calm}
use Rattle.c65_agree_rows.proofs.Quiet.{nothing_follows}
use Rattle.c65_agree_frame.specs.Leads.{Leads}
use Rattle.c65_agree_frame.proofs.Leads.{leads_as}
use Rattle.c65_agree_operate.specs.Manners.{Manner, usual, DoesIn}
use Rattle.c65_agree_compare.proofs.Branches.{branches_are_tests}
use Rattle.c65_agree_compare.proofs.Values.{values_are_tested}
use Rattle.c65_agree_quick.specs.Laws.{IsNow}
use Rattle.c65_agree_addresses.proofs.Near.{raised_leads}
use Rattle.c65_agree_raised.specs.Rests.{HasFurther, RestsDo, RestsAreExpressions}

-- ---- its lines

module _ (g : World) (a : Active) (pushed needs : ℕ) (c : Scene) (w : Placing) (b : Banks) (t : State) (placed : IsPlacement g.code g.place) (has : HasFurther a) (ready : Ready g a pushed needs c w b t) where
  abbrev place : ℕ
  place = a.base + a.frame.soft + saved_bytes a.frame.bank + a.raised

  rest_leads : Leads g a (rest_code a.frame pushed) 300 t (IsNow g a c w b Ax place t)
  rest_leads =
      let count : ℕ = a.frame.stacked + a.raised in
      let n : ℕ = (pushed + a.frame.soft + saved_bytes a.frame.bank + 65536 - a.frame.stacked) % 65536 in
      let here : t.mem a.base ≡ count = ready.joins.counted has.further in
      let few : count < 256 = omega (arith, here, ready.joins.bytes.mem a.base) in
      let low : a.base < stack_end = omega (arith, has.counts, has.high) in
      let is : (a.base + 65536 - pushed + count + n) % 65536 ≡ place = omega (arith, has.high, ready.sp, few, low) in
      leads_as g a (rest_code a.frame pushed) (8 + (256 + (7 + 7))) 300 t (IsNow g a c w b Ax ((a.base + 65536 - pushed + count + n) % 65536) t) (IsNow g a c w b Ax place t) (omega arith) (λ u h. record { kept = h.kept; word = h.word ∙ is })
      (raised_leads g a pushed needs c w b placed count (λ u ready2. ready2.joins.counted has.further) few low n t ready)

-- ---- the node

-- it has weight to spare
abbrev spared : Manner
spared = record usual { over = 1000 }

module _ (g : World) (a : Active) (size needs pushed : ℕ) (placed : IsPlacement g.code g.place) (has : HasFurther a) where
  rests_in : DoesIn g a spared Valued (Pointer size) (λ k. Reach ∷ k) needs pushed (rest_code a.frame pushed)
  rests_in n weight p k vs c w b t seen at ready turns behind =
      steps_earn g n weight Reach k vs c (place_in g a p) t seen (ready_is_calm g a pushed needs c w b t ready).calm ready.joins.output ready.joins.ended (omega (arith, turns)) (λ j lt. go j lt (rest_in c.frames) refl)
    where
      size_is : (d : ℕ) (x : Block) → c.store d ≡ Some x → block_size c.store d ≡ x.size
      size_is d x e = ap size_in_store e

      there : (j d : ℕ) → j < n → IsRest a c w d → Follows g j (weight + 4000) (Running k (Place d (block_size c.store d) ∷ vs) c) (place_in g a p) t seen
      there j d lt r =
          let whole : block_size c.store d ≡ a.raised = size_is d r.block r.is ∙ r.size in
          subst (λ z. Follows g j (weight + 4000) (Running k (Place d z ∷ vs) c) (place_in g a p) t seen) (sym whole)
          (follows_weaken g j (300 + (weight + 2600 + 1000)) (weight + 4000) (Running k (Place d a.raised ∷ vs) c) (place_in g a p) t seen (omega arith)
          (rest_leads g a pushed needs c w b t placed has ready j (weight + 2600 + 1000) p c.turns (Running k (Place d a.raised ∷ vs) c) seen at turns (λ u later h turned.
          behind j (Place d a.raised) c w b u later lt (record { kept = h.kept; result = (a.base + a.frame.soft + saved_bytes a.frame.bank, r.place, h.word); fits = tt }) (record { scene = tt; held = tt }) turned)))

      go : (j : ℕ) → j < n → (m : Option ℕ) → rest_in c.frames ≡ m → Follows g j (weight + 4000) (go_on (end_of c.store m) k vs c) (place_in g a p) t seen
      go j lt None e = nothing_follows g Unfit j (weight + 4000) (place_in g a p) t seen
      go j lt (Some d) e = there j d lt (ready.joins.rests d e)

pub rests_do : RestsDo
rests_do g a size needs pushed placed has n weight p k vs c w b t seen at ready turns behind =
    rests_in g a size needs pushed placed has n weight p k vs c w b t seen at ready turns (λ j v c2 w2 b2 u later lt done left turned.
    follows_weaken g j (weight + 2600) (weight + 2600 + 1000) (Running k (v ∷ vs) c2) (place_in g a (p + length (rest_code a.frame pushed))) u later (omega arith) (behind j v c2 w2 b2 u later lt done turned))

pub rests_are_expressions : RestsAreExpressions
rests_are_expressions g a size t placed has shape = (value, test)
  where
    value : ExpressionDoes g a (node t rest)
    value pushed fresh = subst (λ f. Does g a Valued f (λ k. Reach ∷ k) 0 pushed (rest_code a.frame pushed)) (sym shape) (rests_do g a size 0 pushed placed has)

    -- a pointer is tested by its two bytes
    width : Ax ≡ width_of (kind_of (type_in t))
    width = go (type_in t) shape
      where
        go : (ty : Ty) → shape_of (unit_in g).types ty ≡ Pointer size → Ax ≡ width_of (kind_of ty)
        go (types.pointer q) e = refl
        go types.void e = cc
        go (types.int kind) e = cc
        go (types.array q n) e = cc
        go (types.tag n) e = cc
        go (types.function f) e = cc

    test : TestDoes g a (node t rest)
    test pushed fresh to s =
        subst (λ f. Tests g a f s to (λ k. Reach ∷ k) 0 pushed (rest_code a.frame pushed ++ value_test_code (width_of (kind_of (type_in t))) s to)) (sym shape)
        (subst (λ x. Tests g a (Pointer size) s to (λ k. Reach ∷ k) 0 pushed (rest_code a.frame pushed ++ value_test_code x s to)) width
        ((branches_are_tests g a usual (Pointer size) s to 0 pushed (λ k. Reach ∷ k) (rest_code a.frame pushed ++ value_test_code Ax s to)).0
        (values_are_tested g a usual 1000 (Pointer size) s to 0 pushed (λ k. Reach ∷ k) (rest_code a.frame pushed) placed tt (omega arith) (rests_in g a size 0 pushed placed has))))
