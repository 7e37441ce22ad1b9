-- The bodies of all functions, by the number of steps.
use Rattle.std.proofs.Common.{◌≡◌, ℕ, zero, suc, ◌+◌, ◌<◌, ◌≤◌, Ok, List, sym, ap, ◌∙◌, arith}
use Rattle.std.specs.Prelude.{◌==◌, Some, true, slice_get}
use Rattle.std.proofs.lemmas.Bool.{eqb-true}
use Rattle.c65_ints.specs.declared.types.IntType.TheVariants.{Int}
use Rattle.c65_csem.specs.Trees.{Stmt, FuncTy}
use Rattle.c65_csem.specs.Units.{IsProgram}
use Rattle.c65_csem_plain.specs.Plain.{IsPlain}
use Rattle.c65_meaning.specs.Store.{Value, Shape, Number}
use Rattle.c65_meaning.specs.Items.{Item}
use Rattle.c65_code.specs.Placement.{IsPlacement}
use Rattle.c65_genstmt.specs.Programs.{program_of}
use Rattle.c65_agree_state.specs.World.{World, unit_in, Active, IsCallOf}
use Rattle.c65_agree_leave.specs.Laws.{params_in}
use Rattle.c65_agree_call.specs.Calls.{BodyDoes}
use Rattle.c65_agree_homes.specs.Turns.{CountsTurns}
use Rattle.c65_agree_homes.specs.Frames.{IsCallIn}
use Rattle.c65_agree_function.proofs.Body.{functions_do}
use Rattle.c65_agree_bodies.specs.Bodies.{for_steps, Allotted, IsCallWith, AllBodiesDo, AllHaveWork}
use Rattle.c65_agree_bodies.specs.Laws.{BodiesDoForAll}
use Rattle.c65_agree_bodies.proofs.Runs.{follows_still, between_still, turns_still}

module _ (g : World) (names : List (List ℕ)) (z : Allotted) (code : program_of g.parts g.main names g.modes ≡ Ok g.code) (program : IsProgram (unit_in g) g.main) (plain : IsPlain names (unit_in g) g.main)
    (placed : IsPlacement g.code g.place) (counts : CountsTurns g) (gives : z.result g.main ≡ Number Int) (work : (n : ℕ) → AllBodiesDo (for_steps n g) z n → AllHaveWork (for_steps n g) z) where
  main_gives : (a : Active) → (a.func == g.main) ≡ true → z.result a.func ≡ Number Int
  main_gives a e = ap z.result (eqb-true a.func g.main e) ∙ gives

  -- ---- for as many steps as are spoken of, by fewer

  step : (n m : ℕ) → AllBodiesDo (for_steps n g) z n → AllBodiesDo (for_steps n g) z m
  step n m before a f body below vs j v h lt enough =
      let call : IsCallIn (for_steps n g) names a f = record { code = code; program = program; plain = plain; call = h.call; function = h.function } in
      functions_do (for_steps n g) names a f body (z.needs a.func) (z.result a.func) below vs j v call h.has_body placed h.high (turns_still g n counts) (main_gives a) (λ c q b t. work n before a f body below vs j v c q b t h enough)

  -- ---- one step more

  module _ (m n : ℕ) (le : m ≤ n) where
    body_still : (a : Active) (needs : ℕ) (body : Stmt) (result : Shape) (below : List Item) (vs : List Value) (j v : ℕ) → j ≤ m → BodyDoes (for_steps m g) a needs body result below vs j v → BodyDoes (for_steps n g) a needs body result below vs j v
    body_still a needs body result below vs j v small does c q b t seen first between turns returns =
        follows_still g m n j v _ _ t seen small (does c q b t seen first (between_still g n m a needs (params_in g a) c q b t between) turns
        (λ i value c2 q2 b2 u later lt between2 keeping is fits turns2.
        follows_still g n m i v _ _ u later (omega (arith, lt, small, le)) (returns i value c2 q2 b2 u later lt (between_still g m n a needs (params_in g a) c2 q2 b2 u between2) keeping is fits turns2)))

  all_still : (n : ℕ) → AllBodiesDo (for_steps n g) z (suc n) → AllBodiesDo (for_steps (suc n) g) z (suc n)
  all_still n does a f body below vs j v h lt enough =
      let same : IsCallWith (for_steps n g) z a f body = record { call = record { symbol = h.call.symbol; frame = h.call.frame }; function = h.function; has_body = h.has_body; high = h.high; spare = h.spare } in
      body_still n (suc n) (omega arith) a (z.needs a.func) body (z.result a.func) below vs j v (omega (arith, lt)) (does a f body below vs j v same lt enough)

  fewer : (n : ℕ) → AllBodiesDo (for_steps n g) z n
  fewer zero a f body below vs j v h lt enough = absurd (omega (arith, lt))
  fewer (suc n) a f body below vs j v h lt enough = all_still n (step n (suc n) (fewer n)) a f body below vs j v h lt enough

pub bodies_do_for_all : BodiesDoForAll
bodies_do_for_all g names z code program plain placed counts gives work n m = step g names z code program plain placed counts gives work n m (fewer g names z code program plain placed counts gives work n)
