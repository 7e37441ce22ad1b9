-- The laws of main.
use Rattle.std.proofs.Common.{◌≡◌, ℕ, suc, ◌+◌, ◌<◌, ◌≤◌, List, ◌∷◌, length, refl, sym, ap, ◌∙◌, subst, arith}
use Rattle.c65_ints.specs.declared.types.IntType.TheVariants.{Int}
use Rattle.c65_meaning.specs.Store.{Number}
use Rattle.c65_meaning.specs.Items.{Leave, plan_stmt}
use Rattle.c65_meaning.specs.State.{Running}
use Rattle.c65_meaning.specs.Step.{new_frame, left_call}
use Rattle.c65_code.specs.Moves.{labelled}
use Rattle.c65_genentry.specs.Entry.{entry_code}
use Rattle.c65_agree_state.specs.World.{unit_in, lines_of, place_in, HasTurns}
use Rattle.c65_agree_state.specs.Follows.{Follows}
use Rattle.c65_agree_frame.specs.Ends.{end_cost}
use Rattle.c65_agree_leave.specs.Laws.{params_in}
use Rattle.c65_agree_enter.specs.Entries.{banks_with}
use Rattle.c65_agree_call.proofs.Meant.{params_sums}
use Rattle.c65_agree_call.proofs.Whole.{end_place}
use Rattle.c65_agree_end.specs.Laws.{MainsReturn, MainIsFollowed}
use Rattle.c65_agree_end.proofs.Returned.{is_left}

pub mains_return : MainsReturn
mains_return g a e needs n weight c1 w1 k1 t1 below vs placed m j v c q b t seen lt between keeping value fits come =
    let place : place_in g a (labelled (lines_of g a) 0) ≡ place_in g a (suc e) = end_place g a e m.ends.single m.ends.end.0 in
    subst (λ x. Follows g j (end_cost a.frame + weight) (left_call (unit_in g) v below vs c) x t seen) (sym place)
    (is_left g a placed e m needs c q b t between (suc e) seen m.ends.end.1 (subst (λ x. HasTurns g c.turns x seen) place come) v j weight below vs value)

pub main_is_followed : MainIsFollowed
main_is_followed g a e cost needs n weight entry body args vs below c0 c1 w0 k0 t0 t seen placed m first begun enters turned does =
    enters n (end_cost a.frame + weight) 0 c1.turns (Running (plan_stmt (unit_in g) 0 body (Leave ∷ below)) vs c1) seen m.ends.entry (subst (λ x. HasTurns g x (place_in g a 0) seen) (sym same) turned) (λ t1 later h there.
    subst (λ z. Follows g n (end_cost a.frame + weight) (Running (plan_stmt (unit_in g) 0 body (Leave ∷ below)) vs c1) (place_in g a z) t1 later) (sym statement)
    (does c1 h.placing (banks_with a t1 k0) t1 later (let next = h.next in omega (arith, first, next)) h.between (subst (λ z. HasTurns g c1.turns (place_in g a z) later) statement there)
    (mains_return g a e needs n weight c1 h.placing (banks_with a t1 k0) t1 below vs placed m)))
  where
    statement : 0 + length (entry_code a.frame) ≡ length (entry_code a.frame)
    statement = omega arith

    same : c1.turns ≡ c0.turns
    same = (params_sums (unit_in g) (params_in g a) args (new_frame (unit_in g) a.func cost c0) c1 begun).turns
