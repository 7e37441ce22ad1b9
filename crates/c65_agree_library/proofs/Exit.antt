-- The run ends.
use Rattle.std.proofs.Common.{◌≡◌, ℕ, suc, ◌+◌, ◌*◌, ◌≤◌, inl, List, [], ◌∷◌, refl, sym, ap, ◌∙◌, subst, arith}
use Rattle.std.specs.Prelude.{Ok, Some, All, max, min}
use Rattle.std.proofs.lemmas.List.Elements.{All-nil}
use Rattle.c65_ints.specs.Ranges.{residue}
use Rattle.c65_base.specs.declared.library.Library.TheVariants.{Exit}
use Rattle.c65_meaning.specs.Store.{Cell, Value, Whole, Null, Place, Opaque, Cells, NoValue}
use Rattle.c65_meaning.specs.Items.{Item}
use Rattle.c65_meaning.specs.State.{Scene, Ended, Running}
use Rattle.c65_meaning.specs.Library.{Effect, effect_of, ends}
use Rattle.c65_meaning.specs.Step.{perform, provided, ended_or}
use Rattle.c65_code.specs.declared.routine.Routine.TheVariants as routines
use Rattle.c65_code.specs.LineState.{State, sp_of, IsBytes}
use Rattle.c65_code.specs.Placement.{IsPlacement}
use Rattle.c65_code.specs.Rows.{Row, Meets, row_by, costing, library_row}
use Rattle.c65_code.specs.Steady.{IsOpen, IsCalm, HasRoom}
use Rattle.c65_code.specs.Comes.{Seen, seen_at}
use Rattle.c65_agree_store.specs.Stands.{Placing, Banks}
use Rattle.c65_agree_state.specs.World.{World, Active, program_in, setting_in, place_in, HasTurns}
use Rattle.c65_agree_state.specs.Follows.{Follows}
use Rattle.c65_agree_state.specs.Exprs.{Ready}
use Rattle.c65_agree_state.specs.Laws.{HasStacks}
use Rattle.c65_agree_state.proofs.Followed.{follows_weaken, arrivals_count, ready_is_calm}
use Rattle.c65_agree_state.proofs.Scratch.{constants_are_low}
use Rattle.c65_agree_rows.proofs.Quiet.{append_nothing, ends_there}
use Rattle.c65_agree_library.specs.Calls.{ArePassed, waiting_from, IsLibraryCall}
use Rattle.c65_agree_library.specs.Laws.{ExitIsFollowed}
use Rattle.c65_agree_library.proofs.Flow.{calls_earn, lines_are_followed, refused, is_given}
use Rattle.c65_agree_library.proofs.Putchar.{low_of}

module _ (g : World) (a : Active) (pushed needs : ℕ) (c : Scene) (w : Placing) (banks : Banks) (t : State) (placed : IsPlacement g.code g.place) (r : Ready g a (pushed + 0) needs c w banks t) where
  stacks : HasStacks g t
  stacks = ready_is_calm g a (pushed + 0) needs c w banks t r

  abbrev row : Row
  row = library_row Exit t (costing 256 (row_by (routines.Library Exit) t))

  access : HasRoom g.place row t
  access = record { ready = refl; soft = stacks.soft; hard = stacks.hard; near = All-nil (IsOpen g.place (min (sp_of t) row.sp)); far = All-nil (IsOpen g.place (max (sp_of t) row.sp)) }

  calm : (u : State) → Meets row t u → IsBytes u → IsCalm (setting_in g) u
  calm u meets bytes =
      let sp : sp_of u ≡ sp_of t = meets.sp in
      record { low = omega (arith, sp, stacks.calm.low); high = omega (arith, sp, stacks.calm.high); hard = rw (meets.pushed, meets.frames) stacks.calm.hard; constant = constant; bytes = bytes }
    where
      constant : (b v : ℕ) → g.place.constant b ≡ Some v → u.mem b ≡ v
      constant b v e = meets.mem b (inl (omega (arith, constants_are_low g placed b v e, stacks.soft))) ∙ r.joins.constant b v e

-- nothing is followed behind the call
pub exit_ends : (g : World) (a : Active) (pushed needs : ℕ) (c : Scene) (w : Placing) (banks : Banks) (t : State) (n v p : ℕ) (i : Item) (k : List Item) (args ws vs : List Value) (rest : List Cell) (seen : Seen)
    → IsPlacement g.code g.place → IsLibraryCall g a Exit p t → Ready g a (pushed + waiting_from args) needs c w banks t → ArePassed w args t
    → HasTurns g c.turns (place_in g a p) seen → perform (program_in g) i k ws c ≡ provided Exit args rest k vs c
    → Follows g n v (Running (i ∷ k) ws c) (place_in g a p) t seen
exit_ends g a pushed needs c w banks t n v p i k args ws vs rest seen placed there ready passed turns step =
    calls_earn g Exit args vs rest k c (place_in g a p) t seen (ready_is_calm g a (pushed + waiting_from args) needs c w banks t ready).calm ready.joins.output ready.joins.ended (omega (arith, turns)) i ws n v step (λ x e j lt. done args ready passed x e j)
  where
    done : (args : List Value) → Ready g a (pushed + waiting_from args) needs c w banks t → ArePassed w args t → (x : Effect) → effect_of c Exit args rest ≡ Ok x → (j : ℕ) → Follows g j (v + 4000 + 4000 * x.bytes) (ended_or k vs c x x.status) (place_in g a p) t seen
    done [] r passed x e j = refused e
    done (v1 ∷ v2 ∷ more) r passed x e j = refused e
    done (Null ∷ []) r passed x e j = refused e
    done (Place b o ∷ []) r passed x e j = refused e
    done (Opaque ∷ []) r passed x e j = refused e
    done (Cells xs ∷ []) r passed x e j = refused e
    done (NoValue ∷ []) r passed x e j = refused e
    done (Whole z ∷ []) r passed x e j =
        let is : ends c (residue 256 z) ≡ x = is_given e in
        let same : t.regs.a ≡ residue 256 z = low_of t.regs.a t.regs.x z r.joins.bytes.a passed.0 in
        subst (λ y. Follows g j (v + 4000 + 4000 * y.bytes) (ended_or k vs c y y.status) (place_in g a p) t seen) is
        (follows_weaken g j 264 (v + 4000 + 4000 * 0) (Ended c.out (residue 256 z) c.turns) (place_in g a p) t seen (omega arith)
        (lines_are_followed g a Exit p t (pushed + 0) needs c w banks placed r (access g a pushed needs c w banks t placed r) j 0 (Ended c.out (residue 256 z) c.turns) seen there (λ u meets bytes.
        ends_there g j 0 c.out (residue 256 z) c.turns (place_in g a (suc p)) u (seen_at (place_in g a (suc p)) seen) (meets.output ∙ append_nothing t.output ∙ r.joins.output) (meets.ended ∙ ap Some same)
        (let h = arrivals_count g c.turns (place_in g a (suc p)) seen (omega (arith, turns)) in omega (arith, h)) (calm g a pushed needs c w banks t placed r u meets bytes))))

pub exit_is_followed : ExitIsFollowed
exit_is_followed g a pushed needs c w banks t n v p i k args ws vs rest seen placed there ready passed turns step behind =
    exit_ends g a pushed needs c w banks t n v p i k args ws vs rest seen placed there ready passed turns step
