-- The lines of a function do the work of its body.
use Rattle.std.proofs.Common.{◌≡◌, ℕ, ◌+◌, ◌≤◌, List, ◌∷◌, Option, Some, length, refl, ◌∙◌, ap, subst, slice_get, arith}
use Rattle.std.specs.Prelude.{◌==◌, ◌&&◌, not}
use Rattle.c65_csem.specs.Trees.{Stmt}
use Rattle.c65_csem_plain.specs.Arms.{arms}
use Rattle.c65_csem_plain.specs.Plain.{IsPlainBody, HasPlainBody, IsPlainFunc}
use Rattle.c65_meaning.specs.Items.{Leave}
use Rattle.c65_meaning.specs.After.{ToLabel}
use Rattle.c65_meaning.specs.State.{Scene}
use Rattle.c65_meaning.specs.Step.{params_of, body_of}
use Rattle.c65_code.specs.LineState.{State}
use Rattle.c65_code.specs.Placement.{stack_start}
use Rattle.c65_code.specs.declared.line.Line.TheVariants.{Label}
use Rattle.c65_genentry.specs.Entry.{entry_code}
use Rattle.c65_genentry.specs.Ends.{end_code}
use Rattle.c65_genstmt.specs.Stmts.{ways, returns_last}
use Rattle.c65_genstmt.specs.Functions.{main_code}
use Rattle.c65_agree_store.specs.Stands.{Placing, Banks}
use Rattle.c65_agree_state.specs.World.{World, unit_in, Active, lines_of}
use Rattle.c65_agree_between.specs.Stmts.{Between, Keeping}
use Rattle.c65_agree_lines.specs.Lists.{last_code}
use Rattle.c65_agree_lines.proofs.Stand.{parts_stand}
use Rattle.c65_agree_leave.specs.Laws.{params_in}
use Rattle.c65_agree_stmts.specs.Calling.{Calling}
use Rattle.c65_agree_stmts.proofs.Bodies.{bodies_do, bodies_end}
use Rattle.c65_agree_stmts.proofs.Lasts.{lasts_do}
use Rattle.c65_agree_start.proofs.Given.{all_at}
use Rattle.c65_agree_homes.specs.Turns.{first_label}
use Rattle.c65_agree_homes.specs.Frames.{IsCalling}
use Rattle.c65_agree_homes.proofs.Begins.{ground_is_given}
use Rattle.c65_agree_homes.proofs.Lines.{one_place, entry_stands, body_stands, end_stands}
use Rattle.c65_agree_homes.proofs.Given.{parts_are_given}
use Rattle.c65_agree_function.specs.Functions.{calling_of}
use Rattle.c65_agree_function.specs.Laws.{FunctionsHaveEnds, FunctionsDo}
use Rattle.c65_agree_function.proofs.Ends.{body_ends}

pub functions_have_ends : FunctionsHaveEnds
functions_have_ends g names a f body call is =
    let main = main_code ((a.func == g.main) && not (returns_last body)) in
    let middle = last_code a.frame (ways 0 0 0) 0 body (first_label body) in
    record {
      single = one_place g names a f body call is;
      entry = entry_stands g names a f body call is;
      end = (parts_stand (lines_of g a) main (Label 0 ∷ end_code a.frame) (length (entry_code a.frame) + length middle) (end_stands g names a f body call is)).1;
    }

-- nothing has changed yet
kept_all : (a : Active) (c : Scene) (q : Placing) (b : Banks) (t : State) → Keeping a c q b t c q b t
kept_all a c q b t = record { next = omega arith; bounds = λ n lt less. refl; grows = λ n p e. e; kept = λ n le free. (refl, free); banks = λ d i lt. refl; own_bank = λ i le. refl }

-- the stack is not too deep
high_enough : (g : World) (a : Active) (needs : ℕ) (scope : List ℕ) (c : Scene) (q : Placing) (b : Banks) (t : State) → Between g a needs scope c q b t → stack_start ≤ a.base
high_enough g a needs scope c q b t h =
    let room = h.room in
    let few = h.joins.few in
    omega (arith, room, few)

pub functions_do : FunctionsDo
functions_do g names a f body needs result below vs n v call is placed high counts gives work c q b t seen first between turns returns =
    let x : Calling = calling_of g a needs body result below vs n v c q b t in
    let params : x.params ≡ f.params = ap params_of call.function in
    let inside : IsCalling x names f = record { call = call; body = is; params = params; placed = placed; low = high_enough g a needs (params_in g a) c q b t between; high = high } in
    let single = one_place g names a f body call is in
    let its : body_of (slice_get (unit_in g).funcs a.func) ≡ Some body = ap body_of call.function ∙ is in
    let plain : IsPlainBody (unit_in g) f.params body = subst (λ (o : Option Stmt). HasPlainBody (unit_in g) f.params o) is (all_at (IsPlainFunc names (unit_in g)) (unit_in g).funcs a.func f call.plain.funcs call.function).body in
    let parts = parts_are_given x names f inside counts (work c q b t) in
    let lasts = lasts_do x (params_in g a) 0 0 (first_label body) (ways 0 0 0) body single (ground_is_given x names f inside first) its parts in
    let end = length (entry_code a.frame) + length (last_code a.frame (ways 0 0 0) 0 body (first_label body)) in
    let stands = end_stands g names a f body call is in
    bodies_do x (ways 0 0 0) 0 (first_label body) n v (length (entry_code a.frame)) c q b t seen lasts.0 (λ l. lasts.1 (ToLabel l)) plain.arms (omega arith) (omega arith) (body_stands g names a f body call is) between (kept_all a c q b t) turns returns
    (bodies_end x (a.func == g.main) n v end (params_in g a) (Leave ∷ below) single stands (λ e. body_ends x placed single gives n v end (returns_last body) stands returns e))
