-- A branch behind lines that have ended.
use Rattle.std.proofs.Common.{◌≡◌, ℕ, suc, ◌+◌, ◌*◌, ◌<◌, [], ◌∷◌, List, Bool, true, false, refl, sym, ap, ◌∙◌, subst, arith}
use Rattle.std.specs.Prelude.{not, if◌then◌else◌}
use Rattle.std.specs.Bool.{beq}
use Rattle.c65_mach.specs.declared.rows.Op.{Op}
use Rattle.c65_mach.specs.Step.{is_taken, is_not}
use Rattle.c65_meaning.specs.Integers.{truth}
use Rattle.c65_meaning.specs.Store.{Value, Whole}
use Rattle.c65_meaning.specs.Items.{Item}
use Rattle.c65_meaning.specs.State as meaning
use Rattle.c65_meaning.specs.State.{Scene, Running}
use Rattle.c65_meaning.specs.Step.{steps}
use Rattle.c65_code.specs.LineState.{State}
use Rattle.c65_code.specs.Forms.{Branch, form_of}
use Rattle.c65_code.specs.Moves.{labelled}
use Rattle.c65_code.specs.Comes.{Seen, seen_at}
use Rattle.c65_genload.specs.Words.{branch}
use Rattle.c65_genexpr.specs.Wanted.{by_sense}
use Rattle.c65_agree_store.specs.Stands.{Placing, Banks}
use Rattle.c65_agree_step.specs.Ways.{place_at, IsAtLine}
use Rattle.c65_agree_step.proofs.Ways.{weaken, branches_go}
use Rattle.c65_agree_state.specs.World.{World, program_in, setting_in, Active, lines_of, place_in, HasAt, HasTurns}
use Rattle.c65_agree_state.specs.Follows.{Agrees, Follows}
use Rattle.c65_agree_state.specs.Exprs.{Ready, Kept}
use Rattle.c65_agree_state.proofs.Followed.{branches_count, ready_is_calm}
use Rattle.c65_agree_operate.specs.Manners.{Manner, IsLeft}
use Rattle.c65_agree_compare.specs.Branches.{end_of, RestOfSettled}

-- a branch under what is followed
pub branch_goes : (g : World) (n v : ℕ) (m : meaning.State) (f p l : ℕ) (t : State) (seen : Seen) (op : Op) (taken : Bool) → IsAtLine (setting_in g) f p t (Branch op l) → is_taken op t.regs ≡ taken
    → Follows g n v m (place_at (setting_in g) f (if taken then labelled ((setting_in g).lines f) l else suc p)) t (seen_at (place_at (setting_in g) f (if taken then labelled ((setting_in g).lines f) l else suc p)) seen)
    → Follows g n (2 + v) m (place_at (setting_in g) f p) t seen
branch_goes g n v m f p l t seen op taken at by k d =
    let q = Agrees g (steps (program_in g) n m) in
    weaken (setting_in g) q (4000 * n + (2 + v)) (omega arith) (branches_go q (setting_in g) (4000 * n + v) f p l t seen op taken at by (k d))

-- it is taken where the truth is the one asked for
pub is_told : (s b : Bool) (u : State) → u.regs.z ≡ not b → is_taken (by_sense s) u.regs ≡ beq b s
is_told true true u e = ap is_not e
is_told true false u e = ap is_not e
is_told false true u e = e
is_told false false u e = e

pub is_branch : (s : Bool) (to : ℕ) → form_of (branch (by_sense s) to) ≡ Branch (by_sense s) to
is_branch true to = refl
is_branch false to = refl

module _ (g : World) (a : Active) (m : Manner) (s : Bool) (to pushed needs n weight p end : ℕ) (ends : place_in g a (suc p) ≡ place_in g a end) (k : List Item) (vs : List Value) (c : Scene) (w : Placing) (b : Banks) (t : State) (rest : RestOfSettled g a m s to n weight end k vs c w b t)
    (o : ℕ) (lt : o < n) (y : Bool) (c2 : Scene) (w2 : Placing) (b2 : Banks) (u : State) (later : Seen) (ready : Ready g a pushed needs c2 w2 b2 u) (kept : Kept g a c w b t c2 w2 b2 u) (left : IsLeft m c t c2 u) where
  same_end : (x : Bool) → place_in g a (end_of g a x to (suc p)) ≡ place_in g a (end_of g a x to end)
  same_end true = refl
  same_end false = ends

  pub branch_settles : (op : Op) → form_of (branch op to) ≡ Branch op to → HasAt (lines_of g a) p (branch op to ∷ []) → is_taken op u.regs ≡ beq y s → HasTurns g c2.turns (place_in g a p) later
      → Follows g o (2 + (weight + 2700 + m.over)) (Running k (Whole (truth y) ∷ vs) c2) (place_in g a p) u later
  branch_settles op formed has told turned =
      let at : IsAtLine (setting_in g) a.symbol p u (Branch op to) = record { line = branch op to; there = has.0; formed = formed; calm = (ready_is_calm g a pushed needs c2 w2 b2 u ready).calm; within = tt; running = ready.joins.ended } in
      branch_goes g o (weight + 2700 + m.over) (Running k (Whole (truth y) ∷ vs) c2) a.symbol p to u later op (beq y s) at told
      (subst (λ q. Follows g o (weight + 2700 + m.over) (Running k (Whole (truth y) ∷ vs) c2) q u (seen_at q later)) (sym (same_end (beq y s)))
      (rest o y c2 w2 b2 u (seen_at (place_in g a (end_of g a (beq y s) to end)) later) lt kept left
      (branches_count g (beq y s) c2.turns (place_in g a (end_of g a (beq y s) to end)) later (omega (arith, turned)))))
