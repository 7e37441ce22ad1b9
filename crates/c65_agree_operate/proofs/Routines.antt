-- Routines within a weight, labels, and values that wait.
use Rattle.std.proofs.Common.{◌≡◌, ℕ, suc, ◌+◌, ◌<◌, ◌≤◌, [], ◌∷◌, Some, refl, sym, ap, ◌∙◌, subst, arith}
use Rattle.c65_meaning.specs.State.{Scene}
use Rattle.c65_code.specs.declared.line.Line.TheVariants.{Label}
use Rattle.c65_code.specs.declared.routine.Routine.{Routine}
use Rattle.c65_code.specs.declared.routine.Routine.TheVariants as routines
use Rattle.c65_code.specs.declared.routine.TosOp.{TosOp}
use Rattle.c65_code.specs.declared.routine.TosOp.TheVariants as tos
use Rattle.c65_code.specs.declared.routine.Width.{Width}
use Rattle.c65_code.specs.declared.routine.Width.TheVariants.{Ax, Eax}
use Rattle.c65_code.specs.LineState.{State, sp_of}
use Rattle.c65_code.specs.Numbers.{words_of, tos_result, result_width}
use Rattle.c65_code.specs.Placement.{IsPlacement}
use Rattle.c65_code.specs.Rows.{Row, row_of, row_by, giving, giving_if, costing, popping, tos_cost, number_at, primary_of, size_of}
use Rattle.c65_code.specs.Weights.{row_cost}
use Rattle.c65_code.specs.Comes.{seen_at}
use Rattle.c65_genwide.specs.Lines.{call}
use Rattle.c65_genload.specs.Conversions.{push_code}
use Rattle.c65_agree_store.specs.Stands.{Placing, Banks}
use Rattle.c65_agree_step.proofs.Ways.{labels_are_passed}
use Rattle.c65_agree_state.specs.World.{World, Active, setting_in, place_in, HasTurns}
use Rattle.c65_agree_state.specs.Follows.{Follows}
use Rattle.c65_agree_state.specs.Exprs.{Ready, Kept}
use Rattle.c65_agree_state.proofs.Followed.{follows_weaken, arrivals_count, ready_is_calm}
use Rattle.c65_agree_rows.specs.Rows.{Word, Long, AreAt}
use Rattle.c65_agree_rows.specs.Laws.{Runs, IsReadyPushed, IsReadyPopped}
use Rattle.c65_agree_rows.proofs.Quiet.{routines_are_followed}
use Rattle.c65_agree_rows.proofs.Families.{pushes_run, operators_run}
use Rattle.c65_agree_frame.specs.Leads.{Leads}
use Rattle.c65_agree_frame.proofs.Leads.{leads_as}
use Rattle.c65_agree_load.proofs.Kept.{runs_lead}

-- a routine that runs leads, within its cost, to what it leaves
pub routine_runs : (g : World) (a : Active) (most pushed needs : ℕ) (c : Scene) (w : Placing) (k : Banks) (t : State) (r : Routine) (Behind : State → Type 0) → row_cost (row_of r t) ≤ most → Ready g a pushed needs c w k t → Runs g r t Behind → Leads g a (call r ∷ []) most t Behind
routine_runs g a most pushed needs c w k t r Behind cost ready runs n v p turns m seen has turned goes =
    let ends : suc p ≡ p + 1 = omega arith in
    follows_weaken g n (row_cost (row_of r t) + v) (most + v) m (place_in g a p) t seen (omega (arith, cost))
    (routines_are_followed g a pushed needs c w k t n v p m seen r ready has.0 runs.room (λ u meets bytes.
    subst (λ q. Follows g n v m (place_in g a q) u (seen_at (place_in g a (suc p)) seen)) (sym ends)
    (goes u (seen_at (place_in g a (suc p)) seen) (runs.behind u meets bytes) (subst (λ q. HasTurns g turns (place_in g a q) (seen_at (place_in g a (suc p)) seen)) ends (arrivals_count g turns (place_in g a (suc p)) seen (omega (arith, turned)))))))

-- a label is passed
pub label_leads : (g : World) (a : Active) (l : ℕ) (t : State) (Behind : State → Type 0) → Behind t → Leads g a (Label l ∷ []) 0 t Behind
label_leads g a l t Behind b n v p turns m seen has turned goes =
    let ends : suc p ≡ p + 1 = omega arith in
    let none : v ≡ 0 + v = omega arith in
    let passed = labels_are_passed (setting_in g) a.symbol p l has.0 in
    subst (λ z. Follows g n z m (place_in g a p) t seen) none
    (subst (λ q. Follows g n v m q t seen) (sym passed)
    (subst (λ q. Follows g n v m (place_in g a q) t seen) (sym ends)
    (goes t seen b (subst (λ q. HasTurns g turns (place_in g a q) seen) ends (subst (λ q. HasTurns g turns q seen) passed turned)))))

-- ---- pushed

-- the primary register waits at sp, and all above it is as before
pub record IsPushed (g : World) (a : Active) (pushed needs : ℕ) (c : Scene) (w : Placing) (k : Banks) (width : Width) (t u : State) : Type 0 where
  pub ready : Ready g a (pushed + size_of width) needs c w k u
  pub sp : sp_of u + size_of width ≡ sp_of t
  pub word : number_at width u.mem (sp_of u) ≡ primary_of width t
  pub mem : (n : ℕ) → sp_of t ≤ n → u.mem n ≡ t.mem n

module _ (g : World) (a : Active) (pushed needs : ℕ) (c : Scene) (w : Placing) (k : Banks) (t : State) (placed : IsPlacement g.code g.place) (r : Ready g a pushed (1 + needs) c w k t) where
  pub push_leads : (width : Width) → Leads g a (push_code width) 256 t (IsPushed g a pushed needs c w k width t)
  push_leads Ax =
      leads_as g a (push_code Ax) 256 256 t (IsReadyPushed g a pushed needs c w k Word t) (IsPushed g a pushed needs c w k Ax t) (omega arith)
      (λ u h. let at = h.are.waiting in record { ready = h.ready; sp = h.are.sp; word = omega (arith, at.0, at.1.0); mem = h.are.mem })
      (runs_lead g a pushed (1 + needs) c w k t routines.PushAx (IsReadyPushed g a pushed needs c w k Word t) (omega arith) r (pushes_run g a pushed needs c w k t Word placed r))
  push_leads Eax =
      leads_as g a (push_code Eax) 256 256 t (IsReadyPushed g a pushed needs c w k Long t) (IsPushed g a pushed needs c w k Eax t) (omega arith)
      (λ u h. record { ready = h.ready; sp = h.are.sp; word = long_there u (sp_of u) h.are.waiting; mem = h.are.mem })
      (runs_lead g a pushed (1 + needs) c w k t routines.PushEax (IsReadyPushed g a pushed needs c w k Long t) (omega arith) r (pushes_run g a pushed needs c w k t Long placed r))
    where
      long_there : (u : State) (at : ℕ) → AreAt u.mem at (t.regs.a ∷ t.regs.x ∷ t.zp 2 ∷ t.zp 3 ∷ []) → number_at Eax u.mem at ≡ primary_of Eax t
      long_there u at h =
          let third : u.mem (at + 2) ≡ t.zp 2 = let e : at + 1 + 1 ≡ at + 2 = omega arith in subst (λ n. u.mem n ≡ t.zp 2) e h.1.1.0 in
          let fourth : u.mem (at + 2 + 1) ≡ t.zp 3 = let e : at + 1 + 1 + 1 ≡ at + 2 + 1 = omega arith in subst (λ n. u.mem n ≡ t.zp 3) e h.1.1.1.0 in
          omega (arith, h.0, h.1.0, third, fourth)

-- ---- what waits, waits on

module _ (g : World) (a : Active) (pushed needs count : ℕ) (c c2 : Scene) (w w2 : Placing) (k k2 : Banks) (t u : State) (r : Ready g a (pushed + count) needs c w k t) (kept : Kept g a c w k t c2 w2 k2 u) where
  pub byte_waits : (n : ℕ) → sp_of t ≤ n → n < sp_of t + count → u.mem n ≡ t.mem n
  byte_waits n low high =
      let calm = (ready_is_calm g a (pushed + count) needs c w k t r).calm in
      (kept.kept n low (r.joins.above n (omega (arith, low, calm.low)) (omega (arith, high, r.sp)))).0

pub number_waits : (g : World) (a : Active) (pushed needs : ℕ) (c c2 : Scene) (w w2 : Placing) (k k2 : Banks) (t u : State) (width : Width) → Ready g a (pushed + size_of width) needs c w k t → Kept g a c w k t c2 w2 k2 u → number_at width u.mem (sp_of u) ≡ number_at width t.mem (sp_of t)
number_waits g a pushed needs c c2 w w2 k k2 t u Ax r kept =
    let waits = byte_waits g a pushed needs 2 c c2 w w2 k k2 t u r kept in
    ap (number_at Ax u.mem) kept.sp ∙ omega (arith, waits (sp_of t) (omega arith) (omega arith), waits (sp_of t + 1) (omega arith) (omega arith))
number_waits g a pushed needs c c2 w w2 k k2 t u Eax r kept =
    let waits = byte_waits g a pushed needs 4 c c2 w w2 k k2 t u r kept in
    ap (number_at Eax u.mem) kept.sp ∙ omega (arith, waits (sp_of t) (omega arith) (omega arith), waits (sp_of t + 1) (omega arith) (omega arith), waits (sp_of t + 2) (omega arith) (omega arith), waits (sp_of t + 2 + 1) (omega arith) (omega arith))

-- ---- the routine of an operator

most_cost : (op : TosOp) → tos_cost op ≤ 2048
most_cost tos.Mul = omega arith
most_cost tos.Div = omega arith
most_cost tos.Mod = omega arith
most_cost tos.UDiv = omega arith
most_cost tos.UMod = omega arith
most_cost tos.Shl = omega arith
most_cost tos.Shr = omega arith
most_cost tos.Asr = omega arith
most_cost tos.Add = omega arith
most_cost tos.Sub = omega arith
most_cost tos.And = omega arith
most_cost tos.Or = omega arith
most_cost tos.Xor = omega arith
most_cost tos.Eq = omega arith
most_cost tos.Ne = omega arith
most_cost tos.Lt = omega arith
most_cost tos.Le = omega arith
most_cost tos.Gt = omega arith
most_cost tos.Ge = omega arith
most_cost tos.ULt = omega arith
most_cost tos.ULe = omega arith
most_cost tos.UGt = omega arith
most_cost tos.UGe = omega arith

giving_costs : (width : Width) (v : ℕ) (row : Row) → (giving width v row).cost ≡ row.cost
giving_costs Ax v row = refl
giving_costs Eax v row = refl

operator_costs : (op : TosOp) (width : Width) (v : ℕ) (t : State) → tos_result op width (number_at width t.mem (sp_of t)) (primary_of width t) ≡ Some v → row_cost (row_of (routines.Tos op width) t) ≤ 2048
operator_costs op width v t e =
    let row : Row = costing (tos_cost op) (popping (size_of width) t (row_by (routines.Tos op width) t)) in
    let same : row_cost (row_of (routines.Tos op width) t) ≡ tos_cost op = ap (λ o. (giving_if (result_width op width) o row).cost) e ∙ giving_costs (result_width op width) v row in
    omega (arith, same, most_cost op)

pub operator_leads : (g : World) (a : Active) (pushed needs : ℕ) (c : Scene) (w : Placing) (k : Banks) (t : State) (op : TosOp) (width : Width) (v : ℕ)
    → IsPlacement g.code g.place → Ready g a (pushed + size_of width) needs c w k t
    → tos_result op width (number_at width t.mem (sp_of t)) (primary_of width t) ≡ Some v → v < words_of (result_width op width)
    → Leads g a (call (routines.Tos op width) ∷ []) 2048 t (IsReadyPopped g a pushed needs c w k op width v t)
operator_leads g a pushed needs c w k t op width v placed r e small =
    routine_runs g a 2048 (pushed + size_of width) needs c w k t (routines.Tos op width) (IsReadyPopped g a pushed needs c w k op width v t) (operator_costs op width v t e) r (operators_run g a pushed needs c w k t op width v placed r e small)
