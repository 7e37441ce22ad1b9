-- The primary register is shifted by calls, one bit each.
use Rattle.std.proofs.Common.{◌≡◌, ℕ, zero, suc, ◌+◌, ◌*◌, ◌<◌, ◌≤◌, [], ◌∷◌, sym, subst, arith}
use Rattle.c65_meaning.specs.State.{Scene}
use Rattle.c65_code.specs.declared.routine.Routine.TheVariants.{Unary}
use Rattle.c65_code.specs.declared.routine.TosOp.{TosOp}
use Rattle.c65_code.specs.declared.routine.Width.{Width}
use Rattle.c65_code.specs.declared.routine.Width.TheVariants.{Ax, Eax}
use Rattle.c65_code.specs.LineState.{State, IsBytes}
use Rattle.c65_code.specs.Numbers.{words_of, unary_result, unary_width}
use Rattle.c65_code.specs.Placement.{IsPlacement}
use Rattle.c65_code.specs.Rows.{row_by, giving, costing, primary_of}
use Rattle.c65_genwide.specs.Lines.{call}
use Rattle.c65_genshift.specs.Shifts.{one_of, calls_code}
use Rattle.c65_agree_store.specs.Stands.{Placing, Banks}
use Rattle.c65_agree_state.specs.World.{World, Active}
use Rattle.c65_agree_state.specs.Exprs.{Ready}
use Rattle.c65_agree_state.proofs.Followed.{ready_is_calm}
use Rattle.c65_agree_rows.specs.Laws.{IsKeptWith}
use Rattle.c65_agree_rows.proofs.Families.{opposites_run}
use Rattle.c65_agree_frame.specs.Leads.{Leads}
use Rattle.c65_agree_frame.proofs.Leads.{none_leads, leads_as}
use Rattle.c65_agree_load.proofs.Kept.{runs_lead}
use Rattle.c65_agree_quick.specs.Laws.{IsNow}
use Rattle.c65_agree_quick.proofs.Powers.{moved, iterated, IsNear, one_below, own_width, steps_move}
use Rattle.c65_agree_quick.proofs.Scratch.{now_then, still_now}

pub word_small : (width : Width) (t : State) → IsBytes t → primary_of width t < words_of width
word_small Ax t b = omega (arith, b.a, b.x)
word_small Eax t b = omega (arith, b.a, b.x, b.zp 2, b.zp 3)

module _ (g : World) (a : Active) (pushed needs : ℕ) (c : Scene) (w : Placing) (b : Banks) (op : TosOp) (width : Width) (placed : IsPlacement g.code g.place) where
  small : (t : State) → Ready g a pushed needs c w b t → primary_of width t < words_of width
  small t ready = word_small width t (ready_is_calm g a pushed needs c w b t ready).calm.bytes

  one_leads : (t : State) → Ready g a pushed needs c w b t → Leads g a (call (Unary (one_of op) width) ∷ []) 256 t (IsNow g a c w b width (unary_result (one_of op) width (primary_of width t)) t)
  one_leads t ready =
      let r = one_of op in
      let n : ℕ = unary_result r width (primary_of width t) in
      let Given : State → Type 0 = IsKeptWith g a c w b t (λ z. primary_of (unary_width r width) z ≡ n) in
      leads_as g a (call (Unary r width) ∷ []) 256 256 t Given (IsNow g a c w b width n t) (omega arith)
      (λ u k. record { kept = k.kept; word = subst (λ to. primary_of to u ≡ n) (own_width op width) k.result })
      (runs_lead g a pushed needs c w b t (Unary r width) Given (cost (unary_width r width)) ready
      (opposites_run g a pushed needs c w b t r width placed ready (subst (λ to. n < words_of to) (sym (own_width op width)) (one_below op width (primary_of width t) (small t ready)))))
    where
      cost : (to : Width) → (giving to (unary_result (one_of op) width (primary_of width t)) (costing 256 (row_by (Unary (one_of op) width) t))).cost ≤ 256
      cost Ax = omega arith
      cost Eax = omega arith

  stepped : (n m : ℕ) (t : State) → Ready g a pushed needs c w b t → primary_of width t ≡ m → Leads g a (calls_code op width n) (256 * n) t (IsNow g a c w b width (iterated (unary_result (one_of op) width) n m) t)
  stepped zero m t ready is = leads_as g a [] 0 (256 * 0) t (IsNow g a c w b width m t) (IsNow g a c w b width m t) (omega arith) (λ u h. h) (none_leads g a t (IsNow g a c w b width m t) (still_now g a pushed needs c w b width placed m t ready is))
  stepped (suc n) m t ready is =
      let f : ℕ → ℕ = unary_result (one_of op) width in
      let last : ℕ = iterated f (suc n) m in
      leads_as g a (calls_code op width (suc n)) (256 + 256 * n) (256 * suc n) t (IsNow g a c w b width last t) (IsNow g a c w b width last t) (omega arith) (λ u h. h)
      (now_then g a pushed needs c w b width placed (call (Unary (one_of op) width) ∷ []) (calls_code op width n) 256 (256 * n) (f m) last t ready
      (subst (λ x. Leads g a (call (Unary (one_of op) width) ∷ []) 256 t (IsNow g a c w b width (f x) t)) is (one_leads t ready))
      (λ u ready2 is2. stepped n (f m) u ready2 is2))

  pub calls_lead : (n m : ℕ) (t : State) → Ready g a pushed needs c w b t → primary_of width t ≡ m → IsNear op n → Leads g a (calls_code op width n) (256 * n) t (IsNow g a c w b width (moved op width m n) t)
  calls_lead n m t ready is near =
      let below : m < words_of width = subst (λ x. x < words_of width) is (small t ready) in
      subst (λ x. Leads g a (calls_code op width n) (256 * n) t (IsNow g a c w b width x t)) (steps_move op width n m below near) (stepped n m t ready is)
