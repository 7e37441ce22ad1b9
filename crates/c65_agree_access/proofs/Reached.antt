-- The low byte of a number of elements in A becomes that of their bytes in Y.
use Rattle.std.proofs.Common.{◌≡◌, ℕ, ◌+◌, ◌-◌, ◌*◌, ◌%◌, ◌<◌, ◌≤◌, List, [], ◌∷◌, ◌++◌, length, Bool, true, false, refl, sym, ap, ◌∙◌, subst, arith}
use Rattle.std.specs.Prelude.{◌==◌, if◌then◌else◌, is_some, Option, Some, None}
use Rattle.std.proofs.lemmas.Bool.{eqb-true}
use Rattle.c65_ints.specs.declared.types.IntType.TheVariants.{UInt}
use Rattle.c65_mach.specs.declared.rows.Op.TheVariants.{Asl, Tay}
use Rattle.c65_mach.specs.State.{Regs}
use Rattle.c65_meaning.specs.State.{Scene}
use Rattle.c65_code.specs.declared.line.Line.{Line}
use Rattle.c65_code.specs.LineState.{State, ax_of, IsBytes}
use Rattle.c65_code.specs.Placement.{IsPlacement}
use Rattle.c65_genload.specs.Words.{implied, shift_a}
use Rattle.c65_genshift.specs.Quick.{elements_code}
use Rattle.c65_genexpr.specs.declared.elements.Element.{Element}
use Rattle.c65_genexpr.specs.Elements.{doublings, doubled_code, scaled_by, reached_code}
use Rattle.c65_agree_store.specs.Stands.{Placing, Banks}
use Rattle.c65_agree_state.specs.World.{World, Active}
use Rattle.c65_agree_state.specs.Exprs.{Ready, Kept}
use Rattle.c65_agree_state.proofs.Nodes.{ready_stays}
use Rattle.c65_agree_state.proofs.Parts.{kept_goes_on}
use Rattle.c65_agree_frame.specs.Leads.{Leads}
use Rattle.c65_agree_frame.proofs.Leads.{after_lines, leads_then, leads_as, lines_lead}
use Rattle.c65_agree_load.proofs.Kept.{is_on, kept_later}
use Rattle.c65_agree_operate.specs.Manners.{Manner, IsLeft}
use Rattle.c65_agree_operate.proofs.Manners.{left_then, left_held}
use Rattle.c65_agree_operate.proofs.Lefts.{HasWord}
use Rattle.c65_agree_quick.specs.Laws.{HasTwo}
use Rattle.c65_agree_quick.proofs.Scratch.{AreScratch, are_safe}
use Rattle.c65_agree_pointers.proofs.Elements.{scaled}

-- Y has a number, and all is kept
pub record IsReached (g : World) (a : Active) (m : Manner) (c : Scene) (w : Placing) (k : Banks) (t : State) (n : ℕ) (u : State) : Type 0 where
  pub kept : Kept g a c w k t c w k u
  pub y : u.regs.y ≡ n
  pub left : IsLeft m c t c u

-- lines on registers alone
module _ (g : World) (a : Active) (m : Manner) (pushed needs : ℕ) (c : Scene) (w : Placing) (k : Banks) (t : State) (placed : IsPlacement g.code g.place) (r : Ready g a pushed needs c w k t) where
  by_registers : (ls : List Line) (n : ℕ) → AreScratch ls → length ls ≤ 4 → after_lines g ls t ≡ record t { regs = (after_lines g ls t).regs } → (after_lines g ls t).regs.y ≡ n → Leads g a ls 4 t (IsReached g a m c w k t n)
  by_registers ls n scratch short same y =
      leads_as g a ls (length ls) 4 t (λ u. (u ≡ after_lines g ls t) × IsBytes u) (IsReached g a m c w k t n) short (λ u e. reached u e.0 e.1)
      (lines_lead g a ls t placed (is_on g a pushed needs c w k t placed r) (are_safe g ls t scratch))
    where
      regs : Regs
      regs = (after_lines g ls t).regs

      reached : (u : State) → u ≡ after_lines g ls t → IsBytes u → IsReached g a m c w k t n u
      reached u e bytes =
          let is : u ≡ record t { regs = regs } = e ∙ same in
          rw is (record { kept = kept_later g a pushed needs c w k t placed r regs t.zp (λ i h. refl) (subst IsBytes is bytes); y = y; left = left_held m c t (record t { regs = regs }) (record { low = refl; high = refl }) })

module _ (g : World) (a : Active) (m : Manner) (pushed needs : ℕ) (c : Scene) (w : Placing) (k : Banks) (t : State) (placed : IsPlacement g.code g.place) (r : Ready g a pushed needs c w k t) (some : 1 ≤ needs) (x : Element) (narrow : x.size < 65536) where
  abbrev Reached : State → Type 0
  Reached = IsReached g a m c w k t ((t.regs.a * x.size) % 256)

  doubled : (ls : List Line) (n : ℕ) → AreScratch ls → length ls ≤ 4 → after_lines g ls t ≡ record t { regs = (after_lines g ls t).regs } → (after_lines g ls t).regs.y ≡ (t.regs.a * n) % 256 → x.size ≡ n → Leads g a ls 2400 t Reached
  doubled ls n scratch short same y is =
      let there : (after_lines g ls t).regs.y ≡ (t.regs.a * x.size) % 256 = y ∙ ap (λ s. (t.regs.a * s) % 256) (sym is) in
      leads_as g a ls 4 2400 t Reached Reached (omega arith) (λ u h. h) (by_registers g a m pushed needs c w k t placed r ls ((t.regs.a * x.size) % 256) scratch short same there)

  -- through AX
  abbrev fewer : ℕ
  fewer = needs - 1

  by_word : m.light ≡ false → Leads g a (elements_code x.size ++ (implied Tay ∷ [])) 2400 t Reached
  by_word heavy =
      let less : Ready g a pushed fewer c w k t = record { joins = r.joins; sp = r.sp; room = omega (arith, r.room, some); none_pushed = r.none_pushed } in
      let two : HasTwo a fewer c t = omega (arith, r.room, some) in
      let n : ℕ = (ax_of t * x.size) % 65536 in
      leads_as g a (elements_code x.size ++ (implied Tay ∷ [])) 2310 2400 t Reached Reached (omega arith) (λ u h. h)
      (leads_then g a (elements_code x.size) (implied Tay ∷ []) 2306 4 t (HasWord g a m UInt c w k t n) Reached
      (scaled g a m pushed fewer c w k t placed less two x.size narrow (λ e. let clash : true ≡ false = sym e ∙ heavy in absurd cc)) (λ u h.
      let ready = ready_stays g a pushed needs needs c c w w k k t u (omega arith) r h.kept in
      let byte : u.regs.a ≡ (t.regs.a * x.size) % 256 = low_byte t.regs.a t.regs.x x.size u.regs.a u.regs.x h.word ready.joins.bytes.a in
      leads_as g a (implied Tay ∷ []) 4 4 u (IsReached g a m c w k u ((t.regs.a * x.size) % 256)) Reached (omega arith)
      (λ v d. record { kept = kept_goes_on g a c c c w w w k k k t u v h.kept d.kept; y = d.y; left = left_then m c c c t u v h.left d.left })
      (by_registers g a m pushed needs c w k u placed ready (implied Tay ∷ []) ((t.regs.a * x.size) % 256) (tt, tt) (omega arith) refl byte)))
    where
      -- the low byte of a product is that of the product of the low bytes
      low_byte : (l h n b y : ℕ) → b + 256 * y ≡ ((l + 256 * h) * n) % 65536 → b < 256 → b ≡ (l * n) % 256
      low_byte l h n b y e small = let spread : (l + 256 * h) * n ≡ l * n + 256 * (h * n) = omega arith in omega (arith, e, small, spread)

  by_size : (o : Option ℕ) → doublings x.size ≡ o → (m.light ≡ true → is_some o ≡ true) → Leads g a (scaled_by x.size o ++ (implied Tay ∷ [])) 2400 t Reached
  by_size None e light = by_word (heavy m.light refl)
    where
      heavy : (l : Bool) → m.light ≡ l → m.light ≡ false
      heavy false h = h
      heavy true h = absurd (let clash : false ≡ true = light h in cc)
  by_size (Some d) e light = by (x.size == 1) (x.size == 2) (x.size == 4) (x.size == 8) refl refl refl refl e
    where
      byte : t.regs.a < 256
      byte = r.joins.bytes.a

      by : (one two four eight : Bool) → (x.size == 1) ≡ one → (x.size == 2) ≡ two → (x.size == 4) ≡ four → (x.size == 8) ≡ eight → (if one then Some 0 else (if two then Some 1 else (if four then Some 2 else (if eight then Some 3 else None)))) ≡ Some d → Leads g a (doubled_code d ++ (implied Tay ∷ [])) 2400 t Reached
      by true two four eight e1 e2 e4 e8 f = let same : 0 ≡ d = cc in subst (λ z. Leads g a (doubled_code z ++ (implied Tay ∷ [])) 2400 t Reached) same (doubled (implied Tay ∷ []) 1 (tt, tt) (omega arith) refl (omega (arith, byte)) (eqb-true x.size 1 e1))
      by false true four eight e1 e2 e4 e8 f = let same : 1 ≡ d = cc in subst (λ z. Leads g a (doubled_code z ++ (implied Tay ∷ [])) 2400 t Reached) same (doubled (shift_a Asl ∷ implied Tay ∷ []) 2 (tt, (tt, tt)) (omega arith) refl (omega (arith, byte)) (eqb-true x.size 2 e2))
      by false false true eight e1 e2 e4 e8 f = let same : 2 ≡ d = cc in subst (λ z. Leads g a (doubled_code z ++ (implied Tay ∷ [])) 2400 t Reached) same (doubled (shift_a Asl ∷ shift_a Asl ∷ implied Tay ∷ []) 4 (tt, (tt, (tt, tt))) (omega arith) refl (omega (arith, byte)) (eqb-true x.size 4 e4))
      by false false false true e1 e2 e4 e8 f = let same : 3 ≡ d = cc in subst (λ z. Leads g a (doubled_code z ++ (implied Tay ∷ [])) 2400 t Reached) same (doubled (shift_a Asl ∷ shift_a Asl ∷ shift_a Asl ∷ implied Tay ∷ []) 8 (tt, (tt, (tt, (tt, tt)))) (omega arith) refl (omega (arith, byte)) (eqb-true x.size 8 e8))
      by false false false false e1 e2 e4 e8 f = absurd cc

  pub reaches : (m.light ≡ true → is_some (doublings x.size) ≡ true) → Leads g a (reached_code x) 2400 t Reached
  reaches light = by_size (doublings x.size) refl light
