-- AX is shifted bit by bit in a loop, with its high byte in tmp1 and the turns that are left in Y.
use Rattle.std.proofs.Common.{◌≡◌, ℕ, zero, suc, ◌+◌, ◌*◌, ◌/◌, ◌%◌, ◌<◌, ◌≤◌, List, [], ◌∷◌, ◌++◌, length, Bool, true, false, refl, sym, ap, ◌∙◌, subst, arith, length-append, append_assoc}
use Rattle.std.specs.Prelude.{nat_lt, ◌==◌}
use Rattle.std.proofs.lemmas.Bool.{ltb-true, ltb-false, eqb-true}
use Rattle.std.proofs.lemmas.Bool.Decides.{nat_tests}
use Rattle.c65_mach.specs.declared.rows.Op.TheVariants.{Bne, Dey, Ldx, Ldy, Stx}
use Rattle.c65_mach.specs.Step.{bit, is_not}
use Rattle.c65_meaning.specs.State as meaning
use Rattle.c65_meaning.specs.State.{Scene}
use Rattle.c65_meaning.specs.Step.{steps}
use Rattle.c65_code.specs.declared.line.Line.{Line}
use Rattle.c65_code.specs.declared.line.Line.TheVariants.{Label}
use Rattle.c65_code.specs.declared.routine.Width.TheVariants.{Ax}
use Rattle.c65_code.specs.LineState.{State, ax_of, IsBytes}
use Rattle.c65_code.specs.Placement.{IsPlacement}
use Rattle.c65_code.specs.Forms.{Branch}
use Rattle.c65_code.specs.Comes.{Seen, seen_at}
use Rattle.c65_genwide.specs.Lines.{value}
use Rattle.c65_genload.specs.Words.{tmp1, implied, zero_page, branch}
use Rattle.c65_genshift.specs.Shifts.{turns_code, left_turn, right_turn}
use Rattle.c65_agree_store.specs.Stands.{Placing, Banks}
use Rattle.c65_agree_step.specs.Ways.{Moment, IsAtLine}
use Rattle.c65_agree_step.proofs.Ways.{weaken, branches_go, labels_are_passed}
use Rattle.c65_agree_state.specs.World.{World, program_in, setting_in, Active, lines_of, place_in, IsPlaced, HasAt, HasTurns}
use Rattle.c65_agree_state.specs.Follows.{Agrees, Follows}
use Rattle.c65_agree_state.specs.Exprs.{Ready}
use Rattle.c65_agree_state.proofs.Followed.{arrivals_count}
use Rattle.c65_agree_state.proofs.Nodes.{has_front, has_back, ready_stays}
use Rattle.c65_agree_frame.specs.Leads.{Leads, IsOn}
use Rattle.c65_agree_frame.proofs.Leads.{after_lines, lines_lead, leads_then, leads_as}
use Rattle.c65_agree_load.proofs.Kept.{is_on}
use Rattle.c65_agree_quick.specs.Laws.{IsNow}
use Rattle.c65_agree_quick.proofs.Powers.{iterated}
use Rattle.c65_agree_quick.proofs.Scratch.{IsOther, other_then, AreScratch, scratch_append, after_append, are_safe, are_other, other_kept}

-- the word in A and tmp1
abbrev pub pair : State → ℕ
pair u = u.regs.a + 256 * u.zp 16

-- what one turn does
pub record Turns (g : World) (turn : List Line) (f : ℕ → ℕ) : Type 0 where
  pub scratch : AreScratch turn
  pub word : (u : State) → IsBytes u → pair (after_lines g turn u) ≡ f (pair u)
  pub y : (u : State) → (after_lines g turn u).regs.y ≡ u.regs.y

-- a moment of the loop that began at t: so many turns are left, and the word is v
pub record IsAt (t : State) (k v : ℕ) (u : State) : Type 0 where
  pub other : IsOther t u
  pub bytes : IsBytes u
  pub y : u.regs.y ≡ k
  pub word : pair u ≡ v

record IsCounted (t : State) (k v : ℕ) (u : State) : Type 0 where
  at : IsAt t k v u
  zero : u.regs.z ≡ (u.regs.y == 0)

module _ (g : World) (a : Active) (pushed needs : ℕ) (c : Scene) (w : Placing) (b : Banks) (t : State) (placed : IsPlacement g.code g.place) (own : IsPlaced (lines_of g a)) (ready : Ready g a pushed needs c w b t)
    (turn : List Line) (f : ℕ → ℕ) (turns : Turns g turn f) (label : ℕ) where
  abbrev pub body : List Line
  body = turn ++ (implied Dey ∷ [])

  abbrev pub loop : List Line
  loop = Label label ∷ (turn ++ (implied Dey ∷ branch Bne label ∷ []))

  loop_is : loop ≡ Label label ∷ (body ++ (branch Bne label ∷ []))
  loop_is = ap (λ ls. Label label ∷ ls) (sym (append_assoc turn (implied Dey ∷ []) (branch Bne label ∷ [])))

  body_scratch : AreScratch body
  body_scratch = scratch_append turn (implied Dey ∷ []) turns.scratch (tt, tt)

  on_at : (k v : ℕ) (u : State) → IsAt t k v u → IsOn g u
  on_at k v u h = is_on g a pushed needs c w b u placed (ready_stays g a pushed needs needs c c w w b b t u (omega arith) ready (other_kept g a pushed needs c w b Ax placed t u ready h.other h.bytes))

  body_leads : (k v : ℕ) (u : State) → suc k < 256 → IsAt t (suc k) v u → Leads g a body (length body) u (IsCounted t k (f v))
  body_leads k v u few h =
      leads_as g a body (length body) (length body) u (λ z. (z ≡ after_lines g body u) × IsBytes z) (IsCounted t k (f v)) (omega arith)
      (λ z r.
      let turned : State = after_lines g turn u in
      let after : after_lines g body u ≡ after_lines g (implied Dey ∷ []) turned = after_append g turn (implied Dey ∷ []) u in
      let is : z ≡ after_lines g (implied Dey ∷ []) turned = r.0 ∙ after in
      let y : turned.regs.y ≡ suc k = turns.y u ∙ h.y in
      record {
        at = record {
          other = other_then t u z h.other (subst (IsOther u) (sym r.0) (are_other g body u body_scratch));
          bytes = r.1;
          y = ap (λ (s : State). s.regs.y) is ∙ omega (arith, y, few);
          word = ap pair is ∙ turns.word u h.bytes ∙ ap f h.word;
        };
        zero = ap (λ (s : State). s.regs.z) is ∙ ap (λ (s : State). s.regs.y == 0) (sym is);
      })
      (lines_lead g a body u placed (on_at (suc k) v u h) (are_safe g body u body_scratch))

  abbrev all : List Line
  all = Label label ∷ (body ++ (branch Bne label ∷ []))

  abbrev pub cost : ℕ → ℕ
  cost zero = length body + 2
  cost (suc k) = length body + (2 + cost k)

  -- behind the body of a turn
  module _ (n x p from : ℕ) (m : meaning.State) (has : HasAt (lines_of g a) p all) (k v : ℕ) (z : State) (later : Seen) (counted : IsCounted t k v z) (turned : HasTurns g from (place_in g a (suc p + length body)) later) where
    abbrev at_end : ℕ
    at_end = suc p + length body

    abbrev Moments : Moment
    Moments = Agrees g (steps (program_in g) n m)

    there : IsAtLine (setting_in g) a.symbol at_end z (Branch Bne label)
    there = record { line = branch Bne label; there = (has_back (lines_of g a) (suc p) body (branch Bne label ∷ []) has.1).0; formed = refl; calm = (on_at k v z counted.at).stacks.calm; within = tt; running = (on_at k v z counted.at).running }

    arrived : (q : ℕ) → HasTurns g from (place_in g a q) (seen_at (place_in g a q) later)
    arrived q = arrivals_count g from (place_in g a q) later (omega (arith, turned))

    leaves : is_not z.regs.z ≡ false → ((u : State) (after : Seen) → IsAt t k v u → HasTurns g from (place_in g a (p + length all)) after → Follows g n x m (place_in g a (p + length all)) u after) → Follows g n (2 + x) m (place_in g a at_end) z later
    leaves is goes d =
        let ends : suc at_end ≡ p + length all = omega (arith, length-append body (branch Bne label ∷ [])) in
        weaken (setting_in g) Moments (4000 * n + (2 + x)) (omega arith) (branches_go Moments (setting_in g) (4000 * n + x) a.symbol at_end label z later Bne false there is (
        subst (λ e. Follows g n x m (place_in g a e) z (seen_at (place_in g a (suc at_end)) later)) (sym ends)
        (goes z (seen_at (place_in g a (suc at_end)) later) counted.at (subst (λ e. HasTurns g from (place_in g a e) (seen_at (place_in g a (suc at_end)) later)) ends (arrived (suc at_end)))) d))

    goes_back : (y : ℕ) → is_not z.regs.z ≡ true → Follows g n y m (place_in g a p) z (seen_at (place_in g a p) later) → Follows g n (2 + y) m (place_in g a at_end) z later
    goes_back y is again d =
        weaken (setting_in g) Moments (4000 * n + (2 + y)) (omega arith) (branches_go Moments (setting_in g) (4000 * n + y) a.symbol at_end label z later Bne true there is (
        subst (λ e. Follows g n y m (place_in g a e) z (seen_at (place_in g a e) later)) (sym (own p label has.0)) again d))

  rounds : (k v : ℕ) (u : State) → suc k < 256 → IsAt t (suc k) v u → Leads g a all (cost k) u (IsAt t 0 (iterated f (suc k) v))
  rounds zero v u few h n x p from m seen has turned goes =
      let passed : place_in g a p ≡ place_in g a (suc p) = labels_are_passed (setting_in g) a.symbol p label has.0 in
      let sum : length body + (2 + x) ≡ cost zero + x = omega arith in
      subst (λ q. Follows g n (cost zero + x) m q u seen) (sym passed)
      (subst (λ y. Follows g n y m (place_in g a (suc p)) u seen) sum
      (body_leads zero v u few h n (2 + x) (suc p) from m seen (has_front (lines_of g a) (suc p) body (branch Bne label ∷ []) has.1) (subst (λ q. HasTurns g from q seen) passed turned) (λ z later counted turned2.
      leaves n x p from m has zero (f v) z later counted turned2 (ap is_not (counted.zero ∙ ap (λ y. y == 0) counted.at.y)) goes)))
  rounds (suc k) v u few h n x p from m seen has turned goes =
      let passed : place_in g a p ≡ place_in g a (suc p) = labels_are_passed (setting_in g) a.symbol p label has.0 in
      let sum : length body + (2 + (cost k + x)) ≡ cost (suc k) + x = omega arith in
      subst (λ q. Follows g n (cost (suc k) + x) m q u seen) (sym passed)
      (subst (λ y. Follows g n y m (place_in g a (suc p)) u seen) sum
      (body_leads (suc k) v u few h n (2 + (cost k + x)) (suc p) from m seen (has_front (lines_of g a) (suc p) body (branch Bne label ∷ []) has.1) (subst (λ q. HasTurns g from q seen) passed turned) (λ z later counted turned2.
      let some : (suc k == 0) ≡ false = grind (arith, nat_tests) in
      goes_back n x p from m has (suc k) (f v) z later counted turned2 (cost k + x) (ap is_not (counted.zero ∙ ap (λ y. y == 0) counted.at.y ∙ some))
      (rounds k (f v) z (omega (arith, few)) counted.at n x p from m (seen_at (place_in g a p) later) has (arrived n x p from m has (suc k) (f v) z later counted turned2 p) goes))))

  pub cost_is : (k : ℕ) → cost k ≡ suc k * (length body + 2)
  cost_is zero = omega arith
  cost_is (suc k) = omega (arith, cost_is k)

  abbrev head : ℕ → List Line
  head n = zero_page Stx tmp1 ∷ value Ldy n ∷ []

  -- the turns, and X again
  pub turns_lead : (k : ℕ) → suc k < 256 → Leads g a (turns_code turn (suc k) label) (2 + (cost k + 1)) t (IsNow g a c w b Ax (iterated f (suc k) (ax_of t)) t)
  turns_lead k few =
      let result : ℕ = iterated f (suc k) (ax_of t) in
      let on : IsOn g t = is_on g a pushed needs c w b t placed ready in
      let last : List Line = zero_page Ldx tmp1 ∷ [] in
      let lines : List Line = head (suc k) ++ (all ++ last) in
      let begun : AreScratch (head (suc k)) = ((omega arith, omega arith), (few, tt)) in
      subst (λ ls. Leads g a ls (2 + (cost k + 1)) t (IsNow g a c w b Ax result t)) shape
      (leads_then g a (head (suc k)) (all ++ last) 2 (cost k + 1) t (IsAt t (suc k) (ax_of t)) (IsNow g a c w b Ax result t)
      (leads_as g a (head (suc k)) 2 2 t (λ u. (u ≡ after_lines g (head (suc k)) t) × IsBytes u) (IsAt t (suc k) (ax_of t)) (omega arith)
      (λ u h. record { other = subst (IsOther t) (sym h.0) (are_other g (head (suc k)) t begun); bytes = h.1; y = ap (λ (s : State). s.regs.y) h.0; word = ap pair h.0 })
      (lines_lead g a (head (suc k)) t placed on (are_safe g (head (suc k)) t begun)))
      (λ u h. leads_then g a all last (cost k) 1 u (IsAt t 0 result) (IsNow g a c w b Ax result t) (rounds k (ax_of t) u few h) (λ z h2.
      leads_as g a last 1 1 z (λ y. (y ≡ after_lines g last z) × IsBytes y) (IsNow g a c w b Ax result t) (omega arith)
      (λ y h3. record { kept = other_kept g a pushed needs c w b Ax placed t y ready (other_then t z y h2.other (subst (IsOther z) (sym h3.0) (are_other g last z (omega arith, tt)))) h3.1; word = ap ax_of h3.0 ∙ h2.word })
      (lines_lead g a last z placed (on_at 0 result z h2) (are_safe g last z (omega arith, tt))))))
    where
      shape : head (suc k) ++ (all ++ (zero_page Ldx tmp1 ∷ [])) ≡ turns_code turn (suc k) label
      shape =
          ap (λ ls. zero_page Stx tmp1 ∷ value Ldy (suc k) ∷ Label label ∷ ls)
          (append_assoc body (branch Bne label ∷ []) (zero_page Ldx tmp1 ∷ []) ∙ append_assoc turn (implied Dey ∷ []) (branch Bne label ∷ zero_page Ldx tmp1 ∷ []))

-- ---- both ways

pub left_carry : (v x : ℕ) (b : Bool) → nat_lt 127 v ≡ b → v < 256 → (2 * v) % 256 + 256 * ((2 * x) % 256 + bit b) ≡ (2 * (v + 256 * x)) % 65536
left_carry v x true e h = let more : 127 < v = ltb-true 127 v e in omega arith
left_carry v x false e h = let less : v ≤ 127 = ltb-false 127 v e in omega arith

pub turns_left : (g : World) → Turns g left_turn (λ n. (2 * n) % 65536)
turns_left g = record { scratch = (tt, ((omega arith, omega arith), tt)); word = λ u b. left_carry u.regs.a (u.zp 16) (nat_lt 127 u.regs.a) refl b.a; y = λ u. refl }

right_carry : (v x : ℕ) (b : Bool) → (x % 2 == 1) ≡ b → v / 2 + 128 * bit b + 256 * (x / 2) ≡ (v + 256 * x) / 2
right_carry v x true e = let odd : x % 2 ≡ 1 = eqb-true (x % 2) 1 e in omega arith
right_carry v x false e = let even : x % 2 ≡ 0 = grind (arith, nat_tests) in omega arith

pub turns_right : (g : World) → Turns g right_turn (λ n. n / 2)
turns_right g = record { scratch = ((omega arith, omega arith), (tt, tt)); word = λ u b. right_carry u.regs.a (u.zp 16) (u.zp 16 % 2 == 1) refl; y = λ u. refl }
