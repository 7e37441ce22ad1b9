-- Lines in place of two loads of a word and a call of a function of the library.
use Rattle.std.proofs.Common.{◌≡◌, ℕ, ◌+◌, ◌<◌, ◌≤◌, List, [], ◌∷◌, Some, None, refl, sym, subst, ap, arith}
use Rattle.c65_mach.specs.State.{Regs}
use Rattle.c65_mach.specs.Step.{with_a, with_x}
use Rattle.c65_mach.specs.declared.rows.Op.TheVariants as ops
use Rattle.c65_mach.specs.declared.rows.Mode.TheVariants.{Immediate}
use Rattle.c65_base.specs.declared.library.Library.{Library}
use Rattle.c65_code.specs.declared.line.Line.{Line}
use Rattle.c65_code.specs.declared.line.Line.TheVariants.{Do}
use Rattle.c65_code.specs.declared.line.Operand.{Operand}
use Rattle.c65_code.specs.declared.parts.RegSet.{RegSet}
use Rattle.c65_code.specs.declared.routine.Routine.TheVariants as routines
use Rattle.c65_code.specs.Forms.{form_of}
use Rattle.c65_code.specs.LineState.{State, IsBytes}
use Rattle.c65_code.specs.Moves.{Does, MeetsRow}
use Rattle.c65_code.specs.Placement.{Setting, word_of}
use Rattle.c65_code.specs.Rows.{row_of}
use Rattle.c65_code.specs.Steady.{IsCalm, IsSteady, RowHasRoom}
use Rattle.c65_code.specs.Weights.{row_cost}
use Rattle.c65_pass.specs.StackRules.{call_of, word_loaded}
use Rattle.c65_opt_law_follow.specs.Windows.{WayOut, Behind, IsSilent, IsPassed, weight_of, ends, goes, Way, Safe, safe_line, safe_jump, safe_branch, Starts, Justified}
use Rattle.c65_opt_law_follow.proofs.Near.{near_itself}
use Rattle.c65_opt_law_opened.proofs.AtSp.{with_regs}
use Rattle.c65_opt_law_opened.proofs.Leads.{Leads, AllPassable, behind, immediate, leads_safe, leads_through}
use Rattle.c65_opt_law_opened.proofs.Stand.{IsSafeCall, safe_call}

-- ---- two loads

-- a load that changes registers alone
pub record IsLoad (s : Setting) (line : Line) (act : Regs → Regs) : Type 0 where
  pub passed : IsPassed (form_of line)
  pub does : (t : State) → Does s.place (form_of line) t (with_regs t (act t.regs))
  pub weight : (t : State) → weight_of (form_of line) t ≡ 1
  pub bytes : (t : State) → IsBytes t → IsBytes (with_regs t (act t.regs))

-- two loads of a word with these bytes
pub record AreLoads (s : Setting) (one other : Line) (l h : ℕ) : Type 0 where
  pub first : Regs → Regs
  pub second : Regs → Regs
  pub one_load : IsLoad s one first
  pub other_load : IsLoad s other second
  pub low : (r : Regs) → (second (first r)).a ≡ l
  pub high : (r : Regs) → (second (first r)).x ≡ h
  pub passable : (t : State) → AllPassable s (one ∷ other ∷ []) t
  pub to : (t : State) → behind s (one ∷ other ∷ []) t ≡ with_regs t (second (first t.regs))

lda_load : (s : Setting) (o : Operand) → word_of s.place o < 256 → IsLoad s (Do ops.Lda Immediate o) (with_a (word_of s.place o))
lda_load s o less = record { passed = tt; does = λ t. refl; weight = λ t. refl; bytes = λ t b. record { a = less; x = b.x; y = b.y; zp = b.zp; mem = b.mem; pushed = b.pushed; frames = b.frames } }

ldx_load : (s : Setting) (o : Operand) → word_of s.place o < 256 → IsLoad s (Do ops.Ldx Immediate o) (with_x (word_of s.place o))
ldx_load s o less = record { passed = tt; does = λ t. refl; weight = λ t. refl; bytes = λ t b. record { a = b.a; x = less; y = b.y; zp = b.zp; mem = b.mem; pushed = b.pushed; frames = b.frames } }

pub word_loads : (s : Setting) (one other : Line) (word : Operand × Operand) → word_loaded one other ≡ Some word → word_of s.place word.1 < 256 → word_of s.place word.0 < 256
    → AreLoads s one other (word_of s.place word.1) (word_of s.place word.0)
word_loads s (Do ops.Ldx Immediate x) (Do ops.Lda Immediate a) word e low high =
    let first : x ≡ word.0 = cc in
    let second : a ≡ word.1 = cc in
    let x_byte : word_of s.place x < 256 = subst (λ (o : Operand). word_of s.place o < 256) (sym first) high in
    let a_byte : word_of s.place a < 256 = subst (λ (o : Operand). word_of s.place o < 256) (sym second) low in
    record {
      first = with_x (word_of s.place x);
      second = with_a (word_of s.place a);
      one_load = ldx_load s x x_byte;
      other_load = lda_load s a a_byte;
      low = λ r. ap (word_of s.place) second;
      high = λ r. ap (word_of s.place) first;
      passable = λ t. (immediate s ops.Ldx x t, (immediate s ops.Lda a (with_regs t (with_x (word_of s.place x) t.regs)), tt));
      to = λ t. refl;
    }
word_loads s (Do ops.Lda Immediate a) (Do ops.Ldx Immediate x) word e low high =
    let first : x ≡ word.0 = cc in
    let second : a ≡ word.1 = cc in
    let x_byte : word_of s.place x < 256 = subst (λ (o : Operand). word_of s.place o < 256) (sym first) high in
    let a_byte : word_of s.place a < 256 = subst (λ (o : Operand). word_of s.place o < 256) (sym second) low in
    record {
      first = with_a (word_of s.place a);
      second = with_x (word_of s.place x);
      one_load = lda_load s a a_byte;
      other_load = ldx_load s x x_byte;
      low = λ r. ap (word_of s.place) second;
      high = λ r. ap (word_of s.place) first;
      passable = λ t. (immediate s ops.Lda a t, (immediate s ops.Ldx x (with_regs t (with_a (word_of s.place a) t.regs)), tt));
      to = λ t. refl;
    }
word_loads s _ _ word e low high = absurd cc

-- ---- the call behind them

-- where lines behind a load are safe
record Rest (s : Setting) (line : Line) (lines : List Line) (w : ℕ) (t : State) : Type 0 where
  steady : IsSteady s line t
  weight : ℕ
  enough : weight_of (form_of line) t + weight ≤ w
  safe : (u : State) → Does s.place (form_of line) t u → IsBytes u → Safe s lines weight u

rest_safe : (s : Setting) (line : Line) (lines : List Line) (w : ℕ) (t : State) → IsPassed (form_of line) → Safe s (line ∷ lines) w t → Rest s line lines w t
rest_safe s line lines w t i (safe_line {v = v} j st le k) = record { steady = st; weight = v; enough = le; safe = k }
rest_safe s line lines w t i (safe_jump l e st le) = absurd (subst IsPassed e i)
rest_safe s line lines w t i (safe_branch op l e st le k) = absurd (subst IsPassed e i)

-- what is known of a call in the state in which it is made, behind two loads
pub record IsCalled (s : Setting) (f : Library) (t m : State) : Type 0 where
  pub calm : IsCalm s t
  pub bytes : IsBytes m
  pub running : t.ended ≡ None
  pub room : RowHasRoom s.place (row_of (routines.Library f) m) m
  pub ends_calm : (u : State) → MeetsRow (row_of (routines.Library f) m) m u → IsBytes u → IsCalm s u

module _ (s : Setting) (f : Library) (silent : IsSilent (routines.Library f)) (one other : Line) (l h : ℕ) (loads : AreLoads s one other l h) where
  -- the state in which the call is made
  abbrev pub loaded : State → State
  loaded t = with_regs t (loads.second (loads.first t.regs))

  abbrev half : State → State
  half t = with_regs t (loads.first t.regs)

  abbrev pub call_lines : List Line
  call_lines = one ∷ other ∷ call_of (routines.Library f) ∷ []

  -- lines that lead wherever the call leads behind the loads, within its cost
  abbrev pub IsServed : List Line → Type 0
  IsServed new = (t : State) → IsCalled s f t (loaded t) → (n : ℕ) × Leads s (MeetsRow (row_of (routines.Library f) (loaded t)) (loaded t)) new n t × (n ≤ row_cost (row_of (routines.Library f) (loaded t)))

  way_of : (t u : State) → IsBytes t → MeetsRow (row_of (routines.Library f) (loaded t)) (loaded t) u → IsBytes u
      → Way s.place call_lines t Behind u (weight_of (form_of one) t + (weight_of (form_of other) (half t) + (row_cost (row_of (routines.Library f) (loaded t)) + 0)))
  way_of t u b met bytes =
      let mid : IsBytes (half t) = loads.one_load.bytes t b in
      goes loads.one_load.passed (loads.one_load.does t) mid (goes loads.other_load.passed (loads.other_load.does (half t)) (loads.other_load.bytes (half t) mid) (goes silent met bytes ends))

  record Called (w : ℕ) (t : State) : Type 0 where
    called : IsCalled s f t (loaded t)
    cost : row_cost (row_of (routines.Library f) (loaded t)) ≤ w

  called_at : (w : ℕ) (t : State) → Starts s (λ t. Unit {0}) call_lines w t → Called w t
  called_at w t k =
      let first : Rest s one (other ∷ call_of (routines.Library f) ∷ []) w t = rest_safe s one (other ∷ call_of (routines.Library f) ∷ []) w t loads.one_load.passed k.safe in
      let mid : IsBytes (half t) = loads.one_load.bytes t k.bytes in
      let next = first.safe (half t) (loads.one_load.does t) mid in
      let second : Rest s other (call_of (routines.Library f) ∷ []) first.weight (half t) = rest_safe s other (call_of (routines.Library f) ∷ []) first.weight (half t) loads.other_load.passed next in
      let end : IsBytes (loaded t) = loads.other_load.bytes (half t) mid in
      let last = second.safe (loaded t) (loads.other_load.does (half t)) end in
      let here : IsSafeCall s (routines.Library f) second.weight (loaded t) = safe_call s (routines.Library f) second.weight (loaded t) last in
      record {
        called = record { calm = first.steady.calm; bytes = end; running = k.running; room = here.steady.within; ends_calm = λ u met b. k.calm Behind u _ (way_of t u k.bytes met b) };
        cost = omega (arith, here.cost, second.enough, first.enough);
      }

  pub served : (to : WayOut → ℕ) (after : WayOut → RegSet) (new : List Line) → IsServed new → Justified s to after (λ t. Unit {0}) call_lines new
  served to after new serves = record {
    safe = λ w t k. let c = called_at w t k in let x = serves t c.called in leads_safe s (MeetsRow (row_of (routines.Library f) (loaded t)) (loaded t)) new x.0 w t (omega (arith, x.2, c.cost)) x.1;
    answers = λ w t k e u c way.
        let x = serves t (called_at w t k).called in
        let led = leads_through s (MeetsRow (row_of (routines.Library f) (loaded t)) (loaded t)) new x.0 t e u c x.1 k.bytes way in
        record {
          old_exit = Behind;
          state = u;
          weighs = weight_of (form_of one) t + (weight_of (form_of other) (half t) + (row_cost (row_of (routines.Library f) (loaded t)) + 0));
          way = way_of t u k.bytes led.holds led.bytes;
          less = omega (arith, led.within, x.2);
          same = ap to (sym led.behind);
          near = near_itself (after Behind) u;
        };
  }
