-- A call in place of lines.
use Rattle.std.proofs.Common.{◌≡◌, ℕ, ◌+◌, ◌-◌, ◌≤◌, List, [], ◌∷◌, refl, subst, arith}
use Rattle.c65_code.specs.declared.line.Line.{Line}
use Rattle.c65_code.specs.declared.parts.RegSet.{RegSet}
use Rattle.c65_code.specs.declared.routine.Routine.{Routine}
use Rattle.c65_code.specs.Forms.{Branch, Jump, Run, form_of}
use Rattle.c65_code.specs.LineState.{State, IsBytes}
use Rattle.c65_code.specs.Moves.{Does, MeetsRow}
use Rattle.c65_code.specs.Placement.{Placement, Setting}
use Rattle.c65_code.specs.Rows.{row_of}
use Rattle.c65_code.specs.Steady.{IsCalm, IsSteady, RowHasRoom}
use Rattle.c65_code.specs.Weights.{row_cost}
use Rattle.c65_pass.specs.StackRules.{call_of}
use Rattle.c65_opt_law_follow.specs.Windows.{WayOut, Behind, IsSilent, IsPassed, weight_of, Way, ends, goes, jumps, branches, passes, Safe, safe_end, safe_line, safe_jump, safe_branch, Answers, Starts, Justified}
use Rattle.c65_opt_law_follow.proofs.Near.{near_itself}

-- ---- safe lines

pub first_steady : (s : Setting) (line : Line) (lines : List Line) (w : ℕ) (t : State) → Safe s (line ∷ lines) w t → IsSteady s line t
first_steady s line lines w t (safe_line i st le k) = st
first_steady s line lines w t (safe_jump l e st le) = st
first_steady s line lines w t (safe_branch op l e st le k) = st

-- where lines are safe, those behind the first one are
pub record Rest (s : Setting) (line : Line) (lines : List Line) (w : ℕ) (t : State) : Type 0 where
  pub weight : ℕ
  pub enough : weight_of (form_of line) t + weight ≤ w
  pub safe : (u : State) → Does s.place (form_of line) t u → IsBytes u → Safe s lines weight u

pub rest_safe : (s : Setting) (line : Line) (lines : List Line) (w : ℕ) (t : State) → IsPassed (form_of line) → Safe s (line ∷ lines) w t → Rest s line lines w t
rest_safe s line lines w t i (safe_line {v = v} j st le k) = record { weight = v; enough = le; safe = k }
rest_safe s line lines w t i (safe_jump l e st le) = absurd (subst IsPassed e i)
rest_safe s line lines w t i (safe_branch op l e st le k) = absurd (subst IsPassed e i)

-- a call in place of another one, which is made in another state
pub record Serves (place : Placement) (old new : Routine) (m t : State) : Type 0 where
  pub room : RowHasRoom place (row_of new t) t
  pub cost : row_cost (row_of new t) ≤ row_cost (row_of old m)
  pub meets : (u : State) → MeetsRow (row_of new t) t u → IsBytes u → MeetsRow (row_of old m) m u

-- what is justified where nothing is known is justified whatever is known
pub justified_knowing : (s : Setting) (to : WayOut → ℕ) (after : WayOut → RegSet) (known : State → Type 0) (old new : List Line) → Justified s to after (λ t. Unit {0}) old new → Justified s to after known old new
justified_knowing s to after known old new j = record { safe = λ w t h. j.safe w t (forget w t h); answers = λ w t h. j.answers w t (forget w t h) }
  where
    forget : (w : ℕ) (t : State) → Starts s known old w t → Starts s (λ t. Unit {0}) old w t
    forget w t h = record { knows = tt; running = h.running; bytes = h.bytes; safe = h.safe; calm = h.calm }

module _ (s : Setting) (to : WayOut → ℕ) (after : WayOut → RegSet) where
  abbrev StartsAt : List Line → ℕ → State → Type 0
  StartsAt old w t = Starts s (λ t. Unit {0}) old w t

  -- ---- one call

  -- a call stands for lines: it has room where they are safe, weighs no more, and leads nowhere where they do not lead
  pub record Stands (old : List Line) (r : Routine) (w : ℕ) (t : State) : Type 0 where
    pub calm : IsCalm s t
    pub room : RowHasRoom s.place (row_of r t) t
    pub cost : row_cost (row_of r t) ≤ w
    pub ways : (u : State) → MeetsRow (row_of r t) t u → IsBytes u → (c : ℕ) × Way s.place old t Behind u c × (row_cost (row_of r t) ≤ c)

  pub call_stands : (old : List Line) (r : Routine) → IsSilent r → ((w : ℕ) (t : State) → StartsAt old w t → Stands old r w t) → Justified s to after (λ t. Unit {0}) old (call_of r ∷ [])
  call_stands old r silent stands = record {
    safe = λ w t h. let k = stands w t h in safe_line {v = 0} silent (record { calm = k.calm; within = k.room }) (omega (arith, k.cost)) (λ u d b. safe_end);
    answers = λ w t h e u v way. answer t (stands w t h).ways e u v way;
  }
    where
      end : (t m : State) (e : WayOut) (u : State) (v c : ℕ) → Way s.place [] m e u v → Way s.place old t Behind m c → row_cost (row_of r t) ≤ c → Answers s.place to after old t e u (row_cost (row_of r t) + v)
      end t m e u v c ends way le = record { old_exit = Behind; state = m; weighs = c; way = way; less = omega (arith, le); same = refl; near = near_itself (after Behind) m }

      answer : (t : State) → ((u : State) → MeetsRow (row_of r t) t u → IsBytes u → (c : ℕ) × Way s.place old t Behind u c × (row_cost (row_of r t) ≤ c)) → (e : WayOut) (u : State) (v : ℕ) → Way s.place (call_of r ∷ []) t e u v
          → Answers s.place to after old t e u v
      answer t ways e u v (goes {u = m} {w = c} i d b way) = let y = ways m d b in end t m e u c y.0 way y.1 y.2
      answer t ways e u v (jumps l f) = absurd (apart l f)
        where
          apart : (l : ℕ) → Run r ≡ Jump l → ⊥
          apart l x = cc
      answer t ways e u v (branches op l f z) = absurd (apart f)
        where
          apart : Run r ≡ Branch op l → ⊥
          apart x = cc
      answer t ways e u v (passes op l f z way) = absurd (apart f)
        where
          apart : Run r ≡ Branch op l → ⊥
          apart x = cc

  -- in place of a line that leads to that state, and the other call
  pub serves_both : (first : Line) (go : State → State) (old new : Routine) → IsPassed (form_of first) → IsSilent old → IsSilent new → ((t : State) → Does s.place (form_of first) t (go t)) → ((t : State) → IsBytes t → IsBytes (go t))
      → ((t : State) → IsCalm s t → RowHasRoom s.place (row_of old (go t)) (go t) → Serves s.place old new (go t) t) → Justified s to after (λ t. Unit {0}) (first ∷ call_of old ∷ []) (call_of new ∷ [])
  serves_both first go old new passed silent new_silent does bytes serves = call_stands (first ∷ call_of old ∷ []) new new_silent (λ w t h.
      let st = first_steady s first (call_of old ∷ []) w t h.safe in
      let rest = rest_safe s first (call_of old ∷ []) w t passed h.safe in
      let next = rest.safe (go t) (does t) (bytes t h.bytes) in
      let second = first_steady s (call_of old) [] rest.weight (go t) next in
      let last = rest_safe s (call_of old) [] rest.weight (go t) silent next in
      let k : Serves s.place old new (go t) t = serves t st.calm second.within in
      record {
        calm = st.calm;
        room = k.room;
        cost = omega (arith, k.cost, last.enough, rest.enough);
        ways = λ u m b. (weight_of (form_of first) t + (row_cost (row_of old (go t)) + 0), goes passed (does t) (bytes t h.bytes) (goes silent (k.meets u m b) b ends), omega (arith, k.cost));
      })
