-- Ways through windows from near states.
use Rattle.std.proofs.Common.{◌≡◌, ℕ, suc, ◌+◌, ◌≤◌, Bool, true, false, ◌||◌, Option, Some, None, List, [], ◌∷◌, length, IsTrue, refl, sym, subst, ap, ◌∙◌, arith}
use Rattle.std.specs.Prelude.{sum_by}
use Rattle.c65_code.proofs.PartLaws.{has_part-union}
use Rattle.c65_mach.specs.declared.rows.Op.{Op}
use Rattle.c65_mach.specs.Step.{is_taken}
use Rattle.c65_know_law.proofs.Runs.{does_frames}
use Rattle.c65_code.specs.declared.line.Line.{Line}
use Rattle.c65_code.specs.declared.parts.Part.{Part}
use Rattle.c65_code.specs.declared.parts.RegSet.{RegSet}
use Rattle.c65_code.specs.Comes.{shown_by}
use Rattle.c65_code.specs.Forms.{Form, Branch, Jump, form_of}
use Rattle.c65_code.specs.LineState.{Frame, State, sp_of, IsBytes}
use Rattle.c65_code.specs.Moves.{Does}
use Rattle.c65_code.specs.Parts.{IsPart, has_part, union_of}
use Rattle.c65_code.specs.Placement.{Placement, Setting, stack_start}
use Rattle.c65_code.specs.Segments.{is_fit}
use Rattle.c65_code.specs.Steady.{IsCalm, IsSteady}
use Rattle.c65_opt_law_near.proofs.Sets.{in_left, in_right}
use Rattle.c65_opt_law_near.specs.Laws.{IsLow}
use Rattle.c65_opt_law_near.specs.Near.{before, Near}
use Rattle.c65_opt_law_straight.specs.Laws.{IsByteLine, AreAsDeep}
use Rattle.c65_opt_law_follow.specs.Windows.{WayOut, Behind, ToLabel, IsPassed, IsInner, weight_of, Way, ends, goes, jumps, branches, passes, Safe, safe_end, safe_line, safe_jump, safe_branch, EndsCalm, live_by, live_before}
use Rattle.c65_opt_law_follow.proofs.Near.{near_part, before_grows}
use Rattle.c65_opt_law_follow.proofs.Lines.{taken_same, Leads, leads, stays_steady, weighs_same, Answered, answered}
use Rattle.c65_opt_law_follow.proofs.Inner.{InnerKind, passed, jump, branch, inner_kind, passed_local, inner_local, live_passed, does_shown, still_running}

-- lines that may stand in a window
pub record IsGood (line : Line) : Type 0 where
  pub fit : is_fit line ≡ true
  pub byte : IsByteLine line
  pub inner : IsInner (form_of line)

abbrev pub AreGood : List Line → Type 0
AreGood [] = Unit {0}
AreGood (line ∷ lines) = IsGood line × AreGood lines

pub does_deep : (place : Placement) (form : Form) (t u : State) → IsPassed form → Does place form t u → u.frames ≡ t.frames
does_deep place form t u i d = does_frames place form t u (passed_local form i) d

deep_step : (t u v w : State) → v.frames ≡ t.frames → w.frames ≡ u.frames → AreAsDeep t u → AreAsDeep v w
deep_step t u v w e f deep = ap (sum_by (λ (g : Frame). 2 + length g.pushed)) e ∙ (deep ∙ ap (sum_by (λ (g : Frame). 2 + length g.pushed)) (sym f))

-- where a way ends, frames and what is shown are as they were
pub way_frames : (place : Placement) (ls : List Line) (t : State) (e : WayOut) (u : State) (v : ℕ) → Way place ls t e u v → u.frames ≡ t.frames
way_frames place ls t e u v ends = refl
way_frames place ls t e u v (goes {line = l} {lines = rest} {u = s} i d b y) = way_frames place rest s e u _ y ∙ does_deep place (form_of l) t s i d
way_frames place ls t e u v (jumps k f) = refl
way_frames place ls t e u v (branches op k f z) = refl
way_frames place ls t e u v (passes {lines = rest} op k f z y) = way_frames place rest t e u _ y

pub way_shown : (place : Placement) (ls : List Line) (t : State) (e : WayOut) (u : State) (v : ℕ) → t.ended ≡ None → Way place ls t e u v → shown_by u ≡ shown_by t
way_shown place ls t e u v run ends = refl
way_shown place ls t e u v run (goes {line = l} {lines = rest} {u = s} i d b y) =
    let one = does_shown place (form_of l) t s i run d in
    way_shown place rest s e u _ (still_running t s one run) y ∙ one
way_shown place ls t e u v run (jumps k f) = refl
way_shown place ls t e u v run (branches op k f z) = refl
way_shown place ls t e u v run (passes {lines = rest} op k f z y) = way_shown place rest t e u _ run y

pub way_bytes : (place : Placement) (ls : List Line) (t : State) (e : WayOut) (u : State) (v : ℕ) → IsBytes t → Way place ls t e u v → IsBytes u
way_bytes place ls t e u v b ends = b
way_bytes place ls t e u v b (goes {lines = rest} {u = s} i d c y) = way_bytes place rest s e u _ c y
way_bytes place ls t e u v b (jumps k f) = b
way_bytes place ls t e u v b (branches op k f z) = b
way_bytes place ls t e u v b (passes {lines = rest} op k f z y) = way_bytes place rest t e u _ b y

pub empty_way : (place : Placement) (ls : List Line) (t : State) (e : WayOut) (u : State) (x : ℕ) → length ls ≡ 0 → Way place ls t e u x → e ≡ Behind
empty_way place ls t e u x h ends = refl
empty_way place ls t e u x h (goes i d b y) = absurd (omega (arith, h))
empty_way place ls t e u x h (jumps k f) = absurd (omega (arith, h))
empty_way place ls t e u x h (branches op k f z) = absurd (omega (arith, h))
empty_way place ls t e u x h (passes op k f z y) = absurd (omega (arith, h))

-- what holds at each moment holds at the first line, and where the way ends at once
pub safe_calm : (s : Setting) (ls : List Line) (w : ℕ) (t : State) → Safe s ls w t → EndsCalm s ls t → IsCalm s t
safe_calm s ls w t safe_end calm = calm Behind t 0 ends
safe_calm s ls w t (safe_line i st le k) calm = st.calm
safe_calm s ls w t (safe_jump k f st le) calm = st.calm
safe_calm s ls w t (safe_branch op k f st le g) calm = st.calm

module _ (s : Setting) (low : IsLow s.place) (out : RegSet) (after : WayOut → RegSet) where
  -- what is live before the line that a state is at
  near_line : (l : Line) (ls : List Line) (t u : State) → IsPassed (form_of l) → Near (live_before out after (l ∷ ls)) t u → Near (before out l (live_before out after ls)) t u
  near_line l ls t u i n = subst (λ (x : RegSet). Near x t u) (live_passed out after l (form_of l) (live_before out after ls) i) n

  near_jump : (l : Line) (ls : List Line) (k : ℕ) (t u : State) → form_of l ≡ Jump k → Near (live_before out after (l ∷ ls)) t u → Near (before out l (after (ToLabel k))) t u
  near_jump l ls k t u e n = subst (λ (f : Form). Near (live_by out after l f (live_before out after ls)) t u) e n

  near_branch : (l : Line) (ls : List Line) (op : Op) (k : ℕ) (t u : State) → form_of l ≡ Branch op k → Near (live_before out after (l ∷ ls)) t u → Near (before out l (union_of (after (ToLabel k)) (live_before out after ls))) t u
  near_branch l ls op k t u e n = subst (λ (f : Form). Near (live_by out after l f (live_before out after ls)) t u) e n

  -- a jump or a branch leads from near states to near ones
  pub near_behind : (l : Line) (rest : RegSet) (t u : State) → IsGood l → IsSteady s l t → t.ended ≡ None → AreAsDeep t u → IsBytes u → Near (before out l rest) t u
      → ((v : State) → Does s.place (form_of l) t v → v ≡ t) → Does s.place (form_of l) u u → Near rest t u
  near_behind l rest t u good st run deep bytes n one d =
      let a = answered s low out l good.fit good.byte (inner_local (form_of l) good.inner) rest t u st deep n run (λ v dv bv. subst (λ (x : State). stack_start ≤ sp_of x) (sym (one v dv)) st.calm.low) u d bytes in
      subst (λ (x : State). Near rest x u) (one a.state a.does) a.near

  stay_jump : (l : Line) (k : ℕ) (t v : State) → form_of l ≡ Jump k → Does s.place (form_of l) t v → v ≡ t
  stay_jump l k t v e d = subst (λ (f : Form). Does s.place f t v) e d

  stay_branch : (l : Line) (op : Op) (k : ℕ) (t v : State) → form_of l ≡ Branch op k → Does s.place (form_of l) t v → v ≡ t
  stay_branch l op k t v e d = subst (λ (f : Form). Does s.place f t v) e d

  does_jump : (l : Line) (k : ℕ) (t : State) → form_of l ≡ Jump k → Does s.place (form_of l) t t
  does_jump l k t e = subst (λ (f : Form). Does s.place f t t) (sym e) refl

  does_branch : (l : Line) (op : Op) (k : ℕ) (t : State) → form_of l ≡ Branch op k → Does s.place (form_of l) t t
  does_branch l op k t e = subst (λ (f : Form). Does s.place f t t) (sym e) refl

  pub jump_to : (l : Line) (ls : List Line) (k : ℕ) (t u : State) → IsGood l → form_of l ≡ Jump k → IsSteady s l t → t.ended ≡ None → AreAsDeep t u → IsBytes u → Near (live_before out after (l ∷ ls)) t u → Near (after (ToLabel k)) t u
  jump_to l ls k t u good e st run deep bytes n = near_behind l (after (ToLabel k)) t u good st run deep bytes (near_jump l ls k t u e n) (λ v d. stay_jump l k t v e d) (does_jump l k u e)

  branch_either : (l : Line) (ls : List Line) (op : Op) (k : ℕ) (t u : State) → IsGood l → form_of l ≡ Branch op k → IsSteady s l t → t.ended ≡ None → AreAsDeep t u → IsBytes u → Near (live_before out after (l ∷ ls)) t u
      → Near (union_of (after (ToLabel k)) (live_before out after ls)) t u
  branch_either l ls op k t u good e st run deep bytes n = near_behind l (union_of (after (ToLabel k)) (live_before out after ls)) t u good st run deep bytes (near_branch l ls op k t u e n) (λ v d. stay_branch l op k t v e d) (does_branch l op k u e)

  pub branch_to : (l : Line) (ls : List Line) (op : Op) (k : ℕ) (t u : State) → IsGood l → form_of l ≡ Branch op k → IsSteady s l t → t.ended ≡ None → AreAsDeep t u → IsBytes u → Near (live_before out after (l ∷ ls)) t u → Near (after (ToLabel k)) t u
  branch_to l ls op k t u good e st run deep bytes n =
      near_part (union_of (after (ToLabel k)) (live_before out after ls)) (after (ToLabel k)) t u (λ p i h. in_left (after (ToLabel k)) (live_before out after ls) p h) (branch_either l ls op k t u good e st run deep bytes n)

  pub branch_on : (l : Line) (ls : List Line) (op : Op) (k : ℕ) (t u : State) → IsGood l → form_of l ≡ Branch op k → IsSteady s l t → t.ended ≡ None → AreAsDeep t u → IsBytes u → Near (live_before out after (l ∷ ls)) t u → Near (live_before out after ls) t u
  branch_on l ls op k t u good e st run deep bytes n =
      near_part (union_of (after (ToLabel k)) (live_before out after ls)) (live_before out after ls) t u (λ p i h. in_right (after (ToLabel k)) (live_before out after ls) p h) (branch_either l ls op k t u good e st run deep bytes n)

  pub branch_same : (l : Line) (ls : List Line) (op : Op) (k : ℕ) (t u : State) → form_of l ≡ Branch op k → Near (live_before out after (l ∷ ls)) t u → is_taken op t.regs ≡ is_taken op u.regs
  branch_same l ls op k t u e n = taken_same out (union_of (after (ToLabel k)) (live_before out after ls)) l op k t u e (near_branch l ls op k t u e n)

  -- all states to which a line leads have their sp in the software stack
  above : (l : Line) (ls : List Line) (v : ℕ) (t : State) → IsPassed (form_of l) → ((u : State) → Does s.place (form_of l) t u → IsBytes u → Safe s ls v u) → EndsCalm s (l ∷ ls) t → (u : State) → Does s.place (form_of l) t u → IsBytes u → stack_start ≤ sp_of u
  above l ls v t i k calm u d b = (safe_calm s ls v u (k u d b) (λ e x w way. calm e x (weight_of (form_of l) t + w) (goes i d b way))).low

  pub safe_near : (ls : List Line) (w : ℕ) (t u : State) → AreGood ls → t.ended ≡ None → IsBytes u → AreAsDeep t u → Near (live_before out after ls) t u → Safe s ls w t → EndsCalm s ls t → Safe s ls w u
  safe_near [] w t u good run bytes deep n safe_end calm = safe_end
  safe_near (l ∷ ls) w t u good run bytes deep n (safe_line {v = v} i st le k) calm =
      let nl = near_line l ls t u i n in
      let local = passed_local (form_of l) i in
      let same : weight_of (form_of l) u ≡ weight_of (form_of l) t = weighs_same s low out l good.0.fit good.0.byte local (live_before out after ls) t u st deep nl in
      safe_line {v = v} i (stays_steady s low out l good.0.fit good.0.byte local (live_before out after ls) t u st deep nl bytes) (omega (arith, le, same)) (λ x d b.
      let a = answered s low out l good.0.fit good.0.byte local (live_before out after ls) t u st deep nl run (above l ls v t i k calm) x d b in
      safe_near ls v a.state x good.1 (still_running t a.state (does_shown s.place (form_of l) t a.state i run a.does) run) b
      (deep_step t u a.state x (does_deep s.place (form_of l) t a.state i a.does) (does_deep s.place (form_of l) u x i d) deep) a.near (k a.state a.does a.bytes)
      (λ e y q way. calm e y (weight_of (form_of l) t + q) (goes i a.does a.bytes way)))
  safe_near (l ∷ ls) w t u good run bytes deep n (safe_jump k e st le) calm =
      safe_jump k e (stays_steady s low out l good.0.fit good.0.byte (inner_local (form_of l) good.0.inner) (after (ToLabel k)) t u st deep (near_jump l ls k t u e n) bytes) le
  safe_near (l ∷ ls) w t u good run bytes deep n (safe_branch {v = v} op k e st le g) calm =
      safe_branch {v = v} op k e (stays_steady s low out l good.0.fit good.0.byte (inner_local (form_of l) good.0.inner) (union_of (after (ToLabel k)) (live_before out after ls)) t u st deep (near_branch l ls op k t u e n) bytes) le (λ z.
      let z1 : is_taken op t.regs ≡ false = branch_same l ls op k t u e n ∙ z in
      safe_near ls v t u good.1 run bytes deep (branch_on l ls op k t u good.0 e st run deep bytes n) (g z1) (λ e2 y q way. calm e2 y (2 + q) (passes op k e z1 way)))

  -- the way from the first state that answers one from the second
  pub record Matched (ls : List Line) (t : State) (e : WayOut) (x : State) (v : ℕ) : Type 0 where
    pub state : State
    pub way : Way s.place ls t e state v
    pub near : Near (after e) state x

  line_way : (l : Line) (ls : List Line) (w : ℕ) (t u y : State) (e : WayOut) (x : State) (v : ℕ) → IsGood l → t.ended ≡ None → IsBytes u → AreAsDeep t u → Near (live_before out after (l ∷ ls)) t u → Safe s (l ∷ ls) w t → EndsCalm s (l ∷ ls) t → IsPassed (form_of l)
      → Does s.place (form_of l) u y → IsBytes y
      → ((w2 : ℕ) (z : State) → z.ended ≡ None → AreAsDeep z y → Near (live_before out after ls) z y → Safe s ls w2 z → EndsCalm s ls z → Matched ls z e x v) → Matched (l ∷ ls) t e x (weight_of (form_of l) u + v)
  line_way l ls w t u y e x v good run bytes deep n (safe_line {v = w2} i0 st le k) calm i d b go =
      let nl = near_line l ls t u i n in
      let local = passed_local (form_of l) i in
      let same : weight_of (form_of l) u ≡ weight_of (form_of l) t = weighs_same s low out l good.fit good.byte local (live_before out after ls) t u st deep nl in
      let a = answered s low out l good.fit good.byte local (live_before out after ls) t u st deep nl run (above l ls w2 t i k calm) y d b in
      let r = go w2 a.state (still_running t a.state (does_shown s.place (form_of l) t a.state i run a.does) run)
      (deep_step t u a.state y (does_deep s.place (form_of l) t a.state i a.does) (does_deep s.place (form_of l) u y i d) deep) a.near (k a.state a.does a.bytes)
      (λ e2 z q way. calm e2 z (weight_of (form_of l) t + q) (goes i a.does a.bytes way)) in
      record { state = r.state; way = subst (λ (c : ℕ). Way s.place (l ∷ ls) t e r.state (c + v)) (sym same) (goes i a.does a.bytes r.way); near = r.near }
  line_way l ls w t u y e x v good run bytes deep n (safe_jump k f st le) calm i d b go = absurd (subst IsPassed f i)
  line_way l ls w t u y e x v good run bytes deep n (safe_branch op k f st le g) calm i d b go = absurd (subst IsPassed f i)

  branch_way : (l : Line) (ls : List Line) (op : Op) (k w : ℕ) (t u : State) (e : WayOut) (x : State) (v : ℕ) → IsGood l → t.ended ≡ None → IsBytes u → AreAsDeep t u → Near (live_before out after (l ∷ ls)) t u → Safe s (l ∷ ls) w t → EndsCalm s (l ∷ ls) t
      → form_of l ≡ Branch op k → is_taken op u.regs ≡ false → ((w2 : ℕ) → Near (live_before out after ls) t u → Safe s ls w2 t → EndsCalm s ls t → Matched ls t e x v) → Matched (l ∷ ls) t e x (2 + v)
  branch_way l ls op k w t u e x v good run bytes deep n (safe_line i st le h) calm f z go = absurd (subst IsPassed f i)
  branch_way l ls op k w t u e x v good run bytes deep n (safe_jump j g st le) calm f z go = absurd (clash j op k (sym g ∙ f))
    where
      clash : (j : ℕ) (op : Op) (k : ℕ) → Jump j ≡ Branch op k → ⊥
      clash j op k h = cc
  branch_way l ls op k w t u e x v good run bytes deep n (safe_branch {v = w2} op2 k2 g st le h) calm f z go =
      let z1 : is_taken op t.regs ≡ false = branch_same l ls op k t u f n ∙ z in
      let one : op ≡ op2 = first op op2 k k2 (sym f ∙ g) in
      let z2 : is_taken op2 t.regs ≡ false = subst (λ (o : Op). is_taken o t.regs ≡ false) one z1 in
      let r = go w2 (branch_on l ls op k t u good f st run deep bytes n) (h z2) (λ e2 y q way. calm e2 y (2 + q) (passes op k f z1 way)) in
      record { state = r.state; way = passes op k f z1 r.way; near = r.near }
    where
      first : (op op2 : Op) (k k2 : ℕ) → Branch op k ≡ Branch op2 k2 → op ≡ op2
      first op op2 k k2 h = cc

  safe_steady : (l : Line) (ls : List Line) (w : ℕ) (t : State) → Safe s (l ∷ ls) w t → IsSteady s l t
  safe_steady l ls w t (safe_line i st le k) = st
  safe_steady l ls w t (safe_jump k f st le) = st
  safe_steady l ls w t (safe_branch op k f st le g) = st

  pub way_near : (ls : List Line) (w : ℕ) (t u : State) (e : WayOut) (x : State) (v : ℕ) → AreGood ls → t.ended ≡ None → IsBytes u → AreAsDeep t u → Near (live_before out after ls) t u → Safe s ls w t → EndsCalm s ls t → Way s.place ls u e x v → Matched ls t e x v
  way_near ls w t u e x v good run bytes deep n safe calm ends = record { state = t; way = ends; near = n }
  way_near ls w t u e x v good run bytes deep n safe calm (goes {line = l} {lines = rest} {u = y} i d b more) =
      line_way l rest w t u y e x _ good.0 run bytes deep n safe calm i d b (λ w2 z run2 deep2 n2 s2 c2. way_near rest w2 z y e x _ good.1 run2 b deep2 n2 s2 c2 more)
  way_near ls w t u e x v good run bytes deep n safe calm (jumps {line = l} {lines = rest} k f) =
      record { state = t; way = jumps k f; near = jump_to l rest k t u good.0 f (safe_steady l rest w t safe) run deep bytes n }
  way_near ls w t u e x v good run bytes deep n safe calm (branches {line = l} {lines = rest} op k f z) =
      record { state = t; way = branches op k f (branch_same l rest op k t u f n ∙ z); near = branch_to l rest op k t u good.0 f (safe_steady l rest w t safe) run deep bytes n }
  way_near ls w t u e x v good run bytes deep n safe calm (passes {line = l} {lines = rest} op k f z more) =
      branch_way l rest op k w t u e x _ good.0 run bytes deep n safe calm f z (λ w2 n2 s2 c2. way_near rest w2 t u e x _ good.1 run bytes deep n2 s2 c2 more)
