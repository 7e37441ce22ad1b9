-- Two settings of the machine on lines that differ in the numbers of functions: a move of one is a move of the other.
use Rattle.std.proofs.Common.{◌≡◌, ℕ, suc, if◌then◌else◌, List, [], ◌∷◌, Option, Some, None, map, slice_get, refl, sym, ap, ◌∙◌, subst, IsTrue}
use Rattle.c65_base.specs.declared.library.Library.{Library}
use Rattle.c65_mach.specs.declared.rows.Op.{Op}
use Rattle.c65_mach.specs.declared.rows.Mode.{Mode}
use Rattle.c65_mach.specs.State.{Regs}
use Rattle.c65_mach.specs.Step.{is_taken, kind_of, with_a, with_x}
use Rattle.c65_code.specs.declared.parts.RegSet.{RegSet}
use Rattle.c65_code.specs.declared.parts.Part.TheVariants.{A}
use Rattle.c65_code.specs.declared.routine.Routine.{Routine}
use Rattle.c65_code.specs.declared.routine.Routine.TheVariants as routines
use Rattle.c65_code.specs.declared.line.Operand.{Operand}
use Rattle.c65_code.specs.declared.line.Line.{Line}
use Rattle.c65_code.specs.Parts.{has_part, union_of}
use Rattle.c65_code.specs.Effects.{kept_at_calls, ptr4_bytes}
use Rattle.c65_code.specs.LineState.{Place, Frame, State, s_of}
use Rattle.c65_code.specs.Placement.{Placement, Setting, word_of}
use Rattle.c65_code.specs.Forms.{Form, Mark, Plain, Branch, Jump, Far, Push, Pull, Depth, Return, Run, Enter, Through, Stray, form_of}
use Rattle.c65_code.specs.Rows.{Row, row_of}
use Rattle.c65_code.specs.Moves.{effect, labelled, settle, next, MeetsRow, Keeps, Enters, common_of, Returns, IsCallee, Calls, Goes}
use Rattle.c65_code.specs.Steady.{HasLines}
use Rattle.c65_asm_law_names.proofs.Moved.{moved_place, moved_frame, moved, with_frames, effect_same, s_same, row_same, met_back, keeps_back, met_on, keeps_on}

-- a form that names no symbol
abbrev pub NamesNone : Form → Type 0
NamesNone (Plain op mode o) = ⊥
NamesNone (Enter f reads gives) = ⊥
NamesNone _ = Unit {0}

-- two forms that differ in the numbers of symbols, where operands stand for the same numbers
pub data Alike (place other : Placement) (number : ℕ → ℕ) (Known : ℕ → Type 0) : Form → Form → Type 0 where
  as_it_is : (form : Form) → NamesNone form → Alike place other number Known form form
  by_operand : (op : Op) (mode : Mode) (o p : Operand) → word_of other p ≡ word_of place o → Alike place other number Known (Plain op mode o) (Plain op mode p)
  by_function : (f : ℕ) (reads gives : RegSet) → Known f → Alike place other number Known (Enter f reads gives) (Enter (number f) reads gives)

-- a line of the one and that of the other at its place
pub record Other (s r : Setting) (number : ℕ → ℕ) (Known : ℕ → Type 0) (f k : ℕ) (l : Line) : Type 0 where
  pub line : Line
  pub there : slice_get (r.lines (number f)) k ≡ Some line
  pub alike : Alike s.place r.place number Known (form_of l) (form_of line)

-- the functions of the one that are known have the same lines, but for numbers, in the other
pub record Renames (s r : Setting) (number : ℕ → ℕ) (Known : ℕ → Type 0) : Type 0 where
  pub settles : (f k : ℕ) → Known f → settle (r.lines (number f)) k ≡ settle (s.lines f) k
  pub labels : (f l : ℕ) → Known f → labelled (r.lines (number f)) l ≡ labelled (s.lines f) l
  pub line : (f k : ℕ) (l : Line) → Known f → slice_get (s.lines f) k ≡ Some l → Other s r number Known f k l
  pub has_lines : (f : ℕ) → Known f → HasLines (s.lines f) → HasLines (r.lines (number f))
  pub gives : (f : ℕ) → Known f → r.gives (number f) ≡ s.gives f
  pub library : (f : ℕ) → Known f → r.library (number f) ≡ s.library f
  -- a known function has its address under its new number, and no other function has it
  pub callee : (t : State) (f : ℕ) → Known f → IsCallee s t f → IsCallee r t (number f)
  pub callees : (t : State) (f g : ℕ) → Known f → IsCallee s t f → IsCallee r t g → g ≡ number f
  pub are_data : (b : ℕ) → r.place.is_data b ≡ s.place.is_data b
  pub constant : (b : ℕ) → r.place.constant b ≡ s.place.constant b

-- the frames go back to functions that are known
abbrev pub AreKnown : (ℕ → Type 0) → List Frame → Type 0
AreKnown Known [] = Unit {0}
AreKnown Known (f ∷ fs) = Known f.back.0 × AreKnown Known fs

module _ (s r : Setting) (number : ℕ → ℕ) (Known : ℕ → Type 0) (n : Renames s r number Known) where
  abbrev at : Place → Place
  at p = moved_place number p

  abbrev new : State → State
  new t = moved number t

  abbrev new_frame : Frame → Frame
  new_frame f = moved_frame number f

  -- ---- where a line leads

  next_same : (form : Form) (p : Place) (regs : Regs) → Known p.0 → next (r.lines (number p.0)) form p.1 regs ≡ next (s.lines p.0) form p.1 regs
  next_same (Branch op l) p regs k =
      ap (λ (m : ℕ). settle (r.lines (number p.0)) (if is_taken op regs then m else suc p.1)) (n.labels p.0 l k) ∙ n.settles p.0 (if is_taken op regs then labelled (s.lines p.0) l else suc p.1) k
  next_same (Jump l) p regs k = ap (settle (r.lines (number p.0))) (n.labels p.0 l k) ∙ n.settles p.0 (labelled (s.lines p.0) l) k
  next_same Mark p regs k = n.settles p.0 (suc p.1) k
  next_same (Plain op mode o) p regs k = n.settles p.0 (suc p.1) k
  next_same (Far i) p regs k = n.settles p.0 (suc p.1) k
  next_same Push p regs k = n.settles p.0 (suc p.1) k
  next_same Pull p regs k = n.settles p.0 (suc p.1) k
  next_same Depth p regs k = n.settles p.0 (suc p.1) k
  next_same Return p regs k = n.settles p.0 (suc p.1) k
  next_same (Run q) p regs k = n.settles p.0 (suc p.1) k
  next_same (Enter f reads gives) p regs k = n.settles p.0 (suc p.1) k
  next_same (Through reads gives) p regs k = n.settles p.0 (suc p.1) k
  next_same Stray p regs k = n.settles p.0 (suc p.1) k

  to_place : (p q : Place) (m j : ℕ) → q ≡ (number p.0, m) → m ≡ j → q ≡ at (p.0, j)
  to_place p q m j e same = e ∙ ap (λ (i : ℕ). let place : Place = (number p.0, i) in place) same

  -- ---- a move of the other comes from one of the first

  -- the place and the state of the first
  pub record From (form : Form) (p : Place) (t : State) (q : Place) (u : State) : Type 0 where
    pub place : Place
    pub state : State
    pub place_is : q ≡ at place
    pub state_is : u ≡ new state
    pub goes : Goes s form p t place state

  -- where the frames of the state behind are those of a state moved
  framed : (u : State) (fs : List Frame) → u.frames ≡ map new_frame fs → u ≡ new (with_frames number u fs)
  framed u fs e = ap (λ (gs : List Frame). record u { frames = gs }) e

  met_from : (o : Option Row) (t u : State) → MeetsRow o (new t) u → (v : State) × MeetsRow o t v × (u ≡ new v)
  met_from None t u m = absurd m
  met_from (Some row) t u m = (with_frames number u t.frames, met_back number row t u m, framed u t.frames m.frames)

  run_from : (q : Routine) (t u : State) → MeetsRow (row_of q (new t)) (new t) u → (v : State) × MeetsRow (row_of q t) t v × (u ≡ new v)
  run_from q t u m = met_from (row_of q t) t u (subst (λ (o : Option Row). MeetsRow o (new t) u) (row_same number q t) m)

  enter_from : (f : ℕ) (reads gives : RegSet) (p : Place) (t : State) (q : Place) (u : State) → Known f → Known p.0 → Enters r (number f) reads gives (at p) (new t) q u
      → (place : Place) × (state : State) × (q ≡ at place) × (u ≡ new state) × Enters s f reads gives p t place state
  enter_from f reads gives p t q u k kp e =
      let frame : Frame = record { back = (p.0, settle (s.lines p.0) (suc p.1)); pushed = t.pushed; gives = gives } in
      let back : u.frames ≡ map new_frame (frame ∷ t.frames) = e.frames ∙ ap (λ (i : ℕ). let first : Frame = record { back = (number p.0, i); pushed = t.pushed; gives = gives } in first ∷ map new_frame t.frames) (n.settles p.0 (suc p.1) kp) in (
        (f, settle (s.lines f) 0),
        with_frames number u (frame ∷ t.frames),
        to_place (f, 0) q (settle (r.lines (number f)) 0) (settle (s.lines f) 0) e.to (n.settles f 0 k),
        framed u (frame ∷ t.frames) back,
        record {
          to = refl;
          keeps = keeps_back number (union_of reads kept_at_calls) t u (frame ∷ t.frames) e.keeps;
          pushed = e.pushed;
          frames = refl;
        },
      )

  call_from : (o : Option Library) (f : ℕ) (reads gives : RegSet) (p : Place) (t : State) (q : Place) (u : State) → Known f → Known p.0 → Calls r o (number f) reads gives (at p) (new t) q u
      → (place : Place) × (state : State) × (q ≡ at place) × (u ≡ new state) × Calls s o f reads gives p t place state
  call_from None f reads gives p t q u k kp c = enter_from f reads gives p t q u k kp c
  call_from (Some l) f reads gives p t q u k kp c =
      let m = run_from (routines.Library l) t u c.1 in
      ((p.0, settle (s.lines p.0) (suc p.1)), m.0, to_place p q (settle (r.lines (number p.0)) (suc p.1)) (settle (s.lines p.0) (suc p.1)) c.0 (n.settles p.0 (suc p.1) kp), m.2, (refl, m.1))

  return_from : (fs : List Frame) (p : Place) (t : State) (q : Place) (u : State) → Known p.0 → t.frames ≡ fs → Returns r (map new_frame fs) (at p) (new t) q u
      → (place : Place) × (state : State) × (q ≡ at place) × (u ≡ new state) × Returns s fs p t place state
  return_from [] p t q u k e (v, a, small, pushed, to, is) =
      (p, record t { ended = Some v }, to, is, (v, λ h. a (subst (λ (x : RegSet). IsTrue (has_part x A)) (sym (n.gives p.0 k)) h), small, pushed, refl, refl))
  return_from (f ∷ fs) p t q u k e (pushed, to, keeps, later, frames) = (
    f.back,
    with_frames number u fs,
    to,
    framed u fs frames,
    (
      pushed,
      refl,
      keeps_back number (union_of (common_of f.gives (s.gives p.0)) kept_at_calls) t u fs (subst (λ (x : RegSet). Keeps (union_of (common_of f.gives x) kept_at_calls) (new t) u) (n.gives p.0 k) keeps),
      later,
      refl,
    ),
  )

  -- a line that stays in the function
  local_from : (form : Form) (p : Place) (t : State) (q : Place) (u : State) → Known p.0 → q ≡ (number p.0, next (r.lines (number p.0)) form p.1 t.regs) → q ≡ at (p.0, next (s.lines p.0) form p.1 t.regs)
  local_from form p t q u k e = to_place p q (next (r.lines (number p.0)) form p.1 t.regs) (next (s.lines p.0) form p.1 t.regs) e (next_same form p t.regs k)

  -- what is called through ptr4 is known
  abbrev pub OnlyKnown : Form → State → Type 0
  OnlyKnown (Through reads gives) t = (f : ℕ) → IsCallee s t f → Known f
  OnlyKnown _ t = Unit {0}

  -- and there is such a function
  abbrev pub HasCallee : Form → State → Type 0
  HasCallee (Through reads gives) t = (f : ℕ) × IsCallee s t f
  HasCallee _ t = Unit {0}

  pub goes_from : (form : Form) → NamesNone form → (p : Place) (t : State) (q : Place) (u : State) → Known p.0 → OnlyKnown form t → HasCallee form t → Goes r form (at p) (new t) q u → From form p t q u
  goes_from Mark x p t q u k c h g = absurd g
  goes_from (Far i) x p t q u k c h g = absurd g
  goes_from Stray x p t q u k c h g = absurd g
  goes_from (Plain op mode o) x p t q u k c h g = absurd x
  goes_from (Enter f reads gives) x p t q u k c h g = absurd x
  goes_from Return x p t q u k c h g =
      let m = return_from t.frames p t q u k refl g in
      record { place = m.0; state = m.1; place_is = m.2; state_is = m.3; goes = m.4 }
  goes_from (Through reads gives) x p t q u k c h g =
      let known = c h.0 h.1 in
      let e : g.0 ≡ number h.0 = n.callees t h.0 g.0 known h.1 g.1 in
      let calls = subst (λ (m : ℕ). Calls r (r.library m) m (union_of reads ptr4_bytes) gives (at p) (new t) q u) e g.2 in
      let m = call_from (s.library h.0) h.0 (union_of reads ptr4_bytes) gives p t q u known k (subst (λ (o : Option Library). Calls r o (number h.0) (union_of reads ptr4_bytes) gives (at p) (new t) q u) (n.library h.0 known) calls) in
      record { place = m.0; state = m.1; place_is = m.2; state_is = m.3; goes = (h.0, h.1, m.4) }
  goes_from (Branch op l) x p t q u k c h g =
      record { place = (p.0, next (s.lines p.0) (Branch op l) p.1 t.regs); state = t; place_is = local_from (Branch op l) p t q u k g.0; state_is = g.1; goes = (refl, refl) }
  goes_from (Jump l) x p t q u k c h g =
      record { place = (p.0, next (s.lines p.0) (Jump l) p.1 t.regs); state = t; place_is = local_from (Jump l) p t q u k g.0; state_is = g.1; goes = (refl, refl) }
  goes_from Push x p t q u k c h g =
      record { place = (p.0, next (s.lines p.0) Push p.1 t.regs); state = record t { pushed = t.regs.a ∷ t.pushed }; place_is = local_from Push p t q u k g.0; state_is = g.1; goes = (refl, refl) }
  goes_from Pull x p t q u k c h (to, (v, rest, pushed, is)) =
      record { place = (p.0, next (s.lines p.0) Pull p.1 t.regs); state = record t { regs = with_a v t.regs; pushed = rest }; place_is = local_from Pull p t q u k to; state_is = is; goes = (refl, (v, rest, pushed, refl)) }
  goes_from Depth x p t q u k c h g =
      record {
        place = (p.0, next (s.lines p.0) Depth p.1 t.regs);
        state = record t { regs = with_x (s_of t) t.regs };
        place_is = local_from Depth p t q u k g.0;
        state_is = g.1 ∙ ap (λ (m : ℕ). record (new t) { regs = with_x m t.regs }) (s_same number t);
        goes = (refl, refl);
      }
  goes_from (Run a) x p t q u k c h g =
      let m = run_from a t u g.1 in
      record { place = (p.0, next (s.lines p.0) (Run a) p.1 t.regs); state = m.0; place_is = local_from (Run a) p t q u k g.0; state_is = m.2; goes = (refl, m.1) }

  -- a line of the other goes as the line of the first
  pub alike_from : (form other : Form) → Alike s.place r.place number Known form other → (p : Place) (t : State) (q : Place) (u : State) → Known p.0 → OnlyKnown form t → HasCallee form t → Goes r other (at p) (new t) q u → From form p t q u
  alike_from form other (as_it_is f x) p t q u k c h g = goes_from f x p t q u k c h g
  alike_from form other (by_operand op mode o o2 e) p t q u k c h g =
      record {
        place = (p.0, next (s.lines p.0) (Plain op mode o) p.1 t.regs);
        state = effect (kind_of op) op mode (word_of s.place o) t;
        place_is = local_from (Plain op mode o) p t q u k g.0;
        state_is = g.1 ∙ ap (λ (w : ℕ). effect (kind_of op) op mode w (new t)) e ∙ effect_same number (kind_of op) op mode (word_of s.place o) t;
        goes = (refl, refl);
      }
  alike_from form other (by_function f reads gives kf) p t q u k c h g =
      let m = call_from (s.library f) f reads gives p t q u kf k (subst (λ (o : Option Library). Calls r o (number f) reads gives (at p) (new t) q u) (n.library f kf) g) in
      record { place = m.0; state = m.1; place_is = m.2; state_is = m.3; goes = m.4 }

  -- ---- a move of the first is one of the other

  met_to : (o : Option Row) (t u : State) → MeetsRow o t u → MeetsRow o (new t) (new u)
  met_to None t u m = absurd m
  met_to (Some row) t u m = met_on number row t u m

  run_to : (q : Routine) (t u : State) → MeetsRow (row_of q t) t u → MeetsRow (row_of q (new t)) (new t) (new u)
  run_to q t u m = subst (λ (o : Option Row). MeetsRow o (new t) (new u)) (sym (row_same number q t)) (met_to (row_of q t) t u m)

  at_same : (p q : Place) (f m j : ℕ) → q ≡ (f, j) → m ≡ j → at q ≡ (number f, m)
  at_same p q f m j e same = ap at e ∙ ap (λ (i : ℕ). let place : Place = (number f, i) in place) (sym same)

  call_to : (o : Option Library) (f : ℕ) (reads gives : RegSet) (p : Place) (t : State) (q : Place) (u : State) → Known f → Known p.0 → Calls s o f reads gives p t q u → Calls r o (number f) reads gives (at p) (new t) (at q) (new u)
  call_to None f reads gives p t q u k kp e =
      let back : map new_frame u.frames ≡ map new_frame (record { back = (p.0, settle (s.lines p.0) (suc p.1)); pushed = t.pushed; gives = gives } ∷ t.frames) = ap (map new_frame) e.frames in
      record {
        to = at_same p q f (settle (r.lines (number f)) 0) (settle (s.lines f) 0) e.to (n.settles f 0 k);
        keeps = keeps_on number (union_of reads kept_at_calls) t u e.keeps;
        pushed = e.pushed;
        frames = back ∙ ap (λ (i : ℕ). let first : Frame = record { back = (number p.0, i); pushed = t.pushed; gives = gives } in first ∷ map new_frame t.frames) (sym (n.settles p.0 (suc p.1) kp));
      }
  call_to (Some l) f reads gives p t q u k kp c =
      (at_same p q p.0 (settle (r.lines (number p.0)) (suc p.1)) (settle (s.lines p.0) (suc p.1)) c.0 (n.settles p.0 (suc p.1) kp), run_to (routines.Library l) t u c.1)

  return_to : (fs : List Frame) (p : Place) (t : State) (q : Place) (u : State) → Known p.0 → Returns s fs p t q u → Returns r (map new_frame fs) (at p) (new t) (at q) (new u)
  return_to [] p t q u k (v, a, small, pushed, to, is) =
      (v, λ h. a (subst (λ (x : RegSet). IsTrue (has_part x A)) (n.gives p.0 k) h), small, pushed, ap at to, ap new is)
  return_to (f ∷ fs) p t q u k (pushed, to, keeps, later, frames) =
      (pushed, ap at to, keeps_on number (union_of (common_of f.gives (r.gives (number p.0))) kept_at_calls) t u (subst (λ (x : RegSet). Keeps (union_of (common_of f.gives x) kept_at_calls) t u) (sym (n.gives p.0 k)) keeps), later, ap (map new_frame) frames)

  local_to : (form : Form) (p : Place) (t : State) (q : Place) → Known p.0 → q ≡ (p.0, next (s.lines p.0) form p.1 t.regs) → at q ≡ (number p.0, next (r.lines (number p.0)) form p.1 t.regs)
  local_to form p t q k e = at_same p q p.0 (next (r.lines (number p.0)) form p.1 t.regs) (next (s.lines p.0) form p.1 t.regs) e (next_same form p t.regs k)

  goes_to : (form : Form) → NamesNone form → (p : Place) (t : State) (q : Place) (u : State) → Known p.0 → OnlyKnown form t → Goes s form p t q u → Goes r form (at p) (new t) (at q) (new u)
  goes_to Mark x p t q u k c g = absurd g
  goes_to (Far i) x p t q u k c g = absurd g
  goes_to Stray x p t q u k c g = absurd g
  goes_to (Plain op mode o) x p t q u k c g = absurd x
  goes_to (Enter f reads gives) x p t q u k c g = absurd x
  goes_to Return x p t q u k c g = return_to t.frames p t q u k g
  goes_to (Through reads gives) x p t q u k c (f, is, g) =
      let known = c f is in
      (number f, n.callee t f known is, subst (λ (o : Option Library). Calls r o (number f) (union_of reads ptr4_bytes) gives (at p) (new t) (at q) (new u)) (sym (n.library f known)) (call_to (s.library f) f (union_of reads ptr4_bytes) gives p t q u known k g))
  goes_to (Branch op l) x p t q u k c g = (local_to (Branch op l) p t q k g.0, ap new g.1)
  goes_to (Jump l) x p t q u k c g = (local_to (Jump l) p t q k g.0, ap new g.1)
  goes_to Push x p t q u k c g = (local_to Push p t q k g.0, ap new g.1)
  goes_to Pull x p t q u k c (to, (v, rest, pushed, is)) = (local_to Pull p t q k to, (v, rest, pushed, ap new is))
  goes_to Depth x p t q u k c g = (local_to Depth p t q k g.0, ap new g.1 ∙ ap (λ (m : ℕ). record (new t) { regs = with_x m t.regs }) (sym (s_same number t)))
  goes_to (Run m) x p t q u k c g = (local_to (Run m) p t q k g.0, run_to m t u g.1)

  pub alike_to : (form other : Form) → Alike s.place r.place number Known form other → (p : Place) (t : State) (q : Place) (u : State) → Known p.0 → OnlyKnown form t → Goes s form p t q u → Goes r other (at p) (new t) (at q) (new u)
  alike_to form other (as_it_is f x) p t q u k c g = goes_to f x p t q u k c g
  alike_to form other (by_operand op mode o o2 e) p t q u k c g =
      (local_to (Plain op mode o) p t q k g.0, ap new g.1 ∙ sym (effect_same number (kind_of op) op mode (word_of s.place o) t) ∙ ap (λ (w : ℕ). effect (kind_of op) op mode w (new t)) (sym e))
  alike_to form other (by_function f reads gives kf) p t q u k c g =
      subst (λ (o : Option Library). Calls r o (number f) reads gives (at p) (new t) (at q) (new u)) (sym (n.library f kf)) (call_to (s.library f) f reads gives p t q u kf k g)
