-- What the lines of a code come to, they come to with other numbers of functions.
use Rattle.std.proofs.Common.{◌≡◌, ℕ, zero, suc, ◌+◌, ◌<◌, ◌≤◌, ◌==◌, ◌&&◌, Bool, true, false, if◌then◌else◌, List, [], ◌∷◌, Option, Some, None, map, slice_get, refl, sym, ap, ◌∙◌, subst, inl, inr, arith}
use Rattle.std.specs.Prelude.{◌⊎◌, max, min, nat_lt}
use Rattle.std.proofs.lemmas.List.Elements.{All-weaker}
use Rattle.std.proofs.lemmas.Option.{same_Some}
use Rattle.std.proofs.lemmas.Bool.{and_parts, and_from, eqb-true, ltb-true, ltb-false}
use Rattle.std.proofs.lemmas.Bool.Decides.{Decides-eqb}
use Rattle.c65_base.specs.declared.library.Library.{Library}
use Rattle.c65_mach.specs.declared.rows.Op.{Op}
use Rattle.c65_mach.specs.declared.rows.Mode.{Mode}
use Rattle.c65_mach.specs.declared.rows.Mode.TheVariants.{Implied, Accumulator, Immediate, ZeroPage, ZeroPageX, ZeroPageY, Absolute, AbsoluteX, AbsoluteY, IndirectX, IndirectY, Indirect, Relative, ZeroPageIndirect, AbsoluteIndirectX}
use Rattle.c65_mach.specs.Step.{Kind, Reads, Stores, Changes, Branches, Registers, Moves as moving, kind_of}
use Rattle.c65_code.specs.declared.parts.RegSet.{RegSet}
use Rattle.c65_code.specs.declared.routine.Routine.{Routine}
use Rattle.c65_code.specs.declared.routine.Routine.TheVariants as routines
use Rattle.c65_code.specs.declared.line.Line.{Line}
use Rattle.c65_code.specs.Parts.{union_of}
use Rattle.c65_code.specs.Effects.{ptr4_bytes}
use Rattle.c65_code.specs.LineState.{Place, Frame, State, sp_of, IsBytes}
use Rattle.c65_code.specs.Placement.{Setting, word_of}
use Rattle.c65_code.specs.Forms.{Form, Mark, Plain, Branch, Jump, Far, Push, Pull, Depth, Return, Run, Enter, Through, Stray, form_of}
use Rattle.c65_code.specs.Rows.{Row, row_of}
use Rattle.c65_code.specs.Moves.{Ref, Given, ZeroAt, MemAt, ref_of, put, change, effect, MeetsRow, Returns, IsCallee, Calls, Goes, Moves}
use Rattle.c65_code.specs.Steady.{IsCalm, IsOpen, IsAllowed, RowHasRoom, IsCallable, IsWithin, IsSteady}
use Rattle.c65_code.specs.Weights.{row_cost, call_weight, Weighs}
use Rattle.c65_code.specs.Comes.{Seen, seen_at, Comes, here, on, Shown, shown_by, Shows}
use Rattle.c65_code.specs.Follows.{IsBelow, Grows}
use Rattle.c65_asm_law_names.proofs.Moved.{moved_place, moved_frame, moved, ref_same, s_same, row_same, bytes_to, bytes_back}
use Rattle.c65_asm_law_names.proofs.Settings.{NamesNone, Alike, as_it_is, by_operand, by_function, Other, Renames, AreKnown, OnlyKnown, HasCallee, alike_from, alike_to}

-- ---- frames that a line leaves

put_frames : (r : Ref) (v : ℕ) (t : State) → (put r v t).frames ≡ t.frames
put_frames (Given w) v t = refl
put_frames (ZeroAt i) v t = refl
put_frames (MemAt b) v t = refl

change_frames : (op : Op) (mode : Mode) (w : ℕ) (t : State) → (change op mode w t).frames ≡ t.frames
change_frames op Accumulator w t = refl
change_frames op Implied w t = refl
change_frames op Immediate w t = refl
change_frames op ZeroPage w t = refl
change_frames op ZeroPageX w t = refl
change_frames op ZeroPageY w t = refl
change_frames op Absolute w t = refl
change_frames op AbsoluteX w t = refl
change_frames op AbsoluteY w t = refl
change_frames op IndirectX w t = refl
change_frames op IndirectY w t = refl
change_frames op Indirect w t = refl
change_frames op Relative w t = refl
change_frames op ZeroPageIndirect w t = refl
change_frames op AbsoluteIndirectX w t = refl

effect_frames : (kind : Kind) (op : Op) (mode : Mode) (w : ℕ) (t : State) → (effect kind op mode w t).frames ≡ t.frames
effect_frames Reads op mode w t = refl
effect_frames Stores op mode w t = put_frames (ref_of mode w t) _ t
effect_frames Changes op mode w t = change_frames op mode w t
effect_frames Registers op mode w t = refl
effect_frames Branches op mode w t = refl
effect_frames moving op mode w t = refl

module _ (s r : Setting) (number : ℕ → ℕ) (Known : ℕ → Type 0) (n : Renames s r number Known) where
  abbrev at : Place → Place
  at p = moved_place number p

  abbrev new : State → State
  new t = moved number t

  -- ---- what is known behind a move

  abbrev IsAllKnown : Place → State → Type 0
  IsAllKnown q u = Known q.0 × AreKnown Known u.frames

  same_frames : (t u : State) (p q : Place) (k : ℕ) → Known p.0 → AreKnown Known t.frames → q ≡ (p.0, k) → u.frames ≡ t.frames → IsAllKnown q u
  same_frames t u p q k known frames to e = (subst (λ (x : Place). Known x.0) (sym to) known, subst (AreKnown Known) (sym e) frames)

  row_known : (o : Option Row) (t u : State) (p q : Place) (k : ℕ) → Known p.0 → AreKnown Known t.frames → q ≡ (p.0, k) → MeetsRow o t u → IsAllKnown q u
  row_known None t u p q k known frames to m = absurd m
  row_known (Some row) t u p q k known frames to m = same_frames t u p q k known frames to m.frames

  call_known : (o : Option Library) (f : ℕ) (reads gives : RegSet) (p : Place) (t : State) (q : Place) (u : State) → Known f → Known p.0 → AreKnown Known t.frames → Calls s o f reads gives p t q u → IsAllKnown q u
  call_known None f reads gives p t q u kf known frames c = (subst (λ (x : Place). Known x.0) (sym c.to) kf, subst (AreKnown Known) (sym c.frames) (known, frames))
  call_known (Some l) f reads gives p t q u kf known frames c = row_known (row_of (routines.Library l) t) t u p q _ known frames c.0 c.1

  return_known : (fs : List Frame) (p : Place) (t : State) (q : Place) (u : State) → t.frames ≡ fs → Known p.0 → AreKnown Known fs → Returns s fs p t q u → IsAllKnown q u
  return_known [] p t q u e known frames (v, a, small, pushed, to, is) =
      (subst (λ (x : Place). Known x.0) (sym to) known, subst (λ (x : State). AreKnown Known x.frames) (sym is) (subst (AreKnown Known) (sym e) tt))
  return_known (f ∷ fs) p t q u e known frames (pushed, to, keeps, later, back) = (subst (λ (x : Place). Known x.0) (sym to) frames.0, subst (AreKnown Known) (sym back) frames.1)

  by_state : (t u v : State) (p q : Place) (k : ℕ) → Known p.0 → AreKnown Known t.frames → q ≡ (p.0, k) → u ≡ v → v.frames ≡ t.frames → IsAllKnown q u
  by_state t u v p q k known frames to is e = same_frames t u p q k known frames to (ap (λ (x : State). x.frames) is ∙ e)

  known_plain : (form : Form) → NamesNone form → (p : Place) (t : State) (q : Place) (u : State) → Known p.0 → AreKnown Known t.frames → OnlyKnown s r number Known n form t → Goes s form p t q u → IsAllKnown q u
  known_plain Mark x p t q u known frames c g = absurd g
  known_plain (Far i) x p t q u known frames c g = absurd g
  known_plain Stray x p t q u known frames c g = absurd g
  known_plain (Plain op mode o) x p t q u known frames c g = absurd x
  known_plain (Enter f reads gives) x p t q u known frames c g = absurd x
  known_plain Return x p t q u known frames c g = return_known t.frames p t q u refl known frames g
  known_plain (Through reads gives) x p t q u known frames c (f, is, g) = call_known (s.library f) f (union_of reads ptr4_bytes) gives p t q u (c f is) known frames g
  known_plain (Branch op l) x p t q u known frames c g = by_state t u t p q _ known frames g.0 g.1 refl
  known_plain (Jump l) x p t q u known frames c g = by_state t u t p q _ known frames g.0 g.1 refl
  known_plain Push x p t q u known frames c g = by_state t u _ p q _ known frames g.0 g.1 refl
  known_plain Pull x p t q u known frames c (to, (v, rest, pushed, is)) = by_state t u _ p q _ known frames to is refl
  known_plain Depth x p t q u known frames c g = by_state t u _ p q _ known frames g.0 g.1 refl
  known_plain (Run a) x p t q u known frames c g = row_known (row_of a t) t u p q _ known frames g.0 g.1

  known_after : (form other : Form) → Alike s.place r.place number Known form other → (p : Place) (t : State) (q : Place) (u : State) → Known p.0 → AreKnown Known t.frames → OnlyKnown s r number Known n form t → Goes s form p t q u → IsAllKnown q u
  known_after form other (as_it_is f x) p t q u known frames c g = known_plain f x p t q u known frames c g
  known_after form other (by_operand op mode o o2 e) p t q u known frames c g = by_state t u _ p q _ known frames g.0 g.1 (effect_frames (kind_of op) op mode (word_of s.place o) t)
  known_after form other (by_function f reads gives kf) p t q u known frames c g = call_known (s.library f) f reads gives p t q u kf known frames g

  -- ---- steadiness

  open_to : (bound b : ℕ) → IsOpen s.place bound b → IsOpen r.place bound b
  open_to bound b (inl h) = inl (n.are_data b ∙ h)
  open_to bound b (inr h) = inr h

  allowed_to : (kind : Kind) (ref : Ref) (t : State) → IsAllowed s.place kind ref t → IsAllowed r.place kind ref (new t)
  allowed_to kind (Given v) t h = h
  allowed_to kind (ZeroAt i) t h = h
  allowed_to kind (MemAt b) t h = open_to (sp_of t) b h

  room_to : (o : Option Row) (t : State) → RowHasRoom s.place o t → RowHasRoom r.place o (new t)
  room_to None t h = absurd h
  room_to (Some row) t h = record {
    ready = h.ready;
    soft = h.soft;
    hard = subst (λ (m : ℕ). 3 + 26 ≤ m) (sym (s_same number t)) h.hard;
    near = All-weaker (IsOpen s.place (min (sp_of t) row.sp)) (IsOpen r.place (min (sp_of t) row.sp)) (λ b. open_to (min (sp_of t) row.sp) b) row.near h.near;
    far = All-weaker (IsOpen s.place (max (sp_of t) row.sp)) (IsOpen r.place (max (sp_of t) row.sp)) (λ b. open_to (max (sp_of t) row.sp) b) row.far h.far;
  }

  row_room : (q : Routine) (t : State) → RowHasRoom s.place (row_of q t) t → RowHasRoom r.place (row_of q (new t)) (new t)
  row_room q t h = subst (λ (o : Option Row). RowHasRoom r.place o (new t)) (sym (row_same number q t)) (room_to (row_of q t) t h)

  callable_to : (o : Option Library) (f : ℕ) (reads : RegSet) (t : State) → Known f → IsCallable s o f reads t → IsCallable r o (number f) reads (new t)
  callable_to None f reads t k h = n.has_lines f k h
  callable_to (Some l) f reads t k h = (row_room (routines.Library l) t h.0, h.1)

  within_plain : (form : Form) → NamesNone form → (t : State) → OnlyKnown s r number Known n form t → IsWithin s form t → IsWithin r form (new t)
  within_plain Mark x t c h = absurd h
  within_plain (Far i) x t c h = absurd h
  within_plain Stray x t c h = absurd h
  within_plain (Plain op mode o) x t c h = absurd x
  within_plain (Enter f reads gives) x t c h = absurd x
  within_plain Return x t c h = h
  within_plain (Through reads gives) x t c (f, is, h) =
      (number f, n.callee t f (c f is) is, subst (λ (o : Option Library). IsCallable r o (number f) reads (new t)) (sym (n.library f (c f is))) (callable_to (s.library f) f reads t (c f is) h))
  within_plain (Branch op l) x t c h = tt
  within_plain (Jump l) x t c h = tt
  within_plain Push x t c h = tt
  within_plain Pull x t c h = h
  within_plain Depth x t c h = tt
  within_plain (Run a) x t c h = row_room a t h

  within_to : (form other : Form) → Alike s.place r.place number Known form other → (t : State) → OnlyKnown s r number Known n form t → IsWithin s form t → IsWithin r other (new t)
  within_to form other (as_it_is f x) t c h = within_plain f x t c h
  within_to form other (by_operand op mode o o2 e) t c h =
      let first : IsAllowed r.place (kind_of op) (ref_of mode (word_of s.place o) t) (new t) = allowed_to (kind_of op) (ref_of mode (word_of s.place o) t) t h in
      subst (λ (x : Ref). IsAllowed r.place (kind_of op) x (new t)) (sym (ref_same number mode (word_of s.place o) t) ∙ ap (λ (w : ℕ). ref_of mode w (new t)) (sym e)) first
  within_to form other (by_function f reads gives kf) t c h = subst (λ (o : Option Library). IsCallable r o (number f) reads (new t)) (sym (n.library f kf)) (callable_to (s.library f) f reads t kf h)

  calm_to : (t : State) → IsCalm s t → IsCalm r (new t)
  calm_to t c = record {
    low = c.low;
    high = c.high;
    hard = subst (λ (m : ℕ). 3 ≤ m) (sym (s_same number t)) c.hard;
    constant = λ b v h. c.constant b v (sym (n.constant b) ∙ h);
    bytes = bytes_to number t c.bytes;
  }

  weight_to : (o : Option Library) (t : State) → call_weight o (new t) ≡ call_weight o t
  weight_to None t = refl
  weight_to (Some l) t = ap (λ (row : Option Row). 8 + row_cost row) (row_same number (routines.Library l) t)

  called_to : (f : ℕ) (t : State) → Known f → call_weight (s.library f) t ≡ call_weight (r.library (number f)) (new t)
  called_to f t k = sym (weight_to (s.library f) t) ∙ ap (λ (o : Option Library). call_weight o (new t)) (sym (n.library f k))

  weighs_plain : (form : Form) → NamesNone form → (t : State) (c : ℕ) → OnlyKnown s r number Known n form t → Weighs s form t c → Weighs r form (new t) c
  weighs_plain (Plain op mode o) x t c k h = absurd x
  weighs_plain (Enter f reads gives) x t c k h = absurd x
  weighs_plain (Through reads gives) x t c k (f, is, h) = (number f, n.callee t f (k f is) is, h ∙ called_to f t (k f is))
  weighs_plain (Run a) x t c k h = h ∙ ap row_cost (sym (row_same number a t))
  weighs_plain (Branch op l) x t c k h = h
  weighs_plain (Jump l) x t c k h = h
  weighs_plain Mark x t c k h = h
  weighs_plain (Far i) x t c k h = h
  weighs_plain Stray x t c k h = h
  weighs_plain Return x t c k h = h
  weighs_plain Push x t c k h = h
  weighs_plain Pull x t c k h = h
  weighs_plain Depth x t c k h = h

  weighs_to : (form other : Form) → Alike s.place r.place number Known form other → (t : State) (c : ℕ) → OnlyKnown s r number Known n form t → Weighs s form t c → Weighs r other (new t) c
  weighs_to form other (as_it_is f x) t c k h = weighs_plain f x t c k h
  weighs_to form other (by_operand op mode o o2 e) t c k h = h
  weighs_to form other (by_function f reads gives kf) t c k h = h ∙ called_to f t kf

  callee_there : (form : Form) (t : State) → IsWithin s form t → HasCallee s r number Known n form t
  callee_there (Through reads gives) t h = (h.0, h.1)
  callee_there Mark t h = tt
  callee_there (Plain op mode o) t h = tt
  callee_there (Branch op l) t h = tt
  callee_there (Jump l) t h = tt
  callee_there (Far i) t h = tt
  callee_there Push t h = tt
  callee_there Pull t h = tt
  callee_there Depth t h = tt
  callee_there Return t h = tt
  callee_there (Run a) t h = tt
  callee_there (Enter f reads gives) t h = tt
  callee_there Stray t h = tt

-- ---- the same numbers

id_frames : (fs : List Frame) → map (moved_frame (λ f. f)) fs ≡ fs
id_frames [] = refl
id_frames (f ∷ fs) = ap (λ (gs : List Frame). f ∷ gs) (id_frames fs)

id_moved : (t : State) → moved (λ f. f) t ≡ t
id_moved t = ap (λ (fs : List Frame). record t { frames = fs }) (id_frames t.frames)

-- ---- arrivals

equal_itself : (m : ℕ) → (m == m) ≡ true
equal_itself m = (Decides-eqb m m).1 refl

below_at : (number : ℕ → ℕ) (q : Place) (f p a b : ℕ) (same : Bool) → ((f == q.0) && (p == q.1)) ≡ same → a ≤ b
    → (if same then suc a else a) ≤ (if (number f == number q.0) && (p == q.1) then suc b else b)
below_at number q f p a b true e le =
    let parts = and_parts (f == q.0) (p == q.1) e in
    let there : f ≡ q.0 = eqb-true f q.0 parts.0 in
    let now : ((number f == number q.0) && (p == q.1)) ≡ true = and_from (number f == number q.0) (p == q.1) (subst (λ (g : ℕ). (number f == number g) ≡ true) there (equal_itself (number f))) parts.1 in
    subst (λ (c : Bool). suc a ≤ (if c then suc b else b)) (sym now) (omega (arith, le))
below_at number q f p a b false e le = below_by ((number f == number q.0) && (p == q.1))
  where
    below_by : (c : Bool) → a ≤ (if c then suc b else b)
    below_by true = omega (arith, le)
    below_by false = le

pub below_on : (number : ℕ → ℕ) (q : Place) (seen later : Seen) → IsBelow seen (λ f p. later (number f) p) → IsBelow (seen_at q seen) (λ f p. seen_at (moved_place number q) later (number f) p)
below_on number q seen later below f p = below_at number q f p (seen f p) (later (number f) p) ((f == q.0) && (p == q.1)) refl (below f p)

-- ---- what is come to

-- Other settings with the same lines and functions. A function that a pointer names is known, or one of them has none at its address.
pub record Among (s : Setting) (others : ℕ → Setting) (count : ℕ) (Known : ℕ → Type 0) : Type 0 where
  pub lines : (j f : ℕ) → (others j).lines f ≡ s.lines f
  pub renames : (j : ℕ) → Renames (others j) s (λ f. f) Known
  pub known : (t : State) (f : ℕ) → IsCallee s t f → Known f ⊎ ((j : ℕ) × (j < count) × ((g : ℕ) → IsCallee (others j) t g → ⊥))
  pub second : (j : ℕ) (t : State) (f g : ℕ) → Known f → IsCallee s t f → IsCallee (others j) t g → Known g

-- a setting that goes on by a line
pub record GoesBy (s : Setting) (Q : Place → State → Seen → Type 0) (p : Place) (t : State) (seen : Seen) : Type 0 where
  pub line : Line
  pub there : slice_get (s.lines p.0) p.1 ≡ Some line
  pub steady : IsSteady s line t
  pub weight : ℕ
  pub rest : (q : Place) (u : State) → Moves s line p t q u → Comes s Q weight q u (seen_at q seen)

come_or_go : (s : Setting) (Q : Place → State → Seen → Type 0) (w : ℕ) (p : Place) (t : State) (seen : Seen) → Comes s Q w p t seen → Q p t seen ⊎ GoesBy s Q p t seen
come_or_go s Q w p t seen (here q calm) = inl q
come_or_go s Q w p t seen (on {v = v} l there steady c weighs le q u m rest) = inr (record { line = l; there = there; steady = steady; weight = v; rest = rest })

module _ (s : Setting) (others : ℕ → Setting) (count : ℕ) (r : Setting) (number : ℕ → ℕ) (Known : ℕ → Type 0) (n : Renames s r number Known) (a : Among s others count Known) (test : Shown → Seen → Bool) (grows : Grows test) where
  abbrev renamed_test : Shown → Seen → Bool
  renamed_test shown seen = test shown (λ f p. seen (number f) p)

  -- each of the others comes to what passes the test
  abbrev pub AllCome : Place → State → Seen → Type 0
  AllCome p t seen = (j : ℕ) → j < count → (v : ℕ) × Comes (others j) (Shows test) v p t seen

  abbrev AllGo : ℕ → Place → State → Seen → Type 0
  AllGo below p t seen = (j : ℕ) → j < below → GoesBy (others j) (Shows test) p t seen

  one_more : (below : ℕ) (p : Place) (t : State) (seen : Seen) → GoesBy (others below) (Shows test) p t seen → AllGo below p t seen → AllGo (suc below) p t seen
  one_more below p t seen last go j le = by (nat_lt j below) refl
    where
      by : (b : Bool) → nat_lt j below ≡ b → GoesBy (others j) (Shows test) p t seen
      by true e = go j (ltb-true j below e)
      by false e = let above : below ≤ j = ltb-false j below e in subst (λ (i : ℕ). GoesBy (others i) (Shows test) p t seen) (omega (arith, le, above)) last

  all_go : (below : ℕ) (p : Place) (t : State) (seen : Seen) → ((j : ℕ) → j < below → (v : ℕ) × Comes (others j) (Shows test) v p t seen) → Shows test p t seen ⊎ AllGo below p t seen
  all_go zero p t seen d = inr (λ j le. absurd (omega (arith, le)))
  all_go (suc below) p t seen d = by (all_go below p t seen (λ j le. d j (omega (arith, le)))) (let c = d below (omega arith) in come_or_go (others below) (Shows test) c.0 p t seen c.1)
    where
      by : Shows test p t seen ⊎ AllGo below p t seen → Shows test p t seen ⊎ GoesBy (others below) (Shows test) p t seen → Shows test p t seen ⊎ AllGo (suc below) p t seen
      by (inl q) c = inl q
      by (inr go) (inl q) = inl q
      by (inr go) (inr last) = inr (one_more below p t seen last go)

  callee_known : (t : State) (f : ℕ) (reads gives : RegSet) → IsCallee s t f → ((j : ℕ) → j < count → IsWithin (others j) (Through reads gives) t) → Known f
  callee_known t f reads gives is go = by (a.known t f is)
    where
      by : Known f ⊎ ((j : ℕ) × (j < count) × ((g : ℕ) → IsCallee (others j) t g → ⊥)) → Known f
      by (inl k) = k
      by (inr (j, le, none)) = let h = go j le in absurd (none h.0 h.1)

  only_first : (form : Form) (t : State) → ((j : ℕ) → j < count → IsWithin (others j) form t) → OnlyKnown s r number Known n form t
  only_first (Through reads gives) t h = λ f is. callee_known t f reads gives is h
  only_first Mark t h = tt
  only_first (Plain op mode o) t h = tt
  only_first (Branch op l) t h = tt
  only_first (Jump l) t h = tt
  only_first (Far i) t h = tt
  only_first Push t h = tt
  only_first Pull t h = tt
  only_first Depth t h = tt
  only_first Return t h = tt
  only_first (Run a) t h = tt
  only_first (Enter f reads gives) t h = tt
  only_first Stray t h = tt

  only_second : (j : ℕ) (form : Form) (t : State) → OnlyKnown s r number Known n form t → IsWithin s form t → OnlyKnown (others j) s (λ f. f) Known (a.renames j) form t
  only_second j (Through reads gives) t k h = λ g is. a.second j t h.0 g (k h.0 h.1) h.1 is
  only_second j Mark t k h = tt
  only_second j (Plain op mode o) t k h = tt
  only_second j (Branch op l) t k h = tt
  only_second j (Jump l) t k h = tt
  only_second j (Far i) t k h = tt
  only_second j Push t k h = tt
  only_second j Pull t k h = tt
  only_second j Depth t k h = tt
  only_second j Return t k h = tt
  only_second j (Run a) t k h = tt
  only_second j (Enter f reads gives) t k h = tt
  only_second j Stray t k h = tt

  -- a move of the setting is one of each other
  also : (j : ℕ) (l : Line) (p : Place) (t : State) (q : Place) (u : State) → Known p.0 → slice_get ((others j).lines p.0) p.1 ≡ Some l → OnlyKnown s r number Known n (form_of l) t → IsWithin s (form_of l) t → IsWithin (others j) (form_of l) t
      → Moves s l p t q u → Moves (others j) l p t q u
  also j l p t q u known there only w w2 m =
      let other = (a.renames j).line p.0 p.1 l known there in
      let same : other.line ≡ l = same_Some other.line l (sym other.there ∙ subst (λ (ls : List Line). slice_get ls p.1 ≡ Some l) (a.lines j p.0) there) in
      let alike : Alike (others j).place s.place (λ f. f) Known (form_of l) (form_of l) = subst (λ (x : Line). Alike (others j).place s.place (λ f. f) Known (form_of l) (form_of x)) same other.alike in
      let goes : Goes s (form_of l) p (moved (λ f. f) t) q u = subst (λ (x : State). Goes s (form_of l) p x q u) (sym (id_moved t)) m.goes in
      let from = alike_from (others j) s (λ f. f) Known (a.renames j) (form_of l) (form_of l) alike p t q u known (only_second j (form_of l) t only w) (callee_there (others j) s (λ f. f) Known (a.renames j) (form_of l) t w2) goes in
      let state : from.state ≡ u = sym (id_moved from.state) ∙ sym from.state_is in
      record { running = m.running; goes = subst (λ (x : State). Goes (others j) (form_of l) p t q x) state (subst (λ (x : Place). Goes (others j) (form_of l) p t x from.state) (sym from.place_is) from.goes); bytes = m.bytes }

  GoesOn : ℕ → Line → Place → State → Seen → Type 0
  GoesOn less l p t seen = (place : Place) (state : State) → Moves s l p t place state → AllCome place state (seen_at place seen) → Known place.0 → AreKnown Known state.frames
      → (more : Seen) → IsBelow (seen_at place seen) (λ f k. more (number f) k) → Comes r (Shows renamed_test) less (moved_place number place) (moved number state) more

  -- by a line of the setting and of the others
  step : (w less : ℕ) (p : Place) (t : State) (seen : Seen) (l : Line) → slice_get (s.lines p.0) p.1 ≡ Some l → IsSteady s l t → (c : ℕ) → Weighs s (form_of l) t c → c + less ≤ w → (q : Place) (u : State) → Moves s l p t q u
      → Known p.0 → AreKnown Known t.frames → (later : Seen) → IsBelow seen (λ f k. later (number f) k) → GoesOn less l p t seen
      → AllGo count p t seen → Comes r (Shows renamed_test) w (moved_place number p) (moved number t) later
  unfolding GoesOn
  step w less p t seen l there steady c weighs le q u m known frames later below go all =
      on other.line other.there (record { calm = calm_to s r number Known n t steady.calm; within = within_to s r number Known n (form_of l) (form_of other.line) other.alike t only steady.within }) c
      (weighs_to s r number Known n (form_of l) (form_of other.line) other.alike t c only weighs) le (moved_place number q) (moved number u)
      (record { running = m.running; goes = alike_to s r number Known n (form_of l) (form_of other.line) other.alike p t q u known only m.goes; bytes = bytes_to number u m.bytes }) each
    where
      same : (j : ℕ) (b : j < count) → (all j b).line ≡ l
      same j b = same_Some (all j b).line l (sym (all j b).there ∙ subst (λ (ls : List Line). slice_get ls p.1 ≡ Some l) (sym (a.lines j p.0)) there)

      within : (j : ℕ) → j < count → IsWithin (others j) (form_of l) t
      within j b = subst (λ (x : Line). IsWithin (others j) (form_of x) t) (same j b) (all j b).steady.within

      other : Other s r number Known p.0 p.1 l
      other = n.line p.0 p.1 l known there

      only : OnlyKnown s r number Known n (form_of l) t
      only = only_first (form_of l) t within

      each : (q3 : Place) (u3 : State) → Moves r other.line (moved_place number p) (moved number t) q3 u3 → Comes r (Shows renamed_test) less q3 u3 (seen_at q3 later)
      each q3 u3 m3 =
          let from = alike_from s r number Known n (form_of l) (form_of other.line) other.alike p t q3 u3 known only (callee_there s r number Known n (form_of l) t steady.within) m3.goes in
          let move : Moves s l p t from.place from.state = record { running = m3.running; goes = from.goes; bytes = bytes_back number from.state (subst (λ (x : State). IsBytes x) from.state_is m3.bytes) } in
          let after = known_after s r number Known n (form_of l) (form_of other.line) other.alike p t from.place from.state known frames only from.goes in
          let next = go from.place from.state move (λ j b. (
            (all j b).weight,
            (all j b).rest from.place from.state
                (subst (λ (x : Line). Moves (others j) x p t from.place from.state) (sym (same j b))
                (also j l p t from.place from.state known (subst (λ (x : Line). slice_get ((others j).lines p.0) p.1 ≡ Some x) (same j b) (all j b).there) only steady.within (within j b) move)),
          ))
          after.0 after.1 (seen_at (moved_place number from.place) later) (below_on number from.place seen later below) in
          subst (λ (x : Place). Comes r (Shows renamed_test) less x u3 (seen_at x later)) (sym from.place_is) (subst (λ (x : State). Comes r (Shows renamed_test) less (moved_place number from.place) x (seen_at (moved_place number from.place) later)) (sym from.state_is) next)

  pub comes : {w : ℕ} {p : Place} {t : State} {seen : Seen} → Comes s (Shows test) w p t seen → AllCome p t seen → Known p.0 → AreKnown Known t.frames
      → (later : Seen) → IsBelow seen (λ f k. later (number f) k) → Comes r (Shows renamed_test) w (moved_place number p) (moved number t) later
  unfolding GoesOn
  comes {t = t} {seen = seen} (here q calm) d known frames later below = here (grows (shown_by t) seen (λ f k. later (number f) k) below q) (calm_to s r number Known n t calm)
  comes {w = w} {p = p} {t = t} {seen = seen} (on {v = less} l there steady c weighs le q u m rest) d known frames later below =
      by (all_go count p t seen d) (λ place state move come k fs more le2. comes (rest place state move) come k fs more le2)
    where
      by : Shows test p t seen ⊎ AllGo count p t seen → GoesOn less l p t seen → Comes r (Shows renamed_test) w (moved_place number p) (moved number t) later
      by (inl shown) go = here (grows (shown_by t) seen (λ f k. later (number f) k) below shown) (calm_to s r number Known n t steady.calm)
      by (inr all) go = step w less p t seen l there steady c weighs le q u m known frames later below go all
