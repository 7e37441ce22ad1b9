-- The machine's moves by lines that call no function keep sp and what waits together.
use Rattle.std.proofs.Common.{◌≡◌, ℕ, zero, suc, ◌+◌, ◌==◌, ◌≤◌, Bool, true, false, Option, None, Some, List, [], ◌∷◌, ◌++◌, length, slice_get, take, refl, sym, ap, subst, ◌∙◌, arith}
use Rattle.std.specs.Prelude.{if◌then◌else◌, not, IsSome}
use Rattle.std.specs.List.{list_all}
use Rattle.std.proofs.lemmas.Bool.{eqb-true, eq-eqb, and_parts}
use Rattle.c65_mach.specs.Step.{Kind, Reads, Stores, Changes, Branches, Registers, Moves as Moving, kind_of, is_taken, changed, stored, signed}
use Rattle.c65_mach.specs.declared.rows.Op.{Op}
use Rattle.c65_mach.specs.declared.rows.Op.TheVariants as ops
use Rattle.c65_mach.specs.declared.rows.Mode.{Mode}
use Rattle.c65_mach.specs.declared.rows.Mode.TheVariants.{Implied, Accumulator, Immediate, ZeroPage, ZeroPageX, ZeroPageY, Absolute, AbsoluteX, AbsoluteY, IndirectX, IndirectY, Indirect, Relative, ZeroPageIndirect, AbsoluteIndirectX}
use Rattle.c65_code.specs.declared.routine.Routine.{Routine}
use Rattle.c65_code.specs.declared.line.Operand.{Operand}
use Rattle.c65_code.specs.declared.line.Operand.TheVariants.{Nothing, Byte, Low, High, Zero, At, To}
use Rattle.c65_code.specs.declared.line.Callee.TheVariants as callees
use Rattle.c65_code.specs.declared.line.Line.{Line}
use Rattle.c65_code.specs.declared.line.Line.TheVariants.{Label, Do, Call}
use Rattle.c65_code.specs.Segments.{labels_of, is_to, target_of}
use Rattle.c65_code.specs.LineState.{Place, State, sp_of}
use Rattle.c65_code.specs.Placement.{Placement, Setting, word_of}
use Rattle.c65_code.specs.Forms.{Plain, Run, branch_form, jump_form, move_form, op_form, form_of}
use Rattle.c65_code.specs.Moves.{Ref, Given, ZeroAt, MemAt, ref_of, value_at, put, change, effect, labelled, settle, Goes as ByForm, Moves}
use Rattle.c65_code.specs.Steady.{IsAllowed, Writes, IsWithin, IsSteady}
use Rattle.c65_genentry.specs.Entry.{entry_code}
use Rattle.c65_genentry.specs.Ends.{end_code}
use Rattle.c65_gen_law_lines.specs.Stack.{Waiting, behind, waits, bytes_in, by_routine}
use Rattle.c65_gen_law_lines.proofs.Made.{is_plain}
use Rattle.c65_gen_law_lines.proofs.Flat.{entry_flat, end_flat}
use Rattle.c65_gen_law_stack.specs.Heights.{values_in, height_at, AreLevel}
use Rattle.c65_gen_law_stack.specs.Going.{sum_in, waiting_at, IsOwn, Goes, MovesKeepHeights, at_first, FunctionsKeepHeights}
use Rattle.c65_gen_law_stack.proofs.Steps.{write_other}
use Rattle.c65_gen_law_stack.proofs.RowMoves.{routine_moves}
use Rattle.c65_gen_law_stack.proofs.FunctionLevels.{functions_are_level}

-- ---- lines that move no sp

zero_sp : (t : State) (i v : ℕ) → 2 ≤ i → sp_of (put (ZeroAt i) v t) ≡ sp_of t
zero_sp t i v h =
    let low : (put (ZeroAt i) v t).zp 0 ≡ t.zp 0 = write_other t.zp i v 0 (λ z. omega (arith, z, h)) in
    let high : (put (ZeroAt i) v t).zp 1 ≡ t.zp 1 = write_other t.zp i v 1 (λ z. omega (arith, z, h)) in
    omega (arith, low, high)

put_sp : (place : Placement) (kind : Kind) (r : Ref) (v : ℕ) (t u : State) → sp_of u ≡ sp_of t → Writes kind → IsAllowed place kind r t → sp_of (put r v u) ≡ sp_of t
put_sp place kind (Given w) v t u e writes ok = e
put_sp place kind (ZeroAt i) v t u e writes ok = zero_sp u i v (ok.1 writes) ∙ e
put_sp place kind (MemAt b) v t u e writes ok = e

changed_sp : (place : Placement) (op : Op) (r : Ref) (t : State) → IsAllowed place Changes r t → sp_of (let to = changed op (value_at r t) t.regs in put r to.0 (record t { regs = record (signed to.0 t.regs) { c = to.1 } })) ≡ sp_of t
changed_sp place op r t ok = let to = changed op (value_at r t) t.regs in put_sp place Changes r to.0 t (record t { regs = record (signed to.0 t.regs) { c = to.1 } }) refl tt ok

change_sp : (place : Placement) (op : Op) (mode : Mode) (w : ℕ) (t : State) → IsAllowed place Changes (ref_of mode w t) t → sp_of (change op mode w t) ≡ sp_of t
change_sp place op Accumulator w t ok = refl
change_sp place op Implied w t ok = changed_sp place op (ref_of Implied w t) t ok
change_sp place op Immediate w t ok = changed_sp place op (ref_of Immediate w t) t ok
change_sp place op ZeroPage w t ok = changed_sp place op (ref_of ZeroPage w t) t ok
change_sp place op ZeroPageX w t ok = changed_sp place op (ref_of ZeroPageX w t) t ok
change_sp place op ZeroPageY w t ok = changed_sp place op (ref_of ZeroPageY w t) t ok
change_sp place op Absolute w t ok = changed_sp place op (ref_of Absolute w t) t ok
change_sp place op AbsoluteX w t ok = changed_sp place op (ref_of AbsoluteX w t) t ok
change_sp place op AbsoluteY w t ok = changed_sp place op (ref_of AbsoluteY w t) t ok
change_sp place op IndirectX w t ok = changed_sp place op (ref_of IndirectX w t) t ok
change_sp place op IndirectY w t ok = changed_sp place op (ref_of IndirectY w t) t ok
change_sp place op Indirect w t ok = changed_sp place op (ref_of Indirect w t) t ok
change_sp place op Relative w t ok = changed_sp place op (ref_of Relative w t) t ok
change_sp place op ZeroPageIndirect w t ok = changed_sp place op (ref_of ZeroPageIndirect w t) t ok
change_sp place op AbsoluteIndirectX w t ok = changed_sp place op (ref_of AbsoluteIndirectX w t) t ok

effect_sp : (place : Placement) (kind : Kind) (op : Op) (mode : Mode) (w : ℕ) (t : State) → IsAllowed place kind (ref_of mode w t) t → sp_of (effect kind op mode w t) ≡ sp_of t
effect_sp place Reads op mode w t ok = refl
effect_sp place Stores op mode w t ok = put_sp place Stores (ref_of mode w t) (stored op t.regs) t t refl tt ok
effect_sp place Changes op mode w t ok = change_sp place op mode w t ok
effect_sp place Branches op mode w t ok = refl
effect_sp place Registers op mode w t ok = refl
effect_sp place Moving op mode w t ok = refl

-- where a move leads within a function: behind the line, or to a label to which it leads
data Leaps (lines : List Line) (g p : ℕ) (operand : Operand) (q : Place) : Type 0 where
  on : q ≡ (g, settle lines (suc p)) → Leaps lines g p operand q
  off : (l : ℕ) → operand ≡ To l → q ≡ (g, settle lines (labelled lines l)) → Leaps lines g p operand q

record Goings (lines : List Line) (g p : ℕ) (operand : Operand) (t : State) (q : Place) (u : State) : Type 0 where
  leaps : Leaps lines g p operand q
  sp : sp_of u ≡ sp_of t

branch_leaps : (lines : List Line) (g p l : ℕ) (b : Bool) (q : Place) → q ≡ (g, settle lines (if b then labelled lines l else suc p)) → Leaps lines g p (To l) q
branch_leaps lines g p l true q e = off l refl e
branch_leaps lines g p l false q e = on e

by_branch : (s : Setting) (g p : ℕ) (op : Op) (operand : Operand) (t : State) (q : Place) (u : State) → IsOwn (branch_form op operand) → ByForm s (branch_form op operand) (g, p) t q u → Goings (s.lines g) g p operand t q u
by_branch s g p op (To l) t q u own h = record { leaps = branch_leaps (s.lines g) g p l (is_taken op t.regs) q h.0; sp = ap sp_of h.1 }
by_branch s g p op Nothing t q u own h = absurd own
by_branch s g p op (Byte v) t q u own h = absurd own
by_branch s g p op (Low a o) t q u own h = absurd own
by_branch s g p op (High a o) t q u own h = absurd own
by_branch s g p op (Zero i) t q u own h = absurd own
by_branch s g p op (At a o) t q u own h = absurd own

by_jump : (s : Setting) (g p : ℕ) (operand : Operand) (t : State) (q : Place) (u : State) → IsOwn (jump_form operand) → ByForm s (jump_form operand) (g, p) t q u → Goings (s.lines g) g p operand t q u
by_jump s g p (To l) t q u own h = record { leaps = off l refl h.0; sp = ap sp_of h.1 }
by_jump s g p Nothing t q u own h = absurd own
by_jump s g p (Byte v) t q u own h = absurd own
by_jump s g p (Low a o) t q u own h = absurd own
by_jump s g p (High a o) t q u own h = absurd own
by_jump s g p (Zero i) t q u own h = absurd own
by_jump s g p (At a o) t q u own h = absurd own

by_move : (s : Setting) (g p : ℕ) (op : Op) (operand : Operand) (t : State) (q : Place) (u : State) → IsOwn (move_form op operand) → ByForm s (move_form op operand) (g, p) t q u → Goings (s.lines g) g p operand t q u
by_move s g p ops.Jmp operand t q u own h = by_jump s g p operand t q u own h
by_move s g p ops.Pha operand t q u own h = record { leaps = on h.0; sp = ap sp_of h.1 }
by_move s g p ops.Pla operand t q u own h = record { leaps = on h.0; sp = ap sp_of h.1.3 }
by_move s g p ops.Tsx operand t q u own h = record { leaps = on h.0; sp = ap sp_of h.1 }
by_move s g p ops.Rts operand t q u own h = absurd own
by_move s g p _ operand t q u own h = absurd own

plain_goes : (s : Setting) (g p : ℕ) (kind : Kind) (op : Op) (mode : Mode) (operand : Operand) (t : State) (q : Place) (u : State) → kind_of op ≡ kind → IsWithin s (Plain op mode operand) t → ByForm s (Plain op mode operand) (g, p) t q u → Goings (s.lines g) g p operand t q u
plain_goes s g p kind op mode operand t q u e ok h = record { leaps = on h.0; sp = ap sp_of h.1 ∙ effect_sp s.place (kind_of op) op mode (word_of s.place operand) t ok }

by_op : (s : Setting) (g p : ℕ) (kind : Kind) (op : Op) (mode : Mode) (operand : Operand) (t : State) (q : Place) (u : State) → kind_of op ≡ kind → IsOwn (op_form kind op mode operand) → IsWithin s (op_form kind op mode operand) t → ByForm s (op_form kind op mode operand) (g, p) t q u → Goings (s.lines g) g p operand t q u
by_op s g p Branches op mode operand t q u e own ok h = by_branch s g p op operand t q u own h
by_op s g p Moving op mode operand t q u e own ok h = by_move s g p op operand t q u own h
by_op s g p Reads op mode operand t q u e own ok h = plain_goes s g p Reads op mode operand t q u e ok h
by_op s g p Stores op mode operand t q u e own ok h = plain_goes s g p Stores op mode operand t q u e ok h
by_op s g p Changes op mode operand t q u e own ok h = plain_goes s g p Changes op mode operand t q u e ok h
by_op s g p Registers op mode operand t q u e own ok h = plain_goes s g p Registers op mode operand t q u e ok h

-- ---- places

settle_shift : (a b : List Line) (m : ℕ) → settle (a ++ b) (length a + m) ≡ length a + settle b m
settle_shift [] b m = let e : 0 + m ≡ m = omega arith in ap (settle b) e ∙ sym (omega arith)
settle_shift (line ∷ a) b m =
    let e : length (line ∷ a) + m ≡ suc (length a + m) = omega arith in
    ap (settle ((line ∷ a) ++ b)) e ∙ step (settle_shift a b m) line
  where
    step : settle (a ++ b) (length a + m) ≡ length a + settle b m → (line : Line) → settle ((line ∷ a) ++ b) (suc (length a + m)) ≡ length (line ∷ a) + settle b m
    step rest (Label k) = omega (arith, rest)
    step rest (Do op mode operand) = omega (arith, rest)
    step rest (Call callee) = omega (arith, rest)

labelled_shift : (a b : List Line) (l : ℕ) → labels_of a ≡ [] → labelled (a ++ b) l ≡ length a + labelled b l
labelled_shift [] b l none = sym (omega arith)
labelled_shift (Label k ∷ a) b l none = absurd cc
labelled_shift (Do op mode operand ∷ a) b l none = omega (arith, labelled_shift a b l none)
labelled_shift (Call callee ∷ a) b l none = omega (arith, labelled_shift a b l none)

same_waits : (k : ℕ) (w : Option Waiting) → behind (Label k) w ≡ w
same_waits k None = refl
same_waits k (Some w) = refl

-- as much waits where the machine settles
settle_height : (a b : List Line) (w : Option Waiting) (m : ℕ) → labels_of b ≡ [] → m ≤ length a → (settle (a ++ b) m ≤ length a) × (height_at w a (settle (a ++ b) m) ≡ height_at w a m)
settle_height [] [] w zero none le = (omega arith, refl)
settle_height [] (Label k ∷ b) w zero none le = absurd cc
settle_height [] (Do op mode operand ∷ b) w zero none le = (omega arith, refl)
settle_height [] (Call callee ∷ b) w zero none le = (omega arith, refl)
settle_height [] b w (suc m) none le = absurd (omega (arith, le))
settle_height (Label k ∷ a) b w zero none le =
    let rest = settle_height a b w zero none (omega arith) in
    (omega (arith, rest.0), ap (λ (x : Option Waiting). height_at x a (settle (a ++ b) zero)) (same_waits k w) ∙ rest.1)
settle_height (Do op mode operand ∷ a) b w zero none le = (omega arith, refl)
settle_height (Call callee ∷ a) b w zero none le = (omega arith, refl)
settle_height (Label k ∷ a) b w (suc m) none le = let rest = settle_height a b (behind (Label k) w) m none (omega (arith, le)) in (omega (arith, rest.0), rest.1)
settle_height (Do op mode operand ∷ a) b w (suc m) none le = let rest = settle_height a b (behind (Do op mode operand) w) m none (omega (arith, le)) in (omega (arith, rest.0), rest.1)
settle_height (Call callee ∷ a) b w (suc m) none le = let rest = settle_height a b (behind (Call callee) w) m none (omega (arith, le)) in (omega (arith, rest.0), rest.1)

-- the first place of a label that stands there
record First (a b : List Line) (l : ℕ) : Type 0 where
  at : slice_get a (labelled (a ++ b) l) ≡ Some (Label l)
  low : labelled (a ++ b) l ≤ length a

first_place : (a b : List Line) (l i : ℕ) → slice_get a i ≡ Some (Label l) → First a b l
first_place [] b l i e = absurd cc
first_place (Do op mode operand ∷ a) b l zero e = absurd cc
first_place (Do op mode operand ∷ a) b l (suc i) e = let rest : First a b l = first_place a b l i e in record { at = rest.at; low = omega (arith, rest.low) }
first_place (Call callee ∷ a) b l zero e = absurd cc
first_place (Call callee ∷ a) b l (suc i) e = let rest : First a b l = first_place a b l i e in record { at = rest.at; low = omega (arith, rest.low) }
first_place (Label k ∷ a) b l i e = by (λ i e. first_place a b l i e) i (k == l) refl e
  where
    by : ((i : ℕ) → slice_get a i ≡ Some (Label l) → First a b l) → (i : ℕ) (c : Bool) → (k == l) ≡ c → slice_get (Label k ∷ a) i ≡ Some (Label l) → First (Label k ∷ a) b l
    by later i true h e = record { at = rw h (ap (λ (n : ℕ). Some (Label n)) (eqb-true k l h)); low = rw h (omega arith) }
    by later zero false h e = let same : k ≡ l = cc in let yes : (k == l) ≡ true = eq-eqb k l same in absurd cc
    by later (suc i) false h e = let rest : First a b l = later i e in record { at = rw h rest.at; low = rw h (omega (arith, rest.low)) }

pub below_length : (a : List Line) (j : ℕ) (line : Line) → slice_get a j ≡ Some line → suc j ≤ length a
below_length [] j line e = absurd cc
below_length (x ∷ a) zero line e = omega arith
below_length (x ∷ a) (suc j) line e = omega (arith, below_length a j line e)

-- what waits behind a line
next_height : (w : Option Waiting) (a : List Line) (j : ℕ) (line : Line) → slice_get a j ≡ Some line → waits w (take (suc j) a) ≡ behind line (waits w (take j a))
next_height w [] j line e = absurd cc
next_height w (x ∷ a) zero line e = let same : x ≡ line = cc in ap (λ (y : Line). behind y w) same
next_height w (x ∷ a) (suc j) line e = next_height (behind x w) a j line e

-- ---- one move

-- a place in the middle, or behind it
pub record Arrives (g : ℕ) (before middle : List Line) (q : Place) (h : Option (List ℕ)) (w : Option Waiting) : Type 0 where
  pub at : ℕ
  pub low : at ≤ length middle
  pub to : q ≡ (g, length before + at)
  pub height : height_at w middle at ≡ h

pub settles : (g m : ℕ) (lines before middle rest : List Line) (w : Option Waiting) (q : Place) → lines ≡ before ++ (middle ++ rest) → labels_of rest ≡ [] → m ≤ length middle → q ≡ (g, settle lines (length before + m)) → Arrives g before middle q (height_at w middle m) w
settles g m lines before middle rest w q e none le to =
    let there = settle_height middle rest w m none le in
    record {
      at = settle (middle ++ rest) m;
      low = there.0;
      to = to ∙ ap (λ (n : ℕ). (g, n)) (ap (λ (x : List Line). settle x (length before + m)) e ∙ settle_shift before (middle ++ rest) m);
      height = there.1;
    }

leaps_arrive : (g j : ℕ) (lines before middle rest : List Line) (w : Option Waiting) (op : Op) (mode : Mode) (operand : Operand) (q : Place) → lines ≡ before ++ (middle ++ rest) → labels_of before ≡ [] → labels_of rest ≡ [] → AreLevel w middle
    → slice_get middle j ≡ Some (Do op mode operand) → height_at w middle (suc j) ≡ height_at w middle j → Leaps lines g (length before + j) operand q → Arrives g before middle q (height_at w middle j) w
leaps_arrive g j lines before middle rest w op mode operand q e clear none level line same (on to) =
    let here : suc (length before + j) ≡ length before + suc j = omega arith in
    subst (λ (h : Option (List ℕ)). Arrives g before middle q h w) same (settles g (suc j) lines before middle rest w q e none (below_length middle j (Do op mode operand) line) (to ∙ ap (λ (n : ℕ). (g, settle lines n)) here))
leaps_arrive g j lines before middle rest w op mode operand q e clear none level line same (off l target to) =
    let leads : target_of (Do op mode operand) ≡ l ∷ [] = ap (λ (x : Operand). target_of (Do op mode x)) target in
    let found = level.found j l (Do op mode operand) line leads in
    let first : First middle rest l = first_place middle rest l found.0 found.1 in
    let number : labelled lines l ≡ length before + labelled (middle ++ rest) l = ap (λ (x : List Line). labelled x l) e ∙ labelled_shift before (middle ++ rest) l clear in
    let meets : height_at w middle (labelled (middle ++ rest) l) ≡ height_at w middle j = level.level (labelled (middle ++ rest) l) j l (Do op mode operand) first.at line leads in
    subst (λ (h : Option (List ℕ)). Arrives g before middle q h w) meets (settles g (labelled (middle ++ rest) l) lines before middle rest w q e none first.low (to ∙ ap (λ (n : ℕ). (g, settle lines n)) number))

waiting_in : (o : Option Waiting) → IsSome (values_in o) → (x : Waiting) × (o ≡ Some x)
waiting_in None h = absurd cc
waiting_in (Some x) h = (x, refl)

known_here : (w : Option Waiting) (a : List Line) (j : ℕ) → AreLevel w a → (x : Waiting) × (waits w (take j a) ≡ Some x)
known_here w a j level = waiting_in (waits w (take j a)) (level.known j)

-- a line that acts on the state, and one that calls a routine
do_keeps : (s : Setting) (g j : ℕ) (before middle rest : List Line) (w : Option Waiting) (op : Op) (mode : Mode) (operand : Operand) (q : Place) (t u : State)
    → s.lines g ≡ before ++ (middle ++ rest) → labels_of before ≡ [] → labels_of rest ≡ [] → AreLevel w middle
    → slice_get middle j ≡ Some (Do op mode operand) → IsOwn (form_of (Do op mode operand)) → IsSteady s (Do op mode operand) t → Moves s (Do op mode operand) (g, length before + j) t q u
    → Goes g (length before) middle w j t q u
do_keeps s g j before middle rest w op mode operand q t u e clear none level line own steady moves =
    let here = known_here w middle j level in
    let same : height_at w middle (suc j) ≡ height_at w middle j = ap values_in (next_height w middle j (Do op mode operand) line ∙ (ap (behind (Do op mode operand)) here.1 ∙ sym here.1)) in
    let goes : Goings (s.lines g) g (length before + j) operand t q u = by_op s g (length before + j) (kind_of op) op mode operand t q u refl own steady.within moves.goes in
    let arrives : Arrives g before middle q (height_at w middle j) w = leaps_arrive g j (s.lines g) before middle rest w op mode operand q e clear none level line same goes.leaps in
    let sum : waiting_at w middle arrives.at ≡ waiting_at w middle j = ap sum_in arrives.height in
    record { to = arrives.at; within = arrives.low; place = arrives.to; sp = omega (arith, sum, goes.sp) }

run_keeps : (s : Setting) (g j : ℕ) (before middle rest : List Line) (w : Option Waiting) (r : Routine) (q : Place) (t u : State)
    → s.lines g ≡ before ++ (middle ++ rest) → labels_of rest ≡ [] → AreLevel w middle
    → slice_get middle j ≡ Some (Call (callees.Routine r)) → IsOwn (Run r) → IsSteady s (Call (callees.Routine r)) t → Moves s (Call (callees.Routine r)) (g, length before + j) t q u
    → Goes g (length before) middle w j t q u
run_keeps s g j before middle rest w r q t u e none level line own steady moves =
    let here = known_here w middle j level in
    let there = known_here w middle (suc j) level in
    let step : by_routine r here.0 ≡ Some there.0 = sym (ap (behind (Call (callees.Routine r))) here.1) ∙ (sym (next_height w middle j (Call (callees.Routine r)) line) ∙ there.1) in
    let low = steady.calm.low in
    let kept : sp_of u + bytes_in there.0.values ≡ sp_of t + bytes_in here.0.values = routine_moves r here.0 there.0 t u own (omega (arith, low)) step moves.goes.1 in
    let place : suc (length before + j) ≡ length before + suc j = omega arith in
    let arrives : Arrives g before middle q (height_at w middle (suc j)) w = settles g (suc j) (s.lines g) before middle rest w q e none (below_length middle j (Call (callees.Routine r)) line) (moves.goes.0 ∙ ap (λ (n : ℕ). (g, settle (s.lines g) n)) place) in
    let first : waiting_at w middle j ≡ bytes_in here.0.values = ap (λ (x : Option Waiting). sum_in (values_in x)) here.1 in
    let second : waiting_at w middle arrives.at ≡ bytes_in there.0.values = ap sum_in arrives.height ∙ ap (λ (x : Option Waiting). sum_in (values_in x)) there.1 in
    record { to = arrives.at; within = arrives.low; place = arrives.to; sp = omega (arith, kept, first, second) }

pub moves_keep_heights : MovesKeepHeights
moves_keep_heights s g j before middle rest w (Label l) q t u e clear none level line own steady moves = absurd own
moves_keep_heights s g j before middle rest w (Do op mode operand) q t u e clear none level line own steady moves = do_keeps s g j before middle rest w op mode operand q t u e clear none level line own steady moves
moves_keep_heights s g j before middle rest w (Call (callees.Routine r)) q t u e clear none level line own steady moves = run_keeps s g j before middle rest w r q t u e none level line own steady moves
moves_keep_heights s g j before middle rest w (Call (callees.Function f reads gives)) q t u e clear none level line own steady moves = absurd own
moves_keep_heights s g j before middle rest w (Call (callees.Pointer reads gives)) q t u e clear none level line own steady moves = absurd own

-- ---- functions

pub no_labels : (a : List Line) → list_all is_plain a ≡ true → labels_of a ≡ []
no_labels [] h = refl
no_labels (Label l ∷ a) h = absurd cc
no_labels (Do op mode operand ∷ a) h = no_labels a (and_parts (not (is_to operand)) (list_all is_plain a) h).1
no_labels (Call callee ∷ a) h = no_labels a h

pub functions_keep_heights : FunctionsKeepHeights
functions_keep_heights u g body f is_main out s n well few lines =
    let level = functions_are_level u g body f is_main out well few in
    let middle : List Line = level.0 in
    let all : s.lines n ≡ entry_code f ++ (middle ++ end_code f) = lines ∙ level.1 in (
      middle,
      all,
      level.2,
      λ j line q t v at own steady moves.
          moves_keep_heights s n j (entry_code f) middle (end_code f) (at_first f body) line q t v all (no_labels (entry_code f) (entry_flat f).plain) (no_labels (end_code f) (end_flat f).plain) level.3 at own steady moves,
    )
