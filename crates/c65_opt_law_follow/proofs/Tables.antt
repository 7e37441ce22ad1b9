-- What a closed table says of windows, and where lines lead.
use Rattle.std.proofs.Common.{◌≡◌, ℕ, zero, suc, ◌+◌, ◌<◌, ◌≤◌, ◌⊎◌, inl, inr, List, [], ◌∷◌, length, Option, Some, None, Bool, true, false, ◌||◌, IsTrue, refl, sym, ap, ◌∙◌, subst, arith}
use Rattle.std.specs.Prelude.{slice_get, if◌then◌else◌}
use Rattle.c65_mach.specs.State.{Regs}
use Rattle.c65_mach.specs.declared.rows.Op.{Op}
use Rattle.c65_mach.specs.declared.rows.Op.TheVariants as ops
use Rattle.c65_mach.specs.declared.rows.Mode.{Mode}
use Rattle.c65_mach.specs.Step.{is_taken, Kind, Reads, Stores, Changes, Registers, Branches, Moves as Moving, kind_of}
use Rattle.c65_code.proofs.PartLaws.{has_part-union, has_part-empty}
use Rattle.c65_code.specs.declared.line.Callee.TheVariants as callees
use Rattle.c65_code.specs.declared.line.Line.{Line}
use Rattle.c65_code.specs.declared.line.Line.TheVariants.{Label, Do, Call}
use Rattle.c65_code.specs.declared.line.Operand.{Operand}
use Rattle.c65_code.specs.declared.line.Operand.TheVariants.{To, Zero}
use Rattle.c65_code.specs.declared.parts.Part.{Part}
use Rattle.c65_code.specs.declared.parts.RegSet.{RegSet}
use Rattle.c65_code.specs.Forms.{Form, Branch, Jump, IsLocal, op_form, form_of}
use Rattle.c65_code.specs.LineState.{State}
use Rattle.c65_code.specs.Moves.{settle, labelled, next}
use Rattle.c65_code.specs.Parts.{no_parts, has_part, union_of}
use Rattle.c65_code.specs.Placement.{Placement}
use Rattle.c65_code.specs.Segments.{target_of, is_closing}
use Rattle.c65_live.specs.Live.{Next, onward, goes as leads}
use Rattle.c65_opt_law_near.specs.Near.{before}
use Rattle.c65_opt_law_table.specs.Laws.{IsClosed}
use Rattle.c65_opt_law_follow.specs.Windows.{WayOut, Behind, ToLabel, IsPassed, IsInner, AreInner, Way, ends, goes, jumps, branches, passes, live_by, live_before}
use Rattle.c65_opt_law_follow.specs.Laws.{exit_place, live_at, before_place}
use Rattle.c65_opt_law_follow.proofs.Near.{before_grows}
use Rattle.c65_opt_law_follow.proofs.Lines.{IsBranch, branch_line}
use Rattle.c65_opt_law_follow.proofs.Inner.{InnerKind, passed, jump, branch, inner_kind, passed_local, live_passed}
use Rattle.c65_opt_law_follow.proofs.Walks.{HasAt, settle_line, inner_instruction}

-- ---- where lines lead

-- a line that stays leads on, or goes to a label
pub data Ways (l : Line) : Type 0 where
  on_next : is_closing l ≡ false → ((lines : List Line) (q : ℕ) (regs : Regs) → next lines (form_of l) q regs ≡ settle lines (suc q)) → Ways l
  to_label : (k : ℕ) → target_of l ≡ k ∷ [] → ((lines : List Line) (q : ℕ) (regs : Regs) → next lines (form_of l) q regs ≡ settle lines (labelled lines k)) → Ways l
  one_of : (op : Op) (k : ℕ) → form_of l ≡ Branch op k → is_closing l ≡ false → target_of l ≡ k ∷ [] → Ways l

not_closing : (op : Op) (mode : Mode) (operand : Operand) (k : Kind) → kind_of op ≡ k → (k ≡ Moving → ⊥) → is_closing (Do op mode operand) ≡ false
not_closing ops.Rts mode operand k e h = absurd (h (sym e))
not_closing ops.Jmp mode operand k e h = absurd (h (sym e))
not_closing _ mode operand k e h = refl

op_ways : (op : Op) (mode : Mode) (operand : Operand) (k : Kind) → kind_of op ≡ k → IsLocal (op_form k op mode operand) → Ways (Do op mode operand)
op_ways op mode operand Reads e i = on_next (not_closing op mode operand Reads e (λ h. cc)) (λ lines q regs. ap (λ (k : Kind). next lines (op_form k op mode operand) q regs) e)
op_ways op mode operand Stores e i = on_next (not_closing op mode operand Stores e (λ h. cc)) (λ lines q regs. ap (λ (k : Kind). next lines (op_form k op mode operand) q regs) e)
op_ways op mode operand Changes e i = on_next (not_closing op mode operand Changes e (λ h. cc)) (λ lines q regs. ap (λ (k : Kind). next lines (op_form k op mode operand) q regs) e)
op_ways op mode operand Registers e i = on_next (not_closing op mode operand Registers e (λ h. cc)) (λ lines q regs. ap (λ (k : Kind). next lines (op_form k op mode operand) q regs) e)
op_ways op mode (To l) Branches e i = one_of op l (ap (λ (k : Kind). op_form k op mode (To l)) e) (not_closing op mode (To l) Branches e (λ h. cc)) refl
op_ways op mode _ Branches e i = absurd i
op_ways ops.Jmp mode (To l) Moving e i = to_label l refl (λ lines q regs. refl)
op_ways ops.Jmp mode (Zero j) Moving e i = absurd i
op_ways ops.Jmp mode _ Moving e i = absurd i
op_ways ops.Pha mode operand Moving e i = on_next refl (λ lines q regs. refl)
op_ways ops.Pla mode operand Moving e i = on_next refl (λ lines q regs. refl)
op_ways ops.Tsx mode operand Moving e i = on_next refl (λ lines q regs. refl)
op_ways _ mode operand Moving e i = absurd i

pub ways : (l : Line) → IsLocal (form_of l) → Ways l
ways (Label k) i = absurd i
ways (Do op mode operand) i = op_ways op mode operand (kind_of op) refl i
ways (Call (callees.Routine r)) i = on_next refl (λ lines q regs. refl)
ways (Call (callees.Function f reads gives)) i = absurd i
ways (Call (callees.Pointer reads gives)) i = absurd i

pub record Comes (lines : List Line) (l : Line) (q : ℕ) (regs : Regs) : Type 0 where
  pub place : ℕ
  pub next_line : Next lines q place
  pub to : next lines (form_of l) q regs ≡ settle lines place

pub next_place : (lines : List Line) (q : ℕ) (l : Line) → slice_get lines q ≡ Some l → is_closing l ≡ false → Next lines q (suc q)
next_place lines q l at still = let e : q + 1 ≡ suc q = omega arith in subst (Next lines q) e (onward at still)

pub comes : (lines : List Line) (l : Line) (q : ℕ) (regs : Regs) → slice_get lines q ≡ Some l → IsLocal (form_of l) → Comes lines l q regs
comes lines l q regs at i = by (ways l i)
  where
    by : Ways l → Comes lines l q regs
    by (on_next still to) = record { place = suc q; next_line = next_place lines q l at still; to = to lines q regs }
    by (to_label k target to) = record { place = labelled lines k; next_line = leads at target; to = to lines q regs }
    by (one_of op k e still target) = taken (is_taken op regs) refl
      where
        taken : (b : Bool) → is_taken op regs ≡ b → Comes lines l q regs
        taken true z = record { place = labelled lines k; next_line = leads at target; to = ap (λ (f : Form). next lines f q regs) e ∙ ap (λ (b : Bool). settle lines (if b then labelled lines k else suc q)) z }
        taken false z = record { place = suc q; next_line = next_place lines q l at still; to = ap (λ (f : Form). next lines f q regs) e ∙ ap (λ (b : Bool). settle lines (if b then labelled lines k else suc q)) z }

-- a way out to a label goes by a line of the window that names it
pub record Named (lines : List Line) (p k : ℕ) : Type 0 where
  pub place : ℕ
  pub line : Line
  pub late : p ≤ place
  pub at : slice_get lines place ≡ Some line
  pub target : target_of line ≡ k ∷ []

jump_op : (op : Op) (mode : Mode) (operand : Operand) (kind : Kind) (k : ℕ) → op_form kind op mode operand ≡ Jump k → target_of (Do op mode operand) ≡ k ∷ []
jump_op op mode operand Reads k e = absurd (cc)
jump_op op mode operand Stores k e = absurd (cc)
jump_op op mode operand Changes k e = absurd (cc)
jump_op op mode operand Registers k e = absurd (cc)
jump_op op mode (To l) Branches k e = absurd (cc)
jump_op op mode _ Branches k e = absurd (cc)
jump_op ops.Jmp mode (To l) Moving k e = let same : l ≡ k = cc in ap (λ (x : ℕ). x ∷ []) same
jump_op ops.Jmp mode (Zero j) Moving k e = absurd (cc)
jump_op ops.Jmp mode _ Moving k e = absurd (cc)
jump_op ops.Pha mode operand Moving k e = absurd (cc)
jump_op ops.Pla mode operand Moving k e = absurd (cc)
jump_op ops.Tsx mode operand Moving k e = absurd (cc)
jump_op ops.Rts mode operand Moving k e = absurd (cc)
jump_op _ mode operand Moving k e = absurd (cc)

jump_target : (l : Line) (k : ℕ) → form_of l ≡ Jump k → target_of l ≡ k ∷ []
jump_target (Label j) k e = absurd (cc)
jump_target (Do op mode operand) k e = jump_op op mode operand (kind_of op) k e
jump_target (Call (callees.Routine r)) k e = absurd (cc)
jump_target (Call (callees.Function f reads gives)) k e = absurd (cc)
jump_target (Call (callees.Pointer reads gives)) k e = absurd (cc)

branch_target : (l : Line) (op : Op) (k : ℕ) → form_of l ≡ Branch op k → target_of l ≡ k ∷ []
branch_target l op k e = let b = branch_line l op k e in ap target_of b.line

-- behind a line that is passed, or a branch, the next one may come
passed_op : (op : Op) (mode : Mode) (operand : Operand) (k : Kind) → kind_of op ≡ k → IsPassed (op_form k op mode operand) → is_closing (Do op mode operand) ≡ false
passed_op op mode operand Reads e i = not_closing op mode operand Reads e (λ h. cc)
passed_op op mode operand Stores e i = not_closing op mode operand Stores e (λ h. cc)
passed_op op mode operand Changes e i = not_closing op mode operand Changes e (λ h. cc)
passed_op op mode operand Registers e i = not_closing op mode operand Registers e (λ h. cc)
passed_op op mode (To l) Branches e i = absurd i
passed_op op mode _ Branches e i = absurd i
passed_op ops.Jmp mode (To l) Moving e i = absurd i
passed_op ops.Jmp mode (Zero j) Moving e i = absurd i
passed_op ops.Jmp mode _ Moving e i = absurd i
passed_op ops.Pha mode operand Moving e i = refl
passed_op ops.Pla mode operand Moving e i = refl
passed_op ops.Tsx mode operand Moving e i = refl
passed_op _ mode operand Moving e i = absurd i

pub passed_open : (l : Line) → IsPassed (form_of l) → is_closing l ≡ false
passed_open (Label k) i = absurd i
passed_open (Do op mode operand) i = passed_op op mode operand (kind_of op) refl i
passed_open (Call callee) i = refl

branch_open : (l : Line) (op : Op) (k : ℕ) → form_of l ≡ Branch op k → is_closing l ≡ false
branch_open l op k e = let b = branch_line l op k e in ap is_closing b.line ∙ not_closing op b.mode (To k) Branches b.kind (λ h. cc)

pub exit_line : (place : Placement) (lines : List Line) (p : ℕ) (ls : List Line) (t : State) (k : ℕ) (u : State) (v : ℕ) → HasAt lines p ls → Way place ls t (ToLabel k) u v → Named lines p k
exit_line place lines p [] t k u v has way = elim way [ ]
exit_line place lines p (l ∷ ls) t k u v has (goes {u = s} i d b y) = let r = exit_line place lines (suc p) ls s k u _ has.1 y in record { place = r.place; line = r.line; late = omega (arith, r.late); at = r.at; target = r.target }
exit_line place lines p (l ∷ ls) t k u v has (jumps j e) = record { place = p; line = l; late = omega arith; at = has.0; target = jump_target l k e }
exit_line place lines p (l ∷ ls) t k u v has (branches op j e z) = record { place = p; line = l; late = omega arith; at = has.0; target = branch_target l op k e }
exit_line place lines p (l ∷ ls) t k u v has (passes op j e z y) = let r = exit_line place lines (suc p) ls t k u _ has.1 y in record { place = r.place; line = r.line; late = omega (arith, r.late); at = r.at; target = r.target }

-- ---- what is live

module _ (lines : List Line) (out : RegSet) (live : ℕ → RegSet) (closed : IsClosed lines out live) where
  -- what is live before the line at which the machine then stands is live after this one
  pub place_live : (q r : ℕ) → Next lines q r → (x : Part) → IsTrue (has_part (before_place out lines live (settle lines r)) x) → IsTrue (has_part (live q) x)
  place_live q r n x h = by (slice_get lines (settle lines r)) refl h
    where
      by : (o : Option Line) → slice_get lines (settle lines r) ≡ o → IsTrue (has_part (live_at out o (live (settle lines r))) x) → IsTrue (has_part (live q) x)
      by None e h = absurd (none (has_part no_parts x) (has_part-empty x) h)
        where
          none : (b : Bool) → b ≡ false → b ≡ true → ⊥
          none b h k = cc
      by (Some l) e h = closed.settled q r l n e x h

  pub at_line : (q : ℕ) (l : Line) → slice_get lines q ≡ Some l → before_place out lines live q ≡ before out l (live q)
  at_line q l e = ap (λ (o : Option Line). live_at out o (live q)) e

  pub live_line : (q : ℕ) (l : Line) (regs : Regs) → slice_get lines q ≡ Some l → IsLocal (form_of l) → (x : Part) → IsTrue (has_part (before out l (before_place out lines live (next lines (form_of l) q regs))) x) → IsTrue (has_part (before_place out lines live q) x)
  live_line q l regs at i x h =
      let c = comes lines l q regs at i in
      subst (λ (r : RegSet). IsTrue (has_part r x)) (sym (at_line q l at))
      (before_grows out l (before_place out lines live (next lines (form_of l) q regs)) (live q) x (λ k. place_live q c.place c.next_line x (subst (λ (n : ℕ). IsTrue (has_part (before_place out lines live n) x)) c.to k)) h)

  module _ (hi : ℕ) where
    abbrev after : WayOut → RegSet
    after e = before_place out lines live (exit_place lines hi e)

    either : (r s : RegSet) (x : Part) → (IsTrue (has_part r x) → IsTrue (has_part s x)) → (q : RegSet) → (IsTrue (has_part q x) → IsTrue (has_part s x)) → IsTrue (has_part (union_of r q) x) → IsTrue (has_part s x)
    either r s x f q g h = pick (has_part r x) (has_part q x) refl refl (sym (has_part-union r q x) ∙ h)
      where
        pick : (a b : Bool) → has_part r x ≡ a → has_part q x ≡ b → (a || b) ≡ true → has_part s x ≡ true
        pick true b ea eb h = f ea
        pick false true ea eb h = g eb
        pick false false ea eb h = absurd (cc)

    pub live_lines : (ls : List Line) (p : ℕ) → HasAt lines p ls → AreInner ls → p + length ls ≡ hi → (x : Part) → IsTrue (has_part (live_before out (λ e. before_place out lines live (exit_place lines hi e)) ls) x) → IsTrue (has_part (before_place out lines live (settle lines p)) x)
    live_lines [] p has is e x h = let e1 : hi ≡ p = omega (arith, e) in subst (λ (n : ℕ). IsTrue (has_part (before_place out lines live (settle lines n)) x)) e1 h
    live_lines (l ∷ ls) p has is e x h =
        let at : settle lines p ≡ p = settle_line lines p l (inner_instruction l is.0) has.0 in
        subst (λ (n : ℕ). IsTrue (has_part (before_place out lines live n) x)) (sym at)
        (subst (λ (r : RegSet). IsTrue (has_part r x)) (sym (at_line p l has.0)) (by (λ y k. live_lines ls (suc p) has.1 is.1 (omega (arith, e)) y k) (inner_kind l is.0) h))
      where
        rest_live : ((y : Part) → IsTrue (has_part (live_before out (λ e. before_place out lines live (exit_place lines hi e)) ls) y) → IsTrue (has_part (before_place out lines live (settle lines (suc p))) y)) → is_closing l ≡ false → (y : Part) → IsTrue (has_part (live_before out (λ e. before_place out lines live (exit_place lines hi e)) ls) y) → IsTrue (has_part (live p) y)
        rest_live more still y k = place_live p (suc p) (next_place lines p l has.0 still) y (more y k)

        label_live : (k : ℕ) → target_of l ≡ k ∷ [] → (y : Part) → IsTrue (has_part (before_place out lines live (settle lines (labelled lines k))) y) → IsTrue (has_part (live p) y)
        label_live k target y h = place_live p (labelled lines k) (leads has.0 target) y h

        by : ((y : Part) → IsTrue (has_part (live_before out (λ e. before_place out lines live (exit_place lines hi e)) ls) y) → IsTrue (has_part (before_place out lines live (settle lines (suc p))) y)) → InnerKind l → IsTrue (has_part (live_by out (λ e. before_place out lines live (exit_place lines hi e)) l (form_of l) (live_before out (λ e. before_place out lines live (exit_place lines hi e)) ls)) x) → IsTrue (has_part (before out l (live p)) x)
        by more (passed i) h =
            before_grows out l (live_before out (λ e. before_place out lines live (exit_place lines hi e)) ls) (live p) x (rest_live more (passed_open l i) x)
            (subst (λ (r : RegSet). IsTrue (has_part r x)) (live_passed out (λ e. before_place out lines live (exit_place lines hi e)) l (form_of l) (live_before out (λ e. before_place out lines live (exit_place lines hi e)) ls) i) h)
        by more (jump k f) h =
            before_grows out l (before_place out lines live (settle lines (labelled lines k))) (live p) x (label_live k (jump_target l k f) x)
            (subst (λ (g : Form). IsTrue (has_part (live_by out (λ e. before_place out lines live (exit_place lines hi e)) l g (live_before out (λ e. before_place out lines live (exit_place lines hi e)) ls)) x)) f h)
        by more (branch op k f) h =
            before_grows out l (union_of (before_place out lines live (settle lines (labelled lines k))) (live_before out (λ e. before_place out lines live (exit_place lines hi e)) ls)) (live p) x
            (either (before_place out lines live (settle lines (labelled lines k))) (live p) x (label_live k (branch_target l op k f) x) (live_before out (λ e. before_place out lines live (exit_place lines hi e)) ls) (rest_live more (branch_open l op k f) x))
            (subst (λ (g : Form). IsTrue (has_part (live_by out (λ e. before_place out lines live (exit_place lines hi e)) l g (live_before out (λ e. before_place out lines live (exit_place lines hi e)) ls)) x)) f h)
