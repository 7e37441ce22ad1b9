-- Statements as lines (C90 6.6): what becomes of a draft. Where jumps lead is given; l is the label of the next case of the
-- innermost switch.
use Rattle.std.specs.Prelude.{ℕ, ℤ, ◌+◌, Bool, List, true, false, if◌then◌else◌, [], ◌∷◌, length}
use Rattle.c65_csem.specs.Trees.{Typed, MaybeTyped, absent, present, Stmt, empty, eval, set_part, clear, block, if_stmt, while, do_while, for_loop, switch, case, default, label, goto, break, continue, return, Stmts, no_stmts, and_stmts}
use Rattle.c65_csem.specs.Statements.{cases_of}
use Rattle.c65_mach.specs.declared.rows.Op.TheVariants.{Jmp}
use Rattle.c65_code.specs.declared.line.Line.TheVariants.{Label}
use Rattle.c65_code.specs.declared.routine.Width.{Width}
use Rattle.c65_code.specs.Segments.{Drafted}
use Rattle.c65_genframe.specs.Frames.{Framed}
use Rattle.c65_genwide.specs.Lines.{with_lines}
use Rattle.c65_genwide.specs.Wide.{width_of}
use Rattle.c65_genexpr.specs.Types.{kind_in}
use Rattle.c65_genentry.specs.Drafts.{with_labels}
use Rattle.c65_genentry.specs.Words.{jump, with_code}
use Rattle.c65_genentry.specs.Choice.{choice_code, choice_labels}
use Rattle.c65_genstmt.specs.declared.jumps.Ways.{Ways}
use Rattle.c65_genstmt.specs.Jumps.{following, with_value, with_effect, with_test}
use Rattle.c65_genstmt.specs.Objects.{with_set, with_cleared}
use Rattle.c65_genstmt.specs.Cases.{has_default}

-- ---- the label of the next case behind a statement

abbrev mutual
  pub case_behind : ℕ → Stmt → ℕ
  case_behind l (block os ss) = case_behind_all l ss
  case_behind l (if_stmt e a b) = case_behind (case_behind l a) b
  case_behind l (while e a) = case_behind l a
  case_behind l (do_while a e) = case_behind l a
  case_behind l (for_loop i c n a) = case_behind l a
  case_behind l (case z a) = case_behind (following l) a
  case_behind l (default a) = case_behind l a
  case_behind l (label n a) = case_behind l a
  case_behind l _ = l

  pub case_behind_all : ℕ → Stmts → ℕ
  case_behind_all l no_stmts = l
  case_behind_all l (and_stmts a ss) = case_behind_all (case_behind l a) ss

-- ---- lines

abbrev pub with_label : ℕ → Drafted → Drafted
with_label l d = with_lines d (Label l ∷ [])

abbrev pub with_jump : ℕ → Drafted → Drafted
with_jump l d = with_lines d (jump Jmp l ∷ [])

-- where nothing stands between, no jump is needed
abbrev pub is_empty : Stmt → Bool
is_empty empty = true
is_empty a = false

abbrev pub with_way : Bool → ℕ → Drafted → Drafted
with_way at l d = if at then d else with_jump l d

-- two labels that were not given before, and three
abbrev pub two_given : Drafted → Drafted
two_given d = with_labels 1 (with_labels 1 d)

abbrev pub three_given : Drafted → Drafted
three_given d = with_labels 1 (two_given d)

abbrev pub with_maybe : Framed → MaybeTyped → Drafted → Drafted
with_maybe f absent d = d
with_maybe f (present e) d = with_value f e d

abbrev pub with_effects : Framed → MaybeTyped → Drafted → Drafted
with_effects f absent d = d
with_effects f (present e) d = with_effect f e d

-- the test of a loop, where there is one, which leaves it where it fails
abbrev pub with_guard : Framed → ℕ → MaybeTyped → Drafted → Drafted
with_guard f end absent d = d
with_guard f end (present e) d = with_test f end false e d

abbrev pub ways : ℕ → ℕ → ℕ → Ways
ways behind onward other = record { behind = behind; onward = onward; other = other }

-- where a switch goes if no case has its value
abbrev pub default_way : Stmt → ℕ → ℕ
default_way a end = if has_default a then end + 1 else end

-- the tests of its cases
abbrev pub with_cases : Width → ℕ → ℕ → List ℤ → Drafted → Drafted
with_cases width other first zs d = with_code (choice_labels width zs) (choice_code width other first d.labels zs) d

-- the head of a switch: its first labels are that of its end and that of its default, and those of its cases follow
abbrev pub with_choice : Framed → Typed → Stmt → Drafted → Drafted
with_choice f e a d =
    let g = with_value f e (with_labels (length (cases_of a)) (two_given d)) in
    with_jump (default_way a d.labels) (with_cases (width_of (kind_in e)) (default_way a d.labels) (d.labels + 1 + 1) (cases_of a) g)

-- the end of a loop that tests behind its body
abbrev pub with_bottom : Framed → ℕ → ℕ → ℕ → Typed → Drafted → Drafted
with_bottom f head onward end e d = with_label end (with_test f head true e (with_label onward d))

abbrev mutual
  pub with_stmt : Framed → Ways → ℕ → Stmt → Drafted → Drafted
  with_stmt f w l empty d = d
  with_stmt f w l (eval e) d = with_effect f e d
  with_stmt f w l (set_part i o e) d = with_set f i o e d
  with_stmt f w l (clear i) d = with_cleared f i d
  with_stmt f w l (block os ss) d = with_stmts f w l ss d
  with_stmt f w l (if_stmt e a b) d =
      let first = with_stmt f w l a (with_test f d.labels false e (two_given d)) in
      let second = with_stmt f w (case_behind l a) b (with_label d.labels (with_way (is_empty b) (d.labels + 1) first)) in
      with_label (d.labels + 1) second
  with_stmt f w l (while e a) d =
      let body = with_stmt f (ways (d.labels + 1) d.labels w.other) l a (with_test f (d.labels + 1) false e (with_label d.labels (two_given d))) in
      with_label (d.labels + 1) (with_jump d.labels body)
  with_stmt f w l (do_while a e) d =
      let body = with_stmt f (ways (d.labels + 1 + 1) (d.labels + 1) w.other) l a (with_label d.labels (three_given d)) in
      with_bottom f d.labels (d.labels + 1) (d.labels + 1 + 1) e body
  with_stmt f w l (for_loop i c n a) d =
      let g = with_effects f i d in
      let body = with_stmt f (ways (g.labels + 1 + 1) (g.labels + 1) w.other) l a (with_guard f (g.labels + 1 + 1) c (with_label g.labels (three_given g))) in
      with_label (g.labels + 1 + 1) (with_jump g.labels (with_effects f n (with_label (g.labels + 1) body)))
  with_stmt f w l (switch e a) d =
      with_label d.labels (with_stmt f (ways d.labels w.onward (d.labels + 1)) (d.labels + 1 + 1) a (with_choice f e a d))
  with_stmt f w l (case z a) d = with_stmt f w (following l) a (with_label l d)
  with_stmt f w l (default a) d = with_stmt f w l a (with_label w.other d)
  with_stmt f w l (label n a) d = with_stmt f w l a (with_label (following n) d)
  with_stmt f w l (goto n) d = with_jump (following n) d
  with_stmt f w l break d = with_jump w.behind d
  with_stmt f w l continue d = with_jump w.onward d
  with_stmt f w l (return e) d = with_jump 0 (with_maybe f e d)

  pub with_stmts : Framed → Ways → ℕ → Stmts → Drafted → Drafted
  with_stmts f w l no_stmts d = d
  with_stmts f w l (and_stmts a ss) d = with_stmts f w (case_behind l a) ss (with_stmt f w l a d)

-- ---- a statement that stands last in its function: a return at its end needs no jump

abbrev mutual
  pub with_last : Framed → Ways → ℕ → Stmt → Drafted → Drafted
  with_last f w l (block os ss) d = with_lasts f w l ss d
  with_last f w l (return e) d = with_maybe f e d
  with_last f w l a d = with_stmt f w l a d

  pub with_lasts : Framed → Ways → ℕ → Stmts → Drafted → Drafted
  with_lasts f w l no_stmts d = d
  with_lasts f w l (and_stmts a no_stmts) d = with_last f w l a d
  with_lasts f w l (and_stmts a (and_stmts b ss)) d = with_lasts f w (case_behind l a) (and_stmts b ss) (with_stmt f w l a d)

abbrev mutual
  pub returns_last : Stmt → Bool
  returns_last (block os ss) = any_last ss
  returns_last (return e) = true
  returns_last a = false

  pub any_last : Stmts → Bool
  any_last no_stmts = false
  any_last (and_stmts a no_stmts) = returns_last a
  any_last (and_stmts a (and_stmts b ss)) = any_last (and_stmts b ss)

-- ---- the same by construct

abbrev pub with_if : Framed → Ways → ℕ → Typed → Stmt → Stmt → Drafted → Drafted
with_if f w l e a b d = with_stmt f w l (if_stmt e a b) d

abbrev pub with_while : Framed → Ways → ℕ → Typed → Stmt → Drafted → Drafted
with_while f w l e a d = with_stmt f w l (while e a) d

abbrev pub with_do : Framed → Ways → ℕ → Stmt → Typed → Drafted → Drafted
with_do f w l a e d = with_stmt f w l (do_while a e) d

abbrev pub with_switch : Framed → Ways → Typed → Stmt → Drafted → Drafted
with_switch f w e a d = with_stmt f w 0 (switch e a) d

-- a loop from its head on
abbrev pub with_for : Framed → Ways → ℕ → MaybeTyped → MaybeTyped → Stmt → Drafted → Drafted
with_for f w l c n a g =
    let body = with_stmt f (ways (g.labels + 1 + 1) (g.labels + 1) w.other) l a (with_guard f (g.labels + 1 + 1) c (with_label g.labels (three_given g))) in
    with_label (g.labels + 1 + 1) (with_jump g.labels (with_effects f n (with_label (g.labels + 1) body)))
