-- The lines of statements as lists, by their parts (C90 6.6): each stands at its first free label.
use Rattle.std.specs.Prelude.{ℕ, ◌+◌, ◌%◌, Bool, true, false, None, Some, List, [], ◌∷◌, ◌++◌, length}
use Rattle.c65_csem.specs.Trees.{Typed, MaybeTyped, absent, present, Stmt, empty, eval, set_part, clear, block, if_stmt, while, do_while, for_loop, switch, case, default, label, goto, break, continue, return, Stmts, no_stmts, and_stmts}
use Rattle.c65_csem.specs.Places.{is_tag}
use Rattle.c65_csem.specs.Statements.{cases_of}
use Rattle.c65_mach.specs.declared.rows.Op.TheVariants.{Jmp, Sta, Stx}
use Rattle.c65_code.specs.declared.line.Line.{Line}
use Rattle.c65_code.specs.declared.line.Line.TheVariants.{Label}
use Rattle.c65_genframe.specs.Frames.{Framed, type_bytes}
use Rattle.c65_genwide.specs.Wide.{width_of}
use Rattle.c65_genload.specs.declared.places.Access.TheVariants.{Whole}
use Rattle.c65_genload.specs.Conversions.{size_of}
use Rattle.c65_genexpr.specs.declared.wanted.Wanted.TheVariants.{Value, Test}
use Rattle.c65_genexpr.specs.Code.{expr_code}
use Rattle.c65_genexpr.specs.Types.{bare, kind_in}
use Rattle.c65_genexpr.specs.Uses.{uses}
use Rattle.c65_geneffect.specs.Effects.{effect_code, effect_uses}
use Rattle.c65_genentry.specs.Words.{ptr1, ptr2, zero_page, jump}
use Rattle.c65_genentry.specs.Pointers.{near_code, symbol_code}
use Rattle.c65_genentry.specs.Pointers as pointers
use Rattle.c65_genentry.specs.Bytes.{block_labels}
use Rattle.c65_genentry.specs.Bytes as blocks
use Rattle.c65_genentry.specs.Choice.{choice_code, choice_labels}
use Rattle.c65_genstmt.specs.declared.jumps.Ways.{Ways}
use Rattle.c65_genstmt.specs.declared.objects.Spot.{Spot}
use Rattle.c65_genstmt.specs.declared.objects.Spot.TheVariants.{Bank, Soft, Data}
use Rattle.c65_genstmt.specs.Jumps.{following}
use Rattle.c65_genstmt.specs.Objects.{spot_of, object_bytes, point_code, stored_code}
use Rattle.c65_genstmt.specs.Stmts.{is_empty, case_behind, ways, default_way}

-- ---- initial values

abbrev pub kept_code : Bool → Framed → Spot → Typed → ℕ → List Line
kept_code true f spot e fresh = zero_page Sta ptr1 ∷ zero_page Stx (ptr1 + 1) ∷ (point_code ptr2 spot ++ blocks.copy_code (type_bytes f (bare e) % 65536) fresh)
kept_code false f spot e fresh = stored_code spot (Whole (kind_in e)) (size_of (kind_in e))

abbrev pub kept_uses : Bool → Framed → Typed → ℕ
kept_uses true f e = block_labels (type_bytes f (bare e) % 65536)
kept_uses false f e = 0

abbrev pub zeros_code : Spot → ℕ → ℕ → List Line
zeros_code (Bank bank) bytes fresh = pointers.clear_code bank bytes
zeros_code (Soft at) bytes fresh = near_code ptr1 at ++ blocks.clear_code (bytes % 65536) fresh
zeros_code (Data sym at) bytes fresh = symbol_code ptr1 sym at ++ blocks.clear_code (bytes % 65536) fresh

abbrev pub zeros_uses : Spot → ℕ → ℕ
zeros_uses (Bank bank) bytes = 0
zeros_uses (Soft at) bytes = block_labels (bytes % 65536)
zeros_uses (Data sym at) bytes = block_labels (bytes % 65536)

-- ---- parts that may be absent

abbrev pub maybe_code : Framed → MaybeTyped → ℕ → List Line
maybe_code f absent fresh = []
maybe_code f (present e) fresh = expr_code f 0 fresh Value e

abbrev pub maybe_uses : MaybeTyped → ℕ
maybe_uses absent = 0
maybe_uses (present e) = uses None e

abbrev pub effects_code : Framed → MaybeTyped → ℕ → List Line
effects_code f absent fresh = []
effects_code f (present e) fresh = effect_code f 0 fresh e

abbrev pub effects_uses : MaybeTyped → ℕ
effects_uses absent = 0
effects_uses (present e) = effect_uses e

abbrev pub guard_code : Framed → ℕ → MaybeTyped → ℕ → List Line
guard_code f end absent fresh = []
guard_code f end (present e) fresh = expr_code f 0 fresh (Test end false) e

abbrev pub guard_uses : MaybeTyped → ℕ
guard_uses absent = 0
guard_uses (present e) = uses (Some false) e

-- the head of a switch
abbrev pub head_code : Framed → Typed → Stmt → ℕ → List Line
head_code f e a fresh =
    let first = fresh + 1 + 1 + length (cases_of a) in
    expr_code f 0 first Value e ++ (choice_code (width_of (kind_in e)) (default_way a fresh) (fresh + 1 + 1) (first + uses None e) (cases_of a) ++ jump Jmp (default_way a fresh) ∷ [])

abbrev pub head_uses : Typed → Stmt → ℕ
head_uses e a = 2 + (length (cases_of a) + (uses None e + choice_labels (width_of (kind_in e)) (cases_of a)))

-- ---- statements

-- the jump over what stands between, if anything does
abbrev pub way_code : Bool → ℕ → List Line
way_code true l = []
way_code false l = jump Jmp l ∷ []

abbrev mutual
  -- how many labels a statement gives
  pub stmt_uses : Framed → Stmt → ℕ
  stmt_uses f empty = 0
  stmt_uses f (eval e) = effect_uses e
  stmt_uses f (set_part i o e) = uses None e + kept_uses (is_tag (bare e)) f e
  stmt_uses f (clear i) = zeros_uses (spot_of f i 0) (object_bytes f i)
  stmt_uses f (block os ss) = stmts_uses f ss
  stmt_uses f (if_stmt e a b) = 2 + (uses (Some false) e + (stmt_uses f a + stmt_uses f b))
  stmt_uses f (while e a) = 2 + (uses (Some false) e + stmt_uses f a)
  stmt_uses f (do_while a e) = 3 + (stmt_uses f a + uses (Some true) e)
  stmt_uses f (for_loop i c n a) = effects_uses i + (3 + (guard_uses c + (stmt_uses f a + effects_uses n)))
  stmt_uses f (switch e a) = head_uses e a + stmt_uses f a
  stmt_uses f (case z a) = stmt_uses f a
  stmt_uses f (default a) = stmt_uses f a
  stmt_uses f (label n a) = stmt_uses f a
  stmt_uses f (return e) = maybe_uses e
  stmt_uses f _ = 0

  pub stmts_uses : Framed → Stmts → ℕ
  stmts_uses f no_stmts = 0
  stmts_uses f (and_stmts a ss) = stmt_uses f a + stmts_uses f ss

abbrev mutual
  -- its lines, where jumps lead and the label of the next case are given
  pub stmt_code : Framed → Ways → ℕ → Stmt → ℕ → List Line
  stmt_code f w l empty fresh = []
  stmt_code f w l (eval e) fresh = effect_code f 0 fresh e
  stmt_code f w l (set_part i o e) fresh = expr_code f 0 fresh Value e ++ kept_code (is_tag (bare e)) f (spot_of f i o) e (fresh + uses None e)
  stmt_code f w l (clear i) fresh = zeros_code (spot_of f i 0) (object_bytes f i) fresh
  stmt_code f w l (block os ss) fresh = stmts_code f w l ss fresh
  stmt_code f w l (if_stmt e a b) fresh =
      let first = fresh + 1 + 1 + uses (Some false) e in
      expr_code f 0 (fresh + 1 + 1) (Test fresh false) e ++ (stmt_code f w l a first ++ (way_code (is_empty b) (fresh + 1) ++ Label fresh ∷ (stmt_code f w (case_behind l a) b (first + stmt_uses f a) ++ Label (fresh + 1) ∷ [])))
  stmt_code f w l (while e a) fresh =
      Label fresh ∷ (expr_code f 0 (fresh + 1 + 1) (Test (fresh + 1) false) e ++ (stmt_code f (ways (fresh + 1) fresh w.other) l a (fresh + 1 + 1 + uses (Some false) e) ++ jump Jmp fresh ∷ Label (fresh + 1) ∷ []))
  stmt_code f w l (do_while a e) fresh =
      let first = fresh + 1 + 1 + 1 in
      Label fresh ∷ (stmt_code f (ways (fresh + 1 + 1) (fresh + 1) w.other) l a first ++ Label (fresh + 1) ∷ (expr_code f 0 (first + stmt_uses f a) (Test fresh true) e ++ Label (fresh + 1 + 1) ∷ []))
  stmt_code f w l (for_loop i c n a) fresh =
      let head = fresh + effects_uses i in
      let body = head + 1 + 1 + 1 + guard_uses c in
      effects_code f i fresh ++ Label head ∷ (guard_code f (head + 1 + 1) c (head + 1 + 1 + 1) ++ (stmt_code f (ways (head + 1 + 1) (head + 1) w.other) l a body ++ Label (head + 1) ∷ (effects_code f n (body + stmt_uses f a) ++ jump Jmp head ∷ Label (head + 1 + 1) ∷ [])))
  stmt_code f w l (switch e a) fresh = head_code f e a fresh ++ (stmt_code f (ways fresh w.onward (fresh + 1)) (fresh + 1 + 1) a (fresh + head_uses e a) ++ Label fresh ∷ [])
  stmt_code f w l (case z a) fresh = Label l ∷ stmt_code f w (following l) a fresh
  stmt_code f w l (default a) fresh = Label w.other ∷ stmt_code f w l a fresh
  stmt_code f w l (label n a) fresh = Label (following n) ∷ stmt_code f w l a fresh
  stmt_code f w l (goto n) fresh = jump Jmp (following n) ∷ []
  stmt_code f w l break fresh = jump Jmp w.behind ∷ []
  stmt_code f w l continue fresh = jump Jmp w.onward ∷ []
  stmt_code f w l (return e) fresh = maybe_code f e fresh ++ jump Jmp 0 ∷ []

  pub stmts_code : Framed → Ways → ℕ → Stmts → ℕ → List Line
  stmts_code f w l no_stmts fresh = []
  stmts_code f w l (and_stmts a ss) fresh = stmt_code f w l a fresh ++ stmts_code f w (case_behind l a) ss (fresh + stmt_uses f a)

-- ---- a statement that stands last in its function

abbrev mutual
  pub last_code : Framed → Ways → ℕ → Stmt → ℕ → List Line
  last_code f w l (block os ss) fresh = lasts_code f w l ss fresh
  last_code f w l (return e) fresh = maybe_code f e fresh
  last_code f w l a fresh = stmt_code f w l a fresh

  pub lasts_code : Framed → Ways → ℕ → Stmts → ℕ → List Line
  lasts_code f w l no_stmts fresh = []
  lasts_code f w l (and_stmts a no_stmts) fresh = last_code f w l a fresh
  lasts_code f w l (and_stmts a (and_stmts b ss)) fresh = stmt_code f w l a fresh ++ lasts_code f w (case_behind l a) (and_stmts b ss) (fresh + stmt_uses f a)
