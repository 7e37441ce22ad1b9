-- A justified rewriting anywhere in a function.
use Rattle.std.proofs.Common.{◌≡◌, ℕ, zero, suc, ◌+◌, ◌<◌, ◌≤◌, ◌⊎◌, inl, inr, List, [], ◌∷◌, ◌++◌, length, Option, Some, None, Bool, true, false, IsTrue, refl, sym, ap, ◌∙◌, subst, arith}
use Rattle.std.specs.Prelude.{slice_get, if◌then◌else◌, ◌==◌, take, drop}
use Rattle.std.proofs.lemmas.List.{take-append-drop, drop-drop, length-take-le, length-drop}
use Rattle.std.specs.List.{list_all}
use Rattle.std.proofs.Math.Path.{fun_ext}
use Rattle.std.proofs.lemmas.Bool.{cases_lt, cases_eq, eq-eqb, eqb-true, and_parts}
use Rattle.c65_mach.specs.State.{Regs}
use Rattle.c65_mach.specs.declared.rows.Op.{Op}
use Rattle.c65_mach.specs.Step.{is_taken}
use Rattle.c65_code.proofs.PartLaws.{all_iff}
use Rattle.c65_code.specs.declared.line.Line.{Line}
use Rattle.c65_code.specs.declared.parts.Part.{Part}
use Rattle.c65_code.specs.declared.parts.RegSet.{RegSet}
use Rattle.c65_code.specs.Access.{line_reads}
use Rattle.c65_code.specs.Follows.{Follows}
use Rattle.c65_code.specs.Forms.{Form, Jump, Branch, IsLocal, form_of}
use Rattle.c65_code.specs.LineState.{State, IsBytes}
use Rattle.c65_code.specs.Moves.{settle, labelled, next, Does}
use Rattle.c65_code.specs.Parts.{IsPart, all_parts, has_part}
use Rattle.c65_code.specs.Placement.{Setting}
use Rattle.c65_code.specs.Rewriting.{with_lines, mapped_in}
use Rattle.c65_code.specs.Segments.{is_fit, replaced}
use Rattle.c65_code.specs.Steady.{HasLines}
use Rattle.c65_know_law.proofs.HandedOn.{handed_on}
use Rattle.c65_know_law.specs.Laws.{AreFit, IsCall, Knows, IsHandedOn}
use Rattle.c65_live.specs.Tables.{IsLiveTable, live_after}
use Rattle.c65_opt_law_table.proofs.Tables.{live_tables_are_closed}
use Rattle.c65_opt_law_near.proofs.Sets.{read_before}
use Rattle.c65_opt_law_near.specs.Near.{before}
use Rattle.c65_opt_law_straight.specs.Laws.{IsByteLine}
use Rattle.c65_opt_law_table.specs.Laws.{IsClosed}
use Rattle.c65_opt_law_follow.specs.Windows.{WayOut, Behind, ToLabel, AreInner, Way, live_before, Justified}
use Rattle.c65_opt_law_follow.specs.Laws.{AreByteLines, IsSound, IsApt, exit_place, live_at, before_place, window, JustifiedFollow}
use Rattle.c65_opt_law_follow.proofs.Ways.{IsGood, AreGood}
use Rattle.c65_opt_law_follow.proofs.Walks.{HasAt, settle_up}
use Rattle.c65_opt_law_follow.proofs.Tables.{Ways, on_next, to_label, one_of, ways, Named, exit_line, at_line, live_line, live_lines}
use Rattle.c65_opt_law_follow.proofs.Lists.{AreInstructions, inner_instructions, moved_place, line_moves, suc_moves, next_moves, entry_moves, exit_moves, settle_back, settle_inner, get_back, moved_window}
use Rattle.c65_opt_law_follow.proofs.Setup.{side, IsOut, IsReached, Setup, Window}
use Rattle.c65_opt_law_follow.proofs.AtWindow.{at_window}
use Rattle.c65_opt_law_follow.proofs.Sim.{follows}

pub branch_by : (lines : List Line) (l : Line) (op : Op) (k q : ℕ) (regs : Regs) (b : Bool) → form_of l ≡ Branch op k → is_taken op regs ≡ b → next lines (form_of l) q regs ≡ settle lines (if b then labelled lines k else suc q)
branch_by lines l op k q regs b e z = ap (λ (f : Form). next lines f q regs) e ∙ ap (λ (x : Bool). settle lines (if x then labelled lines k else suc q)) z

-- lines of a function, of which some, behind `front`, are replaced
abbrev pub whole : List Line → List Line → List Line → List Line
whole front lines behind = front ++ (lines ++ behind)

-- ---- lines that may stand there

same_line : (k l : Line) → Some k ≡ Some l → k ≡ l
same_line k l e = cc

no_line : (l : Line) → None ≡ Some l → ⊥
no_line l e = cc

pub fit_at : (lines : List Line) (q : ℕ) (l : Line) → list_all is_fit lines ≡ true → slice_get lines q ≡ Some l → is_fit l ≡ true
fit_at [] q l fit e = absurd (no_line l e)
fit_at (k ∷ lines) zero l fit e = subst (λ (x : Line). is_fit x ≡ true) (same_line k l e) (and_parts (is_fit k) (list_all is_fit lines) fit).0
fit_at (k ∷ lines) (suc q) l fit e = fit_at lines q l (and_parts (is_fit k) (list_all is_fit lines) fit).1 e

byte_at : (lines : List Line) (q : ℕ) (l : Line) → AreByteLines lines → slice_get lines q ≡ Some l → IsByteLine l
byte_at [] q l bytes e = absurd (no_line l e)
byte_at (k ∷ lines) zero l bytes e = subst IsByteLine (same_line k l e) bytes.0
byte_at (k ∷ lines) (suc q) l bytes e = byte_at lines q l bytes.1 e

pub good_lines : (lines : List Line) → list_all is_fit lines ≡ true → AreByteLines lines → AreInner lines → AreGood lines
good_lines [] fit bytes inner = tt
good_lines (l ∷ lines) fit bytes inner =
    let both = and_parts (is_fit l) (list_all is_fit lines) fit in (record { fit = both.0; byte = bytes.0; inner = inner.0 }, good_lines lines both.1 bytes.1 inner.1)

pub good_at : (lines : List Line) (p : ℕ) (ls : List Line) → list_all is_fit lines ≡ true → AreByteLines lines → AreInner ls → HasAt lines p ls → AreGood ls
good_at lines p [] fit bytes inner has = tt
good_at lines p (l ∷ ls) fit bytes inner has = (record { fit = fit_at lines p l fit has.0; byte = byte_at lines p l bytes has.0; inner = inner.0 }, good_at lines (suc p) ls fit bytes inner.1 has.1)

has_all : (all : List Line) (p : ℕ) (ls rest : List Line) → ((i : ℕ) → slice_get all (p + i) ≡ slice_get (ls ++ rest) i) → HasAt all p ls
has_all all p [] rest h = tt
has_all all p (l ∷ ls) rest h =
    let e0 : p ≡ p + 0 = omega arith in
    (ap (slice_get all) e0 ∙ h 0, has_all all (suc p) ls rest (λ i. let e : suc p + i ≡ p + suc i = omega arith in ap (slice_get all) e ∙ h (suc i)))

pub has_in : (front ls behind : List Line) → HasAt (front ++ (ls ++ behind)) (length front) ls
has_in front ls behind = has_all (front ++ (ls ++ behind)) (length front) ls behind (λ i. get_back front (ls ++ behind) i)

has_lines : (lines : List Line) → 1 ≤ length lines → HasLines lines
has_lines [] le = absurd (omega (arith, le))
has_lines (l ∷ lines) le = tt

module _ (s : Setting) (f main : ℕ) (out : RegSet) (front old new behind : List Line) (live : ℕ → RegSet) (known : ℕ → State → Type 0)
    (apt : IsApt f out (with_lines s f (whole front old behind))) (some : 1 ≤ length old) (some_new : 1 ≤ length (whole front new behind)) (inner : AreInstructions old) (new_inner : AreInstructions new)
    (closed : IsClosed (whole front old behind) out live) (handed : IsHandedOn s.place (whole front old behind) known) where
  abbrev olds : List Line
  olds = front ++ (old ++ behind)

  abbrev news : List Line
  news = front ++ (new ++ behind)

  abbrev pub A : ℕ → List Line
  A g = if g == f then front ++ (old ++ behind) else s.lines g

  abbrev pub B : ℕ → List Line
  B g = if g == f then front ++ (new ++ behind) else s.lines g

  abbrev M : ℕ → ℕ
  M = moved_place front old new behind some inner new_inner

  abbrev pub m : ℕ → ℕ → ℕ
  m g q = if g == f then moved_place front old new behind some inner new_inner q else q

  abbrev pub lives : ℕ → ℕ → RegSet
  lives g q = if g == f then before_place out (front ++ (old ++ behind)) live q else all_parts

  record Here (g : ℕ) : Type 0 where
    is : g ≡ f
    a_is : A g ≡ front ++ (old ++ behind)
    b_is : B g ≡ front ++ (new ++ behind)
    m_is : (q : ℕ) → m g q ≡ moved_place front old new behind some inner new_inner q
    live_is : (q : ℕ) → lives g q ≡ before_place out (front ++ (old ++ behind)) live q
    gives_is : s.gives g ≡ out

  record There (g : ℕ) : Type 0 where
    no : g ≡ f → ⊥
    a_is : A g ≡ s.lines g
    b_is : B g ≡ s.lines g
    m_is : (q : ℕ) → m g q ≡ q
    live_is : (q : ℕ) → lives g q ≡ all_parts

  here_at : (g : ℕ) → g ≡ f → Here g
  here_at g e =
      let yes : (g == f) ≡ true = eq-eqb g f e in
      record {
        is = e;
        a_is = ap (λ (b : Bool). if b then front ++ (old ++ behind) else s.lines g) yes;
        b_is = ap (λ (b : Bool). if b then front ++ (new ++ behind) else s.lines g) yes;
        m_is = λ q. ap (λ (b : Bool). if b then moved_place front old new behind some inner new_inner q else q) yes;
        live_is = λ q. ap (λ (b : Bool). if b then before_place out (front ++ (old ++ behind)) live q else all_parts) yes;
        gives_is = ap s.gives e ∙ apt.gives;
      }

  there_at : (g : ℕ) → (g ≡ f → ⊥) → (g == f) ≡ false → There g
  there_at g ne other = record {
    no = ne;
    a_is = ap (λ (b : Bool). if b then front ++ (old ++ behind) else s.lines g) other;
    b_is = ap (λ (b : Bool). if b then front ++ (new ++ behind) else s.lines g) other;
    m_is = λ q. ap (λ (b : Bool). if b then moved_place front old new behind some inner new_inner q else q) other;
    live_is = λ q. ap (λ (b : Bool). if b then before_place out (front ++ (old ++ behind)) live q else all_parts) other;
  }

  which : (g : ℕ) → Here g ⊎ There g
  which g = go (g == f) refl
    where
      go : (x : Bool) → (g == f) ≡ x → Here g ⊎ There g
      go true e = inl (here_at g (eqb-true g f e))
      go false e = inr (there_at g (λ h. clash (eq-eqb g f h)) e)
        where
          clash : (g == f) ≡ true → ⊥
          clash h = cc

  at_f : Here f
  at_f = here_at f refl

  abbrev Out : ℕ → ℕ → Type 0
  Out g q = IsOut f (length front) (length front + length old) g q

  abbrev Reached : ℕ → ℕ → Type 0
  Reached g q = IsReached f (length front) (length front + length old) g q

  out_here : (g q : ℕ) → g ≡ f → Out g q → (q < length front) ⊎ (length front + length old ≤ q)
  out_here g q e (inl other) = absurd (other e)
  out_here g q e (inr h) = h

  reached : (g x : ℕ) → g ≡ f → (x ≤ length front) ⊎ (length front + length old ≤ x) → Reached g x
  reached g x e (inl le) = go (cases_lt x (length front))
    where
      go : (x < length front) ⊎ (length front ≤ x) → Reached g x
      go (inl lt) = inr (inr (inl lt))
      go (inr ge) = inl (e, omega (arith, le, ge))
  reached g x e (inr ge) = inr (inr (inr ge))

  -- a step from a place outside of the window, by the steps of both lists
  abbrev Fine : ℕ → ℕ → ℕ → Type 0
  Fine g x y = (m g x ≡ y) × Reached g x

  here_fine : (g x y : ℕ) → Here g → (moved_place front old new behind some inner new_inner x ≡ y) × ((x ≤ length front) ⊎ (length front + length old ≤ x)) → Fine g x y
  here_fine g x y w r = (w.m_is x ∙ r.0, reached g x w.is r.1)

  line_same : (g q : ℕ) (l : Line) → Here g ⊎ There g → Out g q → slice_get (A g) q ≡ Some l → slice_get (B g) (m g q) ≡ Some l
  line_same g q l (inl w) o h =
      subst (λ (x : List Line). slice_get x (m g q) ≡ Some l) (sym w.b_is) (subst (λ (x : ℕ). slice_get (front ++ (new ++ behind)) x ≡ Some l) (sym (w.m_is q)) (line_moves front old new behind some inner new_inner q l (out_here g q w.is o) (subst (λ (x : List Line). slice_get x q ≡ Some l) w.a_is h)))
  line_same g q l (inr w) o h = subst (λ (x : List Line). slice_get x (m g q) ≡ Some l) (sym w.b_is) (subst (λ (x : ℕ). slice_get (s.lines g) x ≡ Some l) (sym (w.m_is q)) (subst (λ (x : List Line). slice_get x q ≡ Some l) w.a_is h))

  next_fine : (g q : ℕ) (form : Form) (regs : Regs) → Here g ⊎ There g → Out g q → Fine g (next (A g) form q regs) (next (B g) form (m g q) regs)
  next_fine g q form regs (inl w) o =
      subst (λ (x : List Line). Fine g (next x form q regs) (next (B g) form (m g q) regs)) (sym w.a_is) (subst (λ (x : List Line). Fine g (next (front ++ (old ++ behind)) form q regs) (next x form (m g q) regs)) (sym w.b_is)
      (subst (λ (x : ℕ). Fine g (next (front ++ (old ++ behind)) form q regs) (next (front ++ (new ++ behind)) form x regs)) (sym (w.m_is q)) (here_fine g _ _ w (next_moves front old new behind some inner new_inner q form regs (out_here g q w.is o)))))
  next_fine g q form regs (inr w) o =
      subst (λ (x : List Line). Fine g (next x form q regs) (next (B g) form (m g q) regs)) (sym w.a_is) (subst (λ (x : List Line). Fine g (next (s.lines g) form q regs) (next x form (m g q) regs)) (sym w.b_is)
      (subst (λ (x : ℕ). Fine g (next (s.lines g) form q regs) (next (s.lines g) form x regs)) (sym (w.m_is q)) (w.m_is (next (s.lines g) form q regs), inr (inl w.no))))

  suc_fine : (g q : ℕ) → Here g ⊎ There g → Out g q → Fine g (settle (A g) (suc q)) (settle (B g) (suc (m g q)))
  suc_fine g q (inl w) o =
      subst (λ (x : List Line). Fine g (settle x (suc q)) (settle (B g) (suc (m g q)))) (sym w.a_is) (subst (λ (x : List Line). Fine g (settle (front ++ (old ++ behind)) (suc q)) (settle x (suc (m g q)))) (sym w.b_is)
      (subst (λ (x : ℕ). Fine g (settle (front ++ (old ++ behind)) (suc q)) (settle (front ++ (new ++ behind)) (suc x))) (sym (w.m_is q)) (here_fine g _ _ w (suc_moves front old new behind some inner new_inner q (out_here g q w.is o)))))
  suc_fine g q (inr w) o =
      subst (λ (x : List Line). Fine g (settle x (suc q)) (settle (B g) (suc (m g q)))) (sym w.a_is) (subst (λ (x : List Line). Fine g (settle (s.lines g) (suc q)) (settle x (suc (m g q)))) (sym w.b_is)
      (subst (λ (x : ℕ). Fine g (settle (s.lines g) (suc q)) (settle (s.lines g) (suc x))) (sym (w.m_is q)) (w.m_is (settle (s.lines g) (suc q)), inr (inl w.no))))

  entry_fine : (g : ℕ) → Here g ⊎ There g → Fine g (settle (A g) 0) (settle (B g) 0)
  entry_fine g (inl w) = subst (λ (x : List Line). Fine g (settle x 0) (settle (B g) 0)) (sym w.a_is) (subst (λ (x : List Line). Fine g (settle (front ++ (old ++ behind)) 0) (settle x 0)) (sym w.b_is) (here_fine g _ _ w (entry_moves front old new behind some inner new_inner)))
  entry_fine g (inr w) = subst (λ (x : List Line). Fine g (settle x 0) (settle (B g) 0)) (sym w.a_is) (subst (λ (x : List Line). Fine g (settle (s.lines g) 0) (settle x 0)) (sym w.b_is) (w.m_is (settle (s.lines g) 0), inr (inl w.no)))

  exit_fine : (e : WayOut) → Fine f (exit_place (A f) (length front + length old) e) (exit_place (B f) (length front + length new) e)
  exit_fine e =
      subst (λ (x : List Line). Fine f (exit_place x (length front + length old) e) (exit_place (B f) (length front + length new) e)) (sym at_f.a_is)
      (subst (λ (x : List Line). Fine f (exit_place (front ++ (old ++ behind)) (length front + length old) e) (exit_place x (length front + length new) e)) (sym at_f.b_is) (here_fine f _ _ at_f (exit_moves front old new behind some inner new_inner e)))

  start_settles : settle (front ++ (old ++ behind)) (length front) ≡ length front
  start_settles =
      let z : length front ≡ length front + 0 = omega arith in
      ap (settle (front ++ (old ++ behind))) z ∙ (settle_back front (old ++ behind) 0 ∙ (let e : length front + settle (old ++ behind) 0 ≡ length front = omega (arith, settle_inner old behind some inner) in e))

  -- ---- what is live

  line_live : (g q : ℕ) (l : Line) (regs : Regs) → Here g ⊎ There g → slice_get (A g) q ≡ Some l → IsLocal (form_of l) → (p : Part) → IsPart p → IsTrue (has_part (before (s.gives g) l (lives g (next (A g) (form_of l) q regs))) p) → IsTrue (has_part (lives g q) p)
  line_live g q l regs (inl w) h i p part y =
      let h2 = subst (λ (x : List Line). slice_get x q ≡ Some l) w.a_is h in
      let y2 = subst (λ (x : List Line). IsTrue (has_part (before (s.gives g) l (lives g (next x (form_of l) q regs))) p)) w.a_is y in
      let y3 = subst (λ (r : RegSet). IsTrue (has_part (before (s.gives g) l r) p)) (w.live_is (next (front ++ (old ++ behind)) (form_of l) q regs)) y2 in
      let y4 = subst (λ (r : RegSet). IsTrue (has_part (before r l (before_place out (front ++ (old ++ behind)) live (next (front ++ (old ++ behind)) (form_of l) q regs))) p)) w.gives_is y3 in
      subst (λ (r : RegSet). IsTrue (has_part r p)) (sym (w.live_is q)) (live_line (front ++ (old ++ behind)) out live closed q l regs h2 i p y4)
  line_live g q l regs (inr w) h i p part y = subst (λ (r : RegSet). IsTrue (has_part r p)) (sym (w.live_is q)) ((all_iff p).1 part)

  reads_live : (g q : ℕ) (l : Line) → Here g ⊎ There g → slice_get (A g) q ≡ Some l → (p : Part) → IsPart p → IsTrue (has_part (line_reads (s.gives g) l) p) → IsTrue (has_part (lives g q) p)
  reads_live g q l (inl w) h p part y =
      let h2 = subst (λ (x : List Line). slice_get x q ≡ Some l) w.a_is h in
      let y2 = subst (λ (r : RegSet). IsTrue (has_part (line_reads r l) p)) w.gives_is y in
      subst (λ (r : RegSet). IsTrue (has_part r p)) (sym (w.live_is q ∙ at_line (front ++ (old ++ behind)) out live closed q l h2)) (read_before out l (live q) p y2)
  reads_live g q l (inr w) h p part y = subst (λ (r : RegSet). IsTrue (has_part r p)) (sym (w.live_is q)) ((all_iff p).1 part)

  after_is : (e : WayOut) → lives f (exit_place (A f) (length front + length old) e) ≡ before_place out (front ++ (old ++ behind)) live (exit_place (front ++ (old ++ behind)) (length front + length old) e)
  after_is e = at_f.live_is (exit_place (A f) (length front + length old) e) ∙ ap (λ (x : List Line). before_place out (front ++ (old ++ behind)) live (exit_place x (length front + length old) e)) at_f.a_is

  live_before_same : (ls : List Line) (one two : WayOut → RegSet) → ((e : WayOut) → one e ≡ two e) → live_before out one ls ≡ live_before out two ls
  live_before_same ls one two h = let e : one ≡ two = fun_ext h in ap (λ (x : WayOut → RegSet). live_before out x ls) e

  window_live : AreInner old → (p : Part) → IsPart p → IsTrue (has_part (live_before (s.gives f) (λ e. lives f (exit_place (A f) (length front + length old) e)) old) p) → IsTrue (has_part (lives f (length front)) p)
  window_live passed p part y =
      let y2 = subst (λ (r : RegSet). IsTrue (has_part (live_before r (λ e. lives f (exit_place (A f) (length front + length old) e)) old) p)) at_f.gives_is y in
      let y3 = subst (λ (r : RegSet). IsTrue (has_part r p)) (live_before_same old (λ e. lives f (exit_place (A f) (length front + length old) e)) (λ e. before_place out (front ++ (old ++ behind)) live (exit_place (front ++ (old ++ behind)) (length front + length old) e)) after_is) y2 in
      let y4 = live_lines (front ++ (old ++ behind)) out live closed (length front + length old) old (length front) (has_in front old behind) passed refl p y3 in
      subst (λ (r : RegSet). IsTrue (has_part r p)) (sym (at_f.live_is (length front))) (subst (λ (n : ℕ). IsTrue (has_part (before_place out (front ++ (old ++ behind)) live n) p)) start_settles y4)

  -- ---- what is known

  a_at : (g : ℕ) → g ≡ f → A g ≡ front ++ (old ++ behind)
  a_at g e = (here_at g e).a_is

  back_to : (q : ℕ) (l : Line) (regs : Regs) (u : State) → slice_get (front ++ (old ++ behind)) q ≡ Some l → IsLocal (form_of l) → next (front ++ (old ++ behind)) (form_of l) q regs ≤ q → known (next (front ++ (old ++ behind)) (form_of l) q regs) u
  back_to q l regs u at i le = by (ways l i)
    where
      onward : next (front ++ (old ++ behind)) (form_of l) q regs ≡ settle (front ++ (old ++ behind)) (suc q) → ⊥
      onward e = omega (arith, e, le, settle_up (front ++ (old ++ behind)) (suc q))

      label : (k : ℕ) → next (front ++ (old ++ behind)) (form_of l) q regs ≡ settle (front ++ (old ++ behind)) (labelled (front ++ (old ++ behind)) k) → known (settle (front ++ (old ++ behind)) (labelled (front ++ (old ++ behind)) k)) u → known (next (front ++ (old ++ behind)) (form_of l) q regs) u
      label k e h = subst (λ (n : ℕ). known n u) (sym e) h

      by : Ways l → known (next (front ++ (old ++ behind)) (form_of l) q regs) u
      by (on_next still to) = absurd (onward (to (front ++ (old ++ behind)) q regs))
      by (to_label k target to) = label k (to (front ++ (old ++ behind)) q regs) (handed.back q k l u at target (subst (λ (n : ℕ). n ≤ q) (to (front ++ (old ++ behind)) q regs) le))
      by (one_of op k e still target) = taken (is_taken op regs) refl
        where
          taken : (b : Bool) → is_taken op regs ≡ b → known (next (front ++ (old ++ behind)) (form_of l) q regs) u
          taken true z =
              let to = branch_by (front ++ (old ++ behind)) l op k q regs true e z in
              label k to (handed.back q k l u at target (subst (λ (n : ℕ). n ≤ q) to le))
          taken false z = absurd (onward (branch_by (front ++ (old ++ behind)) l op k q regs false e z))

  exits_known : (t : State) (e : WayOut) (u : State) (v : ℕ) → Way s.place old t e u v → exit_place (front ++ (old ++ behind)) (length front + length old) e ≤ length front → (x : State) → known (exit_place (front ++ (old ++ behind)) (length front + length old) e) x
  exits_known t Behind u v way le x = absurd (omega (arith, le, some, settle_up (front ++ (old ++ behind)) (length front + length old)))
  exits_known t (ToLabel k) u v way le x = let r = exit_line s.place (front ++ (old ++ behind)) (length front) old t k u v (has_in front old behind) way in handed.back r.place k r.line x r.at r.target (omega (arith, le, r.late))

  fit_of : (g : ℕ) → list_all is_fit (A g) ≡ true
  fit_of g = (apt.sound g).fit

  there_lines : (g : ℕ) → Here g ⊎ There g → HasLines (A g) → HasLines (B g)
  there_lines g (inl w) h = subst HasLines (sym w.b_is) (has_lines (front ++ (new ++ behind)) some_new)
  there_lines g (inr w) h = subst HasLines (sym w.b_is) (subst HasLines w.a_is h)

  pub outside : Setup s A B f (length front) old m lives known
  outside = record {
    low = apt.low;
    own = apt.own;
    fit = λ g q l h. fit_at (A g) q l (fit_of g) h;
    byte = λ g q l h. byte_at (A g) q l (apt.sound g).bytes h;
    there = λ g h. there_lines g (which g) h;
    line_same = λ g q l o h. line_same g q l (which g) o h;
    next_same = λ g q l regs o h. (next_fine g q (form_of l) regs (which g) o).0;
    ret_same = λ g q o. (suc_fine g q (which g) o).0;
    entry_same = λ g. (entry_fine g (which g)).0;
    reach_next = λ g q l regs o h. (next_fine g q (form_of l) regs (which g) o).1;
    reach_ret = λ g q o. (suc_fine g q (which g) o).1;
    reach_entry = λ g. (entry_fine g (which g)).1;
    live_line = λ g q l regs h i p part y. line_live g q l regs (which g) h i p part y;
    live_reads = λ g q l h p part y. reads_live g q l (which g) h p part y;
    known_entry = λ g t e le. subst (λ (x : List Line). known (settle x 0) t) (sym (a_at g e)) (handed.entry t);
    known_ret = λ g q l t e h i le. subst (λ (x : List Line). known (settle x (suc q)) t) (sym (a_at g e)) (handed.behind_call q l t (subst (λ (x : List Line). slice_get x q ≡ Some l) (a_at g e) h) i);
    known_step = λ g q l t u e lt h i bytes run d k. subst (λ (x : List Line). known (next x (form_of l) q t.regs) u) (sym (a_at g e)) (handed.line q l t u (subst (λ (x : List Line). slice_get x q ≡ Some l) (a_at g e) h) i bytes run d k);
    known_back = λ g q l regs u e le h i early. subst (λ (x : List Line). known (next x (form_of l) q regs) u) (sym (a_at g e))
        (back_to q l regs u (subst (λ (x : List Line). slice_get x q ≡ Some l) (a_at g e) h) i (omega (arith, le, subst (λ (x : List Line). next x (form_of l) q regs ≤ length front) (a_at g e) early)));
  }

  pub inside : AreInner old → AreInner new → IsSound new
      → Justified (with_lines s f (whole front old behind)) (exit_place (whole front old behind) (length front + length old)) (λ e. before_place out (whole front old behind) live (exit_place (whole front old behind) (length front + length old) e)) (known (length front)) old new
      → Window s A B f (length front) old new m lives known
  inside passed new_passed sound j = record {
    some = some;
    reach_exit = λ e. (exit_fine e).1;
    old_at = subst (λ (x : List Line). HasAt x (length front) old) (sym at_f.a_is) (has_in front old behind);
    old_good = good_at (A f) (length front) old (fit_of f) (apt.sound f).bytes passed (subst (λ (x : List Line). HasAt x (length front) old) (sym at_f.a_is) (has_in front old behind));
    old_start = subst (λ (x : List Line). settle x (length front) ≡ length front) (sym at_f.a_is) start_settles;
    new_at = subst (λ (x : List Line). HasAt x (length front) new) (sym at_f.b_is) (has_in front new behind);
    new_good = good_lines new sound.fit sound.bytes new_passed;
    window_place = λ q le lt. at_f.m_is q ∙ (moved_window front old new behind some inner new_inner q le lt ∙ sym (at_f.m_is (length front) ∙ moved_window front old new behind some inner new_inner (length front) (omega arith) (omega (arith, some))));
    start_place = at_f.m_is (length front) ∙ (moved_window front old new behind some inner new_inner (length front) (omega arith) (omega (arith, some)) ∙ ap (λ (x : List Line). settle x (length front)) (sym at_f.b_is));
    exit_same = λ e. (exit_fine e).0;
    live_window = window_live passed;
    known_exit = λ t e u v way le x. subst (λ (y : List Line). known (exit_place y (length front + length old) e) x) (sym at_f.a_is) (exits_known t e u v way (subst (λ (y : List Line). exit_place y (length front + length old) e ≤ length front) at_f.a_is le) x);
    justified = subst (λ (to : WayOut → ℕ). Justified (side s A) to (λ e. lives f (exit_place (A f) (length front + length old) e)) (known (length front)) old new) to_is
        (subst (λ (after : WayOut → RegSet). Justified (side s A) (exit_place (front ++ (old ++ behind)) (length front + length old)) after (known (length front)) old new) (sym (fun_ext after_is)) j);
  }
    where
      to_is : exit_place (front ++ (old ++ behind)) (length front + length old) ≡ exit_place (A f) (length front + length old)
      to_is = ap (λ (x : List Line). exit_place x (length front + length old)) (sym at_f.a_is)

-- The theorem: in any code, a function with the new lines in the place of the old ones follows it. The map of places is the same in
-- all codes.
pub justified_follow : (f main : ℕ) (out : RegSet) (front old new behind : List Line) (live : ℕ → RegSet) (known : ℕ → State → Type 0)
    → IsSound new → 1 ≤ length old → 1 ≤ length (whole front new behind) → AreInner old → AreInner new
    → IsClosed (whole front old behind) out live
    → (map : ℕ → ℕ) × ((s : Setting) → IsApt f out (with_lines s f (whole front old behind)) → IsHandedOn s.place (whole front old behind) known
    → Justified (with_lines s f (whole front old behind)) (exit_place (whole front old behind) (length front + length old)) (λ e. before_place out (whole front old behind) live (exit_place (whole front old behind) (length front + length old) e)) (known (length front)) old new
    → Follows (mapped_in f map) 0 (with_lines s f (whole front old behind)) (with_lines s f (whole front new behind)) main)
justified_follow f main out front old new behind live known sound some some_new inner new_inner closed =
    let plain = inner_instructions old inner in
    let new_plain = inner_instructions new new_inner in (
      moved_place front old new behind some plain new_plain,
      λ s apt handed j.
          let from = outside s f main out front old new behind live known apt some some_new plain new_plain closed handed in
          let at = inside s f main out front old new behind live known apt some some_new plain new_plain closed handed inner new_inner sound j in
          follows s (A s f main out front old new behind live known apt some some_new plain new_plain closed handed) (B s f main out front old new behind live known apt some some_new plain new_plain closed handed) f (length front) main old
          (m s f main out front old new behind live known apt some some_new plain new_plain closed handed) (lives s f main out front old new behind live known apt some some_new plain new_plain closed handed) known from
          (λ test grows n w lt again t t2 sa sb shut r run c. at_window s (A s f main out front old new behind live known apt some some_new plain new_plain closed handed) (B s f main out front old new behind live known apt some some_new plain new_plain closed handed) f (length front) old new
          (m s f main out front old new behind live known apt some some_new plain new_plain closed handed) (lives s f main out front old new behind live known apt some some_new plain new_plain closed handed) known from at test grows n w lt again t t2 sa sb shut r run c),
    )

-- lines to which no run comes may be any
pub unreached_follow : (f main : ℕ) (out : RegSet) (front old new behind : List Line) (live : ℕ → RegSet) (known : ℕ → State → Type 0)
    → 1 ≤ length old → 1 ≤ length (whole front new behind) → AreInstructions old → AreInstructions new
    → IsClosed (whole front old behind) out live → ((t : State) → known (length front) t → ⊥)
    → (map : ℕ → ℕ) × ((s : Setting) → IsApt f out (with_lines s f (whole front old behind)) → IsHandedOn s.place (whole front old behind) known
    → Follows (mapped_in f map) 0 (with_lines s f (whole front old behind)) (with_lines s f (whole front new behind)) main)
unreached_follow f main out front old new behind live known some some_new plain new_plain closed never = (
  moved_place front old new behind some plain new_plain,
  λ s apt handed.
      follows s (A s f main out front old new behind live known apt some some_new plain new_plain closed handed) (B s f main out front old new behind live known apt some some_new plain new_plain closed handed) f (length front) main old
      (m s f main out front old new behind live known apt some some_new plain new_plain closed handed) (lives s f main out front old new behind live known apt some some_new plain new_plain closed handed) known
      (outside s f main out front old new behind live known apt some some_new plain new_plain closed handed) (λ test grows n w lt again t t2 sa sb shut r run c. absurd (never t2 (r.knows refl (omega arith) (sym r.near.ended ∙ run)))),
)

pub sound_here : (s : Setting) (f : ℕ) (lines : List Line) (out : RegSet) → IsApt f out (with_lines s f lines) → IsSound lines
sound_here s f lines out apt =
    let yes : (f == f) ≡ true = eq-eqb f f refl in
    subst IsSound (ap (λ (b : Bool). if b then lines else s.lines f) yes) (apt.sound f)

-- the three parts of a function's lines
pub parted : (lines : List Line) (at count : ℕ) → whole (take at lines) (window lines at count) (drop (at + count) lines) ≡ lines
parted lines at count =
    ap (λ (x : List Line). take at lines ++ (take count (drop at lines) ++ x)) (sym (drop-drop count at lines))
    ∙ (ap (λ (x : List Line). take at lines ++ x) (take-append-drop count (drop at lines)) ∙ take-append-drop at lines)

pub justified_lines_follow : JustifiedFollow
justified_lines_follow f main out lines table at count new is within some inner sound new_inner some_new =
    let same : whole (take at lines) (window lines at count) (drop (at + count) lines) ≡ lines = parted lines at count in
    let long : length (take at lines) ≡ at = length-take-le at lines (omega (arith, within)) in
    let wide : length (window lines at count) ≡ count = length-take-le count (drop at lines) (omega (arith, within, length-drop at lines)) in
    let end : length (take at lines) + length (window lines at count) ≡ at + count = omega (arith, long, wide) in
    let is2 = subst (λ (x : List Line). IsLiveTable x out table) (sym same) is in
    let done = justified_follow f main out (take at lines) (window lines at count) new (drop (at + count) lines) (live_after table) (Knows (whole (take at lines) (window lines at count) (drop (at + count) lines)))
    sound (omega (arith, some, wide)) some_new inner new_inner
    (live_tables_are_closed (whole (take at lines) (window lines at count) (drop (at + count) lines)) out table is2) in (
      done.0,
      λ s apt j.
          let apt2 = subst (λ (x : List Line). IsApt f out (with_lines s f x)) (sym same) apt in
          let j2 = subst (λ (x : List Line). Justified (with_lines s f x) (exit_place x (at + count)) (λ e. before_place out x (live_after table) (exit_place x (at + count) e)) (Knows x at) (window lines at count) new) (sym same) j in
          let j3 = subst (λ (n : ℕ). Justified (with_lines s f (whole (take at lines) (window lines at count) (drop (at + count) lines))) (exit_place (whole (take at lines) (window lines at count) (drop (at + count) lines)) n)
          (λ e. before_place out (whole (take at lines) (window lines at count) (drop (at + count) lines)) (live_after table) (exit_place (whole (take at lines) (window lines at count) (drop (at + count) lines)) n e))
          (Knows (whole (take at lines) (window lines at count) (drop (at + count) lines)) at) (window lines at count) new) (sym end) j2 in
          let j4 = subst (λ (n : ℕ). Justified (with_lines s f (whole (take at lines) (window lines at count) (drop (at + count) lines))) (exit_place (whole (take at lines) (window lines at count) (drop (at + count) lines)) (length (take at lines) + length (window lines at count)))
          (λ e. before_place out (whole (take at lines) (window lines at count) (drop (at + count) lines)) (live_after table) (exit_place (whole (take at lines) (window lines at count) (drop (at + count) lines)) (length (take at lines) + length (window lines at count)) e))
          (Knows (whole (take at lines) (window lines at count) (drop (at + count) lines)) n) (window lines at count) new) (sym long) j3 in
          subst (λ (x : List Line). Follows (mapped_in f done.0) 0 (with_lines s f x) (with_lines s f (replaced lines at count new)) main) same
          (done.1 s apt2 (handed_on s.place (whole (take at lines) (window lines at count) (drop (at + count) lines)) (sound_here s f (whole (take at lines) (window lines at count) (drop (at + count) lines)) out apt2).fit) j4),
    )
