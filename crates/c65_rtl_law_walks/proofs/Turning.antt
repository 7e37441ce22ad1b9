-- Lines with loops and calls, with the number of bytes given that they may push: a label that was passed may be entered again
-- where its invariant holds with less weight left.
use Rattle.std.proofs.Common.{◌≡◌, ℕ, zero, suc, ◌+◌, ◌-◌, ◌<◌, ◌≤◌, Bool, true, false, IsTrue, not, List, [], ◌∷◌, Option, Some, None, slice_get, length, refl, sym, ap, subst, ◌∙◌, arith}
use Rattle.std.specs.Prelude.{◌==◌, if◌then◌else◌, max, sum_by}
use Rattle.std.proofs.lemmas.List.Sums.{sum_by-cons}
use Rattle.c65_mach.specs.Step.{is_taken, kind_of}
use Rattle.c65_code.specs.declared.line.Line.{Line}
use Rattle.c65_code.specs.declared.line.Line.TheVariants.{Label, Do, Call}
use Rattle.c65_code.specs.declared.routine.Routine.{Routine}
use Rattle.c65_code.specs.LineState.{Place, State, Frame, s_of, IsBytes}
use Rattle.c65_code.specs.Parts.{no_parts}
use Rattle.c65_code.specs.Forms.{Form, Mark, Plain, Branch, Jump, Far, Push, Pull, Depth, Return, Run, Enter, Through, Stray, form_of, op_form}
use Rattle.c65_code.specs.Rows.{Row}
use Rattle.c65_code.specs.Moves.{settle, labelled}
use Rattle.c65_code.specs.Segments.{is_among}
use Rattle.c65_code.specs.RawMachine.{RawSetting, Bounds, RawComes, raw_weight, HasDone, called, entry_of}
use Rattle.c65_rtl.proofs.Ways.{Way, Ends, when, by_label, IsAt, IsOwn, IsSought, place_at, whole_at, next_do, next_call, next_label, weaken, on_form, moved_to}
use Rattle.c65_rtl.proofs.Rounds.{back_or_on, back_weight, behind, place_behind, passed_behind}
use Rattle.c65_rtl_law_walks.proofs.Loops.{advance}
use Rattle.c65_rtl_law_walks.proofs.Walks.{Takes, by_call, by_deep, call_weight, Goes, deep_line, call_line, past_label, at_label, called_bytes}

-- as `by_deep`; a branch to a label that was passed wants what is asked there
abbrev pub by_turn : RawSetting → Bounds → ℕ → (State → Type 0) → (ℕ → State → Type 0) → List ℕ → Form → Way → Way
by_turn s bounds deepest P B passed form rest (Some l) t = rest (Some l) t
by_turn s bounds deepest P B passed (Branch op l) rest None t = (b : Bool) → is_taken op t.regs ≡ b → back_or_on (is_among passed l) (B l) rest l b t
by_turn s bounds deepest P B passed (Jump l) rest None t = when (not (is_among passed l)) (rest (Some l) t)
by_turn s bounds deepest P B passed form rest None t = by_deep s bounds deepest P form rest None t

unfoldable pub leads_turn : RawSetting → Bounds → ℕ → (Routine → Takes) → (State → Type 0) → (ℕ → State → Type 0) → List ℕ → List Line → Way
leads_turn s bounds deepest takes P B passed [] = λ skip t. ⊥
leads_turn s bounds deepest takes P B passed (Label k ∷ lines) = by_label k (leads_turn s bounds deepest takes P B (k ∷ passed) lines)
leads_turn s bounds deepest takes P B passed (Do op mode operand ∷ lines) = by_turn s bounds deepest P B passed (op_form (kind_of op) op mode operand) (leads_turn s bounds deepest takes P B passed lines)
leads_turn s bounds deepest takes P B passed (Call callee ∷ lines) = by_call s bounds deepest takes callee (leads_turn s bounds deepest takes P B passed lines)

-- what the lines weigh with all that is called, where going back weighs so much more
abbrev pub turn_weight : (Routine → Takes) → ℕ → List ℕ → List Line → ℕ
turn_weight takes extra passed [] = 0
turn_weight takes extra passed (Label k ∷ lines) = turn_weight takes extra (k ∷ passed) lines
turn_weight takes extra passed (Do op mode operand ∷ lines) = raw_weight (op_form (kind_of op) op mode operand) + back_weight extra passed (op_form (kind_of op) op mode operand) (turn_weight takes extra passed lines)
turn_weight takes extra passed (Call callee ∷ lines) = call_weight takes callee + turn_weight takes extra passed lines

-- a branch back weighs no less than going on
more_back : (extra : ℕ) (passed : List ℕ) (form : Form) (v : ℕ) → v ≤ back_weight extra passed form v
more_back extra passed (Branch op l) v = by (is_among passed l)
  where
    by : (b : Bool) → v ≤ (if b then max extra v else v)
    by true = omega arith
    by false = omega arith
more_back extra passed Mark v = omega arith
more_back extra passed (Plain op mode operand) v = omega arith
more_back extra passed (Jump l) v = omega arith
more_back extra passed (Far at) v = omega arith
more_back extra passed Push v = omega arith
more_back extra passed Pull v = omega arith
more_back extra passed Depth v = omega arith
more_back extra passed Return v = omega arith
more_back extra passed (Run r) v = omega arith
more_back extra passed (Enter g reads gives) v = omega arith
more_back extra passed (Through reads gives) v = omega arith
more_back extra passed Stray v = omega arith

when_parts : (b : Bool) (P : Type 0) → when b P → IsTrue b × P
when_parts true P h = (refl, h)
when_parts false P h = absurd h

module _ (s : RawSetting) (bounds : Bounds) (deepest : ℕ) (takes : Routine → Takes) (Q : Place → State → Type 0) (P : State → Type 0) (f : ℕ) (whole : List Line) (frame : Frame) (frames : List Frame) (used : ℕ)
    (has : s.lines f ≡ whole) (room : bounds.hard + deepest ≤ 253 - used) (ends : (u : State) → P u → IsBytes (record u { pushed = frame.pushed; frames = frames }) → Q frame.back (record u { pushed = frame.pushed; frames = frames }))
    (B : ℕ → State → Type 0) (extra : ℕ)
    (again : (k : ℕ) (u : State) → IsBytes u → IsOwn frame frames used u → B k u → RawComes s bounds Q extra (f, settle whole (labelled whole k)) u) where
  abbrev On : Way → ℕ → ℕ → List ℕ → Type 0
  On rest v p passed = Goes s bounds deepest takes Q P f whole frame frames used has room ends rest v p passed

  branch_back : (rest : Way) (passed : List ℕ) (v p l : ℕ) (t : State) → IsBytes t → IsOwn frame frames used t → On rest v (suc p) passed → (among : Bool) → is_among passed l ≡ among
      → (b : Bool) → back_or_on among (B l) rest l b t → RawComes s bounds Q (if among then max extra v else v) (f, settle whole (if b then labelled whole l else suc p)) t
  branch_back rest passed v p l t bytes own after true e true h = weaken s bounds Q extra (max extra v) _ t (omega arith) (again l t bytes own h)
  branch_back rest passed v p l t bytes own after true e false h = weaken s bounds Q v (max extra v) _ t (omega arith) (after.by None t tt bytes own h)
  branch_back rest passed v p l t bytes own after false e true h = after.by (Some l) t e bytes own h
  branch_back rest passed v p l t bytes own after false e false h = after.by None t tt bytes own h

  turn_line : (form : Form) (rest : Way) (passed : List ℕ) (l : Line) (v p : ℕ) (t : State) → form_of l ≡ form → slice_get whole p ≡ Some l
      → IsOwn frame frames used t → On rest v (suc p) passed → by_turn s bounds deepest P B passed form rest None t → RawComes s bounds Q (raw_weight form + back_weight extra passed form v) (f, p) t
  turn_line (Branch op k) rest passed l v p t e is own after h =
      on_form s bounds Q l (Branch op k) (if is_among passed k then max extra v else v) (2 + (if is_among passed k then max extra v else v)) (f, p) t e (ap (λ (ls : List Line). slice_get ls p) has ∙ is) own.ended tt (omega arith)
      (λ q u g bytes. moved_to s bounds Q (if is_among passed k then max extra v else v) q (f, settle whole (if is_taken op t.regs then labelled whole k else suc p)) u t
      (g.0 ∙ ap (λ (ls : List Line). let q' : Place = (f, settle ls (if is_taken op t.regs then labelled ls k else suc p)) in q') has) g.1
      (branch_back rest passed v p k t (subst IsBytes g.1 bytes) own after (is_among passed k) refl (is_taken op t.regs) (h (is_taken op t.regs) refl)))
  turn_line (Plain op mode operand) rest passed l v p t e is own after h = deep_line s bounds deepest takes Q P f whole frame frames used has room ends (Plain op mode operand) rest passed l v p t e is refl own after h
  turn_line Push rest passed l v p t e is own after h = deep_line s bounds deepest takes Q P f whole frame frames used has room ends Push rest passed l v p t e is refl own after h
  turn_line Pull rest passed l v p t e is own after h = deep_line s bounds deepest takes Q P f whole frame frames used has room ends Pull rest passed l v p t e is refl own after h
  turn_line Return rest passed l v p t e is own after h = deep_line s bounds deepest takes Q P f whole frame frames used has room ends Return rest passed l v p t e is refl own after h
  turn_line (Jump k) rest passed l v p t e is own after h =
      let parts = when_parts (not (is_among passed k)) (rest (Some k) t) h in
      deep_line s bounds deepest takes Q P f whole frame frames used has room ends (Jump k) rest passed l v p t e is parts.0 own after parts.1
  turn_line Mark rest passed l v p t e is own after h = absurd h
  turn_line (Far at) rest passed l v p t e is own after h = absurd h
  turn_line Depth rest passed l v p t e is own after h = deep_line s bounds deepest takes Q P f whole frame frames used has room ends Depth rest passed l v p t e is refl own after h
  turn_line (Run r) rest passed l v p t e is own after h = absurd h
  turn_line (Enter g reads gives) rest passed l v p t e is own after h = absurd h
  turn_line (Through reads gives) rest passed l v p t e is own after h = absurd h
  turn_line Stray rest passed l v p t e is own after h = absurd h

  pub turning : (lines : List Line) (p : ℕ) (passed : List ℕ) (skip : Option ℕ) (t : State) → IsAt whole p lines passed → IsSought passed skip → IsBytes t
      → IsOwn frame frames used t → leads_turn s bounds deepest takes P B passed lines skip t → RawComes s bounds Q (turn_weight takes extra passed lines) (f, place_at whole p skip) t
  unfolding leads_turn
  turning [] p passed skip t at sought bytes own h = absurd h
  turning (Label k ∷ lines) p passed None t at sought bytes own h =
      moved_to s bounds Q (turn_weight takes extra (k ∷ passed) lines) (f, settle whole p) (f, settle whole (suc p)) t t
      (ap (λ (n : ℕ). let q : Place = (f, n) in q) (past_label s bounds deepest takes Q P f whole frame frames used has room ends p k lines passed at)) refl
      (turning lines (suc p) (k ∷ passed) None t (next_label whole p k lines passed at) tt bytes own h)
  turning (Label k ∷ lines) p passed (Some l) t at sought bytes own h =
      at_label s bounds deepest takes Q P f whole frame frames used has room ends p k l (turn_weight takes extra (k ∷ passed) lines) lines passed t at sought (leads_turn s bounds deepest takes P B (k ∷ passed) lines)
      (record { by = λ skip u sought bytes own h. turning lines (suc p) (k ∷ passed) skip u (next_label whole p k lines passed at) sought bytes own h })
      bytes own (k == l) refl h
  turning (Do op mode operand ∷ lines) p passed None t at sought bytes own h =
      let e : p ≡ p + 0 = omega arith in
      moved_to s bounds Q _ (f, settle whole p) (f, p) t t (ap (λ (n : ℕ). let q : Place = (f, n) in q) (ap (settle whole) e ∙ (at.settles 0 ∙ sym e))) refl
      (turn_line (op_form (kind_of op) op mode operand) (leads_turn s bounds deepest takes P B passed lines) passed (Do op mode operand) (turn_weight takes extra passed lines) p t refl
      (ap (slice_get whole) e ∙ at.get 0) own
      (record { by = λ skip u sought bytes own h. turning lines (suc p) passed skip u (next_do whole p op mode operand lines passed at) sought bytes own h })
      h)
  turning (Do op mode operand ∷ lines) p passed (Some l) t at sought bytes own h =
      let more = more_back extra passed (op_form (kind_of op) op mode operand) (turn_weight takes extra passed lines) in
      weaken s bounds Q (turn_weight takes extra passed lines) (raw_weight (op_form (kind_of op) op mode operand) + back_weight extra passed (op_form (kind_of op) op mode operand) (turn_weight takes extra passed lines)) (f, settle whole (labelled whole l)) t (omega arith)
      (turning lines (suc p) passed (Some l) t (next_do whole p op mode operand lines passed at) sought bytes own h)
  turning (Call callee ∷ lines) p passed None t at sought bytes own h =
      let e : p ≡ p + 0 = omega arith in
      moved_to s bounds Q _ (f, settle whole p) (f, p) t t (ap (λ (n : ℕ). let q : Place = (f, n) in q) (ap (settle whole) e ∙ (at.settles 0 ∙ sym e))) refl
      (call_line s bounds deepest takes Q P f whole frame frames used has room ends callee (leads_turn s bounds deepest takes P B passed lines) passed (turn_weight takes extra passed lines) p t (ap (slice_get whole) e ∙ at.get 0) bytes own
      (record { by = λ skip u sought bytes own h. turning lines (suc p) passed skip u (next_call whole p callee lines passed at) sought bytes own h })
      h)
  turning (Call callee ∷ lines) p passed (Some l) t at sought bytes own h =
      weaken s bounds Q (turn_weight takes extra passed lines) (call_weight takes callee + turn_weight takes extra passed lines) (f, settle whole (labelled whole l)) t (omega arith)
      (turning lines (suc p) passed (Some l) t (next_call whole p callee lines passed at) sought bytes own h)

-- From a label, which so many lines stand before, with the weight n left: the lines lead on, and each branch back finds its
-- label's invariant with the weight `less` left.
pub record TurnsIn (s : RawSetting) (bounds : Bounds) (deepest : ℕ) (takes : Routine → Takes) (P : State → Type 0) (whole : List Line) (Inv : ℕ → ℕ → State → Type 0) (l n : ℕ) (t : State) : Type 0 where
  pub k : ℕ
  pub less : ℕ
  pub stands : settle whole (labelled whole l) ≡ settle whole (place_behind k whole 0)
  pub fewer : less < n
  pub weighs : turn_weight takes less (passed_behind k whole []) (behind k whole) ≤ n
  pub leads : leads_turn s bounds deepest takes P (λ j u. Inv j less u) (passed_behind k whole []) (behind k whole) None t

pub turns_in : (s : RawSetting) (bounds : Bounds) (deepest : ℕ) (takes : Routine → Takes) (Q : Place → State → Type 0) (P : State → Type 0) (f : ℕ) (whole : List Line) (frame : Frame) (frames : List Frame) (used : ℕ)
    (has : s.lines f ≡ whole) (room : bounds.hard + deepest ≤ 253 - used) (ends : (u : State) → P u → IsBytes (record u { pushed = frame.pushed; frames = frames }) → Q frame.back (record u { pushed = frame.pushed; frames = frames }))
    (Inv : ℕ → ℕ → State → Type 0) → ((l n : ℕ) (t : State) → IsBytes t → Inv l n t → TurnsIn s bounds deepest takes P whole Inv l n t)
    → (fuel l n : ℕ) (t : State) → n ≤ fuel → IsBytes t → IsOwn frame frames used t → Inv l n t → RawComes s bounds Q n (f, settle whole (labelled whole l)) t
turns_in s bounds deepest takes Q P f whole frame frames used has room ends Inv round zero l n t le bytes own inv =
    let fewer = (round l n t bytes inv).fewer in
    absurd (omega arith)
turns_in s bounds deepest takes Q P f whole frame frames used has room ends Inv round (suc fuel) l n t le bytes own inv =
    let r : TurnsIn s bounds deepest takes P whole Inv l n t = round l n t bytes inv in
    let fewer = r.fewer in
    let again = turns_in s bounds deepest takes Q P f whole frame frames used has room ends Inv round fuel in
    moved_to s bounds Q n (f, settle whole (labelled whole l)) (f, settle whole (place_behind r.k whole 0)) t t (ap (λ (n : ℕ). let q : Place = (f, n) in q) r.stands) refl
    (weaken s bounds Q (turn_weight takes r.less (passed_behind r.k whole []) (behind r.k whole)) n (f, settle whole (place_behind r.k whole 0)) t r.weighs
    (turning s bounds deepest takes Q P f whole frame frames used has room ends (λ j u. Inv j r.less u) r.less (λ j u bytes own h. again j r.less u (omega arith) bytes own h)
    (behind r.k whole) (place_behind r.k whole 0) (passed_behind r.k whole []) None t (advance whole r.k whole 0 [] (whole_at whole)) tt bytes own r.leads))

-- A routine whose lines lead to a state of its row, called where so many bytes of the hard stack are left behind its return
-- point. Its labels are entered again with the weight `most` left at first.
pub walks_turning : (s : RawSetting) (bounds : Bounds) (deepest : ℕ) (takes : Routine → Takes) (r : Routine) (row : Row) (back : Place) (t : State) (lines : List Line) → s.lines (s.routine r) ≡ lines → (Inv : ℕ → ℕ → State → Type 0)
    → ((l n : ℕ) (u : State) → IsBytes u → Inv l n u → TurnsIn s bounds deepest takes (Ends row t) lines Inv l n u) → (most : ℕ)
    → bounds.hard + 2 + deepest ≤ s_of t → IsBytes t → t.ended ≡ None → row.ends ≡ None → leads_turn s bounds deepest takes (Ends row t) (λ j u. Inv j most u) [] lines None (called back t)
    → RawComes s bounds (HasDone row.ends row back t) (turn_weight takes most [] lines) (entry_of s (s.routine r)) (called back t)
walks_turning s bounds deepest takes r row back t lines has Inv round most deep bytes running ends h =
    let frame : Frame = record { back = back; pushed = t.pushed; gives = no_parts } in
    let used : ℕ = sum_by (λ (f : Frame). 2 + length f.pushed) (frame ∷ t.frames) in
    let sum : sum_by (λ (f : Frame). 2 + length f.pushed) (frame ∷ t.frames) ≡ 2 + length t.pushed + sum_by (λ (f : Frame). 2 + length f.pushed) t.frames = sum_by-cons (λ (f : Frame). 2 + length f.pushed) frame t.frames in
    let room : bounds.hard + deepest ≤ 253 - used = omega arith in
    let weight : ℕ = turn_weight takes most [] lines in
    moved_to s bounds (HasDone row.ends row back t) weight (entry_of s (s.routine r)) (s.routine r, settle lines 0) (called back t) (called back t)
    (ap (λ (ls : List Line). let q : Place = (s.routine r, settle ls 0) in q) has) refl
    (subst (λ (e : Option ℕ). RawComes s bounds (HasDone e row back t) weight (s.routine r, settle lines 0) (called back t)) (sym ends)
    (turning s bounds deepest takes (HasDone None row back t) (Ends row t) (s.routine r) lines frame t.frames used has room (λ u m bytes. (refl, m, bytes)) (λ j u. Inv j most u) most
    (λ j u bytes own h. turns_in s bounds deepest takes (HasDone None row back t) (Ends row t) (s.routine r) lines frame t.frames used has room (λ u m bytes. (refl, m, bytes)) Inv round most j most u (omega arith) bytes own h)
    lines 0 [] None (called back t) (whole_at lines) tt (called_bytes back t bytes) (record { frames = refl; ended = running; used = refl }) h))
