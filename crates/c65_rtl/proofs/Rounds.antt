-- What has to hold at lines some of whose branches lead back, so that the raw machine comes through them to its return.
use Rattle.std.proofs.Common.{◌≡◌, ℕ, zero, suc, ◌+◌, ◌-◌, ◌*◌, ◌<◌, ◌≤◌, Bool, true, false, IsTrue, not, List, [], ◌∷◌, Option, Some, None, slice_get, length, refl, sym, ap, subst, ◌∙◌, arith}
use Rattle.std.specs.Prelude.{◌==◌, if◌then◌else◌, max, sum_by, nat_lt}
use Rattle.std.proofs.lemmas.List.Sums.{sum_by-cons}
use Rattle.c65_mach.specs.Step.{with_a, is_taken, kind_of}
use Rattle.c65_code.specs.declared.line.Line.{Line}
use Rattle.c65_code.specs.declared.line.Line.TheVariants.{Label, Do, Call}
use Rattle.c65_code.specs.declared.routine.Routine.{Routine}
use Rattle.c65_code.specs.LineState.{Place, State, Frame, IsBytes}
use Rattle.c65_code.specs.Placement.{Placement, word_of}
use Rattle.c65_code.specs.Parts.{no_parts}
use Rattle.c65_code.specs.Forms.{Form, Mark, Plain, Branch, Jump, Far, Push, Pull, Depth, Return, Run, Enter, Through, Stray, op_form, form_of}
use Rattle.c65_code.specs.Moves.{Ref, Given, ZeroAt, MemAt, ref_of, effect, settle, labelled}
use Rattle.c65_code.specs.Segments.{is_among}
use Rattle.c65_code.specs.RawMachine.{RawSetting, Bounds, RawComes, raw_weight, HasDone, called, entry_of, MayRun, reach_of, Runs}
use Rattle.c65_code.specs.Rows.{Row}
use Rattle.c65_rtl.specs.Short.{is_onward, leads_on}
use Rattle.c65_rtl.proofs.Ways.{Way, when, either, at_operand, pulling, by_form, by_label, leads, IsAt, IsOwn, IsSought, place_at, and_parts, not_parts, whole_at, next_do, next_call, next_label, weaken, on_form, moved_to, Goes_on, by_line, past_label, on_line, at_label, Ends}

abbrev pub back_or_on : Bool → (State → Type 0) → Way → ℕ → Bool → State → Type 0
back_or_on true B rest l true t = B t
back_or_on true B rest l false t = rest None t
back_or_on false B rest l b t = rest (if b then Some l else None) t

-- as `by_form`; a branch to a label that was passed wants what is asked there
abbrev pub by_round : Placement → Bounds → (State → Type 0) → (ℕ → State → Type 0) → List ℕ → Form → Way → Way
by_round place bounds P B passed form rest (Some l) t = rest (Some l) t
by_round place bounds P B passed (Branch op l) rest None t = (b : Bool) → is_taken op t.regs ≡ b → back_or_on (is_among passed l) (B l) rest l b t
by_round place bounds P B passed (Jump l) rest None t = when (not (is_among passed l)) (rest (Some l) t)
by_round place bounds P B passed form rest None t = by_form place bounds P form rest None t

unfoldable pub leads_round : Placement → Bounds → (State → Type 0) → (ℕ → State → Type 0) → List ℕ → List Line → Way
leads_round place bounds P B passed [] = λ skip t. ⊥
leads_round place bounds P B passed (Label k ∷ lines) = by_label k (leads_round place bounds P B (k ∷ passed) lines)
leads_round place bounds P B passed (Do op mode operand ∷ lines) = by_round place bounds P B passed (op_form (kind_of op) op mode operand) (leads_round place bounds P B passed lines)
leads_round place bounds P B passed (Call callee ∷ lines) = by_form place bounds P Stray (leads_round place bounds P B passed lines)

-- Lines that lead forward only are such lines too.
abbrev Implies : Way → Way → Type 0
Implies a b = (skip : Option ℕ) (t : State) → a skip t → b skip t

onward_branch : (B : State → Type 0) (among : Bool) → among ≡ false → (l : ℕ) (a b : Way) → Implies a b → (taken : Bool) (t : State) → a (if taken then Some l else None) t → back_or_on among B b l taken t
onward_branch B true e l a b more taken t h = absurd (let f : true ≡ false = e in cc)
onward_branch B false e l a b more true t h = more (Some l) t h
onward_branch B false e l a b more false t h = more None t h

when_more : (b : Bool) (P Q : Type 0) → (P → Q) → when b P → when b Q
when_more true P Q more h = more h
when_more false P Q more h = h

when_both : (b : Bool) (P Q : Type 0) → IsTrue b → (P → Q) → P → when b Q
when_both true P Q e more h = more h
when_both false P Q e more h = absurd (let f : false ≡ true = e in cc)

pulled_more : (a b : Way) → Implies a b → (ps : List ℕ) (t : State) → pulling a ps t → pulling b ps t
pulled_more a b more [] t h = h
pulled_more a b more (v ∷ vs) t h = more None (record t { regs = with_a v t.regs; pushed = vs }) h

operand_more : (place : Placement) (bounds : Bounds) (ref : Ref) (P Q : Type 0) → (P → Q) → at_operand place bounds ref P → at_operand place bounds ref Q
operand_more place bounds (Given v) P Q more h = more h
operand_more place bounds (ZeroAt i) P Q more h = when_more (nat_lt i 256) P Q more h
operand_more place bounds (MemAt b) P Q more h = (h.0, more h.1)

form_onward : (place : Placement) (bounds : Bounds) (P : State → Type 0) (B : ℕ → State → Type 0) (passed : List ℕ) (form : Form) → IsTrue (is_onward passed form) → (a b : Way) → Implies a b → (t : State)
    → by_form place bounds P form a None t → by_round place bounds P B passed form b None t
form_onward place bounds P B passed (Plain op mode operand) onward a b more t h =
    let to : State = effect (kind_of op) op mode (word_of place operand) t in
    operand_more place bounds (ref_of mode (word_of place operand) t) (a None to) (b None to) (more None to) h
form_onward place bounds P B passed (Branch op l) onward a b more t h = λ taken e. onward_branch (B l) (is_among passed l) (not_parts (is_among passed l) onward) l a b more taken t (h taken e)
form_onward place bounds P B passed (Jump l) onward a b more t h = when_both (not (is_among passed l)) (a (Some l) t) (b (Some l) t) onward (more (Some l) t) h
form_onward place bounds P B passed Push onward a b more t h =
    let to : State = record t { pushed = t.regs.a ∷ t.pushed } in
    when_more (nat_lt (length t.pushed) 24) (a None to) (b None to) (more None to) h
form_onward place bounds P B passed Pull onward a b more t h = pulled_more a b more t.pushed t h
form_onward place bounds P B passed Return onward a b more t h = h
form_onward place bounds P B passed Mark onward a b more t h = h
form_onward place bounds P B passed (Far at) onward a b more t h = h
form_onward place bounds P B passed Depth onward a b more t h = h
form_onward place bounds P B passed (Run r) onward a b more t h = h
form_onward place bounds P B passed (Enter g reads gives) onward a b more t h = h
form_onward place bounds P B passed (Through reads gives) onward a b more t h = h
form_onward place bounds P B passed Stray onward a b more t h = h

line_onward : (place : Placement) (bounds : Bounds) (P : State → Type 0) (B : ℕ → State → Type 0) (passed : List ℕ) (form : Form) → IsTrue (is_onward passed form) → (a b : Way) → Implies a b
    → Implies (by_form place bounds P form a) (by_round place bounds P B passed form b)
line_onward place bounds P B passed form onward a b more (Some l) t h = more (Some l) t h
line_onward place bounds P B passed form onward a b more None t h = form_onward place bounds P B passed form onward a b more t h

label_onward : (k : ℕ) (a b : Way) → Implies a b → Implies (by_label k a) (by_label k b)
label_onward k a b more None t h = more None t h
label_onward k a b more (Some l) t h = chosen (k == l) h
  where
    chosen : (c : Bool) → either c (a None t) (a (Some l) t) → either c (b None t) (b (Some l) t)
    chosen true h = more None t h
    chosen false h = more (Some l) t h

stray_onward : (place : Placement) (bounds : Bounds) (P : State → Type 0) (a b : Way) → Implies a b → Implies (by_form place bounds P Stray a) (by_form place bounds P Stray b)
stray_onward place bounds P a b more (Some l) t h = more (Some l) t h
stray_onward place bounds P a b more None t h = h

pub onward_round : (place : Placement) (bounds : Bounds) (P : State → Type 0) (B : ℕ → State → Type 0) (lines : List Line) (passed : List ℕ) → IsTrue (leads_on passed lines)
    → Implies (leads place bounds P lines) (leads_round place bounds P B passed lines)
unfolding leads leads_round
onward_round place bounds P B [] passed onward = λ skip t h. h
onward_round place bounds P B (Label k ∷ lines) passed onward = label_onward k _ _ (onward_round place bounds P B lines (k ∷ passed) onward)
onward_round place bounds P B (Do op mode operand ∷ lines) passed onward =
    let parts = and_parts (is_onward passed (op_form (kind_of op) op mode operand)) (leads_on passed lines) onward in
    line_onward place bounds P B passed (op_form (kind_of op) op mode operand) parts.0 _ _ (onward_round place bounds P B lines passed parts.1)
onward_round place bounds P B (Call callee ∷ lines) passed onward =
    let parts = and_parts (is_onward passed (form_of (Call callee))) (leads_on passed lines) onward in
    stray_onward place bounds P _ _ (onward_round place bounds P B lines passed parts.1)

-- what the lines weigh, where going back weighs so much more
abbrev pub back_weight : ℕ → List ℕ → Form → ℕ → ℕ
back_weight extra passed (Branch op l) v = if is_among passed l then max extra v else v
back_weight extra passed _ v = v

abbrev pub round_weight : ℕ → List ℕ → List Line → ℕ
round_weight extra passed [] = 0
round_weight extra passed (Label k ∷ lines) = 1 + round_weight extra (k ∷ passed) lines
round_weight extra passed (Do op mode operand ∷ lines) = raw_weight (op_form (kind_of op) op mode operand) + back_weight extra passed (op_form (kind_of op) op mode operand) (round_weight extra passed lines)
round_weight extra passed (Call callee ∷ lines) = 1 + round_weight extra passed lines

when_split : (b : Bool) (P : Type 0) → when b P → IsTrue b × P
when_split true P h = (refl, h)
when_split false P h = absurd h

more_back : (extra : ℕ) (passed : List ℕ) (form : Form) (v : ℕ) → v ≤ back_weight extra passed form v
more_back extra passed (Branch op l) v = by (is_among passed l)
  where
    by : (b : Bool) → v ≤ (if b then max extra v else v)
    by true = omega arith
    by false = omega arith
more_back extra passed Mark v = omega arith
more_back extra passed (Plain op mode operand) v = omega arith
more_back extra passed (Jump l) v = omega arith
more_back extra passed (Far at) v = omega arith
more_back extra passed Push v = omega arith
more_back extra passed Pull v = omega arith
more_back extra passed Depth v = omega arith
more_back extra passed Return v = omega arith
more_back extra passed (Run r) v = omega arith
more_back extra passed (Enter g reads gives) v = omega arith
more_back extra passed (Through reads gives) v = omega arith
more_back extra passed Stray v = omega arith

module _ (s : RawSetting) (bounds : Bounds) (Q : Place → State → Type 0) (P : State → Type 0) (f : ℕ) (whole : List Line) (frame : Frame) (frames : List Frame) (used : ℕ)
    (has : s.lines f ≡ whole) (room : bounds.hard + 24 ≤ 253 - used) (ends : (u : State) → P u → IsBytes (record u { pushed = frame.pushed; frames = frames }) → Q frame.back (record u { pushed = frame.pushed; frames = frames }))
    (B : ℕ → State → Type 0) (extra : ℕ)
    (again : (k : ℕ) (u : State) → IsOwn frame frames used u → B k u → RawComes s bounds Q extra (f, settle whole (labelled whole k)) u) where
  abbrev On : Way → ℕ → ℕ → List ℕ → Type 0
  On rest v p passed = Goes_on s bounds Q P f whole frame frames used has room ends rest v p passed

  branch_back : (rest : Way) (passed : List ℕ) (v p l : ℕ) (t : State) → IsOwn frame frames used t → On rest v (suc p) passed → (among : Bool) → is_among passed l ≡ among
      → (b : Bool) → back_or_on among (B l) rest l b t → RawComes s bounds Q (if among then max extra v else v) (f, settle whole (if b then labelled whole l else suc p)) t
  branch_back rest passed v p l t own after true e true h = weaken s bounds Q extra (max extra v) _ t (omega arith) (again l t own h)
  branch_back rest passed v p l t own after true e false h = weaken s bounds Q v (max extra v) _ t (omega arith) (after.by None t tt own h)
  branch_back rest passed v p l t own after false e true h = after.by (Some l) t e own h
  branch_back rest passed v p l t own after false e false h = after.by None t tt own h

  round_line : (form : Form) (rest : Way) (passed : List ℕ) (l : Line) (v p : ℕ) (t : State) → form_of l ≡ form → slice_get whole p ≡ Some l
      → IsOwn frame frames used t → On rest v (suc p) passed → by_round s.place bounds P B passed form rest None t → RawComes s bounds Q (raw_weight form + back_weight extra passed form v) (f, p) t
  round_line (Branch op k) rest passed l v p t e is own after h =
      on_form s bounds Q l (Branch op k) (if is_among passed k then max extra v else v) (2 + (if is_among passed k then max extra v else v)) (f, p) t e (ap (λ (ls : List Line). slice_get ls p) has ∙ is) own.ended tt (omega arith)
      (λ q u g bytes. moved_to s bounds Q (if is_among passed k then max extra v else v) q (f, settle whole (if is_taken op t.regs then labelled whole k else suc p)) u t
      (g.0 ∙ ap (λ (ls : List Line). let q' : Place = (f, settle ls (if is_taken op t.regs then labelled ls k else suc p)) in q') has) g.1
      (branch_back rest passed v p k t own after (is_among passed k) refl (is_taken op t.regs) (h (is_taken op t.regs) refl)))
  round_line (Plain op mode operand) rest passed l v p t e is own after h = by_line s bounds Q P f whole frame frames used has room ends (Plain op mode operand) rest passed l v p t e is refl own after h
  round_line Push rest passed l v p t e is own after h = by_line s bounds Q P f whole frame frames used has room ends Push rest passed l v p t e is refl own after h
  round_line Pull rest passed l v p t e is own after h = by_line s bounds Q P f whole frame frames used has room ends Pull rest passed l v p t e is refl own after h
  round_line Return rest passed l v p t e is own after h = by_line s bounds Q P f whole frame frames used has room ends Return rest passed l v p t e is refl own after h
  round_line (Jump k) rest passed l v p t e is own after h =
      let parts = when_split (not (is_among passed k)) (rest (Some k) t) h in
      by_line s bounds Q P f whole frame frames used has room ends (Jump k) rest passed l v p t e is parts.0 own after parts.1
  round_line Mark rest passed l v p t e is own after h = absurd h
  round_line (Far at) rest passed l v p t e is own after h = absurd h
  round_line Depth rest passed l v p t e is own after h = absurd h
  round_line (Run r) rest passed l v p t e is own after h = absurd h
  round_line (Enter g reads gives) rest passed l v p t e is own after h = absurd h
  round_line (Through reads gives) rest passed l v p t e is own after h = absurd h
  round_line Stray rest passed l v p t e is own after h = absurd h

  pub rounds : (lines : List Line) (p : ℕ) (passed : List ℕ) (skip : Option ℕ) (t : State) → IsAt whole p lines passed → IsSought passed skip
      → IsOwn frame frames used t → leads_round s.place bounds P B passed lines skip t → RawComes s bounds Q (round_weight extra passed lines) (f, place_at whole p skip) t
  unfolding leads_round
  rounds [] p passed skip t at sought own h = absurd h
  rounds (Label k ∷ lines) p passed None t at sought own h =
      weaken s bounds Q (round_weight extra (k ∷ passed) lines) (1 + round_weight extra (k ∷ passed) lines) (f, settle whole p) t (omega arith)
      (moved_to s bounds Q (round_weight extra (k ∷ passed) lines) (f, settle whole p) (f, settle whole (suc p)) t t
      (ap (λ (n : ℕ). let q : Place = (f, n) in q) (past_label s bounds Q P f whole frame frames used has room ends p k lines passed at)) refl
      (rounds lines (suc p) (k ∷ passed) None t (next_label whole p k lines passed at) tt own h))
  rounds (Label k ∷ lines) p passed (Some l) t at sought own h =
      weaken s bounds Q (round_weight extra (k ∷ passed) lines) (1 + round_weight extra (k ∷ passed) lines) (f, settle whole (labelled whole l)) t (omega arith)
      (at_label s bounds Q P f whole frame frames used has room ends p k l (round_weight extra (k ∷ passed) lines) lines passed t at sought (leads_round s.place bounds P B (k ∷ passed) lines)
      (record { by = λ skip u sought own h. rounds lines (suc p) (k ∷ passed) skip u (next_label whole p k lines passed at) sought own h })
      own (k == l) refl h)
  rounds (Do op mode operand ∷ lines) p passed None t at sought own h =
      let e : p ≡ p + 0 = omega arith in
      moved_to s bounds Q _ (f, settle whole p) (f, p) t t (ap (λ (n : ℕ). let q : Place = (f, n) in q) (on_line s bounds Q P f whole frame frames used has room ends p op mode operand lines passed at)) refl
      (round_line (op_form (kind_of op) op mode operand) (leads_round s.place bounds P B passed lines) passed (Do op mode operand) (round_weight extra passed lines) p t refl
      (ap (slice_get whole) e ∙ at.get 0) own
      (record { by = λ skip u sought own h. rounds lines (suc p) passed skip u (next_do whole p op mode operand lines passed at) sought own h })
      h)
  rounds (Do op mode operand ∷ lines) p passed (Some l) t at sought own h =
      let more = more_back extra passed (op_form (kind_of op) op mode operand) (round_weight extra passed lines) in
      weaken s bounds Q (round_weight extra passed lines) (raw_weight (op_form (kind_of op) op mode operand) + back_weight extra passed (op_form (kind_of op) op mode operand) (round_weight extra passed lines)) (f, settle whole (labelled whole l)) t (omega arith)
      (rounds lines (suc p) passed (Some l) t (next_do whole p op mode operand lines passed at) sought own h)
  rounds (Call callee ∷ lines) p passed None t at sought own h = absurd h
  rounds (Call callee ∷ lines) p passed (Some l) t at sought own h =
      weaken s bounds Q (round_weight extra passed lines) (1 + round_weight extra passed lines) (f, settle whole (labelled whole l)) t (omega arith)
      (rounds lines (suc p) passed (Some l) t (next_call whole p callee lines passed at) sought own h)

-- the lines behind so many, the place of the first of them, and the labels passed
abbrev pub behind : ℕ → List Line → List Line
behind zero lines = lines
behind (suc k) [] = []
behind (suc k) (l ∷ lines) = behind k lines

abbrev pub place_behind : ℕ → List Line → ℕ → ℕ
place_behind zero lines p = p
place_behind (suc k) [] p = p
place_behind (suc k) (l ∷ lines) p = place_behind k lines (suc p)

abbrev pub passed_behind : ℕ → List Line → List ℕ → List ℕ
passed_behind zero lines passed = passed
passed_behind (suc k) [] passed = passed
passed_behind (suc k) (Label j ∷ lines) passed = passed_behind k lines (j ∷ passed)
passed_behind (suc k) (l ∷ lines) passed = passed_behind k lines passed

advance : (whole : List Line) (k : ℕ) (lines : List Line) (p : ℕ) (passed : List ℕ) → IsAt whole p lines passed → IsAt whole (place_behind k lines p) (behind k lines) (passed_behind k lines passed)
advance whole zero lines p passed at = at
advance whole (suc k) [] p passed at = at
advance whole (suc k) (Label j ∷ lines) p passed at = advance whole k lines (suc p) (j ∷ passed) (next_label whole p j lines passed at)
advance whole (suc k) (Do op mode operand ∷ lines) p passed at = advance whole k lines (suc p) passed (next_do whole p op mode operand lines passed at)
advance whole (suc k) (Call callee ∷ lines) p passed at = advance whole k lines (suc p) passed (next_call whole p callee lines passed at)

-- what is asked where a loop begins again: one round less
abbrev pub Less : ℕ → (ℕ → State → Type 0) → ℕ → ℕ → State → Type 0
Less label Inv zero l u = ⊥
Less label Inv (suc n) l u = (l ≡ label) × Inv n u

-- A loop from its label on: so many lines stand before it, a round weighs so much, and what follows the last one so much.
pub record IsLoop (place : Placement) (bounds : Bounds) (P : State → Type 0) (whole : List Line) (label k step tail : ℕ) (Inv : ℕ → State → Type 0) : Type 0 where
  pub stands : settle whole (labelled whole label) ≡ settle whole (place_behind k whole 0)
  pub body : (n : ℕ) (t : State) → Inv n t → leads_round place bounds P (Less label Inv n) (passed_behind k whole []) (behind k whole) None t
  pub last : round_weight 0 (passed_behind k whole []) (behind k whole) ≤ tail
  pub more : (m n : ℕ) → m ≤ step * n + tail → round_weight m (passed_behind k whole []) (behind k whole) ≤ step * suc n + tail

repeats : (s : RawSetting) (bounds : Bounds) (Q : Place → State → Type 0) (P : State → Type 0) (f : ℕ) (whole : List Line) (frame : Frame) (frames : List Frame) (used : ℕ)
    (has : s.lines f ≡ whole) (room : bounds.hard + 24 ≤ 253 - used) (ends : (u : State) → P u → IsBytes (record u { pushed = frame.pushed; frames = frames }) → Q frame.back (record u { pushed = frame.pushed; frames = frames }))
    (label k step tail : ℕ) (Inv : ℕ → State → Type 0) → IsLoop s.place bounds P whole label k step tail Inv
    → (n : ℕ) (t : State) → IsOwn frame frames used t → Inv n t → RawComes s bounds Q (step * n + tail) (f, settle whole (labelled whole label)) t
repeats s bounds Q P f whole frame frames used has room ends label k step tail Inv loop zero t own inv =
    let last = loop.last in
    moved_to s bounds Q (step * 0 + tail) (f, settle whole (labelled whole label)) (f, settle whole (place_behind k whole 0)) t t (ap (λ (n : ℕ). let q : Place = (f, n) in q) loop.stands) refl
    (weaken s bounds Q (round_weight 0 (passed_behind k whole []) (behind k whole)) (step * 0 + tail) (f, settle whole (place_behind k whole 0)) t (omega arith)
    (rounds s bounds Q P f whole frame frames used has room ends (Less label Inv 0) 0 (λ l u own h. absurd h) (behind k whole) (place_behind k whole 0) (passed_behind k whole []) None t
    (advance whole k whole 0 [] (whole_at whole)) tt own (loop.body 0 t inv)))
repeats s bounds Q P f whole frame frames used has room ends label k step tail Inv loop (suc n) t own inv =
    let again = repeats s bounds Q P f whole frame frames used has room ends label k step tail Inv loop n in
    moved_to s bounds Q (step * suc n + tail) (f, settle whole (labelled whole label)) (f, settle whole (place_behind k whole 0)) t t (ap (λ (n : ℕ). let q : Place = (f, n) in q) loop.stands) refl
    (weaken s bounds Q (round_weight (step * n + tail) (passed_behind k whole []) (behind k whole)) (step * suc n + tail) (f, settle whole (place_behind k whole 0)) t (loop.more (step * n + tail) n (omega arith))
    (rounds s bounds Q P f whole frame frames used has room ends (Less label Inv (suc n)) (step * n + tail)
    (λ l u own h. subst (λ (j : ℕ). RawComes s bounds Q (step * n + tail) (f, settle whole (labelled whole j)) u) (sym h.0) (again u own h.1))
    (behind k whole) (place_behind k whole 0) (passed_behind k whole []) None t (advance whole k whole 0 [] (whole_at whole)) tt own (loop.body (suc n) t inv)))

-- what is asked where the loop is entered again for the first time
abbrev pub Enters : ℕ → ℕ → (ℕ → State → Type 0) → ℕ → State → Type 0
Enters label most Inv l u = (l ≡ label) × ((n : ℕ) × (n < most) × Inv n u)

-- where the lines with a loop lead to a state of the row, the routine does what the row says
pub runs_rounds : (s : RawSetting) (r : Routine) (row : Row) (back : Place) (t : State) (lines : List Line) → s.lines (s.routine r) ≡ lines → (label k step tail most : ℕ) (Inv : ℕ → State → Type 0)
    → IsLoop s.place (reach_of t) (Ends row t) lines label k step tail Inv → ((n : ℕ) → n < most → step * n + tail ≤ step * most + tail) → suc (round_weight (step * most + tail) [] lines) ≤ row.cost
    → row.ends ≡ None → MayRun s row t → leads_round s.place (reach_of t) (Ends row t) (Enters label most Inv) [] lines None (called back t) → Runs s r row back t
runs_rounds s r row back t lines has label k step tail most Inv loop grows within ends may h =
    let deep = may.room.hard in
    let frame : Frame = record { back = back; pushed = t.pushed; gives = no_parts } in
    let used : ℕ = sum_by (λ (f : Frame). 2 + length f.pushed) (frame ∷ t.frames) in
    let sum : sum_by (λ (f : Frame). 2 + length f.pushed) (frame ∷ t.frames) ≡ 2 + length t.pushed + sum_by (λ (f : Frame). 2 + length f.pushed) t.frames = sum_by-cons (λ (f : Frame). 2 + length f.pushed) frame t.frames in
    let room : (reach_of t).hard + 24 ≤ 253 - used = omega arith in
    let weight : ℕ = round_weight (step * most + tail) [] lines in
    record {
      weight = weight;
      within = within;
      comes = moved_to s (reach_of t) (HasDone row.ends row back t) weight (entry_of s (s.routine r)) (s.routine r, settle lines 0) (called back t) (called back t)
          (ap (λ (ls : List Line). let q : Place = (s.routine r, settle ls 0) in q) has) refl
          (subst (λ (e : Option ℕ). RawComes s (reach_of t) (HasDone e row back t) weight (s.routine r, settle lines 0) (called back t)) (sym ends)
          (rounds s (reach_of t) (HasDone None row back t) (Ends row t) (s.routine r) lines frame t.frames used has room (λ u m bytes. (refl, m, bytes)) (Enters label most Inv) (step * most + tail)
          (λ l u own h. subst (λ (j : ℕ). RawComes s (reach_of t) (HasDone None row back t) (step * most + tail) (s.routine r, settle lines (labelled lines j)) u) (sym h.0)
          (weaken s (reach_of t) (HasDone None row back t) (step * h.1.0 + tail) (step * most + tail) _ u (grows h.1.0 h.1.1)
          (repeats s (reach_of t) (HasDone None row back t) (Ends row t) (s.routine r) lines frame t.frames used has room (λ u m bytes. (refl, m, bytes)) label k step tail Inv loop h.1.0 u own h.1.2)))
          lines 0 [] None (called back t) (whole_at lines) tt (record { frames = refl; ended = may.running; used = refl }) h));
    }
