-- Lines as pieces that lead from label to label: at a stop a piece ends, and what is asked there has to hold, whether the stop is
-- reached by a branch, by a jump, or from the line before it, and whether it stands before the piece or behind it.
use Rattle.std.proofs.Common.{◌≡◌, ℕ, zero, suc, ◌+◌, ◌-◌, ◌<◌, ◌≤◌, ◌⊎◌, inl, inr, Bool, true, false, IsTrue, not, List, [], ◌∷◌, ◌++◌, Option, Some, None, slice_get, nat_eq, refl, sym, ap, subst, ◌∙◌, arith}
use Rattle.std.specs.Prelude.{◌==◌, ◌&&◌, if◌then◌else◌, max}
use Rattle.std.proofs.lemmas.Bool.Decides.{nat_tests}
use Rattle.c65_mach.specs.Step.{is_taken, kind_of}
use Rattle.c65_code.specs.declared.line.Line.{Line}
use Rattle.c65_code.specs.declared.line.Line.TheVariants.{Label, Do, Call}
use Rattle.c65_code.specs.declared.routine.Routine.{Routine}
use Rattle.c65_code.specs.LineState.{Place, State, Frame, IsBytes}
use Rattle.c65_code.specs.Forms.{Form, Mark, Plain, Branch, Jump, Far, Push, Pull, Depth, Return, Run, Enter, Through, Stray, form_of, op_form}
use Rattle.c65_code.specs.Moves.{settle, labelled}
use Rattle.c65_code.specs.Segments.{is_among}
use Rattle.c65_code.specs.RawMachine.{RawSetting, Bounds, RawComes, here, raw_weight}
use Rattle.c65_rtl.proofs.Ways.{Way, either, by_label, eq_flip, IsAt, IsOwn, IsSought, place_at, whole_at, next_do, next_call, next_label, weaken, on_form, moved_to, and_parts, or_parts, not_parts}
use Rattle.c65_rtl.proofs.Rounds.{back_or_on, behind, place_behind, passed_behind}
use Rattle.c65_rtl_law_walks.proofs.Loops.{advance}
use Rattle.c65_rtl_law_walks.proofs.Walks.{Takes, by_call, by_deep, call_weight, Goes, deep_line, call_line, past_label, at_label}

abbrev pub by_stop : Bool → (State → Type 0) → ℕ → Way → Way
by_stop true B k rest None t = B t
by_stop true B k rest (Some l) t = ⊥
by_stop false B k rest skip t = by_label k rest skip t

abbrev pub by_exit : RawSetting → Bounds → ℕ → (State → Type 0) → (ℕ → State → Type 0) → List ℕ → Form → Way → Way
by_exit s bounds deepest P B stops form rest (Some l) t = rest (Some l) t
by_exit s bounds deepest P B stops (Branch op l) rest None t = (b : Bool) → is_taken op t.regs ≡ b → back_or_on (is_among stops l) (B l) rest l b t
by_exit s bounds deepest P B stops (Jump l) rest None t = either (is_among stops l) (B l t) (rest (Some l) t)
by_exit s bounds deepest P B stops form rest None t = by_deep s bounds deepest P form rest None t

unfoldable pub leads_stop : RawSetting → Bounds → ℕ → (Routine → Takes) → (State → Type 0) → (ℕ → State → Type 0) → List ℕ → List Line → Way
leads_stop s bounds deepest takes P B stops [] = λ skip t. ⊥
leads_stop s bounds deepest takes P B stops (Label k ∷ lines) = by_stop (is_among stops k) (B k) k (leads_stop s bounds deepest takes P B (k ∷ stops) lines)
leads_stop s bounds deepest takes P B stops (Do op mode operand ∷ lines) = by_exit s bounds deepest P B stops (op_form (kind_of op) op mode operand) (leads_stop s bounds deepest takes P B stops lines)
leads_stop s bounds deepest takes P B stops (Call callee ∷ lines) = by_call s bounds deepest takes callee (leads_stop s bounds deepest takes P B stops lines)

abbrev pub exit_weight : ℕ → List ℕ → Form → ℕ → ℕ
exit_weight extra stops (Branch op l) v = if is_among stops l then max extra v else v
exit_weight extra stops (Jump l) v = if is_among stops l then max extra v else v
exit_weight extra stops form v = v

-- what a piece weighs with all that is called, where a stop weighs so much more
abbrev pub stop_weight : (Routine → Takes) → ℕ → List ℕ → List Line → ℕ
stop_weight takes extra stops [] = 0
stop_weight takes extra stops (Label k ∷ lines) = if is_among stops k then extra else stop_weight takes extra (k ∷ stops) lines
stop_weight takes extra stops (Do op mode operand ∷ lines) = raw_weight (op_form (kind_of op) op mode operand) + exit_weight extra stops (op_form (kind_of op) op mode operand) (stop_weight takes extra stops lines)
stop_weight takes extra stops (Call callee ∷ lines) = call_weight takes callee + stop_weight takes extra stops lines

more_exit : (extra : ℕ) (stops : List ℕ) (form : Form) (v : ℕ) → v ≤ exit_weight extra stops form v
more_exit extra stops (Branch op l) v = by (is_among stops l)
  where
    by : (b : Bool) → v ≤ (if b then max extra v else v)
    by true = omega arith
    by false = omega arith
more_exit extra stops (Jump l) v = by (is_among stops l)
  where
    by : (b : Bool) → v ≤ (if b then max extra v else v)
    by true = omega arith
    by false = omega arith
more_exit extra stops Mark v = omega arith
more_exit extra stops (Plain op mode operand) v = omega arith
more_exit extra stops (Far at) v = omega arith
more_exit extra stops Push v = omega arith
more_exit extra stops Pull v = omega arith
more_exit extra stops Depth v = omega arith
more_exit extra stops Return v = omega arith
more_exit extra stops (Run r) v = omega arith
more_exit extra stops (Enter g reads gives) v = omega arith
more_exit extra stops (Through reads gives) v = omega arith
more_exit extra stops Stray v = omega arith

-- ---- labels that stand once

abbrev pub lacks : ℕ → List Line → Bool
lacks l [] = true
lacks l (Label k ∷ lines) = not (k == l) && lacks l lines
lacks l (line ∷ lines) = lacks l lines

abbrev pub stand_once : List Line → Bool
stand_once [] = true
stand_once (Label k ∷ lines) = lacks k lines && stand_once lines
stand_once (line ∷ lines) = stand_once lines

other_label : (l k p : ℕ) (lines : List Line) → IsTrue (lacks l lines) → slice_get lines p ≡ Some (Label k) → nat_eq k l ≡ false
other_label l k p [] lack is = cc
other_label l k zero (Label j ∷ lines) lack is =
    let parts = and_parts (not (j == l)) (lacks l lines) lack in
    let same : j ≡ k = cc in
    subst (λ (i : ℕ). nat_eq i l ≡ false) same (not_parts (j == l) parts.0)
other_label l k (suc p) (Label j ∷ lines) lack is = other_label l k p lines (and_parts (not (j == l)) (lacks l lines) lack).1 is
other_label l k zero (Do op mode operand ∷ lines) lack is = cc
other_label l k (suc p) (Do op mode operand ∷ lines) lack is = other_label l k p lines lack is
other_label l k zero (Call callee ∷ lines) lack is = cc
other_label l k (suc p) (Call callee ∷ lines) lack is = other_label l k p lines lack is

pub labelled_at : (lines : List Line) (k p : ℕ) → IsTrue (stand_once lines) → slice_get lines p ≡ Some (Label k) → labelled lines k ≡ p
labelled_at [] k p once is = cc
labelled_at (Label j ∷ lines) k zero once is =
    let same : j ≡ k = cc in
    ap (λ (b : Bool). if b then 0 else suc (labelled lines k)) (subst (λ (i : ℕ). nat_eq i k ≡ true) (sym same) (grind (arith, nat_tests)))
labelled_at (Label j ∷ lines) k (suc p) once is =
    let parts = and_parts (lacks j lines) (stand_once lines) once in
    let apart : nat_eq j k ≡ false = eq_flip k j (other_label j k p lines parts.0 is) in
    ap (λ (b : Bool). if b then 0 else suc (labelled lines k)) apart ∙ ap suc (labelled_at lines k p parts.1 is)
labelled_at (Do op mode operand ∷ lines) k zero once is = cc
labelled_at (Do op mode operand ∷ lines) k (suc p) once is = ap suc (labelled_at lines k p once is)
labelled_at (Call callee ∷ lines) k zero once is = cc
labelled_at (Call callee ∷ lines) k (suc p) once is = ap suc (labelled_at lines k p once is)

-- ---- one piece

module _ (s : RawSetting) (bounds : Bounds) (deepest : ℕ) (takes : Routine → Takes) (Q : Place → State → Type 0) (P : State → Type 0) (f : ℕ) (whole : List Line) (frame : Frame) (frames : List Frame) (used : ℕ)
    (has : s.lines f ≡ whole) (room : bounds.hard + deepest ≤ 253 - used) (ends : (u : State) → P u → IsBytes (record u { pushed = frame.pushed; frames = frames }) → Q frame.back (record u { pushed = frame.pushed; frames = frames }))
    (once : IsTrue (stand_once whole)) (B : ℕ → State → Type 0) (extra : ℕ)
    (again : (k : ℕ) (u : State) → IsBytes u → IsOwn frame frames used u → B k u → RawComes s bounds Q extra (f, settle whole (labelled whole k)) u) where
  abbrev On : Way → ℕ → ℕ → List ℕ → Type 0
  On rest v p stops = Goes s bounds deepest takes Q P f whole frame frames used has room ends rest v p stops

  branch_out : (rest : Way) (stops : List ℕ) (v p l : ℕ) (t : State) → IsBytes t → IsOwn frame frames used t → On rest v (suc p) stops → (among : Bool) → is_among stops l ≡ among
      → (b : Bool) → back_or_on among (B l) rest l b t → RawComes s bounds Q (if among then max extra v else v) (f, settle whole (if b then labelled whole l else suc p)) t
  branch_out rest stops v p l t bytes own after true e true h = weaken s bounds Q extra (max extra v) _ t (omega arith) (again l t bytes own h)
  branch_out rest stops v p l t bytes own after true e false h = weaken s bounds Q v (max extra v) _ t (omega arith) (after.by None t tt bytes own h)
  branch_out rest stops v p l t bytes own after false e true h = after.by (Some l) t e bytes own h
  branch_out rest stops v p l t bytes own after false e false h = after.by None t tt bytes own h

  jump_out : (rest : Way) (stops : List ℕ) (v p l : ℕ) (t : State) → IsBytes t → IsOwn frame frames used t → On rest v (suc p) stops → (among : Bool) → is_among stops l ≡ among
      → either among (B l t) (rest (Some l) t) → RawComes s bounds Q (if among then max extra v else v) (f, settle whole (labelled whole l)) t
  jump_out rest stops v p l t bytes own after true e h = weaken s bounds Q extra (max extra v) _ t (omega arith) (again l t bytes own h)
  jump_out rest stops v p l t bytes own after false e h = after.by (Some l) t e bytes own h

  exit_line : (form : Form) (rest : Way) (stops : List ℕ) (l : Line) (v p : ℕ) (t : State) → form_of l ≡ form → slice_get whole p ≡ Some l
      → IsOwn frame frames used t → On rest v (suc p) stops → by_exit s bounds deepest P B stops form rest None t → RawComes s bounds Q (raw_weight form + exit_weight extra stops form v) (f, p) t
  exit_line (Branch op k) rest stops l v p t e is own after h =
      on_form s bounds Q l (Branch op k) (if is_among stops k then max extra v else v) (2 + (if is_among stops k then max extra v else v)) (f, p) t e (ap (λ (ls : List Line). slice_get ls p) has ∙ is) own.ended tt (omega arith)
      (λ q u g bytes. moved_to s bounds Q (if is_among stops k then max extra v else v) q (f, settle whole (if is_taken op t.regs then labelled whole k else suc p)) u t
      (g.0 ∙ ap (λ (ls : List Line). let q' : Place = (f, settle ls (if is_taken op t.regs then labelled ls k else suc p)) in q') has) g.1
      (branch_out rest stops v p k t (subst IsBytes g.1 bytes) own after (is_among stops k) refl (is_taken op t.regs) (h (is_taken op t.regs) refl)))
  exit_line (Jump k) rest stops l v p t e is own after h =
      on_form s bounds Q l (Jump k) (if is_among stops k then max extra v else v) (1 + (if is_among stops k then max extra v else v)) (f, p) t e (ap (λ (ls : List Line). slice_get ls p) has ∙ is) own.ended tt (omega arith)
      (λ q u g bytes. moved_to s bounds Q (if is_among stops k then max extra v else v) q (f, settle whole (labelled whole k)) u t
      (g.0 ∙ ap (λ (ls : List Line). let q' : Place = (f, settle ls (labelled ls k)) in q') has) g.1
      (jump_out rest stops v p k t (subst IsBytes g.1 bytes) own after (is_among stops k) refl h))
  exit_line (Plain op mode operand) rest stops l v p t e is own after h = deep_line s bounds deepest takes Q P f whole frame frames used has room ends (Plain op mode operand) rest stops l v p t e is refl own after h
  exit_line Push rest stops l v p t e is own after h = deep_line s bounds deepest takes Q P f whole frame frames used has room ends Push rest stops l v p t e is refl own after h
  exit_line Pull rest stops l v p t e is own after h = deep_line s bounds deepest takes Q P f whole frame frames used has room ends Pull rest stops l v p t e is refl own after h
  exit_line Depth rest stops l v p t e is own after h = deep_line s bounds deepest takes Q P f whole frame frames used has room ends Depth rest stops l v p t e is refl own after h
  exit_line Return rest stops l v p t e is own after h = deep_line s bounds deepest takes Q P f whole frame frames used has room ends Return rest stops l v p t e is refl own after h
  exit_line Mark rest stops l v p t e is own after h = absurd h
  exit_line (Far at) rest stops l v p t e is own after h = absurd h
  exit_line (Run r) rest stops l v p t e is own after h = absurd h
  exit_line (Enter g reads gives) rest stops l v p t e is own after h = absurd h
  exit_line (Through reads gives) rest stops l v p t e is own after h = absurd h
  exit_line Stray rest stops l v p t e is own after h = absurd h

  stop_line : (p k : ℕ) (v : ℕ) (lines : List Line) (stops : List ℕ) (skip : Option ℕ) (t : State) → IsAt whole p (Label k ∷ lines) stops → IsSought stops skip → IsBytes t → IsOwn frame frames used t
      → (rest : Way) → On rest v (suc p) (k ∷ stops) → (among : Bool) → is_among stops k ≡ among → by_stop among (B k) k rest skip t → RawComes s bounds Q (if among then extra else v) (f, place_at whole p skip) t
  stop_line p k v lines stops None t at sought bytes own rest after true e h =
      let z : p ≡ p + 0 = omega arith in
      moved_to s bounds Q extra (f, settle whole p) (f, settle whole (labelled whole k)) t t
      (ap (λ (n : ℕ). let q : Place = (f, settle whole n) in q) (sym (labelled_at whole k p once (ap (slice_get whole) z ∙ at.get 0)))) refl (again k t bytes own h)
  stop_line p k v lines stops (Some l) t at sought bytes own rest after true e h = absurd h
  stop_line p k v lines stops None t at sought bytes own rest after false e h =
      moved_to s bounds Q v (f, settle whole p) (f, settle whole (suc p)) t t
      (ap (λ (n : ℕ). let q : Place = (f, n) in q) (past_label s bounds deepest takes Q P f whole frame frames used has room ends p k lines stops at)) refl (after.by None t tt bytes own h)
  stop_line p k v lines stops (Some l) t at sought bytes own rest after false e h =
      at_label s bounds deepest takes Q P f whole frame frames used has room ends p k l v lines stops t at sought rest after bytes own (k == l) refl h

  pub stopping : (lines : List Line) (p : ℕ) (stops : List ℕ) (skip : Option ℕ) (t : State) → IsAt whole p lines stops → IsSought stops skip → IsBytes t
      → IsOwn frame frames used t → leads_stop s bounds deepest takes P B stops lines skip t → RawComes s bounds Q (stop_weight takes extra stops lines) (f, place_at whole p skip) t
  unfolding leads_stop
  stopping [] p stops skip t at sought bytes own h = absurd h
  stopping (Label k ∷ lines) p stops skip t at sought bytes own h =
      stop_line p k (stop_weight takes extra (k ∷ stops) lines) lines stops skip t at sought bytes own (leads_stop s bounds deepest takes P B (k ∷ stops) lines)
      (record { by = λ skip u sought bytes own h. stopping lines (suc p) (k ∷ stops) skip u (next_label whole p k lines stops at) sought bytes own h })
      (is_among stops k) refl h
  stopping (Do op mode operand ∷ lines) p stops None t at sought bytes own h =
      let e : p ≡ p + 0 = omega arith in
      moved_to s bounds Q _ (f, settle whole p) (f, p) t t (ap (λ (n : ℕ). let q : Place = (f, n) in q) (ap (settle whole) e ∙ (at.settles 0 ∙ sym e))) refl
      (exit_line (op_form (kind_of op) op mode operand) (leads_stop s bounds deepest takes P B stops lines) stops (Do op mode operand) (stop_weight takes extra stops lines) p t refl
      (ap (slice_get whole) e ∙ at.get 0) own
      (record { by = λ skip u sought bytes own h. stopping lines (suc p) stops skip u (next_do whole p op mode operand lines stops at) sought bytes own h })
      h)
  stopping (Do op mode operand ∷ lines) p stops (Some l) t at sought bytes own h =
      let more = more_exit extra stops (op_form (kind_of op) op mode operand) (stop_weight takes extra stops lines) in
      weaken s bounds Q (stop_weight takes extra stops lines) (raw_weight (op_form (kind_of op) op mode operand) + exit_weight extra stops (op_form (kind_of op) op mode operand) (stop_weight takes extra stops lines)) (f, settle whole (labelled whole l)) t (omega arith)
      (stopping lines (suc p) stops (Some l) t (next_do whole p op mode operand lines stops at) sought bytes own h)
  stopping (Call callee ∷ lines) p stops None t at sought bytes own h =
      let e : p ≡ p + 0 = omega arith in
      moved_to s bounds Q _ (f, settle whole p) (f, p) t t (ap (λ (n : ℕ). let q : Place = (f, n) in q) (ap (settle whole) e ∙ (at.settles 0 ∙ sym e))) refl
      (call_line s bounds deepest takes Q P f whole frame frames used has room ends callee (leads_stop s bounds deepest takes P B stops lines) stops (stop_weight takes extra stops lines) p t (ap (slice_get whole) e ∙ at.get 0) bytes own
      (record { by = λ skip u sought bytes own h. stopping lines (suc p) stops skip u (next_call whole p callee lines stops at) sought bytes own h })
      h)
  stopping (Call callee ∷ lines) p stops (Some l) t at sought bytes own h =
      weaken s bounds Q (stop_weight takes extra stops lines) (call_weight takes callee + stop_weight takes extra stops lines) (f, settle whole (labelled whole l)) t (omega arith)
      (stopping lines (suc p) stops (Some l) t (next_call whole p callee lines stops at) sought bytes own h)

-- ---- piece after piece

abbrev pub stops_of : List ℕ → ℕ → List Line → List ℕ
stops_of ahead k whole = ahead ++ passed_behind k whole []

-- From a label, which so many lines stand before, with the weight n left: the piece behind it leads to the stops, those before it
-- and some ahead, and each is one of the places where the walk is to come, or its invariant holds with less weight left.
pub record StopsIn (s : RawSetting) (bounds : Bounds) (deepest : ℕ) (takes : Routine → Takes) (P : State → Type 0) (whole : List Line) (Exit : ℕ → State → Type 0) (Inv : ℕ → ℕ → State → Type 0) (l n : ℕ) (t : State) : Type 0 where
  pub k : ℕ
  pub ahead : List ℕ
  pub less : ℕ
  pub stands : settle whole (labelled whole l) ≡ settle whole (place_behind k whole 0)
  pub fewer : less < n
  pub weighs : stop_weight takes less (stops_of ahead k whole) (behind k whole) ≤ n
  pub leads : leads_stop s bounds deepest takes P (λ j u. Exit j u ⊎ Inv j less u) (stops_of ahead k whole) (behind k whole) None t

not_ahead : (ahead passed : List ℕ) (l : ℕ) → is_among (ahead ++ passed) l ≡ false → is_among passed l ≡ false
not_ahead [] passed l out = out
not_ahead (a ∷ ahead) passed l out = not_ahead ahead passed l (or_parts (nat_eq l a) (is_among (ahead ++ passed) l) out).1

pub more_stops : (whole : List Line) (p : ℕ) (lines : List Line) (ahead passed : List ℕ) → IsAt whole p lines passed → IsAt whole p lines (ahead ++ passed)
more_stops whole p lines ahead passed at = record { get = at.get; settles = at.settles; labels = λ l out. at.labels l (not_ahead ahead passed l out) }

from_either : (A B C : Type 0) → (A → C) → (B → C) → A ⊎ B → C
from_either A B C f g (inl a) = f a
from_either A B C f g (inr b) = g b

pub stops_in : (s : RawSetting) (bounds : Bounds) (deepest : ℕ) (takes : Routine → Takes) (Q : Place → State → Type 0) (P : State → Type 0) (f : ℕ) (whole : List Line) (frame : Frame) (frames : List Frame) (used : ℕ)
    (has : s.lines f ≡ whole) (room : bounds.hard + deepest ≤ 253 - used) (ends : (u : State) → P u → IsBytes (record u { pushed = frame.pushed; frames = frames }) → Q frame.back (record u { pushed = frame.pushed; frames = frames }))
    (once : IsTrue (stand_once whole)) (Exit : ℕ → State → Type 0) (Inv : ℕ → ℕ → State → Type 0) → ((k : ℕ) (u : State) → IsBytes u → IsOwn frame frames used u → Exit k u → Q (f, settle whole (labelled whole k)) u)
    → ((l n : ℕ) (t : State) → IsBytes t → Inv l n t → StopsIn s bounds deepest takes P whole Exit Inv l n t)
    → (fuel l n : ℕ) (t : State) → n ≤ fuel → IsBytes t → IsOwn frame frames used t → Inv l n t → RawComes s bounds Q n (f, settle whole (labelled whole l)) t
stops_in s bounds deepest takes Q P f whole frame frames used has room ends once Exit Inv out piece zero l n t le bytes own inv =
    let fewer = (piece l n t bytes inv).fewer in
    absurd (omega arith)
stops_in s bounds deepest takes Q P f whole frame frames used has room ends once Exit Inv out piece (suc fuel) l n t le bytes own inv =
    let r : StopsIn s bounds deepest takes P whole Exit Inv l n t = piece l n t bytes inv in
    let fewer = r.fewer in
    moved_to s bounds Q n (f, settle whole (labelled whole l)) (f, settle whole (place_behind r.k whole 0)) t t (ap (λ (n : ℕ). let q : Place = (f, n) in q) r.stands) refl
    (weaken s bounds Q (stop_weight takes r.less (stops_of r.ahead r.k whole) (behind r.k whole)) n (f, settle whole (place_behind r.k whole 0)) t r.weighs
    (stopping s bounds deepest takes Q P f whole frame frames used has room ends once (λ j u. Exit j u ⊎ Inv j r.less u) r.less
    (λ j u bytes own h. from_either (Exit j u) (Inv j r.less u) (RawComes s bounds Q r.less (f, settle whole (labelled whole j)) u) (λ e. here (out j u bytes own e))
    (λ i. stops_in s bounds deepest takes Q P f whole frame frames used has room ends once Exit Inv out piece fuel j r.less u (omega arith) bytes own i) h)
    (behind r.k whole) (place_behind r.k whole 0) (stops_of r.ahead r.k whole) None t (more_stops whole (place_behind r.k whole 0) (behind r.k whole) r.ahead (passed_behind r.k whole []) (advance whole r.k whole 0 [] (whole_at whole))) tt bytes own r.leads))
