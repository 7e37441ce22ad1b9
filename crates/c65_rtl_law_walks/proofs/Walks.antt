-- Lines that lead forward only, with calls of routines and hooks among them: they come to their return, with the number of
-- bytes given that they may push.
use Rattle.std.proofs.Common.{◌≡◌, ℕ, suc, ◌+◌, ◌-◌, ◌<◌, ◌≤◌, Bool, true, false, IsTrue, List, [], ◌∷◌, All, Option, Some, None, slice_get, length, nat_eq, refl, sym, ap, subst, ◌∙◌, arith}
use Rattle.std.specs.Prelude.{◌==◌, if◌then◌else◌, ◌&&◌, nat_lt, sum_by}
use Rattle.std.proofs.lemmas.Bool.Decides.{Decides-ltb}
use Rattle.std.proofs.lemmas.List.Sums.{sum_by-cons}
use Rattle.std.proofs.lemmas.List.Elements.{All-nil, All-cons}
use Rattle.c65_mach.specs.declared.rows.Op.{Op}
use Rattle.c65_mach.specs.declared.rows.Mode.{Mode}
use Rattle.c65_mach.specs.declared.rows.Mode.TheVariants as modes
use Rattle.c65_mach.specs.Step.{signed, changed, stored, with_a, with_x, is_taken, Kind, Reads, Stores, Changes, Branches, Registers, Moves, kind_of}
use Rattle.c65_code.specs.declared.line.Callee.{Callee}
use Rattle.c65_code.specs.declared.line.Callee.TheVariants as callees
use Rattle.c65_code.specs.declared.line.Line.{Line}
use Rattle.c65_code.specs.declared.line.Line.TheVariants.{Label, Do, Call}
use Rattle.c65_code.specs.declared.routine.Routine.{Routine}
use Rattle.c65_code.specs.LineState.{Place, State, Frame, s_of, sp_of, IsBytes}
use Rattle.c65_code.specs.Parts.{no_parts}
use Rattle.c65_code.specs.Placement.{word_of, stack_end}
use Rattle.c65_code.specs.Forms.{Form, Mark, Plain, Branch, Jump, Far, Push, Pull, Depth, Return, Run, Enter, Through, Stray, form_of, op_form}
use Rattle.c65_code.specs.Rows.{Row, Meets}
use Rattle.c65_code.specs.Moves.{Ref, Given, ZeroAt, MemAt, ref_of, value_at, put, change, effect, settle, labelled}
use Rattle.c65_code.specs.Segments.{is_among}
use Rattle.c65_code.specs.RawMachine.{RawSetting, Bounds, IsReachable, IsRawOpen, IsHookWithin, RawComes, here, raw_weight, HasFrame, RawReturns, RawRuns, HasDone, called, entry_of, line_after, hook_row, LieLow}
use Rattle.c65_rtl.specs.Short.{is_onward, push_of, pushed_by}
use Rattle.c65_rtl.proofs.Ways.{leads, Way, Ends, when, either, whole_at, at_operand, pulling, returning, by_form, by_label, IsAt, IsOwn, IsSought, place_at, next_do, next_call, next_label, weaken, on_form, moved_to, still_own, and_parts, or_none, eq_flip, not_parts}
use Rattle.c65_rtl_law_walks.specs.Inside.{MayRunIn}
use Rattle.c65_rtl_law_walks.proofs.Joins.{bind}

-- what an inner routine takes: bytes of the software stack and of the hard stack, and instructions
pub record Takes : Type 0 where
  pub below : ℕ
  pub pushed : ℕ
  pub weight : ℕ

-- What a call of a routine wants here, at most so many bytes being pushed: that it comes back with a row met, and what the row
-- wants.
pub record Calls (s : RawSetting) (bounds : Bounds) (deepest : ℕ) (takes : Routine → Takes) (r : Routine) (rest : Way) (t : State) : Type 0 where
  pub row : Row
  pub comes : MayRunIn s bounds (takes r).below (takes r).pushed row t → (back : Place) → RawComes s bounds (HasDone row.ends row back t) (takes r).weight (entry_of s (s.routine r)) (called back t)
  pub goes_on : row.ends ≡ None
  pub ready : IsTrue row.ready
  pub near : All (IsReachable s.place bounds) row.near
  pub far : All (IsReachable s.place bounds) row.far
  pub soft : bounds.soft + (takes r).below ≤ sp_of t
  pub hard : length t.pushed + 2 + (takes r).pushed ≤ deepest
  pub high : sp_of t ≤ stack_end
  pub data_low : LieLow s.place
  pub follows : (u : State) → Meets row t u → IsBytes u → rest None u

-- and a call of a hook
pub record Hooks (s : RawSetting) (bounds : Bounds) (deepest : ℕ) (row : Row) (rest : Way) (t : State) : Type 0 where
  pub goes_on : row.ends ≡ None
  pub near : All (IsReachable s.place bounds) row.near
  pub far : All (IsReachable s.place bounds) row.far
  pub hard : length t.pushed + 2 ≤ deepest
  pub follows : (u : State) → Meets row t u → IsBytes u → rest None u

abbrev pub by_row : RawSetting → Bounds → ℕ → (Routine → Takes) → Option Row → Routine → Way → State → Type 0
by_row s bounds deepest takes None r rest t = Calls s bounds deepest takes r rest t
by_row s bounds deepest takes (Some row) r rest t = Hooks s bounds deepest row rest t

abbrev pub by_call : RawSetting → Bounds → ℕ → (Routine → Takes) → Callee → Way → Way
by_call s bounds deepest takes callee rest (Some l) t = rest (Some l) t
by_call s bounds deepest takes (callees.Routine r) rest None t = by_row s bounds deepest takes (hook_row s.args r t) r rest t
by_call s bounds deepest takes _ rest None t = ⊥

-- as `by_form`, where a byte may be pushed on top of fewer than the deepest, and TSX stands
abbrev pub by_deep : RawSetting → Bounds → ℕ → (State → Type 0) → Form → Way → Way
by_deep s bounds deepest P form rest (Some l) t = rest (Some l) t
by_deep s bounds deepest P Push rest None t = (length t.pushed + 1 ≤ deepest) × rest None (record t { pushed = t.regs.a ∷ t.pushed })
by_deep s bounds deepest P Depth rest None t = rest None (record t { regs = with_x (s_of t) t.regs })
by_deep s bounds deepest P form rest None t = by_form s.place bounds P form rest None t

unfoldable pub leads_in : RawSetting → Bounds → ℕ → (Routine → Takes) → (State → Type 0) → List Line → Way
leads_in s bounds deepest takes P [] = λ skip t. ⊥
leads_in s bounds deepest takes P (Label k ∷ lines) = by_label k (leads_in s bounds deepest takes P lines)
leads_in s bounds deepest takes P (Do op mode operand ∷ lines) = by_deep s bounds deepest P (op_form (kind_of op) op mode operand) (leads_in s bounds deepest takes P lines)
leads_in s bounds deepest takes P (Call callee ∷ lines) = by_call s bounds deepest takes callee (leads_in s bounds deepest takes P lines)

abbrev pub call_weight : (Routine → Takes) → Callee → ℕ
call_weight takes (callees.Routine r) = 2 + (takes r).weight
call_weight takes _ = 0

-- what the lines weigh with all that is called
abbrev pub weight_in : (Routine → Takes) → List Line → ℕ
weight_in takes [] = 0
weight_in takes (Label k ∷ lines) = weight_in takes lines
weight_in takes (Do op mode operand ∷ lines) = raw_weight (op_form (kind_of op) op mode operand) + weight_in takes lines
weight_in takes (Call callee ∷ lines) = call_weight takes callee + weight_in takes lines

-- they lead to labels that were not passed
abbrev pub leads_forward : List ℕ → List Line → Bool
leads_forward passed [] = true
leads_forward passed (Label l ∷ lines) = leads_forward (l ∷ passed) lines
leads_forward passed (Do op mode operand ∷ lines) = is_onward passed (op_form (kind_of op) op mode operand) && leads_forward passed lines
leads_forward passed (Call callee ∷ lines) = leads_forward passed lines

-- an operation leaves the calls as they are, and what is pushed
record SameStacks (t u : State) : Type 0 where
  pub frames : u.frames ≡ t.frames
  pub ended : u.ended ≡ t.ended
  pub pushed : u.pushed ≡ t.pushed

put_stacks : (ref : Ref) (v : ℕ) (t : State) → SameStacks t (put ref v t)
put_stacks (Given w) v t = record { frames = refl; ended = refl; pushed = refl }
put_stacks (ZeroAt i) v t = record { frames = refl; ended = refl; pushed = refl }
put_stacks (MemAt b) v t = record { frames = refl; ended = refl; pushed = refl }

put_on_stacks : (ref : Ref) (v : ℕ) (t u : State) → SameStacks t u → SameStacks t (put ref v u)
put_on_stacks ref v t u same = let put = put_stacks ref v u in record { frames = put.frames ∙ same.frames; ended = put.ended ∙ same.ended; pushed = put.pushed ∙ same.pushed }

change_stacks : (op : Op) (mode : Mode) (w : ℕ) (t : State) → SameStacks t (change op mode w t)
change_stacks op modes.Accumulator w t = record { frames = refl; ended = refl; pushed = refl }
change_stacks op mode w t =
    let to = changed op (value_at (ref_of mode w t) t) t.regs in
    put_on_stacks (ref_of mode w t) to.0 t (record t { regs = record (signed to.0 t.regs) { c = to.1 } }) (record { frames = refl; ended = refl; pushed = refl })

effect_stacks : (kind : Kind) (op : Op) (mode : Mode) (w : ℕ) (t : State) → SameStacks t (effect kind op mode w t)
effect_stacks Reads op mode w t = record { frames = refl; ended = refl; pushed = refl }
effect_stacks Stores op mode w t = put_stacks (ref_of mode w t) (stored op t.regs) t
effect_stacks Changes op mode w t = change_stacks op mode w t
effect_stacks Registers op mode w t = record { frames = refl; ended = refl; pushed = refl }
effect_stacks Branches op mode w t = record { frames = refl; ended = refl; pushed = refl }
effect_stacks Moves op mode w t = record { frames = refl; ended = refl; pushed = refl }

operand_parts : (s : RawSetting) (bounds : Bounds) (ref : Ref) (P : Type 0) → at_operand s.place bounds ref P → IsRawOpen s.place bounds ref × P
operand_parts s bounds (Given v) P h = (tt, h)
operand_parts s bounds (ZeroAt i) P h = by (nat_lt i 256) refl h
  where
    by : (b : Bool) → nat_lt i 256 ≡ b → when b P → (i < 256) × P
    by true e h = ((Decides-ltb i 256).0 e, h)
    by false e h = absurd h
operand_parts s bounds (MemAt b) P h = h

module _ (s : RawSetting) (bounds : Bounds) (deepest : ℕ) (takes : Routine → Takes) (Q : Place → State → Type 0) (P : State → Type 0) (f : ℕ) (whole : List Line) (frame : Frame) (frames : List Frame) (used : ℕ)
    (has : s.lines f ≡ whole) (room : bounds.hard + deepest ≤ 253 - used) (ends : (u : State) → P u → IsBytes (record u { pushed = frame.pushed; frames = frames }) → Q frame.back (record u { pushed = frame.pushed; frames = frames })) where
  -- what is known of the lines behind a line
  pub record Goes (rest : Way) (v p : ℕ) (passed : List ℕ) : Type 0 where
    pub by : (skip : Option ℕ) (u : State) → IsSought passed skip → IsBytes u → IsOwn frame frames used u → rest skip u → RawComes s bounds Q v (f, place_at whole p skip) u

  stands : (p : ℕ) (l : Line) → slice_get whole p ≡ Some l → slice_get (s.lines f) p ≡ Some l
  stands p l is = ap (λ (ls : List Line). slice_get ls p) has ∙ is

  at_return : (l : Line) (v p : ℕ) (t : State) → form_of l ≡ Return → slice_get whole p ≡ Some l → IsOwn frame frames used t → (ps : List ℕ) → t.pushed ≡ ps → returning P ps t → RawComes s bounds Q (1 + v) (f, p) t
  at_return l v p t e is own [] none h =
      on_form s bounds Q l Return v (1 + v) (f, p) t e (stands p l is) own.ended (none, subst HasFrame (sym own.frames) tt) (omega arith)
      (λ q u g bytes.
      let r = subst (λ (fs : List Frame). RawReturns fs t q u) own.frames g in
      here (subst (λ (q : Place). Q q u) (sym r.1) (subst (λ (u : State). Q frame.back u) (sym r.2) (ends t h (subst IsBytes r.2 bytes)))))
  at_return l v p t e is own (b ∷ bs) none h = absurd h

  at_pull : (rest : Way) (passed : List ℕ) (l : Line) (v p : ℕ) (t : State) → form_of l ≡ Pull → slice_get whole p ≡ Some l → IsOwn frame frames used t → Goes rest v (suc p) passed
      → (ps : List ℕ) → t.pushed ≡ ps → pulling rest ps t → RawComes s bounds Q (1 + v) (f, p) t
  at_pull rest passed l v p t e is own after [] none h = absurd h
  at_pull rest passed l v p t e is own after (b ∷ bs) some h =
      on_form s bounds Q l Pull v (1 + v) (f, p) t e (stands p l is) own.ended (b, bs, some) (omega arith)
      (λ q u g bytes.
      let split : b ∷ bs ≡ g.1.0 ∷ g.1.1 = sym some ∙ g.1.2 in
      let head : g.1.0 ≡ b = cc in
      let tail : g.1.1 ≡ bs = cc in
      let to : State = record t { regs = with_a b t.regs; pushed = bs } in
      let same : u ≡ to = g.1.3 ∙ (ap (λ (w : ℕ). let t' : State = record t { regs = with_a w t.regs; pushed = g.1.1 } in t') head ∙ ap (λ (w : List ℕ). let t' : State = record t { regs = with_a b t.regs; pushed = w } in t') tail) in
      moved_to s bounds Q v q (f, settle whole (suc p)) u to (g.0 ∙ ap (λ (ls : List Line). let q' : Place = (f, settle ls (suc p)) in q') has) same
      (after.by None to tt (subst IsBytes same bytes) (still_own frame frames used t to (record { frames = refl; ended = refl }) own) h))

  at_branch : (rest : Way) (passed : List ℕ) (v p l : ℕ) (t : State) → is_among passed l ≡ false → IsBytes t → IsOwn frame frames used t → Goes rest v (suc p) passed
      → (b : Bool) → rest (if b then Some l else None) t → RawComes s bounds Q v (f, settle whole (if b then labelled whole l else suc p)) t
  at_branch rest passed v p l t sought bytes own after true h = after.by (Some l) t sought bytes own h
  at_branch rest passed v p l t sought bytes own after false h = after.by None t tt bytes own h

  pub deep_line : (form : Form) (rest : Way) (passed : List ℕ) (l : Line) (v p : ℕ) (t : State) → form_of l ≡ form → slice_get whole p ≡ Some l → IsTrue (is_onward passed form)
      → IsOwn frame frames used t → Goes rest v (suc p) passed → by_deep s bounds deepest P form rest None t → RawComes s bounds Q (raw_weight form + v) (f, p) t
  deep_line (Plain op mode operand) rest passed l v p t e is onward own after h =
      let to : State = effect (kind_of op) op mode (word_of s.place operand) t in
      let parts = operand_parts s bounds (ref_of mode (word_of s.place operand) t) (rest None to) h in
      on_form s bounds Q l (Plain op mode operand) v (1 + v) (f, p) t e (stands p l is) own.ended parts.0 (omega arith)
      (λ q u g bytes. moved_to s bounds Q v q (f, settle whole (suc p)) u to (g.0 ∙ ap (λ (ls : List Line). let q' : Place = (f, settle ls (suc p)) in q') has) g.1
      (after.by None to tt (subst IsBytes g.1 bytes) (still_own frame frames used t to (let same = effect_stacks (kind_of op) op mode (word_of s.place operand) t in record { frames = same.frames; ended = same.ended }) own) parts.1))
  deep_line (Branch op k) rest passed l v p t e is onward own after h =
      on_form s bounds Q l (Branch op k) v (2 + v) (f, p) t e (stands p l is) own.ended tt (omega arith)
      (λ q u g bytes. moved_to s bounds Q v q (f, settle whole (if is_taken op t.regs then labelled whole k else suc p)) u t
      (g.0 ∙ ap (λ (ls : List Line). let q' : Place = (f, settle ls (if is_taken op t.regs then labelled ls k else suc p)) in q') has) g.1
      (at_branch rest passed v p k t (not_parts (is_among passed k) onward) (subst IsBytes g.1 bytes) own after (is_taken op t.regs) (h (is_taken op t.regs) refl)))
  deep_line (Jump k) rest passed l v p t e is onward own after h =
      on_form s bounds Q l (Jump k) v (1 + v) (f, p) t e (stands p l is) own.ended tt (omega arith)
      (λ q u g bytes. moved_to s bounds Q v q (f, settle whole (labelled whole k)) u t
      (g.0 ∙ ap (λ (ls : List Line). let q' : Place = (f, settle ls (labelled ls k)) in q') has) g.1
      (after.by (Some k) t (not_parts (is_among passed k) onward) (subst IsBytes g.1 bytes) own h))
  deep_line Push rest passed l v p t e is onward own after h =
      let few = h.0 in
      let calls = own.used in
      let deep : bounds.hard + 1 ≤ s_of t = omega arith in
      let to : State = record t { pushed = t.regs.a ∷ t.pushed } in
      on_form s bounds Q l Push v (1 + v) (f, p) t e (stands p l is) own.ended deep (omega arith)
      (λ q u g bytes. moved_to s bounds Q v q (f, settle whole (suc p)) u to (g.0 ∙ ap (λ (ls : List Line). let q' : Place = (f, settle ls (suc p)) in q') has) g.1
      (after.by None to tt (subst IsBytes g.1 bytes) (still_own frame frames used t to (record { frames = refl; ended = refl }) own) h.1))
  deep_line Pull rest passed l v p t e is onward own after h = at_pull rest passed l v p t e is own after t.pushed refl h
  deep_line Return rest passed l v p t e is onward own after h = at_return l v p t e is own t.pushed refl h
  deep_line Mark rest passed l v p t e is onward own after h = absurd h
  deep_line (Far at) rest passed l v p t e is onward own after h = absurd h
  deep_line Depth rest passed l v p t e is onward own after h =
      let to : State = record t { regs = with_x (s_of t) t.regs } in
      on_form s bounds Q l Depth v (1 + v) (f, p) t e (stands p l is) own.ended tt (omega arith)
      (λ q u g bytes. moved_to s bounds Q v q (f, settle whole (suc p)) u to (g.0 ∙ ap (λ (ls : List Line). let q' : Place = (f, settle ls (suc p)) in q') has) g.1
      (after.by None to tt (subst IsBytes g.1 bytes) (still_own frame frames used t to (record { frames = refl; ended = refl }) own) h))
  deep_line (Run r) rest passed l v p t e is onward own after h = absurd h
  deep_line (Enter g reads gives) rest passed l v p t e is onward own after h = absurd h
  deep_line (Through reads gives) rest passed l v p t e is onward own after h = absurd h
  deep_line Stray rest passed l v p t e is onward own after h = absurd h

  row_line : (r : Routine) (rest : Way) (passed : List ℕ) (v p : ℕ) (t : State) → slice_get whole p ≡ Some (Call (callees.Routine r)) → IsBytes t → IsOwn frame frames used t → Goes rest v (suc p) passed
      → (o : Option Row) → hook_row s.args r t ≡ o → by_row s bounds deepest takes o r rest t → RawComes s bounds Q (2 + (takes r).weight + v) (f, p) t
  row_line r rest passed v p t is bytes own after None e c =
      let calls = own.used in
      let hard = c.hard in
      let may : MayRunIn s bounds (takes r).below (takes r).pushed c.row t = record { ready = c.ready; near = c.near; far = c.far; soft = c.soft; hard = omega arith; high = c.high; bytes = bytes; running = own.ended; data_low = c.data_low } in
      let room_for : bounds.hard + 2 ≤ s_of t = omega arith in
      let start : Place = (f, p) in
      let behind : Place = line_after s start in
      let weight : ℕ = (takes r).weight in
      on_form s bounds Q (Call (callees.Routine r)) (Run r) (weight + v) (2 + weight + v) start t refl (stands p (Call (callees.Routine r)) is) own.ended
      (subst (λ (k : Option Row). IsHookWithin s.place bounds k t) (sym e) room_for) (omega arith)
      (λ q u g after_call. let enters = subst (λ (k : Option Row). RawRuns s k r start t q u) e g in
      moved_to s bounds Q (weight + v) q (entry_of s (s.routine r)) u (called behind t) enters.0 enters.1
      (bind s bounds (HasDone None c.row behind t) Q weight v (entry_of s (s.routine r)) (called behind t)
      (subst (λ (k : Option ℕ). RawComes s bounds (HasDone k c.row behind t) weight (entry_of s (s.routine r)) (called behind t)) c.goes_on (c.comes may behind))
      (λ q u back. let m = back.1 in
      moved_to s bounds Q v q (f, settle whole (suc p)) u u (back.0 ∙ ap (λ (ls : List Line). let q' : Place = (f, settle ls (suc p)) in q') has) refl
      (after.by None u tt back.2 (still_own frame frames used t u (record { frames = m.frames; ended = m.ended ∙ (c.goes_on ∙ sym own.ended) }) own) (c.follows u m back.2)))))
  row_line r rest passed v p t is bytes own after (Some row) e c =
      let calls = own.used in
      let hard = c.hard in
      let room_for : bounds.hard + 2 ≤ s_of t = omega arith in
      let start : Place = (f, p) in
      on_form s bounds Q (Call (callees.Routine r)) (Run r) v (2 + (takes r).weight + v) start t refl (stands p (Call (callees.Routine r)) is) own.ended
      (subst (λ (k : Option Row). IsHookWithin s.place bounds k t) (sym e) (room_for, c.near, c.far)) (omega arith)
      (λ q u g bytes. let back = subst (λ (k : Option Row). RawRuns s k r start t q u) e g in let m = back.1 in
      moved_to s bounds Q v q (f, settle whole (suc p)) u u (back.0 ∙ ap (λ (ls : List Line). let q' : Place = (f, settle ls (suc p)) in q') has) refl
      (after.by None u tt bytes (still_own frame frames used t u (record { frames = m.frames; ended = m.ended ∙ (c.goes_on ∙ sym own.ended) }) own) (c.follows u m bytes)))

  pub call_line : (callee : Callee) (rest : Way) (passed : List ℕ) (v p : ℕ) (t : State) → slice_get whole p ≡ Some (Call callee) → IsBytes t → IsOwn frame frames used t → Goes rest v (suc p) passed
      → by_call s bounds deepest takes callee rest None t → RawComes s bounds Q (call_weight takes callee + v) (f, p) t
  call_line (callees.Routine r) rest passed v p t is bytes own after h = row_line r rest passed v p t is bytes own after (hook_row s.args r t) refl h
  call_line (callees.Function g reads gives) rest passed v p t is bytes own after h = absurd h
  call_line (callees.Pointer reads gives) rest passed v p t is bytes own after h = absurd h

  -- a label is passed
  pub past_label : (p k : ℕ) (lines : List Line) (passed : List ℕ) → IsAt whole p (Label k ∷ lines) passed → settle whole p ≡ settle whole (suc p)
  past_label p k lines passed at =
      let e : p ≡ p + 0 = omega arith in
      let g : p + 1 ≡ suc p = omega arith in
      ap (settle whole) e ∙ (at.settles 0 ∙ (sym (at.settles 1) ∙ ap (settle whole) g))

  pub at_label : (p k l : ℕ) (v : ℕ) (lines : List Line) (passed : List ℕ) (t : State) → IsAt whole p (Label k ∷ lines) passed → is_among passed l ≡ false
      → (rest : Way) → Goes rest v (suc p) (k ∷ passed) → IsBytes t → IsOwn frame frames used t
      → (b : Bool) → (k == l) ≡ b → either b (rest None t) (rest (Some l) t) → RawComes s bounds Q v (f, settle whole (labelled whole l)) t
  at_label p k l v lines passed t at sought rest after bytes own true e h =
      let z : p + 0 ≡ p = omega arith in
      let here_it_is : labelled whole l ≡ p = at.labels l sought ∙ (ap (λ (b : Bool). p + (if b then 0 else suc (labelled lines l))) e ∙ z) in
      moved_to s bounds Q v (f, settle whole (labelled whole l)) (f, settle whole (suc p)) t t
      (ap (λ (n : ℕ). let q : Place = (f, n) in q) (ap (settle whole) here_it_is ∙ past_label p k lines passed at)) refl (after.by None t tt bytes own h)
  at_label p k l v lines passed t at sought rest after bytes own false e h =
      after.by (Some l) t (or_none (nat_eq l k) (is_among passed l) (eq_flip k l e) sought) bytes own h

  pub walk : (lines : List Line) (p : ℕ) (passed : List ℕ) (skip : Option ℕ) (t : State) → IsAt whole p lines passed → IsTrue (leads_forward passed lines) → IsSought passed skip → IsBytes t → IsOwn frame frames used t
      → leads_in s bounds deepest takes P lines skip t → RawComes s bounds Q (weight_in takes lines) (f, place_at whole p skip) t
  unfolding leads_in
  walk [] p passed skip t at onward sought bytes own h = absurd h
  walk (Label k ∷ lines) p passed None t at onward sought bytes own h =
      moved_to s bounds Q (weight_in takes lines) (f, settle whole p) (f, settle whole (suc p)) t t (ap (λ (n : ℕ). let q : Place = (f, n) in q) (past_label p k lines passed at)) refl
      (walk lines (suc p) (k ∷ passed) None t (next_label whole p k lines passed at) onward tt bytes own h)
  walk (Label k ∷ lines) p passed (Some l) t at onward sought bytes own h =
      at_label p k l (weight_in takes lines) lines passed t at sought (leads_in s bounds deepest takes P lines)
      (record { by = λ skip u sought bytes own h. walk lines (suc p) (k ∷ passed) skip u (next_label whole p k lines passed at) onward sought bytes own h })
      bytes own (k == l) refl h
  walk (Do op mode operand ∷ lines) p passed None t at onward sought bytes own h =
      let parts = and_parts (is_onward passed (op_form (kind_of op) op mode operand)) (leads_forward passed lines) onward in
      let e : p ≡ p + 0 = omega arith in
      moved_to s bounds Q _ (f, settle whole p) (f, p) t t (ap (λ (n : ℕ). let q : Place = (f, n) in q) (ap (settle whole) e ∙ (at.settles 0 ∙ sym e))) refl
      (deep_line (op_form (kind_of op) op mode operand) (leads_in s bounds deepest takes P lines) passed (Do op mode operand) (weight_in takes lines) p t refl
      (ap (slice_get whole) e ∙ at.get 0) parts.0 own
      (record { by = λ skip u sought bytes own h. walk lines (suc p) passed skip u (next_do whole p op mode operand lines passed at) parts.1 sought bytes own h })
      h)
  walk (Do op mode operand ∷ lines) p passed (Some l) t at onward sought bytes own h =
      let parts = and_parts (is_onward passed (op_form (kind_of op) op mode operand)) (leads_forward passed lines) onward in
      weaken s bounds Q (weight_in takes lines) (raw_weight (op_form (kind_of op) op mode operand) + weight_in takes lines) (f, settle whole (labelled whole l)) t (omega arith)
      (walk lines (suc p) passed (Some l) t (next_do whole p op mode operand lines passed at) parts.1 sought bytes own h)
  walk (Call callee ∷ lines) p passed None t at onward sought bytes own h =
      let e : p ≡ p + 0 = omega arith in
      moved_to s bounds Q _ (f, settle whole p) (f, p) t t (ap (λ (n : ℕ). let q : Place = (f, n) in q) (ap (settle whole) e ∙ (at.settles 0 ∙ sym e))) refl
      (call_line callee (leads_in s bounds deepest takes P lines) passed (weight_in takes lines) p t (ap (slice_get whole) e ∙ at.get 0) bytes own
      (record { by = λ skip u sought bytes own h. walk lines (suc p) passed skip u (next_call whole p callee lines passed at) onward sought bytes own h })
      h)
  walk (Call callee ∷ lines) p passed (Some l) t at onward sought bytes own h =
      weaken s bounds Q (weight_in takes lines) (call_weight takes callee + weight_in takes lines) (f, settle whole (labelled whole l)) t (omega arith)
      (walk lines (suc p) passed (Some l) t (next_call whole p callee lines passed at) onward sought bytes own h)

pub called_bytes : (back : Place) (t : State) → IsBytes t → IsBytes (called back t)
called_bytes back t bytes = record {
  a = bytes.a;
  x = bytes.x;
  y = bytes.y;
  zp = bytes.zp;
  mem = bytes.mem;
  pushed = All-nil (λ v. v < 256);
  frames = All-cons (λ (f : Frame). All (λ v. v < 256) f.pushed) (record { back = back; pushed = t.pushed; gives = no_parts }) t.frames bytes.pushed bytes.frames;
}

-- a routine whose lines lead to a state of its row, called where so many bytes of the hard stack are left behind its return point
pub walks_calling : (s : RawSetting) (bounds : Bounds) (deepest : ℕ) (takes : Routine → Takes) (r : Routine) (row : Row) (back : Place) (t : State) (lines : List Line) → s.lines (s.routine r) ≡ lines → IsTrue (leads_forward [] lines)
    → bounds.hard + 2 + deepest ≤ s_of t → IsBytes t → t.ended ≡ None → row.ends ≡ None → leads_in s bounds deepest takes (Ends row t) lines None (called back t)
    → RawComes s bounds (HasDone row.ends row back t) (weight_in takes lines) (entry_of s (s.routine r)) (called back t)
walks_calling s bounds deepest takes r row back t lines has onward deep bytes running ends h =
    let frame : Frame = record { back = back; pushed = t.pushed; gives = no_parts } in
    let used : ℕ = sum_by (λ (f : Frame). 2 + length f.pushed) (frame ∷ t.frames) in
    let sum : sum_by (λ (f : Frame). 2 + length f.pushed) (frame ∷ t.frames) ≡ 2 + length t.pushed + sum_by (λ (f : Frame). 2 + length f.pushed) t.frames = sum_by-cons (λ (f : Frame). 2 + length f.pushed) frame t.frames in
    let room : bounds.hard + deepest ≤ 253 - used = omega arith in
    let weight : ℕ = weight_in takes lines in
    moved_to s bounds (HasDone row.ends row back t) weight (entry_of s (s.routine r)) (s.routine r, settle lines 0) (called back t) (called back t)
    (ap (λ (ls : List Line). let q : Place = (s.routine r, settle ls 0) in q) has) refl
    (subst (λ (e : Option ℕ). RawComes s bounds (HasDone e row back t) weight (s.routine r, settle lines 0) (called back t)) (sym ends)
    (walk s bounds deepest takes (HasDone None row back t) (Ends row t) (s.routine r) lines frame t.frames used has room (λ u m bytes. (refl, m, bytes)) lines 0 [] None (called back t) (whole_at lines) onward tt (called_bytes back t bytes)
    (record { frames = refl; ended = running; used = refl }) h))

-- Lines without calls that lead to their return do so here, where all that they push is within the deepest.
when_more : (b : Bool) (P Q : Type 0) → (P → Q) → when b P → when b Q
when_more true P Q more h = more h
when_more false P Q more h = absurd h

when_holds : (b : Bool) (P : Type 0) → when b P → P
when_holds true P h = h
when_holds false P h = absurd h

operand_more : (s : RawSetting) (bounds : Bounds) (ref : Ref) (P Q : Type 0) → (P → Q) → at_operand s.place bounds ref P → at_operand s.place bounds ref Q
operand_more s bounds (Given v) P Q more h = more h
operand_more s bounds (ZeroAt i) P Q more h = when_more (nat_lt i 256) P Q more h
operand_more s bounds (MemAt b) P Q more h = (h.0, more h.1)

module _ (s : RawSetting) (bounds : Bounds) (deepest : ℕ) (takes : Routine → Takes) (P : State → Type 0) where
  abbrev pub Deeper : ℕ → Way → Way → Type 0
  Deeper n a b = (skip : Option ℕ) (u : State) → length u.pushed + n ≤ deepest → a skip u → b skip u

  pull_in : (n : ℕ) (a b : Way) → Deeper n a b → (ps : List ℕ) (t : State) → length ps + n ≤ deepest → pulling a ps t → pulling b ps t
  pull_in n a b more [] t few h = h
  pull_in n a b more (v ∷ vs) t few h = more None (record t { regs = with_a v t.regs; pushed = vs }) (omega arith) h

  pub form_in : (form : Form) (n : ℕ) (a b : Way) → Deeper n a b → (t : State) → length t.pushed + (push_of form + n) ≤ deepest → by_form s.place bounds P form a None t → by_deep s bounds deepest P form b None t
  form_in (Plain op mode operand) n a b more t few h =
      let to : State = effect (kind_of op) op mode (word_of s.place operand) t in
      let same = ap (λ (ps : List ℕ). length ps) (effect_stacks (kind_of op) op mode (word_of s.place operand) t).pushed in
      operand_more s bounds (ref_of mode (word_of s.place operand) t) (a None to) (b None to) (more None to (omega arith)) h
  form_in (Branch op l) n a b more t few h = λ taken e. more (if taken then Some l else None) t (omega arith) (h taken e)
  form_in (Jump l) n a b more t few h = more (Some l) t (omega arith) h
  form_in Push n a b more t few h =
      let to : State = record t { pushed = t.regs.a ∷ t.pushed } in
      ((omega arith), more None to (omega arith) (when_holds (nat_lt (length t.pushed) 24) (a None to) h))
  form_in Pull n a b more t few h = pull_in n a b more t.pushed t (omega arith) h
  form_in Return n a b more t few h = h
  form_in Mark n a b more t few h = h
  form_in (Far at) n a b more t few h = h
  form_in Depth n a b more t few h = absurd h
  form_in (Run r) n a b more t few h = h
  form_in (Enter g reads gives) n a b more t few h = h
  form_in (Through reads gives) n a b more t few h = h
  form_in Stray n a b more t few h = h

  line_in : (form : Form) (n : ℕ) (a b : Way) → Deeper n a b → Deeper (push_of form + n) (by_form s.place bounds P form a) (by_deep s bounds deepest P form b)
  line_in form n a b more (Some l) t few h = more (Some l) t (omega arith) h
  line_in form n a b more None t few h = form_in form n a b more t few h

  pub label_in : (k n : ℕ) (a b : Way) → Deeper n a b → Deeper n (by_label k a) (by_label k b)
  label_in k n a b more None t few h = more None t few h
  label_in k n a b more (Some l) t few h = chosen (k == l) h
    where
      chosen : (c : Bool) → either c (a None t) (a (Some l) t) → either c (b None t) (b (Some l) t)
      chosen true h = more None t few h
      chosen false h = more (Some l) t few h

  pub stray_in : (callee : Callee) (n : ℕ) (a b : Way) → Deeper n a b → Deeper n (by_form s.place bounds P Stray a) (by_call s bounds deepest takes callee b)
  stray_in callee n a b more (Some l) t few h = more (Some l) t few h
  stray_in callee n a b more None t few h = absurd h

  pub straight_in : (lines : List Line) → Deeper (pushed_by lines) (leads s.place bounds P lines) (leads_in s bounds deepest takes P lines)
  unfolding leads leads_in
  straight_in [] = λ skip t few h. h
  straight_in (Label k ∷ lines) = λ skip t few h. label_in k (pushed_by lines) _ _ (straight_in lines) skip t (omega arith) h
  straight_in (Do op mode operand ∷ lines) = line_in (op_form (kind_of op) op mode operand) (pushed_by lines) _ _ (straight_in lines)
  straight_in (Call callee ∷ lines) = λ skip t few h. stray_in callee (pushed_by lines) _ _ (straight_in lines) skip t (omega arith) h
