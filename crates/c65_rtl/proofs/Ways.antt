-- What has to hold at a list of lines that leads forward only, so that the raw machine comes through it to its return.
use Rattle.std.proofs.Common.{◌≡◌, ℕ, suc, ◌+◌, ◌-◌, ◌<◌, ◌≤◌, Bool, true, false, IsTrue, not, List, [], ◌∷◌, Option, Some, None, slice_get, length, nat_eq, refl, sym, ap, subst, ◌∙◌, arith}
use Rattle.std.specs.Prelude.{◌==◌, if◌then◌else◌, ◌&&◌, ◌||◌, nat_lt, sum_by}
use Rattle.std.proofs.lemmas.Bool.Decides.{Decides-ltb, nat_tests}
use Rattle.std.proofs.lemmas.List.Sums.{sum_by-cons}
use Rattle.c65_mach.specs.declared.rows.Op.{Op}
use Rattle.c65_mach.specs.declared.rows.Mode.{Mode}
use Rattle.c65_mach.specs.declared.rows.Mode.TheVariants as modes
use Rattle.c65_mach.specs.Step.{signed, changed, stored, with_a, is_taken, Kind, Reads, Stores, Changes, Branches, Registers, Moves, kind_of}
use Rattle.c65_code.specs.declared.line.Operand.{Operand}
use Rattle.c65_code.specs.declared.line.Callee.{Callee}
use Rattle.c65_code.specs.declared.line.Line.{Line}
use Rattle.c65_code.specs.declared.line.Line.TheVariants.{Label, Do, Call}
use Rattle.c65_code.specs.declared.routine.Routine.{Routine}
use Rattle.c65_code.specs.LineState.{Place, State, Frame, s_of, IsBytes}
use Rattle.c65_code.specs.Placement.{Placement, word_of}
use Rattle.c65_code.specs.Forms.{Form, Mark, Plain, Branch, Jump, Far, Push, Pull, Depth, Return, Run, Enter, Through, Stray, form_of, op_form}
use Rattle.c65_code.specs.Rows.{Row, Meets}
use Rattle.c65_code.specs.Moves.{Ref, Given, ZeroAt, MemAt, ref_of, value_at, put, change, effect, settle, labelled, next}
use Rattle.c65_code.specs.Parts.{no_parts}
use Rattle.c65_code.specs.Segments.{is_among}
use Rattle.c65_code.specs.RawMachine.{RawSetting, Bounds, IsReachable, IsRawOpen, IsRawWithin, RawComes, here, on, RawGoes, raw_weight, HasFrame, RawReturns, HasDone, called, entry_of, MayRun, reach_of, Runs}
use Rattle.c65_rtl.specs.Short.{IsShort, is_onward, leads_on, total_weight}

-- where lines lead from a state: at once, or from the label on that is sought
abbrev pub Way : Type 1
Way = Option ℕ → State → Type 0

abbrev pub when : Bool → Type 0 → Type 0
when true P = P
when false P = ⊥

abbrev pub either : Bool → Type 0 → Type 0 → Type 0
either true P Q = P
either false P Q = Q

abbrev pub at_operand : Placement → Bounds → Ref → Type 0 → Type 0
at_operand place bounds (Given v) rest = rest
at_operand place bounds (ZeroAt i) rest = when (nat_lt i 256) rest
at_operand place bounds (MemAt b) rest = IsReachable place bounds b × rest

abbrev pub pulling : Way → List ℕ → State → Type 0
pulling rest [] t = ⊥
pulling rest (v ∷ vs) t = rest None (record t { regs = with_a v t.regs; pushed = vs })

abbrev pub returning : (State → Type 0) → List ℕ → State → Type 0
returning P [] t = P t
returning P (v ∷ vs) t = ⊥

abbrev pub by_form : Placement → Bounds → (State → Type 0) → Form → Way → Way
by_form place bounds P form rest (Some l) t = rest (Some l) t
by_form place bounds P (Plain op mode operand) rest None t = at_operand place bounds (ref_of mode (word_of place operand) t) (rest None (effect (kind_of op) op mode (word_of place operand) t))
by_form place bounds P (Branch op l) rest None t = (b : Bool) → is_taken op t.regs ≡ b → rest (if b then Some l else None) t
by_form place bounds P (Jump l) rest None t = rest (Some l) t
by_form place bounds P Push rest None t = when (nat_lt (length t.pushed) 24) (rest None (record t { pushed = t.regs.a ∷ t.pushed }))
by_form place bounds P Pull rest None t = pulling rest t.pushed t
by_form place bounds P Return rest None t = returning P t.pushed t
by_form place bounds P _ rest None t = ⊥

abbrev pub by_label : ℕ → Way → Way
by_label k rest None t = rest None t
by_label k rest (Some l) t = either (k == l) (rest None t) (rest (Some l) t)

-- the lines come to a return in a state of P
unfoldable pub leads : Placement → Bounds → (State → Type 0) → List Line → Way
leads place bounds P [] = λ skip t. ⊥
leads place bounds P (Label k ∷ lines) = by_label k (leads place bounds P lines)
leads place bounds P (Do op mode operand ∷ lines) = by_form place bounds P (op_form (kind_of op) op mode operand) (leads place bounds P lines)
leads place bounds P (Call callee ∷ lines) = by_form place bounds P Stray (leads place bounds P lines)

-- a part of a list of lines, from a place on; no label that was not passed stands before it
pub record IsAt (whole : List Line) (p : ℕ) (lines : List Line) (passed : List ℕ) : Type 0 where
  pub get : (i : ℕ) → slice_get whole (p + i) ≡ slice_get lines i
  pub settles : (i : ℕ) → settle whole (p + i) ≡ p + settle lines i
  pub labels : (l : ℕ) → is_among passed l ≡ false → labelled whole l ≡ p + labelled lines l

pub and_parts : (a b : Bool) → IsTrue (a && b) → IsTrue a × IsTrue b
and_parts true b h = (refl, h)
and_parts false b h = cc

pub or_parts : (a b : Bool) → (a || b) ≡ false → (a ≡ false) × (b ≡ false)
or_parts true b h = cc
or_parts false b h = (refl, h)

pub or_none : (a b : Bool) → a ≡ false → b ≡ false → (a || b) ≡ false
or_none true b h g = cc
or_none false b h g = g

pub not_parts : (a : Bool) → IsTrue (not a) → a ≡ false
not_parts true h = cc
not_parts false h = refl

when_parts : (b : Bool) (P : Type 0) → when b P → IsTrue b × P
when_parts true P h = (refl, h)
when_parts false P h = absurd h

pub eq_flip : (l k : ℕ) → nat_eq l k ≡ false → nat_eq k l ≡ false
eq_flip l k h = grind (arith, nat_tests)

pub whole_at : (whole : List Line) → IsAt whole 0 whole []
whole_at whole = record {
  get = λ i. let e : 0 + i ≡ i = omega arith in ap (slice_get whole) e;
  settles = λ i. let e : 0 + i ≡ i = omega arith in let f : settle whole i ≡ 0 + settle whole i = omega arith in ap (settle whole) e ∙ f;
  labels = λ l h. omega arith;
}

pub next_do : (whole : List Line) (p : ℕ) (op : Op) (mode : Mode) (operand : Operand) (lines : List Line) (passed : List ℕ) → IsAt whole p (Do op mode operand ∷ lines) passed → IsAt whole (suc p) lines passed
next_do whole p op mode operand lines passed at = record {
  get = λ i. let e : suc p + i ≡ p + suc i = omega arith in ap (slice_get whole) e ∙ at.get (suc i);
  settles = λ i. let e : suc p + i ≡ p + suc i = omega arith in let f : p + suc (settle lines i) ≡ suc p + settle lines i = omega arith in ap (settle whole) e ∙ (at.settles (suc i) ∙ f);
  labels = λ l h. let f : p + suc (labelled lines l) ≡ suc p + labelled lines l = omega arith in at.labels l h ∙ f;
}

pub next_call : (whole : List Line) (p : ℕ) (callee : Callee) (lines : List Line) (passed : List ℕ) → IsAt whole p (Call callee ∷ lines) passed → IsAt whole (suc p) lines passed
next_call whole p callee lines passed at = record {
  get = λ i. let e : suc p + i ≡ p + suc i = omega arith in ap (slice_get whole) e ∙ at.get (suc i);
  settles = λ i. let e : suc p + i ≡ p + suc i = omega arith in let f : p + suc (settle lines i) ≡ suc p + settle lines i = omega arith in ap (settle whole) e ∙ (at.settles (suc i) ∙ f);
  labels = λ l h. let f : p + suc (labelled lines l) ≡ suc p + labelled lines l = omega arith in at.labels l h ∙ f;
}

pub next_label : (whole : List Line) (p k : ℕ) (lines : List Line) (passed : List ℕ) → IsAt whole p (Label k ∷ lines) passed → IsAt whole (suc p) lines (k ∷ passed)
next_label whole p k lines passed at = record {
  get = λ i. let e : suc p + i ≡ p + suc i = omega arith in ap (slice_get whole) e ∙ at.get (suc i);
  settles = λ i. let e : suc p + i ≡ p + suc i = omega arith in let f : p + suc (settle lines i) ≡ suc p + settle lines i = omega arith in ap (settle whole) e ∙ (at.settles (suc i) ∙ f);
  labels = λ l h.
      let parts = or_parts (nat_eq l k) (is_among passed l) h in
      let f : p + suc (labelled lines l) ≡ suc p + labelled lines l = omega arith in
      at.labels l parts.1 ∙ (ap (λ (b : Bool). p + (if b then 0 else suc (labelled lines l))) (eq_flip l k parts.0) ∙ f);
}

-- where the machine stands: at a place, or at the label that is sought
abbrev pub place_at : List Line → ℕ → Option ℕ → ℕ
place_at whole p None = settle whole p
place_at whole p (Some l) = settle whole (labelled whole l)

abbrev pub IsSought : List ℕ → Option ℕ → Type 0
IsSought passed None = Unit {0}
IsSought passed (Some l) = is_among passed l ≡ false

-- a state in which the call is the active one
pub record IsOwn (frame : Frame) (callers : List Frame) (bytes : ℕ) (t : State) : Type 0 where
  pub frames : t.frames ≡ frame ∷ callers
  pub ended : t.ended ≡ None
  pub used : sum_by (λ (f : Frame). 2 + length f.pushed) t.frames ≡ bytes

pub record SameCalls (t u : State) : Type 0 where
  pub frames : u.frames ≡ t.frames
  pub ended : u.ended ≡ t.ended

put_calls : (ref : Ref) (v : ℕ) (t : State) → SameCalls t (put ref v t)
put_calls (Given w) v t = record { frames = refl; ended = refl }
put_calls (ZeroAt i) v t = record { frames = refl; ended = refl }
put_calls (MemAt b) v t = record { frames = refl; ended = refl }

put_on_calls : (ref : Ref) (v : ℕ) (t u : State) → SameCalls t u → SameCalls t (put ref v u)
put_on_calls ref v t u same = let put = put_calls ref v u in record { frames = put.frames ∙ same.frames; ended = put.ended ∙ same.ended }

change_calls : (op : Op) (mode : Mode) (w : ℕ) (t : State) → SameCalls t (change op mode w t)
change_calls op modes.Accumulator w t = record { frames = refl; ended = refl }
change_calls op mode w t =
    let to = changed op (value_at (ref_of mode w t) t) t.regs in
    put_on_calls (ref_of mode w t) to.0 t (record t { regs = record (signed to.0 t.regs) { c = to.1 } }) (record { frames = refl; ended = refl })

effect_calls : (kind : Kind) (op : Op) (mode : Mode) (w : ℕ) (t : State) → SameCalls t (effect kind op mode w t)
effect_calls Reads op mode w t = record { frames = refl; ended = refl }
effect_calls Stores op mode w t = put_calls (ref_of mode w t) (stored op t.regs) t
effect_calls Changes op mode w t = change_calls op mode w t
effect_calls Registers op mode w t = record { frames = refl; ended = refl }
effect_calls Branches op mode w t = record { frames = refl; ended = refl }
effect_calls Moves op mode w t = record { frames = refl; ended = refl }

pub still_own : (frame : Frame) (frames : List Frame) (used : ℕ) (t u : State) → SameCalls t u → IsOwn frame frames used t → IsOwn frame frames used u
still_own frame frames used t u same own = record {
  frames = same.frames ∙ own.frames;
  ended = same.ended ∙ own.ended;
  used = ap (sum_by (λ (f : Frame). 2 + length f.pushed)) same.frames ∙ own.used;
}

open_operand : (place : Placement) (bounds : Bounds) (ref : Ref) (P : Type 0) → at_operand place bounds ref P → IsRawOpen place bounds ref × P
open_operand place bounds (Given v) P h = (tt, h)
open_operand place bounds (ZeroAt i) P h = let parts = when_parts (nat_lt i 256) P h in ((Decides-ltb i 256).0 parts.0, parts.1)
open_operand place bounds (MemAt b) P h = h

pub weaken : (s : RawSetting) (bounds : Bounds) (Q : Place → State → Type 0) (v w : ℕ) (p : Place) (t : State) → v ≤ w → RawComes s bounds Q v p t → RawComes s bounds Q w p t
weaken s bounds Q v w p t le (here h) = here h
weaken s bounds Q v w p t le (on {v = u} l is running within fits next) = on {v = u} l is running within (omega arith) next

-- the line's form is known
pub on_form : (s : RawSetting) (bounds : Bounds) (Q : Place → State → Type 0) (l : Line) (form : Form) (v w : ℕ) (p : Place) (t : State)
    → form_of l ≡ form → slice_get (s.lines p.0) p.1 ≡ Some l → t.ended ≡ None → IsRawWithin s bounds form t → raw_weight form + v ≤ w
    → ((q : Place) (u : State) → RawGoes s form p t q u → IsBytes u → RawComes s bounds Q v q u) → RawComes s bounds Q w p t
on_form s bounds Q l form v w p t e is running within fits next =
    on {v = v} l is running (subst (λ (f : Form). IsRawWithin s bounds f t) (sym e) within) (subst (λ (f : Form). raw_weight f + v ≤ w) (sym e) fits)
    (λ q u m. next q u (subst (λ (f : Form). RawGoes s f p t q u) e m.goes) m.bytes)

pub moved_to : (s : RawSetting) (bounds : Bounds) (Q : Place → State → Type 0) (v : ℕ) (q r : Place) (u w : State) → q ≡ r → u ≡ w → RawComes s bounds Q v r w → RawComes s bounds Q v q u
moved_to s bounds Q v q r u w same_place same_state c = subst (λ (q : Place). RawComes s bounds Q v q u) (sym same_place) (subst (λ (u : State). RawComes s bounds Q v r u) (sym same_state) c)

module _ (s : RawSetting) (bounds : Bounds) (Q : Place → State → Type 0) (P : State → Type 0) (f : ℕ) (whole : List Line) (frame : Frame) (frames : List Frame) (used : ℕ)
    (has : s.lines f ≡ whole) (room : bounds.hard + 24 ≤ 253 - used) (ends : (u : State) → P u → IsBytes (record u { pushed = frame.pushed; frames = frames }) → Q frame.back (record u { pushed = frame.pushed; frames = frames })) where
  -- what is known of the lines behind a line
  pub record Goes_on (rest : Way) (v p : ℕ) (passed : List ℕ) : Type 0 where
    pub by : (skip : Option ℕ) (u : State) → IsSought passed skip → IsOwn frame frames used u → rest skip u → RawComes s bounds Q v (f, place_at whole p skip) u

  at_return : (rest : Way) (l : Line) (v p : ℕ) (t : State) → form_of l ≡ Return → slice_get whole p ≡ Some l → IsOwn frame frames used t
      → (ps : List ℕ) → t.pushed ≡ ps → returning P ps t → RawComes s bounds Q (1 + v) (f, p) t
  at_return rest l v p t e is own [] none h =
      on_form s bounds Q l Return v (1 + v) (f, p) t e (ap (λ (ls : List Line). slice_get ls p) has ∙ is) own.ended (none, subst HasFrame (sym own.frames) tt) (omega arith)
      (λ q u g bytes.
      let r = subst (λ (fs : List Frame). RawReturns fs t q u) own.frames g in
      here (subst (λ (q : Place). Q q u) (sym r.1) (subst (λ (u : State). Q frame.back u) (sym r.2) (ends t h (subst IsBytes r.2 bytes)))))
  at_return rest l v p t e is own (b ∷ bs) none h = absurd h

  at_pull : (rest : Way) (passed : List ℕ) (l : Line) (v p : ℕ) (t : State) → form_of l ≡ Pull → slice_get whole p ≡ Some l → IsOwn frame frames used t → Goes_on rest v (suc p) passed
      → (ps : List ℕ) → t.pushed ≡ ps → pulling rest ps t → RawComes s bounds Q (1 + v) (f, p) t
  at_pull rest passed l v p t e is own after [] none h = absurd h
  at_pull rest passed l v p t e is own after (b ∷ bs) some h =
      on_form s bounds Q l Pull v (1 + v) (f, p) t e (ap (λ (ls : List Line). slice_get ls p) has ∙ is) own.ended (b, bs, some) (omega arith)
      (λ q u g bytes.
      let split : b ∷ bs ≡ g.1.0 ∷ g.1.1 = sym some ∙ g.1.2 in
      let head : g.1.0 ≡ b = cc in
      let tail : g.1.1 ≡ bs = cc in
      let to : State = record t { regs = with_a b t.regs; pushed = bs } in
      let same : u ≡ to = g.1.3 ∙ (ap (λ (w : ℕ). let t' : State = record t { regs = with_a w t.regs; pushed = g.1.1 } in t') head ∙ ap (λ (w : List ℕ). let t' : State = record t { regs = with_a b t.regs; pushed = w } in t') tail) in
      moved_to s bounds Q v q (f, settle whole (suc p)) u to (g.0 ∙ ap (λ (ls : List Line). let q' : Place = (f, settle ls (suc p)) in q') has) same
      (after.by None to tt (still_own frame frames used t to (record { frames = refl; ended = refl }) own) h))

  at_branch : (rest : Way) (passed : List ℕ) (v p l : ℕ) (t : State) → is_among passed l ≡ false → IsOwn frame frames used t → Goes_on rest v (suc p) passed
      → (b : Bool) → rest (if b then Some l else None) t → RawComes s bounds Q v (f, settle whole (if b then labelled whole l else suc p)) t
  at_branch rest passed v p l t sought own after true h = after.by (Some l) t sought own h
  at_branch rest passed v p l t sought own after false h = after.by None t tt own h

  pub by_line : (form : Form) (rest : Way) (passed : List ℕ) (l : Line) (v p : ℕ) (t : State) → form_of l ≡ form → slice_get whole p ≡ Some l → IsTrue (is_onward passed form)
      → IsOwn frame frames used t → Goes_on rest v (suc p) passed → by_form s.place bounds P form rest None t → RawComes s bounds Q (raw_weight form + v) (f, p) t
  by_line (Plain op mode operand) rest passed l v p t e is onward own after h =
      let parts = open_operand s.place bounds (ref_of mode (word_of s.place operand) t) (rest None (effect (kind_of op) op mode (word_of s.place operand) t)) h in
      let to : State = effect (kind_of op) op mode (word_of s.place operand) t in
      on_form s bounds Q l (Plain op mode operand) v (1 + v) (f, p) t e (ap (λ (ls : List Line). slice_get ls p) has ∙ is) own.ended parts.0 (omega arith)
      (λ q u g bytes. moved_to s bounds Q v q (f, settle whole (suc p)) u to (g.0 ∙ ap (λ (ls : List Line). let q' : Place = (f, settle ls (suc p)) in q') has) g.1
      (after.by None to tt (still_own frame frames used t to (effect_calls (kind_of op) op mode (word_of s.place operand) t) own) parts.1))
  by_line (Branch op k) rest passed l v p t e is onward own after h =
      on_form s bounds Q l (Branch op k) v (2 + v) (f, p) t e (ap (λ (ls : List Line). slice_get ls p) has ∙ is) own.ended tt (omega arith)
      (λ q u g bytes. moved_to s bounds Q v q (f, settle whole (if is_taken op t.regs then labelled whole k else suc p)) u t
      (g.0 ∙ ap (λ (ls : List Line). let q' : Place = (f, settle ls (if is_taken op t.regs then labelled ls k else suc p)) in q') has) g.1
      (at_branch rest passed v p k t (not_parts (is_among passed k) onward) own after (is_taken op t.regs) (h (is_taken op t.regs) refl)))
  by_line (Jump k) rest passed l v p t e is onward own after h =
      on_form s bounds Q l (Jump k) v (1 + v) (f, p) t e (ap (λ (ls : List Line). slice_get ls p) has ∙ is) own.ended tt (omega arith)
      (λ q u g bytes. moved_to s bounds Q v q (f, settle whole (labelled whole k)) u t
      (g.0 ∙ ap (λ (ls : List Line). let q' : Place = (f, settle ls (labelled ls k)) in q') has) g.1
      (after.by (Some k) t (not_parts (is_among passed k) onward) own h))
  by_line Push rest passed l v p t e is onward own after h =
      let parts = when_parts (nat_lt (length t.pushed) 24) _ h in
      let few : length t.pushed < 24 = (Decides-ltb (length t.pushed) 24).0 parts.0 in
      let calls = own.used in
      let deep : bounds.hard + 1 ≤ s_of t = omega arith in
      let to : State = record t { pushed = t.regs.a ∷ t.pushed } in
      on_form s bounds Q l Push v (1 + v) (f, p) t e (ap (λ (ls : List Line). slice_get ls p) has ∙ is) own.ended deep (omega arith)
      (λ q u g bytes. moved_to s bounds Q v q (f, settle whole (suc p)) u to (g.0 ∙ ap (λ (ls : List Line). let q' : Place = (f, settle ls (suc p)) in q') has) g.1
      (after.by None to tt (still_own frame frames used t to (record { frames = refl; ended = refl }) own) parts.1))
  by_line Pull rest passed l v p t e is onward own after h = at_pull rest passed l v p t e is own after t.pushed refl h
  by_line Return rest passed l v p t e is onward own after h = at_return rest l v p t e is own t.pushed refl h
  by_line Mark rest passed l v p t e is onward own after h = absurd h
  by_line (Far at) rest passed l v p t e is onward own after h = absurd h
  by_line Depth rest passed l v p t e is onward own after h = absurd h
  by_line (Run r) rest passed l v p t e is onward own after h = absurd h
  by_line (Enter g reads gives) rest passed l v p t e is onward own after h = absurd h
  by_line (Through reads gives) rest passed l v p t e is onward own after h = absurd h
  by_line Stray rest passed l v p t e is onward own after h = absurd h

  -- a label is passed
  pub past_label : (p k : ℕ) (lines : List Line) (passed : List ℕ) → IsAt whole p (Label k ∷ lines) passed → settle whole p ≡ settle whole (suc p)
  past_label p k lines passed at =
      let e : p ≡ p + 0 = omega arith in
      let g : p + 1 ≡ suc p = omega arith in
      ap (settle whole) e ∙ (at.settles 0 ∙ (sym (at.settles 1) ∙ ap (settle whole) g))

  pub on_line : (p : ℕ) (op : Op) (mode : Mode) (operand : Operand) (lines : List Line) (passed : List ℕ) → IsAt whole p (Do op mode operand ∷ lines) passed → settle whole p ≡ p
  on_line p op mode operand lines passed at =
      let e : p ≡ p + 0 = omega arith in
      ap (settle whole) e ∙ (at.settles 0 ∙ sym e)

  pub at_label : (p k l : ℕ) (v : ℕ) (lines : List Line) (passed : List ℕ) (t : State) → IsAt whole p (Label k ∷ lines) passed → is_among passed l ≡ false
      → (rest : Way) → Goes_on rest v (suc p) (k ∷ passed) → IsOwn frame frames used t
      → (b : Bool) → (k == l) ≡ b → either b (rest None t) (rest (Some l) t) → RawComes s bounds Q v (f, settle whole (labelled whole l)) t
  at_label p k l v lines passed t at sought rest after own true e h =
      let z : p + 0 ≡ p = omega arith in
      let here_it_is : labelled whole l ≡ p = at.labels l sought ∙ (ap (λ (b : Bool). p + (if b then 0 else suc (labelled lines l))) e ∙ z) in
      moved_to s bounds Q v (f, settle whole (labelled whole l)) (f, settle whole (suc p)) t t
      (ap (λ (n : ℕ). let q : Place = (f, n) in q) (ap (settle whole) here_it_is ∙ past_label p k lines passed at)) refl (after.by None t tt own h)
  at_label p k l v lines passed t at sought rest after own false e h =
      after.by (Some l) t (or_none (nat_eq l k) (is_among passed l) (eq_flip k l e) sought) own h

  through : (lines : List Line) (p : ℕ) (passed : List ℕ) (skip : Option ℕ) (t : State) → IsAt whole p lines passed → IsTrue (leads_on passed lines) → IsSought passed skip
      → IsOwn frame frames used t → leads s.place bounds P lines skip t → RawComes s bounds Q (total_weight lines) (f, place_at whole p skip) t
  unfolding leads
  through [] p passed skip t at onward sought own h = absurd h
  through (Label k ∷ lines) p passed None t at onward sought own h =
      weaken s bounds Q (total_weight lines) (1 + total_weight lines) (f, settle whole p) t (omega arith)
      (moved_to s bounds Q (total_weight lines) (f, settle whole p) (f, settle whole (suc p)) t t (ap (λ (n : ℕ). let q : Place = (f, n) in q) (past_label p k lines passed at)) refl
      (through lines (suc p) (k ∷ passed) None t (next_label whole p k lines passed at) onward tt own h))
  through (Label k ∷ lines) p passed (Some l) t at onward sought own h =
      weaken s bounds Q (total_weight lines) (1 + total_weight lines) (f, settle whole (labelled whole l)) t (omega arith)
      (at_label p k l (total_weight lines) lines passed t at sought (leads s.place bounds P lines)
      (record { by = λ skip u sought own h. through lines (suc p) (k ∷ passed) skip u (next_label whole p k lines passed at) onward sought own h })
      own (k == l) refl h)
  through (Do op mode operand ∷ lines) p passed None t at onward sought own h =
      let parts = and_parts (is_onward passed (op_form (kind_of op) op mode operand)) (leads_on passed lines) onward in
      let e : p ≡ p + 0 = omega arith in
      moved_to s bounds Q _ (f, settle whole p) (f, p) t t (ap (λ (n : ℕ). let q : Place = (f, n) in q) (on_line p op mode operand lines passed at)) refl
      (by_line (op_form (kind_of op) op mode operand) (leads s.place bounds P lines) passed (Do op mode operand) (total_weight lines) p t refl
      (ap (slice_get whole) e ∙ at.get 0) parts.0 own
      (record { by = λ skip u sought own h. through lines (suc p) passed skip u (next_do whole p op mode operand lines passed at) parts.1 sought own h })
      h)
  through (Do op mode operand ∷ lines) p passed (Some l) t at onward sought own h =
      let parts = and_parts (is_onward passed (op_form (kind_of op) op mode operand)) (leads_on passed lines) onward in
      weaken s bounds Q (total_weight lines) (raw_weight (op_form (kind_of op) op mode operand) + total_weight lines) (f, settle whole (labelled whole l)) t (omega arith)
      (through lines (suc p) passed (Some l) t (next_do whole p op mode operand lines passed at) parts.1 sought own h)
  through (Call callee ∷ lines) p passed None t at onward sought own h = absurd h
  through (Call callee ∷ lines) p passed (Some l) t at onward sought own h =
      let parts = and_parts (is_onward passed (form_of (Call callee))) (leads_on passed lines) onward in
      weaken s bounds Q (total_weight lines) (raw_weight (form_of (Call callee)) + total_weight lines) (f, settle whole (labelled whole l)) t (omega arith)
      (through lines (suc p) passed (Some l) t (next_call whole p callee lines passed at) parts.1 sought own h)

-- what is known where the routine returns
abbrev pub Ends : Row → State → State → Type 0
Ends row t u = Meets row t (record u { pushed = t.pushed; frames = t.frames })

-- where the lines lead to a state of the row, the routine does what the row says
pub runs : (s : RawSetting) (r : Routine) (row : Row) (back : Place) (t : State) (lines : List Line) → s.lines (s.routine r) ≡ lines → IsShort row.cost lines → row.ends ≡ None → MayRun s row t
    → leads s.place (reach_of t) (Ends row t) lines None (called back t) → Runs s r row back t
runs s r row back t lines has short ends may h =
    let deep = may.room.hard in
    let frame : Frame = record { back = back; pushed = t.pushed; gives = no_parts } in
    let used : ℕ = sum_by (λ (f : Frame). 2 + length f.pushed) (frame ∷ t.frames) in
    let sum : sum_by (λ (f : Frame). 2 + length f.pushed) (frame ∷ t.frames) ≡ 2 + length t.pushed + sum_by (λ (f : Frame). 2 + length f.pushed) t.frames = sum_by-cons (λ (f : Frame). 2 + length f.pushed) frame t.frames in
    let room : (reach_of t).hard + 24 ≤ 253 - used = omega arith in
    record {
      weight = total_weight lines;
      within = (Decides-ltb (total_weight lines) row.cost).0 short.weight;
      comes = moved_to s (reach_of t) (HasDone row.ends row back t) (total_weight lines) (entry_of s (s.routine r)) (s.routine r, settle lines 0) (called back t) (called back t)
          (ap (λ (ls : List Line). let q : Place = (s.routine r, settle ls 0) in q) has) refl
          (subst (λ (e : Option ℕ). RawComes s (reach_of t) (HasDone e row back t) (total_weight lines) (s.routine r, settle lines 0) (called back t)) (sym ends)
          (through s (reach_of t) (HasDone None row back t) (Ends row t) (s.routine r) lines frame t.frames used has room (λ u m bytes. (refl, m, bytes)) lines 0 [] None (called back t) (whole_at lines) short.onward tt
          (record { frames = refl; ended = may.running; used = refl }) h));
    }
