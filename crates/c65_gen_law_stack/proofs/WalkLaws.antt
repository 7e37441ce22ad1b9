-- Ways through functions keep sp and what waits together.
use Rattle.std.proofs.Common.{◌≡◌, ℕ, suc, ◌+◌, ◌≤◌, Option, Some, None, List, [], ◌∷◌, length, slice_get, refl, sym, ap, ◌∙◌, arith}
use Rattle.c65_mach.specs.Step.{Kind, Reads, Stores, Changes, Branches, Registers, Moves as Moving, kind_of, changed, stored, signed}
use Rattle.c65_mach.specs.declared.rows.Op.{Op}
use Rattle.c65_mach.specs.declared.rows.Mode.{Mode}
use Rattle.c65_mach.specs.declared.rows.Mode.TheVariants.{Implied, Accumulator, Immediate, ZeroPage, ZeroPageX, ZeroPageY, Absolute, AbsoluteX, AbsoluteY, IndirectX, IndirectY, Indirect, Relative, ZeroPageIndirect, AbsoluteIndirectX}
use Rattle.c65_code.specs.declared.parts.RegSet.{RegSet}
use Rattle.c65_code.specs.declared.line.Line.{Line}
use Rattle.c65_code.specs.LineState.{Place, Frame, State, sp_of}
use Rattle.c65_code.specs.Placement.{Setting, word_of}
use Rattle.c65_code.specs.Rows.{Row}
use Rattle.c65_code.specs.Forms.{Form, Mark, Plain, Branch, Jump, Far, Push, Pull, Depth, Return, Run, Enter, Through, Stray, form_of}
use Rattle.c65_code.specs.Moves.{Ref, Given, ZeroAt, MemAt, ref_of, value_at, put, change, effect, settle, MeetsRow, Enters, Goes as ByForm, Moves}
use Rattle.c65_code.specs.Steady.{IsSteady}
use Rattle.c65_genentry.specs.Entry.{entry_code}
use Rattle.c65_genentry.specs.Ends.{end_code}
use Rattle.c65_gen_law_lines.proofs.Flat.{entry_flat, end_flat}
use Rattle.c65_gen_law_stack.specs.Passing.{Passes}
use Rattle.c65_gen_law_stack.specs.Heights.{height_at}
use Rattle.c65_gen_law_stack.specs.Calls.{pushed_bytes, parameter_bytes, passed_bytes, IsEntered, IsLeft}
use Rattle.c65_gen_law_stack.specs.Going.{sum_in, IsOwn, Goes}
use Rattle.c65_gen_law_stack.specs.Walks.{Laid, bytes_before, place_in, IsLaid, Walks, stays, moves, calls, WalksKeepHeights}
use Rattle.c65_gen_law_stack.proofs.CallWay.{entries_lower_sp, ends_raise_sp}
use Rattle.c65_gen_law_stack.proofs.CallMoves.{entered_sp}
use Rattle.c65_gen_law_stack.proofs.LineMoves.{Arrives, settles, moves_keep_heights, no_labels}

-- ---- a move by which no function is called leaves the calls that are active

put_frames : (r : Ref) (v : ℕ) (t : State) → (put r v t).frames ≡ t.frames
put_frames (Given w) v t = refl
put_frames (ZeroAt i) v t = refl
put_frames (MemAt b) v t = refl

changed_frames : (op : Op) (r : Ref) (t : State) → (let to = changed op (value_at r t) t.regs in put r to.0 (record t { regs = record (signed to.0 t.regs) { c = to.1 } })).frames ≡ t.frames
changed_frames op r t = let to = changed op (value_at r t) t.regs in put_frames r to.0 (record t { regs = record (signed to.0 t.regs) { c = to.1 } })

change_frames : (op : Op) (mode : Mode) (w : ℕ) (t : State) → (change op mode w t).frames ≡ t.frames
change_frames op Accumulator w t = refl
change_frames op Implied w t = changed_frames op (ref_of Implied w t) t
change_frames op Immediate w t = changed_frames op (ref_of Immediate w t) t
change_frames op ZeroPage w t = changed_frames op (ref_of ZeroPage w t) t
change_frames op ZeroPageX w t = changed_frames op (ref_of ZeroPageX w t) t
change_frames op ZeroPageY w t = changed_frames op (ref_of ZeroPageY w t) t
change_frames op Absolute w t = changed_frames op (ref_of Absolute w t) t
change_frames op AbsoluteX w t = changed_frames op (ref_of AbsoluteX w t) t
change_frames op AbsoluteY w t = changed_frames op (ref_of AbsoluteY w t) t
change_frames op IndirectX w t = changed_frames op (ref_of IndirectX w t) t
change_frames op IndirectY w t = changed_frames op (ref_of IndirectY w t) t
change_frames op Indirect w t = changed_frames op (ref_of Indirect w t) t
change_frames op Relative w t = changed_frames op (ref_of Relative w t) t
change_frames op ZeroPageIndirect w t = changed_frames op (ref_of ZeroPageIndirect w t) t
change_frames op AbsoluteIndirectX w t = changed_frames op (ref_of AbsoluteIndirectX w t) t

effect_frames : (kind : Kind) (op : Op) (mode : Mode) (w : ℕ) (t : State) → (effect kind op mode w t).frames ≡ t.frames
effect_frames Reads op mode w t = refl
effect_frames Stores op mode w t = put_frames (ref_of mode w t) (stored op t.regs) t
effect_frames Changes op mode w t = change_frames op mode w t
effect_frames Branches op mode w t = refl
effect_frames Registers op mode w t = refl
effect_frames Moving op mode w t = refl

pub row_frames : (o : Option Row) (t u : State) → MeetsRow o t u → u.frames ≡ t.frames
row_frames None t u m = absurd m
row_frames (Some row) t u m = m.frames

own_frames : (s : Setting) (form : Form) (p q : Place) (t u : State) → IsOwn form → ByForm s form p t q u → u.frames ≡ t.frames
own_frames s (Plain op mode operand) p q t u own h = ap (λ (x : State). x.frames) h.1 ∙ effect_frames (kind_of op) op mode (word_of s.place operand) t
own_frames s (Branch op l) p q t u own h = ap (λ (x : State). x.frames) h.1
own_frames s (Jump l) p q t u own h = ap (λ (x : State). x.frames) h.1
own_frames s Push p q t u own h = ap (λ (x : State). x.frames) h.1
own_frames s Pull p q t u own h = ap (λ (x : State). x.frames) h.1.3
own_frames s Depth p q t u own h = ap (λ (x : State). x.frames) h.1
own_frames s (Run r) p q t u own h = row_frames _ t u h.1
own_frames s Mark p q t u own h = absurd own
own_frames s (Far i) p q t u own h = absurd own
own_frames s Return p q t u own h = absurd own
own_frames s (Enter f reads gives) p q t u own h = absurd own
own_frames s (Through reads gives) p q t u own h = absurd own
own_frames s Stray p q t u own h = absurd own

-- ---- one step of a way

pub record Step (c : Laid) (j : ℕ) (t : State) (k : ℕ) (u : State) : Type 0 where
  pub sp : sp_of u + bytes_before c k ≡ sp_of t + bytes_before c j
  pub frames : u.frames ≡ t.frames

pub same_line : (n g i k : ℕ) → ◌≡◌ {A = Place} (g, n + i) (g, n + k) → i ≡ k
same_line n g i k e = let lines : n + i ≡ n + k = ap (λ (p : Place). p.1) e in omega (arith, lines)

pub move_step : (s : Setting) (c : Laid) (j k : ℕ) (t u : State) (line : Line) → IsLaid s c → slice_get c.middle j ≡ Some line → IsOwn (form_of line) → IsSteady s line t → Moves s line (place_in c j) t (place_in c k) u → Step c j t k u
move_step s c j k t u line laid at own steady move =
    let n : ℕ = length (entry_code c.frame) in
    let goes : Goes c.number n c.middle c.first j t (place_in c k) u = moves_keep_heights s c.number j (entry_code c.frame) c.middle (end_code c.frame) c.first line (place_in c k) t u laid.lines (no_labels (entry_code c.frame) (entry_flat c.frame).plain) (no_labels (end_code c.frame) (end_flat c.frame).plain) laid.level at own steady move in
    let same : k ≡ goes.to = same_line n c.number k goes.to goes.place in
    let bytes : bytes_before c k ≡ bytes_before c goes.to = ap (bytes_before c) same in
    record { sp = omega (arith, bytes, goes.sp); frames = own_frames s (form_of line) (place_in c j) (place_in c k) t u own move.goes }

tail_of : List Frame → List Frame
tail_of [] = []
tail_of (x ∷ xs) = xs

same_tail : (f g : Frame) (fs gs : List Frame) → f ∷ fs ≡ g ∷ gs → fs ≡ gs
unfolding tail_of
same_tail f g fs gs e = ap tail_of e

pub call_step : (s : Setting) (c d : Laid) (j k : ℕ) (reads gives : RegSet) (p q r : Place) (a t u v x : State) → IsLaid s c → IsLaid s d → suc j ≤ length c.middle
    → bytes_before c j + pushed_bytes d.frame.last ≡ bytes_before c (suc j) + passed_bytes d.frame t
    → Enters s d.number reads gives (place_in c j) a q t → Passes s (entry_code d.frame) q t p u
    → sp_of v ≡ sp_of u → v.frames ≡ u.frames → parameter_bytes d.frame v ≡ parameter_bytes d.frame u
    → Passes s (end_code d.frame) r v (place_in c k) x → Step c j a k x
call_step s c d j k reads gives p q r a t u v x laid other inside takes enters entry same stack number end =
    let n : ℕ = length (entry_code c.frame) in
    let frame : Frame = record { back = (c.number, settle (s.lines c.number) (suc (n + j))); pushed = a.pushed; gives = gives } in
    let first : IsEntered d.frame t u = entries_lower_sp s other.parts other.modes other.func d.frame q p t u other.framed entry in
    let active : v.frames ≡ frame ∷ a.frames = stack ∙ (first.frames ∙ enters.frames) in
    let last : IsLeft s d.frame frame r v (place_in c k) x = ends_raise_sp s d.frame frame a.frames r (place_in c k) v x active end in
    let line : suc (n + j) ≡ n + suc j = omega arith in
    let arrives : Arrives c.number (entry_code c.frame) c.middle (place_in c k) (height_at c.first c.middle (suc j)) c.first = settles c.number (suc j) (s.lines c.number) (entry_code c.frame) c.middle (end_code c.frame) c.first (place_in c k) laid.lines (no_labels (end_code c.frame) (end_flat c.frame).plain) inside (last.to ∙ ap (λ (i : ℕ). (c.number, settle (s.lines c.number) i)) line) in
    let place : k ≡ arrives.at = same_line n c.number k arrives.at arrives.to in
    let bytes : bytes_before c k ≡ bytes_before c (suc j) = ap (bytes_before c) place ∙ ap sum_in arrives.height in
    let entered : sp_of t ≡ sp_of a = entered_sp s d.number reads gives (place_in c j) q a t enters in
    record {
      sp = omega (arith, bytes, takes, entered, first.sp, first.parameters, same, number, last.sp);
      frames = same_tail frame frame x.frames a.frames (sym last.frames ∙ active);
    }

-- ---- ways

walk : (s : Setting) (c : Laid) (j m : ℕ) (t u : State) → IsLaid s c → Walks s c j t m u → Step c j t m u
walk s c j m t u laid stays = record { sp = refl; frames = refl }
walk s c j m t u laid (moves {k = k} {u = v} line at own steady move rest) =
    let first : Step c j t k v = move_step s c j k t v line laid at own steady move in
    let later : Step c k v m u = walk s c k m v u laid rest in
    record { sp = omega (arith, first.sp, later.sp); frames = later.frames ∙ first.frames }
walk s c j m t u laid (calls {d = d} {k = k} {from = from} {to = to} {reads = reads} {gives = gives} {q = q} {t = b} {u = w} {v = v} {x = x} other inside takes enters entry body same number end rest) =
    let inner : Step d from w to v = walk s d from to w v other body in
    let first : Step c j t k x = call_step s c d j k reads gives (place_in d from) q (place_in d to) t b w v x laid other inside takes enters entry (omega (arith, inner.sp, same)) inner.frames number end in
    let later : Step c k x m u = walk s c k m x u laid rest in
    record { sp = omega (arith, first.sp, later.sp); frames = later.frames ∙ first.frames }

pub walks_keep_heights : WalksKeepHeights
walks_keep_heights s c j m t u laid way = let all : Step c j t m u = walk s c j m t u laid way in (all.sp, all.frames)
