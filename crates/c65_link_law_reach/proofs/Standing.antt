-- Where a move of the lines of a code leads, an instruction stands.
use Rattle.std.proofs.Common.{◌≡◌, ℕ, zero, suc, ◌<◌, ◌==◌, ◌⊎◌, inl, inr, Bool, true, false, nat_eq, if◌then◌else◌, List, [], ◌∷◌, All, Option, Some, None, length, slice_get, refl, ap, sym, ◌∙◌, subst, arith, eqb-true}
use Rattle.std.specs.List.{list_all}
use Rattle.std.proofs.lemmas.Bool.{and_parts, or_cases, eq-eqb}
use Rattle.std.proofs.lemmas.List.Elements.{All-cons, All-head, All-tail}
use Rattle.std.proofs.lemmas.List.Folds.{list_all-append}
use Rattle.c65_base.specs.declared.library.Library.{Library}
use Rattle.c65_mach.specs.declared.rows.Op.{Op}
use Rattle.c65_mach.specs.declared.rows.Op.TheVariants as ops
use Rattle.c65_mach.specs.declared.rows.Mode.{Mode}
use Rattle.c65_mach.specs.Step.{is_taken, Kind, Branches, Moves, kind_of}
use Rattle.c65_code.specs.declared.parts.RegSet.{RegSet}
use Rattle.c65_code.specs.declared.routine.Routine.{Routine}
use Rattle.c65_code.specs.declared.routine.Routine.TheVariants as routines
use Rattle.c65_code.specs.declared.line.Operand.{Operand}
use Rattle.c65_code.specs.declared.line.Operand.TheVariants as operands
use Rattle.c65_code.specs.declared.line.Callee.{Callee}
use Rattle.c65_code.specs.declared.line.Callee.TheVariants as callees
use Rattle.c65_code.specs.declared.line.Line.{Line}
use Rattle.c65_code.specs.declared.line.Line.TheVariants.{Label, Do, Call}
use Rattle.c65_code.specs.declared.code.Code.{Code}
use Rattle.c65_code.specs.Parts.{union_of}
use Rattle.c65_code.specs.Effects.{ptr4_bytes}
use Rattle.c65_code.specs.LineState.{Place, State, Frame}
use Rattle.c65_code.specs.Placement.{IsPlacement, segment_of, word_of}
use Rattle.c65_code.specs.Segments.{Segment, IsSegment, is_closing, closed_by, labels_of, target_of, targets_of, is_among}
use Rattle.c65_code.specs.Forms.{Form, Mark, Plain, Branch, Jump, Far, Push, Pull, Depth, Return, Run, Enter, Through, Stray, branch_form, jump_form, move_form, op_form, callee_form, form_of}
use Rattle.c65_code.specs.Rows.{Row, row_of}
use Rattle.c65_code.specs.Moves.{labelled, settle, effect, MeetsRow, Returns, Calls, Goes as LineGoes, Moves as LineMoves}
use Rattle.c65_code.specs.Steady.{HasLines, IsCallable, IsWithin, IsSteady}
use Rattle.c65_link_law_spots.specs.Places.{place_in}
use Rattle.c65_link_law_spots.specs.Sound.{IsSound}
use Rattle.c65_link_law_spots.proofs.Units.{segment_there}
use Rattle.c65_link_law_laid.specs.Linked.{IsInstruction}
use Rattle.c65_link_law_laid.proofs.Walk.{same_there}
use Rattle.c65_link_law_laid.proofs.Linked.{segment_from}
use Rattle.c65_link_law_runs.proofs.Kept.{Stays, effect_stays}
use Rattle.c65_link_law_reach.specs.Reach.{IsAt, IsAtLine}
use Rattle.c65_link_law_reach.proofs.Steps.{lines_setting}

-- Lines of a segment

record Found (lines : List Line) (p : ℕ) : Type 0 where
  line : Line
  there : slice_get lines p ≡ Some line
  instruction : IsInstruction line

behind_one : (line : Line) (lines : List Line) (p : ℕ) → Found lines p → Found (line ∷ lines) (suc p)
behind_one line lines p f = record { line = f.line; there = f.there; instruction = f.instruction }

-- behind the labels from a line on there is an instruction
settled : (lines : List Line) (last : Bool) (p : ℕ) → closed_by last lines ≡ true → p < length lines → Found lines (settle lines p)
settled [] last p h less = absurd (omega (arith, less))
settled (Label k ∷ []) last zero h less = (let z : false ≡ true = h in absurd cc)
settled (Label k ∷ (x ∷ lines)) last zero h less = behind_one (Label k) (x ∷ lines) (settle (x ∷ lines) zero) (settled (x ∷ lines) false zero h (omega arith))
settled (Do op mode operand ∷ lines) last zero h less = record { line = Do op mode operand; there = refl; instruction = tt }
settled (Call callee ∷ lines) last zero h less = record { line = Call callee; there = refl; instruction = tt }
settled (Label k ∷ lines) last (suc p) h less = behind_one (Label k) lines (settle lines p) (settled lines false p h (omega (arith, less)))
settled (Do op mode operand ∷ lines) last (suc p) h less = behind_one (Do op mode operand) lines (settle lines p) (settled lines (is_closing (Do op mode operand)) p h (omega (arith, less)))
settled (Call callee ∷ lines) last (suc p) h less = behind_one (Call callee) lines (settle lines p) (settled lines false p h (omega (arith, less)))

-- only a line that leads away is the last
not_last : (lines : List Line) (last : Bool) (p : ℕ) (l : Line) → closed_by last lines ≡ true → slice_get lines p ≡ Some l → is_closing l ≡ false → suc p < length lines
not_last [] last p l h here is = absurd (let z : ◌≡◌ {A = Option Line} None (Some l) = here in cc)
not_last (x ∷ []) last zero l h here is = absurd (let z : true ≡ false = sym h ∙ ap is_closing (same_there x l here) ∙ is in cc)
not_last (x ∷ (y ∷ lines)) last zero l h here is = omega arith
not_last (x ∷ lines) last (suc p) l h here is = (let rest = not_last lines (is_closing x) p l h here is in omega (arith, rest))

-- a label stands at one of the lines
label_within : (lines : List Line) (l : ℕ) → is_among (labels_of lines) l ≡ true → labelled lines l < length lines
label_within [] l h = (let z : false ≡ true = h in absurd cc)
label_within (Label k ∷ lines) l h = by (k == l) refl (λ among. label_within lines l among)
  where
    other : (k == l) ≡ false → (nat_eq l k ≡ true) ⊎ (is_among (labels_of lines) l ≡ true) → is_among (labels_of lines) l ≡ true
    other e (inl same) = (let z : true ≡ false = sym (eq-eqb k l (sym (eqb-true l k same))) ∙ e in absurd cc)
    other e (inr among) = among

    by : (b : Bool) → (k == l) ≡ b → (is_among (labels_of lines) l ≡ true → labelled lines l < length lines) → (if b then 0 else suc (labelled lines l)) < suc (length lines)
    by true e rest = omega arith
    by false e rest = (let less = rest (other e (or_cases (nat_eq l k) (is_among (labels_of lines) l) h)) in omega (arith, less))
label_within (Do op mode operand ∷ lines) l h = (let less = label_within lines l h in omega (arith, less))
label_within (Call callee ∷ lines) l h = (let less = label_within lines l h in omega (arith, less))

target_there : (test : ℕ → Bool) (lines : List Line) (p : ℕ) (l : Line) → list_all test (targets_of lines) ≡ true → slice_get lines p ≡ Some l → list_all test (target_of l) ≡ true
target_there test [] p l h here = absurd (let z : ◌≡◌ {A = Option Line} None (Some l) = here in cc)
target_there test (x ∷ lines) zero l h here =
    ap (λ (y : Line). list_all test (target_of y)) (sym (same_there x l here)) ∙ (and_parts (list_all test (target_of x)) (list_all test (targets_of lines)) (sym (list_all-append test (target_of x) (targets_of lines)) ∙ h)).0
target_there test (x ∷ lines) (suc p) l h here =
    target_there test lines p l (and_parts (list_all test (target_of x)) (list_all test (targets_of lines)) (sym (list_all-append test (target_of x) (targets_of lines)) ∙ h)).1 here

-- Forms

abbrev leads_away : Form → Bool
leads_away Return = true
leads_away (Jump l) = true
leads_away (Far i) = true
leads_away Stray = true
leads_away _ = false

jump_away : (operand : Operand) → leads_away (jump_form operand) ≡ true
jump_away (operands.To l) = refl
jump_away (operands.Zero i) = refl
jump_away _ = refl

op_away : (op : Op) (mode : Mode) (operand : Operand) → is_closing (Do op mode operand) ≡ true → leads_away (form_of (Do op mode operand)) ≡ true
op_away ops.Rts mode operand h = refl
op_away ops.Jmp mode operand h = jump_away operand
op_away _ mode operand h = absurd cc

closing_away : (l : Line) → is_closing l ≡ true → leads_away (form_of l) ≡ true
closing_away (Label k) h = (let z : false ≡ true = h in absurd cc)
closing_away (Do op mode operand) h = op_away op mode operand h
closing_away (Call callee) h = (let z : false ≡ true = h in absurd cc)

not_closing : (l : Line) → leads_away (form_of l) ≡ false → is_closing l ≡ false
not_closing l h = by (is_closing l) refl
  where
    by : (b : Bool) → is_closing l ≡ b → is_closing l ≡ false
    by false e = e
    by true e = (let z : true ≡ false = sym (closing_away l e) ∙ h in absurd cc)

-- the label that a form refers to
abbrev target_by : Form → List ℕ
target_by (Branch op l) = l ∷ []
target_by (Jump l) = l ∷ []
target_by _ = []

no_target : {P : Type 0} (k : ℕ) → ◌≡◌ {A = List ℕ} [] (k ∷ []) → P
no_target k h = absurd cc

branch_target : (operand : Operand) (op : Op) (mode : Mode) (k : ℕ) → target_by (branch_form op operand) ≡ k ∷ [] → target_of (Do op mode operand) ≡ k ∷ []
branch_target (operands.To l) op mode k h = h
branch_target _ op mode k h = no_target k h

jump_target : (operand : Operand) (op : Op) (mode : Mode) (k : ℕ) → target_by (jump_form operand) ≡ k ∷ [] → target_of (Do op mode operand) ≡ k ∷ []
jump_target (operands.To l) op mode k h = h
jump_target (operands.Zero i) op mode k h = no_target k h
jump_target _ op mode k h = no_target k h

move_target : (op : Op) (operand : Operand) (mode : Mode) (k : ℕ) → target_by (move_form op operand) ≡ k ∷ [] → target_of (Do op mode operand) ≡ k ∷ []
move_target ops.Jmp operand mode k h = jump_target operand ops.Jmp mode k h
move_target ops.Pha operand mode k h = no_target k h
move_target ops.Pla operand mode k h = no_target k h
move_target ops.Tsx operand mode k h = no_target k h
move_target ops.Rts operand mode k h = no_target k h
move_target _ operand mode k h = no_target k h

op_target : (kind : Kind) (op : Op) (mode : Mode) (operand : Operand) (k : ℕ) → target_by (op_form kind op mode operand) ≡ k ∷ [] → target_of (Do op mode operand) ≡ k ∷ []
op_target Branches op mode operand k h = branch_target operand op mode k h
op_target Moves op mode operand k h = move_target op operand mode k h
op_target _ op mode operand k h = no_target k h

callee_target : {P : Type 0} (callee : Callee) (k : ℕ) → target_by (callee_form callee) ≡ k ∷ [] → P
callee_target (callees.Routine r) k h = no_target k h
callee_target (callees.Function f reads gives) k h = no_target k h
callee_target (callees.Pointer reads gives) k h = no_target k h

form_target : (l : Line) (k : ℕ) → target_by (form_of l) ≡ k ∷ [] → target_of l ≡ k ∷ []
form_target (Label j) k h = no_target k h
form_target (Do op mode operand) k h = op_target (kind_of op) op mode operand k h
form_target (Call callee) k h = callee_target callee k h

-- Functions of a code

segment_at : (code : Code) (f p : ℕ) (l : Line) → IsSound code → slice_get ((lines_setting code).lines f) p ≡ Some l → IsSegment ((lines_setting code).lines f)
segment_at code f p l s at =
    let it = segment_from code.functions f p l at in
    let is : (segment_of code.functions f).lines ≡ it.1.1.lines = ap (λ (n : ℕ). (segment_of code.functions n).lines) (sym it.4) ∙ ap (λ (x : Segment). x.lines) (segment_there code.functions it.0 it.1 s.writable.own_function it.2) in
    subst IsSegment (sym is) (s.segment it.0 it.1 it.2)

abbrev IsBack : Code → Frame → Type 0
IsBack code frame = (l : Line) × IsAt code frame.back l

found : (code : Code) (f p : ℕ) → Found ((lines_setting code).lines f) p → (l : Line) × IsAt code (f, p) l
found code f p h = (h.line, record { there = h.there; instruction = h.instruction })

-- behind a line that does not lead away
behind : (code : Code) (p : Place) (l : Line) → IsSound code → slice_get ((lines_setting code).lines p.0) p.1 ≡ Some l → leads_away (form_of l) ≡ false → (x : Line) × IsAt code (p.0, settle ((lines_setting code).lines p.0) (suc p.1)) x
behind code p l s at h =
    let lines : List Line = (lines_setting code).lines p.0 in
    let segment : IsSegment lines = segment_at code p.0 p.1 l s at in
    found code p.0 (settle lines (suc p.1)) (settled lines false (suc p.1) segment.closed (not_last lines false p.1 l segment.closed at (not_closing l h)))

-- at a label that a line refers to
at_label : (code : Code) (p : Place) (l : Line) (k : ℕ) → IsSound code → slice_get ((lines_setting code).lines p.0) p.1 ≡ Some l → target_of l ≡ k ∷ [] → (x : Line) × IsAt code (p.0, settle ((lines_setting code).lines p.0) (labelled ((lines_setting code).lines p.0) k)) x
at_label code p l k s at target =
    let lines : List Line = (lines_setting code).lines p.0 in
    let segment : IsSegment lines = segment_at code p.0 p.1 l s at in
    let all : list_all (is_among (labels_of lines)) (k ∷ []) ≡ true = ap (list_all (is_among (labels_of lines))) (sym target) ∙ target_there (is_among (labels_of lines)) lines p.1 l segment.targets at in
    found code p.0 (settle lines (labelled lines k)) (settled lines false (labelled lines k) segment.closed (label_within lines k (and_parts (is_among (labels_of lines) k) true all).0))

-- at the first line of a function
pub at_entry : (code : Code) (f : ℕ) → IsSound code → HasLines ((lines_setting code).lines f) → (x : Line) × IsAt code (f, settle ((lines_setting code).lines f) 0) x
at_entry code f s has = by ((lines_setting code).lines f) refl has
  where
    by : (lines : List Line) → (lines_setting code).lines f ≡ lines → HasLines lines → (x : Line) × IsAt code (f, settle ((lines_setting code).lines f) 0) x
    by [] e h = absurd h
    by (x ∷ lines) e h =
        let segment : IsSegment ((lines_setting code).lines f) = segment_at code f 0 x s (ap (λ (ls : List Line). slice_get ls 0) e) in
        let size = ap length e in
        found code f (settle ((lines_setting code).lines f) 0) (settled ((lines_setting code).lines f) false 0 segment.closed (omega (arith, size)))

-- Moves

stays_at : (code : Code) (q there : Place) (u t : State) → q ≡ there → u.frames ≡ t.frames → (x : Line) × IsAt code there x → All (IsBack code) t.frames → IsAtLine code q u
stays_at code q there u t e f x all = record { line = x.0; at = subst (λ (y : Place). IsAt code y x.0) (sym e) x.1; frames = subst (λ (fs : List Frame). All (IsBack code) fs) (sym f) all }

return_stays : (frames : List Frame) (code : Code) (p q : Place) (t u : State) → t.frames ≡ frames → IsAtLine code p t → All (IsBack code) frames → Returns (lines_setting code) frames p t q u → IsAtLine code q u
return_stays [] code p q t u e a all h = stays_at code q p u t h.4 (ap (λ (x : State). x.frames) h.5) (a.line, a.at) a.frames
return_stays (frame ∷ frames) code p q t u e a all h =
    let back = All-head (IsBack code) frame frames all in
    record {
      line = back.0;
      at = subst (λ (y : Place). IsAt code y back.0) (sym h.1) back.1;
      frames = subst (λ (fs : List Frame). All (IsBack code) fs) (sym h.4) (All-tail (IsBack code) frame frames all);
    }

row_stays : (code : Code) (l : Line) (p q : Place) (t u : State) (r : Routine) → IsSound code → IsAtLine code p t → slice_get ((lines_setting code).lines p.0) p.1 ≡ Some l → leads_away (form_of l) ≡ false → q ≡ (p.0, settle ((lines_setting code).lines p.0) (suc p.1)) → MeetsRow (row_of r t) t u → IsAtLine code q u
row_stays code l p q t u r s a at h to met = by (row_of r t) met
  where
    by : (o : Option Row) → MeetsRow o t u → IsAtLine code q u
    by None m = absurd m
    by (Some row) m = stays_at code q (p.0, settle ((lines_setting code).lines p.0) (suc p.1)) u t to m.frames (behind code p l s at h) a.frames

call_stays : (o : Option Library) (code : Code) (l : Line) (f : ℕ) (reads gives : RegSet) (p q : Place) (t u : State) → IsSound code → IsAtLine code p t → slice_get ((lines_setting code).lines p.0) p.1 ≡ Some l → leads_away (form_of l) ≡ false → (o ≡ None → HasLines ((lines_setting code).lines f)) → Calls (lines_setting code) o f reads gives p t q u → IsAtLine code q u
call_stays None code l f reads gives p q t u s a at h has calls =
    let entry = at_entry code f s (has refl) in
    record {
      line = entry.0;
      at = subst (λ (y : Place). IsAt code y entry.0) (sym calls.to) entry.1;
      frames = subst (λ (fs : List Frame). All (IsBack code) fs) (sym calls.frames) (All-cons (IsBack code) (record { back = (p.0, settle ((lines_setting code).lines p.0) (suc p.1)); pushed = t.pushed; gives = gives }) t.frames (behind code p l s at h) a.frames);
    }
call_stays (Some library) code l f reads gives p q t u s a at h has calls = row_stays code l p q t u (routines.Library library) s a at h calls.0 calls.1

callable : (o : Option Library) (code : Code) (f : ℕ) (reads : RegSet) (t : State) → IsCallable (lines_setting code) o f reads t → o ≡ None → HasLines ((lines_setting code).lines f)
callable None code f reads t h e = h
callable (Some library) code f reads t h e = absurd (let z : ◌≡◌ {A = Option Library} (Some library) None = e in cc)

form_stays : (form : Form) (code : Code) (l : Line) (p q : Place) (t u : State) → IsSound code → IsPlacement code (place_in code) → IsAtLine code p t → slice_get ((lines_setting code).lines p.0) p.1 ≡ Some l → form_of l ≡ form → IsWithin (lines_setting code) form t → LineGoes (lines_setting code) form p t q u → IsAtLine code q u
form_stays Mark code l p q t u s place a at is within h = absurd h
form_stays (Far i) code l p q t u s place a at is within h = absurd h
form_stays Stray code l p q t u s place a at is within h = absurd h
form_stays (Plain op mode operand) code l p q t u s place a at is within h =
    let stays : Stays t (effect (kind_of op) op mode (word_of (place_in code) operand) t) = effect_stays (kind_of op) op mode (word_of (place_in code) operand) t in
    stays_at code q (p.0, settle ((lines_setting code).lines p.0) (suc p.1)) u t h.0 (ap (λ (x : State). x.frames) h.1 ∙ stays.2) (behind code p l s at (ap leads_away is)) a.frames
form_stays (Branch op k) code l p q t u s place a at is within h = by (is_taken op t.regs) h.0
  where
    by : (b : Bool) → q ≡ (p.0, settle ((lines_setting code).lines p.0) (if b then labelled ((lines_setting code).lines p.0) k else suc p.1)) → IsAtLine code q u
    by true e = stays_at code q (p.0, settle ((lines_setting code).lines p.0) (labelled ((lines_setting code).lines p.0) k)) u t e (ap (λ (x : State). x.frames) h.1) (at_label code p l k s at (form_target l k (ap target_by is))) a.frames
    by false e = stays_at code q (p.0, settle ((lines_setting code).lines p.0) (suc p.1)) u t e (ap (λ (x : State). x.frames) h.1) (behind code p l s at (ap leads_away is)) a.frames
form_stays (Jump k) code l p q t u s place a at is within h =
    stays_at code q (p.0, settle ((lines_setting code).lines p.0) (labelled ((lines_setting code).lines p.0) k)) u t h.0 (ap (λ (x : State). x.frames) h.1) (at_label code p l k s at (form_target l k (ap target_by is))) a.frames
form_stays Push code l p q t u s place a at is within h =
    stays_at code q (p.0, settle ((lines_setting code).lines p.0) (suc p.1)) u t h.0 (ap (λ (x : State). x.frames) h.1) (behind code p l s at (ap leads_away is)) a.frames
form_stays Pull code l p q t u s place a at is within h =
    stays_at code q (p.0, settle ((lines_setting code).lines p.0) (suc p.1)) u t h.0 (ap (λ (x : State). x.frames) h.1.3) (behind code p l s at (ap leads_away is)) a.frames
form_stays Depth code l p q t u s place a at is within h =
    stays_at code q (p.0, settle ((lines_setting code).lines p.0) (suc p.1)) u t h.0 (ap (λ (x : State). x.frames) h.1) (behind code p l s at (ap leads_away is)) a.frames
form_stays Return code l p q t u s place a at is within h = return_stays t.frames code p q t u refl a a.frames h
form_stays (Run r) code l p q t u s place a at is within h = row_stays code l p q t u r s a at (ap leads_away is) h.0 h.1
form_stays (Enter f reads gives) code l p q t u s place a at is within h =
    call_stays ((lines_setting code).library f) code l f reads gives p q t u s a at (ap leads_away is) (callable ((lines_setting code).library f) code f reads t within) h
form_stays (Through reads gives) code l p q t u s place a at is within h =
    let f : ℕ = within.0 in let g : ℕ = h.0 in
    let same : f ≡ g = place.function_own f g within.1.0 h.1.0 (within.1.1 ∙ sym h.1.1) in
    call_stays ((lines_setting code).library g) code l g (union_of reads ptr4_bytes) gives p q t u s a at (ap leads_away is)
    (subst (λ (n : ℕ). (lines_setting code).library n ≡ None → HasLines ((lines_setting code).lines n)) same (callable ((lines_setting code).library f) code f reads t within.2)) h.2

-- an instruction stands at the place where a move leads to, and behind each call
pub lines_stay : (code : Code) → IsSound code → IsPlacement code (place_in code) → (l : Line) (p q : Place) (t u : State) → IsAtLine code p t → slice_get ((lines_setting code).lines p.0) p.1 ≡ Some l → IsSteady (lines_setting code) l t → LineMoves (lines_setting code) l p t q u → IsAtLine code q u
lines_stay code s place l p q t u a at steady moves = form_stays (form_of l) code l p q t u s place a at refl steady.within moves.goes
