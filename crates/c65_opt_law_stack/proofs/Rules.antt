-- Rules on the software stack are followed.
use Rattle.std.proofs.Common.{◌≡◌, ℕ, ◌+◌, ◌-◌, ◌<◌, ◌≤◌, ◌==◌, Bool, true, false, if◌then◌else◌, List, [], ◌∷◌, length, Option, Some, None, refl, sym, subst, ap, ◌∙◌, arith}
use Rattle.std.specs.Prelude.{take, drop}
use Rattle.std.proofs.lemmas.Bool.{eqb-true}
use Rattle.std.proofs.lemmas.List.{length-drop}
use Rattle.c65_mach.specs.declared.rows.Op.{Op}
use Rattle.c65_mach.specs.declared.rows.Op.TheVariants as ops
use Rattle.c65_mach.specs.declared.rows.Mode.TheVariants.{Immediate}
use Rattle.c65_code.specs.declared.line.Callee.TheVariants as callees
use Rattle.c65_code.specs.declared.line.Line.{Line}
use Rattle.c65_code.specs.declared.line.Line.TheVariants.{Do, Call}
use Rattle.c65_code.specs.declared.line.Operand.{Operand}
use Rattle.c65_code.specs.declared.line.Operand.TheVariants.{Byte}
use Rattle.c65_code.specs.declared.parts.RegSet.{RegSet}
use Rattle.c65_code.specs.declared.routine.Count.{Count}
use Rattle.c65_code.specs.declared.routine.Count.TheVariants as counts
use Rattle.c65_code.specs.declared.routine.TosOp.{TosOp}
use Rattle.c65_code.specs.declared.routine.Width.TheVariants.{Ax}
use Rattle.c65_code.specs.declared.routine.Routine.{Routine}
use Rattle.c65_code.specs.declared.routine.Routine.TheVariants as routines
use Rattle.c65_code.specs.Forms.{form_of}
use Rattle.c65_code.specs.Placement.{word_of}
use Rattle.c65_code.specs.Rewriting.{with_lines}
use Rattle.c65_code.specs.Rows.{number_of}
use Rattle.c65_live.specs.Tables.{Table, IsLiveTable}
use Rattle.c65_pass.specs.Rewriting.{Rewriting, rewritten}
use Rattle.c65_pass.specs.StackRules.{is_settled, in_place, call_of, one_call, count_of, raising, lowering, routine_if, is_taken_back, nothing_if, moved_at_once, moved_by_byte, zero_pushed, word_at_sp, word_loaded, operated_by, unstacked, undone, one_routine, called_once, done_in_line}
use Rattle.c65_opt_law_follow.specs.Windows.{IsSilent, IsInner, AreInner, Justified}
use Rattle.c65_opt_law_follow.specs.Laws.{IsSound}
use Rattle.c65_opt_law_follow.proofs.Rewriting.{sound_here, good_at}
use Rattle.c65_opt_law_kept.specs.Laws.{IsFollowedBy, RuleIsFollowed}
use Rattle.c65_opt_law_stack.specs.Windows.{StandFor, byte_in}
use Rattle.c65_opt_law_stack.proofs.Stand.{push_goes, moves_join, bytes_move, zeros_push, words_at_sp}
use Rattle.c65_opt_law_stack.proofs.Operators.{in_line}
use Rattle.c65_opt_law_stack.proofs.InLine.{IsLoaded, loaded, IsOperated, operator_done}
use Rattle.c65_opt_law_stack.proofs.Places.{at_line, has_at, window_goes}

-- ---- what is made

placed : (o : Option (List Line)) (b : Bool) (count at : ℕ) (w : Rewriting) → in_place o b count at ≡ Some w → (new : List Line) × (o ≡ Some new) × (record { at = at; count = count; lines = new } ≡ w)
placed None b count at w e = absurd cc
placed (Some new) true count at w e = (new, refl, cc)
placed (Some new) false count at w e = absurd cc

one_made : (o : Option Routine) (new : List Line) → one_call o ≡ Some new → (r : Routine) × (o ≡ Some r) × (call_of r ∷ [] ≡ new)
one_made None new e = absurd cc
one_made (Some r) new e = (r, refl, cc)

nothing_made : (b : Bool) (new : List Line) → nothing_if b ≡ Some new → (b ≡ true) × ([] ≡ new)
nothing_made true new e = (refl, cc)
nothing_made false new e = absurd cc

raised : (o : Option Count) (r : Routine) → raising o ≡ Some r → (c : Count) × (o ≡ Some c) × (routines.IncSp c ≡ r)
raised None r e = absurd cc
raised (Some c) r e = (c, refl, cc)

lowered : (o : Option Count) (r : Routine) → lowering o ≡ Some r → (c : Count) × (o ≡ Some c) × (routines.DecSp c ≡ r)
lowered None r e = absurd cc
lowered (Some c) r e = (c, refl, cc)

-- ---- counts

count_or : (b : Bool) (k n : ℕ) (c d : Count) (rest : Option Count) → (k == n) ≡ b → number_of d ≡ n → (rest ≡ Some c → number_of c ≡ k) → (if b then Some d else rest) ≡ Some c → number_of c ≡ k
count_or true k n c d rest h is later e = let same : d ≡ c = cc in ap number_of (sym same) ∙ (is ∙ sym (eqb-true k n h))
count_or false k n c d rest h is later e = later e

no_count : (k : ℕ) (c : Count) → None ≡ Some c → number_of c ≡ k
no_count k c e = absurd cc

counted : (k : ℕ) (c : Count) → count_of k ≡ Some c → number_of c ≡ k
counted k c =
    count_or (k == 1) k 1 c counts.One _ refl refl (count_or (k == 2) k 2 c counts.Two _ refl refl (count_or (k == 3) k 3 c counts.Three _ refl refl (count_or (k == 4) k 4 c counts.Four _ refl refl
    (count_or (k == 5) k 5 c counts.Five _ refl refl (count_or (k == 6) k 6 c counts.Six _ refl refl (count_or (k == 7) k 7 c counts.Seven _ refl refl (count_or (k == 8) k 8 c counts.Eight _ refl refl (no_count k c))))))))

-- ---- windows of two lines

-- a routine stands for two lines, whatever is live there
abbrev Stands : Line → Line → Routine → Type 0
Stands line next r = IsInner (form_of line) × IsInner (form_of next) × IsSilent r × StandFor (call_of r ∷ []) (line ∷ next ∷ [])

move_stands : (line next : Line) (r : Routine) → moved_at_once line next ≡ Some r → Stands line next r
move_stands (Call (callees.Routine (routines.IncSp n))) (Call (callees.Routine (routines.IncSp m))) r e =
    let c = raised (count_of (number_of n + number_of m)) r e in
    subst (Stands (call_of (routines.IncSp n)) (call_of (routines.IncSp m))) c.2 (tt, tt, tt, (moves_join n m c.0 (counted (number_of n + number_of m) c.0 c.1)).0)
move_stands (Call (callees.Routine (routines.DecSp n))) (Call (callees.Routine (routines.DecSp m))) r e =
    let c = lowered (count_of (number_of n + number_of m)) r e in
    subst (Stands (call_of (routines.DecSp n)) (call_of (routines.DecSp m))) c.2 (tt, tt, tt, (moves_join n m c.0 (counted (number_of n + number_of m) c.0 c.1)).1)
move_stands _ _ r e = absurd cc

byte_stands : (line next : Line) (r : Routine) → moved_by_byte line next ≡ Some r → Stands line next r
byte_stands (Do ops.Ldy Immediate (Byte v)) (Call (callees.Routine routines.AddYSp)) r e =
    let c = raised (count_of v) r e in
    subst (Stands (byte_in ops.Ldy v) (call_of routines.AddYSp)) c.2 (subst (λ (n : ℕ). Stands (byte_in ops.Ldy n) (call_of routines.AddYSp) (routines.IncSp c.0)) (counted v c.0 c.1) (tt, tt, tt, (bytes_move c.0).0))
byte_stands (Do ops.Ldy Immediate (Byte v)) (Call (callees.Routine routines.SubYSp)) r e =
    let c = lowered (count_of v) r e in
    subst (Stands (byte_in ops.Ldy v) (call_of routines.SubYSp)) c.2 (subst (λ (n : ℕ). Stands (byte_in ops.Ldy n) (call_of routines.SubYSp) (routines.DecSp c.0)) (counted v c.0 c.1) (tt, tt, tt, (bytes_move c.0).1))
byte_stands _ _ r e = absurd cc

-- a byte that is such a number
known_stands : (b : Bool) (load : Op) (v n : ℕ) (last new r : Routine) → (v == n) ≡ b → routine_if b new ≡ Some r → Stands (byte_in load n) (call_of last) new → Stands (byte_in load v) (call_of last) r
known_stands true load v n last new r h e stands = let same : new ≡ r = cc in subst (Stands (byte_in load v) (call_of last)) same (subst (λ (k : ℕ). Stands (byte_in load k) (call_of last) new) (sym (eqb-true v n h)) stands)
known_stands false load v n last new r h e stands = absurd cc

zero_stands : (line next : Line) (r : Routine) → zero_pushed line next ≡ Some r → Stands line next r
zero_stands (Do ops.Ldx Immediate (Byte v)) (Call (callees.Routine routines.PushAx)) r e = known_stands (v == 0) ops.Ldx v 0 routines.PushAx routines.PushA0 r refl e (tt, tt, tt, zeros_push.0)
zero_stands (Do ops.Lda Immediate (Byte v)) (Call (callees.Routine routines.PushA0)) r e = known_stands (v == 0) ops.Lda v 0 routines.PushA0 routines.Push0 r refl e (tt, tt, tt, zeros_push.1)
zero_stands _ _ r e = absurd cc

word_stands : (line next : Line) (r : Routine) → word_at_sp line next ≡ Some r → Stands line next r
word_stands (Do ops.Ldy Immediate (Byte v)) (Call (callees.Routine routines.LdAxYSp)) r e = known_stands (v == 1) ops.Ldy v 1 routines.LdAxYSp routines.LdAx0Sp r refl e (tt, tt, tt, words_at_sp.0)
word_stands (Do ops.Ldy Immediate (Byte v)) (Call (callees.Routine routines.StAxYSp)) r e = known_stands (v == 0) ops.Ldy v 0 routines.StAxYSp routines.StAx0Sp r refl e (tt, tt, tt, words_at_sp.1)
word_stands _ _ r e = absurd cc

-- ---- a push that is taken back

back_goes : (line next : Line) → is_taken_back line next ≡ true → AreInner (line ∷ next ∷ []) × StandFor [] (line ∷ next ∷ [])
back_goes (Call (callees.Routine routines.PushAx)) (Call (callees.Routine routines.PopAx)) e = ((tt, (tt, tt)), push_goes)
back_goes _ _ e = absurd cc

-- ---- an operator

-- new lines stand for four, whose numbers are bytes
record InLine (line one other last : Line) (new : List Line) : Type 0 where
  op : TosOp
  high : Operand
  low : Operand
  push : call_of routines.PushAx ≡ line
  call : call_of (routines.Tos op Ax) ≡ last
  load : IsLoaded one other high low
  done : IsOperated op high low new

by_word : (line one other last : Line) (op : TosOp) (o : Option (Operand × Operand)) (new : List Line) → call_of routines.PushAx ≡ line → call_of (routines.Tos op Ax) ≡ last → word_loaded one other ≡ o → operated_by op o ≡ Some new → InLine line one other last new
by_word line one other last op None new push call w e = absurd cc
by_word line one other last op (Some word) new push call w e = record { op = op; high = word.0; low = word.1; push = push; call = call; load = loaded one other word w; done = operator_done word.0 word.1 op new e }

unstack : (line one other last : Line) (new : List Line) → unstacked line one other last ≡ Some new → InLine line one other last new
unstack (Call (callees.Routine routines.PushAx)) one other (Call (callees.Routine (routines.Tos op Ax))) new e = by_word (call_of routines.PushAx) one other (call_of (routines.Tos op Ax)) op (word_loaded one other) new refl refl refl e
unstack _ one other _ new e = absurd cc

-- ---- the rules

module _ (f main : ℕ) (out : RegSet) (lines : List Line) (table : Table) (at : ℕ) (w : Rewriting) (is : IsLiveTable lines out table) (sound : IsSound (rewritten lines w)) (more : 1 ≤ length (rewritten lines w)) where
  -- one call for two lines
  one_goes : (line next : Line) (post : List Line) (o : Option Routine) (b : Bool) → drop at lines ≡ line ∷ next ∷ post → ((r : Routine) → o ≡ Some r → Stands line next r) → in_place (one_call o) b 2 at ≡ Some w → IsFollowedBy f main out lines (rewritten lines w)
  one_goes line next post o b e stands k =
      let made = placed (one_call o) b 2 at w k in
      let one = one_made o made.0 made.1 in
      let y : Stands line next one.0 = stands one.0 one.1 in
      let same : record { at = at; count = 2; lines = call_of one.0 ∷ [] } ≡ w = ap (λ (x : List Line). record { at = at; count = 2; lines = x }) one.2 ∙ made.2 in
      window_goes f main out lines table at w is sound more 2 (line ∷ next ∷ []) (call_of one.0 ∷ []) (ap (take 2) e) (omega arith) (omega (arith, ap length e, length-drop at lines)) same (y.0, (y.1, tt)) (y.2, tt) (λ s apt. y.3 (with_lines s f lines))

  once : (rule : ℕ) (line : Line) (post : List Line) → drop at lines ≡ line ∷ post → ((next : Line) (r : Routine) → one_routine rule line next ≡ Some r → Stands line next r) → called_once rule table at line post ≡ Some w → IsFollowedBy f main out lines (rewritten lines w)
  once rule line [] e stands k = absurd cc
  once rule line (next ∷ post) e stands k = one_goes line next post (one_routine rule line next) (is_settled table (at + 1) next) e (stands next) k

  nothing : (line : Line) (post : List Line) → drop at lines ≡ line ∷ post → undone table at line post ≡ Some w → IsFollowedBy f main out lines (rewritten lines w)
  nothing line [] e k = absurd cc
  nothing line (next ∷ post) e k =
      let made = placed (nothing_if (is_taken_back line next)) (is_settled table (at + 1) next) 2 at w k in
      let none = nothing_made (is_taken_back line next) made.0 made.1 in
      let y : AreInner (line ∷ next ∷ []) × StandFor [] (line ∷ next ∷ []) = back_goes line next none.0 in
      let same : record { at = at; count = 2; lines = [] } ≡ w = ap (λ (x : List Line). record { at = at; count = 2; lines = x }) none.1 ∙ made.2 in
      window_goes f main out lines table at w is sound more 2 (line ∷ next ∷ []) [] (ap (take 2) e) (omega arith) (omega (arith, ap length e, length-drop at lines)) same y.0 tt (λ s apt. y.1 (with_lines s f lines))

  four : (line one other last : Line) (post new : List Line) → drop at lines ≡ line ∷ one ∷ other ∷ last ∷ post → record { at = at; count = 4; lines = new } ≡ w → InLine line one other last new → IsFollowedBy f main out lines (rewritten lines w)
  four line one other last post new e same k =
      let inner : AreInner (line ∷ one ∷ other ∷ last ∷ []) = (subst (λ (l : Line). IsInner (form_of l)) k.push tt, (k.load.first_inner, (k.load.second_inner, (subst (λ (l : Line). IsInner (form_of l)) k.call tt, tt)))) in
      window_goes f main out lines table at w is sound more 4 (line ∷ one ∷ other ∷ last ∷ []) new (ap (take 4) e) (omega arith) (omega (arith, ap length e, length-drop at lines)) same inner k.done.inner (λ s apt to after.
      let here : IsSound lines = sound_here s f lines out apt in
      let good = good_at lines at (line ∷ one ∷ other ∷ last ∷ []) here.fit here.bytes inner (has_at lines at (line ∷ one ∷ other ∷ last ∷ []) post e) in
      let low : word_of s.place k.low < 256 = k.load.low_byte s.place good.1.0.fit good.1.0.byte good.1.1.0.fit good.1.1.0.byte in
      let high : word_of s.place k.high < 256 = k.load.high_byte s.place good.1.0.fit good.1.0.byte good.1.1.0.fit good.1.1.0.byte in
      subst (λ (l : Line). Justified (with_lines s f lines) to after (λ t. Unit {0}) (l ∷ one ∷ other ∷ last ∷ []) new) k.push (subst (λ (l : Line). Justified (with_lines s f lines) to after (λ t. Unit {0}) (call_of routines.PushAx ∷ one ∷ other ∷ l ∷ []) new) k.call
      (in_line (with_lines s f lines) to after k.op k.done.value one other new (word_of s.place k.low) (word_of s.place k.high) k.done.row (k.load.loads (with_lines s f lines) low high) (k.done.computes (with_lines s f lines) low high))))

  lines_done : (line : Line) (post : List Line) → drop at lines ≡ line ∷ post → done_in_line table at line post ≡ Some w → IsFollowedBy f main out lines (rewritten lines w)
  lines_done line (one ∷ other ∷ last ∷ post) e k =
      let made = placed (unstacked line one other last) (is_settled table (at + 3) last) 4 at w k in
      four line one other last post made.0 e made.2 (unstack line one other last made.0 made.1)
  lines_done line _ e k = absurd cc

pub taken_back_followed : RuleIsFollowed 33
taken_back_followed f main out literals lines table at w segment is m sound more =
    at_line 33 out literals lines table at w (IsFollowedBy f main out lines (rewritten lines w)) (λ line post e k. nothing f main out lines table at w is sound more line post e k) m

pub moved_at_once_followed : RuleIsFollowed 34
moved_at_once_followed f main out literals lines table at w segment is m sound more =
    at_line 34 out literals lines table at w (IsFollowedBy f main out lines (rewritten lines w)) (λ line post e k. once f main out lines table at w is sound more 34 line post e (λ next r h. move_stands line next r h) k) m

pub moved_by_byte_followed : RuleIsFollowed 35
moved_by_byte_followed f main out literals lines table at w segment is m sound more =
    at_line 35 out literals lines table at w (IsFollowedBy f main out lines (rewritten lines w)) (λ line post e k. once f main out lines table at w is sound more 35 line post e (λ next r h. byte_stands line next r h) k) m

pub zero_pushed_followed : RuleIsFollowed 36
zero_pushed_followed f main out literals lines table at w segment is m sound more =
    at_line 36 out literals lines table at w (IsFollowedBy f main out lines (rewritten lines w)) (λ line post e k. once f main out lines table at w is sound more 36 line post e (λ next r h. zero_stands line next r h) k) m

pub word_at_sp_followed : RuleIsFollowed 37
word_at_sp_followed f main out literals lines table at w segment is m sound more =
    at_line 37 out literals lines table at w (IsFollowedBy f main out lines (rewritten lines w)) (λ line post e k. once f main out lines table at w is sound more 37 line post e (λ next r h. word_stands line next r h) k) m

pub in_line_followed : RuleIsFollowed 38
in_line_followed f main out literals lines table at w segment is m sound more =
    at_line 38 out literals lines table at w (IsFollowedBy f main out lines (rewritten lines w)) (λ line post e k. lines_done f main out lines table at w is sound more line post e k) m
