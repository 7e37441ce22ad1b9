-- Each of the rules keeps what rewritings keep.
use Rattle.std.proofs.Common.{◌≡◌, ℕ, ◌+◌, Bool, true, false, List, [], ◌∷◌, drop, Option, Some, None, refl, arith}
use Rattle.c65_code.specs.declared.line.Line.{Line}
use Rattle.c65_code.specs.declared.line.Sym.{Sym}
use Rattle.c65_code.specs.declared.routine.Routine.{Routine}
use Rattle.c65_code.specs.Segments.{IsSegment}
use Rattle.c65_live.specs.Tables.{Table}
use Rattle.c65_pass.specs.StackRules.{is_settled, in_place, call_of, one_call, nothing_if, is_taken_back, one_routine, unstacked, undone, called_once, done_in_line}
use Rattle.c65_pass.specs.Passes.{IsGood}
use Rattle.c65_pass.specs.Rewriting.{Rewriting, Keeps}
use Rattle.c65_pass.specs.Rounds.{IsRuleOf, AreGood}
use Rattle.c65_pass.proofs.Places.{at_line}
use Rattle.c65_pass.proofs.Plain.{keeps_plain}
use Rattle.c65_pass.proofs.Turns.{good_one, good_more}
use Rattle.c65_optstack.proofs.Shorter.{IsLess, taken_back_less, moved_at_once_less, moved_by_byte_less, zero_pushed_less, word_at_sp_less}
use Rattle.c65_optstack.proofs.Unstacked.{unstacked_less}

-- ---- two lines

nothing_keeps : (lines : List Line) (at : ℕ) (line next : Line) (post : List Line) (w : Rewriting) (b settled : Bool) → drop at lines ≡ line ∷ next ∷ post → IsSegment lines
    → (b ≡ true → IsLess (line ∷ next ∷ []) []) → in_place (nothing_if b) settled 2 at ≡ Some w → Keeps lines w
nothing_keeps lines at line next post w true true e s less m =
    let is : record { at = at; count = 2; lines = [] } ≡ w = cc in
    let k = less refl in
    keeps_plain lines at 2 (line ∷ next ∷ []) [] post w e refl (omega arith) s k.stand k.less is
nothing_keeps lines at line next post w true false e s less m = absurd cc
nothing_keeps lines at line next post w false settled e s less m = absurd cc

undone_keeps : (lines : List Line) (table : Table) (at : ℕ) (line : Line) (post : List Line) (w : Rewriting) → drop at lines ≡ line ∷ post → IsSegment lines → undone table at line post ≡ Some w → Keeps lines w
undone_keeps lines table at line [] w e s m = absurd cc
undone_keeps lines table at line (next ∷ post) w e s m =
    nothing_keeps lines at line next post w (is_taken_back line next) (is_settled table (at + 1) next) e s (taken_back_less line next) m

call_keeps : (lines : List Line) (at : ℕ) (line next : Line) (post : List Line) (w : Rewriting) (made : Option Routine) (settled : Bool) → drop at lines ≡ line ∷ next ∷ post → IsSegment lines
    → ((r : Routine) → made ≡ Some r → IsLess (line ∷ next ∷ []) (call_of r ∷ [])) → in_place (one_call made) settled 2 at ≡ Some w → Keeps lines w
call_keeps lines at line next post w None settled e s less m = absurd cc
call_keeps lines at line next post w (Some r) true e s less m =
    let is : record { at = at; count = 2; lines = call_of r ∷ [] } ≡ w = cc in
    let k = less r refl in
    keeps_plain lines at 2 (line ∷ next ∷ []) (call_of r ∷ []) post w e refl (omega arith) s k.stand k.less is
call_keeps lines at line next post w (Some r) false e s less m = absurd cc

once_keeps : (rule : ℕ) (lines : List Line) (table : Table) (at : ℕ) (line : Line) (post : List Line) (w : Rewriting)
    → ((one next : Line) (r : Routine) → one_routine rule one next ≡ Some r → IsLess (one ∷ next ∷ []) (call_of r ∷ [])) → drop at lines ≡ line ∷ post → IsSegment lines
    → called_once rule table at line post ≡ Some w → Keeps lines w
once_keeps rule lines table at line [] w less e s m = absurd cc
once_keeps rule lines table at line (next ∷ post) w less e s m =
    call_keeps lines at line next post w (one_routine rule line next) (is_settled table (at + 1) next) e s (less line next) m

-- ---- four lines

lines_keep : (lines : List Line) (at : ℕ) (line one other last : Line) (post : List Line) (w : Rewriting) (new : Option (List Line)) (settled : Bool)
    → drop at lines ≡ line ∷ one ∷ other ∷ last ∷ post → IsSegment lines → ((ls : List Line) → new ≡ Some ls → IsLess (line ∷ one ∷ other ∷ last ∷ []) ls)
    → in_place new settled 4 at ≡ Some w → Keeps lines w
lines_keep lines at line one other last post w None settled e s less m = absurd cc
lines_keep lines at line one other last post w (Some ls) true e s less m =
    let is : record { at = at; count = 4; lines = ls } ≡ w = cc in
    let k = less ls refl in
    keeps_plain lines at 4 (line ∷ one ∷ other ∷ last ∷ []) ls post w e refl (omega arith) s k.stand k.less is
lines_keep lines at line one other last post w (Some ls) false e s less m = absurd cc

in_line_keeps : (lines : List Line) (table : Table) (at : ℕ) (line : Line) (post : List Line) (w : Rewriting) → drop at lines ≡ line ∷ post → IsSegment lines
    → done_in_line table at line post ≡ Some w → Keeps lines w
in_line_keeps lines table at line (one ∷ other ∷ last ∷ post) w e s m =
    lines_keep lines at line one other last post w (unstacked line one other last) (is_settled table (at + 3) last) e s (unstacked_less line one other last) m
in_line_keeps lines table at line _ w e s m = absurd cc

-- ---- the rules

undone_good : (literals : List (Sym × List ℕ)) → IsGood 33 literals
undone_good literals noted table at w s notes live m = at_line 33 literals noted table at w (λ line post e k. undone_keeps noted.lines table at line post w e s k) m

moved_at_once_good : (literals : List (Sym × List ℕ)) → IsGood 34 literals
moved_at_once_good literals noted table at w s notes live m = at_line 34 literals noted table at w (λ line post e k. once_keeps 34 noted.lines table at line post w moved_at_once_less e s k) m

moved_by_byte_good : (literals : List (Sym × List ℕ)) → IsGood 35 literals
moved_by_byte_good literals noted table at w s notes live m = at_line 35 literals noted table at w (λ line post e k. once_keeps 35 noted.lines table at line post w moved_by_byte_less e s k) m

zero_pushed_good : (literals : List (Sym × List ℕ)) → IsGood 36 literals
zero_pushed_good literals noted table at w s notes live m = at_line 36 literals noted table at w (λ line post e k. once_keeps 36 noted.lines table at line post w zero_pushed_less e s k) m

word_at_sp_good : (literals : List (Sym × List ℕ)) → IsGood 37 literals
word_at_sp_good literals noted table at w s notes live m = at_line 37 literals noted table at w (λ line post e k. once_keeps 37 noted.lines table at line post w word_at_sp_less e s k) m

done_in_line_good : (literals : List (Sym × List ℕ)) → IsGood 38 literals
done_in_line_good literals noted table at w s notes live m = at_line 38 literals noted table at w (λ line post e k. in_line_keeps noted.lines table at line post w e s k) m

pub stack_good : AreGood (IsRuleOf 33 38)
stack_good =
    let to_33 = good_one 33 (undone_good []) in
    let to_34 = good_more 33 33 to_33 (moved_at_once_good []) in
    let to_35 = good_more 33 34 to_34 (moved_by_byte_good []) in
    let to_36 = good_more 33 35 to_35 (zero_pushed_good []) in
    let to_37 = good_more 33 36 to_36 (word_at_sp_good []) in
    good_more 33 37 to_37 (done_in_line_good [])
