-- Each of the rules keeps what rewritings keep.
use Rattle.std.proofs.Common.{◌≡◌, ℕ, ◌+◌, Bool, true, false, List, [], ◌∷◌, drop, Option, Some, None, refl, arith}
use Rattle.c65_code.specs.declared.line.Line.{Line}
use Rattle.c65_code.specs.declared.line.Sym.{Sym}
use Rattle.c65_code.specs.Parts.{set_of}
use Rattle.c65_code.specs.Segments.{IsSegment}
use Rattle.c65_live.specs.Tables.{Table, is_dead}
use Rattle.c65_pass.specs.Passes.{IsGood}
use Rattle.c65_pass.specs.ProcessorRules.{shorter, short_line, left_otherwise, processor_rule}
use Rattle.c65_pass.specs.Rounds.{IsRuleOf, AreGood}
use Rattle.c65_pass.specs.Rewriting.{Rewriting, Keeps}
use Rattle.c65_pass.proofs.Places.{at_line}
use Rattle.c65_pass.proofs.Plain.{keeps_plain}
use Rattle.c65_pass.proofs.Turns.{good_one, good_more}
use Rattle.c65_c02.proofs.Shortened.{IsShort, zero_short, up_short, down_short, load_short, store_short}

shorter_keeps : (lines : List Line) (at : ℕ) (line next : Line) (post : List Line) (w : Rewriting) (dead : Bool) (new : Option Line) → drop at lines ≡ line ∷ next ∷ post → IsSegment lines
    → ((l : Line) → new ≡ Some l → IsShort line next l) → shorter dead at new ≡ Some w → Keeps lines w
shorter_keeps lines at line next post w false new e s short m = absurd cc
shorter_keeps lines at line next post w true None e s short m = absurd cc
shorter_keeps lines at line next post w true (Some l) e s short m =
    let h = short l refl in
    keeps_plain lines at 2 (line ∷ next ∷ []) (l ∷ []) post w e refl (omega arith) s h.stands h.less cc

rule_keeps : (rule : ℕ) → ((line next l : Line) → short_line rule line next ≡ Some l → IsShort line next l) → (lines : List Line) (table : Table) (at : ℕ) (line : Line) (post : List Line) (w : Rewriting)
    → drop at lines ≡ line ∷ post → IsSegment lines → processor_rule rule table at line post ≡ Some w → Keeps lines w
rule_keeps rule short lines table at line [] w e s m = absurd cc
rule_keeps rule short lines table at line (next ∷ post) w e s m =
    shorter_keeps lines at line next post w (is_dead table (at + 1) (set_of (left_otherwise rule))) (short_line rule line next) e s (short line next) m

zero_good : (literals : List (Sym × List ℕ)) → IsGood 41 literals
zero_good literals noted table at w s notes live m = at_line 41 literals noted table at w (λ line post e k. rule_keeps 41 zero_short noted.lines table at line post w e s k) m

up_good : (literals : List (Sym × List ℕ)) → IsGood 42 literals
up_good literals noted table at w s notes live m = at_line 42 literals noted table at w (λ line post e k. rule_keeps 42 up_short noted.lines table at line post w e s k) m

down_good : (literals : List (Sym × List ℕ)) → IsGood 43 literals
down_good literals noted table at w s notes live m = at_line 43 literals noted table at w (λ line post e k. rule_keeps 43 down_short noted.lines table at line post w e s k) m

load_good : (literals : List (Sym × List ℕ)) → IsGood 44 literals
load_good literals noted table at w s notes live m = at_line 44 literals noted table at w (λ line post e k. rule_keeps 44 load_short noted.lines table at line post w e s k) m

store_good : (literals : List (Sym × List ℕ)) → IsGood 45 literals
store_good literals noted table at w s notes live m = at_line 45 literals noted table at w (λ line post e k. rule_keeps 45 store_short noted.lines table at line post w e s k) m

pub processor_good : AreGood (IsRuleOf 41 45)
processor_good =
    let to_41 = good_one 41 (zero_good []) in
    let to_42 = good_more 41 41 to_41 (up_good []) in
    let to_43 = good_more 41 42 to_42 (down_good []) in
    let to_44 = good_more 41 43 to_43 (load_good []) in
    good_more 41 44 to_44 (store_good [])
