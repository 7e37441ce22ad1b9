-- Lines that name no symbol, and what a rule makes at a line and in its place.
use Rattle.std.proofs.Common.{◌≡◌, ℕ, ◌<◌, ◌&&◌, Bool, true, false, List, [], ◌∷◌, ◌++◌, drop, length, Option, Some, None, refl}
use Rattle.std.specs.Prelude.{All}
use Rattle.std.specs.List.{list_all}
use Rattle.std.proofs.lemmas.Bool.{and_parts}
use Rattle.std.proofs.lemmas.List.Elements.{All-nil, All-cons}
use Rattle.c65_mach.specs.declared.rows.Op.{Op}
use Rattle.c65_mach.specs.declared.rows.Mode.{Mode}
use Rattle.c65_mach.specs.declared.rows.Mode.TheVariants.{Implied, Accumulator, Immediate, ZeroPage, IndirectY}
use Rattle.c65_code.specs.declared.line.Operand.{Operand}
use Rattle.c65_code.specs.declared.line.Operand.TheVariants.{Nothing, Byte, Zero}
use Rattle.c65_code.specs.declared.line.Callee.TheVariants as callees
use Rattle.c65_code.specs.declared.line.Line.{Line}
use Rattle.c65_code.specs.declared.line.Line.TheVariants.{Label, Do, Call}
use Rattle.c65_code.specs.declared.line.Sym.{Sym}
use Rattle.c65_code.specs.Segments.{IsSegment, labels_of, target_of, targets_of, is_closing, closed_by}
use Rattle.c65_code.specs.Writable.{IsDirect, IsOperandKnown, IsLineWritable}
use Rattle.c65_know.specs.Known.{Annotated}
use Rattle.c65_live.specs.Tables.{Table}
use Rattle.c65_pass.specs.Once.{Stays}
use Rattle.c65_pass.specs.Rewriting.{Rewriting}
use Rattle.c65_pass.specs.Rules.{made_by, match_there, match_at}
use Rattle.c65_pass.specs.StackRules.{in_place}
use Rattle.c65_pass.proofs.Plain.{IsStandIn, stays_plain}

pub at_line : (rule : ℕ) (literals : List (Sym × List ℕ)) (noted : Annotated) (table : Table) (at : ℕ) (w : Rewriting)
    → ((line : Line) (post : List Line) → drop at noted.lines ≡ line ∷ post → made_by rule literals noted table at line post ≡ Some w → Stays noted.lines at w)
    → match_at rule literals noted table at ≡ Some w → Stays noted.lines at w
at_line rule literals noted table at w keeps m = go (drop at noted.lines) refl m
  where
    go : (rest : List Line) → drop at noted.lines ≡ rest → match_there rule literals noted table at rest ≡ Some w → Stays noted.lines at w
    go [] e k = absurd cc
    go (line ∷ post) e k = keeps line post e k

-- ---- lines that name no symbol

abbrev is_bare_mode : Mode → Bool
is_bare_mode Implied = true
is_bare_mode Accumulator = true
is_bare_mode Immediate = true
is_bare_mode ZeroPage = true
is_bare_mode IndirectY = true
is_bare_mode _ = false

abbrev is_bare_operand : Operand → Bool
is_bare_operand Nothing = true
is_bare_operand (Byte v) = true
is_bare_operand (Zero i) = true
is_bare_operand _ = false

abbrev pub is_bare : Line → Bool
is_bare (Do op mode operand) = is_bare_mode mode && is_bare_operand operand
is_bare (Call (callees.Routine r)) = true
is_bare _ = false

direct : (mode : Mode) → is_bare_mode mode ≡ true → IsDirect mode
direct Implied h = tt
direct Accumulator h = tt
direct Immediate h = tt
direct ZeroPage h = tt
direct IndirectY h = tt
direct _ h = absurd cc

known : (n : ℕ) (operand : Operand) → is_bare_operand operand ≡ true → IsOperandKnown n operand
known n Nothing h = tt
known n (Byte v) h = tt
known n (Zero i) h = tt
known n _ h = absurd cc

bare_writable : (n : ℕ) (line : Line) → is_bare line ≡ true → IsLineWritable n line
bare_writable n (Do op mode operand) h = let p = and_parts (is_bare_mode mode) (is_bare_operand operand) h in (direct mode p.0, known n operand p.1)
bare_writable n (Call (callees.Routine r)) h = (tt, tt)
bare_writable n _ h = absurd cc

pub all_writable : (n : ℕ) (lines : List Line) → list_all is_bare lines ≡ true → All (IsLineWritable n) lines
all_writable n [] h = All-nil (IsLineWritable n)
all_writable n (line ∷ lines) h =
    let p = and_parts (is_bare line) (list_all is_bare lines) h in
    All-cons (IsLineWritable n) line lines (bare_writable n line p.0) (all_writable n lines p.1)

operand_target : (op : Op) (mode : Mode) (operand : Operand) → is_bare_operand operand ≡ true → target_of (Do op mode operand) ≡ []
operand_target op mode Nothing h = refl
operand_target op mode (Byte v) h = refl
operand_target op mode (Zero i) h = refl
operand_target op mode _ h = absurd cc

bare_target : (line : Line) → is_bare line ≡ true → target_of line ≡ []
bare_target (Label l) h = refl
bare_target (Do op mode operand) h = operand_target op mode operand (and_parts (is_bare_mode mode) (is_bare_operand operand) h).1
bare_target (Call callee) h = refl

pub bare_targets : (lines : List Line) → list_all is_bare lines ≡ true → targets_of lines ≡ []
bare_targets [] h = refl
bare_targets (line ∷ lines) h =
    let p = and_parts (is_bare line) (list_all is_bare lines) h in
    rw (bare_target line p.0) (bare_targets lines p.1)

pub bare_labels : (lines : List Line) → list_all is_bare lines ≡ true → labels_of lines ≡ []
bare_labels [] h = refl
bare_labels (Label l ∷ lines) h = absurd cc
bare_labels (Do op mode operand ∷ lines) h = bare_labels lines (and_parts (is_bare (Do op mode operand)) (list_all is_bare lines) h).1
bare_labels (Call callee ∷ lines) h = bare_labels lines (and_parts (is_bare (Call callee)) (list_all is_bare lines) h).1

-- lines behind which a segment closes as before
pub closed_any : (b : Bool) (lines post : List Line) → closed_by false post ≡ true → closed_by b (lines ++ post) ≡ true
closed_any b [] [] k = absurd cc
closed_any b [] (line ∷ post) k = k
closed_any b (line ∷ lines) post k = closed_any (is_closing line) lines post k

-- a rule's lines in the place of old ones
pub stays_in_place : (lines : List Line) (at count : ℕ) (old post : List Line) (w : Rewriting) (new : Option (List Line)) (settled : Bool) → drop at lines ≡ old ++ post → length old ≡ count
    → 0 < count → IsSegment lines → ((ls : List Line) → new ≡ Some ls → IsStandIn old ls) → in_place new settled count at ≡ Some w → Stays lines at w
stays_in_place lines at count old post w None settled e long some s stands m = absurd cc
stays_in_place lines at count old post w (Some ls) true e long some s stands m =
    let is : record { at = at; count = count; lines = ls } ≡ w = cc in
    stays_plain lines at count old ls post w e long some s (stands ls refl) is
stays_in_place lines at count old post w (Some ls) false e long some s stands m = absurd cc
