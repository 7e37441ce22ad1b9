-- What the parser answers of a unit, exactly.
use Rattle.std.proofs.Common.{◌≡◌, ℕ, max, List, [], ◌∷◌, ◌++◌, ap, ◌∙◌, arith}
use Rattle.std.proofs.lemmas.List.{append-nil}
use Rattle.std.specs.Prelude.{Result, Ok, Err}
use Rattle.c65_base.specs.Answers.{at, large, Gives}
use Rattle.c65_base.specs.declared.code.Code.{Code}
use Rattle.c65_base.specs.declared.refusal.Pos.{Pos}
use Rattle.c65_base.specs.declared.refusal.Size.{Size}
use Rattle.c65_base.specs.declared.refusal.Refusal.{Refusal}
use Rattle.c65_base.specs.declared.refusal.Refusal.TheVariants as refusals
use Rattle.c65_scan.specs.declared.token.Token.{Token}
use Rattle.c65_tree.specs.Trees as t
use Rattle.c65_tree.specs.Depth.{unit_depth}
use Rattle.c65_decl.specs.Units.{unit_read}
use Rattle.c65_parse_grammar.specs.Readings.{units, IsUnitWithin}
use Rattle.c65_parse_law_depth.proofs.Units.{units_grow}
use Rattle.c65_parse_law_sound.specs.Units.{EndsOnce}
use Rattle.c65_parse_law_sound.proofs.Small.{units_are_units}
use Rattle.c65_parse_law_units.proofs.Whole.{units_are_read, units_are_one}
use Rattle.c65_parse_law_faults.proofs.Whole.{ends_in}
use Rattle.c65_parse_law_exact.specs.Exact.{IsOnlyUnit, ReadsUnit}
use Rattle.c65_parse_law_exact.proofs.Whole.{units_stop_at}
use Rattle.c65_parse_law_exact.proofs.Never.{Reads, never, no_depth, code_is, depth_is, size_is}
use Rattle.c65_parse_law_exact.proofs.Units.{unit_stuck, unit_again}

reads_units : Reads unit_read units unit_depth
reads_units limit ts tree p deep = ([], tree, ap (unit_read limit) (append-nil ts) ∙ units_are_read limit ts tree (record { derives = p; within = deep }))

only_unit : (tokens : List Token) (unit : t.UnitTree) → EndsOnce tokens → unit_read 256 tokens ≡ Ok unit → IsOnlyUnit tokens unit
only_unit tokens unit once e =
    let it : IsUnitWithin 256 tokens unit = units_are_units 256 (omega arith) tokens unit once e in
    let low = it.within in
    (it, λ other p. units_are_one (max 256 (unit_depth other)) tokens other unit (record { derives = p; within = omega arith }) (record { derives = it.derives; within = omega (arith, low) }))

no_unit : (tokens : List Token) (code : Code) (pos : Pos) → EndsOnce tokens → unit_read 256 tokens ≡ Err (at code pos) → ReadsUnit {X = t.UnitTree} tokens (λ u. u) (Err (refusals.At code pos))
no_unit tokens code pos once e =
    let s = unit_stuck 256 tokens (at code pos) (omega arith) (ends_in tokens once) e in
    let f = s.failed in
    let is = code_is f.next code pos f.fault_is in (
      f.next,
      is.0,
      is.1,
      record {
        front = f.before;
        others = f.others;
        tokens_are = f.tokens_are;
        before = s.goes_on;
        never = never 256 unit_read units unit_depth (at code pos) f.before f.next (no_depth code pos) (λ more. unit_again 256 f.before f.next more (at code pos) (f.again (f.before ++ f.next ∷ more) (f.before ++ f.next ∷ more) more (omega arith) (omega arith))) units_grow reads_units;
      },
    )

deep_unit : (tokens : List Token) (size : Size) (value : ℕ) → EndsOnce tokens → unit_read 256 tokens ≡ Err (large size value) → ReadsUnit {X = t.UnitTree} tokens (λ u. u) (Err (refusals.TooLarge size value))
deep_unit tokens size value once e =
    let s = units_stop_at 256 tokens (large size value) (omega arith) once e in
    let deep = depth_is s.next size value s.fault_is in
    let is = size_is size value deep in
    let more = s.deeper deep in (
      is.0,
      is.1,
      record {
        front = s.before;
        next = s.next;
        others = s.others;
        tokens_are = s.tokens_are;
        before = s.goes_on;
        none = s.none;
        deeper = (more.0, more.2);
      },
    )

-- what the call answers
pub reads_unit : {X : Type 0} (view : X → t.UnitTree) (r : Result X Refusal) (tokens : List Token) → EndsOnce tokens → Gives view r (unit_read 256 tokens) → ReadsUnit tokens view r
reads_unit view (Ok x) tokens once h = only_unit tokens (view x) once h
reads_unit view (Err refusals.OutOfMemory) tokens once h = tt
reads_unit view (Err (refusals.At code pos)) tokens once h = no_unit tokens code pos once h
reads_unit view (Err (refusals.TooLarge size value)) tokens once h = deep_unit tokens size value once h
reads_unit view (Err _) tokens once h = absurd h
