-- Where no JMP stands at a label, no line is sent on.
use Rattle.std.proofs.Common.{◌≡◌, ◌⊎◌, inl, inr, ℕ, ◌<◌, ◌≤◌, Bool, true, false, List, [], ◌∷◌, Option, Some, None, Ok, drop, refl, sym, subst, arith, ap}
use Rattle.std.specs.Prelude.{◌||◌, ◌==◌, if◌then◌else◌, is_some}
use Rattle.std.proofs.Math.Nat.{eq-or-lt_of_le}
use Rattle.c65_code.specs.declared.line.Line.{Line}
use Rattle.c65_code.specs.declared.line.Line.TheVariants.{Label, Do, Call}
use Rattle.c65_code.specs.Segments.{IsSegment}
use Rattle.c65_know.specs.Known.{Annotated}
use Rattle.c65_live.specs.Tables.{Table}
use Rattle.c65_pass.specs.FlowRules.{threaded, sent_to}
use Rattle.c65_pass.specs.Labels.{jump_target, branch_target, behind, first_jump, hop, has_hop, chain_end}
use Rattle.c65_pass.specs.Passes.{IsFree}
use Rattle.c65_pass.specs.Rounds.{Only, IsPassed, none}
use Rattle.c65_pass.specs.Rules.{match_there, match_at}
use Rattle.c65_pass.proofs.Chains.{unasked}

no_hop : (lines : List Line) (l : ℕ) → has_hop lines ≡ false → hop lines l ≡ None
no_hop [] l h = refl
no_hop (Label k ∷ lines) l h = here (first_jump lines) refl h (λ later. no_hop lines l later)
  where
    there : (b : Bool) → has_hop lines ≡ false → (has_hop lines ≡ false → hop lines l ≡ None) → first_jump lines ≡ None → first_jump (if b then lines else behind l lines) ≡ None
    there true later go e = e
    there false later go e = go later

    here : (o : Option ℕ) → first_jump lines ≡ o → (is_some o || has_hop lines) ≡ false → (has_hop lines ≡ false → hop lines l ≡ None) → first_jump (if l == k then lines else behind l lines) ≡ None
    here None e later go = there (l == k) later go e
    here (Some j) e later go = absurd cc
no_hop (Do op mode operand ∷ lines) l h = no_hop lines l h
no_hop (Call callee ∷ lines) l h = no_hop lines l h

none_threaded : (lines : List Line) (target : Option ℕ) → has_hop lines ≡ false → threaded lines target ≡ None
none_threaded lines None h = refl
none_threaded lines (Some l) h = ap (chain_end lines) (no_hop lines l h)

no_long_jump : (code : Annotated) (table : Table) (at : ℕ) → has_hop code.lines ≡ false → match_at 4 [] code table at ≡ None
no_long_jump code table at h = go (drop at code.lines)
  where
    go : (rest : List Line) → match_there 4 [] code table at rest ≡ None
    go [] = refl
    go (line ∷ post) = ap (λ t. sent_to t at line) (none_threaded code.lines (jump_target line) h)

no_long_branch : (code : Annotated) (table : Table) (at : ℕ) → has_hop code.lines ≡ false → match_at 5 [] code table at ≡ None
no_long_branch code table at h = go (drop at code.lines)
  where
    go : (rest : List Line) → match_there 5 [] code table at rest ≡ None
    go [] = refl
    go (line ∷ post) = ap (λ t. sent_to t at line) (none_threaded code.lines (branch_target line) h)

none_matches : (code : Annotated) (table : Table) (at rule : ℕ) → 4 ≤ rule → rule ≤ 5 → has_hop code.lines ≡ false → match_at rule [] code table at ≡ None
none_matches code table at rule first last h = go (eq-or-lt_of_le last)
  where
    go : (rule ≡ 5) ⊎ (rule < 5) → match_at rule [] code table at ≡ None
    go (inl e) = rw e (no_long_branch code table at h)
    go (inr less) = let e : rule ≡ 4 = omega (arith, first, less) in rw e (no_long_jump code table at h)

pub passed_hopless : (rule : ℕ) (code : Annotated) → 4 ≤ rule → rule ≤ 5 → has_hop code.lines ≡ false → IsSegment code.lines → IsPassed (Only rule) code code (Ok 0)
passed_hopless rule code first last h s =
    let table : Table = record { after = [] } in
    record {
      none = λ other is. subst (λ r. IsFree r [] code) (sym is) (record { table = table; live = unasked rule code table (omega (arith, last)); nowhere = λ at. none_matches code table at rule first last h });
      chain = (0, none, omega arith);
      same = λ e. refl;
      segments = (s, s);
      extent = omega arith;
      writable = λ n all. all;
      out = refl;
      refused = tt;
    }
