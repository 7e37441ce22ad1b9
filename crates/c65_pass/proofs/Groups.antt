-- Rewriting by one of several rules, where it matches.
use Rattle.std.proofs.Common.{◌≡◌, ◌⊎◌, inl, inr, ℕ, suc, ◌+◌, ◌-◌, ◌*◌, ◌<◌, ◌≤◌, List, [], Some, None, length, refl, sym, subst, arith, ap}
use Rattle.std.proofs.lemmas.Bool.{cases_lt}
use Rattle.c65_code.specs.declared.line.Line.{Line}
use Rattle.c65_code.specs.declared.parts.RegSet.{RegSet}
use Rattle.c65_code.specs.Segments.{IsSegment}
use Rattle.c65_know.specs.Known.{Annotated, annotated}
use Rattle.c65_live.specs.Tables.{Table}
use Rattle.c65_pass.specs.Passes.{IsTableOf, IsTableFor, Rewrites, none, more}
use Rattle.c65_pass.specs.Rewriting.{Rewriting, bulk, Keeps, rewritten}
use Rattle.c65_pass.specs.Rounds.{Only, InTurn, AreGood, IsFoundAmong, RulesRewrite, by}
use Rattle.c65_pass.specs.Rules.{match_at}
use Rattle.c65_pass.proofs.Ranks.{rank, lower_rank, lower_bulk, turn}
use Rattle.c65_pass.proofs.Turns.{rules_kept}

pub among_keeps : (among : ℕ → Type 0) (out : RegSet) (old : List Line) (n : ℕ) (code : Annotated) (table : Table) (at : ℕ) (w : Rewriting) → AreGood among → IsSegment old
    → RulesRewrite among out old n code.lines → code ≡ annotated code.lines out → IsTableOf code table → IsFoundAmong among code table at (Some w) → Keeps code.lines w
among_keeps among out old n code table at w good s chain noted live found =
    good found.0 found.1 code table at w (rules_kept among out old code.lines n good s chain).segment (ap (λ a. a.notes) noted) (λ asks. live) found.2

-- after one more rewriting: the chain of all, and that the sweep comes nearer to its end, wherever it goes on
pub among_chain : (among : ℕ → Type 0) (out : RegSet) (old : List Line) (n : ℕ) (code new : Annotated) (table : Table) (at : ℕ) (w : Rewriting) → RulesRewrite among out old n code.lines
    → code ≡ annotated code.lines out → IsTableOf code table → IsFoundAmong among code table at (Some w) → new ≡ annotated (rewritten code.lines w) code.out → RulesRewrite among out old (suc n) new.lines
among_chain among out old n code new table at w chain noted live found e =
    let tabled : IsTableFor found.0 code table = λ asks. live in
    let one : Rewrites found.0 [] out code.lines 1 (rewritten code.lines w) = more table at none (subst (λ a. IsTableFor found.0 a table) noted tabled) (subst (λ a. match_at found.0 [] a table at ≡ Some w) noted found.2) in
    let all : RulesRewrite among out old (1 + n) (rewritten code.lines w) = by found.0 found.1 chain one in
    let same : 1 + n ≡ suc n = omega arith in
    subst (λ a. RulesRewrite among out old (suc n) a.lines) (sym e) (subst (λ count. RulesRewrite among out old count (rewritten code.lines w)) same all)

pub among_smaller : (among : ℕ → Type 0) (out : RegSet) (old : List Line) (n : ℕ) (code new : Annotated) (table : Table) (at next : ℕ) (w : Rewriting) → AreGood among → IsSegment old
    → RulesRewrite among out old n code.lines → code ≡ annotated code.lines out → IsTableOf code table → IsFoundAmong among code table at (Some w) → new ≡ annotated (rewritten code.lines w) code.out
    → rank (bulk old) new.lines * (bulk old + 1) + (length new.lines - next) < rank (bulk old) code.lines * (bulk old + 1) + (length code.lines - at)
among_smaller among out old n code new table at next w good s chain noted live found e =
    let k = rules_kept among out old code.lines n good s chain in
    let keeps = among_keeps among out old n code table at w good s chain noted live found in
    let lines : new.lines ≡ rewritten code.lines w = ap (λ a. a.lines) e in
    let less : rank (bulk old) (rewritten code.lines w) < rank (bulk old) code.lines = lower_rank (bulk old) (rewritten code.lines w) code.lines k.no_bulkier keeps.lower in
    let few : length (rewritten code.lines w) ≤ bulk old = omega (arith, k.no_bulkier, lower_bulk (rewritten code.lines w) code.lines keeps.lower) in
    rw lines (turn (bulk old) (rank (bulk old) (rewritten code.lines w)) (rank (bulk old) code.lines) (length (rewritten code.lines w) - next) (length code.lines - at) less (omega (arith, few)))

-- one place more at which none of the rules matches
pub among_clean : (among : ℕ → Type 0) (code : Annotated) (table : Table) (at : ℕ) → ((rule : ℕ) → among rule → (k : ℕ) → k < at → match_at rule [] code table k ≡ None)
    → IsFoundAmong among code table at None → (rule : ℕ) → among rule → (k : ℕ) → k < at + 1 → match_at rule [] code table k ≡ None
among_clean among code table at before here rule r k less = go (cases_lt k at)
  where
    go : (k < at) ⊎ (at ≤ k) → match_at rule [] code table k ≡ None
    go (inl earlier) = before rule r k earlier
    go (inr no_less) = let e : k ≡ at = omega (arith, less, no_less) in rw e (here rule r)

-- one rule more that does not match
pub rule_clean : (code : Annotated) (table : Table) (at first now : ℕ) → ((rule : ℕ) → first ≤ rule → rule < now → match_at rule [] code table at ≡ None) → match_at now [] code table at ≡ None
    → (rule : ℕ) → first ≤ rule → rule < now + 1 → match_at rule [] code table at ≡ None
rule_clean code table at first now before here rule from less = go (cases_lt rule now)
  where
    go : (rule < now) ⊎ (now ≤ rule) → match_at rule [] code table at ≡ None
    go (inl earlier) = before rule from earlier
    go (inr no_less) = let e : rule ≡ now = omega (arith, less, no_less) in rw e here

pub none_found : (code : Annotated) (table : Table) (at first end now : ℕ) → ((rule : ℕ) → first ≤ rule → rule < now → match_at rule [] code table at ≡ None) → end ≤ now → IsFoundAmong (InTurn first end Only) code table at None
none_found code table at first end now clean last rule t =
    let e : match_at t.turn [] code table at ≡ None = clean t.turn t.first (omega (arith, t.before, last)) in subst (λ r. match_at r [] code table at ≡ None) (sym t.among) e

pub one_found : (code : Annotated) (table : Table) (at first end rule : ℕ) (w : Rewriting) → first ≤ rule → rule < end → match_at rule [] code table at ≡ Some w → IsFoundAmong (InTurn first end Only) code table at (Some w)
one_found code table at first end rule w from before matches = (rule, record { turn = rule; first = from; before = before; among = refl }, matches)
