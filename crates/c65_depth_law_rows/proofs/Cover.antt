-- The numbers of the rows cover the program.
use Rattle.std.proofs.Common.{◌≡◌, ℕ, ◌+◌, ◌*◌, ◌<◌, ◌≤◌, List, length, Option, Some, None, refl, sym, ap, ◌∙◌, subst, arith}
use Rattle.std.specs.Prelude.{min, is_some}
use Rattle.c65_csem.specs.Trees.{Stmt}
use Rattle.c65_csem_need.specs.Needs.{greatest_need}
use Rattle.c65_meaning.specs.Program.{ProgramTy}
use Rattle.c65_meaning.specs.Costs.{local_bytes, soft_cost}
use Rattle.c65_depth.specs.declared.numbers.Numbers.{Numbers}
use Rattle.c65_depth.specs.declared.program.CertRow.{CertRow}
use Rattle.c65_depth.specs.Calls.{most}
use Rattle.c65_depth.specs.Facts.{calls_at, body_cost, most_waiting}
use Rattle.c65_depth.specs.Reached.{numbers}
use Rattle.c65_depth.specs.Numbers.{greatest_soft, greatest_hard, raised}
use Rattle.c65_depth.specs.Checks.{given_by}
use Rattle.c65_depth.specs.Certificates.{Names, IsReachable, next, IsPassed, body_at, numbers_by, by_pointer, CoversCallee, Covers}
use Rattle.c65_depth_law.specs.Least.{AnyNames, IsCounted, number_in}
use Rattle.c65_depth_law.proofs.Settled.{soft_above, hard_above}
use Rattle.c65_depth_law_ways.specs.Ways.{HasNoBound}
use Rattle.c65_depth_law_ways.proofs.Calls.{call_in, is_numbered}
use Rattle.c65_depth_law_fits.proofs.Passed.{g, passed_to, passed_least}
use Rattle.c65_depth_law_fits.proofs.Fitting.{any_names}
use Rattle.c65_depth_law_rows.specs.Rows.{AreCounted, RowsCover}
use Rattle.c65_depth_law_rows.proofs.Rows.{all, rows, has_one, given_there, same_rows}
use Rattle.c65_depth_law_rows.proofs.Least.{number_next, no_number}
use Rattle.c65_depth_law_rows.proofs.Settle.{settled, no_bound_lacks}

-- ---- what does not stand still

not_still : (n own : ℕ) → own ≡ min n most → own < most → n ≤ own
not_still n own e h = omega (arith, e, h)

cost_small : (cost rest own : ℕ) → cost + rest ≤ own → own < most → cost < most
cost_small cost rest own h i = omega (arith, h, i)

passed_small : (passed rest : ℕ) → min (passed + rest) most < most → passed < most
passed_small passed rest h = omega (arith, h)

cost_exact : (passed locals waiting : ℕ) → min (passed + min (locals + 6 + 8 * min waiting most_waiting) most) most < most → waiting ≤ most_waiting → passed + locals + 6 + 8 * waiting ≤ min (passed + min (locals + 6 + 8 * min waiting most_waiting) most) most
cost_exact passed locals waiting h i = omega (arith, h, i)

less_passed : (n passed locals waiting above cost rest own : ℕ) → n ≤ passed → passed + locals + 6 + 8 * waiting ≤ cost → above ≤ rest → cost + rest ≤ own → n + locals + 6 + 8 * waiting + above ≤ own
less_passed n passed locals waiting above cost rest own h i j k = omega (arith, h, i, j, k)

nothing_above : (cost soft : ℕ) → cost + 0 ≤ soft → cost ≤ soft
nothing_above cost soft h = omega (arith, h)

at_least_two : (rest hard : ℕ) → 2 + rest ≤ hard → 2 ≤ hard
at_least_two rest hard h = omega (arith, h)

hard_less : (a rest hard : ℕ) → a ≤ rest → 2 + rest ≤ hard → 2 + a ≤ hard
hard_less a rest hard h i = omega (arith, h, i)

itself : (n : ℕ) → n ≤ n
itself n = omega arith

module _ (p : ProgramTy) (enough : length p.unit.funcs ≤ numbers) (bounded : (f : ℕ) → HasNoBound p f → ⊥) (counted : AreCounted p (rows p)) where
  given : (f : ℕ) (body : Stmt) → IsReachable p f → body_at p f ≡ Some body → given_by (rows p) f ≡ Some (number_in (all p) f)
  given f body r is =
      let few = is_numbered p f body is in
      given_there p f few (has_one p enough f r few (ap (λ (o : Option Stmt). is_some o) is))

  module _ (f : ℕ) (body : Stmt) (r : IsReachable p f) (is : body_at p f ≡ Some body) where
    abbrev own : Numbers
    own = number_in (all p) f

    abbrev cost : ℕ
    cost = min (passed_to p f + body_cost p.unit body) most

    own_counted : IsCounted own
    own_counted = counted.numbers f own (given f body r is)

    own_is : own ≡ raised (all p) (calls_at (g p) f) (Some cost)
    own_is = sym (settled p bounded f (length (g p)) r (itself (length (g p)))) ∙ number_next p (length (g p)) f body is

    soft_is : cost + greatest_soft (all p) (calls_at (g p) f) ≤ own.soft
    soft_is = not_still (cost + greatest_soft (all p) (calls_at (g p) f)) own.soft (ap (λ (n : Numbers). n.soft) own_is) own_counted.soft

    hard_is : 2 + greatest_hard (all p) (calls_at (g p) f) ≤ own.hard
    hard_is = not_still (2 + greatest_hard (all p) (calls_at (g p) f)) own.hard (ap (λ (n : Numbers). n.hard) own_is) own_counted.hard

    cost_few : cost < most
    cost_few = cost_small cost (greatest_soft (all p) (calls_at (g p) f)) own.soft soft_is own_counted.soft

    -- with what any call passes
    soft_with : (n above : ℕ) → IsPassed p f n → above ≤ greatest_soft (all p) (calls_at (g p) f) → soft_cost p.unit n body + above ≤ own.soft
    soft_with n above passed h =
        less_passed n (passed_to p f) (local_bytes p.unit body) (greatest_need body) above cost (greatest_soft (all p) (calls_at (g p) f)) own.soft
        (passed_least p f n passed (passed_small (passed_to p f) (body_cost p.unit body) cost_few))
        (cost_exact (passed_to p f) (local_bytes p.unit body) (greatest_need body) cost_few (counted.needs f body r is))
        h soft_is

    callee_is : (h : ℕ) → IsReachable p h → (o : Option Stmt) → body_at p h ≡ o → numbers_by p (given_by (rows p)) h o ≡ Some (number_in (all p) h)
    callee_is h s None e = ap (λ (n : Numbers). Some n) (sym (no_number p (length (g p)) h e))
    callee_is h s (Some b) e = given h b s e

    callee_covered : (n h : ℕ) → IsPassed p f n → Names p f h → CoversCallee p (given_by (rows p)) (soft_cost p.unit n body) own h
    callee_covered n h passed names =
        let told : AnyNames h (calls_at (g p) f) = any_names h (calls_at (g p) f) names.call (call_in p f names.call names.has) names.named in
        record {
          callee = number_in (all p) h;
          is_callee = callee_is h (next r names) (body_at p h) refl;
          soft = soft_with n (number_in (all p) h).soft passed (soft_above (all p) h (calls_at (g p) f) told);
          hard = hard_less (number_in (all p) h).hard (greatest_hard (all p) (calls_at (g p) f)) own.hard (hard_above (all p) h (calls_at (g p) f) told) hard_is;
        }

    pub covers_it : Covers p (given_by (rows p)) f body
    covers_it = record {
      own = own;
      is_own = given f body r is;
      no_pointer = λ c. bounded f (record { reached = r; unbounded = by_pointer c });
      soft = λ n passed. nothing_above (soft_cost p.unit n body) own.soft (soft_with n 0 passed (omega arith));
      hard = at_least_two (greatest_hard (all p) (calls_at (g p) f)) own.hard hard_is;
      callees = callee_covered;
    }

pub rows_cover : RowsCover
rows_cover p rs enough e counted f body r is =
    let same = same_rows p rs e in
    subst (λ (made : List CertRow). Covers p (given_by made) f body) same
    (covers_it p enough (no_bound_lacks p rs enough e) (subst (λ (made : List CertRow). AreCounted p made) (sym same) counted) f body r is)
