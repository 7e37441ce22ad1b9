-- Rounds settle where no function is without a bound.
use Rattle.std.proofs.Common.{◌≡◌, ℕ, zero, suc, ◌+◌, ◌-◌, ◌<◌, ◌≤◌, List, [], ◌∷◌, length, Option, Some, None, refl, sym, ap, ◌∙◌, subst, arith}
use Rattle.std.specs.Prelude.{Contains, min, max}
use Rattle.c65_csem.specs.Trees.{Stmt}
use Rattle.c65_meaning.specs.Program.{ProgramTy}
use Rattle.c65_depth.specs.declared.calls.Call.{Call}
use Rattle.c65_depth.specs.declared.numbers.Numbers.{Numbers}
use Rattle.c65_depth.specs.declared.program.CertRow.{CertRow}
use Rattle.c65_depth.specs.Calls.{most}
use Rattle.c65_depth.specs.Reached.{numbers}
use Rattle.c65_depth.specs.Facts.{calls_at, body_cost}
use Rattle.c65_depth.specs.Numbers.{certificate_of, numbers_of, greatest_soft, greatest_hard, raised, numbers_after, costs_of}
use Rattle.c65_depth.specs.Certificates.{HasCall, Names, IsReachable, next, body_at}
use Rattle.c65_depth_law_ways.specs.Ways.{HasNoBound}
use Rattle.c65_depth_law_ways.proofs.Calls.{in_rest, graph_long, has_call, is_numbered}
use Rattle.c65_depth_law_ways.proofs.First.{all_bounded}
use Rattle.c65_depth_law_fits.proofs.Passed.{g, numbered, passed_to}
use Rattle.c65_depth_law_rows.specs.Rows.{number_after, RoundsSettle}
use Rattle.c65_depth_law_rows.proofs.Rows.{certified}
use Rattle.c65_depth_law_rows.proofs.Least.{number_next, no_number}
use Rattle.c65_depth_law_rows.proofs.Ranks.{rank, lower, rank_few}

-- ---- numbers of calls that stay

module _ (new all : List Numbers) where
  abbrev AllStay : List Call → Type 0
  AllStay calls = (c : Call) → Contains calls c → numbers_of new c.callee ≡ numbers_of all c.callee

  soft_stays : (calls : List Call) → AllStay calls → greatest_soft new calls ≡ greatest_soft all calls
  soft_stays [] h = refl
  soft_stays (c ∷ calls) h =
      ap (λ (n : Numbers). max n.soft (greatest_soft new calls)) (h c (0, omega arith, refl))
      ∙ ap (λ n. max (numbers_of all c.callee).soft n) (soft_stays calls (λ d k. h d (in_rest c calls d k)))

  hard_stays : (calls : List Call) → AllStay calls → greatest_hard new calls ≡ greatest_hard all calls
  hard_stays [] h = refl
  hard_stays (c ∷ calls) h =
      ap (λ (n : Numbers). max n.hard (greatest_hard new calls)) (h c (0, omega arith, refl))
      ∙ ap (λ n. max (numbers_of all c.callee).hard n) (hard_stays calls (λ d k. h d (in_rest c calls d k)))

  raised_stays : (calls : List Call) (cost : ℕ) → AllStay calls → raised new calls (Some cost) ≡ raised all calls (Some cost)
  raised_stays calls cost h =
      ap (λ (n : ℕ). record { soft = min (cost + n) most; hard = min (2 + greatest_hard new calls) most }) (soft_stays calls h)
      ∙ ap (λ (n : ℕ). record { soft = min (cost + greatest_soft all calls) most; hard = min (2 + n) most }) (hard_stays calls h)

less_rank : (a b m : ℕ) → a < b → b < suc m → a < m
less_rank a b m h i = omega (arith, h, i)

one_less : (m k : ℕ) → suc m ≤ suc k → m ≤ k
one_less m k h = omega (arith, h)

none_less : (m : ℕ) → suc m ≤ 0 → ⊥
none_less m h = omega (arith, h)

module _ (p : ProgramTy) (bounded : (f : ℕ) → HasNoBound p f → ⊥) where
  abbrev after_rounds : ℕ → List Numbers
  after_rounds k = numbers_after (g p) (costs_of p.unit p.main) k

  -- after as many rounds as its rank a function's number stays
  settle : (m f : ℕ) → IsReachable p f → (body : Stmt) → body_at p f ≡ Some body → rank p f < m → (k : ℕ) → m ≤ k → number_after p (suc k) f ≡ number_after p k f
  settle zero f r body is low k few = absurd (omega (arith, low))
  settle (suc m) f r body is low zero few = absurd (none_less m few)
  settle (suc m) f r body is low (suc k) few =
      number_next p (suc k) f body is
      ∙ (raised_stays (after_rounds (suc k)) (after_rounds k) (calls_at (g p) f) (min (passed_to p f + body_cost p.unit body) most) (λ c among. stays c (has_call p f c among) c.callee refl (λ h s b e lower_it. settle m h s b e (less_rank (rank p h) (rank p f) m lower_it low) k (one_less m k few)))
      ∙ sym (number_next p k f body is))
    where
      stays : (c : Call) → HasCall p f c → (o : Option ℕ) → c.callee ≡ o → ((h : ℕ) → IsReachable p h → (b : Stmt) → body_at p h ≡ Some b → rank p h < rank p f → number_after p (suc k) h ≡ number_after p k h) → numbers_of (after_rounds (suc k)) o ≡ numbers_of (after_rounds k) o
      stays c has None named rest = refl
      stays c has (Some h) named rest = by_body (body_at p h) refl
        where
          names : Names p f h
          names = record { call = c; has = has; named = named }

          by_body : (o : Option Stmt) → body_at p h ≡ o → number_after p (suc k) h ≡ number_after p k h
          by_body None e = no_number p (suc k) h e ∙ sym (no_number p k h e)
          by_body (Some b) e = rest h (next r names) b e (lower p bounded f h r names (numbered p h (is_numbered p h b e)))

  pub settled : (f k : ℕ) → IsReachable p f → length (g p) ≤ k → number_after p (suc k) f ≡ number_after p k f
  settled f k r few = by_body (body_at p f) refl
    where
      by_body : (o : Option Stmt) → body_at p f ≡ o → number_after p (suc k) f ≡ number_after p k f
      by_body None e = no_number p (suc k) f e ∙ sym (no_number p k f e)
      by_body (Some body) e = settle (length (g p)) f r body e (rank_few p bounded f r (numbered p f (is_numbered p f body e))) k few

  further : (d f : ℕ) → IsReachable p f → number_after p (d + length (g p)) f ≡ number_after p (length (g p)) f
  further zero f r = let same : 0 + length (g p) ≡ length (g p) = omega arith in ap (λ k. number_after p k f) same
  further (suc d) f r =
      let same : suc d + length (g p) ≡ suc (d + length (g p)) = omega arith in
      ap (λ k. number_after p k f) same ∙ (settled f (d + length (g p)) r (omega arith) ∙ further d f r)

  at_once : (f k : ℕ) → IsReachable p f → length (g p) ≤ k → number_after p k f ≡ number_after p (length (g p)) f
  at_once f k r few =
      let same : k - length (g p) + length (g p) ≡ k = omega (arith, few) in
      ap (λ j. number_after p j f) (sym same) ∙ further (k - length (g p)) f r

pub no_bound_lacks : (p : ProgramTy) (rs : List CertRow) → length p.unit.funcs ≤ numbers → certificate_of p.unit p.main ≡ Some rs → (f : ℕ) → HasNoBound p f → ⊥
no_bound_lacks p rs enough e = all_bounded p enough (certified p rs e).0

pub rounds_settle : RoundsSettle
rounds_settle p rs enough e f k r few =
    subst (λ n. number_after p k f ≡ number_after p n f) (graph_long p.unit p.unit.funcs)
    (at_once p (no_bound_lacks p rs enough e) f k r (subst (λ n. n ≤ k) (sym (graph_long p.unit p.unit.funcs)) few))
