-- The certificate that is made of a program.
use Rattle.std.specs.Prelude.{◌≡◌, ℕ, ◌<◌, ◌≤◌, ◌↔◌, List, [], ◌∷◌, Option, Some, IsSome, length, ⊤}
use Rattle.std.specs.List.{AllByRecursion}
use Rattle.c65_csem.specs.Trees.{Stmt}
use Rattle.c65_csem_need.specs.Needs.{greatest_need}
use Rattle.c65_meaning.specs.Program.{ProgramTy}
use Rattle.c65_depth.specs.declared.numbers.Numbers.{Numbers}
use Rattle.c65_depth.specs.declared.program.CertRow.{CertRow}
use Rattle.c65_depth.specs.Facts.{graph, most_waiting}
use Rattle.c65_depth.specs.Reached.{numbers}
use Rattle.c65_depth.specs.Numbers.{numbers_after, costs_of, certificate_of}
use Rattle.c65_depth.specs.Checks.{given_by}
use Rattle.c65_depth.specs.Certificates.{IsReachable, body_at, AreCovered}
use Rattle.c65_depth_law.specs.Least.{IsAtMost, IsCounted, number_in}

-- the numbers of a function after so many rounds
abbrev pub number_after : ProgramTy → ℕ → ℕ → Numbers
number_after p k f = number_in (numbers_after (graph p.unit) (costs_of p.unit p.main) k) f

-- Where there is a certificate, as many rounds as there are functions are enough.
abbrev pub RoundsSettle : Type 0
RoundsSettle = (p : ProgramTy) (rows : List CertRow) → length p.unit.funcs ≤ numbers → certificate_of p.unit p.main ≡ Some rows
    → (f k : ℕ) → IsReachable p f → length p.unit.funcs ≤ k → number_after p k f ≡ number_after p (length p.unit.funcs) f

abbrev pub RowsAreThoseReached : Type 0
RowsAreThoseReached = (p : ProgramTy) (rows : List CertRow) → length p.unit.funcs ≤ numbers → certificate_of p.unit p.main ≡ Some rows
    → (f : ℕ) → IsSome (given_by rows f) ↔ (IsReachable p f × IsSome (body_at p f))

-- in the order of the numbers of their functions, each of which has one row
abbrev pub AreInOrder : List CertRow → Type 0
AreInOrder [] = ⊤
AreInOrder (r ∷ rows) = AllByRecursion (λ (s : CertRow). r.func < s.func) rows × AreInOrder rows

abbrev pub RowsAreInOrder : Type 0
RowsAreInOrder = (p : ProgramTy) (rows : List CertRow) → certificate_of p.unit p.main ≡ Some rows → AreInOrder rows

abbrev pub NumbersAreLeast : Type 0
NumbersAreLeast = (p : ProgramTy) (rows : List CertRow) → certificate_of p.unit p.main ≡ Some rows
    → (others : ℕ → Option Numbers) → AreCovered p others
    → (f : ℕ) (n m : Numbers) → given_by rows f ≡ Some n → others f ≡ Some m → IsAtMost n m

-- no need is above the greatest that is counted, and no number stands still
pub record AreCounted (p : ProgramTy) (rows : List CertRow) : Type 0 where
  pub needs : (f : ℕ) (body : Stmt) → IsReachable p f → body_at p f ≡ Some body → greatest_need body ≤ most_waiting
  pub numbers : (f : ℕ) (n : Numbers) → given_by rows f ≡ Some n → IsCounted n

abbrev pub RowsCover : Type 0
RowsCover = (p : ProgramTy) (rows : List CertRow) → length p.unit.funcs ≤ numbers → certificate_of p.unit p.main ≡ Some rows
    → AreCounted p rows → AreCovered p (given_by rows)
