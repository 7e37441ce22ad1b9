-- What the answer of `depth` says of the program of its files.
use Rattle.std.proofs.Common.{◌≡◌, ℕ, ◌+◌, ◌≤◌, Bool, true, false, List, [], ◌∷◌, length, Option, Some, None, refl, sym, ap, ◌∙◌, arith}
use Rattle.std.specs.Prelude.{◌↔◌, fold}
use Rattle.c65_io.specs.Contents.{Contents}
use Rattle.c65_meaning.specs.Costs.{text_bytes, arguments_bytes}
use Rattle.c65_depth.specs.declared.program.CertRow.{CertRow}
use Rattle.c65_depth.specs.Checks.{is_checked}
use Rattle.c65_depth.specs.Numbers.{certificate_of}
use Rattle.c65_sim.specs.View.{arguments_size}
use Rattle.c65_depth_law_fits.proofs.Typed.{check_is_exact}
use Rattle.c65_depth_law_fits.proofs.Runs.{checked_is_never_deep}
use Rattle.c65_driver_words.specs.Commands.{Spelled}
use Rattle.c65_commands.specs.Depth.{IsMeasured, arguments_of, size_of, verdict_status, status_by}
use Rattle.c65_driver_law_depth.specs.Reported.{measured, HasFittingRows, FittingIsReported, NoReportedStateIsDeep}

-- ---- the bytes of arguments

folded : (n : ℕ) (args : List (List ℕ)) → fold (λ (m : ℕ) (arg : List ℕ). m + (length arg + 1)) n args ≡ n + text_bytes args
folded n [] = omega arith
folded n (a ∷ rest) = let e = folded (n + (length a + 1)) rest in omega (arith, e)

sizes_within : (args : List (List ℕ)) → arguments_bytes args ≤ arguments_size args
sizes_within args = let e = folded 0 args in omega (arith, e)

-- ---- the answer

module _ (c : Spelled) (contents : Contents) (text : List ℕ) (status : ℕ) (m : IsMeasured c contents text status) where
  pub record IsYes : Type 0 where
    pub rows : List CertRow
    pub made : certificate_of m.unit m.main ≡ Some rows
    pub checked : is_checked m.unit m.main rows (size_of c) ≡ true

  is_yes : (b : Bool) → verdict_status b ≡ 0 → b ≡ true
  is_yes true e = refl
  is_yes false e = absurd (omega (arith, e))

  said_by : (o : Option (List CertRow)) → certificate_of m.unit m.main ≡ o → status_by m.names m.unit m.main (size_of c) o ≡ 0 → IsYes
  said_by None is e = absurd (omega (arith, e))
  said_by (Some rows) is e = record { rows = rows; made = is; checked = is_yes (is_checked m.unit m.main rows (size_of c)) e }

  pub says_yes : status ≡ 0 → IsYes
  says_yes e = said_by (certificate_of m.unit m.main) refl (sym m.report.1 ∙ e)

  fits_so : IsYes → HasFittingRows c contents text status m
  fits_so y = record { rows = y.rows; made = y.made; fitting = (check_is_exact (measured c contents text status m) y.rows (size_of c) m.of_files.good.well_typed).0 y.checked }

  says_so : HasFittingRows c contents text status m → status ≡ 0
  says_so h =
      m.report.1
      ∙ (ap (status_by m.names m.unit m.main (size_of c)) h.made
      ∙ ap verdict_status ((check_is_exact (measured c contents text status m) h.rows (size_of c) m.of_files.good.well_typed).1 h.fitting))

  pub reported : (status ≡ 0) ↔ HasFittingRows c contents text status m
  reported = (λ e. fits_so (says_yes e), says_so)

pub fitting_is_reported : FittingIsReported
fitting_is_reported c contents text status m = reported c contents text status m

pub no_reported_state_is_deep : NoReportedStateIsDeep
no_reported_state_is_deep c contents text m input n =
    let y = says_yes c contents text 0 m refl in
    checked_is_never_deep (measured c contents text 0 m) y.rows (size_of c) (arguments_of c) input n y.checked (sizes_within (arguments_of c))
