-- What the answer of `depth` says of the program of its files.
use Rattle.std.specs.Prelude.{◌≡◌, ◌≢◌, ℕ, ◌↔◌, List, Some}
use Rattle.c65_io.specs.Contents.{Contents}
use Rattle.c65_meaning.specs.Program.{ProgramTy}
use Rattle.c65_meaning.specs.State.{Deep}
use Rattle.c65_meaning.specs.Sem.{state_at}
use Rattle.c65_depth.specs.declared.program.CertRow.{CertRow}
use Rattle.c65_depth.specs.Numbers.{certificate_of}
use Rattle.c65_depth.specs.Certificates.{IsFitting}
use Rattle.c65_driver_words.specs.Commands.{Spelled}
use Rattle.c65_commands.specs.Depth.{IsMeasured, arguments_of, size_of}

module _ (c : Spelled) (contents : Contents) (text : List ℕ) (status : ℕ) where
  -- the program that was measured
  abbrev pub measured : IsMeasured c contents text status → ProgramTy
  measured m = record { unit = m.unit; main = m.main }

  -- a certificate is made, its numbers cover the program, and the arguments have room
  pub record HasFittingRows (m : IsMeasured c contents text status) : Type 0 where
    pub rows : List CertRow
    pub made : certificate_of m.unit m.main ≡ Some rows
    pub fitting : IsFitting (measured m) rows (size_of c)

abbrev pub FittingIsReported : Type 0
FittingIsReported = (c : Spelled) (contents : Contents) (text : List ℕ) (status : ℕ) (m : IsMeasured c contents text status)
    → (status ≡ 0) ↔ HasFittingRows c contents text status m

abbrev pub NoReportedStateIsDeep : Type 0
NoReportedStateIsDeep = (c : Spelled) (contents : Contents) (text : List ℕ) (m : IsMeasured c contents text 0) (input : List ℕ) (n : ℕ)
    → state_at (measured c contents text 0 m) (arguments_of c) input n ≢ Deep
