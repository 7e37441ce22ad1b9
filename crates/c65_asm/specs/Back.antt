-- What reading a printed text answers.
use Rattle.std.specs.Prelude.{◌≡◌, Result, MatchResult}
use Rattle.c65_base.specs.declared.refusal.Refusal.{Refusal}
use Rattle.c65_base.specs.declared.refusal.Refusal.TheVariants.{OutOfMemory}
use Rattle.c65_code.specs.declared.code.Code.{Code}
use Rattle.c65_asm.specs.Renumbered.{renumbered}

-- the code, its symbols numbered in the order in which the text first names them; or want of memory
abbrev pub ReadsBack : Code → Result Code Refusal → Type 0
ReadsBack code result = MatchResult result (λ c. c ≡ renumbered code) (λ refusal. refusal ≡ OutOfMemory)
