-- The lines of a call through ptr4, and what follows them.
use Rattle.std.proofs.Common.{◌≡◌, ℕ, suc, ◌+◌, Bool, true, false, List, [], ◌∷◌, ◌++◌, length, subst, arith}
use Rattle.c65_code.specs.declared.line.Line.{Line}
use Rattle.c65_code.specs.declared.line.Line.TheVariants.{Call}
use Rattle.c65_code.specs.declared.line.Callee.TheVariants.{Pointer}
use Rattle.c65_code.specs.declared.parts.RegSet.{RegSet}
use Rattle.c65_genexpr.specs.declared.arguments.Passed.{Passed}
use Rattle.c65_genexpr.specs.Arguments.{reads_of}
use Rattle.c65_genexpr.specs.Calls.{count_code}
use Rattle.c65_agree_state.specs.World.{HasAt}
use Rattle.c65_agree_invoke.specs.Targets.{through_code}

abbrev pub line_through : Bool → Passed → RegSet → Line
line_through counted p gives = Call (Pointer (reads_of counted p) gives)

-- the lines of the call stand there, and others behind them
pub record AreSplit (code : List Line) (at : ℕ) (counted : Bool) (p : Passed) (gives : RegSet) (after : List Line) : Type 0 where
  pub own : HasAt code at (through_code counted p gives)
  pub behind : HasAt code (at + length (through_code counted p gives)) after

pub splits : (code : List Line) (at : ℕ) (counted : Bool) (p : Passed) (gives : RegSet) (after : List Line) → HasAt code at (count_code counted p ++ (line_through counted p gives ∷ after)) → AreSplit code at counted p gives after
splits code at false p gives after has = let next : suc at ≡ at + 1 = omega arith in record { own = (has.0, tt); behind = subst (λ n. HasAt code n after) next has.1 }
splits code at true p gives after has = let next : suc (suc at) ≡ at + 2 = omega arith in record { own = (has.0, (has.1.0, tt)); behind = subst (λ n. HasAt code n after) next has.1.1 }

pub so_long : (counted : Bool) (p : Passed) (gives : RegSet) (after : List Line) → length (count_code counted p ++ (line_through counted p gives ∷ after)) ≡ length (through_code counted p gives) + length after
so_long false p gives after = omega arith
so_long true p gives after = omega arith

-- the line that calls stands behind the one that counts
pub record IsLast (code : List Line) (at : ℕ) (counted : Bool) (p : Passed) (gives : RegSet) : Type 0 where
  pub counts : HasAt code at (count_code counted p)
  pub line : HasAt code (at + length (count_code counted p)) (line_through counted p gives ∷ [])
  pub end : suc (at + length (count_code counted p)) ≡ at + length (through_code counted p gives)

pub lasts : (code : List Line) (at : ℕ) (counted : Bool) (p : Passed) (gives : RegSet) → HasAt code at (through_code counted p gives) → IsLast code at counted p gives
lasts code at false p gives has = let same : at ≡ at + 0 = omega arith in record { counts = tt; line = subst (λ n. HasAt code n (line_through false p gives ∷ [])) same has; end = omega arith }
lasts code at true p gives has = let next : suc at ≡ at + 1 = omega arith in record { counts = (has.0, tt); line = subst (λ n. HasAt code n (line_through true p gives ∷ [])) next has.1; end = omega arith }
