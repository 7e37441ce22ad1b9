-- Of the answers that texts and definitions decide, preprocessing has one at most.
use Rattle.std.specs.Prelude.{◌≡◌, ◌⊎◌, ℕ, List, Result, Ok, Err, ⊤}
use Rattle.c65_base.specs.declared.options.Options.{Options}
use Rattle.c65_base.specs.declared.refusal.Refusal.{Refusal}
use Rattle.c65_base.specs.declared.refusal.Refusal.TheVariants as refusals
use Rattle.c65_lex.specs.declared.token.PpUnit.{PpUnit}
use Rattle.c65_lex.specs.declared.define.Define.{Define}
use Rattle.c65_ppline.specs.Relations.{Answers, IsFree}
use Rattle.c65_ppdir.specs.Units.{Held, preprocessed}

-- want of memory and a read that failed are decided by nothing that is told
abbrev pub IsFinal : Refusal → Type 0
IsFinal refusals.OutOfMemory = ⊥
IsFinal refusals.ReadFault = ⊥
IsFinal _ = ⊤

abbrev pub IsDecided : {A : Type 0} → Result A Refusal → Type 0
IsDecided (Ok x) = ⊤
IsDecided (Err e) = IsFinal e

-- what both say is the same
abbrev pub AreAlike : {A : Type 0} → Answers A → Answers A → Type 0
AreAlike {A} P Q = (y z : Result A Refusal) → IsDecided y → IsDecided z → P y → Q z → y ≡ z

abbrev pub HasOne : {A : Type 0} → Answers A → Type 0
HasOne P = AreAlike P P

abbrev pub UnitsAreOne : Type 0
UnitsAreOne = (held : Held) (options : Options) (defines : List Define) (folders : List (List ℕ)) (path : List ℕ) (names : List (List ℕ)) → HasOne (preprocessed held options defines folders path names)

-- what was answered is this, unless memory ran out or a read failed
abbrev pub IsAnswered : {X A : Type 0} → (X → A) → Result X Refusal → Result A Refusal → Type 0
IsAnswered view (Ok x) z = z ≡ Ok (view x)
IsAnswered view (Err e) z = IsFree e ⊎ (z ≡ Err e)

-- a unit with the spellings that are known behind it, or a refusal
abbrev pub WholeAnswer : Type 0
WholeAnswer = Result (PpUnit × List (List ℕ)) Refusal
