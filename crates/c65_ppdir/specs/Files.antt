-- A file that is open, as definitions see it: what is left of its text, and how its lines are counted.
use Rattle.std.specs.Prelude.{ℕ, List, [], ◌∷◌, Result, Ok, Err, IfErr, ⊤}
use Rattle.c65_base.specs.declared.refusal.Refusal.{Refusal}
use Rattle.c65_base.specs.declared.refusal.Refusal.TheVariants as refusals
use Rattle.c65_base.specs.declared.names.Name.{Name}
use Rattle.c65_ppline.specs.declared.condition.Group.{Group}
use Rattle.c65_ppline.specs.declared.numbering.Count.{Count}
use Rattle.c65_ppline.specs.Relations.{IsFree}
use Rattle.c65_pptext.specs.Reading.{Held, TextLeft, IsTold, text_as}
use Rattle.c65_ppdir.specs.declared.opened.Opened.{Opened}

pub record OpenFile : Type 0 where
  pub text : TextLeft
  pub number : ℕ
  pub literal : Name
  pub count : Count
  pub groups : List Group

-- a file that is open, where files tell what they hold
abbrev pub opened_as : Held → Opened → OpenFile
opened_as held o = record { text = text_as held o.text; number = o.number; literal = o.literal; count = o.count; groups = o.groups }

abbrev pub IsToldFile : Held → Opened → Type 0
IsToldFile held o = IsTold held o.text

abbrev pub AreTold : Held → List Opened → Type 0
AreTold held [] = ⊤
AreTold held (o ∷ os) = IsToldFile held o × AreTold held os

-- a refusal of any kind, but that a file is missing
abbrev pub IsNoMiss : Refusal → Type 0
IsNoMiss (refusals.Missing path) = ⊥
IsNoMiss refusal = ⊤

-- a value of which this holds, or a refusal that may come in the place of each
abbrev pub OrFree : {T : Type 0} → (T → Type 0) → Result T Refusal → Type 0
OrFree P (Ok x) = P x
OrFree P (Err e) = IsFree e

-- What a call that reads a file on says where the file is told: it is told then too and is not missing, and this holds.
abbrev pub Reads : {T : Type 0} → Held → Opened → Opened → Type 0 → Result T Refusal → Type 0
Reads held old new P answer = IsToldFile held old → IsToldFile held new × IfErr answer IsNoMiss × P

-- the same of the innermost file and those that include it
abbrev pub ReadsUnit : {T : Type 0} → Held → Opened → List Opened → Opened → List Opened → Type 0 → Result T Refusal → Type 0
ReadsUnit held file outer file' outer' P answer = IsToldFile held file → AreTold held outer → IsToldFile held file' × AreTold held outer' × IfErr answer IsNoMiss × P
