-- What a statement needs to know of its function: its labels, its loops and its switches (C90 6.6.1,
-- 6.6.4.2, 6.6.6).
use Rattle.std.specs.Prelude.{ℕ, ◌+◌, ◌-◌, ◌^◌, ◌==◌, nat_lt, nat_le, min, ℤ, List, [], ◌∷◌, ◌++◌, length, set, take, slice_get, map, Bool, true, false, not, ◌||◌, Option, Some, None, Result, Ok, Err, if◌then◌else◌}
use Rattle.c65_base.specs.declared.code.Code.TheVariants.{LabelTwice, LabelUnknown, CaseTwice, LooseStatement}
use Rattle.c65_base.specs.declared.names.Name.{Name}
use Rattle.c65_base.specs.declared.refusal.Pos.{Pos}
use Rattle.c65_base.specs.declared.refusal.Size.TheVariants as sizes
use Rattle.c65_base.specs.Answers.{Fault, at, large, ◌>>=◌}
use Rattle.c65_ints.specs.declared.types.IntType.{IntType}
use Rattle.c65_ints.specs.Ranges.{wrap_of}
use Rattle.c65_ctype.specs.Trees.{QTy}
use Rattle.c65_ctype.specs.Views.{qty_of}
use Rattle.c65_csem_check.specs.Statements.{has_value}
use Rattle.c65_init.specs.declared.body.Switch.{Switch}
use Rattle.c65_init.specs.declared.body.Body.{Body}

-- a switch: the type of its values, the values of its labels so far, and whether it has a default
pub record SwitchTy : Type 0 where
  pub kind : IntType
  pub values : List ℤ
  pub has_default : Bool

-- the labels of a function in their order, how many were met, what the function gives, the number of
-- loops around, and the switches around, the innermost last
pub record BodyTy : Type 0 where
  pub labels : List Name
  pub met : ℕ
  pub gives : QTy
  pub loops : ℕ
  pub switches : List SwitchTy

abbrev pub switch_of : Switch → SwitchTy
switch_of w = record { kind = w.kind; values = w.values.items; has_default = w.has_default }

abbrev pub body_of : Body → BodyTy
body_of k = record { labels = k.labels.items; met = k.met; gives = qty_of k.gives; loops = k.loops; switches = map switch_of k.switches.items }

abbrev pub new_body : List Name → QTy → BodyTy
new_body labels gives = record { labels = labels; met = 0; gives = gives; loops = 0; switches = [] }

-- ---- labels

-- the first place of a name, where the first of these has a place
abbrev pub place_from : List Name → Name → ℕ → Option ℕ
place_from [] m n = None
place_from (l ∷ ls) m n = if l.0 == m.0 then Some n else place_from ls m (n + 1)

abbrev pub number_if : Option ℕ → Option ℕ
number_if None = None
number_if (Some n) = if nat_lt n (2 ^ 32) then Some n else None

-- the number of a label: its place among the labels of its function
abbrev pub label_in : List Name → Name → Option ℕ
label_in ls m = number_if (place_from ls m 0)

abbrev pub label_known : Option ℕ → Pos → Result ℕ Fault
label_known None p = Err (at LabelUnknown p)
label_known (Some n) p = Ok n

abbrev pub not_met : ℕ → ℕ → Pos → Result ℕ Fault
not_met met n p = if nat_lt n met then Err (at LabelTwice p) else Ok n

abbrev pub met_once_more : BodyTy → BodyTy
met_once_more k = record k { met = min (k.met + 1) (2 ^ 64 - 1) }

-- the number of a label that was not met before
abbrev pub label_first : List Name → ℕ → Name → Pos → Result ℕ Fault
label_first labels met m p = label_known (label_in labels m) p >>= (λ n. not_met met n p)

-- a label that stands here; its name may not have been met before (C90 6.6.1)
abbrev pub label_met : BodyTy → Name → Pos → Result (ℕ × BodyTy) Fault
label_met k m p = label_first k.labels k.met m p >>= (λ n. Ok (n, met_once_more k))

abbrev pub label_named : BodyTy → Name → Pos → Result ℕ Fault
label_named k m p = label_known (label_in k.labels m) p

-- ---- switches

abbrev pub with_value : SwitchTy → ℤ → SwitchTy
with_value w z = record w { values = w.values ++ z ∷ [] }

-- at most 1,024 labels, no two with one value after conversion (C90 6.6.4.2)
abbrev pub value_added : SwitchTy → ℤ → Pos → Result (ℤ × SwitchTy) Fault
value_added w z p = if has_value w.values z then Err (at CaseTwice p) else (if nat_le 1024 (length w.values) then Err (large sizes.Cases 1025) else Ok (z, with_value w z))

abbrev pub default_added : SwitchTy → Pos → Result SwitchTy Fault
default_added w p = if w.has_default then Err (at CaseTwice p) else Ok (record w { has_default = true })

abbrev pub innermost_in : Pos → Option SwitchTy → Result SwitchTy Fault
innermost_in p None = Err (at LooseStatement p)
innermost_in p (Some w) = Ok w

abbrev pub innermost : BodyTy → Pos → Result SwitchTy Fault
innermost k p = innermost_in p (slice_get k.switches (length k.switches - 1))

abbrev pub with_innermost : BodyTy → SwitchTy → BodyTy
with_innermost k w = record k { switches = set k.switches (length k.switches - 1) w }

-- a case label, whose value is converted to the type of its switch
abbrev pub case_met : BodyTy → ℤ → Pos → Result (ℤ × BodyTy) Fault
case_met k z p = do
  w ← innermost k p
  x ← value_added w (wrap_of w.kind z) p
  Ok (x.0, with_innermost k x.1)

abbrev pub default_met : BodyTy → Pos → Result BodyTy Fault
default_met k p = do
  w ← innermost k p
  v ← default_added w p
  Ok (with_innermost k v)

abbrev pub in_switch : BodyTy → IntType → BodyTy
in_switch k kind = record k { switches = k.switches ++ record { kind = kind; values = []; has_default = false } ∷ [] }

abbrev pub behind_switch : BodyTy → BodyTy
behind_switch k = record k { switches = take (length k.switches - 1) k.switches }

-- ---- loops

abbrev pub in_loop : BodyTy → BodyTy
in_loop k = record k { loops = min (k.loops + 1) (2 ^ 32 - 1) }

abbrev pub behind_loop : BodyTy → BodyTy
behind_loop k = record k { loops = k.loops - 1 }

-- C90 6.6.6.2
abbrev pub may_continue : BodyTy → Pos → Result (Unit {0}) Fault
may_continue k p = if nat_lt 0 k.loops then Ok tt else Err (at LooseStatement p)

-- C90 6.6.6.3
abbrev pub may_break : BodyTy → Pos → Result (Unit {0}) Fault
may_break k p = if nat_lt 0 k.loops || not (length k.switches == 0) then Ok tt else Err (at LooseStatement p)
