-- Which definitions are taken, and what they change (C90 6.8.3).
use Rattle.std.specs.Prelude.{ℕ, suc, List, [], ◌∷◌, ◌++◌, length, Bool, true, false, ◌==◌, ◌&&◌, not, nat_lt, Option, Some, None, option_map, if◌then◌else◌, Result, Ok, Err}
use Rattle.std.specs.List.{list_any}
use Rattle.std.specs.Cmp.Lexicographic.{pointwise}
use Rattle.c65_base.specs.declared.names.Name.{Name}
use Rattle.c65_base.specs.declared.refusal.Pos.{Pos}
use Rattle.c65_base.specs.declared.code.Code.TheVariants as codes
use Rattle.c65_base.specs.declared.refusal.Size.TheVariants as sizes
use Rattle.c65_base.specs.Limits.{limit_of}
use Rattle.c65_base.specs.Answers.{Fault, at, large, ◌>>=◌}
use Rattle.c65_lex.specs.declared.token.PpToken.{PpToken}
use Rattle.c65_macro.specs.declared.item.Macro.{Macro}
use Rattle.c65_macro.specs.declared.item.Words.{Words}
use Rattle.c65_macro.specs.Table.{Table, same_name, find, is_kept, is_name_kind, is_mark}

abbrev pub is_nothing : {A : Type 0} → List A → Bool
is_nothing [] = true
is_nothing (x ∷ xs) = false

-- whether a parameter has this name
abbrev pub has_name : List Name → Name → Bool
has_name ps name = list_any (λ p. same_name p name) ps

abbrev pub is_parameter : List Name → PpToken → Bool
is_parameter ps t = is_name_kind t.kind && has_name ps t.spelling

abbrev pub begins_parameter : List Name → List PpToken → Bool
begins_parameter ps [] = false
begins_parameter ps (t ∷ ts) = is_parameter ps t

-- C90 6.8.3.2: in a function-like macro each # stands before a parameter
abbrev pub is_bad_hash : Words → Option (List Name) → PpToken → List PpToken → Bool
is_bad_hash w None t ts = false
is_bad_hash w (Some ps) t ts = is_mark w.hash t && not (begins_parameter ps ts)

-- C90 6.8.3.3: no ## stands at an end of the body
abbrev pub fault_in : Words → Option (List Name) → List PpToken → Option Fault
fault_in w ps [] = None
fault_in w ps (t ∷ ts) = if is_mark w.paste t && is_nothing ts then Some (at codes.BadPaste t.pos) else if is_bad_hash w ps t ts then Some (at codes.BadStringize t.pos) else fault_in w ps ts

abbrev pub body_fault : Words → Option (List Name) → List PpToken → Option Fault
body_fault w ps [] = None
body_fault w ps (t ∷ ts) = if is_mark w.paste t then Some (at codes.BadPaste t.pos) else fault_in w ps (t ∷ ts)

-- Two definitions are the same where parameters, tokens and the white space between tokens are.
abbrev pub same_params : Option (List Name) → Option (List Name) → Bool
same_params None None = true
same_params None (Some qs) = false
same_params (Some ps) None = false
same_params (Some ps) (Some qs) = pointwise same_name ps qs

abbrev pub same_flag : Bool → Bool → Bool
same_flag true b = b
same_flag false b = not b

abbrev pub same_rest : List PpToken → List PpToken → Bool
same_rest [] [] = true
same_rest [] (u ∷ us) = false
same_rest (t ∷ ts) [] = false
same_rest (t ∷ ts) (u ∷ us) = (same_name t.spelling u.spelling && same_flag t.space u.space) && same_rest ts us

abbrev pub same_body : List PpToken → List PpToken → Bool
same_body [] [] = true
same_body [] (u ∷ us) = false
same_body (t ∷ ts) [] = false
same_body (t ∷ ts) (u ∷ us) = same_name t.spelling u.spelling && same_rest ts us

abbrev pub same_macro : Macro → Macro → Bool
same_macro m n = same_params m.params n.params && same_body m.body n.body

abbrev pub parameter_count : Option (List Name) → ℕ
parameter_count None = 0
parameter_count (Some ps) = length ps

abbrev pub no_fault : Option Fault → Result (Unit {0}) Fault
no_fault None = Ok tt
no_fault (Some f) = Err f

-- the first fault of a definition for itself: its name, its parameters, its body
abbrev pub form : Table → Macro → Pos → Result (Unit {0}) Fault
form table item place = if is_kept table item.name then Err (at codes.PredefinedName place) else if nat_lt 127 (parameter_count item.params) then Err (large sizes.MacroArguments 128) else no_fault (body_fault table.words item.params item.body)

-- whether a macro of this name is defined, and is the same
abbrev pub known : Table → Macro → Option Bool
known table item = option_map (λ old. same_macro old item) (find item.name table.defined)

-- the table once a definition of the right form is taken
abbrev pub added : Table → Macro → Pos → Option Bool → Result Table Fault
added table item place (Some true) = Ok table
added table item place (Some false) = Err (at codes.MacroRedefined place)
added table item place None = if length table.defined == limit_of sizes.Macros then Err (large sizes.Macros (suc (limit_of sizes.Macros))) else Ok (record table { defined = table.defined ++ (item.name, item) ∷ [] })

-- the table once this macro is defined, whose name stands at a place, or the first fault
abbrev pub define : Table → Macro → Pos → Result Table Fault
define table item place = form table item place >>= λ _. added table item place (known table item)
