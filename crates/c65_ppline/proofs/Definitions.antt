-- A definition is refused for faults that a unit may have.
use Rattle.std.proofs.Common.{ℕ, suc, List, [], ◌∷◌, Bool, true, false, Option, Some, None, Result, Ok, Err, subst}
use Rattle.std.specs.Prelude.{IfErr, IfSome, if◌then◌else◌, refl, ◌&&◌, ◌==◌, ◌++◌, nat_lt, length}
use Rattle.c65_base.specs.declared.code.Code.TheVariants as codes
use Rattle.c65_base.specs.declared.refusal.Size.TheVariants as sizes
use Rattle.c65_base.specs.declared.refusal.Pos.{Pos}
use Rattle.c65_base.specs.declared.refusal.Refusal.{Refusal}
use Rattle.c65_base.specs.declared.refusal.Refusal.TheVariants as refusals
use Rattle.c65_base.specs.Limits.{limit_of}
use Rattle.c65_base.specs.Answers.{Fault, at, large, Fails, ◌>>=◌}
use Rattle.c65_base.specs.declared.names.Name.{Name}
use Rattle.c65_lex.specs.declared.token.PpToken.{PpToken}
use Rattle.c65_macro.specs.declared.item.Macro.{Macro}
use Rattle.c65_macro.specs.declared.item.Words.{Words}
use Rattle.c65_macro.specs.Table.{Table, is_kept, is_mark}
use Rattle.c65_macro.specs.Definitions.{define, form, added, known, no_fault, body_fault, fault_in, is_bad_hash, is_nothing, parameter_count}
use Rattle.c65_ppline.specs.Causes.{IsUnitCode, IsUnitLimit, Stops}

abbrev IsUnitFault : Fault → Type 0
IsUnitFault (at code place) = IsUnitCode code
IsUnitFault (large limit value) = IsUnitLimit limit value

either_result : {A : Type 0} (b : Bool) (x y : Result A Fault) → IfErr x IsUnitFault → IfErr y IsUnitFault → IfErr (if b then x else y) IsUnitFault
either_result true x y p q = p
either_result false x y p q = q

either_option : (b : Bool) (x y : Option Fault) → IfSome x IsUnitFault → IfSome y IsUnitFault → IfSome (if b then x else y) IsUnitFault
either_option true x y p q = p
either_option false x y p q = q

then_result : {A B : Type 0} (x : Result A Fault) (f : A → Result B Fault) → IfErr x IsUnitFault → ((a : A) → IfErr (f a) IsUnitFault) → IfErr (x >>= f) IsUnitFault
then_result (Ok a) f p q = q a
then_result (Err e) f p q = p

in_body : (w : Words) (ps : Option (List Name)) (ts : List PpToken) → IfSome (fault_in w ps ts) IsUnitFault
in_body w ps [] = tt {0}
in_body w ps (t ∷ ts) =
    let rest : IfSome (if is_bad_hash w ps t ts then Some (at codes.BadStringize t.pos) else fault_in w ps ts) IsUnitFault = either_option (is_bad_hash w ps t ts) (Some (at codes.BadStringize t.pos)) (fault_in w ps ts) (tt {0}) (in_body w ps ts) in
    either_option (is_mark w.paste t && is_nothing ts) (Some (at codes.BadPaste t.pos)) (if is_bad_hash w ps t ts then Some (at codes.BadStringize t.pos) else fault_in w ps ts) (tt {0}) rest

of_body : (w : Words) (ps : Option (List Name)) (ts : List PpToken) → IfSome (body_fault w ps ts) IsUnitFault
of_body w ps [] = tt {0}
of_body w ps (t ∷ ts) = either_option (is_mark w.paste t) (Some (at codes.BadPaste t.pos)) (fault_in w ps (t ∷ ts)) (tt {0}) (in_body w ps (t ∷ ts))

none_or : (o : Option Fault) → IfSome o IsUnitFault → IfErr (no_fault o) IsUnitFault
none_or None h = tt {0}
none_or (Some f) h = h

of_form : (table : Table) (item : Macro) (place : Pos) → IfErr (form table item place) IsUnitFault
of_form table item place =
    either_result (is_kept table item.name) (Err (at codes.PredefinedName place)) (if nat_lt 127 (parameter_count item.params) then Err (large sizes.MacroArguments 128) else no_fault (body_fault table.words item.params item.body)) (tt {0})
    (either_result (nat_lt 127 (parameter_count item.params)) (Err (large sizes.MacroArguments 128)) (no_fault (body_fault table.words item.params item.body)) (refl {A = ℕ} {a = 128})
    (none_or (body_fault table.words item.params item.body) (of_body table.words item.params item.body)))

of_added : (table : Table) (item : Macro) (place : Pos) (o : Option Bool) → IfErr (added table item place o) IsUnitFault
of_added table item place (Some true) = tt {0}
of_added table item place (Some false) = tt {0}
of_added table item place None = either_result (length table.defined == limit_of sizes.Macros) (Err (large sizes.Macros (suc (limit_of sizes.Macros)))) (Ok (record table { defined = table.defined ++ (item.name, item) ∷ [] })) (refl {A = ℕ} {a = suc (limit_of sizes.Macros)}) (tt {0})

of_define : (table : Table) (item : Macro) (place : Pos) → IfErr (define table item place) IsUnitFault
of_define table item place = then_result (form table item place) _ (of_form table item place) (λ _. of_added table item place (known table item))

stops : (e : Refusal) (r : Result Table Fault) → IfErr r IsUnitFault → Fails e r → Stops e
stops refusals.OutOfMemory r h f = tt
stops (refusals.At code place) r h f = let at_fault : IfErr {T = Table} (Err (at code place)) IsUnitFault = subst (λ (x : Result Table Fault). IfErr x IsUnitFault) f h in at_fault
stops (refusals.TooLarge limit value) r h f = let at_fault : IfErr {T = Table} (Err (large limit value)) IsUnitFault = subst (λ (x : Result Table Fault). IfErr x IsUnitFault) f h in at_fault
stops _ r h f = absurd f

pub all_stop : {A : Type 0} (r : Result A Refusal) (table : Table) (item : Macro) (place : Pos) → IfErr r (λ e. Fails e (define table item place)) → IfErr r Stops
all_stop (Ok x) table item place h = tt
all_stop (Err e) table item place h = stops e _ (of_define table item place) h
