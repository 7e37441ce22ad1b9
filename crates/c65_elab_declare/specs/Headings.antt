-- The declarator of a function definition (C90 6.7.1).
use Rattle.std.specs.Prelude.{List, [], ◌∷◌, Option, Some, None, Result, Ok, Err}
use Rattle.c65_base.specs.declared.code.Code.TheVariants.{TypeForm}
use Rattle.c65_base.specs.declared.names.Name.{Name}
use Rattle.c65_base.specs.declared.refusal.Pos.{Pos}
use Rattle.c65_base.specs.Answers.{Fault, at}
use Rattle.c65_ctype.specs.Trees.{QTy}
use Rattle.c65_ctype.specs.Views.{qty_of}
use Rattle.c65_elab_declare.specs.declared.heading.Enumerator.{Enumerator}
use Rattle.c65_elab_declare.specs.declared.heading.Heading.{Heading}
use Rattle.c65_elab_declare.specs.Declarators.{FormalsTy, PartTy, calling, formals_of}

pub record HeadingTy : Type 0 where
  pub name : Option Name
  pub ty : QTy
  pub formals : FormalsTy
  pub enumerators : List Enumerator

abbrev pub heading_of : Heading → HeadingTy
heading_of h = record { name = h.name; ty = qty_of h.ty; formals = formals_of h.formals; enumerators = h.enumerators.items }

abbrev pub formals_in : PartTy → Option FormalsTy
formals_in (calling formals p) = Some formals
formals_in _ = None

abbrev pub first_formals : List PartTy → Option FormalsTy
first_formals [] = None
first_formals (p ∷ ps) = formals_in p

abbrev pub heading_with : Option Name → QTy → List Enumerator → Pos → Option FormalsTy → Result HeadingTy Fault
heading_with name t es p None = Err (at TypeForm p)
heading_with name t es p (Some formals) = Ok (record { name = name; ty = t; formals = formals; enumerators = es })

-- the name is next to the function part
abbrev pub heading_from : Option Name → QTy → List PartTy → List Enumerator → Pos → Result HeadingTy Fault
heading_from name t parts es p = heading_with name t es p (first_formals parts)
