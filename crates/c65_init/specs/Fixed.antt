-- Static locals: each object of a block gets one place for the whole run, except one marked `register` where that is
-- honoured. Parameters, and what calls give, keep their places in the frame.
use Rattle.std.specs.Prelude.{ℕ, zero, suc, List, [], ◌∷◌, length, replicate, slice_set, Bool, true, false, Option, Some, None, if◌then◌else◌}
use Rattle.c65_base.specs.declared.names.Name.{Name}
use Rattle.c65_base.specs.declared.options.Options.{Options}
use Rattle.c65_csem.specs.declared.items.Class.{Class}
use Rattle.c65_csem.specs.declared.items.Class.TheVariants.{Auto, Register, Fixed}
use Rattle.c65_csem.specs.Trees.{ObjectTy, FuncTy, UnitTy}
use Rattle.c65_elab_scope.specs.Scopes.{ScopeTy}
use Rattle.c65_elab_scope.specs.Parts.{with_objects}

-- these objects are marked
abbrev pub marked : List Bool → List ℕ → List Bool
marked marks [] = marks
marked marks (i ∷ is) = marked (slice_set marks i true) is

-- the parameters of functions are marked
abbrev pub parameters_marked : List Bool → List FuncTy → List Bool
parameters_marked marks [] = marks
parameters_marked marks (f ∷ fs) = parameters_marked (marked marks f.params) fs

-- which objects of a unit are parameters, by their numbers
abbrev pub parameter_marks : UnitTy → List Bool
parameter_marks u = parameters_marked (replicate (length u.objects) false) u.funcs

-- the class that an object gets that is no parameter; one without a name keeps its own
abbrev pub fixed_class : Bool → Option Name → Class → Class
fixed_class honoured None class = class
fixed_class honoured (Some n) Auto = Fixed
fixed_class honoured (Some n) Register = if honoured then Register else Fixed
fixed_class honoured (Some n) class = class

abbrev pub fixed_at : Bool → List ObjectTy → ℕ → List ObjectTy
fixed_at honoured [] i = []
fixed_at honoured (o ∷ os) zero = record o { class = fixed_class honoured o.name o.class } ∷ os
fixed_at honoured (o ∷ os) (suc i) = o ∷ fixed_at honoured os i

-- the first of these marks is that of the object with number i
abbrev pub fixed_from : Bool → List Bool → ℕ → List ObjectTy → List ObjectTy
fixed_from honoured [] i os = os
fixed_from honoured (is_parameter ∷ marks) i os = fixed_from honoured marks (suc i) (if is_parameter then os else fixed_at honoured os i)

abbrev pub locals_fixed : Options → ScopeTy → ScopeTy
locals_fixed o s = if o.static_locals then with_objects s (fixed_from o.register_vars (parameter_marks s.unit) 0 s.unit.objects) else s
