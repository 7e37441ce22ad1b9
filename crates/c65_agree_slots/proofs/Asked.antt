-- The entry of a function of a plain program asks for no more bytes, where it checks the stacks, than a call of it costs in the source.
use Rattle.std.proofs.Common.{◌≡◌, ℕ, zero, suc, ◌+◌, ◌-◌, ◌≤◌, Bool, true, false, Option, None, Some, List, [], ◌∷◌, length, refl, sym, ap, ◌∙◌, slice_get, arith}
use Rattle.std.specs.Prelude.{◌*◌, min, if◌then◌else◌, nat_lt, Ok}
use Rattle.std.proofs.Math.Nat.{min-le_left}
use Rattle.c65_base.specs.declared.refusal.Size.TheVariants as sizes_refused
use Rattle.c65_base.specs.Answers.{large}
use Rattle.c65_ctype.specs.Views.{types_of}
use Rattle.c65_csem.specs.declared.items.Parts.{Parts}
use Rattle.c65_csem.specs.Trees.{Nodes, none, some, Stmt, FuncTy}
use Rattle.c65_csem_need.specs.Needs.{greatest_need}
use Rattle.c65_meaning.specs.Costs.{local_bytes}
use Rattle.c65_genframe.specs.declared.modes.Modes.{Modes}
use Rattle.c65_genframe.specs.Marks.{lowest}
use Rattle.c65_genframe.specs.Objects.{objects_in, objects_of, locals_of}
use Rattle.c65_genframe.specs.Places.{Places}
use Rattle.c65_genframe.specs.Sizes.{object_in, slot_bytes}
use Rattle.c65_genframe.specs.Frames.{Framed, takes_stack, has_prototype, register_param, all_bytes, waiting_in, last_bytes, asked_bytes, check_of, settled, passed_bytes, placed_in, frame_of}
use Rattle.c65_agree_state.specs.World.{World, unit_in, Active}
use Rattle.c65_agree_registers.specs.Checks.{asked_by}
use Rattle.c65_agree_homes.specs.Frames.{IsCallIn}
use Rattle.c65_agree_invoke.specs.Nodes.{sizes_of}
use Rattle.c65_agree_slots.specs.Slots.{AreOfSize}
use Rattle.c65_agree_slots.proofs.Bytes.{in_statement}
use Rattle.c65_agree_slots.proofs.Slots.{answered}

-- ---- the frame

checked_most : (parts : Parts) (modes : Modes) (f : FuncTy) → asked_by (check_of parts modes f) ≤ asked_bytes parts f
checked_most parts modes f = go modes.checked
  where
    go : (b : Bool) → asked_by (if b then Some (asked_bytes parts f) else None) ≤ asked_bytes parts f
    go true = omega arith
    go false = omega arith

module _ (g : World) (names : List (List ℕ)) (a : Active) (function : FuncTy) (call : IsCallIn g names a function) (h : Framed) (body : Stmt) (has : function.body ≡ Some body) (framed : frame_of g.parts g.modes function ≡ Ok h) where
  abbrev p : Places
  p = placed_in g.parts g.modes function

  check_is : check_of g.parts g.modes function ≡ h.check
  check_is = ap (λ (z : Framed). z.check) (answered (nat_lt 1024 p.total) (large sizes_refused.Frame p.total) (settled g.parts (check_of g.parts g.modes function) function (lowest (locals_of function) function.params) (passed_bytes g.parts function) p) h framed)

  -- beside the objects of its blocks and the values that wait it asks for six bytes, and for the parameter that arrives in registers
  pub asked_within : asked_by h.check ≤ local_bytes (unit_in g) body + 6 + 8 * greatest_need body + last_bytes g.parts (has_prototype function.ty) (register_param function)
  asked_within =
      let same : asked_by (check_of g.parts g.modes function) ≡ asked_by h.check = ap asked_by check_is in
      let locals : all_bytes g.parts (locals_of function) ≡ all_bytes g.parts (objects_in body) = ap (λ (o : Option Stmt). all_bytes g.parts (objects_of o)) has in
      let waiting : waiting_in function.body ≡ greatest_need body = ap waiting_in has in
      let whole : ℕ = all_bytes g.parts (locals_of function) + 6 + 8 * waiting_in function.body + last_bytes g.parts (has_prototype function.ty) (register_param function) in
      omega (arith, same, checked_most g.parts g.modes function, min-le_left whole 65535, locals, waiting, in_statement g names a function call body)

-- ---- the arguments

module _ (parts : Parts) (prototype : Bool) (f : Framed) where
  -- each is among them
  slot_within : (is : List ℕ) (es : Nodes) (k i : ℕ) → AreOfSize parts prototype f is es → slice_get is k ≡ Some i → slot_bytes (types_of parts.types) prototype (object_in parts i) ≤ sizes_of f es
  slot_within [] es k i sizes there = cc
  slot_within (j ∷ js) none k i sizes there = absurd sizes
  slot_within (j ∷ js) (some e es) zero i sizes there =
      let same : j ≡ i = cc in
      let own : slot_bytes (types_of parts.types) prototype (object_in parts j) ≡ slot_bytes (types_of parts.types) prototype (object_in parts i) = ap (λ n. slot_bytes (types_of parts.types) prototype (object_in parts n)) same in
      omega (arith, sizes.0, own)
  slot_within (j ∷ js) (some e es) (suc k) i sizes there = omega (arith, slot_within js es k i sizes.2 there)

  -- so is the one that arrives in registers
  pub last_within : (function : FuncTy) (es : Nodes) → AreOfSize parts prototype f function.params es → last_bytes parts prototype (register_param function) ≤ sizes_of f es
  last_within function es sizes = by_type (takes_stack function.ty)
    where
      by_param : (o : Option ℕ) → slice_get function.params (length function.params - 1) ≡ o → last_bytes parts prototype o ≤ sizes_of f es
      by_param None there = omega arith
      by_param (Some i) there = slot_within function.params es (length function.params - 1) i sizes there

      by_type : (b : Bool) → last_bytes parts prototype (if b then None else slice_get function.params (length function.params - 1)) ≤ sizes_of f es
      by_type true = omega arith
      by_type false = by_param (slice_get function.params (length function.params - 1)) refl
