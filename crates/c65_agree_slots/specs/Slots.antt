-- The frame of a called function takes the arguments of its call where they come (docs/MACHINE.md, "Calls").
use Rattle.std.specs.Prelude.{◌≡◌, ℕ, ◌+◌, ◌≤◌, not, Bool, List, [], ◌∷◌, Ok, length}
use Rattle.c65_ctype.specs.Views.{types_of}
use Rattle.c65_csem.specs.declared.items.Parts.{Parts}
use Rattle.c65_csem.specs.Statements.{IsDistinct}
use Rattle.c65_csem.specs.Trees.{Nodes, none, some, FuncTy}
use Rattle.c65_csem.specs.Views.{unit_of}
use Rattle.c65_meaning.specs.Store.{size_in}
use Rattle.c65_meaning.specs.Shapes as shapes
use Rattle.c65_genframe.specs.declared.modes.Modes.{Modes}
use Rattle.c65_genframe.specs.Sizes.{object_in, slot_bytes}
use Rattle.c65_genframe.specs.Frames.{Framed, takes_stack, has_prototype, frame_of, is_kept, saved_bytes}
use Rattle.c65_genexpr.specs.Arguments.{passed_size}
use Rattle.c65_agree_enter.specs.Params.{shape_in}
use Rattle.c65_agree_invoke.specs.Nodes.{IsArrival, stacked_of, HaveSlots}

-- each parameter is passed in as many bytes as the argument takes that a function with the frame f passes for it, and needs no more
abbrev pub AreOfSize : Parts → Bool → Framed → List ℕ → Nodes → Type 0
AreOfSize parts prototype f [] none = Unit {0}
AreOfSize parts prototype f (i ∷ is) (some e es) = (slot_bytes (types_of parts.types) prototype (object_in parts i) ≡ passed_size f e) × (size_in (shape_in (unit_of parts) i) ≤ passed_size f e) × AreOfSize parts prototype f is es
AreOfSize parts prototype f _ _ = ⊥

-- the arguments come where the frame h takes them, which moves no more than these to regbank
pub record TakesArguments (parts : Parts) (g : FuncTy) (f h : Framed) (es : Nodes) : Type 0 where
  pub slots : HaveSlots (is_kept h.last) (unit_of parts) f h (h.soft + saved_bytes h.bank) g.params es
  pub arrives : IsArrival f (not (takes_stack g.ty)) es h.last
  pub stacked : h.stacked ≡ stacked_of (is_kept h.last) f es
  pub few : length h.moved ≤ length (shapes.types_of es)

-- So it is with the frame of a function with distinct parameters.
abbrev pub FramesHaveSlots : Type 0
FramesHaveSlots = (parts : Parts) (modes : Modes) (g : FuncTy) (f h : Framed) (es : Nodes)
    → frame_of parts modes g ≡ Ok h → IsDistinct g.params → AreOfSize parts (has_prototype g.ty) f g.params es
    → TakesArguments parts g f h es
