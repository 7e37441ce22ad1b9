-- The frame of a function that takes further arguments is as its entry and its calls ask (docs/MACHINE.md, "Calls").
use Rattle.std.specs.Prelude.{◌≡◌, ℕ, ◌+◌, ◌≤◌, true, List, Ok}
use Rattle.c65_csem.specs.declared.items.Parts.{Parts}
use Rattle.c65_csem.specs.Trees.{FuncTy}
use Rattle.c65_meaning.specs.After.{is_among}
use Rattle.c65_genframe.specs.declared.modes.Modes.{Modes}
use Rattle.c65_genframe.specs.Frames.{Framed, is_variadic, frame_of, saved_bytes}
use Rattle.c65_agree_store.specs.Stands.{At}
use Rattle.c65_agree_state.specs.World.{World, Active}
use Rattle.c65_agree_state.specs.Joins.{spot_of}
use Rattle.c65_agree_leave.specs.Laws.{params_in}
use Rattle.c65_agree_homes.specs.Frames.{IsCallIn}
use Rattle.c65_agree_variadic.specs.Frames.{IsFurtherFrame}

abbrev pub FurtherFramesAreGiven : Type 0
FurtherFramesAreGiven = (parts : Parts) (modes : Modes) (f : FuncTy) (z : Framed) → frame_of parts modes f ≡ Ok z → is_variadic f.ty ≡ true → IsFurtherFrame z

-- and its parameters lie above the further arguments, wherever the call lies
abbrev pub ParametersLieAbove : Type 0
ParametersLieAbove = (g : World) (names : List (List ℕ)) (a : Active) (f : FuncTy) (i at : ℕ) → IsCallIn g names a f → is_variadic f.ty ≡ true → is_among (params_in g a) i ≡ true → spot_of g a i ≡ At at
    → a.base + (a.frame.soft + (saved_bytes a.frame.bank + a.raised)) ≤ at
