-- What stands innermost on a stack.
use Rattle.std.proofs.Common.{◌≡◌, List, [], ◌∷◌, ◌++◌, ap, ◌∙◌, ℕ, length, Vec, Global, vec_len, refl, arith}
use Rattle.std.specs.Prelude.{map, reverse}
use Rattle.std.proofs.lemmas.List.{reverse-append}
use Rattle.c65_parse_frames.specs.declared.frame.Frame.{Frame}
use Rattle.c65_parse_frames.specs.declared.list.InitList.{InitList}
use Rattle.c65_parse_frames.specs.Views.{frame_of, stack_of, list_of, lists_of}

pub frames_innermost : (fs rest : List Frame) (f : Frame) → fs ≡ rest ++ f ∷ [] → stack_of fs ≡ frame_of f ∷ stack_of rest
frames_innermost fs rest f h = ap stack_of h ∙ ap (map frame_of) (reverse-append rest (f ∷ []))

pub lists_innermost : (fs rest : List InitList) (f : InitList) → fs ≡ rest ++ f ∷ [] → lists_of fs ≡ list_of f ∷ lists_of rest
lists_innermost fs rest f h = ap lists_of h ∙ ap (map list_of) (reverse-append rest (f ∷ []))

nothing : {A : Type 0} (xs : List A) → length xs ≡ 0 → xs ≡ []
nothing [] h = refl
nothing (x ∷ xs) h = let f : ⊥ = omega arith in absurd f

pub frames_none : (v : Vec Frame Global) → vec_len v ≡ 0 → stack_of v.items ≡ []
frames_none v h = ap stack_of (nothing v.items (omega (arith, v.ok, h)))

pub lists_none : (v : Vec InitList Global) → vec_len v ≡ 0 → lists_of v.items ≡ []
lists_none v h = ap lists_of (nothing v.items (omega (arith, v.ok, h)))
