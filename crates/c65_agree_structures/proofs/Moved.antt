-- Types by which the pointers of a plain program are moved.
use Rattle.std.proofs.Common.{◌≤◌, ap, ◌∙◌, subst, arith}
use Rattle.c65_ctype.specs.Trees.{Ty, pointer, type_in}
use Rattle.c65_ctype.specs.Sizes.{size_of}
use Rattle.c65_ctype.specs.Views.{types_of}
use Rattle.c65_csem.specs.declared.items.Parts.{Parts}
use Rattle.c65_csem_plain.specs.Body.{HasStep}
use Rattle.c65_genframe.specs.Sizes.{bytes_or}
use Rattle.c65_agree_start.proofs.Sizes.{bytes_are_size}
use Rattle.c65_agree_state.specs.World.{unit_in}
use Rattle.c65_agree_structures.specs.Moved.{MovedTypesHaveBytes, PlainSumsAreBases}
use Rattle.c65_agree_structures.proofs.Constants.{constant_sums_are_bases}

pub moved_types_have_bytes : MovedTypesHaveBytes
moved_types_have_bytes g a q own step =
    let few : size_of (unit_in g).types (type_in q) ≤ 65535 = step.few in
    (ap (λ (p : Parts). bytes_or (types_of p.types) (type_in q) 0) own ∙ bytes_are_size (types_of g.parts.types) (type_in q) 0 step.some few, omega (arith, few))

pub plain_sums_are_bases : PlainSumsAreBases
plain_sums_are_bases g a size kind t s q x z own names number plain shape does all =
    let step : HasStep (unit_in g).types (pointer q) = subst (λ (y : Ty). HasStep (unit_in g).types y) names plain.0.0 in
    let bytes = moved_types_have_bytes g a q own step in
    constant_sums_are_bases g a size kind t s q x z names number bytes.0 bytes.1 shape does all
