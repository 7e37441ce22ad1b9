-- Loads of what is kept in memory, and tests of it.
use Rattle.std.proofs.Common.{◌≡◌, ℕ, ◌≤◌, Bool, true, false, Option, Some, None, refl, sym, ap, ◌∙◌, arith}
use Rattle.std.specs.Prelude.{is_some, not, ◌&&◌}
use Rattle.c65_ints.specs.declared.types.IntType.{IntType}
use Rattle.c65_ctype.specs.Trees.{QTy}
use Rattle.c65_ctype.specs.Views.{types_of}
use Rattle.c65_csem.specs.Trees.{Typed, node, load}
use Rattle.c65_csem_need.specs.Needs.{need}
use Rattle.c65_meaning.specs.Items.{plan}
use Rattle.c65_code.specs.Placement.{IsPlacement}
use Rattle.c65_genexpr.specs.declared.destination.Destination.{Destination}
use Rattle.c65_genexpr.specs.declared.destination.Destination.TheVariants.{Registers, Pointer}
use Rattle.c65_genexpr.specs.declared.elements.Element.{Element}
use Rattle.c65_genexpr.specs.declared.wanted.Wanted.TheVariants.{Value}
use Rattle.c65_genexpr.specs.Code.{expr_code, base_code}
use Rattle.c65_genexpr.specs.Elements.{doublings, element_at, element_or}
use Rattle.c65_genexpr.specs.Operating.{is_signed_char, is_light_element, is_light_load}
use Rattle.c65_genexpr.specs.Places.{place_of}
use Rattle.c65_genexpr.specs.Types.{access_of}
use Rattle.c65_agree_state.specs.World.{World, unit_in, Active}
use Rattle.c65_agree_state.specs.Exprs.{Valued, shape_in, ExpressionDoes}
use Rattle.c65_agree_operate.specs.Manners.{Manner, usual}
use Rattle.c65_agree_operate.proofs.Manners.{manners_do}
use Rattle.c65_agree_structures.specs.Bases.{BaseDoes}
use Rattle.c65_agree_loading.specs.Bases.{BaseDoesIn, ValueDoesIn}
use Rattle.c65_agree_loading.specs.LoadLaws.{IsWholeLoad, IsLightLoad, TestDoesIn}
use Rattle.c65_agree_loading.proofs.Manners.{usually_tell}
use Rattle.c65_agree_loading.proofs.Loads.{loads_do_in}
use Rattle.c65_agree_loading.proofs.Tests.{loads_test_in, usually_tests}
use Rattle.c65_agree_access.specs.Pointed.{PointedDoes}
use Rattle.c65_agree_access.proofs.Loads.{loads_do}
use Rattle.c65_agree_access.specs.ElementLaws.{MemoryLoadsDo, IsLightMemory, IsMemoryLoad, MemoryLoadsDoIn, MemoryLoadsTestIn, MemoryLoadsTest}
use Rattle.c65_agree_access.proofs.ElementLoads.{both_light, element_loads_do}
use Rattle.c65_agree_access.proofs.ElementTests.{element_loads_test}

pub memory_loads_do : MemoryLoadsDo
memory_loads_do g a t e placed parts tree plain element base pointed = go (element_at a.frame e) refl
  where
    go : (o : Option (Element × IntType)) → element_at a.frame e ≡ o → ExpressionDoes g a (node t (load e))
    go None is = loads_do g a t e placed parts tree plain is base pointed
    go (Some x) is = λ pushed fresh. manners_do g a usual Valued (shape_in g a (node t (load e))) (plan (unit_in g) (node t (load e))) (need (node t (load e))) pushed (expr_code a.frame pushed fresh Value (node t (load e))) (element_loads_do g a usual pushed fresh t e x.0 x.1 placed parts tree plain is (λ h. absurd cc) element)

-- ---- in each manner

-- what light lines ask of an element, and of another place
light_element : (a : Active) (m : Manner) (e : Typed) (x : Element × IntType) → IsLightMemory a m e → element_at a.frame e ≡ Some x → m.light ≡ true → is_light_element x ≡ true
light_element a m e x light is h =
    let other : Bool = is_light_load (place_of a.frame 0 e) (access_of (types_of a.frame.parts.types) e) true in
    ap (λ (o : Option (Element × IntType)). element_or o is_light_element other) (sym is) ∙ light 0 h

light_load : (a : Active) (m : Manner) (e : Typed) → IsLightMemory a m e → element_at a.frame e ≡ None → IsLightLoad a m e
light_load a m e light is pushed h =
    let other : Bool = is_light_load (place_of a.frame pushed e) (access_of (types_of a.frame.parts.types) e) true in
    ap (λ (o : Option (Element × IntType)). element_or o is_light_element other) (sym is) ∙ light pushed h

module _ (g : World) (a : Active) (m : Manner) (t : QTy) (e : Typed) (placed : IsPlacement g.code g.place) (over : m.over ≤ 1000) (is_load : IsMemoryLoad g a m t e) where
  whole_load : element_at a.frame e ≡ None → IsWholeLoad g a t e
  whole_load is = record { parts = is_load.parts; typed = is_load.typed; whole = is_load.whole; single = is }

  value_in : (o : Option (Element × IntType)) → element_at a.frame e ≡ o → ValueDoesIn g a m (node t (load e))
  value_in None is = loads_do_in g a m t e placed over (whole_load is) (light_load a m e is_load.light is) is_load.base
  value_in (Some x) is = λ pushed fresh. element_loads_do g a m pushed fresh t e x.0 x.1 placed is_load.parts is_load.typed is_load.whole is (light_element a m e x is_load.light is) is_load.element

  test_in : (o : Option (Element × IntType)) → element_at a.frame e ≡ o → TestDoesIn g a m (node t (load e))
  test_in None is = loads_test_in g a m t e placed over (whole_load is) (light_load a m e is_load.light is) is_load.base
  test_in (Some x) is =
      element_loads_test g a m t e x.0 x.1 placed is_load.parts is_load.typed is_load.whole is (λ h. (both_light (is_some (doublings x.0.size)) (is_signed_char x.1) (light_element a m e x is_load.light is h)).0) is_load.element

pub memory_loads_do_in : MemoryLoadsDoIn
memory_loads_do_in g a m t e placed over is_load = value_in g a m t e placed over is_load (element_at a.frame e) refl

pub memory_loads_test_in : MemoryLoadsTestIn
memory_loads_test_in g a m t e placed over is_load = test_in g a m t e placed over is_load (element_at a.frame e) refl

-- ---- in the usual one

usual_base : (g : World) (a : Active) (e : Typed) → BaseDoes g a e → PointedDoes g a e → (d : Destination) → BaseDoesIn g a usual d e
usual_base g a e base pointed Registers pushed fresh = usually_tell g a (plan (unit_in g) e) (need e) pushed (place_of a.frame pushed e) (base_code a.frame pushed fresh Registers e) (base pushed fresh)
usual_base g a e base pointed Pointer pushed fresh = λ n w p k vs c q b t seen has r turned rest.
    pointed pushed fresh n w p k vs c q b t seen has r turned (λ j v c2 q2 b2 u later lt kept told turned2. rest j v c2 q2 b2 u later lt kept told (record { scene = tt; held = tt }) turned2)

pub memory_loads_test : MemoryLoadsTest
memory_loads_test g a t e placed parts tree plain element base pointed =
    usually_tests g a (node t (load e))
    (memory_loads_test_in g a usual t e placed (omega arith) (record { parts = parts; typed = tree; whole = plain; light = λ pushed h. let clash : false ≡ true = h in absurd cc; element = element; base = usual_base g a e base pointed }))
