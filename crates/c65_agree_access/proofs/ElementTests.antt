-- Tests of elements.
use Rattle.std.proofs.Common.{◌≡◌, List, ◌++◌, Option, sym, ap, ◌∙◌, append_assoc}
use Rattle.c65_ints.specs.declared.types.IntType.{IntType}
use Rattle.c65_ctype.specs.Views.{types_of}
use Rattle.c65_csem.specs.Trees.{node, load}
use Rattle.c65_csem_need.specs.Needs.{need}
use Rattle.c65_meaning.specs.Store.{Shape}
use Rattle.c65_meaning.specs.Items.{plan}
use Rattle.c65_code.specs.declared.line.Line.{Line}
use Rattle.c65_genload.specs.Places.{extent_of}
use Rattle.c65_genexpr.specs.declared.elements.Element.{Element}
use Rattle.c65_genexpr.specs.declared.wanted.Wanted.TheVariants.{Test}
use Rattle.c65_genexpr.specs.Destination.{destination_of}
use Rattle.c65_genexpr.specs.Elements.{element_at, element_or, reached_code, either_byte_code, element_test_code, loaded_element}
use Rattle.c65_genexpr.specs.Places.{place_of}
use Rattle.c65_genexpr.specs.Types.{access_of}
use Rattle.c65_genexpr.specs.Wanted.{branch_code}
use Rattle.c65_genexpr.specs.Code.{expr_code, base_code, index_code, load_by}
use Rattle.c65_agree_state.specs.World.{unit_in}
use Rattle.c65_agree_state.specs.Exprs.{shape_in}
use Rattle.c65_agree_assign.specs.Places.{kind_in}
use Rattle.c65_agree_loading.proofs.Wholes.{loads_are_whole}
use Rattle.c65_agree_loading.proofs.Tests.{decided_loads_test}
use Rattle.c65_agree_access.specs.LoadLaws.{IsWhole}
use Rattle.c65_agree_access.proofs.Wholes.{places_are_whole}
use Rattle.c65_agree_access.specs.ElementLaws.{ElementLoadsTest}
use Rattle.c65_agree_access.proofs.ElementNeeds.{element_needs}
use Rattle.c65_agree_access.proofs.ElementLoads.{IsAt, element_is, element_follows}
use Rattle.c65_agree_access.proofs.ElementZeros.{IsDecided, element_decides}

pub element_loads_test : ElementLoadsTest
element_loads_test g a m t e x kind placed parts tree plain is light does pushed fresh to s =
    let whole : IsWhole g a e = places_are_whole g a e parts tree.1 plain in
    let f : Shape = shape_in g a e in
    let own : IntType = kind_in f in
    let at : IsAt a e x kind own = element_is g a e x kind whole is in
    let index : List Line = index_code a.frame pushed fresh e in
    let ls : List Line = either_byte_code x (extent_of own) in
    let behind : List Line = branch_code s to in
    let lines : expr_code a.frame pushed fresh (Test to s) (node t (load e)) ≡ (index ++ (reached_code x ++ ls)) ++ behind =
    ap (λ (o : Option (Element × IntType)). element_or o (λ y. loaded_element (Test to s) y index) (load_by (Test to s) (place_of a.frame pushed e) (access_of (types_of a.frame.parts.types) e) (base_code a.frame pushed fresh (destination_of (access_of (types_of a.frame.parts.types) e)) e))) is
    ∙ (ap (λ (z : IntType). index ++ element_test_code x z s to) (sym at.same) ∙ (ap (λ (z : List Line). index ++ z) (sym (append_assoc (reached_code x) ls behind)) ∙ sym (append_assoc index (reached_code x ++ ls) behind))) in
    decided_loads_test g a m t e pushed fresh to s (index ++ (reached_code x ++ ls)) (loads_are_whole g a t e parts tree plain) lines
    (λ n weight p k vs c w b state seen has r turned rest.
    element_follows g a m f (plan (unit_in g) e) (need e) pushed (element_needs a.frame e x at.is) x placed light index ls (λ c2 w2 v u. IsDecided c2.store v u) whole.scalar
    (λ c2 w2 b2 u d o v ready e2 stands inside reached. element_decides g a m pushed (need e) f c2 w2 b2 u placed ready whole.scalar x d o v e2 stands inside reached at.short)
    n weight p k vs c w b state has r (λ j v c2 w2 b2 u later lt kept fit zero left turned2. rest j v c2 w2 b2 u later lt kept fit zero left turned2)
    seen turned (does x pushed fresh at.is))
