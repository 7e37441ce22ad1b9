-- The heading of a definition, where the block of its parameters has ended.
use Rattle.std.proofs.Common.{◌≡◌, ◌∙◌, ℕ, List, length, sym, ap, subst, Ok, Option, true}
use Rattle.std.specs.Prelude.{Result}
use Rattle.c65_base.specs.declared.names.Name.{Name}
use Rattle.c65_base.specs.declared.refusal.Pos.{Pos}
use Rattle.c65_base.specs.declared.refusal.Refusal.{Refusal}
use Rattle.c65_base.specs.Answers.{Gives, ◌>>=◌}
use Rattle.c65_ctype.specs.Trees.{QTy, TypesTy}
use Rattle.c65_elab_scope.specs.Scopes.{ScopeTy}
use Rattle.c65_elab_scope.specs.Parts.{fewer_objects}
use Rattle.c65_elab_declare.specs.declared.heading.Enumerator.{Enumerator}
use Rattle.c65_elab_declare.specs.declared.heading.Heading.{Heading}
use Rattle.c65_elab_declare.specs.Declarators.{PartTy}
use Rattle.c65_elab_declare.specs.Headings.{heading_of, heading_from}
use Rattle.c65_elab_declare.specs.Shapes.{shaped_for}
use Rattle.c65_tree.specs.declared.expr.Declarator.{Declarator}
use Rattle.c65_tree.specs.View.{declarator_of}
use Rattle.c65_elab.specs.Headings.{declarator_place, names_ended, parameters_left, enumerators_left, headed}
use Rattle.c65_elab.specs.Typing.{beside, parts_in}
use Rattle.c65_elab.proofs.Parts.{declarator_place_is}
use Rattle.c65_elab.proofs.Walks.{gives_then, gives_beside}

pub headed_gives : (base : QTy) (d : Declarator) (s : ScopeTy) (name : Option Name) (ps : List PartTy) (u v : ScopeTy) (n : ℕ) (es : List Enumerator) (types : TypesTy) (qs : List PartTy) (t : QTy) (result : Result Heading Refusal) → parts_in (declarator_of d) true s ≡ Ok ((name, ps), u) → v ≡ fewer_objects (names_ended u s.block) n → n ≡ length s.unit.objects → es ≡ enumerators_left u s.block → types ≡ v.unit.types → qs ≡ ps → shaped_for types base (declarator_of d) qs true ≡ Ok t → Gives heading_of result (heading_from name t ps es d.pos) → Gives (λ h. (heading_of h, v)) result (headed base (declarator_of d) s)
headed_gives base d s name ps u v n es types qs t result parts left count constants here list shaped h =
    let k = declarator_of d in
    let same : v ≡ parameters_left s u = left ∙ ap (fewer_objects (names_ended u s.block)) count in
    let placed : Gives heading_of result (heading_from name t ps es (declarator_place k)) = subst (λ (p : Pos). Gives heading_of result (heading_from name t ps es p)) (sym (declarator_place_is d.pos d.kind)) h in
    let given : Gives heading_of result (heading_from name t ps (enumerators_left u s.block) (declarator_place k)) = subst (λ (xs : List Enumerator). Gives heading_of result (heading_from name t ps xs (declarator_place k))) constants placed in
    let measured : shaped_for (parameters_left s u).unit.types base k ps true ≡ Ok t = subst (λ (w : ScopeTy). shaped_for w.unit.types base k ps true ≡ Ok t) same (subst (λ (w : TypesTy). shaped_for w base k ps true ≡ Ok t) here (subst (λ (xs : List PartTy). shaped_for types base k xs true ≡ Ok t) list shaped)) in
    subst (λ (w : ScopeTy). Gives (λ g. (heading_of g, w)) result (headed base k s)) (sym same)
    (gives_then (λ g. (heading_of g, parameters_left s u)) result (parts_in k true s) ((name, ps), u) (λ x. shaped_for (parameters_left s x.1).unit.types base k x.0.1 true >>= (λ y. beside (parameters_left s x.1) (heading_from x.0.0 y x.0.1 (enumerators_left x.1 s.block) (declarator_place k)))) parts
    (gives_then (λ g. (heading_of g, parameters_left s u)) result (shaped_for (parameters_left s u).unit.types base k ps true) t (λ y. beside (parameters_left s u) (heading_from name y ps (enumerators_left u s.block) (declarator_place k))) measured
    (gives_beside heading_of (parameters_left s u) result (heading_from name t ps (enumerators_left u s.block) (declarator_place k)) given)))
