-- Labels are found where they stand.
use Rattle.std.proofs.Common.{◌≡◌, ℕ, suc, ◌+◌, ◌||◌, not, Bool, true, false, IsTrue, List, [], ◌∷◌, ◌++◌, Some, cond, refl, sym, ◌∙◌, ap, subst, nat_eq, eqb-true, eq-eqb, map, arith}
use Rattle.std.specs.Map.{lookup}
use Rattle.std.specs.List.{list_all}
use Rattle.std.proofs.lemmas.Bool.{or_parts, and_parts, and_from}
use Rattle.indexmap.specs.IndexMap.{insert_entry}
use Rattle.c65_code.specs.declared.parts.RegSet.{RegSet}
use Rattle.c65_code.specs.declared.line.Line.{Line}
use Rattle.c65_code.specs.declared.line.Line.TheVariants.{Label, Do, Call}
use Rattle.c65_code.specs.Segments.{labels_of, target_of, targets_of, is_among, is_distinct, IsSegment}
use Rattle.c65_code.specs.Moves.{labelled}
use Rattle.c65_code.specs.Parts.{no_parts}
use Rattle.c65_live.specs.declared.flow.Flow.{Flow}
use Rattle.c65_live.specs.Regions.{places_of}
use Rattle.c65_live.specs.Flows.{Labels, labels_from, found, labelled_at, flow_by, flow_in, flow_of, flows_of}

inserted_by : (a b : Bool) (e : ℕ × ℕ) (es ins : Labels) (k v q : ℕ) → nat_eq k e.0 ≡ a → nat_eq q k ≡ b → lookup (nat_eq q) ins ≡ cond b (Some v) (lookup (nat_eq q) es) → lookup (nat_eq q) (cond a ((e.0, v) ∷ es) (e ∷ ins)) ≡ cond b (Some v) (lookup (nat_eq q) (e ∷ es))
inserted_by true true e es ins k v q same at h =
    let q_is : nat_eq q e.0 ≡ true = subst (λ n. nat_eq q n ≡ true) (eqb-true k e.0 same) at in
    ap (λ b. cond b (Some v) (lookup (nat_eq q) es)) q_is
inserted_by true false e es ins k v q same at h =
    let q_is : nat_eq q e.0 ≡ false = subst (λ n. nat_eq q n ≡ false) (eqb-true k e.0 same) at in
    ap (λ b. cond b (Some v) (lookup (nat_eq q) es)) q_is ∙ sym (ap (λ b. cond b (Some e.1) (lookup (nat_eq q) es)) q_is)
inserted_by false true e es ins k v q same at h =
    let apart : nat_eq q e.0 ≡ false = subst (λ n. nat_eq n e.0 ≡ false) (sym (eqb-true q k at)) same in
    ap (λ b. cond b (Some e.1) (lookup (nat_eq q) ins)) apart ∙ h
inserted_by false false e es ins k v q same at h = ap (λ r. cond (nat_eq q e.0) (Some e.1) r) h

inserted : (es : Labels) (k v q : ℕ) → lookup (nat_eq q) (insert_entry nat_eq es k v) ≡ cond (nat_eq q k) (Some v) (lookup (nat_eq q) es)
inserted [] k v q = refl
inserted (e ∷ es) k v q = inserted_by (nat_eq k e.0) (nat_eq q k) e es (insert_entry nat_eq es k v) k v q refl refl (inserted es k v q)

-- a label that is not among the lines keeps its place over them
stays : (lines : List Line) (labels : Labels) (at l : ℕ) → is_among (labels_of lines) l ≡ false → lookup (nat_eq l) (labels_from labels at lines) ≡ lookup (nat_eq l) labels
stays [] labels at l h = refl
stays (Label k ∷ lines) labels at l h =
    let parts = or_parts (nat_eq l k) (is_among (labels_of lines) l) h in
    stays lines (insert_entry nat_eq labels k at) (at + 1) l parts.1 ∙ (inserted labels k at l ∙ ap (λ b. cond b (Some at) (lookup (nat_eq l) labels)) parts.0)
stays (Do op mode operand ∷ lines) labels at l h = stays lines labels (at + 1) l h
stays (Call callee ∷ lines) labels at l h = stays lines labels (at + 1) l h

-- the label that stands at the head of the lines, by whether it is the one that is looked for
at_head : (same : Bool) (lines : List Line) (labels : Labels) (at k l : ℕ) → nat_eq l k ≡ same → (is_among (labels_of lines) l ≡ true → is_distinct (labels_of lines) ≡ true → lookup (nat_eq l) (labels_from (insert_entry nat_eq labels k at) (at + 1) lines) ≡ Some (at + 1 + labelled lines l)) → is_among (labels_of (Label k ∷ lines)) l ≡ true → is_distinct (labels_of (Label k ∷ lines)) ≡ true → lookup (nat_eq l) (labels_from (insert_entry nat_eq labels k at) (at + 1) lines) ≡ Some (at + labelled (Label k ∷ lines) l)
at_head true lines labels at k l e further among apart =
    let same : l ≡ k = eqb-true l k e in
    let once = and_parts (not (is_among (labels_of lines) k)) (is_distinct (labels_of lines)) apart in
    let gone : is_among (labels_of lines) l ≡ false = subst (λ n. is_among (labels_of lines) n ≡ false) (sym same) (not_true _ once.0) in
    stays lines (insert_entry nat_eq labels k at) (at + 1) l gone
    ∙ (inserted labels k at l
    ∙ (ap (λ b. cond b (Some at) (lookup (nat_eq l) labels)) e
    ∙ (ap Some none ∙ ap Some (sym (ap (λ b. at + cond b 0 (suc (labelled lines l))) (subst (λ n. nat_eq k n ≡ true) (sym same) (eq-eqb k k refl)))))))
  where
    none : at ≡ at + 0
    none = omega arith

    not_true : (b : Bool) → not b ≡ true → b ≡ false
    not_true false h = refl
    not_true true h = absurd (let f : false ≡ true = h in cc)
at_head false lines labels at k l e further among apart =
    let once = and_parts (not (is_among (labels_of lines) k)) (is_distinct (labels_of lines)) apart in
    let among_rest : is_among (labels_of lines) l ≡ true = sym (ap (λ b. b || is_among (labels_of lines) l) e) ∙ among in
    further among_rest once.1
    ∙ ap Some (later ∙ sym (ap (λ b. at + cond b 0 (suc (labelled lines l))) (eqb_swapped l k e)))
  where
    later : at + 1 + labelled lines l ≡ at + suc (labelled lines l)
    later = omega arith

    eqb_swapped : (a b : ℕ) → nat_eq a b ≡ false → nat_eq b a ≡ false
    eqb_swapped a b h = differs (nat_eq b a) refl
      where
        differs : (c : Bool) → nat_eq b a ≡ c → nat_eq b a ≡ false
        differs false f = f
        differs true f = absurd (let g : true ≡ false = sym (eq-eqb a b (sym (eqb-true b a f))) ∙ h in cc)

-- where the labels of the lines differ, each is found where it stands
found_from : (lines : List Line) (labels : Labels) (at l : ℕ) → is_among (labels_of lines) l ≡ true → is_distinct (labels_of lines) ≡ true → lookup (nat_eq l) (labels_from labels at lines) ≡ Some (at + labelled lines l)
found_from [] labels at l among apart = absurd (let f : false ≡ true = among in cc)
found_from (Label k ∷ lines) labels at l among apart = at_head (nat_eq l k) lines labels at k l refl (found_from lines (insert_entry nat_eq labels k at) (at + 1) l) among apart
found_from (Do op mode operand ∷ lines) labels at l among apart = found_from lines labels (at + 1) l among apart ∙ ap Some (omega arith)
found_from (Call callee ∷ lines) labels at l among apart = found_from lines labels (at + 1) l among apart ∙ ap Some (omega arith)

-- the flow of a line whose targets are among the labels
flow_found : (all : List Line) (out : RegSet) (line : Line) → IsTrue (is_distinct (labels_of all)) → (ls : List ℕ) → target_of line ≡ ls → IsTrue (list_all (is_among (labels_of all)) ls) → flow_in out (labels_from [] 0 all) line ≡ flow_of all out line
flow_found all out line apart [] e h = ap (flow_by out line) (ap (found (labels_from [] 0 all)) e ∙ sym (ap (labelled_at all) e))
flow_found all out line apart (l ∷ ls) e h =
    let here = and_parts (is_among (labels_of all) l) (list_all (is_among (labels_of all)) ls) h in
    ap (flow_by out line) (ap (found (labels_from [] 0 all)) e ∙ (found_from all [] 0 l here.0 apart ∙ (ap Some from_none ∙ sym (ap (labelled_at all) e))))
  where
    from_none : 0 + labelled all l ≡ labelled all l
    from_none = omega arith

all_found : (all lines : List Line) (out : RegSet) → IsTrue (is_distinct (labels_of all)) → IsTrue (list_all (is_among (labels_of all)) (targets_of lines)) → map (flow_in out (labels_from [] 0 all)) lines ≡ map (flow_of all out) lines
all_found all [] out apart h = refl
all_found all (line ∷ lines) out apart h =
    let parts = split (target_of line) h in
    let head : flow_in out (labels_from [] 0 all) line ≡ flow_of all out line = flow_found all out line apart (target_of line) refl parts.0 in
    let tail : map (flow_in out (labels_from [] 0 all)) lines ≡ map (flow_of all out) lines = all_found all lines out apart parts.1 in
    ap (λ f. f ∷ map (flow_in out (labels_from [] 0 all)) lines) head ∙ ap (λ fs. flow_of all out line ∷ fs) tail
  where
    split : (ls : List ℕ) → IsTrue (list_all (is_among (labels_of all)) (ls ++ targets_of lines)) → IsTrue (list_all (is_among (labels_of all)) ls) × IsTrue (list_all (is_among (labels_of all)) (targets_of lines))
    split [] e = (refl, e)
    split (l ∷ ls) e =
        let here = and_parts (is_among (labels_of all) l) (list_all (is_among (labels_of all)) (ls ++ targets_of lines)) e in
        let rest = split ls here.1 in
        (and_from _ _ here.0 rest.0, rest.1)

-- the flows that are looked up are those of the lines
pub flows_found : (lines : List Line) (out : RegSet) → IsSegment lines → map (flow_in out (labels_from [] 0 lines)) lines ≡ flows_of lines out
flows_found lines out segment = all_found lines lines out segment.labels segment.targets

places_in : (f : Line → Flow) (lines : List Line) → map (λ (flow : Flow). flow.to) (map f lines) ≡ map (λ line. (f line).to) lines
places_in f [] = refl
places_in f (line ∷ lines) = ap (λ places. (f line).to ∷ places) (places_in f lines)

-- and so are the lines to which they lead
pub places_found : (lines : List Line) → IsSegment lines → map (λ line. found (labels_from [] 0 lines) (target_of line)) lines ≡ places_of lines
places_found lines segment =
    sym (places_in (flow_in no_parts (labels_from [] 0 lines)) lines)
    ∙ (ap (map (λ (flow : Flow). flow.to)) (flows_found lines no_parts segment) ∙ places_in (flow_of lines no_parts) lines)
