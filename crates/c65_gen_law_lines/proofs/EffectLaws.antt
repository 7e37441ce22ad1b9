-- The lines of expressions whose value is not used: their labels, their size, the form of each line, and that they leave what waits.
use Rattle.std.proofs.Common.{◌≡◌, ℕ, ◌+◌, ◌*◌, ◌≤◌, Bool, true, Option, Some, None, List, [], ◌++◌, refl, sym, ◌∙◌, subst, arith}
use Rattle.c65_base.specs.declared.operators.BinaryOp.{BinaryOp}
use Rattle.c65_base.specs.declared.operators.StepKind.{StepKind}
use Rattle.c65_base.specs.declared.operators.StepKind.TheVariants.{PreInc, PreDec, PostInc, PostDec}
use Rattle.c65_ctype.specs.Trees.{QTy}
use Rattle.c65_ctype.specs.Views.{types_of}
use Rattle.c65_csem.specs.Trees.{Typed, node, Node, convert, comma, assign, assign_op, assign_step, step}
use Rattle.c65_code.specs.declared.line.Line.{Line}
use Rattle.c65_genframe.specs.Frames.{Framed}
use Rattle.c65_ints.specs.declared.types.IntType.{IntType}
use Rattle.c65_genload.specs.Places.{type_in}
use Rattle.c65_genload.specs.Loads.{load_code}
use Rattle.c65_genload.specs.Stores.{store_code}
use Rattle.c65_genexpr.specs.declared.operands.Operands.{Operands}
use Rattle.c65_genexpr.specs.declared.operands.Operands.TheVariants.{Numbers, PointerFirst}
use Rattle.c65_genexpr.specs.declared.operating.Form.{Form}
use Rattle.c65_genexpr.specs.Operands.{computes}
use Rattle.c65_genload.specs.declared.places.Place.{Place}
use Rattle.c65_genload.specs.declared.places.Access.{Access}
use Rattle.c65_genexpr.specs.declared.destination.Destination.TheVariants.{Registers, Pointer}
use Rattle.c65_genexpr.specs.declared.wanted.Wanted.TheVariants.{Value}
use Rattle.c65_genexpr.specs.Types.{bare, access_of, target_bytes}
use Rattle.c65_genexpr.specs.Places.{place_of}
use Rattle.c65_genexpr.specs.Uses.{uses}
use Rattle.c65_genexpr.specs.Code.{node_code}
use Rattle.c65_genchange.specs.declared.changes.Change.{Change}
use Rattle.c65_geneffect.specs.declared.changing.Changing.{Changing}
use Rattle.c65_geneffect.specs.declared.changing.Changing.TheVariants.{Fixed, Loaded, Computed, Otherwise}
use Rattle.c65_geneffect.specs.declared.changing.Fill.{Fill}
use Rattle.c65_genchange.specs.Changes.{change_code}
use Rattle.c65_geneffect.specs.Changing.{in_front, stepping_of, changing_of, filling_of}
use Rattle.c65_geneffect.specs.declared.setting.Setting.{Setting}
use Rattle.c65_geneffect.specs.declared.setting.Setting.TheVariants as settings
use Rattle.c65_geneffect.specs.Setting.{setting_of, below_value, base_for, set_by}
use Rattle.c65_genexpr.specs.Held.{ptr2}
use Rattle.c65_geneffect.specs.declared.placing.Placing.{Placing}
use Rattle.c65_geneffect.specs.declared.placing.Placing.TheVariants as placings
use Rattle.c65_geneffect.specs.Placing.{placing_of}
use Rattle.c65_code.specs.declared.line.Line.TheVariants.{Label}
use Rattle.c65_gen_law_lines.proofs.Elements.{none_of}
use Rattle.c65_gen_law_lines.proofs.Placing.{Placeable, placing_placeable, read_quiet, behind_quiet, waiting_quiet, held_quiet, value_waits_quiet, later_quiet}
use Rattle.c65_gen_law_lines.proofs.Quiet.{Quiet, made_still, still_made, quiet_then, quiet_piece, quiet_wider, quiet_as}
use Rattle.c65_gen_law_lines.proofs.Forms.{value_quiet}
use Rattle.c65_geneffect.specs.Effects.{closed, stepped_by, computed_code, changed_by, changed_base, filled_or, placed_code, set_code, changed_code, step_effect, effect_code, node_effect, effect_uses, node_effect_uses}
use Rattle.c65_gen_law_lines.specs.Bulk.{nodes}
use Rattle.c65_gen_law_lines.specs.Stack.{calls_of, node_calls}
use Rattle.c65_gen_law_lines.proofs.Made.{nowhere, once_at, among_split, among_one, stretch_then, stretch_label, stretch_made, made_stretch, leads_within, leads_inner, Made, made_append, made_wider, made_as, made_behind, made_before}
use Rattle.c65_gen_law_lines.proofs.Drops.{constant_idle, IsSmall}
use Rattle.c65_gen_law_lines.proofs.ExprLaws.{room, some_nodes, slack_fits, labelled_made, expr_made, base_made, index_made}
use Rattle.c65_gen_law_lines.proofs.StackLaws.{Doing, does_line, does_as, does_then, does_before, does_behind, left_alone, right_alone, one_label, expr_does, base_does, index_does}
use Rattle.c65_gen_law_lines.proofs.EffectForms.{IsSound, change_quiet, fill_quiet}
use Rattle.c65_gen_law_lines.proofs.EffectFacts.{IsStep, stepping_sound, Settled, Unneeded, changing_unneeded, Unfilled, number_idle, filling_unneeded, Unset, setting_unset}
use Rattle.c65_gen_law_lines.proofs.Pieces.{hold_piece, keep_piece, load_piece, convert_piece, store_piece}
use Rattle.c65_gen_law_lines.proofs.StackPieces.{Leaves, holding, hold_leaves, keep_still, load_still, convert_still, stored_leaves}
use Rattle.c65_gen_law_lines.proofs.FieldForms.{number_piece, number_still, behind_piece, behind_still, set_piece, set_leaves}

-- ---- labels, sizes and forms

fixed_made : {lo n k : ℕ} {base : List Line} (change : Change) → IsSound change → Made [] (lo + 1) n k base → Made [] lo (1 + n) (k + 24) (base ++ change_code change lo)
fixed_made {lo = lo} {n = n} change sound made =
    made_wider (made_stretch
    (stretch_then (stretch_made made (leads_within [] (lo + 1) n lo (1 + n) (omega arith) (omega arith)) refl) (change_quiet change lo (leads_inner [] lo (1 + n) lo (omega arith) (omega arith)) sound).part)
    (λ l. omega (arith, among_split lo 1 n l, among_one lo l))) (omega arith)

loaded_made : {lo n m j k : ℕ} {a b : List Line} (change : Change) → IsSound change → Made [] (lo + 1) n j a → Made [] (lo + 1 + n) m k b → Made [] lo (1 + (n + m)) (j + k + 24) (a ++ (b ++ change_code change lo))
loaded_made {lo = lo} {n = n} {m = m} change sound ma mb = made_wider (made_stretch
    (stretch_then (stretch_made ma (leads_within [] (lo + 1) n lo (1 + (n + m)) (omega arith) (omega arith)) refl)
    (stretch_then (stretch_made mb (leads_within [] (lo + 1 + n) m lo (1 + (n + m)) (omega arith) (omega arith)) refl) (change_quiet change lo (leads_inner [] lo (1 + (n + m)) lo (omega arith) (omega arith)) sound).part))
    (λ l. omega (arith, among_split lo 1 (n + m) l, among_split (lo + 1) n m l, among_one lo l))) (omega arith)

closed_made : {lo n k : ℕ} {a : List Line} → Made [] (lo + 1) n k a → Made [] lo (1 + n) k (closed lo a)
closed_made {lo = lo} {n = n} made = made_wider (made_stretch
    (stretch_then (stretch_made made (leads_within [] (lo + 1) n lo (1 + n) (omega arith) (omega arith)) refl) (stretch_label lo))
    (λ l. omega (arith, among_split lo 1 n l, among_one lo l))) (omega arith)

stepped_made : {lo n j k : ℕ} {base whole : List Line} (form : Option Change) → IsStep form → j + 24 ≤ k → Made [] (lo + 1) n j base → Made [] lo (1 + n) k whole → Made [] lo (1 + n) k (stepped_by form lo base whole)
stepped_made (Some change) sound le mb mw = made_wider (fixed_made change sound mb) le
stepped_made None sound le mb mw = mw

computed_quiet : {ok : ℕ → Bool} (place : Place) (access : Access) (kind : IntType) (form : Form) (label : ℕ) → ok label ≡ true → Settled place access → IsSmall form → Quiet ok (once_at label) 148 (computed_code place access kind form label)
computed_quiet {ok = ok} place access kind form label passes settled small =
    let taken : Quiet ok nowhere 19 (load_code place access) = quiet_wider (quiet_piece (load_piece place access) (load_still place access)) settled.load in
    let put : Quiet ok nowhere 19 (store_code place access) = quiet_wider (quiet_piece (store_piece place access) (λ v. subst (λ (u : List ℕ). Leaves u (store_code place access) v) (settled.waits v) (stored_leaves place access v))) settled.store in
    quiet_as (λ l. omega arith)
    (quiet_then taken (quiet_then (quiet_piece (convert_piece (type_in access) kind) (convert_still (type_in access) kind)) (quiet_then (value_quiet form label passes small) (quiet_then (quiet_piece (convert_piece kind (type_in access)) (convert_still kind (type_in access))) put))))

computed_made : {lo n k : ℕ} {base : List Line} (place : Place) (access : Access) (kind : IntType) (form : Form) → Settled place access → IsSmall form → Made [] (lo + 1) n k base → Made [] lo (1 + n) (k + 148) (base ++ computed_code place access kind form lo)
computed_made {lo = lo} {n = n} place access kind form settled small made =
    made_stretch
    (stretch_then (stretch_made made (leads_within [] (lo + 1) n lo (1 + n) (omega arith) (omega arith)) refl) (computed_quiet place access kind form lo (leads_inner [] lo (1 + n) lo (omega arith) (omega arith)) settled small).part)
    (λ l. omega (arith, among_split lo 1 n l, among_one lo l))

changed_made : {lo n m i j k : ℕ} {left right whole : List Line} (how : Changing) (place : Place) (access : Access) (kind : IntType) → Unneeded how place access (m ≡ 0) → i + 148 ≤ k → i + j + 24 ≤ k → Made [] (lo + 1) n i left → Made [] (lo + 1 + n) m j right → Made [] (lo + 1) (n + m) k whole
    → Made [] lo (1 + (n + m)) k (changed_by how place access kind lo left right whole)
changed_made (Fixed change) place access kind unneeded first second ml mr mw = made_as (omega (arith, unneeded.1)) (made_wider (fixed_made change unneeded.0 ml) (omega (arith, first)))
changed_made (Computed form) place access kind unneeded first second ml mr mw = made_as (omega (arith, unneeded.1.1)) (made_wider (computed_made place access kind form unneeded.0 unneeded.1.0 ml) first)
changed_made (Loaded change) place access kind unneeded first second ml mr mw = made_wider (loaded_made change unneeded ml mr) second
changed_made Otherwise place access kind unneeded first second ml mr mw = closed_made mw

filled_made : {lo n j k : ℕ} {base whole : List Line} (m : ℕ) (fill : Option Fill) → Unfilled fill (m ≡ 0) → j + 10 ≤ k → Made [] lo n j base → Made [] lo (n + m) k whole → Made [] lo (n + m) k (filled_or fill base whole)
filled_made m (Some fill) unneeded le mb mw = made_as (omega (arith, unneeded)) (made_wider (made_still mb (fill_quiet fill.byte fill.low fill.high)) le)
filled_made m None unneeded le mb mw = mw

set_made : {lo n m i j k : ℕ} {left right whole : List Line} (how : Setting) (place : Place) → Unset how (m ≡ 0) → i + 22 ≤ k → i + j + 78 ≤ k → Made [] lo n i left → Made [] (lo + n) m j right → Made [] lo (n + m) k whole
    → Made [] lo (n + m) k (set_by how place left right whole)
set_made (settings.Number g x) place unset first second ml mr mw = made_as (omega (arith, unset)) (made_wider (made_behind ml (number_piece place g x)) first)
set_made (settings.Held g at) place unset first second ml mr mw = made_wider (made_append ml (made_before keep_piece (made_behind mr (behind_piece ptr2 at g)))) (omega (arith, second))
set_made (settings.Loaded g) place unset first second ml mr mw = made_wider (made_append ml (made_before (hold_piece place) (made_behind mr (set_piece place g)))) (omega (arith, second))
set_made settings.Otherwise place unset first second ml mr mw = mw

field_made : (f : Framed) (pushed lo : ℕ) (a b : Typed) (whole : List Line) → Made [] lo (uses None a + uses None b) (128 * (1 + (nodes a + nodes b))) whole → Made [] lo (uses None a + uses None b) (128 * (1 + (nodes a + nodes b))) (set_code f pushed lo a b whole)
field_made f pushed lo a b whole mw =
    let place : Place = place_of f pushed a in
    let access : Access = access_of (types_of f.parts.types) a in
    let how : Setting = setting_of f pushed place access b in
    set_made how place (setting_unset _ f pushed place access b (λ n h. (number_idle f b n h).uses)) (omega (arith, some_nodes a, some_nodes b)) (omega (arith, some_nodes a, some_nodes b))
    (base_made f pushed lo (base_for how) a) (expr_made f (below_value how pushed place) (lo + uses None a) Value b) mw

step_made : (f : Framed) (pushed lo : ℕ) (t : QTy) (how : StepKind) (e : Typed) → Made [] lo (1 + uses None e) (room (node t (step (in_front how) e))) (node_code f pushed lo Value t (step (in_front how) e))
    → Made [] lo (1 + uses None e) (128 * nodes (node t (step how e))) (step_effect f pushed lo how e)
step_made f pushed lo t how e whole =
    let place : Place = place_of f pushed e in
    let access : Access = access_of (types_of f.parts.types) e in
    made_wider (stepped_made (stepping_of how (target_bytes f (bare e)) place access) (stepping_sound how (target_bytes f (bare e)) place access) (omega (arith, some_nodes e)) (base_made f pushed (lo + 1) Pointer e) whole) (omega arith)

op_made : (f : Framed) (pushed lo : ℕ) (op : BinaryOp) (operands : Operands) (size : ℕ) (a b : Typed) (whole : List Line) → Made [] (lo + 1) (uses None a + uses None b) (125 + 128 * (nodes a + nodes b)) whole
    → Made [] lo (1 + (uses None a + uses None b)) (128 * (1 + (nodes a + nodes b))) (changed_code f pushed lo op operands size a b whole)
op_made f pushed lo op operands size a b whole mw =
    let place : Place = place_of f pushed a in
    let access : Access = access_of (types_of f.parts.types) a in
    let how : Changing = changing_of op operands size place access b in
    let unneeded : Unneeded how place access (uses None b ≡ 0) = changing_unneeded _ op operands size place access b (λ z h. (constant_idle f b z h).uses) in
    made_wider (changed_made how place access (computes operands) unneeded (omega (arith, some_nodes a, some_nodes b)) (omega (arith, some_nodes a, some_nodes b)) (base_made f pushed (lo + 1) (changed_base how) a) (expr_made f pushed (lo + 1 + uses None a) Value b) mw) (omega arith)

-- an element takes the value
placed_made : {whole : List Line} (f : Framed) (pushed lo : ℕ) (how : Placing) (a b : Typed) → Placeable f how a b → Made [] lo (uses None a + uses None b) (128 * (1 + (nodes a + nodes b))) whole
    → Made [] lo (uses None a + uses None b) (128 * (1 + (nodes a + nodes b))) (placed_code f pushed lo how a b whole)
placed_made f pushed lo (placings.Read x low high) a b p mw = made_as (omega (arith, p.1.uses)) (made_wider (made_still (index_made f pushed lo a p.0.0 p.0.1) (read_quiet x low high)) (omega (arith, some_nodes b)))
placed_made f pushed lo (placings.Behind x extent d) a b p mw =
    made_as (omega (arith, p.uses)) (labelled_made (made_wider (made_still (expr_made f pushed (lo + 1) Value b) (behind_quiet x extent d)) (omega (arith, some_nodes a, some_nodes b))))
placed_made f pushed lo (placings.Held x extent) a b p mw =
    made_wider (made_append (index_made f pushed lo a p.0 p.1) (still_made (waiting_quiet x) (made_still (expr_made f pushed (lo + uses None a) Value b) (held_quiet x extent)))) (omega (arith, some_nodes b))
placed_made f pushed lo (placings.Later x extent) a b p mw =
    made_as (omega arith) (made_wider (made_append (expr_made f pushed lo Value b) (still_made (value_waits_quiet extent) (made_still (index_made f pushed (lo + uses None b) a p.0.0 p.0.1) (later_quiet x extent)))) (omega (arith, some_nodes a, some_nodes b)))
placed_made f pushed lo placings.Otherwise a b p mw = mw

mutual
  pub effect_made : (f : Framed) (pushed lo : ℕ) (e : Typed) → Made [] lo (effect_uses e) (128 * nodes e) (effect_code f pushed lo e)
  effect_made f pushed lo (node t n) = node_effect_made f pushed lo t n

  node_effect_made : (f : Framed) (pushed lo : ℕ) (t : QTy) (n : Node) → Made [] lo (node_effect_uses t n) (128 * nodes (node t n)) (node_effect f pushed lo t n)
  node_effect_made f pushed lo t (convert e) = made_wider (effect_made f pushed lo e) (omega arith)
  node_effect_made f pushed lo t (comma a b) = made_wider (made_append (effect_made f pushed lo a) (effect_made f pushed (lo + effect_uses a) b)) (omega arith)
  node_effect_made f pushed lo t (assign a b) =
      let place : Place = place_of f pushed a in
      let access : Access = access_of (types_of f.parts.types) a in
      placed_made f pushed lo (placing_of f pushed a b) a b (placing_placeable f pushed a b)
      (filled_made (uses None b) (filling_of place access b) (filling_unneeded _ place access b (λ n h. (number_idle f b n h).uses)) (omega (arith, some_nodes a, some_nodes b)) (base_made f pushed lo Registers a) (field_made f pushed lo a b (node_code f pushed lo Value t (assign a b)) (made_wider (expr_made f pushed lo Value (node t (assign a b))) (omega arith))))
  node_effect_made f pushed lo t (assign_op op k a b) = op_made f pushed lo op (Numbers k) 1 a b (node_code f pushed (lo + 1) Value t (assign_op op k a b)) (made_wider (expr_made f pushed (lo + 1) Value (node t (assign_op op k a b))) (omega arith))
  node_effect_made f pushed lo t (assign_step op a b) = op_made f pushed lo op (PointerFirst (target_bytes f (bare a))) (target_bytes f (bare a)) a b (node_code f pushed (lo + 1) Value t (assign_step op a b)) (made_wider (expr_made f pushed (lo + 1) Value (node t (assign_step op a b))) (omega arith))
  node_effect_made f pushed lo t (step PreInc e) = step_made f pushed lo t PreInc e (expr_made f pushed lo Value (node t (step PreInc e)))
  node_effect_made f pushed lo t (step PreDec e) = step_made f pushed lo t PreDec e (expr_made f pushed lo Value (node t (step PreDec e)))
  node_effect_made f pushed lo t (step PostInc e) = step_made f pushed lo t PostInc e (expr_made f pushed lo Value (node t (step PreInc e)))
  node_effect_made f pushed lo t (step PostDec e) = step_made f pushed lo t PostDec e (expr_made f pushed lo Value (node t (step PreDec e)))
  node_effect_made f pushed lo t n = made_wider (expr_made f pushed lo Value (node t n)) (omega (arith, slack_fits (node t n)))

-- ---- what waits

fixed_does : {cs : List (List ℕ)} {base : List Line} (change : Change) (label : ℕ) → IsSound change → Doing cs base → Doing cs (base ++ change_code change label)
fixed_does change label sound d v = does_behind (d v) ((change_quiet {ok = λ l. true} change label refl sound).still v)

stepped_does : {cs : List (List ℕ)} {base whole : List Line} (form : Option Change) (label : ℕ) → IsStep form → Doing cs base → Doing cs whole → Doing cs (stepped_by form label base whole)
stepped_does (Some change) label sound db dw v = fixed_does change label sound db v
stepped_does None label sound db dw v = dw v

changed_does : {cs ds : List (List ℕ)} {left right whole : List Line} (how : Changing) (place : Place) (access : Access) (kind : IntType) (label : ℕ) → Unneeded how place access (ds ≡ []) → Doing cs left → Doing ds right → Doing (cs ++ ds) whole → Doing (cs ++ ds) (changed_by how place access kind label left right whole)
changed_does (Fixed change) place access kind label unneeded dl dr dw v = left_alone unneeded.1 (fixed_does change label unneeded.0 dl v)
changed_does (Computed form) place access kind label unneeded dl dr dw v = left_alone unneeded.1.1 (does_behind (dl v) ((computed_quiet {ok = λ l. true} place access kind form label refl unneeded.0 unneeded.1.0).still v))
changed_does (Loaded change) place access kind label unneeded dl dr dw v = does_then (dl v) (does_behind (dr v) ((change_quiet {ok = λ l. true} change label refl unneeded).still v))
changed_does Otherwise place access kind label unneeded dl dr dw v = does_behind (dw v) (one_label label)

filled_does : {cs : List (List ℕ)} {base whole : List Line} (ds : List (List ℕ)) (fill : Option Fill) → Unfilled fill (ds ≡ []) → Doing cs base → Doing (cs ++ ds) whole → Doing (cs ++ ds) (filled_or fill base whole)
filled_does ds (Some fill) unneeded db dw v = left_alone unneeded (does_behind (db v) ((fill_quiet {ok = λ l. true} fill.byte fill.low fill.high).still v))
filled_does ds None unneeded db dw v = dw v

set_does : {cs ds : List (List ℕ)} {left right whole : List Line} (how : Setting) (place : Place) → Unset how (ds ≡ []) → Doing cs left → Doing ds right → Doing (cs ++ ds) whole → Doing (cs ++ ds) (set_by how place left right whole)
set_does (settings.Number g n) place unset dl dr dw v = left_alone unset (does_behind (dl v) (number_still place g n v))
set_does (settings.Held g at) place unset dl dr dw v = does_then (dl v) (does_before (keep_still v) (does_behind (dr v) (behind_still ptr2 at g v)))
set_does (settings.Loaded g) place unset dl dr dw v = does_then (dl v) (does_before (hold_leaves place v) (does_behind (dr (holding place v)) (set_leaves place g v)))
set_does settings.Otherwise place unset dl dr dw v = dw v

field_does : (f : Framed) (pushed lo : ℕ) (a b : Typed) (whole : List Line) → Doing (calls_of f a ++ calls_of f b) whole → Doing (calls_of f a ++ calls_of f b) (set_code f pushed lo a b whole)
field_does f pushed lo a b whole dw =
    let place : Place = place_of f pushed a in
    let access : Access = access_of (types_of f.parts.types) a in
    let how : Setting = setting_of f pushed place access b in
    set_does how place (setting_unset _ f pushed place access b (λ n h. (number_idle f b n h).calls)) (base_does f pushed lo (base_for how) a) (expr_does f (below_value how pushed place) (lo + uses None a) Value b) dw

step_does : (f : Framed) (pushed lo : ℕ) (t : QTy) (how : StepKind) (e : Typed) → Doing (calls_of f e) (node_code f pushed lo Value t (step (in_front how) e)) → Doing (calls_of f e) (step_effect f pushed lo how e)
step_does f pushed lo t how e whole =
    let place : Place = place_of f pushed e in
    let access : Access = access_of (types_of f.parts.types) e in
    stepped_does (stepping_of how (target_bytes f (bare e)) place access) lo (stepping_sound how (target_bytes f (bare e)) place access) (base_does f pushed (lo + 1) Pointer e) whole

op_does : (f : Framed) (pushed lo : ℕ) (op : BinaryOp) (operands : Operands) (size : ℕ) (a b : Typed) (whole : List Line) → Doing (calls_of f a ++ calls_of f b) whole → Doing (calls_of f a ++ calls_of f b) (changed_code f pushed lo op operands size a b whole)
op_does f pushed lo op operands size a b whole dw =
    let place : Place = place_of f pushed a in
    let access : Access = access_of (types_of f.parts.types) a in
    let how : Changing = changing_of op operands size place access b in
    let unneeded : Unneeded how place access (calls_of f b ≡ []) = changing_unneeded _ op operands size place access b (λ z h. (constant_idle f b z h).calls) in
    changed_does how place access (computes operands) lo unneeded (base_does f pushed (lo + 1) (changed_base how) a) (expr_does f pushed (lo + 1 + uses None a) Value b) dw

placed_does : {whole : List Line} (f : Framed) (pushed lo : ℕ) (how : Placing) (a b : Typed) → Placeable f how a b → Doing (calls_of f a ++ calls_of f b) whole → Doing (calls_of f a ++ calls_of f b) (placed_code f pushed lo how a b whole)
placed_does f pushed lo (placings.Read x low high) a b p dw v = left_alone p.1.calls (does_behind (index_does f pushed lo a p.0.0 p.0.1 v) ((read_quiet {ok = λ l. true} x low high).still v))
placed_does f pushed lo (placings.Behind x extent d) a b p dw v =
    right_alone p.calls (does_line (Label lo) (λ w. refl) (does_behind (expr_does f pushed (lo + 1) Value b v) ((behind_quiet {ok = λ l. true} x extent d).still v)))
placed_does f pushed lo (placings.Held x extent) a b p dw v =
    does_then (index_does f pushed lo a p.0 p.1 v) (does_before ((waiting_quiet {ok = λ l. true} x).still v) (does_behind (expr_does f pushed (lo + uses None a) Value b v) ((held_quiet {ok = λ l. true} x extent).still v)))
placed_does f pushed lo (placings.Later x extent) a b p dw v =
    does_as (none_of (calls_of f b) (calls_of f a) p.1.1 p.1.0 ∙ sym (none_of (calls_of f a) (calls_of f b) p.1.0 p.1.1)) (does_then (expr_does f pushed lo Value b v) (does_before ((value_waits_quiet {ok = λ l. true} extent).still v) (does_behind (index_does f pushed (lo + uses None b) a p.0.0 p.0.1 v) ((later_quiet {ok = λ l. true} x extent).still v))))
placed_does f pushed lo placings.Otherwise a b p dw v = dw v

mutual
  pub effect_does : (f : Framed) (pushed lo : ℕ) (e : Typed) → Doing (calls_of f e) (effect_code f pushed lo e)
  effect_does f pushed lo (node t n) = node_effect_does f pushed lo t n

  node_effect_does : (f : Framed) (pushed lo : ℕ) (t : QTy) (n : Node) → Doing (node_calls f n) (node_effect f pushed lo t n)
  node_effect_does f pushed lo t (convert e) = effect_does f pushed lo e
  node_effect_does f pushed lo t (comma a b) = λ v. does_then (effect_does f pushed lo a v) (effect_does f pushed (lo + effect_uses a) b v)
  node_effect_does f pushed lo t (assign a b) =
      let place : Place = place_of f pushed a in
      let access : Access = access_of (types_of f.parts.types) a in
      placed_does f pushed lo (placing_of f pushed a b) a b (placing_placeable f pushed a b)
      (filled_does (calls_of f b) (filling_of place access b) (filling_unneeded _ place access b (λ n h. (number_idle f b n h).calls)) (base_does f pushed lo Registers a) (field_does f pushed lo a b (node_code f pushed lo Value t (assign a b)) (expr_does f pushed lo Value (node t (assign a b)))))
  node_effect_does f pushed lo t (assign_op op k a b) = op_does f pushed lo op (Numbers k) 1 a b (node_code f pushed (lo + 1) Value t (assign_op op k a b)) (expr_does f pushed (lo + 1) Value (node t (assign_op op k a b)))
  node_effect_does f pushed lo t (assign_step op a b) = op_does f pushed lo op (PointerFirst (target_bytes f (bare a))) (target_bytes f (bare a)) a b (node_code f pushed (lo + 1) Value t (assign_step op a b)) (expr_does f pushed (lo + 1) Value (node t (assign_step op a b)))
  node_effect_does f pushed lo t (step PreInc e) = step_does f pushed lo t PreInc e (expr_does f pushed lo Value (node t (step PreInc e)))
  node_effect_does f pushed lo t (step PreDec e) = step_does f pushed lo t PreDec e (expr_does f pushed lo Value (node t (step PreDec e)))
  node_effect_does f pushed lo t (step PostInc e) = step_does f pushed lo t PostInc e (expr_does f pushed lo Value (node t (step PreInc e)))
  node_effect_does f pushed lo t (step PostDec e) = step_does f pushed lo t PostDec e (expr_does f pushed lo Value (node t (step PreDec e)))
  node_effect_does f pushed lo t n = expr_does f pushed lo Value (node t n)
