-- Lines that lead from some values that wait to others, and call nothing.
use Rattle.std.proofs.Common.{◌≡◌, ℕ, Bool, true, false, Option, Some, List, [], ◌∷◌, ◌++◌, refl, ◌∙◌, ap}
use Rattle.std.specs.Prelude.{if◌then◌else◌}
use Rattle.c65_code.specs.declared.line.Line.{Line}
use Rattle.c65_gen_law_lines.specs.Stack.{Waiting, waiting_by, behind, waits}

pub waits_append : (a b : List Line) (w : Option Waiting) → waits w (a ++ b) ≡ waits (waits w a) b
waits_append [] b w = refl
waits_append (line ∷ a) b w = waits_append a b (behind line w)

-- lines lead from some values that wait to others, and call nothing
pub record Leaves (v : List ℕ) (a : List Line) (u : List ℕ) : Type 0 where
  pub to : (calls : List (List ℕ)) → waits (Some (waiting_by v calls)) a ≡ Some (waiting_by u calls)

pub leaves_then : {v u t : List ℕ} {a b : List Line} → Leaves v a u → Leaves u b t → Leaves v (a ++ b) t
leaves_then {v = v} {a = a} {b = b} p q = record { to = λ calls. waits_append a b (Some (waiting_by v calls)) ∙ (ap (λ w. waits w b) (p.to calls) ∙ q.to calls) }

pub leaves_none : {v : List ℕ} → Leaves v [] v
leaves_none = record { to = λ calls. refl }

pub leaves_if : {v u : List ℕ} (b : Bool) {x y : List Line} → Leaves v x u → Leaves v y u → Leaves v (if b then x else y) u
leaves_if true p q = p
leaves_if false p q = q

-- lines that leave what waits
abbrev pub Still : List Line → Type 0
Still a = (v : List ℕ) → Leaves v a v
