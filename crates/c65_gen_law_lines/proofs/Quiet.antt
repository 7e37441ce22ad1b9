-- Lines as a part of others that leave what waits on the software stack.
use Rattle.std.proofs.Common.{◌≡◌, ℕ, ◌+◌, ◌≤◌, Bool, true, false, List, [], ◌∷◌, ◌++◌, refl, ◌∙◌, arith}
use Rattle.std.specs.Prelude.{if◌then◌else◌}
use Rattle.c65_mach.specs.declared.rows.Op.{Op}
use Rattle.c65_mach.specs.declared.rows.Op.TheVariants.{Jmp}
use Rattle.c65_mach.specs.declared.rows.Mode.TheVariants.{Absolute, Relative}
use Rattle.c65_code.specs.declared.line.Operand.TheVariants.{To}
use Rattle.c65_code.specs.declared.line.Line.{Line}
use Rattle.c65_code.specs.declared.line.Line.TheVariants.{Label, Do}
use Rattle.c65_gen_law_lines.specs.Labels.{may_lead}
use Rattle.c65_gen_law_lines.proofs.Made.{is_early, Piece, Stretch, Made, nowhere, once_at, leads_within, outside_stay, stretch_made, made_stretch, stretch_then, stretch_piece, stretch_label, stretch_branch, stretch_jump, stretch_wider}
use Rattle.c65_gen_law_lines.proofs.Leaves.{leaves_then, leaves_none, Still}

pub record Quiet (ok : ℕ → Bool) (own : ℕ → ℕ) (k : ℕ) (lines : List Line) : Type 0 where
  pub part : Stretch ok own k lines
  pub still : Still lines

pub quiet_then : {ok : ℕ → Bool} {f g : ℕ → ℕ} {j k : ℕ} {a b : List Line} → Quiet ok f j a → Quiet ok g k b → Quiet ok (λ l. f l + g l) (j + k) (a ++ b)
quiet_then p q = record { part = stretch_then p.part q.part; still = λ v. leaves_then (p.still v) (q.still v) }

pub quiet_piece : {ok : ℕ → Bool} {k : ℕ} {a : List Line} → Piece k a → Still a → Quiet ok nowhere k a
quiet_piece p still = record { part = stretch_piece p; still = still }

pub quiet_label : {ok : ℕ → Bool} (l : ℕ) → Quiet ok (once_at l) 0 (Label l ∷ [])
quiet_label l = record { part = stretch_label l; still = λ v. record { to = λ calls. refl } }

pub quiet_branch : {ok : ℕ → Bool} (op : Op) (l : ℕ) → is_early (Do op Relative (To 0)) ≡ true → ok l ≡ true → Quiet ok nowhere 5 (Do op Relative (To l) ∷ [])
quiet_branch op l fits passes = record { part = stretch_branch op l fits passes; still = λ v. record { to = λ calls. refl } }

pub quiet_jump : {ok : ℕ → Bool} (l : ℕ) → ok l ≡ true → Quiet ok nowhere 3 (Do Jmp Absolute (To l) ∷ [])
quiet_jump l passes = record { part = stretch_jump l passes; still = λ v. record { to = λ calls. refl } }

pub quiet_none : {ok : ℕ → Bool} {k : ℕ} → Quiet ok nowhere k []
quiet_none = record { part = record { once = λ l. refl; leads = refl; fit = refl; size = omega arith }; still = λ v. leaves_none }

pub quiet_wider : {ok : ℕ → Bool} {f : ℕ → ℕ} {j k : ℕ} {a : List Line} → Quiet ok f j a → j ≤ k → Quiet ok f k a
quiet_wider p le = record { part = stretch_wider p.part le; still = p.still }

pub quiet_as : {ok : ℕ → Bool} {f g : ℕ → ℕ} {k : ℕ} {a : List Line} → ((l : ℕ) → f l ≡ g l) → Quiet ok f k a → Quiet ok g k a
quiet_as same p = record { part = record { once = λ l. p.part.once l ∙ same l; leads = p.part.leads; fit = p.part.fit; size = p.part.size }; still = p.still }

pub quiet_if : {ok : ℕ → Bool} {f : ℕ → ℕ} {k : ℕ} (b : Bool) {x y : List Line} → Quiet ok f k x → Quiet ok f k y → Quiet ok f k (if b then x else y)
quiet_if true p q = p
quiet_if false p q = q

-- behind the lines of a node, and before them
pub made_still : {outside : List ℕ} {lo n j k : ℕ} {a q : List Line} → Made outside lo n j a → Quiet (may_lead lo n outside) nowhere k q → Made outside lo n (j + k) (a ++ q)
made_still {outside = outside} {lo = lo} {n = n} m q = made_stretch (stretch_then (stretch_made m (leads_within outside lo n lo n (omega arith) (omega arith)) (outside_stay lo n outside)) q.part) (λ l. omega arith)

pub still_made : {outside : List ℕ} {lo n j k : ℕ} {q a : List Line} → Quiet (may_lead lo n outside) nowhere j q → Made outside lo n k a → Made outside lo n (j + k) (q ++ a)
still_made {outside = outside} {lo = lo} {n = n} q m = made_stretch (stretch_then q.part (stretch_made m (leads_within outside lo n lo n (omega arith) (omega arith)) (outside_stay lo n outside))) (λ l. omega arith)
