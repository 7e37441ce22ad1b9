-- Lines that leave what waits, and regbank: their labels, and where they lead.
use Rattle.std.proofs.Common.{◌≡◌, ℕ, ◌⊎◌, inl, inr, Bool, true, false, not, List, [], ◌∷◌, ◌++◌, refl, sym, ap, subst}
use Rattle.std.specs.Prelude.{if◌then◌else◌, ◌&&◌, ◌||◌}
use Rattle.std.specs.List.{list_all}
use Rattle.std.proofs.lemmas.Bool.{and_parts, and_from}
use Rattle.c65_mach.specs.declared.rows.Op.{Op}
use Rattle.c65_mach.specs.declared.rows.Op.TheVariants.{Jmp}
use Rattle.c65_mach.specs.declared.rows.Mode.{Mode}
use Rattle.c65_mach.specs.declared.rows.Mode.TheVariants.{Absolute, Relative}
use Rattle.c65_code.specs.declared.line.Operand.TheVariants.{To}
use Rattle.c65_code.specs.declared.line.Line.{Line}
use Rattle.c65_code.specs.declared.line.Line.TheVariants.{Label, Do, Call}
use Rattle.c65_code.specs.Segments.{is_to}
use Rattle.c65_code.specs.Access.{is_written}
use Rattle.c65_mach.specs.Step.{kind_of}
use Rattle.c65_genload.specs.Words.{branch}
use Rattle.c65_gen_law_lines.proofs.Made.{is_plain}
use Rattle.c65_gen_law_lines.proofs.Leaves.{Still, leaves_none}
use Rattle.c65_gen_law_stack.specs.Bank.{lies_outside}
use Rattle.c65_gen_law_stack.proofs.Levels.{Level, level_then, level_end, level_piece, level_label, level_leads}
use Rattle.c65_gen_law_stack.proofs.BankPieces.{Clear, clear_then, clear_none}

-- sets of labels
abbrev pub Labels : Type 1
Labels = ℕ → Type 0

abbrev pub No : Labels
No l = ⊥

abbrev pub One : ℕ → Labels
One k l = l ≡ k

abbrev pub Both : Labels → Labels → Labels
Both P Q l = P l ⊎ Q l

-- where these values wait
abbrev pub At : Labels → List ℕ → ℕ → List ℕ → Type 0
At P v l h = P l × (h ≡ v)

-- Whatever waits, these lines leave it, and regbank. The labels of P stand where it waits, and branches lead to labels that stand so, or
-- elsewhere to one of X.
pub record Even (P X : Labels) (a : List Line) : Type 0 where
  pub level : (v : List ℕ) → Level (At P v) (At X v) [] v a v
  pub clear : Clear a

pub even_end : {P Q X Y : Labels} {a : List Line} → Even P X a → ((l : ℕ) → Q l → P l) → ((l : ℕ) → X l → P l ⊎ Y l) → Even Q Y a
even_end p fewer closes = record {
  level = λ v. level_end (p.level v) (λ l h z. (fewer l z.0, z.1)) (λ l h z. elim (closes l z.0) [ inl a ↦ inl (a, z.1) | inr y ↦ inr (y, z.1) ]);
  clear = p.clear;
}

pub even_then : {P Q X : Labels} {a b : List Line} → Even P X a → Even Q X b → Even (Both P Q) X (a ++ b)
even_then p q = record {
  level = λ v. level_end (level_then (p.level v) (q.level v)) (λ l h z. elim z.0 [ inl a ↦ inl (a, z.1) | inr b ↦ inr (b, z.1) ]) (λ l h z. inr z);
  clear = clear_then p.clear q.clear;
}

-- lines without labels and branches
pub even_piece : {X : Labels} {a : List Line} → Still a → list_all is_plain a ≡ true → Clear a → Even No X a
even_piece still plain clear = record { level = λ v. level_end (level_piece (still v) plain) (λ l h z. z.0) (λ l h z. inr z); clear = clear }

pub even_label : {X : Labels} (k : ℕ) → Even (One k) X (Label k ∷ [])
even_label k = record { level = λ v. level_label k v; clear = record { all = refl } }

pub even_if : {P X : Labels} (b : Bool) {x y : List Line} → Even P X x → Even P X y → Even P X (if b then x else y)
even_if true p q = p
even_if false p q = q

-- lines behind others, where no label of theirs is named any more
pub even_on : {X : Labels} {a b : List Line} → Even No X a → Even No X b → Even No X (a ++ b)
even_on p q = even_end (even_then p q) (λ l z. absurd z) (λ l z. inr z)

-- a label that stands there is no longer open
pub even_close : {P X : Labels} {a : List Line} (k : ℕ) → P k → Even P (Both (One k) X) a → Even No X a
even_close {P = P} {X = X} k here p = even_end p (λ l z. absurd z) by
  where
    by : (l : ℕ) → Both (One k) X l → P l ⊎ X l
    by l (inl e) = inl (subst (λ (x : ℕ). P x) (sym e) here)
    by l (inr x) = inr x

-- a branch or a jump, to one of X
leads_even : {X : Labels} (op : Op) (mode : Mode) (k : ℕ) → X k → Clear (Do op mode (To k) ∷ []) → Even No X (Do op mode (To k) ∷ [])
leads_even {X = X} op mode k x clear = record {
  level = λ v. level_end (level_leads op mode k v) (λ l h z. z.0) (λ l h z. inr (subst (λ (y : ℕ). X y) (sym z.0) x, z.1));
  clear = clear;
}

-- an operation that writes nothing
abbrev pub IsReader : Op → Type 0
IsReader op = is_written (kind_of op) ≡ false

pub even_branch : {X : Labels} (op : Op) (k : ℕ) → IsReader op → X k → Even No X (branch op k ∷ [])
even_branch op k plain x = leads_even op Relative k x (record { all = ap (λ (b : Bool). (not b || lies_outside Relative (To k)) && true) plain })

pub even_jump : {X : Labels} (k : ℕ) → X k → Even No X (Do Jmp Absolute (To k) ∷ [])
even_jump k x = leads_even Jmp Absolute k x (record { all = refl })

-- operations that lead nowhere and write nothing of regbank
abbrev pub is_bare : Line → Bool
is_bare (Label l) = false
is_bare (Do op mode operand) = not (is_to operand) && (not (is_written (kind_of op)) || lies_outside mode operand)
is_bare (Call callee) = false

pub even_lines : {X : Labels} (a : List Line) → list_all is_bare a ≡ true → Even No X a
even_lines [] h = even_piece (λ v. leaves_none) refl clear_none
even_lines (Label l ∷ a) h = absurd cc
even_lines (Do op mode operand ∷ a) h =
    let both = and_parts (is_bare (Do op mode operand)) (list_all is_bare a) h in
    let own = and_parts (not (is_to operand)) (not (is_written (kind_of op)) || lies_outside mode operand) both.0 in
    let one : Even No _ (Do op mode operand ∷ []) = even_piece (λ v. record { to = λ calls. refl }) (and_from (not (is_to operand)) true own.0 refl) (record { all = and_from (not (is_written (kind_of op)) || lies_outside mode operand) true own.1 refl }) in
    even_on one (even_lines a both.1)
even_lines (Call callee ∷ a) h = absurd cc

-- a label that nothing leads to
pub even_labelled : {X : Labels} {a : List Line} (k : ℕ) → Even No X a → Even No X (a ++ Label k ∷ [])
even_labelled k p = even_end (even_then p (even_label k)) (λ l z. absurd z) (λ l z. inr z)

pub even_leaves : {P X : Labels} {a : List Line} → Even P X a → Still a
even_leaves e v = record { to = λ calls. (e.level v).to calls calls refl }
