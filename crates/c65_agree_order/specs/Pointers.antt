-- Work on pointers (C90 6.3.6, 6.3.8, 6.3.9).
use Rattle.std.specs.Prelude.{ℕ, List, ◌∷◌}
use Rattle.c65_base.specs.declared.operators.BinaryOp.{BinaryOp}
use Rattle.c65_meaning.specs.Store.{Pointer}
use Rattle.c65_meaning.specs.Items.{Item, Apply2}

-- the work of an operator on two pointers, from that of its operands
abbrev pub on_pointers : BinaryOp → ℕ → ℕ → (List Item → List Item) → (List Item → List Item) → List Item → List Item
on_pointers op size other first second k = first (second (Apply2 op (Pointer size) (Pointer other) ∷ k))
