-- A symbol that nothing names needs no body.
use Rattle.std.proofs.Common.{◌≡◌, ℕ, zero, suc, ◌∷◌, [], Some, slice_get, refl, sym, subst, inl, arith}
use Rattle.std.proofs.lemmas.Option.{none-some, same_Some}
use Rattle.c65_mach.specs.declared.rows.Op.TheVariants.{Lda, Ldx, Rts}
use Rattle.c65_mach.specs.declared.rows.Mode.TheVariants.{Immediate, Implied}
use Rattle.c65_code.specs.declared.line.Sym.{Sym}
use Rattle.c65_code.specs.declared.line.Operand.TheVariants.{Nothing, Byte}
use Rattle.c65_code.specs.declared.line.Line.{Line}
use Rattle.c65_code.specs.declared.line.Line.TheVariants.{Do}
use Rattle.c65_code.specs.Effects.{ax}
use Rattle.c65_code.specs.Named.{LineNames, IsNamed, function, datum, by_line, by_cell}
use Rattle.c65_code.specs.Segments.{Segment}
use Rattle.c65_asm_law_names.specs.Numbers.{IsClosed}
use Rattle.c65_asm_law_names.specs.Example.{with_a_local, LocalsNeedNoBody}

abbrev main_unit : Sym × Segment
main_unit = (record { 0 = 1 }, record { lines = Do Lda Immediate (Byte 0) ∷ Do Ldx Immediate (Byte 0) ∷ Do Rts Implied Nothing ∷ []; out = ax })

-- its one function is main, whose lines name nothing
only : (i : ℕ) (g : Sym × Segment) → slice_get with_a_local.functions i ≡ Some g → (g.0.0 ≡ 1) × ((k : ℕ) (l : Line) (f : ℕ) → slice_get g.1.lines k ≡ Some l → LineNames l f → ⊥)
only zero g at =
    subst (λ (h : Sym × Segment). (h.0.0 ≡ 1) × ((k : ℕ) (l : Line) (f : ℕ) → slice_get h.1.lines k ≡ Some l → LineNames l f → ⊥)) (same_Some main_unit g at) (refl, bare)
  where
    bare : (k : ℕ) (l : Line) (f : ℕ) → slice_get main_unit.1.lines k ≡ Some l → LineNames l f → ⊥
    bare zero l f h n = subst (λ (x : Line). LineNames x f) (sym (same_Some (Do Lda Immediate (Byte 0)) l h)) n
    bare (suc zero) l f h n = subst (λ (x : Line). LineNames x f) (sym (same_Some (Do Ldx Immediate (Byte 0)) l h)) n
    bare (suc (suc zero)) l f h n = subst (λ (x : Line). LineNames x f) (sym (same_Some (Do Rts Implied Nothing) l h)) n
    bare (suc (suc (suc k))) l f h n = absurd (none-some l h)
only (suc i) g at = absurd (none-some g at)

unnamed : IsNamed with_a_local 0 → ⊥
unnamed (function i g at is) = let one : g.0.0 ≡ 1 = (only i g at).0 in omega (arith, one, is)
unnamed (datum i d at is) = absurd (none-some d at)
unnamed (by_line i k g l at here names) = (only i g at).1 k l 0 here names
unnamed (by_cell i k d c at here names) = absurd (none-some d at)

closed : IsClosed with_a_local
closed zero symbol at named = absurd (unnamed named)
closed (suc zero) symbol at named = inl (record { at = 0; unit = main_unit; there = refl; is = refl })
closed (suc (suc i)) symbol at named = absurd (none-some symbol at)

pub locals_need_no_body : LocalsNeedNoBody
locals_need_no_body = (closed, refl, refl)
