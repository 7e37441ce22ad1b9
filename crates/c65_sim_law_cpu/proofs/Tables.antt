-- The rows that both processors have: those of the 6502, but for `JMP (abs)`.
use Rattle.std.proofs.Common.{◌≡◌, ◌⊎◌, inl, inr, ℕ, ◌==◌, Bool, true, false, List, [], ◌∷◌, Option, Some, None, refl, sym, ap, subst, ◌∙◌}
use Rattle.std.specs.Prelude.{⊤, if◌then◌else◌}
use Rattle.std.specs.List.{list_all}
use Rattle.std.proofs.lemmas.Bool.{false≢true, eq-eqb, and_parts}
use Rattle.std.proofs.lemmas.Bool.Decides.{eqb_tells}
use Rattle.c65_base.specs.declared.options.Cpu.TheVariants.{Cmos}
use Rattle.c65_mach.specs.declared.rows.Mode.{Mode}
use Rattle.c65_mach.specs.declared.rows.Mode.TheVariants.{Indirect}
use Rattle.c65_mach.specs.declared.rows.Row.{Row}
use Rattle.c65_mach.specs.Table.{Entry, table, found, row_of, own_rows, or_row, row_for}

-- the 6502 has no row there, or it is the jump
abbrev Lacks : Entry → Type 0
Lacks e = (row_of e.byte ≡ None) ⊎ (e.byte ≡ 0x6C)

abbrev AllLack : List Entry → Type 0
AllLack [] = ⊤
AllLack (e ∷ es) = Lacks e × AllLack es

unequal : (a b : ℕ) {P : Type 0} → (a == b) ≡ false → a ≡ b → P
unequal a b h e = absurd (false≢true (sym h ∙ eq-eqb a b e))

absent : (es : List Entry) (byte : ℕ) (row : Row) → AllLack es → row_of byte ≡ Some row → (byte == 0x6C) ≡ false → found byte es ≡ None
absent [] byte row lack is other = refl
absent (e ∷ es) byte row (inl none, rest) is other =
    elim (eqb_tells byte e.byte) [
      | inl same ↦ (let both : ◌≡◌ {A = Option Row} None (Some row) = sym none ∙ sym (ap row_of same.1) ∙ is in absurd cc)
      | inr apart ↦ rw apart.0 (absent es byte row rest is other)
    ]
absent (e ∷ es) byte row (inr jump, rest) is other =
    elim (eqb_tells byte e.byte) [
      | inl same ↦ unequal byte 0x6C other (same.1 ∙ jump)
      | inr apart ↦ rw apart.0 (absent es byte row rest is other)
    ]

own_lack : AllLack own_rows
unfolding row_of
own_lack = (inl refl, (inl refl, (inl refl, (inl refl, (inl refl, (inl refl, (inl refl, (inl refl, (inl refl, (inl refl, (inl refl, (inl refl, (inl refl, (inr refl, (inl refl, (inl refl, (inl refl, (inl refl, (inl refl, (inl refl, (inl refl, (inl refl, (inl refl, (inl refl, (inl refl, (inl refl, (inl refl, (inl refl, tt))))))))))))))))))))))))))))

pub shared : (byte : ℕ) (row : Row) → row_of byte ≡ Some row → (byte == 0x6C) ≡ false → row_for Cmos byte ≡ Some row
unfolding row_for
shared byte row is other = ap (λ o. or_row o (row_of byte)) (absent own_rows byte row own_lack is other) ∙ is

abbrev pub is_indirect : Mode → Bool
is_indirect Indirect = true
is_indirect _ = false

abbrev jumps_alone : Entry → Bool
jumps_alone e = if e.byte == 0x6C then true else if is_indirect e.row.mode then false else true

flipped : (b : Bool) → (if b then false else true) ≡ true → b ≡ false
flipped false h = refl
flipped true h = absurd (false≢true h)

direct_at : (e : Entry) (row : Row) → e.row ≡ row → (e.byte == 0x6C) ≡ false → jumps_alone e ≡ true → is_indirect row.mode ≡ false
direct_at e row same other h = subst (λ (r : Row). is_indirect r.mode ≡ false) same (flipped (is_indirect e.row.mode) (rw other at h))

direct_in : (es : List Entry) (byte : ℕ) (row : Row) → list_all jumps_alone es ≡ true → found byte es ≡ Some row → (byte == 0x6C) ≡ false → is_indirect row.mode ≡ false
direct_in [] byte row all is other = absurd cc
direct_in (e ∷ es) byte row all is other =
    let parts = and_parts (jumps_alone e) (list_all jumps_alone es) all in
    elim (eqb_tells byte e.byte) [
      | inl same ↦ (let here : Some e.row ≡ Some row = rw same.0 at is in let row_is : e.row ≡ row = cc in direct_at e row row_is (sym (ap (λ n. n == 0x6C) same.1) ∙ other) parts.0)
      | inr apart ↦ direct_in es byte row parts.1 (rw apart.0 at is) other
    ]

table_direct : list_all jumps_alone table ≡ true
table_direct = refl

pub direct : (byte : ℕ) (row : Row) → row_of byte ≡ Some row → (byte == 0x6C) ≡ false → is_indirect row.mode ≡ false
unfolding row_of
direct byte row is other = direct_in table byte row table_direct is other
