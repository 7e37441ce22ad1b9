-- What a placement says of addresses and of literals.
use Rattle.std.proofs.Common.{◌≡◌, ℕ, zero, suc, ◌+◌, Bool, true, false, if◌then◌else◌, List, [], ◌∷◌, ◌++◌, length, Some, refl, sym, ap, subst, arith}
use Rattle.std.specs.Prelude.{slice_get}
use Rattle.std.proofs.lemmas.Option.{slice_get_within, same_Some}
use Rattle.c65_code.specs.declared.code.Code.{Code}
use Rattle.c65_code.specs.declared.code.DataCell.{DataCell}
use Rattle.c65_code.specs.declared.code.DataCell.TheVariants.{Byte, Address}
use Rattle.c65_code.specs.declared.code.Datum.{Datum}
use Rattle.c65_code.specs.declared.code.Symbol.{Symbol}
use Rattle.c65_code.specs.declared.line.Sym.{Sym}
use Rattle.c65_code.specs.Literals.{bytes_of, is_literal, literals_of}
use Rattle.c65_code.specs.Placement.{Placement, IsPlacement, bytes_of_cells, cells_size, setting_of}
use Rattle.c65_code.specs.Rewriting.{HasLiterals}
use Rattle.c65_opt_law_near.specs.Laws.{IsLow}
use Rattle.c65_opt_law_whole.specs.Laws.{AreByteCells, HasConstantLiterals}
use Rattle.c65_opt_law_whole.proofs.Mixed.{IsOpen}

cells_length : (place : Placement) (cells : List DataCell) → length (bytes_of_cells place cells) ≡ cells_size cells
cells_length place [] = refl
cells_length place (Byte v ∷ cells) = omega (arith, cells_length place cells)
cells_length place (Address sym offset ∷ cells) = omega (arith, cells_length place cells)

pub low_of : (code : Code) (place : Placement) → IsPlacement code place → IsLow place
low_of code place p = record {
  data_below = λ b h. let d = p.data_of b h in let high = p.high d.0 d.1 d.2 in let to = d.3.to in omega (arith, high, to);
  constant_below = λ b v h.
      let c = p.constant_of b v h in
      let high = p.high c.0 c.2 c.3 in
      let less = slice_get_within (bytes_of_cells place c.2.cells) c.1 v c.6 in
      let size = cells_length place c.2.cells in
      let at = c.5 in
      omega (arith, high, less, size, at);
}

pub open_at : (code : Code) (place : Placement) → IsPlacement code place → IsOpen (setting_of code place)
open_at code place p = record { low = low_of code place p; own = λ g h is too same. p.function_own g h is too same }

-- ---- literals

-- a literal is a datum's
record OfDatum (symbols : List Symbol) (datums : List Datum) (literal : Sym × List ℕ) : Type 0 where
  at : ℕ
  datum : Datum
  there : slice_get datums at ≡ Some datum
  marked : is_literal symbols datum.sym ≡ true
  is : (datum.sym, bytes_of datum.cells) ≡ literal

of_datum : (symbols : List Symbol) (datums : List Datum) (i : ℕ) (literal : Sym × List ℕ) → slice_get (literals_of symbols datums) i ≡ Some literal → OfDatum symbols datums literal
of_datum symbols [] i literal e = absurd cc
of_datum symbols (datum ∷ datums) i literal e = pick (is_literal symbols datum.sym) refl (λ k h. of_datum symbols datums k literal h) i e
  where
    later : OfDatum symbols datums literal → OfDatum symbols (datum ∷ datums) literal
    later d = record { at = suc d.at; datum = d.datum; there = d.there; marked = d.marked; is = d.is }

    pick : (b : Bool) → is_literal symbols datum.sym ≡ b → ((k : ℕ) → slice_get (literals_of symbols datums) k ≡ Some literal → OfDatum symbols datums literal) → (k : ℕ) → slice_get ((if b then (datum.sym, bytes_of datum.cells) ∷ [] else []) ++ literals_of symbols datums) k ≡ Some literal → OfDatum symbols (datum ∷ datums) literal
    pick true h rest zero e = record { at = 0; datum = datum; there = refl; marked = h; is = same_Some (datum.sym, bytes_of datum.cells) literal e }
    pick true h rest (suc k) e = later (rest k e)
    pick false h rest k e = later (rest k e)

-- its bytes stand as they are at each placement
placed_bytes : (place : Placement) (cells : List DataCell) → AreByteCells cells → bytes_of_cells place cells ≡ bytes_of cells
placed_bytes place [] h = refl
placed_bytes place (Byte v ∷ cells) h = ap (λ (vs : List ℕ). v ∷ vs) (placed_bytes place cells h)
placed_bytes place (Address sym offset ∷ cells) h = absurd h

pub literals_stand : (code : Code) (place : Placement) → HasConstantLiterals code → IsPlacement code place → HasLiterals (literals_of code.symbols code.datums) place
literals_stand code place constant p i k v literal there byte =
    let d = of_datum code.symbols code.datums i literal there in
    let own = constant d.at d.datum d.there d.marked in
    let at : slice_get (bytes_of d.datum.cells) k ≡ Some v = subst (λ (l : Sym × List ℕ). slice_get l.1 k ≡ Some v) (sym d.is) byte in
    let here : slice_get (bytes_of_cells place d.datum.cells) k ≡ Some v = subst (λ (vs : List ℕ). slice_get vs k ≡ Some v) (sym (placed_bytes place d.datum.cells own.bytes)) at in
    subst (λ (l : Sym × List ℕ). place.constant (place.address l.0.0 + k) ≡ Some v) d.is (p.constant_in d.at k v d.datum d.there own.constant here)
