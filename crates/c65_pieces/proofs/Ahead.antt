-- The cells from a place on.
use Rattle.std.proofs.Common.{◌≡◌, ℕ, suc, ◌+◌, ◌<◌, ◌≤◌, List, [], ◌∷◌, length, length-drop, drop, get_or, add-one, refl, ap, arith}
use Rattle.std.proofs.Math.Seq.{drop-cons}
use Rattle.std.proofs.lemmas.List.{drop_all}
use Rattle.c65_pieces.specs.declared.settled.Settled.{Settled}
use Rattle.c65_pieces.specs.Settled.{as_cell, as_cells, ahead}

cells_length : (xs : List Settled) → length (as_cells xs) ≡ length xs
cells_length [] = refl
cells_length (x ∷ xs) = ap suc (cells_length xs)

pub ahead_short : (lines : List Settled) (place : ℕ) → length (ahead lines place) ≤ length lines
unfolding ahead
ahead_short lines place =
    let d : length (drop place lines) ≤ length lines = simp length-drop (omega arith) in
    omega (arith, cells_length (drop place lines))

pub ahead_end : (lines : List Settled) (place : ℕ) → length lines ≤ place → ahead lines place ≡ []
unfolding ahead
ahead_end lines place h = ap as_cells (drop_all place lines h)

pub ahead_step : (lines : List Settled) (place : ℕ) (d : Settled) → place < length lines → ahead lines place ≡ as_cell (get_or lines place d) ∷ ahead lines (place + 1)
unfolding ahead
ahead_step lines place d h = rw add-one (ap as_cells (drop-cons lines place d h))
