-- What a lexer holds: whole lines, and the line behind them.
use Rattle.std.proofs.Common.{◌≡◌, ℕ, zero, suc, ◌+◌, ◌-◌, ◌≤◌, List, [], ◌∷◌, ◌++◌, length, length-drop, take, drop, refl, sym, ap, ◌∙◌, subst, arith, Bool, true, false, ◌⊎◌, inl, inr, Option, Some, None, vec_len, vec_capacity}
use Rattle.c65_lex.specs.Cells.{Cell, bytes}
use Rattle.c65_lex.specs.Next.{is_any_long}
use Rattle.c65_pieces.specs.declared.settled.Settled.{Settled}
use Rattle.c65_pieces.specs.declared.text.Pending.{Pending}
use Rattle.c65_pieces.specs.declared.text.Pending.TheVariants.{Nothing, Return, Backslash, BackslashReturn}
use Rattle.c65_pieces.specs.declared.text.Edge.{Edge}
use Rattle.c65_pieces.specs.declared.text.Text.{Text}
use Rattle.c65_pieces.specs.Settled.{as_cell, as_cells, ahead}
use Rattle.c65_pieces.specs.Scanned.{opening}
use Rattle.c65_pieces.specs.Given.{ends, AreLines, pending_bytes, cells_from, AreSorted, AreAdded}
use Rattle.c65_pieces.specs.Pieces.{IsExtended}
use Rattle.c65_pieces.specs.Lines.{is_sound}
use Rattle.c65_pieces.proofs.Adding.{room_most}
use Rattle.c65_pieces.proofs.Sound.{any_rest}

pub pending_short : (p : Pending) → length (pending_bytes p) ≤ 2
pending_short Nothing = omega arith
pending_short Return = omega arith
pending_short Backslash = omega arith
pending_short BackslashReturn = omega arith

pub cells_length : (xs : List Settled) → length (as_cells xs) ≡ length xs
cells_length [] = refl
cells_length (x ∷ xs) = ap suc (cells_length xs)

lines_behind : (x : Settled) (xs : List Settled) → AreLines (as_cells (x ∷ xs)) → AreLines (as_cells xs)
lines_behind x xs (inl e) = absurd cc
lines_behind x [] (inr h) = inl refl
lines_behind x (y ∷ xs) (inr h) = inr h

pub lines_drop : (n : ℕ) (xs : List Settled) → AreLines (as_cells xs) → AreLines (as_cells (drop n xs))
lines_drop zero xs h = h
lines_drop (suc n) [] h = inl refl
lines_drop (suc n) (x ∷ xs) h = lines_drop n xs (lines_behind x xs h)

-- the part up to the end of the whole lines, and the part behind it
pub parts : (at ready : ℕ) (xs : List Settled) → at ≤ ready → drop at xs ≡ drop at (take ready xs) ++ drop ready xs
parts zero zero xs h = refl
parts zero (suc r) [] h = refl
parts zero (suc r) (x ∷ xs) h = ap (λ (ys : List Settled). x ∷ ys) (parts zero r xs (omega arith))
parts (suc a) zero xs h = absurd (omega arith)
parts (suc a) (suc r) [] h = refl
parts (suc a) (suc r) (x ∷ xs) h = parts a r xs (omega arith)

take_drop : (at ready : ℕ) (xs : List Settled) → at ≤ ready → take (ready - at) (drop at xs) ≡ drop at (take ready xs)
take_drop zero ready xs h = let e : ready - 0 ≡ ready = omega arith in rw e refl
take_drop (suc a) zero xs h = absurd (omega arith)
take_drop (suc a) (suc r) [] h = by (suc r - suc a)
  where
    by : (n : ℕ) → take n (let xs : List Settled = [] in xs) ≡ []
    by zero = refl
    by (suc n) = refl
take_drop (suc a) (suc r) (x ∷ xs) h = let e : suc r - suc a ≡ r - a = omega arith in rw e (take_drop a r xs (omega arith))

drop_rest : (at ready : ℕ) (xs : List Settled) → at ≤ ready → drop (ready - at) (drop at xs) ≡ drop ready xs
drop_rest zero ready xs h = let e : ready - 0 ≡ ready = omega arith in rw e refl
drop_rest (suc a) zero xs h = absurd (omega arith)
drop_rest (suc a) (suc r) [] h = by (suc r - suc a)
  where
    by : (n : ℕ) → drop n (let xs : List Settled = [] in xs) ≡ []
    by zero = refl
    by (suc n) = refl
drop_rest (suc a) (suc r) (x ∷ xs) h = let e : suc r - suc a ≡ r - a = omega arith in rw e (drop_rest a r xs (omega arith))

pub short_drop : (at : ℕ) (xs : List Settled) → is_any_long (as_cells xs) ≡ false → is_any_long (as_cells (drop at xs)) ≡ false
short_drop zero xs h = h
short_drop (suc n) [] h = refl
short_drop (suc n) (x ∷ xs) h = short_drop n xs (any_rest (as_cell x) (as_cells xs) h)

pub sorted_drop : (xs : List Settled) (ready : ℕ) (long : Bool) (k at : ℕ) → at ≤ ready → AreSorted xs ready long k → AreSorted (drop at xs) (ready - at) long k
sorted_drop xs ready long k at h s =
    let d : length (drop at xs) ≡ length xs - at = length-drop at xs in
    let w = s.within in
    record {
      within = omega arith;
      lines = subst (λ (ys : List Settled). AreLines (as_cells ys)) (sym (take_drop at ready xs h)) (lines_drop at (take ready xs) s.lines);
      short = ap (λ (ys : List Settled). is_any_long (as_cells ys)) (take_drop at ready xs h) ∙ short_drop at (take ready xs) s.short;
      held = ap (λ (ys : List Settled). is_sound (as_cells ys)) (drop_rest at ready xs h) ∙ s.held;
      long_is = ap (λ (ys : List Settled). is_any_long (as_cells ys)) (drop_rest at ready xs h) ∙ s.long_is;
      counted = λ l. let c = s.counted l in (c.0, omega (arith, c.1));
    }

-- a piece behind what is left
pub extends : (old base new : Text) (at : ℕ) (piece : List ℕ) → at ≤ old.ready → AreSorted old.settled.items old.ready old.long old.edge.column → base.settled.items ≡ drop at old.settled.items → base.ready ≡ old.ready - at → base.long ≡ old.long → base.edge ≡ old.edge → vec_len base.settled ≡ length (drop at old.settled.items) → (length (drop at old.settled.items) + length piece) + 3 ≤ vec_capacity base.settled → AreAdded base piece new → IsExtended old at piece new
unfolding ahead
extends old base new at piece h s items ready long edge len cap a =
    let p = pending_short old.edge.pending in
    let q = room_most new.edge in
    let l : vec_len new.settled + length (pending_bytes new.edge.pending) ≤ (vec_len base.settled + length (pending_bytes base.edge.pending)) + length piece = a.length_is in
    let m : vec_len new.settled + length (pending_bytes new.edge.pending) ≤ (vec_len base.settled + length (pending_bytes old.edge.pending)) + length piece = rw edge at l in
    let c : length (as_cells (drop at old.settled.items)) ≡ length (drop at old.settled.items) = cells_length (drop at old.settled.items) in
    let d = a.capacity_is in
    record {
      joined = λ more. a.joined more ∙ ap (λ (ys : List Settled). as_cells ys ++ cells_from base.edge (piece ++ more)) items ∙ ap (λ (e : Edge). as_cells (drop at old.settled.items) ++ cells_from e (piece ++ more)) edge;
      sorted = a.sorted (rw (items, ready, long, edge) (sorted_drop old.settled.items old.ready old.long old.edge.column at h s));
      spare = omega arith;
      length_is = omega arith;
    }

-- behind the beginning of a comment lines are lines
pub opened_lines : (comment : Option ℕ) (cs : List Cell) → AreLines cs → ((comment ≡ None) × (cs ≡ [])) ⊎ (ends (bytes (opening comment ++ cs)) ≡ true)
opened_lines None cs (inl e) = inl (refl, e)
opened_lines None cs (inr h) = inr h
opened_lines (Some line) cs (inl e) = inr (rw e refl)
opened_lines (Some line) [] (inr h) = inr refl
opened_lines (Some line) (c ∷ cs) (inr h) = inr h
