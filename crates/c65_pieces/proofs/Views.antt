-- What a lexer is seen as, before a call and after it.
use Rattle.std.proofs.Common.{◌≡◌, ℕ, zero, suc, ◌≤◌, List, [], ◌∷◌, ◌++◌, length, length-append, drop, append-nil, refl, sym, ap, ◌∙◌, subst, arith, Bool, true, false, Option}
use Rattle.c65_lex.specs.Cells.{Cell}
use Rattle.c65_pieces.specs.declared.settled.Settled.{Settled}
use Rattle.c65_pieces.specs.declared.text.Pending.TheVariants.{Nothing}
use Rattle.c65_pieces.specs.declared.text.Text.{Text}
use Rattle.c65_pieces.specs.Settled.{as_cells, ahead}
use Rattle.c65_pieces.specs.Scanned.{opening}
use Rattle.c65_pieces.specs.Given.{cells_from, room, IsClosed}
use Rattle.c65_pieces.specs.Pieces.{Pieces, IsOpen, KnowsMore, IsFinished, IsExtended, IsHeld, seen}
use Rattle.c65_pieces.proofs.Held.{cells_length}

ahead_drop : (xs : List Settled) (n : ℕ) → ahead xs n ≡ drop n (as_cells xs)
unfolding ahead
ahead_drop xs zero = refl
ahead_drop [] (suc n) = refl
ahead_drop (x ∷ xs) (suc n) = ahead_drop xs n

ahead_all : (xs : List Settled) → ahead xs 0 ≡ as_cells xs
unfolding ahead
ahead_all xs = refl

drop_before : (n : ℕ) (xs ys : List Cell) → n ≤ length xs → drop n (xs ++ ys) ≡ drop n xs ++ ys
drop_before zero xs ys h = refl
drop_before (suc n) [] ys h = absurd (omega arith)
drop_before (suc n) (x ∷ xs) ys h = drop_before n xs ys (omega arith)

pub knows_more : (old : Pieces) (file : ℕ) (comment : Option ℕ) (text : Text) (at : ℕ) (finished : Bool) (piece : List ℕ) (new : Text) → seen file comment text at finished ≡ old → IsOpen old.edge → IsExtended text at piece new → KnowsMore old piece (seen file comment new 0 finished)
knows_more old file comment text at true piece new e o x = absurd (subst (λ (p : Pieces). IsOpen p.edge) (sym e) o)
knows_more old file comment text at false piece new e o x =
    let P : Pieces → Type 0 = λ p. KnowsMore p piece (seen file comment new 0 false) in
    subst P e (record {
      file_is = refl;
      goes_on = tt;
      same = λ more. ap (λ (cs : List Cell). opening comment ++ cs) (ap (λ (cs : List Cell). cs ++ cells_from new.edge more) (ahead_all new.settled.items) ∙ x.joined more);
    })

closed_room : (new : Text) → (new.edge.column ≡ 0) × (new.edge.pending ≡ Nothing) → room new.edge ≡ 0
closed_room new e = rw (e.0, e.1) refl

pub longer : (old new : Text) → IsClosed old new → length old.settled.items ≤ length new.settled.items
longer old new c =
    let e = ap (λ (cs : List Cell). length cs) c.all in
    omega (arith, e, length-append (as_cells old.settled.items) (cells_from old.edge []), cells_length old.settled.items, cells_length new.settled.items)

pub held_closed : (old new : Text) (at : ℕ) (finished : Bool) → IsHeld old at finished → IsClosed old new → IsHeld new at true
held_closed old new at finished h c =
    let z = closed_room new c.edge_is in
    let l = longer old new c in
    let w = h.sorted.within in
    record {
      sorted = c.sorted;
      place = omega (arith, c.further, h.place);
      spare = omega (arith, c.length_is, c.capacity_is, h.spare);
      bound = omega (arith, c.length_is, h.bound);
      over = λ e. c.ready_is;
    }

pub finishes : (old : Pieces) (file : ℕ) (comment : Option ℕ) (text new : Text) (at : ℕ) (finished : Bool) → seen file comment text at finished ≡ old → finished ≡ false → IsHeld text at finished → IsClosed text new → IsFinished old (seen file comment new at true)
finishes old file comment text new at true e f h c = absurd cc
finishes old file comment text new at false e f h c =
    let P : Pieces → Type 0 = λ p. IsFinished p (seen file comment new at true) in
    let w = h.sorted.within in
    let l : at ≤ length (as_cells text.settled.items) = omega (arith, h.place, cells_length text.settled.items) in
    let d : ahead new.settled.items at ≡ ahead text.settled.items at ++ cells_from text.edge [] =
    ahead_drop new.settled.items at ∙ ap (λ (cs : List Cell). drop at cs) c.all ∙ drop_before at (as_cells text.settled.items) (cells_from text.edge []) l ∙ ap (λ (cs : List Cell). cs ++ cells_from text.edge []) (sym (ahead_drop text.settled.items at)) in
    subst P e (record {
      file_is = refl;
      over = refl;
      same = ap (λ (cs : List Cell). opening comment ++ cs) (append-nil (ahead new.settled.items at) ∙ d);
    })
