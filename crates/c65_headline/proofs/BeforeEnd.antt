-- A run that has ended with its turns behind it had them, but for one arrival, before the end.
use Rattle.std.proofs.Common.{◌≡◌, inl, inr, ℕ, suc, ◌*◌, ◌≤◌, Bool, true, false, List, [], ◌∷◌, Option, Some, None, refl, sym, ◌∙◌, arith}
use Rattle.std.specs.Prelude.{IsTrue, nat_le, ◌==◌, ◌&&◌, if◌then◌else◌, bytes_eq}
use Rattle.std.proofs.lemmas.Bool.{leb-true, le-leb}
use Rattle.std.proofs.Math.Nat.{mul-le-mul_left}
use Rattle.c65_meaning.specs.Sem.{Ends}
use Rattle.c65_code.specs.LineState.{Place, State}
use Rattle.c65_code.specs.Placement.{Setting}
use Rattle.c65_code.specs.Moves.{Moves}
use Rattle.c65_code.specs.Comes.{Seen, Shows, Comes, here, on, seen_at}
use Rattle.c65_headline.specs.Lines.{same_end, has_turned, shows, has_almost_turned, shows_before_end}
use Rattle.c65_headline.proofs.Tests.{both, and_true, either, or_left, or_right}

-- an arrival adds one at most
one_more : (q : Place) (seen : Seen) (f p : ℕ) → seen_at q seen f p ≤ suc (seen f p)
one_more q seen f p = go ((f == q.0) && (p == q.1))
  where
    go : (b : Bool) → (if b then suc (seen f p) else seen f p) ≤ suc (seen f p)
    go true = omega arith
    go false = omega arith

almost : (r : Place) (places : List Place) (most turns : ℕ) (seen : Seen) → IsTrue (has_turned places most turns (seen_at r seen)) → IsTrue (has_almost_turned places most turns seen)
almost r [] most turns seen h = h
almost r (q ∷ qs) most turns seen h = elim (either (nat_le turns (most * seen_at r seen q.0 q.1)) (has_turned qs most turns (seen_at r seen)) h) [
  | inl x ↦ let le : turns ≤ most * seen_at r seen q.0 q.1 = leb-true turns (most * seen_at r seen q.0 q.1) x in
      let up : most * seen_at r seen q.0 q.1 ≤ most * suc (seen q.0 q.1) = mul-le-mul_left most (one_more r seen q.0 q.1) in
      or_left (nat_le turns (most * suc (seen q.0 q.1))) (has_almost_turned qs most turns seen) (le-leb turns (most * suc (seen q.0 q.1)) (omega arith))
  | inr x ↦ or_right (nat_le turns (most * suc (seen q.0 q.1))) (has_almost_turned qs most turns seen) (almost r qs most turns seen x)
]

still : (e : Option ℕ) → e ≡ None → IsTrue (same_end e None)
still None h = refl
still (Some v) h = cc

not_ended : (e : Option ℕ) (status : ℕ) → e ≡ None → IsTrue (same_end e (Some status)) → ⊥
not_ended None status h ended = cc
not_ended (Some v) status h ended = cc

module _ (s : Setting) (places : List Place) (most : ℕ) (out : List ℕ) (status turns : ℕ) where
  -- the arrivals that have been counted where a run has ended
  counted_at_end : (u : State) (seen : Seen) → IsTrue (shows places most (Ends out status turns) (record { output = u.output; ended = u.ended }) seen) → IsTrue (same_end u.ended (Some status)) × IsTrue (has_turned places most turns seen)
  counted_at_end u seen h = both (same_end u.ended (Some status)) (has_turned places most turns seen) ((both (bytes_eq u.output out) (same_end u.ended (Some status) && has_turned places most turns seen) h).1)

  ended_by : (r : Place) (w : ℕ) (u : State) (v : ℕ) (seen : Seen) → u.ended ≡ Some v → Comes s (Shows (shows places most (Ends out status turns))) w r u (seen_at r seen) → IsTrue (has_almost_turned places most turns seen)
  ended_by r w u v seen ended (here passes calm) = almost r places most turns seen ((counted_at_end u (seen_at r seen) passes).1)
  ended_by r w u v seen ended (on l there steady c weighs le q x moves rest) = absurd (let none : u.ended ≡ None = moves.running in let h : (let a : Option ℕ = Some v in a ≡ None) = sym ended ∙ none in cc)

  pub almost_before_end : {w : ℕ} {p : Place} {t : State} {seen : Seen} → t.ended ≡ None → Comes s (Shows (shows places most (Ends out status turns))) w p t seen → Comes s (Shows (shows_before_end places most (Ends out status turns))) w p t seen
  almost_before_end {t = t} {seen = seen} begun (here passes calm) = absurd (not_ended t.ended status begun ((counted_at_end t seen passes).0))
  almost_before_end {w = w} {p = p} {t = t} {seen = seen} begun (on {v = v} l there steady c weighs le q u moves rest) = go (has_almost_turned places most turns seen) refl (λ r x m h. almost_before_end h (rest r x m))
    where
      go : (b : Bool) → has_almost_turned places most turns seen ≡ b → ((r : Place) (x : State) → Moves s l p t r x → x.ended ≡ None → Comes s (Shows (shows_before_end places most (Ends out status turns))) v r x (seen_at r seen))
          → Comes s (Shows (shows_before_end places most (Ends out status turns))) w p t seen
      go true e again = here (and_true (same_end t.ended None) (has_almost_turned places most turns seen) (still t.ended begun) e) steady.calm
      go false e again = on {v = v} l there steady c weighs le q u moves (λ r x m. by r x (rest r x m) (again r x m) x.ended refl)
        where
          by : (r : Place) (x : State) → Comes s (Shows (shows places most (Ends out status turns))) v r x (seen_at r seen) → (x.ended ≡ None → Comes s (Shows (shows_before_end places most (Ends out status turns))) v r x (seen_at r seen))
              → (o : Option ℕ) → x.ended ≡ o → Comes s (Shows (shows_before_end places most (Ends out status turns))) v r x (seen_at r seen)
          by r x comes again None h = again h
          by r x comes again (Some n) h = absurd (let yes : has_almost_turned places most turns seen ≡ true = ended_by r v x n seen h comes in let no : true ≡ false = sym yes ∙ e in cc)
