-- Bytes that are added behind what is pending.
use Rattle.std.proofs.Common.{◌≡◌, ℕ, ◌+◌, ◌≤◌, List, [], ◌∷◌, ◌++◌, length, append-nil, refl, sym, ap, ◌∙◌, arith, Bool, true, false, ◌⊎◌, inl, inr}
use Rattle.std.specs.Prelude.{◌==◌, ◌&&◌, if◌then◌else◌}
use Rattle.std.proofs.lemmas.Bool.Decides.{nat_tests}
use Rattle.c65_lex.specs.Cells.{Cell, cells, joint}
use Rattle.c65_pieces.specs.declared.settled.Settled.{Settled}
use Rattle.c65_pieces.specs.declared.text.Pending.{Pending}
use Rattle.c65_pieces.specs.declared.text.Pending.TheVariants.{Nothing, Return, Backslash, BackslashReturn}
use Rattle.c65_pieces.specs.declared.text.Edge.{Edge}
use Rattle.c65_pieces.specs.declared.text.Text.{Text}
use Rattle.c65_pieces.specs.Settled.{as_cells}
use Rattle.c65_pieces.specs.Given.{pending_bytes, is_nothing, cells_from, room, AreSorted, IsSettled, AreAdded, IsFlushed, IsClosed}
use Rattle.c65_pieces.proofs.Settling.{joint_plain, settle_joined, settle_sorted, settle_further, cells_join}

-- a text with nothing pending
abbrev pub bared : Text → Text
bared t = record { settled = t.settled; ready = t.ready; long = t.long; edge = record { line = t.edge.line; column = t.edge.column; pending = Nothing } }

from_bared : (e : Edge) (more : List ℕ) → e.pending ≡ Nothing → cells_from e more ≡ cells e.line e.column more
from_bared e more h = rw h refl

from_pending : (e : Edge) (bs more : List ℕ) → pending_bytes e.pending ≡ bs → cells_from e more ≡ cells e.line e.column (bs ++ more)
from_pending e bs more h = ap (λ (x : List ℕ). cells e.line e.column (x ++ more)) h

pending_after : (old new : Text) (b : ℕ) → IsSettled old b new → old.edge.pending ≡ Nothing → new.edge.pending ≡ Nothing
pending_after old new b s h = ap (λ (e : Edge). e.pending) s.edge_is ∙ h

none_pending : (p : Pending) → p ≡ Nothing → length (pending_bytes p) ≡ 0
none_pending p h = ap (λ (x : Pending). length (pending_bytes x)) h

-- a byte that does not vanish
pub begun : (old new : Text) (b : ℕ) → old.edge.pending ≡ Nothing → (b == 13) ≡ false → (b == 92) ≡ false → IsSettled old b new → AreAdded old (b ∷ []) new
begun old new b h e f s =
    let p = pending_after old new b s h in
    record {
      joined = λ more. ap (λ (x : List Cell). as_cells new.settled.items ++ x) (from_bared new.edge more p) ∙ settle_joined old new b more s (joint_plain b more e f) ∙ ap (λ (x : List Cell). as_cells old.settled.items ++ x) (sym (from_bared old.edge (b ∷ more) h));
      length_is = omega (arith, s.length_is, none_pending new.edge.pending p, none_pending old.edge.pending h);
      capacity_is = s.capacity_is;
      sorted = settle_sorted old new b s;
    }

-- a byte behind one that does not vanish after all
pub behind_one : (old settled new : Text) (b byte : ℕ) → pending_bytes old.edge.pending ≡ b ∷ [] → IsSettled (bared old) b settled → ((more : List ℕ) → joint (b ∷ byte ∷ more) ≡ 0) → AreAdded settled (byte ∷ []) new → AreAdded old (byte ∷ []) new
behind_one old settled new b byte h s j a =
    let p = pending_after (bared old) settled b s refl in
    record {
      joined = λ more. a.joined more ∙ ap (λ (x : List Cell). as_cells settled.settled.items ++ x) (from_bared settled.edge (byte ∷ more) p) ∙ settle_joined (bared old) settled b (byte ∷ more) s (j more) ∙ ap (λ (x : List Cell). as_cells old.settled.items ++ x) (sym (from_pending old.edge (b ∷ []) (byte ∷ more) h));
      length_is = omega (arith, a.length_is, s.length_is, none_pending settled.edge.pending p, ap (λ (x : List ℕ). length x) h);
      capacity_is = a.capacity_is ∙ s.capacity_is;
      sorted = λ q. a.sorted (settle_sorted (bared old) settled b s q);
    }

pub behind_two : (old first second new : Text) (b c byte : ℕ) → pending_bytes old.edge.pending ≡ b ∷ c ∷ [] → IsSettled (bared old) b first → IsSettled first c second → ((more : List ℕ) → joint (b ∷ c ∷ byte ∷ more) ≡ 0) → ((more : List ℕ) → joint (c ∷ byte ∷ more) ≡ 0) → AreAdded second (byte ∷ []) new → AreAdded old (byte ∷ []) new
behind_two old first second new b c byte h s t i j a =
    let p = pending_after (bared old) first b s refl in
    let q = pending_after first second c t p in
    record {
      joined = λ more. a.joined more ∙ ap (λ (x : List Cell). as_cells second.settled.items ++ x) (from_bared second.edge (byte ∷ more) q) ∙ settle_joined first second c (byte ∷ more) t (j more) ∙ settle_joined (bared old) first b (c ∷ byte ∷ more) s (i more) ∙ ap (λ (x : List Cell). as_cells old.settled.items ++ x) (sym (from_pending old.edge (b ∷ c ∷ []) (byte ∷ more) h));
      length_is = omega (arith, a.length_is, s.length_is, t.length_is, none_pending second.edge.pending q, ap (λ (x : List ℕ). length x) h);
      capacity_is = a.capacity_is ∙ t.capacity_is ∙ s.capacity_is;
      sorted = λ r. a.sorted (settle_sorted first second c t (settle_sorted (bared old) first b s r));
    }

-- what is pending is settled at the end
pub flushed_one : (old new : Text) (b : ℕ) → pending_bytes old.edge.pending ≡ b ∷ [] → is_nothing old.edge.pending ≡ false → IsSettled (bared old) b new → IsFlushed old new
flushed_one old new b h n s =
    let p = pending_after (bared old) new b s refl in
    record {
      none = p;
      joined = ap (λ (x : List Cell). as_cells new.settled.items ++ x) (from_bared new.edge [] p) ∙ settle_joined (bared old) new b [] s refl ∙ ap (λ (x : List Cell). as_cells old.settled.items ++ x) (sym (from_pending old.edge (b ∷ []) [] h));
      length_is = omega (arith, s.length_is, ap (λ (x : List ℕ). length x) h);
      capacity_is = s.capacity_is;
      none_if = λ e. let f : false ≡ true = sym n ∙ e in absurd cc;
      further = settle_further (bared old) new b s;
      sorted = settle_sorted (bared old) new b s;
    }

pub flushed_two : (old first new : Text) (b c : ℕ) → pending_bytes old.edge.pending ≡ b ∷ c ∷ [] → is_nothing old.edge.pending ≡ false → joint (b ∷ c ∷ []) ≡ 0 → IsSettled (bared old) b first → IsSettled first c new → IsFlushed old new
flushed_two old first new b c h n j s t =
    let p = pending_after (bared old) first b s refl in
    let q = pending_after first new c t p in
    record {
      none = q;
      joined = ap (λ (x : List Cell). as_cells new.settled.items ++ x) (from_bared new.edge [] q) ∙ settle_joined first new c [] t refl ∙ settle_joined (bared old) first b (c ∷ []) s j ∙ ap (λ (x : List Cell). as_cells old.settled.items ++ x) (sym (from_pending old.edge (b ∷ c ∷ []) [] h));
      length_is = omega (arith, s.length_is, t.length_is, ap (λ (x : List ℕ). length x) h);
      capacity_is = t.capacity_is ∙ s.capacity_is;
      none_if = λ e. let f : false ≡ true = sym n ∙ e in absurd cc;
      further = λ r. omega (arith, settle_further (bared old) first b s r, settle_further first new c t (settle_sorted (bared old) first b s r));
      sorted = λ r. settle_sorted first new c t (settle_sorted (bared old) first b s r);
    }

-- the last line gets its end
last_end : (e : Edge) → e.pending ≡ Nothing → (e.column == 0) ≡ false → cells_from e [] ≡ record { byte = 10; line = e.line; column = e.column } ∷ []
last_end e h k = rw (h, k) refl

no_last_end : (e : Edge) → e.pending ≡ Nothing → (e.column == 0) ≡ true → cells_from e [] ≡ []
no_last_end e h k = rw (h, k) refl

room_here : (e : Edge) → ((e.column == 0) ≡ false) ⊎ (is_nothing e.pending ≡ false) → room e ≡ length (pending_bytes e.pending) + 1
room_here e (inl h) = rw h refl
room_here e (inr h) = by (e.column == 0)
  where
    by : (t : Bool) → (if t && is_nothing e.pending then 0 else length (pending_bytes e.pending) + 1) ≡ length (pending_bytes e.pending) + 1
    by true = rw h refl
    by false = refl

pub room_some : (old flushed : Text) → IsFlushed old flushed → (flushed.edge.column == 0) ≡ false → room old.edge ≡ length (pending_bytes old.edge.pending) + 1
room_some old flushed f k = by (is_nothing old.edge.pending) refl
  where
    by : (t : Bool) → is_nothing old.edge.pending ≡ t → room old.edge ≡ length (pending_bytes old.edge.pending) + 1
    by true e = room_here old.edge (inl (ap (λ (x : ℕ). x == 0) (sym (f.none_if e)) ∙ k))
    by false e = room_here old.edge (inr e)

pub room_least : (e : Edge) → length (pending_bytes e.pending) ≤ room e
room_least e = by e.pending (e.column == 0)
  where
    by : (p : Pending) (t : Bool) → length (pending_bytes p) ≤ (if t && is_nothing p then 0 else length (pending_bytes p) + 1)
    by Nothing true = omega arith
    by Nothing false = omega arith
    by Return true = omega arith
    by Return false = omega arith
    by Backslash true = omega arith
    by Backslash false = omega arith
    by BackslashReturn true = omega arith
    by BackslashReturn false = omega arith

pub room_most : (e : Edge) → room e ≤ length (pending_bytes e.pending) + 1
room_most e = by ((e.column == 0) && is_nothing e.pending)
  where
    by : (t : Bool) → (if t then 0 else length (pending_bytes e.pending) + 1) ≤ length (pending_bytes e.pending) + 1
    by true = omega arith
    by false = omega arith

-- the end of the last line is the end of whole lines, if none is too long
ready_behind : (old new : Text) → IsSettled old 10 new → new.long ≡ false → new.ready ≡ length new.settled.items
ready_behind old new s h = by old.long refl
  where
    by : (t : Bool) → old.long ≡ t → new.ready ≡ length new.settled.items
    by true e = let k : new.long ≡ true = rw e at s.long_is in let f : true ≡ false = sym k ∙ h in absurd cc
    by false e = rw e at s.ready_is

pub closed_line : (old flushed new : Text) → IsFlushed old flushed → (flushed.edge.column == 0) ≡ false → IsSettled flushed 10 new → AreSorted old.settled.items old.ready old.long old.edge.column → IsClosed old new
closed_line old flushed new f k s r =
    let cell : Settled = record { byte = 10; line = flushed.edge.line; column = flushed.edge.column } in
    record {
      all = ap as_cells s.settled_is ∙ cells_join flushed.settled.items (cell ∷ []) ∙ ap (λ (x : List Cell). as_cells flushed.settled.items ++ x) (sym (last_end flushed.edge f.none k)) ∙ f.joined;
      edge_is = (ap (λ (e : Edge). e.column) s.edge_is, pending_after flushed new 10 s f.none);
      ready_is = ready_behind flushed new s;
      further = omega (arith, f.further r, settle_further flushed new 10 s (f.sorted r));
      length_is = omega (arith, s.length_is, f.length_is, room_some old flushed f k);
      capacity_is = s.capacity_is ∙ f.capacity_is;
      sorted = settle_sorted flushed new 10 s (f.sorted r);
    }

pub closed_here : (old flushed : Text) → IsFlushed old flushed → (flushed.edge.column == 0) ≡ true → AreSorted old.settled.items old.ready old.long old.edge.column → IsClosed old flushed
closed_here old flushed f k r =
    let z : flushed.edge.column ≡ 0 = grind (arith, nat_tests) in
    let q = f.sorted r in
    record {
      all = sym (append-nil (as_cells flushed.settled.items)) ∙ ap (λ (x : List Cell). as_cells flushed.settled.items ++ x) (sym (no_last_end flushed.edge f.none k)) ∙ f.joined;
      edge_is = (z, f.none);
      ready_is = λ l. let c : length flushed.settled.items ≤ flushed.ready + flushed.edge.column = (q.counted l).1 in omega (arith, q.within);
      further = f.further r;
      length_is = omega (arith, f.length_is, room_least old.edge);
      capacity_is = f.capacity_is;
      sorted = q;
    }
