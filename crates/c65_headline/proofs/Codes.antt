-- What the codes on the way show.
use Rattle.std.proofs.Common.{◌≡◌, ◌⊎◌, inl, inr, ℕ, suc, ◌+◌, ◌*◌, ◌≤◌, Bool, true, false, List, [], ◌∷◌, map, Option, Some, None, refl, sym, ap, ◌∙◌, subst, arith}
use Rattle.std.specs.Prelude.{is_some, slice_get, IsTrue, nat_le, ◌&&◌, ◌||◌, bytes_eq}
use Rattle.std.proofs.lemmas.Bool.{leb-true, le-leb}
use Rattle.std.proofs.Math.Nat.{mul-le-mul_left}
use Rattle.c65_meaning.specs.Program.{ProgramTy}
use Rattle.c65_meaning.specs.Sites.{jumps}
use Rattle.c65_meaning.specs.Sem.{Outcome, Runs, Ends, HasNone, IsDeep, sem}
use Rattle.c65_code.specs.declared.code.Code.{Code}
use Rattle.c65_code.specs.declared.code.Symbol.{Symbol}
use Rattle.c65_code.specs.declared.code.Datum.{Datum}
use Rattle.c65_code.specs.declared.line.Sym.{Sym}
use Rattle.c65_code.specs.Segments.{Segment}
use Rattle.c65_code.specs.LineState.{Place, State}
use Rattle.c65_code.specs.Placement.{Placement, Setting, IsPlacement, IsFunction, has_segment, has_body, library_of, setting_of}
use Rattle.c65_code.specs.Starts.{IsStart}
use Rattle.c65_code.proofs.FunctionLaws.{has_segment_at, segment_found, either_body, body_of_lines, body_of_library, AreFunctionParts, function_parts, function_from}
use Rattle.c65_code.specs.Comes.{Seen, Shown, Shows, ComesFrom}
use Rattle.c65_code.specs.Follows.{IsBelow, Grows, through}
use Rattle.c65_opt_law_chains.specs.Laws.{IsBeforeEnd, FollowsUntilEndEverywhere}
use Rattle.c65_headline.specs.Lines.{same_end, has_turned, shows, LineAgrees, shows_state, has_almost_turned, shows_before_end, CodeAgrees, StandsFor, StandsForIf}
use Rattle.c65_headline.proofs.Tests.{both, and_true, either, or_left, or_right}
use Rattle.c65_headline.proofs.Ways.{onto, weaken}
use Rattle.c65_headline.proofs.BeforeEnd.{almost_before_end}

-- ---- arrivals

pub more_turned : (places : List Place) (most turns : ℕ) (seen more : Seen) → IsBelow seen more → IsTrue (has_turned places most turns seen) → IsTrue (has_turned places most turns more)
more_turned [] most turns seen more b h = h
more_turned (q ∷ qs) most turns seen more b h = elim (either (nat_le turns (most * seen q.0 q.1)) (has_turned qs most turns seen) h) [
  | inl x ↦ let le : turns ≤ most * seen q.0 q.1 = leb-true turns (most * seen q.0 q.1) x in
      let up : most * seen q.0 q.1 ≤ most * more q.0 q.1 = mul-le-mul_left most (b q.0 q.1) in
      or_left (nat_le turns (most * more q.0 q.1)) (has_turned qs most turns more) (le-leb turns (most * more q.0 q.1) (omega arith))
  | inr x ↦ or_right (nat_le turns (most * more q.0 q.1)) (has_turned qs most turns more) (more_turned qs most turns seen more b x)
]

more_almost_turned : (places : List Place) (most turns : ℕ) (seen more : Seen) → IsBelow seen more → IsTrue (has_almost_turned places most turns seen) → IsTrue (has_almost_turned places most turns more)
more_almost_turned [] most turns seen more b h = h
more_almost_turned (q ∷ qs) most turns seen more b h = elim (either (nat_le turns (most * suc (seen q.0 q.1))) (has_almost_turned qs most turns seen) h) [
  | inl x ↦ let le : turns ≤ most * suc (seen q.0 q.1) = leb-true turns (most * suc (seen q.0 q.1)) x in
      let below : seen q.0 q.1 ≤ more q.0 q.1 = b q.0 q.1 in
      let one : suc (seen q.0 q.1) ≤ suc (more q.0 q.1) = omega arith in
      let up : most * suc (seen q.0 q.1) ≤ most * suc (more q.0 q.1) = mul-le-mul_left most one in
      or_left (nat_le turns (most * suc (more q.0 q.1))) (has_almost_turned qs most turns more) (le-leb turns (most * suc (more q.0 q.1)) (omega arith))
  | inr x ↦ or_right (nat_le turns (most * suc (more q.0 q.1))) (has_almost_turned qs most turns more) (more_almost_turned qs most turns seen more b x)
]

pub shown_before_end_grows : (places : List Place) (most : ℕ) (o : Outcome) → Grows (shows_before_end places most o)
shown_before_end_grows places most (Runs out turns) s seen more b h =
    let p : IsTrue (bytes_eq s.output out) × IsTrue (same_end s.ended None && has_turned places most turns seen) = both (bytes_eq s.output out) (same_end s.ended None && has_turned places most turns seen) h in
    let q : IsTrue (same_end s.ended None) × IsTrue (has_turned places most turns seen) = both (same_end s.ended None) (has_turned places most turns seen) p.1 in
    and_true (bytes_eq s.output out) (same_end s.ended None && has_turned places most turns more) p.0 (and_true (same_end s.ended None) (has_turned places most turns more) q.0 (more_turned places most turns seen more b q.1))
shown_before_end_grows places most (Ends out status turns) s seen more b h =
    let q : IsTrue (same_end s.ended None) × IsTrue (has_almost_turned places most turns seen) = both (same_end s.ended None) (has_almost_turned places most turns seen) h in
    and_true (same_end s.ended None) (has_almost_turned places most turns more) q.0 (more_almost_turned places most turns seen more b q.1)
shown_before_end_grows places most (HasNone why) s seen more b h = h
shown_before_end_grows places most IsDeep s seen more b h = h

running : (e : Option ℕ) → IsTrue (same_end e None) → e ≡ None
running None h = refl
running (Some v) h = cc

pub shown_before_end : (places : List Place) (most : ℕ) (o : Outcome) → IsBeforeEnd (shows_before_end places most o)
shown_before_end places most (Runs out turns) s seen h =
    let p : IsTrue (bytes_eq s.output out) × IsTrue (same_end s.ended None && has_turned places most turns seen) = both (bytes_eq s.output out) (same_end s.ended None && has_turned places most turns seen) h in
    running s.ended ((both (same_end s.ended None) (has_turned places most turns seen) p.1).0)
shown_before_end places most (Ends out status turns) s seen h = running s.ended ((both (same_end s.ended None) (has_almost_turned places most turns seen) h).0)
shown_before_end places most (HasNone why) s seen h = cc
shown_before_end places most IsDeep s seen h = cc

-- the state alone, and the arrivals alone
pub state_shown : (places : List Place) (most : ℕ) (o : Outcome) (s : Shown) (seen : Seen) → IsTrue (shows places most o s seen) → IsTrue (shows_state o s)
state_shown places most (Runs out turns) s seen h =
    let p : IsTrue (bytes_eq s.output out) × IsTrue (same_end s.ended None && has_turned places most turns seen) = both (bytes_eq s.output out) (same_end s.ended None && has_turned places most turns seen) h in
    and_true (bytes_eq s.output out) (same_end s.ended None) p.0 ((both (same_end s.ended None) (has_turned places most turns seen) p.1).0)
state_shown places most (Ends out status turns) s seen h =
    let p : IsTrue (bytes_eq s.output out) × IsTrue (same_end s.ended (Some status) && has_turned places most turns seen) = both (bytes_eq s.output out) (same_end s.ended (Some status) && has_turned places most turns seen) h in
    and_true (bytes_eq s.output out) (same_end s.ended (Some status)) p.0 ((both (same_end s.ended (Some status)) (has_turned places most turns seen) p.1).0)
state_shown places most (HasNone why) s seen h = h
state_shown places most IsDeep s seen h = h

-- ---- from one moment to two

-- what shows the meaning has done so, but for the last arrival, before the end
before_end : (s : Setting) (main : ℕ) (places : List Place) (most : ℕ) (o : Outcome) (w : ℕ) (t : State) → t.ended ≡ None → ComesFrom s main (shows places most o) w t → ComesFrom s main (shows_before_end places most o) w t
before_end s main places most (Runs out turns) w t begun comes = comes
before_end s main places most (Ends out status turns) w t begun comes = almost_before_end s places most out status turns begun comes
before_end s main places most (HasNone why) w t begun comes = onto s (Shows (shows places most (HasNone why))) (Shows (shows_before_end places most (HasNone why))) (λ q u seen h. h) comes
before_end s main places most IsDeep w t begun comes = onto s (Shows (shows places most IsDeep)) (Shows (shows_before_end places most IsDeep)) (λ q u seen h. h) comes

pub two_moments : (p : ProgramTy) (code : Code) (main : ℕ) → LineAgrees p code main → CodeAgrees p code main
two_moments p code main a = record {
  places = a.places;
  more = 0;
  early = λ place args input n t pl b st d. onto (setting_of code place) (Shows (shows a.places (jumps p) (sem p args input n))) (Shows (λ shown seen. shows_state (sem p args input n) shown))
      (λ q u seen h. state_shown a.places (jumps p) (sem p args input n) (record { output = u.output; ended = u.ended }) seen h) (a.by place args input n t pl b st d);
  late = λ place args input n t pl b st d. weaken (setting_of code place) (Shows (shows_before_end a.places (jumps p) (sem p args input n))) (4000 * (n + 1) + 0) (omega arith)
      (before_end (setting_of code place) main a.places (jumps p) (sem p args input n) (4000 * (n + 1)) t st.ended (a.by place args input n t pl b st d));
}

-- ---- through a rewriting

-- a symbol is a function's too where all that has lines keeps some
function_on : (symbols : List Symbol) (datums : List Datum) (f g : List (Sym × Segment)) (a b : Bool) (n : ℕ) → ((m : ℕ) → has_segment g m ≡ true → has_segment f m ≡ true)
    → IsFunction (record { symbols = symbols; functions = g; datums = datums; main_args = b }) n → IsFunction (record { symbols = symbols; functions = f; datums = datums; main_args = a }) n
function_on symbols datums f g a b n kept h = function_from new n parts.known parts.bare (by (either_body old n parts.body))
  where
    old : Code
    old = record { symbols = symbols; functions = g; datums = datums; main_args = b }

    new : Code
    new = record { symbols = symbols; functions = f; datums = datums; main_args = a }

    parts : AreFunctionParts old n
    parts = function_parts old n h

    by : (has_segment g n ≡ true) ⊎ (is_some (library_of (slice_get symbols n)) ≡ true) → has_body new n ≡ true
    by (inl s) = body_of_lines new n (kept n s)
    by (inr l) = body_of_library new n l

pub placement_of : (symbols : List Symbol) (datums : List Datum) (f g : List (Sym × Segment)) (a b : Bool) (place : Placement) → ((m : ℕ) → has_segment g m ≡ true → has_segment f m ≡ true)
    → IsPlacement (record { symbols = symbols; functions = f; datums = datums; main_args = a }) place → IsPlacement (record { symbols = symbols; functions = g; datums = datums; main_args = b }) place
placement_of symbols datums f g a b place kept p = record {
  low = p.low;
  high = p.high;
  apart = p.apart;
  data_in = p.data_in;
  data_of = p.data_of;
  function_low = λ n h. p.function_low n (function_on symbols datums f g a b n kept h);
  function_high = λ n h. p.function_high n (function_on symbols datums f g a b n kept h);
  function_outside = λ n h. p.function_outside n (function_on symbols datums f g a b n kept h);
  function_own = λ n m h k same. p.function_own n m (function_on symbols datums f g a b n kept h) (function_on symbols datums f g a b m kept k) same;
  constant_in = p.constant_in;
  constant_of = p.constant_of;
}

pub start_of : (r s : List Symbol) (datums : List Datum) (f g : List (Sym × Segment)) (a : Bool) (place : Placement) (args : List (List ℕ)) (input : List ℕ) (t : State)
    → IsStart (record { symbols = r; functions = f; datums = datums; main_args = a }) place args input t → IsStart (record { symbols = s; functions = g; datums = datums; main_args = a }) place args input t
start_of r s datums f g a place args input t p = record {
  called = p.called;
  data_placed = p.data_placed;
  zeros_placed = p.zeros_placed;
  pushed = p.pushed;
  frames = p.frames;
  input = p.input;
  output = p.output;
  ended = p.ended;
  bytes = p.bytes;
}

module _ (old new : Code) (o : StandsFor old new) where
  same : new ≡ record { symbols = old.symbols; functions = new.functions; datums = old.datums; main_args = old.main_args }
  same = ap (λ (x : List Symbol). let c : Code = record { symbols = x; functions = new.functions; datums = new.datums; main_args = new.main_args } in c) o.symbols
      ∙ (ap (λ (x : List Datum). let c : Code = record { symbols = old.symbols; functions = new.functions; datums = x; main_args = new.main_args } in c) o.datums
      ∙ ap (λ (x : Bool). let c : Code = record { symbols = old.symbols; functions = new.functions; datums = old.datums; main_args = x } in c) o.main_args)

  kept : (m : ℕ) → has_segment old.functions m ≡ true → has_segment new.functions m ≡ true
  kept m h =
      let g = segment_found old.functions m h in
      let s = o.defined m (record { at = g.0; unit = g.1; there = g.2; is = g.3 }) in
      has_segment_at new.functions s.at s.unit m s.there s.is

  pub placement_before : (place : Placement) → IsPlacement new place → IsPlacement old place
  placement_before place p = placement_of old.symbols old.datums new.functions old.functions old.main_args old.main_args place kept (subst (λ (c : Code). IsPlacement c place) same p)

  pub start_before : (place : Placement) (args : List (List ℕ)) (input : List ℕ) (t : State) → IsStart new place args input t → IsStart old place args input t
  start_before place args input t p = start_of old.symbols old.symbols old.datums new.functions old.functions old.main_args place args input t (subst (λ (c : Code). IsStart c place args input t) same p)

pub onward_by : (ℕ → ℕ → ℕ) → List Place → List Place
onward_by map [] = []
onward_by map (q ∷ qs) = (q.0, map q.0 q.1) ∷ onward_by map qs

pub turned_through : (map : ℕ → ℕ → ℕ) (places : List Place) (most turns : ℕ) (seen : Seen) → has_turned (onward_by map places) most turns seen ≡ has_turned places most turns (through map seen)
unfolding onward_by
turned_through map [] most turns seen = refl
turned_through map (q ∷ qs) most turns seen = ap (λ b. nat_le turns (most * seen q.0 (map q.0 q.1)) || b) (turned_through map qs most turns seen)

almost_turned_through : (map : ℕ → ℕ → ℕ) (places : List Place) (most turns : ℕ) (seen : Seen) → has_almost_turned (onward_by map places) most turns seen ≡ has_almost_turned places most turns (through map seen)
unfolding onward_by
almost_turned_through map [] most turns seen = refl
almost_turned_through map (q ∷ qs) most turns seen = ap (λ b. nat_le turns (most * suc (seen q.0 (map q.0 q.1))) || b) (almost_turned_through map qs most turns seen)

pub shown_through : (map : ℕ → ℕ → ℕ) (places : List Place) (most : ℕ) (o : Outcome) (s : Shown) (seen : Seen) → shows_before_end (onward_by map places) most o s seen ≡ shows_before_end places most o s (through map seen)
shown_through map places most (Runs out turns) s seen = ap (λ b. bytes_eq s.output out && (same_end s.ended None && b)) (turned_through map places most turns seen)
shown_through map places most (Ends out status turns) s seen = ap (λ b. same_end s.ended None && b) (almost_turned_through map places most turns seen)
shown_through map places most (HasNone why) s seen = refl
shown_through map places most IsDeep s seen = refl

pub rewritten : (p : ProgramTy) (old new : Code) (main : ℕ) → StandsFor old new → CodeAgrees p old main → CodeAgrees p new main
rewritten p old new main o a =
    let f : FollowsUntilEndEverywhere old new main = o.follows main in
    record {
      places = onward_by f.map a.places;
      more = a.more + f.more;
      early = λ place args input n t pl b st d.
          let before : IsPlacement old place = placement_before old new o place pl in
          let begun : IsStart old place args input t = start_before old new o place args input t st in
          (f.at place before).by (shows_state (sem p args input n)) (4000 * (n + 1)) t begun.frames begun.pushed (a.early place args input n t before b begun d);
      late = λ place args input n t pl b st d.
          let before : IsPlacement old place = placement_before old new o place pl in
          let begun : IsStart old place args input t = start_before old new o place args input t st in
          weaken (setting_of new place) (Shows (shows_before_end (onward_by f.map a.places) (jumps p) (sem p args input n))) (4000 * (n + 1) + (a.more + f.more)) (omega arith)
          (onto (setting_of new place) (Shows (λ shown seen. shows_before_end a.places (jumps p) (sem p args input n) shown (through f.map seen))) (Shows (shows_before_end (onward_by f.map a.places) (jumps p) (sem p args input n)))
          (λ q u seen h. subst IsTrue (sym (shown_through f.map a.places (jumps p) (sem p args input n) (record { output = u.output; ended = u.ended }) seen)) h)
          ((f.at place before).turns (shows_before_end a.places (jumps p) (sem p args input n)) (shown_before_end_grows a.places (jumps p) (sem p args input n)) (shown_before_end a.places (jumps p) (sem p args input n)) (4000 * (n + 1) + a.more) t begun.frames begun.pushed (a.late place args input n t before b begun d)));
    }

pub rewritten_if : (asked : Bool) (p : ProgramTy) (old new : Code) (main : ℕ) → StandsForIf asked old new → CodeAgrees p old main → CodeAgrees p new main
rewritten_if false p old new main e a = subst (λ (c : Code). CodeAgrees p c main) (sym e) a
rewritten_if true p old new main o a = rewritten p old new main o a
