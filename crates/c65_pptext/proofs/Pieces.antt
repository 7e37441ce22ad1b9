-- What is left of a text stays the same when a piece of its file is given, and when it is finished.
use Rattle.std.proofs.Common.{◌≡◌, ◌∙◌, ◌≤◌, ◌<◌, ◌+◌, ℕ, List, [], ◌++◌, length, take, drop, refl, sym, ap, subst, arith, Bool, true, false, Option, Some, None, append-nil, length-append}
use Rattle.std.specs.Prelude.{unwrap_or, nat_lt, min, if◌then◌else◌, Result, Ok, Err, OnOk, OnErr}
use Rattle.c65_base.specs.declared.refusal.Refusal.{Refusal}
use Rattle.std.proofs.lemmas.List.{take-append-drop, length-take, take-take}
use Rattle.std.proofs.Math.Seq.{take-append_seam}
use Rattle.c65_lex.specs.Cells.{Cell, cells}
use Rattle.c65_lex.specs.Unread.{unread}
use Rattle.c65_pieces.specs.declared.text.Edge.{Edge}
use Rattle.c65_pieces.specs.Scanned.{opening}
use Rattle.c65_pieces.specs.Pieces.{Pieces, KnowsMore, IsFinished, ahead_of, text_from, nothing_given}
use Rattle.c65_ppfile.specs.Finding.{Begins}
use Rattle.c65_pptext.specs.declared.ending.Ending.{Ending}
use Rattle.c65_pptext.specs.declared.ending.Ending.TheVariants.{Whole, Long}
use Rattle.c65_pptext.specs.declared.text.FileText.{FileText}
use Rattle.c65_pptext.specs.Kept.{kept, line_behind, ending_in}
use Rattle.c65_pptext.specs.Reading.{Held, TextLeft, nothing_left, text_of, ending_for, left_of, bytes_of, text_as, IsOnWay, Agrees, IsTold, IsSame, IsReadBehind}
use Rattle.c65_pptext.proofs.Lines.{line_append, take_on, drop_on, take_within, drop_all, take_all, place_of, fits, no_more, all_whole, all_high, not_more, some_more, front_fits, below}

-- the same cells of the same file, with the same end
same_left : (bytes : List ℕ) (a b : FileText) → a.lexer.file ≡ b.lexer.file → ahead_of a.lexer (drop a.at (kept bytes)) ≡ ahead_of b.lexer (drop b.at (kept bytes)) → ending_for bytes a.ending ≡ ending_for bytes b.ending → left_of bytes a ≡ left_of bytes b
same_left bytes a b f c e =
    let left : ℕ → List Cell → Ending → TextLeft = λ n cs x. record { unread = record { file = n; cells = cs }; ending = x } in
    ap (λ (n : ℕ). left n (ahead_of a.lexer (drop a.at (kept bytes))) (ending_for bytes a.ending)) f
    ∙ (ap (λ (cs : List Cell). left b.lexer.file cs (ending_for bytes a.ending)) c
    ∙ ap (λ (x : Ending). left b.lexer.file (ahead_of b.lexer (drop b.at (kept bytes))) x) e)

left_is : (bytes : List ℕ) (t : FileText) (number : ℕ) (text : List ℕ) → t.lexer.file ≡ number → ahead_of t.lexer (drop t.at (kept bytes)) ≡ cells 1 0 text → {ending : Ending} → ending_for bytes t.ending ≡ ending → left_of bytes t ≡ record { unread = unread number text; ending = ending }
left_is bytes t number text f c {ending} e =
    let left : ℕ → List Cell → Ending → TextLeft = λ n cs x. record { unread = record { file = n; cells = cs }; ending = x } in
    ap (λ (n : ℕ). left n (ahead_of t.lexer (drop t.at (kept bytes))) (ending_for bytes t.ending)) f
    ∙ (ap (λ (cs : List Cell). left number cs (ending_for bytes t.ending)) c
    ∙ ap (λ (x : Ending). left number (cells 1 0 text) x) e)

-- where nothing follows
over_ahead : (p : Pieces) (more : List ℕ) → p.edge ≡ None → ahead_of p more ≡ ahead_of p []
over_ahead p more e =
    let from : Option Edge → List ℕ → List Cell = λ x bs. opening p.comment ++ (p.cells ++ text_from x bs) in
    ap (λ (x : Option Edge). from x more) e ∙ sym (ap (λ (x : Option Edge). from x []) e)

finished_ahead : (old new : Pieces) (more : List ℕ) → IsFinished old new → more ≡ [] → (rest : List ℕ) → ahead_of new rest ≡ ahead_of old more
finished_ahead old new more f e rest = over_ahead new rest f.over ∙ (f.same ∙ sym (ap (λ (bs : List ℕ). ahead_of old bs) e))

is_above : (m n : ℕ) → m < n → nat_lt m n ≡ true
is_above m n h = grind (arith, h)

is_within : (m n : ℕ) → n ≤ m → nat_lt m n ≡ false
is_within m n h = grind (arith, h)

pub ending_whole : (bytes : List ℕ) → length bytes ≤ 1048576 → ending_in bytes ≡ Whole
ending_whole bytes h = ap (λ (b : Bool). if b then Long (line_behind 1 (kept bytes)) else Whole) (is_within 1048576 (length bytes) h)

ending_long : (bytes : List ℕ) → 1048576 < length bytes → ending_in bytes ≡ Long (line_behind 1 (kept bytes))
ending_long bytes h = ap (λ (b : Bool). if b then Long (line_behind 1 (kept bytes)) else Whole) (is_above 1048576 (length bytes) h)

module _ (held : Held) (old : FileText) (none : old.ending ≡ None) (f : old.lexer.file ≡ old.number) (o : IsOnWay held old) (piece : List ℕ) (r : IsReadBehind (bytes_of held old) old.at piece) where
  abbrev bytes : List ℕ
  bytes = bytes_of held old

  few : length (kept bytes) ≡ min 1048576 (length bytes)
  few = length-take 1048576 bytes

  place : (old.at ≤ 1048576) × (old.at ≤ length bytes)
  place = place_of old.at (length (kept bytes)) (length bytes) o.within few

  ending_was : ending_for bytes old.ending ≡ ending_in bytes
  ending_was = ap (λ (x : Option Ending). ending_for bytes x) none

  module _ (low : old.at < 1048576) where
    within : old.at + length piece ≤ 1048576
    within = r.within low

    at_is : min (old.at + length piece) 4294967295 ≡ old.at + length piece
    at_is = no_more old.at (length piece) within

    piece_is : piece ≡ take (length piece) (drop old.at (kept bytes))
    piece_is = r.piece_is ∙ sym (take_within old.at (length piece) 1048576 bytes within)

    parts : drop old.at (kept bytes) ≡ piece ++ drop (old.at + length piece) (kept bytes)
    parts = drop_on old.at (length piece) (kept bytes) ∙ ap (λ (xs : List ℕ). xs ++ drop (old.at + length piece) (kept bytes)) (sym piece_is)

    front : take (old.at + length piece) (kept bytes) ≡ take old.at (kept bytes) ++ piece
    front = take_on old.at (length piece) (kept bytes) ∙ ap (λ (xs : List ℕ). take old.at (kept bytes) ++ xs) (sym piece_is)

    longer_so : (lexer : Pieces) → KnowsMore old.lexer piece lexer → IsSame held old (record old { lexer = lexer; at = old.at + length piece; line = line_behind old.line piece })
    longer_so lexer k =
        let new : FileText = record old { lexer = lexer; at = old.at + length piece; line = line_behind old.line piece } in
        let way : IsOnWay held new = record {
          there = o.there;
          within = fits old.at (length (kept bytes)) (length bytes) (length piece) few within r.there place.1;
          line_is = ap (λ (n : ℕ). line_behind n piece) o.line_is ∙ (sym (line_append 1 (take old.at (kept bytes)) piece) ∙ ap (λ (xs : List ℕ). line_behind 1 xs) (sym front));
        } in
        ((k.file_is ∙ f, subst (λ (x : Option Ending). Agrees held new x) (sym none) way), same_left bytes new old k.file_is (k.same (drop (old.at + length piece) (kept bytes)) ∙ ap (λ (xs : List ℕ). ahead_of old.lexer xs) (sym parts)) refl)

    pub longer : (new : FileText) → KnowsMore old.lexer piece new.lexer → new ≡ record old { lexer = new.lexer; at = min (old.at + length piece) 4294967295; line = line_behind old.line piece } → IsSame held old new
    longer new k e =
        subst (λ (t : FileText). IsSame held old t) (sym e) (subst (λ (n : ℕ). IsSame held old (record old { lexer = new.lexer; at = n; line = line_behind old.line piece })) (sym at_is) (longer_so new.lexer k))

    -- it is given, or there is no memory
    pub takes : (new : FileText) (answer : Result (Unit {0}) Refusal) → Agrees held old old.ending → OnOk answer (KnowsMore old.lexer piece new.lexer) → OnOk answer (new ≡ record old { lexer = new.lexer; at = min (old.at + length piece) 4294967295; line = line_behind old.line piece }) → OnErr answer (new ≡ old) → IsSame held old new
    takes new (Ok x) a k same kept' = longer new k same
    takes new (Err e) a k same kept' = subst (λ (t : FileText). IsSame held old t) (sym kept') ((f, a), refl)

  -- the bytes that are kept were given
  module _ (all : length (kept bytes) ≤ old.at) (ending : Ending) (e : ending ≡ ending_in bytes) where
    ended_so : (lexer : Pieces) → IsFinished old.lexer lexer → IsSame held old (record old { lexer = lexer; ending = Some ending })
    ended_so lexer g =
        let new : FileText = record old { lexer = lexer; ending = Some ending } in
        ((g.file_is ∙ f, g.over), same_left bytes new old g.file_is (finished_ahead old.lexer lexer (drop old.at (kept bytes)) g (drop_all old.at (kept bytes) all) (drop old.at (kept bytes))) (e ∙ sym ending_was))

    ended : (new : FileText) → IsFinished old.lexer new.lexer → new ≡ record old { lexer = new.lexer; ending = Some ending } → IsSame held old new
    ended new g same = subst (λ (t : FileText). IsSame held old t) (sym same) (ended_so new.lexer g)

  pub ends_whole : (new : FileText) → length piece ≡ 0 → IsFinished old.lexer new.lexer → new ≡ record old { lexer = new.lexer; ending = Some Whole } → IsSame held old new
  ends_whole new z g same =
      let all : length bytes ≤ old.at = r.none z in
      ended (all_whole old.at (length (kept bytes)) (length bytes) all few) Whole (sym (ending_whole bytes (not_more old.at (length bytes) all place.0))) new g same

  pub ends_long : (new : FileText) → 0 < length piece → 1048576 ≤ old.at → IsFinished old.lexer new.lexer → new ≡ record old { lexer = new.lexer; ending = Some (Long old.line) } → IsSame held old new
  ends_long new some high g same =
      let all : length (kept bytes) ≤ old.at = all_high old.at (length (kept bytes)) (length bytes) high few in
      let line : old.line ≡ line_behind 1 (kept bytes) = o.line_is ∙ ap (λ (xs : List ℕ). line_behind 1 xs) (take_all old.at (kept bytes) all) in
      ended all (Long old.line) (ap (λ (n : ℕ). Long n) line ∙ sym (ending_long bytes (some_more old.at (length bytes) (length piece) some high r.there))) new g same

-- a text begins with its first bytes
module _ (held : Held) (bytes : List ℕ) (t : FileText) (there : held t.path ≡ Some bytes) (none : t.ending ≡ None) (first : List ℕ) (b : Begins (Some bytes) first) (short : length first ≤ 4096) where
  bytes_are : bytes_of held t ≡ bytes
  bytes_are = ap (λ (x : Option (List ℕ)). unwrap_or x []) there

  long : length bytes ≡ length first + length b.0
  long = ap (λ (xs : List ℕ). length xs) b.1 ∙ length-append first b.0

  take_first : take (length first) (kept bytes) ≡ first
  take_first = take-take (length first) 1048576 bytes (below (length first) short) ∙ (ap (λ (xs : List ℕ). take (length first) xs) b.1 ∙ take-append_seam first b.0)

  parts_are : first ++ drop (length first) (kept bytes) ≡ kept bytes
  parts_are = ap (λ (xs : List ℕ). xs ++ drop (length first) (kept bytes)) (sym take_first) ∙ take-append-drop (length first) (kept bytes)

  pub begins : (number : ℕ) → KnowsMore (nothing_given number) first t.lexer → t.number ≡ number → t.at ≡ length first → t.line ≡ line_behind 1 first → IsTold held t × (text_as held t ≡ text_of number bytes)
  begins number k same at line =
      let within : t.at ≤ length (kept bytes) = front_fits t.at (length first) (length b.0) (length bytes) (length (kept bytes)) at long short (length-take 1048576 bytes) in
      let line_is : t.line ≡ line_behind 1 (take t.at (kept bytes)) = line ∙ ap (λ (xs : List ℕ). line_behind 1 xs) (sym (ap (λ (n : ℕ). take n (kept bytes)) at ∙ take_first)) in
      let way : IsOnWay held t = record {
        there = there ∙ ap (λ (bs : List ℕ). Some bs) (sym bytes_are);
        within = subst (λ (bs : List ℕ). t.at ≤ length (kept bs)) (sym bytes_are) within;
        line_is = subst (λ (bs : List ℕ). t.line ≡ line_behind 1 (take t.at (kept bs))) (sym bytes_are) line_is;
      } in
      let cells_are : ahead_of t.lexer (drop t.at (kept bytes)) ≡ cells 1 0 (kept bytes) =
      ap (λ (n : ℕ). ahead_of t.lexer (drop n (kept bytes))) at ∙ (k.same (drop (length first) (kept bytes)) ∙ ap (λ (xs : List ℕ). cells 1 0 xs) parts_are) in (
        (k.file_is ∙ sym same, subst (λ (x : Option Ending). Agrees held t x) (sym none) way),
        ap (λ (bs : List ℕ). left_of bs t) bytes_are ∙ left_is bytes t number (kept bytes) k.file_is cells_are (ap (λ (x : Option Ending). ending_for bytes x) none),
      )

-- a text that is all there
pub is_whole : (held : Held) (t : FileText) (lexer : Pieces) (number : ℕ) (text : List ℕ) → length text ≤ 4096 → t.ending ≡ Some Whole → t.number ≡ number → KnowsMore (nothing_given number) text lexer → IsFinished lexer t.lexer → IsTold held t × (text_as held t ≡ text_of number text)
is_whole held t lexer number text short e same k f =
    let all : kept text ≡ text = take_all 1048576 text (below (length text) short) in
    let more = drop t.at (kept (bytes_of held t)) in
    let cells_are : ahead_of t.lexer more ≡ cells 1 0 (kept text) =
    over_ahead t.lexer more f.over ∙ (f.same ∙ (k.same [] ∙ ap (λ (xs : List ℕ). cells 1 0 xs) (append-nil text ∙ sym all))) in (
      (f.file_is ∙ (k.file_is ∙ sym same), subst (λ (x : Option Ending). Agrees held t x) (sym e) f.over),
      left_is (bytes_of held t) t number (kept text) (f.file_is ∙ k.file_is) cells_are (ap (λ (x : Option Ending). ending_for (bytes_of held t) x) e ∙ sym (ending_whole text (below (length text) short))),
    )

-- a text that is at its end
pub is_over : (held : Held) (old new : FileText) → IsFinished (nothing_given old.number) new.lexer → new ≡ record old { lexer = new.lexer; ending = Some Whole } → IsTold held new × (text_as held new ≡ nothing_left old.number)
is_over held old new f same =
    let at_end : FileText = record old { lexer = new.lexer; ending = Some Whole } in
    let more = drop old.at (kept (bytes_of held old)) in
    let cells_are : ahead_of new.lexer more ≡ cells 1 0 [] = over_ahead new.lexer more f.over ∙ f.same in
    subst (λ (t : FileText). IsTold held t × (text_as held t ≡ nothing_left old.number)) (sym same)
    ((f.file_is, f.over), left_is (bytes_of held old) at_end old.number [] f.file_is cells_are refl)
