-- What the frame, the blocks and the turns of a function give.
use Rattle.std.proofs.Common.{◌≡◌, ℕ, ◌+◌, ◌<◌, Option, List, length, refl, sym, ◌∙◌, ap, subst, arith}
use Rattle.std.specs.Prelude.{Contains}
use Rattle.std.proofs.lemmas.List.Elements.{All-contains}
use Rattle.c65_csem.specs.Trees.{Stmt, FuncTy}
use Rattle.c65_csem.specs.Statements.{labels_of}
use Rattle.c65_csem.specs.Units.{context_of, IsBody, HasBody}
use Rattle.c65_csem_plain.specs.Arms.{arms}
use Rattle.c65_csem_plain.specs.Plain.{IsPlainBody, HasPlainBody, IsPlainFunc}
use Rattle.c65_meaning.specs.After.{is_among}
use Rattle.c65_genframe.specs.Objects.{objects_in, objects_of, locals_of}
use Rattle.c65_genentry.specs.Entry.{entry_code}
use Rattle.c65_genstmt.specs.Jumps.{following}
use Rattle.c65_genstmt.specs.Stmts.{ways}
use Rattle.c65_agree_start.proofs.Given.{all_at}
use Rattle.c65_agree_state.specs.World.{unit_in}
use Rattle.c65_agree_stmts.specs.Calling.{Calling, GotosAreCounted}
use Rattle.c65_agree_stmts.proofs.Blocks.{among_left}
use Rattle.c65_agree_enter.specs.Params.{AreDistinct}
use Rattle.c65_agree_homes.specs.Turns.{first_label, body_turns, CountsTurns}
use Rattle.c65_agree_homes.specs.Frames.{IsCalling}
use Rattle.c65_agree_homes.specs.Laws.{HeadsAreCounted, GotosCountTheirTurns, PartsAreGiven}
use Rattle.c65_agree_homes.proofs.Distinct.{distinct_second}
use Rattle.c65_agree_homes.proofs.Own.{has_body, own_distinct}
use Rattle.c65_agree_homes.proofs.Lying.{local_outside}
use Rattle.c65_agree_homes.proofs.Counted.{loop_counted, goto_counted}
use Rattle.c65_agree_homes.proofs.Rooms.{label_fits}
use Rattle.c65_agree_homes.proofs.Lines.{one_place, body_stands, gotos_count}
use Rattle.c65_agree_homes.proofs.Parts.{Opens, head_counted, last_parts}

module _ (x : Calling) (names : List (List ℕ)) (f : FuncTy) (h : IsCalling x names f) where
  plain_body : IsPlainBody (unit_in x.world) f.params x.body
  plain_body = subst (λ (b : Option Stmt). HasPlainBody (unit_in x.world) f.params b) h.body (all_at (IsPlainFunc names (unit_in x.world)) (unit_in x.world).funcs x.active.func f h.call.plain.funcs h.call.function).body

  typed_body : IsBody (unit_in x.world) f x.body
  typed_body = subst (λ (b : Option Stmt). HasBody (unit_in x.world) f b) h.body (has_body x.world names x.active f h.call x.active.func f h.call.function)

  -- a label of the function has room for one more
  label_room : (l : ℕ) → Contains (labels_of x.body) l → l + 1 < 4294967296
  label_room l k = All-contains (λ n. n + 1 < 4294967296) (labels_of x.body) l plain_body.labels k

  label_small : (l : ℕ) → Contains (labels_of x.body) l → following l ≡ l + 1
  label_small l k = let room = label_room l k in omega (arith, room)

  gotos_counted : CountsTurns x.world → (l : ℕ) → Contains (labels_of x.body) l → GotosAreCounted x (following l)
  gotos_counted c l k p at =
      let small = label_small l k in
      let fits = label_fits x.body l k in
      goto_counted x.world names x.active f h.call c x.body p h.body (gotos_count x.world names x.active f x.body h.call h.body (following l) p (omega (arith, small)) (omega (arith, small, fits)) at)

  all_open : Opens f x.params (objects_in x.body)
  all_open = record {
    own = λ i e. among_left f.params (locals_of f) i (ap (λ (ps : List ℕ). is_among ps i) (sym h.params) ∙ e);
    local = λ i e. ap (λ (is : List ℕ). is_among is i) local ∙ e;
    distinct = subst (λ (is : List ℕ). AreDistinct is) local (distinct_second f.params (locals_of f) (own_distinct x.world names x.active f h.call));
    closed = λ i e. ap (λ (ps : List ℕ). is_among ps i) h.params ∙ local_outside x.world names x.active f h.call i (ap (λ (is : List ℕ). is_among is i) local ∙ e);
  }
    where
      local : locals_of f ≡ objects_in x.body
      local = ap objects_of h.body

pub heads_are_counted : HeadsAreCounted
heads_are_counted x names f label q h c k at =
    head_counted x names f h (one_place x.world names x.active f x.body h.call h.body) (body_turns x.active.frame x.body) (λ p e. loop_counted x.world names x.active f h.call c x.body p h.body e) (gotos_counted x names f h c) q label at k

pub gotos_count_their_turns : GotosCountTheirTurns
gotos_count_their_turns x names f l h c k = gotos_counted x names f h c l k

pub parts_are_given : PartsAreGiven
parts_are_given x names f h c work =
    last_parts x names f h (one_place x.world names x.active f x.body h.call h.body) (body_turns x.active.frame x.body) (λ p e. loop_counted x.world names x.active f h.call c x.body p h.body e) (gotos_counted x names f h c)
    x.body x.params 0 0 (first_label x.body) (length (entry_code x.active.frame)) (ways 0 0 0) (context_of f x.body)
    (record { at = body_stands x.world names x.active f x.body h.call h.body; turns = λ t e. e; opens = all_open x names f h; few = (plain_body x names f h).arms; labels = refl; typed = (typed_body x names f h).typed }) work
