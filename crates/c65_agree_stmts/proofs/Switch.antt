-- `switch` (C90 6.6.4.2).
use Rattle.std.proofs.Common.{◌≡◌, ℕ, ℤ, zero, suc, ◌+◌, ◌*◌, ◌<◌, ◌≤◌, inr, List, [], ◌∷◌, ◌++◌, Option, Some, None, Bool, true, false, refl, sym, ap, ◌∙◌, subst, arith, length-append}
use Rattle.std.specs.Prelude.{length, if◌then◌else◌}
use Rattle.c65_ints.specs.declared.types.IntType.{IntType}
use Rattle.c65_ctype.specs.Trees.{Ty, void, int, pointer, array, tag, function, TypesTy}
use Rattle.c65_csem.specs.Trees.{Typed, Stmt, switch, UnitTy}
use Rattle.c65_csem.specs.Places.{is_place, is_tag}
use Rattle.c65_csem.specs.Statements.{cases_of}
use Rattle.c65_csem_need.specs.Needs.{need}
use Rattle.c65_csem_plain.specs.Arms.{arms}
use Rattle.c65_mach.specs.declared.rows.Op.TheVariants.{Jmp}
use Rattle.c65_meaning.specs.Store.{Value, Whole, Null, Place, Opaque, Cells, NoValue, Number}
use Rattle.c65_meaning.specs.Operators.{unusable}
use Rattle.c65_meaning.specs.Shapes.{bare_type, shape_of}
use Rattle.c65_meaning.specs.Items.{Item, Select, EndSwitch, plan, plan_stmt}
use Rattle.c65_meaning.specs.After.{Sought, ToLabel, ToCase, ToDefault, Landing, or_else, after}
use Rattle.c65_meaning.specs.Sites as sites
use Rattle.c65_meaning.specs.State.{Scene, Running}
use Rattle.c65_meaning.specs.Step.{begin_objects, switched, chosen_case}
use Rattle.c65_code.specs.declared.line.Line.{Line}
use Rattle.c65_code.specs.declared.line.Line.TheVariants.{Label}
use Rattle.c65_code.specs.LineState.{Place as Spot, State}
use Rattle.c65_code.specs.Moves.{labelled}
use Rattle.c65_code.specs.Comes.{Seen}
use Rattle.c65_genwide.specs.Wide.{width_of}
use Rattle.c65_genexpr.specs.declared.wanted.Wanted.TheVariants.{Value as WantsValue}
use Rattle.c65_genexpr.specs.Code.{expr_code}
use Rattle.c65_genexpr.specs.Types.{kind_in}
use Rattle.c65_genexpr.specs.Uses.{uses}
use Rattle.c65_genentry.specs.Words.{jump}
use Rattle.c65_genentry.specs.Choice.{choice_code}
use Rattle.c65_genstmt.specs.declared.jumps.Ways.{Ways}
use Rattle.c65_genstmt.specs.Cases.{has_default}
use Rattle.c65_genstmt.specs.Stmts.{ways, default_way}
use Rattle.c65_agree_store.specs.Stands.{Placing, Banks}
use Rattle.c65_agree_state.specs.World.{unit_in, lines_of, place_in, HasAt, IsPlaced, HasTurns, HasCome}
use Rattle.c65_agree_state.specs.Follows.{Follows}
use Rattle.c65_agree_state.specs.Exprs.{Valued, shape_in, MayFit, ResultIs, Does as LinesDo}
use Rattle.c65_agree_between.specs.Stmts.{arms_weight}
use Rattle.c65_agree_state.proofs.Followed.{follows_weaken}
use Rattle.c65_agree_state.proofs.Nodes.{has_front, has_back}
use Rattle.c65_agree_state.proofs.Yields.{value_yields}
use Rattle.c65_agree_lines.specs.Lists.{stmt_code, head_code, head_uses}
use Rattle.c65_agree_stmts.specs.Calling.{Calling, HasValue}
use Rattle.c65_agree_stmts.specs.Objects.{MayAllBegin, HasGround}
use Rattle.c65_agree_stmts.specs.Landings.{label_of, Lands, LandsIn}
use Rattle.c65_agree_stmts.specs.Choices.{case_of, label_or, ChoiceLeads}
use Rattle.c65_agree_stmts.specs.Laws.{SwitchDoes, SwitchLands}
use Rattle.c65_agree_stmts.proofs.Standing.{Stands, stands_behind, ready, earns, come_turns, undefined_follows}
use Rattle.c65_agree_stmts.proofs.Ahead.{onward, passed, behind_label, Goes, goes_of, going_of, Ahead, less, work_does}
use Rattle.c65_agree_stmts.proofs.Blocks.{all_begin, begun_turns}
use Rattle.c65_agree_stmts.proofs.Landings.{ahead_of, is_ahead}
use Rattle.c65_agree_stmts.proofs.Cases.{case_is, other_if, default_is, label_same, cases_counted}

module _ (x : Calling) (scope : List ℕ) (at fresh : ℕ) (w : Ways) (e : Typed) (s : Stmt) (placed : IsPlaced (lines_of x.world x.active)) where
  abbrev pub u : UnitTy
  u = unit_in x.world

  abbrev pub code : List Line
  code = lines_of x.world x.active

  abbrev pub place : ℕ → Spot
  place m = place_in x.world x.active m

  abbrev pub inner : Ways
  inner = ways fresh w.onward (fresh + 1)

  abbrev pub H : List Line
  H = head_code x.active.frame e s fresh

  abbrev pub B : List Line
  B = stmt_code x.active.frame inner (fresh + 1 + 1) s (fresh + head_uses e s)

  abbrev pub last : List Line
  last = Label fresh ∷ []

  module _ (n v p : ℕ) (k : List Item) (le : n ≤ x.most) (more : x.reserve ≤ v) (has : HasAt (lines_of x.world x.active) p (H ++ (B ++ last))) (ahead : Ahead x n v scope k w) (goes : Goes x n v scope k (p + length (H ++ (B ++ last)))) where
    abbrev p1 : ℕ
    p1 = p + length H

    abbrev p2 : ℕ
    p2 = p1 + length B

    h1 : HasAt code p1 (B ++ last)
    h1 = has_back code p H _ has

    h2 : HasAt code p2 last
    h2 = has_back code p1 B last h1

    behind : place (suc p2) ≡ place (p + length (H ++ (B ++ last)))
    behind = ap place (omega (arith, length-append H (B ++ last), length-append B last))

    -- behind the switch
    leaves : (j : ℕ) → j < n → (c : Scene) (q : Placing) (b : Banks) (t : State) (seen : Seen) → Stands x scope c q b t → HasCome x.world c.turns (place (labelled code fresh)) seen → Follows x.world j v (Running k x.values c) (place (labelled code fresh)) t seen
    leaves j lt c q b t seen stands come =
        onward x.world x.active j v c.turns (Running k x.values c) _ _ t seen (behind_label x.world x.active placed p2 fresh h2.0 ∙ behind) (goes j c q b t seen lt stands) (come_turns x.world c.turns _ seen come)

    bottom : Goes x n v scope (EndSwitch ∷ k) p2
    bottom j c q b t seen lt stands turns =
        earns x scope c q b t stands j v EndSwitch k x.values _ seen turns (λ i lt2.
        follows_weaken x.world i v (v + 4000) _ _ t seen (omega arith)
        (onward x.world x.active i v c.turns (Running k x.values c) _ _ t seen (passed x.world x.active p2 fresh h2.0 ∙ behind) (goes i c q b t seen (omega (arith, lt, lt2)) stands) turns))

    inside : Ahead x n v scope (EndSwitch ∷ k) inner
    inside = record {
      call = ahead.call;
      behind = (scope, λ m h. inr h, λ j c q b t seen lt between keeping come. leaves j lt c q b t seen (record { between = between; keeping = keeping }) come);
      onward = ahead.onward;
      labels = ahead.labels;
      returns = ahead.returns;
    }

    -- what is sought in the body, for fewer steps too
    pub sought : (what : Sought) → LandsIn x what scope (suc at) s inner (fresh + 1 + 1) (fresh + head_uses e s) → (j : ℕ) → j ≤ n → Lands x j (v + arms s) scope (after u what (suc at) s (EndSwitch ∷ k)) (label_of what (fresh + 1) (fresh + 1 + 1) s)
    sought what ls j jn =
        ls j v p1 (EndSwitch ∷ k) (omega (arith, jn, le)) more (has_front code p1 B last h1) (is_ahead x j v scope (EndSwitch ∷ k) inner (less x n j v v scope (EndSwitch ∷ k) inner jn (omega arith) inside))
        (going_of x j v scope (EndSwitch ∷ k) p2 (λ i c q b t seen lt stands turns. bottom i c q b t seen (omega (arith, lt, jn)) stands turns))

    module _ (ground : HasGround x) (may : (what : Sought) (k : List Item) (to : Landing) → after u what (suc at) s (EndSwitch ∷ k) ≡ Some to → MayAllBegin x scope to.objects)
        (lcase : (z : ℤ) → LandsIn x (ToCase z) scope (suc at) s inner (fresh + 1 + 1) (fresh + head_uses e s)) (ldefault : LandsIn x ToDefault scope (suc at) s inner (fresh + 1 + 1) (fresh + head_uses e s)) where
      module _ (j : ℕ) (lt : j < n) (c : Scene) (q : Placing) (b : Banks) (t : State) (seen : Seen) (stands : Stands x scope c q b t) where
        -- at the label of a case, with the objects of its blocks
        enters : (what : Sought) (to : Landing) (o : Option Landing) (l : ℕ) → after u what (suc at) s (EndSwitch ∷ k) ≡ o → o ≡ Some to → Lands x j (v + arms s) scope o (Some l) → HasCome x.world c.turns (place (labelled code l)) seen
            → Follows x.world j (v + arms s) (Running to.work x.values (begin_objects u to.objects c)) (place (labelled code l)) t seen
        enters what to None l is e lands come = cc
        enters what to (Some r) l is e lands come =
            let same : r ≡ to = cc in
            let begun = all_begin x ground r.objects scope c q b t (may what k r is) stands in
            subst (λ z. Follows x.world j (v + arms s) (Running z.work x.values (begin_objects u z.objects c)) (place (labelled code l)) t seen) same
            (goes_of x (suc j) (v + arms s) (r.objects ++ scope) r.work (labelled code l) lands j (begin_objects u r.objects c) begun.placing b t seen (omega arith) begun.stands
            (subst (λ m. HasTurns x.world m (place (labelled code l)) seen) (sym (begun_turns u r.objects c)) (come_turns x.world c.turns _ seen come)))

        -- `default`, or behind the switch
        others : (d : Bool) (o : Option Landing) → after u ToDefault (suc at) s (EndSwitch ∷ k) ≡ o → Lands x j (v + arms s) scope o (other_if (fresh + 1) d) → HasCome x.world c.turns (place (labelled code (if d then fresh + 1 else fresh))) seen
            → Follows x.world j (v + arms s) (switched u k x.values c o) (place (labelled code (if d then fresh + 1 else fresh))) t seen
        others true None is lands come = absurd lands
        others true (Some to) is lands come = enters ToDefault to (Some to) (fresh + 1) is refl lands come
        others false None is lands come = follows_weaken x.world j v (v + arms s) _ _ t seen (omega arith) (leaves j lt c q b t seen stands come)
        others false (Some to) is lands come = absurd lands

        chosen : (z : ℤ) (o : Option Landing) (l : Option ℕ) → after u (ToCase z) (suc at) s (EndSwitch ∷ k) ≡ o → Lands x j (v + arms s) scope o l → HasCome x.world c.turns (place (labelled code (label_or (default_way s fresh) l))) seen
            → Follows x.world j (v + arms s) (switched u k x.values c (or_else o (after u ToDefault (suc at) s (EndSwitch ∷ k)))) (place (labelled code (label_or (default_way s fresh) l))) t seen
        chosen z None None is lands come =
            others (has_default s) (after u ToDefault (suc at) s (EndSwitch ∷ k)) refl
            (subst (λ l. Lands x j (v + arms s) scope (after u ToDefault (suc at) s (EndSwitch ∷ k)) l) (default_is (fresh + 1) (fresh + 1 + 1) s) (sought ToDefault ldefault j (omega (arith, lt)))) come
        chosen z None (Some l) is lands come = absurd lands
        chosen z (Some to) None is lands come = absurd lands
        chosen z (Some to) (Some l) is lands come = enters (ToCase z) to (Some to) l is refl lands come

      module _ (kind : IntType) (few : arms s ≤ arms_weight) (pc first : ℕ) (hc : HasAt code pc (choice_code (width_of kind) (default_way s fresh) (fresh + 1 + 1) first (cases_of s) ++ jump Jmp (default_way s fresh) ∷ []))
          (choice : ChoiceLeads x kind (default_way s fresh) (fresh + 1 + 1) first (cases_of s)) where
        -- the steps of its cases, and then the choice
        selects : (left j y : ℕ) → j ≤ n → 14 * length (cases_of s) + 2 + (v + arms s) ≤ y + 4000 * suc left → (value : Value) (c : Scene) (q : Placing) (b : Banks) (t : State) (seen : Seen) → Stands x scope c q b t
            → ResultIs Valued q (width_of kind) value t → MayFit Valued (Number kind) value → HasTurns x.world c.turns (place pc) seen
            → Follows x.world j y (Running (Select left (suc at) s ∷ k) (value ∷ x.values) c) (place pc) t seen
        selects (suc left) j y jn room value c q b t seen stands result fits turns =
            earns x scope c q b t stands j y (Select (suc left) (suc at) s) k (value ∷ x.values) _ seen turns (λ i lt.
            selects left i (y + 4000) (omega (arith, lt, jn)) (omega (arith, room)) value c q b t seen stands result fits turns)
        selects zero j y jn room value c q b t seen stands result fits turns =
            earns x scope c q b t stands j y (Select zero (suc at) s) k (value ∷ x.values) _ seen turns (λ i lt. go i lt value result fits)
          where
            go : (i : ℕ) → i < j → (value : Value) → ResultIs Valued q (width_of kind) value t → MayFit Valued (Number kind) value → Follows x.world i (y + 4000) (chosen_case u (suc at) s k x.values c value) (place pc) t seen
            go i lt (Whole z) result fits =
                follows_weaken x.world i (14 * length (cases_of s) + 2 + (v + arms s)) (y + 4000) _ _ t seen (omega (arith, room))
                (choice i (v + arms s) pc z scope _ c q b t seen fits hc stands.between result turns (λ y2 later kept come.
                let l : label_of (ToCase z) (fresh + 1) (fresh + 1 + 1) s ≡ case_of z (cases_of s) (fresh + 1 + 1) = case_is z (fresh + 1) (fresh + 1 + 1) s in
                chosen i (omega (arith, lt, jn)) c q b y2 later (stands_behind x scope c c q q b b t y2 stands kept) z (after u (ToCase z) (suc at) s (EndSwitch ∷ k)) (case_of z (cases_of s) (fresh + 1 + 1)) refl
                (subst (λ o. Lands x i (v + arms s) scope (after u (ToCase z) (suc at) s (EndSwitch ∷ k)) o) l (sought (ToCase z) (lcase z) i (omega (arith, lt, jn)))) come))
            go i lt Null result fits = undefined_follows x.world i (y + 4000) (unusable Null) (place pc) t seen
            go i lt (Place d o) result fits = undefined_follows x.world i (y + 4000) (unusable (Place d o)) (place pc) t seen
            go i lt Opaque result fits = undefined_follows x.world i (y + 4000) (unusable Opaque) (place pc) t seen
            go i lt (Cells xs) result fits = undefined_follows x.world i (y + 4000) (unusable (Cells xs)) (place pc) t seen
            go i lt NoValue result fits = undefined_follows x.world i (y + 4000) (unusable NoValue) (place pc) t seen

-- ---- the whole

-- a number is no structure or union
no_tag : (types : TypesTy) (t : Ty) (kind : IntType) → shape_of types t ≡ Number kind → is_tag t ≡ false
no_tag types void kind e = refl
no_tag types (int k) kind e = refl
no_tag types (pointer q) kind e = refl
no_tag types (array q n) kind e = refl
no_tag types (function f) kind e = refl
no_tag types (tag n) kind e = absurd (cc)

value_does : (x : Calling) (e : Typed) (kind : IntType) (fresh : ℕ) → HasValue x e → is_place e ≡ false → shape_in x.world x.active e ≡ Number kind
    → LinesDo x.world x.active Valued (Number kind) (plan (unit_in x.world) e) (need e) 0 (expr_code x.active.frame 0 fresh WantsValue e)
value_does x e kind fresh has plain same =
    subst (λ f. LinesDo x.world x.active Valued f (plan (unit_in x.world) e) (need e) 0 (expr_code x.active.frame 0 fresh WantsValue e)) same
    (subst (λ y. LinesDo x.world x.active y (shape_in x.world x.active e) (plan (unit_in x.world) e) (need e) 0 (expr_code x.active.frame 0 fresh WantsValue e)) (value_yields (unit_in x.world) e plain (no_tag (unit_in x.world).types (bare_type e) kind same)) (has.does 0 fresh))

pub switch_does : SwitchDoes
switch_does x scope at next fresh w e s kind placed ground has plain same kinds choice may few lcase ldefault =
    work_does x scope (plan_stmt (unit_in x.world) at (switch e s)) w (stmt_code x.active.frame w next (switch e s) fresh) (λ n v p k c q b t seen le more there stands turns ahead goes.
    let front = has_front (lines_of x.world x.active) p (E ++ C) _ there in
    value_does x e kind first has plain same n v p (Select (sites.cases_of s) (suc at) s ∷ k) x.values c q b t seen (has_front (lines_of x.world x.active) p E C front) (ready x scope c q b t stands (need e) has.need) turns (λ j value c2 q2 b2 y later lt done turns2.
    selects x scope at fresh w e s placed n v p k le more there ahead goes ground may lcase ldefault kind few (p + length E) (first + uses None e) (subst (λ h. HasAt (lines_of x.world x.active) (p + length E) (choice_code (width_of h) (default_way s fresh) (fresh + 1 + 1) (first + uses None e) (cases_of s) ++ jump Jmp (default_way s fresh) ∷ [])) kinds (has_back (lines_of x.world x.active) p E C front)) choice
    (sites.cases_of s) j (v + 2600) (omega (arith, lt)) (omega (arith, cases_counted s, few)) value c2 q2 b2 y later (stands_behind x scope c c2 q q2 b b2 t y stands done.kept) done.result done.fits turns2))
  where
    first : ℕ
    first = fresh + 1 + 1 + length (cases_of s)

    E : List Line
    E = expr_code x.active.frame 0 first WantsValue e

    C : List Line
    C = choice_code (width_of (kind_in e)) (default_way s fresh) (fresh + 1 + 1) (first + uses None e) (cases_of s) ++ jump Jmp (default_way s fresh) ∷ []

pub switch_lands : SwitchLands
switch_lands x (ToLabel l) scope at next fresh w e s placed ls n v p k le more has ahead goes =
    subst (λ o. Lands x n (v + arms s) scope (after (unit_in x.world) (ToLabel l) (suc at) s (EndSwitch ∷ k)) o) (label_same l (fresh + 1) w.other (fresh + 1 + 1) next s)
    (sought x scope at fresh w e s placed n v p k le more has (ahead_of x n v scope k w ahead) (goes_of x n v scope k _ goes) (ToLabel l) ls n (omega arith))
switch_lands x (ToCase z) scope at next fresh w e s placed ls n v p k le more has ahead goes = tt
switch_lands x ToDefault scope at next fresh w e s placed ls n v p k le more has ahead goes = tt
