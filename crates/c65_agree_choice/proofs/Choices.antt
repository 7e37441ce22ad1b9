-- All cases of a switch, one behind another.
use Rattle.std.proofs.Common.{◌≡◌, ℕ, ℤ, suc, ◌+◌, ◌*◌, ◌<◌, Bool, true, false, List, [], ◌∷◌, ◌++◌, Option, Some, None, refl, sym, ◌∙◌, subst, arith, append_assoc}
use Rattle.std.specs.Prelude.{◌&&◌, length, if◌then◌else◌, All}
use Rattle.std.specs.List.{list_all}
use Rattle.std.proofs.lemmas.List.Elements.{All-head, All-tail}
use Rattle.c65_ints.specs.declared.types.IntType.{IntType}
use Rattle.c65_ints.specs.Ranges.{residue, InRange}
use Rattle.c65_mach.specs.declared.rows.Op.TheVariants.{Cpx, Jmp}
use Rattle.c65_mach.specs.State.{Regs}
use Rattle.c65_mach.specs.Step.{compared}
use Rattle.c65_meaning.specs.Integers.{same_number}
use Rattle.c65_meaning.specs.State as meaning
use Rattle.c65_meaning.specs.State.{Scene}
use Rattle.c65_code.specs.declared.line.Line.{Line}
use Rattle.c65_code.specs.declared.routine.Width.{Width}
use Rattle.c65_code.specs.declared.routine.Width.TheVariants.{Ax, Eax}
use Rattle.c65_code.specs.LineState.{State}
use Rattle.c65_code.specs.Placement.{IsPlacement}
use Rattle.c65_code.specs.Moves.{labelled}
use Rattle.c65_code.specs.Numbers.{words_of}
use Rattle.c65_code.specs.Comes.{Seen}
use Rattle.c65_genwide.specs.Wide.{width_of}
use Rattle.c65_genentry.specs.Words.{jump}
use Rattle.c65_genentry.specs.Choice.{bits_of, byte_of, case_code, case_codes, is_byte, byte_tests, byte_choice, choice_code}
use Rattle.c65_genstmt.specs.Jumps.{following}
use Rattle.c65_agree_store.specs.Stands.{Placing, Banks}
use Rattle.c65_agree_state.specs.World.{World, Active, lines_of, place_in, HasAt, IsPlaced, HasCome}
use Rattle.c65_agree_state.specs.Exprs.{Ready}
use Rattle.c65_agree_state.proofs.Nodes.{has_front, has_back}
use Rattle.c65_agree_state.proofs.Followed.{follows_weaken}
use Rattle.c65_agree_between.proofs.Between.{between_is_ready}
use Rattle.c65_agree_stmts.specs.Choices.{case_of, label_or}
use Rattle.c65_agree_choice.specs.Laws.{ChoicesLead}
use Rattle.c65_agree_choice.proofs.Numbers.{same_of_word, other_of_word, own_byte, bytes_are_low}
use Rattle.c65_agree_choice.proofs.Ways.{when_same, when_other, compares, leaves_other, jumps, kept}
use Rattle.c65_agree_choice.proofs.Tests.{Stays, On, Count, SameAs, case_goes, last_goes}

first_is : (y : ℤ) (ys : List ℤ) → list_all is_byte (y ∷ ys) ≡ true → (is_byte y ≡ true) × (list_all is_byte ys ≡ true)
first_is y ys h = go (is_byte y) refl h
  where
    go : (x : Bool) → is_byte y ≡ x → (x && list_all is_byte ys) ≡ true → (is_byte y ≡ true) × (list_all is_byte ys ≡ true)
    go true e k = (e, k)
    go false e k = let no : false ≡ true = k in cc

-- where no case has the number there is none
none_of : (z : ℤ) (zs : List ℤ) (next : ℕ) → list_all is_byte zs ≡ true → ((y : ℤ) → is_byte y ≡ true → same_number z y ≡ false) → case_of z zs next ≡ None
none_of z [] next h other = refl
none_of z (y ∷ ys) next h other = let both = first_is y ys h in rw (other y both.0) (none_of z ys (following next) both.1 other)

module _ (g : World) (a : Active) (needs : ℕ) (c : Scene) (w : Placing) (b : Banks) (t : State) (placed : IsPlacement g.code g.place) (ready : Ready g a 0 needs c w b t) (n : ℕ) (m : meaning.State) where
  abbrev Goes : ℕ → ℕ → Regs → Seen → Type 0
  Goes = On g a needs c w b t placed ready n m

  abbrev Counted : Seen → Type 0
  Counted = Count g a needs c w b t placed ready n m

  module _ (kind : IntType) (width : Width) (wide : width_of kind ≡ width) (z : ℤ) (range : InRange kind z) (other v : ℕ) (labels : IsPlaced (lines_of g a)) where
    abbrev Same : ℤ → Type 0
    Same = SameAs g a needs c w b t placed ready n m width

    -- what follows at the label of the case that is chosen
    abbrev Ends : Option ℕ → Type 0
    Ends o = (r : Regs) (later : Seen) → Stays t r → HasCome g c.turns (place_in g a (labelled (lines_of g a) (label_or other o))) later → Goes v (labelled (lines_of g a) (label_or other o)) r later

    module _ (is : Same z) where
      same_of : (y : ℤ) → InRange kind y → Same y → same_number z y ≡ true
      same_of y s h = same_of_word kind z y range s (subst (λ x. residue (words_of x) z ≡ residue (words_of x) y) (sym wide) (sym is ∙ h))

      other_of : (y : ℤ) → (Same y → ⊥) → same_number z y ≡ false
      other_of y h = other_of_word kind z y (λ e. h (is ∙ subst (λ x. residue (words_of x) z ≡ residue (words_of x) y) wide e))

      -- each case by itself
      cases_go : (zs : List ℤ) (next first p : ℕ) (r : Regs) (seen : Seen) → All (InRange kind) zs → Stays t r → Counted seen
          → HasAt (lines_of g a) p (case_codes width next first zs ++ jump Jmp other ∷ []) → Ends (case_of z zs next) → Goes (14 * length zs + 2 + v) p r seen
      cases_go [] next first p r seen ranges stays counted has ends =
          follows_weaken g n (1 + v) (2 + v) m _ _ seen (omega arith)
          (jumps g a needs c w b t placed ready n m v p other r seen stays.bytes counted has (λ later come. ends r later stays come))
      cases_go (y ∷ ys) next first p r seen ranges stays counted has ends =
          let T : List Line = case_code width y next first in
          let U : List Line = case_codes width (following next) (first + 1) ys in
          let there : HasAt (lines_of g a) p (T ++ (U ++ jump Jmp other ∷ [])) = subst (HasAt (lines_of g a) p) (append_assoc T U (jump Jmp other ∷ [])) has in
          let rest : ℕ = 14 * length ys + 2 + v in
          follows_weaken g n (14 + rest) (14 * length (y ∷ ys) + 2 + v) m _ _ seen (omega arith)
          (case_goes g a needs c w b t placed ready n m width rest p first next y r seen labels stays counted (has_front (lines_of g a) p T (U ++ jump Jmp other ∷ []) there)
          (λ same s later now come. follows_weaken g n v rest m _ _ later (omega arith)
          (subst (λ x. Ends (if x then Some next else case_of z ys (following next))) (same_of y (All-head (InRange kind) y ys ranges) same) ends s later now come))
          (λ differ s later now more. cases_go ys (following next) (first + 1) (p + length T) s later (All-tail (InRange kind) y ys ranges) now more
          (has_back (lines_of g a) p T (U ++ jump Jmp other ∷ []) there)
          (subst (λ x. Ends (if x then Some next else case_of z ys (following next))) (other_of y differ) ends)))

  module _ (kind : IntType) (wide : width_of kind ≡ Ax) (z : ℤ) (range : InRange kind z) (other v : ℕ) (labels : IsPlaced (lines_of g a)) (is : SameAs g a needs c w b t placed ready n m Ax z) where
    abbrev EndsAt : Option ℕ → Type 0
    EndsAt = Ends kind Ax wide z range other v labels

    -- the low bytes alone
    bytes_go : t.regs.x ≡ 0 → (zs : List ℤ) (next p : ℕ) (r : Regs) (seen : Seen) → list_all is_byte zs ≡ true → All (InRange kind) zs → Stays t r → Counted seen
        → HasAt (lines_of g a) p (byte_tests next zs ++ jump Jmp other ∷ []) → EndsAt (case_of z zs next) → Goes (3 * length zs + 1 + v) p r seen
    bytes_go none [] next p r seen bytes ranges stays counted has ends =
        jumps g a needs c w b t placed ready n m v p other r seen stays.bytes counted has (λ later come. ends r later stays come)
    bytes_go none (y ∷ ys) next p r seen bytes ranges stays counted has ends =
        let byte : ℕ = byte_of (bits_of y) 1 in
        let own : byte ≡ residue 65536 y = own_byte y (first_is y ys bytes).0 in
        let low : byte < 256 = omega arith in
        let rest : ℕ = 3 * length ys + 1 + v in
        follows_weaken g n (1 + (2 + rest)) (3 * length (y ∷ ys) + 1 + v) m _ _ seen (omega arith)
        (last_goes g a needs c w b t placed ready n m rest p next byte r seen low stays counted (has.0, (has.1.0, tt))
        (λ same s later now come.
        let e : SameAs g a needs c w b t placed ready n m Ax y = omega (arith, same, own, none) in
        follows_weaken g n v rest m _ _ later (omega arith)
        (subst (λ x. EndsAt (if x then Some next else case_of z ys (following next))) (same_of kind Ax wide z range other v labels is y (All-head (InRange kind) y ys ranges) e) ends s later now come))
        (λ differ s later now more.
        let no : SameAs g a needs c w b t placed ready n m Ax y → ⊥ = λ h. differ (omega (arith, h, own, none)) in
        bytes_go none ys (following next) (suc (suc p)) s later (first_is y ys bytes).1 (All-tail (InRange kind) y ys ranges) now more has.1.1
        (subst (λ x. EndsAt (if x then Some next else case_of z ys (following next))) (other_of kind Ax wide z range other v labels is y no) ends)))

    -- a number of more than a byte has no case
    beyond : (t.regs.x ≡ 0 → ⊥) → (y : ℤ) → is_byte y ≡ true → same_number z y ≡ false
    beyond some y h = other_of kind Ax wide z range other v labels is y (λ e. let low = bytes_are_low y h in some (omega (arith, e, low)))

    byte_goes : (zs : List ℤ) (next p : ℕ) (r : Regs) (seen : Seen) → list_all is_byte zs ≡ true → All (InRange kind) zs → Stays t r → Counted seen
        → HasAt (lines_of g a) p (byte_choice other next zs ++ jump Jmp other ∷ []) → EndsAt (case_of z zs next) → Goes (1 + (2 + (3 * length zs + 1 + v))) p r seen
    byte_goes zs next p r seen bytes ranges stays counted has ends =
        let rest : ℕ = 3 * length zs + 1 + v in
        let s : Regs = compared r.x 0 r in
        compares g a needs c w b t placed ready n m Cpx r.x 0 (2 + rest) p r seen refl refl (omega arith) stays.bytes counted (has.0, tt) (λ later own more.
        let now : Stays t s = record { a = stays.a; x = stays.x; bytes = own } in
        leaves_other g a needs c w b t placed ready n m rest (suc p) other s later own more (has.1.0, tt)
        (λ same last most. bytes_go (sym stays.x ∙ when_same r.x 0 stays.bytes.x (omega arith) same) zs next (suc (suc p)) s last bytes ranges now most has.1.1 ends)
        (λ differ last come. follows_weaken g n v rest m _ _ last (omega arith)
        (subst EndsAt (none_of z zs next bytes (beyond (λ e. when_other r.x 0 stays.bytes.x (omega arith) differ (stays.x ∙ e)))) ends s last now come)))

  -- the lines that choose, of both kinds
  module _ (kind : IntType) (z : ℤ) (range : InRange kind z) (other v : ℕ) (labels : IsPlaced (lines_of g a)) where
    choice_goes : (width : Width) (wide : width_of kind ≡ width) (zs : List ℤ) (next first p : ℕ) (r : Regs) (seen : Seen) → SameAs g a needs c w b t placed ready n m width z → All (InRange kind) zs → Stays t r → Counted seen
        → HasAt (lines_of g a) p (choice_code width other next first zs ++ jump Jmp other ∷ []) → Ends kind width wide z range other v labels (case_of z zs next) → Goes (14 * length zs + 2 + v) p r seen
    choice_goes Eax wide zs next first p r seen is ranges stays counted has ends = cases_go kind Eax wide z range other v labels is zs next first p r seen ranges stays counted has ends
    choice_goes Ax wide [] next first p r seen is ranges stays counted has ends = cases_go kind Ax wide z range other v labels is [] next first p r seen ranges stays counted has ends
    choice_goes Ax wide (y ∷ ys) next first p r seen is ranges stays counted has ends = go (list_all is_byte (y ∷ ys)) refl has
      where
        go : (x : Bool) → list_all is_byte (y ∷ ys) ≡ x → HasAt (lines_of g a) p ((if x then byte_choice other next (y ∷ ys) else case_codes Ax next first (y ∷ ys)) ++ jump Jmp other ∷ []) → Goes (14 * length (y ∷ ys) + 2 + v) p r seen
        go true e there =
            follows_weaken g n (1 + (2 + (3 * length (y ∷ ys) + 1 + v))) (14 * length (y ∷ ys) + 2 + v) m _ _ seen (omega arith)
            (byte_goes kind wide z range other v labels is (y ∷ ys) next p r seen e ranges stays counted there ends)
        go false e there = cases_go kind Ax wide z range other v labels is (y ∷ ys) next first p r seen ranges stays counted there ends

pub choices_lead : ChoicesLead
choices_lead x kind other next first zs h n w p z scope m c q b t seen range has between result turns k =
    let ready = between_is_ready x.world x.active x.needs scope c q b t between in
    choice_goes x.world x.active x.needs c q b t h.placement ready n m kind z range other w h.labels (width_of kind) refl zs next first p t.regs seen result h.ranges (record { a = refl; x = refl; bytes = ready.joins.bytes }) (omega (arith, turns)) has
    (λ r later stays come. k (record t { regs = r }) later (kept x.world x.active x.needs c q b t h.placement ready n m r stays.bytes) come)
