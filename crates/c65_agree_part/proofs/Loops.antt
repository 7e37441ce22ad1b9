-- Lines that go through bytes one behind another, by pages of 256 and the rest.
use Rattle.std.proofs.Common.{◌≡◌, ℕ, zero, suc, ◌+◌, ◌*◌, ◌/◌, ◌%◌, ◌-◌, ◌<◌, ◌≤◌, List, [], ◌∷◌, ◌++◌, Some, None, Bool, true, false, refl, sym, ap, ◌∙◌, subst, arith, length-append}
use Rattle.std.specs.Prelude.{length, slice_get, ◌==◌, if◌then◌else◌}
use Rattle.c65_mach.specs.declared.rows.Op.{Op}
use Rattle.c65_mach.specs.declared.rows.Op.TheVariants.{Bne, Cpy, Dex, Iny, Ldx}
use Rattle.c65_mach.specs.declared.rows.Mode.TheVariants.{Implied, Immediate}
use Rattle.c65_mach.specs.State.{Regs}
use Rattle.c65_mach.specs.Step.{apply, is_not, is_taken}
use Rattle.c65_meaning.specs.State as meaning
use Rattle.c65_meaning.specs.Step.{steps}
use Rattle.c65_code.specs.declared.line.Operand.TheVariants.{Nothing, Byte}
use Rattle.c65_code.specs.declared.line.Line.{Line}
use Rattle.c65_code.specs.declared.line.Line.TheVariants.{Label}
use Rattle.c65_code.specs.LineState.{Bytes, State}
use Rattle.c65_code.specs.Forms.{Branch}
use Rattle.c65_code.specs.Moves.{labelled}
use Rattle.c65_code.specs.Steady.{IsCalm}
use Rattle.c65_code.specs.Comes.{Seen, seen_at}
use Rattle.c65_genwide.specs.Lines.{value}
use Rattle.c65_genentry.specs.Words.{implied, branch}
use Rattle.c65_genentry.specs.Bytes.{pages_code, rest_code, loop_labels, block_code}
use Rattle.c65_agree_step.specs.Ways.{place_at, IsAtLine}
use Rattle.c65_agree_step.proofs.Ways.{weaken, labels_are_passed, branches_go}
use Rattle.c65_agree_state.specs.World.{World, program_in, setting_in, Active, lines_of, place_in, HasAt, IsPlaced, HasTurns}
use Rattle.c65_agree_state.specs.Follows.{Agrees, Follows}
use Rattle.c65_agree_state.proofs.Followed.{follows_weaken, arrivals_count}
use Rattle.c65_agree_state.proofs.Nodes.{has_front, has_back}
use Rattle.c65_agree_numbers.proofs.Tests.{unequal}
use Rattle.c65_agree_part.proofs.Lines.{IsLike, like_registers, HasConstants, calm_like, line_goes}

-- So many bytes are done, pages of 256 among them, by Y within a page; and the pointers are where they are to be behind so many pages.
pub record IsAmid (t : State) (stored : ℕ → Bytes) (Pointed : ℕ → State → Type 0) (done pages next : ℕ) (u : State) : Type 0 where
  pub like : IsLike t (stored done) u
  pub y : u.regs.y ≡ next
  pub at : Pointed pages u

-- a branch under what is followed
branch_goes : (g : World) (n v : ℕ) (m : meaning.State) (f p l : ℕ) (t : State) (seen : Seen) (op : Op) (taken : Bool) → IsAtLine (setting_in g) f p t (Branch op l) → is_taken op t.regs ≡ taken
    → Follows g n v m (place_at (setting_in g) f (if taken then labelled ((setting_in g).lines f) l else suc p)) t (seen_at (place_at (setting_in g) f (if taken then labelled ((setting_in g).lines f) l else suc p)) seen)
    → Follows g n (2 + v) m (place_at (setting_in g) f p) t seen
branch_goes g n v m f p l t seen op taken at by k d =
    let q = Agrees g (steps (program_in g) n m) in
    weaken (setting_in g) q (4000 * n + (2 + v)) (omega arith) (branches_go q (setting_in g) (4000 * n + v) f p l t seen op taken at by (k d))

module _ (g : World) (a : Active) (n turns : ℕ) (m : meaning.State) (t : State) (stored : ℕ → Bytes) (Pointed : ℕ → State → Type 0) (size : ℕ) where
  abbrev Amid : ℕ → ℕ → ℕ → State → Type 0
  Amid done pages y u = IsAmid t stored Pointed done pages y u

  abbrev At : ℕ → Seen → Type 0
  At p seen = HasTurns g turns (place_in g a p) seen

  abbrev Goes : ℕ → ℕ → State → Seen → Type 0
  Goes v p u seen = Follows g n v m (place_in g a p) u seen

  -- the lines of each byte do one more
  abbrev pub EachGoes : List Line → Type 0
  EachGoes each = (v p pages y : ℕ) (u : State) (seen : Seen) → y < 256 → 256 * pages + y < size → HasAt (lines_of g a) p each → Amid (256 * pages + y) pages y u → At p seen
      → ((u2 : State) (later : Seen) → Amid (suc (256 * pages + y)) pages y u2 → u2.regs.x ≡ u.regs.x → At (p + length each) later → Goes v (p + length each) u2 later) → Goes (2 + v) p u seen

  -- those behind a page move the pointers
  abbrev pub AfterGoes : List Line → Type 0
  AfterGoes after = (v p pages : ℕ) (u : State) (seen : Seen) → 256 * suc pages ≤ size → HasAt (lines_of g a) p after → Amid (256 * suc pages) pages 0 u → At p seen
      → ((u2 : State) (later : Seen) → Amid (256 * suc pages) (suc pages) 0 u2 → u2.regs.x ≡ u.regs.x → At (p + length after) later → Goes v (p + length after) u2 later) → Goes (2 + v) p u seen

  -- registers other than A leave the pointers
  abbrev pub Stays : Type 0
  Stays = (pages : ℕ) (u : State) (regs : Regs) → regs.a ≡ u.regs.a → Pointed pages u → Pointed pages (record u { regs = regs })

  module _ (calm : IsCalm (setting_in g) t) (running : t.ended ≡ None) (constants : (i : ℕ) → i ≤ size → HasConstants g (stored i)) (stays : Stays) where
    -- ---- lines of a loop

    iny_goes : (v p done pages y : ℕ) (u : State) (seen : Seen) → done ≤ size → Amid done pages y u → slice_get (lines_of g a) p ≡ Some (implied Iny) → At p seen
        → ((u2 : State) (later : Seen) → Amid done pages ((y + 1) % 256) u2 → u2.regs.x ≡ u.regs.x → u2.regs.z ≡ ((y + 1) % 256 == 0) → At (suc p) later → Goes v (suc p) u2 later) → Goes (1 + v) p u seen
    iny_goes v p done pages y u seen le h there turned goes =
        line_goes g a n turns m t calm running v p Iny Implied Nothing (stored done) u seen (constants done le) h.like there refl tt (omega arith) turned (λ b1 s1 h1.
        let regs = apply false Iny 0 u.regs in
        let now = h.y in
        goes (record u { regs = regs }) s1 (record { like = like_registers t (stored done) u h.like regs b1; y = ap (λ k. (k + 1) % 256) now; at = stays pages u regs refl h.at }) refl (ap (λ k. (k + 1) % 256 == 0) now) h1)

    dex_goes : (v p done pages y left : ℕ) (u : State) (seen : Seen) → done ≤ size → suc left < 256 → u.regs.x ≡ suc left → Amid done pages y u → slice_get (lines_of g a) p ≡ Some (implied Dex) → At p seen
        → ((u2 : State) (later : Seen) → Amid done pages y u2 → u2.regs.x ≡ left → u2.regs.z ≡ (left == 0) → At (suc p) later → Goes v (suc p) u2 later) → Goes (1 + v) p u seen
    dex_goes v p done pages y left u seen le small x h there turned goes =
        line_goes g a n turns m t calm running v p Dex Implied Nothing (stored done) u seen (constants done le) h.like there refl tt (omega arith) turned (λ b1 s1 h1.
        let regs = apply false Dex 0 u.regs in
        let count : (u.regs.x + 255) % 256 ≡ left = omega (arith, x, small) in
        goes (record u { regs = regs }) s1 (record { like = like_registers t (stored done) u h.like regs b1; y = h.y; at = stays pages u regs refl h.at }) count (ap (λ k. k == 0) count) h1)

    ldx_goes : (v p done pages y count : ℕ) (u : State) (seen : Seen) → done ≤ size → count < 256 → Amid done pages y u → slice_get (lines_of g a) p ≡ Some (value Ldx count) → At p seen
        → ((u2 : State) (later : Seen) → Amid done pages y u2 → u2.regs.x ≡ count → At (suc p) later → Goes v (suc p) u2 later) → Goes (1 + v) p u seen
    ldx_goes v p done pages y count u seen le small h there turned goes =
        line_goes g a n turns m t calm running v p Ldx Immediate (Byte count) (stored done) u seen (constants done le) h.like there refl tt small turned (λ b1 s1 h1.
        let regs = apply false Ldx count u.regs in
        goes (record u { regs = regs }) s1 (record { like = like_registers t (stored done) u h.like regs b1; y = h.y; at = stays pages u regs refl h.at }) refl h1)

    cpy_goes : (v p done pages y bytes : ℕ) (u : State) (seen : Seen) → done ≤ size → bytes < 256 → Amid done pages y u → slice_get (lines_of g a) p ≡ Some (value Cpy bytes) → At p seen
        → ((u2 : State) (later : Seen) → Amid done pages y u2 → u2.regs.z ≡ ((y + 256 - bytes) % 256 == 0) → At (suc p) later → Goes v (suc p) u2 later) → Goes (1 + v) p u seen
    cpy_goes v p done pages y bytes u seen le small h there turned goes =
        line_goes g a n turns m t calm running v p Cpy Immediate (Byte bytes) (stored done) u seen (constants done le) h.like there refl tt small turned (λ b1 s1 h1.
        let regs = apply false Cpy bytes u.regs in
        goes (record u { regs = regs }) s1 (record { like = like_registers t (stored done) u h.like regs b1; y = h.y; at = stays pages u regs refl h.at }) (ap (λ k. (k + 256 - bytes) % 256 == 0) h.y) h1)

    bne_goes : (v p l done : ℕ) (u : State) (seen : Seen) → done ≤ size → IsLike t (stored done) u → slice_get (lines_of g a) p ≡ Some (branch Bne l) → At p seen
        → (u.regs.z ≡ true → (later : Seen) → At (suc p) later → Goes v (suc p) u later)
        → (u.regs.z ≡ false → (later : Seen) → At (labelled (lines_of g a) l) later → Goes v (labelled (lines_of g a) l) u later) → Goes (2 + v) p u seen
    bne_goes v p l done u seen le like there turned on back = go u.regs.z refl
      where
        at : IsAtLine (setting_in g) a.symbol p u (Branch Bne l)
        at = record { line = branch Bne l; there = there; formed = refl; calm = calm_like g t (stored done) u calm (constants done le) like; within = tt; running = like.ended ∙ running }

        come : (q : ℕ) → At q (seen_at (place_in g a q) seen)
        come q = let h : HasTurns g turns (place_in g a p) seen = turned in arrivals_count g turns (place_in g a q) seen (omega (arith, h))

        go : (z : Bool) → u.regs.z ≡ z → Goes (2 + v) p u seen
        go true e = branch_goes g n v m a.symbol p l u seen Bne false at (ap is_not e) (on e (seen_at (place_in g a (suc p)) seen) (come (suc p)))
        go false e = branch_goes g n v m a.symbol p l u seen Bne true at (ap is_not e) (back e (seen_at (place_in g a (labelled (lines_of g a) l)) seen) (come (labelled (lines_of g a) l)))

    -- where a label stands
    back_at : (l head : ℕ) → IsPlaced (lines_of g a) → slice_get (lines_of g a) head ≡ Some (Label l) → place_in g a (labelled (lines_of g a) l) ≡ place_in g a (suc head)
    back_at l head once there = ap (place_in g a) (once head l there) ∙ labels_are_passed (setting_in g) a.symbol head l there

    module _ (each : List Line) (each_goes : EachGoes each) where
      -- ---- a page

      abbrev Page : ℕ → List Line → List Line
      Page l tail = each ++ (implied Iny ∷ branch Bne l ∷ tail)

      page_goes : (left v p pages y l : ℕ) (tail : List Line) (u : State) (seen : Seen) → left + y ≡ 255 → 256 * suc pages ≤ size → HasAt (lines_of g a) p (Page l tail) → place_in g a (labelled (lines_of g a) l) ≡ place_in g a p
          → Amid (256 * pages + y) pages y u → At p seen
          → ((u2 : State) (later : Seen) → Amid (256 * suc pages) pages 0 u2 → u2.regs.x ≡ u.regs.x → At (suc (suc (p + length each))) later → Goes v (suc (suc (p + length each))) u2 later) → Goes (5 * suc left + v) p u seen
      page_goes zero v p pages y l tail u seen e le has back h turned goes =
          let rest = has_back (lines_of g a) p each (implied Iny ∷ branch Bne l ∷ tail) has in
          follows_weaken g n (2 + (1 + (2 + v))) (5 * 1 + v) m (place_in g a p) u seen (omega arith)
          (each_goes (1 + (2 + v)) p pages y u seen (omega (arith, e)) (omega (arith, e, le)) (has_front (lines_of g a) p each (implied Iny ∷ branch Bne l ∷ tail) has) h turned (λ u1 s1 h1 x1 t1.
          iny_goes (2 + v) (p + length each) (suc (256 * pages + y)) pages y u1 s1 (omega (arith, e, le)) h1 rest.0 t1 (λ u2 s2 h2 x2 z2 t2.
          let all : suc (256 * pages + y) ≡ 256 * suc pages = omega (arith, e) in
          let wraps : (y + 1) % 256 ≡ 0 = omega (arith, e) in
          let last : Amid (256 * suc pages) pages 0 u2 = subst (λ k. Amid (256 * suc pages) pages k u2) wraps (subst (λ k. Amid k pages ((y + 1) % 256) u2) all h2) in
          let ends : u2.regs.z ≡ true = z2 ∙ ap (λ k. k == 0) wraps in
          bne_goes v (suc (p + length each)) l (suc (256 * pages + y)) u2 s2 (omega (arith, e, le)) h2.like rest.1.0 t2 (λ z s3 t3. goes u2 s3 last (x2 ∙ x1) t3) (λ z s3 t3. let clash : true ≡ false = sym ends ∙ z in cc))))
      page_goes (suc left) v p pages y l tail u seen e le has back h turned goes =
          let rest = has_back (lines_of g a) p each (implied Iny ∷ branch Bne l ∷ tail) has in
          let deep = page_goes left v p pages (suc y) l tail in
          follows_weaken g n (2 + (1 + (2 + (5 * suc left + v)))) (5 * suc (suc left) + v) m (place_in g a p) u seen (omega arith)
          (each_goes (1 + (2 + (5 * suc left + v))) p pages y u seen (omega (arith, e)) (omega (arith, e, le)) (has_front (lines_of g a) p each (implied Iny ∷ branch Bne l ∷ tail) has) h turned (λ u1 s1 h1 x1 t1.
          iny_goes (2 + (5 * suc left + v)) (p + length each) (suc (256 * pages + y)) pages y u1 s1 (omega (arith, e, le)) h1 rest.0 t1 (λ u2 s2 h2 x2 z2 t2.
          let all : suc (256 * pages + y) ≡ 256 * pages + suc y = omega arith in
          let counts : (y + 1) % 256 ≡ suc y = omega (arith, e) in
          let next : Amid (256 * pages + suc y) pages (suc y) u2 = subst (λ k. Amid (256 * pages + suc y) pages k u2) counts (subst (λ k. Amid k pages ((y + 1) % 256) u2) all h2) in
          let more : u2.regs.z ≡ false = z2 ∙ unequal ((y + 1) % 256) 0 (λ f. omega (arith, counts, f)) in
          bne_goes (5 * suc left + v) (suc (p + length each)) l (suc (256 * pages + y)) u2 s2 (omega (arith, e, le)) h2.like rest.1.0 t2 (λ z s3 t3. let clash : true ≡ false = sym z ∙ more in cc) (λ z s3 t3.
          subst (λ q. Follows g n (5 * suc left + v) m q u2 s3) (sym back) (deep u2 s3 (omega (arith, e)) le has back next (subst (λ q. HasTurns g turns q s3) back t3) (λ u4 s4 h4 x4 t4. goes u4 s4 h4 (x4 ∙ x2 ∙ x1) t4))))))

      -- ---- all pages

      module _ (after : List Line) (after_goes : AfterGoes after) where
        abbrev Ending : ℕ → List Line
        Ending l = after ++ (implied Dex ∷ branch Bne l ∷ [])

        -- a page up to the branch behind it
        round_goes : (v p pages left l : ℕ) (u : State) (seen : Seen) → suc left < 256 → 256 * suc pages ≤ size → HasAt (lines_of g a) p (Page l (Ending l)) → place_in g a (labelled (lines_of g a) l) ≡ place_in g a p
            → Amid (256 * pages) pages 0 u → u.regs.x ≡ suc left → At p seen
            → ((u2 : State) (later : Seen) → Amid (256 * suc pages) (suc pages) 0 u2 → u2.regs.x ≡ left → u2.regs.z ≡ (left == 0) → slice_get (lines_of g a) (suc (suc (suc (p + length each)) + length after)) ≡ Some (branch Bne l) → At (suc (suc (suc (p + length each)) + length after)) later
            → Goes v (suc (suc (suc (p + length each)) + length after)) u2 later) → Goes (1283 + v) p u seen
        round_goes v p pages left l u seen small fits has back h x turned goes =
            let rest = has_back (lines_of g a) p each (implied Iny ∷ branch Bne l ∷ Ending l) has in
            let q = suc (suc (p + length each)) in
            let tail = has_back (lines_of g a) q after (implied Dex ∷ branch Bne l ∷ []) rest.1.1 in
            let none : 256 * pages ≡ 256 * pages + 0 = omega arith in
            follows_weaken g n (5 * 256 + (2 + (1 + v))) (1283 + v) m (place_in g a p) u seen (omega arith)
            (page_goes 255 (2 + (1 + v)) p pages 0 l (Ending l) u seen refl fits has back (subst (λ k. Amid k pages 0 u) none h) turned (λ u1 s1 h1 x1 t1.
            after_goes (1 + v) q pages u1 s1 fits (has_front (lines_of g a) q after (implied Dex ∷ branch Bne l ∷ []) rest.1.1) h1 t1 (λ u2 s2 h2 x2 t2.
            dex_goes v (q + length after) (256 * suc pages) (suc pages) 0 left u2 s2 fits small (x2 ∙ x1 ∙ x) h2 tail.0 t2 (λ u3 s3 h3 x3 z3 t3.
            goes u3 s3 h3 x3 z3 tail.1.0 t3))))

        pages_go : (left v p pages count l : ℕ) (u : State) (seen : Seen) → suc left + pages ≡ count → count < 256 → 256 * count ≤ size → HasAt (lines_of g a) p (Page l (Ending l)) → place_in g a (labelled (lines_of g a) l) ≡ place_in g a p
            → Amid (256 * pages) pages 0 u → u.regs.x ≡ suc left → At p seen
            → ((u2 : State) (later : Seen) → Amid (256 * count) count 0 u2 → At (p + length (Page l (Ending l))) later → Goes v (p + length (Page l (Ending l))) u2 later) → Goes (1300 * suc left + v) p u seen
        pages_go zero v p pages count l u seen e small le has back h x turned goes =
            let ends : suc (suc (suc (suc (p + length each)) + length after)) ≡ p + length (Page l (Ending l)) = let one = length-append each (implied Iny ∷ branch Bne l ∷ Ending l) in let two = length-append after (implied Dex ∷ branch Bne l ∷ []) in omega (arith, one, two) in
            follows_weaken g n (1283 + (2 + v)) (1300 * 1 + v) m (place_in g a p) u seen (omega arith)
            (round_goes (2 + v) p pages 0 l u seen (omega arith) (omega (arith, e, le)) has back h x turned (λ u1 s1 h1 x1 z1 there t1.
            bne_goes v (suc (suc (suc (p + length each)) + length after)) l (256 * suc pages) u1 s1 (omega (arith, e, le)) h1.like there t1
            (λ z s2 t2.
            let all : suc pages ≡ count = omega (arith, e) in
            let last : Amid (256 * count) count 0 u1 = subst (λ k. Amid (256 * k) k 0 u1) all h1 in
            subst (λ y. Follows g n v m (place_in g a y) u1 s2) (sym ends) (goes u1 s2 last (subst (λ y. HasTurns g turns (place_in g a y) s2) ends t2)))
            (λ z s2 t2. let clash : true ≡ false = sym z1 ∙ z in cc)))
        pages_go (suc left) v p pages count l u seen e small le has back h x turned goes =
            let deep = pages_go left v p (suc pages) count l in
            follows_weaken g n (1283 + (2 + (1300 * suc left + v))) (1300 * suc (suc left) + v) m (place_in g a p) u seen (omega arith)
            (round_goes (2 + (1300 * suc left + v)) p pages (suc left) l u seen (omega (arith, e, small)) (omega (arith, e, le)) has back h x turned (λ u1 s1 h1 x1 z1 there t1.
            bne_goes (1300 * suc left + v) (suc (suc (suc (p + length each)) + length after)) l (256 * suc pages) u1 s1 (omega (arith, e, le)) h1.like there t1
            (λ z s2 t2. let clash : true ≡ false = sym z ∙ (z1 ∙ unequal (suc left) 0 (λ f. omega (arith, f))) in cc)
            (λ z s2 t2. subst (λ q. Follows g n (1300 * suc left + v) m q u1 s2) (sym back) (deep u1 s2 (omega (arith, e)) small le has back h1 x1 (subst (λ q. HasTurns g turns q s2) back t2) goes))))

        -- with the count of pages in X; there may be none
        all_pages : (v p count l : ℕ) (u : State) (seen : Seen) → count < 256 → 256 * count ≤ size → IsPlaced (lines_of g a) → HasAt (lines_of g a) p (pages_code each after count l) → Amid 0 0 0 u → At p seen
            → ((u2 : State) (later : Seen) → Amid (256 * count) count 0 u2 → At (p + length (pages_code each after count l)) later → Goes v (p + length (pages_code each after count l)) u2 later) → Goes (1300 * count + (1 + v)) p u seen
        all_pages v p zero l u seen small le once has h turned goes =
            let here : p ≡ p + 0 = omega arith in
            follows_weaken g n v (1300 * 0 + (1 + v)) m (place_in g a p) u seen (omega arith)
            (subst (λ y. Follows g n v m (place_in g a y) u seen) (sym here) (goes u seen h (subst (λ y. HasTurns g turns (place_in g a y) seen) here turned)))
        all_pages v p (suc left) l u seen small le once has h turned goes =
            let head = suc p in
            let whole : pages_code each after (suc left) l ≡ value Ldx (suc left) ∷ Label l ∷ Page l (Ending l) = ap (λ (b : Bool). if b then [] else value Ldx (suc left) ∷ Label l ∷ Page l (Ending l)) (unequal (suc left) 0 (λ f. omega (arith, f))) in
            let code : HasAt (lines_of g a) p (value Ldx (suc left) ∷ Label l ∷ Page l (Ending l)) = subst (HasAt (lines_of g a) p) whole has in
            let back = back_at l head once code.1.0 in
            let passed : place_in g a head ≡ place_in g a (suc head) = labels_are_passed (setting_in g) a.symbol head l code.1.0 in
            let ends : suc head + length (Page l (Ending l)) ≡ p + length (pages_code each after (suc left) l) = let e = ap length whole in omega (arith, e) in
            follows_weaken g n (1 + (1300 * suc left + v)) (1300 * suc left + (1 + v)) m (place_in g a p) u seen (omega arith)
            (ldx_goes (1300 * suc left + v) p 0 0 0 (suc left) u seen (omega arith) small h code.0 turned (λ u1 s1 h1 x1 t1.
            subst (λ q. Follows g n (1300 * suc left + v) m q u1 s1) (sym passed)
            (pages_go left v (suc head) 0 (suc left) l u1 s1 (omega arith) small le code.1.1 back h1 x1 (subst (λ q. HasTurns g turns q s1) passed t1) (λ u2 s2 h2 t2.
            subst (λ y. Follows g n v m (place_in g a y) u2 s2) (sym ends) (goes u2 s2 h2 (subst (λ y. HasTurns g turns (place_in g a y) s2) ends t2))))))

      -- ---- the rest

      abbrev Rest : ℕ → ℕ → List Line
      Rest bytes l = each ++ (implied Iny ∷ value Cpy bytes ∷ branch Bne l ∷ [])

      rest_goes : (left v p pages y bytes l : ℕ) (u : State) (seen : Seen) → suc left + y ≡ bytes → bytes < 256 → 256 * pages + bytes ≡ size → HasAt (lines_of g a) p (Rest bytes l) → place_in g a (labelled (lines_of g a) l) ≡ place_in g a p
          → Amid (256 * pages + y) pages y u → At p seen
          → ((u2 : State) (later : Seen) → IsLike t (stored size) u2 → At (p + length (Rest bytes l)) later → Goes v (p + length (Rest bytes l)) u2 later) → Goes (6 * suc left + v) p u seen
      rest_goes zero v p pages y bytes l u seen e small whole has back h turned goes =
          let rest = has_back (lines_of g a) p each (implied Iny ∷ value Cpy bytes ∷ branch Bne l ∷ []) has in
          let ends : suc (suc (suc (p + length each))) ≡ p + length (Rest bytes l) = let one = length-append each (implied Iny ∷ value Cpy bytes ∷ branch Bne l ∷ []) in omega (arith, one) in
          let all : suc (256 * pages + y) ≡ size = omega (arith, e, whole) in
          follows_weaken g n (2 + (1 + (1 + (2 + v)))) (6 * 1 + v) m (place_in g a p) u seen (omega arith)
          (each_goes (1 + (1 + (2 + v))) p pages y u seen (omega (arith, e, small)) (omega (arith, all)) (has_front (lines_of g a) p each (implied Iny ∷ value Cpy bytes ∷ branch Bne l ∷ []) has) h turned (λ u1 s1 h1 x1 t1.
          iny_goes (1 + (2 + v)) (p + length each) (suc (256 * pages + y)) pages y u1 s1 (omega (arith, all)) h1 rest.0 t1 (λ u2 s2 h2 x2 z2 t2.
          cpy_goes (2 + v) (suc (p + length each)) (suc (256 * pages + y)) pages ((y + 1) % 256) bytes u2 s2 (omega (arith, all)) small h2 rest.1.0 t2 (λ u3 s3 h3 z3 t3.
          let same : ((y + 1) % 256 + 256 - bytes) % 256 ≡ 0 = omega (arith, e, small) in
          let last : u3.regs.z ≡ true = z3 ∙ ap (λ k. k == 0) same in
          bne_goes v (suc (suc (p + length each))) l (suc (256 * pages + y)) u3 s3 (omega (arith, all)) h3.like rest.1.1.0 t3
          (λ z s4 t4. subst (λ k. Follows g n v m (place_in g a k) u3 s4) (sym ends) (goes u3 s4 (subst (λ k. IsLike t (stored k) u3) all h3.like) (subst (λ k. HasTurns g turns (place_in g a k) s4) ends t4)))
          (λ z s4 t4. let clash : true ≡ false = sym last ∙ z in cc)))))
      rest_goes (suc left) v p pages y bytes l u seen e small whole has back h turned goes =
          let rest = has_back (lines_of g a) p each (implied Iny ∷ value Cpy bytes ∷ branch Bne l ∷ []) has in
          let deep = rest_goes left v p pages (suc y) bytes l in
          let all : suc (256 * pages + y) ≡ 256 * pages + suc y = omega arith in
          let fits : suc (256 * pages + y) ≤ size = omega (arith, e, whole) in
          follows_weaken g n (2 + (1 + (1 + (2 + (6 * suc left + v))))) (6 * suc (suc left) + v) m (place_in g a p) u seen (omega arith)
          (each_goes (1 + (1 + (2 + (6 * suc left + v)))) p pages y u seen (omega (arith, e, small)) (omega (arith, fits)) (has_front (lines_of g a) p each (implied Iny ∷ value Cpy bytes ∷ branch Bne l ∷ []) has) h turned (λ u1 s1 h1 x1 t1.
          iny_goes (1 + (2 + (6 * suc left + v))) (p + length each) (suc (256 * pages + y)) pages y u1 s1 fits h1 rest.0 t1 (λ u2 s2 h2 x2 z2 t2.
          cpy_goes (2 + (6 * suc left + v)) (suc (p + length each)) (suc (256 * pages + y)) pages ((y + 1) % 256) bytes u2 s2 fits small h2 rest.1.0 t2 (λ u3 s3 h3 z3 t3.
          let counts : (y + 1) % 256 ≡ suc y = omega (arith, e, small) in
          let next : Amid (256 * pages + suc y) pages (suc y) u3 = subst (λ k. Amid (256 * pages + suc y) pages k u3) counts (subst (λ k. Amid k pages ((y + 1) % 256) u3) all h3) in
          let other : ((y + 1) % 256 + 256 - bytes) % 256 ≡ 0 → ⊥ = λ f. omega (arith, e, small, f) in
          let more : u3.regs.z ≡ false = z3 ∙ unequal (((y + 1) % 256 + 256 - bytes) % 256) 0 other in
          bne_goes (6 * suc left + v) (suc (suc (p + length each))) l (suc (256 * pages + y)) u3 s3 fits h3.like rest.1.1.0 t3
          (λ z s4 t4. let clash : true ≡ false = sym z ∙ more in cc)
          (λ z s4 t4. subst (λ q. Follows g n (6 * suc left + v) m q u3 s4) (sym back) (deep u3 s4 (omega (arith, e)) small whole has back next (subst (λ q. HasTurns g turns q s4) back t4) goes))))))

      all_rest : (v p pages bytes l : ℕ) (u : State) (seen : Seen) → bytes < 256 → 256 * pages + bytes ≡ size → IsPlaced (lines_of g a) → HasAt (lines_of g a) p (rest_code each bytes l) → Amid (256 * pages) pages 0 u → At p seen
          → ((u2 : State) (later : Seen) → IsLike t (stored size) u2 → At (p + length (rest_code each bytes l)) later → Goes v (p + length (rest_code each bytes l)) u2 later) → Goes (6 * bytes + v) p u seen
      all_rest v p pages zero l u seen small whole once has h turned goes =
          let here : p ≡ p + 0 = omega arith in
          let all : 256 * pages ≡ size = omega (arith, whole) in
          follows_weaken g n v (6 * 0 + v) m (place_in g a p) u seen (omega arith)
          (subst (λ y. Follows g n v m (place_in g a y) u seen) (sym here) (goes u seen (subst (λ k. IsLike t (stored k) u) all h.like) (subst (λ y. HasTurns g turns (place_in g a y) seen) here turned)))
      all_rest v p pages (suc left) l u seen small whole once has h turned goes =
          let full : rest_code each (suc left) l ≡ Label l ∷ Rest (suc left) l = ap (λ (b : Bool). if b then [] else Label l ∷ Rest (suc left) l) (unequal (suc left) 0 (λ f. omega (arith, f))) in
          let code : HasAt (lines_of g a) p (Label l ∷ Rest (suc left) l) = subst (HasAt (lines_of g a) p) full has in
          let back = back_at l p once code.0 in
          let passed : place_in g a p ≡ place_in g a (suc p) = labels_are_passed (setting_in g) a.symbol p l code.0 in
          let none : 256 * pages ≡ 256 * pages + 0 = omega arith in
          let ends : suc p + length (Rest (suc left) l) ≡ p + length (rest_code each (suc left) l) = let e = ap length full in omega (arith, e) in
          subst (λ q. Follows g n (6 * suc left + v) m q u seen) (sym passed)
          (rest_goes left v (suc p) pages 0 (suc left) l u seen (omega arith) small whole code.1 back (subst (λ k. Amid k pages 0 u) none h) (subst (λ q. HasTurns g turns q seen) passed turned) (λ u2 s2 like t2.
          subst (λ y. Follows g n v m (place_in g a y) u2 s2) (sym ends) (goes u2 s2 like (subst (λ y. HasTurns g turns (place_in g a y) s2) ends t2))))

      -- ---- all bytes

      pub block_goes : (after : List Line) → AfterGoes after → (v p l : ℕ) (u : State) (seen : Seen) → size < 65536 → IsPlaced (lines_of g a) → HasAt (lines_of g a) p (block_code each after size l) → Amid 0 0 0 u → At p seen
          → ((u2 : State) (later : Seen) → IsLike t (stored size) u2 → At (p + length (block_code each after size l)) later → Goes v (p + length (block_code each after size l)) u2 later) → Goes (6 * size + (1 + v)) p u seen
      block_goes after after_goes v p l u seen small once has h turned goes =
          let pages = pages_code each after (size / 256) l in
          let more = l + loop_labels (size / 256) in
          let rest = rest_code each (size % 256) more in
          let ends : p + length pages + length rest ≡ p + length (block_code each after size l) = let one = length-append pages rest in omega (arith, one) in
          follows_weaken g n (1300 * (size / 256) + (1 + (6 * (size % 256) + v))) (6 * size + (1 + v)) m (place_in g a p) u seen (omega arith)
          (all_pages after after_goes (6 * (size % 256) + v) p (size / 256) l u seen (omega (arith, small)) (omega arith) once (has_front (lines_of g a) p pages rest has) h turned (λ u1 s1 h1 t1.
          all_rest v (p + length pages) (size / 256) (size % 256) more u1 s1 (omega arith) (omega arith) once (has_back (lines_of g a) p pages rest has) h1 t1 (λ u2 s2 like t2.
          subst (λ y. Follows g n v m (place_in g a y) u2 s2) (sym ends) (goes u2 s2 like (subst (λ y. HasTurns g turns (place_in g a y) s2) ends t2)))))
