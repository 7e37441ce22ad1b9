-- Tests of what is loaded, in a manner.
use Rattle.std.proofs.Common.{◌≡◌, ℕ, suc, ◌+◌, ◌<◌, ◌≤◌, List, ◌∷◌, ◌++◌, Bool, true, false, refl, sym, subst, arith, append_assoc, length-append}
use Rattle.std.specs.Prelude.{not, Ok, length}
use Rattle.c65_ints.specs.declared.types.IntType.{IntType}
use Rattle.c65_mach.specs.Step.{is_taken}
use Rattle.c65_ctype.specs.Trees.{QTy}
use Rattle.c65_csem.specs.Trees.{Typed, node, load}
use Rattle.c65_csem_need.specs.Needs.{need}
use Rattle.c65_meaning.specs.Store.{Shape, Number, Field, Pointer as PointerTo, Area}
use Rattle.c65_meaning.specs.Items.{Item, Fetch, plan}
use Rattle.c65_meaning.specs.State.{Scene, Running}
use Rattle.c65_meaning.specs.Store.{Value}
use Rattle.c65_meaning.specs.Fits.{Fits}
use Rattle.c65_meaning.specs.Operators.{truth_of}
use Rattle.c65_code.specs.declared.line.Line.{Line}
use Rattle.c65_code.specs.LineState.{State}
use Rattle.c65_code.specs.Comes.{Seen}
use Rattle.c65_code.specs.Placement.{IsPlacement}
use Rattle.c65_genwide.specs.Wide.{width_of}
use Rattle.c65_genload.specs.declared.places.Access.TheVariants.{Whole}
use Rattle.c65_genload.specs.declared.places.Extent.{Extent}
use Rattle.c65_genload.specs.declared.places.Extent.TheVariants.{One, Two, Three, Four}
use Rattle.c65_genload.specs.declared.places.Place.{Place}
use Rattle.c65_genload.specs.declared.places.Place.TheVariants.{Bank, Near, Data, Far}
use Rattle.c65_genload.specs.Places.{extent_of}
use Rattle.c65_gendirect.specs.declared.direct.Direct.TheVariants.{Kept}
use Rattle.c65_gendirect.specs.Pointed.{behind_pointer_code}
use Rattle.c65_gendirect.specs.Tests.{all_zero_code, zero_test_code}
use Rattle.c65_genexpr.specs.declared.destination.Destination.{Destination}
use Rattle.c65_genexpr.specs.declared.destination.Destination.TheVariants.{Pointer}
use Rattle.c65_genexpr.specs.declared.wanted.Wanted.TheVariants.{Test}
use Rattle.c65_genexpr.specs.Destination.{destination_by, fetch_code}
use Rattle.c65_genexpr.specs.Direct.{kept_at, own_bytes}
use Rattle.c65_genexpr.specs.Fields.{byte_test, number_test}
use Rattle.c65_genexpr.specs.Places.{place_of}
use Rattle.c65_genexpr.specs.Wanted.{by_sense, branch_code, value_test_code}
use Rattle.c65_genexpr.specs.Code.{expr_code, base_code, tested_load}
use Rattle.c65_agree_store.specs.Stands.{Placing, Banks}
use Rattle.c65_agree_state.specs.World.{World, unit_in, Active, lines_of, place_in, HasAt, HasTurns}
use Rattle.c65_agree_state.specs.Follows.{Follows}
use Rattle.c65_agree_state.specs.Exprs.{Ready, Kept as Keeps, Valued, Tells, width_in, shape_in, TestDoes}
use Rattle.c65_agree_state.proofs.Followed.{follows_weaken}
use Rattle.c65_agree_state.proofs.Nodes.{has_front, has_back, ready_stays}
use Rattle.c65_agree_state.proofs.Parts.{kept_goes_on}
use Rattle.c65_agree_put.specs.Laws.{IsScalar}
use Rattle.c65_agree_put.proofs.Fits.{may_fit}
use Rattle.c65_agree_assign.specs.Places.{kind_in}
use Rattle.c65_agree_direct.proofs.Spots.{IsKnown}
use Rattle.c65_agree_operate.specs.Manners.{Manner, usual, IsLeft, DoesIn}
use Rattle.c65_agree_operate.proofs.Manners.{left_then, left_held}
use Rattle.c65_agree_compare.specs.Branches.{BranchesIn}
use Rattle.c65_agree_compare.proofs.Branches.{branches_are_tests}
use Rattle.c65_agree_compare.proofs.Taken.{is_told, is_branch}
use Rattle.c65_agree_compare.proofs.Values.{branch_tests, values_are_tested}
use Rattle.c65_agree_loading.specs.Bases.{handed_on, TellsIn}
use Rattle.c65_agree_loading.specs.LoadLaws.{TestDoesIn, LoadsTestIn, LoadsTest}
use Rattle.c65_agree_loading.proofs.Manners.{handed_high}
use Rattle.c65_agree_loading.proofs.Wholes.{IsWhole, loads_are_whole}
use Rattle.c65_agree_loading.proofs.Fetching.{IsLight, fetch_goes}
use Rattle.c65_agree_loading.proofs.Loads.{TellsBy, Fetches, ToldFrom, load_behind, load_lines, light_there}
use Rattle.c65_agree_loading.proofs.Zeros.{IsDecided, bytes_decide, known_lies, pointer_decides}

-- ---- lines that decide

-- lines do the work of a tree, and behind them Z tells whether its value is false
abbrev pub DecidesIn : World → Active → Manner → Shape → (List Item → List Item) → ℕ → ℕ → List Line → Type 0
DecidesIn g a m f work needs pushed lines = (n w p : ℕ) (k : List Item) (vs : List Value) (c : Scene) (q : Placing) (b : Banks) (t : State) (seen : Seen)
    → HasAt (lines_of g a) p lines → Ready g a pushed needs c q b t → HasTurns g c.turns (place_in g a p) seen
    → ((j : ℕ) (v : Value) (c2 : Scene) (q2 : Placing) (b2 : Banks) (u : State) (later : Seen)
    → j < n → Keeps g a c q b t c2 q2 b2 u → Fits f v → ((truth : Bool) → truth_of c2.store v ≡ Ok truth → u.regs.z ≡ not truth) → IsLeft m c t c2 u → HasTurns g c2.turns (place_in g a (p + length lines)) later
    → Follows g j (w + 2700 + m.over) (Running k (v ∷ vs) c2) (place_in g a (p + length lines)) u later)
    → Follows g n w (Running (work k) vs c) (place_in g a p) t seen

-- so a branch behind them leads where the truth does
pub decisions_branch : (g : World) (a : Active) (m : Manner) (f : Shape) (s : Bool) (to : ℕ) (work : List Item → List Item) (needs pushed : ℕ) (lines : List Line) → IsScalar f → DecidesIn g a m f work needs pushed lines → BranchesIn g a m f s to work needs pushed (lines ++ branch_code s to)
decisions_branch g a m f s to work needs pushed lines scalar decides n weight p k vs c w b t seen has r turns rest =
    let end : ℕ = p + length (lines ++ branch_code s to) in
    let ends : suc (p + length lines) ≡ end = omega (arith, length-append lines (branch_code s to)) in
    decides n weight p k vs c w b t seen (has_front (lines_of g a) p lines (branch_code s to) has) r turns (λ j v c2 w2 b2 u later lt kept fit zero left turned.
    let truth : Tells c2.store v s (is_taken (by_sense s) u.regs) = λ z e. is_told s z u (zero z e) in
    follows_weaken g j (2 + (weight + 2600 + m.over)) (weight + 2700 + m.over) (Running k (v ∷ vs) c2) (place_in g a (p + length lines)) u later (omega arith)
    (branch_tests g a m f s to pushed needs n weight (p + length lines) end ends k vs c w b t rest j lt v c2 w2 b2 u later
    (ready_stays g a pushed needs needs c c2 w w2 b b2 t u (omega arith) r kept) kept left (may_fit f v scalar fit)
    (by_sense s) (is_branch s to) (has_back (lines_of g a) p lines (branch_code s to) has) truth turned))

module _ (g : World) (a : Active) (m : Manner) (extra : ℕ) (enough : 2500 ≤ extra) (over : m.over ≤ 2000) (f : Shape) (scalar : IsScalar f) (work : List Item → List Item) (needs pushed : ℕ) (Told : Scene → Placing → State → Value → Type 0) (base : List Line) (tells : TellsBy g a m extra Told work needs pushed base) (s : Bool) (to : ℕ) where
  decided_behind : (ls : List Line) → Fetches g a f pushed needs Told ls (IsDecided g a) → DecidesIn g a m f (λ k. work (Fetch f ∷ k)) needs pushed (base ++ ls)
  decided_behind ls fetch n weight p k vs c w b t seen has r turns rest =
      let more : ℕ = weight + extra in
      let ends : p + length base + length ls ≡ p + length (base ++ ls) = omega (arith, length-append base ls) in
      tells n weight p (Fetch f ∷ k) vs c w b t seen (has_front (lines_of g a) p base ls has) r turns (λ j v c2 w2 b2 u later lt kept told left turned.
      let ready = ready_stays g a pushed needs needs c c2 w w2 b b2 t u (omega arith) r kept in
      fetch_goes g a pushed needs f c2 w2 b2 u v (IsDecided g a c2 w2 b2 u) ls j more (p + length base) k vs later (has_back (lines_of g a) p base ls has) ready turned
      (λ x o y is e. fetch c2 w2 b2 u ready x o y (subst (Told c2 w2 u) is told) e) (λ i x y after less fit h turned2.
      subst (λ z. Follows g i (more + 3470) (Running k (x ∷ vs) c2) (place_in g a z) y after) (sym ends)
      (follows_weaken g i (weight + 2700 + m.over) (more + 3470) (Running k (x ∷ vs) c2) (place_in g a (p + length (base ++ ls))) y after (omega (arith, over, enough))
      (rest i x c2 w2 b2 y after (omega (arith, lt, less)) (kept_goes_on g a c c2 c2 w w2 w2 b b2 b2 t u y kept h.kept) fit h.zero (left_then m c c2 c2 t u y left (left_held m c2 u y h.held))
      (subst (λ z. HasTurns g c2.turns (place_in g a z) after) ends turned2)))))

  pub test_behind : (ls : List Line) → Fetches g a f pushed needs Told ls (IsDecided g a) → BranchesIn g a m f s to (λ k. work (Fetch f ∷ k)) needs pushed (base ++ (ls ++ branch_code s to))
  test_behind ls fetch =
      subst (λ lines. BranchesIn g a m f s to (λ k. work (Fetch f ∷ k)) needs pushed lines) (append_assoc base ls (branch_code s to))
      (decisions_branch g a m f s to (λ k. work (Fetch f ∷ k)) needs pushed (base ++ ls) scalar (decided_behind ls fetch))

-- ---- by the place

-- the weight that is handed on says nothing of what is left
tells_over : (g : World) (a : Active) (m : Manner) (x : ℕ) (d : Destination) (work : List Item → List Item) (needs pushed : ℕ) (place : Place) (lines : List Line) → TellsIn g a m d work needs pushed place lines → TellsIn g a (record m { over = x }) d work needs pushed place lines
tells_over g a m x d work needs pushed place lines tells n w p k vs c q b t seen has r turned rest = tells n w p k vs c q b t seen has r turned (λ j v c2 q2 b2 u later lt kept told left turned2. rest j v c2 q2 b2 u later lt kept told (record { scene = left.scene; held = left.held }) turned2)

width_same : (f : Shape) → IsScalar f → width_of (kind_in f) ≡ width_in f
width_same (Number kind) scalar = refl
width_same (PointerTo size) scalar = refl
width_same (Field kind low width) scalar = absurd scalar
width_same (Area size) scalar = absurd scalar

module _ (g : World) (a : Active) (m : Manner) (placed : IsPlacement g.code g.place) (over : m.over ≤ 1000) (f : Shape) (scalar : IsScalar f) (work : List Item → List Item) (needs pushed : ℕ) (base : List Line) (s : Bool) (to : ℕ) where
  abbrev kind : IntType
  kind = kind_in f

  abbrev fetching : List Item → List Item
  fetching k = work (Fetch f ∷ k)

  abbrev d : Destination
  d = destination_by (extent_of kind)

  abbrev Branches : List Line → Type 0
  Branches ls = BranchesIn g a m f s to fetching needs pushed ls

  -- where it lies
  at_known : (e : Destination) (place : Place) → IsKnown place → TellsIn g a m e work needs pushed place base → Branches (base ++ zero_test_code (own_bytes (Kept place kind) (extent_of kind)) s to)
  at_known e place known tells =
      test_behind g a m (handed_on e) (handed_high e) (omega (arith, over)) f scalar work needs pushed (ToldFrom g a e place) base tells s to (all_zero_code (own_bytes (Kept place kind) (extent_of kind)))
      (λ c w k t r b o v told h. bytes_decide g a pushed needs f c w k t placed r scalar b o v h place known (known_lies g a pushed needs f c w k t placed r scalar b o v h e place known told))

  -- in A
  in_byte : (at : ℕ) → extent_of kind ≡ One → TellsIn g a m Pointer work needs pushed (Far at) base → Branches (base ++ (behind_pointer_code at One ++ branch_code s to))
  in_byte at one tells =
      test_behind g a m 2500 (omega arith) (omega (arith, over)) f scalar work needs pushed (ToldFrom g a Pointer (Far at)) base tells s to (behind_pointer_code at One)
      (λ c w k t r b o v told h. pointer_decides g a pushed needs f c w k t placed r scalar b o v h at one told)

  -- by its value
  in_register : (place : Place) → (m.light ≡ true → IsLight place kind) → TellsIn g a m d work needs pushed place base → Branches (base ++ (fetch_code place (Whole kind) ++ value_test_code (width_of kind) s to))
  in_register place light tells =
      let other : Manner = record m { over = m.over + 6 } in
      let lines : List Line = fetch_code place (Whole kind) in
      let does : DoesIn g a other Valued f fetching needs pushed (base ++ lines) = load_behind g a other d f work needs pushed place base placed (omega (arith, over)) scalar refl light (tells_over g a m (m.over + 6) d work needs pushed place base tells) in
      subst Branches (append_assoc base lines (value_test_code (width_of kind) s to))
      (subst (λ z. Branches ((base ++ lines) ++ value_test_code z s to)) (sym (width_same f scalar)) (values_are_tested g a m (m.over + 6) f s to needs pushed fetching (base ++ lines) placed scalar (omega arith) does))

  pub by_place : (place : Place) → (m.light ≡ true → IsLight place kind) → TellsIn g a m d work needs pushed place base → Branches (tested_load (kept_at place (Whole kind)) kind s to base (number_test place (Whole kind) s to))
  by_place (Bank b) light tells = at_known d (Bank b) tt tells
  by_place (Near at) light tells = at_known d (Near at) tt tells
  by_place (Data sy at) light tells = at_known d (Data sy at) tt tells
  by_place (Far at) light tells = go (extent_of kind) refl
    where
      go : (x : Extent) → extent_of kind ≡ x → Branches (base ++ byte_test (Far at) kind x s to)
      go One one = in_byte at one (subst (λ (x : Extent). TellsIn g a m (destination_by x) work needs pushed (Far at) base) one tells)
      go Two two = in_register (Far at) light tells
      go Three three = in_register (Far at) light tells
      go Four four = in_register (Far at) light tells

-- ---- the laws

-- lines behind which the value of a load is decided, and the branch
pub decided_loads_test : (g : World) (a : Active) (m : Manner) (t : QTy) (e : Typed) (pushed fresh to : ℕ) (s : Bool) (lines : List Line) → IsWhole g a t e → expr_code a.frame pushed fresh (Test to s) (node t (load e)) ≡ lines ++ branch_code s to
    → DecidesIn g a m (shape_in g a e) (λ k. plan (unit_in g) e (Fetch (shape_in g a e) ∷ k)) (need e) pushed lines → BranchesIn g a m (shape_in g a (node t (load e))) s to (plan (unit_in g) (node t (load e))) (need (node t (load e))) pushed (expr_code a.frame pushed fresh (Test to s) (node t (load e)))
decided_loads_test g a m t e pushed fresh to s lines whole same decides =
    let f : Shape = shape_in g a e in
    let all : List Line = lines ++ branch_code s to in
    subst (λ ls. BranchesIn g a m (shape_in g a (node t (load e))) s to (plan (unit_in g) (node t (load e))) (need e) pushed ls) (sym same)
    (subst (λ x. BranchesIn g a m x s to (plan (unit_in g) (node t (load e))) (need e) pushed all) (sym whole.same)
    (subst (λ x. BranchesIn g a m f s to (λ k. plan (unit_in g) e (Fetch x ∷ k)) (need e) pushed all) (sym whole.shape)
    (decisions_branch g a m f s to (λ k. plan (unit_in g) e (Fetch f ∷ k)) (need e) pushed lines whole.scalar decides)))

-- tests in the usual manner
pub usually_tests : (g : World) (a : Active) (e : Typed) → TestDoesIn g a usual e → TestDoes g a e
usually_tests g a e does pushed fresh to s = (branches_are_tests g a usual (shape_in g a e) s to (need e) pushed (plan (unit_in g) e) (expr_code a.frame pushed fresh (Test to s) e)).0 (does pushed fresh to s)

pub loads_test_in : LoadsTestIn
loads_test_in g a m t e placed over plain light does pushed fresh to s =
    let whole : IsWhole g a t e = loads_are_whole g a t e plain.parts plain.typed plain.whole in
    let f : Shape = shape_in g a e in
    let kind : IntType = kind_in f in
    let d : Destination = destination_by (extent_of kind) in
    let place : Place = place_of a.frame pushed e in
    let base : List Line = base_code a.frame pushed fresh d e in
    let lines : List Line = tested_load (kept_at place (Whole kind)) kind s to base (number_test place (Whole kind) s to) in
    subst (λ ls. BranchesIn g a m (shape_in g a (node t (load e))) s to (plan (unit_in g) (node t (load e))) (need e) pushed ls) (sym (load_lines a pushed fresh (Test to s) t e kind plain.single whole.access))
    (subst (λ x. BranchesIn g a m x s to (plan (unit_in g) (node t (load e))) (need e) pushed lines) (sym whole.same)
    (subst (λ x. BranchesIn g a m f s to (λ k. plan (unit_in g) e (Fetch x ∷ k)) (need e) pushed lines) (sym whole.shape)
    (by_place g a m placed over f whole.scalar (plan (unit_in g) e) (need e) pushed base s to place (light_there a m e kind pushed whole.access light) (does d pushed fresh))))

pub loads_test : LoadsTest
loads_test g a t e placed plain does = usually_tests g a (node t (load e)) (loads_test_in g a usual t e placed (omega arith) plain (λ pushed h. let clash : false ≡ true = h in absurd (cc)) does)
