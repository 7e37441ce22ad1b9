-- The step that fetches a value.
use Rattle.std.proofs.Common.{◌≡◌, ℕ, zero, suc, ◌+◌, ◌%◌, ◌<◌, ◌≤◌, [], ◌∷◌, Option, Some, None, Bool, true, false, refl, sym, ap, ◌∙◌, subst, arith}
use Rattle.std.specs.Prelude.{nat_le, nat_lt, if◌then◌else◌, Result, Ok, Err, length}
use Rattle.std.proofs.lemmas.Bool.Decides.{nat_tests}
use Rattle.c65_ints.specs.declared.types.IntType.{IntType}
use Rattle.c65_ints.specs.declared.types.IntType.TheVariants as I
use Rattle.c65_ints.specs.Ranges.{placed}
use Rattle.c65_ctype.specs.Sizes.{bytes_of}
use Rattle.c65_mach.specs.declared.rows.Op.TheVariants.{Ldx}
use Rattle.c65_mach.specs.State.{Regs}
use Rattle.c65_mach.specs.Step.{apply}
use Rattle.c65_meaning.specs.declared.action.Action.TheVariants.{OutsideObject, EndedObject}
use Rattle.c65_meaning.specs.Why.{Why, By, ◌>>=◌}
use Rattle.c65_meaning.specs.Store as values
use Rattle.c65_meaning.specs.Store.{Block, Store, Value, Whole, Null, Opaque, Cells, NoValue, Shape, Number, Field, Pointer, Area, size_in, read_cells, read}
use Rattle.c65_meaning.specs.Fits.{Fits, IsByte}
use Rattle.c65_meaning.specs.Items.{Fetch}
use Rattle.c65_meaning.specs.State.{Scene, Running}
use Rattle.c65_meaning.specs.Step.{loaded, go_on}
use Rattle.c65_code.specs.declared.routine.Routine.TheVariants.{SignA}
use Rattle.c65_code.specs.LineState.{State, sp_of, ax_of, IsBytes}
use Rattle.c65_code.specs.Placement.{IsPlacement}
use Rattle.c65_code.specs.Steady.{IsOpen}
use Rattle.c65_code.specs.Rows.{primary_of}
use Rattle.c65_genwide.specs.Lines.{value, call}
use Rattle.c65_genwide.specs.Wide.{width_of, narrow_code}
use Rattle.c65_genload.specs.declared.places.Access.TheVariants as access
use Rattle.c65_genload.specs.declared.places.Place.{Place}
use Rattle.c65_genload.specs.Places.{extent_of}
use Rattle.c65_genload.specs.Loads.{bytes_code, load_code}
use Rattle.c65_genexpr.specs.Operating.{is_signed_char}
use Rattle.c65_agree_store.specs.Stands.{Spot, At, Banked, Placing, Banks, ValueIs, IsAt, byte_in, beyond, stored_at}
use Rattle.c65_agree_store.specs.Laws.{number_in}
use Rattle.c65_agree_state.specs.World.{World, Active, place_in}
use Rattle.c65_agree_state.specs.Follows.{Follows}
use Rattle.c65_agree_state.specs.Exprs.{Ready, Kept, Valued, ResultIs, width_in}
use Rattle.c65_agree_state.proofs.Followed.{follows_weaken, steps_earn, ready_is_calm}
use Rattle.c65_agree_state.proofs.Nodes.{ready_stays}
use Rattle.c65_agree_state.proofs.Parts.{kept_goes_on}
use Rattle.c65_agree_numbers.specs.Words.{signed_byte, narrowed}
use Rattle.c65_agree_places.specs.Places.{spot_in, IsReached}
use Rattle.c65_agree_places.proofs.Held.{held_bytes_are_open, numbers_are_there, pointers_are_there}
use Rattle.c65_agree_rows.specs.Rows.{SignedByte, IsWidened}
use Rattle.c65_agree_rows.specs.Laws.{IsKeptWith}
use Rattle.c65_agree_rows.proofs.Quiet.{nothing_follows}
use Rattle.c65_agree_rows.proofs.Loads.{LeavesSecond, widenings_run}
use Rattle.c65_agree_put.specs.Laws.{IsScalar}
use Rattle.c65_agree_assign.specs.Places.{kind_in}
use Rattle.c65_agree_frame.specs.Leads.{Leads}
use Rattle.c65_agree_frame.proofs.Leads.{none_leads, leads_then, leads_as, kept_regs, lines_lead}
use Rattle.c65_agree_load.specs.Loads as loads
use Rattle.c65_agree_load.specs.Loads.{CanLoad, IsNear, IsLoaded, IsKeptThere, IsMeantThere}
use Rattle.c65_agree_load.specs.Laws.{FetchesAreFollowed}
use Rattle.c65_agree_load.proofs.Kept.{runs_lead, is_on, kept_later}
use Rattle.c65_agree_load.proofs.Fitted.{byte_stands, scalars_fit}
use Rattle.c65_agree_load.proofs.Loads.{IsLightAt, bytes_are_light, bytes_are_loaded}

-- ---- what is read

-- a value that is read lies in a live block
pub record IsRead (f : Shape) (s : Store) (b o : ℕ) (v : Value) : Type 0 where
  pub block : Block
  pub is : s b ≡ Some block
  pub live : block.live ≡ true
  pub fits : o + size_in f ≤ block.holds
  pub cells : read_cells f block.cells o ≡ Ok v

pub is_read : (f : Shape) (s : Store) (b o : ℕ) (v : Value) → read f s b o ≡ Ok v → IsRead f s b o v
is_read f s b o v e = go (s b) refl e
  where
    go : (x : Option Block) → s b ≡ x → (values.reached x o (size_in f) >>= λ y. read_cells f y.cells o) ≡ Ok v → IsRead f s b o v
    go None is e = cc
    go (Some x) is e = by x.live refl (nat_le (o + size_in f) x.holds) refl e
      where
        by : (live : Bool) → x.live ≡ live → (fits : Bool) → nat_le (o + size_in f) x.holds ≡ fits → ((if live then (if fits then Ok x else Err (By OutsideObject)) else Err (By EndedObject)) >>= λ y. read_cells f y.cells o) ≡ Ok v → IsRead f s b o v
        by true live true fits e = record { block = x; is = is; live = live; fits = grind (arith, nat_tests); cells = e }
        by true live false fits e = cc
        by false live true fits e = cc
        by false live false fits e = cc

-- bytes behind a spot that is so far behind another one
numbers_beyond : (t : State) (q : Spot) (o n i : ℕ) → number_in (stored_at t (beyond q o)) n i ≡ number_in (stored_at t q) n (o + i)
numbers_beyond t q o zero i = refl
numbers_beyond t q o (suc n) i =
    let next : o + suc i ≡ suc (o + i) = omega arith in
    let rest : number_in (stored_at t (beyond q o)) n (suc i) ≡ number_in (stored_at t q) n (suc (o + i)) = numbers_beyond t q o n (suc i) ∙ ap (number_in (stored_at t q) n) next in
    let byte : stored_at t (beyond q o) i ≡ stored_at t q (o + i) = byte_beyond q in
    omega (arith, byte, rest)
  where
    byte_beyond : (r : Spot) → stored_at t (beyond r o) i ≡ stored_at t r (o + i)
    byte_beyond (At at) = let e : at + o + i ≡ at + (o + i) = omega arith in ap t.mem e
    byte_beyond (Banked d l) = let e : 20 + (l + o + i) ≡ 20 + (l + (o + i)) = omega arith in ap t.zp e

-- ---- in all of its register

signed_alike : (m n : ℕ) → m % 256 ≡ n % 256 → signed_byte m ≡ signed_byte n
signed_alike m n e = ap (λ x. if nat_lt 127 x then x + 65280 else x) e

module _ (g : World) (a : Active) (pushed needs : ℕ) (c : Scene) (w : Placing) (k : Banks) (t : State) (placed : IsPlacement g.code g.place) (r : Ready g a pushed needs c w k t) (q : Spot) where
  -- the number's bytes
  abbrev pub bytes_there : IntType → ℕ
  bytes_there kind = number_in (stored_at t q) (bytes_of kind) 0

  -- the register of the type has the number, brought into its range
  abbrev pub Narrowed : IntType → State → State → Type 0
  Narrowed kind u v = Kept g a c w k u c w k v × (primary_of (width_of kind) v ≡ narrowed kind (bytes_there kind))

  none_narrowed : (kind : IntType) (u : State) → Kept g a c w k t c w k u → primary_of (width_of kind) u ≡ narrowed kind (bytes_there kind) → Leads g a [] 256 u (Narrowed kind u)
  none_narrowed kind u kept value = leads_as g a [] 0 256 u (Narrowed kind u) (Narrowed kind u) (omega arith) (λ v h. h) (none_leads g a u (Narrowed kind u) (itself, value))
    where
      itself : Kept g a c w k u c w k u
      itself = record { joins = kept.joins; sp = refl; frames = refl; next = omega arith; bounds = λ b lt. refl; grows = λ b q e. e; kept = λ n le f. (refl, f); banks = λ d i lt. refl; own_bank = λ i le. refl; none_pushed = kept.none_pushed }

  none_light : (kind : IntType) (u : State) → Kept g a c w k t c w k u → primary_of (width_of kind) u ≡ narrowed kind (bytes_there kind) → Leads g a [] 256 u (λ v. Narrowed kind u v × LeavesSecond u v)
  none_light kind u kept value =
      leads_as g a [] 0 256 u (λ v. v ≡ u) (λ v. Narrowed kind u v × LeavesSecond u v) (omega arith)
      (λ v e. rw e ((record { joins = kept.joins; sp = refl; frames = refl; next = omega arith; bounds = λ b lt. refl; grows = λ b q e. e; kept = λ n le f. (refl, f); banks = λ d i lt. refl; own_bank = λ i le. refl; none_pushed = kept.none_pushed }, value), record { low = refl; high = refl }))
      (none_leads g a u (λ v. v ≡ u) refl)

  pub narrow_leads : (kind : IntType) (u : State) → Kept g a c w k t c w k u → IsLoaded (extent_of kind) q t u → Leads g a (narrow_code kind) 256 u (Narrowed kind u)
  narrow_leads I.UChar u kept loaded =
      let ready = ready_stays g a pushed needs needs c c w w k k t u (omega arith) r kept in
      let regs : Regs = apply false Ldx 0 u.regs in
      leads_as g a (value Ldx 0 ∷ []) 1 256 u (λ v. (v ≡ record u { regs = regs }) × IsBytes v) (Narrowed I.UChar u) (omega arith)
      (λ v e. rw e.0 (kept_later g a pushed needs c w k u placed ready regs u.zp (λ i h. refl) (subst IsBytes e.0 e.1), omega (arith, loaded, ready.joins.bytes.a)))
      (lines_lead g a (value Ldx 0 ∷ []) u placed (is_on g a pushed needs c w k u placed ready) (refl, tt, omega arith, kept_regs u regs, tt))
  narrow_leads I.SChar u kept loaded =
      let ready = ready_stays g a pushed needs needs c c w w k k t u (omega arith) r kept in
      leads_as g a (call SignA ∷ []) 256 256 u (IsKeptWith g a c w k u (IsWidened SignedByte u)) (Narrowed I.SChar u) (omega arith) (λ v x. (x.kept, x.result ∙ signed_alike (ax_of u) (bytes_there I.SChar) (omega (arith, loaded, ready.joins.bytes.a))))
      (runs_lead g a pushed needs c w k u SignA (IsKeptWith g a c w k u (IsWidened SignedByte u)) (omega arith) ready (widenings_run g a pushed needs c w k u SignedByte placed ready))
  narrow_leads I.Short u kept loaded = none_narrowed I.Short u kept loaded
  narrow_leads I.UShort u kept loaded = none_narrowed I.UShort u kept loaded
  narrow_leads I.Int u kept loaded = none_narrowed I.Int u kept loaded
  narrow_leads I.UInt u kept loaded = none_narrowed I.UInt u kept loaded
  narrow_leads I.Long u kept loaded = none_narrowed I.Long u kept loaded
  narrow_leads I.ULong u kept loaded = none_narrowed I.ULong u kept loaded

  -- any but a signed character, and ptr2 stays
  pub narrow_is_light : (kind : IntType) (u : State) → is_signed_char kind ≡ false → Kept g a c w k t c w k u → IsLoaded (extent_of kind) q t u → Leads g a (narrow_code kind) 256 u (λ v. Narrowed kind u v × LeavesSecond u v)
  narrow_is_light I.SChar u light kept loaded = absurd (cc)
  narrow_is_light I.UChar u light kept loaded =
      let ready = ready_stays g a pushed needs needs c c w w k k t u (omega arith) r kept in
      let regs : Regs = apply false Ldx 0 u.regs in
      leads_as g a (value Ldx 0 ∷ []) 1 256 u (λ v. (v ≡ record u { regs = regs }) × IsBytes v) (λ v. Narrowed I.UChar u v × LeavesSecond u v) (omega arith)
      (λ v e. rw e.0 ((kept_later g a pushed needs c w k u placed ready regs u.zp (λ i h. refl) (subst IsBytes e.0 e.1), omega (arith, loaded, ready.joins.bytes.a)), record { low = refl; high = refl }))
      (lines_lead g a (value Ldx 0 ∷ []) u placed (is_on g a pushed needs c w k u placed ready) (refl, tt, omega arith, kept_regs u regs, tt))
  narrow_is_light I.Short u light kept loaded = none_light I.Short u kept loaded
  narrow_is_light I.UShort u light kept loaded = none_light I.UShort u kept loaded
  narrow_is_light I.Int u light kept loaded = none_light I.Int u kept loaded
  narrow_is_light I.UInt u light kept loaded = none_light I.UInt u kept loaded
  narrow_is_light I.Long u light kept loaded = none_light I.Long u kept loaded
  narrow_is_light I.ULong u light kept loaded = none_light I.ULong u kept loaded

-- ---- the step

pub size_of_kind : (kind : IntType) → loads.bytes_of (extent_of kind) ≡ bytes_of kind
size_of_kind I.SChar = refl
size_of_kind I.UChar = refl
size_of_kind I.Short = refl
size_of_kind I.UShort = refl
size_of_kind I.Int = refl
size_of_kind I.UInt = refl
size_of_kind I.Long = refl
size_of_kind I.ULong = refl

size_is : (f : Shape) → IsScalar f → size_in f ≡ bytes_of (kind_in f)
size_is (Number t) scalar = refl
size_is (Pointer size) scalar = refl
size_is (Field t low width) scalar = absurd scalar
size_is (Area size) scalar = absurd scalar

module _ (g : World) (a : Active) (pushed needs : ℕ) (place : Place) (f : Shape) (c : Scene) (w : Placing) (k : Banks) (t : State) (b o : ℕ) (placed : IsPlacement g.code g.place) (r : Ready g a pushed needs c w k t) (scalar : IsScalar f) (meant : IsMeantThere g a c w t place b o) (v : Value) (e : read f c.store b o ≡ Ok v) where
  there : IsRead f c.store b o v
  there = is_read f c.store b o v e

  stood : (q : Spot) × (w b ≡ Some q)
  stood = r.joins.stands.placed b there.block there.is there.live

  abbrev q : Spot
  q = stood.0

  at : IsAt c.store w b there.block q
  at = record { is = there.is; live = there.live; place = stood.1 }

  reached : IsReached a q
  reached = (meant there.block q at).0

  spot : spot_in g a t place ≡ beyond q o
  spot = (meant there.block q at).1

  pub can : CanLoad g t (spot_in g a t place) (loads.bytes_of (extent_of (kind_in f)))
  can = subst (λ s. CanLoad g t s (loads.bytes_of (extent_of (kind_in f)))) (sym spot) (go q refl at)
    where
      fits : o + loads.bytes_of (extent_of (kind_in f)) ≤ there.block.holds
      fits = omega (arith, there.fits, size_is f scalar, size_of_kind (kind_in f))

      go : (s : Spot) → q ≡ s → IsAt c.store w b there.block s → CanLoad g t (beyond s o) (loads.bytes_of (extent_of (kind_in f)))
      go (At n) same is = λ i lt. subst (IsOpen g.place (sp_of t)) (omega arith) (held_bytes_are_open g a pushed needs c w k t b n (o + i) there.block r is (omega (arith, lt, fits)))
      go (Banked d l) same is = let lies = r.joins.stands.lies b there.block (Banked d l) is in omega (arith, lies, fits, r.joins.stands.whole b there.block there.is)

  byte_there : (p : ℕ) → p < there.block.holds → IsByte (there.block.cells p)
  byte_there p lt = byte_stands w (there.block.cells p) (byte_in t.mem k q p) (go q refl at) (r.joins.stands.cells b there.block q p at lt)
    where
      go : (s : Spot) → q ≡ s → IsAt c.store w b there.block s → byte_in t.mem k s p < 256
      go (At n) same is = r.joins.bytes.mem (n + p)
      go (Banked d l) same is =
          let own : d ≡ length a.behind = subst (IsReached a) same reached in
          let lies = r.joins.stands.lies b there.block (Banked d l) is in
          let small : l + p < 6 = omega (arith, lies, lt, r.joins.stands.whole b there.block there.is) in
          let byte : k d (l + p) ≡ t.zp (20 + (l + p)) = ap (λ n. k n (l + p)) own ∙ r.joins.bank (l + p) small in
          omega (arith, byte, r.joins.bytes.zp (20 + (l + p)))

  pub fits : Fits f v
  fits = scalars_fit f there.block.cells there.block.holds o v scalar byte_there there.fits there.cells

  -- the value is in its register
  pub result : (u : State) → primary_of (width_of (kind_in f)) u ≡ narrowed (kind_in f) (number_in (stored_at t (spot_in g a t place)) (bytes_of (kind_in f)) 0) → ResultIs Valued w (width_in f) v u
  result u value = go f scalar v e fits (value ∙ ap (narrowed (kind_in f)) same)
    where
      same : number_in (stored_at t (spot_in g a t place)) (bytes_of (kind_in f)) 0 ≡ number_in (stored_at t q) (bytes_of (kind_in f)) o
      same =
          let zero_on : o + 0 ≡ o = omega arith in
          ap (λ s. number_in (stored_at t s) (bytes_of (kind_in f)) 0) spot ∙ (numbers_beyond t q o (bytes_of (kind_in f)) 0 ∙ ap (number_in (stored_at t q) (bytes_of (kind_in f))) zero_on)

      go : (f : Shape) → IsScalar f → (v : Value) → read f c.store b o ≡ Ok v → Fits f v → primary_of (width_of (kind_in f)) u ≡ narrowed (kind_in f) (number_in (stored_at t q) (bytes_of (kind_in f)) o) → ResultIs Valued w (width_in f) v u
      go (Number kind) s (Whole z) e fits value = value ∙ (numbers_are_there g a c w k t b o there.block q kind z r.joins at reached e).1
      go (Number kind) s Opaque e fits value = tt
      go (Number kind) s Null e fits value = absurd fits
      go (Number kind) s (values.Place d p) e fits value = absurd fits
      go (Number kind) s (Cells xs) e fits value = absurd fits
      go (Number kind) s NoValue e fits value = absurd fits
      go (Pointer size) s (Whole z) e fits value = absurd fits
      go (Pointer size) s (Cells xs) e fits value = absurd fits
      go (Pointer size) s NoValue e fits value = absurd fits
      go (Pointer size) s Opaque e fits value = tt
      go (Pointer size) s Null e fits value = subst (ValueIs w 65536 Null) (sym value) (pointers_are_there g a c w k t b o size there.block q Null r.joins at reached e).1
      go (Pointer size) s (values.Place d p) e fits value = subst (ValueIs w 65536 (values.Place d p)) (sym value) (pointers_are_there g a c w k t b o size there.block q (values.Place d p) r.joins at reached e).1
      go (Field kind low width) s v e fits value = absurd s
      go (Area size) s v e fits value = absurd s

  -- lines that leave ptr2
  pub fetched_light : IsNear place → IsKeptThere place (extent_of (kind_in f)) → IsLightAt place (extent_of (kind_in f)) → is_signed_char (kind_in f) ≡ false
      → Leads g a (load_code place (access.Whole (kind_in f))) 526 t (λ u. Kept g a c w k t c w k u × ResultIs Valued w (width_in f) v u × LeavesSecond t u)
  fetched_light near kept_there light unsigned =
      let kind : IntType = kind_in f in
      leads_then g a (bytes_code place (extent_of kind)) (narrow_code kind) 270 256 t (λ u. Kept g a c w k t c w k u × IsLoaded (extent_of kind) (spot_in g a t place) t u × LeavesSecond t u) (λ u. Kept g a c w k t c w k u × ResultIs Valued w (width_in f) v u × LeavesSecond t u)
      (bytes_are_light g a pushed needs c w k t place (extent_of kind) placed r can near kept_there light) (λ u h.
      leads_as g a (narrow_code kind) 256 256 u (λ x. (Kept g a c w k u c w k x × (primary_of (width_of kind) x ≡ narrowed kind (number_in (stored_at t (spot_in g a t place)) (bytes_of kind) 0))) × LeavesSecond u x) (λ x. Kept g a c w k t c w k x × ResultIs Valued w (width_in f) v x × LeavesSecond t x) (omega arith)
      (λ x y. (kept_goes_on g a c c c w w w k k k t u x h.0 y.0.0, result x y.0.1, record { low = y.1.low ∙ h.2.low; high = y.1.high ∙ h.2.high })) (narrow_is_light g a pushed needs c w k t placed r (spot_in g a t place) kind u unsigned h.0 h.1))

  -- the lines of the load
  pub fetched : IsNear place → IsKeptThere place (extent_of (kind_in f)) → Leads g a (load_code place (access.Whole (kind_in f))) 526 t (λ u. Kept g a c w k t c w k u × ResultIs Valued w (width_in f) v u)
  fetched near kept_there =
      let kind : IntType = kind_in f in
      leads_then g a (bytes_code place (extent_of kind)) (narrow_code kind) 270 256 t (λ u. Kept g a c w k t c w k u × IsLoaded (extent_of kind) (spot_in g a t place) t u) (λ u. Kept g a c w k t c w k u × ResultIs Valued w (width_in f) v u)
      (bytes_are_loaded g a pushed needs c w k t place (extent_of kind) placed r can near kept_there) (λ u h.
      leads_as g a (narrow_code kind) 256 256 u (λ x. Kept g a c w k u c w k x × (primary_of (width_of kind) x ≡ narrowed kind (number_in (stored_at t (spot_in g a t place)) (bytes_of kind) 0))) (λ x. Kept g a c w k t c w k x × ResultIs Valued w (width_in f) v x) (omega arith)
      (λ x y. (kept_goes_on g a c c c w w w k k k t u x h.0 y.0, result x y.1)) (narrow_leads g a pushed needs c w k t placed r (spot_in g a t place) kind u h.0 h.1))

pub fetches_are_followed : FetchesAreFollowed
fetches_are_followed g a pushed needs place f c w k t b o n weight p work vs seen placed has r scalar near kept_there meant turns behind =
    steps_earn g n weight (Fetch f) work (values.Place b o ∷ vs) c (place_in g a p) t seen (ready_is_calm g a pushed needs c w k t r).calm r.joins.output r.joins.ended (omega (arith, turns)) (λ j lt. go j lt (loaded f c (values.Place b o)) refl)
  where
    go : (j : ℕ) → j < n → (s : Result Value Why) → loaded f c (values.Place b o) ≡ s → Follows g j (weight + 4000) (go_on s work vs c) (place_in g a p) t seen
    go j lt (Err why) e = nothing_follows g why j (weight + 4000) (place_in g a p) t seen
    go j lt (Ok v) e =
        follows_weaken g j (526 + (weight + 3470)) (weight + 4000) (Running work (v ∷ vs) c) (place_in g a p) t seen (omega arith)
        (fetched g a pushed needs place f c w k t b o placed r scalar meant v e near kept_there j (weight + 3470) p c.turns (Running work (v ∷ vs) c) seen has turns (λ u later h after. behind j v u later lt h.0 h.1 (fits g a pushed needs place f c w k t b o placed r scalar meant v e) e after))
