-- Where a switch leads by its value (C90 6.6.4.2).
use Rattle.std.specs.Prelude.{ℕ, ◌+◌, ◌*◌, ℤ, List, [], ◌∷◌, ◌++◌, Option, Some, None, if◌then◌else◌, length}
use Rattle.c65_ints.specs.declared.types.IntType.{IntType}
use Rattle.c65_ints.specs.Ranges.{InRange}
use Rattle.c65_mach.specs.declared.rows.Op.TheVariants.{Jmp}
use Rattle.c65_meaning.specs.Integers.{same_number}
use Rattle.c65_meaning.specs.Store.{Whole}
use Rattle.c65_meaning.specs.State as meaning
use Rattle.c65_meaning.specs.State.{Scene}
use Rattle.c65_code.specs.LineState.{State}
use Rattle.c65_code.specs.Moves.{labelled}
use Rattle.c65_code.specs.Comes.{Seen}
use Rattle.c65_genwide.specs.Wide.{width_of}
use Rattle.c65_genentry.specs.Words.{jump}
use Rattle.c65_genentry.specs.Choice.{choice_code}
use Rattle.c65_genstmt.specs.Jumps.{following}
use Rattle.c65_agree_store.specs.Stands.{Placing, Banks}
use Rattle.c65_agree_state.specs.World.{lines_of, place_in, HasAt, HasTurns, HasCome}
use Rattle.c65_agree_state.specs.Follows.{Follows}
use Rattle.c65_agree_state.specs.Exprs.{Valued, ResultIs, Kept}
use Rattle.c65_agree_between.specs.Stmts.{Between}
use Rattle.c65_agree_stmts.specs.Calling.{Calling}

-- the label of the first case with the value, where there is one
abbrev pub case_of : ℤ → List ℤ → ℕ → Option ℕ
case_of z [] next = None
case_of z (y ∷ ys) next = if same_number z y then Some next else case_of z ys (following next)

abbrev pub label_or : ℕ → Option ℕ → ℕ
label_or other None = other
label_or other (Some l) = l

-- From a number of the type in the primary register the lines that choose, and the jump behind them, lead to the label of its case, or to
-- the other one, within a weight of 14 a case.
abbrev pub ChoiceLeads : Calling → IntType → ℕ → ℕ → ℕ → List ℤ → Type 0
ChoiceLeads x kind other next first zs = (n w p : ℕ) (z : ℤ) (scope : List ℕ) (m : meaning.State) (c : Scene) (q : Placing) (b : Banks) (t : State) (seen : Seen)
    → InRange kind z → HasAt (lines_of x.world x.active) p (choice_code (width_of kind) other next first zs ++ jump Jmp other ∷ [])
    → Between x.world x.active x.needs scope c q b t → ResultIs Valued q (width_of kind) (Whole z) t → HasTurns x.world c.turns (place_in x.world x.active p) seen
    → ((u : State) (later : Seen) → Kept x.world x.active c q b t c q b u
    → HasCome x.world c.turns (place_in x.world x.active (labelled (lines_of x.world x.active) (label_or other (case_of z zs next)))) later
    → Follows x.world n w m (place_in x.world x.active (labelled (lines_of x.world x.active) (label_or other (case_of z zs next)))) u later)
    → Follows x.world n (14 * length zs + 2 + w) m (place_in x.world x.active p) t seen
