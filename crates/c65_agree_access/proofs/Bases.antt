-- Places that have a base of their own.
use Rattle.std.proofs.Common.{ℕ, [], ◌++◌}
use Rattle.c65_ctype.specs.Trees.{QTy}
use Rattle.c65_csem.specs.Trees.{node, Node, constant, null, literal, object, func, deref, member, load, address, decay, convert, unary, binary, both, either, choice, comma, assign, assign_op, assign_step, step, copy, call, pack, spill, rest as further}
use Rattle.c65_csem_need.specs.Needs.{need}
use Rattle.c65_meaning.specs.Items.{plan}
use Rattle.c65_code.specs.Placement.{IsPlacement}
use Rattle.c65_genframe.specs.Symbols.{numbers_of, literal_symbol}
use Rattle.c65_genload.specs.declared.places.Place.TheVariants.{Data, Far}
use Rattle.c65_gendirect.specs.Pointed.{pointer_code}
use Rattle.c65_genexpr.specs.declared.wanted.Wanted.TheVariants as wanted
use Rattle.c65_genexpr.specs.Places.{object_place, object_code}
use Rattle.c65_genexpr.specs.Code.{node_code}
use Rattle.c65_agree_state.specs.World.{World, unit_in, Active}
use Rattle.c65_agree_structures.specs.Bases.{TellsPlace}
use Rattle.c65_agree_access.specs.Pointed.{TellsPointed}
use Rattle.c65_agree_access.specs.PointedLaws.{OwnBasesArePointed}
use Rattle.c65_agree_access.proofs.Arriving.{base_arrives, stays_told}

-- the lines are those of the tree's value
pub by_value : (g : World) (a : Active) (t : QTy) (n : Node) (pushed fresh : ℕ) → IsPlacement g.code g.place → TellsPlace g a (plan (unit_in g) (node t n)) (need (node t n)) pushed (Far 0) (node_code a.frame pushed fresh wanted.Value t n ++ [])
    → TellsPointed g a (plan (unit_in g) (node t n)) (need (node t n)) pushed (Far 0) (node_code a.frame pushed fresh wanted.Value t n ++ pointer_code)
by_value g a t n pushed fresh placed tells = base_arrives g a (plan (unit_in g) (node t n)) (need (node t n)) pushed (Far 0) (node_code a.frame pushed fresh wanted.Value t n) placed tells

pub own_bases_are_pointed : OwnBasesArePointed
own_bases_are_pointed g a (node t (literal n)) placed own does pushed fresh = stays_told g a (plan (unit_in g) (node t (literal n))) 0 pushed (Data (literal_symbol (numbers_of a.frame.parts) n) 0) [] tt (does pushed fresh)
own_bases_are_pointed g a (node t (object i)) placed own does pushed fresh = base_arrives g a (plan (unit_in g) (node t (object i))) 0 pushed (object_place a.frame pushed i) (object_code a.frame pushed i) placed (does pushed fresh)
own_bases_are_pointed g a (node t (deref e)) placed own does pushed fresh = absurd own
own_bases_are_pointed g a (node t (member e m)) placed own does pushed fresh = absurd own
own_bases_are_pointed g a (node t (constant z)) placed own does pushed fresh = by_value g a t (constant z) pushed fresh placed (does pushed fresh)
own_bases_are_pointed g a (node t null) placed own does pushed fresh = by_value g a t null pushed fresh placed (does pushed fresh)
own_bases_are_pointed g a (node t (func i)) placed own does pushed fresh = by_value g a t (func i) pushed fresh placed (does pushed fresh)
own_bases_are_pointed g a (node t (load e)) placed own does pushed fresh = by_value g a t (load e) pushed fresh placed (does pushed fresh)
own_bases_are_pointed g a (node t (address e)) placed own does pushed fresh = by_value g a t (address e) pushed fresh placed (does pushed fresh)
own_bases_are_pointed g a (node t (decay e)) placed own does pushed fresh = by_value g a t (decay e) pushed fresh placed (does pushed fresh)
own_bases_are_pointed g a (node t (convert e)) placed own does pushed fresh = by_value g a t (convert e) pushed fresh placed (does pushed fresh)
own_bases_are_pointed g a (node t (unary op e)) placed own does pushed fresh = by_value g a t (unary op e) pushed fresh placed (does pushed fresh)
own_bases_are_pointed g a (node t (binary op x y)) placed own does pushed fresh = by_value g a t (binary op x y) pushed fresh placed (does pushed fresh)
own_bases_are_pointed g a (node t (both x y)) placed own does pushed fresh = by_value g a t (both x y) pushed fresh placed (does pushed fresh)
own_bases_are_pointed g a (node t (either x y)) placed own does pushed fresh = by_value g a t (either x y) pushed fresh placed (does pushed fresh)
own_bases_are_pointed g a (node t (choice x y z)) placed own does pushed fresh = by_value g a t (choice x y z) pushed fresh placed (does pushed fresh)
own_bases_are_pointed g a (node t (comma x y)) placed own does pushed fresh = by_value g a t (comma x y) pushed fresh placed (does pushed fresh)
own_bases_are_pointed g a (node t (assign x y)) placed own does pushed fresh = by_value g a t (assign x y) pushed fresh placed (does pushed fresh)
own_bases_are_pointed g a (node t (assign_op op k x y)) placed own does pushed fresh = by_value g a t (assign_op op k x y) pushed fresh placed (does pushed fresh)
own_bases_are_pointed g a (node t (assign_step op x y)) placed own does pushed fresh = by_value g a t (assign_step op x y) pushed fresh placed (does pushed fresh)
own_bases_are_pointed g a (node t (step k x)) placed own does pushed fresh = by_value g a t (step k x) pushed fresh placed (does pushed fresh)
own_bases_are_pointed g a (node t (copy x y)) placed own does pushed fresh = by_value g a t (copy x y) pushed fresh placed (does pushed fresh)
own_bases_are_pointed g a (node t (call x es)) placed own does pushed fresh = by_value g a t (call x es) pushed fresh placed (does pushed fresh)
own_bases_are_pointed g a (node t (pack x)) placed own does pushed fresh = by_value g a t (pack x) pushed fresh placed (does pushed fresh)
own_bases_are_pointed g a (node t (spill i x)) placed own does pushed fresh = by_value g a t (spill i x) pushed fresh placed (does pushed fresh)
own_bases_are_pointed g a (node t further) placed own does pushed fresh = by_value g a t further pushed fresh placed (does pushed fresh)
