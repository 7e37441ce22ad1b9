-- The code's lists of specifiers, without where they lie in memory.
use Rattle.c65_tree.specs.Trees.{no_specifiers}
use Rattle.c65_tree.specs.View.{specifiers_of, specifiers_from}
use Rattle.c65_parse_trees.specs.declared.measured.Listing.{Listing}
use Rattle.c65_parse_trees.specs.declared.measured.MeasuredSpecifiers.{MeasuredSpecifiers}
use Rattle.c65_parse_trees.specs.Listings

abbrev pub listing_of : Listing → Listings.Listing
listing_of q = record { first = q.first; items = specifiers_from no_specifiers q.items.items; has_type = q.has_type; is_typedef = q.is_typedef; takes_storage = q.takes_storage }

abbrev pub listed_of : MeasuredSpecifiers → Listings.Listed
listed_of q = record { tree = specifiers_of q.specifiers; has_type = q.has_type; is_typedef = q.is_typedef }
