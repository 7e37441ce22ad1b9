use Rattle.c65_driver_law_size.proofs.Made.{refused_images_are_within_their_bulk}
use Rattle.c65_driver_law_size.proofs.laws.refused_images_are_within_their_bulk.Goals as goal

pub returns : goal.returns
returns c = refused_images_are_within_their_bulk (record {
  printed = c.printed_codes_read_back.ensures;
  programs = c.programs_are_within_their_bulk.ensures;
  fills = c.scoped_programs_fill_their_objects.ensures;
  bounded = c.images_are_bounded.ensures;
})
