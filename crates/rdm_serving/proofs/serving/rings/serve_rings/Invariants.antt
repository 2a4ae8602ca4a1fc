-- the history of this session's views
use Rattle.rdm_lanes.specs.Workers.{book_of}
use Rattle.rdm_serving.proofs.serving.rings.serve_rings.Given as goal

abbrev pub ghosts-serve_views : goal.ghosts-serve_views
ghosts-serve_views g a = record { book = book_of a.history }
