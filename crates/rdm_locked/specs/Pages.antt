-- What a port hands out.
use Rattle.std.specs.Prelude.{◌≡◌, List, ◌++◌, length}
use Rattle.rdm_log.specs.declared.entry.Opening.{Opening}
use Rattle.rdm_log.specs.declared.entry.Entry.{Entry}
use Rattle.rdm_log.specs.declared.page.Page.{Page}
use Rattle.rdm_log.specs.log.Legal.{Legal}

-- The page's entries are the end of a legal history. The page's number is how many entries come before them.
pub record IsPage (page : Page) : Type 0 where
  pub opening : Opening
  pub before : List Entry
  pub numbered : page.first ≡ length before
  pub legal : Legal opening (before ++ page.entries.items)
