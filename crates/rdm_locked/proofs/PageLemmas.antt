-- What a page is that a port hands out.
use Rattle.std.proofs.Common.{◌≡◌, ◌+◌, ℕ, Bool, true, false, List, [], ◌++◌, length, take, drop, if◌then◌else◌, refl}
use Rattle.std.proofs.Common.{sym, ap, ◌∙◌, subst, append-nil, arith}
use Rattle.std.proofs.lemmas.List.{take-append-drop, take_all, length-take-le}
use Rattle.rdm_log.specs.declared.entry.Entry.{Entry}
use Rattle.rdm_log.specs.declared.page.Page.{Page}
use Rattle.rdm_log.specs.log.Legal.{Legal}
use Rattle.rdm_log.specs.log.LogState.{LogState, stored}
use Rattle.rdm_locked.specs.Pages.{IsPage}

-- what a legal log stores is a page, with the number of its first entry
pub is_page : (k : LogState) (page : Page) → Legal k.opening k.entries
    → page.first + length (stored k) ≡ length k.entries → (k.keeps ≡ true → page.first ≡ k.gone)
    → page.entries.items ≡ stored k → IsPage page
is_page k page legal before gone entries = record {
  opening = k.opening;
  before = take page.first k.entries;
  numbered = sym (length-take-le page.first k.entries (omega (arith, before)));
  legal = subst (λ (h : List Entry). Legal k.opening h)
      (sym (ap (λ (l : List Entry). take page.first k.entries ++ l) entries ∙ whole k.keeps refl)) legal;
}
  where
    kept : Bool → List Entry
    kept keeps = if keeps then drop k.gone k.entries else []

    whole : (keeps : Bool) → k.keeps ≡ keeps → take page.first k.entries ++ stored k ≡ k.entries
    whole true is =
        ap (λ (l : List Entry). take page.first k.entries ++ l) (ap kept is)
        ∙ ap (λ (n : ℕ). take n k.entries ++ drop k.gone k.entries) (gone is)
        ∙ take-append-drop k.gone k.entries
    whole false is =
        let none : stored k ≡ [] = ap kept is in
        ap (λ (l : List Entry). take page.first k.entries ++ l) none ∙ append-nil (take page.first k.entries)
        ∙ take_all page.first k.entries (omega (arith, before, ap length none))
