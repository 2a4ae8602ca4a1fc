-- A log stays in bound, whatever calls are made.
use Rattle.rdm_log.proofs.Common.{◌≡◌, List, [], ◌∷◌, ◌++◌, Some, None, sym, subst, append-nil, append_assoc, ◌∙◌}
use Rattle.rdm_log.proofs.Common.{EachAfter, EachAfter-push, Entry, LogState, grown, with_entries}
use Rattle.rdm_log.proofs.Common.{FaultNeedsClose, AnswersInBound, Legal, inl, inr}
use Rattle.rdm_log.specs.declared.entry.Entry.TheVariants as entries
use Rattle.rdm_log.specs.promises.LogInBound.{InBound}
use Rattle.rdm_log.proofs.PromiseLemmas.Promises.{promised}
use Rattle.rdm_log.specs.promises.Promised.{Promised}
use Rattle.rdm_wire.proofs.EachAfterLemmas.{no_element}

-- what is asked of an entry after these
abbrev BoundAt : LogState → List Entry → Entry → Type 0
BoundAt k h e = FaultNeedsClose (with_entries k h) e

-- said of each entry
each_of : (k : LogState) → InBound k → EachAfter (BoundAt k) k.entries
each_of k is front back (entries.Answer n r (Some fault)) at =
    λ present run. elim run [
      | inl calm ↦ is.closed_first front back n r fault present at calm
      | inr noisy ↦ is.closed_first_in_noise front back n r fault present noisy.0 at noisy.1
    ]
each_of k is front back (entries.Answer n r None) at = tt
each_of k is front back (entries.Join c n) at = tt
each_of k is front back (entries.Refuse c call cause) at = tt
each_of k is front back (entries.Accept c n request) at = tt
each_of k is front back (entries.Ask c n kind) at = tt
each_of k is front back (entries.Send owner frame) at = tt
each_of k is front back (entries.Came event) at = tt
each_of k is front back (entries.Finish n status len) at = tt
each_of k is front back (entries.Collect c) at = tt
each_of k is front back entries.Pause at = tt
each_of k is front back entries.Resume at = tt
each_of k is front back entries.Close at = tt

of_each : (k : LogState) → EachAfter (BoundAt k) k.entries → InBound k
of_each k each = record {
  closed_first =
      λ front back n r fault present at calm. each front back (entries.Answer n r (Some fault)) at present (inl calm);
  closed_first_in_noise = λ front back n r fault present w at noisy.
      each front back (entries.Answer n r (Some fault)) at present (inr (w, noisy));
}

each_block : (k : LogState) (block : List Entry) → EachAfter (BoundAt k) k.entries → AnswersInBound k block
    → EachAfter (BoundAt k) (k.entries ++ block)
each_block k [] each all = subst (EachAfter (BoundAt k)) (sym (append-nil k.entries)) each
each_block k (e ∷ block) each all =
    subst (EachAfter (BoundAt k)) (append_assoc k.entries (e ∷ []) block)
    (each_block (grown k (e ∷ [])) block (EachAfter-push (BoundAt k) k.entries e each all.0) all.1)

-- an empty log is in bound
pub empty_in_bound : (k : LogState) → k.entries ≡ [] → InBound k
empty_in_bound k empty = record {
  closed_first =
      λ front back n r fault
      present at calm. absurd (no_element front back (entries.Answer n r (Some fault)) (sym empty ∙ at));
  closed_first_in_noise = λ front back n r fault present w at noisy.
      absurd (no_element front back (entries.Answer n r (Some fault)) (sym empty ∙ at));
}

-- so is a log that grew by a block whose Answers are
pub in_bound_grows : (k : LogState) (block : List Entry) → InBound k → AnswersInBound k block → InBound (grown k block)
in_bound_grows k block is all = of_each (grown k block) (each_block k block (each_of k is) all)

-- all that is promised of the log of a session
pub promised_in_bound : (k : LogState) → Legal k.opening k.entries → InBound k → Promised k
promised_in_bound k legal bound = record { log = promised k.opening k.entries legal; in_bound = bound }
