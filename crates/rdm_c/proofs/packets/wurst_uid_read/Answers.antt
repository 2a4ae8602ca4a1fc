use Rattle.std.proofs.Common.{◌≡◌, ℕ, Ok, Err, inl, inr, refl, ◌∙◌}
use Rattle.std.specs.Prelude.{Result, ◌⊎◌}
use Rattle.rdm_handles.specs.Packets.{uid_fault_status}
use Rattle.rdm_handles.specs.declared.status.TheConstants as status
use Rattle.rdm_wire.specs.UidText.{UidText}
use Rattle.rdm_wire.specs.declared.uid.UidFault.{UidFault}
use Rattle.rdm_wire.specs.declared.uid.UidFault.TheVariants as texts
use Rattle.rdm_c.proofs.packets.wurst_uid_read.Goals as goal

pub returns-in-Ok-parse-clause-all : goal.returns-in-Ok-parse-clause-all
returns-in-Ok-parse-clause-all c u utf8 text =
    let reads : UidText c.in-Ok.text.now u = rw c.in-Ok.ensures.cases.0 text in
    let is : ◌≡◌ {A = Result ℕ UidFault} (Ok c.in-Ok-parse.read) (Ok u) = (c.in-Ok-parse.ensures.ok u).1 reads in
    let same : c.in-Ok-parse.read ≡ u = cc in
    (refl, c.number.ensures.value ∙ same)

pub returns-in-Err-clause-all : goal.returns-in-Err-clause-all
returns-in-Err-clause-all c u utf8 text = absurd (no ((c.in-Err.ensures.ok u).1 (rw c.in-Ok.ensures.cases.0 text)))
  where
    no : ◌≡◌ {A = Result ℕ UidFault} (Err c.in-Err.fault) (Ok u) → ⊥
    no is = cc

pub returns-in-Err-clause-statuses : goal.returns-in-Err-clause-statuses
returns-in-Err-clause-statuses c = named c.in-Err.fault c.status_of_text.result c.status_of_text.ensures
  where
    named : (f : UidFault) (s : ℕ) → s ≡ uid_fault_status f → (s ≡ status.DONE)
        ⊎ ((s ≡ status.NOT_TEXT) ⊎ ((s ≡ status.UID_LENGTH) ⊎ ((s ≡ status.UID_SEPARATOR) ⊎ (s ≡ status.UID_DIGIT))))
    named texts.Length s is = inr (inr (inl is))
    named texts.Separator s is = inr (inr (inr (inl is)))
    named texts.Digit s is = inr (inr (inr (inr is)))
