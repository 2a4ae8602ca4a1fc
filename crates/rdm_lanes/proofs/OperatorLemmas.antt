-- How the pauses, resumes and closes in a log follow the operator's calls.
use Rattle.rdm_lanes.proofs.Common.{◌≡◌, Bool, true, false, true≢false, List, [], ◌∷◌, ◌++◌, Some, Result, Ok, Err}
use Rattle.rdm_lanes.proofs.Common.{fold, filter_map, refl, sym, ap, ◌∙◌, append-nil, append_assoc, not, if◌then◌else◌}
use Rattle.rdm_lanes.proofs.Common.{AllByRecursion, fold-append, filter_map-append, Opening, Entry, LogFull, is_closed}
use Rattle.rdm_lanes.proofs.Common.{is_paused, can_pause, can_resume, LogState, grown, is_full_log, Legal, GrowsBy}
use Rattle.rdm_lanes.proofs.Common.{PauseLogs, ResumeLogs, CloseAdds, CloseAddsWhere, is_result, OperatorCall}
use Rattle.rdm_lanes.proofs.Common.{SameSwitches, switch_of, switches, effective, IsOperated}
use Rattle.rdm_log.specs.declared.entry.Entry.TheVariants as entries
use Rattle.rdm_log.specs.log.History.{closed_after, paused_after}
use Rattle.rdm_lanes.specs.declared.call.OperatorCall.TheVariants.{Pause, Resume, Close, Leave}
use Rattle.rdm_lanes.specs.Operators.{paused_by, closed_by, with_call}
use Rattle.rdm_lanes.specs.body.Operated.{IsOperatorStep}
use Rattle.rdm_lanes.proofs.LineLemmas.{results_no_switch, switches_off, line_same}
use Rattle.rdm_lanes.proofs.LaneLemmas.{waits_same}
use Rattle.rdm_lanes.proofs.StepLemmas.{IsQuietStep, AllWait, pauses, resumes, closes}

-- a call more
pub effective_more : (calls : List OperatorCall) (call : OperatorCall)
    → effective (calls ++ call ∷ []) ≡ with_call (effective calls) call
unfolding effective
effective_more calls call = fold-append with_call [] calls (call ∷ [])

-- whether a session is paused or closed, by its entries and by its switches
paused_same : (b : Bool) (h : List Entry) → fold paused_after b h ≡ fold paused_by b (filter_map switch_of h)
paused_same b [] = refl
paused_same b (entries.Pause ∷ h) = paused_same true h
paused_same b (entries.Resume ∷ h) = paused_same false h
paused_same b (_ ∷ h) = paused_same b h

closed_same : (b : Bool) (h : List Entry) → fold closed_after b h ≡ fold closed_by b (filter_map switch_of h)
closed_same b [] = refl
closed_same b (entries.Close ∷ h) = closed_same true h
closed_same b (_ ∷ h) = closed_same b h

paused_is : (o : Opening) (h : List Entry) → o.paused ≡ false → is_paused o h ≡ fold paused_by false (switches h)
unfolding is_paused switches
paused_is o h none = ap (λ (b : Bool). fold paused_after b h) none ∙ paused_same false h

closed_is : (o : Opening) (h : List Entry) → o.closed ≡ false → is_closed o h ≡ fold closed_by false (switches h)
unfolding is_closed switches
closed_is o h none = ap (λ (b : Bool). fold closed_after b h) none ∙ closed_same false h

-- an entry that switches, if it is added
switch_added : (b : Bool) (h block : List Entry) (e : Entry) (call : OperatorCall) → switch_of e ≡ Some call
    → block ≡ (if b then e ∷ [] else []) → switches (h ++ block) ≡ (if b then switches h ++ call ∷ [] else switches h)
unfolding switches
switch_added true h block e call is added = rw added (filter_map-append switch_of h (e ∷ []) ∙ rw is refl)
switch_added false h block e call is added = rw added (ap switches (append-nil h))

-- the log grew by what the call adds
operated_grown : (call : OperatorCall) (old new : LogState) (block : List Entry) (calls : List OperatorCall)
    → new ≡ grown old block → switches (old.entries ++ block) ≡ with_call (switches old.entries) call
    → IsOperated old calls → IsOperated new (calls ++ call ∷ [])
operated_grown call old new block calls is added op = rw is (record {
  not_paused = op.not_paused;
  not_closed = op.not_closed;
  switched = added ∙ ap (λ (done : List OperatorCall). with_call done call) op.switched
      ∙ sym (effective_more calls call);
})

pause_adds : (k : LogState) (r : Result (Unit {0}) LogFull) (block : List Entry) → is_full_log k ≡ false
    → k.opening.paused ≡ false → k.opening.closed ≡ false → PauseLogs k r block
    → switches (k.entries ++ block) ≡ with_call (switches k.entries) Pause
pause_adds k (Ok x) block free not_paused not_closed adds =
    switch_added (can_pause k.opening k.entries) k.entries block entries.Pause Pause refl adds.1
    ∙ ap (λ (b : Bool). if b then switches k.entries ++ Pause ∷ [] else switches k.entries)
    (rw (paused_is k.opening k.entries not_paused, closed_is k.opening k.entries not_closed) refl)
pause_adds k (Err x) block free not_paused not_closed adds = absurd (true≢false (sym adds.0 ∙ free))

resume_adds : (k : LogState) (r : Result (Unit {0}) LogFull) (block : List Entry) → is_full_log k ≡ false
    → k.opening.paused ≡ false → k.opening.closed ≡ false → ResumeLogs k r block
    → switches (k.entries ++ block) ≡ with_call (switches k.entries) Resume
resume_adds k (Ok x) block free not_paused not_closed adds =
    switch_added (can_resume k.opening k.entries) k.entries block entries.Resume Resume refl adds.1
    ∙ ap (λ (b : Bool). if b then switches k.entries ++ Resume ∷ [] else switches k.entries)
    (rw (paused_is k.opening k.entries not_paused, closed_is k.opening k.entries not_closed) refl)
resume_adds k (Err x) block free not_paused not_closed adds = absurd (true≢false (sym adds.0 ∙ free))

close_adds : (b : Bool) (h block : List Entry) → CloseAddsWhere b block
    → switches (h ++ block) ≡ (if not b then switches h ++ Close ∷ [] else switches h)
close_adds true h block adds = rw adds (ap switches (append-nil h))
close_adds false h block adds = rw adds.whole (closes_with h adds.results adds.each)
  where
    closes_with : (h results : List Entry) → AllByRecursion (λ e. is_result e ≡ true) results
        → switches (h ++ entries.Close ∷ results) ≡ switches h ++ Close ∷ []
    closes_with h results all =
        ap switches (sym (append_assoc h (entries.Close ∷ []) results))
        ∙ switches_off (h ++ entries.Close ∷ []) results (results_no_switch results all)
        ∙ switch_added true h (entries.Close ∷ []) entries.Close Close refl refl

-- the four calls
operator_step : (call : OperatorCall) (old new : LogState) (block : List Entry) → new ≡ grown old block
    → IsQuietStep AllWait old new
    → (old.opening.paused ≡ false → old.opening.closed ≡ false
    → switches (old.entries ++ block) ≡ with_call (switches old.entries) call) → IsOperatorStep call old new
operator_step call old new block is step added = record {
  served = step.served;
  line = step.line;
  wait = λ c. step.wait c tt;
  operated = λ calls op. operated_grown call old new block calls is (added op.not_paused op.not_closed) op;
}

pub pause_step : (old new : LogState) (r : Result (Unit {0}) LogFull) → is_full_log old ≡ false
    → GrowsBy old (PauseLogs old r) new → Legal new.opening new.entries → IsOperatorStep Pause old new
pause_step old new r free g legal =
    operator_step Pause old new g.block g.grows (pauses old new r g legal)
    (λ not_paused not_closed. pause_adds old r g.block free not_paused not_closed g.adds)

pub resume_step : (old new : LogState) (r : Result (Unit {0}) LogFull) → is_full_log old ≡ false
    → GrowsBy old (ResumeLogs old r) new → Legal new.opening new.entries → IsOperatorStep Resume old new
resume_step old new r free g legal =
    operator_step Resume old new g.block g.grows (resumes old new r g legal)
    (λ not_paused not_closed. resume_adds old r g.block free not_paused not_closed g.adds)

pub close_step : (old new : LogState) → GrowsBy old (CloseAdds old.opening old.entries) new
    → Legal new.opening new.entries → IsOperatorStep Close old new
close_step old new g legal =
    operator_step Close old new g.block g.grows (closes old new g legal)
    (λ not_paused not_closed. close_adds (is_closed old.opening old.entries) old.entries g.block g.adds
    ∙ ap (λ (b : Bool). if not b then switches old.entries ++ Close ∷ [] else switches old.entries)
    (closed_is old.opening old.entries not_closed))

pub leave_step : (k : LogState) → IsOperatorStep Leave k k
leave_step k = record {
  served = λ s. s;
  line = line_same k;
  wait = λ c. waits_same c k;
  operated = λ calls op. record {
    not_paused = op.not_paused;
    not_closed = op.not_closed;
    switched = op.switched ∙ sym (effective_more calls Leave);
  };
}

-- where nobody pauses, resumes or closes
pub operated_stays : (old new : LogState) (block : List Entry) (calls : List OperatorCall) → new ≡ grown old block
    → SameSwitches old new → IsOperated old calls → IsOperated new calls
operated_stays old new block calls is same op = record {
  not_paused = ap (λ (k : LogState). k.opening.paused) is ∙ op.not_paused;
  not_closed = ap (λ (k : LogState). k.opening.closed) is ∙ op.not_closed;
  switched = same.switches_are ∙ op.switched;
}
