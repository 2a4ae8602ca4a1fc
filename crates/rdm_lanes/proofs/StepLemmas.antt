-- What each call of a session leaves of the line, and of the other clients.
use Rattle.rdm_lanes.proofs.Common.{◌≡◌, ◌≢◌, ℕ, Bool, true, false, List, [], ◌∷◌, ◌++◌, Some, None, Result, refl, ap}
use Rattle.rdm_lanes.proofs.Common.{subst, append-nil, ◌==◌, AllByRecursion, ClientId, Entry, Collect, WorkFault}
use Rattle.rdm_lanes.proofs.Common.{LogFull, EachAfter, join_of, answered_of, is_closed, LogState, grown, Legal}
use Rattle.rdm_lanes.proofs.Common.{MayFollow, GrowsBy, Work, WorkLogs, PauseLogs, ResumeLogs, CloseAdds}
use Rattle.rdm_lanes.proofs.Common.{CloseAddsWhere, CollectAdds, NoExchange, OnlyCollects, SameSwitches, IsBetweenTurns}
use Rattle.rdm_lanes.proofs.Common.{IsOnlyTold, views_found}
use Rattle.std.proofs.lemmas.Bool.{ne_eqb}
use Rattle.rdm_log.specs.declared.work.Work.TheVariants.{Submit, Discover}
use Rattle.rdm_log.specs.declared.outcome.Outcome.{Outcome}
use Rattle.rdm_log.specs.declared.event.Event.{Event}
use Rattle.rdm_log.specs.declared.event.Event.TheVariants as events
use Rattle.rdm_log.specs.declared.event.Answer.{Answer as EventAnswer}
use Rattle.rdm_log.specs.declared.event.Answer.TheVariants as answers
use Rattle.rdm_log.specs.promises.Explains.{Adds}
use Rattle.rdm_log.proofs.PromiseLemmas.EntriesOf.{EachOf, EachOfWork, adds_each, work_each}
use Rattle.rdm_lanes.proofs.ListLemmas.{all_follow}
use Rattle.rdm_lanes.proofs.GrowthLemmas.{touches}
use Rattle.rdm_lanes.proofs.LaneLemmas.{waits}
use Rattle.rdm_lanes.proofs.FoundLemmas.{quiet_views, close_views}
use Rattle.rdm_lanes.proofs.LineLemmas.{AllOffLine, is_off_line, is_switch, line_off, switches_stay, served_off}
use Rattle.rdm_lanes.proofs.LineLemmas.{AllRightly, is_refusal, rightly_without}

-- A step of a session by entries that are not of the line. Nobody joins, and these clients do nothing.
pub record IsQuietStep (Waits : ℕ → Type 0) (old new : LogState) : Type 0 where
  pub served : IsBetweenTurns old → IsBetweenTurns new
  pub line : NoExchange old new
  pub wait : (c : ℕ) → Waits c → IsOnlyTold c old new

-- an entry of such a step, and one that answers nothing
abbrev IsOff : (ℕ → Type 0) → Entry → Type 0
IsOff Waits e = (is_off_line e ≡ true) × (join_of e ≡ None) × ((c : ℕ) → Waits c → touches c e ≡ false)

abbrev IsQuiet : (ℕ → Type 0) → Entry → Type 0
IsQuiet Waits e = IsOff Waits e × (answered_of e ≡ None)

off_step : (Waits : ℕ → Type 0) (old new : LogState) (block : List Entry) → new ≡ grown old block
    → Legal new.opening new.entries → AllByRecursion (IsOff Waits) block → AllRightly old.opening old.entries block
    → views_found (old.entries ++ block) ≡ views_found old.entries → IsQuietStep Waits old new
off_step Waits old new block is legal all rightly views = record {
  served = served_off old new block is off rightly;
  line = line_off old new block is off (all_follow (IsOff Waits) (λ e. join_of e ≡ None) (λ e off. off.1) block all)
      views;
  wait = λ c apart. waits c old new block is legal
      (all_follow (IsOff Waits) (λ e. touches c e ≡ false) (λ e off. off.2 c apart) block all);
}
  where
    off : AllOffLine block
    off = all_follow (IsOff Waits) (λ e. is_off_line e ≡ true) (λ e off. off.0) block all

quiet_step : (Waits : ℕ → Type 0) (old new : LogState) (block : List Entry) → new ≡ grown old block
    → Legal new.opening new.entries → AllByRecursion (IsQuiet Waits) block → AllRightly old.opening old.entries block
    → IsQuietStep Waits old new
quiet_step Waits old new block is legal all rightly =
    let off = all_follow (IsQuiet Waits) (IsOff Waits) (λ e quiet. quiet.0) block all in
    off_step Waits old new block is legal off rightly
    (quiet_views old.entries block (all_follow (IsOff Waits) (λ e. is_off_line e ≡ true) (λ e off. off.0) block off)
    (all_follow (IsQuiet Waits) (λ e. answered_of e ≡ None) (λ e quiet. quiet.1) block all))

-- a step of the operator, in which each client waits
abbrev pub AllWait : ℕ → Type 0
AllWait c = Unit {0}

-- a pause and a resume
switch_step : (old new : LogState) (event : Event) (r : EventAnswer) → GrowsBy old (Adds old event r) new
    → Legal new.opening new.entries → EachOf event (IsQuiet AllWait) → EachOf event (λ e. is_refusal e ≡ false)
    → IsQuietStep AllWait old new
switch_step old new event r g legal quiet rightly =
    quiet_step AllWait old new g.block g.grows legal (adds_each (IsQuiet AllWait) old event r g.block quiet g.adds)
    (rightly_without old.opening old.entries g.block
    (adds_each (λ e. is_refusal e ≡ false) old event r g.block rightly g.adds))

pub pauses : (old new : LogState) (r : Result (Unit {0}) LogFull) → GrowsBy old (PauseLogs old r) new
    → Legal new.opening new.entries → IsQuietStep AllWait old new
pauses old new r g legal =
    switch_step old new events.Pause (answers.Pause r) g legal ((refl, refl, λ c all. refl), refl) refl

pub resumes : (old new : LogState) (r : Result (Unit {0}) LogFull) → GrowsBy old (ResumeLogs old r) new
    → Legal new.opening new.entries → IsQuietStep AllWait old new
resumes old new r g legal =
    switch_step old new events.Resume (answers.Resume r) g legal ((refl, refl, λ c all. refl), refl) refl

-- a close
views_close : (b : Bool) (old : LogState) (block : List Entry) → CloseAddsWhere b block
    → EachAfter (MayFollow old.opening) (old.entries ++ block)
    → views_found (old.entries ++ block) ≡ views_found old.entries
views_close true old block adds each = rw adds (ap views_found (append-nil old.entries))
views_close false old block adds each =
    rw adds.whole (close_views old.opening old.entries adds.results (rw adds.whole at each) adds.each)

pub closes : (old new : LogState) → GrowsBy old (CloseAdds old.opening old.entries) new → Legal new.opening new.entries
    → IsQuietStep AllWait old new
closes old new g legal =
    off_step AllWait old new g.block g.grows legal
    (adds_each (IsOff AllWait) old events.Close answers.Close g.block off g.adds)
    (rightly_without old.opening old.entries g.block
    (adds_each (λ e. is_refusal e ≡ false) old events.Close answers.Close g.block
    (refl, (λ n status len. refl, λ n run fault. refl)) g.adds))
    (views_close (is_closed old.opening old.entries) old g.block g.adds
    (subst (λ (k : LogState). EachAfter (MayFollow k.opening) k.entries) g.grows legal.each))
  where
    off : EachOf events.Close (IsOff AllWait)
    off = (
      (refl, refl, λ c all. refl),
      (λ n status len. (refl, refl, λ c all. refl), λ n run fault. (refl, refl, λ c all. refl)),
    )

-- a step of client d, in which each other client waits
abbrev pub Others : ClientId → ℕ → Type 0
Others d c = c ≢ d.0

other_client : (d : ClientId) (c : ℕ) → c ≢ d.0 → (c == d.0) ≡ false
other_client d c apart = ne_eqb c d.0 apart

-- its work pauses, resumes and closes nothing
abbrev IsOfWork : ClientId → Entry → Type 0
IsOfWork d e = IsQuiet (Others d) e × (is_switch e ≡ false)

pub record IsWorkStep (d : ClientId) (old new : LogState) : Type 0 where
  pub quiet : IsQuietStep (Others d) old new
  pub switches : SameSwitches old new

of_work : (d : ClientId) (work : Work) → EachOfWork d work (IsOfWork d)
of_work d (Submit request) =
    (λ n. (((refl, refl, other_client d), refl), refl), λ fault. (((refl, refl, other_client d), refl), refl))
of_work d (Discover kind) =
    (λ n. (((refl, refl, other_client d), refl), refl), λ fault. (((refl, refl, other_client d), refl), refl))

pub works : (old new : LogState) (d : ClientId) (work : Work) (r : Result ℕ WorkFault)
    → (g : GrowsBy old (WorkLogs old d work r) new) → Legal new.opening new.entries
    → AllRightly old.opening old.entries g.block → IsWorkStep d old new
works old new d work r g legal rightly =
    let all = work_each (IsOfWork d) old d work r g.block (of_work d work) g.adds in
    record {
      quiet = quiet_step (Others d) old new g.block g.grows legal
          (all_follow (IsOfWork d) (IsQuiet (Others d)) (λ e of. of.0) g.block all) rightly;
      switches = switches_stay old new g.block g.grows
          (all_follow (IsOfWork d) (λ e. is_switch e ≡ false) (λ e of. of.1) g.block all);
    }

-- a collect of client d that gives an outcome
pub collects : (old new : LogState) (d : ClientId) (outcome : Outcome)
    → GrowsBy old (CollectAdds old.opening old.entries d (Some outcome)) new → OnlyCollects old new
collects old new d outcome g = record { block = Collect d ∷ []; each = (refl, tt); grows = rw g.adds.1 at g.grows }

pub collect_step : (old new : LogState) (d : ClientId) (outcome : Outcome)
    → GrowsBy old (CollectAdds old.opening old.entries d (Some outcome)) new → Legal new.opening new.entries
    → IsQuietStep (Others d) old new
collect_step old new d outcome g legal =
    quiet_step (Others d) old new (Collect d ∷ []) (rw g.adds.1 at g.grows) legal
    (((refl, refl, other_client d), refl), tt) (tt, tt)
