-- How an agent stands after a list of exchanges, call by call.
use Rattle.rdm_agent.proofs.Common.{◌≡◌, ℕ, ◌≤◌, Bool, true, false, cond, List, [], ◌∷◌, ◌++◌, length, Option, Some}
use Rattle.rdm_agent.proofs.Common.{None, refl, sym, ap, ◌∙◌, subst, true≢false, arith, ◌≢◌, nat_lt, MatchOption}
use Rattle.rdm_agent.proofs.Common.{IfNone, IfSome, has, IsDevice, Asked, Heard, Seen, HonestTrace, HonestTo}
use Rattle.rdm_agent.proofs.Common.{NoisyTrace, NoisyTo}
use Rattle.rdm_agent.proofs.Common.{HonestOver, Unmute, Branch, Mute, Other, asked_by, heard_by, seen_op, Certificate}
use Rattle.rdm_agent.proofs.Common.{Cause, EndsFailed, Phase, AgentState, Runs, start_by, next_of, wanted, fed}
use Rattle.rdm_agent.proofs.Common.{fault_of, found_uids, Unmuting, MutingKnown, Searching, MutingRead, Sweeping}
use Rattle.rdm_agent.proofs.Common.{MutingSwept, Ended, IsInOrder, IsInEach, IsInOne, op_of, next_op, HasRunBy, Kind}
use Rattle.rdm_agent.proofs.Common.{Search, AgentFault, TooMany, Exhausted, LineFailed, Op, End, OpReply}
use Rattle.rdm_agent.proofs.Common.{Checking, MutingStray}
use Rattle.rdm_agent.specs.Run.{IsReport}
use Rattle.rdm_agent.specs.Calls.{fits, ended_by_abort}
use Rattle.rdm_agent.specs.declared.fault.AgentFault.TheVariants.{Corrupt, Aborted}
use Rattle.rdm_agent.specs.declared.op.OpReply.TheVariants.{Done, Mute as Muted, Garbled, Branch as Branched, Failed}
use Rattle.rdm_agent.proofs.BadLemmas.{WereBad}
use Rattle.rdm_agent.proofs.Runs.{bad_by, asks_in_order_by, ends_at_failure_by, ends_at_budget_by, ends_certified_by}
use Rattle.rdm_agent.proofs.Runs.{finds_acknowledged_by}
use Rattle.rdm_wire.proofs.NoisyLemmas.{honest_is_noisy, honest_to_is_noisy}
use Rattle.rdm_agent.proofs.HonestRuns.{finds_all_in_noise_by, finds_each_in_noise_by, finds_no_phantom_in_noise_by}
use Rattle.rdm_agent.proofs.HonestRuns.{finds_staying_by, finds_no_stranger_by}

-- P holds of each run that the agent may stand after, part by part
abbrev pub OfEach : Search → AgentState → (Kind → List ℕ → ℕ → Bool → List Seen → Type 0) → Type 0
OfEach search a P =
    (kind : Kind) (known : List ℕ) (budget : ℕ) (aborted : Bool) (x : List Seen)
    → HasRunBy search kind known budget aborted x a → P kind known budget aborted x

-- what an operation that isn't the end asks
asked_op : (o : Option Asked) → op_of o ≢ End → o ≡ Some (asked_by (op_of o))
asked_op None goes = absurd (goes refl)
asked_op (Some Unmute) goes = refl
asked_op (Some (Branch lo hi)) goes = refl
asked_op (Some (Mute u)) goes = refl
asked_op (Some Other) goes = absurd (goes refl)

pub next_asked : (a : AgentState) → next_op a ≢ End → next_of a ≡ Some (asked_by (next_op a))
next_asked a goes = asked_op (next_of a) goes

-- at the end nothing is asked
wanted_none : (phase : Phase) → op_of (wanted phase) ≡ End → wanted phase ≡ None
wanted_none (Unmuting more known) end = cc
wanted_none (MutingKnown u tries spare known) end = cc
wanted_none (Searching silences bads spent top below) end = cc
wanted_none (MutingRead u tries spare bads top below) end = cc
wanted_none (Sweeping sweep) end = cc
wanted_none (MutingSwept u tries spare sweep) end = cc
wanted_none (Checking u silences sweep) end = cc
wanted_none (MutingStray u tries spare sweep) end = cc
wanted_none (Ended fault) end = refl

pub next_none : (a : AgentState) → next_op a ≡ End → next_of a ≡ None
next_none a end = by_test (nat_lt a.frames a.budget) end
  where
    by_test : (b : Bool) → op_of (cond b (wanted a.phase) None) ≡ End → cond b (wanted a.phase) None ≡ None
    by_test true e = wanted_none a.phase e
    by_test false e = refl

pub aborted_ends : (a : AgentState) → next_op (ended_by_abort a) ≡ End
aborted_ends a = by_test (nat_lt a.frames a.budget)
  where
    by_test : (b : Bool) → op_of (cond b None None) ≡ End
    by_test true = refl
    by_test false = refl

-- one more exchange
pub runs-push : (x : List Seen) (a b : AgentState) (asked : Asked) (heard : Heard) → Runs a x b → next_of b ≡ Some asked
    → Runs a (x ++ record { asked = asked; heard = heard } ∷ []) (fed b heard)
runs-push [] a b asked heard run next = (subst (λ c. next_of c ≡ Some asked) run next, ap (λ c. fed c heard) run)
runs-push (e ∷ x) a b asked heard run next = (run.0, runs-push x (fed a e.heard) b asked heard run.1 next)

-- nothing fits the end
fits_goes : (reply : OpReply) (op : Op) → fits reply op ≡ true → op ≢ End
fits_goes reply op fitting end = never reply (subst (λ o. fits reply o ≡ true) end fitting)
  where
    never : (r : OpReply) → fits r End ≡ true → ⊥
    never Done e = true≢false (sym e)
    never (Muted ack) e = true≢false (sym e)
    never Garbled e = true≢false (sym e)
    never (Branched reply) e = true≢false (sym e)
    never Failed e = true≢false (sym e)

-- an agent that wasn't aborted has run
pub runs-own : {search : Search} (kind : Kind) (known : List ℕ) (budget : ℕ) (x : List Seen) (a : AgentState)
    → HasRunBy search kind known budget false x a → Runs (start_by search kind known budget) x a
runs-own {search} kind known budget x a s = subst (λ b. Runs (start_by search kind known budget) x b) (sym s.is) s.runs

-- what was asked next is answered
pub hears-has_run : {search : Search} (a b : AgentState) (e : Seen) → next_of a ≡ Some e.asked → b ≡ fed a e.heard
    → OfEach search a (λ kind known budget aborted x. HasRunBy search kind known budget false (x ++ e ∷ []) b)
hears-has_run {search} a b e next is kind known budget false x s = record {
  devices = s.devices;
  before = fed a e.heard;
  runs = runs-push x (start_by search kind known budget) a e.asked e.heard (runs-own kind known budget x a s) next;
  is = is;
}
hears-has_run {search} a b e next is kind known budget true x s =
    absurd (some_none (sym next ∙ next_none a (rw s.is.1 (aborted_ends s.before))))
  where
    some_none : Some e.asked ≡ None → ⊥
    some_none never = cc

pub feed-stands : {search : Search} (a b : AgentState) (reply : OpReply) → fits reply (next_op a) ≡ true
    → b ≡ fed a (heard_by reply) → OfEach search a
    (λ kind known budget aborted x. HasRunBy search kind known budget false (x ++ seen_op (next_op a, reply) ∷ []) b)
feed-stands a b reply fitting is =
    hears-has_run a b (seen_op (next_op a, reply)) (next_asked a (fits_goes reply (next_op a) fitting)) is

-- what is asked stands in order
pub next-in_order : {search : Search} (a : AgentState)
    → OfEach search a (λ kind known budget aborted x. next_op a ≢ End → IsInOrder (length x) (asked_by (next_op a)))
next-in_order {search} a kind known budget false x s goes =
    subst (λ o. MatchOption o (Unit {0}) (IsInOrder (length x))) (next_asked a goes)
    (asks_in_order_by search kind known budget x a s.devices (runs-own kind known budget x a s)).0
next-in_order {search} a kind known budget true x s goes = absurd (goes (rw s.is.1 (aborted_ends s.before)))

pub none_ends : (a : AgentState) → next_of a ≡ None → next_op a ≡ End
none_ends a none = ap op_of none

pub next-in_budget : {search : Search} (a : AgentState)
    → OfEach search a (λ kind known budget aborted x. length x ≡ budget → next_op a ≡ End)
next-in_budget {search} a kind known budget false x s full =
    none_ends a (ends_at_budget_by search kind known budget x a s.devices (runs-own kind known budget x a s) full)
next-in_budget {search} a kind known budget true x s full = rw s.is.1 (aborted_ends s.before)

pub next-failed : {search : Search} (a : AgentState)
    → OfEach search a (λ kind known budget aborted x. EndsFailed x → next_op a ≡ End)
next-failed {search} a kind known budget false x s failed =
    none_ends a ((ends_at_failure_by search kind known budget x a s.devices (runs-own kind known budget x a s)).1
    failed)
next-failed {search} a kind known budget true x s failed = rw s.is.1 (aborted_ends s.before)

pub frames-counted : {search : Search} (a : AgentState)
    → OfEach search a (λ kind known budget aborted x. (a.frames ≡ length x) × (a.frames ≤ budget))
frames-counted {search} a kind known budget false x s =
    let all = asks_in_order_by search kind known budget x a s.devices (runs-own kind known budget x a s) in
    let is : a.frames ≡ length x = all.1 in let most : length x ≤ budget = all.2 in (is, omega arith)
frames-counted {search} a kind known budget true x s =
    let all = asks_in_order_by search kind known budget x s.before s.devices s.runs in
    let is : a.frames ≡ length x = rw s.is.1 all.1 in let most : length x ≤ budget = all.2 in (is, omega arith)

-- a run that was aborted has that fault
aborted-fault : (a before : AgentState) → a ≡ ended_by_abort before → fault_of a.phase ≡ Some Aborted
aborted-fault a before is = rw is refl

some_none : {f : AgentFault} (o : Option AgentFault) → o ≡ Some f → o ≡ None → ⊥
some_none o some none = cc

-- what is shown of an ended agent without fault
module _ (a : AgentState) (end : next_op a ≡ End) (no_fault : fault_of a.phase ≡ None) where
  pub end-certified : {search : Search}
      → OfEach search a (λ kind known budget aborted x. Certificate kind known x a.found × IsReport x a.found)
  end-certified {search} kind known budget false x s =
      let all = ends_certified_by search kind known budget x a s.devices (runs-own kind known budget x a s)
      (next_none a end) in (
        subst (λ o. MatchOption o (Certificate kind known x a.found)
            (λ f. Cause search budget ⊥ f x)) no_fault all.0,
        all.1,
      )
  end-certified {search} kind known budget true x s =
      absurd (some_none (fault_of a.phase) (aborted-fault a s.before s.is.1) no_fault)

  pub end-finds_all_in_noise : {search : Search}
      → OfEach search a
      (λ kind known budget aborted x. (present : List ℕ) → NoisyTrace present x → (found_uids a) ≡ present)
  end-finds_all_in_noise {search} kind known budget false x s present noisy =
      finds_all_in_noise_by search kind known budget x a s.devices (runs-own kind known budget x a s) present
      (next_none a end) no_fault noisy
  end-finds_all_in_noise {search} kind known budget true x s present noisy =
      absurd (some_none (fault_of a.phase) (aborted-fault a s.before s.is.1) no_fault)

  pub end-finds_all : {search : Search}
      → OfEach search a
      (λ kind known budget aborted x. (present : List ℕ) → HonestTrace present x → (found_uids a) ≡ present)
  end-finds_all kind known budget aborted x s present honest =
      end-finds_all_in_noise kind known budget aborted x s present (honest_is_noisy present x honest)

  pub end-finds_each_in_noise : {search : Search}
      → OfEach search a
      (λ kind known budget aborted x. (u : ℕ) → IsDevice u → NoisyTo u x → has (found_uids a) u ≡ true)
  end-finds_each_in_noise {search} kind known budget false x s u device noisy =
      finds_each_in_noise_by search kind known budget x a s.devices (runs-own kind known budget x a s) u
      (next_none a end) no_fault device noisy
  end-finds_each_in_noise {search} kind known budget true x s u device noisy =
      absurd (some_none (fault_of a.phase) (aborted-fault a s.before s.is.1) no_fault)

  pub end-finds_each : {search : Search}
      → OfEach search a
      (λ kind known budget aborted x. (u : ℕ) → IsDevice u → HonestTo u x → has (found_uids a) u ≡ true)
  end-finds_each kind known budget aborted x s u device honest =
      end-finds_each_in_noise kind known budget aborted x s u device (honest_to_is_noisy u x honest)

  pub end-finds_staying : {search : Search}
      → OfEach search a
      (λ kind known budget aborted x. (sets : List (List ℕ)) (u : ℕ) → HonestOver sets x → IsInEach u sets
      → has (found_uids a) u ≡ true)
  end-finds_staying {search} kind known budget false x s sets u honest each =
      finds_staying_by search kind known budget x a s.devices (runs-own kind known budget x a s) sets u
      (next_none a end) no_fault honest each
  end-finds_staying {search} kind known budget true x s sets u honest each =
      absurd (some_none (fault_of a.phase) (aborted-fault a s.before s.is.1) no_fault)

-- a cause's fact on the abort may be another
pub cause-more : (search : Search) (budget : ℕ) (P Q : Type 0) (f : AgentFault) (x : List Seen) → (P → Q)
    → Cause search budget P f x → Cause search budget Q f x
cause-more search budget P Q (Corrupt u) x more cause = cause
cause-more search budget P Q TooMany x more cause = cause
cause-more search budget P Q Exhausted x more cause = cause
cause-more search budget P Q LineFailed x more cause = cause
cause-more search budget P Q Aborted x more cause = (more cause.0, cause.1)

-- what is shown of an ended agent with a fault
module _ (a : AgentState) (end : next_op a ≡ End) (fault : AgentFault) (has_fault : fault_of a.phase ≡ Some fault) where
  pub end-caused : {search : Search}
      → OfEach search a
      (λ kind known budget aborted x. Cause search budget (aborted ≡ true) fault x × IsReport x a.found)
  end-caused {search} kind known budget false x s =
      let all = ends_certified_by search kind known budget x a s.devices (runs-own kind known budget x a s)
      (next_none a end) in
      let cause : Cause search budget ⊥ fault x = subst
      (λ o. MatchOption o (Certificate kind known x a.found) (λ f. Cause search budget ⊥ f x)) has_fault all.0 in
      (cause-more search budget ⊥ (false ≡ true) fault x (λ never. absurd never) cause, all.1)
  end-caused {search} kind known budget true x s =
      let is : Aborted ≡ fault = cc (has_fault, aborted-fault a s.before s.is.1) in
      let all = finds_acknowledged_by search kind known budget x s.before s.devices s.runs in
      (subst (λ f. Cause search budget (true ≡ true) f x) is (refl, all.1 going), rw s.is.1 all.0)
    where
      going : next_of s.before ≢ None
      going none = s.is.0 (none_ends s.before none)

-- the same by what the agent reports of its fault
pub fault-certified : {search : Search} (a : AgentState) → next_op a ≡ End → (o : Option AgentFault)
    → o ≡ fault_of a.phase → OfEach search a (λ kind known budget aborted x. IfNone o
    (Certificate kind known x a.found))
fault-certified a end None is kind known budget aborted x s =
    (end-certified a end (sym is) kind known budget aborted x s).0
fault-certified a end (Some fault) is kind known budget aborted x s = tt

pub fault-caused : {search : Search} (a : AgentState) → next_op a ≡ End → (o : Option AgentFault) → o ≡ fault_of a.phase
    → OfEach search a (λ kind known budget aborted x. IfSome o (λ f. Cause search budget (aborted ≡ true) f x))
fault-caused a end None is kind known budget aborted x s = tt
fault-caused a end (Some fault) is kind known budget aborted x s =
    (end-caused a end fault (sym is) kind known budget aborted x s).0

-- at any moment the devices found are the run's report
pub found-report : {search : Search} (a : AgentState)
    → OfEach search a (λ kind known budget aborted x. IsReport x a.found)
found-report {search} a kind known budget false x s =
    (finds_acknowledged_by search kind known budget x a s.devices (runs-own kind known budget x a s)).0
found-report {search} a kind known budget true x s =
    rw s.is.1 (finds_acknowledged_by search kind known budget x s.before s.devices s.runs).0

-- each UID that is set apart was answered badly
pub apart-answered : {search : Search} (a : AgentState)
    → OfEach search a (λ kind known budget aborted x. WereBad a.apart x)
apart-answered {search} a kind known budget false x s =
    bad_by search kind known budget x a s.devices (runs-own kind known budget x a s)
apart-answered {search} a kind known budget true x s =
    rw s.is.1 (bad_by search kind known budget x s.before s.devices s.runs)

pub found-present_in_noise : {search : Search} (a : AgentState)
    → OfEach search a (λ kind known budget aborted x. (present : List ℕ) (u : ℕ) → NoisyTrace present x
    → has (found_uids a) u ≡ true → has present u ≡ true)
found-present_in_noise {search} a kind known budget false x s present u noisy there =
    finds_no_phantom_in_noise_by search kind known budget x a s.devices (runs-own kind known budget x a s) present u
    noisy there
found-present_in_noise {search} a kind known budget true x s present u noisy there =
    finds_no_phantom_in_noise_by search kind known budget x s.before s.devices s.runs present u noisy
    (rw s.is.1 at there)

pub found-present : {search : Search} (a : AgentState)
    → OfEach search a (λ kind known budget aborted x. (present : List ℕ) (u : ℕ) → HonestTrace present x
    → has (found_uids a) u ≡ true → has present u ≡ true)
found-present a kind known budget aborted x s present u honest there =
    found-present_in_noise a kind known budget aborted x s present u (honest_is_noisy present x honest) there

pub found-no_stranger : {search : Search} (a : AgentState)
    → OfEach search a (λ kind known budget aborted x. (sets : List (List ℕ)) (u : ℕ) → HonestOver sets x
    → has (found_uids a) u ≡ true → IsInOne u sets)
found-no_stranger {search} a kind known budget false x s sets u honest there =
    finds_no_stranger_by search kind known budget x a s.devices (runs-own kind known budget x a s) sets u honest there
found-no_stranger {search} a kind known budget true x s sets u honest there =
    finds_no_stranger_by search kind known budget x s.before s.devices s.runs sets u honest (rw s.is.1 at there)
